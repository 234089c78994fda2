-- The pen after tokens, one list after another.
use Rattle.std.proofs.Common.{◌≡◌, refl, List, [], ◌∷◌, ◌++◌}
use Rattle.py_language.specs.declared.token.Token.{Token}
use Rattle.py_printer.specs.declared.pen.Pen.{Pen}
use Rattle.py_printer.specs.Style.{put, write}

pub write_append : (p : Pen) (xs ys : List Token) → write p (xs ++ ys) ≡ write (write p xs) ys
write_append p [] ys = refl
write_append p (x ∷ xs) ys = write_append (put p x) xs ys
