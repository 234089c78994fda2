-- The pen after symbols, one list after another.
use Rattle.std.proofs.Common.{◌≡◌, ◌∙◌, refl, sym, ap, ℕ, List, [], ◌∷◌, ◌++◌, append_assoc}
use Rattle.std.specs.Prelude.{Result, OnOk}
use Rattle.py_language.specs.declared.token.Token.{Token}
use Rattle.py_language.specs.declared.token.Token.TheVariants as t
use Rattle.py_language.specs.declared.token.Mark.TheVariants as m
use Rattle.py_language.specs.declared.shape.Symbol.{Symbol}
use Rattle.py_language.specs.declared.shape.Symbol.TheVariants as s
use Rattle.py_printing.specs.SymbolTokens.{tokens, tokens_in}
use Rattle.py_printer.specs.declared.pen.Pen.{Pen}
use Rattle.py_printer.specs.Style.{put, write}
use Rattle.py_printer.specs.Expressions.{draw}
use Rattle.py_printer.proofs.Inks.{on_ok}

pub write-append : (p : Pen) (xs ys : List Token) → write p (xs ++ ys) ≡ write (write p xs) ys
write-append p [] ys = refl
write-append p (x ∷ xs) ys = write-append (put p x) xs ys

pub tokens-append : (xs ys : List Symbol) → tokens (xs ++ ys) ≡ tokens xs ++ tokens ys
tokens-append [] ys = refl
tokens-append (x ∷ xs) ys = ap (λ ts. tokens_in x ++ ts) (tokens-append xs ys) ∙ sym (append_assoc (tokens_in x) (tokens xs) (tokens ys))

pub draw-append : (p : Pen) (xs ys : List Symbol) → draw p (xs ++ ys) ≡ draw (draw p xs) ys
unfolding draw
draw-append p xs ys = ap (write p) (tokens-append xs ys) ∙ write-append p (tokens xs) (tokens ys)

pub draw-nil : (p : Pen) → p ≡ draw p []
unfolding draw
draw-nil p = refl

-- two steps are one
pub both : (p q r : Pen) (xs ys : List Symbol) → q ≡ draw p xs → r ≡ draw q ys → r ≡ draw p (xs ++ ys)
both p q r xs ys a b = b ∙ ap (λ z. draw z ys) a ∙ sym (draw-append p xs ys)

module _ {T E : Type 0} (r : Result T E) where
  -- the last step may be out of memory
  pub then_ok : (p q z : Pen) (xs ys whole : List Symbol) → q ≡ draw p xs → OnOk r (z ≡ draw q ys) → whole ≡ xs ++ ys → OnOk r (z ≡ draw p whole)
  then_ok p q z xs ys whole a b e = on_ok r z (draw q ys) (draw p whole) b (ap (λ y. draw y ys) a ∙ sym (draw-append p xs ys) ∙ ap (draw p) (sym e))

  pub same_ok : (p z : Pen) (xs whole : List Symbol) → OnOk r (z ≡ draw p xs) → whole ≡ xs → OnOk r (z ≡ draw p whole)
  same_ok p z xs whole b e = on_ok r z (draw p xs) (draw p whole) b (ap (draw p) (sym e))

  -- a token that is a symbol
  pub token_ok : (p z : Pen) (y : Token) (x : Symbol) → OnOk r (z ≡ put p y) → tokens_in x ≡ y ∷ [] → OnOk r (z ≡ draw p (x ∷ []))
  unfolding draw
  token_ok p z y x b e = on_ok r z (put p y) (write p (tokens_in x ++ [])) b (sym (ap (λ ts. write p (ts ++ [])) e))

pub token_drawn : (p z : Pen) (y : Token) (x : Symbol) → z ≡ put p y → tokens_in x ≡ y ∷ [] → z ≡ draw p (x ∷ [])
unfolding draw
token_drawn p z y x b e = b ∙ sym (ap (λ ts. write p (ts ++ [])) e)

-- a dot and a name
pub attribute_drawn : (p : Pen) (n : List ℕ) → put (put p (t.Mark m.Dot)) (t.Name n) ≡ draw p (s.Attribute n ∷ [])
unfolding draw
attribute_drawn p n = refl

pub method_drawn : (p : Pen) (n : List ℕ) → put (put p (t.Mark m.Dot)) (t.Name n) ≡ draw p (s.Method n ∷ [])
unfolding draw
method_drawn p n = refl
