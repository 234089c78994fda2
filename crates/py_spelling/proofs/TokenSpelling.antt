-- Every token that a text can hold, and the lines that they make.
use Rattle.std.proofs.Common.{◌≡◌, true}
use Rattle.std.specs.Prelude.{ℤ, pos, negsuc}
use Rattle.py_language.specs.declared.token.Token.{Token}
use Rattle.py_language.specs.declared.token.Token.TheVariants as t
use Rattle.py_spelling.specs.Spelling.{is_sound, is_small}
use Rattle.py_spelling.proofs.WordSpelling.{Spelt, name_spelt, keyword_spelt}
use Rattle.py_spelling.proofs.MarkSpelling.{mark_spelt}
use Rattle.py_spelling.proofs.IntegerSpelling.{integer_spelt}
use Rattle.py_spelling.proofs.StringSpelling.{string_spelt}

small_spelt : (n : ℤ) → is_small n ≡ true → Spelt (t.Int n)
small_spelt (pos n) e = integer_spelt n e
small_spelt (negsuc n) e = absurd (cc)

pub spelt : (x : Token) → is_sound x ≡ true → Spelt x
spelt (t.Name n) e = name_spelt n e
spelt (t.Keyword k) e = keyword_spelt k
spelt (t.Int n) e = small_spelt n e
spelt (t.Str s) e = string_spelt s e
spelt (t.Mark m) e = mark_spelt m
