-- The brackets of tokens close in order, and only so many are open at once.
use Rattle.std.proofs.Common.{◌≡◌, ◌∙◌, ap, refl, ℕ, suc, ◌+◌, ◌≤◌, true, false, List, [], ◌∷◌, ◌++◌, length, append_assoc, arith}
use Rattle.std.specs.Prelude.{nat_lt}
use Rattle.std.proofs.lemmas.Bool.Decides.{nat_tests}
use Rattle.py_language.specs.declared.token.Mark.TheVariants as m
use Rattle.py_language.specs.declared.token.Token.{Token}
use Rattle.py_language.specs.declared.token.Token.TheVariants as t
use Rattle.py_spelling.specs.Spelling.{is_sound, is_balanced, is_bracket, OnlyBracketsOpen}
use Rattle.py_layout.specs.Small.{joined}

abbrev pub Nest : ℕ → List Token → Type 0
Nest d ts = (os : List ℕ) (rest : List Token) → length os + d ≤ 50 → is_balanced os (ts ++ rest) ≡ is_balanced os rest

pub nest_append : (d : ℕ) (xs ys : List Token) → Nest d xs → Nest d ys → Nest d (xs ++ ys)
nest_append d xs ys f g os rest le = ap (is_balanced os) (append_assoc xs ys rest) ∙ f os (ys ++ rest) le ∙ g os rest le

pub nest_more : (d : ℕ) (xs : List Token) → Nest d xs → Nest (suc d) xs
nest_more d xs f os rest le = f os rest (omega arith)

-- a bracket, what is in it, and the bracket that closes it
pub nest_between : (d : ℕ) (xs : List Token) → Nest d xs → Nest (suc d) (t.Mark m.LeftBracket ∷ (xs ++ t.Mark m.RightBracket ∷ []))
nest_between d xs f os rest le =
    let few : nat_lt (length os) 50 ≡ true = few_open (length os) le in
    rw few (ap (is_balanced (91 ∷ os)) (append_assoc xs (t.Mark m.RightBracket ∷ []) rest) ∙ f (91 ∷ os) (t.Mark m.RightBracket ∷ rest) (omega arith))
  where
    few_open : (n : ℕ) → n + suc d ≤ 50 → nat_lt n 50 ≡ true
    few_open n le = grind (arith, nat_tests)

-- only brackets open and close
module _ (only : OnlyBracketsOpen) where
  pub nest_token : (d : ℕ) (x : Token) → is_sound x ≡ true → is_bracket x ≡ false → Nest d (x ∷ [])
  nest_token d x s b os rest le = let w = only x s b in rw (w.fits os, w.same os) refl

  abbrev pub AllNest : ℕ → List (List Token) → Type 0
  AllNest d [] = Unit {0}
  AllNest d (xs ∷ more) = Nest d xs × AllNest d more

  pub nest_joined : (d : ℕ) (parts : List (List Token)) → AllNest d parts → Nest d (joined parts)
  nest_joined d [] h = λ os rest le. refl
  nest_joined d (xs ∷ []) h = h.0
  nest_joined d (xs ∷ ys ∷ more) h =
      nest_append d xs (t.Mark m.Comma ∷ joined (ys ∷ more)) h.0 (nest_append d (t.Mark m.Comma ∷ []) (joined (ys ∷ more)) (nest_token d (t.Mark m.Comma) refl refl) (nest_joined d (ys ∷ more) h.1))
