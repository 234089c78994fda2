-- Lists of parts with commas between them, from the front.
use Rattle.std.proofs.Common.{◌≡◌, ◌∙◌, refl, sym, ap, ℕ, suc, ◌+◌, ◌<◌, ◌≤◌, Bool, true, false, List, [], ◌∷◌, ◌++◌, map, length, drop, get_or, append-nil, add-one, arith}
use Rattle.std.specs.Prelude.{◌==◌, if◌then◌else◌, codes}
use Rattle.std.proofs.lemmas.Bool.Decides.{nat_tests}
use Rattle.std.proofs.Math.Seq.{drop-cons}
use Rattle.std.proofs.lemmas.List.{drop_all}
use Rattle.py_language.specs.declared.token.Token.{Token}
use Rattle.py_language.specs.declared.token.Token.TheVariants as t
use Rattle.py_language.specs.declared.token.Keyword.TheVariants as k
use Rattle.py_language.specs.declared.token.Mark.TheVariants as m
use Rattle.py_printer.specs.declared.pen.Pen.{Pen}
use Rattle.py_printer.specs.Style.{write}
use Rattle.py_layout.specs.Headers.{lone}
use Rattle.py_layout.specs.Modules.{import_tokens}
use Rattle.py_layout.specs.Small.{joined, list_tokens}
use Rattle.module_printer.specs.Lines.{comma, commas, tuple_end}
use Rattle.module_printer.proofs.Writes.{write_append}

pub commas_joined : (parts : List (List Token)) → commas true parts ≡ joined parts
commas_joined [] = refl
commas_joined (xs ∷ more) = after xs more
  where
    after : (xs : List Token) (more : List (List Token)) → xs ++ commas false more ≡ joined (xs ∷ more)
    after xs [] = append-nil xs
    after xs (ys ∷ more) = ap (λ z. xs ++ t.Mark m.Comma ∷ z) (after ys more)

pub rest_of : {X : Type 0} (xs : List X) (i : ℕ) (x : X) → i < length xs → x ≡ get_or xs i x → drop i xs ≡ x ∷ drop (i + 1) xs
rest_of xs i x lt is = rw (drop-cons xs i x lt, ← is, add-one) refl

module _ {X : Type 0} (show : X → List Token) where
  -- what is left from a place on
  abbrev pub left : Bool → List X → ℕ → List Token
  left first xs i = commas first (map show (drop i xs))

  pub one_part : (xs : List X) (i : ℕ) (x : X) (first : Bool) (whole p q r : Pen) → i < length xs → x ≡ get_or xs i x → whole ≡ write p (left first xs i)
      → q ≡ write p (comma first) → r ≡ write q (show x) → whole ≡ write r (left false xs (i + 1))
  one_part xs i x first whole p q r lt is before a b =
      let rest = left false xs (i + 1) in
      before ∙ ap (λ ys. write p (commas first (map show ys))) (rest_of xs i x lt is)
      ∙ write_append p (comma first) (show x ++ rest) ∙ write_append (write p (comma first)) (show x) rest
      ∙ ap (λ z. write (write z (show x)) rest) (sym a) ∙ ap (λ z. write z rest) (sym b)

  pub all_parts : (xs : List X) (i : ℕ) (first : Bool) (whole p : Pen) → length xs ≤ i → whole ≡ write p (left first xs i) → p ≡ whole
  all_parts xs i first whole p le before = sym (before ∙ ap (λ ys. write p (commas first (map show ys))) (drop_all i xs le))

not_one : (n : ℕ) → (suc (suc n) == 1) ≡ false
not_one n = grind (arith, nat_tests)

-- several targets or names, of which an only one of a tuple has a comma
pub list_is : (is_tuple : Bool) (parts : List (List Token)) → list_tokens is_tuple parts ≡ commas true parts ++ tuple_end is_tuple (length parts)
list_is true [] = refl
list_is false [] = refl
list_is true (xs ∷ []) = ap (λ z. z ++ t.Mark m.Comma ∷ []) (sym (append-nil xs))
list_is false (xs ∷ []) = sym (append-nil (xs ++ []) ∙ append-nil xs)
list_is true (xs ∷ ys ∷ more) = sym (commas_joined (xs ∷ ys ∷ more)) ∙ sym (ap (λ v. commas true (xs ∷ ys ∷ more) ++ (if v then t.Mark m.Comma ∷ [] else [])) (not_one (length more)) ∙ append-nil (commas true (xs ∷ ys ∷ more)))
list_is false (xs ∷ ys ∷ more) = sym (commas_joined (xs ∷ ys ∷ more)) ∙ sym (append-nil (commas true (xs ∷ ys ∷ more)))

pub length_map : {A B : Type 0} (f : A → B) (xs : List A) → length (map f xs) ≡ length xs
length_map f [] = refl
length_map f (x ∷ xs) = ap suc (length_map f xs)

pub list_of : {X : Type 0} (show : X → List Token) (is_tuple : Bool) (xs : List X) → list_tokens is_tuple (map show xs) ≡ commas true (map show xs) ++ tuple_end is_tuple (length xs)
list_of show is_tuple xs = list_is is_tuple (map show xs) ∙ ap (λ n. commas true (map show xs) ++ tuple_end is_tuple n) (length_map show xs)

pub import_all : (n : List ℕ) (names : List (List ℕ)) → import_tokens (n ∷ names) ≡ (t.Keyword k.From ∷ t.Name (codes "typing") ∷ t.Keyword k.Import ∷ []) ++ commas true (map lone (n ∷ names))
import_all n names = ap (λ (z : List Token). t.Keyword k.From ∷ t.Name (codes "typing") ∷ t.Keyword k.Import ∷ z) (sym (commas_joined (map lone (n ∷ names))))
