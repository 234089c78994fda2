-- How many methods the members of a class are.
use Rattle.std.proofs.Common.{◌≡◌, ℕ, suc, ◌+◌, ◌<◌, List, [], ◌∷◌, length, drop, get_or, refl, sym, ap, ◌∙◌, arith}
use Rattle.std.proofs.lemmas.List.{at_drop_more}
use Rattle.py_syntax.specs.declared.module.Member.{Member}
use Rattle.py_syntax.specs.declared.module.Member.TheVariants as member
use Rattle.py_plain.specs.Program.{methods_from}

same_length : (a b : ℕ) (members : List Member) → length (methods_from a members) ≡ length (methods_from b members)
same_length a b [] = refl
same_length a b (member.Func f ∷ members) = ap suc (same_length (a + 1) (b + 1) members)
same_length a b (member.Other stmt ∷ members) = same_length a b members

pub one_more : (m : Member) (ms : List Member) → length (methods_from 0 (m ∷ ms)) ≡ length (methods_from 0 (m ∷ [])) + length (methods_from 0 ms)
one_more (member.Func f) ms = let e = same_length 1 0 ms in omega (arith, e)
one_more (member.Other stmt) ms = omega arith

pub stepped : {A : Type 0} (items : List A) (at : ℕ) (x : A) → at < length items → x ≡ get_or items at x → drop at items ≡ x ∷ drop (at + 1) items
stepped items at x within is = at_drop_more (λ ys. ys) items at x within ∙ ap (λ y. y ∷ drop (at + 1) items) (sym is)
