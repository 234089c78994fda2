-- Faults that are compared one after another.
use Rattle.std.proofs.Common.{◌≡◌, ◌∙◌, refl, sym, ap, ℕ, ◌+◌, ◌<◌, ◌≤◌, Bool, true, false, nat_lt, List, ◌∷◌, length, get_or, drop, Option, Some, None, arith, add-one}
use Rattle.std.specs.Prelude.{if◌then◌else◌}
use Rattle.std.proofs.Math.Seq.{drop-cons}
use Rattle.std.proofs.lemmas.Bool.Decides.{nat_tests}
use Rattle.std.proofs.lemmas.List.{drop_all}
use Rattle.pyn_base.specs.declared.construct.Construct.{Construct}
use Rattle.py_scopes.specs.Refusals.{earlier, fault_of}
use Rattle.py_accept.specs.Faults.{first_of}

earlier_none : (a : Option (ℕ × Construct)) → earlier a None ≡ a
earlier_none None = refl
earlier_none (Some a) = refl

-- of three, by which of them are before which
of_three : (a b c : ℕ × Construct) (ba cb ca : Bool) → nat_lt b.0 a.0 ≡ ba → nat_lt c.0 b.0 ≡ cb → nat_lt c.0 a.0 ≡ ca
    → earlier (if ba then Some b else Some a) (Some c) ≡ earlier (Some a) (if cb then Some c else Some b)
of_three a b c true true true e f g = ap (λ t. if t then Some c else Some b) f ∙ sym (ap (λ t. if t then Some c else Some a) g)
of_three a b c true true false e f g = absurd (grind (arith, nat_tests))
of_three a b c true false ca e f g = ap (λ t. if t then Some c else Some b) f ∙ sym (ap (λ t. if t then Some b else Some a) e)
of_three a b c false true ca e f g = refl
of_three a b c false false true e f g = absurd (grind (arith, nat_tests))
of_three a b c false false false e f g = ap (λ t. if t then Some c else Some a) g ∙ sym (ap (λ t. if t then Some b else Some a) e)

earlier_assoc : (a b c : Option (ℕ × Construct)) → earlier (earlier a b) c ≡ earlier a (earlier b c)
earlier_assoc None b c = refl
earlier_assoc (Some a) None c = refl
earlier_assoc (Some a) (Some b) None = earlier_none (earlier (Some a) (Some b))
earlier_assoc (Some a) (Some b) (Some c) = of_three a b c (nat_lt b.0 a.0) (nat_lt c.0 b.0) (nat_lt c.0 a.0) refl refl refl

rest_of : {X : Type 0} (xs : List X) (i : ℕ) (d : X) → i < length xs → drop i xs ≡ get_or xs i d ∷ drop (i + 1) xs
rest_of xs i d lt = rw (drop-cons xs i d lt, add-one) refl

-- one more rule
pub one_more : (rules : List (Construct × Option ℕ)) (i : ℕ) (d : Construct × Option ℕ) (found found' whole : Option (ℕ × Construct)) → i < length rules
    → earlier found (first_of (drop i rules)) ≡ whole → found' ≡ earlier found (fault_of (get_or rules i d).0 (get_or rules i d).1) → earlier found' (first_of (drop (i + 1) rules)) ≡ whole
one_more rules i d found found' whole lt before e =
    let rest = first_of (drop (i + 1) rules) in
    ap (λ o. earlier o rest) e
    ∙ earlier_assoc found (fault_of (get_or rules i d).0 (get_or rules i d).1) rest
    ∙ ap (λ rows. earlier found (first_of rows)) (sym (rest_of rules i d lt))
    ∙ before

-- all of them
pub all_done : (rules : List (Construct × Option ℕ)) (i : ℕ) (found whole : Option (ℕ × Construct)) → length rules ≤ i → earlier found (first_of (drop i rules)) ≡ whole → found ≡ whole
all_done rules i found whole le before = sym (earlier_none found) ∙ sym (ap (λ rows. earlier found (first_of rows)) (drop_all i rules le)) ∙ before
