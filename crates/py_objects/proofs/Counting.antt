-- A range is its first integer and the range from the next one on.
use Rattle.std.proofs.Common.{◌≡◌, ℕ, zero, suc, ◌+◌, ◌-◌, ◌/◌, ◌<◌, ◌≤◌, ◌^◌, ℤ, pos, negsuc, ◌+ℤ◌, ◌-ℤ◌, ◌<ℤ◌, ◌≤ℤ◌, List, [], ◌∷◌, ◌++◌, length, refl, sym, ◌∙◌, ap, arith, append_assoc, add-one, true, Some, inl, inr}
use Rattle.std.specs.Prelude.{nat_abs, int_lt}
use Rattle.std.proofs.lemmas.Int.{ints, to_z-of_z}
use Rattle.std.proofs.lemmas.Bool.{cases_lt}
use Rattle.std.proofs.lemmas.Bool.Decides.{nat_tests}
use Rattle.std.proofs.Math.Nat.{add-div_right, div-eq_of_lt-le}
use Rattle.pyn_base.specs.Int.{in_range}
use Rattle.py_meaning.specs.declared.value.Value.{Value}
use Rattle.py_meaning.specs.declared.value.Value.TheVariants as value
use Rattle.py_meaning.specs.Values.{range_length, steps_over}
use Rattle.py_meaning.specs.Walk.{counted}

pub length-counted : (start step : ℤ) (count : ℕ) → length (counted start step count) ≡ count
length-counted start step zero = refl
length-counted start step (suc count) = ap suc (length-counted (start +ℤ step) step count)

one_step : (d s : ℕ) → 0 < d → d ≤ suc s → (d + s) / suc s ≡ 1
one_step d s lo hi = div-eq_of_lt-le (suc s) (omega arith) (omega arith)

no_step : (s : ℕ) → s / suc s ≡ 0
no_step s = div-eq_of_lt-le (suc s) (omega arith) (omega arith)

far : (d s : ℕ) → suc s ≤ d → steps_over d (suc s) ≡ suc (steps_over (d - suc s) (suc s))
far d s h = let e : d + s ≡ (d - suc s + s) + suc s = omega arith in let lo : 0 < suc s = omega arith in
    ap (λ n. n / suc s) e ∙ add-div_right (d - suc s + s) {k = suc s} lo ∙ add-one _

near : (d s : ℕ) → 0 < d → d ≤ s → steps_over d (suc s) ≡ suc (steps_over (d - suc s) (suc s))
near d s lo hi = let e : d - suc s + s ≡ s = omega arith in
    one_step d s lo (omega arith) ∙ ap suc (sym (ap (λ n. n / suc s) e ∙ no_step s))

-- over a distance that isn't 0 there is a step, and those over what is left of it
pub steps_more : (d s : ℕ) → 0 < d → steps_over d (suc s) ≡ suc (steps_over (d - suc s) (suc s))
steps_more d s lo = elim (cases_lt s d) [ inl h ↦ far d s (omega arith) | inr h ↦ near d s lo h ]

pub in_range-small : (z : ℤ) → negsuc (2 ^ 65) ≤ℤ z → z ≤ℤ pos (2 ^ 65) → in_range z ≡ Some z
in_range-small (pos n) lo hi = let h : n < 2 ^ 127 = omega (arith, ints) in grind (arith, nat_tests)
in_range-small (negsuc n) lo hi = let h : n < 2 ^ 127 - 1 = omega (arith, ints) in grind (arith, nat_tests)

distance : (at stop : ℤ) → at ≤ℤ stop → pos (nat_abs (stop -ℤ at)) ≡ stop -ℤ at
distance at stop h = grind (arith, ints)

up : (at stop : ℤ) (s : ℕ) → at <ℤ stop → range_length at stop (pos (suc s)) ≡ steps_over (nat_abs (stop -ℤ at)) (suc s)
up at stop s h = let e : int_lt at stop ≡ true = grind (arith, ints) in rw e refl

down : (at stop : ℤ) (s : ℕ) → stop <ℤ at → range_length at stop (negsuc s) ≡ steps_over (nat_abs (at -ℤ stop)) (suc s)
down at stop s h = let e : int_lt stop at ≡ true = grind (arith, ints) in rw e refl

pub end_up : (at stop : ℤ) (s : ℕ) → stop ≤ℤ at → range_length at stop (pos (suc s)) ≡ 0
end_up at stop s h = grind (arith, ints)

pub end_down : (at stop : ℤ) (s : ℕ) → at ≤ℤ stop → range_length at stop (negsuc s) ≡ 0
end_down at stop s h = grind (arith, ints)

nothing_left : (d s : ℕ) → d ≤ suc s → steps_over (d - suc s) (suc s) ≡ 0
nothing_left d s h = let e : d - suc s + s ≡ s = omega arith in ap (λ n. n / suc s) e ∙ no_step s

far_up : (at stop : ℤ) (s : ℕ) → at <ℤ stop → suc s < nat_abs (stop -ℤ at) → range_length (at +ℤ pos (suc s)) stop (pos (suc s)) ≡ steps_over (nat_abs (stop -ℤ at) - suc s) (suc s)
far_up at stop s h lo = let e = distance at stop (omega (arith, ints)) in
    let more : (at +ℤ pos (suc s)) <ℤ stop = omega (arith, ints, e) in
    let e' = distance (at +ℤ pos (suc s)) stop (omega (arith, ints)) in
    let d : nat_abs (stop -ℤ (at +ℤ pos (suc s))) ≡ nat_abs (stop -ℤ at) - suc s = omega (arith, ints, e, e') in
    up (at +ℤ pos (suc s)) stop s more ∙ ap (λ n. steps_over n (suc s)) d

near_up : (at stop : ℤ) (s : ℕ) → at <ℤ stop → nat_abs (stop -ℤ at) ≤ suc s → range_length (at +ℤ pos (suc s)) stop (pos (suc s)) ≡ steps_over (nat_abs (stop -ℤ at) - suc s) (suc s)
near_up at stop s h hi = let e = distance at stop (omega (arith, ints)) in
    end_up (at +ℤ pos (suc s)) stop s (omega (arith, ints, e)) ∙ sym (nothing_left (nat_abs (stop -ℤ at)) s hi)

pub more_up : (at stop : ℤ) (s : ℕ) → at <ℤ stop → range_length at stop (pos (suc s)) ≡ suc (range_length (at +ℤ pos (suc s)) stop (pos (suc s)))
more_up at stop s h = let e = distance at stop (omega (arith, ints)) in
    up at stop s h ∙ steps_more (nat_abs (stop -ℤ at)) s (omega (arith, ints, e))
    ∙ ap suc (sym (elim (cases_lt (suc s) (nat_abs (stop -ℤ at))) [ inl lo ↦ far_up at stop s h lo | inr hi ↦ near_up at stop s h hi ]))

far_down : (at stop : ℤ) (s : ℕ) → stop <ℤ at → suc s < nat_abs (at -ℤ stop) → range_length (at +ℤ negsuc s) stop (negsuc s) ≡ steps_over (nat_abs (at -ℤ stop) - suc s) (suc s)
far_down at stop s h lo = let e = distance stop at (omega (arith, ints)) in
    let more : stop <ℤ (at +ℤ negsuc s) = omega (arith, ints, e) in
    let e' = distance stop (at +ℤ negsuc s) (omega (arith, ints)) in
    let d : nat_abs ((at +ℤ negsuc s) -ℤ stop) ≡ nat_abs (at -ℤ stop) - suc s = omega (arith, ints, e, e') in
    down (at +ℤ negsuc s) stop s more ∙ ap (λ n. steps_over n (suc s)) d

near_down : (at stop : ℤ) (s : ℕ) → stop <ℤ at → nat_abs (at -ℤ stop) ≤ suc s → range_length (at +ℤ negsuc s) stop (negsuc s) ≡ steps_over (nat_abs (at -ℤ stop) - suc s) (suc s)
near_down at stop s h hi = let e = distance stop at (omega (arith, ints)) in
    end_down (at +ℤ negsuc s) stop s (omega (arith, ints, e)) ∙ sym (nothing_left (nat_abs (at -ℤ stop)) s hi)

pub more_down : (at stop : ℤ) (s : ℕ) → stop <ℤ at → range_length at stop (negsuc s) ≡ suc (range_length (at +ℤ negsuc s) stop (negsuc s))
more_down at stop s h = let e = distance stop at (omega (arith, ints)) in
    down at stop s h ∙ steps_more (nat_abs (at -ℤ stop)) s (omega (arith, ints, e))
    ∙ ap suc (sym (elim (cases_lt (suc s) (nat_abs (at -ℤ stop))) [ inl lo ↦ far_down at stop s h lo | inr hi ↦ near_down at stop s h hi ]))

-- The same at any step that goes up or down.
pub one_up : (at stop step : ℤ) → pos 0 <ℤ step → at <ℤ stop → range_length at stop step ≡ suc (range_length (at +ℤ step) stop step)
one_up at stop (pos zero) goes h = absurd (omega (arith, ints))
one_up at stop (pos (suc s)) goes h = more_up at stop s h
one_up at stop (negsuc s) goes h = absurd (omega (arith, ints))

pub one_down : (at stop step : ℤ) → step <ℤ pos 0 → stop <ℤ at → range_length at stop step ≡ suc (range_length (at +ℤ step) stop step)
one_down at stop (pos s) goes h = absurd (omega (arith, ints))
one_down at stop (negsuc s) goes h = more_down at stop s h

pub no_more_up : (at stop step : ℤ) → pos 0 <ℤ step → stop ≤ℤ at → counted at step (range_length at stop step) ≡ []
no_more_up at stop (pos zero) goes h = absurd (omega (arith, ints))
no_more_up at stop (pos (suc s)) goes h = ap (counted at (pos (suc s))) (end_up at stop s h)
no_more_up at stop (negsuc s) goes h = absurd (omega (arith, ints))

pub no_more_down : (at stop step : ℤ) → step <ℤ pos 0 → at ≤ℤ stop → counted at step (range_length at stop step) ≡ []
no_more_down at stop (pos s) goes h = absurd (omega (arith, ints))
no_more_down at stop (negsuc s) goes h = ap (counted at (negsuc s)) (end_down at stop s h)

-- a number pushed, and those that are left
pushed : (items items' : List Value) (at step : ℤ) (n m : ℕ) (whole : List Value) → n ≡ suc m → items' ≡ items ++ value.Int at ∷ [] → items ++ counted at step n ≡ whole → items' ++ counted (at +ℤ step) step m ≡ whole
pushed items items' at step n m whole e p h = rw (p, append_assoc) (sym (ap (λ k. items ++ counted at step k) e) ∙ h)

pub pushed_up : (items items' : List Value) (at stop step : ℤ) (whole : List Value) → pos 0 <ℤ step → at <ℤ stop → items' ≡ items ++ value.Int at ∷ [] → items ++ counted at step (range_length at stop step) ≡ whole → items' ++ counted (at +ℤ step) step (range_length (at +ℤ step) stop step) ≡ whole
pushed_up items items' at stop step whole goes h p e = pushed items items' at step _ _ whole (one_up at stop step goes h) p e

pub pushed_down : (items items' : List Value) (at stop step : ℤ) (whole : List Value) → step <ℤ pos 0 → stop <ℤ at → items' ≡ items ++ value.Int at ∷ [] → items ++ counted at step (range_length at stop step) ≡ whole → items' ++ counted (at +ℤ step) step (range_length (at +ℤ step) stop step) ≡ whole
pushed_down items items' at stop step whole goes h p e = pushed items items' at step _ _ whole (one_down at stop step goes h) p e

pub less_true : (a b : ℤ) → int_lt a b ≡ true → a <ℤ b
less_true a b h = grind (arith, ints)

pub ruleset lengths = (length-counted, to_z-of_z)
