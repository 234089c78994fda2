-- The depth of what is walked.
use Rattle.std.proofs.Common.{None, if◌then◌else◌, ◌+◌, ◌<◌, ◌++◌, length, get_or, take, drop, add-one, ◌≡◌, ℕ, zero, suc, max, List, [], ◌∷◌, map, refl, sym, ◌∙◌, ap, arith, ℤ, ◌+ℤ◌, ◌&&◌, nat_le, Bool, true, false, not, Some}
use Rattle.std.proofs.lemmas.Bool.Decides.{nat_tests}
use Rattle.std.proofs.Math.Seq.{drop-cons}
use Rattle.std.proofs.lemmas.List.{take_more, map-append}
use Rattle.py_meaning.specs.declared.measured.Measured.{Measured}
use Rattle.py_meaning.specs.declared.value.Value.{Value}
use Rattle.py_meaning.specs.declared.value.Value.TheVariants as value
use Rattle.py_meaning.specs.declared.value.Value.TheVariants.{outs-Int, outs-Str}
use Rattle.py_meaning.specs.Tuples.{depth, depth_by, deepest, depth_over, measured, measured_within_limit, tuple, tuple_limit}
use Rattle.py_meaning.specs.Worlds.{Pairs}
use Rattle.py_meaning.specs.Walk.{counted, characters_of, keys_of, values_of, items_of, shallow}
use Rattle.py_meaning.specs.Folds.{tuple-out}
use Rattle.py_objects.specs.Within.{unless_deep}

depth-Int : (n : ℤ) → depth (value.Int n) ≡ 0
depth-Int n = ap depth_by (outs-Int n)

depth-Str : (s : List ℕ) → depth (value.Str s) ≡ 0
depth-Str s = ap depth_by (outs-Str s)

pub depth-tuple : (parts : List Value) → depth (tuple parts) ≡ depth_over parts
depth-tuple parts = ap depth_by (tuple-out parts)

pub depths-counted : (start step : ℤ) (count : ℕ) → deepest (map depth (counted start step count)) ≡ 0
depths-counted start step zero = refl
depths-counted start step (suc count) = rw (depth-Int start, depths-counted (start +ℤ step) step count) refl

pub depths-characters : (s : List ℕ) → deepest (map depth (characters_of s)) ≡ 0
depths-characters [] = refl
depths-characters (c ∷ s) = rw (depth-Str (c ∷ []), depths-characters s) refl

pub ruleset plain = (depths-counted, depths-characters)

max_le : (a b limit : ℕ) → nat_le (max a b) limit ≡ nat_le a limit && nat_le b limit
max_le a b limit = grind (arith, nat_tests)

-- Items are shallow where the deepest of them is.
pub shallow_by_deepest : (items : List Value) → shallow items ≡ nat_le (deepest (map depth items)) tuple_limit
shallow_by_deepest [] = refl
shallow_by_deepest (x ∷ xs) = ap (λ b. nat_le (depth x) tuple_limit && b) (shallow_by_deepest xs) ∙ sym (max_le (depth x) (deepest (map depth xs)) tuple_limit)

one_pair : (a b : ℕ) → max (suc (max a (max b 0))) 0 ≡ suc (max (max a 0) (max b 0))
one_pair a b = grind arith

more_pairs : (a b c d : ℕ) → max (suc (max a (max b 0))) (suc (max c d)) ≡ suc (max (max a c) (max b d))
more_pairs a b c d = grind arith

-- of pairs of which there are some
pub items_deepest : (ps : Pairs) → (ps ≡ [] → ⊥) → deepest (map depth (items_of ps)) ≡ suc (max (deepest (map depth (keys_of ps))) (deepest (map depth (values_of ps))))
items_deepest [] h = absurd (h refl)
items_deepest (p ∷ []) h = rw (depth-tuple (p.0 ∷ p.1 ∷ [])) (one_pair (depth p.0) (depth p.1))
items_deepest (p ∷ q ∷ ps) h = rw (depth-tuple (p.0 ∷ p.1 ∷ []), items_deepest (q ∷ ps) (λ e. cc)) (more_pairs (depth p.0) (depth p.1) (deepest (map depth (keys_of (q ∷ ps)))) (deepest (map depth (values_of (q ∷ ps)))))

-- Items of which none that the walk made is too deep are kept.
pub kept : (made : Bool) (items : List Value) → (made && not (shallow items)) ≡ false → unless_deep made items ≡ Some items
kept false items h = refl
kept true items h = let e : shallow items ≡ true = grind (arith, nat_tests, h) in rw e refl

below : (n : ℕ) → nat_le (suc n) tuple_limit ≡ true → nat_le n tuple_limit ≡ true
below n h = grind (arith, nat_tests)

never : (b : Bool) → (b && not true) ≡ false
never true = refl
never false = refl

-- The parts of a tuple that isn't too deep aren't.
pub parts_kept : (made : Bool) (parts : List Value) → nat_le (depth_over parts) tuple_limit ≡ true → (made && not (shallow parts)) ≡ false
parts_kept made parts h = let e = shallow_by_deepest parts ∙ below (deepest (map depth parts)) h in rw e (never made)

-- Items made one after another.

abbrev item : Value × Value → Value
item p = tuple (p.0 ∷ p.1 ∷ [])

abbrev limited : Value × Value → Bool
limited p = nat_le (depth_over (p.0 ∷ p.1 ∷ [])) tuple_limit

made_by : (b : Bool) (m t : Measured Value) → (if b then Some m else None) ≡ Some t → (t ≡ m) × (b ≡ true)
made_by true m t e = (cc, refl)
made_by false m t e = cc

not_made : (b : Bool) (m : Measured Value) → (if b then Some m else None) ≡ None → b ≡ false
not_made true m e = cc
not_made false m e = refl

module _ (ps : Pairs) (at : ℕ) (p : Value × Value) (inside : at < length ps) (is : p ≡ get_or ps at p) where
  items_drop : items_of (drop at ps) ≡ item p ∷ items_of (drop (at + 1) ps)
  items_drop = ap items_of (drop-cons ps at p inside) ∙ ap (λ q. item q ∷ items_of (drop (suc at) ps)) (sym is) ∙ ap (λ n. item p ∷ items_of (drop n ps)) (sym (add-one at))

  items_take : items_of (take (at + 1) ps) ≡ items_of (take at ps) ++ item p ∷ []
  items_take = ap items_of (take_more ps at p inside) ∙ map-append item (take at ps) (get_or ps at p ∷ []) ∙ ap (λ q. items_of (take at ps) ++ item q ∷ []) (sym is)

  first_item : (b : Bool) → limited p ≡ b → shallow (items_of (drop at ps)) ≡ b && shallow (items_of (drop (at + 1) ps))
  first_item b e = ap shallow items_drop ∙ ap (λ d. nat_le d tuple_limit && shallow (items_of (drop (at + 1) ps))) (depth-tuple (p.0 ∷ p.1 ∷ [])) ∙ ap (λ c. c && shallow (items_of (drop (at + 1) ps))) e

  pub item_taken : (items items' : List Value) (t : Measured Value) → items ≡ items_of (take at ps) → measured_within_limit (p.0 ∷ p.1 ∷ []) ≡ Some t → items' ≡ items ++ value.Tuple t ∷ [] → items' ≡ items_of (take (at + 1) ps)
  unfolding tuple
  item_taken items items' t e m n = n ∙ ap (λ xs. xs ++ value.Tuple t ∷ []) e
      ∙ ap (λ t. items_of (take at ps) ++ value.Tuple t ∷ []) (made_by (limited p) (measured (p.0 ∷ p.1 ∷ [])) t m).0 ∙ sym items_take

  pub items_left : (t : Measured Value) → shallow (items_of (drop at ps)) ≡ shallow (items_of ps) → measured_within_limit (p.0 ∷ p.1 ∷ []) ≡ Some t → shallow (items_of (drop (at + 1) ps)) ≡ shallow (items_of ps)
  items_left t e m = sym (first_item true (made_by (limited p) (measured (p.0 ∷ p.1 ∷ [])) t m).1) ∙ e

  pub item_deep : shallow (items_of (drop at ps)) ≡ shallow (items_of ps) → measured_within_limit (p.0 ∷ p.1 ∷ []) ≡ None → None ≡ unless_deep true (items_of ps)
  item_deep e m = let d : shallow (items_of ps) ≡ false = sym e ∙ first_item false (not_made (limited p) (measured (p.0 ∷ p.1 ∷ [])) m) in rw d refl
