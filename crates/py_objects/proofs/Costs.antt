-- Costs up to a limit.
use Rattle.std.proofs.Common.{◌≡◌, ℕ, ◌+◌, ◌-◌, ◌<◌, ◌≤◌, List, length, take, get_or, ap, arith, Some, None}
use Rattle.std.specs.List.{sum_by}
use Rattle.std.proofs.lemmas.List.Sums.{sum_by_more_le}
use Rattle.std.proofs.lemmas.Bool.Decides.{nat_tests}
use Rattle.py_meaning.specs.declared.measured.Measured.{Measured}
use Rattle.py_meaning.specs.declared.value.Value.{Value}
use Rattle.py_meaning.specs.declared.value.Value.TheVariants as value
use Rattle.py_meaning.specs.Keys.{key_cost}
use Rattle.py_meaning.specs.Folds.{key_cost-Tuple}
use Rattle.py_objects.specs.Within.{within}

pub within_none : (n limit : ℕ) → limit < n → None ≡ within n limit
within_none n limit h = grind (arith, nat_tests)

pub above : (n limit : ℕ) → None ≡ within n limit → limit < n
above n limit h = grind (arith, nat_tests)

pub below : (n limit cost : ℕ) → Some cost ≡ within n limit → (cost ≡ n) × (n ≤ limit)
below n limit cost h = (grind (arith, nat_tests), grind (arith, nat_tests))

-- a tuple's cost is one more than its parts'
pub tuple_none : (key : Value) (tuple : Measured Value) (parts : List Value) (limit : ℕ) → key ≡ value.Tuple tuple → parts ≡ tuple.parts → None ≡ within (sum_by key_cost parts) limit → None ≡ within (key_cost key) limit
tuple_none key tuple parts limit e is h = within_none _ _ (let k = above _ _ h in omega (arith, ap key_cost e, key_cost-Tuple tuple, ap (sum_by key_cost) is, k))

pub tuple_some : (key : Value) (tuple : Measured Value) (parts : List Value) (limit cost : ℕ) → key ≡ value.Tuple tuple → parts ≡ tuple.parts → Some cost ≡ within (sum_by key_cost parts) limit → within (cost + 1) limit ≡ within (key_cost key) limit
tuple_some key tuple parts limit cost e is h = let k = below _ _ _ h in ap (λ n. within n limit) (omega (arith, ap key_cost e, key_cost-Tuple tuple, ap (sum_by key_cost) is, k.0))

-- a part that is above what is left is above the limit with all
pub parts_none : (parts : List Value) (at : ℕ) (part : Value) (cost limit : ℕ) → at < length parts → part ≡ get_or parts at part → cost ≡ sum_by key_cost (take at parts) → None ≡ within (key_cost part) (limit - cost) → None ≡ within (sum_by key_cost parts) limit
parts_none parts at part cost limit inside is paid h = within_none _ _ (let k = above _ _ h in omega (arith, k, ap key_cost is, sum_by_more_le key_cost parts at part inside))
