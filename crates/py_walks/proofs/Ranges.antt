-- Ranges: how many integers they have, and which.
use Rattle.std.proofs.Common.{◌≡◌, ℕ, ℤ, pos, negsuc, zero, suc, ◌-◌, ◌^◌, ◌+ℤ◌, Bool, true, false, nat_lt, Some, None, length, refl, ap}
use Rattle.std.proofs.lemmas.Int.{to_z-of_z}
use Rattle.std.specs.Bool.{if◌then◌else◌}
use Rattle.pyn_base.specs.Int.{in_range}
use Rattle.py_meaning.specs.Walk.{counted}

pub counted_length : (start step : ℤ) (count : ℕ) → length (counted start step count) ≡ count
counted_length start step zero = refl
counted_length start step (suc count) = ap suc (counted_length (start +ℤ step) step count)

chosen : (b : Bool) (z n : ℤ) → (if b then Some z else None) ≡ Some n → n ≡ z
chosen true z n e = cc
chosen false z n e = cc

pub in_range_same : (z n : ℤ) → in_range z ≡ Some n → n ≡ z
in_range_same (pos k) n e = chosen (nat_lt k (2 ^ 127)) (pos k) n e
in_range_same (negsuc k) n e = chosen (nat_lt k (2 ^ 127 - 1)) (negsuc k) n e

pub ruleset ranges = (counted_length, to_z-of_z)
