use Rattle.std.specs.Prelude.{◌≡◌, ℤ, pos, negsuc, neg_ℤ, ◌+ℤ◌, ◌*ℤ◌, ◌<ℤ◌, ◌≤ℤ◌, suc, ◌^◌, ◌-◌, Option, Some, None, nat_lt, if◌then◌else◌}
use Rattle.std.specs.Int.{int_div_euclid, int_rem_euclid}

-- The range of integers, which is the project's own: from -(2^127 - 1) to 2^127 - 1.
abbrev pub IsInRange : ℤ → Type 0
IsInRange n = negsuc (2 ^ 127 - 1) <ℤ n

-- The number, where it lies in the range. `negsuc k` is -(k + 1).
abbrev pub in_range : ℤ → Option ℤ
in_range (pos k) = if nat_lt k (2 ^ 127) then Some (pos k) else None
in_range (negsuc k) = if nat_lt k (2 ^ 127 - 1) then Some (negsuc k) else None

-- The quotient, rounded down (Language Reference 6.7). Over a positive divisor the remainder that is not
-- negative goes with it, and a / -b is -a / b.
abbrev pub floor_quotient : ℤ → ℤ → ℤ
floor_quotient a (pos b) = int_div_euclid a (pos b)
floor_quotient a (negsuc b) = int_div_euclid (neg_ℤ a) (pos (suc b))

-- What the quotient leaves, with the divisor's sign.
abbrev pub floor_rest : ℤ → ℤ → ℤ
floor_rest a (pos b) = int_rem_euclid a (pos b)
floor_rest a (negsuc b) = neg_ℤ (int_rem_euclid (neg_ℤ a) (pos (suc b)))

-- A rest lies from 0 to the divisor, which it does not reach.
abbrev pub IsRest : ℤ → ℤ → Type 0
IsRest r (pos b) = (pos 0 ≤ℤ r) × (r <ℤ pos b)
IsRest r (negsuc b) = (negsuc b <ℤ r) × (r ≤ℤ pos 0)

-- Quotient and rest make up the number, and no other pair does.
abbrev pub IsDivided : ℤ → ℤ → ℤ → ℤ → Type 0
IsDivided a b quotient rest = (a ≡ (quotient *ℤ b) +ℤ rest) × IsRest rest b
