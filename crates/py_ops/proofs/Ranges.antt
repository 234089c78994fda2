-- Numbers of a range.
use Rattle.std.proofs.Common.{◌≡◌, zero, suc, ℤ, pos, negsuc, ◌-ℤ◌, ◌≤ℤ◌, ◌<ℤ◌, Bool, true, arith}
use Rattle.std.specs.Prelude.{int_lt, int_le}
use Rattle.std.specs.Ordering.{int_eq}
use Rattle.std.proofs.lemmas.Int.{ints}
use Rattle.pyn_base.specs.Int.{floor_rest}
use Rattle.py_meaning.specs.Membership.{is_counted}

le_holds : (a b : ℤ) → a ≤ℤ b → int_le a b ≡ true
le_holds a b h = grind (arith, ints)

lt_holds : (a b : ℤ) → a <ℤ b → int_lt a b ≡ true
lt_holds a b h = grind (arith, ints)

pub counted_up : (start stop step n d k : ℤ) (b : Bool) → b ≡ int_eq (floor_rest d k) (pos 0) → d ≡ n -ℤ start → k ≡ step → pos 0 <ℤ step → start ≤ℤ n → n <ℤ stop → b ≡ is_counted start stop step n
counted_up start stop (pos zero) n d k b e p q h lo hi = absurd (omega (arith, ints))
counted_up start stop (pos (suc step)) n d k b e p q h lo hi = rw (le_holds start n lo, lt_holds n stop hi) (rw (p, q) at e)
counted_up start stop (negsuc step) n d k b e p q h lo hi = absurd (omega (arith, ints))

pub counted_down : (start stop step n d k : ℤ) (b : Bool) → b ≡ int_eq (floor_rest d k) (pos 0) → d ≡ n -ℤ start → k ≡ step → step <ℤ pos 0 → n ≤ℤ start → stop <ℤ n → b ≡ is_counted start stop step n
counted_down start stop (pos step) n d k b e p q h hi lo = absurd (omega (arith, ints))
counted_down start stop (negsuc step) n d k b e p q h hi lo = rw (lt_holds stop n lo, le_holds n start hi) (rw (p, q) at e)
