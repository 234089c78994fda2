use Rattle.std.proofs.Common.{◌≡◌, ◌≢◌, refl, sym, ap, ap₂, ◌∙◌, ℕ, zero, suc, ◌<◌, ◌≤ℤ◌, ℤ, pos, negsuc, neg_ℤ, arith, subst}
use Rattle.std.specs.Int.{int_div_euclid, int_rem_euclid}
use Rattle.std.proofs.lemmas.Int.{ints}
use native.Mathlib.Nat.{div-add-mod', mod-lt}
use Rattle.pyn_base.specs.Int.{floor_quotient, floor_rest, IsDivided}

-- over a positive divisor
above : (a : ℤ) (n : ℕ) → 0 < n → IsDivided a (pos n) (floor_quotient a (pos n)) (floor_rest a (pos n))
above (pos a) n h =
    let split = div-add-mod' a n in
    let small = mod-lt a h in
    (omega (arith, ints, split), (omega (arith, ints), omega (arith, ints, small)))
above (negsuc a) n h =
    let split = div-add-mod' a n in
    let small = mod-lt a h in
    (omega (arith, ints, split, small), (omega (arith, ints), omega (arith, ints, small)))

-- with all three signs turned
turned : (a q r : ℤ) (n : ℕ) → IsDivided (neg_ℤ a) (pos (suc n)) q r → IsDivided a (negsuc n) q (neg_ℤ r)
turned a (pos q) r n d = (omega (arith, ints, d.0), (omega (arith, ints, d.1.1), omega (arith, ints, d.1.0)))
turned a (negsuc q) r n d = (omega (arith, ints, d.0), (omega (arith, ints, d.1.1), omega (arith, ints, d.1.0)))

-- quotient and rest make up the number
pub divided : (a b : ℤ) → b ≢ pos 0 → IsDivided a b (floor_quotient a b) (floor_rest a b)
divided a (pos zero) h = absurd (h refl)
divided a (pos (suc n)) h = above a (suc n) (omega arith)
divided a (negsuc n) h = turned a _ _ n (above (neg_ℤ a) (suc n) (omega arith))

pub divided_by_quotient : (a b q : ℤ) → b ≢ pos 0 → q ≡ floor_quotient a b → IsDivided a b q (floor_rest a b)
divided_by_quotient a b q h e = let P : ℤ → Type 0 = λ x. IsDivided a b x (floor_rest a b) in subst P (sym e) (divided a b h)

pub divided_by_rest : (a b r : ℤ) → b ≢ pos 0 → r ≡ floor_rest a b → IsDivided a b (floor_quotient a b) r
divided_by_rest a b r h e = let P : ℤ → Type 0 = λ x. IsDivided a b (floor_quotient a b) x in subst P (sym e) (divided a b h)

-- under a divisor below 0 both signs are turned
pub quotient_below : (a b x y q : ℤ) → b ≢ pos 0 → b ≤ℤ pos 0 → x ≡ neg_ℤ a → y ≡ neg_ℤ b → q ≡ int_div_euclid x y → q ≡ floor_quotient a b
quotient_below a (pos zero) x y q n l e f h = absurd (n refl)
quotient_below a (pos (suc b)) x y q n l e f h = absurd (omega (arith, ints, l))
quotient_below a (negsuc b) x y q n l e f h = h ∙ ap₂ int_div_euclid e f

pub rest_below : (a b x y r : ℤ) → b ≢ pos 0 → b ≤ℤ pos 0 → x ≡ neg_ℤ a → y ≡ neg_ℤ b → r ≡ int_rem_euclid x y → neg_ℤ r ≡ floor_rest a b
rest_below a (pos zero) x y r n l e f h = absurd (n refl)
rest_below a (pos (suc b)) x y r n l e f h = absurd (omega (arith, ints, l))
rest_below a (negsuc b) x y r n l e f h = ap neg_ℤ (h ∙ ap₂ int_rem_euclid e f)
