-- Integers as a sign and a literal.
use Rattle.std.proofs.Common.{◌≡◌, ◌/◌, true, false, refl, ap, arith}
use Rattle.std.specs.Int.{int_div_euclid}
use Rattle.std.proofs.lemmas.Bool.Decides.{nat_tests}
use Rattle.std.specs.Prelude.{nat_lt, ℤ, pos, negsuc, neg_ℤ, int_lt}
use Rattle.py_syntax.specs.declared.expr.ExprKind.TheVariants as e
use Rattle.py_syntax.specs.declared.operator.Sign.TheVariants.{Minus}
use Rattle.pyn_base.specs.Int.{floor_quotient}
use Rattle.suite_model.specs.Statements.{expression, integer}

pub negative : (n : ℤ) → int_lt n (pos 0) ≡ true → integer n ≡ expression (e.Unary Minus (expression (e.IntLit (neg_ℤ n))))
negative (pos n) h = let e : nat_lt n 0 ≡ false = grind (arith, nat_tests) in absurd (cc)
negative (negsuc n) h = refl

pub other : (n : ℤ) → int_lt n (pos 0) ≡ false → integer n ≡ expression (e.IntLit n)
other (pos n) h = refl
other (negsuc n) h = absurd (cc)

whole : (z : ℤ) → int_div_euclid z (pos 1) ≡ z
whole (pos n) = let e : n / 1 ≡ n = omega arith in ap pos e
whole (negsuc n) = let e : n / 1 ≡ n = omega arith in ap negsuc e

pub by_minus_one : (n : ℤ) → floor_quotient n (negsuc 0) ≡ neg_ℤ n
by_minus_one n = whole (neg_ℤ n)
