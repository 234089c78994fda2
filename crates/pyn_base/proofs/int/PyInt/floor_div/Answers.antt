use Rattle.std.proofs.Common.{◌≡◌, ◌∙◌, ◌≤ℤ◌, ◌-ℤ◌, pos, neg_ℤ, arith}
use Rattle.std.proofs.lemmas.Int.{ints}
use Rattle.std.specs.Int.{w128, cast_signed, cast_unsigned}
use Rattle.pyn_base.proofs.Division.{divided_by_quotient, quotient_below}
use Rattle.pyn_base.proofs.int.PyInt.floor_div.Goals as goal

pub returns-then-by-gt0-clause-divides : goal.returns-then-by-gt0-clause-divides
returns-then-by-gt0-clause-divides c = divided_by_quotient c.args.self c.args.by _ c.requires (grind (arith, ints))

pub returns-else-by-gt0-clause-divides : goal.returns-else-by-gt0-clause-divides
returns-else-by-gt0-clause-divides c =
    let result = c.div_euclid-else-by-gt0.result in
    let below : c.args.by ≤ℤ pos 0 = omega (arith, ints) in
    let number : cast_signed w128 (cast_unsigned w128 (pos 0 -ℤ cast_signed w128 (cast_unsigned w128 c.self.inside.value))) ≡ neg_ℤ c.args.self = omega (arith, ints) in
    let divisor : cast_signed w128 (cast_unsigned w128 (pos 0 -ℤ cast_signed w128 (cast_unsigned w128 c.by.inside.value))) ≡ neg_ℤ c.args.by = omega (arith, ints) in
    let whole : cast_signed w128 (cast_unsigned w128 result) ≡ result = omega (arith, ints) in
    divided_by_quotient c.args.self c.args.by _ c.requires
    (whole ∙ quotient_below c.args.self c.args.by _ _ _ c.requires below number divisor c.div_euclid-else-by-gt0.ensures)
