use Rattle.std.proofs.Common.{◌≡◌, ◌^◌, ◌<◌, ◌≤◌, true, get_or, arith}
use Rattle.std.specs.Char.{is_ascii_digit}
use Rattle.std.proofs.lemmas.Bool.Decides.{nat_tests}
use Rattle.py_first_form.proofs.LiteralLemmas.{few_digits, digit_at, within_64_bits}
use Rattle.py_first_form.proofs.literal.number_of.Goals as goal

pub overflow_mul-number : goal.overflow_mul-number
overflow_mul-number c =
    let few = few_digits c.args.digits.now c.requires in
    let small : c.loop-digit.number < 10 ^ 18 = within_64_bits c.loop-digit.number c.loop-digit.digit-index c.loop-digit.invariant.small (omega (arith, few)) in
    omega (arith, small)

pub overflow_add-number : goal.overflow_add-number
overflow_add-number c =
    let few = few_digits c.args.digits.now c.requires in
    let small : c.loop-digit.number < 10 ^ 18 = within_64_bits c.loop-digit.number c.loop-digit.digit-index c.loop-digit.invariant.small (omega (arith, few)) in
    let digit : is_ascii_digit (get_or c.args.digits.now c.loop-digit.digit-index 0) ≡ true = digit_at c.args.digits.now c.loop-digit.digit-index c.requires (omega arith) in
    let most : get_or c.args.digits.now c.loop-digit.digit-index 0 ≤ 57 = grind (arith, nat_tests, digit) in
    omega (arith, small, most)
