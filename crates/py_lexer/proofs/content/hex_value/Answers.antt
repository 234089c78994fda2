use Rattle.std.proofs.Common.{◌∙◌, ◌+◌, ◌*◌, ◌-◌, ap, sym, arith}
use Rattle.py_language.specs.TokensStrings.{hex_value}
use Rattle.py_lexer.proofs.HexLemmas.{hex_step, hex_stops, hex_ends, hex_all, hex_small, hex_grows}
use Rattle.py_lexer.proofs.content.hex_value.Goals as goal

pub loop-i-init : goal.loop-i-init
loop-i-init c = record { value = ap (λ n. hex_value n 0 c.args.text.now) (omega arith); small = omega arith }

pub returns-in_default : goal.returns-in_default
returns-in_default c = hex_ends c.args.n c.loop-i._i c.loop-i.value c.loop-i.rest.now _ c.loop-i-test.true c.in_default.ensures.cases c.loop-i.invariant.value

pub returns-then-not-is_digit_below : goal.returns-then-not-is_digit_below
returns-then-not-is_digit_below c = hex_stops c.args.n c.loop-i._i c.loop-i.value c.in-Some.b.now c.loop-i.rest.now c.in-Some.more.now _ c.loop-i-test.true c.in-Some.ensures.cases.0 (sym c.if-not-is_digit_below.ensures) c.loop-i.invariant.value

pub loop-i-preserved : goal.loop-i-preserved
loop-i-preserved c =
    let step = hex_step c.args.n c.loop-i._i c.loop-i.value c.in-Some.b.now c.loop-i.rest.now c.in-Some.more.now _ c.loop-i-test.true c.in-Some.ensures.cases.0 (sym c.if-not-is_digit_below.ensures) c.loop-i.invariant.value in
    let grows = hex_grows c.loop-i._i c.loop-i.value c.in-Some.b.now (omega arith) c.loop-i.invariant.small (sym c.if-not-is_digit_below.ensures) in
    record {
      value = ap (λ d. hex_value (c.args.n - (c.loop-i._i + 1)) (c.loop-i.value * 16 + d) c.in-Some.more.now) c.digit_value.ensures.value ∙ step;
      small = rw c.digit_value.ensures.value grows;
    }

pub overflow_mul-value : goal.overflow_mul-value
overflow_mul-value c = let small = hex_small c.loop-i._i c.loop-i.value (omega arith) c.loop-i.invariant.small in omega arith

pub overflow_add-value : goal.overflow_add-value
overflow_add-value c = let small = hex_small c.loop-i._i c.loop-i.value (omega arith) c.loop-i.invariant.small in omega (arith, c.digit_value.ensures.small)

pub returns : goal.returns
returns c = hex_all c.args.n c.loop-i.value c.loop-i.rest.now _ c.loop-i._i (omega arith) c.loop-i.invariant.value
