use Rattle.std.proofs.Common.{◌≡◌, ◌-ℤ◌, arith}
use Rattle.std.proofs.lemmas.Int.{ints}
use Rattle.std.specs.Int.{w64, w128, cast_signed, cast_unsigned}
use Rattle.py_ops.proofs.Ranges.{counted_down}
use Rattle.py_ops.proofs.membership.is_counted_down.Goals as goal

pub returns : goal.returns
returns c =
    let start = cast_signed w128 (cast_unsigned w128 (cast_signed w64 (cast_unsigned w64 c.args.start))) in
    let n = cast_signed w128 (cast_unsigned w128 c.args.n) in
    let distance : cast_signed w128 (cast_unsigned w128 (n -ℤ start)) ≡ c.args.n -ℤ c.args.start = omega (arith, ints) in
    let size : cast_signed w64 (cast_unsigned w64 c.args.step) ≡ c.args.step = omega (arith, ints) in
    counted_down c.args.start c.args.stop c.args.step c.args.n _ _ _ c.is_multiple.ensures distance size c.requires (omega (arith, ints)) (omega (arith, ints))
