use Rattle.std.proofs.Common.{arith}
use Rattle.py_text.proofs.Joining.{next_length}
use Rattle.py_text.proofs.joins.joined_length.Goals as goal

pub loop-text-preserved : goal.loop-text-preserved
loop-text-preserved c =
    let step = next_length c.args.between.now c.in-Some.others.now c.loop-text.text-index c.text-item.result c.loop-text-test.true c.text-item.is in
    record { so_far = omega (arith, c.loop-text.invariant.so_far); bound = omega arith }
