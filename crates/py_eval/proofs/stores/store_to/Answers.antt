use Rattle.std.proofs.Common.{length, ap, sym}
use Rattle.py_plain.specs.Assignments.{unpacks}
use Rattle.py_frames.specs.Rest.{finish}
use Rattle.py_eval.proofs.Stopping.{stopped}
use Rattle.py_eval.proofs.stores.store_to.Goals as goal

pub returns-then-is_tuple-clause-meant : goal.returns-then-is_tuple-clause-meant
returns-then-is_tuple-clause-meant g c watcher program =
    rw c.if-is_tuple.true
    (ap (finish watcher program c.args.stack.now.items)
    (sym (stopped (unpacks (length c.args.targets.now) c.args.x) _ c.args.s.now c.unpack.new.s c.in-Err.why (rw c.len.ensures at (rw c.in-Err.is at c.in_ok-items.ensures.meant)))))
