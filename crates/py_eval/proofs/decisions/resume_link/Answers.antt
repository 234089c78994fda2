use Rattle.std.proofs.Common.{ap, sym}
use Rattle.py_plain.specs.Operators.{compares}
use Rattle.py_frames.specs.Rest.{finish}
use Rattle.py_eval.proofs.Stopping.{stopped}
use Rattle.py_eval.proofs.decisions.resume_link.Goals as goal

pub returns-clause-meant : goal.returns-clause-meant
returns-clause-meant g c watcher program =
    ap (finish watcher program c.args.stack.now.items)
    (sym (stopped (compares c.args.op c.args.left c.args.right) _ c.args.s.now c.compare.new.s c.in-Err.why (rw c.in-Err.is at c.in_ok-holds.ensures.meant)))
