use Rattle.std.proofs.Common.{ap, sym}
use Rattle.py_frames.specs.Rest.{finish}
use Rattle.py_eval.proofs.stores.resume_store.Goals as goal

pub returns-in_ok-end-in-AugmentName-clause-meant : goal.returns-in_ok-end-in-AugmentName-clause-meant
returns-in_ok-end-in-AugmentName-clause-meant g c watcher =
    rw c.in-AugmentName.is
    (ap (finish watcher c.args.tables.now c.args.stack.now.items) (sym (rw c.value_found-x.ensures at c.in_ok-end-in-AugmentName.ensures.meant)))

pub returns-in_ok-end-in-AugmentAttribute-clause-meant : goal.returns-in_ok-end-in-AugmentAttribute-clause-meant
returns-in_ok-end-in-AugmentAttribute-clause-meant g c watcher =
    rw c.in-AugmentAttribute.is
    (ap (finish watcher c.args.tables.now c.args.stack.now.items) (sym (rw c.value_found-x.ensures at c.in_ok-end-in-AugmentAttribute.ensures.meant)))
