use Rattle.std.proofs.Common.{ap, sym, ◌∙◌}
use Rattle.py_plain.specs.Attributes.{finds, read_found}
use Rattle.py_frames.specs.Rest.{finish}
use Rattle.py_eval.proofs.Stopping.{stopped, went_on}
use Rattle.py_eval.proofs.augments.add_to_attribute.Goals as goal

pub returns-in-Ok-read_found-clause-meant : goal.returns-in-Ok-read_found-clause-meant
returns-in-Ok-read_found-clause-meant g c watcher =
    let program = c.args.tables.now in
    let s = c.find.new.s in
    rw c.in_ok-push-in-Ok-read_found.ensures.items
    (c.laws_of_frames.ensures.pushed watcher program c.args.stack.now.items _ _
    ∙ ap (finish watcher program c.args.stack.now.items) (sym
    (went_on (finds program c.args.of c.args.name.now) _ c.args.s.now s c.in-Ok.found (rw c.in-Ok.is at c.in_ok-found.ensures.meant)
    ∙ went_on (read_found c.in-Ok.found) _ s s c.in-Ok-read_found.old (rw c.in-Ok-read_found.is at c.read_found.ensures))))

pub returns-clause-meant : goal.returns-clause-meant
returns-clause-meant g c watcher =
    ap (finish watcher c.args.tables.now c.args.stack.now.items)
    (sym (stopped (finds c.args.tables.now c.args.of c.args.name.now) _ c.args.s.now c.find.new.s c.in-Err.why (rw c.in-Err.is at c.in_ok-found.ensures.meant)))
