use Rattle.std.proofs.Common.{◌∙◌, ap, sym}
use Rattle.py_plain.specs.Runs.{watched_by}
use Rattle.py_frames.specs.Rest.{finish}
use Rattle.py_exec.proofs.Turns.{unchanged_goes_on, changed_ends}
use Rattle.py_exec.proofs.walks.start_turn.Goals as goal

pub returns-in-Ok-clause-meant : goal.returns-in-Ok-clause-meant
returns-in-Ok-clause-meant g c program =
    let watcher = watched_by g.P.Probe.after_began g.P.Probe.after_judged in
    c.in_ok-next-in-Ok.ensures.meant program
    ∙ ap (finish watcher program c.args.stack.now.items) (sym (unchanged_goes_on watcher program c.args.node c.args.names.now c.args.is_tuple c.args.body.now c.args.walk
    c.laws_of_meaning.ensures.for_loops c.args.s.now c.check.new.s c.in_ok-check.field-0 c.in-Ok.field-0 c.in_ok-check.ensures.meant c.in-Ok.is))

pub returns-clause-meant : goal.returns-clause-meant
returns-clause-meant g c program =
    let watcher = watched_by g.P.Probe.after_began g.P.Probe.after_judged in
    ap (finish watcher program c.args.stack.now.items) (sym (changed_ends watcher program c.args.node c.args.names.now c.args.is_tuple c.args.body.now c.args.walk
    c.laws_of_meaning.ensures.for_loops c.args.s.now c.check.new.s c.in_ok-check.field-0 c.in-Err.why c.in_ok-check.ensures.meant c.in-Err.is))
