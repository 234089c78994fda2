use Rattle.std.proofs.Common.{◌∙◌, ap, sym}
use Rattle.py_plain.specs.Runs.{watched_by}
use Rattle.py_frames.specs.Rest.{finish}
use Rattle.py_exec.proofs.Turns.{bound_goes_on, unbound_ends}
use Rattle.py_exec.proofs.walks.next_element.Goals as goal

pub returns-in-Ok-clause-meant : goal.returns-in-Ok-clause-meant
returns-in-Ok-clause-meant g c program =
    let watcher = watched_by g.P.Probe.after_began g.P.Probe.after_judged in
    c.in_ok-next-in-Ok.ensures c.bind_element.new.s watcher program
    ∙ ap (finish watcher program c.args.stack.now.items) (sym (bound_goes_on watcher program c.args.node c.args.names.now c.args.is_tuple c.args.body.now c.args.walk
    _ c.in-Some.x c.gives_new_tuples-made.result c.args.s.now c.bind_element.new.s c.in_ok-bind_element-in-Some.field-0
    (sym c.in_ok-element_at.ensures ∙ c.in-Some.is) c.gives_new_tuples-made.ensures c.in_ok-bind_element-in-Some.ensures.meant
    c.in-Ok.field-0 c.in_ok-walk-in-Ok.walk c.in-Ok.is c.in_ok-walk-in-Ok.ensures))

pub returns-clause-meant : goal.returns-clause-meant
returns-clause-meant g c program =
    let watcher = watched_by g.P.Probe.after_began g.P.Probe.after_judged in
    ap (finish watcher program c.args.stack.now.items) (sym (unbound_ends watcher program c.args.node c.args.names.now c.args.is_tuple c.args.body.now c.args.walk
    _ c.in-Some.x c.gives_new_tuples-made.result c.args.s.now c.bind_element.new.s c.in_ok-bind_element-in-Some.field-0
    (sym c.in_ok-element_at.ensures ∙ c.in-Some.is) c.gives_new_tuples-made.ensures c.in_ok-bind_element-in-Some.ensures.meant
    c.in-Err.why c.in-Err.is))
