use Rattle.std.proofs.Common.{ap, sym, ◌∙◌}
use Rattle.py_plain.specs.Calls.{super_of_object}
use Rattle.py_calls.proofs.supers.super_of_object.Goals as goal

pub returns-in_ok-end-in-Instance-clause-meant : goal.returns-in_ok-end-in-Instance-clause-meant
returns-in_ok-end-in-Instance-clause-meant g c watcher =
    ap (λ kind. super_of_object watcher c.args.tables.now c.args.class c.args.id kind c.args.name.now c.args.s.now) (sym c.kind.ensures ∙ c.in-Instance.is)
    ∙ c.in_ok-end-in-Instance.ensures.meant watcher
