use Rattle.std.proofs.Common.{◌≡◌, true, ap, sym, ◌∙◌}
use Rattle.py_meaning.specs.Worlds.{object_at}
use Rattle.py_plain.specs.Calls.{initializes_base}
use Rattle.py_plain.specs.Classes.{class_of_object, is_exception}
use Rattle.py_calls.proofs.instances.call_base.Goals as goal

pub returns-then-is_exception-clause-meant : goal.returns-then-is_exception-clause-meant
returns-then-is_exception-clause-meant g c watcher =
    let program = c.args.tables.now in
    let e : is_exception program (class_of_object (object_at c.args.s.now.objects c.args.id)) ≡ true =
    ap (is_exception program) (sym c.class_of_object.ensures) ∙ sym c.is_exception.ensures ∙ c.if-is_exception.true in
    ap (λ yes. initializes_base watcher program c.args.id yes c.args.plain c.args.named.now c.args.s.now) e ∙ c.in_ok-end.ensures.meant watcher program
