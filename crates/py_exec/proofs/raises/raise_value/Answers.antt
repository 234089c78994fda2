use Rattle.std.proofs.Common.{◌∙◌, ap, sym}
use Rattle.py_meaning.specs.declared.value.Value.{Value, Value-F, out-Value}
use Rattle.py_meaning.specs.declared.value.Value.TheVariants.{outs-Ref}
use Rattle.py_plain.specs.Exceptions.{raises_value}
use Rattle.py_plain.specs.Runs.{watched_by}
use Rattle.py_plain.specs.Statements.{value_of, means}
use Rattle.py_frames.specs.Rest.{finish}
use Rattle.py_exec.proofs.raises.raise_value.Goals as goal

pub returns-in_ok-end-in-Ref-clause-meant : goal.returns-in_ok-end-in-Ref-clause-meant
returns-in_ok-end-in-Ref-clause-meant g c =
    let watcher = watched_by g.P.Probe.after_began g.P.Probe.after_judged in
    let program = c.args.tables.now in
    ap (finish watcher program c.args.stack.now.items)
    (sym (ap (λ (x : Value-F Value). raises_value watcher program (value_of watcher program) (means watcher program) x c.args.s.now) (ap out-Value c.in-Ref.is ∙ outs-Ref c.in-Ref.id)
    ∙ c.in_ok-end-in-Ref.ensures.meant watcher))
