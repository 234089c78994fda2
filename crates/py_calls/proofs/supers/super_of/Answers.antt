use Rattle.std.proofs.Common.{ap, ◌∙◌}
use Rattle.py_meaning.specs.declared.value.Value.{out-Value}
use Rattle.py_meaning.specs.declared.value.Value.TheVariants.{outs-Ref}
use Rattle.py_plain.specs.Calls.{super_of}
use Rattle.py_calls.proofs.supers.super_of.Goals as goal

pub returns-in_ok-end-in-Ref-clause-meant : goal.returns-in_ok-end-in-Ref-clause-meant
returns-in_ok-end-in-Ref-clause-meant g c watcher =
    ap (λ x. super_of watcher c.args.tables.now c.args.class x c.args.name.now c.args.s.now) (ap out-Value c.in-Ref.is ∙ outs-Ref c.in-Ref.id)
    ∙ c.in_ok-end-in-Ref.ensures.meant watcher
