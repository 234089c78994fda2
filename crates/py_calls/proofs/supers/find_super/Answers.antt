use Rattle.std.proofs.Common.{ap, sym, ◌∙◌}
use Rattle.std.specs.Option.{option_copied}
use Rattle.py_calls.proofs.SuperFound.{super_found}
use Rattle.py_calls.proofs.supers.find_super.Goals as goal

pub returns-in-None-clause-meant : goal.returns-in-None-clause-meant
returns-in-None-clause-meant g c watcher = super_found watcher c.args.tables.now c.args.s.now c.args.name.now c.in-Some.f.now c.in-Some-owner.class _
    (sym c.function_in.ensures ∙ ap option_copied c.in-Some.is) (sym c.owner.ensures ∙ c.in-Some-owner.is) (c.in_ok-first_parameter.ensures watcher c.args.tables.now ∙ c.in-None.is)

pub returns-in_ok-end-in-Some-2-clause-meant : goal.returns-in_ok-end-in-Some-2-clause-meant
returns-in_ok-end-in-Some-2-clause-meant g c watcher = super_found watcher c.args.tables.now c.args.s.now c.args.name.now c.in-Some.f.now c.in-Some-owner.class _
    (sym c.function_in.ensures ∙ ap option_copied c.in-Some.is) (sym c.owner.ensures ∙ c.in-Some-owner.is) (c.in_ok-first_parameter.ensures watcher c.args.tables.now ∙ c.in-Some-2.is)
    ∙ c.in_ok-end-in-Some-2.ensures.meant watcher
