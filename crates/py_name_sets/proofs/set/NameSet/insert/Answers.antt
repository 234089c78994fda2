use Rattle.std.proofs.Common.{◌≡◌, IfOk, subst, ap, ◌∙◌}
use Rattle.py_meaning.specs.Methods.{is_among}
use Rattle.py_name_sets.proofs.Rows.{is_among_rows}
use Rattle.py_name_sets.proofs.set.NameSet.insert.Goals as goal

pub returns-clause-was_there : goal.returns-clause-was_there
returns-clause-was_there c =
    subst (λ b. IfOk c.insert.result (λ was_there. was_there ≡ b)) (is_among_rows c.self.inside.rows c.args.name.now ∙ ap (λ names. is_among names c.args.name.now) c.self.view_is) c.insert.ensures.was_there
