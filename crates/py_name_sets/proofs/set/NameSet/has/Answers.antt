use Rattle.std.proofs.Common.{ap, ◌∙◌}
use Rattle.py_meaning.specs.Methods.{is_among}
use Rattle.py_name_sets.proofs.Rows.{is_among_rows}
use Rattle.py_name_sets.proofs.set.NameSet.has.Goals as goal

pub returns : goal.returns
returns c = c.has.ensures ∙ is_among_rows c.self.inside.rows c.args.name.now ∙ ap (λ names. is_among names c.args.name.now) c.self.view_is
