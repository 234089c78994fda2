use Rattle.std.proofs.Common.{◌∙◌, ap, ◌++◌}
use Rattle.std.proofs.lemmas.Str.{chars-IsAscii}
use Rattle.pyn_base.proofs.text.Text.push_number.Goals as goal

pub returns-clause-ok : goal.returns-clause-ok
returns-clause-ok c =
    c.in_ok-push_str.ensures.ok
    ∙ ap (λ t. c.args.self.now ++ t) (chars-IsAscii _ c.format.ensures.ascii ∙ c.format.ensures.text)
