use Rattle.std.proofs.Common.{◌∙◌, ap, chars, ◌++◌}
use Rattle.std.proofs.lemmas.Str.{chars-append, IsUtf8-string_bytes}
use Rattle.pyn_base.proofs.text.Text.push_str.Goals as goal

pub returns-clause-ok : goal.returns-clause-ok
returns-clause-ok c =
    ap chars c.in_ok-push_str.ensures.bytes ∙ chars-append _ _ (IsUtf8-string_bytes c.self.inside.text)
    ∙ ap (λ t. t ++ chars c.args.more.now) c.self.view_is
