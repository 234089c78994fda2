use Rattle.std.proofs.Common.{◌∙◌, ap, chars, ◌++◌}
use Rattle.std.proofs.lemmas.Str.{IsUtf8-from_ascii, chars-IsAscii}
use Rattle.pyn_base.proofs.Ascii.{IsAscii-list_all}
use Rattle.pyn_base.proofs.text.Text.push_ascii.Goals as goal

pub unreachable-requires : goal.unreachable-requires
unreachable-requires c = c.in-Err.ensures.cases.0 (IsUtf8-from_ascii c.args.more.now (IsAscii-list_all c.args.more.now c.requires))

pub returns-clause-ok : goal.returns-clause-ok
returns-clause-ok c =
    c.in_ok-push_str-in-Ok.ensures.ok
    ∙ ap (λ t. c.args.self.now ++ t) (ap chars c.in-Ok.ensures.cases.0 ∙ chars-IsAscii c.args.more.now (IsAscii-list_all c.args.more.now c.requires))
