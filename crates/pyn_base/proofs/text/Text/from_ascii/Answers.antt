use Rattle.std.proofs.Common.{◌≡◌, ◌∙◌, ap, subst, IfOk, chars}
use Rattle.std.proofs.lemmas.Str.{IsUtf8-from_ascii, chars-IsAscii}
use Rattle.pyn_base.proofs.text.Text.from_ascii.Goals as goal

pub unreachable-requires : goal.unreachable-requires
unreachable-requires c = c.in-Err.ensures.cases.0 (IsUtf8-from_ascii c.args.text.now c.requires)

pub returns : goal.returns
returns c =
    let e : chars c.in-Ok.text.now ≡ c.args.text.now = ap chars c.in-Ok.ensures.cases.0 ∙ chars-IsAscii c.args.text.now c.requires in
    subst (λ xs. IfOk c.from_str.result (λ t. t ≡ xs)) e c.from_str.ensures
