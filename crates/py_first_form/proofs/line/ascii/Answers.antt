use Rattle.std.proofs.Common.{◌∙◌, ap, chars}
use Rattle.std.proofs.lemmas.Str.{IsUtf8-from_ascii, chars-IsAscii}
use Rattle.py_first_form.proofs.line.ascii.Goals as goal

pub returns-clause-chars : goal.returns-clause-chars
returns-clause-chars c = ap chars c.in-Ok.ensures.cases.0 ∙ chars-IsAscii c.args.bytes.now c.requires

pub unreachable-requires : goal.unreachable-requires
unreachable-requires c = c.in-Err.ensures.cases.0 (IsUtf8-from_ascii c.args.bytes.now c.requires)
