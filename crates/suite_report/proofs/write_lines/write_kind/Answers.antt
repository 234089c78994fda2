use Rattle.std.proofs.Common.{◌∙◌, ap, chars}
use Rattle.suite_report.proofs.Words.{chars-kind_text, one_word}
use Rattle.suite_report.proofs.write_lines.write_kind.Goals as goal

pub returns : goal.returns
returns c = one_word _ _ _ _ _ (ap chars c.kind_text.ensures ∙ chars-kind_text c.args.kind) c.in_ok-push_str.ensures.ok c.in_ok-push_ascii.ensures.ok
