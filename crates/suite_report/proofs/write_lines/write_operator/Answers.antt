use Rattle.std.proofs.Common.{◌∙◌, ap, chars}
use Rattle.suite_report.proofs.Words.{chars-operator_text, one_word}
use Rattle.suite_report.proofs.write_lines.write_operator.Goals as goal

pub returns : goal.returns
returns c = one_word _ _ _ _ _ (ap chars c.operator_text.ensures ∙ chars-operator_text c.args.operator) c.in_ok-push_str.ensures.ok c.in_ok-push_ascii.ensures.ok
