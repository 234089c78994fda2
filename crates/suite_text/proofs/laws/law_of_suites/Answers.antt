use Rattle.suite_text.proofs.Lines.{suites_are_lines}
use Rattle.suite_text.proofs.laws.law_of_suites.Goals as goal

pub returns : goal.returns
returns c = suites_are_lines c.laws_of_spelling.ensures.brackets c.laws_of_printing.ensures.lines
