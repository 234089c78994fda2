use Rattle.printing_laws.proofs.ReadBack.{printed_expressions_read_back}
use Rattle.printing_laws.proofs.laws.law_of_printed_expressions.Goals as goal

pub returns : goal.returns
returns c = printed_expressions_read_back c.laws_of_printing.ensures.lines c.laws_of_expressions.ensures.trees c.laws_of_expressions.ensures.balanced c.laws_of_quiet.ensures.starts
