use Rattle.printing_laws.proofs.ReadBack.{printed_modules_read_back}
use Rattle.printing_laws.proofs.laws.law_of_printed_modules.Goals as goal

pub returns : goal.returns
returns c =
    printed_modules_read_back c.laws_of_spelling.ensures.sound c.laws_of_expressions.ensures.sound_trees c.laws_of_quiet.ensures.starts c.laws_of_annotations.ensures.sound c.laws_of_annotations.ensures.back
    c.laws_of_printing.ensures.lines c.law_of_modules.ensures c.law_of_lines.ensures
