use Rattle.std.proofs.Common.{◌∙◌}
use Rattle.py_lexer.proofs.MarkLemmas.{table_is}
use Rattle.py_lexer.proofs.mark.mark_of.Goals as goal

pub returns : goal.returns
returns c = c.listed.ensures ∙ table_is c.args.text.now
