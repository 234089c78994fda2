use Rattle.std.proofs.Common.{sym}
use Rattle.py_lexer.proofs.NormalLemmas.{missing_last}
use Rattle.py_lexer.proofs.normal.lacks_end.Goals as goal

pub returns-in-Some : goal.returns-in-Some
returns-in-Some c = missing_last c.args.text.now c.in-Some.b.now (sym c.in-Some.ensures.value)
