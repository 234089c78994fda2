use Rattle.std.proofs.Common.{length}
use Rattle.py_lexer.proofs.LoopLemmas.{ReadSoFar}
use Rattle.py_lexer.proofs.lines.tokens.Given as goal

abbrev pub invariant-loop-rest : goal.invariant-loop-rest
invariant-loop-rest l = ReadSoFar l.has_mark l.initial.rest l.reader l.rest

abbrev pub decreases-loop-rest : goal.decreases-loop-rest
decreases-loop-rest l = length l.rest
