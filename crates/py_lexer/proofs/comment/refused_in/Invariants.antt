use Rattle.std.proofs.Common.{◌≡◌, length}
use Rattle.py_language.specs.TokensCharacters.{decoded}
use Rattle.py_language.specs.TokensFaults.{first_refused}
use Rattle.py_lexer.proofs.comment.refused_in.Given as goal

abbrev pub invariant-loop-b : goal.invariant-loop-b
invariant-loop-b l = first_refused (decoded l.rest) ≡ first_refused (decoded l.text)

abbrev pub decreases-loop-b : goal.decreases-loop-b
decreases-loop-b l = length l.rest
