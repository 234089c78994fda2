use Rattle.std.proofs.Common.{◌≡◌, length}
use Rattle.py_language.specs.TokensEncoding.{declared_encoding}
use Rattle.py_lexer.proofs.comment.declared_encoding.Given as goal

abbrev pub invariant-loop-more : goal.invariant-loop-more
invariant-loop-more l = declared_encoding l.rest ≡ declared_encoding l.text

abbrev pub decreases-loop-more : goal.decreases-loop-more
decreases-loop-more l = length l.rest
