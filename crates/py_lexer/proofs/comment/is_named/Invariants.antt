use Rattle.std.proofs.Common.{◌≡◌, length, map, bytes_eq}
use Rattle.py_language.specs.TokensEncoding.{with_dash}
use Rattle.py_lexer.proofs.comment.is_named.Given as goal

abbrev pub invariant-loop-b : goal.invariant-loop-b
invariant-loop-b l = bytes_eq (map with_dash l.rest) l.expected ≡ bytes_eq (map with_dash l.name) l.wanted

abbrev pub decreases-loop-b : goal.decreases-loop-b
decreases-loop-b l = length l.rest
