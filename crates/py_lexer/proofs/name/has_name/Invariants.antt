use Rattle.std.proofs.Common.{◌≡◌, length, bytes_eq}
use Rattle.std.specs.Str.{str_to_ascii_lowercase}
use Rattle.py_lexer.proofs.name.has_name.Given as goal

abbrev pub invariant-loop-e : goal.invariant-loop-e
invariant-loop-e l = bytes_eq l.expected (str_to_ascii_lowercase l.rest) ≡ bytes_eq l.lower (str_to_ascii_lowercase l.text)

abbrev pub decreases-loop-e : goal.decreases-loop-e
decreases-loop-e l = length l.expected
