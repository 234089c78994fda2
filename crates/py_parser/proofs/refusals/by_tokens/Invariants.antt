use Rattle.std.proofs.Common.{◌≡◌, length}
use Rattle.py_grammar.specs.Refusals as spec
use Rattle.py_parser.proofs.refusals.by_tokens.Given as goal

abbrev pub invariant-loop-token : goal.invariant-loop-token
invariant-loop-token l = spec.by_tokens l.tokens ≡ spec.by_tokens l.rest

abbrev pub decreases-loop-token : goal.decreases-loop-token
decreases-loop-token l = length l.rest
