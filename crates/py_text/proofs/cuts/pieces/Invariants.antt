use Rattle.std.proofs.Common.{◌≡◌, ◌++◌, length}
use Rattle.py_meaning.specs.Texts.{pieces}
use Rattle.py_text.proofs.cuts.pieces.Given as goal

abbrev pub invariant-loop-pieces : goal.invariant-loop-pieces
invariant-loop-pieces l = l.pieces.items ++ pieces l.part l.rest ≡ pieces l.part l.text

abbrev pub decreases-loop-pieces : goal.decreases-loop-pieces
decreases-loop-pieces l = length l.rest
