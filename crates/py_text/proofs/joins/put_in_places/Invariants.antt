use Rattle.std.proofs.Common.{◌≡◌, ◌++◌, length}
use Rattle.py_meaning.specs.Texts.{joined, pieces}
use Rattle.py_text.proofs.joins.put_in_places.Given as goal

abbrev pub invariant-loop-made : goal.invariant-loop-made
invariant-loop-made l = l.made.items ++ joined l.new (pieces l.part l.rest) ≡ joined l.new (pieces l.part l.text)

abbrev pub decreases-loop-made : goal.decreases-loop-made
decreases-loop-made l = length l.rest
