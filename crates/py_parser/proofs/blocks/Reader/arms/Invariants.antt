use Rattle.std.proofs.Common.{◌≡◌, [], ◌∷◌, length}
use Rattle.py_grammar.specs.Blocks.{members}
use Rattle.py_grammar.specs.Compounds.{arms, statements}
use Rattle.py_parser.specs.Reads.{prepend_arms}
use Rattle.py_parser.proofs.blocks.Reader.arms.Given as goal

abbrev pub invariant-loop-member : goal.invariant-loop-member
invariant-loop-member g l = prepend_arms (l.fn.first ∷ []) (arms l.self.scope.place l.self.scope.room (statements l.self.scope.room) l.end (members l.column l.lines))
    ≡ prepend_arms l.all (arms l.self.scope.place l.self.scope.room (statements l.self.scope.room) l.end (members l.column l.rest))

abbrev pub decreases-loop-member : goal.decreases-loop-member
decreases-loop-member g l = length l.rest
