use Rattle.std.proofs.Common.{◌≡◌, length}
use Rattle.py_grammar.specs.Blocks.{members}
use Rattle.py_grammar.specs.Compounds.{handlers, statements}
use Rattle.py_parser.specs.Reads.{prepend_clauses}
use Rattle.py_parser.proofs.blocks.Reader.handlers.Given as goal

abbrev pub invariant-loop-member : goal.invariant-loop-member
invariant-loop-member g l = handlers l.self.scope.place l.self.scope.room (statements l.self.scope.room) l.end (members l.column l.lines)
    ≡ prepend_clauses l.all (handlers l.self.scope.place l.self.scope.room (statements l.self.scope.room) l.end (members l.column l.rest))

abbrev pub decreases-loop-member : goal.decreases-loop-member
decreases-loop-member g l = length l.rest
