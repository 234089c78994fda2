use Rattle.std.proofs.Common.{◌≡◌, List, Option, Result, length}
use Rattle.py_syntax.specs.declared.refusal.Refusal.{Refusal}
use Rattle.py_grammar.specs.declared.form.Form.{Form}
use Rattle.py_grammar.specs.Blocks.{Group, lines_at}
use Rattle.py_parser.specs.Reads.{Answers, prepend}
use Rattle.py_parser.proofs.blocks.Scope.in_order.Given as goal

abbrev pub invariant-loop-group : goal.invariant-loop-group
invariant-loop-group g l = (f : Option Refusal → Group → Form → Result (List _) Refusal) → Answers f (goal.G-post g l.statement)
    → lines_at l.self.place l.self.room f l.column l.end l.lines ≡ prepend l.all (lines_at l.self.place l.self.room f l.column l.end l.rest)

abbrev pub decreases-loop-group : goal.decreases-loop-group
decreases-loop-group g l = length l.rest
