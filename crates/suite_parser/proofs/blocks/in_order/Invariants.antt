use Rattle.std.proofs.Common.{◌≡◌, List, Option, Result, length}
use Rattle.py_language.specs.declared.token.Logical.{Logical}
use Rattle.py_syntax.specs.declared.refusal.Refusal.{Refusal}
use Rattle.py_grammar.specs.Blocks.{Group}
use Rattle.py_parser.specs.Reads.{prepend}
use Rattle.suite_grammar.specs.Files.{lines_by}
use Rattle.suite_parser.specs.Reads.{Answers, Forms}
use Rattle.suite_parser.proofs.blocks.in_order.Given as goal

abbrev pub invariant-loop-group : goal.invariant-loop-group
invariant-loop-group g l = (form : Logical → Option _) (f : Option Refusal → Group → _ → Result (List _) Refusal) → Forms form (goal.R-post g l.read) → Answers f (goal.G-post g l.statement)
    → lines_by l.scope.place l.scope.room form f l.column l.end l.lines ≡ prepend l.all (lines_by l.scope.place l.scope.room form f l.column l.end l.rest)

abbrev pub decreases-loop-group : goal.decreases-loop-group
decreases-loop-group g l = length l.rest
