-- Worked examples: of plain lines, on points as they are read, and of how statements lie on lines.
use Rattle.std.specs.Prelude.{None, Some, List, [], false, true, ℕ, ◌∷◌, ◌≡◌}
use Rattle.pyn_base.specs.declared.ids.FuncId.{FuncId}
use Rattle.pyn_base.specs.declared.ids.NodeId.{NodeId}
use Rattle.py_syntax.specs.declared.stmt.Stmt.{Stmt}
use Rattle.py_syntax.specs.declared.stmt.StmtKind.{StmtKind}
use Rattle.py_syntax.specs.declared.stmt.StmtKind.TheVariants as s
use Rattle.goal_model.specs.declared.kind.GoalKind.{GoalKind}
use Rattle.goal_model.specs.declared.kind.GoalKind.TheVariants.{Branch, Entry}
use Rattle.goal_model.specs.declared.point.Point.{Point}
use Rattle.goal_model.specs.declared.point.Point.TheVariants.{Decision, Statement}
use Rattle.line_laws.specs.Layout.{InLines}
use Rattle.line_laws.specs.PlainLines.{are_plain}

abbrev pub n : ℕ → NodeId
n number = record { 0 = number }

abbrev pub top : GoalKind
top = let f : FuncId = record { 0 = 0 } in Entry f

abbrev pub held : ℕ → GoalKind
held number = Branch (n number) true

-- `pass; pass`, and then `if None: pass; pass` on the next line
abbrev pub grammatical : List Point
grammatical = Statement (n 1) 2 top ∷ Statement (n 2) 2 top
    ∷ Statement (n 3) 3 top ∷ Decision (n 4) 3 top ∷ Statement (n 5) 3 (held 4) ∷ Statement (n 6) 3 (held 4) ∷ []

abbrev pub Plain : Type 0
Plain = are_plain grammatical grammatical ≡ true

-- `if None: while None: pass` on one line, which the grammar has not
abbrev pub nested : List Point
nested = Statement (n 1) 2 top ∷ Decision (n 2) 2 top ∷ Statement (n 3) 2 (held 2) ∷ Decision (n 4) 2 (held 2) ∷ Statement (n 5) 2 (held 4) ∷ []

abbrev pub Nested : Type 0
Nested = are_plain nested nested ≡ false

-- a block whose statements have the header's line, and none of its decisions
abbrev pub astray : List Point
astray = Statement (n 1) 2 top ∷ Statement (n 2) 2 (held 9) ∷ []

abbrev pub Astray : Type 0
Astray = are_plain astray astray ≡ false

-- ---- statements on lines

abbrev pub on : ℕ → StmtKind → Stmt
on line kind = record { node = n 0; line = line; kind = kind }

-- `pass; pass` on line 2; `try: pass; pass` on line 3; `finally:` on line 4, with its block on line 5; and `pass` on line 6
abbrev pub tried : Stmt
tried = on 3 (s.Try (on 3 s.Pass ∷ on 3 s.Pass ∷ []) [] None (Some (on 5 s.Pass ∷ [])))

abbrev pub spread : List Stmt
spread = on 2 s.Pass ∷ on 2 s.Pass ∷ tried ∷ on 6 s.Pass ∷ []

abbrev pub LiesOnLines : Type 0
LiesOnLines = InLines 2 2 7 spread

-- `try: try: pass` on line 2, which the grammar has not, whatever is behind it
abbrev pub crowded : List Stmt → List Stmt
crowded last = on 2 (s.Try (on 2 (s.Try (on 2 s.Pass ∷ []) [] None (Some last)) ∷ []) [] None (Some last)) ∷ []

abbrev pub LiesNowhere : Type 0
LiesNowhere = (room start end : ℕ) (last : List Stmt) → InLines room start end (crowded last) → ⊥
