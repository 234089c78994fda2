-- Worked examples of goals: each shows the kind, the line and the parent of the goals of function 0.
use Rattle.std.specs.Prelude.{◌≡◌, ℕ, true, false, Bool, List, [], ◌∷◌, map, Option, None, Some, codes}
use Rattle.pyn_base.specs.declared.ids.FuncId.{FuncId}
use Rattle.pyn_base.specs.declared.ids.NodeId.{NodeId}
use Rattle.py_syntax.specs.declared.expr.Expr.{Expr}
use Rattle.py_syntax.specs.declared.expr.ExprKind.TheVariants as x
use Rattle.py_syntax.specs.declared.module.Func.{Func}
use Rattle.py_syntax.specs.declared.stmt.Clause.{Clause, roll-Clause}
use Rattle.py_syntax.specs.declared.stmt.Stmt.{Stmt}
use Rattle.py_syntax.specs.declared.stmt.StmtKind.{StmtKind}
use Rattle.py_syntax.specs.declared.stmt.StmtKind.TheVariants as y
use Rattle.py_plain.specs.Tests.{Began}
use Rattle.goal_model.specs.declared.kind.GoalKind.{GoalKind}
use Rattle.goal_model.specs.declared.kind.GoalKind.TheVariants.{Entry, Branch, Reached}
use Rattle.goal_model.specs.Goals.{Goal, goals_in}
use Rattle.goal_model.specs.Parents.{chain, targets}
use Rattle.goal_model.specs.Taken.{is_taken}

abbrev pub n : ℕ → NodeId
n number = record { 0 = number }

abbrev pub f0 : FuncId
f0 = record { 0 = 0 }

abbrev pub e : ℕ → ℕ → Expr
e number line = record { node = n number; line = line; kind = x.NoneLit }

abbrev pub s : ℕ → ℕ → StmtKind → Stmt
s number line kind = record { node = n number; line = line; kind = kind }

abbrev pub pass : ℕ → ℕ → Stmt
pass number line = s number line y.Pass

abbrev pub clause : ℕ → ℕ → List Stmt → Clause
clause number line body = roll-Clause record { node = n number; line = line; classes = None; name = None; body = body }

abbrev pub func : List Stmt → Func
func body = record { node = n 0; name = codes "f"; line = 1; params = []; returns = None; body = body }

-- what a goal shows
abbrev pub shown : Goal → GoalKind × ℕ × Option GoalKind
shown goal = (goal.kind, goal.line, goal.parent)

abbrev pub entry : GoalKind × ℕ × Option GoalKind
entry = (Entry f0, 1, None)

abbrev pub line : ℕ → ℕ → GoalKind → GoalKind × ℕ × Option GoalKind
line number l governor = (Reached (n number), l, Some governor)

abbrev pub outcome : ℕ → Bool → ℕ → GoalKind → GoalKind × ℕ × Option GoalKind
outcome number wanted l governor = (Branch (n number) wanted, l, Some governor)

abbrev pub top : GoalKind
top = Entry f0

-- `def f(): pass; pass`
abbrev pub one_line : Func
one_line = func (pass 1 1 ∷ pass 2 1 ∷ [])

abbrev pub OneLine : Type 0
OneLine = map shown (goals_in f0 one_line) ≡ entry ∷ line 1 1 top ∷ []

-- the line is taken by its second statement too
abbrev pub Taken : Type 0
Taken = map (is_taken (Began (n 2) ∷ [])) (goals_in f0 one_line) ≡ false ∷ true ∷ []

-- line 2 `if None: pass`, line 3 `elif None: pass`, line 4 `else: pass`, line 5 `assert None`
abbrev pub decided : Func
decided = func (s 1 2 (y.If ((e 2 2, pass 3 2 ∷ []) ∷ (e 4 3, pass 5 3 ∷ []) ∷ []) (Some (pass 6 4 ∷ []))) ∷ s 7 5 (y.Assert (e 8 5) None) ∷ [])

abbrev pub Branches : Type 0
Branches = map shown (goals_in f0 decided)
    ≡ entry ∷ line 1 2 top ∷ outcome 2 true 2 top ∷ outcome 2 false 2 top
    ∷ outcome 4 true 3 (Branch (n 2) false) ∷ outcome 4 false 3 (Branch (n 2) false) ∷ line 5 3 (Branch (n 4) true)
    ∷ line 6 4 (Branch (n 4) false) ∷ line 7 5 top ∷ outcome 8 true 5 top ∷ outcome 8 false 5 top ∷ []

-- the chain of the line in the `elif`: the entry, the first test's false, the second's true
abbrev pub Chains : Type 0
Chains = chain (goals_in f0 decided) 6 ≡ 0 ∷ 3 ∷ 4 ∷ 6 ∷ []

-- where the entry and the first test's false are covered
abbrev pub Targets : Type 0
Targets = targets (goals_in f0 decided) (0 ∷ 3 ∷ []) ≡ 1 ∷ 2 ∷ 4 ∷ 5 ∷ 8 ∷ 9 ∷ 10 ∷ []

-- line 2 `while None:`, line 3 `for a in None:`, line 4 `pass`
abbrev pub Loops : Type 0
Loops = map shown (goals_in f0 (func (s 1 2 (y.While (e 2 2) (s 3 3 (y.For (codes "a" ∷ []) false (e 4 3) (pass 5 4 ∷ [])) ∷ [])) ∷ [])))
    ≡ entry ∷ line 1 2 top ∷ outcome 2 true 2 top ∷ outcome 2 false 2 top ∷ line 3 3 (Branch (n 2) true)
    ∷ outcome 3 true 3 (Branch (n 2) true) ∷ outcome 3 false 3 (Branch (n 2) true) ∷ line 5 4 (Branch (n 3) true) ∷ []

-- `try:`, `pass`, `except:`, `pass`, `else:`, `pass`, `finally:`, `pass`, each on its line from line 2 on
abbrev pub Handlers : Type 0
Handlers = map shown (goals_in f0 (func (s 1 2 (y.Try (pass 2 3 ∷ []) (clause 3 4 (pass 4 5 ∷ []) ∷ []) (Some (pass 5 7 ∷ [])) (Some (pass 6 9 ∷ []))) ∷ [])))
    ≡ entry ∷ line 1 2 top ∷ line 2 3 top ∷ outcome 3 true 4 top ∷ outcome 3 false 4 top ∷ line 4 5 (Branch (n 3) true)
    ∷ line 5 7 top ∷ line 6 9 top ∷ []
