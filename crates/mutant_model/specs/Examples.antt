-- Worked examples of mutants.
use Rattle.std.specs.Prelude.{◌≡◌, ℕ, ◌^◌, ◌-◌, pos, true, false, List, [], ◌∷◌, map, Option, None, Some, codes}
use Rattle.pyn_base.specs.declared.ids.NodeId.{NodeId}
use Rattle.py_syntax.specs.declared.expr.Expr.{Expr}
use Rattle.py_syntax.specs.declared.expr.ExprKind.{ExprKind}
use Rattle.py_syntax.specs.declared.expr.ExprKind.TheVariants as x
use Rattle.py_syntax.specs.declared.module.Func.{Func}
use Rattle.py_syntax.specs.declared.module.Item.TheVariants as item
use Rattle.py_syntax.specs.declared.module.Module.{Module}
use Rattle.py_syntax.specs.declared.module.Param.{Param}
use Rattle.py_syntax.specs.declared.operator.BinOp.TheVariants.{Add, Mod}
use Rattle.py_syntax.specs.declared.operator.CmpOp.TheVariants.{Lt, Le, Eq, Contained}
use Rattle.py_syntax.specs.declared.operator.Sign.TheVariants.{Minus}
use Rattle.py_syntax.specs.declared.patch.Change.{Change}
use Rattle.py_syntax.specs.declared.patch.Change.TheVariants as c
use Rattle.py_syntax.specs.declared.patch.Patch.{Patch}
use Rattle.py_syntax.specs.declared.stmt.Clause.{Clause, roll-Clause}
use Rattle.py_syntax.specs.declared.stmt.Stmt.{Stmt}
use Rattle.py_syntax.specs.declared.stmt.StmtKind.{StmtKind}
use Rattle.py_syntax.specs.declared.stmt.StmtKind.TheVariants as y
use Rattle.py_syntax.specs.declared.stmt.Target.TheVariants as target
use Rattle.mutant_model.specs.declared.mutant.Mutant.{Mutant}
use Rattle.report_model.specs.declared.mutant.Operator.{Operator}
use Rattle.report_model.specs.declared.mutant.Operator.TheVariants.{Aod, Aor, Asr, Coi, Crp, Ehd, Exs, Lcr, Ror}
use Rattle.mutant_model.specs.Mutants.{mutants_in}
use Rattle.mutant_model.specs.Rewriting.{rewritten_expr}

abbrev pub n : ℕ → NodeId
n number = record { 0 = number }

abbrev pub e : ℕ → ExprKind → Expr
e number kind = record { node = n number; line = 1; kind = kind }

abbrev pub s : ℕ → StmtKind → Stmt
s number kind = record { node = n number; line = 1; kind = kind }

abbrev pub read : ℕ → List ℕ → Expr
read number name = e number (x.Name name)

abbrev pub int : ℕ → ℕ → Expr
int number value = e number (x.IntLit (pos value))

abbrev pub assign : ℕ → List ℕ → Expr → Stmt
assign number name value = s number (y.Assign (target.Name name ∷ []) false None value)

abbrev pub func : List Stmt → Func
func body = record { node = n 0; name = codes "f"; line = 1; params = []; returns = None; body = body }

-- what a mutant shows: its operator, its node and its row
abbrev pub shown : Mutant → Operator × ℕ × Change
shown m = (m.op, m.node.0, m.patch.change)

-- `if a < 1: return -a`, `"text"`, `a += 2`. The string is a statement; the comparison is a test.
abbrev pub plain : Func
plain = func (s 1 (y.If ((e 2 (x.Compare (read 3 (codes "a")) ((Lt, int 4 1) ∷ [])), s 5 (y.Return (Some (e 6 (x.Unary Minus (read 7 (codes "a")))))) ∷ []) ∷ []) None)
    ∷ s 8 (y.Bare (e 9 (x.StrLit (codes "text")))) ∷ s 10 (y.Augment (target.Name (codes "a")) Add (int 11 2)) ∷ [])

abbrev pub Plain : Type 0
Plain = map shown (mutants_in plain)
    ≡ (Coi, 2, c.NegateTest) ∷ (Ror, 2, c.LtToLe 0) ∷ (Crp, 4, c.NextInteger) ∷ (Aod, 6, c.DropMinus) ∷ (Asr, 10, c.AugmentAddToSub) ∷ (Crp, 11, c.NextInteger) ∷ []

-- `return "" and a < b in c == 5 % "x"`: both comparisons that have a row, at their places, and `%` becomes `//`
abbrev pub chain : Func
chain = func (s 1 (y.Return (Some (e 2 (x.And (e 3 (x.StrLit []) ∷ e 4 (x.Compare (read 5 (codes "a")) ((Lt, read 6 (codes "b")) ∷ (Contained, read 7 (codes "c")) ∷ (Eq, e 8 (x.Binary Mod (int 9 5) (e 10 (x.StrLit (codes "x"))))) ∷ [])) ∷ []))))) ∷ [])

abbrev pub Chain : Type 0
Chain = map shown (mutants_in chain)
    ≡ (Lcr, 2, c.AndToOr) ∷ (Crp, 3, c.FilledString) ∷ (Ror, 4, c.LtToLe 0) ∷ (Ror, 4, c.EqToNe 2) ∷ (Aor, 8, c.ModToFloorDiv) ∷ (Crp, 9, c.NextInteger) ∷ (Crp, 10, c.EmptyString) ∷ []

-- the greatest integer has no next one
abbrev pub Greatest : Type 0
Greatest = mutants_in (func (s 1 (y.Return (Some (int 2 (2 ^ 127 - 1)))) ∷ [])) ≡ []

-- ---- `try: a = b`, `except: ..`

abbrev pub handled : List Stmt → Func
handled body = func (s 1 (y.Try (assign 2 (codes "a") (read 3 (codes "b")) ∷ []) (roll-Clause record { node = n 4; line = 1; classes = None; name = Some (codes "e"); body = body } ∷ []) None None) ∷ [])

-- a body that binds `a`, which the rest binds too; one that binds a name of its own; `pass`; `raise`
abbrev pub Handlers : Type 0
Handlers =
    map (λ body. map shown (mutants_in (handled body)))
    ((assign 5 (codes "a") (read 6 (codes "b")) ∷ []) ∷ (assign 5 (codes "c") (read 6 (codes "b")) ∷ []) ∷ (s 5 y.Pass ∷ []) ∷ (s 5 (y.Raise None) ∷ []) ∷ [])
    ≡ ((Ehd, 4, c.ClauseToRaise) ∷ (Exs, 4, c.ClauseToPass) ∷ []) ∷ [] ∷ ((Ehd, 4, c.ClauseToRaise) ∷ []) ∷ ((Exs, 4, c.ClauseToPass) ∷ []) ∷ []

-- ---- what is made of `a < 1`, a comparison and an integer

abbrev pub less : Expr
less = e 2 (x.Compare (read 3 (codes "a")) ((Lt, int 4 1) ∷ []))

abbrev pub patch : ℕ → Change → Patch
patch number change = record { node = n number; change = change }

abbrev pub NextInteger : Type 0
NextInteger = rewritten_expr (patch 4 c.NextInteger) (int 4 1) ≡ int 4 2

-- another node's row changes nothing
abbrev pub Elsewhere : Type 0
Elsewhere = rewritten_expr (patch 5 c.NextInteger) (int 4 1) ≡ int 4 1

-- `a <= 1`
abbrev pub LessOrEqual : Type 0
LessOrEqual = rewritten_expr (patch 2 (c.LtToLe 0)) less ≡ e 2 (x.Compare (read 3 (codes "a")) ((Le, int 4 1) ∷ []))

-- `not a < 1`
abbrev pub Negated : Type 0
Negated = rewritten_expr (patch 2 c.NegateTest) less ≡ e 0 (x.Not less)
