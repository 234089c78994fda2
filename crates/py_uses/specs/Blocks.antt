-- The uses of lists of parts, and what is wrong with arguments, as it is found.
use Rattle.std.specs.Prelude.{ℕ, Bool, true, false, ◌||◌, nat_lt, List, [], ◌∷◌, ◌++◌, map, max, Option, Some, None}
use Rattle.std.specs.List.{flat_map, list_any}
use Rattle.py_syntax.specs.declared.expr.Args.{Args, out-Args}
use Rattle.py_syntax.specs.declared.expr.Expr.{Expr}
use Rattle.py_syntax.specs.declared.module.Func.{Func}
use Rattle.py_syntax.specs.declared.module.Param.{Param}
use Rattle.py_syntax.specs.declared.operator.CmpOp.{CmpOp}
use Rattle.py_syntax.specs.declared.stmt.Clause.{Clause}
use Rattle.py_syntax.specs.declared.stmt.Stmt.{Stmt}
use Rattle.py_syntax.specs.declared.stmt.StmtKind.{StmtKind, StmtKind-F, out-StmtKind}
use Rattle.py_meaning.specs.Methods.{is_among}
use Rattle.py_scopes.specs.Pieces.{param_uses}
use Rattle.py_scopes.specs.Uses.{Uses, Around, Argument, Binds, Defines, at, annotated, uses_of, uses_in, uses_in_clause, uses_of_body}

abbrev pub pair_uses : Expr × Expr → Uses
pair_uses pair = uses_of pair.0 ++ uses_of pair.1

abbrev pub operand_uses : CmpOp × Expr → Uses
operand_uses pair = uses_of pair.1

abbrev pub named_uses : ℕ → List ℕ × Expr → Uses
named_uses line row = at line (Argument row.0) ++ uses_of row.1

abbrev pub body_uses : Around → List Stmt → Uses
body_uses around body = flat_map (λ stmt. uses_in stmt around) body

abbrev pub maybe_body : Around → Option (List Stmt) → Uses
maybe_body around None = []
maybe_body around (Some body) = body_uses around body

abbrev pub arm_uses : Around → Expr × List Stmt → Uses
arm_uses around arm = uses_of arm.0 ++ body_uses around arm.1

abbrev pub clauses_uses : Around → List Clause → Uses
clauses_uses around clauses = flat_map (λ clause. uses_in_clause clause around) clauses

abbrev pub if_node : StmtKind-F StmtKind Clause Stmt → Bool
if_node (StmtKind-F.If arms other) = true
if_node _ = false

abbrev pub is_if : StmtKind → Bool
is_if kind = if_node (out-StmtKind kind)

-- ---- arguments

-- the greatest number of expressions, or 0
abbrev pub greatest : List Expr → ℕ
greatest [] = 0
greatest (x ∷ xs) = max x.node.0 (greatest xs)

-- whether some plain argument stands after some named one
abbrev pub mixes : List Expr → List (List ℕ × Expr) → Bool
mixes plain named = list_any (λ row. nat_lt row.1.node.0 (greatest plain)) named

abbrev pub name_of : List ℕ × Expr → List ℕ
name_of row = row.0

-- whether a name is listed more than once
abbrev pub has_twice : List (List ℕ) → Bool
has_twice [] = false
has_twice (name ∷ names) = is_among names name || has_twice names

abbrev pub misplaced : List Expr → List (List ℕ × Expr) → Bool
misplaced plain named = mixes plain named || has_twice (map name_of named)

abbrev pub are_misplaced : Args → Bool
are_misplaced args = misplaced (out-Args args).plain (out-Args args).named

-- ---- functions

abbrev pub bound_params : List Param → Uses
bound_params params = flat_map (λ (p : Param). at p.line (Binds p.name)) params

-- what stands in a `def` line but its parameters' names
abbrev pub header_uses : Func → Uses
header_uses f = at f.line (Defines f.name) ++ flat_map param_uses f.params ++ annotated f.line f.returns

-- the parameters' names and the body
abbrev pub frame_uses : Func → Uses
frame_uses f = bound_params f.params ++ uses_of_body f.body
