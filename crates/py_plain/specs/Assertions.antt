-- The assertions of a suite file: `assert S is None` (or True, or False), `assert S == DISPLAY` and `assert isinstance(NAME, CLASS)`. S is a
-- variable or an attribute of one (Language Reference 7.3).
use Rattle.std.specs.Prelude.{ℕ, zero, suc, Bool, true, false, ◌&&◌, List, [], ◌∷◌, None, bytes_eq, codes}
use Rattle.std.specs.List.{list_all}
use Rattle.py_syntax.specs.declared.expr.Args.{Args, out-Args}
use Rattle.py_syntax.specs.declared.expr.Expr.{Expr}
use Rattle.py_syntax.specs.declared.expr.ExprKind.{ExprKind, ExprKind-F}
use Rattle.py_syntax.specs.declared.operator.CmpOp.{CmpOp}
use Rattle.py_syntax.specs.declared.operator.CmpOp.TheVariants.{Eq, Same}
use Rattle.py_syntax.specs.declared.operator.Sign.TheVariants.{Minus}
use Rattle.py_syntax.specs.declared.stmt.Clause.{Clause}
use Rattle.py_syntax.specs.declared.stmt.Stmt.{Stmt}
use Rattle.py_syntax.specs.declared.stmt.StmtKind.{StmtKind, StmtKind-F}
use Rattle.py_plain.specs.Nodes.{kind_of_expr, kind_of_stmt}

abbrev pub ExprNode : Type 0
ExprNode = ExprKind-F ExprKind Args Expr

-- ---- subjects: `NAME` and `NAME.NAME`

abbrev pub is_name : ExprNode → Bool
is_name (ExprKind-F.Name name) = true
is_name _ = false

abbrev pub is_subject : ExprNode → Bool
is_subject (ExprKind-F.Name name) = true
is_subject (ExprKind-F.Attr of name) = is_name (kind_of_expr of)
is_subject _ = false

-- ---- what `is` compares with

abbrev pub is_truth_or_none : ExprNode → Bool
is_truth_or_none ExprKind-F.NoneLit = true
is_truth_or_none (ExprKind-F.BoolLit b) = true
is_truth_or_none _ = false

-- ---- displays: literals, integers with a minus, and lists, tuples and dicts of displays

abbrev pub is_integer : ExprNode → Bool
is_integer (ExprKind-F.IntLit n) = true
is_integer _ = false

module _ (is_part : Expr → Bool) where
  abbrev pub is_display_by : ExprNode → Bool
  is_display_by ExprKind-F.NoneLit = true
  is_display_by (ExprKind-F.BoolLit b) = true
  is_display_by (ExprKind-F.IntLit n) = true
  is_display_by (ExprKind-F.StrLit text) = true
  is_display_by (ExprKind-F.Unary Minus e) = is_integer (kind_of_expr e)
  is_display_by (ExprKind-F.ListLit items) = list_all is_part items
  is_display_by (ExprKind-F.TupleLit parts) = list_all is_part parts
  is_display_by (ExprKind-F.DictLit pairs) = list_all (λ pair. is_part pair.0 && is_part pair.1) pairs
  is_display_by _ = false

-- a display of at most so many levels
abbrev pub is_display : ℕ → Expr → Bool
is_display zero e = false
is_display (suc levels) e = is_display_by (is_display levels) (kind_of_expr e)

-- ---- classes: `NAME`, and `module_0.NAME`

abbrev pub names_module : ExprNode → Bool
names_module (ExprKind-F.Name name) = bytes_eq name (codes "module_0")
names_module _ = false

abbrev pub is_class : ExprNode → Bool
is_class (ExprKind-F.Name name) = true
is_class (ExprKind-F.Attr of name) = names_module (kind_of_expr of)
is_class _ = false

-- ---- assertions

-- a subject and a class, and nothing else
abbrev pub asks_class : List Expr → List (List ℕ × Expr) → Bool
asks_class (subject ∷ class ∷ []) [] = is_name (kind_of_expr subject) && is_class (kind_of_expr class)
asks_class _ _ = false

abbrev pub calls_isinstance : ExprNode → Bool
calls_isinstance (ExprKind-F.Name name) = bytes_eq name (codes "isinstance")
calls_isinstance _ = false

module _ (levels : ℕ) where
  abbrev pub is_comparison : ExprNode → List (CmpOp × Expr) → Bool
  is_comparison subject ((Same, e) ∷ []) = is_subject subject && is_truth_or_none (kind_of_expr e)
  is_comparison subject ((Eq, e) ∷ []) = is_subject subject && is_display levels e
  is_comparison subject _ = false

  abbrev pub is_condition : ExprNode → Bool
  is_condition (ExprKind-F.Compare subject others) = is_comparison (kind_of_expr subject) others
  is_condition (ExprKind-F.Call called args) = calls_isinstance (kind_of_expr called) && asks_class (out-Args args).plain (out-Args args).named
  is_condition _ = false

  abbrev pub is_assertion_by : StmtKind-F StmtKind Clause Stmt → Bool
  is_assertion_by (StmtKind-F.Assert condition None) = is_condition (kind_of_expr condition)
  is_assertion_by _ = false

  -- an assertion whose display has at most so many levels
  abbrev pub is_assertion : Stmt → Bool
  is_assertion stmt = is_assertion_by (kind_of_stmt stmt)
