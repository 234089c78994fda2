-- Constants: literals, `-` before an integer, tuples of constants, and names of earlier ones. A tuple's value is at most 50 deep.
use Rattle.std.specs.Prelude.{ℕ, suc, Bool, true, false, ◌||◌, nat_le, if◌then◌else◌, List, [], ◌∷◌, max, map, Option, Some, None, is_some}
use Rattle.std.specs.List.{list_any}
use Rattle.std.specs.Option.{option_map}
use Rattle.py_syntax.specs.declared.expr.Args.{Args, Args-F, fold-Args}
use Rattle.py_syntax.specs.declared.expr.Expr.{Expr, Expr-F, fold-Expr}
use Rattle.py_syntax.specs.declared.expr.ExprKind.{ExprKind, ExprKind-F, fold-ExprKind}
use Rattle.py_syntax.specs.declared.operator.Sign.{Sign}
use Rattle.py_syntax.specs.declared.operator.Sign.TheVariants.{Minus, Plus}
use Rattle.py_meaning.specs.Methods.{Names, named}

abbrev pub deepest : ℕ
deepest = 50

-- what is known of a constant: whether it is an integer as it is written, and how deep its value is; of no tuple that is 0
pub record Constant : Type 0 where
  pub is_integer : Bool
  pub depth : ℕ

abbrev pub of_depth : ℕ → Constant
of_depth depth = record { is_integer = false; depth = depth }

abbrev pub integer : Constant
integer = record { is_integer = true; depth = 0 }

-- by the depths of earlier constants
abbrev pub Judge : Type 0
Judge = Names ℕ → Option Constant

abbrev pub signed : Sign → Option Constant → Option Constant
signed Plus x = None
signed Minus None = None
signed Minus (Some x) = if x.is_integer then Some (of_depth 0) else None

abbrev pub deeper : ℕ → Option Constant → Option ℕ
deeper depth None = None
deeper depth (Some x) = Some (max depth x.depth)

-- the depth of the deepest part, where all parts are constants
abbrev pub deepest_part : List (Option Constant) → Option ℕ
deepest_part [] = Some 0
deepest_part (None ∷ parts) = None
deepest_part (Some x ∷ parts) = option_map (λ depth. max depth x.depth) (deepest_part parts)

abbrev pub tuple_of : Option ℕ → Option Constant
tuple_of None = None
tuple_of (Some depth) = if nat_le (suc depth) deepest then Some (of_depth (suc depth)) else None

abbrev pub constant_by : ExprKind-F Judge (Unit {0}) Judge → Judge
constant_by ExprKind-F.NoneLit names = Some (of_depth 0)
constant_by (ExprKind-F.BoolLit b) names = Some (of_depth 0)
constant_by (ExprKind-F.IntLit n) names = Some integer
constant_by (ExprKind-F.StrLit text) names = Some (of_depth 0)
constant_by (ExprKind-F.TupleLit parts) names = tuple_of (deepest_part (map (λ part. part names) parts))
constant_by (ExprKind-F.Unary sign part) names = signed sign (part names)
constant_by (ExprKind-F.Name name) names = option_map of_depth (named names name)
constant_by _ names = None

abbrev pub no_constant : Args-F Judge (Unit {0}) Judge → Unit {0}
no_constant args = tt

abbrev pub constant_of_expr : Expr-F Judge (Unit {0}) Judge → Judge
constant_of_expr x = x.kind

unfoldable pub constant : Expr → Judge
constant = fold-Expr Judge (Unit {0}) Judge constant_by no_constant constant_of_expr

unfoldable pub constant_kind : ExprKind → Judge
constant_kind = fold-ExprKind Judge (Unit {0}) Judge constant_by no_constant constant_of_expr

unfoldable pub constant_args : Args → Unit {0}
constant_args = fold-Args Judge (Unit {0}) Judge constant_by no_constant constant_of_expr

abbrev pub is_constant : Names ℕ → Expr → Bool
is_constant names x = is_some (constant x names)

-- ---- whether an expression has a list or dict display anywhere

abbrev pub maybe : Option Bool → Bool
maybe None = false
maybe (Some b) = b

abbrev pub any : List Bool → Bool
any parts = list_any (λ b. b) parts

abbrev pub display_by : ExprKind-F Bool Bool Bool → Bool
display_by (ExprKind-F.ListLit xs) = true
display_by (ExprKind-F.DictLit pairs) = true
display_by (ExprKind-F.TupleLit xs) = any xs
display_by (ExprKind-F.Attr x name) = x
display_by (ExprKind-F.Index x i) = x || i
display_by (ExprKind-F.Slice x low high) = x || maybe low || maybe high
display_by (ExprKind-F.Call x args) = x || args
display_by (ExprKind-F.Method x name args) = x || args
display_by (ExprKind-F.Super name args) = args
display_by (ExprKind-F.Unary sign x) = x
display_by (ExprKind-F.Not x) = x
display_by (ExprKind-F.Binary op a b) = a || b
display_by (ExprKind-F.And xs) = any xs
display_by (ExprKind-F.Or xs) = any xs
display_by (ExprKind-F.Compare x pairs) = x || list_any (λ pair. pair.1) pairs
display_by (ExprKind-F.Cond a test b) = a || test || b
display_by _ = false

abbrev pub display_in_args : Args-F Bool Bool Bool → Bool
display_in_args args = any args.plain || list_any (λ row. row.1) args.named

abbrev pub display_in : Expr-F Bool Bool Bool → Bool
display_in x = x.kind

unfoldable pub has_display : Expr → Bool
has_display = fold-Expr Bool Bool Bool display_by display_in_args display_in

unfoldable pub display_in_kind : ExprKind → Bool
display_in_kind = fold-ExprKind Bool Bool Bool display_by display_in_args display_in

unfoldable pub display_of_args : Args → Bool
display_of_args = fold-Args Bool Bool Bool display_by display_in_args display_in
