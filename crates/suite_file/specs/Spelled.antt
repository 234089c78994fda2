-- Of which form a statement of a suite file is, whatever numbers and lines its nodes have: the forms of `suite_model`'s Statements and Assertions, read back
-- (Language Reference 6 and 7).
use Rattle.std.specs.Prelude.{ℕ, suc, ◌^◌, ◌-◌, ◌==◌, min, pos, negsuc, Bool, true, false, not, ◌&&◌, ◌||◌, if◌then◌else◌, List, [], ◌∷◌, map, take, drop, Option, Some, None, option_and_then, bytes_eq, codes}
use Rattle.std.specs.Option.{option_map}
use Rattle.std.specs.Str.{all_ascii_digits}
use Rattle.std.specs.Str.Parse.{digits_value}
use Rattle.py_syntax.specs.declared.expr.Args.{Args, Args-F, out-Args, fold-Args}
use Rattle.py_syntax.specs.declared.expr.Expr.{Expr, Expr-F, fold-Expr}
use Rattle.py_syntax.specs.declared.expr.ExprKind.{ExprKind, ExprKind-F, fold-ExprKind}
use Rattle.py_syntax.specs.declared.operator.CmpOp.{CmpOp}
use Rattle.py_syntax.specs.declared.operator.CmpOp.TheVariants.{Eq, Same}
use Rattle.py_syntax.specs.declared.operator.Sign.{Sign}
use Rattle.py_syntax.specs.declared.operator.Sign.TheVariants.{Minus}
use Rattle.py_syntax.specs.declared.stmt.Clause.{Clause}
use Rattle.py_syntax.specs.declared.stmt.Stmt.{Stmt}
use Rattle.py_syntax.specs.declared.stmt.StmtKind.{StmtKind, StmtKind-F}
use Rattle.py_syntax.specs.declared.stmt.Target.{Target}
use Rattle.py_syntax.specs.declared.stmt.Target.TheVariants as target
use Rattle.py_plain.specs.Assertions.{ExprNode}
use Rattle.py_plain.specs.Nodes.{kind_of_expr, kind_of_stmt}
use Rattle.suite_model.specs.declared.suite.Shown.{Shown}
use Rattle.suite_model.specs.declared.suite.Shown.TheVariants as shown
use Rattle.suite_model.specs.declared.suite.Subject.{Subject}
use Rattle.suite_model.specs.declared.suite.Subject.TheVariants.{Whole, Attr}
use Rattle.suite_model.specs.declared.test.Primitive.{Primitive}
use Rattle.suite_model.specs.declared.test.Primitive.TheVariants as prim
use Rattle.suite_file.specs.declared.spelled.Asked.{Asked}
use Rattle.suite_file.specs.declared.spelled.Asked.TheVariants as asked
use Rattle.suite_file.specs.declared.spelled.Named.{Named}
use Rattle.suite_file.specs.declared.spelled.Named.TheVariants as named
use Rattle.suite_file.specs.declared.spelled.Right.{Right}
use Rattle.suite_file.specs.declared.spelled.Right.TheVariants as right
use Rattle.suite_file.specs.declared.spelled.Spelled.{Spelled}
use Rattle.suite_file.specs.declared.spelled.Spelled.TheVariants as spelled

abbrev pub is_empty : {A : Type 0} → List A → Bool
is_empty [] = true
is_empty (a ∷ more) = false

infixl 10 ◌>>=◌
abbrev pub ◌>>=◌ : {A B : Type 0} → Option A → (A → Option B) → Option B
o >>= f = option_and_then f o

-- where all are there
abbrev pub all_of : {A : Type 0} → List (Option A) → Option (List A)
all_of [] = Some []
all_of (x ∷ xs) = x >>= λ a. all_of xs >>= λ more. Some (a ∷ more)

abbrev pub both_of : {A : Type 0} → Option A × Option A → Option (A × A)
both_of pair = pair.0 >>= λ a. pair.1 >>= λ b. Some (a, b)

-- ---- variables: `var_K`, where K has no sign and no zero in front

-- No test has so many steps that one has this number.
abbrev pub beyond : ℕ
beyond = 2 ^ 32 - 1

abbrev pub zero_code : ℕ
zero_code = 48

abbrev pub is_numeral : List ℕ → Bool
is_numeral [] = false
is_numeral (c ∷ digits) = all_ascii_digits (c ∷ digits) && (not (c == zero_code) || is_empty digits)

abbrev pub numeral : List ℕ → Option ℕ
numeral digits = if is_numeral digits then Some (min (digits_value 10 digits) beyond) else None

abbrev pub variable_named : List ℕ → Option ℕ
variable_named name = if bytes_eq (take 4 name) (codes "var_") then numeral (drop 4 name) else None

abbrev pub variable_by : ExprNode → Option ℕ
variable_by (ExprKind-F.Name name) = variable_named name
variable_by _ = None

abbrev pub variable_in : Expr → Option ℕ
variable_in e = variable_by (kind_of_expr e)

abbrev pub variables_in : List Expr → Option (List ℕ)
variables_in es = all_of (map variable_in es)

abbrev pub pair_in : Expr × Expr → Option (ℕ × ℕ)
pair_in pair = both_of (variable_in pair.0, variable_in pair.1)

abbrev pub pairs_in : List (Expr × Expr) → Option (List (ℕ × ℕ))
pairs_in pairs = all_of (map pair_in pairs)

-- ---- literals, and `-` before an integer that isn't 0

abbrev pub negated : Primitive → Option Primitive
negated (prim.Int (pos (suc n))) = Some (prim.Int (negsuc n))
negated _ = None

abbrev pub signed : Sign → Primitive → Option Primitive
signed Minus p = negated p
signed _ p = None

abbrev pub integer_by : ExprNode → Option Primitive
integer_by (ExprKind-F.IntLit n) = Some (prim.Int n)
integer_by _ = None

abbrev pub literal_by : ExprNode → Option Primitive
literal_by ExprKind-F.NoneLit = Some prim.None
literal_by (ExprKind-F.BoolLit b) = Some (prim.Bool b)
literal_by (ExprKind-F.IntLit n) = Some (prim.Int n)
literal_by (ExprKind-F.StrLit text) = Some (prim.Str text)
literal_by (ExprKind-F.Unary sign e) = integer_by (kind_of_expr e) >>= signed sign
literal_by _ = None

-- ---- what a step makes

abbrev pub is_module : ExprNode → Bool
is_module (ExprKind-F.Name name) = bytes_eq name (codes "module_0")
is_module _ = false

abbrev pub plain_args : List Expr → List (List ℕ × Expr) → Option (List ℕ)
plain_args plain [] = variables_in plain
plain_args plain (named ∷ more) = None

abbrev pub args_in : Args → Option (List ℕ)
args_in args = plain_args (out-Args args).plain (out-Args args).named

abbrev pub called_by : ExprNode → List ℕ → List ℕ → Option Right
called_by receiver name args = if is_module receiver then Some (right.OfModule name args) else (variable_by receiver >>= λ k. Some (right.Method k name args))

abbrev pub right_by : ExprNode → Option Right
right_by (ExprKind-F.ListLit parts) = option_map right.ListOf (variables_in parts)
right_by (ExprKind-F.DictLit pairs) = option_map right.DictOf (pairs_in pairs)
right_by (ExprKind-F.Method receiver name args) = args_in args >>= called_by (kind_of_expr receiver) name
right_by node = option_map right.Prim (literal_by node)

abbrev pub right_in : Expr → Option Right
right_in e = right_by (kind_of_expr e)

-- ---- displays (6.2)

abbrev pub signed_display : Sign → Shown → Option Shown
signed_display sign (shown.Prim p) = option_map shown.Prim (signed sign p)
signed_display sign _ = None

abbrev pub shown_by : ExprKind-F (Option Shown) (Unit {0}) (Option Shown) → Option Shown
shown_by ExprKind-F.NoneLit = Some (shown.Prim prim.None)
shown_by (ExprKind-F.BoolLit b) = Some (shown.Prim (prim.Bool b))
shown_by (ExprKind-F.IntLit n) = Some (shown.Prim (prim.Int n))
shown_by (ExprKind-F.StrLit text) = Some (shown.Prim (prim.Str text))
shown_by (ExprKind-F.Unary sign e) = e >>= signed_display sign
shown_by (ExprKind-F.ListLit parts) = option_map shown.List (all_of parts)
shown_by (ExprKind-F.TupleLit parts) = option_map shown.Tuple (all_of parts)
shown_by (ExprKind-F.DictLit pairs) = option_map shown.Dict (all_of (map both_of pairs))
shown_by _ = None

abbrev pub shown_by_args : Args-F (Option Shown) (Unit {0}) (Option Shown) → Unit {0}
shown_by_args args = tt

abbrev pub shown_by_expr : Expr-F (Option Shown) (Unit {0}) (Option Shown) → Option Shown
shown_by_expr e = e.kind

unfoldable pub shown_in : Expr → Option Shown
shown_in = fold-Expr (Option Shown) (Unit {0}) (Option Shown) shown_by shown_by_args shown_by_expr

unfoldable pub shown_in_kind : ExprKind → Option Shown
shown_in_kind = fold-ExprKind (Option Shown) (Unit {0}) (Option Shown) shown_by shown_by_args shown_by_expr

unfoldable pub shown_in_args : Args → Unit {0}
shown_in_args = fold-Args (Option Shown) (Unit {0}) (Option Shown) shown_by shown_by_args shown_by_expr

-- ---- classes: `NAME`, and `module_0.NAME`

abbrev pub class_by : ExprNode → Option Named
class_by (ExprKind-F.Name name) = Some (named.Bare name)
class_by (ExprKind-F.Attr of name) = if is_module (kind_of_expr of) then Some (named.OfModule name) else None
class_by _ = None

abbrev pub class_in : Expr → Option Named
class_in e = class_by (kind_of_expr e)

-- ---- assertions (7.3): of a variable or an attribute of one

abbrev pub subject_by : ExprNode → Option Subject
subject_by (ExprKind-F.Attr of name) = variable_in of >>= λ k. Some (Attr k name)
subject_by node = option_map Whole (variable_by node)

-- `is` asks for None or a truth value
abbrev pub single : Primitive → Option Asked
single prim.None = Some (asked.Is prim.None)
single (prim.Bool b) = Some (asked.Is (prim.Bool b))
single _ = None

abbrev pub asked_by : CmpOp → Expr → Option Asked
asked_by Same e = literal_by (kind_of_expr e) >>= single
asked_by Eq e = option_map asked.Equals (shown_in e)
asked_by _ e = None

abbrev pub compared_with : List (CmpOp × Expr) → Option Asked
compared_with (other ∷ []) = asked_by other.0 other.1
compared_with _ = None

abbrev pub is_isinstance : ExprNode → Bool
is_isinstance (ExprKind-F.Name name) = bytes_eq name (codes "isinstance")
is_isinstance _ = false

-- a variable and a class, and nothing else
abbrev pub kind_asked : List Expr → List (List ℕ × Expr) → Option Spelled
kind_asked (subject ∷ class ∷ []) [] = variable_in subject >>= λ k. class_in class >>= λ found. Some (spelled.Asserts (Whole k) (asked.Kind found))
kind_asked _ _ = None

abbrev pub comparison_by : ExprNode → List (CmpOp × Expr) → Option Spelled
comparison_by subject others = subject_by subject >>= λ about. compared_with others >>= λ what. Some (spelled.Asserts about what)

abbrev pub condition_by : ExprNode → Option Spelled
condition_by (ExprKind-F.Compare subject others) = comparison_by (kind_of_expr subject) others
condition_by (ExprKind-F.Call called args) = if is_isinstance (kind_of_expr called) then kind_asked (out-Args args).plain (out-Args args).named else None
condition_by _ = None

-- ---- statements

abbrev pub assigned_to : List Target → Expr → Option Spelled
assigned_to (target.Name name ∷ []) value = variable_named name >>= λ k. right_in value >>= λ made. Some (spelled.Assigns k made)
assigned_to _ value = None

abbrev pub spelled_by : StmtKind-F StmtKind Clause Stmt → Option Spelled
spelled_by (StmtKind-F.Assign targets false None value) = assigned_to targets value
spelled_by (StmtKind-F.Assert condition None) = condition_by (kind_of_expr condition)
spelled_by _ = None

abbrev pub spelled_in : Stmt → Option Spelled
spelled_in stmt = spelled_by (kind_of_stmt stmt)

-- what stands alone in a block
abbrev pub alone_by : StmtKind-F StmtKind Clause Stmt → Option Right
alone_by (StmtKind-F.Bare e) = right_in e
alone_by _ = None

abbrev pub alone_in : Stmt → Option Right
alone_in stmt = alone_by (kind_of_stmt stmt)
