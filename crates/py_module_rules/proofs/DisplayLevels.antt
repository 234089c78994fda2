-- Displays in an expression, by its kind.
use Rattle.std.proofs.Common.{◌≡◌, ◌∙◌, refl, ap, ap₂, ℕ, Bool, true, false, ◌||◌, List, Option, Some, None, [], ◌∷◌, map}
use Rattle.std.specs.List.{list_any}
use Rattle.pyn_base.specs.declared.int.PyInt.{PyInt}
use Rattle.py_syntax.specs.declared.expr.Args.{Args, Args-F, map-Args, out-Args}
use Rattle.py_syntax.specs.declared.expr.Expr.{Expr}
use Rattle.py_syntax.specs.declared.expr.ExprKind.{ExprKind, ExprKind-F, map-ExprKind, out-ExprKind}
use Rattle.py_syntax.specs.declared.expr.ExprKind.TheVariants as e
use Rattle.py_syntax.specs.declared.expr.ExprKind.TheVariants.{outs-NoneLit, outs-BoolLit, outs-IntLit, outs-StrLit, outs-Name, outs-ListLit, outs-TupleLit, outs-DictLit, outs-Attr, outs-Index, outs-Slice, outs-Call, outs-Method, outs-Super, outs-Unary, outs-Not, outs-Binary, outs-And, outs-Or, outs-Compare, outs-Cond}
use Rattle.py_syntax.specs.declared.operator.BinOp.{BinOp}
use Rattle.py_syntax.specs.declared.operator.CmpOp.{CmpOp}
use Rattle.py_syntax.specs.declared.operator.Sign.{Sign}
use Rattle.py_scopes.specs.Constants.{any, display_by, display_in_args, has_display, display_in_kind, display_of_args}
use Rattle.py_scopes.specs.Folds.{display_by_expr, display_by_kind, display_by_args}
use Rattle.py_module_rules.specs.Displays.{maybe_display, operand_display, named_display}

any_is : {A : Type 0} (f : A → Bool) (xs : List A) → any (map f xs) ≡ list_any f xs
any_is f [] = refl
any_is f (x ∷ xs) = ap (λ b. f x || b) (any_is f xs)

operands_are : (pairs : List (CmpOp × Expr)) → list_any (λ (pair : CmpOp × Bool). pair.1) (map (λ (pair : CmpOp × Expr). let q : CmpOp × Bool = (pair.0, has_display pair.1) in q) pairs) ≡ list_any operand_display pairs
operands_are [] = refl
operands_are (pair ∷ pairs) = ap (λ b. has_display pair.1 || b) (operands_are pairs)

named_are : (rows : List (List ℕ × Expr)) → list_any (λ (row : List ℕ × Bool). row.1) (map (λ (row : List ℕ × Expr). let q : List ℕ × Bool = (row.0, has_display row.1) in q) rows) ≡ list_any named_display rows
named_are [] = refl
named_are (row ∷ rows) = ap (λ b. has_display row.1 || b) (named_are rows)

abbrev parts : ExprKind-F ExprKind Args Expr → ExprKind-F Bool Bool Bool
parts = map-ExprKind ExprKind Args Expr Bool Bool Bool display_in_kind display_of_args has_display

abbrev pub level : ExprKind-F ExprKind Args Expr → Bool
level (ExprKind-F.ListLit xs) = true
level (ExprKind-F.DictLit pairs) = true
level (ExprKind-F.TupleLit xs) = list_any has_display xs
level (ExprKind-F.Attr x name) = has_display x
level (ExprKind-F.Index x i) = has_display x || has_display i
level (ExprKind-F.Slice x low high) = has_display x || maybe_display low || maybe_display high
level (ExprKind-F.Call x args) = has_display x || display_of_args args
level (ExprKind-F.Method x name args) = has_display x || display_of_args args
level (ExprKind-F.Super name args) = display_of_args args
level (ExprKind-F.Unary sign x) = has_display x
level (ExprKind-F.Not x) = has_display x
level (ExprKind-F.Binary op a b) = has_display a || has_display b
level (ExprKind-F.And xs) = list_any has_display xs
level (ExprKind-F.Or xs) = list_any has_display xs
level (ExprKind-F.Compare x pairs) = has_display x || list_any operand_display pairs
level (ExprKind-F.Cond a test b) = has_display a || has_display test || has_display b
level _ = false

levels_are : (k : ExprKind-F ExprKind Args Expr) → display_by (parts k) ≡ level k
levels_are ExprKind-F.NoneLit = refl
levels_are (ExprKind-F.BoolLit b) = refl
levels_are (ExprKind-F.IntLit n) = refl
levels_are (ExprKind-F.StrLit text) = refl
levels_are (ExprKind-F.Name name) = refl
levels_are (ExprKind-F.ListLit xs) = refl
levels_are (ExprKind-F.TupleLit xs) = any_is has_display xs
levels_are (ExprKind-F.DictLit pairs) = refl
levels_are (ExprKind-F.Attr x name) = refl
levels_are (ExprKind-F.Index x i) = refl
levels_are (ExprKind-F.Slice x None None) = refl
levels_are (ExprKind-F.Slice x None (Some b)) = refl
levels_are (ExprKind-F.Slice x (Some a) None) = refl
levels_are (ExprKind-F.Slice x (Some a) (Some b)) = refl
levels_are (ExprKind-F.Call x args) = refl
levels_are (ExprKind-F.Method x name args) = refl
levels_are (ExprKind-F.Super name args) = refl
levels_are (ExprKind-F.Unary sign x) = refl
levels_are (ExprKind-F.Not x) = refl
levels_are (ExprKind-F.Binary op a b) = refl
levels_are (ExprKind-F.And xs) = any_is has_display xs
levels_are (ExprKind-F.Or xs) = any_is has_display xs
levels_are (ExprKind-F.Compare x pairs) = ap (λ b. has_display x || b) (operands_are pairs)
levels_are (ExprKind-F.Cond a test b) = refl

by : (kind : ExprKind) (f : ExprKind-F ExprKind Args Expr) → out-ExprKind kind ≡ f → display_in_kind kind ≡ level f
by kind f is = display_by_kind kind ∙ levels_are (out-ExprKind kind) ∙ ap level is

pub kind-NoneLit : display_in_kind e.NoneLit ≡ false
kind-NoneLit = by _ _ outs-NoneLit

pub kind-BoolLit : (b : Bool) → display_in_kind (e.BoolLit b) ≡ false
kind-BoolLit b = by _ _ (outs-BoolLit b)

pub kind-IntLit : (n : PyInt) → display_in_kind (e.IntLit n) ≡ false
kind-IntLit n = by _ _ (outs-IntLit n)

pub kind-StrLit : (text : List ℕ) → display_in_kind (e.StrLit text) ≡ false
kind-StrLit text = by _ _ (outs-StrLit text)

pub kind-Name : (name : List ℕ) → display_in_kind (e.Name name) ≡ false
kind-Name name = by _ _ (outs-Name name)

pub kind-ListLit : (xs : List Expr) → display_in_kind (e.ListLit xs) ≡ true
kind-ListLit xs = by _ _ (outs-ListLit xs)

pub kind-TupleLit : (xs : List Expr) → display_in_kind (e.TupleLit xs) ≡ list_any has_display xs
kind-TupleLit xs = by _ _ (outs-TupleLit xs)

pub kind-DictLit : (pairs : List (Expr × Expr)) → display_in_kind (e.DictLit pairs) ≡ true
kind-DictLit pairs = by _ _ (outs-DictLit pairs)

pub kind-Attr : (x : Expr) (name : List ℕ) → display_in_kind (e.Attr x name) ≡ has_display x
kind-Attr x name = by _ _ (outs-Attr x name)

pub kind-Index : (x i : Expr) → display_in_kind (e.Index x i) ≡ (has_display x || has_display i)
kind-Index x i = by _ _ (outs-Index x i)

pub kind-Slice : (x : Expr) (low high : Option Expr) → display_in_kind (e.Slice x low high) ≡ (has_display x || maybe_display low || maybe_display high)
kind-Slice x low high = by _ _ (outs-Slice x low high)

-- where the object and the low bound have none
pub slice_last : (x : Expr) (low high : Option Expr) → (has_display x || maybe_display low) ≡ false → display_in_kind (e.Slice x low high) ≡ maybe_display high
slice_last x low high none = kind-Slice x low high ∙ ap (λ b. b || maybe_display high) none

pub kind-Call : (x : Expr) (args : Args) → display_in_kind (e.Call x args) ≡ (has_display x || display_of_args args)
kind-Call x args = by _ _ (outs-Call x args)

pub kind-Method : (x : Expr) (name : List ℕ) (args : Args) → display_in_kind (e.Method x name args) ≡ (has_display x || display_of_args args)
kind-Method x name args = by _ _ (outs-Method x name args)

pub kind-Super : (name : List ℕ) (args : Args) → display_in_kind (e.Super name args) ≡ display_of_args args
kind-Super name args = by _ _ (outs-Super name args)

pub kind-Unary : (sign : Sign) (x : Expr) → display_in_kind (e.Unary sign x) ≡ has_display x
kind-Unary sign x = by _ _ (outs-Unary sign x)

pub kind-Not : (x : Expr) → display_in_kind (e.Not x) ≡ has_display x
kind-Not x = by _ _ (outs-Not x)

pub kind-Binary : (op : BinOp) (a b : Expr) → display_in_kind (e.Binary op a b) ≡ (has_display a || has_display b)
kind-Binary op a b = by _ _ (outs-Binary op a b)

pub kind-And : (xs : List Expr) → display_in_kind (e.And xs) ≡ list_any has_display xs
kind-And xs = by _ _ (outs-And xs)

pub kind-Or : (xs : List Expr) → display_in_kind (e.Or xs) ≡ list_any has_display xs
kind-Or xs = by _ _ (outs-Or xs)

pub kind-Compare : (x : Expr) (pairs : List (CmpOp × Expr)) → display_in_kind (e.Compare x pairs) ≡ (has_display x || list_any operand_display pairs)
kind-Compare x pairs = by _ _ (outs-Compare x pairs)

pub kind-Cond : (a test b : Expr) → display_in_kind (e.Cond a test b) ≡ (has_display a || has_display test || has_display b)
kind-Cond a test b = by _ _ (outs-Cond a test b)

args_level : (args : Args-F ExprKind Args Expr) → display_in_args (map-Args ExprKind Args Expr Bool Bool Bool display_in_kind display_of_args has_display args) ≡ (list_any has_display args.plain || list_any named_display args.named)
args_level args = ap₂ (λ a b. a || b) (any_is has_display args.plain) (named_are args.named)

pub of_args : (args : Args) → display_of_args args ≡ (list_any has_display (out-Args args).plain || list_any named_display (out-Args args).named)
of_args args = display_by_args args ∙ args_level (out-Args args)

pub ruleset display_levels = (display_by_expr, of_args, kind-NoneLit, kind-BoolLit, kind-IntLit, kind-StrLit, kind-Name, kind-ListLit, kind-TupleLit, kind-DictLit, kind-Attr, kind-Index, kind-Slice, kind-Call, kind-Method, kind-Super, kind-Unary, kind-Not, kind-Binary, kind-And, kind-Or, kind-Compare, kind-Cond)
