-- What is known of an expression as a constant, by its kind.
use Rattle.std.proofs.Common.{◌≡◌, ◌∙◌, refl, sym, ap, ℕ, max, Bool, List, Option, Some, None, [], ◌∷◌, map, drop, length, get_or, ◌<◌, ◌≤◌, ◌+◌, option_map, add-one, arith}
use Rattle.std.proofs.Math.Seq.{drop-cons}
use Rattle.std.proofs.lemmas.List.{drop_all}
use Rattle.pyn_base.specs.declared.int.PyInt.{PyInt}
use Rattle.py_syntax.specs.declared.expr.Args.{Args}
use Rattle.py_syntax.specs.declared.expr.Expr.{Expr}
use Rattle.py_syntax.specs.declared.expr.ExprKind.{ExprKind, ExprKind-F, map-ExprKind, out-ExprKind}
use Rattle.py_syntax.specs.declared.expr.ExprKind.TheVariants as e
use Rattle.py_syntax.specs.declared.expr.ExprKind.TheVariants.{outs-NoneLit, outs-BoolLit, outs-IntLit, outs-StrLit, outs-Name, outs-ListLit, outs-TupleLit, outs-DictLit, outs-Attr, outs-Index, outs-Slice, outs-Call, outs-Method, outs-Super, outs-Unary, outs-Not, outs-Binary, outs-And, outs-Or, outs-Compare, outs-Cond}
use Rattle.py_syntax.specs.declared.operator.BinOp.{BinOp}
use Rattle.py_syntax.specs.declared.operator.CmpOp.{CmpOp}
use Rattle.py_syntax.specs.declared.operator.Sign.{Sign}
use Rattle.py_meaning.specs.Methods.{Names, named}
use Rattle.py_scopes.specs.Constants.{Constant, Judge, constant, constant_kind, constant_args, constant_by, deepest_part, tuple_of, signed, of_depth, integer}
use Rattle.py_scopes.specs.Folds.{constant_by_expr, constant_by_kind}
use Rattle.py_module_rules.specs.Pieces.{constant_of}

applied : (names : Names ℕ) (xs : List Expr) → map (λ (part : Judge). part names) (map constant xs) ≡ map (constant_of names) xs
applied names [] = refl
applied names (x ∷ xs) = ap (λ rest. constant x names ∷ rest) (applied names xs)

abbrev parts : ExprKind-F ExprKind Args Expr → ExprKind-F Judge (Unit {0}) Judge
parts = map-ExprKind ExprKind Args Expr Judge (Unit {0}) Judge constant_kind constant_args constant

abbrev pub level : ExprKind-F ExprKind Args Expr → Names ℕ → Option Constant
level ExprKind-F.NoneLit names = Some (of_depth 0)
level (ExprKind-F.BoolLit b) names = Some (of_depth 0)
level (ExprKind-F.IntLit n) names = Some integer
level (ExprKind-F.StrLit text) names = Some (of_depth 0)
level (ExprKind-F.TupleLit xs) names = tuple_of (deepest_part (map (constant_of names) xs))
level (ExprKind-F.Unary sign x) names = signed sign (constant x names)
level (ExprKind-F.Name name) names = option_map of_depth (named names name)
level _ names = None

levels_are : (k : ExprKind-F ExprKind Args Expr) (names : Names ℕ) → constant_by (parts k) names ≡ level k names
levels_are ExprKind-F.NoneLit names = refl
levels_are (ExprKind-F.BoolLit b) names = refl
levels_are (ExprKind-F.IntLit n) names = refl
levels_are (ExprKind-F.StrLit text) names = refl
levels_are (ExprKind-F.Name name) names = refl
levels_are (ExprKind-F.ListLit xs) names = refl
levels_are (ExprKind-F.TupleLit xs) names = ap (λ cs. tuple_of (deepest_part cs)) (applied names xs)
levels_are (ExprKind-F.DictLit pairs) names = refl
levels_are (ExprKind-F.Attr x name) names = refl
levels_are (ExprKind-F.Index x i) names = refl
levels_are (ExprKind-F.Slice x low high) names = refl
levels_are (ExprKind-F.Call x args) names = refl
levels_are (ExprKind-F.Method x name args) names = refl
levels_are (ExprKind-F.Super name args) names = refl
levels_are (ExprKind-F.Unary sign x) names = refl
levels_are (ExprKind-F.Not x) names = refl
levels_are (ExprKind-F.Binary op a b) names = refl
levels_are (ExprKind-F.And xs) names = refl
levels_are (ExprKind-F.Or xs) names = refl
levels_are (ExprKind-F.Compare x pairs) names = refl
levels_are (ExprKind-F.Cond a test b) names = refl

by : (kind : ExprKind) (f : ExprKind-F ExprKind Args Expr) (names : Names ℕ) → out-ExprKind kind ≡ f → constant_kind kind names ≡ level f names
by kind f names is = constant_by_kind kind names ∙ levels_are (out-ExprKind kind) names ∙ ap (λ k. level k names) is

pub kind-NoneLit : (names : Names ℕ) → constant_kind e.NoneLit names ≡ Some (of_depth 0)
kind-NoneLit names = by _ _ names outs-NoneLit

pub kind-BoolLit : (names : Names ℕ) (b : Bool) → constant_kind (e.BoolLit b) names ≡ Some (of_depth 0)
kind-BoolLit names b = by _ _ names (outs-BoolLit b)

pub kind-IntLit : (names : Names ℕ) (n : PyInt) → constant_kind (e.IntLit n) names ≡ Some integer
kind-IntLit names n = by _ _ names (outs-IntLit n)

pub kind-StrLit : (names : Names ℕ) (text : List ℕ) → constant_kind (e.StrLit text) names ≡ Some (of_depth 0)
kind-StrLit names text = by _ _ names (outs-StrLit text)

pub kind-Name : (names : Names ℕ) (name : List ℕ) → constant_kind (e.Name name) names ≡ option_map of_depth (named names name)
kind-Name names name = by _ _ names (outs-Name name)

pub kind-TupleLit : (names : Names ℕ) (xs : List Expr) → constant_kind (e.TupleLit xs) names ≡ tuple_of (deepest_part (map (constant_of names) xs))
kind-TupleLit names xs = by _ _ names (outs-TupleLit xs)

pub kind-Unary : (names : Names ℕ) (sign : Sign) (x : Expr) → constant_kind (e.Unary sign x) names ≡ signed sign (constant x names)
kind-Unary names sign x = by _ _ names (outs-Unary sign x)

pub kind-ListLit : (names : Names ℕ) (xs : List Expr) → constant_kind (e.ListLit xs) names ≡ None
kind-ListLit names xs = by _ _ names (outs-ListLit xs)

pub kind-DictLit : (names : Names ℕ) (pairs : List (Expr × Expr)) → constant_kind (e.DictLit pairs) names ≡ None
kind-DictLit names pairs = by _ _ names (outs-DictLit pairs)

pub kind-Attr : (names : Names ℕ) (x : Expr) (name : List ℕ) → constant_kind (e.Attr x name) names ≡ None
kind-Attr names x name = by _ _ names (outs-Attr x name)

pub kind-Index : (names : Names ℕ) (x i : Expr) → constant_kind (e.Index x i) names ≡ None
kind-Index names x i = by _ _ names (outs-Index x i)

pub kind-Slice : (names : Names ℕ) (x : Expr) (low high : Option Expr) → constant_kind (e.Slice x low high) names ≡ None
kind-Slice names x low high = by _ _ names (outs-Slice x low high)

pub kind-Call : (names : Names ℕ) (x : Expr) (args : Args) → constant_kind (e.Call x args) names ≡ None
kind-Call names x args = by _ _ names (outs-Call x args)

pub kind-Method : (names : Names ℕ) (x : Expr) (name : List ℕ) (args : Args) → constant_kind (e.Method x name args) names ≡ None
kind-Method names x name args = by _ _ names (outs-Method x name args)

pub kind-Super : (names : Names ℕ) (name : List ℕ) (args : Args) → constant_kind (e.Super name args) names ≡ None
kind-Super names name args = by _ _ names (outs-Super name args)

pub kind-Not : (names : Names ℕ) (x : Expr) → constant_kind (e.Not x) names ≡ None
kind-Not names x = by _ _ names (outs-Not x)

pub kind-Binary : (names : Names ℕ) (op : BinOp) (a b : Expr) → constant_kind (e.Binary op a b) names ≡ None
kind-Binary names op a b = by _ _ names (outs-Binary op a b)

pub kind-And : (names : Names ℕ) (xs : List Expr) → constant_kind (e.And xs) names ≡ None
kind-And names xs = by _ _ names (outs-And xs)

pub kind-Or : (names : Names ℕ) (xs : List Expr) → constant_kind (e.Or xs) names ≡ None
kind-Or names xs = by _ _ names (outs-Or xs)

pub kind-Compare : (names : Names ℕ) (x : Expr) (pairs : List (CmpOp × Expr)) → constant_kind (e.Compare x pairs) names ≡ None
kind-Compare names x pairs = by _ _ names (outs-Compare x pairs)

pub kind-Cond : (names : Names ℕ) (a test b : Expr) → constant_kind (e.Cond a test b) names ≡ None
kind-Cond names a test b = by _ _ names (outs-Cond a test b)

pub ruleset constant_levels = (constant_by_expr, kind-NoneLit, kind-BoolLit, kind-IntLit, kind-StrLit, kind-Name, kind-ListLit, kind-TupleLit, kind-DictLit, kind-Attr, kind-Index, kind-Slice, kind-Call, kind-Method, kind-Super, kind-Unary, kind-Not, kind-Binary, kind-And, kind-Or, kind-Compare, kind-Cond)

-- ---- the deepest part

abbrev pub raised : ℕ → Option ℕ → Option ℕ
raised deepest rest = option_map (λ depth. max depth deepest) rest

max_zero : (n : ℕ) → max n 0 ≡ n
max_zero n = omega arith

max_max : (n k d : ℕ) → max (max n k) d ≡ max n (max k d)
max_max n k d = omega arith

pub raised_none : (rest : Option ℕ) → raised 0 rest ≡ rest
raised_none None = refl
raised_none (Some n) = ap Some (max_zero n)

raised_more : (deepest k : ℕ) (rest : Option ℕ) → raised deepest (option_map (λ depth. max depth k) rest) ≡ raised (max k deepest) rest
raised_more deepest k None = refl
raised_more deepest k (Some n) = ap Some (max_max n k deepest)

rest_of : {X : Type 0} (xs : List X) (i : ℕ) (x : X) → i < length xs → x ≡ get_or xs i x → drop i xs ≡ x ∷ drop (i + 1) xs
rest_of xs i x lt is = rw (drop-cons xs i x lt, ← is, add-one) refl

-- one part more, which is a constant or isn't
pub part_some : (names : Names ℕ) (xs : List Expr) (i : ℕ) (x : Expr) (deepest : ℕ) (found : Constant) → i < length xs → x ≡ get_or xs i x → Some found ≡ constant x names
    → raised (max found.depth deepest) (deepest_part (map (constant_of names) (drop (i + 1) xs))) ≡ raised deepest (deepest_part (map (constant_of names) (drop i xs)))
part_some names xs i x deepest found lt is some =
    sym (raised_more deepest found.depth _) ∙ ap (λ first. raised deepest (deepest_part (first ∷ map (constant_of names) (drop (i + 1) xs)))) some
    ∙ ap (λ ys. raised deepest (deepest_part (map (constant_of names) ys))) (sym (rest_of xs i x lt is))

pub part_none : (names : Names ℕ) (xs : List Expr) (i : ℕ) (x : Expr) (deepest : ℕ) → i < length xs → x ≡ get_or xs i x → None ≡ constant x names
    → None ≡ raised deepest (deepest_part (map (constant_of names) (drop i xs)))
part_none names xs i x deepest lt is none =
    ap (λ first. raised deepest (deepest_part (first ∷ map (constant_of names) (drop (i + 1) xs)))) none
    ∙ ap (λ ys. raised deepest (deepest_part (map (constant_of names) ys))) (sym (rest_of xs i x lt is))

pub parts_done : (names : Names ℕ) (xs : List Expr) (i : ℕ) (deepest : ℕ) → length xs ≤ i → Some deepest ≡ raised deepest (deepest_part (map (constant_of names) (drop i xs)))
parts_done names xs i deepest le = ap Some (max_from_zero deepest) ∙ ap (λ ys. raised deepest (deepest_part (map (constant_of names) ys))) (sym (drop_all i xs le))
  where
    max_from_zero : (n : ℕ) → n ≡ max 0 n
    max_from_zero n = omega arith
