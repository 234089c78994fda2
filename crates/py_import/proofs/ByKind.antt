-- Constants, one level at a time.
use Rattle.std.proofs.Common.{◌≡◌, ℕ, ℤ, Bool, List, [], ◌∷◌, map, Option, refl, ap, ◌∙◌}
use Rattle.py_syntax.specs.declared.expr.Args.{Args}
use Rattle.py_syntax.specs.declared.expr.Expr.{Expr, fold_out-Expr}
use Rattle.py_syntax.specs.declared.expr.ExprKind.{ExprKind, ExprKind-F, map-ExprKind, out-ExprKind, fold_out-ExprKind}
use Rattle.py_syntax.specs.declared.expr.ExprKind.TheVariants as k
use Rattle.py_syntax.specs.declared.expr.ExprKind.TheVariants.{outs-NoneLit, outs-BoolLit, outs-IntLit, outs-StrLit, outs-Name, outs-ListLit, outs-TupleLit, outs-DictLit, outs-Attr, outs-Index, outs-Slice, outs-Call, outs-Method, outs-Super, outs-Unary, outs-Not, outs-Binary, outs-And, outs-Or, outs-Compare, outs-Cond}
use Rattle.py_syntax.specs.declared.operator.BinOp.{BinOp}
use Rattle.py_syntax.specs.declared.operator.CmpOp.{CmpOp}
use Rattle.py_syntax.specs.declared.operator.Sign.{Sign}
use Rattle.py_meaning.specs.declared.value.Value.{out-Value}
use Rattle.py_meaning.specs.declared.value.Value.TheVariants as v
use Rattle.py_meaning.specs.Tuples.{tuple}
use Rattle.py_meaning.specs.Worlds.{Attributes}
use Rattle.py_plain.specs.Import.{Constant, constant, constant_by, constant_of_args, constant_of_expr, or_none, signed_value}
use Rattle.py_plain.specs.Names.{lookup}
use Rattle.py_import.specs.Kinds.{constant_kind}

pub of_expr : (e : Expr) (names : Attributes) → constant e names ≡ constant_kind e.kind names
unfolding constant constant_kind
of_expr e names = ap (λ (f : Constant). f names) (fold_out-Expr Constant (Unit {0}) Constant constant_by constant_of_args constant_of_expr e)

abbrev level : ExprKind-F ExprKind Args Expr → Constant
level (ExprKind-F.BoolLit b) names = v.Bool b
level (ExprKind-F.IntLit n) names = v.Int n
level (ExprKind-F.StrLit text) names = v.Str text
level (ExprKind-F.TupleLit parts) names = tuple (map (λ part. constant part names) parts)
level (ExprKind-F.Unary sign part) names = signed_value sign (out-Value (constant part names))
level (ExprKind-F.Name name) names = or_none (lookup name names)
level _ names = v.None

all_at : (parts : List Expr) (names : Attributes) → map (λ (part : Constant). part names) (map constant parts) ≡ map (λ part. constant part names) parts
all_at [] names = refl
all_at (part ∷ parts) names = ap (λ rest. constant part names ∷ rest) (all_at parts names)

-- an expression's kind with the constants of its parts in their places
abbrev parts_of : ExprKind-F ExprKind Args Expr → ExprKind-F Constant (Unit {0}) Constant
parts_of = map-ExprKind ExprKind Args Expr Constant (Unit {0}) Constant constant_kind (λ _. tt) constant

levels_are : (kind : ExprKind-F ExprKind Args Expr) (names : Attributes) → constant_by (parts_of kind) names ≡ level kind names
levels_are (ExprKind-F.TupleLit parts) names = ap tuple (all_at parts names)
levels_are ExprKind-F.NoneLit names = refl
levels_are (ExprKind-F.BoolLit b) names = refl
levels_are (ExprKind-F.IntLit n) names = refl
levels_are (ExprKind-F.StrLit text) names = refl
levels_are (ExprKind-F.Name name) names = refl
levels_are (ExprKind-F.ListLit items) names = refl
levels_are (ExprKind-F.DictLit pairs) names = refl
levels_are (ExprKind-F.Attr e name) names = refl
levels_are (ExprKind-F.Index of at) names = refl
levels_are (ExprKind-F.Slice of low high) names = refl
levels_are (ExprKind-F.Call f args) names = refl
levels_are (ExprKind-F.Method e name args) names = refl
levels_are (ExprKind-F.Super name args) names = refl
levels_are (ExprKind-F.Unary sign e) names = refl
levels_are (ExprKind-F.Not e) names = refl
levels_are (ExprKind-F.Binary op a b) names = refl
levels_are (ExprKind-F.And parts) names = refl
levels_are (ExprKind-F.Or parts) names = refl
levels_are (ExprKind-F.Compare first others) names = refl
levels_are (ExprKind-F.Cond e test other) names = refl

pub of_kind : (kind : ExprKind) (names : Attributes) → constant_kind kind names ≡ level (out-ExprKind kind) names
unfolding constant constant_kind
of_kind kind names = ap (λ (f : Constant). f names) (fold_out-ExprKind Constant (Unit {0}) Constant constant_by constant_of_args constant_of_expr kind) ∙ levels_are (out-ExprKind kind) names

by : (kind : ExprKind) (f : ExprKind-F ExprKind Args Expr) (names : Attributes) → out-ExprKind kind ≡ f → constant_kind kind names ≡ level f names
by kind f names is = of_kind kind names ∙ ap (λ f. level f names) is

pub kind-NoneLit : (names : Attributes) → constant_kind k.NoneLit names ≡ v.None
kind-NoneLit names = by _ _ names outs-NoneLit

pub kind-BoolLit : (b : Bool) (names : Attributes) → constant_kind (k.BoolLit b) names ≡ v.Bool b
kind-BoolLit b names = by _ _ names (outs-BoolLit b)

pub kind-IntLit : (n : ℤ) (names : Attributes) → constant_kind (k.IntLit n) names ≡ v.Int n
kind-IntLit n names = by _ _ names (outs-IntLit n)

pub kind-StrLit : (text : List ℕ) (names : Attributes) → constant_kind (k.StrLit text) names ≡ v.Str text
kind-StrLit text names = by _ _ names (outs-StrLit text)

pub kind-Name : (name : List ℕ) (names : Attributes) → constant_kind (k.Name name) names ≡ or_none (lookup name names)
kind-Name name names = by _ _ names (outs-Name name)

pub kind-TupleLit : (parts : List Expr) (names : Attributes) → constant_kind (k.TupleLit parts) names ≡ tuple (map (λ part. constant part names) parts)
kind-TupleLit parts names = by _ _ names (outs-TupleLit parts)

pub kind-Unary : (sign : Sign) (e : Expr) (names : Attributes) → constant_kind (k.Unary sign e) names ≡ signed_value sign (out-Value (constant e names))
kind-Unary sign e names = by _ _ names (outs-Unary sign e)

pub kind-ListLit : (items : List Expr) (names : Attributes) → constant_kind (k.ListLit items) names ≡ v.None
kind-ListLit items names = by _ _ names (outs-ListLit items)

pub kind-DictLit : (pairs : List (Expr × Expr)) (names : Attributes) → constant_kind (k.DictLit pairs) names ≡ v.None
kind-DictLit pairs names = by _ _ names (outs-DictLit pairs)

pub kind-Attr : (e : Expr) (name : List ℕ) (names : Attributes) → constant_kind (k.Attr e name) names ≡ v.None
kind-Attr e name names = by _ _ names (outs-Attr e name)

pub kind-Index : (of at : Expr) (names : Attributes) → constant_kind (k.Index of at) names ≡ v.None
kind-Index of at names = by _ _ names (outs-Index of at)

pub kind-Slice : (of : Expr) (low high : Option Expr) (names : Attributes) → constant_kind (k.Slice of low high) names ≡ v.None
kind-Slice of low high names = by _ _ names (outs-Slice of low high)

pub kind-Call : (f : Expr) (args : Args) (names : Attributes) → constant_kind (k.Call f args) names ≡ v.None
kind-Call f args names = by _ _ names (outs-Call f args)

pub kind-Method : (e : Expr) (name : List ℕ) (args : Args) (names : Attributes) → constant_kind (k.Method e name args) names ≡ v.None
kind-Method e name args names = by _ _ names (outs-Method e name args)

pub kind-Super : (name : List ℕ) (args : Args) (names : Attributes) → constant_kind (k.Super name args) names ≡ v.None
kind-Super name args names = by _ _ names (outs-Super name args)

pub kind-Not : (e : Expr) (names : Attributes) → constant_kind (k.Not e) names ≡ v.None
kind-Not e names = by _ _ names (outs-Not e)

pub kind-Binary : (op : BinOp) (a b : Expr) (names : Attributes) → constant_kind (k.Binary op a b) names ≡ v.None
kind-Binary op a b names = by _ _ names (outs-Binary op a b)

pub kind-And : (parts : List Expr) (names : Attributes) → constant_kind (k.And parts) names ≡ v.None
kind-And parts names = by _ _ names (outs-And parts)

pub kind-Or : (parts : List Expr) (names : Attributes) → constant_kind (k.Or parts) names ≡ v.None
kind-Or parts names = by _ _ names (outs-Or parts)

pub kind-Compare : (first : Expr) (others : List (CmpOp × Expr)) (names : Attributes) → constant_kind (k.Compare first others) names ≡ v.None
kind-Compare first others names = by _ _ names (outs-Compare first others)

pub kind-Cond : (e test other : Expr) (names : Attributes) → constant_kind (k.Cond e test other) names ≡ v.None
kind-Cond e test other names = by _ _ names (outs-Cond e test other)

pub ruleset constants = (of_expr, kind-NoneLit, kind-BoolLit, kind-IntLit, kind-StrLit, kind-Name, kind-TupleLit, kind-Unary, kind-ListLit, kind-DictLit, kind-Attr, kind-Index, kind-Slice, kind-Call, kind-Method, kind-Super, kind-Not, kind-Binary, kind-And, kind-Or, kind-Compare, kind-Cond)
