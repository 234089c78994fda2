-- The numbers of a node's parts, by the kind of node.
use Rattle.std.proofs.Common.{◌≡◌, ◌∙◌, ap, map, ℕ, Bool, List, Option}
use Rattle.pyn_base.specs.declared.int.PyInt.{PyInt}
use Rattle.py_syntax.specs.declared.expr.Args.{Args, fold_out-Args, out-Args}
use Rattle.py_syntax.specs.declared.expr.Expr.{Expr, fold_out-Expr}
use Rattle.py_syntax.specs.declared.expr.ExprKind.{ExprKind, ExprKind-F, fold_out-ExprKind, map-ExprKind, out-ExprKind}
use Rattle.py_syntax.specs.declared.expr.ExprKind.TheVariants as e
use Rattle.py_syntax.specs.declared.expr.ExprKind.TheVariants.{outs-NoneLit, outs-BoolLit, outs-IntLit, outs-StrLit, outs-Name, outs-ListLit, outs-TupleLit, outs-DictLit, outs-Attr, outs-Index, outs-Slice, outs-Call, outs-Method, outs-Super, outs-Unary, outs-Not, outs-Binary, outs-And, outs-Or, outs-Compare, outs-Cond}
use Rattle.py_syntax.specs.declared.operator.BinOp.{BinOp}
use Rattle.py_syntax.specs.declared.operator.CmpOp.{CmpOp}
use Rattle.py_syntax.specs.declared.operator.Sign.{Sign}
use Rattle.py_nodes.specs.Expressions.{OnLine, Part, Named, parts_by, args_by, node_by, part_of, parts_of, args_of}

-- a node with what its parts are in their places
abbrev pub level : Bool → ExprKind-F ExprKind Args Expr → OnLine ExprKind
level counted k = parts_by (map-ExprKind ExprKind Args Expr (OnLine ExprKind) (OnLine Args) Part (parts_of counted) (args_of counted) (part_of counted) k)

pub parts-out : (counted : Bool) (k : ExprKind) → parts_of counted k ≡ level counted (out-ExprKind k)
unfolding part_of parts_of args_of
parts-out counted k = fold_out-ExprKind (OnLine ExprKind) (OnLine Args) Part parts_by args_by (node_by counted) k

pub args-out : (counted : Bool) (given : Args) → args_of counted given ≡ args_by (record { plain = map (part_of counted) (out-Args given).plain; named = map (λ (n : List ℕ × Expr). let made : Named = (n.0, part_of counted n.1) in made) (out-Args given).named })
unfolding part_of parts_of args_of
args-out counted given = fold_out-Args (OnLine ExprKind) (OnLine Args) Part parts_by args_by (node_by counted) given

pub part-out : (counted : Bool) (x : Expr) → part_of counted x ≡ node_by counted (record { node = x.node; line = x.line; kind = parts_of counted x.kind })
unfolding part_of parts_of args_of
part-out counted x = fold_out-Expr (OnLine ExprKind) (OnLine Args) Part parts_by args_by (node_by counted) x

by_kind : (counted : Bool) (k : ExprKind) (f : ExprKind-F ExprKind Args Expr) (line n : ℕ) → out-ExprKind k ≡ f → parts_of counted k line n ≡ level counted f line n
by_kind counted k f line n is = ap (λ (p : OnLine ExprKind). p line n) (parts-out counted k ∙ ap (level counted) is)

pub parts-NoneLit : (counted : Bool) (line n : ℕ) → parts_of counted e.NoneLit line n ≡ level counted ExprKind-F.NoneLit line n
parts-NoneLit counted line n = by_kind counted e.NoneLit ExprKind-F.NoneLit line n outs-NoneLit

pub parts-BoolLit : (counted : Bool) (b : Bool) (line n : ℕ) → parts_of counted (e.BoolLit b) line n ≡ level counted (ExprKind-F.BoolLit b) line n
parts-BoolLit counted b line n = by_kind counted (e.BoolLit b) (ExprKind-F.BoolLit b) line n (outs-BoolLit b)

pub parts-IntLit : (counted : Bool) (i : PyInt) (line n : ℕ) → parts_of counted (e.IntLit i) line n ≡ level counted (ExprKind-F.IntLit i) line n
parts-IntLit counted i line n = by_kind counted (e.IntLit i) (ExprKind-F.IntLit i) line n (outs-IntLit i)

pub parts-StrLit : (counted : Bool) (text : List ℕ) (line n : ℕ) → parts_of counted (e.StrLit text) line n ≡ level counted (ExprKind-F.StrLit text) line n
parts-StrLit counted text line n = by_kind counted (e.StrLit text) (ExprKind-F.StrLit text) line n (outs-StrLit text)

pub parts-Name : (counted : Bool) (name : List ℕ) (line n : ℕ) → parts_of counted (e.Name name) line n ≡ level counted (ExprKind-F.Name name) line n
parts-Name counted name line n = by_kind counted (e.Name name) (ExprKind-F.Name name) line n (outs-Name name)

pub parts-ListLit : (counted : Bool) (xs : List Expr) (line n : ℕ) → parts_of counted (e.ListLit xs) line n ≡ level counted (ExprKind-F.ListLit xs) line n
parts-ListLit counted xs line n = by_kind counted (e.ListLit xs) (ExprKind-F.ListLit xs) line n (outs-ListLit xs)

pub parts-TupleLit : (counted : Bool) (xs : List Expr) (line n : ℕ) → parts_of counted (e.TupleLit xs) line n ≡ level counted (ExprKind-F.TupleLit xs) line n
parts-TupleLit counted xs line n = by_kind counted (e.TupleLit xs) (ExprKind-F.TupleLit xs) line n (outs-TupleLit xs)

pub parts-DictLit : (counted : Bool) (pairs : List (Expr × Expr)) (line n : ℕ) → parts_of counted (e.DictLit pairs) line n ≡ level counted (ExprKind-F.DictLit pairs) line n
parts-DictLit counted pairs line n = by_kind counted (e.DictLit pairs) (ExprKind-F.DictLit pairs) line n (outs-DictLit pairs)

pub parts-Attr : (counted : Bool) (x : Expr) (name : List ℕ) (line n : ℕ) → parts_of counted (e.Attr x name) line n ≡ level counted (ExprKind-F.Attr x name) line n
parts-Attr counted x name line n = by_kind counted (e.Attr x name) (ExprKind-F.Attr x name) line n (outs-Attr x name)

pub parts-Index : (counted : Bool) (x i : Expr) (line n : ℕ) → parts_of counted (e.Index x i) line n ≡ level counted (ExprKind-F.Index x i) line n
parts-Index counted x i line n = by_kind counted (e.Index x i) (ExprKind-F.Index x i) line n (outs-Index x i)

pub parts-Slice : (counted : Bool) (x : Expr) (a b : Option Expr) (line n : ℕ) → parts_of counted (e.Slice x a b) line n ≡ level counted (ExprKind-F.Slice x a b) line n
parts-Slice counted x a b line n = by_kind counted (e.Slice x a b) (ExprKind-F.Slice x a b) line n (outs-Slice x a b)

pub parts-Call : (counted : Bool) (x : Expr) (given : Args) (line n : ℕ) → parts_of counted (e.Call x given) line n ≡ level counted (ExprKind-F.Call x given) line n
parts-Call counted x given line n = by_kind counted (e.Call x given) (ExprKind-F.Call x given) line n (outs-Call x given)

pub parts-Method : (counted : Bool) (x : Expr) (name : List ℕ) (given : Args) (line n : ℕ) → parts_of counted (e.Method x name given) line n ≡ level counted (ExprKind-F.Method x name given) line n
parts-Method counted x name given line n = by_kind counted (e.Method x name given) (ExprKind-F.Method x name given) line n (outs-Method x name given)

pub parts-Super : (counted : Bool) (name : List ℕ) (given : Args) (line n : ℕ) → parts_of counted (e.Super name given) line n ≡ level counted (ExprKind-F.Super name given) line n
parts-Super counted name given line n = by_kind counted (e.Super name given) (ExprKind-F.Super name given) line n (outs-Super name given)

pub parts-Unary : (counted : Bool) (sign : Sign) (x : Expr) (line n : ℕ) → parts_of counted (e.Unary sign x) line n ≡ level counted (ExprKind-F.Unary sign x) line n
parts-Unary counted sign x line n = by_kind counted (e.Unary sign x) (ExprKind-F.Unary sign x) line n (outs-Unary sign x)

pub parts-Not : (counted : Bool) (x : Expr) (line n : ℕ) → parts_of counted (e.Not x) line n ≡ level counted (ExprKind-F.Not x) line n
parts-Not counted x line n = by_kind counted (e.Not x) (ExprKind-F.Not x) line n (outs-Not x)

pub parts-Binary : (counted : Bool) (op : BinOp) (a b : Expr) (line n : ℕ) → parts_of counted (e.Binary op a b) line n ≡ level counted (ExprKind-F.Binary op a b) line n
parts-Binary counted op a b line n = by_kind counted (e.Binary op a b) (ExprKind-F.Binary op a b) line n (outs-Binary op a b)

pub parts-And : (counted : Bool) (xs : List Expr) (line n : ℕ) → parts_of counted (e.And xs) line n ≡ level counted (ExprKind-F.And xs) line n
parts-And counted xs line n = by_kind counted (e.And xs) (ExprKind-F.And xs) line n (outs-And xs)

pub parts-Or : (counted : Bool) (xs : List Expr) (line n : ℕ) → parts_of counted (e.Or xs) line n ≡ level counted (ExprKind-F.Or xs) line n
parts-Or counted xs line n = by_kind counted (e.Or xs) (ExprKind-F.Or xs) line n (outs-Or xs)

pub parts-Compare : (counted : Bool) (x : Expr) (pairs : List (CmpOp × Expr)) (line n : ℕ) → parts_of counted (e.Compare x pairs) line n ≡ level counted (ExprKind-F.Compare x pairs) line n
parts-Compare counted x pairs line n = by_kind counted (e.Compare x pairs) (ExprKind-F.Compare x pairs) line n (outs-Compare x pairs)

pub parts-Cond : (counted : Bool) (a test b : Expr) (line n : ℕ) → parts_of counted (e.Cond a test b) line n ≡ level counted (ExprKind-F.Cond a test b) line n
parts-Cond counted a test b line n = by_kind counted (e.Cond a test b) (ExprKind-F.Cond a test b) line n (outs-Cond a test b)

pub ruleset parts = (part-out, parts-NoneLit, parts-BoolLit, parts-IntLit, parts-StrLit, parts-Name, parts-ListLit, parts-TupleLit, parts-DictLit, parts-Attr, parts-Index, parts-Slice, parts-Call, parts-Method, parts-Super, parts-Unary, parts-Not, parts-Binary, parts-And, parts-Or, parts-Compare, parts-Cond)
