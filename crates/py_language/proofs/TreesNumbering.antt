-- The numbers of a shape's nodes, one node at a time.
use Rattle.std.proofs.Common.{◌≡◌, ℕ, List, ◌∙◌, ap, Option}
use Rattle.py_language.specs.declared.shape.Atom.{Atom}
use Rattle.py_language.specs.declared.shape.Shape.{Shape, Shape-F, fold_out-Shape, out-Shape}
use Rattle.py_language.specs.declared.shape.Shape.TheVariants as s
use Rattle.py_language.specs.declared.shape.Shape.TheVariants.{outs-Atom, outs-ListLit, outs-TupleLit, outs-DictLit, outs-Attr, outs-Index, outs-Slice, outs-Call, outs-Method, outs-Super, outs-Unary, outs-Not, outs-Binary, outs-And, outs-Or, outs-Compare, outs-Cond}
use Rattle.py_language.specs.declared.shape.Shape.TheFolds.{map-Shape}
use Rattle.py_language.specs.TreesNumbers.{Numbered, node, parts, numbered}
use Rattle.py_syntax.specs.declared.expr.Expr.{Expr}
use Rattle.py_syntax.specs.declared.operator.BinOp.{BinOp}
use Rattle.py_syntax.specs.declared.operator.CmpOp.{CmpOp}
use Rattle.py_syntax.specs.declared.operator.Sign.{Sign}

-- a node with its parts, each of which is numbered
abbrev pub level : Shape-F Shape → Numbered Expr
level x = node (parts (map-Shape Shape (Numbered Expr) numbered x))

pub numbered-out : (x : Shape) → numbered x ≡ level (out-Shape x)
unfolding numbered
numbered-out x = fold_out-Shape (Numbered Expr) (λ x. node (parts x)) x

pub numbered-Atom : (x : Atom) (k : ℕ) → numbered (s.Atom x) k ≡ level (Shape-F.Atom x) k
numbered-Atom x k = ap (λ (p : Numbered Expr). p k) (numbered-out (s.Atom x) ∙ ap level (outs-Atom x))

pub numbered-ListLit : (xs : List Shape) (k : ℕ) → numbered (s.ListLit xs) k ≡ level (Shape-F.ListLit xs) k
numbered-ListLit xs k = ap (λ (p : Numbered Expr). p k) (numbered-out (s.ListLit xs) ∙ ap level (outs-ListLit xs))

pub numbered-TupleLit : (xs : List Shape) (k : ℕ) → numbered (s.TupleLit xs) k ≡ level (Shape-F.TupleLit xs) k
numbered-TupleLit xs k = ap (λ (p : Numbered Expr). p k) (numbered-out (s.TupleLit xs) ∙ ap level (outs-TupleLit xs))

pub numbered-DictLit : (xs : List (Shape × Shape)) (k : ℕ) → numbered (s.DictLit xs) k ≡ level (Shape-F.DictLit xs) k
numbered-DictLit xs k = ap (λ (p : Numbered Expr). p k) (numbered-out (s.DictLit xs) ∙ ap level (outs-DictLit xs))

pub numbered-Attr : (x : Shape) (n : List ℕ) (k : ℕ) → numbered (s.Attr x n) k ≡ level (Shape-F.Attr x n) k
numbered-Attr x n k = ap (λ (p : Numbered Expr). p k) (numbered-out (s.Attr x n) ∙ ap level (outs-Attr x n))

pub numbered-Index : (x i : Shape) (k : ℕ) → numbered (s.Index x i) k ≡ level (Shape-F.Index x i) k
numbered-Index x i k = ap (λ (p : Numbered Expr). p k) (numbered-out (s.Index x i) ∙ ap level (outs-Index x i))

pub numbered-Slice : (x : Shape) (a b : Option Shape) (k : ℕ) → numbered (s.Slice x a b) k ≡ level (Shape-F.Slice x a b) k
numbered-Slice x a b k = ap (λ (p : Numbered Expr). p k) (numbered-out (s.Slice x a b) ∙ ap level (outs-Slice x a b))

pub numbered-Call : (x : Shape) (xs : List (Option (List ℕ) × Shape)) (k : ℕ) → numbered (s.Call x xs) k ≡ level (Shape-F.Call x xs) k
numbered-Call x xs k = ap (λ (p : Numbered Expr). p k) (numbered-out (s.Call x xs) ∙ ap level (outs-Call x xs))

pub numbered-Method : (x : Shape) (n : List ℕ) (xs : List (Option (List ℕ) × Shape)) (k : ℕ) → numbered (s.Method x n xs) k ≡ level (Shape-F.Method x n xs) k
numbered-Method x n xs k = ap (λ (p : Numbered Expr). p k) (numbered-out (s.Method x n xs) ∙ ap level (outs-Method x n xs))

pub numbered-Super : (n : List ℕ) (xs : List (Option (List ℕ) × Shape)) (k : ℕ) → numbered (s.Super n xs) k ≡ level (Shape-F.Super n xs) k
numbered-Super n xs k = ap (λ (p : Numbered Expr). p k) (numbered-out (s.Super n xs) ∙ ap level (outs-Super n xs))

pub numbered-Unary : (g : Sign) (x : Shape) (k : ℕ) → numbered (s.Unary g x) k ≡ level (Shape-F.Unary g x) k
numbered-Unary g x k = ap (λ (p : Numbered Expr). p k) (numbered-out (s.Unary g x) ∙ ap level (outs-Unary g x))

pub numbered-Not : (x : Shape) (k : ℕ) → numbered (s.Not x) k ≡ level (Shape-F.Not x) k
numbered-Not x k = ap (λ (p : Numbered Expr). p k) (numbered-out (s.Not x) ∙ ap level (outs-Not x))

pub numbered-Binary : (op : BinOp) (a b : Shape) (k : ℕ) → numbered (s.Binary op a b) k ≡ level (Shape-F.Binary op a b) k
numbered-Binary op a b k = ap (λ (p : Numbered Expr). p k) (numbered-out (s.Binary op a b) ∙ ap level (outs-Binary op a b))

pub numbered-And : (xs : List Shape) (k : ℕ) → numbered (s.And xs) k ≡ level (Shape-F.And xs) k
numbered-And xs k = ap (λ (p : Numbered Expr). p k) (numbered-out (s.And xs) ∙ ap level (outs-And xs))

pub numbered-Or : (xs : List Shape) (k : ℕ) → numbered (s.Or xs) k ≡ level (Shape-F.Or xs) k
numbered-Or xs k = ap (λ (p : Numbered Expr). p k) (numbered-out (s.Or xs) ∙ ap level (outs-Or xs))

pub numbered-Compare : (x : Shape) (xs : List (CmpOp × Shape)) (k : ℕ) → numbered (s.Compare x xs) k ≡ level (Shape-F.Compare x xs) k
numbered-Compare x xs k = ap (λ (p : Numbered Expr). p k) (numbered-out (s.Compare x xs) ∙ ap level (outs-Compare x xs))

pub numbered-Cond : (a b c : Shape) (k : ℕ) → numbered (s.Cond a b c) k ≡ level (Shape-F.Cond a b c) k
numbered-Cond a b c k = ap (λ (p : Numbered Expr). p k) (numbered-out (s.Cond a b c) ∙ ap level (outs-Cond a b c))

pub ruleset numbering = (numbered-Atom, numbered-ListLit, numbered-TupleLit, numbered-DictLit, numbered-Attr, numbered-Index, numbered-Slice, numbered-Call, numbered-Method, numbered-Super, numbered-Unary, numbered-Not, numbered-Binary, numbered-And, numbered-Or, numbered-Compare, numbered-Cond)
