-- The text of each form of node, from the texts of its parts.
use Rattle.std.proofs.Common.{◌≡◌, ◌∙◌, ap, ℕ, List, Option, Some, None}
use Rattle.std.specs.Prelude.{map, option_map}
use Rattle.py_language.specs.declared.shape.Atom.{Atom}
use Rattle.py_language.specs.declared.shape.Shape.{Shape, Shape-F, fold_out-Shape, out-Shape}
use Rattle.py_language.specs.declared.shape.Shape.TheVariants as e
use Rattle.py_language.specs.declared.shape.Shape.TheVariants.{outs-Atom, outs-ListLit, outs-TupleLit, outs-DictLit, outs-Attr, outs-Index, outs-Slice, outs-Call, outs-Method, outs-Super, outs-Unary, outs-Not, outs-Binary, outs-And, outs-Or, outs-Compare, outs-Cond}
use Rattle.py_language.specs.declared.shape.Shape.TheFolds.{map-Shape}
use Rattle.py_syntax.specs.declared.operator.BinOp.{BinOp}
use Rattle.py_syntax.specs.declared.operator.CmpOp.{CmpOp}
use Rattle.py_syntax.specs.declared.operator.Sign.{Sign}
use Rattle.py_printing.specs.Printing.{Printed, print_node, printed}

abbrev node_of : Shape-F Shape → Printed
node_of x = print_node (map-Shape Shape Printed printed x)

printed-out : (x : Shape) → printed x ≡ node_of (out-Shape x)
unfolding printed
printed-out x = fold_out-Shape Printed print_node x

pub printed-Atom : (x : Atom) → printed (e.Atom x) ≡ print_node (Shape-F.Atom x)
printed-Atom x = printed-out (e.Atom x) ∙ ap node_of (outs-Atom x)

pub printed-ListLit : (xs : List Shape) → printed (e.ListLit xs) ≡ print_node (Shape-F.ListLit (map printed xs))
printed-ListLit xs = printed-out (e.ListLit xs) ∙ ap node_of (outs-ListLit xs)

pub printed-TupleLit : (xs : List Shape) → printed (e.TupleLit xs) ≡ print_node (Shape-F.TupleLit (map printed xs))
printed-TupleLit xs = printed-out (e.TupleLit xs) ∙ ap node_of (outs-TupleLit xs)

pub printed-DictLit : (xs : List (Shape × Shape)) → printed (e.DictLit xs) ≡ print_node (Shape-F.DictLit (map (λ (p : Shape × Shape). (printed p.0, printed p.1)) xs))
printed-DictLit xs = printed-out (e.DictLit xs) ∙ ap node_of (outs-DictLit xs)

pub printed-Attr : (x : Shape) (n : List ℕ) → printed (e.Attr x n) ≡ print_node (Shape-F.Attr (printed x) n)
printed-Attr x n = printed-out (e.Attr x n) ∙ ap node_of (outs-Attr x n)

pub printed-Index : (x i : Shape) → printed (e.Index x i) ≡ print_node (Shape-F.Index (printed x) (printed i))
printed-Index x i = printed-out (e.Index x i) ∙ ap node_of (outs-Index x i)

pub printed-Slice : (x : Shape) (a b : Option Shape) → printed (e.Slice x a b) ≡ print_node (Shape-F.Slice (printed x) (option_map printed a) (option_map printed b))
printed-Slice x None None = printed-out (e.Slice x None None) ∙ ap node_of (outs-Slice x None None)
printed-Slice x None (Some w) = printed-out (e.Slice x None (Some w)) ∙ ap node_of (outs-Slice x None (Some w))
printed-Slice x (Some v) None = printed-out (e.Slice x (Some v) None) ∙ ap node_of (outs-Slice x (Some v) None)
printed-Slice x (Some v) (Some w) = printed-out (e.Slice x (Some v) (Some w)) ∙ ap node_of (outs-Slice x (Some v) (Some w))

pub printed-Call : (x : Shape) (xs : List (Option (List ℕ) × Shape)) → printed (e.Call x xs) ≡ print_node (Shape-F.Call (printed x) (map (λ (p : Option (List ℕ) × Shape). (p.0, printed p.1)) xs))
printed-Call x xs = printed-out (e.Call x xs) ∙ ap node_of (outs-Call x xs)

pub printed-Method : (x : Shape) (n : List ℕ) (xs : List (Option (List ℕ) × Shape)) → printed (e.Method x n xs) ≡ print_node (Shape-F.Method (printed x) n (map (λ (p : Option (List ℕ) × Shape). (p.0, printed p.1)) xs))
printed-Method x n xs = printed-out (e.Method x n xs) ∙ ap node_of (outs-Method x n xs)

pub printed-Super : (n : List ℕ) (xs : List (Option (List ℕ) × Shape)) → printed (e.Super n xs) ≡ print_node (Shape-F.Super n (map (λ (p : Option (List ℕ) × Shape). (p.0, printed p.1)) xs))
printed-Super n xs = printed-out (e.Super n xs) ∙ ap node_of (outs-Super n xs)

pub printed-Unary : (g : Sign) (x : Shape) → printed (e.Unary g x) ≡ print_node (Shape-F.Unary g (printed x))
printed-Unary g x = printed-out (e.Unary g x) ∙ ap node_of (outs-Unary g x)

pub printed-Not : (x : Shape) → printed (e.Not x) ≡ print_node (Shape-F.Not (printed x))
printed-Not x = printed-out (e.Not x) ∙ ap node_of (outs-Not x)

pub printed-Binary : (op : BinOp) (x y : Shape) → printed (e.Binary op x y) ≡ print_node (Shape-F.Binary op (printed x) (printed y))
printed-Binary op x y = printed-out (e.Binary op x y) ∙ ap node_of (outs-Binary op x y)

pub printed-And : (xs : List Shape) → printed (e.And xs) ≡ print_node (Shape-F.And (map printed xs))
printed-And xs = printed-out (e.And xs) ∙ ap node_of (outs-And xs)

pub printed-Or : (xs : List Shape) → printed (e.Or xs) ≡ print_node (Shape-F.Or (map printed xs))
printed-Or xs = printed-out (e.Or xs) ∙ ap node_of (outs-Or xs)

pub printed-Compare : (x : Shape) (xs : List (CmpOp × Shape)) → printed (e.Compare x xs) ≡ print_node (Shape-F.Compare (printed x) (map (λ (c : CmpOp × Shape). (c.0, printed c.1)) xs))
printed-Compare x xs = printed-out (e.Compare x xs) ∙ ap node_of (outs-Compare x xs)

pub printed-Cond : (x y z : Shape) → printed (e.Cond x y z) ≡ print_node (Shape-F.Cond (printed x) (printed y) (printed z))
printed-Cond x y z = printed-out (e.Cond x y z) ∙ ap node_of (outs-Cond x y z)
