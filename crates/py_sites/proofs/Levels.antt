-- A node and its parts: the nodes in it are the node and then those in its parts.
use Rattle.std.proofs.Common.{◌≡◌, ◌∙◌, refl, sym, ap, ap₂, ℕ, zero, suc, Bool, nat_lt, List, Option, Some, None, [], ◌∷◌, ◌++◌, map, take, drop}
use Rattle.std.specs.List.{flat_map, prefix_len}
use Rattle.std.specs.Option.{option_map, option_to_list}
use Rattle.std.proofs.lemmas.List.{map-append}
use Rattle.std.proofs.lemmas.List.Folds.{flat_map-map}
use Rattle.py_syntax.specs.declared.expr.Args.{Args, Args-F, out-Args, para-Args, para-roll-Args, roll-out-Args}
use Rattle.py_syntax.specs.declared.expr.Expr.{Expr, Expr-F, para-Expr, para-roll-Expr}
use Rattle.py_syntax.specs.declared.expr.ExprKind.{ExprKind, ExprKind-F, out-ExprKind, para-ExprKind, para-roll-ExprKind, roll-out-ExprKind, map-ExprKind}
use Rattle.py_syntax.specs.declared.operator.CmpOp.{CmpOp}
use Rattle.py_sites.specs.Nodes.{Node, Nodes, kind_nodes, args_nodes, one_expr, expr_nodes, expr_parts, args_of, in_order, expression}

-- what stands with the nodes in it
abbrev pub with : {X : Type 0} → (X → Nodes) → X → X × Nodes
with f x = (x, f x)

flat_with : {X : Type 0} (f : X → Nodes) (xs : List X) → flat_map (λ p. p.1) (map (with f) xs) ≡ flat_map f xs
flat_with f xs = flat_map-map (λ (p : _ × Nodes). p.1) (with f) xs

-- ---- the arguments of a call

prefix_map_by : {X Y : Type 0} (p : Y → Bool) (q : X → Bool) (f : X → Y) → ((x : X) → p (f x) ≡ q x) → (xs : List X) → prefix_len p (map f xs) ≡ prefix_len q xs
prefix_map_by p q f same [] = refl
prefix_map_by p q f same (x ∷ xs) = prefix_map_at p q f same x xs (prefix_map_by p q f same xs)
  where
    prefix_map_at : {X Y : Type 0} (p : Y → Bool) (q : X → Bool) (f : X → Y) → ((x : X) → p (f x) ≡ q x) → (x : X) (xs : List X) → prefix_len p (map f xs) ≡ prefix_len q xs → prefix_len p (map f (x ∷ xs)) ≡ prefix_len q (x ∷ xs)
    prefix_map_at p q f same x xs e = rw (same x, e) refl

take_map : {X Y : Type 0} (f : X → Y) (n : ℕ) (xs : List X) → take n (map f xs) ≡ map f (take n xs)
take_map f zero xs = refl
take_map f (suc n) [] = refl
take_map f (suc n) (x ∷ xs) = ap (λ ys. f x ∷ ys) (take_map f n xs)

drop_map : {X Y : Type 0} (f : X → Y) (n : ℕ) (xs : List X) → drop n (map f xs) ≡ map f (drop n xs)
drop_map f zero xs = refl
drop_map f (suc n) [] = refl
drop_map f (suc n) (x ∷ xs) = drop_map f n xs

map_twice : {X Y Z : Type 0} (f : Y → Z) (g : X → Y) (xs : List X) → map f (map g xs) ≡ map (λ x. f (g x)) xs
map_twice f g [] = refl
map_twice f g (x ∷ xs) = ap (λ ys. f (g x) ∷ ys) (map_twice f g xs)

module _ {E F : Type 0} (f : E → F) (number : E → ℕ) (number' : F → ℕ) (same : (e : E) → number' (f e) ≡ number e) where
  abbrev named_by : List ℕ × E → List ℕ × F
  named_by n = (n.0, f n.1)

  abbrev front : E → List (List ℕ × E) → ℕ
  front x named = prefix_len (λ n. nat_lt (number n.1) (number x)) named

  front_is : (x : E) (named : List (List ℕ × E)) → prefix_len (λ n. nat_lt (number' n.1) (number' (f x))) (map named_by named) ≡ front x named
  front_is x named = prefix_map_by (λ n. nat_lt (number' n.1) (number' (f x))) (λ n. nat_lt (number n.1) (number x)) named_by (λ n. ap₂ nat_lt (same n.1) (same x)) named

  values_are : (named : List (List ℕ × E)) → map (λ n. n.1) (map named_by named) ≡ map f (map (λ n. n.1) named)
  values_are [] = refl
  values_are (n ∷ named) = ap (λ ys. f n.1 ∷ ys) (values_are named)

  -- what the arguments become in their order, they become
  pub in_order_map : (xs : List E) (named : List (List ℕ × E)) → in_order number' (map f xs) (map named_by named) ≡ map f (in_order number xs named)
  in_order_map [] named = values_are named
  in_order_map (x ∷ xs) named =
      let k = front x named in
      ap (λ n. map (λ p. p.1) (take n (map named_by named)) ++ f x ∷ in_order number' (map f xs) (drop n (map named_by named))) (front_is x named)
      ∙ ap₂ (λ a b. map (λ p. p.1) a ++ f x ∷ in_order number' (map f xs) b) (take_map named_by k named) (drop_map named_by k named)
      ∙ ap₂ (λ a b. a ++ f x ∷ b) (values_are (take k named)) (in_order_map xs (drop k named))
      ∙ sym (map-append f (map (λ n. n.1) (take k named)) (x ∷ in_order number xs (drop k named)))

-- ---- expressions

abbrev K : ExprKind → Nodes
K = para-ExprKind Nodes (List (Expr × Nodes)) Nodes kind_nodes args_nodes one_expr

abbrev A : Args → List (Expr × Nodes)
A = para-Args Nodes (List (Expr × Nodes)) Nodes kind_nodes args_nodes one_expr

args_are : (given : Args) → A given ≡ map (with expr_nodes) (args_of given)
unfolding expr_nodes
args_are given =
    ap A (sym (roll-out-Args given))
    ∙ para-roll-Args Nodes (List (Expr × Nodes)) Nodes kind_nodes args_nodes one_expr (out-Args given)
    ∙ in_order_map (with expr_nodes) (λ x. x.node.0) (λ x. x.0.node.0) (λ x. refl) (out-Args given).plain (out-Args given).named

abbrev with_parts : ExprKind-F ExprKind Args Expr → ExprKind-F (ExprKind × Nodes) (Args × List (Expr × Nodes)) (Expr × Nodes)
with_parts = map-ExprKind ExprKind Args Expr (ExprKind × Nodes) (Args × List (Expr × Nodes)) (Expr × Nodes) (λ y. (y, K y)) (λ y. (y, A y)) (with expr_nodes)

pairs_are : (pairs : List (Expr × Expr)) → flat_map (λ p. p.0 ∷ p.1 ∷ []) (map (λ (p : Expr × Expr). let q : (Expr × Nodes) × (Expr × Nodes) = (with expr_nodes p.0, with expr_nodes p.1) in q) pairs) ≡ map (with expr_nodes) (flat_map (λ p. p.0 ∷ p.1 ∷ []) pairs)
pairs_are [] = refl
pairs_are (p ∷ pairs) = ap (λ ys. with expr_nodes p.0 ∷ with expr_nodes p.1 ∷ ys) (pairs_are pairs)

operands_are : (pairs : List (CmpOp × Expr)) → map (λ p. p.1) (map (λ (p : CmpOp × Expr). let q : CmpOp × (Expr × Nodes) = (p.0, with expr_nodes p.1) in q) pairs) ≡ map (with expr_nodes) (map (λ p. p.1) pairs)
operands_are [] = refl
operands_are (p ∷ pairs) = ap (λ ys. with expr_nodes p.1 ∷ ys) (operands_are pairs)

kind_is : (k : ExprKind-F ExprKind Args Expr) → expr_parts (λ given. given.1) (with_parts k) ≡ map (with expr_nodes) (expr_parts args_of k)
kind_is ExprKind-F.NoneLit = refl
kind_is (ExprKind-F.BoolLit b) = refl
kind_is (ExprKind-F.IntLit n) = refl
kind_is (ExprKind-F.StrLit text) = refl
kind_is (ExprKind-F.Name name) = refl
kind_is (ExprKind-F.ListLit xs) = refl
kind_is (ExprKind-F.TupleLit xs) = refl
kind_is (ExprKind-F.DictLit pairs) = pairs_are pairs
kind_is (ExprKind-F.Attr x name) = refl
kind_is (ExprKind-F.Index x i) = refl
kind_is (ExprKind-F.Slice x None None) = refl
kind_is (ExprKind-F.Slice x None (Some b)) = refl
kind_is (ExprKind-F.Slice x (Some a) None) = refl
kind_is (ExprKind-F.Slice x (Some a) (Some b)) = refl
kind_is (ExprKind-F.Call x given) = ap (λ ys. with expr_nodes x ∷ ys) (args_are given)
kind_is (ExprKind-F.Method x name given) = ap (λ ys. with expr_nodes x ∷ ys) (args_are given)
kind_is (ExprKind-F.Super name given) = args_are given
kind_is (ExprKind-F.Unary sign x) = refl
kind_is (ExprKind-F.Not x) = refl
kind_is (ExprKind-F.Binary op a b) = refl
kind_is (ExprKind-F.And xs) = refl
kind_is (ExprKind-F.Or xs) = refl
kind_is (ExprKind-F.Compare x pairs) = ap (λ ys. with expr_nodes x ∷ ys) (operands_are pairs)
kind_is (ExprKind-F.Cond a test b) = refl

pub expr_level : (x : Expr) → expr_nodes x ≡ expression x ∷ flat_map expr_nodes (expr_parts args_of (out-ExprKind x.kind))
unfolding expr_nodes
expr_level x =
    para-roll-Expr Nodes (List (Expr × Nodes)) Nodes kind_nodes args_nodes one_expr (record { node = x.node; line = x.line; kind = x.kind })
    ∙ ap (λ ys. expression x ∷ ys)
    (ap K (sym (roll-out-ExprKind x.kind))
    ∙ para-roll-ExprKind Nodes (List (Expr × Nodes)) Nodes kind_nodes args_nodes one_expr (out-ExprKind x.kind)
    ∙ ap (flat_map (λ p. p.1)) (kind_is (out-ExprKind x.kind))
    ∙ flat_with expr_nodes (expr_parts args_of (out-ExprKind x.kind)))
