-- The arguments of a call in the order in which they were written: those that were seen, and those that are left.
use Rattle.std.proofs.Common.{◌≡◌, ◌∙◌, refl, sym, ap, ap₂, ℕ, ◌+◌, ◌<◌, ◌≤◌, Bool, true, false, List, Option, Some, None, [], ◌∷◌, ◌++◌, map, take, drop, length, get_or, arith}
use Rattle.std.specs.List.{flat_map, prefix_len}
use Rattle.std.proofs.lemmas.List.{drop_all, map-append}
use Rattle.py_syntax.specs.declared.expr.Expr.{Expr}
use Rattle.py_sites.specs.Code.{precedes}
use Rattle.py_sites.specs.Nodes.{Node, Nodes, in_order, expression}
use Rattle.py_sites.specs.Walks.{last_from, nearer, named_node}
use Rattle.py_sites.proofs.Lists.{last_append, rest_of}

prefix_passes : {X : Type 0} (p : X → Bool) (x : X) (xs : List X) → p x ≡ true → prefix_len p (x ∷ xs) ≡ 1 + prefix_len p xs
prefix_passes p x xs e = rw (e) refl

-- the items in front that pass: one more of them
pub prefix_goes_on : {X : Type 0} (p : X → Bool) (xs : List X) (i : ℕ) (x : X) → i < length xs → x ≡ get_or xs i x → prefix_len p xs ≡ i + prefix_len p (drop i xs) → p x ≡ true → prefix_len p xs ≡ (i + 1) + prefix_len p (drop (i + 1) xs)
prefix_goes_on p xs i x lt is before passes = before ∙ ap (λ ys. i + prefix_len p ys) (rest_of xs i x lt is) ∙ ap (λ n. i + n) (prefix_passes p x (drop (i + 1) xs) passes) ∙ omega arith

pub prefix_all : {X : Type 0} (p : X → Bool) (xs : List X) (i : ℕ) → length xs ≤ i → i ≤ length xs → prefix_len p xs ≡ i + prefix_len p (drop i xs) → length xs ≡ prefix_len p xs
prefix_all p xs i le ge before =
    let none : i + prefix_len p (drop i xs) ≡ i = ap (λ ys. i + prefix_len p ys) (drop_all i xs le) ∙ omega arith in
    sym (before ∙ none ∙ omega arith)

abbrev Named : Type 0
Named = List ℕ × Expr

-- the arguments that are left, in order
abbrev pub left_in_order : List Expr → ℕ → List Named → Nodes
left_in_order all i left = map expression (in_order (λ x. x.node.0) (drop i all) left)

values_are : (named : List Named) → flat_map named_node named ≡ map expression (map (λ n. n.1) named)
values_are [] = refl
values_are (n ∷ named) = ap (λ ys. expression n.1 ∷ ys) (values_are named)

module _ (limit : Option ℕ) where
  next_is : (xs : List Expr) (x : Expr) (left : List Named) (found : Option Node)
      → (let k = prefix_len (precedes x.node.0) left in last_from limit found (map expression (in_order (λ x. x.node.0) (x ∷ xs) left))
      ≡ last_from limit (nearer limit (last_from limit found (flat_map named_node (take k left))) (expression x)) (map expression (in_order (λ x. x.node.0) xs (drop k left))))
  next_is xs x left found =
      let k = prefix_len (precedes x.node.0) left in
      let front : List Expr = map (λ n. n.1) (take k left) in
      let back : List Expr = in_order (λ x. x.node.0) xs (drop k left) in
      ap (last_from limit found) (map-append expression front (x ∷ back))
      ∙ last_append limit found (map expression front) (expression x ∷ map expression back)
      ∙ ap (λ ys. last_from limit (nearer limit (last_from limit found ys) (expression x)) (map expression back)) (sym (values_are (take k left)))

  -- one more plain argument was seen, with the named ones before it
  pub one_argument : (all : List Expr) (i : ℕ) (x : Expr) (left front back : List Named) (k : ℕ) (found first found' whole : Option Node) → i < length all → x ≡ get_or all i x
      → k ≡ prefix_len (precedes x.node.0) left → front ≡ take k left → back ≡ drop k left
      → whole ≡ last_from limit found (left_in_order all i left) → first ≡ last_from limit found (flat_map named_node front) → found' ≡ nearer limit first (expression x)
      → whole ≡ last_from limit found' (left_in_order all (i + 1) back)
  one_argument all i x left front back k found first found' whole lt is count f b before e e' =
      let xs = drop (i + 1) all in
      before ∙ ap (λ zs. last_from limit found (map expression (in_order (λ x. x.node.0) zs left))) (rest_of all i x lt is)
      ∙ next_is xs x left found
      ∙ ap (λ n. last_from limit (nearer limit (last_from limit found (flat_map named_node (take n left))) (expression x)) (map expression (in_order (λ x. x.node.0) xs (drop n left)))) (sym count)
      ∙ ap₂ (λ fs bs. last_from limit (nearer limit (last_from limit found (flat_map named_node fs)) (expression x)) (map expression (in_order (λ x. x.node.0) xs bs))) (sym f) (sym b)
      ∙ ap (λ o. last_from limit (nearer limit o (expression x)) (map expression (in_order (λ x. x.node.0) xs back))) (sym e)
      ∙ ap (λ o. last_from limit o (map expression (in_order (λ x. x.node.0) xs back))) (sym e')

  -- all plain arguments were seen: the named ones that are left come last
  pub all_arguments : (all : List Expr) (i : ℕ) (left : List Named) (found last whole : Option Node) → length all ≤ i
      → whole ≡ last_from limit found (left_in_order all i left) → last ≡ last_from limit found (flat_map named_node left) → last ≡ whole
  all_arguments all i left found last whole le before e =
      e ∙ ap (last_from limit found) (values_are left)
      ∙ sym (before ∙ ap (λ zs. last_from limit found (map expression (in_order (λ x. x.node.0) zs left))) (drop_all i all le))
