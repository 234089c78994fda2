-- Numbers that follow one another: they ascend, and the last tells how many they are.
use Rattle.std.proofs.Common.{◌≡◌, ◌∙◌, refl, sym, ap, ap₂, ℕ, zero, suc, ◌+◌, ◌-◌, ◌<◌, ◌≤◌, List, Option, Some, None, [], ◌∷◌, ◌++◌, map, length, length-append, arith, subst}
use Rattle.std.specs.List.{flat_map, range_with_len, AllByRecursion}
use Rattle.std.proofs.lemmas.List.{map-append}
use Rattle.py_syntax.specs.declared.module.Func.{Func}
use Rattle.py_syntax.specs.declared.module.Module.{Module}
use Rattle.py_sites.specs.Nodes.{Node, Nodes, nodes, parts, number, nodes_of, all_functions, function, statement, stmt_nodes, sites, Ascend, IsNumbered, AreConsecutive}
use Rattle.py_sites.specs.Walks.{last_from}
use Rattle.py_sites.proofs.Lists.{last_append}
use Rattle.py_sites.proofs.StmtLevels.{node_level}

-- numbers from a on
abbrev From : ℕ → Nodes → Type 0
From a xs = map number xs ≡ range_with_len a (length xs)

from_front : (a : ℕ) (x : Node) (xs : Nodes) → From a (x ∷ xs) → number x ≡ a
from_front a x xs e = cc

from_rest : (a : ℕ) (x : Node) (xs : Nodes) → From a (x ∷ xs) → From (a + 1) xs
from_rest a x xs e = cc

from_join : (a : ℕ) (x : Node) (xs : Nodes) → number x ≡ a → From (a + 1) xs → From a (x ∷ xs)
from_join a x xs e f = ap₂ (λ n ns. n ∷ ns) e f

-- where they are cut, both halves follow one another
cut_front : (a : ℕ) (xs ys : Nodes) → From a (xs ++ ys) → From a xs
cut_front a [] ys e = refl
cut_front a (x ∷ xs) ys e = from_join a x xs (from_front a x (xs ++ ys) e) (cut_front (a + 1) xs ys (from_rest a x (xs ++ ys) e))

cut_back : (a : ℕ) (xs ys : Nodes) → From a (xs ++ ys) → From (a + length xs) ys
cut_back a [] ys e = subst (λ b. From b ys) (omega arith) e
cut_back a (x ∷ xs) ys e = subst (λ b. From b ys) (omega arith) (cut_back (a + 1) xs ys (from_rest a x (xs ++ ys) e))

above_all : (a b : ℕ) (xs : Nodes) → a < b → From b xs → AllByRecursion (λ y. a < number y) xs
above_all a b [] lt e = tt
above_all a b (x ∷ xs) lt e = let first = from_front b x xs e in (omega (arith, first), above_all a (b + 1) xs (omega arith) (from_rest b x xs e))

ascend_from : (a : ℕ) (xs : Nodes) → From a xs → Ascend xs
ascend_from a [] e = tt
ascend_from a (x ∷ xs) e = let first = from_front a x xs e in (above_all (number x) (a + 1) xs (omega (arith, first)) (from_rest a x xs e), ascend_from (a + 1) xs (from_rest a x xs e))

length_range : (a k : ℕ) → length (range_with_len a k) ≡ k
length_range a zero = refl
length_range a (suc k) = ap suc (length_range (a + 1) k)

length_numbers : (xs : Nodes) → length (map number xs) ≡ length xs
length_numbers [] = refl
length_numbers (x ∷ xs) = ap suc (length_numbers xs)

-- a range of any length is of the list's
from_range : (a k : ℕ) (xs : Nodes) → map number xs ≡ range_with_len a k → From a xs
from_range a k xs e = e ∙ ap (range_with_len a) (sym (sym (length_numbers xs) ∙ ap length e ∙ length_range a k))

pub numbered_ascends : (m : Module) → IsNumbered m → Ascend (nodes_of m)
numbered_ascends m e = ascend_from 0 (nodes_of m) (from_range 0 m.nodes (nodes_of m) e)

begins : (f : Func) → nodes (function f) ≡ function f ∷ sites f
begins f = refl

each_from : (a : ℕ) (fs : List Func) → From a (flat_map nodes (map function fs)) → AllByRecursion AreConsecutive fs
each_from a [] e = tt
each_from a (f ∷ fs) e =
    let more = flat_map nodes (map function fs) in
    let here : From a (function f ∷ sites f) = cut_front a (nodes (function f)) more e in
    let own : f.node.0 ≡ a = from_front a (function f) (sites f) here in
    (subst (λ n. From (n + 1) (sites f)) (sym own) (from_rest a (function f) (sites f) here), each_from (a + length (nodes (function f))) fs (cut_back a (nodes (function f)) more e))

pub numbered_functions : (m : Module) → IsNumbered m → AllByRecursion AreConsecutive (all_functions m)
numbered_functions m e = each_from 0 (all_functions m) (from_range 0 m.nodes (nodes_of m) e)

-- ---- the last of them

last_number : (a : ℕ) (x h : Node) (xs : Nodes) → From a (x ∷ xs) → last_from None None (x ∷ xs) ≡ Some h → number h ≡ a + length xs
last_number a x h [] e l = let first = from_front a x [] e in let same : x ≡ h = cc in ap number (sym same) ∙ first ∙ omega arith
last_number a x h (y ∷ ys) e l = last_number (a + 1) y h ys (from_rest a x (y ∷ ys) e) l ∙ omega arith

-- the last node in a node's last part is its last
abbrev or_else : Option Node → Option Node → Option Node
or_else best None = best
or_else best (Some p) = last_from None None (nodes p)

after_node : (best : Option Node) (p : Node) → last_from None best (nodes p) ≡ last_from None None (nodes p)
after_node best p = ap (last_from None best) (node_level p) ∙ sym (ap (last_from None None) (node_level p))

last_in_parts : (best : Option Node) (ps : List Node) → last_from None best (flat_map nodes ps) ≡ or_else best (last_from None None ps)
last_in_parts best [] = refl
last_in_parts best (p ∷ []) = last_append None best (nodes p) [] ∙ after_node best p
last_in_parts best (p ∷ q ∷ ps) =
    last_append None best (nodes p) (flat_map nodes (q ∷ ps))
    ∙ last_in_parts (last_from None best (nodes p)) (q ∷ ps)
    ∙ some_last (last_from None best (nodes p)) best (q ∷ ps) q ps refl
  where
    some_last : (b c : Option Node) (rs : List Node) (q : Node) (ps : List Node) → rs ≡ q ∷ ps → or_else b (last_from None None rs) ≡ or_else c (last_from None None rs)
    some_last b c rs q ps e = ap (λ zs. or_else b (last_from None None zs)) e ∙ there b c q ps ∙ sym (ap (λ zs. or_else c (last_from None None zs)) e)
      where
        there : (b c : Option Node) (q : Node) (ps : List Node) → or_else b (last_from None (Some q) ps) ≡ or_else c (last_from None (Some q) ps)
        there b c q [] = refl
        there b c q (r ∷ ps) = there b c r ps

pub last_goes_down : (x p : Node) → last_from None None (parts x) ≡ Some p → last_from None None (nodes x) ≡ last_from None None (nodes p)
last_goes_down x p e = ap (last_from None None) (node_level x) ∙ last_in_parts (Some x) (parts x) ∙ ap (or_else (Some x)) e

pub last_is_here : (x : Node) → last_from None None (parts x) ≡ None → last_from None None (nodes x) ≡ Some x
last_is_here x e = ap (last_from None None) (node_level x) ∙ last_in_parts (Some x) (parts x) ∙ ap (or_else (Some x)) e

-- ---- the numbers of a function's body, one after another

more_range : (a k : ℕ) → range_with_len a (k + 1) ≡ range_with_len a k ++ (a + k) ∷ []
more_range a zero = let e : a ≡ a + zero = omega arith in ap (λ n. n ∷ []) e
more_range a (suc k) =
    let e : suc k + 1 ≡ suc (k + 1) = omega arith in
    let f : (a + 1) + k ≡ a + suc k = omega arith in
    ap (range_with_len a) e ∙ ap (λ ns. a ∷ ns) (more_range (a + 1) k ∙ ap (λ n. range_with_len (a + 1) k ++ n ∷ []) f)

pub one_number : (first next next' : ℕ) (ids ids' : List ℕ) → first ≤ next → next' ≡ next + 1 → ids ≡ range_with_len (first + 1) (next - first) → ids' ≡ ids ++ next' ∷ [] → ids' ≡ range_with_len (first + 1) (next' - first)
one_number first next next' ids ids' le n before e =
    let k = next - first in
    let count : next' - first ≡ k + 1 = omega arith in
    let last : next' ≡ (first + 1) + k = omega arith in
    e ∙ ap₂ (λ front n. front ++ n ∷ []) before last ∙ sym (more_range (first + 1) k) ∙ ap (range_with_len (first + 1)) (sym count)

pub last_is : (f : Func) (h : Node) (last : ℕ) → AreConsecutive f → last_from None None (nodes (function f)) ≡ Some h → last ≡ number h → last ≡ f.node.0 + length (sites f)
last_is f h last c l e = e ∙ last_number f.node.0 (function f) h (sites f) (from_join f.node.0 (function f) (sites f) refl c) l
