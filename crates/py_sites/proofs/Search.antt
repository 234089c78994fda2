-- Where a node with a number is, if the numbers ascend: in the last part whose own number is not above it.
use Rattle.std.proofs.Common.{◌≡◌, ◌∙◌, refl, sym, ap, ap₂, subst, ℕ, ◌+◌, ◌<◌, ◌≤◌, Bool, true, false, cond, nat_lt, nat_le, nat_eq, List, Option, Some, None, [], ◌∷◌, ◌++◌, map, length, length-append, arith, append_assoc, append-nil, ◌⊎◌, inl, inr}
use Rattle.std.specs.List.{flat_map, find, AllByRecursion}
use Rattle.std.specs.Option.{option_or}
use Rattle.std.proofs.lemmas.List.Folds.{find-append}
use Rattle.py_sites.specs.Nodes.{Node, Nodes, nodes, parts, number, with_number, Ascend}
use Rattle.py_sites.specs.Walks.{last_from, nearer, within}
use Rattle.py_sites.proofs.StmtLevels.{node_level}

abbrev Above : Node → Nodes → Type 0
Above x xs = AllByRecursion (λ y. number x < number y) xs

-- all of these are above all of those
abbrev AllAbove : Nodes → Nodes → Type 0
AllAbove xs ys = AllByRecursion (λ x. Above x ys) xs

module _ (P : Node → Type 0) where
  all_join : (xs ys : Nodes) → AllByRecursion P xs → AllByRecursion P ys → AllByRecursion P (xs ++ ys)
  all_join [] ys a b = b
  all_join (x ∷ xs) ys a b = (a.0, all_join xs ys a.1 b)

  all_front : (xs ys : Nodes) → AllByRecursion P (xs ++ ys) → AllByRecursion P xs
  all_front [] ys a = tt
  all_front (x ∷ xs) ys a = (a.0, all_front xs ys a.1)

  all_back : (xs ys : Nodes) → AllByRecursion P (xs ++ ys) → AllByRecursion P ys
  all_back [] ys a = a
  all_back (x ∷ xs) ys a = all_back xs ys a.1

pub ascend_front : (xs ys : Nodes) → Ascend (xs ++ ys) → Ascend xs
ascend_front [] ys a = tt
ascend_front (x ∷ xs) ys a = (all_front (λ y. number x < number y) xs ys a.0, ascend_front xs ys a.1)

pub ascend_back : (xs ys : Nodes) → Ascend (xs ++ ys) → Ascend ys
ascend_back [] ys a = a
ascend_back (x ∷ xs) ys a = ascend_back xs ys a.1

ascend_between : (xs ys : Nodes) → Ascend (xs ++ ys) → AllAbove xs ys
ascend_between [] ys a = tt
ascend_between (x ∷ xs) ys a = (all_back (λ y. number x < number y) xs ys a.0, ascend_between xs ys a.1)

-- without the middle one of three
ascend_skip : (xs ys zs : Nodes) → Ascend (xs ++ (ys ++ zs)) → Ascend (xs ++ zs)
ascend_skip [] ys zs a = ascend_back ys zs a
ascend_skip (x ∷ xs) ys zs a =
    let P : Node → Type 0 = λ y. number x < number y in
    (all_join P xs zs (all_front P xs (ys ++ zs) a.0) (all_back P ys zs (all_back P xs (ys ++ zs) a.0)), ascend_skip xs ys zs a.1)

differs : (n m : ℕ) → n < m → nat_eq m n ≡ false
differs n m lt = grind arith

differs_below : (n m : ℕ) → m < n → nat_eq m n ≡ false
differs_below n m lt = grind arith

not_first : (n : ℕ) (x : Node) (xs : Nodes) → nat_eq (number x) n ≡ false → with_number n (x ∷ xs) ≡ with_number n xs
not_first n x xs e = ap (λ b. cond b (Some x) (with_number n xs)) e

none_above : (n : ℕ) (xs : Nodes) → AllByRecursion (λ y. n < number y) xs → with_number n xs ≡ None
none_above n [] a = refl
none_above n (x ∷ xs) a = not_first n x xs (differs n (number x) a.0) ∙ none_above n xs a.1

none_below : (n : ℕ) (xs : Nodes) → AllByRecursion (λ y. number y < n) xs → with_number n xs ≡ None
none_below n [] a = refl
none_below n (x ∷ xs) a = not_first n x xs (differs_below n (number x) a.0) ∙ none_below n xs a.1

-- none in front: it is in the rest
skip_front : (n : ℕ) (xs ys : Nodes) → with_number n xs ≡ None → with_number n (xs ++ ys) ≡ with_number n ys
skip_front n xs ys e = find-append (λ x. nat_eq (number x) n) xs ys ∙ ap (λ o. option_or o (with_number n ys)) e

-- none in the middle
skip_middle : (n : ℕ) (xs ys zs : Nodes) → with_number n ys ≡ None → with_number n (xs ++ (ys ++ zs)) ≡ with_number n (xs ++ zs)
skip_middle n xs ys zs e =
    find-append (λ x. nat_eq (number x) n) xs (ys ++ zs) ∙ ap (option_or (with_number n xs)) (skip_front n ys zs e)
    ∙ sym (find-append (λ x. nat_eq (number x) n) xs zs)

-- below what is not above n, so below n
lower : (n : ℕ) (y : Node) (ys xs : Nodes) → number y ≤ n → AllAbove xs (y ∷ ys) → AllByRecursion (λ x. number x < n) xs
lower n y ys [] le a = tt
lower n y ys (x ∷ xs) le a = let h = a.0.0 in (omega (arith, h), lower n y ys xs le a.1)

raise : (n : ℕ) (y : Node) (ys : Nodes) → n < number y → Above y ys → AllByRecursion (λ x. n < number x) ys
raise n y [] lt a = tt
raise n y (z ∷ ys) lt a = let h = a.0 in (omega (arith, h), raise n y ys lt a.1)

-- ---- the last part that is not above n

abbrev found_in : ℕ → Option Node → Option Node
found_in n None = None
found_in n (Some p) = with_number n (nodes p)

not_above : (m n : ℕ) → nat_le m n ≡ true → m ≤ n
not_above m n e = grind arith

is_above : (m n : ℕ) → nat_le m n ≡ false → n < m
is_above m n e = grind arith

-- a node, all that are in it, and all after it
opened : (q : Node) (more : Nodes) → nodes q ++ more ≡ q ∷ (flat_map nodes (parts q) ++ more)
opened q more = ap (λ ys. ys ++ more) (node_level q)

all_below : (n : ℕ) (front : Nodes) (q : Node) (more : Nodes) → number q ≤ n → Ascend (front ++ (nodes q ++ more)) → AllByRecursion (λ y. number y < n) front
all_below n front q more le a =
    let P : Nodes → Type 0 = λ ys. AllAbove front ys in
    lower n q (flat_map nodes (parts q) ++ more) front le (subst P (opened q more) (ascend_between front (nodes q ++ more) a))

all_above : (n : ℕ) (q : Node) → n < number q → Ascend (nodes q) → AllByRecursion (λ y. n < number y) (nodes q)
all_above n q lt a =
    let P : Nodes → Type 0 = λ ys. AllByRecursion (λ y. n < number y) ys in
    let rest = flat_map nodes (parts q) in
    let here : Ascend (q ∷ rest) = subst Ascend (node_level q) a in
    let up : P (q ∷ rest) = (lt, raise n q rest lt here.0) in
    subst P (sym (node_level q)) up

abbrev F : List Node → Nodes
F = flat_map nodes

-- from a node whose number is not above n on
hold : (n : ℕ) (b : Node) (ps : List Node) → number b ≤ n → Ascend (nodes b ++ flat_map nodes ps) → with_number n (nodes b ++ flat_map nodes ps) ≡ found_in n (last_from (Some n) (Some b) ps)
hold n b [] le a = ap (with_number n) (append-nil (nodes b))
hold n b (q ∷ ps) le a =
    (elim (nat_le (number q) n) as (λ t. nat_le (number q) n ≡ t → with_number n (nodes b ++ (nodes q ++ F ps)) ≡ found_in n (last_from (Some n) (cond t (Some q) (Some b)) ps)) [
      | true ↦ λ e. let here : number q ≤ n = not_above (number q) n e in
          skip_front n (nodes b) (nodes q ++ F ps) (none_below n (nodes b) (all_below n (nodes b) q (F ps) here a)) ∙ hold n q ps here (ascend_back (nodes b) (nodes q ++ F ps) a)
      | false ↦ λ e. let lt : n < number q = is_above (number q) n e in
          skip_middle n (nodes b) (nodes q) (F ps) (none_above n (nodes q) (all_above n q lt (ascend_front (nodes q) (F ps) (ascend_back (nodes b) (nodes q ++ F ps) a))))
          ∙ hold n b ps le (ascend_skip (nodes b) (nodes q) (F ps) a)
    ]) refl

start : (n : ℕ) (ps : List Node) → Ascend (flat_map nodes ps) → with_number n (flat_map nodes ps) ≡ found_in n (last_from (Some n) None ps)
start n [] a = refl
start n (q ∷ ps) a =
    (elim (nat_le (number q) n) as (λ t. nat_le (number q) n ≡ t → with_number n (nodes q ++ F ps) ≡ found_in n (last_from (Some n) (cond t (Some q) None) ps)) [
      | true ↦ λ e. hold n q ps (not_above (number q) n e) a
      | false ↦ λ e. skip_front n (nodes q) (F ps) (none_above n (nodes q) (all_above n q (is_above (number q) n e) (ascend_front (nodes q) (F ps) a))) ∙ start n ps (ascend_back (nodes q) (F ps) a)
    ]) refl

-- ---- what holds of each part holds of the last one

module _ (P : Node → Type 0) where
  abbrev Maybe : Option Node → Type 0
  Maybe None = Unit {0}
  Maybe (Some x) = P x

  one_nearer : (n : Option ℕ) (best : Option Node) (q : Node) → Maybe best → P q → Maybe (nearer n best q)
  one_nearer n best q b h = elim (within n (number q)) as (λ t. Maybe (cond t (Some q) best)) [ true ↦ h | false ↦ b ]

  last_holds : (n : Option ℕ) (best : Option Node) (ps : List Node) → Maybe best → AllByRecursion P ps → Maybe (last_from n best ps)
  last_holds n best [] b a = b
  last_holds n best (q ∷ ps) b a = last_holds n (nearer n best q) ps (one_nearer n best q b a.0) a.1

  pub last_is : (n : Option ℕ) (ps : List Node) (p : Node) → AllByRecursion P ps → last_from n None ps ≡ Some p → P p
  last_is n ps p a e = subst Maybe e (last_holds n None ps tt a)

all_ascend : (ps : List Node) → Ascend (flat_map nodes ps) → AllByRecursion (λ q. Ascend (nodes q)) ps
all_ascend [] a = tt
all_ascend (q ∷ ps) a = (ascend_front (nodes q) (F ps) a, all_ascend ps (ascend_back (nodes q) (F ps) a))

all_fit : (m : ℕ) (ps : List Node) → length (flat_map nodes ps) ≤ m → AllByRecursion (λ q. length (nodes q) ≤ m) ps
all_fit m [] le = tt
all_fit m (q ∷ ps) le =
    let both = length-append (nodes q) (F ps) in
    let one : length (nodes q) ≤ m = omega (arith, both) in
    let rest : length (F ps) ≤ m = omega (arith, both) in
    (one, all_fit m ps rest)

-- ---- one step down

pub smaller : (n : Option ℕ) (x p : Node) → last_from n None (parts x) ≡ Some p → length (nodes p) < length (nodes x)
smaller n x p e =
    let rest = flat_map nodes (parts x) in
    let le = last_is (λ q. length (nodes q) ≤ length rest) n (parts x) p (all_fit (length rest) (parts x) (omega arith)) e in
    let size = ap length (node_level x) in
    omega (arith, le, size)

pub ends_here : (n : ℕ) (x : Node) → number x ≡ n → with_number n (nodes x) ≡ Some x
ends_here n x e = ap (with_number n) (node_level x) ∙ ap (λ b. cond b (Some x) (with_number n (flat_map nodes (parts x)))) (same n (number x) e)
  where
    same : (n m : ℕ) → m ≡ n → nat_eq m n ≡ true
    same n m e = grind arith

goes_down : (n : ℕ) (x : Node) → nat_eq (number x) n ≡ false → with_number n (nodes x) ≡ with_number n (flat_map nodes (parts x))
goes_down n x e = ap (with_number n) (node_level x) ∙ not_first n x (flat_map nodes (parts x)) e

below : (x : Node) → Ascend (nodes x) → Ascend (flat_map nodes (parts x))
below x a = let here : Ascend (x ∷ flat_map nodes (parts x)) = subst Ascend (node_level x) a in here.1

pub is_in_part : (n : ℕ) (x p : Node) → Ascend (nodes x) → nat_eq (number x) n ≡ false → last_from (Some n) None (parts x) ≡ Some p → Ascend (nodes p) × (with_number n (nodes x) ≡ with_number n (nodes p))
is_in_part n x p a ne e = (
  last_is (λ q. Ascend (nodes q)) (Some n) (parts x) p (all_ascend (parts x) (below x a)) e,
  goes_down n x ne ∙ start n (parts x) (below x a) ∙ ap (found_in n) e,
)

pub is_nowhere : (n : ℕ) (x : Node) → Ascend (nodes x) → nat_eq (number x) n ≡ false → last_from (Some n) None (parts x) ≡ None → with_number n (nodes x) ≡ None
is_nowhere n x a ne e = goes_down n x ne ∙ start n (parts x) (below x a) ∙ ap (found_in n) e

-- the same at the top of a module
pub is_in_top : (n : ℕ) (tops : List Node) (p : Node) → Ascend (flat_map nodes tops) → last_from (Some n) None tops ≡ Some p → Ascend (nodes p) × (with_number n (flat_map nodes tops) ≡ with_number n (nodes p))
is_in_top n tops p a e = (last_is (λ q. Ascend (nodes q)) (Some n) tops p (all_ascend tops a) e, start n tops a ∙ ap (found_in n) e)

pub is_in_no_top : (n : ℕ) (tops : List Node) → Ascend (flat_map nodes tops) → last_from (Some n) None tops ≡ None → with_number n (flat_map nodes tops) ≡ None
is_in_no_top n tops a e = start n tops a ∙ ap (found_in n) e

-- what was compared and differs
pub other_number : (m n r : ℕ) → r ≡ m → (r ≡ n → ⊥) → nat_eq m n ≡ false
other_number m n r e ne = grind arith
