-- Lists of numbers that ascend, and parts of lists.
use Rattle.std.proofs.Common.{List, [], ap, arith, inl, inr, map, refl, subst, sym, ℕ, ◌++◌, ◌<◌, ◌∷◌, ◌≡◌, ◌⊎◌}
use Rattle.std.specs.List.{AllByRecursion, flat_map}
use Rattle.py_sites.specs.Nodes.{Ascend, Node, Nodes, clause, expression, function, number, statement}
use Rattle.goal_laws.proofs.Lists.{all_also, all_join}

-- the first list has some elements of the second, in its order
abbrev pub Part : List ℕ → List ℕ → Type 0
Part xs [] = xs ≡ []
Part xs (y ∷ ys) = Part xs ys ⊎ ((zs : List ℕ) × (xs ≡ y ∷ zs) × Part zs ys)

pub part_take : (y : ℕ) (xs ys : List ℕ) → Part xs ys → Part (y ∷ xs) (y ∷ ys)
part_take y xs ys h = inr (xs, refl, h)

pub part_none : (ys : List ℕ) → Part [] ys
part_none [] = refl
part_none (y ∷ ys) = inl (part_none ys)

pub part_join : (a c b d : List ℕ) → Part a c → Part b d → Part (a ++ b) (c ++ d)
part_join a [] b d h k = subst (λ a. Part (a ++ b) d) (sym h) k
part_join a (y ∷ c) b d (inl h) k = inl (part_join a c b d h k)
part_join a (y ∷ c) b d (inr h) k = inr (h.0 ++ b, ap (λ a. a ++ b) h.1, part_join h.0 c b d h.2 k)

part_all : (P : ℕ → Type 0) (xs ys : List ℕ) → Part xs ys → AllByRecursion P ys → AllByRecursion P xs
part_all P xs [] h k = subst (AllByRecursion P) (sym h) tt
part_all P xs (y ∷ ys) (inl h) k = part_all P xs ys h k.1
part_all P xs (y ∷ ys) (inr h) k = subst (AllByRecursion P) (sym h.1) (k.0, part_all P h.0 ys h.2 k.1)

abbrev pub Rising : List ℕ → Type 0
Rising [] = Unit {0}
Rising (x ∷ xs) = AllByRecursion (λ y. x < y) xs × Rising xs

pub part_rises : (xs ys : List ℕ) → Part xs ys → Rising ys → Rising xs
part_rises xs [] h k = subst Rising (sym h) tt
part_rises xs (y ∷ ys) (inl h) k = part_rises xs ys h k.1
part_rises xs (y ∷ ys) (inr h) k = subst Rising (sym h.1) (part_all (λ z. y < z) h.0 ys h.2 k.0, part_rises h.0 ys h.2 k.1)

-- ---- the numbers of nodes

abbrev pub numbers : Nodes → List ℕ
numbers ns = map number ns

numbers_all : (P : ℕ → Type 0) (ns : Nodes) → AllByRecursion (λ x. P (number x)) ns → AllByRecursion P (numbers ns)
numbers_all P [] h = tt
numbers_all P (x ∷ ns) h = (h.0, numbers_all P ns h.1)

pub numbers_rise : (ns : Nodes) → Ascend ns → Rising (numbers ns)
numbers_rise [] h = tt
numbers_rise (x ∷ ns) h = (numbers_all (λ y. number x < y) ns h.0, numbers_rise ns h.1)

-- the number of a statement
abbrev pub stated_by : Node → List ℕ
stated_by (function f) = []
stated_by (statement s) = s.node.0 ∷ []
stated_by (clause c) = []
stated_by (expression e) = []

abbrev pub stated : Nodes → List ℕ
stated ns = flat_map stated_by ns

pub stated_part : (ns : Nodes) → Part (stated ns) (numbers ns)
stated_part [] = refl
stated_part (function f ∷ ns) = inl (stated_part ns)
stated_part (statement s ∷ ns) = part_take s.node.0 (stated ns) (numbers ns) (stated_part ns)
stated_part (clause c ∷ ns) = inl (stated_part ns)
stated_part (expression e ∷ ns) = inl (stated_part ns)

-- A node that is no statement has no statement's number.
abbrev pub Apart : List ℕ → Node → Type 0
Apart ks x = stated_by x ≡ [] → AllByRecursion (λ k. k ≡ number x → ⊥) ks

unequal : (a b : ℕ) → a < b → b ≡ a → ⊥
unequal a b lt e = absurd (omega (arith, lt, e))

below_stated : (n : ℕ) (ns : Nodes) → AllByRecursion (λ y. n < number y) ns → AllByRecursion (λ k. k ≡ n → ⊥) (stated ns)
below_stated n ns h = all_also (λ k. n < k) (λ k. k ≡ n → ⊥) (λ k. unequal n k) (stated ns) (part_all (λ k. n < k) (stated ns) (numbers ns) (stated_part ns) (numbers_all (λ k. n < k) ns h))

above : (x y : Node) → number x < number y → AllByRecursion (λ k. k ≡ number y → ⊥) (stated_by x)
above (function f) y lt = tt
above (statement s) y lt = (λ e. absurd (omega (arith, lt, e)), tt)
above (clause c) y lt = tt
above (expression e) y lt = tt

-- one node before others
apart_more : (x : Node) (ns rest : Nodes) → AllByRecursion (λ y. number x < number y) rest → AllByRecursion (Apart (stated ns)) rest → AllByRecursion (Apart (stated (x ∷ ns))) rest
apart_more x ns [] h k = tt
apart_more x ns (y ∷ rest) h k = (λ plain. all_join (λ n. n ≡ number y → ⊥) (stated_by x) (stated ns) (above x y h.0) (k.0 plain), apart_more x ns rest h.1 k.1)

apart_first : (x : Node) (ns : Nodes) → AllByRecursion (λ y. number x < number y) ns → Apart (stated (x ∷ ns)) x
apart_first (function f) ns h plain = below_stated f.node.0 ns h
apart_first (statement s) ns h plain = absurd (cc)
apart_first (clause c) ns h plain = below_stated (number (clause c)) ns h
apart_first (expression e) ns h plain = below_stated e.node.0 ns h

pub all_apart : (ns : Nodes) → Ascend ns → AllByRecursion (Apart (stated ns)) ns
all_apart [] h = tt
all_apart (x ∷ ns) h = (apart_first x ns h.0, apart_more x ns ns h.0 (all_apart ns h.1))
