-- What holds of each element of a list.
use Rattle.std.proofs.Common.{List, [], drop, map, nat_lt, suc, take, zero, ℕ, ◌++◌, ◌∷◌}
use Rattle.std.specs.List.{AllByRecursion, flat_map, prefix_len}
use Rattle.py_sites.specs.Nodes.{in_order}

module _ {X : Type 0} (P : X → Type 0) where
  pub all_front : (xs ys : List X) → AllByRecursion P (xs ++ ys) → AllByRecursion P xs
  all_front [] ys h = tt
  all_front (x ∷ xs) ys h = (h.0, all_front xs ys h.1)

  pub all_back : (xs ys : List X) → AllByRecursion P (xs ++ ys) → AllByRecursion P ys
  all_back [] ys h = h
  all_back (x ∷ xs) ys h = all_back xs ys h.1

  pub all_join : (xs ys : List X) → AllByRecursion P xs → AllByRecursion P ys → AllByRecursion P (xs ++ ys)
  all_join [] ys h k = k
  all_join (x ∷ xs) ys h k = (h.0, all_join xs ys h.1 k)

  pub all_always : ((x : X) → P x) → (xs : List X) → AllByRecursion P xs
  all_always h [] = tt
  all_always h (x ∷ xs) = (h x, all_always h xs)

  pub all_flat : {Y : Type 0} (f : Y → List X) (ys : List Y) → AllByRecursion P (flat_map f ys) → AllByRecursion (λ y. AllByRecursion P (f y)) ys
  all_flat f [] h = tt
  all_flat f (y ∷ ys) h = (all_front (f y) (flat_map f ys) h, all_flat f ys (all_back (f y) (flat_map f ys) h))

  pub all_mapped : {Y : Type 0} (f : Y → X) (ys : List Y) → AllByRecursion P (map f ys) → AllByRecursion (λ y. P (f y)) ys
  all_mapped f [] h = tt
  all_mapped f (y ∷ ys) h = (h.0, all_mapped f ys h.1)

pub all_also : {X : Type 0} (P Q : X → Type 0) → ((x : X) → P x → Q x) → (xs : List X) → AllByRecursion P xs → AllByRecursion Q xs
all_also P Q h [] k = tt
all_also P Q h (x ∷ xs) k = (h x k.0, all_also P Q h xs k.1)

-- ---- arguments in the order in which they were written

module _ {E : Type 0} (P : E → Type 0) where
  taken : (k : ℕ) (named : List (List ℕ × E)) → AllByRecursion P (map (λ n. n.1) (take k named)) → AllByRecursion P (map (λ n. n.1) (drop k named)) → AllByRecursion P (map (λ n. n.1) named)
  taken zero named h k = k
  taken (suc n) [] h k = tt
  taken (suc n) (argument ∷ named) h k = (h.0, taken n named h.1 k)

  pub all_ordered : (number : E → ℕ) (xs : List E) (named : List (List ℕ × E)) → AllByRecursion P (in_order number xs named) → AllByRecursion P xs × AllByRecursion P (map (λ n. n.1) named)
  all_ordered number [] named h = (tt, h)
  all_ordered number (x ∷ xs) named h =
      let k = prefix_len (λ n. nat_lt (number n.1) (number x)) named in
      let front = map (λ n. n.1) (take k named) in
      let later = x ∷ in_order number xs (drop k named) in
      let back = all_back P front later h in
      let rest = all_ordered number xs (drop k named) back.1 in
      ((back.0, rest.0), taken k named (all_front P front later h) rest.1)
