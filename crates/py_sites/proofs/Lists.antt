-- The last of what lists are made of.
use Rattle.std.proofs.Common.{◌≡◌, ◌∙◌, refl, sym, ap, ap₂, ℕ, ◌+◌, ◌<◌, ◌≤◌, List, Option, Some, None, [], ◌∷◌, ◌++◌, map, drop, length, get_or, add-one}
use Rattle.std.specs.List.{flat_map}
use Rattle.std.proofs.Math.Seq.{drop-cons}
use Rattle.std.proofs.lemmas.List.{drop_all, map-append}
use Rattle.std.proofs.lemmas.List.Concat.{flat_map_single}
use Rattle.py_syntax.specs.declared.module.Func.{Func}
use Rattle.py_syntax.specs.declared.module.Item.{Item}
use Rattle.py_syntax.specs.declared.module.Member.{Member}
use Rattle.py_syntax.specs.declared.stmt.Stmt.{Stmt}
use Rattle.py_sites.specs.Nodes.{Node, Nodes, function, statement, member_functions, item_functions}
use Rattle.py_sites.specs.Walks.{last_from, nearer}

pub last_append : (limit : Option ℕ) (best : Option Node) (xs ys : Nodes) → last_from limit best (xs ++ ys) ≡ last_from limit (last_from limit best xs) ys
last_append limit best [] ys = refl
last_append limit best (x ∷ xs) ys = last_append limit (nearer limit best x) xs ys

pub rest_of : {X : Type 0} (xs : List X) (i : ℕ) (x : X) → i < length xs → x ≡ get_or xs i x → drop i xs ≡ x ∷ drop (i + 1) xs
rest_of xs i x lt is = rw (drop-cons xs i x lt, ← is, add-one) refl

module _ {X : Type 0} (f : X → Nodes) (limit : Option ℕ) where
  -- one more item of a list
  pub one_more : (xs : List X) (i : ℕ) (x : X) (found found' whole : Option Node) → i < length xs → x ≡ get_or xs i x
      → whole ≡ last_from limit found (flat_map f (drop i xs)) → found' ≡ last_from limit found (f x) → whole ≡ last_from limit found' (flat_map f (drop (i + 1) xs))
  one_more xs i x found found' whole lt is before e =
      before ∙ ap (λ zs. last_from limit found (flat_map f zs)) (rest_of xs i x lt is)
      ∙ last_append limit found (f x) (flat_map f (drop (i + 1) xs))
      ∙ ap (λ b. last_from limit b (flat_map f (drop (i + 1) xs))) (sym e)

  -- all of them
  pub all_done : (xs : List X) (i : ℕ) (found whole : Option Node) → length xs ≤ i → whole ≡ last_from limit found (flat_map f (drop i xs)) → found ≡ whole
  all_done xs i found whole le before = sym (before ∙ ap (λ zs. last_from limit found (flat_map f zs)) (drop_all i xs le))

pub singles : (limit : Option ℕ) (best : Option Node) (body : List Stmt) → last_from limit best (flat_map (λ s. statement s ∷ []) body) ≡ last_from limit best (map statement body)
singles limit best body = ap (last_from limit best) (flat_map_single statement body)

map_flat : {X : Type 0} (f : X → List Func) (xs : List X) → flat_map (λ x. map function (f x)) xs ≡ map function (flat_map f xs)
map_flat f [] = refl
map_flat f (x ∷ xs) = ap (λ ys. map function (f x) ++ ys) (map_flat f xs) ∙ sym (map-append function (f x) (flat_map f xs))

pub members : (limit : Option ℕ) (best : Option Node) (all : List Member) → last_from limit best (flat_map (λ m. map function (member_functions m)) all) ≡ last_from limit best (map function (flat_map member_functions all))
members limit best all = ap (last_from limit best) (map_flat member_functions all)

-- the functions of a module, as its items list them
pub tops_are : (limit : Option ℕ) (items : List Item) → last_from limit None (flat_map (λ i. map function (item_functions i)) items) ≡ last_from limit None (map function (flat_map item_functions items))
tops_are limit items = ap (last_from limit None) (map_flat item_functions items)
