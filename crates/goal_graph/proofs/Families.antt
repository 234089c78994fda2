-- One parent more, and the lists of children.
use Rattle.std.proofs.Common.{◌≡◌, ℕ, zero, suc, ◌+◌, ◌<◌, List, [], ◌∷◌, ◌++◌, length, Option, Some, None, Bool, true, false, refl, sym, ap, ◌∙◌, subst, cond, take, arith, length-take-le}
use Rattle.std.proofs.lemmas.List.{append-nil, append_assoc, length-map}
use Rattle.std.specs.Option.{option_map}
use Rattle.std.specs.Prelude.{◌==◌, slice_get, slice_set, replicate}
use Rattle.pyn_base.specs.declared.ids.GoalId.{GoalId}
use Rattle.goal_graph.specs.Graph.{goal_id, is_parent, parent_ids, children_from, children_of, child_into, child_added, parent_added}
use Rattle.goal_model.specs.Goals.{Goal}
use Rattle.goal_model.specs.Parents.{parent_of}
use Rattle.goal_graph.proofs.Tests.{is_same, differ}

-- ---- an element that is set

pub set_here : {X : Type 0} (xs : List X) (i : ℕ) (v x : X) → slice_get xs i ≡ Some x → slice_get (slice_set xs i v) i ≡ Some v
set_here [] i v x h = absurd (cc)
set_here (y ∷ xs) zero v x h = refl
set_here (y ∷ xs) (suc i) v x h = set_here xs i v x h

pub set_apart : {X : Type 0} (xs : List X) (i k : ℕ) (v : X) → (i ≡ k → ⊥) → slice_get (slice_set xs i v) k ≡ slice_get xs k
set_apart [] i k v apart = refl
set_apart (y ∷ xs) zero zero v apart = absurd (apart refl)
set_apart (y ∷ xs) zero (suc k) v apart = refl
set_apart (y ∷ xs) (suc i) zero v apart = refl
set_apart (y ∷ xs) (suc i) (suc k) v apart = set_apart xs i k v (λ e. apart (ap suc e))

pub replicated : {X : Type 0} (n k : ℕ) (x : X) → k < n → slice_get (replicate n x) k ≡ Some x
replicated zero k x h = absurd (omega arith)
replicated (suc n) zero x h = refl
replicated (suc n) (suc k) x h = replicated n k x (omega arith)

pub replicate_more : {X : Type 0} (n : ℕ) (x : X) → replicate n x ++ x ∷ [] ≡ replicate (n + 1) x
replicate_more zero x = refl
replicate_more (suc n) x =
    let e : suc (n + 1) ≡ suc n + 1 = omega arith in
    ap (λ xs. x ∷ xs) (replicate_more n x) ∙ ap (λ k. replicate k x) e

-- ---- children

abbrev one : GoalId → ℕ → Option GoalId → List GoalId
one goal number parent = cond (is_parent goal parent) (goal_id number ∷ []) []

pub children_push : (goal : GoalId) (number at : ℕ) (parents : List (Option GoalId)) (parent : Option GoalId) → number + length parents ≡ at
    → children_from goal number (parents ++ parent ∷ []) ≡ children_from goal number parents ++ one goal at parent
children_push goal number at [] parent h = append-nil (one goal number parent) ∙ ap (λ n. one goal n parent) (omega (arith, h))
children_push goal number at (p ∷ parents) parent h =
    ap (λ rest. one goal number p ++ rest) (children_push goal (number + 1) at parents parent (omega (arith, h)))
    ∙ sym (append_assoc (one goal number p) (children_from goal (number + 1) parents) (one goal at parent))

-- each goal has a list, that of its children by these parents
pub record Lists (lists : List (List GoalId)) (count : ℕ) (parents : List (Option GoalId)) : Type 0 where
  pub at : (k : ℕ) → k < count → slice_get lists k ≡ Some (children_from (goal_id k) 0 parents)

pub lists_none : (count : ℕ) (lists : List (List GoalId)) → lists ≡ replicate count [] → Lists lists count []
lists_none count lists e = record { at = λ k h. ap (λ ls. slice_get ls k) e ∙ replicated count k [] h }

pub lists_root : (lists : List (List GoalId)) (count : ℕ) (parents : List (Option GoalId)) → Lists lists count parents → Lists lists count (parents ++ None ∷ [])
lists_root lists count parents l = record { at = λ k h. l.at k h ∙ ap Some (sym (append-nil (children_from (goal_id k) 0 parents)) ∙ sym (children_push (goal_id k) 0 (length parents) parents None (omega arith))) }

module _ (lists : List (List GoalId)) (count : ℕ) (parents : List (Option GoalId)) (parent : GoalId) (l : Lists lists count parents) where
  abbrev child : GoalId
  child = goal_id (length parents)

  abbrev wanted : ℕ → List GoalId
  wanted k = children_from (goal_id k) 0 parents

  grown : (k : ℕ) → children_from (goal_id k) 0 (parents ++ Some parent ∷ []) ≡ wanted k ++ cond (parent.0 == k) (child ∷ []) []
  grown k = children_push (goal_id k) 0 (length parents) parents (Some parent) (omega arith)

  here : (k : ℕ) (found : Option (List GoalId)) → slice_get lists parent.0 ≡ found → found ≡ Some (wanted k) → (parent.0 ≡ k) → slice_get (child_into lists parent child found) k ≡ Some (wanted k ++ child ∷ [])
  here k None is h e = absurd (cc)
  here k (Some list) is h e =
      subst (λ n. slice_get (slice_set lists parent.0 (list ++ child ∷ [])) n ≡ Some (list ++ child ∷ [])) e (set_here lists parent.0 (list ++ child ∷ []) list is)
      ∙ ap (λ o. option_map (λ xs. xs ++ child ∷ []) o) h

  apart : (k : ℕ) (found : Option (List GoalId)) → (parent.0 ≡ k → ⊥) → slice_get (child_into lists parent child found) k ≡ slice_get lists k
  apart k None e = refl
  apart k (Some list) e = set_apart lists parent.0 k (list ++ child ∷ []) e

  at_by : (k : ℕ) → k < count → (b : Bool) → (parent.0 == k) ≡ b → slice_get (child_added lists parent child) k ≡ Some (wanted k ++ cond b (child ∷ []) [])
  at_by k h true e =
      let same : parent.0 ≡ k = is_same parent.0 k e in
      here k (slice_get lists parent.0) refl (subst (λ n. slice_get lists n ≡ Some (wanted k)) (sym same) (l.at k h)) same
  at_by k h false e =
      apart k (slice_get lists parent.0) (differ parent.0 k e) ∙ l.at k h ∙ ap Some (sym (append-nil (wanted k)))

  pub lists_child : Lists (child_added lists parent child) count (parents ++ Some parent ∷ [])
  lists_child = record { at = λ k h. at_by k h (parent.0 == k) refl ∙ ap Some (sym (grown k)) }

pub parent_more : (lists : List (List GoalId)) (count : ℕ) (parents : List (Option GoalId)) (parent : Option GoalId) → Lists lists count parents
    → Lists (parent_added lists parent (goal_id (length parents))) count (parents ++ parent ∷ [])
parent_more lists count parents None l = lists_root lists count parents l
parent_more lists count parents (Some parent) l = lists_child lists count parents parent l

-- one parent more of a list of them
pub lists_next : (lists lists' : List (List GoalId)) (count : ℕ) (parents : List (Option GoalId)) (i number : ℕ) (parent : Option GoalId)
    → Lists lists count (take i parents) → i < length parents → number ≡ i → lists' ≡ parent_added lists parent (goal_id number) → take (i + 1) parents ≡ take i parents ++ parent ∷ []
    → Lists lists' count (take (i + 1) parents)
lists_next lists lists' count parents i number parent l h at e more =
    let n : number ≡ length (take i parents) = omega (arith, at, h, length-take-le i parents) in
    subst (λ ps. Lists lists' count ps) (sym more)
    (subst (λ ls. Lists ls count (take i parents ++ parent ∷ [])) (ap (λ k. parent_added lists parent (goal_id k)) (sym n) ∙ sym e) (parent_more lists count (take i parents) parent l))

-- every goal has the list of its children
pub children_kept : (goals : List Goal) (lists : List (List GoalId)) (parents : List (Option GoalId)) → parents ≡ parent_ids goals
    → ((k : ℕ) → k < length parents → slice_get lists k ≡ Some (children_from (goal_id k) 0 parents))
    → (k : ℕ) → k < length goals → slice_get lists k ≡ Some (children_of goals (goal_id k))
children_kept goals lists parents e at k h =
    let same : length parents ≡ length goals = ap length e ∙ length-map goals (λ goal. option_map goal_id (parent_of goals goal)) in
    at k (omega (arith, same, h)) ∙ ap (λ ps. Some (children_from (goal_id k) 0 ps)) e
