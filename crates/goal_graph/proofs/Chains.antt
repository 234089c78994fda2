-- Parents, chains and targets, by what is kept of each goal.
use Rattle.std.proofs.Common.{◌≡◌, ℕ, zero, suc, ◌+◌, ◌<◌, ◌≤◌, List, [], ◌∷◌, ◌++◌, map, reverse, Option, Some, None, Bool, true, refl, sym, ap, ap₂, ◌∙◌, cond, arith}
use Rattle.std.proofs.lemmas.List.{append_assoc, reverse-append}
use Rattle.std.proofs.lemmas.Option.{slice_get-map}
use Rattle.std.specs.Option.{option_map}
use Rattle.std.specs.Prelude.{◌&&◌, not, slice_get, IfSome}
use Rattle.pyn_base.specs.declared.ids.GoalId.{GoalId}
use Rattle.goal_model.specs.Goals.{Goal}
use Rattle.goal_model.specs.Parents.{parent_of, parent_in, behind, chain_up, chain, is_ready, targets_from, targets}
use Rattle.goal_graph.specs.Graph.{goal_id, parent_number, parent_id, parent_ids, or_no_parent}
use Rattle.goal_graph.specs.Targets.{is_in, is_ready_by, is_target_by, targets_from_parents, targets_by}

module _ (goals : List Goal) where
  kept_by : (found : Option Goal) → or_no_parent (option_map (λ goal. option_map goal_id (parent_of goals goal)) found) ≡ option_map goal_id (parent_in goals found)
  kept_by None = refl
  kept_by (Some goal) = refl

  -- what is kept of a goal is its parent
  pub parent_kept : (goal : GoalId) (parents : List (Option GoalId)) → parents ≡ parent_ids goals → or_no_parent (slice_get parents goal.0) ≡ parent_id goal goals
  parent_kept goal parents e =
      ap (λ ps. or_no_parent (slice_get ps goal.0)) e
      ∙ ap or_no_parent (slice_get-map (λ goal. option_map goal_id (parent_of goals goal)) goals goal.0)
      ∙ kept_by (slice_get goals goal.0)

  abbrev pub Earlier : Type 0
  Earlier = (k p : ℕ) → parent_number goals k ≡ Some p → p < k

  earlier_by : (goal : GoalId) (found : Option ℕ) → ((p : ℕ) → found ≡ Some p → p < goal.0) → IfSome (option_map goal_id found) (λ parent. parent.0 < goal.0)
  earlier_by goal None h = tt
  earlier_by goal (Some p) h = h p refl

  pub parent_earlier : (goal : GoalId) → Earlier → IfSome (parent_id goal goals) (λ parent. parent.0 < goal.0)
  parent_earlier goal h = earlier_by goal (parent_number goals goal.0) (λ p. h goal.0 p)

  -- ---- chains

  enough_by : (b n : ℕ) → ((c p : ℕ) → c ≤ b → p < c → chain_up goals c p ≡ chain goals p) → n ≤ b → (parent : Option ℕ) → ((p : ℕ) → parent ≡ Some p → p < n)
      → behind goals n (option_map (chain_up goals b) parent) ≡ behind goals n (option_map (chain_up goals n) parent)
  enough_by b n next w None e = refl
  enough_by b n next w (Some p) e =
      let below : p < n = e p refl in
      ap (λ c. c ++ n ∷ []) (next b p (omega arith) (omega arith) ∙ sym (next n p w below))

  -- a bound above the number is enough
  enough : (fuel : ℕ) (b : ℕ) (n : ℕ) → Earlier → b ≤ fuel → n < b → chain_up goals b n ≡ chain goals n
  enough zero b n h f w = absurd (omega arith)
  enough (suc fuel) zero n h f w = absurd (omega arith)
  enough (suc fuel) (suc b) n h f w =
      enough_by b n (λ c p below under. enough fuel c p h (omega arith) under) (omega arith) (parent_number goals n) (λ p. h n p)

  -- the chain to a goal, where there is one
  abbrev pub chain_to : Option GoalId → List ℕ
  chain_to None = []
  chain_to (Some goal) = chain goals goal.0

  step_by : (n : ℕ) → Earlier → (parent : Option ℕ) → ((p : ℕ) → parent ≡ Some p → p < n)
      → behind goals n (option_map (chain_up goals n) parent) ≡ chain_to (option_map goal_id parent) ++ n ∷ []
  step_by n h None e = refl
  step_by n h (Some p) e = ap (λ c. c ++ n ∷ []) (enough n n p h (omega arith) (e p refl))

  pub chain_step : (goal : GoalId) → Earlier → chain goals goal.0 ≡ chain_to (parent_id goal goals) ++ goal.0 ∷ []
  chain_step goal h = step_by goal.0 h (parent_number goals goal.0) (λ p. h goal.0 p)

  -- one goal more of the way up
  pub up_step : (goal : GoalId) (up : List ℕ) → Earlier → chain_to (parent_id goal goals) ++ reverse (up ++ goal.0 ∷ []) ≡ chain goals goal.0 ++ reverse up
  up_step goal up h =
      ap (λ r. chain_to (parent_id goal goals) ++ r) (reverse-append up (goal.0 ∷ []))
      ∙ sym (append_assoc (chain_to (parent_id goal goals)) (goal.0 ∷ []) (reverse up))
      ∙ ap (λ c. c ++ reverse up) (sym (chain_step goal h))

  -- ---- targets

  ready_by : (covered : List ℕ) (parent : Option ℕ) → is_ready_by (is_in covered) (option_map goal_id parent) ≡ is_ready goals covered parent
  ready_by covered None = refl
  ready_by covered (Some p) = refl

  targets_are : (covered : List ℕ) (number : ℕ) (rest : List Goal)
      → targets_by covered number (map (λ goal. option_map goal_id (parent_of goals goal)) rest) ≡ targets_from goals covered number rest
  targets_are covered number [] = refl
  targets_are covered number (goal ∷ rest) =
      ap₂ (λ b more. cond (not (is_in covered number) && b) (number ∷ []) [] ++ more) (ready_by covered (parent_of goals goal)) (targets_are covered (number + 1) rest)

  pub targets_kept : (covered : List ℕ) (parents : List (Option GoalId)) → parents ≡ parent_ids goals → targets_by covered 0 parents ≡ targets goals covered
  targets_kept covered parents e = ap (targets_by covered 0) e ∙ targets_are covered 0 goals

-- the goals above a goal have lower numbers
abbrev pub left_of : Option GoalId → ℕ
left_of None = 0
left_of (Some goal) = goal.0 + 1

pub left_falls : (goal : GoalId) (parent : Option GoalId) → IfSome parent (λ parent. parent.0 < goal.0) → left_of parent < goal.0 + 1
left_falls goal None h = omega arith
left_falls goal (Some parent) h = omega (arith, h)

target_same : (f : ℕ → Bool) (covered : List ℕ) → ((q : ℕ) → f q ≡ is_in covered q) → (number : ℕ) (parent : Option GoalId) → is_target_by f number parent ≡ is_target_by (is_in covered) number parent
target_same f covered e number None = ap (λ b. not b && true) (e number)
target_same f covered e number (Some parent) = ap₂ (λ b c. not b && c) (e number) (e parent.0)

pub targets_same : (f : ℕ → Bool) (covered : List ℕ) → ((q : ℕ) → f q ≡ is_in covered q) → (number : ℕ) (parents : List (Option GoalId)) → targets_from_parents f number parents ≡ targets_by covered number parents
targets_same f covered e number [] = refl
targets_same f covered e number (parent ∷ parents) =
    ap₂ (λ b more. cond b (number ∷ []) [] ++ more) (target_same f covered e number parent) (targets_same f covered e (number + 1) parents)
