-- The first goal that is about something, and what follows from how numbers are put in.
use Rattle.std.proofs.Common.{◌≡◌, ℕ, ◌+◌, List, [], ◌∷◌, ◌++◌, length, Option, Some, None, Bool, true, false, map, refl, sym, ap, ap₂, ◌∙◌, cond, arith}
use Rattle.std.proofs.lemmas.List.Folds.{list_any-append}
use Rattle.std.specs.Ordering.{is_eq, nat_cmp}
use Rattle.std.specs.Option.{option_map}
use Rattle.std.specs.Prelude.{◌==◌, ◌||◌, not}
use Rattle.goal_model.specs.declared.kind.GoalKind.{GoalKind}
use Rattle.goal_model.specs.Goals.{Goal}
use Rattle.goal_model.specs.Parents.{same_kind, number_of, parent_of}
use Rattle.goal_graph.specs.Numbers.{first_number, number_or, found_in, governor_id}
use Rattle.goal_graph.specs.Graph.{goal_id, parent_ids}
use Rattle.goal_graph.specs.Targets.{is_in}
use Rattle.goal_graph.specs.declared.numbers.Numbers.{Numbers}
use Rattle.goal_graph.proofs.Tests.{compared, swapped}

number_by : (b : Bool) (at rest whole : ℕ) (found : Option ℕ) → at + 1 + rest ≡ number_or (at + 1 + whole) found
    → at + cond (not b) (1 + rest) 0 ≡ number_or (at + (1 + whole)) (cond b (Some at) found)
number_by true at rest whole found h = omega arith
number_by false at rest whole None h = omega (arith, h)
number_by false at rest whole (Some n) h = omega (arith, h)

pub number_is : (at : ℕ) (goals : List Goal) (kind : GoalKind) → at + number_of goals kind ≡ number_or (at + length goals) (first_number at goals kind)
number_is at [] kind = refl
number_is at (goal ∷ goals) kind =
    number_by (same_kind kind goal.kind) at (number_of goals kind) (length goals) (first_number (at + 1) goals kind) (number_is (at + 1) goals kind)
    ∙ ap (λ n. number_or n (first_number at (goal ∷ goals) kind)) (omega arith)

-- ---- parents by governors

module _ (goals : List Goal) (count : ℕ) (numbers : Numbers) (e : count ≡ length goals) (found : (q : GoalKind) → found_in numbers q ≡ first_number 0 goals q) where
  number_found : (kind : GoalKind) → number_or count (found_in numbers kind) ≡ number_of goals kind
  number_found kind =
      let one : 0 + number_of goals kind ≡ number_or (0 + length goals) (first_number 0 goals kind) = number_is 0 goals kind in
      let two : 0 + length goals ≡ count = omega (arith, e) in
      ap₂ (λ n o. number_or n o) (sym two) (found kind) ∙ sym one ∙ omega arith

  governor_found : (parent : Option GoalKind) → governor_id count numbers parent ≡ option_map goal_id (option_map (number_of goals) parent)
  governor_found None = refl
  governor_found (Some kind) = ap (λ n. Some (goal_id n)) (number_found kind)

  rest_found : (rest : List Goal) → map (λ goal. governor_id count numbers goal.parent) rest ≡ map (λ goal. option_map goal_id (parent_of goals goal)) rest
  rest_found [] = refl
  rest_found (goal ∷ rest) = ap₂ (λ p ps. p ∷ ps) (governor_found goal.parent) (rest_found rest)

  pub parents_found : map (λ goal. governor_id count numbers goal.parent) goals ≡ parent_ids goals
  parents_found = rest_found goals

-- ---- covered goals

pub in_more : (xs : List ℕ) (k q : ℕ) → is_in (xs ++ k ∷ []) q ≡ cond (k == q) true (is_in xs q)
in_more xs k q = list_any-append (λ c. c == q) xs (k ∷ []) ∙ turned (is_in xs q) (k == q)
  where
    turned : (a b : Bool) → (a || (b || false)) ≡ cond b true a
    turned true true = refl
    turned true false = refl
    turned false true = refl
    turned false false = refl

-- ---- numbers that are put in

pub put_entry : (old new : Option ℕ) (stored query number : ℕ) → new ≡ cond (is_eq (nat_cmp stored query)) (Some number) old → new ≡ cond (query == stored) (Some number) old
put_entry old new stored query number h = h ∙ ap (λ b. cond b (Some number) old) (compared stored query ∙ swapped stored query)
