-- One more goal, taken or not.
use Rattle.std.proofs.Common.{◌≡◌, refl, sym, ◌∙◌, ap, append_assoc, add-one, ℕ, zero, suc, ◌+◌, Bool, true, false, List, [], ◌∷◌, ◌++◌, drop, Option, Some, None}
use Rattle.std.specs.Prelude.{if◌then◌else◌, slice_get}
use Rattle.std.specs.Option.{option_map}
use Rattle.py_frames.specs.declared.marks.Mark.{Mark}
use Rattle.goal_model.specs.Goals.{Goal}
use Rattle.goal_graph.specs.Graph.{is_marked}
use Rattle.test_run.specs.Gains.{marked_from}

module _ (marks : List Mark) where
  abbrev by_first : ℕ → Option Bool → List Goal → List ℕ
  by_first k None goals = []
  by_first k (Some b) goals = if b then k ∷ marked_from (k + 1) marks goals else marked_from (k + 1) marks goals

  first : (b : Bool) (goals : List Goal) (at k : ℕ) → option_map (is_marked marks) (slice_get goals at) ≡ Some b
      → marked_from k marks (drop at goals) ≡ by_first k (Some b) (drop (suc at) goals)
  first b [] at k h = absurd (cc)
  first b (goal ∷ goals) zero k h = ap (λ o. by_first k o goals) h
  first b (goal ∷ goals) (suc at) k h = first b goals at k h

  -- with what was taken before it
  abbrev pub with : Bool → List ℕ → ℕ → List ℕ
  with b gains at = if b then gains ++ at ∷ [] else gains

  joined : (b : Bool) (gains : List ℕ) (at : ℕ) (goals : List Goal) → with b gains at ++ marked_from (at + 1) marks goals ≡ gains ++ by_first at (Some b) goals
  joined true gains at goals = append_assoc gains (at ∷ []) (marked_from (at + 1) marks goals)
  joined false gains at goals = refl

  pub one_more : (b : Bool) (goals : List Goal) (at : ℕ) (gains whole : List ℕ) → option_map (is_marked marks) (slice_get goals at) ≡ Some b
      → gains ++ marked_from at marks (drop at goals) ≡ whole → with b gains at ++ marked_from (at + 1) marks (drop (at + 1) goals) ≡ whole
  one_more b goals at gains whole h before =
      joined b gains at (drop (at + 1) goals)
      ∙ ap (λ n. gains ++ by_first at (Some b) (drop n goals)) (add-one at)
      ∙ ap (λ more. gains ++ more) (sym (first b goals at at h))
      ∙ before
