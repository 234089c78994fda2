-- The marks of a trail give the goals that it takes, goal by goal.
use Rattle.std.proofs.Common.{◌≡◌, refl, ap₂, ℕ, suc, ◌+◌, List, [], ◌∷◌, Some}
use Rattle.std.specs.Prelude.{if◌then◌else◌, slice_get}
use Rattle.py_frames.specs.declared.marks.Mark.{Mark}
use Rattle.py_plain.specs.Tests.{Trail}
use Rattle.goal_model.specs.Goals.{Goal}
use Rattle.goal_model.specs.Taken.{is_taken}
use Rattle.goal_graph.specs.Graph.{is_marked}
use Rattle.goal_graph.specs.Laws.{MarksTell}
use Rattle.suite_model.specs.Kept.{taken_from}
use Rattle.test_run.specs.Gains.{marked_from}
use Rattle.test_run.specs.Laws.{MarksGive, marks_of}

module _ (marks : List Mark) (trail : Trail) where
  abbrev Tells : List Goal → Type 0
  Tells goals = (k : ℕ) (goal : Goal) → slice_get goals k ≡ Some goal → is_marked marks goal ≡ is_taken trail goal

  given : (goals : List Goal) (number : ℕ) → Tells goals → marked_from number marks goals ≡ taken_from number trail goals
  given [] number tells = refl
  given (goal ∷ goals) number tells =
      ap₂ (λ b more. if b then number ∷ more else more) (tells 0 goal refl) (given goals (number + 1) (λ k g is. tells (suc k) g is))

pub marks_give : MarksTell → MarksGive
marks_give tell goals trail nodes h = given (marks_of nodes trail) trail goals 0 (λ k goal is. tell goals k goal trail nodes is h)
