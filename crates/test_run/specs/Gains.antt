-- The goals that marks take.
use Rattle.std.specs.Prelude.{ℕ, ◌+◌, if◌then◌else◌, List, [], ◌∷◌}
use Rattle.py_frames.specs.declared.marks.Mark.{Mark}
use Rattle.goal_graph.specs.Graph.{is_marked}
use Rattle.goal_model.specs.Goals.{Goal}

-- the numbers of those that are taken, of goals from a number on
abbrev pub marked_from : ℕ → List Mark → List Goal → List ℕ
marked_from number marks [] = []
marked_from number marks (goal ∷ goals) = if is_marked marks goal then number ∷ marked_from (number + 1) marks goals else marked_from (number + 1) marks goals
