-- Statements that begin on one line (Language Reference 7 and 8): simple statements with `;` between them, which one goal governs, or the
-- header of a compound statement before the block on its line, which its own decision governs.
use Rattle.std.specs.List.{list_all, list_any}
use Rattle.std.specs.Prelude.{Bool, List, [], false, not, true, ℕ, ◌&&◌, ◌+◌, ◌==◌, ◌||◌, ◌∷◌}
use Rattle.py_plain.specs.Program.{Function, Program}
use Rattle.goal_model.specs.Goals.{body_points}
use Rattle.goal_model.specs.Parents.{same_kind}
use Rattle.goal_model.specs.declared.kind.GoalKind.{GoalKind}
use Rattle.goal_model.specs.declared.kind.GoalKind.TheVariants.{Branch}
use Rattle.goal_model.specs.declared.point.Point.{Point}
use Rattle.goal_model.specs.declared.point.Point.TheVariants.{Decision, Statement}

-- whether a decision that is governed so governs
abbrev pub governs : GoalKind → GoalKind → Point → Bool
governs outer inner (Statement node line governor) = false
governs outer inner (Decision node line governor) = same_kind outer governor && (same_kind inner (Branch node true) || same_kind inner (Branch node false))

abbrev pub is_within : List Point → GoalKind → GoalKind → Bool
is_within all outer inner = same_kind inner outer || list_any (governs outer inner) all

-- whether a point is as it should be after the first statement of a line
abbrev pub follows : List Point → ℕ → GoalKind → Point → Bool
follows all line outer (Statement node other inner) = not (other == line) || is_within all outer inner
follows all line outer (Decision node other inner) = true

-- of the points of a body, those from one on
abbrev pub are_plain : List Point → List Point → Bool
are_plain all [] = true
are_plain all (Statement node line governor ∷ more) = list_all (follows all line governor) more && are_plain all more
are_plain all (Decision node line governor ∷ more) = are_plain all more

-- functions, of which the first has this number
abbrev pub plain_from : ℕ → List Function → Bool
plain_from number [] = true
plain_from number (f ∷ fs) = (let all = body_points record { 0 = number } f.tree in are_plain all all) && plain_from (number + 1) fs

abbrev pub has_plain_lines : Program → Bool
has_plain_lines program = plain_from 0 program.functions
