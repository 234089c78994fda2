-- Marks: which nodes began, and which outcomes came.
use Rattle.std.specs.Prelude.{Bool, true, false, List, Option, Some, None, slice_get, slice_set}
use Rattle.pyn_base.specs.declared.ids.NodeId.{NodeId}
use Rattle.py_frames.specs.declared.marks.Mark.{Mark}

abbrev pub unmarked : Mark
unmarked = record { began = false; held = false; failed = false }

abbrev pub begun : Mark → Mark
begun mark = record mark { began = true }

abbrev pub came : Bool → Mark → Mark
came true mark = record mark { held = true }
came false mark = record mark { failed = true }

abbrev pub marked_at : (Mark → Mark) → NodeId → List Mark → Option Mark → List Mark
marked_at change node marks None = marks
marked_at change node marks (Some mark) = slice_set marks node.0 (change mark)

-- the marks once that of a node has changed; a node beyond them has none
abbrev pub marked : (Mark → Mark) → NodeId → List Mark → List Mark
marked change node marks = marked_at change node marks (slice_get marks node.0)

abbrev pub has_begun : Option Mark → Bool
has_begun None = false
has_begun (Some mark) = mark.began

abbrev pub outcome_in : Bool → Mark → Bool
outcome_in true mark = mark.held
outcome_in false mark = mark.failed

abbrev pub has_come : Bool → Option Mark → Bool
has_come outcome None = false
has_come outcome (Some mark) = outcome_in outcome mark
