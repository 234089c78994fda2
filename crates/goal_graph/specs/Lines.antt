-- The statements that begin on each line, and the goals that a body has from a point on.
use Rattle.std.specs.Prelude.{ℕ, ◌+◌, true, false, ◌==◌, if◌then◌else◌, List, [], ◌∷◌, ◌++◌, Option, None, Some}
use Rattle.std.specs.List.{flat_map, filter_map}
use Rattle.std.specs.Option.{option_map}
use Rattle.std.specs.Ordering.{nat_cmp}
use Rattle.std.specs.BTreeMap.{BTreeMap, get}
use Rattle.std.specs.Global.{Vec}
use Rattle.pyn_base.specs.declared.ids.NodeId.{NodeId}
use Rattle.py_syntax.specs.declared.module.Func.{Func}
use Rattle.py_syntax.specs.declared.module.Item.{Item}
use Rattle.py_syntax.specs.declared.module.Item.TheVariants as item
use Rattle.py_syntax.specs.declared.module.Member.{Member}
use Rattle.py_syntax.specs.declared.module.Member.TheVariants as member
use Rattle.goal_model.specs.declared.kind.GoalKind.{GoalKind}
use Rattle.goal_model.specs.declared.kind.GoalKind.TheVariants.{Reached}
use Rattle.goal_model.specs.declared.point.Point.{Point}
use Rattle.goal_model.specs.declared.point.Point.TheVariants.{Statement, Decision}
use Rattle.goal_model.specs.Goals.{Goal, starts_on, branch, goals_in}

abbrev pub started : BTreeMap ℕ (Vec NodeId) → ℕ → Option (List NodeId)
started lines line = option_map (λ nodes. nodes.items) (get nat_cmp lines line)

abbrev pub or_none : Option (List NodeId) → List NodeId
or_none None = []
or_none (Some nodes) = nodes

abbrev pub some_nodes : List NodeId → Option (List NodeId)
some_nodes [] = None
some_nodes (node ∷ nodes) = Some (node ∷ nodes)

abbrev pub starts : List Point → ℕ → List NodeId
starts points line = flat_map (starts_on line) points

-- the lines after a statement on one of them
abbrev pub started_after : (ℕ → Option (List NodeId)) → ℕ → NodeId → ℕ → Option (List NodeId)
started_after lines line node q = if line == q then Some (or_none (lines q) ++ node ∷ []) else lines q

-- the goal of a line, where it has none yet
abbrev pub line_goal : NodeId → ℕ → GoalKind → Option (List NodeId) → List Goal
line_goal node line governor None = []
line_goal node line governor (Some nodes) = record { kind = Reached node; line = line; nodes = nodes; parent = Some governor } ∷ []

-- the goals at a point, where these lines have none yet
abbrev pub goals_at : (ℕ → Option (List NodeId)) → Point → List Goal
goals_at lines (Statement node line governor) = line_goal node line governor (lines line)
goals_at lines (Decision node line governor) = branch node line governor true ∷ branch node line governor false ∷ []

-- the lines that have none after it
abbrev pub lines_after : (ℕ → Option (List NodeId)) → Point → ℕ → Option (List NodeId)
lines_after lines (Statement node line governor) q = if line == q then None else lines q
lines_after lines (Decision node line governor) q = lines q

-- ---- functions

abbrev pub method_tree : Member → Option Func
method_tree (member.Func f) = Some f
method_tree (member.Other stmt) = None

abbrev pub item_trees : Item → List Func
item_trees (item.Func f) = f ∷ []
item_trees (item.Class c) = filter_map method_tree c.members
item_trees (item.Import line names) = []
item_trees (item.Other stmt) = []

-- the trees of all functions
abbrev pub trees : List Item → List Func
trees items = flat_map item_trees items

-- their goals, where the first has this number
abbrev pub goals_of_trees : ℕ → List Func → List Goal
goals_of_trees number [] = []
goals_of_trees number (f ∷ fs) = goals_in record { 0 = number } f ++ goals_of_trees (number + 1) fs
