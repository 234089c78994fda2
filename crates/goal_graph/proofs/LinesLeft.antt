-- One point more: which statements begin on each line, and the goals that are left.
use Rattle.std.proofs.Common.{◌≡◌, ℕ, ◌+◌, List, [], ◌∷◌, ◌++◌, map, Option, Some, None, Bool, true, false, refl, sym, ap, ◌∙◌, subst, cond, drop}
use Rattle.std.proofs.lemmas.Grind.{flat_map-append}
use Rattle.std.proofs.lemmas.List.{append-nil, append_assoc, map-append}
use Rattle.std.specs.List.{list_any, filter_map}
use Rattle.std.specs.Prelude.{◌==◌, ◌||◌}
use Rattle.pyn_base.specs.declared.ids.NodeId.{NodeId}
use Rattle.py_syntax.specs.declared.module.Item.{Item}
use Rattle.py_syntax.specs.declared.module.Item.TheVariants as item
use Rattle.py_syntax.specs.declared.module.Member.{Member}
use Rattle.py_syntax.specs.declared.module.Member.TheVariants as member
use Rattle.py_plain.specs.Program.{Function, methods_in, functions_from}
use Rattle.goal_model.specs.declared.kind.GoalKind.{GoalKind}
use Rattle.goal_model.specs.declared.kind.GoalKind.TheVariants.{Reached}
use Rattle.goal_model.specs.declared.point.Point.{Point}
use Rattle.goal_model.specs.declared.point.Point.TheVariants.{Statement, Decision}
use Rattle.goal_model.specs.Goals.{Goal, starts_on, goals_in, goals_from, goals_of_functions}
use Rattle.goal_graph.specs.Lines.{started_after, some_nodes, or_none, starts, line_goal, goals_at, lines_after, method_tree, trees, goals_of_trees}
use Rattle.goal_graph.proofs.Tests.{same, is_same, decided}

abbrev Lines : Type 0
Lines = ℕ → Option (List NodeId)

-- ---- the statements that begin on each line

node_more : (nodes : List NodeId) (node : NodeId) → Some (or_none (some_nodes nodes) ++ node ∷ []) ≡ some_nodes (nodes ++ node ∷ [])
node_more [] node = refl
node_more (n ∷ nodes) node = refl

more_by : (b : Bool) (nodes : List NodeId) (node : NodeId) (old : Option (List NodeId)) → old ≡ some_nodes nodes
    → cond b (Some (or_none old ++ node ∷ [])) old ≡ some_nodes (nodes ++ cond b (node ∷ []) [])
more_by true nodes node old h = ap (λ o. Some (or_none o ++ node ∷ [])) h ∙ node_more nodes node
more_by false nodes node old h = h ∙ ap some_nodes (sym (append-nil nodes))

pub statement_starts : (points : List Point) (node : NodeId) (line : ℕ) (governor : GoalKind) (old : Lines) (q : ℕ) → old q ≡ some_nodes (starts points q)
    → started_after old line node q ≡ some_nodes (starts (points ++ Statement node line governor ∷ []) q)
statement_starts points node line governor old q h =
    more_by (line == q) (starts points q) node (old q) h
    ∙ ap some_nodes (ap (λ ys. starts points q ++ ys) (sym (append-nil (cond (line == q) (node ∷ []) []))) ∙ sym (flat_map-append (starts_on q) points (Statement node line governor ∷ [])))

pub decision_starts : (points : List Point) (node : NodeId) (line : ℕ) (governor : GoalKind) (q : ℕ)
    → starts points q ≡ starts (points ++ Decision node line governor ∷ []) q
decision_starts points node line governor q = sym (append-nil (starts points q)) ∙ sym (flat_map-append (starts_on q) points (Decision node line governor ∷ []))

-- ---- goals that are left

-- the lines without a goal yet, where these lines have theirs
abbrev pub open_at : List ℕ → List Point → Lines
open_at seen rest q = cond (list_any (λ l. l == q) seen) None (some_nodes (starts rest q))

-- what is left after some goals
pub record Left (lines : Lines) (goals : List Goal) (rest : List Point) (whole : List Goal) : Type 0 where
  pub seen : List ℕ
  pub goals_are : goals ++ goals_from seen rest ≡ whole
  pub lines_are : (q : ℕ) → lines q ≡ open_at seen rest q

module _ (node : NodeId) (line : ℕ) (governor : GoalKind) (rest : List Point) (seen : List ℕ) (lines : Lines)
    (are : (q : ℕ) → lines q ≡ open_at seen (Statement node line governor ∷ rest) q) where
  abbrev point : Point
  point = Statement node line governor

  abbrev own : Goal
  own = record { kind = Reached node; line = line; nodes = node ∷ starts rest line; parent = Some governor }

  -- the goals here and later, and the lines after
  abbrev Stepped : List ℕ → Type 0
  Stepped next = (goals_at lines point ++ goals_from next rest ≡ goals_from seen (point ∷ rest)) × ((q : ℕ) → lines_after lines point q ≡ open_at next rest q)

  -- at another line nothing changes
  elsewhere : (q : ℕ) → (line == q) ≡ false → lines q ≡ open_at seen rest q
  elsewhere q apart = are q ∙ ap (λ b. cond (list_any (λ l. l == q) seen) None (some_nodes (cond b (node ∷ []) [] ++ starts rest q))) apart

  old_line : list_any (λ l. l == line) seen ≡ true → Stepped seen
  old_line old =
      let none : lines line ≡ None = are line ∙ ap (λ b. cond b None (some_nodes (starts (point ∷ rest) line))) old in
      let skipped : goals_from seen (point ∷ rest) ≡ goals_from seen rest = ap (λ b. cond b (goals_from seen rest) (own ∷ goals_from (line ∷ seen) rest)) old in (
        ap (λ found. line_goal node line governor found ++ goals_from seen rest) none ∙ sym skipped,
        λ q. decided (lines_after lines point q ≡ open_at seen rest q) (line == q)
            (λ here. ap (λ b. cond b None (lines q)) here
            ∙ sym (ap (λ b. cond b None (some_nodes (starts rest q))) (subst (λ k. list_any (λ l. l == k) seen ≡ true) (is_same line q here) old)))
            (λ apart. ap (λ b. cond b None (lines q)) apart ∙ elsewhere q apart),
      )

  new_line : list_any (λ l. l == line) seen ≡ false → Stepped (line ∷ seen)
  new_line new =
      let first : lines line ≡ Some (node ∷ starts rest line) =
      are line ∙ ap (λ b. cond b None (some_nodes (starts (point ∷ rest) line))) new ∙ ap (λ b. some_nodes (cond b (node ∷ []) [] ++ starts rest line)) (same line) in
      let taken : goals_from seen (point ∷ rest) ≡ own ∷ goals_from (line ∷ seen) rest = ap (λ b. cond b (goals_from seen rest) (own ∷ goals_from (line ∷ seen) rest)) new in (
        ap (λ found. line_goal node line governor found ++ goals_from (line ∷ seen) rest) first ∙ sym taken,
        λ q. decided (lines_after lines point q ≡ open_at (line ∷ seen) rest q) (line == q)
            (λ here. ap (λ b. cond b None (lines q)) here ∙ sym (ap (λ b. cond (b || list_any (λ l. l == q) seen) None (some_nodes (starts rest q))) here))
            (λ apart. ap (λ b. cond b None (lines q)) apart ∙ elsewhere q apart ∙ sym (ap (λ b. cond (b || list_any (λ l. l == q) seen) None (some_nodes (starts rest q))) apart)),
      )

  statement_by : (b : Bool) → list_any (λ l. l == line) seen ≡ b → (next : List ℕ) × Stepped next
  statement_by true old = (seen, old_line old)
  statement_by false new = (line ∷ seen, new_line new)

left_point : (point : Point) (rest : List Point) (whole goals : List Goal) (lines : Lines) → Left lines goals (point ∷ rest) whole
    → Left (lines_after lines point) (goals ++ goals_at lines point) rest whole
left_point (Statement node line governor) rest whole goals lines left =
    let step = statement_by node line governor rest left.seen lines left.lines_are (list_any (λ l. l == line) left.seen) refl in
    record {
      seen = step.0;
      goals_are = append_assoc goals (goals_at lines (Statement node line governor)) (goals_from step.0 rest) ∙ ap (λ gs. goals ++ gs) step.1.0 ∙ left.goals_are;
      lines_are = step.1.1;
    }
left_point (Decision node line governor) rest whole goals lines left =
    record {
      seen = left.seen;
      goals_are = append_assoc goals (goals_at lines (Decision node line governor)) (goals_from left.seen rest) ∙ left.goals_are;
      lines_are = left.lines_are;
    }

-- one point more of a list of them
pub left_next : (lines lines' : Lines) (goals goals' : List Goal) (points : List Point) (i : ℕ) (point : Point) (whole : List Goal)
    → Left lines goals (drop i points) whole → drop i points ≡ point ∷ drop (i + 1) points
    → goals' ≡ goals ++ goals_at lines point → ((q : ℕ) → lines' q ≡ lines_after lines point q)
    → Left lines' goals' (drop (i + 1) points) whole
left_next lines lines' goals goals' points i point whole left first e f =
    let next = left_point point (drop (i + 1) points) whole goals lines (subst (λ ps. Left lines goals ps whole) first left) in
    record { seen = next.seen; goals_are = ap (λ gs. gs ++ goals_from next.seen (drop (i + 1) points)) e ∙ next.goals_are; lines_are = λ q. f q ∙ next.lines_are q }

-- before the first
pub left_first : (lines : Lines) (goals : List Goal) (points : List Point) → ((q : ℕ) → lines q ≡ some_nodes (starts points q)) → Left lines goals points (goals ++ goals_from [] points)
left_first lines goals points e = record { seen = []; goals_are = refl; lines_are = e }

-- ---- functions

methods_are : (class : ℕ) (members : List Member) → map (λ f. f.tree) (methods_in class members) ≡ filter_map method_tree members
methods_are class [] = refl
methods_are class (member.Func f ∷ members) = ap (λ fs. f ∷ fs) (methods_are class members)
methods_are class (member.Other stmt ∷ members) = methods_are class members

pub functions_are : (class : ℕ) (items : List Item) → map (λ f. f.tree) (functions_from class items) ≡ trees items
functions_are class [] = refl
functions_are class (item.Func f ∷ items) = ap (λ fs. f ∷ fs) (functions_are class items)
functions_are class (item.Class c ∷ items) =
    map-append (λ f. f.tree) (methods_in class c.members) (functions_from (class + 1) items)
    ∙ ap (λ fs. fs ++ map (λ f. f.tree) (functions_from (class + 1) items)) (methods_are class c.members)
    ∙ ap (λ fs. filter_map method_tree c.members ++ fs) (functions_are (class + 1) items)
functions_are class (item.Import line names ∷ items) = functions_are class items
functions_are class (item.Other stmt ∷ items) = functions_are class items

pub goals_are : (number : ℕ) (fs : List Function) → goals_of_functions number fs ≡ goals_of_trees number (map (λ f. f.tree) fs)
goals_are number [] = refl
goals_are number (f ∷ fs) = ap (λ rest. goals_in (record { 0 = number }) f.tree ++ rest) (goals_are (number + 1) fs)

pub all_goals : (items : List Item) → goals_of_functions 0 (functions_from 0 items) ≡ goals_of_trees 0 (trees items)
all_goals items = goals_are 0 (functions_from 0 items) ∙ ap (goals_of_trees 0) (functions_are 0 items)
