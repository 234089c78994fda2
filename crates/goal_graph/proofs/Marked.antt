-- The marks that a trail leaves tell which goals it takes.
use Rattle.std.proofs.Common.{◌≡◌, ℕ, zero, suc, ◌<◌, ◌≤◌, max, List, [], ◌∷◌, length, Option, Some, None, Bool, true, false, refl, sym, ap, ap₂, ◌∙◌, subst, arith}
use Rattle.std.proofs.Math.Nat.{le-max_left, le-max_right}
use Rattle.std.proofs.lemmas.Option.{slice_get-get_or}
use Rattle.std.specs.List.{list_any}
use Rattle.pyn_base.specs.declared.ids.GoalId.{GoalId}
use Rattle.std.specs.Option.{option_map}
use Rattle.std.specs.Prelude.{◌==◌, ◌&&◌, ◌||◌, slice_get, slice_set, replicate}
use Rattle.pyn_base.specs.declared.ids.NodeId.{NodeId}
use Rattle.py_frames.specs.declared.marks.Mark.{Mark}
use Rattle.py_frames.specs.Marked.{unmarked, begun, came, marked, marked_at, has_begun, has_come, outcome_in}
use Rattle.py_plain.specs.Tests.{Trail, Began, Decided}
use Rattle.goal_model.specs.declared.kind.GoalKind.{GoalKind}
use Rattle.goal_model.specs.declared.kind.GoalKind.TheVariants.{Entry, Branch, Reached}
use Rattle.goal_model.specs.Goals.{Goal}
use Rattle.goal_model.specs.Parents.{mark_by, mark_of}
use Rattle.goal_model.specs.Taken.{begins, agrees, has_outcome, takes}
use Rattle.goal_graph.specs.Graph.{mark_or_none, mark_in, mark_at, least_above, nodes_from, nodes_of, is_marked_by, marked_by}
use Rattle.goal_graph.specs.Laws.{MarksTell}
use Rattle.goal_graph.proofs.Families.{set_here, set_apart, replicated}
use Rattle.goal_graph.proofs.Tests.{is_same, differ}

-- ---- nodes that are below a number

abbrev pub Below : ℕ → List NodeId → Type 0
Below n [] = Unit {0}
Below n (node ∷ nodes) = (node.0 < n) × Below n nodes

above_grows : (nodes : List NodeId) (least : ℕ) → least ≤ least_above nodes least
above_grows [] least = omega arith
above_grows (node ∷ nodes) least = omega (arith, above_grows nodes (max (suc node.0) least), le-max_right (suc node.0) least)

above_below : (n : ℕ) (nodes : List NodeId) (least : ℕ) → least_above nodes least ≤ n → Below n nodes
above_below n [] least h = tt
above_below n (node ∷ nodes) least h =
    (omega (arith, h, above_grows nodes (max (suc node.0) least), le-max_left (suc node.0) least), above_below n nodes (max (suc node.0) least) h)

from_grows : (goals : List Goal) (least : ℕ) → least ≤ nodes_from goals least
from_grows [] least = omega arith
from_grows (goal ∷ goals) least =
    let nodes = (mark_or_none (mark_of goal)).0 ∷ goal.nodes in
    omega (arith, from_grows goals (least_above nodes least), above_grows nodes least)

pub goal_below : (n : ℕ) (goals : List Goal) (least k : ℕ) (goal : Goal) → slice_get goals k ≡ Some goal → nodes_from goals least ≤ n → Below n ((mark_or_none (mark_of goal)).0 ∷ goal.nodes)
goal_below n [] least k goal is h = absurd (cc)
goal_below n (g ∷ goals) least zero goal is h =
    let nodes = (mark_or_none (mark_of g)).0 ∷ g.nodes in
    let own : Below n nodes = above_below n nodes least (omega (arith, h, from_grows goals (least_above nodes least))) in
    let e : g ≡ goal = cc in
    subst (λ g. Below n ((mark_or_none (mark_of g)).0 ∷ g.nodes)) e own
goal_below n (g ∷ goals) least (suc k) goal is h = goal_below n goals (least_above ((mark_or_none (mark_of g)).0 ∷ g.nodes) least) k goal is h

-- ---- one event more

abbrev changed : (Mark → Mark) → Bool → Mark → Mark
changed change true mark = change mark
changed change false mark = mark

unchanged : (change : Mark → Mark) (o : Option Mark) → option_map (changed change false) o ≡ o
unchanged change None = refl
unchanged change (Some mark) = refl

module _ (change : Mark → Mark) (node : NodeId) (marks : List Mark) where
  get_by : (k : ℕ) (found : Option Mark) → slice_get marks node.0 ≡ found → (b : Bool) → (node.0 == k) ≡ b
      → slice_get (marked_at change node marks found) k ≡ option_map (changed change b) (slice_get marks k)
  get_by k None is true e =
      let none : slice_get marks k ≡ None = subst (λ n. slice_get marks n ≡ None) (is_same node.0 k e) is in none ∙ sym (ap (option_map change) none)
  get_by k None is false e = sym (unchanged change (slice_get marks k))
  get_by k (Some mark) is true e =
      let s : node.0 ≡ k = is_same node.0 k e in
      let some : slice_get marks k ≡ Some mark = subst (λ n. slice_get marks n ≡ Some mark) s is in
      subst (λ n. slice_get (slice_set marks node.0 (change mark)) n ≡ Some (change mark)) s (set_here marks node.0 (change mark) mark is) ∙ sym (ap (option_map change) some)
  get_by k (Some mark) is false e = set_apart marks node.0 k (change mark) (differ node.0 k e) ∙ sym (unchanged change (slice_get marks k))

  marked_get : (k : ℕ) (mark : Mark) → slice_get marks k ≡ Some mark → slice_get (marked change node marks) k ≡ Some (changed change (node.0 == k) mark)
  marked_get k mark is = get_by k (slice_get marks node.0) refl (node.0 == k) refl ∙ ap (option_map (changed change (node.0 == k))) is

or_assoc : (a b c : Bool) → ((a || b) || c) ≡ (a || (b || c))
or_assoc true b c = refl
or_assoc false b c = refl

or_false : (a : Bool) → (a || false) ≡ a
or_false true = refl
or_false false = refl

or_true : (a : Bool) → (a || true) ≡ true
or_true true = refl
or_true false = refl

begun_more : (b : Bool) (mark : Mark) → (changed begun b mark).began ≡ (mark.began || b)
begun_more true mark = sym (or_true mark.began)
begun_more false mark = sym (or_false mark.began)

begun_came : (outcome b : Bool) (mark : Mark) → (changed (came outcome) b mark).began ≡ mark.began
begun_came true true mark = refl
begun_came false true mark = refl
begun_came outcome false mark = refl

outcome_begun : (wanted b : Bool) (mark : Mark) → outcome_in wanted (changed begun b mark) ≡ outcome_in wanted mark
outcome_begun true true mark = refl
outcome_begun false true mark = refl
outcome_begun wanted false mark = refl

outcome_came : (wanted outcome b : Bool) (mark : Mark) → outcome_in wanted (changed (came outcome) b mark) ≡ (outcome_in wanted mark || (b && agrees wanted outcome))
outcome_came true true true mark = sym (or_true mark.held)
outcome_came true false true mark = sym (or_false mark.held)
outcome_came false true true mark = sym (or_false mark.failed)
outcome_came false false true mark = sym (or_true mark.failed)
outcome_came wanted outcome false mark = sym (or_false (outcome_in wanted mark))

abbrev node_at : ℕ → NodeId
node_at k = record { 0 = k }

began_told : (trail : Trail) (marks : List Mark) (k : ℕ) (mark : Mark) → slice_get marks k ≡ Some mark
    → has_begun (slice_get (marked_by trail marks) k) ≡ (mark.began || list_any (begins (node_at k)) trail)
began_told [] marks k mark is = ap has_begun is ∙ sym (or_false mark.began)
began_told (Began node ∷ trail) marks k mark is =
    let any = list_any (begins (node_at k)) trail in
    began_told trail (marked begun node marks) k (changed begun (node.0 == k) mark) (marked_get begun node marks k mark is)
    ∙ ap (λ b. b || any) (begun_more (node.0 == k) mark) ∙ or_assoc mark.began (node.0 == k) any
began_told (Decided node judged outcome ∷ trail) marks k mark is =
    began_told trail (marked (came outcome) node marks) k (changed (came outcome) (node.0 == k) mark) (marked_get (came outcome) node marks k mark is)
    ∙ ap (λ b. b || list_any (begins (node_at k)) trail) (begun_came outcome (node.0 == k) mark)

outcome_told : (wanted : Bool) (trail : Trail) (marks : List Mark) (k : ℕ) (mark : Mark) → slice_get marks k ≡ Some mark
    → has_come wanted (slice_get (marked_by trail marks) k) ≡ (outcome_in wanted mark || list_any (has_outcome (node_at k) wanted) trail)
outcome_told wanted [] marks k mark is = ap (has_come wanted) is ∙ sym (or_false (outcome_in wanted mark))
outcome_told wanted (Began node ∷ trail) marks k mark is =
    outcome_told wanted trail (marked begun node marks) k (changed begun (node.0 == k) mark) (marked_get begun node marks k mark is)
    ∙ ap (λ b. b || list_any (has_outcome (node_at k) wanted) trail) (outcome_begun wanted (node.0 == k) mark)
outcome_told wanted (Decided node judged outcome ∷ trail) marks k mark is =
    let any = list_any (has_outcome (node_at k) wanted) trail in
    outcome_told wanted trail (marked (came outcome) node marks) k (changed (came outcome) (node.0 == k) mark) (marked_get (came outcome) node marks k mark is)
    ∙ ap (λ b. b || any) (outcome_came wanted outcome (node.0 == k) mark) ∙ or_assoc (outcome_in wanted mark) (node.0 == k && agrees wanted outcome) any

-- ---- from no marks on

none_wanted : (wanted : Bool) → outcome_in wanted unmarked ≡ false
none_wanted true = refl
none_wanted false = refl

module _ (trail : Trail) (n : ℕ) where
  abbrev marks : List Mark
  marks = marked_by trail (replicate n unmarked)

  nodes_told : (nodes : List NodeId) → Below n nodes → list_any (λ node. has_begun (slice_get marks node.0)) nodes ≡ list_any (λ node. list_any (begins node) trail) nodes
  nodes_told [] below = refl
  nodes_told (node ∷ nodes) below =
      ap₂ (λ a b. a || b) (began_told trail (replicate n unmarked) node.0 unmarked (replicated n node.0 unmarked below.0)) (nodes_told nodes below.1)

  kind_told : (kind : GoalKind) (nodes : List NodeId) → Below n ((mark_or_none (mark_by kind nodes)).0 ∷ nodes) → is_marked_by marks kind nodes ≡ takes trail kind nodes
  kind_told (Branch node wanted) nodes below =
      outcome_told wanted trail (replicate n unmarked) node.0 unmarked (replicated n node.0 unmarked below.0)
      ∙ ap (λ b. b || list_any (has_outcome node wanted) trail) (none_wanted wanted)
  kind_told (Entry f) nodes below = nodes_told nodes below.1
  kind_told (Reached node) nodes below = nodes_told nodes below.1

pub marks_tell : MarksTell
marks_tell goals number goal trail nodes is h = kind_told trail nodes goal.kind goal.nodes (goal_below nodes goals 0 number goal is h)

-- the mark of a goal is of a node below the bound
pub mark_within : (goals : List Goal) (number : ℕ) (goal : Goal) → slice_get goals number ≡ Some goal → (mark_or_none (mark_of goal)).0.0 < nodes_of goals
mark_within goals number goal is = (goal_below (nodes_of goals) goals 0 number goal is (omega arith)).0

no_goal : Goal
no_goal = record { kind = Reached (node_at 0); line = 0; nodes = []; parent = None }

within_by : (goals : List Goal) (number : ℕ) (found : Option Goal) → number < length goals → slice_get goals number ≡ found → (mark_in found).0.0 < nodes_of goals
within_by goals number None h is = absurd (let some = slice_get-get_or goals number no_goal h in cc)
within_by goals number (Some goal) h is = mark_within goals number goal is

pub mark_at_within : (goals : List Goal) (goal : GoalId) → goal.0 < length goals → (mark_at goal goals).0.0 < nodes_of goals
mark_at_within goals goal h = within_by goals goal.0 (slice_get goals goal.0) h refl
