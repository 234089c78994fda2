-- In a numbered module a point's node is no other point's of its sort, and no other node's: so each body has what runs need.
use Rattle.std.proofs.Common.{Bool, List, Some, [], ap, ap₂, arith, map, refl, subst, suc, sym, true, zero, ℕ, ◌++◌, ◌+◌, ◌<◌, ◌∙◌, ◌∷◌, ◌≡◌}
use Rattle.std.proofs.lemmas.Bool.{eqb-true}
use Rattle.std.proofs.lemmas.List.{map-append}
use Rattle.std.proofs.lemmas.List.Folds.{flat_map-map}
use Rattle.std.specs.List.{AllByRecursion, flat_map, list_any}
use Rattle.std.specs.Prelude.{slice_get, ◌==◌}
use Rattle.pyn_base.specs.declared.ids.FuncId.{FuncId}
use Rattle.pyn_base.specs.declared.ids.NodeId.{NodeId}
use Rattle.py_syntax.specs.declared.module.Item.{Item}
use Rattle.py_syntax.specs.declared.module.Item.TheVariants as item
use Rattle.py_syntax.specs.declared.module.Member.{Member}
use Rattle.py_syntax.specs.declared.module.Member.TheVariants as member
use Rattle.py_syntax.specs.declared.module.Module.{Module}
use Rattle.py_syntax.specs.declared.stmt.Clause.{out-Clause}
use Rattle.py_plain.specs.Program.{Function, functions_from, methods_in, program_of}
use Rattle.py_plain.specs.Tests.{Began, Decided, Event, Trail}
use Rattle.py_plain.specs.declared.judged.Judged.{Judged}
use Rattle.py_sites.specs.Nodes.{Ascend, IsNumbered, Node, all_functions, clause, expression, function, item_functions, member_functions, nodes, nodes_of, statement, stmt_nodes}
use Rattle.goal_model.specs.Goals.{body_points}
use Rattle.goal_model.specs.Taken.{agrees}
use Rattle.goal_model.specs.declared.kind.GoalKind.{GoalKind}
use Rattle.goal_model.specs.declared.kind.GoalKind.TheVariants.{Entry}
use Rattle.goal_model.specs.declared.point.Point.{Point}
use Rattle.goal_model.specs.declared.point.Point.TheVariants.{Decision, Statement}
use Rattle.goal_laws.proofs.Held.{Bodies, Body, Fits, Inner, block_placed}
use Rattle.goal_laws.proofs.Lists.{all_also, all_back, all_flat, all_front}
use Rattle.goal_laws.proofs.Matches.{begun, decisions, functions_match, tree_nodes}
use Rattle.goal_laws.proofs.Numbers.{Apart, Part, Rising, all_apart, numbers, numbers_rise, part_rises, stated_part}
use Rattle.goal_laws.proofs.Tests.{and_left, or_left, or_right}
use Rattle.goal_laws.proofs.Trails.{Allowed, NodesByLevel, Rule, has_reached, is_decision}
use Rattle.goal_laws.specs.Governors.{governor_of, is_at, points_of_functions}

-- ---- the points of a node have one governor

abbrev Before : Point → Point → Type 0
Before (Statement a line governor) (Statement b line' governor') = a.0 < b.0
Before (Statement a line governor) (Decision b line' governor') = Unit {0}
Before (Decision a line governor) (Statement b line' governor') = Unit {0}
Before (Decision a line governor) (Decision b line' governor') = a.0 < b.0

abbrev Sorted : List Point → Type 0
Sorted [] = Unit {0}
Sorted (p ∷ ps) = AllByRecursion (Before p) ps × Sorted ps

before_begun : (node : NodeId) (line : ℕ) (governor : GoalKind) (ps : List Point) → AllByRecursion (λ k. node.0 < k) (begun ps) → AllByRecursion (Before (Statement node line governor)) ps
before_begun node line governor [] h = tt
before_begun node line governor (Statement b line' governor' ∷ ps) h = (h.0, before_begun node line governor ps h.1)
before_begun node line governor (Decision b line' governor' ∷ ps) h = (tt, before_begun node line governor ps h)

before_decided : (node : NodeId) (line : ℕ) (governor : GoalKind) (ps : List Point) → AllByRecursion (λ k. node.0 < k) (decisions ps) → AllByRecursion (Before (Decision node line governor)) ps
before_decided node line governor [] h = tt
before_decided node line governor (Statement b line' governor' ∷ ps) h = (tt, before_decided node line governor ps h)
before_decided node line governor (Decision b line' governor' ∷ ps) h = (h.0, before_decided node line governor ps h.1)

sorted : (ps : List Point) → Rising (begun ps) → Rising (decisions ps) → Sorted ps
sorted [] h k = tt
sorted (Statement node line governor ∷ ps) h k = (before_begun node line governor ps h.0, sorted ps h.1 k)
sorted (Decision node line governor ∷ ps) h k = (before_decided node line governor ps k.0, sorted ps h k.1)

abbrev Agree : Point → Point → Type 0
Agree (Statement a line governor) (Statement b line' governor') = a.0 ≡ b.0 → governor ≡ governor'
Agree (Statement a line governor) (Decision b line' governor') = Unit {0}
Agree (Decision a line governor) (Statement b line' governor') = Unit {0}
Agree (Decision a line governor) (Decision b line' governor') = a.0 ≡ b.0 → governor ≡ governor'

agree_itself : (p : Point) → Agree p p
agree_itself (Statement a line governor) = λ e. refl
agree_itself (Decision a line governor) = λ e. refl

forward : (p q : Point) → Before p q → Agree p q
forward (Statement a line governor) (Statement b line' governor') lt = λ e. absurd (omega (arith, lt, e))
forward (Statement a line governor) (Decision b line' governor') lt = tt
forward (Decision a line governor) (Statement b line' governor') lt = tt
forward (Decision a line governor) (Decision b line' governor') lt = λ e. absurd (omega (arith, lt, e))

backward : (p q : Point) → Before p q → Agree q p
backward (Statement a line governor) (Statement b line' governor') lt = λ e. absurd (omega (arith, lt, e))
backward (Statement a line governor) (Decision b line' governor') lt = tt
backward (Decision a line governor) (Statement b line' governor') lt = tt
backward (Decision a line governor) (Decision b line' governor') lt = λ e. absurd (omega (arith, lt, e))

with_first : (p : Point) (ps rest : List Point) → AllByRecursion (Before p) rest → AllByRecursion (λ q. AllByRecursion (Agree q) ps) rest → AllByRecursion (λ q. AllByRecursion (Agree q) (p ∷ ps)) rest
with_first p ps [] h k = tt
with_first p ps (q ∷ rest) h k = ((backward p q h.0, k.0), with_first p ps rest h.1 k.1)

all_agree : (ps : List Point) → Sorted ps → AllByRecursion (λ p. AllByRecursion (Agree p) ps) ps
all_agree [] h = tt
all_agree (p ∷ ps) h = ((agree_itself p, all_also (Before p) (Agree p) (λ q. forward p q) ps h.0), with_first p ps ps h.0 (all_agree ps h.1))

-- what decides at a point's node is a decision
abbrev Decides : List Point → Point → Type 0
Decides ps p = (node : NodeId) → is_decision node p ≡ true → list_any (is_decision node) ps ≡ true

all_decide : (ps : List Point) → AllByRecursion (Decides ps) ps
all_decide [] = tt
all_decide (p ∷ ps) = (
  λ node h. or_left (is_decision node p) (list_any (is_decision node) ps) h,
  all_also (Decides ps) (Decides (p ∷ ps)) (λ q h node came. or_right (is_decision node p) (list_any (is_decision node) ps) (h node came)) ps (all_decide ps),
)

-- ---- events that may follow

module _ (r : Rule) where
  abbrev AtEvent : Trail → Event → Point → Type 0
  AtEvent t event q = is_at q event ≡ true → has_reached r t (governor_of q) ≡ true

  begins_allowed : (node : NodeId) (line : ℕ) (governor : GoalKind) (t : Trail) → has_reached r t governor ≡ true → (qs : List Point) → AllByRecursion (Agree (Statement node line governor)) qs → AllByRecursion (AtEvent t (Began node)) qs
  begins_allowed node line governor t reach [] h = tt
  begins_allowed node line governor t reach (Statement b line' governor' ∷ qs) h =
      (λ came. subst (λ g. has_reached r t g ≡ true) (h.0 (eqb-true node.0 b.0 came)) reach, begins_allowed node line governor t reach qs h.1)
  begins_allowed node line governor t reach (Decision b line' governor' ∷ qs) h = (λ came. absurd (cc), begins_allowed node line governor t reach qs h.1)

  decides_allowed : (node : NodeId) (line : ℕ) (governor : GoalKind) (t : Trail) (judged : Judged) (outcome : Bool) → has_reached r t governor ≡ true → (qs : List Point) → AllByRecursion (Agree (Decision node line governor)) qs
      → AllByRecursion (AtEvent t (Decided node judged outcome)) qs
  decides_allowed node line governor t judged outcome reach [] h = tt
  decides_allowed node line governor t judged outcome reach (Statement b line' governor' ∷ qs) h = (λ came. absurd (cc), decides_allowed node line governor t judged outcome reach qs h.1)
  decides_allowed node line governor t judged outcome reach (Decision b line' governor' ∷ qs) h =
      (λ came. subst (λ g. has_reached r t g ≡ true) (h.0 (eqb-true node.0 b.0 came)) reach, decides_allowed node line governor t judged outcome reach qs h.1)

  fits : (id : FuncId) (p : Point) → AllByRecursion (Agree p) r.points → Decides r.points p → Fits r (Some id) p
  fits id (Statement node line governor) h k = λ t reach. record { ruled = begins_allowed node line governor t reach r.points h; decided = λ other wanted came. absurd (cc) }
  fits id (Decision node line governor) h k = λ t reach judged outcome. record {
    ruled = decides_allowed node line governor t judged outcome reach r.points h;
    decided = λ other wanted came. k other (and_left (node.0 == other.0) (agrees wanted outcome) came);
  }

  all_fit : (id : FuncId) (ps : List Point) → AllByRecursion (λ p. AllByRecursion (Agree p) r.points) ps → AllByRecursion (Decides r.points) ps → AllByRecursion (Fits r (Some id)) ps
  all_fit id [] h k = tt
  all_fit id (p ∷ ps) h k = (fits id p h.0 k.0, all_fit id ps h.1 k.1)

  -- a node that is no statement
  other_allowed : (n : NodeId) (t : Trail) (qs : List Point) → AllByRecursion (λ k. k ≡ n.0 → ⊥) (begun qs) → AllByRecursion (AtEvent t (Began n)) qs
  other_allowed n t [] h = tt
  other_allowed n t (Statement b line governor ∷ qs) h = (λ came. absurd (h.0 (sym (eqb-true n.0 b.0 came))), other_allowed n t qs h.1)
  other_allowed n t (Decision b line governor ∷ qs) h = (λ came. absurd (cc), other_allowed n t qs h)

  other_begins : (n : NodeId) → AllByRecursion (λ k. k ≡ n.0 → ⊥) (begun r.points) → (t : Trail) → Allowed r t (Began n)
  other_begins n h t = record { ruled = other_allowed n t r.points h; decided = λ other wanted came. absurd (cc) }

  apart_begins : (id : FuncId) (x : Node) → Apart (begun r.points) x → Inner r (Some id) x
  apart_begins id (function f) h = other_begins f.node (h refl)
  apart_begins id (statement s) h = tt
  apart_begins id (clause c) h = other_begins (out-Clause c).node (h refl)
  apart_begins id (expression e) h = other_begins e.node (h refl)

  -- ---- each function

  abbrev Had : FuncId → ℕ → Function → Type 0
  Had id k f = AllByRecursion (Inner r (Some id)) (tree_nodes f) × AllByRecursion (Fits r (Some id)) (body_points (record { 0 = k }) f.tree)

  body_at : (id : FuncId) (k i : ℕ) (fs : List Function) (f : Function) → AllByRecursion (Inner r (Some id)) (flat_map tree_nodes fs) → AllByRecursion (Fits r (Some id)) (points_of_functions k fs)
      → slice_get fs i ≡ Some f → Had id (k + i) f
  body_at id k i [] f h p is = absurd (cc)
  body_at id k zero (g ∷ fs) f h p is =
      let same : g ≡ f = cc in let at : k ≡ k + 0 = omega arith in
      let own : Had id k g = (all_front (Inner r (Some id)) (tree_nodes g) (flat_map tree_nodes fs) h, all_front (Fits r (Some id)) (body_points (record { 0 = k }) g.tree) (points_of_functions (k + 1) fs) p) in
      subst (λ n. Had id n f) at (subst (Had id k) same own)
  body_at id k (suc i) (g ∷ fs) f h p is =
      let at : (k + 1) + i ≡ k + suc i = omega arith in
      subst (λ n. Had id n f) at (body_at id (k + 1) i fs f (all_back (Inner r (Some id)) (tree_nodes g) (flat_map tree_nodes fs) h) (all_back (Fits r (Some id)) (body_points (record { 0 = k }) g.tree) (points_of_functions (k + 1) fs) p) is)

  body_of : (id : FuncId) (f : Function) → Had id id.0 f → Body r id f
  body_of id f h = record {
    begins = h.0.0;
    held = all_flat (Inner r (Some id)) stmt_nodes f.tree.body h.0.1;
    placed = block_placed r (Some id) (Entry id) f.tree.body h.1;
  }

-- ---- modules

member_trees : (class : ℕ) (members : List Member) → map (λ f. f.tree) (methods_in class members) ≡ flat_map member_functions members
member_trees class [] = refl
member_trees class (member.Func f ∷ members) = ap (λ fs. f ∷ fs) (member_trees class members)
member_trees class (member.Other stmt ∷ members) = member_trees class members

trees_are : (class : ℕ) (items : List Item) → map (λ f. f.tree) (functions_from class items) ≡ flat_map item_functions items
trees_are class [] = refl
trees_are class (item.Func f ∷ items) = ap (λ fs. f ∷ fs) (trees_are class items)
trees_are class (item.Class c ∷ items) =
    map-append (λ f. f.tree) (methods_in class c.members) (functions_from (class + 1) items)
    ∙ ap₂ (λ a b. a ++ b) (member_trees class c.members) (trees_are (class + 1) items)
trees_are class (item.Import line names ∷ items) = trees_are class items
trees_are class (item.Other stmt ∷ items) = trees_are class items

nodes_are : (m : Module) → nodes_of m ≡ flat_map tree_nodes (functions_from 0 m.items)
nodes_are m =
    let fs = functions_from 0 m.items in
    flat_map-map nodes function (all_functions m)
    ∙ ap (flat_map (λ f. nodes (function f))) (sym (trees_are 0 m.items))
    ∙ flat_map-map (λ f. nodes (function f)) (λ f. f.tree) fs

-- the nodes of a numbered module ascend
abbrev pub NumberedAscend : Type 0
NumberedAscend = (m : Module) → IsNumbered m → Ascend (nodes_of m)

-- the rule of a module
abbrev pub rule_of : NodesByLevel → Module → Rule
rule_of level m = record { program = program_of m; points = points_of_functions 0 (functions_from 0 m.items); level = level }

pub module_bodies : (level : NodesByLevel) → NumberedAscend → (m : Module) → IsNumbered m → Bodies (rule_of level m)
module_bodies level ascends m dense id f is =
    let r = rule_of level m in
    let fs = functions_from 0 m.items in
    let ns = flat_map tree_nodes fs in
    let ascend : Ascend ns = subst Ascend (nodes_are m) (ascends m dense) in
    let matched = functions_match level 0 fs in
    let rise = numbers_rise ns ascend in
    let begun_rise = part_rises (begun r.points) (numbers ns) (subst (λ ks. Part ks (numbers ns)) (sym matched.statements) (stated_part ns)) rise in
    let agreed = all_agree r.points (sorted r.points begun_rise (part_rises (decisions r.points) (numbers ns) matched.decided rise)) in
    let apart = subst (λ ks. AllByRecursion (Apart ks) ns) (sym matched.statements) (all_apart ns ascend) in
    let inner = all_also (Apart (begun r.points)) (Inner r (Some id)) (apart_begins r id) ns apart in
    let at : 0 + id.0 ≡ id.0 = omega arith in
    body_of r id f (subst (λ n. Had r id n f) at (body_at r id 0 id.0 fs f inner (all_fit r id r.points agreed (all_decide r.points)) is))
