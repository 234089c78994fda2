-- Trails that obey the rule: what was come by had its governor reached before.
use Rattle.std.proofs.Common.{Bool, List, None, Option, Some, [], ap, append_assoc, ap₂, false, refl, subst, sym, true, ℕ, ◌&&◌, ◌++◌, ◌∙◌, ◌∷◌, ◌≡◌}
use Rattle.std.proofs.lemmas.Bool.{eq-eqb}
use Rattle.std.proofs.lemmas.List.{append-nil}
use Rattle.std.proofs.lemmas.List.Folds.{list_any-append}
use Rattle.std.specs.List.{AllByRecursion, flat_map, list_any}
use Rattle.std.specs.Prelude.{slice_get, ◌==◌}
use Rattle.pyn_base.specs.declared.ids.FuncId.{FuncId}
use Rattle.pyn_base.specs.declared.ids.NodeId.{NodeId}
use Rattle.py_plain.specs.Program.{Function, Program}
use Rattle.py_plain.specs.Runs.{noted, told}
use Rattle.py_plain.specs.Tests.{Began, Decided, Event, Trail, recorder}
use Rattle.py_plain.specs.declared.judged.Judged.{Judged}
use Rattle.py_sites.specs.Nodes.{Node, nodes, parts}
use Rattle.goal_model.specs.Taken.{agrees, begins, has_outcome}
use Rattle.goal_model.specs.declared.kind.GoalKind.{GoalKind}
use Rattle.goal_model.specs.declared.kind.GoalKind.TheVariants.{Branch, Entry, Reached}
use Rattle.goal_model.specs.declared.point.Point.{Point}
use Rattle.goal_model.specs.declared.point.Point.TheVariants.{Decision, Statement}
use Rattle.goal_laws.proofs.Tests.{either, or_left, or_right}
use Rattle.goal_laws.specs.Governors.{ComesAfter, IsGoverned, governor_of, has_begun, is_at, is_reached}

-- the nodes in a node are itself and those in its parts
abbrev pub NodesByLevel : Type 0
NodesByLevel = (x : Node) → nodes x ≡ x ∷ flat_map nodes (parts x)

-- a program, the points of its functions, and what is known of nodes
pub record Rule : Type 0 where
  pub program : Program
  pub points : List Point
  pub level : NodesByLevel

-- ---- trails that grow

-- what passed a test of events still does
abbrev pub Grows : Trail → Trail → Type 0
Grows t u = (test : Event → Bool) → list_any test t ≡ true → list_any test u ≡ true

pub grows_none : (t : Trail) → Grows [] t
grows_none t test h = absurd (cc)

pub grows_itself : (t : Trail) → Grows t t
grows_itself t test h = h

pub grows_both : (t u w : Trail) → Grows t u → Grows u w → Grows t w
grows_both t u w g h test came = h test (g test came)

grows_one : (t : Trail) (event : Event) → Grows t (t ++ event ∷ [])
grows_one t event test h = list_any-append test t (event ∷ []) ∙ or_left (list_any test t) _ h

last_passes : (t : Trail) (event : Event) (test : Event → Bool) → test event ≡ true → list_any test (t ++ event ∷ []) ≡ true
last_passes t event test h = list_any-append test t (event ∷ []) ∙ or_right (list_any test t) _ (or_left (test event) false h)

before_or_last : (C : Type 0) (t : Trail) (event : Event) (test : Event → Bool) → list_any test (t ++ event ∷ []) ≡ true → (list_any test t ≡ true → C) → (test event ≡ true → C) → C
before_or_last C t event test h f g =
    either C (list_any test t) _ (sym (list_any-append test t (event ∷ [])) ∙ h) f (λ k. either C (test event) false k g (λ no. absurd (cc)))

-- ---- points, and what governs them

abbrev pub is_decision : NodeId → Point → Bool
is_decision node (Statement other line governor) = false
is_decision node (Decision other line governor) = other.0 == node.0

module _ (r : Rule) where
  abbrev pub has_reached : Trail → GoalKind → Bool
  has_reached t kind = is_reached r.program t kind

  begun_grows : (t u : Trail) (f : Option Function) → Grows t u → has_begun t f ≡ true → has_begun u f ≡ true
  begun_grows t u None g h = h
  begun_grows t u (Some f) g h = g (begins f.tree.node) h

  reached_grows : (t u : Trail) (kind : GoalKind) → Grows t u → has_reached t kind ≡ true → has_reached u kind ≡ true
  reached_grows t u (Entry id) g h = begun_grows t u (slice_get r.program.functions id.0) g h
  reached_grows t u (Branch node outcome) g h = g (has_outcome node outcome) h
  reached_grows t u (Reached node) g h = h

  -- ---- trails that obey the rule

  -- what was come by had its governor reached
  abbrev pub Ruled : Trail → Point → Type 0
  Ruled t point = list_any (is_at point) t ≡ true → has_reached t (governor_of point) ≡ true

  pub record Obeys (t : Trail) : Type 0 where
    pub ruled : AllByRecursion (Ruled t) r.points
    -- what was decided is a decision of a function
    pub decided : (node : NodeId) (outcome : Bool) → list_any (has_outcome node outcome) t ≡ true → list_any (is_decision node) r.points ≡ true
    pub ordered : ComesAfter r.program r.points [] t

  -- an event that may follow
  pub record Allowed (t : Trail) (event : Event) : Type 0 where
    pub ruled : IsGoverned r.program t event r.points
    pub decided : (node : NodeId) (outcome : Bool) → has_outcome node outcome event ≡ true → list_any (is_decision node) r.points ≡ true

  ruled_more : (t : Trail) (event : Event) (points : List Point) → AllByRecursion (Ruled t) points
      → IsGoverned r.program t event points → AllByRecursion (Ruled (t ++ event ∷ [])) points
  ruled_more t event [] h k = tt
  ruled_more t event (point ∷ points) h k = (
    λ came. reached_grows t (t ++ event ∷ []) (governor_of point) (grows_one t event)
        (before_or_last (has_reached t (governor_of point) ≡ true) t event (is_at point) came h.0 k.0),
    ruled_more t event points h.1 k.1,
  )

  ordered_more : (before t : Trail) (event : Event) → ComesAfter r.program r.points before t → IsGoverned r.program (before ++ t) event r.points → ComesAfter r.program r.points before (t ++ event ∷ [])
  ordered_more before [] event h k = (subst (λ u. IsGoverned r.program u event r.points) (append-nil before) k, tt)
  ordered_more before (first ∷ t) event h k =
      (h.0, ordered_more (before ++ first ∷ []) t event h.1 (subst (λ u. IsGoverned r.program u event r.points) (sym (append_assoc before (first ∷ []) t)) k))

  obeys_more : (t : Trail) (event : Event) → Obeys t → Allowed t event → Obeys (t ++ event ∷ [])
  obeys_more t event h k = record {
    ruled = ruled_more t event r.points h.ruled k.ruled;
    decided = λ node outcome came. before_or_last (list_any (is_decision node) r.points ≡ true) t event (has_outcome node outcome) came (h.decided node outcome) (k.decided node outcome);
    ordered = ordered_more [] t event h.ordered k.ruled;
  }

  ruled_none : (points : List Point) → AllByRecursion (Ruled []) points
  ruled_none [] = tt
  ruled_none (point ∷ points) = (λ came. absurd (cc), ruled_none points)

  pub obeys_none : Obeys []
  obeys_none = record { ruled = ruled_none r.points; decided = λ node outcome came. absurd (cc); ordered = tt }

  -- ---- where a function runs; in a test nothing is told

  abbrev pub Permitted : Option FuncId → Trail → Event → Type 0
  Permitted None t event = Unit {0}
  Permitted (Some f) t event = Allowed t event

  abbrev pub Reaches : Option FuncId → Trail → GoalKind → Type 0
  Reaches None t kind = Unit {0}
  Reaches (Some f) t kind = has_reached t kind ≡ true

  pub reaches_grows : (f : Option FuncId) (t u : Trail) (kind : GoalKind) → Grows t u → Reaches f t kind → Reaches f u kind
  reaches_grows None t u kind g h = tt
  reaches_grows (Some f) t u kind g h = reached_grows t u kind g h

  -- a trail that obeys the rule, and has what another had
  abbrev pub Goes : Trail → Trail → Type 0
  Goes t u = Obeys u × Grows t u

  pub noted_goes : (f : Option FuncId) (t : Trail) (node : NodeId) → Permitted f t (Began node) → Obeys t → Goes t (noted recorder f node t)
  noted_goes None t node p h = (h, grows_itself t)
  noted_goes (Some f) t node p h = (obeys_more t (Began node) h p, grows_one t (Began node))

  pub told_goes : (f : Option FuncId) (t : Trail) (node : NodeId) (judged : Judged) (outcome : Bool) → Permitted f t (Decided node judged outcome) → Obeys t → Goes t (told recorder f node judged outcome t)
  told_goes None t node judged outcome p h = (h, grows_itself t)
  told_goes (Some f) t node judged outcome p h = (obeys_more t (Decided node judged outcome) h p, grows_one t (Decided node judged outcome))

  same : (n : ℕ) → (n == n) ≡ true
  same n = eq-eqb n n refl

  agrees_itself : (b : Bool) → agrees b b ≡ true
  agrees_itself true = refl
  agrees_itself false = refl

  outcome_is : (node : NodeId) (judged : Judged) (outcome : Bool) → has_outcome node outcome (Decided node judged outcome) ≡ true
  outcome_is node judged outcome = ap₂ (λ a b. a && b) (same node.0) (agrees_itself outcome)

  -- a function that has begun, and an outcome that has come, are reached
  pub began_reaches : (t : Trail) (id : FuncId) (f : Function) → slice_get r.program.functions id.0 ≡ Some f → has_reached (noted recorder (Some id) f.tree.node t) (Entry id) ≡ true
  began_reaches t id f e = ap (has_begun (t ++ Began f.tree.node ∷ [])) e ∙ last_passes t (Began f.tree.node) (begins f.tree.node) (same f.tree.node.0)

  pub told_reaches : (f : Option FuncId) (t : Trail) (node : NodeId) (judged : Judged) (outcome : Bool) → Reaches f (told recorder f node judged outcome t) (Branch node outcome)
  told_reaches None t node judged outcome = tt
  told_reaches (Some f) t node judged outcome = last_passes t (Decided node judged outcome) (has_outcome node outcome) (outcome_is node judged outcome)
