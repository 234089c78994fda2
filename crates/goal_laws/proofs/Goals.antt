-- The goals of a trail that obeys the rule: the parent of each taken goal is there, and taken.
use Rattle.std.proofs.Common.{Bool, List, None, Option, Some, [], ap, ap₂, arith, cond, false, not, refl, subst, suc, sym, true, zero, ℕ, ◌&&◌, ◌++◌, ◌+◌, ◌||◌, ◌∙◌, ◌∷◌, ◌≡◌}
use Rattle.std.proofs.lemmas.Bool.{eq-eqb, eqb-true}
use Rattle.std.proofs.lemmas.List.Folds.{list_any-append}
use Rattle.std.specs.List.{AllByRecursion, flat_map, list_all, list_any, position_or_len}
use Rattle.std.specs.Option.{option_map}
use Rattle.std.specs.Prelude.{if◌then◌else◌, slice_get, ◌==◌}
use Rattle.pyn_base.specs.declared.ids.FuncId.{FuncId}
use Rattle.pyn_base.specs.declared.ids.NodeId.{NodeId}
use Rattle.py_syntax.specs.declared.module.Module.{Module}
use Rattle.py_plain.specs.Import.{imported}
use Rattle.py_plain.specs.Program.{Function, functions_from, program_of}
use Rattle.py_plain.specs.Tests.{Began, Decided, Event, Trail}
use Rattle.goal_model.specs.Goals.{Goal, body_points, branch, entry, goals_from, goals_in, goals_of, goals_of_functions, starts_on}
use Rattle.goal_model.specs.Parents.{is_ready, number_of, parent_in, same_kind}
use Rattle.goal_model.specs.Taken.{agrees, begins, has_outcome, is_taken}
use Rattle.goal_model.specs.declared.kind.GoalKind.{GoalKind}
use Rattle.goal_model.specs.declared.kind.GoalKind.TheVariants.{Branch, Entry, Reached}
use Rattle.goal_model.specs.declared.point.Point.{Point}
use Rattle.goal_model.specs.declared.point.Point.TheVariants.{Decision, Statement}
use Rattle.suite_model.specs.Kept.{taken_from}
use Rattle.suite_model.specs.Statements.{statements_of}
use Rattle.goal_laws.proofs.KeptRuns.{all_obey, begin_between, kept_obey}
use Rattle.goal_laws.proofs.Lists.{all_also, all_back, all_front, all_join}
use Rattle.goal_laws.proofs.Tests.{and_left, and_right, either, or_left, or_right}
use Rattle.goal_laws.proofs.Trails.{NodesByLevel, Obeys, Rule, Ruled, has_reached, is_decision}
use Rattle.goal_laws.proofs.Unique.{NumberedAscend, module_bodies, rule_of}
use Rattle.goal_laws.specs.Governors.{decides_at, has_begun, points_of_functions}
use Rattle.goal_laws.specs.Laws.{GovernorsComeFirst, HasParents, KeptTakesParents, RunsTakeParents, TestsTakeParents}
use Rattle.line_laws.specs.PlainLines.{are_plain, follows, governs, has_plain_lines, is_within, plain_from}

agrees_is : (x y : Bool) → agrees x y ≡ true → x ≡ y
agrees_is true true h = refl
agrees_is true false h = absurd (cc)
agrees_is false true h = absurd (cc)
agrees_is false false h = refl

same_is : (a b : GoalKind) → same_kind a b ≡ true → a ≡ b
same_is (Entry a) (Entry b) h = ap (λ n. Entry (record { 0 = n })) (eqb-true a.0 b.0 h)
same_is (Branch a x) (Branch b y) h = ap₂ (λ n outcome. Branch (record { 0 = n }) outcome) (eqb-true a.0 b.0 (and_left (a.0 == b.0) (agrees x y) h)) (agrees_is x y (and_right (a.0 == b.0) (agrees x y) h))
same_is (Reached a) (Reached b) h = ap (λ n. Reached (record { 0 = n })) (eqb-true a.0 b.0 h)
same_is _ _ h = absurd (cc)

any_also : {X : Type 0} (p q : X → Bool) → ((x : X) → p x ≡ true → q x ≡ true) → (xs : List X) → list_any p xs ≡ true → list_any q xs ≡ true
any_also p q h [] k = absurd (cc)
any_also p q h (x ∷ xs) k = either (list_any q (x ∷ xs) ≡ true) (p x) (list_any p xs) k (λ here. or_left (q x) (list_any q xs) (h x here)) (λ later. or_right (q x) (list_any q xs) (any_also p q h xs later))

any_if : {X : Type 0} (p : X → Bool) (b : Bool) (xs ys : List X) → list_any p xs ≡ true → list_any p ys ≡ true → list_any p (if b then xs else ys) ≡ true
any_if p true xs ys h k = h
any_if p false xs ys h k = k

all_if : {X : Type 0} (P : X → Type 0) (b : Bool) (xs ys : List X) → AllByRecursion P xs → AllByRecursion P ys → AllByRecursion P (if b then xs else ys)
all_if P true xs ys h k = h
all_if P false xs ys h k = k

outcome_decides : (node : NodeId) (outcome : Bool) (event : Event) → has_outcome node outcome event ≡ true → decides_at node event ≡ true
outcome_decides node outcome (Began began) h = absurd (cc)
outcome_decides node outcome (Decided decided judged came) h = and_left (decided.0 == node.0) (agrees outcome came) h

-- the goal of a line, at its first statement
abbrev line_goal : NodeId → ℕ → GoalKind → List Point → Goal
line_goal node line governor more = record { kind = Reached node; line = line; nodes = node ∷ flat_map (starts_on line) more; parent = Some governor }

-- ---- what governs a goal that is taken is reached

module _ (r : Rule) (t : Trail) where
  abbrev AllRuled : List Point → Type 0
  AllRuled ps = AllByRecursion (Ruled r t) ps

  abbrev Reaching : GoalKind → Type 0
  Reaching kind = has_reached r t kind ≡ true

  decided_reaches : (node : NodeId) (line : ℕ) (governor : GoalKind) (outcome : Bool) → Ruled r t (Decision node line governor) → list_any (has_outcome node outcome) t ≡ true → Reaching governor
  decided_reaches node line governor outcome h came = h (any_also (has_outcome node outcome) (decides_at node) (outcome_decides node outcome) t came)

  branch_reaches : (inner : GoalKind) (node : NodeId) (line : ℕ) (governor : GoalKind) (outcome : Bool) → same_kind inner (Branch node outcome) ≡ true → Ruled r t (Decision node line governor) → Reaching inner → Reaching governor
  branch_reaches inner node line governor outcome e h reach = decided_reaches node line governor outcome h (subst Reaching (same_is inner (Branch node outcome) e) reach)

  through : (outer inner : GoalKind) (ps : List Point) → AllRuled ps → list_any (governs outer inner) ps ≡ true → Reaching inner → Reaching outer
  through outer inner [] h g reach = absurd (cc)
  through outer inner (Statement node line governor ∷ ps) h g reach = through outer inner ps h.1 g reach
  through outer inner (Decision node line governor ∷ ps) h g reach =
      let yes = same_kind inner (Branch node true) in
      let no = same_kind inner (Branch node false) in
      either (Reaching outer) (same_kind outer governor && (yes || no)) (list_any (governs outer inner) ps) g
      (λ here. subst Reaching (sym (same_is outer governor (and_left (same_kind outer governor) (yes || no) here)))
      (either (Reaching governor) yes no (and_right (same_kind outer governor) (yes || no) here)
      (λ e. branch_reaches inner node line governor true e h.0 reach) (λ e. branch_reaches inner node line governor false e h.0 reach)))
      (λ later. through outer inner ps h.1 later reach)

  within_reaches : (all : List Point) → AllRuled all → (outer inner : GoalKind) → is_within all outer inner ≡ true → Reaching inner → Reaching outer
  within_reaches all h outer inner g reach = either (Reaching outer) (same_kind inner outer) (list_any (governs outer inner) all) g
      (λ e. subst Reaching (same_is inner outer e) reach) (λ later. through outer inner all h later reach)

  -- what governs a goal, where it is taken
  abbrev Right : Goal → Type 0
  Right goal = is_taken t goal ≡ true → (kind : GoalKind) → goal.parent ≡ Some kind → Reaching kind

  abbrev starts : NodeId → Bool
  starts node = list_any (begins node) t

  module _ (all : List Point) (whole : AllRuled all) where
    -- a statement, and those after it, of which some begin on a line
    at_line : (outer inner : GoalKind) (node : NodeId) (rest : List NodeId) (b : Bool) → (not b || is_within all outer inner) ≡ true → (starts node ≡ true → Reaching inner) → (list_any starts rest ≡ true → Reaching outer)
        → list_any starts ((if b then node ∷ [] else []) ++ rest) ≡ true → Reaching outer
    at_line outer inner node rest true plain h next began = either (Reaching outer) (starts node) (list_any starts rest) began (λ here. within_reaches all whole outer inner plain (h here)) next
    at_line outer inner node rest false plain h next began = next began

    -- a later statement of a line
    later_reaches : (line : ℕ) (outer : GoalKind) (more : List Point) → AllRuled more → list_all (follows all line outer) more ≡ true → list_any starts (flat_map (starts_on line) more) ≡ true → Reaching outer
    later_reaches line outer [] h plain began = absurd (cc)
    later_reaches line outer (Statement node other inner ∷ more) h plain began =
        let own = not (other == line) || is_within all outer inner in
        at_line outer inner node (flat_map (starts_on line) more) (other == line) (and_left own (list_all (follows all line outer) more) plain) h.0
        (later_reaches line outer more h.1 (and_right own (list_all (follows all line outer) more) plain)) began
    later_reaches line outer (Decision node other inner ∷ more) h plain began = later_reaches line outer more h.1 plain began

    parent_is : (a b : GoalKind) → Some a ≡ Some b → Reaching a → Reaching b
    parent_is a b e reach = let same : a ≡ b = cc in subst Reaching same reach

    goals_right : (seen : List ℕ) (ps : List Point) → AllRuled ps → are_plain all ps ≡ true → AllByRecursion Right (goals_from seen ps)
    goals_right seen [] h plain = tt
    goals_right seen (Statement node line governor ∷ more) h plain =
        let now = and_left (list_all (follows all line governor) more) (are_plain all more) plain in
        let next = and_right (list_all (follows all line governor) more) (are_plain all more) plain in
        all_if Right (list_any (λ l. l == line) seen) (goals_from seen more)
        (line_goal node line governor more ∷ goals_from (line ∷ seen) more)
        (goals_right seen more h.1 next) (
          (λ taken kind e. parent_is governor kind e (either (Reaching governor) (starts node) (list_any starts (flat_map (starts_on line) more)) taken
              h.0 (λ later. later_reaches line governor more h.1 now later))),
          goals_right (line ∷ seen) more h.1 next,
        )
    goals_right seen (Decision node line governor ∷ more) h plain = (
      λ taken kind e. parent_is governor kind e (decided_reaches node line governor true h.0 taken),
      ((λ taken kind e. parent_is governor kind e (decided_reaches node line governor false h.0 taken)), goals_right seen more h.1 plain),
    )

  functions_right : (k : ℕ) (fs : List Function) → AllRuled (points_of_functions k fs) → plain_from k fs ≡ true → AllByRecursion Right (goals_of_functions k fs)
  functions_right k [] h plain = tt
  functions_right k (f ∷ fs) h plain =
      let id : FuncId = record { 0 = k } in
      let ps = body_points id f.tree in
      let here = all_front (Ruled r t) ps (points_of_functions (k + 1) fs) h in
      all_join Right (goals_in id f.tree) (goals_of_functions (k + 1) fs)
      ((λ taken kind e. absurd (cc)), goals_right ps here [] ps here (and_left (are_plain ps ps) (plain_from (k + 1) fs) plain))
      (functions_right (k + 1) fs (all_back (Ruled r t) ps (points_of_functions (k + 1) fs) h) (and_right (are_plain ps ps) (plain_from (k + 1) fs) plain))

  -- ---- a goal of a kind that is reached is taken

  abbrev Shows : Goal → Type 0
  Shows goal = (kind : GoalKind) → same_kind kind goal.kind ≡ true → Reaching kind → is_taken t goal ≡ true

  branch_shows : (node : NodeId) (line : ℕ) (governor : GoalKind) (outcome : Bool) → Shows (branch node line governor outcome)
  branch_shows node line governor outcome kind e reach = subst Reaching (same_is kind (Branch node outcome) e) reach

  line_shows : (goal : Goal) (node : NodeId) → goal.kind ≡ Reached node → Shows goal
  line_shows goal node is kind e reach = absurd (let no : false ≡ true = subst Reaching (same_is kind goal.kind e ∙ is) reach in cc)

  goals_show : (seen : List ℕ) (ps : List Point) → AllByRecursion Shows (goals_from seen ps)
  goals_show seen [] = tt
  goals_show seen (Statement node line governor ∷ more) =
      let goal = line_goal node line governor more in
      all_if Shows (list_any (λ l. l == line) seen) (goals_from seen more) (goal ∷ goals_from (line ∷ seen) more) (goals_show seen more) (line_shows goal node refl, goals_show (line ∷ seen) more)
  goals_show seen (Decision node line governor ∷ more) = (branch_shows node line governor true, (branch_shows node line governor false, goals_show seen more))

  begun_is : (found : Option Function) (f : Function) → found ≡ Some f → has_begun t found ≡ true → starts f.tree.node ≡ true
  begun_is found f e h = subst (λ found. has_begun t found ≡ true) e h

  entry_shows : (id : FuncId) (f : Function) → slice_get r.program.functions id.0 ≡ Some f → Shows (entry id f.tree)
  entry_shows id f is kind e reach = or_left (starts f.tree.node) false (begun_is (slice_get r.program.functions id.0) f is (subst Reaching (same_is kind (Entry id) e) reach))

  functions_show : (k : ℕ) (fs : List Function) → ((i : ℕ) (f : Function) → slice_get fs i ≡ Some f → slice_get r.program.functions (k + i) ≡ Some f) → AllByRecursion Shows (goals_of_functions k fs)
  functions_show k [] h = tt
  functions_show k (f ∷ fs) h =
      let id : FuncId = record { 0 = k } in
      let at : k + 0 ≡ k = omega arith in
      let is : slice_get r.program.functions k ≡ Some f = subst (λ n. slice_get r.program.functions n ≡ Some f) at (h 0 f refl) in
      all_join Shows (goals_in id f.tree) (goals_of_functions (k + 1) fs) (entry_shows id f is, goals_show [] (body_points id f.tree))
      (functions_show (k + 1) fs (λ i g e. let next : k + suc i ≡ (k + 1) + i = omega arith in subst (λ n. slice_get r.program.functions n ≡ Some g) next (h (suc i) g e)))

-- ---- a goal of each kind that is reached is there

abbrev there : GoalKind → List Goal → Bool
there kind goals = list_any (λ goal. same_kind kind goal.kind) goals

turned : (a b : ℕ) → (a == b) ≡ true → (b == a) ≡ true
turned a b h = eq-eqb b a (sym (eqb-true a b h))

outcome_there : (node other : NodeId) (line : ℕ) (governor : GoalKind) (outcome : Bool) (rest : List Goal) → (other.0 == node.0) ≡ true
    → there (Branch node outcome) (branch other line governor true ∷ branch other line governor false ∷ rest) ≡ true
outcome_there node other line governor true rest h = or_left ((node.0 == other.0) && true) _ (ap (λ b. b && true) (turned other.0 node.0 h))
outcome_there node other line governor false rest h = or_right ((node.0 == other.0) && false) _ (or_left ((node.0 == other.0) && true) _ (ap (λ b. b && true) (turned other.0 node.0 h)))

decision_there : (node : NodeId) (outcome : Bool) (seen : List ℕ) (ps : List Point) → list_any (is_decision node) ps ≡ true → there (Branch node outcome) (goals_from seen ps) ≡ true
decision_there node outcome seen [] h = absurd (cc)
decision_there node outcome seen (Statement other line governor ∷ more) h =
    any_if (λ goal. same_kind (Branch node outcome) goal.kind) (list_any (λ l. l == line) seen) (goals_from seen more)
    (line_goal other line governor more ∷ goals_from (line ∷ seen) more)
    (decision_there node outcome seen more h) (decision_there node outcome (line ∷ seen) more h)
decision_there node outcome seen (Decision other line governor ∷ more) h =
    let kind = Branch node outcome in
    let yes = same_kind kind (Branch other true) in let no = same_kind kind (Branch other false) in
    either (there kind (goals_from seen (Decision other line governor ∷ more)) ≡ true) (other.0 == node.0) (list_any (is_decision node) more) h
    (λ here. outcome_there node other line governor outcome (goals_from seen more) here)
    (λ later. or_right yes _ (or_right no _ (decision_there node outcome seen more later)))

branches_there : (node : NodeId) (outcome : Bool) (k : ℕ) (fs : List Function) → list_any (is_decision node) (points_of_functions k fs) ≡ true → there (Branch node outcome) (goals_of_functions k fs) ≡ true
branches_there node outcome k [] h = absurd (cc)
branches_there node outcome k (f ∷ fs) h =
    let id : FuncId = record { 0 = k } in
    let kind = Branch node outcome in
    let ps = body_points id f.tree in
    list_any-append (λ goal. same_kind kind goal.kind) (goals_in id f.tree) (goals_of_functions (k + 1) fs)
    ∙ either ((there kind (goals_in id f.tree) || there kind (goals_of_functions (k + 1) fs)) ≡ true) (list_any (is_decision node) ps) (list_any (is_decision node) (points_of_functions (k + 1) fs))
    (sym (list_any-append (is_decision node) ps (points_of_functions (k + 1) fs)) ∙ h)
    (λ here. or_left (there kind (goals_in id f.tree)) _ (decision_there node outcome [] ps here))
    (λ later. or_right (there kind (goals_in id f.tree)) _ (branches_there node outcome (k + 1) fs later))

abbrev entry_kind : ℕ → GoalKind
entry_kind n = Entry record { 0 = n }

entries_there : (k i : ℕ) (fs : List Function) (f : Function) → slice_get fs i ≡ Some f → there (entry_kind (k + i)) (goals_of_functions k fs) ≡ true
entries_there k i [] f is = absurd (cc)
entries_there k zero (g ∷ fs) f is = or_left ((k + 0) == k) _ (eq-eqb (k + 0) k (omega arith))
entries_there k (suc i) (g ∷ fs) f is =
    let id : FuncId = record { 0 = k } in
    let at : (k + 1) + i ≡ k + suc i = omega arith in
    let kind = entry_kind (k + suc i) in
    list_any-append (λ goal. same_kind kind goal.kind) (goals_in id g.tree) (goals_of_functions (k + 1) fs)
    ∙ or_right (there kind (goals_in id g.tree)) _ (subst (λ n. there (entry_kind n) (goals_of_functions (k + 1) fs) ≡ true) at (entries_there (k + 1) i fs f is))

-- ---- goals by their numbers

record Found (Q : Goal → Type 0) (goals : List Goal) (at : ℕ) : Type 0 where
  goal : Goal
  is : slice_get goals at ≡ Some goal
  has : Q goal

found_by : (p : Goal → Bool) (Q : Goal → Type 0) (g : Goal) (goals : List Goal) (rest : ℕ) (b : Bool) → p g ≡ b → (b || list_any p goals) ≡ true → (p g ≡ true → Q g) → (list_any p goals ≡ true → Found Q goals rest)
    → Found Q (g ∷ goals) (cond (not b) (1 + rest) 0)
found_by p Q g goals rest true e h k next = record { goal = g; is = refl; has = k e }
found_by p Q g goals rest false e h k next =
    let later = next h in
    let at : suc rest ≡ 1 + rest = omega arith in
    record { goal = later.goal; is = subst (λ n. slice_get (g ∷ goals) n ≡ Some later.goal) at later.is; has = later.has }

found_at : (p : Goal → Bool) (Q : Goal → Type 0) (goals : List Goal) → list_any p goals ≡ true → AllByRecursion (λ goal. p goal ≡ true → Q goal) goals → Found Q goals (position_or_len p goals)
found_at p Q [] h k = absurd (cc)
found_at p Q (g ∷ goals) h k = found_by p Q g goals (position_or_len p goals) (p g) refl h k.0 (λ later. found_at p Q goals later k.1)

all_at : (P : Goal → Type 0) (goals : List Goal) (i : ℕ) (goal : Goal) → AllByRecursion P goals → slice_get goals i ≡ Some goal → P goal
all_at P [] i goal h is = absurd (cc)
all_at P (g ∷ goals) zero goal h is = let same : g ≡ goal = cc in subst P same h.0
all_at P (g ∷ goals) (suc i) goal h is = all_at P goals i goal h.1 is

module _ (t : Trail) where
  abbrev Took : Goal → Type 0
  Took goal = is_taken t goal ≡ true

  abbrev is_in : List ℕ → ℕ → Bool
  is_in taken number = list_any (λ c. c == number) taken

  taken_at : (n i : ℕ) (goals : List Goal) (goal : Goal) → slice_get goals i ≡ Some goal → Took goal → is_in (taken_from n t goals) (n + i) ≡ true
  taken_at n i [] goal is took = absurd (cc)
  taken_at n zero (g ∷ goals) goal is took =
      let same : goal ≡ g = cc in
      let first : (n == n + 0) ≡ true = eq-eqb n (n + 0) (omega arith) in
      let rest = taken_from (n + 1) t goals in
      subst (λ b. is_in (if b then n ∷ rest else rest) (n + 0) ≡ true) (sym (subst Took same took)) (or_left (n == n + 0) (is_in rest (n + 0)) first)
  taken_at n (suc i) (g ∷ goals) goal is took =
      let at : (n + 1) + i ≡ n + suc i = omega arith in
      let rest = taken_from (n + 1) t goals in
      let later : is_in rest (n + suc i) ≡ true = subst (λ k. is_in rest k ≡ true) at (taken_at (n + 1) i goals goal is took) in
      any_if (λ c. c == n + suc i) (is_taken t g) (n ∷ rest) rest (or_right (n == n + suc i) (is_in rest (n + suc i)) later) later

  record Was (n k : ℕ) (goals : List Goal) : Type 0 where
    place : ℕ
    goal : Goal
    at : n + place ≡ k
    is : slice_get goals place ≡ Some goal
    took : Took goal

  was_later : (n k : ℕ) (g : Goal) (goals : List Goal) → Was (n + 1) k goals → Was n k (g ∷ goals)
  was_later n k g goals w = let at = w.at in record { place = suc w.place; goal = w.goal; at = omega (arith, at); is = w.is; took = w.took }

  was_by : (n k : ℕ) (g : Goal) (goals : List Goal) (b : Bool) → is_taken t g ≡ b → (is_in (taken_from (n + 1) t goals) k ≡ true → Was (n + 1) k goals)
      → is_in (if b then n ∷ taken_from (n + 1) t goals else taken_from (n + 1) t goals) k ≡ true → Was n k (g ∷ goals)
  was_by n k g goals true e next h = either (Was n k (g ∷ goals)) (n == k) (is_in (taken_from (n + 1) t goals) k) h
      (λ here. let same = eqb-true n k here in record { place = 0; goal = g; at = omega (arith, same); is = refl; took = e })
      (λ later. was_later n k g goals (next later))
  was_by n k g goals false e next h = was_later n k g goals (next h)

  taken_was : (n k : ℕ) (goals : List Goal) → is_in (taken_from n t goals) k ≡ true → Was n k goals
  taken_was n k [] h = absurd (cc)
  taken_was n k (g ∷ goals) h = was_by n k g goals (is_taken t g) refl (taken_was (n + 1) k goals) h

-- ---- the law of a trail

module _ (level : NodesByLevel) (m : Module) (t : Trail) (plain : has_plain_lines (program_of m) ≡ true) (o : Obeys (rule_of level m) t) where
  abbrev r : Rule
  r = rule_of level m

  abbrev fs : List Function
  fs = functions_from 0 m.items

  abbrev goals : List Goal
  goals = goals_of m

  entry_there : (id : FuncId) (found : Option Function) → slice_get fs id.0 ≡ found → has_begun t found ≡ true → there (Entry id) goals ≡ true
  entry_there id None is h = absurd (cc)
  entry_there id (Some f) is h = let at : 0 + id.0 ≡ id.0 = omega arith in subst (λ n. there (entry_kind n) goals ≡ true) at (entries_there 0 id.0 fs f is)

  kind_there : (kind : GoalKind) → has_reached r t kind ≡ true → there kind goals ≡ true
  kind_there (Entry id) h = entry_there id (slice_get fs id.0) refl h
  kind_there (Branch node outcome) h = branches_there node outcome 0 fs (o.decided node outcome h)
  kind_there (Reached node) h = absurd (cc)

  abbrev taken : List ℕ
  taken = taken_from 0 t goals

  kind_taken : (kind : GoalKind) → has_reached r t kind ≡ true → list_any (λ c. c == number_of goals kind) taken ≡ true
  kind_taken kind reach =
      let shows = functions_show r t 0 fs (λ i f is. let at : i ≡ 0 + i = omega arith in subst (λ n. slice_get fs n ≡ Some f) at is) in
      let found = found_at (λ goal. same_kind kind goal.kind) (Took t) goals (kind_there kind reach) (all_also (Shows r t) (λ goal. same_kind kind goal.kind ≡ true → Took t goal) (λ goal show e. show kind e reach) goals shows) in
      let at : 0 + number_of goals kind ≡ number_of goals kind = omega arith in
      subst (λ n. list_any (λ c. c == n) taken ≡ true) at (taken_at t 0 (number_of goals kind) goals found.goal found.is found.has)

  ready_by : (goal : Goal) (parent : Option GoalKind) → goal.parent ≡ parent → Took t goal → ((kind : GoalKind) → goal.parent ≡ Some kind → has_reached r t kind ≡ true) → is_ready goals taken (option_map (number_of goals) parent) ≡ true
  ready_by goal None e took h = refl
  ready_by goal (Some kind) e took h = kind_taken kind (h kind e)

  pub has_parents : HasParents goals taken
  has_parents number h =
      let w = taken_was t 0 number goals h in
      let was = w.at in let at : w.place ≡ number = omega (arith, was) in
      let is : slice_get goals number ≡ Some w.goal = subst (λ n. slice_get goals n ≡ Some w.goal) at w.is in
      let right = all_at (Right r t) goals w.place w.goal (functions_right r t 0 fs o.ruled plain) w.is in
      subst (λ found. is_ready goals taken (parent_in goals found) ≡ true) (sym is) (ready_by w.goal w.goal.parent refl w.took (right w.took))

-- ---- the laws, by what is known of nodes

module _ (level : NodesByLevel) (ascends : NumberedAscend) where
  pub governors_come_first : GovernorsComeFirst
  governors_come_first m dense limit stmts =
      let r = rule_of level m in let bodies = module_bodies level ascends m dense in
      (all_obey r bodies limit stmts (imported r.program []) (begin_between r bodies)).ordered

  pub runs_take_parents : RunsTakeParents
  runs_take_parents m dense plain limit stmts =
      let r = rule_of level m in let bodies = module_bodies level ascends m dense in
      has_parents level m _ plain (all_obey r bodies limit stmts (imported r.program []) (begin_between r bodies))

  pub kept_takes_parents : KeptTakesParents
  kept_takes_parents m dense plain limit stmts =
      let r = rule_of level m in let bodies = module_bodies level ascends m dense in
      has_parents level m _ plain (kept_obey r bodies limit stmts (imported r.program []) (begin_between r bodies))

  pub tests_take_parents : TestsTakeParents
  tests_take_parents m dense plain limit test = kept_takes_parents m dense plain limit (statements_of (program_of m) test)
