-- What governs a point comes before it, so a goal's parent has a lower number.
use Rattle.std.proofs.Common.{◌≡◌, ℕ, zero, suc, ◌+◌, ◌<◌, List, [], ◌∷◌, ◌++◌, length, map, Option, Some, None, Bool, true, false, refl, sym, ap, ◌∙◌, subst, cond, arith}
use Rattle.std.proofs.lemmas.List.{append-nil, append_assoc, length-append}
use Rattle.std.proofs.lemmas.List.Folds.{list_any-append}
use Rattle.std.specs.List.{list_any, flat_map, position_or_len, AllByRecursion}
use Rattle.std.specs.Option.{option_map}
use Rattle.std.specs.Prelude.{◌==◌, ◌&&◌, ◌||◌, not, slice_get}
use Rattle.pyn_base.specs.declared.ids.FuncId.{FuncId}
use Rattle.pyn_base.specs.declared.ids.NodeId.{NodeId}
use Rattle.py_syntax.specs.declared.expr.Expr.{Expr}
use Rattle.py_syntax.specs.declared.module.Func.{Func}
use Rattle.py_syntax.specs.declared.module.Module.{Module}
use Rattle.py_syntax.specs.declared.stmt.Clause.{Clause, Clause-F, roll-Clause, fold-roll-Clause, map-Clause}
use Rattle.py_syntax.specs.declared.stmt.Stmt.{Stmt, Stmt-F, roll-Stmt, fold-roll-Stmt, ind-Stmt, map-Stmt}
use Rattle.py_syntax.specs.declared.stmt.StmtKind.{StmtKind, StmtKind-F, roll-StmtKind, fold-roll-StmtKind, map-StmtKind}
use Rattle.py_plain.specs.Program.{Function, functions_from}
use Rattle.goal_model.specs.declared.kind.GoalKind.{GoalKind}
use Rattle.goal_model.specs.declared.kind.GoalKind.TheVariants.{Entry, Branch, Reached}
use Rattle.goal_model.specs.declared.point.Point.{Point}
use Rattle.goal_model.specs.declared.point.Point.TheVariants.{Statement, Decision}
use Rattle.goal_model.specs.Goals.{Goal, branch, entry, starts_on, goals_from, goals_in, goals_of_functions, goals_of, body_points}
use Rattle.goal_model.specs.Parents.{same_kind, number_of, parent_of, parent_in}
use Rattle.goal_model.specs.Points.{Points, block, maybe_block, arms, points_by, clause_points, stmt_points, points, points_in_clause, points_in_kind}
use Rattle.goal_graph.specs.Laws.{is_entry, HasParent, ParentsAreEarlier, OthersHaveParents}
use Rattle.goal_graph.proofs.Tests.{same}

-- ---- points whose governors come before them

abbrev has : List GoalKind → GoalKind → Bool
has kinds kind = list_any (same_kind kind) kinds

-- with what a decision adds
abbrev after : NodeId → List GoalKind → List GoalKind
after node kinds = Branch node true ∷ Branch node false ∷ kinds

abbrev Governed : List GoalKind → List Point → Type 0
Governed kinds [] = Unit {0}
Governed kinds (Statement node line governor ∷ more) = (has kinds governor ≡ true) × Governed kinds more
Governed kinds (Decision node line governor ∷ more) = (has kinds governor ≡ true) × Governed (after node kinds) more

abbrev Within : List GoalKind → List GoalKind → Type 0
Within kinds more = (kind : GoalKind) → has kinds kind ≡ true → has more kind ≡ true

or_later : (a b c : Bool) → (b ≡ true → c ≡ true) → (a || b) ≡ true → (a || c) ≡ true
or_later true b c f h = refl
or_later false b c f h = f h

after_within : (node : NodeId) (kinds more : List GoalKind) → Within kinds more → Within (after node kinds) (after node more)
after_within node kinds more w kind =
    or_later (same_kind kind (Branch node true)) _ _ (or_later (same_kind kind (Branch node false)) _ _ (w kind))

or_right : (a b : Bool) → b ≡ true → (a || b) ≡ true
or_right true b h = refl
or_right false b h = h

within_after : (node : NodeId) (kinds : List GoalKind) → Within kinds (after node kinds)
within_after node kinds kind h = or_right (same_kind kind (Branch node true)) _ (or_right (same_kind kind (Branch node false)) _ h)

governed_more : (kinds more : List GoalKind) (points : List Point) → Within kinds more → Governed kinds points → Governed more points
governed_more kinds more [] w g = tt
governed_more kinds more (Statement node line governor ∷ points) w g = (w governor g.0, governed_more kinds more points w g.1)
governed_more kinds more (Decision node line governor ∷ points) w g =
    (w governor g.0, governed_more (after node kinds) (after node more) points (after_within node kinds more w) g.1)

governed_join : (kinds : List GoalKind) (points rest : List Point) → Governed kinds points → Governed kinds rest → Governed kinds (points ++ rest)
governed_join kinds [] rest g h = h
governed_join kinds (Statement node line governor ∷ points) rest g h = (g.0, governed_join kinds points rest g.1 h)
governed_join kinds (Decision node line governor ∷ points) rest g h =
    (g.0, governed_join (after node kinds) points rest g.1 (governed_more kinds (after node kinds) rest (within_after node kinds) h))

-- a part whose points are governed, where what governs it comes before
abbrev Part : Points → Type 0
Part part = (kinds : List GoalKind) (governor : GoalKind) → has kinds governor ≡ true → Governed kinds (part governor)

same_outcome : (node : NodeId) (outcome : Bool) → same_kind (Branch node outcome) (Branch node outcome) ≡ true
same_outcome node true = ap (λ b. b && true) (same node.0)
same_outcome node false = ap (λ b. b && true) (same node.0)

or_left : (a b : Bool) → a ≡ true → (a || b) ≡ true
or_left true b h = refl
or_left false b h = absurd (cc)

has_true : (node : NodeId) (kinds : List GoalKind) → has (after node kinds) (Branch node true) ≡ true
has_true node kinds = or_left (same_kind (Branch node true) (Branch node true)) _ (same_outcome node true)

has_false : (node : NodeId) (kinds : List GoalKind) → has (after node kinds) (Branch node false) ≡ true
has_false node kinds = or_right (same_kind (Branch node false) (Branch node true)) _ (or_left (same_kind (Branch node false) (Branch node false)) _ (same_outcome node false))

block_part : (parts : List Points) → AllByRecursion Part parts → Part (block parts)
block_part [] all kinds governor h = tt
block_part (part ∷ parts) all kinds governor h =
    governed_join kinds (part governor) (block parts governor) (all.0 kinds governor h) (block_part parts all.1 kinds governor h)

abbrev MaybeParts : Option (List Points) → Type 0
MaybeParts None = Unit {0}
MaybeParts (Some parts) = AllByRecursion Part parts

maybe_part : (parts : Option (List Points)) → MaybeParts parts → Part (maybe_block parts)
maybe_part None all kinds governor h = tt
maybe_part (Some parts) all kinds governor h = block_part parts all kinds governor h

abbrev ArmParts : List (Expr × List Points) → Type 0
ArmParts [] = Unit {0}
ArmParts (arm ∷ arms) = AllByRecursion Part arm.1 × ArmParts arms

arms_part : (all : List (Expr × List Points)) (other : Option (List Points)) → ArmParts all → MaybeParts other → Part (arms all other)
arms_part [] other a o kinds governor h = maybe_part other o kinds governor h
arms_part (arm ∷ more) other a o kinds governor h =
    let node = arm.0.node in (
      h,
      governed_join (after node kinds) (block arm.1 (Branch node true)) (arms more other (Branch node false))
          (block_part arm.1 a.0 (after node kinds) (Branch node true) (has_true node kinds))
          (arms_part more other a.1 o (after node kinds) (Branch node false) (has_false node kinds)),
    )

decision_part : (node : NodeId) (line : ℕ) (parts : List Points) → AllByRecursion Part parts → Part (λ governor. Decision node line governor ∷ block parts (Branch node true))
decision_part node line parts all kinds governor h = (h, block_part parts all (after node kinds) (Branch node true) (has_true node kinds))

-- ---- every statement

abbrev KindPart : (NodeId → ℕ → Points) → Type 0
KindPart part = (node : NodeId) (line : ℕ) → Part (part node line)

module _ {SK SC SS : Type 0} (vk : SK → StmtKind) (vc : SC → Clause) (vs : SS → Stmt)
    (hk : (x : SK) → KindPart (points_in_kind (vk x))) (hc : (x : SC) → Part (points_in_clause (vc x))) (hs : (x : SS) → Part (points (vs x))) where
  parts_of : (body : List SS) → AllByRecursion Part (map points (map vs body))
  parts_of [] = tt
  parts_of (stmt ∷ body) = (hs stmt, parts_of body)

  clauses_of : (clauses : List SC) → AllByRecursion Part (map points_in_clause (map vc clauses))
  clauses_of [] = tt
  clauses_of (clause ∷ clauses) = (hc clause, clauses_of clauses)

  arms_of : (arms : List (Expr × List SS)) → ArmParts (map (λ (arm : Expr × List Stmt). (arm.0, map points arm.1)) (map (λ (arm : Expr × List SS). (arm.0, map vs arm.1)) arms))
  arms_of [] = tt
  arms_of (arm ∷ more) = (parts_of arm.1, arms_of more)

  abbrev under : StmtKind-F SK SC SS → StmtKind-F StmtKind Clause Stmt
  under = map-StmtKind SK SC SS StmtKind Clause Stmt vk vc vs

  abbrev results : StmtKind-F StmtKind Clause Stmt → StmtKind-F (NodeId → ℕ → Points) Points Points
  results = map-StmtKind StmtKind Clause Stmt (NodeId → ℕ → Points) Points Points points_in_kind points_in_clause points

  try_part : (body : List Points) (clauses : List Points) (other last : Option (List Points)) → AllByRecursion Part body → AllByRecursion Part clauses → MaybeParts other → MaybeParts last
      → Part (λ governor. block body governor ++ block clauses governor ++ maybe_block other governor ++ maybe_block last governor)
  try_part body clauses other last b c o l kinds governor h =
      governed_join kinds (block body governor ++ block clauses governor ++ maybe_block other governor) (maybe_block last governor)
      (governed_join kinds (block body governor ++ block clauses governor) (maybe_block other governor)
      (governed_join kinds (block body governor) (block clauses governor) (block_part body b kinds governor h) (block_part clauses c kinds governor h))
      (maybe_part other o kinds governor h))
      (maybe_part last l kinds governor h)

  kind_part : (y : StmtKind-F SK SC SS) → KindPart (points_by (results (under y)))
  kind_part (StmtKind-F.If tests None) node line = arms_part _ None (arms_of tests) tt
  kind_part (StmtKind-F.If tests (Some other)) node line = arms_part _ (Some _) (arms_of tests) (parts_of other)
  kind_part (StmtKind-F.While test body) node line = decision_part test.node test.line _ (parts_of body)
  kind_part (StmtKind-F.For names is_tuple e body) node line = decision_part node line _ (parts_of body)
  kind_part (StmtKind-F.Assert test message) node line = λ kinds governor h. (h, tt)
  kind_part (StmtKind-F.Try body clauses None None) node line = try_part _ _ None None (parts_of body) (clauses_of clauses) tt tt
  kind_part (StmtKind-F.Try body clauses None (Some last)) node line = try_part _ _ None (Some _) (parts_of body) (clauses_of clauses) tt (parts_of last)
  kind_part (StmtKind-F.Try body clauses (Some other) None) node line = try_part _ _ (Some _) None (parts_of body) (clauses_of clauses) (parts_of other) tt
  kind_part (StmtKind-F.Try body clauses (Some other) (Some last)) node line = try_part _ _ (Some _) (Some _) (parts_of body) (clauses_of clauses) (parts_of other) (parts_of last)
  kind_part StmtKind-F.Pass node line = λ kinds governor h. tt
  kind_part StmtKind-F.Break node line = λ kinds governor h. tt
  kind_part StmtKind-F.Continue node line = λ kinds governor h. tt
  kind_part (StmtKind-F.Return e) node line = λ kinds governor h. tt
  kind_part (StmtKind-F.Raise e) node line = λ kinds governor h. tt
  kind_part (StmtKind-F.Del of at) node line = λ kinds governor h. tt
  kind_part (StmtKind-F.Assign targets is_tuple annotation e) node line = λ kinds governor h. tt
  kind_part (StmtKind-F.Augment target op e) node line = λ kinds governor h. tt
  kind_part (StmtKind-F.Bare e) node line = λ kinds governor h. tt

  kind_step : (y : StmtKind-F SK SC SS) → KindPart (points_in_kind (roll-StmtKind (under y)))
  unfolding points points_in_clause points_in_kind
  kind_step y = subst KindPart (sym (fold-roll-StmtKind (NodeId → ℕ → Points) Points Points points_by clause_points stmt_points (under y))) (kind_part y)

  clause_step : (y : Clause-F SK SC SS) → Part (points_in_clause (roll-Clause (map-Clause SK SC SS StmtKind Clause Stmt vk vc vs y)))
  unfolding points points_in_clause points_in_kind
  clause_step y =
      subst Part (sym (fold-roll-Clause (NodeId → ℕ → Points) Points Points points_by clause_points stmt_points (map-Clause SK SC SS StmtKind Clause Stmt vk vc vs y)))
      (decision_part y.node y.line _ (parts_of y.body))

  stmt_step : (y : Stmt-F SK SC SS) → Part (points (roll-Stmt (map-Stmt SK SC SS StmtKind Clause Stmt vk vc vs y)))
  unfolding points points_in_clause points_in_kind
  stmt_step y =
      subst Part (sym (fold-roll-Stmt (NodeId → ℕ → Points) Points Points points_by clause_points stmt_points (map-Stmt SK SC SS StmtKind Clause Stmt vk vc vs y)))
      (λ kinds governor h. (h, hk y.kind y.node y.line kinds governor h))

every_part : (x : Stmt) → Part (points x)
every_part = ind-Stmt (λ k. KindPart (points_in_kind k)) (λ c. Part (points_in_clause c)) (λ x. Part (points x))
    (λ x y is. subst (λ z. KindPart (points_in_kind (roll-StmtKind z))) is (kind_step (λ e. e.0) (λ e. e.0) (λ e. e.0) (λ e. e.1) (λ e. e.1) (λ e. e.1) y))
    (λ x y is. subst (λ z. Part (points_in_clause (roll-Clause z))) is (clause_step (λ e. e.0) (λ e. e.0) (λ e. e.0) (λ e. e.1) (λ e. e.1) (λ e. e.1) y))
    (λ x y is. subst (λ z. Part (points (roll-Stmt z))) is (stmt_step (λ e. e.0) (λ e. e.0) (λ e. e.0) (λ e. e.1) (λ e. e.1) (λ e. e.1) y))

parts_of_body : (body : List Stmt) → AllByRecursion Part (map points body)
parts_of_body [] = tt
parts_of_body (stmt ∷ body) = (every_part stmt, parts_of_body body)

-- ---- goals whose parents come before them

abbrev there : List Goal → GoalKind → Bool
there goals kind = list_any (λ goal. same_kind kind goal.kind) goals

abbrev ParentIs : List Goal → Bool → Option GoalKind → Type 0
ParentIs before true None = Unit {0}
ParentIs before true (Some kind) = ⊥
ParentIs before false None = ⊥
ParentIs before false (Some kind) = there before kind ≡ true

-- an entry has no parent, and the parent of every other goal is among those before it
abbrev Led : List Goal → List Goal → Type 0
Led before [] = Unit {0}
Led before (goal ∷ more) = ParentIs before (is_entry goal.kind) goal.parent × Led (before ++ goal ∷ []) more

there_more : (before : List Goal) (goal : Goal) (kind : GoalKind) → there before kind ≡ true → there (before ++ goal ∷ []) kind ≡ true
there_more before goal kind h = list_any-append (λ g. same_kind kind g.kind) before (goal ∷ []) ∙ or_left (there before kind) _ h

there_last : (before : List Goal) (goal : Goal) (kind : GoalKind) → same_kind kind goal.kind ≡ true → there (before ++ goal ∷ []) kind ≡ true
there_last before goal kind h = list_any-append (λ g. same_kind kind g.kind) before (goal ∷ []) ∙ or_right (there before kind) _ (or_left (same_kind kind goal.kind) false h)

led_join : (before goals rest : List Goal) → Led before goals → Led (before ++ goals) rest → Led before (goals ++ rest)
led_join before [] rest g h = subst (λ b. Led b rest) (append-nil before) h
led_join before (goal ∷ goals) rest g h = (g.0, led_join (before ++ goal ∷ []) goals rest g.1 (subst (λ b. Led b rest) (sym (append_assoc before (goal ∷ []) goals)) h))

abbrev Covers : List GoalKind → List Goal → Type 0
Covers kinds goals = (kind : GoalKind) → has kinds kind ≡ true → there goals kind ≡ true

either : (C : Type 0) (a b : Bool) → (a || b) ≡ true → (a ≡ true → C) → (b ≡ true → C) → C
either C true b h f g = f refl
either C false b h f g = g h

led_line : (b : Bool) (node : NodeId) (line : ℕ) (governor : GoalKind) (nodes : List NodeId) (points : List Point) (seen : List ℕ) (kinds : List GoalKind) (before : List Goal)
    → ((seen : List ℕ) (before : List Goal) → Covers kinds before → Led before (goals_from seen points))
    → Covers kinds before → has kinds governor ≡ true
    → Led before (cond b (goals_from seen points) (record { kind = Reached node; line = line; nodes = nodes; parent = Some governor } ∷ goals_from (line ∷ seen) points))
led_line true node line governor nodes points seen kinds before next c h = next seen before c
led_line false node line governor nodes points seen kinds before next c h =
    (c governor h, next (line ∷ seen) (before ++ record { kind = Reached node; line = line; nodes = nodes; parent = Some governor } ∷ []) (λ kind k. there_more before _ kind (c kind k)))

led_points : (points : List Point) (seen : List ℕ) (kinds : List GoalKind) (before : List Goal) → Covers kinds before → Governed kinds points → Led before (goals_from seen points)
led_points [] seen kinds before c g = tt
led_points (Statement node line governor ∷ points) seen kinds before c g =
    led_line (list_any (λ l. l == line) seen) node line governor (node ∷ flat_map (starts_on line) points) points seen kinds before
    (λ seen before c. led_points points seen kinds before c g.1) c g.0
led_points (Decision node line governor ∷ points) seen kinds before c g =
    let yes = branch node line governor true in
    let no = branch node line governor false in (
      c governor g.0,
      (
        there_more before yes governor (c governor g.0),
        led_points points seen (after node kinds) ((before ++ yes ∷ []) ++ no ∷ [])
            (λ kind k. either (there ((before ++ yes ∷ []) ++ no ∷ []) kind ≡ true) (same_kind kind (Branch node true)) _ k
            (λ t. there_more (before ++ yes ∷ []) no kind (there_last before yes kind t))
            (λ r. either (there ((before ++ yes ∷ []) ++ no ∷ []) kind ≡ true) (same_kind kind (Branch node false)) _ r (λ f. there_last (before ++ yes ∷ []) no kind f)
            (λ e. there_more (before ++ yes ∷ []) no kind (there_more before yes kind (c kind e)))))
            g.1,
      ),
    )

led_function : (id : FuncId) (f : Func) (before : List Goal) → Led before (goals_in id f)
led_function id f before = (
  tt,
  led_points (body_points id f) [] (Entry id ∷ []) (before ++ entry id f ∷ [])
      (λ kind h. either (there (before ++ entry id f ∷ []) kind ≡ true) (same_kind kind (Entry id)) false h (λ e. there_last before (entry id f) kind e) (λ n. absurd (cc)))
      (block_part (map points f.body) (parts_of_body f.body) (Entry id ∷ []) (Entry id) (or_left (same_kind (Entry id) (Entry id)) false (same id.0))),
)

led_functions : (number : ℕ) (fs : List Function) (before : List Goal) → Led before (goals_of_functions number fs)
led_functions number [] before = tt
led_functions number (f ∷ fs) before =
    led_join before (goals_in (record { 0 = number }) f.tree) (goals_of_functions (number + 1) fs) (led_function (record { 0 = number }) f.tree before)
    (led_functions (number + 1) fs (before ++ goals_in (record { 0 = number }) f.tree))

-- ---- by numbers

early_by : (b any : Bool) (rest n : ℕ) → (b || any) ≡ true → (any ≡ true → rest < n) → cond (not b) (1 + rest) 0 < suc n
early_by true any rest n h next = omega arith
early_by false any rest n h next = omega (arith, next h)

position_early : {X : Type 0} (p : X → Bool) (xs ys : List X) → list_any p xs ≡ true → position_or_len p (xs ++ ys) < length xs
position_early p [] ys h = absurd (cc)
position_early p (x ∷ xs) ys h = early_by (p x) (list_any p xs) (position_or_len p (xs ++ ys)) (length xs) h (position_early p xs ys)

-- whether a goal's parent, by its number, is as it should be
abbrev Fine : ℕ → Bool → Option ℕ → Type 0
Fine at true parent = parent ≡ None
Fine at false parent = (number : ℕ) × (parent ≡ Some number) × (number < at)

fine_parent : (before rest : List Goal) (b : Bool) (parent : Option GoalKind) → ParentIs before b parent → Fine (length before) b (option_map (number_of (before ++ rest)) parent)
fine_parent before rest true None h = refl
fine_parent before rest true (Some kind) h = absurd h
fine_parent before rest false None h = absurd h
fine_parent before rest false (Some kind) h = (number_of (before ++ rest) kind, refl, position_early (λ goal. same_kind kind goal.kind) before rest h)

module _ (whole : List Goal) where
  fine_goals : (before goals : List Goal) → before ++ goals ≡ whole → Led before goals → (k : ℕ) (goal : Goal) → slice_get goals k ≡ Some goal
      → Fine (length before + k) (is_entry goal.kind) (parent_of whole goal)
  fine_goals before [] e led k goal is = absurd (cc)
  fine_goals before (g ∷ goals) e led zero goal is =
      let same : g ≡ goal = cc in
      subst (λ goal. Fine (length before + 0) (is_entry goal.kind) (parent_of whole goal)) same
      (subst (λ at. Fine at (is_entry g.kind) (parent_of whole g)) (omega arith)
      (subst (λ w. Fine (length before) (is_entry g.kind) (parent_of w g)) e (fine_parent before (g ∷ goals) (is_entry g.kind) g.parent led.0)))
  fine_goals before (g ∷ goals) e led (suc k) goal is =
      subst (λ at. Fine at (is_entry goal.kind) (parent_of whole goal)) (omega (arith, length-append before (g ∷ [])))
      (fine_goals (before ++ g ∷ []) goals (append_assoc before (g ∷ []) goals ∙ e) led.1 k goal is)

fine : (m : Module) (k : ℕ) (goal : Goal) → slice_get (goals_of m) k ≡ Some goal → Fine k (is_entry goal.kind) (parent_of (goals_of m) goal)
fine m k goal is = subst (λ at. Fine at (is_entry goal.kind) (parent_of (goals_of m) goal)) (omega arith)
    (fine_goals (goals_of m) [] (goals_of m) refl (led_functions 0 (functions_from 0 m.items) []) k goal is)

earlier_by : (at : ℕ) (b : Bool) (parent : Option ℕ) (p : ℕ) → Fine at b parent → parent ≡ Some p → p < at
earlier_by at true parent p f is = absurd (cc)
earlier_by at false parent p f is = let e : f.0 ≡ p = cc in omega (arith, e, f.2)

parent_earlier : (m : Module) (k p : ℕ) (found : Option Goal) → slice_get (goals_of m) k ≡ found → parent_in (goals_of m) found ≡ Some p → p < k
parent_earlier m k p None found is = absurd (cc)
parent_earlier m k p (Some goal) found is = earlier_by k (is_entry goal.kind) (parent_of (goals_of m) goal) p (fine m k goal found) is

pub parents_are_earlier : ParentsAreEarlier
parents_are_earlier m goal parent is = parent_earlier m goal parent (slice_get (goals_of m) goal) refl is

has_parent : (at : ℕ) (b : Bool) (parent : Option ℕ) → Fine at b parent → HasParent b parent
has_parent at true parent f = f
has_parent at false parent f = (f.0, f.1)

pub others_have_parents : OthersHaveParents
others_have_parents m number goal is =
    subst (λ found. HasParent (is_entry goal.kind) (parent_in (goals_of m) found)) (sym is) (has_parent number (is_entry goal.kind) (parent_of (goals_of m) goal) (fine m number goal is))
