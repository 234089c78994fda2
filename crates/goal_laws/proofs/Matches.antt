-- The points of a body and its nodes: the statements are the same, in the same order, and the decisions are at some of the nodes, in
-- their order.
use Rattle.std.proofs.Common.{List, None, Option, Some, [], ap, append_assoc, ap₂, arith, false, inl, length, length-append, map, refl, subst, suc, sym, true, zero, ℕ, ◌++◌, ◌+◌, ◌∙◌, ◌∷◌, ◌≡◌, ◌≤◌}
use Rattle.std.proofs.lemmas.Grind.{flat_map-append}
use Rattle.std.proofs.lemmas.List.{map-append}
use Rattle.std.proofs.lemmas.List.Folds.{flat_map-map}
use Rattle.std.specs.List.{AllByRecursion, flat_map}
use Rattle.std.specs.Option.{option_to_list}
use Rattle.pyn_base.specs.declared.ids.FuncId.{FuncId}
use Rattle.pyn_base.specs.declared.ids.NodeId.{NodeId}
use Rattle.py_syntax.specs.declared.expr.Expr.{Expr}
use Rattle.py_syntax.specs.declared.expr.ExprKind.{out-ExprKind}
use Rattle.py_syntax.specs.declared.stmt.Clause.{Clause, out-Clause}
use Rattle.py_syntax.specs.declared.stmt.Stmt.{Stmt}
use Rattle.py_syntax.specs.declared.stmt.StmtKind.{StmtKind, StmtKind-F, out-StmtKind}
use Rattle.py_syntax.specs.declared.stmt.Target.{Target}
use Rattle.py_syntax.specs.declared.stmt.Target.TheVariants as target
use Rattle.py_plain.specs.Program.{Function}
use Rattle.py_sites.specs.Nodes.{Node, Nodes, args_of, block_or_none, clause, expr_parts, expression, function, nodes, number, parts, statement, stmt_parts, target_parts}
use Rattle.goal_model.specs.Folds.{by_clause, by_kind, by_statement}
use Rattle.goal_model.specs.Goals.{body_points}
use Rattle.goal_model.specs.Laws.{parts_of_kind}
use Rattle.goal_model.specs.Points.{arms, block, maybe_block, points, points_by, points_in_clause}
use Rattle.goal_model.specs.declared.kind.GoalKind.{GoalKind}
use Rattle.goal_model.specs.declared.kind.GoalKind.TheVariants.{Branch, Entry}
use Rattle.goal_model.specs.declared.point.Point.{Point}
use Rattle.goal_model.specs.declared.point.Point.TheVariants.{Decision, Statement}
use Rattle.goal_laws.proofs.Blocks.{Arm, arm_nodes, arm_parts, maybe_parts}
use Rattle.goal_laws.proofs.Lists.{all_always, all_back, all_front, all_join}
use Rattle.goal_laws.proofs.Numbers.{Part, numbers, part_join, part_none, part_take, stated, stated_by}
use Rattle.goal_laws.proofs.Trails.{NodesByLevel}
use Rattle.goal_laws.specs.Governors.{points_of_functions}

abbrev pub begun_by : Point → List ℕ
begun_by (Statement node line governor) = node.0 ∷ []
begun_by (Decision node line governor) = []

abbrev pub decided_by : Point → List ℕ
decided_by (Statement node line governor) = []
decided_by (Decision node line governor) = node.0 ∷ []

abbrev pub begun : List Point → List ℕ
begun ps = flat_map begun_by ps

abbrev pub decisions : List Point → List ℕ
decisions ps = flat_map decided_by ps

pub record Matches (ps : List Point) (ns : Nodes) : Type 0 where
  pub statements : begun ps ≡ stated ns
  pub decided : Part (decisions ps) (numbers ns)

matches_join : (ps qs : List Point) (ns ms : Nodes) → Matches ps ns → Matches qs ms → Matches (ps ++ qs) (ns ++ ms)
matches_join ps qs ns ms h k = record {
  statements = flat_map-append begun_by ps qs ∙ ap₂ (λ a b. a ++ b) h.statements k.statements ∙ sym (flat_map-append stated_by ns ms);
  decided = subst (λ a. Part a (numbers (ns ++ ms))) (sym (flat_map-append decided_by ps qs))
      (subst (Part (decisions ps ++ decisions qs)) (sym (map-append number ns ms)) (part_join (decisions ps) (numbers ns) (decisions qs) (numbers ms) h.decided k.decided));
}

-- nodes without a statement
abbrev pub Silent : Node → Type 0
Silent x = stated (nodes x) ≡ []

silent_all : (xs : List Node) → AllByRecursion Silent xs → stated (flat_map nodes xs) ≡ []
silent_all [] h = refl
silent_all (x ∷ xs) h = flat_map-append stated_by (nodes x) (flat_map nodes xs) ∙ ap₂ (λ a b. a ++ b) h.0 (silent_all xs h.1)

matches_none : Matches [] []
matches_none = record { statements = refl; decided = refl }

silent_matches : (xs : List Node) → AllByRecursion Silent xs → Matches [] (flat_map nodes xs)
silent_matches xs h = record { statements = sym (silent_all xs h); decided = part_none (numbers (flat_map nodes xs)) }

one_silent : (e : Expr) → Silent (expression e) → Matches [] (nodes (expression e))
one_silent e h = record { statements = sym h; decided = part_none (numbers (nodes (expression e))) }

-- ---- every node

abbrev pub Claim : Node → Type 0
Claim (function f) = Unit {0}
Claim (statement s) = (governor : GoalKind) → Matches (points s governor) (nodes (statement s))
Claim (clause c) = (governor : GoalKind) → Matches (points_in_clause c governor) (nodes (clause c))
Claim (expression e) = Silent (expression e)

abbrev Claims : List Node → Type 0
Claims xs = AllByRecursion Claim xs

exprs_silent : (es : List Expr) → Claims (map expression es) → AllByRecursion Silent (map expression es)
exprs_silent [] h = tt
exprs_silent (e ∷ es) h = (h.0, exprs_silent es h.1)

block_matches : (body : List Stmt) (governor : GoalKind) → Claims (map statement body) → Matches (block (map points body) governor) (flat_map nodes (map statement body))
block_matches [] governor h = matches_none
block_matches (s ∷ body) governor h = matches_join (points s governor) (block (map points body) governor) (nodes (statement s)) (flat_map nodes (map statement body)) (h.0 governor) (block_matches body governor h.1)

clauses_match : (clauses : List Clause) (governor : GoalKind) → Claims (map clause clauses) → Matches (block (map points_in_clause clauses) governor) (flat_map nodes (map clause clauses))
clauses_match [] governor h = matches_none
clauses_match (c ∷ clauses) governor h =
    matches_join (points_in_clause c governor) (block (map points_in_clause clauses) governor) (nodes (clause c)) (flat_map nodes (map clause clauses)) (h.0 governor) (clauses_match clauses governor h.1)

maybe_matches : (body : Option (List Stmt)) (governor : GoalKind) → Claims (block_or_none statement body) → Matches (maybe_block (maybe_parts body) governor) (flat_map nodes (block_or_none statement body))
maybe_matches None governor h = matches_none
maybe_matches (Some body) governor h = block_matches body governor h

-- one list of parts after another
two_lists : (ps qs : List Point) (xs ys : List Node) → Matches ps (flat_map nodes xs) → Matches qs (flat_map nodes ys) → Matches (ps ++ qs) (flat_map nodes (xs ++ ys))
two_lists ps qs xs ys h k = subst (Matches (ps ++ qs)) (sym (flat_map-append nodes xs ys)) (matches_join ps qs (flat_map nodes xs) (flat_map nodes ys) h k)

-- ---- statements

-- what is in a statement, beside its own node
record Inside (node : NodeId) (ps : List Point) (ns : Nodes) : Type 0 where
  statements : begun ps ≡ stated ns
  decided : Part (decisions ps) (node.0 ∷ numbers ns)

inside : (node : NodeId) (ps : List Point) (ns : Nodes) → Matches ps ns → Inside node ps ns
inside node ps ns h = record { statements = h.statements; decided = inl h.decided }

target_silent : (t : Target) → Claims (target_parts expression t) → AllByRecursion Silent (target_parts expression t)
target_silent (target.Name name) h = tt
target_silent (target.Attr of name) h = (h.0, tt)
target_silent (target.Index of at) h = (h.0, (h.1.0, tt))

targets_silent : (ts : List Target) → Claims (flat_map (target_parts expression) ts) → AllByRecursion Silent (flat_map (target_parts expression) ts)
targets_silent [] h = tt
targets_silent (t ∷ ts) h =
    let front = target_parts expression t in let back = flat_map (target_parts expression) ts in
    all_join Silent front back (target_silent t (all_front Claim front back h)) (targets_silent ts (all_back Claim front back h))

try_matches : (body : List Stmt) (clauses : List Clause) (other last : Option (List Stmt)) (governor : GoalKind)
    → Claims (map statement body ++ map clause clauses ++ block_or_none statement other ++ block_or_none statement last)
    → Matches (block (map points body) governor ++ block (map points_in_clause clauses) governor ++ maybe_block (maybe_parts other) governor ++ maybe_block (maybe_parts last) governor)
    (flat_map nodes (map statement body ++ map clause clauses ++ block_or_none statement other ++ block_or_none statement last))
try_matches body clauses other last governor h =
    let b = map statement body in let c = map clause clauses in let o = block_or_none statement other in let l = block_or_none statement last in
    let b' = block (map points body) governor in let c' = block (map points_in_clause clauses) governor in
    let o' = maybe_block (maybe_parts other) governor in let l' = maybe_block (maybe_parts last) governor in
    let h3 = all_front Claim (b ++ c ++ o) l h in let h2 = all_front Claim (b ++ c) o h3 in
    two_lists (b' ++ c' ++ o') l' (b ++ c ++ o) l
    (two_lists (b' ++ c') o' (b ++ c) o
    (two_lists b' c' b c (block_matches body governor (all_front Claim b c h2)) (clauses_match clauses governor (all_back Claim b c h2)))
    (maybe_matches other governor (all_back Claim (b ++ c) o h3)))
    (maybe_matches last governor (all_back Claim (b ++ c ++ o) l h))

silent_inside : (node : NodeId) (xs : List Node) → AllByRecursion Silent xs → Inside node [] (flat_map nodes xs)
silent_inside node xs h = inside node [] (flat_map nodes xs) (silent_matches xs h)

-- ---- functions

abbrev pub tree_nodes : Function → Nodes
tree_nodes f = nodes (function f.tree)

-- ---- by the levels of nodes

module _ (level : NodesByLevel) where
  -- what holds of a node where it holds of its parts
  module _ (P : Node → Type 0) (step : (x : Node) → AllByRecursion P (parts x) → P x) where
    fewer : (x : Node) → length (nodes x) ≡ suc (length (flat_map nodes (parts x)))
    fewer x = ap length (level x)

    each_part : (n : ℕ) → ((x : Node) → length (nodes x) ≤ n → P x) → (xs : List Node) → length (flat_map nodes xs) ≤ n → AllByRecursion P xs
    each_part n h [] le = tt
    each_part n h (x ∷ xs) le =
        let whole = length-append (nodes x) (flat_map nodes xs) in
        (h x (omega (arith, whole, le)), each_part n h xs (omega (arith, whole, le)))

    within : (n : ℕ) (x : Node) → length (nodes x) ≤ n → P x
    within zero x le = let more = fewer x in absurd (omega (arith, more, le))
    within (suc n) x le = let more = fewer x in step x (each_part n (within n) (parts x) (omega (arith, more, le)))

    node_induction : (x : Node) → P x
    node_induction x = within (length (nodes x)) x (omega arith)

  -- a test, which is decided
  test_matches : (e : Expr) (line : ℕ) (governor : GoalKind) → Silent (expression e) → Matches (Decision e.node line governor ∷ []) (nodes (expression e))
  test_matches e line governor h = record {
    statements = sym h;
    decided = subst (λ ns. Part (e.node.0 ∷ []) (numbers ns)) (sym (level (expression e)))
        (part_take e.node.0 [] (numbers (flat_map nodes (parts (expression e)))) (part_none (numbers (flat_map nodes (parts (expression e))))));
  }

  expr_step : (e : Expr) → Claims (parts (expression e)) → Silent (expression e)
  expr_step e h = ap stated (level (expression e)) ∙ silent_all (parts (expression e)) (exprs_silent (expr_parts args_of (out-ExprKind e.kind)) h)

  arms_match : (all : List Arm) (other : Option (List Stmt)) (governor : GoalKind) → Claims (flat_map arm_nodes all ++ block_or_none statement other)
      → Matches (arms (map arm_parts all) (maybe_parts other) governor) (flat_map nodes (flat_map arm_nodes all ++ block_or_none statement other))
  arms_match [] other governor h = maybe_matches other governor h
  arms_match (arm ∷ more) other governor h =
      let node = arm.0.node in
      let body = map statement arm.1 in
      let rest = flat_map arm_nodes more ++ block_or_none statement other in
      let e : (arm_nodes arm ++ flat_map arm_nodes more) ++ block_or_none statement other ≡ arm_nodes arm ++ rest = append_assoc (arm_nodes arm) (flat_map arm_nodes more) (block_or_none statement other) in
      let held = subst Claims e h in
      subst (λ xs. Matches (arms (map arm_parts (arm ∷ more)) (maybe_parts other) governor) (flat_map nodes xs)) (sym e)
      (subst (λ ns. Matches (arms (map arm_parts (arm ∷ more)) (maybe_parts other) governor) (nodes (expression arm.0) ++ ns)) (sym (flat_map-append nodes body rest))
      (matches_join (Decision node arm.0.line governor ∷ []) (block (map points arm.1) (Branch node true) ++ arms (map arm_parts more) (maybe_parts other) (Branch node false))
      (nodes (expression arm.0)) (flat_map nodes body ++ flat_map nodes rest) (test_matches arm.0 arm.0.line governor held.0)
      (matches_join (block (map points arm.1) (Branch node true)) (arms (map arm_parts more) (maybe_parts other) (Branch node false)) (flat_map nodes body) (flat_map nodes rest)
      (block_matches arm.1 (Branch node true) (all_front Claim body rest held.1)) (arms_match more other (Branch node false) (all_back Claim body rest held.1)))))

  kind_step : (node : NodeId) (line : ℕ) (governor : GoalKind) (kind : StmtKind-F StmtKind Clause Stmt) → Claims (stmt_parts expression statement clause kind)
      → Inside node (points_by (parts_of_kind kind) node line governor) (flat_map nodes (stmt_parts expression statement clause kind))
  kind_step node line governor StmtKind-F.Pass h = silent_inside node [] tt
  kind_step node line governor StmtKind-F.Break h = silent_inside node [] tt
  kind_step node line governor StmtKind-F.Continue h = silent_inside node [] tt
  kind_step node line governor (StmtKind-F.Return e) h = silent_inside node (map expression (option_to_list e)) (exprs_silent (option_to_list e) h)
  kind_step node line governor (StmtKind-F.Raise e) h = silent_inside node (map expression (option_to_list e)) (exprs_silent (option_to_list e) h)
  kind_step node line governor (StmtKind-F.Assert test message) h = inside node _ _
      (matches_join (Decision test.node test.line governor ∷ []) [] (nodes (expression test)) (flat_map nodes (map expression (option_to_list message)))
      (test_matches test test.line governor h.0) (silent_matches (map expression (option_to_list message)) (exprs_silent (option_to_list message) h.1)))
  kind_step node line governor (StmtKind-F.Del of at) h = silent_inside node (expression of ∷ expression at ∷ []) (h.0, (h.1.0, tt))
  kind_step node line governor (StmtKind-F.Assign targets is_tuple annotation e) h =
      let front = flat_map (target_parts expression) targets in let back = expression e ∷ [] in
      silent_inside node (front ++ back) (all_join Silent front back (targets_silent targets (all_front Claim front back h)) (exprs_silent (e ∷ []) (all_back Claim front back h)))
  kind_step node line governor (StmtKind-F.Augment target op e) h =
      let front = target_parts expression target in let back = expression e ∷ [] in
      silent_inside node (front ++ back) (all_join Silent front back (target_silent target (all_front Claim front back h)) (exprs_silent (e ∷ []) (all_back Claim front back h)))
  kind_step node line governor (StmtKind-F.Bare e) h = silent_inside node (expression e ∷ []) (h.0, tt)
  kind_step node line governor (StmtKind-F.If all None) h = inside node _ _ (arms_match all None governor h)
  kind_step node line governor (StmtKind-F.If all (Some other)) h = inside node _ _ (arms_match all (Some other) governor h)
  kind_step node line governor (StmtKind-F.While test body) h = inside node _ _
      (matches_join (Decision test.node test.line governor ∷ []) (block (map points body) (Branch test.node true)) (nodes (expression test)) (flat_map nodes (map statement body))
      (test_matches test test.line governor h.0) (block_matches body (Branch test.node true) h.1))
  kind_step node line governor (StmtKind-F.For names is_tuple e body) h =
      let inner = matches_join [] (block (map points body) (Branch node true)) (nodes (expression e)) (flat_map nodes (map statement body)) (one_silent e h.0) (block_matches body (Branch node true) h.1) in
      record { statements = inner.statements; decided = part_take node.0 _ _ inner.decided }
  kind_step node line governor (StmtKind-F.Try body clauses None None) h = inside node _ _ (try_matches body clauses None None governor h)
  kind_step node line governor (StmtKind-F.Try body clauses None (Some last)) h = inside node _ _ (try_matches body clauses None (Some last) governor h)
  kind_step node line governor (StmtKind-F.Try body clauses (Some other) None) h = inside node _ _ (try_matches body clauses (Some other) None governor h)
  kind_step node line governor (StmtKind-F.Try body clauses (Some other) (Some last)) h = inside node _ _ (try_matches body clauses (Some other) (Some last) governor h)

  stmt_step : (s : Stmt) → Claims (parts (statement s)) → (governor : GoalKind) → Matches (points s governor) (nodes (statement s))
  stmt_step s h governor =
      let inner = kind_step s.node s.line governor (out-StmtKind s.kind) h in
      let e = by_statement s governor ∙ ap (λ ps. Statement s.node s.line governor ∷ ps) (by_kind s.kind s.node s.line governor) in
      subst (λ ps. Matches ps (nodes (statement s))) (sym e)
      (subst (Matches (Statement s.node s.line governor ∷ points_by (parts_of_kind (out-StmtKind s.kind)) s.node s.line governor)) (sym (level (statement s)))
      (record { statements = ap (λ ks. s.node.0 ∷ ks) inner.statements; decided = inner.decided }))

  clause_step : (c : Clause) → Claims (parts (clause c)) → (governor : GoalKind) → Matches (points_in_clause c governor) (nodes (clause c))
  clause_step c h governor =
      let o = out-Clause c in
      let inner = block_matches o.body (Branch o.node true) h in
      subst (λ ps. Matches ps (nodes (clause c))) (sym (by_clause c governor))
      (subst (Matches (Decision o.node o.line governor ∷ block (map points o.body) (Branch o.node true))) (sym (level (clause c)))
      (record { statements = inner.statements; decided = part_take o.node.0 _ _ inner.decided }))

  step : (x : Node) → Claims (parts x) → Claim x
  step (function f) h = tt
  step (statement s) h = stmt_step s h
  step (clause c) h = clause_step c h
  step (expression e) h = expr_step e h

  every : (x : Node) → Claim x
  every x = node_induction Claim step x

  bodies_claim : (body : List Stmt) → Claims (map statement body)
  bodies_claim body = all_always Claim every (map statement body)

  function_matches : (id : FuncId) (f : Function) → Matches (body_points id f.tree) (tree_nodes f)
  function_matches id f =
      let inner = block_matches f.tree.body (Entry id) (bodies_claim f.tree.body) in
      let e = flat_map-map nodes statement f.tree.body in
      let held = subst (Matches (body_points id f.tree)) e inner in
      record { statements = held.statements; decided = inl held.decided }

  pub functions_match : (k : ℕ) (fs : List Function) → Matches (points_of_functions k fs) (flat_map tree_nodes fs)
  functions_match k [] = matches_none
  functions_match k (f ∷ fs) =
      matches_join (body_points (record { 0 = k }) f.tree) (points_of_functions (k + 1) fs) (tree_nodes f) (flat_map tree_nodes fs) (function_matches (record { 0 = k }) f) (functions_match (k + 1) fs)
