-- The nodes of a statement that is numbered have the numbers from the first on, one after another.
use Rattle.std.proofs.Common.{◌≡◌, ◌∙◌, refl, sym, ap, ap₂, subst, ℕ, suc, Bool, true, List, Option, Some, None, [], ◌∷◌, ◌++◌, map, append-nil, append_assoc}
use Rattle.std.specs.List.{flat_map, AllByRecursion}
use Rattle.std.specs.Option.{option_map, option_to_list}
use Rattle.std.proofs.lemmas.List.{map-append}
use Rattle.std.proofs.lemmas.List.Folds.{flat_map-map}
use Rattle.std.proofs.lemmas.Grind.{flat_map-append}
use Rattle.py_syntax.specs.declared.expr.Args.{Args}
use Rattle.py_syntax.specs.declared.expr.Expr.{Expr, ind-Expr, roll-Expr}
use Rattle.py_syntax.specs.declared.expr.ExprKind.{ExprKind, roll-ExprKind}
use Rattle.py_syntax.specs.declared.expr.Args.{roll-Args}
use Rattle.py_syntax.specs.declared.stmt.Clause.{Clause, Clause-F, roll-Clause, out-roll-Clause, fold-roll-Clause, map-Clause}
use Rattle.py_syntax.specs.declared.stmt.Stmt.{Stmt, Stmt-F, fold-roll-Stmt, ind-Stmt, map-Stmt, roll-Stmt}
use Rattle.py_syntax.specs.declared.stmt.StmtKind.{StmtKind, StmtKind-F, out-StmtKind, roll-StmtKind, fold-roll-StmtKind, map-StmtKind}
use Rattle.py_syntax.specs.declared.stmt.StmtKind.TheVariants as s
use Rattle.py_syntax.specs.declared.stmt.StmtKind.TheVariants.{outs-Pass, outs-Break, outs-Continue, outs-Return, outs-Raise, outs-Assert, outs-Del, outs-Assign, outs-Augment, outs-Bare, outs-If, outs-While, outs-For, outs-Try}
use Rattle.py_syntax.specs.declared.stmt.Target.{Target}
use Rattle.py_syntax.specs.declared.stmt.Target.TheVariants as target
use Rattle.py_language.specs.TreesNumbers.{Numbered, in_order as each}
use Rattle.py_nodes.specs.Expressions.{OnLine, Part, expr, maybe, part_of, parts_of, args_of as numbers_of_args}
use Rattle.py_nodes.specs.Numbers.{Block, target_numbered, maybe_expr, arm_by, maybe_block, kind_by, clause_by, stmt_by, stmt, clause as clause_numbers, kind}
use Rattle.py_sites.specs.Nodes.{Node, Nodes, nodes, number, expr_nodes, stmt_nodes, clause_nodes, stmt_parts, target_parts, block_or_none, statement, clause, expression}
use Rattle.py_sites.proofs.StmtLevels.{node_level}
use Rattle.py_sites.proofs.Spans.{Spans, spans_none, spans_join, spans_one, spans_node, Follows, each_follows, Good}
use Rattle.py_sites.proofs.SpansExpr.{GoodKind, GoodArgs, GoodPart, kind_step, args_step, expr_step}

-- every expression
expr_good : (x : Expr) → GoodPart (part_of true x)
expr_good = ind-Expr (λ k. GoodKind (parts_of true k)) (λ g. GoodArgs (numbers_of_args true g)) (λ x. GoodPart (part_of true x))
    (λ x y is. subst (λ z. GoodKind (parts_of true (roll-ExprKind z))) is (kind_step (λ e. e.0) (λ e. e.0) (λ e. e.0) (λ e. e.1) (λ e. e.1) (λ e. e.1) y))
    (λ x y is. subst (λ z. GoodArgs (numbers_of_args true (roll-Args z))) is (args_step (λ e. e.0) (λ e. e.0) (λ e. e.0) (λ e. e.1) (λ e. e.1) (λ e. e.1) y))
    (λ x y is. subst (λ z. GoodPart (part_of true (roll-Expr z))) is (expr_step (λ e. e.0) (λ e. e.0) (λ e. e.0) (λ e. e.1) (λ e. e.1) (λ e. e.1) y))

-- an expression on its own line
own_line : (x : Expr) → Follows expr_nodes (expr true x)
own_line x = (expr_good x x.line).follows

-- ---- lists of parts

maybe_list : Option Expr → Nodes
maybe_list x = flat_map nodes (map expression (option_to_list x))

maybe_follows : (x : Option Expr) → Follows (λ x. flat_map nodes (map expression (option_to_list x))) (maybe_expr true x)
maybe_follows None n = spans_none n
maybe_follows (Some x) n = spans_one (own_line x n)

abbrev target_list : Target → Nodes
target_list t = flat_map nodes (target_parts expression t)

target_follows : (t : Target) → Follows target_list (target_numbered true t)
target_follows (target.Name name) n = spans_none n
target_follows (target.Attr x name) n = spans_one (own_line x n)
target_follows (target.Index x i) n = spans_join (own_line x n) (spans_one (own_line i (expr true x n).1))

all_targets : (ts : List Target) → AllByRecursion (Follows target_list) (map (target_numbered true) ts)
all_targets [] = tt
all_targets (t ∷ ts) = (target_follows t, all_targets ts)

flat_twice : {X : Type 0} (f : X → List Node) (xs : List X) → flat_map (λ x. flat_map nodes (f x)) xs ≡ flat_map nodes (flat_map f xs)
flat_twice f [] = refl
flat_twice f (x ∷ xs) = ap (λ ys. flat_map nodes (f x) ++ ys) (flat_twice f xs) ∙ sym (flat_map-append nodes (f x) (flat_map f xs))

targets_follow : (ts : List Target) (n : ℕ) → (let r = each (map (target_numbered true) ts) n in Spans (flat_map nodes (flat_map (target_parts expression) r.0)) n r.1)
targets_follow ts n =
    let r = each (map (target_numbered true) ts) n in
    subst (λ xs. Spans xs n r.1) (flat_twice (target_parts expression) r.0) (each_follows target_list (map (target_numbered true) ts) (all_targets ts) n)

-- ---- blocks

abbrev block_list : List Stmt → Nodes
block_list body = flat_map nodes (map statement body)

block_follows : (ps : Block) → AllByRecursion (Follows stmt_nodes) ps → Follows block_list (each ps)
block_follows ps a n = let r = each ps n in subst (λ xs. Spans xs n r.1) (sym (flat_map-map nodes statement r.0)) (each_follows stmt_nodes ps a n)

clauses_follow : (ps : List (Numbered Clause)) → AllByRecursion (Follows clause_nodes) ps → (n : ℕ) → (let r = each ps n in Spans (flat_map nodes (map clause r.0)) n r.1)
clauses_follow ps a n = let r = each ps n in subst (λ xs. Spans xs n r.1) (sym (flat_map-map nodes clause r.0)) (each_follows clause_nodes ps a n)

abbrev arm_list : Expr × List Stmt → Nodes
arm_list arm = flat_map nodes (expression arm.0 ∷ map statement arm.1)

abbrev GoodArm : Expr × Block → Type 0
GoodArm arm = AllByRecursion (Follows stmt_nodes) arm.1

arm_follows : (arm : Expr × Block) → GoodArm arm → Follows arm_list (arm_by true arm)
arm_follows arm a n = spans_join (own_line arm.0 n) (block_follows arm.1 a (expr true arm.0 n).1)

all_arms : (arms : List (Expr × Block)) → AllByRecursion GoodArm arms → AllByRecursion (Follows arm_list) (map (arm_by true) arms)
all_arms [] a = tt
all_arms (arm ∷ arms) a = (arm_follows arm a.0, all_arms arms a.1)

arms_follow : (arms : List (Expr × Block)) → AllByRecursion GoodArm arms → (n : ℕ) → (let r = each (map (arm_by true) arms) n in Spans (flat_map nodes (flat_map (λ arm. expression arm.0 ∷ map statement arm.1) r.0)) n r.1)
arms_follow arms a n =
    let r = each (map (arm_by true) arms) n in
    subst (λ xs. Spans xs n r.1) (flat_twice (λ (arm : Expr × List Stmt). expression arm.0 ∷ map statement arm.1) r.0) (each_follows arm_list (map (arm_by true) arms) (all_arms arms a) n)

-- one list of nodes after another
after : (xs ys : List Node) {a b c : ℕ} → Spans (flat_map nodes xs) a b → Spans (flat_map nodes ys) b c → Spans (flat_map nodes (xs ++ ys)) a c
after xs ys {a} {b} {c} s t = subst (λ zs. Spans zs a c) (sym (flat_map-append nodes xs ys)) (spans_join s t)

abbrev kind_list : StmtKind → Nodes
kind_list k = flat_map nodes (stmt_parts expression statement clause (out-StmtKind k))

is_kind : (k : StmtKind) (f : StmtKind-F StmtKind Clause Stmt) {n m : ℕ} → out-StmtKind k ≡ f → Spans (flat_map nodes (stmt_parts expression statement clause f)) n m → Spans (kind_list k) n m
is_kind k f {n} {m} is t = subst (λ g. Spans (flat_map nodes (stmt_parts expression statement clause g)) n m) (sym is) t

clause_good : (c : Clause-F StmtKind Clause Stmt) (n m : ℕ) → c.node.0 ≡ n → Spans (block_list c.body) (suc n) m → Spans (clause_nodes (roll-Clause c)) n m
clause_good c n m e t =
    let first = ap (λ (o : Clause-F StmtKind Clause Stmt). o.node.0) (out-roll-Clause c) ∙ e in
    subst (λ xs. Spans xs n m) (sym (node_level (clause (roll-Clause c))))
    (spans_node (clause (roll-Clause c)) n first (subst (λ (o : Clause-F StmtKind Clause Stmt). Spans (block_list o.body) (suc n) m) (sym (out-roll-Clause c)) t))

stmt_good : (x : Stmt) (n m : ℕ) → x.node.0 ≡ n → Spans (kind_list x.kind) (suc n) m → Spans (stmt_nodes x) n m
stmt_good x n m e t = subst (λ xs. Spans xs n m) (sym (node_level (statement x))) (spans_node (statement x) n e t)

module _ {SK SC SS : Type 0} (vk : SK → StmtKind) (vc : SC → Clause) (vs : SS → Stmt) (hk : (x : SK) → Follows kind_list (kind true (vk x))) (hc : (x : SC) → Follows clause_nodes (clause_numbers true (vc x))) (hs : (x : SS) → Follows stmt_nodes (stmt true (vs x))) where
  abbrev pub under : StmtKind-F SK SC SS → StmtKind-F StmtKind Clause Stmt
  under = map-StmtKind SK SC SS StmtKind Clause Stmt vk vc vs

  abbrev over : StmtKind-F StmtKind Clause Stmt → StmtKind-F (Numbered StmtKind) (Numbered Clause) (Numbered Stmt)
  over = map-StmtKind StmtKind Clause Stmt (Numbered StmtKind) (Numbered Clause) (Numbered Stmt) (kind true) (clause_numbers true) (stmt true)

  abbrev body_of : List SS → Block
  body_of body = map (stmt true) (map vs body)

  all_stmts : (body : List SS) → AllByRecursion (Follows stmt_nodes) (body_of body)
  all_stmts [] = tt
  all_stmts (x ∷ body) = (hs x, all_stmts body)

  abbrev clauses_of : List SC → List (Numbered Clause)
  clauses_of cs = map (clause_numbers true) (map vc cs)

  all_clauses : (cs : List SC) → AllByRecursion (Follows clause_nodes) (clauses_of cs)
  all_clauses [] = tt
  all_clauses (c ∷ cs) = (hc c, all_clauses cs)

  abbrev arms_of : List (Expr × List SS) → List (Expr × Block)
  arms_of arms = map (λ (arm : Expr × List Stmt). let made : Expr × Block = (arm.0, map (stmt true) arm.1) in made) (map (λ (arm : Expr × List SS). let made : Expr × List Stmt = (arm.0, map vs arm.1) in made) arms)

  all_arms_good : (arms : List (Expr × List SS)) → AllByRecursion GoodArm (arms_of arms)
  all_arms_good [] = tt
  all_arms_good (arm ∷ arms) = (all_stmts arm.1, all_arms_good arms)

  body_follows : (body : List SS) → Follows block_list (each (body_of body))
  body_follows body = block_follows (body_of body) (all_stmts body)

  handled_follows : (body : List SS) (cs : List SC) (n : ℕ) → (let b = each (body_of body) n in let c = each (clauses_of cs) b.1 in Spans (flat_map nodes (map statement b.0 ++ map clause c.0)) n c.1)
  handled_follows body cs n =
      let b = each (body_of body) n in
      let c = each (clauses_of cs) b.1 in
      after (map statement b.0) (map clause c.0) (body_follows body n) (clauses_follow (clauses_of cs) (all_clauses cs) b.1)

  kind_good : (y : StmtKind-F SK SC SS) → Follows kind_list (kind_by true (over (under y)))
  kind_good StmtKind-F.Pass n = is_kind s.Pass StmtKind-F.Pass outs-Pass (spans_none n)
  kind_good StmtKind-F.Break n = is_kind s.Break StmtKind-F.Break outs-Break (spans_none n)
  kind_good StmtKind-F.Continue n = is_kind s.Continue StmtKind-F.Continue outs-Continue (spans_none n)
  kind_good (StmtKind-F.Return x) n = let r = maybe_expr true x n in is_kind (s.Return r.0) (StmtKind-F.Return r.0) (outs-Return r.0) (maybe_follows x n)
  kind_good (StmtKind-F.Raise x) n = let r = maybe_expr true x n in is_kind (s.Raise r.0) (StmtKind-F.Raise r.0) (outs-Raise r.0) (maybe_follows x n)
  kind_good (StmtKind-F.Assert x m) n =
      let r = expr true x n in
      let t = maybe_expr true m r.1 in
      is_kind (s.Assert r.0 t.0) (StmtKind-F.Assert r.0 t.0) (outs-Assert r.0 t.0) (spans_join (own_line x n) (maybe_follows m r.1))
  kind_good (StmtKind-F.Del x i) n =
      let r = expr true x n in
      let t = expr true i r.1 in
      is_kind (s.Del r.0 t.0) (StmtKind-F.Del r.0 t.0) (outs-Del r.0 t.0) (spans_join (own_line x n) (spans_one (own_line i r.1)))
  kind_good (StmtKind-F.Assign ts is_tuple annotation x) n =
      let r = each (map (target_numbered true) ts) n in
      let t = expr true x r.1 in
      is_kind (s.Assign r.0 is_tuple annotation t.0) (StmtKind-F.Assign r.0 is_tuple annotation t.0) (outs-Assign r.0 is_tuple annotation t.0)
      (after (flat_map (target_parts expression) r.0) (expression t.0 ∷ []) (targets_follow ts n) (spans_one (own_line x r.1)))
  kind_good (StmtKind-F.Augment u op x) n =
      let r = target_numbered true u n in
      let t = expr true x r.1 in
      is_kind (s.Augment r.0 op t.0) (StmtKind-F.Augment r.0 op t.0) (outs-Augment r.0 op t.0)
      (after (target_parts expression r.0) (expression t.0 ∷ []) (target_follows u n) (spans_one (own_line x r.1)))
  kind_good (StmtKind-F.Bare x) n = let r = expr true x n in is_kind (s.Bare r.0) (StmtKind-F.Bare r.0) (outs-Bare r.0) (spans_one (own_line x n))
  kind_good (StmtKind-F.If arms None) n =
      let r = each (map (arm_by true) (arms_of arms)) n in
      is_kind (s.If r.0 None) (StmtKind-F.If r.0 None) (outs-If r.0 None)
      (after (flat_map (λ arm. expression arm.0 ∷ map statement arm.1) r.0) [] (arms_follow (arms_of arms) (all_arms_good arms) n) (spans_none r.1))
  kind_good (StmtKind-F.If arms (Some body)) n =
      let r = each (map (arm_by true) (arms_of arms)) n in
      let t = each (body_of body) r.1 in
      is_kind (s.If r.0 (Some t.0)) (StmtKind-F.If r.0 (Some t.0)) (outs-If r.0 (Some t.0))
      (after (flat_map (λ arm. expression arm.0 ∷ map statement arm.1) r.0) (map statement t.0) (arms_follow (arms_of arms) (all_arms_good arms) n) (body_follows body r.1))
  kind_good (StmtKind-F.While x body) n =
      let r = expr true x n in
      let t = each (body_of body) r.1 in
      is_kind (s.While r.0 t.0) (StmtKind-F.While r.0 t.0) (outs-While r.0 t.0) (spans_join (own_line x n) (body_follows body r.1))
  kind_good (StmtKind-F.For names is_tuple x body) n =
      let r = expr true x n in
      let t = each (body_of body) r.1 in
      is_kind (s.For names is_tuple r.0 t.0) (StmtKind-F.For names is_tuple r.0 t.0) (outs-For names is_tuple r.0 t.0) (spans_join (own_line x n) (body_follows body r.1))
  kind_good (StmtKind-F.Try body cs None None) n =
      let b = each (body_of body) n in
      let c = each (clauses_of cs) b.1 in
      let front = map statement b.0 ++ map clause c.0 in
      is_kind (s.Try b.0 c.0 None None) (StmtKind-F.Try b.0 c.0 None None) (outs-Try b.0 c.0 None None)
      (after (front ++ []) [] (after front [] (handled_follows body cs n) (spans_none c.1)) (spans_none c.1))
  kind_good (StmtKind-F.Try body cs None (Some last)) n =
      let b = each (body_of body) n in
      let c = each (clauses_of cs) b.1 in
      let l = each (body_of last) c.1 in
      let front = map statement b.0 ++ map clause c.0 in
      is_kind (s.Try b.0 c.0 None (Some l.0)) (StmtKind-F.Try b.0 c.0 None (Some l.0)) (outs-Try b.0 c.0 None (Some l.0))
      (after (front ++ []) (map statement l.0) (after front [] (handled_follows body cs n) (spans_none c.1)) (body_follows last c.1))
  kind_good (StmtKind-F.Try body cs (Some other) None) n =
      let b = each (body_of body) n in
      let c = each (clauses_of cs) b.1 in
      let o = each (body_of other) c.1 in
      let front = map statement b.0 ++ map clause c.0 in
      is_kind (s.Try b.0 c.0 (Some o.0) None) (StmtKind-F.Try b.0 c.0 (Some o.0) None) (outs-Try b.0 c.0 (Some o.0) None)
      (after (front ++ map statement o.0) [] (after front (map statement o.0) (handled_follows body cs n) (body_follows other c.1)) (spans_none o.1))
  kind_good (StmtKind-F.Try body cs (Some other) (Some last)) n =
      let b = each (body_of body) n in
      let c = each (clauses_of cs) b.1 in
      let o = each (body_of other) c.1 in
      let l = each (body_of last) o.1 in
      let front = map statement b.0 ++ map clause c.0 in
      is_kind (s.Try b.0 c.0 (Some o.0) (Some l.0)) (StmtKind-F.Try b.0 c.0 (Some o.0) (Some l.0)) (outs-Try b.0 c.0 (Some o.0) (Some l.0))
      (after (front ++ map statement o.0) (map statement l.0) (after front (map statement o.0) (handled_follows body cs n) (body_follows other c.1)) (body_follows last o.1))

  stmt_kind_step : (y : StmtKind-F SK SC SS) → Follows kind_list (kind true (roll-StmtKind (under y)))
  unfolding kind clause_numbers stmt
  stmt_kind_step y = subst (Follows kind_list) (sym (fold-roll-StmtKind (Numbered StmtKind) (Numbered Clause) (Numbered Stmt) (kind_by true) (clause_by true) (stmt_by true) (under y))) (kind_good y)

  clause_step : (y : Clause-F SK SC SS) → Follows clause_nodes (clause_numbers true (roll-Clause (map-Clause SK SC SS StmtKind Clause Stmt vk vc vs y)))
  unfolding kind clause_numbers stmt
  clause_step y =
      subst (Follows clause_nodes) (sym (fold-roll-Clause (Numbered StmtKind) (Numbered Clause) (Numbered Stmt) (kind_by true) (clause_by true) (stmt_by true) (map-Clause SK SC SS StmtKind Clause Stmt vk vc vs y)))
      (λ n. let r = each (body_of y.body) (suc n) in
      clause_good (record { node = record { 0 = n }; line = y.line; classes = y.classes; name = y.name; body = r.0 }) n r.1 refl (body_follows y.body (suc n)))

  stmt_step : (y : Stmt-F SK SC SS) → Follows stmt_nodes (stmt true (roll-Stmt (map-Stmt SK SC SS StmtKind Clause Stmt vk vc vs y)))
  unfolding kind clause_numbers stmt
  stmt_step y =
      subst (Follows stmt_nodes) (sym (fold-roll-Stmt (Numbered StmtKind) (Numbered Clause) (Numbered Stmt) (kind_by true) (clause_by true) (stmt_by true) (map-Stmt SK SC SS StmtKind Clause Stmt vk vc vs y)))
      (λ n. let r = kind true (vk y.kind) (suc n) in
      stmt_good (record { node = record { 0 = n }; line = y.line; kind = r.0 }) n r.1 refl (hk y.kind (suc n)))

-- every statement
pub stmt_follows : (x : Stmt) → Follows stmt_nodes (stmt true x)
stmt_follows = ind-Stmt (λ k. Follows kind_list (kind true k)) (λ c. Follows clause_nodes (clause_numbers true c)) (λ x. Follows stmt_nodes (stmt true x))
    (λ x y is. subst (λ z. Follows kind_list (kind true (roll-StmtKind z))) is (stmt_kind_step (λ e. e.0) (λ e. e.0) (λ e. e.0) (λ e. e.1) (λ e. e.1) (λ e. e.1) y))
    (λ x y is. subst (λ z. Follows clause_nodes (clause_numbers true (roll-Clause z))) is (clause_step (λ e. e.0) (λ e. e.0) (λ e. e.0) (λ e. e.1) (λ e. e.1) (λ e. e.1) y))
    (λ x y is. subst (λ z. Follows stmt_nodes (stmt true (roll-Stmt z))) is (stmt_step (λ e. e.0) (λ e. e.0) (λ e. e.0) (λ e. e.1) (λ e. e.1) (λ e. e.1) y))
