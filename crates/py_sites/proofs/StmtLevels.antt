-- A statement, a clause, a function and their parts: the nodes in one are itself and then those in its parts.
use Rattle.std.proofs.Common.{◌≡◌, ◌∙◌, refl, sym, ap, ap₂, List, Option, Some, None, [], ◌∷◌, ◌++◌, map}
use Rattle.std.specs.List.{flat_map}
use Rattle.std.specs.Option.{option_to_list}
use Rattle.std.proofs.lemmas.List.{map-append}
use Rattle.std.proofs.lemmas.List.Folds.{flat_map-map}
use Rattle.py_syntax.specs.declared.expr.Expr.{Expr}
use Rattle.py_syntax.specs.declared.expr.ExprKind.{out-ExprKind}
use Rattle.py_syntax.specs.declared.module.Func.{Func}
use Rattle.py_syntax.specs.declared.stmt.Clause.{Clause, out-Clause, para-Clause, para-roll-Clause, roll-out-Clause, roll-Clause}
use Rattle.py_syntax.specs.declared.stmt.Stmt.{Stmt, para-Stmt, para-roll-Stmt}
use Rattle.py_syntax.specs.declared.stmt.StmtKind.{StmtKind, StmtKind-F, out-StmtKind, para-StmtKind, para-roll-StmtKind, roll-out-StmtKind, map-StmtKind}
use Rattle.py_syntax.specs.declared.stmt.Target.{Target}
use Rattle.py_syntax.specs.declared.stmt.Target.TheVariants as target
use Rattle.py_sites.specs.Nodes.{Node, Nodes, joined, stmt_kind_nodes, one_clause, one_stmt, expr_nodes, stmt_nodes, clause_nodes, nodes, parts, stmt_parts, target_parts, block_or_none, expr_parts, args_of, function, statement, clause, expression}
use Rattle.py_sites.proofs.Levels.{with, expr_level}

abbrev K : StmtKind → Nodes
K = para-StmtKind Nodes Nodes Nodes stmt_kind_nodes one_clause one_stmt

abbrev with_parts : StmtKind-F StmtKind Clause Stmt → StmtKind-F (StmtKind × Nodes) (Clause × Nodes) (Stmt × Nodes)
with_parts = map-StmtKind StmtKind Clause Stmt (StmtKind × Nodes) (Clause × Nodes) (Stmt × Nodes) (λ y. (y, K y)) (with clause_nodes) (with stmt_nodes)

block_is : (body : List Stmt) → map (λ s. s.1) (map (with stmt_nodes) body) ≡ map nodes (map statement body)
block_is [] = refl
block_is (s ∷ body) = ap (λ ys. stmt_nodes s ∷ ys) (block_is body)

clauses_are : (clauses : List Clause) → map (λ c. c.1) (map (with clause_nodes) clauses) ≡ map nodes (map clause clauses)
clauses_are [] = refl
clauses_are (c ∷ clauses) = ap (λ ys. clause_nodes c ∷ ys) (clauses_are clauses)

targets_are : (ts : List Target) → flat_map (target_parts expr_nodes) ts ≡ map nodes (flat_map (target_parts expression) ts)
targets_are [] = refl
targets_are (target.Name name ∷ ts) = targets_are ts
targets_are (target.Attr x name ∷ ts) = ap (λ ys. expr_nodes x ∷ ys) (targets_are ts)
targets_are (target.Index x i ∷ ts) = ap (λ ys. expr_nodes x ∷ expr_nodes i ∷ ys) (targets_are ts)

abbrev Arm : Type 0
Arm = Expr × List Stmt

abbrev arm_with : Arm → Expr × List (Stmt × Nodes)
arm_with arm = (arm.0, map (with stmt_nodes) arm.1)

arms_are : (arms : List Arm) → flat_map (λ arm. expr_nodes arm.0 ∷ map (λ s. s.1) arm.1) (map (λ (arm : Arm). let made : Expr × List (Stmt × Nodes) = (arm.0, map (with stmt_nodes) arm.1) in made) arms) ≡ map nodes (flat_map (λ arm. expression arm.0 ∷ map statement arm.1) arms)
arms_are [] = refl
arms_are (arm ∷ arms) =
    ap₂ (λ b ys. (expr_nodes arm.0 ∷ b) ++ ys) (block_is arm.1) (arms_are arms)
    ∙ sym (map-append nodes (expression arm.0 ∷ map statement arm.1) (flat_map (λ arm. expression arm.0 ∷ map statement arm.1) arms))

-- one after another
both : (front back : List Nodes) (xs ys : List Node) → front ≡ map nodes xs → back ≡ map nodes ys → front ++ back ≡ map nodes (xs ++ ys)
both front back xs ys e f = ap₂ (λ a b. a ++ b) e f ∙ sym (map-append nodes xs ys)

some_block : (body : List Stmt) → block_or_none (λ (s : Stmt × Nodes). s.1) (Some (map (with stmt_nodes) body)) ≡ map nodes (block_or_none statement (Some body))
some_block body = block_is body

front_of_try : (body : List Stmt) (clauses : List Clause) → map (λ s. s.1) (map (with stmt_nodes) body) ++ map (λ c. c.1) (map (with clause_nodes) clauses) ≡ map nodes (map statement body ++ map clause clauses)
front_of_try body clauses = both _ _ (map statement body) (map clause clauses) (block_is body) (clauses_are clauses)

kind_is : (k : StmtKind-F StmtKind Clause Stmt) → stmt_parts expr_nodes (λ s. s.1) (λ c. c.1) (with_parts k) ≡ map nodes (stmt_parts expression statement clause k)
kind_is StmtKind-F.Pass = refl
kind_is StmtKind-F.Break = refl
kind_is StmtKind-F.Continue = refl
kind_is (StmtKind-F.Return None) = refl
kind_is (StmtKind-F.Return (Some x)) = refl
kind_is (StmtKind-F.Raise None) = refl
kind_is (StmtKind-F.Raise (Some x)) = refl
kind_is (StmtKind-F.Assert x None) = refl
kind_is (StmtKind-F.Assert x (Some m)) = refl
kind_is (StmtKind-F.Del x i) = refl
kind_is (StmtKind-F.Assign ts is_tuple annotation x) = both _ _ (flat_map (target_parts expression) ts) (expression x ∷ []) (targets_are ts) refl
kind_is (StmtKind-F.Augment (target.Name name) op x) = refl
kind_is (StmtKind-F.Augment (target.Attr y name) op x) = refl
kind_is (StmtKind-F.Augment (target.Index y i) op x) = refl
kind_is (StmtKind-F.Bare x) = refl
kind_is (StmtKind-F.If arms None) = both _ _ (flat_map (λ arm. expression arm.0 ∷ map statement arm.1) arms) [] (arms_are arms) refl
kind_is (StmtKind-F.If arms (Some body)) = both _ _ (flat_map (λ arm. expression arm.0 ∷ map statement arm.1) arms) (map statement body) (arms_are arms) (block_is body)
kind_is (StmtKind-F.While x body) = ap (λ ys. expr_nodes x ∷ ys) (block_is body)
kind_is (StmtKind-F.For names is_tuple x body) = ap (λ ys. expr_nodes x ∷ ys) (block_is body)
kind_is (StmtKind-F.Try body clauses None None) = both _ _ ((map statement body ++ map clause clauses) ++ []) [] (both _ _ (map statement body ++ map clause clauses) [] (front_of_try body clauses) refl) refl
kind_is (StmtKind-F.Try body clauses None (Some last)) = both _ _ ((map statement body ++ map clause clauses) ++ []) (map statement last) (both _ _ (map statement body ++ map clause clauses) [] (front_of_try body clauses) refl) (block_is last)
kind_is (StmtKind-F.Try body clauses (Some other) None) = both _ _ ((map statement body ++ map clause clauses) ++ map statement other) [] (both _ _ (map statement body ++ map clause clauses) (map statement other) (front_of_try body clauses) (block_is other)) refl
kind_is (StmtKind-F.Try body clauses (Some other) (Some last)) = both _ _ ((map statement body ++ map clause clauses) ++ map statement other) (map statement last) (both _ _ (map statement body ++ map clause clauses) (map statement other) (front_of_try body clauses) (block_is other)) (block_is last)

joined_map : (xs : List Node) → joined (map nodes xs) ≡ flat_map nodes xs
joined_map xs = flat_map-map (λ (ys : Nodes). ys) nodes xs

stmt_level : (s : Stmt) → stmt_nodes s ≡ statement s ∷ flat_map nodes (stmt_parts expression statement clause (out-StmtKind s.kind))
unfolding stmt_nodes clause_nodes
stmt_level s =
    para-roll-Stmt Nodes Nodes Nodes stmt_kind_nodes one_clause one_stmt (record { node = s.node; line = s.line; kind = s.kind })
    ∙ ap (λ ys. statement s ∷ ys)
    (ap K (sym (roll-out-StmtKind s.kind))
    ∙ para-roll-StmtKind Nodes Nodes Nodes stmt_kind_nodes one_clause one_stmt (out-StmtKind s.kind)
    ∙ ap joined (kind_is (out-StmtKind s.kind))
    ∙ joined_map (stmt_parts expression statement clause (out-StmtKind s.kind)))

bodies_are : (body : List Stmt) → flat_map (λ s. s.1) (map (with stmt_nodes) body) ≡ flat_map nodes (map statement body)
bodies_are body = flat_map-map (λ (s : Stmt × Nodes). s.1) (with stmt_nodes) body ∙ sym (flat_map-map nodes statement body)

firsts_are : (body : List Stmt) → map (λ s. s.0) (map (with stmt_nodes) body) ≡ body
firsts_are [] = refl
firsts_are (s ∷ body) = ap (λ ys. s ∷ ys) (firsts_are body)

clause_level : (c : Clause) → clause_nodes c ≡ clause c ∷ flat_map nodes (map statement (out-Clause c).body)
unfolding stmt_nodes clause_nodes
clause_level c =
    let o = out-Clause c in
    ap (para-Clause Nodes Nodes Nodes stmt_kind_nodes one_clause one_stmt) (sym (roll-out-Clause c))
    ∙ para-roll-Clause Nodes Nodes Nodes stmt_kind_nodes one_clause one_stmt o
    ∙ ap₂ (λ body ys. clause (roll-Clause record { node = o.node; line = o.line; classes = o.classes; name = o.name; body = body }) ∷ ys) (firsts_are o.body) (bodies_are o.body)
    ∙ ap (λ d. clause d ∷ flat_map nodes (map statement o.body)) (roll-out-Clause c)

-- the nodes in a node: itself, and those in its parts
pub node_level : (x : Node) → nodes x ≡ x ∷ flat_map nodes (parts x)
node_level (function f) = ap (λ ys. function f ∷ ys) (sym (flat_map-map nodes statement f.body))
node_level (statement s) = stmt_level s
node_level (clause c) = clause_level c
node_level (expression e) = expr_level e ∙ ap (λ ys. expression e ∷ ys) (sym (flat_map-map nodes expression (expr_parts args_of (out-ExprKind e.kind))))
