-- A statement from the numbers of its parts, where these are lists.
use Rattle.std.proofs.Common.{◌≡◌, ◌∙◌, ap, ℕ, Bool, List, Option, Some, None, map}
use Rattle.py_syntax.specs.declared.expr.Expr.{Expr}
use Rattle.py_syntax.specs.declared.stmt.Clause.{Clause}
use Rattle.py_syntax.specs.declared.stmt.Stmt.{Stmt}
use Rattle.py_syntax.specs.declared.stmt.StmtKind.{StmtKind}
use Rattle.py_syntax.specs.declared.stmt.StmtKind.TheVariants as s
use Rattle.py_language.specs.TreesNumbers.{in_order}
use Rattle.py_nodes.specs.Expressions.{expr}
use Rattle.py_nodes.specs.Numbers.{Block, arm_by, stmt, clause, kind}
use Rattle.py_nodes.specs.CodeStatements.{arm_of, block_of, maybe_block_of}
use Rattle.py_nodes.proofs.Steps.{made, map_twice, both}
use Rattle.py_nodes.proofs.StmtLevels.{kind-If, kind-While, kind-For, kind-Try}

module _ (counted : Bool) where
  arm_with : Expr × List Stmt → Expr × Block
  arm_with arm = (arm.0, map (stmt counted) arm.1)

  if_by : (arms : List (Expr × List Stmt)) (other : Option (List Stmt)) (n : ℕ)
      → kind counted (s.If arms other) n ≡ made (λ q. s.If q.0 q.1) (both (in_order (map (arm_by counted) (map (λ (arm : Expr × List Stmt). let made : Expr × Block = (arm.0, map (stmt counted) arm.1) in made) arms))) (maybe_block_of counted other)) n
  if_by arms None n = kind-If counted arms None n
  if_by arms (Some body) n = kind-If counted arms (Some body) n

  pub if_is : (k : StmtKind) (arms : List (Expr × List Stmt)) (other : Option (List Stmt)) (n : ℕ) → k ≡ s.If arms other
      → kind counted k n ≡ made (λ q. s.If q.0 q.1) (both (in_order (map (arm_of counted) arms)) (maybe_block_of counted other)) n
  if_is k arms other n is =
      ap (λ k. kind counted k n) is ∙ if_by arms other n
      ∙ ap (λ ps. made (λ q. s.If q.0 q.1) (both (in_order ps) (maybe_block_of counted other)) n) (map_twice (arm_by counted) (λ (arm : Expr × List Stmt). let made : Expr × Block = (arm.0, map (stmt counted) arm.1) in made) arms)

  pub while_is : (k : StmtKind) (x : Expr) (body : List Stmt) (n : ℕ) → k ≡ s.While x body → kind counted k n ≡ made (λ q. s.While q.0 q.1) (both (expr counted x) (block_of counted body)) n
  while_is k x body n is = ap (λ k. kind counted k n) is ∙ kind-While counted x body n

  pub for_is : (k : StmtKind) (names : List (List ℕ)) (is_tuple : Bool) (x : Expr) (body : List Stmt) (n : ℕ) → k ≡ s.For names is_tuple x body
      → kind counted k n ≡ made (λ q. s.For names is_tuple q.0 q.1) (both (expr counted x) (block_of counted body)) n
  for_is k names is_tuple x body n is = ap (λ k. kind counted k n) is ∙ kind-For counted names is_tuple x body n

  try_by : (body : List Stmt) (clauses : List Clause) (other last : Option (List Stmt)) (n : ℕ)
      → kind counted (s.Try body clauses other last) n
      ≡ made (λ q. s.Try q.0.0.0 q.0.0.1 q.0.1 q.1) (both (both (both (block_of counted body) (in_order (map (clause counted) clauses))) (maybe_block_of counted other)) (maybe_block_of counted last)) n
  try_by body clauses None None n = kind-Try counted body clauses None None n
  try_by body clauses None (Some l) n = kind-Try counted body clauses None (Some l) n
  try_by body clauses (Some o) None n = kind-Try counted body clauses (Some o) None n
  try_by body clauses (Some o) (Some l) n = kind-Try counted body clauses (Some o) (Some l) n

  pub try_is : (k : StmtKind) (body : List Stmt) (clauses : List Clause) (other last : Option (List Stmt)) (n : ℕ) → k ≡ s.Try body clauses other last
      → kind counted k n ≡ made (λ q. s.Try q.0.0.0 q.0.0.1 q.0.1 q.1) (both (both (both (block_of counted body) (in_order (map (clause counted) clauses))) (maybe_block_of counted other)) (maybe_block_of counted last)) n
  try_is k body clauses other last n is = ap (λ k. kind counted k n) is ∙ try_by body clauses other last n
