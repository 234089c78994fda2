-- Nodes that may begin, and points whose events may follow where their governor is reached.
use Rattle.std.proofs.Common.{Bool, List, None, Option, Some, [], map, subst, ◌∷◌, ◌≡◌}
use Rattle.std.specs.List.{AllByRecursion, flat_map}
use Rattle.std.specs.Prelude.{slice_get}
use Rattle.pyn_base.specs.declared.ids.FuncId.{FuncId}
use Rattle.pyn_base.specs.declared.ids.NodeId.{NodeId}
use Rattle.py_syntax.specs.declared.expr.Expr.{Expr}
use Rattle.py_syntax.specs.declared.stmt.Clause.{Clause, out-Clause}
use Rattle.py_syntax.specs.declared.stmt.Stmt.{Stmt}
use Rattle.py_plain.specs.Program.{Function}
use Rattle.py_plain.specs.Runs.{Finding}
use Rattle.py_plain.specs.Tests.{Began, Decided, Trail}
use Rattle.py_plain.specs.declared.judged.Judged.{Judged}
use Rattle.py_sites.specs.Nodes.{Node, clause, expression, function, nodes, parts, statement}
use Rattle.goal_model.specs.Points.{Points, block as block_points, points, points_in_clause}
use Rattle.goal_model.specs.declared.kind.GoalKind.{GoalKind}
use Rattle.goal_model.specs.declared.kind.GoalKind.TheVariants.{Entry}
use Rattle.goal_model.specs.declared.point.Point.{Point}
use Rattle.goal_model.specs.declared.point.Point.TheVariants.{Decision, Statement}
use Rattle.goal_laws.proofs.Kept.{Does, Kept}
use Rattle.goal_laws.proofs.Lists.{all_flat, all_mapped}
use Rattle.goal_laws.proofs.Trails.{Allowed, Permitted, Reaches, Rule}

module _ (r : Rule) (f : Option FuncId) where
  -- a node may begin after any trail
  abbrev pub Begins : NodeId → Type 0
  Begins node = (t : Trail) → Permitted r f t (Began node)

  abbrev pub Inner : Node → Type 0
  Inner (function g) = Begins g.node
  Inner (statement s) = Unit {0}
  Inner (clause c) = Begins (out-Clause c).node
  Inner (expression e) = Begins e.node

  -- each clause and expression in a node may begin
  abbrev pub Held : Node → Type 0
  Held x = AllByRecursion Inner (nodes x)

  abbrev pub HeldExpr : Expr → Type 0
  HeldExpr e = Held (expression e)

  abbrev pub HeldStmt : Stmt → Type 0
  HeldStmt s = Held (statement s)

  held_level : (x : Node) → Held x → AllByRecursion Inner (x ∷ flat_map nodes (parts x))
  held_level x h = subst (AllByRecursion Inner) (r.level x) h

  pub held_parts : (x : Node) → Held x → AllByRecursion Held (parts x)
  held_parts x h = all_flat Inner nodes (parts x) (held_level x h).1

  pub held_begins : (e : Expr) → HeldExpr e → Begins e.node
  held_begins e h = (held_level (expression e) h).0

  pub held_clause : (c : Clause) → Held (clause c) → Begins (out-Clause c).node
  held_clause c h = (held_level (clause c) h).0

  -- an event of a point may follow where its governor is reached
  abbrev pub Fits : Point → Type 0
  Fits (Statement node line governor) = (t : Trail) → Reaches r f t governor → Permitted r f t (Began node)
  Fits (Decision node line governor) = (t : Trail) → Reaches r f t governor → (judged : Judged) (outcome : Bool) → Permitted r f t (Decided node judged outcome)

  abbrev pub Placed : GoalKind → Stmt → Type 0
  Placed governor stmt = AllByRecursion Fits (points stmt governor)

  abbrev pub PlacedClause : GoalKind → Clause → Type 0
  PlacedClause governor c = AllByRecursion Fits (points_in_clause c governor)

  pub block_placed : (governor : GoalKind) (body : List Stmt) → AllByRecursion Fits (block_points (map points body) governor) → AllByRecursion (Placed governor) body
  block_placed governor body h = all_mapped (λ (part : Points). AllByRecursion Fits (part governor)) points body (all_flat Fits (λ (part : Points). part governor) (map points body) h)

-- ---- in a test all is permitted

module _ (r : Rule) where
  pub test_begins : (x : Node) → Inner r None x
  test_begins (function g) = λ t. tt
  test_begins (statement s) = tt
  test_begins (clause c) = λ t. tt
  test_begins (expression e) = λ t. tt

  pub test_fits : (point : Point) → Fits r None point
  test_fits (Statement node line governor) = λ t reached. tt
  test_fits (Decision node line governor) = λ t reached judged outcome. tt

-- ---- what the body of each function has

pub record Body (r : Rule) (id : FuncId) (f : Function) : Type 0 where
  pub begins : (t : Trail) → Allowed r t (Began f.tree.node)
  pub held : AllByRecursion (HeldStmt r (Some id)) f.tree.body
  pub placed : AllByRecursion (Placed r (Some id) (Entry id)) f.tree.body

abbrev pub Bodies : Rule → Type 0
Bodies r = (id : FuncId) (f : Function) → slice_get r.program.functions id.0 ≡ Some f → Body r id f

-- What parts mean keeps the rule.
pub record Parts (r : Rule) (value : Expr → Does Finding) (does : Stmt → Does Finding) : Type 0 where
  pub values : (f : Option FuncId) (e : Expr) → HeldExpr r f e → Kept r f [] (value e)
  pub statements : (f : Option FuncId) (t : Trail) (governor : GoalKind) (stmt : Stmt) → HeldStmt r f stmt → Placed r f governor stmt → Reaches r f t governor → Kept r f t (does stmt)
