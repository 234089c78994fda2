-- The points of a statement and of a clause, one level at a time, by the blocks in them.
use Rattle.std.proofs.Common.{◌≡◌, ℕ, List, [], ◌∷◌, ◌++◌, map, Option, Some, None, Bool, true, false, refl, sym, ap, ap₂, ◌∙◌}
use Rattle.std.proofs.lemmas.List.{append_assoc, append-nil}
use Rattle.std.specs.List.{flat_map}
use Rattle.pyn_base.specs.declared.ids.NodeId.{NodeId}
use Rattle.pyn_base.specs.declared.ids.FuncId.{FuncId}
use Rattle.py_syntax.specs.declared.expr.Expr.{Expr}
use Rattle.py_syntax.specs.declared.operator.BinOp.{BinOp}
use Rattle.py_syntax.specs.declared.module.Func.{Func}
use Rattle.py_syntax.specs.declared.stmt.Annotation.{Annotation}
use Rattle.py_syntax.specs.declared.stmt.Clause.{Clause, out-Clause}
use Rattle.py_syntax.specs.declared.stmt.Stmt.{Stmt}
use Rattle.py_syntax.specs.declared.stmt.StmtKind.{StmtKind, StmtKind-F, out-StmtKind}
use Rattle.py_syntax.specs.declared.stmt.StmtKind.TheVariants as k
use Rattle.py_syntax.specs.declared.stmt.StmtKind.TheVariants.{outs-Pass, outs-Break, outs-Continue, outs-Return, outs-Raise, outs-Assert, outs-Del, outs-Assign, outs-Augment, outs-Bare, outs-If, outs-While, outs-For, outs-Try}
use Rattle.py_syntax.specs.declared.stmt.Target.{Target}
use Rattle.goal_model.specs.declared.kind.GoalKind.{GoalKind}
use Rattle.goal_model.specs.declared.kind.GoalKind.TheVariants.{Entry, Branch}
use Rattle.goal_model.specs.declared.point.Point.{Point}
use Rattle.goal_model.specs.declared.point.Point.TheVariants.{Statement, Decision}
use Rattle.goal_model.specs.Folds.{by_statement, by_kind, by_clause}
use Rattle.goal_model.specs.Goals.{body_points}
use Rattle.goal_model.specs.Laws.{parts_of_kind}
use Rattle.goal_model.specs.Points.{Points, block, maybe_block, arms, points_by, points, points_in_clause, points_in_kind}
use Rattle.goal_graph.specs.Blocks.{all_points, maybe_points, clauses_points, arm_points, arms_points, governor_after}

blocks : {A : Type 0} (f : A → Points) (xs : List A) (governor : GoalKind) → block (map f xs) governor ≡ flat_map (λ x. f x governor) xs
blocks f [] governor = refl
blocks f (x ∷ xs) governor = ap (λ rest. f x governor ++ rest) (blocks f xs governor)

abbrev maybe_parts : Option (List Stmt) → Option (List Points)
maybe_parts None = None
maybe_parts (Some body) = Some (map points body)

maybe_are : (body : Option (List Stmt)) (governor : GoalKind) → maybe_block (maybe_parts body) governor ≡ maybe_points governor body
maybe_are None governor = refl
maybe_are (Some body) governor = blocks points body governor

abbrev arm_parts : Expr × List Stmt → Expr × List Points
arm_parts arm = (arm.0, map points arm.1)

arms_are : (all : List (Expr × List Stmt)) (other : Option (List Stmt)) (governor : GoalKind)
    → arms (map arm_parts all) (maybe_parts other) governor ≡ arms_points governor all ++ maybe_points (governor_after governor all) other
arms_are [] other governor = maybe_are other governor
arms_are (arm ∷ more) other governor =
    ap₂ (λ inner rest. Decision arm.0.node arm.0.line governor ∷ inner ++ rest) (blocks points arm.1 (Branch arm.0.node true)) (arms_are more other (Branch arm.0.node false))
    ∙ sym (append_assoc (arm_points governor arm) (arms_points (Branch arm.0.node false) more) (maybe_points (governor_after (Branch arm.0.node false) more) other))

-- what is in a statement, by its layer
abbrev pub level : StmtKind-F StmtKind Clause Stmt → NodeId → ℕ → GoalKind → List Point
level (StmtKind-F.If tests other) node line governor = arms_points governor tests ++ maybe_points (governor_after governor tests) other
level (StmtKind-F.While test body) node line governor = Decision test.node test.line governor ∷ all_points (Branch test.node true) body
level (StmtKind-F.For names is_tuple e body) node line governor = Decision node line governor ∷ all_points (Branch node true) body
level (StmtKind-F.Assert test message) node line governor = Decision test.node test.line governor ∷ []
level (StmtKind-F.Try body clauses other last) node line governor = all_points governor body ++ clauses_points governor clauses ++ maybe_points governor other ++ maybe_points governor last
level _ node line governor = []

if_cases : (tests : List (Expr × List Stmt)) (other : Option (List Stmt)) (node : NodeId) (line : ℕ) (governor : GoalKind)
    → points_by (parts_of_kind (StmtKind-F.If tests other)) node line governor ≡ level (StmtKind-F.If tests other) node line governor
if_cases tests None node line governor = arms_are tests None governor
if_cases tests (Some body) node line governor = arms_are tests (Some body) governor

try_level : (body : List Stmt) (clauses : List Clause) (other last : Option (List Stmt)) (governor : GoalKind)
    → block (map points body) governor ++ block (map points_in_clause clauses) governor ++ maybe_block (maybe_parts other) governor ++ maybe_block (maybe_parts last) governor
    ≡ all_points governor body ++ clauses_points governor clauses ++ maybe_points governor other ++ maybe_points governor last
try_level body clauses other last governor = rw (blocks points body governor, blocks points_in_clause clauses governor, maybe_are other governor, maybe_are last governor) refl

try_cases : (body : List Stmt) (clauses : List Clause) (other last : Option (List Stmt)) (node : NodeId) (line : ℕ) (governor : GoalKind)
    → points_by (parts_of_kind (StmtKind-F.Try body clauses other last)) node line governor ≡ level (StmtKind-F.Try body clauses other last) node line governor
try_cases body clauses None None node line governor = try_level body clauses None None governor
try_cases body clauses None (Some last) node line governor = try_level body clauses None (Some last) governor
try_cases body clauses (Some other) None node line governor = try_level body clauses (Some other) None governor
try_cases body clauses (Some other) (Some last) node line governor = try_level body clauses (Some other) (Some last) governor

levels_are : (f : StmtKind-F StmtKind Clause Stmt) (node : NodeId) (line : ℕ) (governor : GoalKind) → points_by (parts_of_kind f) node line governor ≡ level f node line governor
levels_are (StmtKind-F.If tests other) node line governor = if_cases tests other node line governor
levels_are (StmtKind-F.While test body) node line governor = ap (λ rest. Decision test.node test.line governor ∷ rest) (blocks points body (Branch test.node true))
levels_are (StmtKind-F.For names is_tuple e body) node line governor = ap (λ rest. Decision node line governor ∷ rest) (blocks points body (Branch node true))
levels_are (StmtKind-F.Assert test message) node line governor = refl
levels_are (StmtKind-F.Try body clauses other last) node line governor = try_cases body clauses other last node line governor
levels_are StmtKind-F.Pass node line governor = refl
levels_are StmtKind-F.Break node line governor = refl
levels_are StmtKind-F.Continue node line governor = refl
levels_are (StmtKind-F.Return e) node line governor = refl
levels_are (StmtKind-F.Raise e) node line governor = refl
levels_are (StmtKind-F.Del of at) node line governor = refl
levels_are (StmtKind-F.Assign targets is_tuple annotation e) node line governor = refl
levels_are (StmtKind-F.Augment target op e) node line governor = refl
levels_are (StmtKind-F.Bare e) node line governor = refl

pub of_kind : (kind : StmtKind) (node : NodeId) (line : ℕ) (governor : GoalKind) → points_in_kind kind node line governor ≡ level (out-StmtKind kind) node line governor
of_kind kind node line governor = by_kind kind node line governor ∙ levels_are (out-StmtKind kind) node line governor

by : (kind : StmtKind) (f : StmtKind-F StmtKind Clause Stmt) → out-StmtKind kind ≡ f → (node : NodeId) (line : ℕ) (governor : GoalKind) → points_in_kind kind node line governor ≡ level f node line governor
by kind f is node line governor = of_kind kind node line governor ∙ ap (λ f. level f node line governor) is

-- ---- points with those of a statement after them

two : (xs a b : List Point) → xs ++ (a ++ b) ≡ xs ++ a ++ b
two xs a b = sym (append_assoc xs a b)

four : (xs a b c d : List Point) → xs ++ (a ++ b ++ c ++ d) ≡ xs ++ a ++ b ++ c ++ d
four xs a b c d = sym (append_assoc xs (a ++ b ++ c) d) ∙ ap (λ ys. ys ++ d) (sym (append_assoc xs (a ++ b) c) ∙ ap (λ ys. ys ++ c) (two xs a b))

pub of_stmt : (xs : List Point) (stmt : Stmt) (governor : GoalKind)
    → xs ++ points stmt governor ≡ xs ++ Statement stmt.node stmt.line governor ∷ [] ++ points_in_kind stmt.kind stmt.node stmt.line governor
of_stmt xs stmt governor = ap (λ ys. xs ++ ys) (by_statement stmt governor) ∙ two xs (Statement stmt.node stmt.line governor ∷ []) (points_in_kind stmt.kind stmt.node stmt.line governor)

module _ (xs : List Point) (node : NodeId) (line : ℕ) (governor : GoalKind) where
  none : (kind : StmtKind) → points_in_kind kind node line governor ≡ [] → xs ++ points_in_kind kind node line governor ≡ xs
  none kind e = ap (λ ys. xs ++ ys) e ∙ append-nil xs

  pub kind-Pass : xs ++ points_in_kind k.Pass node line governor ≡ xs
  kind-Pass = none k.Pass (by _ _ outs-Pass node line governor)

  pub kind-Break : xs ++ points_in_kind k.Break node line governor ≡ xs
  kind-Break = none k.Break (by _ _ outs-Break node line governor)

  pub kind-Continue : xs ++ points_in_kind k.Continue node line governor ≡ xs
  kind-Continue = none k.Continue (by _ _ outs-Continue node line governor)

  pub kind-Return : (e : Option Expr) → xs ++ points_in_kind (k.Return e) node line governor ≡ xs
  kind-Return e = none (k.Return e) (by _ _ (outs-Return e) node line governor)

  pub kind-Raise : (e : Option Expr) → xs ++ points_in_kind (k.Raise e) node line governor ≡ xs
  kind-Raise e = none (k.Raise e) (by _ _ (outs-Raise e) node line governor)

  pub kind-Del : (of : Expr) (at : Expr) → xs ++ points_in_kind (k.Del of at) node line governor ≡ xs
  kind-Del of at = none (k.Del of at) (by _ _ (outs-Del of at) node line governor)

  pub kind-Bare : (e : Expr) → xs ++ points_in_kind (k.Bare e) node line governor ≡ xs
  kind-Bare e = none (k.Bare e) (by _ _ (outs-Bare e) node line governor)

  pub kind-Assign : (targets : List Target) (is_tuple : Bool) (annotation : Option Annotation) (e : Expr) → xs ++ points_in_kind (k.Assign targets is_tuple annotation e) node line governor ≡ xs
  kind-Assign targets is_tuple annotation e = none (k.Assign targets is_tuple annotation e) (by _ _ (outs-Assign targets is_tuple annotation e) node line governor)

  pub kind-Augment : (target : Target) (op : BinOp) (e : Expr) → xs ++ points_in_kind (k.Augment target op e) node line governor ≡ xs
  kind-Augment target op e = none (k.Augment target op e) (by _ _ (outs-Augment target op e) node line governor)

  pub kind-Assert : (test : Expr) (message : Option Expr) → xs ++ points_in_kind (k.Assert test message) node line governor ≡ xs ++ Decision test.node test.line governor ∷ []
  kind-Assert test message = ap (λ ys. xs ++ ys) (by _ _ (outs-Assert test message) node line governor)

  pub kind-If : (tests : List (Expr × List Stmt)) (other : Option (List Stmt))
      → xs ++ points_in_kind (k.If tests other) node line governor ≡ xs ++ arms_points governor tests ++ maybe_points (governor_after governor tests) other
  kind-If tests other = ap (λ ys. xs ++ ys) (by _ _ (outs-If tests other) node line governor) ∙ two xs (arms_points governor tests) (maybe_points (governor_after governor tests) other)

  pub kind-While : (test : Expr) (body : List Stmt)
      → xs ++ points_in_kind (k.While test body) node line governor ≡ xs ++ Decision test.node test.line governor ∷ [] ++ all_points (Branch test.node true) body
  kind-While test body = ap (λ ys. xs ++ ys) (by _ _ (outs-While test body) node line governor) ∙ two xs (Decision test.node test.line governor ∷ []) (all_points (Branch test.node true) body)

  pub kind-For : (names : List (List ℕ)) (is_tuple : Bool) (e : Expr) (body : List Stmt)
      → xs ++ points_in_kind (k.For names is_tuple e body) node line governor ≡ xs ++ Decision node line governor ∷ [] ++ all_points (Branch node true) body
  kind-For names is_tuple e body = ap (λ ys. xs ++ ys) (by _ _ (outs-For names is_tuple e body) node line governor) ∙ two xs (Decision node line governor ∷ []) (all_points (Branch node true) body)

  pub kind-Try : (body : List Stmt) (clauses : List Clause) (other last : Option (List Stmt))
      → xs ++ points_in_kind (k.Try body clauses other last) node line governor
      ≡ xs ++ all_points governor body ++ clauses_points governor clauses ++ maybe_points governor other ++ maybe_points governor last
  kind-Try body clauses other last = ap (λ ys. xs ++ ys) (by _ _ (outs-Try body clauses other last) node line governor)
      ∙ four xs (all_points governor body) (clauses_points governor clauses) (maybe_points governor other) (maybe_points governor last)

pub of_clause : (xs : List Point) (clause : Clause) (governor : GoalKind)
    → xs ++ points_in_clause clause governor
    ≡ xs ++ Decision (out-Clause clause).node (out-Clause clause).line governor ∷ [] ++ all_points (Branch (out-Clause clause).node true) (out-Clause clause).body
of_clause xs clause governor =
    let c = out-Clause clause in
    ap (λ ys. xs ++ ys) (by_clause clause governor ∙ ap (λ rest. Decision c.node c.line governor ∷ rest) (blocks points c.body (Branch c.node true)))
    ∙ two xs (Decision c.node c.line governor ∷ []) (all_points (Branch c.node true) c.body)

pub of_body : (id : FuncId) (f : Func) → body_points id f ≡ all_points (Entry id) f.body
of_body id f = blocks points f.body (Entry id)

pub ruleset levels = (of_stmt, of_clause, of_body, kind-Pass, kind-Break, kind-Continue, kind-Return, kind-Raise, kind-Assert, kind-Del, kind-Bare, kind-Assign, kind-Augment, kind-If, kind-While, kind-For, kind-Try)
