-- The points of a compound statement are those of its blocks, one after another, each with the decisions before it.
use Rattle.std.proofs.Common.{List, None, Option, Some, [], ap, append_assoc, ap₂, map, refl, sym, true, false, ℕ, ◌++◌, ◌∙◌, ◌∷◌, ◌≡◌}
use Rattle.std.proofs.lemmas.Grind.{flat_map-append}
use Rattle.std.proofs.lemmas.List.{append-nil, map-append}
use Rattle.std.specs.List.{AllByRecursion, flat_map}
use Rattle.std.specs.Option.{option_to_list}
use Rattle.pyn_base.specs.declared.ids.NodeId.{NodeId}
use Rattle.py_syntax.specs.declared.expr.Expr.{Expr}
use Rattle.py_syntax.specs.declared.stmt.Clause.{Clause, out-Clause}
use Rattle.py_syntax.specs.declared.stmt.Stmt.{Stmt}
use Rattle.py_syntax.specs.declared.stmt.StmtKind.{StmtKind, StmtKind-F}
use Rattle.goal_model.specs.Folds.{by_clause}
use Rattle.goal_model.specs.Laws.{parts_of_kind}
use Rattle.goal_model.specs.Points.{Points, arms, block, maybe_block, points, points_by, points_in_clause}
use Rattle.goal_model.specs.declared.kind.GoalKind.{GoalKind}
use Rattle.goal_model.specs.declared.kind.GoalKind.TheVariants.{Branch}
use Rattle.goal_model.specs.declared.point.Point.{Point}
use Rattle.goal_model.specs.declared.point.Point.TheVariants.{Decision}
use Rattle.line_laws.proofs.Fine.{IsDecision}
use Rattle.line_laws.proofs.Lists.{all_join}
use Rattle.line_laws.specs.Layout.{blocks_of}

abbrev pub body_of : List Stmt → GoalKind → List Point
body_of body g = block (map points body) g

-- a block, what governs it, and the decisions before it
pub record Section : Type 0 where
  pub before : List Point
  pub governor : GoalKind
  pub body : List Stmt

abbrev pub section_points : Section → List Point
section_points c = c.before ++ body_of c.body c.governor

abbrev pub all_sections : List Section → List Point
all_sections cs = flat_map section_points cs

abbrev pub bodies : List Section → List (List Stmt)
bodies cs = map (λ c. c.body) cs

abbrev pub DecidedBefore : Section → Type 0
DecidedBefore c = AllByRecursion IsDecision c.before

abbrev decided : NodeId → ℕ → GoalKind → List Stmt → Section
decided node line g body = record { before = Decision node line g ∷ []; governor = Branch node true; body = body }

abbrev undecided : GoalKind → List Stmt → Section
undecided g body = record { before = []; governor = g; body = body }

abbrev Arm : Type 0
Arm = Expr × List Stmt

abbrev if_sections : GoalKind → List Arm → Option (List Stmt) → List Section
if_sections g [] None = []
if_sections g [] (Some other) = undecided g other ∷ []
if_sections g (arm ∷ more) other = decided arm.0.node arm.0.line g arm.1 ∷ if_sections (Branch arm.0.node false) more other

abbrev clause_section : GoalKind → Clause → Section
clause_section g c = decided (out-Clause c).node (out-Clause c).line g (out-Clause c).body

abbrev maybe_section : GoalKind → Option (List Stmt) → List Section
maybe_section g None = []
maybe_section g (Some body) = undecided g body ∷ []

abbrev rest_sections : GoalKind → List Clause → Option (List Stmt) → Option (List Stmt) → List Section
rest_sections g clauses other last = map (clause_section g) clauses ++ (maybe_section g other ++ maybe_section g last)

-- the sections of a statement, by its node, its line and its governor
abbrev pub sections_of : StmtKind-F StmtKind Clause Stmt → NodeId → ℕ → GoalKind → List Section
sections_of (StmtKind-F.If tests other) node line g = if_sections g tests other
sections_of (StmtKind-F.While test body) node line g = decided test.node test.line g body ∷ []
sections_of (StmtKind-F.For names is_tuple e body) node line g = decided node line g body ∷ []
sections_of (StmtKind-F.Try body clauses other last) node line g = undecided g body ∷ rest_sections g clauses other last
sections_of _ node line g = []

-- ---- their points

abbrev arm_parts : Arm → Expr × List Points
arm_parts arm = (arm.0, map points arm.1)

abbrev maybe_parts : Option (List Stmt) → Option (List Points)
maybe_parts None = None
maybe_parts (Some body) = Some (map points body)

one_section : (c : Section) → section_points c ≡ all_sections (c ∷ [])
one_section c = sym (append-nil (section_points c))

if_points : (g : GoalKind) (tests : List Arm) (other : Option (List Stmt)) → arms (map arm_parts tests) (maybe_parts other) g ≡ all_sections (if_sections g tests other)
if_points g [] None = refl
if_points g [] (Some other) = one_section (undecided g other)
if_points g (arm ∷ more) other = ap (λ ps. Decision arm.0.node arm.0.line g ∷ (body_of arm.1 (Branch arm.0.node true) ++ ps)) (if_points (Branch arm.0.node false) more other)

clauses_points : (g : GoalKind) (clauses : List Clause) → block (map points_in_clause clauses) g ≡ all_sections (map (clause_section g) clauses)
clauses_points g [] = refl
clauses_points g (c ∷ clauses) = ap₂ (λ a b. a ++ b) (by_clause c g) (clauses_points g clauses)

maybe_points : (g : GoalKind) (body : Option (List Stmt)) → maybe_block (maybe_parts body) g ≡ all_sections (maybe_section g body)
maybe_points g None = refl
maybe_points g (Some body) = one_section (undecided g body)

try_points : (g : GoalKind) (body : List Stmt) (clauses : List Clause) (other last : Option (List Stmt))
    → body_of body g ++ block (map points_in_clause clauses) g ++ maybe_block (maybe_parts other) g ++ maybe_block (maybe_parts last) g ≡ all_sections (undecided g body ∷ rest_sections g clauses other last)
try_points g body clauses other last =
    let b = body_of body g in let c = block (map points_in_clause clauses) g in let o = maybe_block (maybe_parts other) g in let l = maybe_block (maybe_parts last) g in
    append_assoc (b ++ c) o l ∙ append_assoc b c (o ++ l)
    ∙ ap (λ ps. b ++ ps)
    (ap₂ (λ x y. x ++ y) (clauses_points g clauses) (ap₂ (λ x y. x ++ y) (maybe_points g other) (maybe_points g last) ∙ sym (flat_map-append section_points (maybe_section g other) (maybe_section g last)))
    ∙ sym (flat_map-append section_points (map (clause_section g) clauses) (maybe_section g other ++ maybe_section g last)))

-- a statement that has a block
pub points_are : (kind : StmtKind-F StmtKind Clause Stmt) (node : NodeId) (line : ℕ) (g : GoalKind) (b : List Stmt) (bs : List (List Stmt)) → blocks_of kind ≡ b ∷ bs → points_by (parts_of_kind kind) node line g ≡ all_sections (sections_of kind node line g)
points_are (StmtKind-F.If tests None) node line g b bs e = if_points g tests None
points_are (StmtKind-F.If tests (Some other)) node line g b bs e = if_points g tests (Some other)
points_are (StmtKind-F.While test body) node line g b bs e = one_section (decided test.node test.line g body)
points_are (StmtKind-F.For names is_tuple x body) node line g b bs e = one_section (decided node line g body)
points_are (StmtKind-F.Try body clauses None None) node line g b bs e = try_points g body clauses None None
points_are (StmtKind-F.Try body clauses None (Some last)) node line g b bs e = try_points g body clauses None (Some last)
points_are (StmtKind-F.Try body clauses (Some other) None) node line g b bs e = try_points g body clauses (Some other) None
points_are (StmtKind-F.Try body clauses (Some other) (Some last)) node line g b bs e = try_points g body clauses (Some other) (Some last)
points_are _ node line g b bs e = absurd (cc)

-- ---- their blocks

if_bodies : (g : GoalKind) (tests : List Arm) (other : Option (List Stmt)) → map (λ arm. arm.1) tests ++ option_to_list other ≡ bodies (if_sections g tests other)
if_bodies g [] None = refl
if_bodies g [] (Some other) = refl
if_bodies g (arm ∷ more) other = ap (λ bs. arm.1 ∷ bs) (if_bodies (Branch arm.0.node false) more other)

clauses_bodies : (g : GoalKind) (clauses : List Clause) → map (λ c. (out-Clause c).body) clauses ≡ bodies (map (clause_section g) clauses)
clauses_bodies g [] = refl
clauses_bodies g (c ∷ clauses) = ap (λ bs. (out-Clause c).body ∷ bs) (clauses_bodies g clauses)

maybe_bodies : (g : GoalKind) (body : Option (List Stmt)) → option_to_list body ≡ bodies (maybe_section g body)
maybe_bodies g None = refl
maybe_bodies g (Some body) = refl

rest_bodies : (g : GoalKind) (clauses : List Clause) (other last : Option (List Stmt)) → map (λ c. (out-Clause c).body) clauses ++ (option_to_list other ++ option_to_list last) ≡ bodies (rest_sections g clauses other last)
rest_bodies g clauses other last =
    ap₂ (λ x y. x ++ y) (clauses_bodies g clauses) (ap₂ (λ x y. x ++ y) (maybe_bodies g other) (maybe_bodies g last) ∙ sym (map-append (λ (c : Section). c.body) (maybe_section g other) (maybe_section g last)))
    ∙ sym (map-append (λ (c : Section). c.body) (map (clause_section g) clauses) (maybe_section g other ++ maybe_section g last))

pub bodies_are : (kind : StmtKind-F StmtKind Clause Stmt) (node : NodeId) (line : ℕ) (g : GoalKind) → blocks_of kind ≡ bodies (sections_of kind node line g)
bodies_are (StmtKind-F.If tests other) node line g = if_bodies g tests other
bodies_are (StmtKind-F.While test body) node line g = refl
bodies_are (StmtKind-F.For names is_tuple x body) node line g = refl
bodies_are (StmtKind-F.Try body clauses other last) node line g = ap (λ bs. body ∷ bs) (rest_bodies g clauses other last)
bodies_are _ node line g = refl

-- ---- what is before each block is a decision

if_decided : (g : GoalKind) (tests : List Arm) (other : Option (List Stmt)) → AllByRecursion DecidedBefore (if_sections g tests other)
if_decided g [] None = tt
if_decided g [] (Some other) = (tt, tt)
if_decided g (arm ∷ more) other = ((tt, tt), if_decided (Branch arm.0.node false) more other)

clauses_decided : (g : GoalKind) (clauses : List Clause) → AllByRecursion DecidedBefore (map (clause_section g) clauses)
clauses_decided g [] = tt
clauses_decided g (c ∷ clauses) = ((tt, tt), clauses_decided g clauses)

maybe_decided : (g : GoalKind) (body : Option (List Stmt)) → AllByRecursion DecidedBefore (maybe_section g body)
maybe_decided g None = tt
maybe_decided g (Some body) = (tt, tt)

pub all_decided : (kind : StmtKind-F StmtKind Clause Stmt) (node : NodeId) (line : ℕ) (g : GoalKind) → AllByRecursion DecidedBefore (sections_of kind node line g)
all_decided (StmtKind-F.If tests other) node line g = if_decided g tests other
all_decided (StmtKind-F.While test body) node line g = ((tt, tt), tt)
all_decided (StmtKind-F.For names is_tuple x body) node line g = ((tt, tt), tt)
all_decided (StmtKind-F.Try body clauses other last) node line g =
    let os = maybe_section g other in let ls = maybe_section g last in
    (tt, all_join DecidedBefore (map (clause_section g) clauses) (os ++ ls) (clauses_decided g clauses) (all_join DecidedBefore os ls (maybe_decided g other) (maybe_decided g last)))
all_decided _ node line g = tt
