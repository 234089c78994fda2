-- A body that lies on lines as it should has plain lines.
use Rattle.std.proofs.Common.{List, [], ap, arith, inl, inr, not, refl, subst, suc, sym, true, zero, ℕ, ◌++◌, ◌+◌, ◌<◌, ◌||◌, ◌∙◌, ◌∷◌, ◌≡◌, ◌≤◌}
use Rattle.std.proofs.lemmas.Bool.{and_from, or_left, or_right}
use Rattle.std.proofs.lemmas.List.{append-nil}
use Rattle.std.specs.List.{AllByRecursion, list_all, list_any}
use Rattle.std.specs.Prelude.{None, Some, ◌==◌}
use Rattle.pyn_base.specs.declared.ids.FuncId.{FuncId}
use Rattle.pyn_base.specs.declared.ids.NodeId.{NodeId}
use Rattle.py_syntax.specs.declared.module.Func.{Func}
use Rattle.py_syntax.specs.declared.stmt.Clause.{Clause}
use Rattle.py_syntax.specs.declared.stmt.Stmt.{Stmt}
use Rattle.py_syntax.specs.declared.stmt.StmtKind.{StmtKind, StmtKind-F, out-StmtKind}
use Rattle.goal_model.specs.Folds.{by_kind, by_statement}
use Rattle.goal_model.specs.Goals.{body_points}
use Rattle.goal_model.specs.Laws.{parts_of_kind}
use Rattle.goal_model.specs.Points.{points, points_by}
use Rattle.goal_model.specs.declared.kind.GoalKind.{GoalKind}
use Rattle.goal_model.specs.declared.kind.GoalKind.TheVariants.{Entry}
use Rattle.goal_model.specs.declared.point.Point.{Point}
use Rattle.goal_model.specs.declared.point.Point.TheVariants.{Statement}
use Rattle.line_laws.proofs.Fine.{Fine, IsDecision, Knows, fine_decisions, fine_join, fine_none, fine_statement, governed_by, later_range, led_apart, led_decisions, led_join, lies, within_itself}
use Rattle.line_laws.proofs.Lines.{block_rises, blocks_rise, lines_rise, rows_rise}
use Rattle.line_laws.proofs.Lists.{all_also, all_back, all_front}
use Rattle.line_laws.proofs.Sections.{DecidedBefore, Section, all_decided, all_sections, bodies, bodies_are, body_of, points_are, section_points, sections_of}
use Rattle.line_laws.specs.Layout.{Block, Blocks, InLines, Laid, Next, OnLine, Rows, blocks_of, inside}
use Rattle.line_laws.specs.PlainLines.{are_plain, follows, governs, is_within}

abbrev inner : Stmt → GoalKind → List Point
inner s g = points_by (parts_of_kind (out-StmtKind s.kind)) s.node s.line g

stmt_points_are : (s : Stmt) (g : GoalKind) → points s g ≡ Statement s.node s.line g ∷ inner s g
stmt_points_are s g = by_statement s g ∙ ap (λ ps. Statement s.node s.line g ∷ ps) (by_kind s.kind s.node s.line g)

simple_points : (kind : StmtKind-F StmtKind Clause Stmt) (node : NodeId) (line : ℕ) (g : GoalKind) → blocks_of kind ≡ [] → AllByRecursion IsDecision (points_by (parts_of_kind kind) node line g)
simple_points (StmtKind-F.Assert test message) node line g e = (tt, tt)
simple_points (StmtKind-F.If [] None) node line g e = tt
simple_points (StmtKind-F.If [] (Some other)) node line g e = absurd (cc)
simple_points (StmtKind-F.If (arm ∷ arms) other) node line g e = absurd (cc)
simple_points (StmtKind-F.While test body) node line g e = absurd (cc)
simple_points (StmtKind-F.For names is_tuple x body) node line g e = absurd (cc)
simple_points (StmtKind-F.Try body clauses other last) node line g e = absurd (cc)
simple_points _ node line g e = tt

module _ (all : List Point) where
  abbrev Known : List Point → Type 0
  Known ps = AllByRecursion (Knows all) ps

  -- ---- simple statements

  -- one, and those that may be on its line
  simple_fine : (start end : ℕ) (g : GoalKind) (s : Stmt) (ps : List Point) → start ≤ s.line → s.line < end → inside s ≡ [] → Fine all s.line end g ps → Fine all start end g (points s g ++ ps)
  simple_fine start end g s ps le lt e h = subst (λ qs. Fine all start end g (qs ++ ps)) (sym (stmt_points_are s g))
      (fine_statement all start s.line end g s.node (inner s g ++ ps) le lt (fine_decisions all s.line end g (inner s g) ps (simple_points (out-StmtKind s.kind) s.node s.line g e) h))

  on_line_fine : (line end : ℕ) (g : GoalKind) (body : List Stmt) → line < end → OnLine line body → Fine all line end g (body_of body g)
  on_line_fine line end g [] lt h = fine_none all line end g
  on_line_fine line end g (s ∷ more) lt h =
      let same = h.0.0 in
      simple_fine line end g s (body_of more g) (omega (arith, same)) (omega (arith, same, lt)) h.0.1 (subst (λ l. Fine all l end g (body_of more g)) (sym same) (on_line_fine line end g more lt h.1))

  on_line_led : (line before : ℕ) (outer g : GoalKind) (body : List Stmt) → is_within all outer g ≡ true → OnLine line body → list_all (follows all before outer) (body_of body g) ≡ true
  on_line_led line before outer g [] w h = refl
  on_line_led line before outer g (s ∷ more) w h =
      led_join all before outer (points s g) (body_of more g)
      (subst (λ ps. list_all (follows all before outer) ps ≡ true) (sym (stmt_points_are s g))
      (and_from (not (s.line == before) || is_within all outer g) _ (or_right (not (s.line == before)) (is_within all outer g) w) (led_decisions all before outer (inner s g) (simple_points (out-StmtKind s.kind) s.node s.line g h.0.1))))
      (on_line_led line before outer g more w h.1)

  -- ---- blocks, by those that lie on lines of their own

  module _ (Deeper : ℕ → ℕ → List Stmt → Type 0) (rises : (start end : ℕ) (body : List Stmt) → Deeper start end body → start ≤ end)
      (deeper_fine : (start end : ℕ) (g : GoalKind) (body : List Stmt) → Deeper start end body → Known (body_of body g) → Fine all start end g (body_of body g)) where
    block_fine : (header end : ℕ) (outer g : GoalKind) (body : List Stmt) → is_within all outer g ≡ true → Block Deeper header end body → Known (body_of body g) → Fine all header end outer (body_of body g)
    block_fine header end outer g body w (inl h) k =
        let fine = on_line_fine header end g body h.0 h.1 in
        record { range = fine.range; plain = fine.plain; led = λ line at. on_line_led header line outer g body w h.1 }
    block_fine header end outer g body w (inr h) k =
        let fine = deeper_fine (header + 1) end g body h k in
        record {
          range = later_range all header (header + 1) end (body_of body g) (omega arith) fine.range;
          plain = fine.plain;
          led = λ line at. led_apart all line (header + 1) end outer (body_of body g) (omega (arith, at)) fine.range;
        }

    -- ---- compound statements, by their sections

    section_fine : (header end : ℕ) (outer : GoalKind) (c : Section) → is_within all outer c.governor ≡ true → DecidedBefore c → Block Deeper header end c.body → Known (section_points c) → Fine all header end outer (section_points c)
    section_fine header end outer c w d b k =
        fine_decisions all header end outer c.before (body_of c.body c.governor) d (block_fine header end outer c.governor c.body w b (all_back (Knows all) c.before (body_of c.body c.governor) k))

    sections_fine : (header end : ℕ) (g : GoalKind) (c : Section) (cs : List Section) → is_within all g c.governor ≡ true → Blocks Deeper header end c.body (bodies cs) → AllByRecursion DecidedBefore (c ∷ cs) → Known (all_sections (c ∷ cs))
        → Fine all header end g (all_sections (c ∷ cs))
    sections_fine header end g c [] w b d k =
        subst (Fine all header end g) (sym (append-nil (section_points c))) (section_fine header end g c w d.0 b (all_front (Knows all) (section_points c) [] k))
    sections_fine header end g c (next ∷ cs) w b d k =
        let rest = all_sections (next ∷ cs) in
        let fine = section_fine header b.0 g c w d.0 b.2 (all_front (Knows all) (section_points c) rest k) in
        let later = sections_fine b.1 end next.governor next cs (within_itself all next.governor) b.4 d.1 (all_back (Knows all) (section_points c) rest k) in
        let lt = block_rises Deeper rises header b.0 c.body b.2 in let lt' = blocks_rise Deeper rises b.1 end next.body (bodies cs) b.4 in
        fine_join all header b.0 b.1 end g (section_points c) rest lt b.3 (omega (arith, lt')) fine (lies all b.1 end next.governor rest later)

    -- what governs a statement governs its first block, or the decision before it
    abbrev First : GoalKind → List Section → Type 0
    First g [] = Unit {0}
    First g (c ∷ cs) = is_within all g c.governor ≡ true

    first_within : (kind : StmtKind-F StmtKind Clause Stmt) (node : NodeId) (line : ℕ) (g : GoalKind) → Known (all_sections (sections_of kind node line g)) → First g (sections_of kind node line g)
    first_within (StmtKind-F.If [] None) node line g k = tt
    first_within (StmtKind-F.If [] (Some other)) node line g k = within_itself all g
    first_within (StmtKind-F.If (arm ∷ more) other) node line g k = governed_by all g arm.0.node arm.0.line k.0
    first_within (StmtKind-F.While test body) node line g k = governed_by all g test.node test.line k.0
    first_within (StmtKind-F.For names is_tuple x body) node line g k = governed_by all g node line k.0
    first_within (StmtKind-F.Try body clauses other last) node line g k = within_itself all g
    first_within _ node line g k = tt

    from_sections : (header end : ℕ) (g : GoalKind) (cs : List Section) (b : List Stmt) (bs : List (List Stmt)) → b ∷ bs ≡ bodies cs → Blocks Deeper header end b bs → AllByRecursion DecidedBefore cs → Known (all_sections cs) → First g cs
        → Fine all header end g (all_sections cs)
    from_sections header end g [] b bs e h d k w = absurd (cc)
    from_sections header end g (c ∷ cs) b bs e h d k w =
        let here : b ≡ c.body = cc in
        let after : bs ≡ bodies cs = cc in
        sections_fine header end g c cs w (subst (λ b. Blocks Deeper header end b (bodies cs)) here (subst (Blocks Deeper header end b) after h)) d k

    compound_fine : (header end : ℕ) (s : Stmt) (g : GoalKind) (b : List Stmt) (bs : List (List Stmt)) → inside s ≡ b ∷ bs → Blocks Deeper header end b bs → Known (inner s g) → Fine all header end g (inner s g)
    compound_fine header end s g b bs e h k =
        let kind = out-StmtKind s.kind in
        let is = points_are kind s.node s.line g b bs e in
        let known = subst Known is k in
        subst (Fine all header end g) (sym is)
        (from_sections header end g (sections_of kind s.node s.line g) b bs (sym e ∙ bodies_are kind s.node s.line g) h (all_decided kind s.node s.line g) known (first_within kind s.node s.line g known))

    -- ---- rows of statements

    next_fine : (start end : ℕ) (g : GoalKind) (s : Stmt) (more : List Stmt) (bs : List (List Stmt)) → start ≤ s.line → inside s ≡ bs → Next Deeper (λ from. Rows Deeper from end more) s.line end bs
        → Known (points s g) → ((from : ℕ) → Rows Deeper from end more → Fine all from end g (body_of more g)) → Fine all start end g (points s g ++ body_of more g)
    next_fine start end g s more [] le e h k later = simple_fine start end g s (body_of more g) le h.0 e (later s.line h.1)
    next_fine start end g s more (b ∷ bs) le e h k later =
        let known = subst Known (stmt_points_are s g) k in
        let lt = blocks_rise Deeper rises s.line h.0 b bs h.1 in
        let here = fine_statement all start s.line h.0 g s.node (inner s g) le lt (compound_fine s.line h.0 s g b bs e h.1 known.1) in
        subst (λ ps. Fine all start end g (ps ++ body_of more g)) (sym (stmt_points_are s g))
        (fine_join all start h.0 h.0 end g (Statement s.node s.line g ∷ inner s g) (body_of more g) (omega (arith, le, lt)) (omega arith) (rows_rise Deeper rises h.0 end more h.2) here (lies all h.0 end g (body_of more g) (later h.0 h.2)))

    rows_fine : (start end : ℕ) (g : GoalKind) (body : List Stmt) → Rows Deeper start end body → Known (body_of body g) → Fine all start end g (body_of body g)
    rows_fine start end g [] h k = fine_none all start end g
    rows_fine start end g (s ∷ more) h k =
        next_fine start end g s more (inside s) h.0 refl h.1 (all_front (Knows all) (points s g) (body_of more g) k) (λ from rest. rows_fine from end g more rest (all_back (Knows all) (points s g) (body_of more g) k))

  -- ---- bodies, with so many blocks in one another

  lines_fine : (room start end : ℕ) (g : GoalKind) (body : List Stmt) → InLines room start end body → Known (body_of body g) → Fine all start end g (body_of body g)
  lines_fine zero start end g body h k = subst (λ body. Fine all start end g (body_of body g)) (sym h.0) (fine_none all start end g)
  lines_fine (suc room) start end g body h k = rows_fine (InLines room) (lines_rise room) (lines_fine room) start end g body h k

-- ---- functions

all_known : (ps : List Point) → AllByRecursion (Knows ps) ps
all_known [] = tt
all_known (p ∷ ps) = (
  λ outer inner h. or_left (governs outer inner p) (list_any (governs outer inner) ps) h,
  all_also (Knows ps) (Knows (p ∷ ps)) (λ q h outer inner came. or_right (governs outer inner p) (list_any (governs outer inner) ps) (h outer inner came)) ps (all_known ps),
)

pub function_plain : (id : FuncId) (f : Func) → Laid f → are_plain (body_points id f) (body_points id f) ≡ true
function_plain id f h =
    let all = body_points id f in
    (block_fine all (InLines h.0) (lines_rise h.0) (lines_fine all h.0) f.line h.1 (Entry id) (Entry id) f.body (within_itself all (Entry id)) h.2 (all_known all)).plain
