-- Points on some lines that are plain: how they are put together.
use Rattle.std.proofs.Common.{Bool, List, [], ap, arith, false, not, refl, true, ℕ, ◌&&◌, ◌++◌, ◌<◌, ◌||◌, ◌∙◌, ◌∷◌, ◌≡◌, ◌≤◌}
use Rattle.std.proofs.lemmas.Bool.{and_from, and_parts, eq-eqb, eqb-true, or_left, or_right}
use Rattle.std.proofs.lemmas.List.Folds.{list_all-append}
use Rattle.std.specs.List.{AllByRecursion, list_all, list_any}
use Rattle.std.specs.Prelude.{◌==◌}
use Rattle.pyn_base.specs.declared.ids.NodeId.{NodeId}
use Rattle.goal_model.specs.Parents.{same_kind}
use Rattle.goal_model.specs.declared.kind.GoalKind.{GoalKind}
use Rattle.goal_model.specs.declared.kind.GoalKind.TheVariants.{Branch, Entry, Reached}
use Rattle.goal_model.specs.declared.point.Point.{Point}
use Rattle.goal_model.specs.declared.point.Point.TheVariants.{Decision, Statement}
use Rattle.line_laws.proofs.Lists.{all_also, all_join}
use Rattle.line_laws.specs.PlainLines.{are_plain, follows, governs, is_within}

abbrev pub Between : ℕ → ℕ → Point → Type 0
Between start end (Statement node line governor) = (start ≤ line) × (line < end)
Between start end (Decision node line governor) = Unit {0}

wider : (a b c d : ℕ) → c ≤ a → b ≤ d → (p : Point) → Between a b p → Between c d p
wider a b c d h k (Statement node line governor) i = (omega (arith, h, i), omega (arith, k, i))
wider a b c d h k (Decision node line governor) i = tt

kind_itself : (g : GoalKind) → same_kind g g ≡ true
kind_itself (Entry a) = eq-eqb a.0 a.0 refl
kind_itself (Branch a true) = ap (λ b. b && true) (eq-eqb a.0 a.0 refl)
kind_itself (Branch a false) = ap (λ b. b && true) (eq-eqb a.0 a.0 refl)
kind_itself (Reached a) = eq-eqb a.0 a.0 refl

apart : (a b : ℕ) (w : Bool) → b < a → (not (a == b) || w) ≡ true
apart a b w lt = by (a == b) refl
  where
    by : (c : Bool) → (a == b) ≡ c → (not c || w) ≡ true
    by true e = absurd (let same = eqb-true a b e in omega (arith, lt, same))
    by false e = refl

abbrev pub IsDecision : Point → Type 0
IsDecision (Statement node line governor) = ⊥
IsDecision (Decision node line governor) = Unit {0}

module _ (all : List Point) where
  -- what a point governs is known of the whole
  abbrev pub Knows : Point → Type 0
  Knows p = (outer inner : GoalKind) → governs outer inner p ≡ true → list_any (governs outer inner) all ≡ true

  -- points on lines from one on and before another: they are plain, and what stands on an earlier line, or on the first for this goal, leads to them
  pub record Fine (start end : ℕ) (g : GoalKind) (ps : List Point) : Type 0 where
    pub range : AllByRecursion (Between start end) ps
    pub plain : are_plain all ps ≡ true
    pub led : (line : ℕ) → line ≤ start → list_all (follows all line g) ps ≡ true

  pub led_apart : (line start end : ℕ) (outer : GoalKind) (ps : List Point) → line < start → AllByRecursion (Between start end) ps → list_all (follows all line outer) ps ≡ true
  led_apart line start end outer [] lt h = refl
  led_apart line start end outer (Statement node other inner ∷ ps) lt h =
      and_from (not (other == line) || is_within all outer inner) _ (apart other line (is_within all outer inner) (let at = h.0.0 in omega (arith, lt, at))) (led_apart line start end outer ps lt h.1)
  led_apart line start end outer (Decision node other inner ∷ ps) lt h = led_apart line start end outer ps lt h.1

  pub led_join : (line : ℕ) (outer : GoalKind) (ps qs : List Point) → list_all (follows all line outer) ps ≡ true → list_all (follows all line outer) qs ≡ true → list_all (follows all line outer) (ps ++ qs) ≡ true
  led_join line outer ps qs h k = list_all-append (follows all line outer) ps qs ∙ and_from (list_all (follows all line outer) ps) _ h k

  plain_join : (start middle end : ℕ) (ps qs : List Point) → AllByRecursion (Between start middle) ps → AllByRecursion (Between middle end) qs → are_plain all ps ≡ true → are_plain all qs ≡ true → are_plain all (ps ++ qs) ≡ true
  plain_join start middle end [] qs h k p q = q
  plain_join start middle end (Statement node line g ∷ ps) qs h k p q =
      and_from (list_all (follows all line g) (ps ++ qs)) _
      (led_join line g ps qs (and_parts (list_all (follows all line g) ps) (are_plain all ps) p).0 (led_apart line middle end g qs h.0.1 k))
      (plain_join start middle end ps qs h.1 k (and_parts (list_all (follows all line g) ps) (are_plain all ps) p).1 q)
  plain_join start middle end (Decision node line g ∷ ps) qs h k p q = plain_join start middle end ps qs h.1 k p q

  range_join : (start middle middle' end : ℕ) (ps qs : List Point) → start ≤ middle' → middle ≤ end → AllByRecursion (Between start middle) ps → AllByRecursion (Between middle' end) qs → AllByRecursion (Between start end) (ps ++ qs)
  range_join start middle middle' end ps qs h k p q = all_join (Between start end) ps qs
      (all_also (Between start middle) (Between start end) (wider start middle start end (omega arith) k) ps p)
      (all_also (Between middle' end) (Between start end) (wider middle' end start end h (omega arith)) qs q)

  -- where these points lie, and that they are plain
  pub record Lies (start end : ℕ) (ps : List Point) : Type 0 where
    pub range : AllByRecursion (Between start end) ps
    pub plain : are_plain all ps ≡ true

  pub lies : (start end : ℕ) (g : GoalKind) (ps : List Point) → Fine start end g ps → Lies start end ps
  lies start end g ps h = record { range = h.range; plain = h.plain }

  pub later_range : (middle later end : ℕ) (ps : List Point) → middle ≤ later → AllByRecursion (Between later end) ps → AllByRecursion (Between middle end) ps
  later_range middle later end ps le h = all_also (Between later end) (Between middle end) (wider later end middle end le (omega arith)) ps h

  -- one part after another, on later lines
  pub fine_join : (start middle later end : ℕ) (g : GoalKind) (ps qs : List Point) → start < middle → middle ≤ later → later ≤ end → Fine start middle g ps → Lies later end qs → Fine start end g (ps ++ qs)
  fine_join start middle later end g ps qs lt le le' h k =
      let range = later_range middle later end qs le k.range in
      record {
        range = range_join start middle middle end ps qs (omega (arith, lt)) (omega (arith, le, le')) h.range range;
        plain = plain_join start middle end ps qs h.range range h.plain k.plain;
        led = λ line at. led_join line g ps qs (h.led line at) (led_apart line middle end g qs (omega (arith, at, lt)) range);
      }

  pub fine_none : (start end : ℕ) (g : GoalKind) → Fine start end g []
  fine_none start end g = record { range = tt; plain = refl; led = λ line at. refl }

  pub fine_decision : (start end : ℕ) (g : GoalKind) (node : NodeId) (line : ℕ) (g' : GoalKind) (ps : List Point) → Fine start end g ps → Fine start end g (Decision node line g' ∷ ps)
  fine_decision start end g node line g' ps h = record { range = (tt, h.range); plain = h.plain; led = h.led }

  -- a statement before what is in it, and what may be on its line
  pub fine_statement : (start line end : ℕ) (g : GoalKind) (node : NodeId) (ps : List Point) → start ≤ line → line < end → Fine line end g ps → Fine start end g (Statement node line g ∷ ps)
  fine_statement start line end g node ps le lt h = record {
    range = ((le, lt), all_also (Between line end) (Between start end) (wider line end start end le (omega arith)) ps h.range);
    plain = and_from (list_all (follows all line g) ps) (are_plain all ps) (h.led line (omega arith)) h.plain;
    led = λ before at. and_from (not (line == before) || is_within all g g) (list_all (follows all before g) ps)
        (or_right (not (line == before)) (is_within all g g) (or_left (same_kind g g) _ (kind_itself g))) (h.led before (omega (arith, at, le)));
  }

  -- ---- points that are decisions

  pub fine_decisions : (start end : ℕ) (g : GoalKind) (ds ps : List Point) → AllByRecursion IsDecision ds → Fine start end g ps → Fine start end g (ds ++ ps)
  fine_decisions start end g [] ps h k = k
  fine_decisions start end g (Statement node line g' ∷ ds) ps h k = absurd h.0
  fine_decisions start end g (Decision node line g' ∷ ds) ps h k = fine_decision start end g node line g' (ds ++ ps) (fine_decisions start end g ds ps h.1 k)

  pub led_decisions : (line : ℕ) (outer : GoalKind) (ds : List Point) → AllByRecursion IsDecision ds → list_all (follows all line outer) ds ≡ true
  led_decisions line outer [] h = refl
  led_decisions line outer (Statement node other g ∷ ds) h = absurd h.0
  led_decisions line outer (Decision node other g ∷ ds) h = led_decisions line outer ds h.1

  -- ---- goals within goals

  pub within_itself : (g : GoalKind) → is_within all g g ≡ true
  within_itself g = or_left (same_kind g g) (list_any (governs g g) all) (kind_itself g)

  pub governed_by : (g : GoalKind) (node : NodeId) (line : ℕ) → Knows (Decision node line g) → is_within all g (Branch node true) ≡ true
  governed_by g node line k = or_right (same_kind (Branch node true) g) _
      (k g (Branch node true) (and_from (same_kind g g) _ (kind_itself g) (or_left (same_kind (Branch node true) (Branch node true)) _ (kind_itself (Branch node true)))))
