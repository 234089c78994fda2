-- Numbering the nodes of a statement leaves all that is blind to lines and node numbers.
use Rattle.std.proofs.Common.{◌≡◌, ◌∙◌, refl, sym, ap, ap₂, subst, ℕ, Bool, List, Option, Some, None, [], ◌∷◌, ◌++◌, map}
use Rattle.std.specs.Option.{option_map}
use Rattle.pyn_base.specs.declared.ids.NodeId.{NodeId}
use Rattle.py_language.specs.TreesNumbers.{Numbered, in_order as each, numbered}
use Rattle.py_language.specs.TreesPlaces.{Level, Listed, Postfix}
use Rattle.py_language.specs.declared.token.Mark.TheVariants as m
use Rattle.py_language.specs.declared.token.Token.TheVariants as t
use Rattle.py_syntax.specs.declared.expr.Expr.{Expr}
use Rattle.py_syntax.specs.declared.operator.BinOp.{BinOp}
use Rattle.py_syntax.specs.declared.stmt.Annotation.{Annotation}
use Rattle.py_syntax.specs.declared.stmt.Clause.{Clause, Clause-F, fold-Clause, fold-roll-Clause, map-Clause, roll-Clause}
use Rattle.py_syntax.specs.declared.stmt.Stmt.{Stmt, Stmt-F, fold-Stmt, fold-roll-Stmt, ind-Stmt, map-Stmt, roll-Stmt}
use Rattle.py_syntax.specs.declared.stmt.StmtKind.{StmtKind, StmtKind-F, fold-StmtKind, fold-roll-StmtKind, fold_out-StmtKind, map-StmtKind, out-StmtKind, roll-StmtKind}
use Rattle.py_syntax.specs.declared.stmt.StmtKind.TheVariants as s
use Rattle.py_syntax.specs.declared.stmt.StmtKind.TheVariants.{outs-Pass, outs-Break, outs-Continue, outs-Return, outs-Raise, outs-Assert, outs-Del, outs-Assign, outs-Augment, outs-Bare, outs-If, outs-While, outs-For, outs-Try}
use Rattle.py_syntax.specs.declared.stmt.Target.{Target}
use Rattle.py_syntax.specs.declared.stmt.Target.TheVariants as target
use Rattle.py_nodes.specs.Expressions.{after, expr}
use Rattle.py_nodes.specs.Numbers.{Block, target_numbered, maybe_expr, arm_by, kind_by, clause_by, stmt_by, stmt, clause as clause_numbers, kind}
use Rattle.py_printing.specs.Expressions.{expr_tokens, unnumbered}
use Rattle.py_printing.specs.Texts.{shape_tokens}
use Rattle.py_layout.specs.Small.{fresh, fresh_target, target_tokens}
use Rattle.printing_laws.proofs.NumberedExpressions.{shape_kept}

-- ---- what is the same of expressions and targets

abbrev pub SameExpr : Expr → Expr → Type 0
SameExpr x y = unnumbered x ≡ unnumbered y

abbrev pub SameMaybe : Option Expr → Option Expr → Type 0
SameMaybe x y = option_map unnumbered x ≡ option_map unnumbered y

abbrev pub SameTargets : List Target → List Target → Type 0
SameTargets xs ys = (map target_tokens xs ≡ map target_tokens ys) × (map (fresh_target 0) xs ≡ map (fresh_target 0) ys)

abbrev pub SameTarget : Target → Target → Type 0
SameTarget x y = (target_tokens x ≡ target_tokens y) × (fresh_target 0 x ≡ fresh_target 0 y)

-- arms of which only the tests are expressions
abbrev pub SameArms : {B : Type 0} → List (Expr × B) → List (Expr × B) → Type 0
SameArms [] [] = Unit {0}
SameArms (x ∷ xs) (y ∷ ys) = SameExpr x.0 y.0 × (x.1 ≡ y.1) × SameArms xs ys
SameArms _ _ = ⊥

-- a fold that sees neither lines nor node numbers
pub record Blind {K C S : Type 0} (kb : StmtKind-F K C S → K) (cb : Clause-F K C S → C) (sb : Stmt-F K C S → S) : Type 0 where
  pub returned : (x y : Option Expr) → SameMaybe x y → kb (StmtKind-F.Return x) ≡ kb (StmtKind-F.Return y)
  pub raised : (x y : Option Expr) → SameMaybe x y → kb (StmtKind-F.Raise x) ≡ kb (StmtKind-F.Raise y)
  pub asserted : (x y : Expr) (m n : Option Expr) → SameExpr x y → SameMaybe m n → kb (StmtKind-F.Assert x m) ≡ kb (StmtKind-F.Assert y n)
  pub deleted : (x y i j : Expr) → SameExpr x y → SameExpr i j → kb (StmtKind-F.Del x i) ≡ kb (StmtKind-F.Del y j)
  pub assigned : (ts us : List Target) (is_tuple : Bool) (type : Option Annotation) (x y : Expr) → SameTargets ts us → SameExpr x y → kb (StmtKind-F.Assign ts is_tuple type x) ≡ kb (StmtKind-F.Assign us is_tuple type y)
  pub augmented : (t u : Target) (op : BinOp) (x y : Expr) → SameTarget t u → SameExpr x y → kb (StmtKind-F.Augment t op x) ≡ kb (StmtKind-F.Augment u op y)
  pub bare : (x y : Expr) → SameExpr x y → kb (StmtKind-F.Bare x) ≡ kb (StmtKind-F.Bare y)
  pub branched : (xs ys : List (Expr × List S)) (other : Option (List S)) → SameArms xs ys → kb (StmtKind-F.If xs other) ≡ kb (StmtKind-F.If ys other)
  pub repeated : (x y : Expr) (body : List S) → SameExpr x y → kb (StmtKind-F.While x body) ≡ kb (StmtKind-F.While y body)
  pub walked : (names : List (List ℕ)) (is_tuple : Bool) (x y : Expr) (body : List S) → SameExpr x y → kb (StmtKind-F.For names is_tuple x body) ≡ kb (StmtKind-F.For names is_tuple y body)
  pub handled : (c : Clause-F K C S) (n : NodeId) → cb (record { node = n; line = c.line; classes = c.classes; name = c.name; body = c.body }) ≡ cb c
  pub placed : (x : Stmt-F K C S) (n : NodeId) → sb (record { node = n; line = x.line; kind = x.kind }) ≡ sb x

-- ---- expressions, and targets, that are numbered

module _ (counted : Bool) where
  pub expr_kept : (x : Expr) (n : ℕ) → SameExpr (expr counted x n).0 x
  expr_kept x n = shape_kept counted x x.line n

  maybe_kept : (x : Option Expr) (n : ℕ) → SameMaybe (maybe_expr counted x n).0 x
  maybe_kept None n = refl
  maybe_kept (Some x) n = ap Some (expr_kept x n)

  -- what is made of the shape is the same
  pub fresh_same : (x y : Expr) → SameExpr x y → fresh 0 x ≡ fresh 0 y
  fresh_same x y e = ap (λ z. record { node = (numbered z 0).0.node; line = 0; kind = (numbered z 0).0.kind }) e

  tokens_same : (level : Level) (x y : Expr) → SameExpr x y → expr_tokens level x ≡ expr_tokens level y
  tokens_same level x y e = ap (shape_tokens level) e

  target_kept : (t : Target) (n : ℕ) → SameTarget (target_numbered counted t n).0 t
  target_kept (target.Name name) n = (refl, refl)
  target_kept (target.Attr x name) n =
      let e = expr_kept x n in
      (ap (λ ts. ts ++ t.Mark m.Dot ∷ t.Name name ∷ []) (tokens_same Postfix (expr counted x n).0 x e), ap (λ z. target.Attr z name) (fresh_same (expr counted x n).0 x e))
  target_kept (target.Index x i) n =
      let r = expr counted x n in
      let u = expr counted i r.1 in
      let e = expr_kept x n in
      let f = expr_kept i r.1 in (
        ap₂ (λ ts us. ts ++ t.Mark m.LeftBracket ∷ (us ++ t.Mark m.RightBracket ∷ [])) (tokens_same Postfix r.0 x e) (tokens_same Listed u.0 i f),
        ap₂ target.Index (fresh_same r.0 x e) (fresh_same u.0 i f),
      )

  targets_kept : (ts : List Target) (n : ℕ) → SameTargets (each (map (target_numbered counted) ts) n).0 ts
  targets_kept [] n = (refl, refl)
  targets_kept (t ∷ ts) n =
      let one = target_kept t n in
      let more = targets_kept ts (target_numbered counted t n).1 in
      (ap₂ (λ z zs. z ∷ zs) one.0 more.0, ap₂ (λ z zs. z ∷ zs) one.1 more.1)

  -- ---- statements

  module _ {K C S : Type 0} (kb : StmtKind-F K C S → K) (cb : Clause-F K C S → C) (sb : Stmt-F K C S → S) (blind : Blind kb cb sb) where
    abbrev fk : StmtKind → K
    fk = fold-StmtKind K C S kb cb sb

    abbrev fc : Clause → C
    fc = fold-Clause K C S kb cb sb

    abbrev fs : Stmt → S
    fs = fold-Stmt K C S kb cb sb

    abbrev KindSame : StmtKind → Type 0
    KindSame k = (n : ℕ) → fk (kind counted k n).0 ≡ fk k

    abbrev ClauseSame : Clause → Type 0
    ClauseSame c = (n : ℕ) → fc (clause_numbers counted c n).0 ≡ fc c

    abbrev StmtSame : Stmt → Type 0
    StmtSame x = (n : ℕ) → fs (stmt counted x n).0 ≡ fs x

    abbrev folded : StmtKind-F StmtKind Clause Stmt → K
    folded f = kb (map-StmtKind StmtKind Clause Stmt K C S fk fc fs f)

    is_kind : (k : StmtKind) (f : StmtKind-F StmtKind Clause Stmt) → out-StmtKind k ≡ f → fk k ≡ folded f
    is_kind k f e = fold_out-StmtKind K C S kb cb sb k ∙ ap folded e

    module _ {SK SC SS : Type 0} (vk : SK → StmtKind) (vc : SC → Clause) (vs : SS → Stmt) (hk : (x : SK) → KindSame (vk x)) (hc : (x : SC) → ClauseSame (vc x)) (hs : (x : SS) → StmtSame (vs x)) where
      abbrev under : StmtKind-F SK SC SS → StmtKind-F StmtKind Clause Stmt
      under = map-StmtKind SK SC SS StmtKind Clause Stmt vk vc vs

      abbrev over : StmtKind-F StmtKind Clause Stmt → StmtKind-F (Numbered StmtKind) (Numbered Clause) (Numbered Stmt)
      over = map-StmtKind StmtKind Clause Stmt (Numbered StmtKind) (Numbered Clause) (Numbered Stmt) (kind counted) (clause_numbers counted) (stmt counted)

      abbrev body_of : List SS → Block
      body_of body = map (stmt counted) (map vs body)

      body_same : (body : List SS) (n : ℕ) → map fs (each (body_of body) n).0 ≡ map fs (map vs body)
      body_same [] n = refl
      body_same (x ∷ body) n = ap₂ (λ z zs. z ∷ zs) (hs x n) (body_same body (stmt counted (vs x) n).1)

      clauses_same : (cs : List SC) (n : ℕ) → map fc (each (map (clause_numbers counted) (map vc cs)) n).0 ≡ map fc (map vc cs)
      clauses_same [] n = refl
      clauses_same (c ∷ cs) n = ap₂ (λ z zs. z ∷ zs) (hc c n) (clauses_same cs (clause_numbers counted (vc c) n).1)

      abbrev arms_under : List (Expr × List SS) → List (Expr × List Stmt)
      arms_under arms = map (λ (arm : Expr × List SS). let made : Expr × List Stmt = (arm.0, map vs arm.1) in made) arms

      abbrev arms_of : List (Expr × List SS) → List (Expr × Block)
      arms_of arms = map (λ (arm : Expr × List Stmt). let made : Expr × Block = (arm.0, map (stmt counted) arm.1) in made) (arms_under arms)

      abbrev arms_folded : List (Expr × List Stmt) → List (Expr × List S)
      arms_folded arms = map (λ (arm : Expr × List Stmt). let made : Expr × List S = (arm.0, map fs arm.1) in made) arms

      arms_same : (arms : List (Expr × List SS)) (n : ℕ) → SameArms (arms_folded (each (map (arm_by counted) (arms_of arms)) n).0) (arms_folded (arms_under arms))
      arms_same [] n = tt
      arms_same (arm ∷ arms) n =
          let r = expr counted arm.0 n in
          let t = each (body_of arm.1) r.1 in
          (expr_kept arm.0 n, body_same arm.1 r.1, arms_same arms t.1)

      kind_good : (y : StmtKind-F SK SC SS) (n : ℕ) → fk (kind_by counted (over (under y)) n).0 ≡ folded (under y)
      kind_good StmtKind-F.Pass n = is_kind s.Pass StmtKind-F.Pass outs-Pass
      kind_good StmtKind-F.Break n = is_kind s.Break StmtKind-F.Break outs-Break
      kind_good StmtKind-F.Continue n = is_kind s.Continue StmtKind-F.Continue outs-Continue
      kind_good (StmtKind-F.Return x) n = is_kind _ _ (outs-Return _) ∙ blind.returned _ x (maybe_kept x n)
      kind_good (StmtKind-F.Raise x) n = is_kind _ _ (outs-Raise _) ∙ blind.raised _ x (maybe_kept x n)
      kind_good (StmtKind-F.Assert x m) n = is_kind _ _ (outs-Assert _ _) ∙ blind.asserted _ x _ m (expr_kept x n) (maybe_kept m (expr counted x n).1)
      kind_good (StmtKind-F.Del x i) n = is_kind _ _ (outs-Del _ _) ∙ blind.deleted _ x _ i (expr_kept x n) (expr_kept i (expr counted x n).1)
      kind_good (StmtKind-F.Assign ts is_tuple type x) n =
          is_kind _ _ (outs-Assign _ is_tuple type _) ∙ blind.assigned _ ts is_tuple type _ x (targets_kept ts n) (expr_kept x (each (map (target_numbered counted) ts) n).1)
      kind_good (StmtKind-F.Augment t op x) n = is_kind _ _ (outs-Augment _ op _) ∙ blind.augmented _ t op _ x (target_kept t n) (expr_kept x (target_numbered counted t n).1)
      kind_good (StmtKind-F.Bare x) n = is_kind _ _ (outs-Bare _) ∙ blind.bare _ x (expr_kept x n)
      kind_good (StmtKind-F.If arms None) n = is_kind _ _ (outs-If _ None) ∙ blind.branched _ _ None (arms_same arms n)
      kind_good (StmtKind-F.If arms (Some body)) n =
          let r = each (map (arm_by counted) (arms_of arms)) n in
          is_kind _ _ (outs-If _ (Some _)) ∙ blind.branched _ _ _ (arms_same arms n) ∙ ap (λ b. kb (StmtKind-F.If (arms_folded (arms_under arms)) (Some b))) (body_same body r.1)
      kind_good (StmtKind-F.While x body) n =
          is_kind _ _ (outs-While _ _) ∙ blind.repeated _ x _ (expr_kept x n) ∙ ap (λ b. kb (StmtKind-F.While x b)) (body_same body (expr counted x n).1)
      kind_good (StmtKind-F.For names is_tuple x body) n =
          is_kind _ _ (outs-For names is_tuple _ _) ∙ blind.walked names is_tuple _ x _ (expr_kept x n) ∙ ap (λ b. kb (StmtKind-F.For names is_tuple x b)) (body_same body (expr counted x n).1)
      kind_good (StmtKind-F.Try body cs None None) n =
          let b = each (body_of body) n in
          is_kind _ _ (outs-Try _ _ None None) ∙ ap₂ (λ z w. kb (StmtKind-F.Try z w None None)) (body_same body n) (clauses_same cs b.1)
      kind_good (StmtKind-F.Try body cs None (Some last)) n =
          let b = each (body_of body) n in
          let c = each (map (clause_numbers counted) (map vc cs)) b.1 in
          is_kind _ _ (outs-Try _ _ None (Some _)) ∙ ap₂ (λ z w. kb (StmtKind-F.Try z w None (Some (map fs (each (body_of last) c.1).0)))) (body_same body n) (clauses_same cs b.1)
          ∙ ap (λ z. kb (StmtKind-F.Try (map fs (map vs body)) (map fc (map vc cs)) None (Some z))) (body_same last c.1)
      kind_good (StmtKind-F.Try body cs (Some other) None) n =
          let b = each (body_of body) n in
          let c = each (map (clause_numbers counted) (map vc cs)) b.1 in
          is_kind _ _ (outs-Try _ _ (Some _) None) ∙ ap₂ (λ z w. kb (StmtKind-F.Try z w (Some (map fs (each (body_of other) c.1).0)) None)) (body_same body n) (clauses_same cs b.1)
          ∙ ap (λ z. kb (StmtKind-F.Try (map fs (map vs body)) (map fc (map vc cs)) (Some z) None)) (body_same other c.1)
      kind_good (StmtKind-F.Try body cs (Some other) (Some last)) n =
          let b = each (body_of body) n in
          let c = each (map (clause_numbers counted) (map vc cs)) b.1 in
          let o = each (body_of other) c.1 in
          is_kind _ _ (outs-Try _ _ (Some _) (Some _)) ∙ ap₂ (λ z w. kb (StmtKind-F.Try z w (Some (map fs o.0)) (Some (map fs (each (body_of last) o.1).0)))) (body_same body n) (clauses_same cs b.1)
          ∙ ap₂ (λ z w. kb (StmtKind-F.Try (map fs (map vs body)) (map fc (map vc cs)) (Some z) (Some w))) (body_same other c.1) (body_same last o.1)

      kind_step : (y : StmtKind-F SK SC SS) → KindSame (roll-StmtKind (under y))
      unfolding kind clause_numbers stmt
      kind_step y n =
          ap (λ (q : Numbered StmtKind). fk (q n).0) (fold-roll-StmtKind (Numbered StmtKind) (Numbered Clause) (Numbered Stmt) (kind_by counted) (clause_by counted) (stmt_by counted) (under y))
          ∙ kind_good y n ∙ sym (fold-roll-StmtKind K C S kb cb sb (under y))

      clause_step : (y : Clause-F SK SC SS) → ClauseSame (roll-Clause (map-Clause SK SC SS StmtKind Clause Stmt vk vc vs y))
      unfolding kind clause_numbers stmt
      clause_step y n =
          let z = map-Clause SK SC SS StmtKind Clause Stmt vk vc vs y in
          let m = after counted n in
          ap (λ (q : Numbered Clause). fc (q n).0) (fold-roll-Clause (Numbered StmtKind) (Numbered Clause) (Numbered Stmt) (kind_by counted) (clause_by counted) (stmt_by counted) z)
          ∙ fold-roll-Clause K C S kb cb sb (record { node = record { 0 = n }; line = y.line; classes = y.classes; name = y.name; body = (each (body_of y.body) m).0 })
          ∙ ap (λ b. cb (record { node = record { 0 = n }; line = y.line; classes = y.classes; name = y.name; body = b })) (body_same y.body m)
          ∙ blind.handled (map-Clause StmtKind Clause Stmt K C S fk fc fs z) (record { 0 = n })
          ∙ sym (fold-roll-Clause K C S kb cb sb z)

      stmt_step : (y : Stmt-F SK SC SS) → StmtSame (roll-Stmt (map-Stmt SK SC SS StmtKind Clause Stmt vk vc vs y))
      unfolding kind clause_numbers stmt
      stmt_step y n =
          let z = map-Stmt SK SC SS StmtKind Clause Stmt vk vc vs y in
          let m = after counted n in
          ap (λ (q : Numbered Stmt). fs (q n).0) (fold-roll-Stmt (Numbered StmtKind) (Numbered Clause) (Numbered Stmt) (kind_by counted) (clause_by counted) (stmt_by counted) z)
          ∙ fold-roll-Stmt K C S kb cb sb (record { node = record { 0 = n }; line = y.line; kind = (kind counted (vk y.kind) m).0 })
          ∙ ap (λ k. sb (record { node = record { 0 = n }; line = y.line; kind = k })) (hk y.kind m)
          ∙ blind.placed (map-Stmt StmtKind Clause Stmt K C S fk fc fs z) (record { 0 = n })
          ∙ sym (fold-roll-Stmt K C S kb cb sb z)

    pub stmt_kept : (x : Stmt) → StmtSame x
    stmt_kept = ind-Stmt KindSame ClauseSame StmtSame
        (λ x y is. subst (λ z. KindSame (roll-StmtKind z)) is (kind_step (λ e. e.0) (λ e. e.0) (λ e. e.0) (λ e. e.1) (λ e. e.1) (λ e. e.1) y))
        (λ x y is. subst (λ z. ClauseSame (roll-Clause z)) is (clause_step (λ e. e.0) (λ e. e.0) (λ e. e.0) (λ e. e.1) (λ e. e.1) (λ e. e.1) y))
        (λ x y is. subst (λ z. StmtSame (roll-Stmt z)) is (stmt_step (λ e. e.0) (λ e. e.0) (λ e. e.0) (λ e. e.1) (λ e. e.1) (λ e. e.1) y))
