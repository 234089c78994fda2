-- What the parts of a small statement are that was read from any tokens, and so that it is read back from its own.
use Rattle.std.proofs.Common.{◌≡◌, ◌∙◌, sym, ap, refl, subst, ℕ, Bool, true, false, cond, List, [], ◌∷◌, Option, Some, None}
use Rattle.std.specs.Prelude.{map}
use Rattle.py_cut.specs.Cut as cut
use Rattle.py_cut.specs.Cut.{scan, Passes}
use Rattle.py_language.specs.declared.shape.Bracket.TheVariants.{Square}
use Rattle.py_language.specs.declared.token.Token.{Token}
use Rattle.py_language.specs.declared.token.Token.TheVariants as t
use Rattle.py_language.specs.declared.token.Keyword.TheVariants as k
use Rattle.py_language.specs.declared.token.Mark.TheVariants as m
use Rattle.py_language.specs.TreesPlaces.{Level, Listed, Conditional, Postfix}
use Rattle.py_language.specs.Trees.{◌>>=◌, each}
use Rattle.py_syntax.specs.declared.expr.Expr.{Expr}
use Rattle.py_syntax.specs.declared.operator.BinOp.{BinOp}
use Rattle.py_syntax.specs.declared.stmt.Annotation.{Annotation}
use Rattle.py_syntax.specs.declared.stmt.StmtKind.{StmtKind, StmtKind-F, out-StmtKind}
use Rattle.py_syntax.specs.declared.stmt.StmtKind.TheVariants as s
use Rattle.py_syntax.specs.declared.stmt.StmtKind.TheVariants.{outs-Pass, outs-Break, outs-Continue, outs-Return, outs-Raise, outs-Assert, outs-Del, outs-Assign, outs-Augment, outs-Bare}
use Rattle.py_syntax.specs.declared.stmt.Clause.{Clause}
use Rattle.py_syntax.specs.declared.stmt.Stmt.{Stmt}
use Rattle.py_syntax.specs.declared.stmt.Target.{Target}
use Rattle.py_syntax.specs.declared.stmt.Target.TheVariants as to
use Rattle.py_grammar.specs.declared.separator.Separator.{Separator}
use Rattle.py_grammar.specs.declared.separator.Separator.TheVariants.{Comma, Colon, Equal, Assign, Part}
use Rattle.py_grammar.specs.Annotations.{annotation}
use Rattle.py_grammar.specs.Separators.{opened, outside, front, back, last_cut, split, trimmed, parts, some_parts, is_some, has, inside}
use Rattle.py_grammar.specs.Statements as g
use Rattle.py_printing.specs.Expressions.{ShapesReadBack}
use Rattle.py_layout.specs.Quiet.{ExpressionsAreQuiet}
use Rattle.py_layout.specs.Starts.{ExpressionsBegin}
use Rattle.py_layout.specs.Small.{small_by, small_tokens, fresh_by, fresh_small, ReadsBack, SmallReadBack}
use Rattle.py_layout.proofs.Cutting.{front_pass, pieces_pass, none_behind}
use Rattle.py_layout.proofs.Small.{some_bind, some_is, ReadAt, read_at, MaybeRead, TargetRead, TargetsRead, maybe_back, assign_back, augment_back, typed_back, assert_back, delete_back, bare_back}

module _ (before : ℕ) where
  -- ---- the parts

  pub maybe_read : (level : Level) (ts : List Token) (x : Option Expr) → g.maybe before level ts ≡ Some x → MaybeRead before level x
  maybe_read level [] x e = subst (MaybeRead before level) (some_is None x e) tt
  maybe_read level (y ∷ ys) x e =
      let f = some_bind (g.expr_at before level (y ∷ ys)) (λ z. Some (Some z)) x e in
      subst (MaybeRead before level) (some_is (Some f.0) x f.1.1) (read_at before level (y ∷ ys) f.0 f.1.0)

  subscript_read : (object xs : List Token) (p : Expr × Expr) → g.subscript before object xs ≡ Some p → ReadAt before Postfix p.0 × ReadAt before Listed p.1
  subscript_read object xs p e =
      let f = some_bind (g.expr_at before Postfix object) (λ x. inside Square xs >>= λ content. g.exprs before content >>= λ i. Some (x, i)) p e in
      let h = some_bind (inside Square xs) (λ content. g.exprs before content >>= λ i. Some (f.0, i)) p f.1.1 in
      let j = some_bind (g.exprs before h.0) (λ i. Some (f.0, i)) p h.1.1 in
      subst (λ (p : Expr × Expr). ReadAt before Postfix p.0 × ReadAt before Listed p.1) (some_is (f.0, j.0) p j.1.1) (read_at before Postfix object f.0 f.1.0, read_at before Listed h.0 j.0 j.1.0)

  target_at_read : (object : List Token) (x : Token) (xs : List Token) (a : Target) → g.target_at before object x xs ≡ Some a → TargetRead before a
  target_at_read object (t.Mark m.Dot) xs a e =
      let f = some_bind (g.name xs) (λ n. g.expr_at before Postfix object >>= λ x. Some (to.Attr x n)) a e in
      let h = some_bind (g.expr_at before Postfix object) (λ x. Some (to.Attr x f.0)) a f.1.1 in
      subst (TargetRead before) (some_is (to.Attr h.0 f.0) a h.1.1) (read_at before Postfix object h.0 h.1.0)
  target_at_read object (t.Mark m.LeftBracket) xs a e =
      let f = some_bind (g.subscript before object xs) (λ p. Some (to.Index p.0 p.1)) a e in
      subst (TargetRead before) (some_is (to.Index f.0.0 f.0.1) a f.1.1) (subscript_read object xs f.0 f.1.0)
  target_at_read object _ xs a e = absurd (cc)

  cut_read : (o : Option (List Token × Token × List Token)) (a : Target) → (o >>= λ c. g.target_at before c.0 c.1 c.2) ≡ Some a → TargetRead before a
  cut_read o a e = let f = some_bind o (λ c. g.target_at before c.0 c.1 c.2) a e in target_at_read f.0.0 f.0.1 f.0.2 a f.1.1

  target_read : (ts : List Token) (a : Target) → g.target before ts ≡ Some a → TargetRead before a
  target_read (t.Name n ∷ []) a e = subst (TargetRead before) (some_is (to.Name n) a e) tt
  target_read [] a e = cut_read (last_cut Part []) a e
  target_read (t.Name n ∷ x ∷ xs) a e = cut_read (last_cut Part (t.Name n ∷ x ∷ xs)) a e
  target_read (t.Keyword w ∷ xs) a e = cut_read (last_cut Part (t.Keyword w ∷ xs)) a e
  target_read (t.Int n ∷ xs) a e = cut_read (last_cut Part (t.Int n ∷ xs)) a e
  target_read (t.Str text ∷ xs) a e = cut_read (last_cut Part (t.Str text ∷ xs)) a e
  target_read (t.Mark w ∷ xs) a e = cut_read (last_cut Part (t.Mark w ∷ xs)) a e

  each_read : (parts : List (List Token)) (targets : List Target) → each (g.target before) parts ≡ Some targets → TargetsRead before targets
  each_read [] targets e = subst (TargetsRead before) (some_is [] targets e) tt
  each_read (xs ∷ more) targets e =
      let f = some_bind (g.target before xs) (λ first. each (g.target before) more >>= λ others. Some (first ∷ others)) targets e in
      let h = some_bind (each (g.target before) more) (λ others. Some (f.0 ∷ others)) targets f.1.1 in
      subst (TargetsRead before) (some_is (f.0 ∷ h.0) targets h.1.1) (target_read xs f.0 f.1.0, each_read more h.0 h.1.0)

  -- ---- a list of targets has one, and without a comma no more

  trimmed_filled : (x : Token) (xs : List Token) (more : List (List Token)) → trimmed ((x ∷ xs) ∷ more) ≡ (x ∷ xs) ∷ trimmed more
  trimmed_filled x xs [] = refl
  trimmed_filled x xs (ys ∷ more) = refl

  abbrev pub Filled : List (List Token) → Type 0
  Filled ts = (z : List Token) × ((zs : List (List Token)) × (ts ≡ z ∷ zs))

  pub split_filled : (p : Separator) (x : Token) (xs : List Token) → Filled (trimmed (split p (x ∷ xs)))
  split_filled p x xs = by (outside p 0 x)
    where
      by : (v : Bool) → Filled (trimmed (cond v [] (x ∷ cut.front opened (outside p) (opened 0 x) xs) ∷ map (λ (q : Token × List Token). q.1) (cond v ((x, cut.front opened (outside p) (opened 0 x) xs) ∷ cut.pieces opened (outside p) (opened 0 x) xs) (cut.pieces opened (outside p) (opened 0 x) xs))))
      by true = ([], (_, refl))
      by false = (x ∷ cut.front opened (outside p) (opened 0 x) xs, (_, trimmed_filled x _ _))

  pub each_filled : {B : Type 0} (f : List Token → Option B) (parts : List (List Token)) (all : List B) → Filled parts → each f parts ≡ Some all → (a : B) × ((more : List B) × (all ≡ a ∷ more))
  each_filled f parts all w e =
      let e' : each f (w.0 ∷ w.1.0) ≡ Some all = ap (each f) (sym w.1.1) ∙ e in
      let h = some_bind (f w.0) (λ first. each f w.1.0 >>= λ others. Some (first ∷ others)) all e' in
      let j = some_bind (each f w.1.0) (λ others. Some (h.0 ∷ others)) all h.1.1 in
      (h.0, (j.0, sym (some_is (h.0 ∷ j.0) all j.1.1)))

  none_there : (ts : List Token) → is_some ts ≡ false → ts ≡ []
  none_there [] e = refl
  none_there (x ∷ xs) e = absurd (cc)

  -- without a comma there is one part
  pub lone_part : (x : Token) (xs : List Token) → has Comma (x ∷ xs) ≡ false → trimmed (split Comma (x ∷ xs)) ≡ (x ∷ xs) ∷ []
  lone_part x xs e =
      let h = none_behind opened (outside Comma) 0 (x ∷ xs) (none_there (back Comma (x ∷ xs)) e) in
      ap (λ z. trimmed (z ∷ map (λ (q : Token × List Token). q.1) (cut.pieces opened (outside Comma) 0 (x ∷ xs)))) (front_pass opened (outside Comma) 0 (x ∷ xs) h)
      ∙ ap (λ z. trimmed ((x ∷ xs) ∷ map (λ (q : Token × List Token). q.1) z)) (pieces_pass opened (outside Comma) 0 (x ∷ xs) h)

  pub lone_one : {B : Type 0} (f : List Token → Option B) (parts : List (List Token)) (ts : List Token) (a : B) (more : List B) → parts ≡ ts ∷ [] → each f parts ≡ Some (a ∷ more) → more ≡ []
  lone_one f parts ts a more is e =
      let e' : each f (ts ∷ []) ≡ Some (a ∷ more) = ap (each f) (sym is) ∙ e in
      let h = some_bind (f ts) (λ first. Some (first ∷ [])) (a ∷ more) e' in
      let j = some_is (h.0 ∷ []) (a ∷ more) h.1.1 in
      (let k : more ≡ [] = cc in k)

  -- ---- the forms

  abbrev IsAnnotation : Annotation → Type 0
  IsAnnotation a = (ts : List Token) × (annotation ts ≡ Some a)

  pub data SmallForm (kind : StmtKind) : Type 0 where
    of_pass : kind ≡ s.Pass → SmallForm kind
    of_break : kind ≡ s.Break → SmallForm kind
    of_continue : kind ≡ s.Continue → SmallForm kind
    of_return : (x : Option Expr) → kind ≡ s.Return x → MaybeRead before Listed x → SmallForm kind
    of_raise : (x : Option Expr) → kind ≡ s.Raise x → MaybeRead before Conditional x → SmallForm kind
    of_assert : (test : Expr) (message : Option Expr) → kind ≡ s.Assert test message → ReadAt before Conditional test → MaybeRead before Conditional message → SmallForm kind
    of_del : (of at : Expr) → kind ≡ s.Del of at → ReadAt before Postfix of → ReadAt before Listed at → SmallForm kind
    of_assign : (a : Target) (more : List Target) (is_tuple : Bool) (x : Expr) → kind ≡ s.Assign (a ∷ more) is_tuple None x → (is_tuple ≡ false → more ≡ []) → TargetsRead before (a ∷ more) → ReadAt before Listed x → SmallForm kind
    of_typed : (a : Target) (type : Annotation) (x : Expr) → kind ≡ s.Assign (a ∷ []) false (Some type) x → TargetRead before a → g.unindexed a ≡ Some a → IsAnnotation type → ReadAt before Listed x → SmallForm kind
    of_augment : (a : Target) (op : BinOp) (x : Expr) → kind ≡ s.Augment a op x → TargetRead before a → ReadAt before Listed x → SmallForm kind
    of_bare : (x : Expr) → kind ≡ s.Bare x → ReadAt before Listed x → SmallForm kind

  alone_is : (made kind : StmtKind) (xs : List Token) → g.alone made xs ≡ Some kind → kind ≡ made
  alone_is made kind [] e = sym (some_is made kind e)
  alone_is made kind (x ∷ xs) e = absurd (cc)

  bound_form : (ahead xs : List Token) (kind : StmtKind) → g.bound before ahead xs ≡ Some kind → SmallForm kind
  bound_form [] xs kind e = absurd (cc)
  bound_form (y ∷ ys) xs kind e =
      let F = y ∷ ys in
      let f = some_bind (some_parts Comma (g.target before) F) (λ targets. g.exprs before xs >>= λ value. Some (s.Assign targets (has Comma F) None value)) kind e in
      let h = some_bind (g.exprs before xs) (λ value. Some (s.Assign f.0 (has Comma F) None value)) kind f.1.1 in
      let n = each_filled (g.target before) (trimmed (split Comma F)) f.0 (split_filled Comma y ys) f.1.0 in
      let parts : each (g.target before) (trimmed (split Comma F)) ≡ Some (n.0 ∷ n.1.0) = f.1.0 ∙ ap Some n.1.1 in
      of_assign n.0 n.1.0 (has Comma F) h.0 (sym (some_is _ kind h.1.1) ∙ ap (λ targets. s.Assign targets (has Comma F) None h.0) n.1.1)
      (λ w. lone_one (g.target before) (trimmed (split Comma F)) F n.0 n.1.0 (lone_part y ys w) parts)
      (each_read (trimmed (split Comma F)) (n.0 ∷ n.1.0) parts) (read_at before Listed xs h.0 h.1.0)

  augmented_form : (ahead : List Token) (x : Token) (xs : List Token) (kind : StmtKind) → g.augmented before ahead x xs ≡ Some kind → SmallForm kind
  augmented_form ahead x xs kind e =
      let o = some_bind (g.augmenting x) (λ operator. g.target before ahead >>= λ changed. g.exprs before xs >>= λ value. Some (s.Augment changed operator value)) kind e in
      let f = some_bind (g.target before ahead) (λ changed. g.exprs before xs >>= λ value. Some (s.Augment changed o.0 value)) kind o.1.1 in
      let h = some_bind (g.exprs before xs) (λ value. Some (s.Augment f.0 o.0 value)) kind f.1.1 in
      of_augment f.0 o.0 h.0 (sym (some_is _ kind h.1.1)) (target_read ahead f.0 f.1.0) (read_at before Listed xs h.0 h.1.0)

  bare_form : (ts : List Token) (kind : StmtKind) → (g.exprs before ts >>= λ x. Some (s.Bare x)) ≡ Some kind → SmallForm kind
  bare_form ts kind e =
      let f = some_bind (g.exprs before ts) (λ x. Some (s.Bare x)) kind e in
      of_bare f.0 (sym (some_is (s.Bare f.0) kind f.1.1)) (read_at before Listed ts f.0 f.1.0)

  unannotated_form : (ts ahead rest : List Token) (kind : StmtKind) → g.unannotated_by before ts ahead rest ≡ Some kind → SmallForm kind
  unannotated_form ts ahead [] kind e = bare_form ts kind e
  unannotated_form ts ahead (t.Mark m.Equal ∷ xs) kind e = bound_form ahead xs kind e
  unannotated_form ts ahead (x ∷ xs) kind e = augmented_form ahead x xs kind e

  unindexed_is : (a b : Target) → g.unindexed a ≡ Some b → (a ≡ b) × (g.unindexed b ≡ Some b)
  unindexed_is (to.Name n) b e = let i = some_is (to.Name n) b e in (i, subst (λ z. g.unindexed z ≡ Some z) i refl)
  unindexed_is (to.Attr of n) b e = let i = some_is (to.Attr of n) b e in (i, subst (λ z. g.unindexed z ≡ Some z) i refl)
  unindexed_is (to.Index of at) b e = absurd (cc)

  annotated_form : (ahead type rest : List Token) (kind : StmtKind) → g.annotated_by before ahead type rest ≡ Some kind → SmallForm kind
  annotated_form ahead type [] kind e = absurd (cc)
  annotated_form ahead type (x ∷ xs) kind e =
      let b = some_bind (g.target before ahead >>= g.unindexed) (λ bound. annotation type >>= λ of_type. g.exprs before xs >>= λ value. Some (s.Assign (bound ∷ []) false (Some of_type) value)) kind e in
      let a = some_bind (g.target before ahead) g.unindexed b.0 b.1.0 in
      let o = some_bind (annotation type) (λ of_type. g.exprs before xs >>= λ value. Some (s.Assign (b.0 ∷ []) false (Some of_type) value)) kind b.1.1 in
      let h = some_bind (g.exprs before xs) (λ value. Some (s.Assign (b.0 ∷ []) false (Some o.0) value)) kind o.1.1 in
      let u = unindexed_is a.0 b.0 a.1.1 in
      of_typed b.0 o.0 h.0 (sym (some_is _ kind h.1.1)) (subst (TargetRead before) u.0 (target_read ahead a.0 a.1.0)) u.1 (type, o.1.0) (read_at before Listed xs h.0 h.1.0)

  assignment_form : (ts ahead rest : List Token) (kind : StmtKind) → g.assignment_by before ts ahead rest ≡ Some kind → SmallForm kind
  assignment_form ts ahead [] kind e = unannotated_form ts (front Assign ts) (back Assign ts) kind e
  assignment_form ts ahead (x ∷ xs) kind e = annotated_form ahead (front Equal xs) (back Equal xs) kind e

  asserted_form : (ahead rest : List Token) (kind : StmtKind) → g.asserted_by before ahead rest ≡ Some kind → SmallForm kind
  asserted_form ahead [] kind e =
      let f = some_bind (g.expr before ahead) (λ x. Some (s.Assert x None)) kind e in
      of_assert f.0 None (sym (some_is (s.Assert f.0 None) kind f.1.1)) (read_at before Conditional ahead f.0 f.1.0) tt
  asserted_form ahead (x ∷ xs) kind e =
      let f = some_bind (g.expr before ahead) (λ tested. g.expr before xs >>= λ message. Some (s.Assert tested (Some message))) kind e in
      let h = some_bind (g.expr before xs) (λ message. Some (s.Assert f.0 (Some message))) kind f.1.1 in
      of_assert f.0 (Some h.0) (sym (some_is _ kind h.1.1)) (read_at before Conditional ahead f.0 f.1.0) (read_at before Conditional xs h.0 h.1.0)

  deleted_at_form : (object : List Token) (x : Token) (xs : List Token) (kind : StmtKind) → g.deleted_at before object x xs ≡ Some kind → SmallForm kind
  deleted_at_form object (t.Mark m.LeftBracket) xs kind e =
      let f = some_bind (g.subscript before object xs) (λ p. Some (s.Del p.0 p.1)) kind e in
      let r = subscript_read object xs f.0 f.1.0 in
      of_del f.0.0 f.0.1 (sym (some_is (s.Del f.0.0 f.0.1) kind f.1.1)) r.0 r.1
  deleted_at_form object _ xs kind e = absurd (cc)

  deleted_form : (xs : List Token) (kind : StmtKind) → g.deleted before xs ≡ Some kind → SmallForm kind
  deleted_form xs kind e = let f = some_bind (last_cut Part xs) (λ c. g.deleted_at before c.0 c.1 c.2) kind e in deleted_at_form f.0.0 f.0.1 f.0.2 kind f.1.1

  pub small_form : (ts : List Token) (kind : StmtKind) → g.small before ts ≡ Some kind → SmallForm kind
  small_form (t.Keyword k.Pass ∷ xs) kind e = of_pass (alone_is s.Pass kind xs e)
  small_form (t.Keyword k.Break ∷ xs) kind e = of_break (alone_is s.Break kind xs e)
  small_form (t.Keyword k.Continue ∷ xs) kind e = of_continue (alone_is s.Continue kind xs e)
  small_form (t.Keyword k.Return ∷ xs) kind e =
      let f = some_bind (g.maybe before Listed xs) (λ x. Some (s.Return x)) kind e in of_return f.0 (sym (some_is (s.Return f.0) kind f.1.1)) (maybe_read Listed xs f.0 f.1.0)
  small_form (t.Keyword k.Raise ∷ xs) kind e =
      let f = some_bind (g.maybe before Conditional xs) (λ x. Some (s.Raise x)) kind e in of_raise f.0 (sym (some_is (s.Raise f.0) kind f.1.1)) (maybe_read Conditional xs f.0 f.1.0)
  small_form (t.Keyword k.Assert ∷ xs) kind e = asserted_form (front Comma xs) (back Comma xs) kind e
  small_form (t.Keyword k.Del ∷ xs) kind e = deleted_form xs kind e
  small_form xs kind e = assignment_form xs (front Colon xs) (back Colon xs) kind e

-- ---- the law

module _ (quiet : ExpressionsAreQuiet) (begins : ExpressionsBegin) (own : ShapesReadBack) (annotated : Annotation → List Token) (reads : ReadsBack annotated) (before line : ℕ) where
  -- by one level of a statement
  by_level : (kind made : StmtKind) (level : StmtKind-F StmtKind Clause Stmt) → kind ≡ made → out-StmtKind made ≡ level
      → g.small line (small_by annotated level) ≡ Some (fresh_by line kind level) → g.small line (small_tokens annotated kind) ≡ Some (fresh_small line kind)
  by_level kind made level is out h = subst (λ z. g.small line (small_by annotated z) ≡ Some (fresh_by line kind z)) (sym (ap out-StmtKind is ∙ out)) h

  pub form_back : (kind : StmtKind) → SmallForm before kind → g.small line (small_tokens annotated kind) ≡ Some (fresh_small line kind)
  form_back kind (of_pass is) = by_level kind _ _ is outs-Pass (ap Some (sym is))
  form_back kind (of_break is) = by_level kind _ _ is outs-Break (ap Some (sym is))
  form_back kind (of_continue is) = by_level kind _ _ is outs-Continue (ap Some (sym is))
  form_back kind (of_return x is r) = by_level kind _ _ is (outs-Return x) (ap (λ o. o >>= λ y. Some (s.Return y)) (maybe_back quiet begins own before line Listed x r))
  form_back kind (of_raise x is r) = by_level kind _ _ is (outs-Raise x) (ap (λ o. o >>= λ y. Some (s.Raise y)) (maybe_back quiet begins own before line Conditional x r))
  form_back kind (of_assert test message is r v) = by_level kind _ _ is (outs-Assert test message) (assert_back quiet begins own before line test message r v)
  form_back kind (of_del of at is r v) = by_level kind _ _ is (outs-Del of at) (delete_back quiet begins own before line of at r v)
  form_back kind (of_assign a more is_tuple x is one r v) = by_level kind _ _ is (outs-Assign (a ∷ more) is_tuple None x) (assign_back quiet begins own before line is_tuple a more x one r v)
  form_back kind (of_typed a type x is r u w v) =
      by_level kind _ _ is (outs-Assign (a ∷ []) false (Some type) x) (typed_back quiet begins own before line (annotated type) type a x (reads.back w.0 type w.1) (reads.whole w.0 type w.1 Equal refl) r u v)
  form_back kind (of_augment a op x is r v) = by_level kind _ _ is (outs-Augment a op x) (augment_back quiet begins own before line a op x r v)
  form_back kind (of_bare x is r) = by_level kind _ _ is (outs-Bare x) (bare_back quiet begins own before line x r)

pub small_read_back : ExpressionsAreQuiet → ExpressionsBegin → ShapesReadBack → SmallReadBack
small_read_back quiet begins own annotated reads before line ts kind e = form_back quiet begins own annotated reads before line kind (small_form before ts kind e)
