-- The line of a small statement that is read from the tokens of a text.
use Rattle.std.proofs.Common.{◌≡◌, ◌∙◌, sym, ap, refl, subst, ℕ, List, [], ◌∷◌, ◌++◌, Option, Some, None}
use Rattle.std.specs.Prelude.{map}
use Rattle.py_language.specs.declared.token.Keyword.TheVariants as keyword
use Rattle.py_language.specs.declared.token.Mark.TheVariants as m
use Rattle.py_language.specs.declared.token.Token.{Token}
use Rattle.py_language.specs.declared.token.Token.TheVariants as t
use Rattle.py_language.specs.Trees.{◌>>=◌}
use Rattle.py_language.specs.TreesPlaces.{Level, Listed, Conditional}
use Rattle.py_syntax.specs.declared.expr.Expr.{Expr}
use Rattle.py_syntax.specs.declared.operator.BinOp.{BinOp}
use Rattle.py_syntax.specs.declared.operator.BinOp.TheVariants.{Add, Sub, Mul, FloorDiv, Mod}
use Rattle.py_syntax.specs.declared.stmt.Clause.{Clause}
use Rattle.py_syntax.specs.declared.stmt.Stmt.{Stmt}
use Rattle.py_syntax.specs.declared.stmt.StmtKind.{StmtKind, StmtKind-F, out-StmtKind}
use Rattle.py_syntax.specs.declared.stmt.StmtKind.TheVariants as s
use Rattle.py_syntax.specs.declared.stmt.StmtKind.TheVariants.{outs-Assert, outs-Assign, outs-Augment, outs-Bare, outs-Break, outs-Continue, outs-Del, outs-Pass, outs-Raise, outs-Return}
use Rattle.py_syntax.specs.declared.stmt.Target.{Target}
use Rattle.py_syntax.specs.declared.stmt.Target.TheVariants as to
use Rattle.py_grammar.specs.declared.separator.Separator.TheVariants.{Assign, Colon, Comma, Equal, Part}
use Rattle.py_grammar.specs.Annotations.{annotation}
use Rattle.py_grammar.specs.Separators.{back, front, has, last_cut, some_parts}
use Rattle.py_grammar.specs.Statements as g
use Rattle.py_printing.specs.Expressions.{expr_tokens, SoundTreesAreSound}
use Rattle.py_layout.specs.Rows.{Rows, kind_rows, rows_of_kind}
use Rattle.py_layout.specs.Small.{augmenting_token, indexed, list_tokens, target_tokens}
use Rattle.py_layout.specs.Starts.{ExpressionsBegin}
use Rattle.py_layout.proofs.Good.{Good, AllGood, GoodAt, good_append, good_back, good_cut, good_front}
use Rattle.py_layout.proofs.RowLevels.{parts_of_kind, by_kind}
use Rattle.py_annotation_layout.specs.Annotations.{annotation_tokens}
use Rattle.py_annotation_layout.specs.Laws.{AnnotationsAreSound}
use Rattle.printing_laws.proofs.Holds.{Maybe, no, yes, maybe_bind, maybe_then}
use Rattle.printing_laws.proofs.Tokens.{Filled, All, some_after, list_good, some_good, shown_good, ExprGood, MaybeGood, TargetGood, AnnotationGood, annotation_good, expr_good, maybe_good, subscript_good, target_good}

-- ---- rows

abbrev pub GoodRows : Rows → Type 0
GoodRows [] = Unit {0}
GoodRows (r ∷ rs) = Filled r.tokens × GoodRows rs

pub rows_append : (rs others : Rows) → GoodRows rs → GoodRows others → GoodRows (rs ++ others)
rows_append [] others h k = k
rows_append (r ∷ rs) others h k = (h.0, rows_append rs others h.1 k)

-- wherever the statement is
abbrev pub KindGood : StmtKind → Type 0
KindGood kind = (column : ℕ) → GoodRows (rows_of_kind annotation_tokens kind column)

pub kind_is : (kind : StmtKind) (f : StmtKind-F StmtKind Clause Stmt) → out-StmtKind kind ≡ f → ((column : ℕ) → GoodRows (kind_rows annotation_tokens (parts_of_kind annotation_tokens f) column)) → KindGood kind
kind_is kind f e h column = subst GoodRows (sym (by_kind annotation_tokens kind column ∙ ap (λ f. kind_rows annotation_tokens (parts_of_kind annotation_tokens f) column) e)) (h column)

-- ---- small statements

abbrev Small : Option StmtKind → Type 0
Small o = Maybe KindGood o

alone_good : (kind : StmtKind) (xs : List Token) → Small (Some kind) → Small (g.alone kind xs)
alone_good kind [] h = h
alone_good kind (x ∷ xs) h = no

unindexed_good : (P : Target → Type 0) (a : Target) → P a → Maybe P (g.unindexed a)
unindexed_good P (to.Name n) h = yes h
unindexed_good P (to.Attr of n) h = yes h
unindexed_good P (to.Index of at) h = no

operator_good : (op : BinOp) (ts : List Token) → Good ts → Good (augmenting_token op ∷ ts)
operator_good Add ts h = (refl, h)
operator_good Sub ts h = (refl, h)
operator_good Mul ts h = (refl, h)
operator_good FloorDiv ts h = (refl, h)
operator_good Mod ts h = (refl, h)

module _ (sound_trees : SoundTreesAreSound) (begins : ExpressionsBegin) (annotations : AnnotationsAreSound) (line : ℕ) where
  abbrev ExprAt : Level → Expr → Type 0
  ExprAt level x = ExprGood sound_trees begins level x

  abbrev IsTarget : Target → Type 0
  IsTarget a = TargetGood sound_trees begins line a

  targets_good : (ts : List Target) → All (g.target line) IsTarget (target_good sound_trees begins line) ts → AllGood (map target_tokens ts)
  targets_good ts h = shown_good (g.target line) IsTarget (target_good sound_trees begins line) target_tokens (λ a k. k) ts h

  bound_good : (ahead xs : List Token) → Good ahead → Good xs → Small (g.bound line ahead xs)
  bound_good ahead xs h k =
      maybe_then (All (g.target line) IsTarget (target_good sound_trees begins line)) (some_parts Comma (g.target line) ahead) _ (some_good (g.target line) IsTarget (target_good sound_trees begins line) Comma ahead h)
      (λ targets a. maybe_then (ExprAt Listed) (g.exprs line xs) _ (expr_good sound_trees begins line Listed xs k)
      (λ value b. let T = list_tokens (has Comma ahead) (map target_tokens targets) in
      yes (kind_is _ _ (outs-Assign _ _ _ _) (λ column. ((some_after T (t.Mark m.Equal) (expr_tokens Listed value), good_append T (t.Mark m.Equal ∷ expr_tokens Listed value) (list_good (has Comma ahead) (map target_tokens targets) (targets_good targets a)) (refl, b.1)), tt)))))

  augmented_good : (ahead : List Token) (x : Token) (xs : List Token) → Good ahead → Good xs → Small (g.augmented line ahead x xs)
  augmented_good ahead x xs h k =
      maybe_bind (g.augmenting x) _ (λ operator. maybe_then IsTarget (g.target line ahead) _ (target_good sound_trees begins line ahead h)
      (λ changed a. maybe_then (ExprAt Listed) (g.exprs line xs) _ (expr_good sound_trees begins line Listed xs k)
      (λ value b. yes (kind_is _ _ (outs-Augment _ _ _) (λ column. ((some_after (target_tokens changed) (augmenting_token operator) (expr_tokens Listed value), good_append (target_tokens changed) (augmenting_token operator ∷ expr_tokens Listed value) a (operator_good operator (expr_tokens Listed value) b.1)), tt))))))

  bare_good : (ts : List Token) → Good ts → Small (g.exprs line ts >>= λ x. Some (s.Bare x))
  bare_good ts h = maybe_then (ExprAt Listed) (g.exprs line ts) _ (expr_good sound_trees begins line Listed ts h) (λ x a. yes (kind_is _ _ (outs-Bare x) (λ column. (a, tt))))

  unannotated_good : (ts ahead rest : List Token) → Good ts → Good ahead → Good rest → Small (g.unannotated_by line ts ahead rest)
  unannotated_good ts ahead [] w h k = bare_good ts w
  unannotated_good ts ahead (t.Mark m.Equal ∷ xs) w h k = bound_good ahead xs h k.1
  unannotated_good ts ahead (x ∷ xs) w h k = augmented_good ahead x xs h k.1

  annotated_good : (ahead type rest : List Token) → Good ahead → Good type → Good rest → Small (g.annotated_by line ahead type rest)
  annotated_good ahead type [] w h k = no
  annotated_good ahead type (x ∷ xs) w h k =
      maybe_then IsTarget (g.target line ahead >>= g.unindexed) _ (maybe_then IsTarget (g.target line ahead) _ (target_good sound_trees begins line ahead w) (λ a. unindexed_good IsTarget a))
      (λ bound a. maybe_then AnnotationGood (annotation type) _ (annotation_good annotations type h)
      (λ of_type n. maybe_then (ExprAt Listed) (g.exprs line xs) _ (expr_good sound_trees begins line Listed xs k.1)
      (λ value b. let T = target_tokens bound in let A = annotation_tokens of_type in let E = expr_tokens Listed value in
      yes (kind_is _ _ (outs-Assign _ _ _ _) (λ column. ((some_after T (t.Mark m.Colon) (A ++ t.Mark m.Equal ∷ E), good_append T (t.Mark m.Colon ∷ (A ++ t.Mark m.Equal ∷ E)) a (refl, good_append A (t.Mark m.Equal ∷ E) n (refl, b.1))), tt))))))

  assignment_good : (ts ahead rest : List Token) → Good ts → Good ahead → Good rest → Small (g.assignment_by line ts ahead rest)
  assignment_good ts ahead [] w h k = unannotated_good ts (front Assign ts) (back Assign ts) w (good_front Assign ts w) (good_back Assign ts w)
  assignment_good ts ahead (x ∷ xs) w h k = annotated_good ahead (front Equal xs) (back Equal xs) h (good_front Equal xs k.1) (good_back Equal xs k.1)

  asserted_good : (ahead rest : List Token) → Good ahead → Good rest → Small (g.asserted_by line ahead rest)
  asserted_good ahead [] h k =
      maybe_then (ExprAt Conditional) (g.expr line ahead) _ (expr_good sound_trees begins line Conditional ahead h)
      (λ x a. yes (kind_is _ _ (outs-Assert x None) (λ column. ((refl, (refl, good_append (expr_tokens Conditional x) [] a.1 tt)), tt))))
  asserted_good ahead (x ∷ xs) h k =
      maybe_then (ExprAt Conditional) (g.expr line ahead) _ (expr_good sound_trees begins line Conditional ahead h)
      (λ tested a. maybe_then (ExprAt Conditional) (g.expr line xs) _ (expr_good sound_trees begins line Conditional xs k.1)
      (λ message b. yes (kind_is _ _ (outs-Assert tested (Some message)) (λ column. ((refl, (refl, good_append (expr_tokens Conditional tested) (t.Mark m.Comma ∷ expr_tokens Conditional message) a.1 (refl, b.1))), tt)))))

  deleted_at_good : (object : List Token) (x : Token) (xs : List Token) → Good object → Good xs → Small (g.deleted_at line object x xs)
  deleted_at_good object (t.Mark m.LeftBracket) xs h k =
      maybe_then (λ (p : Expr × Expr). Good (indexed p.0 p.1)) (g.subscript line object xs) _ (subscript_good sound_trees begins line object xs h k)
      (λ p a. yes (kind_is _ _ (outs-Del p.0 p.1) (λ column. ((refl, (refl, a)), tt))))
  deleted_at_good object _ xs h k = no

  deleted_good : (o : Option (List Token × Token × List Token)) → GoodAt o → Small (o >>= λ c. g.deleted_at line c.0 c.1 c.2)
  deleted_good None h = no
  deleted_good (Some c) h = deleted_at_good c.0 c.1 c.2 h.0 h.1.1

  pub small_good : (ts : List Token) → Good ts → Maybe KindGood (g.small line ts)
  small_good (t.Keyword keyword.Pass ∷ xs) h = alone_good _ xs (yes (kind_is _ _ outs-Pass (λ column. ((refl, (refl, tt)), tt))))
  small_good (t.Keyword keyword.Break ∷ xs) h = alone_good _ xs (yes (kind_is _ _ outs-Break (λ column. ((refl, (refl, tt)), tt))))
  small_good (t.Keyword keyword.Continue ∷ xs) h = alone_good _ xs (yes (kind_is _ _ outs-Continue (λ column. ((refl, (refl, tt)), tt))))
  small_good (t.Keyword keyword.Return ∷ xs) h =
      maybe_then (MaybeGood sound_trees begins Listed) (g.maybe line Listed xs) _ (maybe_good sound_trees begins line Listed xs h.1) (λ x a. yes (kind_is _ _ (outs-Return x) (λ column. ((refl, (refl, a)), tt))))
  small_good (t.Keyword keyword.Raise ∷ xs) h =
      maybe_then (MaybeGood sound_trees begins Conditional) (g.maybe line Conditional xs) _ (maybe_good sound_trees begins line Conditional xs h.1) (λ x a. yes (kind_is _ _ (outs-Raise x) (λ column. ((refl, (refl, a)), tt))))
  small_good (t.Keyword keyword.Assert ∷ xs) h = asserted_good (front Comma xs) (back Comma xs) (good_front Comma xs h.1) (good_back Comma xs h.1)
  small_good (t.Keyword keyword.Del ∷ xs) h = deleted_good (last_cut Part xs) (good_cut Part xs h.1)
  small_good xs h = assignment_good xs (front Colon xs) (back Colon xs) h (good_front Colon xs h) (good_back Colon xs h)
