-- The form of a logical line: its simple statements have the line's number, and no blocks.
use Rattle.std.proofs.Common.{List, None, Option, Some, [], ap, refl, ℕ, ◌∙◌, ◌∷◌, ◌≡◌}
use Rattle.std.specs.Prelude.{bytes_eq, codes}
use Rattle.py_language.specs.Trees.{each, ◌>>=◌}
use Rattle.py_language.specs.TreesPlaces.{Conditional, Listed}
use Rattle.py_language.specs.declared.token.Keyword.TheVariants as keyword
use Rattle.py_language.specs.declared.token.Logical.{Logical}
use Rattle.py_language.specs.declared.token.Mark.TheVariants as mark
use Rattle.py_language.specs.declared.token.Token.{Token}
use Rattle.py_language.specs.declared.token.Token.TheVariants as t
use Rattle.py_syntax.specs.declared.stmt.Clause.{Clause}
use Rattle.py_syntax.specs.declared.stmt.Stmt.{Stmt}
use Rattle.py_syntax.specs.declared.stmt.StmtKind.{StmtKind, StmtKind-F, out-StmtKind}
use Rattle.py_syntax.specs.declared.stmt.StmtKind.TheVariants.{outs-Assert, outs-Assign, outs-Augment, outs-Bare, outs-Break, outs-Continue, outs-Del, outs-Pass, outs-Raise, outs-Return}
use Rattle.py_grammar.specs.Forms.{block, class, compound, compound_by, def, except, for, form, form_of, future, future_of, import, import_from, imported, statements, tested}
use Rattle.py_grammar.specs.Annotations.{annotation}
use Rattle.py_grammar.specs.Separators.{back, front, last_cut, some_parts, split, trimmed}
use Rattle.py_grammar.specs.Statements.{alone, annotated_by, asserted_by, assignment_by, augmented, augmenting, bound, deleted_at, expr, exprs, maybe, name, simple, small, statement, subscript, target, unannotated_by, unindexed}
use Rattle.py_grammar.specs.declared.form.Form.{Form}
use Rattle.py_grammar.specs.declared.form.Form.TheVariants as form_is
use Rattle.py_grammar.specs.declared.form.Header.{Header}
use Rattle.py_grammar.specs.declared.form.Header.TheVariants as h
use Rattle.py_grammar.specs.declared.separator.Separator.TheVariants.{Assign, Colon, Comma, Equal, Part, Semicolon}
use Rattle.line_laws.proofs.Holds.{Maybe, maybe_bind, maybe_if, maybe_then, no, yes}
use Rattle.line_laws.specs.Layout.{OnLine, blocks_of, inside}

-- ---- simple statements

abbrev NoBlocks : StmtKind → Type 0
NoBlocks kind = blocks_of (out-StmtKind kind) ≡ []

simple_kind : (kind : StmtKind) (f : StmtKind-F StmtKind Clause Stmt) → out-StmtKind kind ≡ f → blocks_of f ≡ [] → Maybe NoBlocks (Some kind)
simple_kind kind f e h = yes (ap blocks_of e ∙ h)

abbrev Simple : Option StmtKind → Type 0
Simple o = Maybe NoBlocks o

alone_simple : (kind : StmtKind) (xs : List Token) → Simple (Some kind) → Simple (alone kind xs)
alone_simple kind [] h = h
alone_simple kind (x ∷ xs) h = no

module _ (line : ℕ) where
  bound_simple : (before xs : List Token) → Simple (bound line before xs)
  bound_simple before xs = maybe_bind (some_parts Comma (target line) before) _ (λ targets. maybe_bind (exprs line xs) _ (λ value. simple_kind _ _ (outs-Assign _ _ _ _) refl))

  augmented_simple : (before : List Token) (x : Token) (xs : List Token) → Simple (augmented line before x xs)
  augmented_simple before x xs = maybe_bind (augmenting x) _ (λ operator. maybe_bind (target line before) _ (λ changed. maybe_bind (exprs line xs) _ (λ value. simple_kind _ _ (outs-Augment _ _ _) refl)))

  unannotated_simple : (all before xs : List Token) → Simple (unannotated_by line all before xs)
  unannotated_simple all before [] = maybe_bind (exprs line all) _ (λ x. simple_kind _ _ (outs-Bare _) refl)
  unannotated_simple all before (t.Mark mark.Equal ∷ xs) = bound_simple before xs
  unannotated_simple all before (x ∷ xs) = augmented_simple before x xs

  annotated_simple : (before type xs : List Token) → Simple (annotated_by line before type xs)
  annotated_simple before type [] = no
  annotated_simple before type (x ∷ xs) = maybe_bind (target line before >>= unindexed) _ (λ to. maybe_bind (annotation type) _ (λ of_type. maybe_bind (exprs line xs) _ (λ value. simple_kind _ _ (outs-Assign _ _ _ _) refl)))

  assignment_simple : (all before xs : List Token) → Simple (assignment_by line all before xs)
  assignment_simple all before [] = unannotated_simple all (front Assign all) (back Assign all)
  assignment_simple all before (x ∷ xs) = annotated_simple before (front Equal xs) (back Equal xs)

  asserted_simple : (test xs : List Token) → Simple (asserted_by line test xs)
  asserted_simple test [] = maybe_bind (expr line test) _ (λ x. simple_kind _ _ (outs-Assert _ _) refl)
  asserted_simple test (x ∷ xs) = maybe_bind (expr line test) _ (λ tested. maybe_bind (expr line xs) _ (λ message. simple_kind _ _ (outs-Assert _ _) refl))

  deleted_simple : (object : List Token) (x : Token) (xs : List Token) → Simple (deleted_at line object x xs)
  deleted_simple object (t.Mark mark.LeftBracket) xs = maybe_bind (subscript line object xs) _ (λ p. simple_kind _ _ (outs-Del _ _) refl)
  deleted_simple object _ xs = no

  small_simple : (xs : List Token) → Simple (small line xs)
  small_simple (t.Keyword keyword.Pass ∷ xs) = alone_simple _ xs (simple_kind _ _ outs-Pass refl)
  small_simple (t.Keyword keyword.Break ∷ xs) = alone_simple _ xs (simple_kind _ _ outs-Break refl)
  small_simple (t.Keyword keyword.Continue ∷ xs) = alone_simple _ xs (simple_kind _ _ outs-Continue refl)
  small_simple (t.Keyword keyword.Return ∷ xs) = maybe_bind (maybe line Listed xs) _ (λ x. simple_kind _ _ (outs-Return _) refl)
  small_simple (t.Keyword keyword.Raise ∷ xs) = maybe_bind (maybe line Conditional xs) _ (λ x. simple_kind _ _ (outs-Raise _) refl)
  small_simple (t.Keyword keyword.Assert ∷ xs) = asserted_simple (front Comma xs) (back Comma xs)
  small_simple (t.Keyword keyword.Del ∷ xs) = maybe_bind (last_cut Part xs) _ (λ c. deleted_simple c.0 c.1 c.2)
  small_simple xs = assignment_simple xs (front Colon xs) (back Colon xs)

  abbrev AtLine : Stmt → Type 0
  AtLine s = (s.line ≡ line) × (inside s ≡ [])

  statement_at : (xs : List Token) → Maybe AtLine (statement line xs)
  statement_at xs = maybe_then NoBlocks (small line xs) _ (small_simple xs) (λ kind h. yes (refl, h))

  each_at : (parts : List (List Token)) → Maybe (OnLine line) (each (statement line) parts)
  each_at [] = yes tt
  each_at (xs ∷ parts) = maybe_then AtLine (statement line xs) _ (statement_at xs) (λ s here. maybe_then (OnLine line) (each (statement line) parts) _ (each_at parts) (λ others more. yes (here, more)))

  simple_at : (xs : List Token) → Maybe (OnLine line) (simple line xs)
  simple_at [] = no
  simple_at (x ∷ xs) = each_at (trimmed (split Semicolon (x ∷ xs)))

  -- ---- forms

  abbrev pub FormFits : Form → Type 0
  FormFits (form_is.Simple small) = OnLine line small
  FormFits (form_is.Compound header small) = Maybe (OnLine line) small
  FormFits form_is.Future = Unit {0}
  FormFits (form_is.Typing names) = Unit {0}

  abbrev Fitting : Option Form → Type 0
  Fitting o = Maybe FormFits o

  block_fits : (xs : List Token) → Maybe (Maybe (OnLine line)) (block line xs)
  block_fits [] = yes no
  block_fits (x ∷ xs) = maybe_then (OnLine line) (simple line (x ∷ xs)) _ (simple_at (x ∷ xs)) (λ all h. yes (yes h))

  compound_fits : (header : List Token → Option Header) (before xs : List Token) → Fitting (compound_by line header before xs)
  compound_fits header before [] = no
  compound_fits header before (x ∷ xs) = maybe_bind (header before) _ (λ found. maybe_then (Maybe (OnLine line)) (block line xs) _ (block_fits xs) (λ body h. yes h))

  compound_line_fits : (header : List Token → Option Header) (xs : List Token) → Fitting (compound line header xs)
  compound_line_fits header xs = compound_fits header (front Colon xs) (back Colon xs)

  future_fits : (n : List ℕ) → Fitting (future_of n)
  future_fits n = maybe_if (bytes_eq n (codes "annotations")) (Some form_is.Future) None (yes tt) no

  import_from_fits : (from : List ℕ) (xs : List Token) → Fitting (import_from from xs)
  import_from_fits from xs =
      maybe_if (bytes_eq from (codes "__future__")) (future xs) _ (maybe_bind (name xs) _ future_fits)
      (maybe_if (bytes_eq from (codes "typing")) (imported xs >>= λ names. Some (form_is.Typing names)) None (maybe_bind (imported xs) _ (λ names. yes tt)) no)

  import_fits : (xs : List Token) → Fitting (import xs)
  import_fits (t.Name from ∷ t.Keyword keyword.Import ∷ xs) = import_from_fits from xs
  import_fits _ = no

  statements_fit : (xs : List Token) → Fitting (statements line xs)
  statements_fit xs = maybe_then (OnLine line) (simple line xs) _ (simple_at xs) (λ all h. yes h)

  form_fits : (xs : List Token) → Fitting (form line xs)
  form_fits (t.Keyword keyword.If ∷ xs) = compound_line_fits (tested line h.If) xs
  form_fits (t.Keyword keyword.Elif ∷ xs) = compound_line_fits (tested line h.Elif) xs
  form_fits (t.Keyword keyword.Else ∷ xs) = compound_line_fits (alone h.Else) xs
  form_fits (t.Keyword keyword.While ∷ xs) = compound_line_fits (tested line h.While) xs
  form_fits (t.Keyword keyword.For ∷ xs) = compound_line_fits (for line) xs
  form_fits (t.Keyword keyword.Try ∷ xs) = compound_line_fits (alone h.Try) xs
  form_fits (t.Keyword keyword.Except ∷ xs) = compound_line_fits except xs
  form_fits (t.Keyword keyword.Finally ∷ xs) = compound_line_fits (alone h.Finally) xs
  form_fits (t.Keyword keyword.Def ∷ xs) = compound_line_fits (def line) xs
  form_fits (t.Keyword keyword.Class ∷ xs) = compound_line_fits class xs
  form_fits (t.Keyword keyword.From ∷ xs) = import_fits xs
  form_fits xs = statements_fit xs

pub form_of_fits : (l : Logical) → Maybe (FormFits l.line) (form_of l)
unfolding form_of
form_of_fits l = form_fits l.line l.tokens
