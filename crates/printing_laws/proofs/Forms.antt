-- The form of a line of a text: its own lines are sound.
use Rattle.std.proofs.Common.{◌≡◌, refl, subst, sym, ℕ, List, [], ◌∷◌, Option, Some, None}
use Rattle.std.specs.Prelude.{bytes_eq, codes}
use Rattle.std.specs.List.{AllByRecursion}
use Rattle.py_language.specs.declared.token.Keyword.TheVariants as keyword
use Rattle.py_language.specs.declared.token.Logical.{Logical}
use Rattle.py_language.specs.declared.token.Token.{Token}
use Rattle.py_language.specs.declared.token.Token.TheVariants as t
use Rattle.py_language.specs.Trees.{◌>>=◌, each}
use Rattle.py_language.specs.TreesPlaces.{Conditional}
use Rattle.py_syntax.specs.declared.expr.Expr.{Expr}
use Rattle.py_syntax.specs.declared.stmt.Stmt.{Stmt}
use Rattle.py_grammar.specs.declared.form.Form.{Form}
use Rattle.py_grammar.specs.declared.form.Form.TheVariants as form_is
use Rattle.py_grammar.specs.declared.form.Header.{Header}
use Rattle.py_grammar.specs.declared.form.Header.TheVariants as h
use Rattle.py_grammar.specs.declared.separator.Separator.TheVariants.{Colon, Semicolon}
use Rattle.py_grammar.specs.Forms as f
use Rattle.py_grammar.specs.Separators.{back, front, split, trimmed}
use Rattle.py_grammar.specs.Statements as g
use Rattle.py_printing.specs.Expressions.{expr_tokens, SoundTreesAreSound}
use Rattle.py_layout.specs.Starts.{ExpressionsBegin}
use Rattle.py_layout.proofs.Good.{Good, AllGood, good_back, good_front, good_parts}
use Rattle.py_annotation_layout.specs.Laws.{AnnotationsAreSound}
use Rattle.printing_laws.proofs.Holds.{Maybe, no, yes, maybe_if, maybe_then}
use Rattle.printing_laws.proofs.HeaderRows.{Ahead, AllNames, HeaderGood, alone_good, class_good, def_good, except_good, for_good, header_good, imported_good, statement_good, tested_good}
use Rattle.printing_laws.proofs.SmallRows.{KindGood}

abbrev pub StmtGood : Stmt → Type 0
StmtGood x = KindGood x.kind

abbrev pub BlockGood : List Stmt → Type 0
BlockGood body = AllByRecursion StmtGood body

abbrev pub FormGood : Form → Type 0
FormGood (form_is.Simple small) = BlockGood small
FormGood (form_is.Compound header small) = HeaderGood header × Maybe BlockGood small
FormGood form_is.Future = Unit {0}
FormGood (form_is.Typing names) = AllNames names

-- ---- import lines

import_from_good : (from : List ℕ) (xs : List Token) → Good xs → Maybe FormGood (f.import_from from xs)
import_from_good from xs k =
    maybe_if (bytes_eq from (codes "__future__")) (f.future xs) _ (maybe_then (λ (n : List ℕ). Unit {0}) (g.name xs) _ (always (g.name xs)) (λ n u. future n))
    (maybe_if (bytes_eq from (codes "typing")) (f.imported xs >>= λ names. Some (form_is.Typing names)) None (maybe_then AllNames (f.imported xs) _ (imported_good xs k) (λ names a. yes a)) no)
  where
    always : (o : Option (List ℕ)) → Maybe (λ (n : List ℕ). Unit {0}) o
    always None = no
    always (Some n) = yes tt

    future : (n : List ℕ) → Maybe FormGood (f.future_of n)
    future n = maybe_if (bytes_eq n (codes "annotations")) (Some form_is.Future) None (yes tt) no

import_good : (xs : List Token) → Good xs → Maybe FormGood (f.import xs)
import_good (t.Name from ∷ t.Keyword keyword.Import ∷ xs) k = import_from_good from xs k.1.1
import_good _ k = no

module _ (sound_trees : SoundTreesAreSound) (begins : ExpressionsBegin) (annotations : AnnotationsAreSound) (line : ℕ) where
  -- ---- small statements

  each_good : (parts : List (List Token)) → AllGood parts → Maybe BlockGood (each (g.statement line) parts)
  each_good [] k = yes tt
  each_good (xs ∷ parts) k =
      maybe_then StmtGood (g.statement line xs) _ (statement_good sound_trees begins annotations line xs k.0) (λ x a. maybe_then BlockGood (each (g.statement line) parts) _ (each_good parts k.1) (λ others b. yes (a, b)))

  simple_good : (xs : List Token) → Good xs → Maybe BlockGood (g.simple line xs)
  simple_good [] k = no
  simple_good (x ∷ xs) k = each_good (trimmed (split Semicolon (x ∷ xs))) (good_parts Semicolon (x ∷ xs) k)

  -- ---- headers, and what is after their colon

  block_good : (xs : List Token) → Good xs → Maybe (Maybe BlockGood) (f.block line xs)
  block_good [] k = yes no
  block_good (x ∷ xs) k = maybe_then BlockGood (g.simple line (x ∷ xs)) _ (simple_good (x ∷ xs) k) (λ all a. yes (yes a))

  compound_by_good : (header : List Token → Option Header) (ahead xs : List Token) → Maybe Ahead (header ahead) → Good xs → Maybe FormGood (f.compound_by line header ahead xs)
  compound_by_good header ahead [] k l = no
  compound_by_good header ahead (x ∷ xs) k l = maybe_then Ahead (header ahead) _ k (λ found a. maybe_then (Maybe BlockGood) (f.block line xs) _ (block_good xs l.1) (λ body b. yes (header_good found a, b)))

  compound_good : (header : List Token → Option Header) (xs : List Token) → Good xs → ((ys : List Token) → Good ys → Maybe Ahead (header ys)) → Maybe FormGood (f.compound line header xs)
  compound_good header xs k make = compound_by_good header (front Colon xs) (back Colon xs) (make (front Colon xs) (good_front Colon xs k)) (good_back Colon xs k)

  tested : (header : Expr → Header) → (xs : List Token) → Good xs → ((x : Expr) → Good (expr_tokens Conditional x) → Ahead (header x)) → Maybe FormGood (f.compound line (f.tested line header) xs)
  tested header xs k make = compound_good (f.tested line header) xs k (λ ys l. tested_good sound_trees begins annotations line header ys make l)

  statements_good : (xs : List Token) → Good xs → Maybe FormGood (f.statements line xs)
  statements_good xs k = maybe_then BlockGood (g.simple line xs) _ (simple_good xs k) (λ all a. yes a)

  form_good : (xs : List Token) → Good xs → Maybe FormGood (f.form line xs)
  form_good (t.Keyword keyword.If ∷ xs) k = tested h.If xs k.1 (λ x a. (refl, a))
  form_good (t.Keyword keyword.Elif ∷ xs) k = tested h.Elif xs k.1 (λ x a. (refl, a))
  form_good (t.Keyword keyword.Else ∷ xs) k = compound_good (g.alone h.Else) xs k.1 (λ ys l. alone_good h.Else ys (refl, tt))
  form_good (t.Keyword keyword.While ∷ xs) k = tested h.While xs k.1 (λ x a. (refl, a))
  form_good (t.Keyword keyword.For ∷ xs) k = compound_good (f.for line) xs k.1 (for_good sound_trees begins annotations line)
  form_good (t.Keyword keyword.Try ∷ xs) k = compound_good (g.alone h.Try) xs k.1 (λ ys l. alone_good h.Try ys (refl, tt))
  form_good (t.Keyword keyword.Except ∷ xs) k = compound_good f.except xs k.1 except_good
  form_good (t.Keyword keyword.Finally ∷ xs) k = compound_good (g.alone h.Finally) xs k.1 (λ ys l. alone_good h.Finally ys (refl, tt))
  form_good (t.Keyword keyword.Def ∷ xs) k = compound_good (f.def line) xs k.1 (def_good sound_trees begins annotations line)
  form_good (t.Keyword keyword.Class ∷ xs) k = compound_good f.class xs k.1 class_good
  form_good (t.Keyword keyword.From ∷ xs) k = import_good xs k.1
  form_good xs k = statements_good xs k

  pub form_of_good : (l : Logical) → l.line ≡ line → Good l.tokens → Maybe FormGood (f.form l.line l.tokens)
  form_of_good l e k = subst (λ n. Maybe FormGood (f.form n l.tokens)) (sym e) (form_good l.tokens k)
