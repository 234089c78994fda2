-- The name in a header is a token of its line.
use Rattle.std.proofs.Common.{Bool, List, None, Option, Some, [], false, true, ℕ, ◌∷◌, ◌≡◌}
use Rattle.std.specs.List.{AllByRecursion}
use Rattle.std.specs.Prelude.{bytes_eq, codes, if◌then◌else◌}
use Rattle.py_language.specs.Trees.{◌>>=◌}
use Rattle.py_language.specs.declared.token.Keyword.TheVariants as keyword
use Rattle.py_language.specs.declared.token.Logical.{Logical}
use Rattle.py_language.specs.declared.token.Mark.TheVariants as mark
use Rattle.py_language.specs.declared.token.Token.{Token}
use Rattle.py_language.specs.declared.token.Token.TheVariants as t
use Rattle.py_syntax.specs.declared.expr.Expr.{Expr}
use Rattle.py_grammar.specs.Forms.{as_name, base, block, class, compound, compound_by, def, def_by, except, for, for_by, form, form_of, future, future_of, handled, import, import_from, imported, param, returned, statements, tested}
use Rattle.py_grammar.specs.Separators.{back, front, opened, outside, parts, some_parts}
use Rattle.py_grammar.specs.Statements.{alone, expr, exprs, name, simple}
use Rattle.py_grammar.specs.declared.form.Form.{Form}
use Rattle.py_grammar.specs.declared.form.Form.TheVariants as form_is
use Rattle.py_grammar.specs.declared.form.Header.{Header}
use Rattle.py_grammar.specs.declared.form.Header.TheVariants as h
use Rattle.py_grammar.specs.declared.separator.Separator.TheVariants.{As, Closing, Colon, Comma, In}
use Rattle.py_spelling.specs.Spelling.{is_sound}
use Rattle.name_laws.proofs.Cuts.{front_all}
use Rattle.name_laws.proofs.Holds.{Maybe, maybe_bind, maybe_then, no, yes}

abbrev pub IsIdentifier : List ℕ → Type 0
IsIdentifier name = is_sound (t.Name name) ≡ true

abbrev pub IsSound : Token → Type 0
IsSound x = is_sound x ≡ true

abbrev pub SoundTokens : List Token → Type 0
SoundTokens xs = AllByRecursion IsSound xs

abbrev pub SoundLine : Logical → Type 0
SoundLine l = SoundTokens l.tokens

abbrev HeaderNamed : Header → Type 0
HeaderNamed (h.Def name params returns) = IsIdentifier name
HeaderNamed (h.Class name base) = IsIdentifier name
HeaderNamed _ = Unit {0}

abbrev pub FormNamed : Form → Type 0
FormNamed (form_is.Compound header small) = HeaderNamed header
FormNamed _ = Unit {0}

-- ---- headers

alone_named : (header : Header) (xs : List Token) → HeaderNamed header → Maybe HeaderNamed (alone header xs)
alone_named header [] k = yes k
alone_named header (x ∷ xs) k = no

class_named : (xs : List Token) → SoundTokens xs → Maybe HeaderNamed (class xs)
class_named (t.Name n ∷ []) s = yes s.0
class_named (t.Name n ∷ t.Mark mark.LeftParen ∷ xs) s = maybe_bind (base xs) _ (λ b. yes s.0)
class_named _ s = no

except_named : (xs : List Token) → Maybe HeaderNamed (except xs)
except_named [] = yes tt
except_named (x ∷ xs) = maybe_bind (handled (front As (x ∷ xs))) _ (λ classes. maybe_bind (as_name (back As (x ∷ xs))) _ (λ bound. yes tt))

module _ (line : ℕ) where
  for_named_by : (before xs : List Token) → Maybe HeaderNamed (for_by line before xs)
  for_named_by before [] = no
  for_named_by before (x ∷ xs) = maybe_bind (some_parts Comma name before) _ (λ names. maybe_bind (exprs line xs) _ (λ walked. yes tt))

  for_named : (xs : List Token) → Maybe HeaderNamed (for line xs)
  for_named xs = for_named_by (front In xs) (back In xs)

  tested_named : (header : Expr → Header) (xs : List Token) → ((x : Expr) → HeaderNamed (header x)) → Maybe HeaderNamed (tested line header xs)
  tested_named header xs k = maybe_bind (expr line xs) _ (λ x. yes (k x))

  def_named_by : (n : List ℕ) (content xs : List Token) → IsIdentifier n → Maybe HeaderNamed (def_by line n content xs)
  def_named_by n content (t.Mark mark.RightParen ∷ xs) s = maybe_bind (parts Comma (param line) content) _ (λ params. maybe_bind (returned xs) _ (λ returns. yes s))
  def_named_by n content _ s = no

  def_named : (xs : List Token) → SoundTokens xs → Maybe HeaderNamed (def line xs)
  def_named (t.Name n ∷ t.Mark mark.LeftParen ∷ xs) s = def_named_by n (front Closing xs) (back Closing xs) s.0
  def_named _ s = no

  -- ---- forms

  compound_named_by : (header : List Token → Option Header) (before xs : List Token) → Maybe HeaderNamed (header before) → Maybe FormNamed (compound_by line header before xs)
  compound_named_by header before [] k = no
  compound_named_by header before (x ∷ xs) k = maybe_then HeaderNamed (header before) _ k (λ found named. maybe_bind (block line xs) _ (λ body. yes named))

  compound_named : (header : List Token → Option Header) (xs : List Token) → SoundTokens xs → ((ys : List Token) → SoundTokens ys → Maybe HeaderNamed (header ys)) → Maybe FormNamed (compound line header xs)
  compound_named header xs s k = compound_named_by header (front Colon xs) (back Colon xs) (k (front Colon xs) (front_all IsSound opened (outside Colon) 0 xs s))

  statements_named : (xs : List Token) → Maybe FormNamed (statements line xs)
  statements_named xs = maybe_bind (simple line xs) _ (λ all. yes tt)

  future_named : (n : List ℕ) → Maybe FormNamed (future_of n)
  future_named n = by (bytes_eq n (codes "annotations"))
    where
      by : (b : Bool) → Maybe FormNamed (if b then Some form_is.Future else None)
      by true = yes tt
      by false = no

  typing_named : (xs : List Token) (b : Bool) → Maybe FormNamed (if b then (imported xs >>= λ names. Some (form_is.Typing names)) else None)
  typing_named xs true = maybe_bind (imported xs) _ (λ names. yes tt)
  typing_named xs false = no

  import_from_named : (from : List ℕ) (xs : List Token) → Maybe FormNamed (import_from from xs)
  import_from_named from xs = by (bytes_eq from (codes "__future__"))
    where
      by : (b : Bool) → Maybe FormNamed (if b then future xs else if bytes_eq from (codes "typing") then (imported xs >>= λ names. Some (form_is.Typing names)) else None)
      by true = maybe_bind (name xs) _ future_named
      by false = typing_named xs (bytes_eq from (codes "typing"))

  import_named : (xs : List Token) → Maybe FormNamed (import xs)
  import_named (t.Name from ∷ t.Keyword keyword.Import ∷ xs) = import_from_named from xs
  import_named _ = no

  form_named : (xs : List Token) → SoundTokens xs → Maybe FormNamed (form line xs)
  form_named (t.Keyword keyword.If ∷ xs) s = compound_named (tested line h.If) xs s.1 (λ ys k. tested_named h.If ys (λ x. tt))
  form_named (t.Keyword keyword.Elif ∷ xs) s = compound_named (tested line h.Elif) xs s.1 (λ ys k. tested_named h.Elif ys (λ x. tt))
  form_named (t.Keyword keyword.Else ∷ xs) s = compound_named (alone h.Else) xs s.1 (λ ys k. alone_named h.Else ys tt)
  form_named (t.Keyword keyword.While ∷ xs) s = compound_named (tested line h.While) xs s.1 (λ ys k. tested_named h.While ys (λ x. tt))
  form_named (t.Keyword keyword.For ∷ xs) s = compound_named (for line) xs s.1 (λ ys k. for_named ys)
  form_named (t.Keyword keyword.Try ∷ xs) s = compound_named (alone h.Try) xs s.1 (λ ys k. alone_named h.Try ys tt)
  form_named (t.Keyword keyword.Except ∷ xs) s = compound_named except xs s.1 (λ ys k. except_named ys)
  form_named (t.Keyword keyword.Finally ∷ xs) s = compound_named (alone h.Finally) xs s.1 (λ ys k. alone_named h.Finally ys tt)
  form_named (t.Keyword keyword.Def ∷ xs) s = compound_named (def line) xs s.1 def_named
  form_named (t.Keyword keyword.Class ∷ xs) s = compound_named class xs s.1 class_named
  form_named (t.Keyword keyword.From ∷ xs) s = import_named xs
  form_named xs s = statements_named xs

pub form_of_named : (l : Logical) → SoundLine l → Maybe FormNamed (form_of l)
unfolding form_of
form_of_named l s = form_named l.line l.tokens s
