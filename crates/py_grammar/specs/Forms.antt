-- The form of a logical line: a header with what stands on its line, an import line, or small statements (Language Reference,
-- chapters 7 and 8).
use Rattle.std.specs.Prelude.{ℕ, List, [], ◌∷◌, Option, Some, None, bytes_eq, codes, if◌then◌else◌}
use Rattle.py_language.specs.declared.shape.Bracket.TheVariants.{Round}
use Rattle.py_language.specs.declared.token.Logical.{Logical}
use Rattle.py_language.specs.declared.token.Token.{Token}
use Rattle.py_language.specs.declared.token.Token.TheVariants as t
use Rattle.py_language.specs.declared.token.Keyword.TheVariants as keyword
use Rattle.py_language.specs.declared.token.Mark.TheVariants as mark
use Rattle.py_language.specs.Trees.{◌>>=◌}
use Rattle.py_syntax.specs.declared.expr.Expr.{Expr}
use Rattle.py_syntax.specs.declared.module.Param.{Param}
use Rattle.py_syntax.specs.declared.stmt.Annotation.{Annotation}
use Rattle.py_syntax.specs.declared.stmt.Stmt.{Stmt}
use Rattle.py_grammar.specs.declared.form.Form.{Form}
use Rattle.py_grammar.specs.declared.form.Form.TheVariants.{Simple, Compound, Future, Typing}
use Rattle.py_grammar.specs.declared.form.Header.{Header}
use Rattle.py_grammar.specs.declared.form.Header.TheVariants as h
use Rattle.py_grammar.specs.declared.separator.Separator.TheVariants.{Comma, Colon, Equal, In, As, Closing}
use Rattle.py_grammar.specs.Separators.{front, back, inside, parts, some_parts, all_parts, has}
use Rattle.py_grammar.specs.Annotations.{annotation}
use Rattle.py_grammar.specs.Statements.{alone, name, expr, exprs, simple}

-- names with commas between them in round brackets, the first of which was opened right before
abbrev pub names_inside : List Token → Option (List (List ℕ))
names_inside xs = inside Round xs >>= some_parts Comma name

-- ---- import lines (7.11)

abbrev pub imported : List Token → Option (List (List ℕ))
imported (t.Mark mark.LeftParen ∷ xs) = names_inside xs
imported xs = all_parts Comma name xs

abbrev pub future_of : List ℕ → Option Form
future_of n = if bytes_eq n (codes "annotations") then Some Future else None

abbrev pub future : List Token → Option Form
future xs = name xs >>= future_of

abbrev pub import_from : List ℕ → List Token → Option Form
import_from module' xs =
    if bytes_eq module' (codes "__future__") then future xs
    else if bytes_eq module' (codes "typing") then (imported xs >>= λ names. Some (Typing names))
    else None

abbrev pub import : List Token → Option Form
import (t.Name module' ∷ t.Keyword keyword.Import ∷ xs) = import_from module' xs
import _ = None

-- ---- the headers of compound statements (chapter 8), without keyword and colon

-- a class, or several in brackets (8.4)
abbrev pub handled : List Token → Option (List (List ℕ))
handled (t.Name n ∷ []) = Some (n ∷ [])
handled (t.Mark mark.LeftParen ∷ xs) = names_inside xs
handled _ = None

abbrev pub as_name : List Token → Option (Option (List ℕ))
as_name [] = Some None
as_name (x ∷ xs) = name xs >>= λ n. Some (Some n)

abbrev pub except : List Token → Option Header
except [] = Some (h.Except None None)
except xs = do
  classes ← handled (front As xs)
  bound ← as_name (back As xs)
  Some (h.Except (Some classes) bound)

-- the base in the round brackets, the first of which was opened right before
abbrev pub base_in : List Token → Option (Option (List ℕ))
base_in [] = Some None
base_in xs = name xs >>= λ n. Some (Some n)

abbrev pub base : List Token → Option (Option (List ℕ))
base xs = inside Round xs >>= base_in

-- a class, with a base in brackets if it has one (8.8)
abbrev pub class : List Token → Option Header
class (t.Name n ∷ []) = Some (h.Class n None)
class (t.Name n ∷ t.Mark mark.LeftParen ∷ xs) = base xs >>= λ b. Some (h.Class n b)
class _ = None

-- the annotation of a parameter, by what is behind its name
abbrev pub of_type : List Token → Option (Option Annotation)
of_type [] = Some None
of_type (t.Mark mark.Colon ∷ xs) = annotation xs >>= λ a. Some (Some a)
of_type _ = None

-- the annotation of a result, by what is behind the parameters
abbrev pub returned : List Token → Option (Option Annotation)
returned [] = Some None
returned (t.Mark mark.Arrow ∷ xs) = annotation xs >>= λ a. Some (Some a)
returned _ = None

module _ (line : ℕ) where
  -- by what is before `in`, and what is from there on (8.3)
  abbrev pub for_by : List Token → List Token → Option Header
  for_by before [] = None
  for_by before (x ∷ xs) = do
    names ← some_parts Comma name before
    walked ← exprs line xs
    Some (h.For names (has Comma before) walked)

  abbrev pub for : List Token → Option Header
  for xs = for_by (front In xs) (back In xs)

  abbrev pub default_of : List Token → Option (Option Expr)
  default_of [] = Some None
  default_of (x ∷ xs) = expr line xs >>= λ e. Some (Some e)

  -- by what is before `=`, and what is from there on (8.7)
  abbrev pub param_by : List Token → List Token → Option Param
  param_by (t.Name n ∷ xs) value = do
    annotation ← of_type xs
    default ← default_of value
    Some (record { name = n; annotation = annotation; default = default; line = line })
  param_by _ value = None

  abbrev pub param : List Token → Option Param
  param xs = param_by (front Equal xs) (back Equal xs)

  -- by the name, what is in the brackets, and what is from the closing one on
  abbrev pub def_by : List ℕ → List Token → List Token → Option Header
  def_by n content (t.Mark mark.RightParen ∷ xs) = do
    params ← parts Comma param content
    returns ← returned xs
    Some (h.Def n params returns)
  def_by n content _ = None

  abbrev pub def_with : List ℕ → List Token → Option Header
  def_with n xs = def_by n (front Closing xs) (back Closing xs)

  abbrev pub def : List Token → Option Header
  def (t.Name n ∷ t.Mark mark.LeftParen ∷ xs) = def_with n xs
  def _ = None

  abbrev pub tested : (Expr → Header) → List Token → Option Header
  tested header xs = expr line xs >>= λ x. Some (header x)

  -- what stands behind a header's colon on its line
  abbrev pub block : List Token → Option (Option (List Stmt))
  block [] = Some None
  block xs = simple line xs >>= λ all. Some (Some all)

  -- by what is before the first colon, and what is from there on
  abbrev pub compound_by : (List Token → Option Header) → List Token → List Token → Option Form
  compound_by header before [] = None
  compound_by header before (x ∷ xs) = do
    found ← header before
    body ← block xs
    Some (Compound found body)

  abbrev pub compound : (List Token → Option Header) → List Token → Option Form
  compound header xs = compound_by header (front Colon xs) (back Colon xs)

  abbrev pub statements : List Token → Option Form
  statements xs = simple line xs >>= λ all. Some (Simple all)

  abbrev pub form : List Token → Option Form
  form (t.Keyword keyword.If ∷ xs) = compound (tested h.If) xs
  form (t.Keyword keyword.Elif ∷ xs) = compound (tested h.Elif) xs
  form (t.Keyword keyword.Else ∷ xs) = compound (alone h.Else) xs
  form (t.Keyword keyword.While ∷ xs) = compound (tested h.While) xs
  form (t.Keyword keyword.For ∷ xs) = compound for xs
  form (t.Keyword keyword.Try ∷ xs) = compound (alone h.Try) xs
  form (t.Keyword keyword.Except ∷ xs) = compound except xs
  form (t.Keyword keyword.Finally ∷ xs) = compound (alone h.Finally) xs
  form (t.Keyword keyword.Def ∷ xs) = compound def xs
  form (t.Keyword keyword.Class ∷ xs) = compound class xs
  form (t.Keyword keyword.From ∷ xs) = import xs
  form xs = statements xs

-- the form of a logical line, if it has one
unfoldable pub form_of : Logical → Option Form
form_of l = form l.line l.tokens
