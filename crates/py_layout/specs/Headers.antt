-- The tokens that each header of a compound statement is printed as, and the header as it is read from them (Language Reference, chapter 8).
use Rattle.std.specs.Prelude.{◌≡◌, ℕ, List, [], ◌∷◌, ◌++◌, map, option_map, Option, Some, None}
use Rattle.py_language.specs.declared.token.Token.{Token}
use Rattle.py_language.specs.declared.token.Token.TheVariants as t
use Rattle.py_language.specs.declared.token.Keyword.TheVariants as k
use Rattle.py_language.specs.declared.token.Mark.TheVariants as m
use Rattle.py_language.specs.TreesPlaces.{Listed, Conditional}
use Rattle.py_syntax.specs.declared.expr.Expr.{Expr}
use Rattle.py_syntax.specs.declared.module.Param.{Param}
use Rattle.py_syntax.specs.declared.stmt.Annotation.{Annotation}
use Rattle.py_syntax.specs.declared.stmt.Stmt.{Stmt}
use Rattle.py_grammar.specs.declared.form.Form.TheVariants.{Compound}
use Rattle.py_grammar.specs.declared.form.Header.{Header}
use Rattle.py_grammar.specs.declared.form.Header.TheVariants as h
use Rattle.py_grammar.specs.Forms.{form}
use Rattle.py_printing.specs.Expressions.{expr_tokens}
use Rattle.py_layout.specs.Small.{joined, list_tokens, typed_tokens, fresh, ReadsBack}

abbrev pub lone : List ℕ → List Token
lone name = t.Name name ∷ []

abbrev pub colon : List Token
colon = t.Mark m.Colon ∷ []

-- one class, or several in brackets (8.4)
abbrev pub classes_tokens : List (List ℕ) → List Token
classes_tokens (name ∷ []) = lone name
classes_tokens names = t.Mark m.LeftParen ∷ (joined (map lone names) ++ t.Mark m.RightParen ∷ [])

abbrev pub as_tokens : Option (List ℕ) → List Token
as_tokens None = []
as_tokens (Some name) = t.Keyword k.As ∷ lone name

abbrev pub base_tokens : Option (List ℕ) → List Token
base_tokens None = []
base_tokens (Some name) = t.Mark m.LeftParen ∷ t.Name name ∷ t.Mark m.RightParen ∷ []

-- what may have a default (8.7)
abbrev pub with_default : List Token → Option Expr → List Token
with_default before None = before
with_default before (Some x) = before ++ t.Mark m.Equal ∷ expr_tokens Conditional x

-- by the tokens of annotations
module _ (annotated : Annotation → List Token) where
  abbrev pub param_tokens : Param → List Token
  param_tokens p = with_default (t.Name p.name ∷ typed_tokens annotated p.annotation) p.default

  abbrev pub returns_tokens : Option Annotation → List Token
  returns_tokens None = []
  returns_tokens (Some a) = t.Mark m.Arrow ∷ annotated a

  -- without the colon
  abbrev pub header_before : Header → List Token
  header_before (h.If test) = t.Keyword k.If ∷ expr_tokens Conditional test
  header_before (h.Elif test) = t.Keyword k.Elif ∷ expr_tokens Conditional test
  header_before h.Else = t.Keyword k.Else ∷ []
  header_before (h.While test) = t.Keyword k.While ∷ expr_tokens Conditional test
  header_before (h.For names is_tuple walked) = t.Keyword k.For ∷ (list_tokens is_tuple (map lone names) ++ t.Keyword k.In ∷ expr_tokens Listed walked)
  header_before h.Try = t.Keyword k.Try ∷ []
  header_before (h.Except None name) = t.Keyword k.Except ∷ []
  header_before (h.Except (Some classes) name) = t.Keyword k.Except ∷ (classes_tokens classes ++ as_tokens name)
  header_before h.Finally = t.Keyword k.Finally ∷ []
  header_before (h.Def name params returns) = t.Keyword k.Def ∷ t.Name name ∷ t.Mark m.LeftParen ∷ (joined (map param_tokens params) ++ t.Mark m.RightParen ∷ returns_tokens returns)
  header_before (h.Class name base) = t.Keyword k.Class ∷ t.Name name ∷ base_tokens base

  abbrev pub header_tokens : Header → List Token
  header_tokens header = header_before header ++ colon

-- ---- what is read from these tokens on a line

abbrev pub fresh_param : ℕ → Param → Param
fresh_param line p = record { name = p.name; annotation = p.annotation; default = option_map (fresh line) p.default; line = line }

abbrev pub fresh_header : ℕ → Header → Header
fresh_header line (h.If test) = h.If (fresh line test)
fresh_header line (h.Elif test) = h.Elif (fresh line test)
fresh_header line (h.While test) = h.While (fresh line test)
fresh_header line (h.For names is_tuple walked) = h.For names is_tuple (fresh line walked)
fresh_header line (h.Def name params returns) = h.Def name (map (fresh_param line) params) returns
fresh_header line header = header

-- a header that any tokens are read as, with whatever is on its line, is read from its own tokens, on any line
abbrev pub HeadersReadBack : Type 0
HeadersReadBack = (annotated : Annotation → List Token) → ReadsBack annotated → (before line : ℕ) (ts : List Token) (header : Header) (small : Option (List Stmt))
    → form before ts ≡ Some (Compound header small) → form line (header_tokens annotated header) ≡ Some (Compound (fresh_header line header) None)
