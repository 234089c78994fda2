-- Annotations: names with parts in brackets, `None`, and strings that hold an annotation (Language Reference 7.2.2 and 8.7,
-- and the library manual's chapter on typing).
use Rattle.std.specs.Prelude.{ℕ, zero, suc, List, [], ◌∷◌, ◌++◌, Option, Some, None, encode_utf8_all}
use Rattle.pyn_base.specs.declared.construct.Construct.{Construct}
use Rattle.py_language.specs.declared.shape.Bracket.TheVariants.{Square}
use Rattle.py_language.specs.declared.token.Logical.{Logical}
use Rattle.py_language.specs.declared.token.Token.{Token}
use Rattle.py_language.specs.declared.token.Token.TheVariants as t
use Rattle.py_language.specs.declared.token.Keyword.TheVariants as keyword
use Rattle.py_language.specs.declared.token.Mark.TheVariants as mark
use Rattle.py_language.specs.Tokens.{tokens_of}
use Rattle.py_language.specs.Trees.{◌>>=◌}
use Rattle.py_syntax.specs.declared.stmt.Annotation.{Annotation}
use Rattle.py_syntax.specs.declared.stmt.Annotation.TheVariants.{Named, NoneType, OrNone, Quoted}
use Rattle.py_grammar.specs.declared.separator.Separator.TheVariants.{Comma, Pipe}
use Rattle.py_grammar.specs.Separators.{inside, last_cut, all_parts}

-- strings alone, which are one
abbrev pub strings : List Token → Option (List ℕ)
strings [] = Some []
strings (t.Str text ∷ xs) = strings xs >>= λ more. Some (text ++ more)
strings _ = None

-- the tokens of the one logical line that there is, if there is no fault
abbrev pub lone : List Logical → Option (ℕ × Construct) → Option (List Token)
lone (l ∷ []) None = Some l.tokens
lone _ _ = None

abbrev pub line_in : List ℕ → Option (List Token)
line_in text = lone (tokens_of text).lines (tokens_of text).fault

-- what the one line in a string's characters is
unfoldable pub held : (List Token → Option Annotation) → List ℕ → Option Annotation
held part text = line_in (encode_utf8_all text) >>= part

-- strings, by the annotation that is in them
abbrev pub quoted : (List Token → Option Annotation) → List Token → Option Annotation
quoted part xs = strings xs >>= held part >>= λ x. Some (Quoted x)

-- a name, with the parts in the brackets after it
abbrev pub named : (List Token → Option Annotation) → List ℕ → List Token → Option Annotation
named part n [] = Some (Named n [])
named part n (t.Mark mark.LeftBracket ∷ xs) = inside Square xs >>= all_parts Comma part >>= λ all. Some (Named n all)
named part n _ = None

-- `part` is an annotation in brackets or in a string
module _ (part : List Token → Option Annotation) where
  abbrev pub one : List Token → Option Annotation
  one [] = None
  one (t.Keyword keyword.NoneLit ∷ []) = Some NoneType
  one (t.Name n ∷ xs) = named part n xs
  one xs = quoted part xs

  abbrev pub before_none : List Token → List Token → Option Annotation
  before_none xs (t.Keyword keyword.NoneLit ∷ []) = one xs >>= λ x. Some (OrNone x)
  before_none xs _ = None

  -- with `| None` after it, or without
  abbrev pub maybe_none : Option (List Token × Token × List Token) → List Token → Option Annotation
  maybe_none (Some c) xs = before_none c.0 c.2
  maybe_none None xs = one xs

-- an annotation with fewer brackets and strings in one another than the number
unfoldable pub annotation_in : ℕ → List Token → Option Annotation
annotation_in zero xs = None
annotation_in (suc depth) xs = maybe_none (annotation_in depth) (last_cut Pipe xs) xs

-- Brackets and strings are at most 50 deep in one another, as brackets of a text are.
abbrev pub deepest : ℕ
deepest = 51

-- an annotation
abbrev pub annotation : List Token → Option Annotation
annotation xs = annotation_in deepest xs
