use Rattle.std.proofs.Common.{◌≡◌, ◌∙◌, ap, [], ◌∷◌, ◌++◌}
use Rattle.std.specs.Prelude.{codes}
use Rattle.py_language.specs.declared.token.Token.TheVariants as t
use Rattle.py_language.specs.declared.token.Mark.TheVariants as m
use Rattle.py_language.specs.declared.token.Keyword.TheVariants as k
use Rattle.py_syntax.specs.declared.stmt.Annotation.TheVariants.{Named, Quoted}
use Rattle.py_printer.specs.Style.{put, text_of}
use Rattle.py_annotation_layout.specs.Annotations.{annotation_tokens, named_tokens}
use Rattle.py_annotation_layout.specs.Examples.{named}
use Rattle.py_annotation_layout.proofs.Levels.{tokens-Named, tokens-NoneType, tokens-OrNone, tokens-Quoted}
use Rattle.py_annotation_layout.proofs.examples.annotations_by_example.Goals as goal

ints : annotation_tokens (Named (codes "list") (named "int" ∷ [])) ≡ named_tokens (codes "list") ((t.Name (codes "int") ∷ []) ∷ [])
ints = tokens-Named (codes "list") (named "int" ∷ []) ∙ ap (λ xs. named_tokens (codes "list") (xs ∷ [])) (tokens-Named (codes "int") [])

pub returns-clause-parts : goal.returns-clause-parts
unfolding put
returns-clause-parts c =
    ap text_of (tokens-Named (codes "Dict") (named "str" ∷ Named (codes "list") (named "int" ∷ []) ∷ []))
    ∙ ap (λ xs. text_of (named_tokens (codes "Dict") (xs ∷ annotation_tokens (Named (codes "list") (named "int" ∷ [])) ∷ []))) (tokens-Named (codes "str") [])
    ∙ ap (λ ys. text_of (named_tokens (codes "Dict") ((t.Name (codes "str") ∷ []) ∷ ys ∷ []))) ints

pub returns-clause-or_none : goal.returns-clause-or_none
unfolding put
returns-clause-or_none c = ap text_of (tokens-OrNone (named "int")) ∙ ap (λ xs. text_of (xs ++ t.Mark m.Pipe ∷ t.Keyword k.NoneLit ∷ [])) (tokens-Named (codes "int") [])

pub returns-clause-none : goal.returns-clause-none
unfolding put
returns-clause-none c = ap text_of tokens-NoneType

one : annotation_tokens (Quoted (named "A")) ≡ t.Str (text_of (t.Name (codes "A") ∷ [])) ∷ []
one = tokens-Quoted (named "A") ∙ ap (λ xs. t.Str (text_of xs) ∷ []) (tokens-Named (codes "A") [])

two : annotation_tokens (Quoted (Quoted (named "A"))) ≡ t.Str (text_of (t.Str (text_of (t.Name (codes "A") ∷ [])) ∷ [])) ∷ []
two = tokens-Quoted (Quoted (named "A")) ∙ ap (λ xs. t.Str (text_of xs) ∷ []) one

pub returns-clause-string : goal.returns-clause-string
unfolding put
returns-clause-string c = ap text_of one

pub returns-clause-in_a_string : goal.returns-clause-in_a_string
unfolding put
returns-clause-in_a_string c = ap text_of two

pub returns-clause-three_levels : goal.returns-clause-three_levels
unfolding put
returns-clause-three_levels c = ap text_of (tokens-Quoted (Quoted (Quoted (named "A"))) ∙ ap (λ xs. t.Str (text_of xs) ∷ []) two)
