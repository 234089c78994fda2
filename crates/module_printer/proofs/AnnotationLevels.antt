-- The tokens of each form of annotation, from those of its parts.
use Rattle.std.proofs.Common.{◌≡◌, ◌∙◌, sym, ap, ℕ, List, [], ◌∷◌, ◌++◌, refl}
use Rattle.std.specs.Prelude.{map}
use Rattle.py_language.specs.declared.token.Token.{Token}
use Rattle.py_language.specs.declared.token.Token.TheVariants as t
use Rattle.py_language.specs.declared.token.Keyword.TheVariants as k
use Rattle.py_language.specs.declared.token.Mark.TheVariants as m
use Rattle.py_syntax.specs.declared.stmt.Annotation.{Annotation, Annotation-F, fold_out-Annotation, map-Annotation, out-Annotation}
use Rattle.py_syntax.specs.declared.stmt.Annotation.TheVariants as a
use Rattle.py_syntax.specs.declared.stmt.Annotation.TheVariants.{outs-Named, outs-NoneType, outs-OrNone, outs-Quoted}
use Rattle.py_printer.specs.Style.{text_of}
use Rattle.py_annotation_layout.specs.Annotations.{named_tokens, tokens_by, annotation_tokens}
use Rattle.module_printer.specs.Lines.{parts_tokens}
use Rattle.module_printer.proofs.Commas.{commas_joined}

abbrev node_of : Annotation-F Annotation → List Token
node_of f = tokens_by (map-Annotation Annotation (List Token) annotation_tokens f)

by_node : (x : Annotation) → annotation_tokens x ≡ node_of (out-Annotation x)
unfolding annotation_tokens
by_node x = fold_out-Annotation (List Token) tokens_by x

named_parts : (n : List ℕ) (xs : List Annotation) → named_tokens n (map annotation_tokens xs) ≡ t.Name n ∷ parts_tokens xs
named_parts n [] = refl
named_parts n (x ∷ xs) = ap (λ (z : List Token). t.Name n ∷ t.Mark m.LeftBracket ∷ (z ++ t.Mark m.RightBracket ∷ [])) (sym (commas_joined (map annotation_tokens (x ∷ xs))))

pub tokens-Named : (n : List ℕ) (xs : List Annotation) → annotation_tokens (a.Named n xs) ≡ t.Name n ∷ parts_tokens xs
tokens-Named n xs = by_node (a.Named n xs) ∙ ap node_of (outs-Named n xs) ∙ named_parts n xs

pub tokens-NoneType : annotation_tokens a.NoneType ≡ t.Keyword k.NoneLit ∷ []
tokens-NoneType = by_node a.NoneType ∙ ap node_of outs-NoneType

pub tokens-OrNone : (x : Annotation) → annotation_tokens (a.OrNone x) ≡ annotation_tokens x ++ t.Mark m.Pipe ∷ t.Keyword k.NoneLit ∷ []
tokens-OrNone x = by_node (a.OrNone x) ∙ ap node_of (outs-OrNone x)

pub tokens-Quoted : (x : Annotation) → annotation_tokens (a.Quoted x) ≡ t.Str (text_of (annotation_tokens x)) ∷ []
tokens-Quoted x = by_node (a.Quoted x) ∙ ap node_of (outs-Quoted x)

pub ruleset annotation_levels = (tokens-Named, tokens-NoneType, tokens-OrNone, tokens-Quoted)
