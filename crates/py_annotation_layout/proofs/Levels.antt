-- The tokens of each form of annotation, from those of its parts.
use Rattle.std.proofs.Common.{◌≡◌, ◌∙◌, ap, ℕ, List, [], ◌∷◌, ◌++◌}
use Rattle.std.specs.Prelude.{map}
use Rattle.py_language.specs.declared.token.Token.{Token}
use Rattle.py_language.specs.declared.token.Token.TheVariants as t
use Rattle.py_language.specs.declared.token.Keyword.TheVariants as k
use Rattle.py_language.specs.declared.token.Mark.TheVariants as m
use Rattle.py_syntax.specs.declared.stmt.Annotation.{Annotation, Annotation-F, fold_out-Annotation, map-Annotation, out-Annotation}
use Rattle.py_syntax.specs.declared.stmt.Annotation.TheVariants as a
use Rattle.py_syntax.specs.declared.stmt.Annotation.TheVariants.{outs-Named, outs-NoneType, outs-OrNone, outs-Quoted}
use Rattle.py_printer.specs.Style.{text_of}
use Rattle.py_annotation_layout.specs.Annotations.{named_tokens, tokens_by, annotation_tokens}

abbrev node_of : Annotation-F Annotation → List Token
node_of k = tokens_by (map-Annotation Annotation (List Token) annotation_tokens k)

out_tokens : (a : Annotation) → annotation_tokens a ≡ node_of (out-Annotation a)
unfolding annotation_tokens
out_tokens a = fold_out-Annotation (List Token) tokens_by a

pub tokens-Named : (n : List ℕ) (xs : List Annotation) → annotation_tokens (a.Named n xs) ≡ named_tokens n (map annotation_tokens xs)
tokens-Named n xs = out_tokens (a.Named n xs) ∙ ap node_of (outs-Named n xs)

pub tokens-NoneType : annotation_tokens a.NoneType ≡ t.Keyword k.NoneLit ∷ []
tokens-NoneType = out_tokens a.NoneType ∙ ap node_of outs-NoneType

pub tokens-OrNone : (x : Annotation) → annotation_tokens (a.OrNone x) ≡ annotation_tokens x ++ t.Mark m.Pipe ∷ t.Keyword k.NoneLit ∷ []
tokens-OrNone x = out_tokens (a.OrNone x) ∙ ap node_of (outs-OrNone x)

pub tokens-Quoted : (x : Annotation) → annotation_tokens (a.Quoted x) ≡ t.Str (text_of (annotation_tokens x)) ∷ []
tokens-Quoted x = out_tokens (a.Quoted x) ∙ ap node_of (outs-Quoted x)
