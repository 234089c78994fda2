-- What holds of the tokens of an annotation that is read from the tokens of a text.
use Rattle.std.specs.Prelude.{◌≡◌, true, List, [], ◌++◌, Some}
use Rattle.std.specs.List.{list_all}
use Rattle.py_language.specs.declared.token.Token.{Token}
use Rattle.py_syntax.specs.declared.stmt.Annotation.{Annotation}
use Rattle.py_grammar.specs.Annotations.{annotation}
use Rattle.py_spelling.specs.Spelling.{is_sound, is_balanced}
use Rattle.py_annotation_layout.specs.Annotations.{annotation_tokens}

-- a text can hold them
abbrev pub AnnotationsAreSound : Type 0
AnnotationsAreSound = (ts : List Token) (a : Annotation) → list_all is_sound ts ≡ true → annotation ts ≡ Some a → list_all is_sound (annotation_tokens a) ≡ true

-- their brackets close in order, and no more than 50 are open at once
abbrev pub AnnotationsAreBalanced : Type 0
AnnotationsAreBalanced = (ts rest : List Token) (a : Annotation) → list_all is_sound ts ≡ true → annotation ts ≡ Some a → is_balanced [] (annotation_tokens a ++ rest) ≡ is_balanced [] rest
