-- The tokens of headers, in the order in which they are written.
use Rattle.std.proofs.Common.{◌≡◌, ◌∙◌, sym, ap, refl, ℕ, suc, length, List, [], ◌∷◌, ◌++◌, false, arith, Option, Some, None, map, append-nil}
use Rattle.std.specs.Prelude.{◌==◌}
use Rattle.std.proofs.lemmas.Bool.Decides.{nat_tests}
use Rattle.py_language.specs.declared.token.Token.{Token}
use Rattle.py_language.specs.declared.token.Token.TheVariants as t
use Rattle.py_language.specs.declared.token.Keyword.TheVariants as k
use Rattle.py_language.specs.declared.token.Mark.TheVariants as m
use Rattle.py_syntax.specs.declared.expr.Expr.{Expr}
use Rattle.py_grammar.specs.declared.form.Header.TheVariants as h
use Rattle.py_layout.specs.Headers.{lone, colon, classes_tokens, header_tokens, with_default}
use Rattle.py_annotation_layout.specs.Annotations.{annotation_tokens}
use Rattle.module_printer.specs.Lines.{classes_by, default_tokens, handled_tokens}
use Rattle.module_printer.proofs.Commas.{commas_joined}

pub default_after : (before : List Token) (d : Option Expr) → with_default before d ≡ before ++ default_tokens d
default_after before None = sym (append-nil before)
default_after before (Some x) = refl

not_one : (n : ℕ) → (suc (suc n) == 1) ≡ false
not_one n = grind (arith, nat_tests)

pub classes_are : (names : List (List ℕ)) → classes_tokens names ≡ classes_by (length names == 1) names
classes_are [] = refl
classes_are (n ∷ []) = refl
classes_are (n1 ∷ n2 ∷ more) =
    ap (λ (z : List Token). t.Mark m.LeftParen ∷ (z ++ t.Mark m.RightParen ∷ [])) (sym (commas_joined (map lone (n1 ∷ n2 ∷ more))))
    ∙ sym (ap (λ v. classes_by v (n1 ∷ n2 ∷ more)) (not_one (length more)))

pub except_is : (classes : Option (List (List ℕ))) (name : Option (List ℕ)) → header_tokens annotation_tokens (h.Except classes name) ≡ t.Keyword k.Except ∷ (handled_tokens classes name ++ colon)
except_is None name = refl
except_is (Some classes) name = refl
