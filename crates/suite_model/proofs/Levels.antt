-- The worked examples, by the laws.
use Rattle.std.proofs.Common.{◌≡◌, refl, ap, [], ◌∷◌, codes, decimal, arith}
use Rattle.std.proofs.lemmas.Fmt.{decimal_digit}
use Rattle.py_syntax.specs.declared.stmt.Annotation.TheVariants.{outs-Named, outs-NoneType, outs-OrNone, outs-Quoted}
use Rattle.suite_model.specs.declared.suite.Shown.TheVariants.{outs-Prim, outs-List as outs-ListShown, outs-Tuple}
use Rattle.suite_model.specs.declared.ty.Ty.TheVariants.{outs-Int, outs-Bool, outs-Str, outs-NoneType as outs-NoneTy, outs-List, outs-Dict, outs-Class, outs-OrNone as outs-OrNoneTy, outs-Any}
use Rattle.pyn_base.specs.declared.class.ClassId.TheVariants.{Own}
use Rattle.suite_model.specs.declared.ty.Ty.TheVariants as ty
use Rattle.suite_model.specs.Callables.{method_signature}
use Rattle.suite_model.specs.WellFormed.{method_by}
use Rattle.suite_model.specs.Examples.{program, Annotations, Integers, Derived, Called, TypesOfSteps, WellFormed, Spelled, Asserted}
use Rattle.suite_model.specs.Folds.{by_annotation, by_same, by_fits, by_shown}

ruleset levels = (by_annotation, by_same, by_fits, outs-Named, outs-NoneType, outs-OrNone, outs-Quoted, outs-Int, outs-Bool, outs-Str, outs-NoneTy, outs-List, outs-Dict, outs-Class, outs-OrNoneTy, outs-Any)

pub annotations : Annotations
annotations = simp levels

pub integers : Integers
integers = simp levels

pub derived : Derived
derived = simp levels

pub called : Called
called = refl

pub types_of_steps : TypesOfSteps
types_of_steps =
    ap (λ found. ty.Int ∷ ty.Class (Own 1) ∷ (method_signature program found).gives ∷ ty.Any ∷ [])
    (ap (λ t. method_by program t (codes "m")) (outs-Class (Own 1)))

pub well_formed : WellFormed
well_formed = simp levels

-- a digit is its character
pub digit_0 : decimal 0 ≡ 48 ∷ []
digit_0 = decimal_digit 0 (omega arith)

pub digit_1 : decimal 1 ≡ 49 ∷ []
digit_1 = decimal_digit 1 (omega arith)

pub digit_2 : decimal 2 ≡ 50 ∷ []
digit_2 = decimal_digit 2 (omega arith)

pub digit_3 : decimal 3 ≡ 51 ∷ []
digit_3 = decimal_digit 3 (omega arith)

ruleset digits = (digit_0, digit_1, digit_2, digit_3)

pub spelled : Spelled
spelled = simp digits

ruleset shows = (by_shown, outs-Prim, outs-ListShown, outs-Tuple, digit_0, digit_1)

pub asserted : Asserted
asserted = simp shows
