-- Annotations one level at a time, and how the code finds what a name means.
use Rattle.std.proofs.Common.{◌≡◌, ℕ, zero, suc, List, [], ◌∷◌, map, length, Some, refl, ap, ap₂, ◌∙◌}
use Rattle.std.specs.List.{list_any}
use Rattle.std.specs.Prelude.{◌||◌, slice_get, remove}
use Rattle.std.proofs.lemmas.Bool.Decides.{nat_tests}
use Rattle.std.proofs.Common.{arith}
use Rattle.pyn_base.specs.declared.class.BuiltClass.{BuiltClass}
use Rattle.pyn_base.specs.declared.class.BuiltClass.TheVariants.{Exception}
use Rattle.pyn_base.specs.declared.class.ClassId.TheVariants.{Built}
use Rattle.py_syntax.specs.declared.stmt.Annotation.{Annotation, Annotation-F, map-Annotation, out-Annotation}
use Rattle.py_syntax.specs.declared.stmt.Annotation.TheVariants as a
use Rattle.py_syntax.specs.declared.stmt.Annotation.TheVariants.{outs-Named, outs-NoneType, outs-OrNone, outs-Quoted}
use Rattle.py_meaning.specs.Values.{same_class}
use Rattle.py_plain.specs.BuiltNames.{built_bases}
use Rattle.py_plain.specs.Classes.{is_exception, order_within}
use Rattle.py_plain.specs.Program.{ClassInfo, Program}
use Rattle.suite_model.specs.declared.ty.Ty.{Ty}
use Rattle.suite_model.specs.declared.ty.Ty.TheVariants as ty
use Rattle.suite_model.specs.Folds.{by_annotation}
use Rattle.suite_model.specs.Types.{annotated, type_by, type_named, first_of, second_of, is_built_exception}

module _ (classes : List ClassInfo) where
  by : (x : Annotation) (f : Annotation-F Annotation) → out-Annotation x ≡ f → annotated classes x ≡ type_by classes (map-Annotation Annotation Ty (annotated classes) f)
  by x f is = by_annotation classes x ∙ ap (λ f. type_by classes (map-Annotation Annotation Ty (annotated classes) f)) is

  pub annotated-Named : (name : List ℕ) (parts : List Annotation) → annotated classes (a.Named name parts) ≡ type_named classes name (map (annotated classes) parts)
  annotated-Named name parts = by (a.Named name parts) (Annotation-F.Named name parts) (outs-Named name parts)

  pub annotated-NoneType : annotated classes a.NoneType ≡ ty.NoneType
  annotated-NoneType = by a.NoneType Annotation-F.NoneType outs-NoneType

  pub annotated-OrNone : (inner : Annotation) → annotated classes (a.OrNone inner) ≡ ty.OrNone (annotated classes inner)
  annotated-OrNone inner = by (a.OrNone inner) (Annotation-F.OrNone inner) (outs-OrNone inner)

  pub annotated-Quoted : (inner : Annotation) → annotated classes (a.Quoted inner) ≡ annotated classes inner
  annotated-Quoted inner = by (a.Quoted inner) (Annotation-F.Quoted inner) (outs-Quoted inner)

pub ruleset levels = (annotated-Named, annotated-NoneType, annotated-OrNone, annotated-Quoted)

-- ---- the first two types

pub first_is : (parts : List Ty) (first : Ty) → slice_get parts 0 ≡ Some first → first_of parts ≡ first
first_is [] first h = absurd (cc)
first_is (t ∷ parts) first h = cc

pub second_is : (parts : List Ty) (first second : Ty) → slice_get parts 0 ≡ Some first → slice_get (remove parts 0) 0 ≡ Some second → second_of parts ≡ second
second_is [] first second h k = absurd (cc)
second_is (t ∷ parts) first second h k = first_is parts second k

-- ---- built-in exceptions

turned : (class : BuiltClass) → same_class (Built Exception) (Built class) ≡ same_class (Built class) (Built Exception)
turned class = grind (arith, nat_tests)

any_turned : (classes : List BuiltClass) → list_any (same_class (Built Exception)) (map Built classes) ≡ list_any (λ above. same_class (Built above) (Built Exception)) classes
any_turned [] = refl
any_turned (class ∷ classes) = ap₂ (λ a b. a || b) (turned class) (any_turned classes)

order_is : (program : Program) (n : ℕ) (class : BuiltClass) → order_within program n (Built class) ≡ map Built (class ∷ built_bases class)
order_is program zero class = refl
order_is program (suc n) class = refl

pub exception_is : (program : Program) (class : BuiltClass) → is_exception program (Built class) ≡ is_built_exception class
exception_is program class = ap (list_any (same_class (Built Exception))) (order_is program (length program.classes) class) ∙ any_turned (class ∷ built_bases class)
