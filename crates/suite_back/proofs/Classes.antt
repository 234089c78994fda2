-- A class is found by what stands for it.
use Rattle.std.proofs.Common.{None, Option, Some, ap, refl, true, ℕ, ◌∙◌, ◌≡◌}
use Rattle.std.specs.Prelude.{codes, if◌then◌else◌, slice_get}
use Rattle.pyn_base.specs.declared.class.BuiltClass.TheVariants as built
use Rattle.pyn_base.specs.declared.class.ClassId.{ClassId}
use Rattle.pyn_base.specs.declared.class.ClassId.TheVariants.{Built, Own}
use Rattle.py_syntax.specs.declared.expr.ExprKind.TheVariants.{outs-Attr, outs-Name}
use Rattle.py_plain.specs.Nodes.{kind_of_expr}
use Rattle.py_plain.specs.Classes.{is_exception}
use Rattle.py_plain.specs.Program.{ClassInfo, Program}
use Rattle.suite_model.specs.Assertions.{bare_name, class_read}
use Rattle.suite_model.specs.Statements.{class_name, module_read}
use Rattle.suite_file.specs.declared.spelled.Named.{Named}
use Rattle.suite_file.specs.declared.spelled.Named.TheVariants as named
use Rattle.suite_file.specs.SuiteOf.{class_named, exception_named, own_class_named}
use Rattle.suite_file.specs.Spelled.{class_by, class_in, is_module}
use Rattle.name_laws.specs.Laws.{NamesAreFound}
use Rattle.suite_text.specs.Printable.{is_own_class, is_there}
use Rattle.suite_back.proofs.Truths.{after_found}

pub module_is : is_module (kind_of_expr module_read) ≡ true
module_is = ap is_module (outs-Name (codes "module_0"))

module _ (program : Program) where
  -- how a class is named
  abbrev pub naming : ClassId → Named
  naming (Built class) = named.Bare (bare_name program (Built class))
  naming (Own k) = named.OfModule (bare_name program (Own k))

  pub naming_read : (class : ClassId) → class_in (class_read program class) ≡ Some (naming class)
  naming_read (Built class) = ap class_by (outs-Name (bare_name program (Built class)))
  naming_read (Own k) =
      let name = bare_name program (Own k) in
      ap class_by (outs-Attr module_read name) ∙ ap (λ b. if b then Some (named.OfModule name) else None) module_is

  -- a class that is there
  own_info : (o : Option ClassInfo) → is_own_class o ≡ true → (c : ClassInfo) × (o ≡ Some c)
  own_info None h = absurd (cc)
  own_info (Some c) h = (c, refl)

  pub class_at : (k : ℕ) → is_there program (Own k) ≡ true → (c : ClassInfo) × (slice_get program.classes k ≡ Some c)
  class_at k h = own_info (slice_get program.classes k) h

  module _ (found : NamesAreFound program) where
    pub own_found : (k : ℕ) → is_there program (Own k) ≡ true → own_class_named program (class_name (slice_get program.classes k)) ≡ Some (Own k)
    own_found k h = let c = class_at k h in ap (λ o. own_class_named program (class_name o)) c.1 ∙ found.classes k c.0 c.1

    pub class_found : (class : ClassId) → is_there program class ≡ true → class_named program (naming class) ≡ Some class
    class_found (Built built.Object) h = refl
    class_found (Built built.Int) h = refl
    class_found (Built built.Bool) h = refl
    class_found (Built built.Str) h = refl
    class_found (Built built.List) h = refl
    class_found (Built built.Dict) h = refl
    class_found (Built built.Tuple) h = refl
    class_found (Built built.Exception) h = refl
    class_found (Built built.ArithmeticError) h = refl
    class_found (Built built.ZeroDivisionError) h = refl
    class_found (Built built.LookupError) h = refl
    class_found (Built built.IndexError) h = refl
    class_found (Built built.KeyError) h = refl
    class_found (Built built.ValueError) h = refl
    class_found (Built built.TypeError) h = refl
    class_found (Built built.AttributeError) h = refl
    class_found (Built built.NameError) h = refl
    class_found (Built built.UnboundLocalError) h = refl
    class_found (Built built.AssertionError) h = refl
    class_found (Built built.RuntimeError) h = refl
    class_found (Built built.NotImplementedError) h = refl
    class_found (Own k) h = own_found k h

    pub exception_found : (class : ClassId) → is_there program class ≡ true → is_exception program class ≡ true → exception_named program (naming class) ≡ Some class
    exception_found class h k =
        after_found (class_named program (naming class)) (λ found. if is_exception program found then Some found else None) class (Some class) (class_found class h) (rw k refl)
