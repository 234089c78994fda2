-- The types that names of the language make, and those of built-in exceptions.
use Rattle.std.specs.Prelude.{List}
use Rattle.pyn_base.specs.declared.class.BuiltClass.{BuiltClass}
use Rattle.pyn_base.specs.declared.class.ClassId.TheVariants.{Built}
use Rattle.suite_model.specs.declared.ty.Ty.{Ty}
use Rattle.suite_model.specs.declared.ty.Ty.TheVariants as ty
use Rattle.suite_model.specs.Types.{first_of, second_of}
use Rattle.test_chromosome.specs.declared.annotations.Former.{Former}
use Rattle.test_chromosome.specs.declared.annotations.Former.TheVariants as former

abbrev pub formed : Former → List Ty → Ty
formed former.Int parts = ty.Int
formed former.Bool parts = ty.Bool
formed former.Str parts = ty.Str
formed former.List parts = ty.List (first_of parts)
formed former.Dict parts = ty.Dict (first_of parts) (second_of parts)
formed former.Optional parts = ty.OrNone (first_of parts)

abbrev pub exception_of : BuiltClass → Ty
exception_of class = ty.Class (Built class)
