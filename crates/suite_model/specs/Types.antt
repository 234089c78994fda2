-- Types: those that annotations name, and which value of one type serves where another is wanted (PEP 484, as far as a test can make values).
use Rattle.std.specs.Prelude.{ℕ, Bool, true, false, ◌||◌, if◌then◌else◌, List, [], ◌∷◌, Option, Some, None, codes}
use Rattle.std.specs.List.{list_any}
use Rattle.std.specs.Option.{option_or, option_map}
use Rattle.pyn_base.specs.declared.class.BuiltClass.{BuiltClass}
use Rattle.pyn_base.specs.declared.class.BuiltClass.TheVariants.{Exception}
use Rattle.pyn_base.specs.declared.class.ClassId.{ClassId}
use Rattle.pyn_base.specs.declared.class.ClassId.TheVariants.{Built}
use Rattle.py_syntax.specs.declared.stmt.Annotation.{Annotation, Annotation-F, fold-Annotation}
use Rattle.py_meaning.specs.Methods.{Names, named}
use Rattle.py_meaning.specs.Values.{same_class}
use Rattle.py_plain.specs.BuiltNames.{built_classes, built_bases}
use Rattle.py_plain.specs.Classes.{derives}
use Rattle.py_plain.specs.Program.{Program, ClassInfo, numbered}
use Rattle.suite_model.specs.declared.ty.Ty.{Ty, Ty-F, fold-Ty, out-Ty}
use Rattle.suite_model.specs.declared.ty.Ty.TheVariants as ty

-- ---- the type that an annotation names

abbrev pub or_any : Option Ty → Ty
or_any None = ty.Any
or_any (Some t) = t

abbrev pub first_of : List Ty → Ty
first_of [] = ty.Any
first_of (t ∷ ts) = t

abbrev pub second_of : List Ty → Ty
second_of [] = ty.Any
second_of (t ∷ ts) = first_of ts

-- the names that mean more than `Any`, with the type that each makes of the parts in its brackets
abbrev pub named_types : Names (List Ty → Ty)
named_types = (codes "int", λ parts. ty.Int) ∷ (codes "bool", λ parts. ty.Bool) ∷ (codes "str", λ parts. ty.Str)
    ∷ (codes "list", λ parts. ty.List (first_of parts)) ∷ (codes "List", λ parts. ty.List (first_of parts))
    ∷ (codes "dict", λ parts. ty.Dict (first_of parts) (second_of parts)) ∷ (codes "Dict", λ parts. ty.Dict (first_of parts) (second_of parts))
    ∷ (codes "Optional", λ parts. ty.OrNone (first_of parts)) ∷ []

abbrev pub is_built_exception : BuiltClass → Bool
is_built_exception class = list_any (λ above. same_class (Built above) (Built Exception)) (class ∷ built_bases class)

-- a built-in exception is its class; nothing is said of values of other built-in classes
abbrev pub exception_type : BuiltClass → Option Ty
exception_type class = if is_built_exception class then Some (ty.Class (Built class)) else None

abbrev pub built_type : Option BuiltClass → Option Ty
built_type None = None
built_type (Some class) = exception_type class

abbrev pub type_named : List ClassInfo → List ℕ → List Ty → Ty
type_named classes name parts =
    or_any (option_or (option_map ty.Class (named (numbered 0 classes) name))
    (option_or (option_map (λ make. make parts) (named named_types name)) (built_type (named built_classes name))))

abbrev pub type_by : List ClassInfo → Annotation-F Ty → Ty
type_by classes (Annotation-F.Named name parts) = type_named classes name parts
type_by classes Annotation-F.NoneType = ty.NoneType
type_by classes (Annotation-F.OrNone t) = ty.OrNone t
type_by classes (Annotation-F.Quoted t) = t

unfoldable pub annotated : List ClassInfo → Annotation → Ty
annotated classes = fold-Annotation Ty (type_by classes)

-- where nothing is annotated, nothing is known
abbrev pub type_of_annotation : List ClassInfo → Option Annotation → Ty
type_of_annotation classes None = ty.Any
type_of_annotation classes (Some annotation) = annotated classes annotation

-- ---- which type fits where another is wanted

-- what is asked of a type: whether another is the same, and whether a value of another fits
pub record Asked : Type 0 where
  pub same : Ty → Bool
  pub fits : Ty → Bool

abbrev pub is_int : Ty-F Ty → Bool
is_int Ty-F.Int = true
is_int _ = false

abbrev pub is_bool : Ty-F Ty → Bool
is_bool Ty-F.Bool = true
is_bool _ = false

abbrev pub is_str : Ty-F Ty → Bool
is_str Ty-F.Str = true
is_str _ = false

abbrev pub is_none : Ty-F Ty → Bool
is_none Ty-F.NoneType = true
is_none _ = false

abbrev pub is_any : Ty-F Ty → Bool
is_any Ty-F.Any = true
is_any _ = false

-- whether a list of such elements, a dict of such keys and values, an instance of such a class, or such a value or None
abbrev pub is_list_of : (Ty → Bool) → Ty-F Ty → Bool
is_list_of element (Ty-F.List t) = element t
is_list_of element _ = false

abbrev pub is_dict_of : (Ty → Bool) → (Ty → Bool) → Ty-F Ty → Bool
is_dict_of key value (Ty-F.Dict k v) = if key k then value v else false
is_dict_of key value _ = false

abbrev pub is_class_of : (ClassId → Bool) → Ty-F Ty → Bool
is_class_of which (Ty-F.Class class) = which class
is_class_of which _ = false

abbrev pub is_or_none_of : (Ty → Bool) → Ty-F Ty → Bool
is_or_none_of value (Ty-F.OrNone t) = value t
is_or_none_of value _ = false

abbrev pub whatever : Ty → Bool
whatever t = true

abbrev pub asked : (Ty-F Ty → Bool) → (Ty-F Ty → Bool) → Asked
asked same fits = record { same = λ t. same (out-Ty t); fits = λ t. fits (out-Ty t) }

-- A truth value is an integer; a list fits a list and a dict a dict, whatever they hold; an instance fits the classes above its own.
abbrev pub asked_by : Program → Ty-F Asked → Asked
asked_by program Ty-F.Int = asked is_int (λ t. is_int t || is_bool t)
asked_by program Ty-F.Bool = asked is_bool is_bool
asked_by program Ty-F.Str = asked is_str is_str
asked_by program Ty-F.NoneType = asked is_none is_none
asked_by program Ty-F.Any = asked is_any (λ t. true)
asked_by program (Ty-F.List element) = asked (is_list_of element.same) (is_list_of whatever)
asked_by program (Ty-F.Dict key value) = asked (is_dict_of key.same value.same) (is_dict_of whatever whatever)
asked_by program (Ty-F.Class class) = asked (is_class_of (same_class class)) (is_class_of (λ given. derives program given class))
asked_by program (Ty-F.OrNone t) =
    record { same = λ given. is_or_none_of t.same (out-Ty given); fits = λ given. is_none (out-Ty given) || is_or_none_of t.same (out-Ty given) || t.fits given }

unfoldable pub same_type : Program → Ty → Ty → Bool
same_type program t given = (fold-Ty Asked (asked_by program) t).same given

-- whether a value of the first type serves where the second is wanted
unfoldable pub fits : Program → Ty → Ty → Bool
fits program given wanted = (fold-Ty Asked (asked_by program) wanted).fits given
