-- The rules of names: how they may be spelled, where they may stand, and that each is known. Each rule gives the lines that break it.
use Rattle.std.specs.Prelude.{ℕ, Bool, true, false, ◌&&◌, ◌||◌, not, if◌then◌else◌, List, [], ◌∷◌, Option, Some, None, codes, bytes_eq, nat_eq}
use Rattle.std.specs.List.{list_any, flat_map, starts_with, ends_with}
use Rattle.std.specs.Option.{option_map, option_or}
use Rattle.pyn_base.specs.declared.class.ClassId.{ClassId}
use Rattle.pyn_base.specs.declared.class.ClassId.TheVariants.{Built}
use Rattle.py_syntax.specs.declared.module.Func.{Func}
use Rattle.py_syntax.specs.declared.module.Module.{Module}
use Rattle.py_syntax.specs.declared.module.Param.{Param}
use Rattle.py_meaning.specs.Methods.{named, is_among}
use Rattle.py_names.specs.Bound.{locals, names_bound}
use Rattle.py_plain.specs.BuiltNames.{built_classes}
use Rattle.py_plain.specs.Classes.{derives}
use Rattle.py_plain.specs.Program.{Program, program_of, numbered}
use Rattle.pyn_base.specs.declared.class.BuiltClass.TheVariants.{Exception}
use Rattle.py_scopes.specs.Annotations.{is_typing_name, names_in}
use Rattle.py_scopes.specs.ModuleRows.{is_built_name}
use Rattle.py_scopes.specs.Names.{module_names, imports_in}
use Rattle.py_scopes.specs.Pieces.{Place, AtModule, InClass, InBody, lines_where}
use Rattle.py_scopes.specs.Uses.{Use, Reads, Binds, Attribute, Super, Argument, Catches, Defines, Based, Imported, Annotated, MixedArguments, NoLoop, NoClause}

-- ---- spellings

abbrev pub two_underscores : List ℕ
two_underscores = codes "__"

abbrev pub begins_private : List ℕ → Bool
begins_private name = starts_with nat_eq name two_underscores

abbrev pub ends_special : List ℕ → Bool
ends_special name = ends_with nat_eq name two_underscores

-- two underscores at both ends, which may be the same
abbrev pub is_special : List ℕ → Bool
is_special name = begins_private name && ends_special name

abbrev pub initializer_name : List ℕ
initializer_name = codes "__init__"

abbrev pub is_in_class : Place → Bool
is_in_class (InClass c) = true
is_in_class _ = false

abbrev pub special_def : Place → Use → Bool
special_def place (Defines name) = is_special name && not (is_in_class place && bytes_eq name initializer_name)
special_def place _ = false

abbrev pub special_method : Module → List ℕ
special_method m = lines_where special_def m

-- the names that are used so, but for those of functions
abbrev pub mentioned : Use → List (List ℕ)
mentioned (Reads name) = name ∷ []
mentioned (Binds name) = name ∷ []
mentioned (Attribute name) = name ∷ []
mentioned (Super name) = if bytes_eq name initializer_name then [] else name ∷ []
mentioned (Argument name) = name ∷ []
mentioned (Catches name) = name ∷ []
mentioned (Based name) = name ∷ []
mentioned (Imported name) = name ∷ []
mentioned (Annotated annotation) = names_in annotation
mentioned _ = []

abbrev pub special_name : Module → List ℕ
special_name m = lines_where (λ place u. list_any is_special (mentioned u)) m

abbrev pub in_a_class : Place → Bool
in_a_class AtModule = false
in_a_class (InClass c) = true
in_a_class (InBody None f) = false
in_a_class (InBody (Some c) f) = true

abbrev pub is_private : List ℕ → Bool
is_private name = begins_private name && not (ends_special name)

abbrev pub named_in : Use → List (List ℕ)
named_in (Defines name) = name ∷ []
named_in u = mentioned u

abbrev pub private_name : Module → List ℕ
private_name m = lines_where (λ place u. in_a_class place && list_any is_private (named_in u)) m

-- ---- names of typing, which stand in annotations alone

abbrev pub is_local : Place → List ℕ → Bool
is_local (InBody owner f) name = is_among (locals f) name
is_local place name = false

abbrev pub typing_use : List (List ℕ) → Place → Use → Bool
typing_use imported place (Imported name) = not (is_typing_name name)
typing_use imported place (Reads name) = is_among imported name && not (is_local place name)
typing_use imported place (Catches name) = is_among imported name && not (is_local place name)
typing_use imported place _ = false

abbrev pub typing_name : Module → List ℕ
typing_name m = lines_where (typing_use (imports_in m.items)) m

-- ---- statements that need something round them

abbrev pub no_loop : Place → Use → Bool
no_loop place NoLoop = true
no_loop place _ = false

abbrev pub break_outside_loop : Module → List ℕ
break_outside_loop m = lines_where no_loop m

abbrev pub no_clause : Place → Use → Bool
no_clause place NoClause = true
no_clause place _ = false

abbrev pub bare_raise : Module → List ℕ
bare_raise m = lines_where no_clause m

-- ---- the classes of clauses

-- the first class of a name, or a built-in one
abbrev pub class_named : Program → List ℕ → Option ClassId
class_named program name = option_or (named (numbered 0 program.classes) name) (option_map Built (named built_classes name))

abbrev pub is_exception_by : Program → Option ClassId → Bool
is_exception_by program None = false
is_exception_by program (Some class) = derives program class (Built Exception)

abbrev pub no_exception : Program → Place → Use → Bool
no_exception program place (Catches name) = is_local place name || not (is_exception_by program (class_named program name))
no_exception program place _ = false

abbrev pub exception_name : Module → List ℕ
exception_name m = lines_where (no_exception (program_of m)) m

-- ---- `super`: called without arguments in a method, whose first parameter nothing binds again

abbrev pub super_name : List ℕ
super_name = codes "super"

abbrev pub keeps_first : Func → List Param → Bool
keeps_first f [] = false
keeps_first f (p ∷ params) = not (is_among (flat_map names_bound f.body) p.name)

abbrev pub may_call_super : Place → Bool
may_call_super (InBody (Some c) f) = keeps_first f f.params
may_call_super _ = false

abbrev pub wrong_super : Place → Use → Bool
wrong_super place (Super name) = not (may_call_super place)
wrong_super place (Reads name) = bytes_eq name super_name
wrong_super place (Binds name) = bytes_eq name super_name && not (is_in_class place)
wrong_super place (Defines name) = bytes_eq name super_name && not (is_in_class place)
wrong_super place (Imported name) = bytes_eq name super_name
wrong_super place _ = false

abbrev pub super : Module → List ℕ
super m = lines_where wrong_super m

-- ---- arguments

abbrev pub mixed : Place → Use → Bool
mixed place MixedArguments = true
mixed place _ = false

abbrev pub arguments : Module → List ℕ
arguments m = lines_where mixed m

-- ---- names that nothing binds

abbrev pub is_unknown : List (List ℕ) → Place → Use → Bool
is_unknown names place (Reads name) = not (is_local place name) && not (is_among names name) && not (is_built_name name)
is_unknown names place _ = false

abbrev pub unknown_name : Module → List ℕ
unknown_name m = lines_where (is_unknown (module_names m.items)) m
