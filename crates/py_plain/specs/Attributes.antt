-- Attributes (Language Reference 6.3.1; 3.2, "Custom classes", "Class instances" and "Modules").
use Rattle.std.specs.Prelude.{ℕ, Bool, true, false, ◌&&◌, if◌then◌else◌, List, Option, Some, None, Ok, bytes_eq, codes}
use Rattle.pyn_base.specs.declared.class.BuiltClass.TheVariants.{AttributeError}
use Rattle.pyn_base.specs.declared.class.ClassId.{ClassId}
use Rattle.pyn_base.specs.declared.class.ClassId.TheVariants.{Built, Own}
use Rattle.pyn_base.specs.declared.construct.Construct.TheVariants as construct
use Rattle.pyn_base.specs.declared.ids.ObjId.{ObjId}
use Rattle.py_meaning.specs.declared.object.ObjKind.{ObjKind}
use Rattle.py_meaning.specs.declared.object.ObjKind.TheVariants as kind
use Rattle.py_meaning.specs.declared.measured.Measured.{Measured}
use Rattle.py_meaning.specs.declared.value.Value.{Value, Value-F, out-Value}
use Rattle.py_meaning.specs.declared.value.Value.TheVariants as v
use Rattle.py_meaning.specs.Methods.{Names, named, is_among, list_methods, dict_methods, text_methods, left_of_list, left_of_dict, left_of_tuple, left_of_integer, left_of_text}
use Rattle.py_meaning.specs.Operations.{kind_of, args_of, attr_get, attr_set}
use Rattle.py_meaning.specs.Worlds.{object_at}
use Rattle.py_plain.specs.declared.run.Abrupt.TheVariants.{Left}
use Rattle.py_plain.specs.declared.run.Callee.{Callee}
use Rattle.py_plain.specs.declared.run.Callee.TheVariants as callee
use Rattle.py_plain.specs.Classes.{is_exception, class_member}
use Rattle.py_plain.specs.Names.{lookup, is_some}
use Rattle.py_plain.specs.Program.{Program}
use Rattle.py_plain.specs.Runs.{Run, Finding, nothing, pure, gives, stop, raises}

-- ---- finding what a name means on a value

-- A method of a built-in type is there under its name; a further name of Python's own leaves.
abbrev pub finds_method : {W M : Type 0} → Names M → List (List ℕ) → Value → List ℕ → Run W Callee
finds_method methods left receiver name = if is_some (named methods name) then pure (callee.Method receiver name) else
    (if is_among left name then stop (Left construct.Method) else raises AttributeError)

-- a type without a method in the subset
abbrev pub finds_none : {W : Type 0} → List (List ℕ) → List ℕ → Run W Callee
finds_none left name = if is_among left name then stop (Left construct.Method) else raises AttributeError

-- A function found in the class of an instance is a method of the instance.
abbrev pub bound_method : ObjId → Callee → Callee
bound_method id (callee.Function f) = callee.Bound id f
bound_method id other = other

-- the arguments of an exception, where they are known
abbrev pub known_args : {W : Type 0} → Option (Measured Value) → Run W Callee
known_args None = stop (Left construct.ExceptionText)
known_args (Some args) = pure (callee.Value (v.Tuple args))

abbrev pub args_named : {W : Type 0} → List ℕ → Option (Measured Value) → Run W Callee
args_named name args = if bytes_eq name (codes "args") then known_args args else stop (Left construct.ExceptionAttribute)

-- what no class of an instance has
abbrev pub missing_member : {W : Type 0} → Bool → List ℕ → Option (Measured Value) → Run W Callee
missing_member true name args = args_named name args
missing_member false name args = raises AttributeError

abbrev pub missing_of_class : {W : Type 0} → Bool → List ℕ → Run W Callee
missing_of_class exception name = if bytes_eq name (codes "mro") then stop (Left construct.ClassAttribute) else
    (if exception then stop (Left construct.ExceptionAttribute) else raises AttributeError)

abbrev pub found_or : {W : Type 0} → Run W Callee → Option Callee → Run W Callee
found_or missing None = missing
found_or missing (Some found) = pure found

abbrev pub bound_or : {W : Type 0} → ObjId → Run W Callee → Option Callee → Run W Callee
bound_or id missing None = missing
bound_or id missing (Some found) = pure (bound_method id found)

abbrev pub value_or : {W : Type 0} → Run W Callee → Option Value → Run W Callee
value_or missing None = missing
value_or missing (Some x) = pure (callee.Value x)

module _ {W : Type 0} (program : Program) where
  -- in the classes of an instance, from this one on
  abbrev pub finds_above : ObjId → ClassId → ClassId → List ℕ → Run W Callee
  finds_above id class from name = λ s. bound_or id (missing_member (is_exception program class) name (args_of (object_at s.objects id))) (class_member program s.space from name) s

  -- in the instance, then in its class and along its bases
  abbrev pub finds_in_instance : ObjId → ClassId → List ℕ → Run W Callee
  finds_in_instance id class name = λ s. value_or (finds_above id class class name) (attr_get id name s.objects) s

  abbrev pub finds_in_class : ClassId → List ℕ → Run W Callee
  finds_in_class (Built class) name = stop (Left construct.ClassAttribute)
  finds_in_class (Own k) name = λ s. found_or (missing_of_class (is_exception program (Own k)) name) (class_member program s.space (Own k) name) s

  abbrev pub finds_in_object : ObjId → ObjKind → List ℕ → Run W Callee
  finds_in_object id kind.List name = finds_method list_methods left_of_list (v.Ref id) name
  finds_in_object id kind.Dict name = finds_method dict_methods left_of_dict (v.Ref id) name
  finds_in_object id (kind.Instance class) name = finds_in_instance id class name

  -- Acceptance has seen that the module has the name.
  abbrev pub finds_in_module : List ℕ → Run W Callee
  finds_in_module name = λ s. value_or (stop (Left construct.UnknownName)) (lookup name s.space.names) s

  abbrev pub finds_in : Value → Value-F Value → List ℕ → Run W Callee
  finds_in x (Value-F.Str text) name = finds_method text_methods left_of_text x name
  finds_in x (Value-F.Tuple parts) name = finds_none left_of_tuple name
  finds_in x (Value-F.Bool b) name = finds_none left_of_integer name
  finds_in x (Value-F.Int n) name = finds_none left_of_integer name
  finds_in x Value-F.None name = raises AttributeError
  finds_in x (Value-F.Ref id) name = λ s. finds_in_object id (kind_of (object_at s.objects id)) name s
  finds_in x (Value-F.Class class) name = finds_in_class class name
  finds_in x (Value-F.Func f) name = stop (Left construct.FunctionAttribute)
  finds_in x (Value-F.View view) name = stop (Left construct.Method)
  finds_in x Value-F.ModuleRef name = finds_in_module name

  abbrev pub finds : Value → List ℕ → Run W Callee
  finds x name = finds_in x (out-Value x) name

-- ---- reading and setting

-- A method that isn't called leaves.
abbrev pub read_found : {W : Type 0} → Callee → Run W Finding
read_found (callee.Value x) = gives x
read_found _ = stop (Left construct.MethodValue)

abbrev pub sets_in_instance : {W : Type 0} → Bool → ObjId → List ℕ → Value → Run W Finding
sets_in_instance exception id name x = if exception && bytes_eq name (codes "args") then stop (Left construct.ExceptionAttribute)
    else (λ s. (Ok nothing, record s { objects = attr_set id name x s.objects }))

module _ {W : Type 0} (program : Program) where
  abbrev pub sets_in_object : ObjId → ObjKind → List ℕ → Value → Run W Finding
  sets_in_object id (kind.Instance class) name x = sets_in_instance (is_exception program class) id name x
  sets_in_object id _ name x = raises AttributeError

  abbrev pub sets_in : Value-F Value → List ℕ → Value → Run W Finding
  sets_in (Value-F.Class class) name x = stop (Left construct.ClassAttribute)
  sets_in (Value-F.Func f) name x = stop (Left construct.ClassAttribute)
  sets_in (Value-F.View view) name x = stop (Left construct.View)
  sets_in (Value-F.Ref id) name x = λ s. sets_in_object id (kind_of (object_at s.objects id)) name x s
  sets_in _ name x = raises AttributeError

  -- `of.name = x`: of an instance alone
  abbrev pub sets_attribute : Value → List ℕ → Value → Run W Finding
  sets_attribute of name x = sets_in (out-Value of) name x
