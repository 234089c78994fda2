-- The built-in functions that ask for the module's classes, `isinstance` and `str` (the manual, "Built-in Functions"), and calls of all.
use Rattle.std.specs.Prelude.{Bool, true, false, if◌then◌else◌, List, [], ◌∷◌, Option}
use Rattle.pyn_base.specs.declared.class.BuiltClass.TheVariants.{KeyError, TypeError}
use Rattle.pyn_base.specs.declared.class.ClassId.{ClassId}
use Rattle.pyn_base.specs.declared.class.ClassId.TheVariants.{Built}
use Rattle.pyn_base.specs.declared.construct.Construct.TheVariants as construct
use Rattle.py_meaning.specs.declared.builtin.Builtin.{Builtin}
use Rattle.py_meaning.specs.declared.builtin.Builtin.TheVariants as builtin
use Rattle.py_meaning.specs.declared.object.Object.{Object}
use Rattle.py_meaning.specs.declared.object.Object.TheVariants as object
use Rattle.std.specs.Option.{option_map}
use Rattle.py_meaning.specs.declared.value.Value.{Value, Value-F, out-Value}
use Rattle.py_meaning.specs.declared.value.Value.TheVariants as v
use Rattle.py_meaning.specs.Builtins.{call_builtin, str_row, text_of_args}
use Rattle.py_meaning.specs.Steps.{Costing, raises, leaves, costs, done}
use Rattle.py_meaning.specs.Worlds.{World, object_at}
use Rattle.py_plain.specs.Classes.{class_of, derives, is_exception}
use Rattle.py_plain.specs.Program.{Program}
use Rattle.py_plain.specs.Runs.{Run, Finding, performs_value, asks, gives, ◌>>=◌}

module _ (program : Program) where
  -- ---- `isinstance`: each class that is tried costs a step, in order up to the first that matches

  abbrev pub tried : ClassId → Value-F Value → Costing Bool → Costing Bool
  tried class (Value-F.Class above) next = costs 1 (if derives program class above then done true else next)
  tried class (Value-F.Tuple parts) next = leaves construct.Argument
  tried class _ next = raises TypeError

  abbrev pub is_instance_of : ClassId → List Value → Costing Bool
  is_instance_of class [] = done false
  is_instance_of class (x ∷ xs) = tried class (out-Value x) (is_instance_of class xs)

  -- one class, or a flat tuple of classes
  abbrev pub is_instance : ClassId → Value → Value-F Value → Costing Bool
  is_instance class x (Value-F.Tuple tuple) = is_instance_of class tuple.parts
  is_instance class x _ = is_instance_of class (x ∷ [])

  abbrev pub isinstance_row : List Value → World → Costing Bool
  isinstance_row (x ∷ y ∷ []) world = is_instance (class_of world (out-Value x)) y (out-Value y)
  isinstance_row _ world = raises TypeError

  -- ---- `str` of an instance: an exception's text is its argument's, but a KeyError's leaves

  abbrev pub text_of_instance : ClassId → Option (List Value) → Costing Value
  text_of_instance class args = if derives program class (Built KeyError) then leaves construct.StrOf else
      (if is_exception program class then text_of_args args else leaves construct.StrOf)

  abbrev pub text_of_object : Object → List Value → World → Costing Value
  text_of_object (object.Instance class attributes args) arguments world = text_of_instance class (option_map (λ args. args.parts) args)
  text_of_object _ arguments world = str_row arguments world

  abbrev pub text_of_value : Value-F Value → List Value → World → Costing Value
  text_of_value (Value-F.Ref id) arguments world = text_of_object (object_at world id) arguments world
  text_of_value _ arguments world = str_row arguments world

  abbrev pub text_row : List Value → World → Costing Value
  text_row (x ∷ []) world = text_of_value (out-Value x) (x ∷ []) world
  text_row arguments world = str_row arguments world

  -- ---- a call of a built-in function or type, with its arguments

  abbrev pub calls_builtin : {W : Type 0} → Builtin → List Value → Run W Finding
  calls_builtin builtin.Isinstance arguments = asks (isinstance_row arguments) >>= (λ yes. gives (v.Bool yes))
  calls_builtin builtin.Str arguments = asks (text_row arguments) >>= gives
  calls_builtin other arguments = performs_value (call_builtin other arguments)
