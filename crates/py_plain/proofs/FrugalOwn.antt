-- `isinstance` and `str` gain no steps, and so no operation does.
use Rattle.std.proofs.Common.{Bool, List, [], ◌∷◌, Option}
use Rattle.std.specs.Prelude.{true}
use Rattle.pyn_base.specs.declared.class.BuiltClass.TheVariants.{KeyError}
use Rattle.pyn_base.specs.declared.class.ClassId.{ClassId}
use Rattle.pyn_base.specs.declared.class.ClassId.TheVariants.{Built}
use Rattle.py_meaning.specs.declared.object.Object.{Object}
use Rattle.py_meaning.specs.declared.object.Object.TheVariants as object
use Rattle.std.specs.Option.{option_map}
use Rattle.py_meaning.specs.declared.value.Value.{Value, Value-F, out-Value}
use Rattle.py_meaning.specs.Steps.{Costing}
use Rattle.py_meaning.specs.Worlds.{World, object_at}
use Rattle.py_plain.specs.Builtins.{tried, is_instance_of, is_instance, isinstance_row, text_of_instance, text_of_object, text_of_value, text_row}
use Rattle.py_plain.specs.Classes.{class_of, derives, is_exception}
use Rattle.py_plain.specs.Program.{Program}
use Rattle.py_plain.proofs.Like.{Frugal}
use Rattle.py_plain.proofs.Frugality.{frugal_done, frugal_raises, frugal_leaves, frugal_costs, frugal_if}
use Rattle.py_plain.proofs.FrugalArithmetic.{frugal_unary}
use Rattle.py_plain.proofs.FrugalBuiltins.{frugal_call_builtin, frugal_str_row, frugal_text_of_args, frugal_tuple_of_parts}
use Rattle.py_plain.proofs.FrugalMethods.{frugal_call_method}
use Rattle.py_plain.proofs.FrugalOperations.{frugal_make_list, frugal_make_dict}
use Rattle.py_plain.proofs.FrugalOperators.{frugal_binary, frugal_augment, frugal_compare}
use Rattle.py_plain.proofs.FrugalSubscripts.{frugal_get_item, frugal_put_item, frugal_delete_item, frugal_slice}
use Rattle.py_plain.proofs.FrugalWalk.{frugal_walk}
use Rattle.py_plain.proofs.LikeValues.{Operations}

module _ (program : Program) where
  frugal_tried : (class : ClassId) (view : Value-F Value) (next : Costing Bool) → Frugal next → Frugal (tried program class view next)
  frugal_tried class (Value-F.Class above) next h = frugal_costs 1 _ (frugal_if (derives program class above) _ _ (frugal_done true) h)
  frugal_tried class (Value-F.Tuple parts) next h = frugal_leaves _
  frugal_tried class _ next h = frugal_raises _

  frugal_is_instance_of : (class : ClassId) (items : List Value) → Frugal (is_instance_of program class items)
  frugal_is_instance_of class [] = frugal_done _
  frugal_is_instance_of class (x ∷ xs) = frugal_tried class (out-Value x) _ (frugal_is_instance_of class xs)

  frugal_is_instance : (class : ClassId) (x : Value) (view : Value-F Value) → Frugal (is_instance program class x view)
  frugal_is_instance class x (Value-F.Tuple tuple) = frugal_is_instance_of class tuple.parts
  frugal_is_instance class x _ = frugal_is_instance_of class (x ∷ [])

  frugal_isinstance_row : (arguments : List Value) (world : World) → Frugal (isinstance_row program arguments world)
  frugal_isinstance_row (x ∷ y ∷ []) world = frugal_is_instance (class_of world (out-Value x)) y (out-Value y)
  frugal_isinstance_row _ world = frugal_raises _

  frugal_text_of_instance : (class : ClassId) (args : Option (List Value)) → Frugal (text_of_instance program class args)
  frugal_text_of_instance class args = frugal_if (derives program class (Built KeyError)) _ _ (frugal_leaves _) (frugal_if (is_exception program class) _ _ (frugal_text_of_args args) (frugal_leaves _))

  frugal_text_of_object : (held : Object) (arguments : List Value) (world : World) → Frugal (text_of_object program held arguments world)
  frugal_text_of_object (object.Instance class attributes args) arguments world = frugal_text_of_instance class (option_map (λ args. args.parts) args)
  frugal_text_of_object _ arguments world = frugal_str_row arguments world

  frugal_text_of_value : (view : Value-F Value) (arguments : List Value) (world : World) → Frugal (text_of_value program view arguments world)
  frugal_text_of_value (Value-F.Ref id) arguments world = frugal_text_of_object (object_at world id) arguments world
  frugal_text_of_value _ arguments world = frugal_str_row arguments world

  frugal_text_row : (arguments : List Value) (world : World) → Frugal (text_row program arguments world)
  frugal_text_row (x ∷ []) world = frugal_text_of_value (out-Value x) (x ∷ []) world
  frugal_text_row arguments world = frugal_str_row arguments world

  pub operations : Operations program
  operations = record {
    unary_frugal = frugal_unary;
    binary_frugal = frugal_binary;
    augment_frugal = frugal_augment;
    compare_frugal = frugal_compare;
    get_frugal = frugal_get_item;
    put_frugal = frugal_put_item;
    delete_frugal = frugal_delete_item;
    slice_frugal = frugal_slice;
    walk_frugal = λ x world. frugal_walk world x;
    list_frugal = frugal_make_list;
    tuple_frugal = frugal_tuple_of_parts;
    dict_frugal = frugal_make_dict;
    builtin_frugal = frugal_call_builtin;
    method_frugal = frugal_call_method;
    isinstance_frugal = frugal_isinstance_row;
    text_frugal = frugal_text_row;
  }
