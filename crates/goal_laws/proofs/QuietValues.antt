-- Names, attributes, operators and built-in functions tell nothing.
use Rattle.std.proofs.Common.{Bool, List, None, Option, Some, false, refl, true, ℕ, ◌&&◌}
use Rattle.std.specs.Prelude.{bytes_eq, codes}
use Rattle.pyn_base.specs.declared.class.BuiltClass.{BuiltClass}
use Rattle.pyn_base.specs.declared.class.ClassId.{ClassId}
use Rattle.pyn_base.specs.declared.class.ClassId.TheVariants.{Built, Own}
use Rattle.pyn_base.specs.declared.ids.ObjId.{ObjId}
use Rattle.py_syntax.specs.declared.operator.BinOp.{BinOp}
use Rattle.py_syntax.specs.declared.operator.CmpOp.{CmpOp}
use Rattle.py_syntax.specs.declared.operator.Sign.{Sign}
use Rattle.py_meaning.specs.Arithmetic.{unary}
use Rattle.py_meaning.specs.Builtins.{call_builtin}
use Rattle.py_meaning.specs.Methods.{Names, dict_methods, is_among, left_of_dict, left_of_integer, left_of_list, left_of_text, left_of_tuple, list_methods, named, text_methods}
use Rattle.py_meaning.specs.Operations.{args_of, attr_get, kind_of}
use Rattle.py_meaning.specs.Operators.{augment, binary, compare}
use Rattle.py_meaning.specs.Steps.{aside}
use Rattle.py_meaning.specs.Subscripts.{delete_item, get_item, put_item, slice}
use Rattle.py_meaning.specs.Worlds.{World, object_at}
use Rattle.py_meaning.specs.declared.builtin.Builtin.{Builtin}
use Rattle.py_meaning.specs.declared.builtin.Builtin.TheVariants as builtin
use Rattle.py_meaning.specs.declared.measured.Measured.{Measured}
use Rattle.py_meaning.specs.declared.object.ObjKind.{ObjKind}
use Rattle.py_meaning.specs.declared.object.ObjKind.TheVariants as kind
use Rattle.py_meaning.specs.declared.value.Value.{Value, Value-F, out-Value}
use Rattle.py_meaning.specs.declared.value.Value.TheVariants as v
use Rattle.py_plain.specs.Attributes.{bound_or, finds, finds_above, finds_in, finds_in_class, finds_in_instance, finds_in_module, finds_in_object, finds_method, finds_none, found_or, known_args, missing_member, missing_of_class, read_found, sets_attribute, sets_in, sets_in_instance, sets_in_object, value_or}
use Rattle.py_plain.specs.Builtins.{calls_builtin, isinstance_row, text_row}
use Rattle.py_plain.specs.Classes.{class_member, is_exception}
use Rattle.py_plain.specs.Names.{binds, builtin_meant, found_class, found_global, found_local, function_at, globals, is_local, is_some, lookup, reads, reads_in, reads_name, reads_unless, unbinds}
use Rattle.py_plain.specs.Operators.{augments, compares, deletes_item, gets_item, gets_slice, operates, sets_item, signs}
use Rattle.py_plain.specs.Program.{Function, Program}
use Rattle.py_plain.specs.Runs.{nothing}
use Rattle.py_plain.specs.declared.run.Callee.{Callee}
use Rattle.py_plain.specs.declared.run.Callee.TheVariants as callee
use Rattle.py_plain.specs.declared.state.Frame.{Frame}
use Rattle.py_plain.specs.declared.state.Space.{Space}
use Rattle.goal_laws.proofs.Kept.{Does, Quiet, quiet_asks, quiet_bind, quiet_gives, quiet_if, quiet_performs, quiet_pure, quiet_raises, quiet_stop, quiet_value}

module _ (program : Program) where
  -- ---- names

  found_local_quiet : (found : Option Value) → Quiet (found_local found)
  found_local_quiet None = quiet_raises _
  found_local_quiet (Some x) = quiet_gives x

  found_class_quiet : (found : Option BuiltClass) → Quiet (found_class found)
  found_class_quiet None = quiet_stop _
  found_class_quiet (Some class) = quiet_gives _

  found_global_quiet : (name : List ℕ) (found : Option Value) → Quiet (found_global name found)
  found_global_quiet name None = found_class_quiet _
  found_global_quiet name (Some x) = quiet_gives x

  reads_in_quiet : (f : Option Function) (frame : Frame) (space : Space) (name : List ℕ) → Quiet (reads_in f frame space name)
  reads_in_quiet f frame space name = quiet_if (is_local f name frame.variables) _ _ (found_local_quiet (lookup name frame.variables)) (found_global_quiet name (lookup name (globals f space)))

  pub reads_quiet : (name : List ℕ) → Quiet (reads program name)
  reads_quiet name = record { still = λ s. (reads_in_quiet (function_at program s.frame.function) s.frame s.space name).still s }

  reads_unless_quiet : (found : Option Builtin) (name : List ℕ) → Quiet (reads_unless found (reads program name))
  reads_unless_quiet None name = reads_quiet name
  reads_unless_quiet (Some builtin) name = quiet_stop _

  pub reads_name_quiet : (name : List ℕ) → Quiet (reads_name program name)
  reads_name_quiet name = record { still = λ s. (reads_unless_quiet (builtin_meant program s name) name).still s }

  pub binds_quiet : (name : List ℕ) (x : Value) → Quiet (binds name x)
  binds_quiet name x = record { still = λ s. refl }

  pub unbinds_quiet : (name : List ℕ) → Quiet (unbinds name)
  unbinds_quiet name = record { still = λ s. refl }

  -- ---- attributes

  finds_method_quiet : {M : Type 0} (methods : Names M) (left : List (List ℕ)) (receiver : Value) (name : List ℕ) → Quiet (finds_method methods left receiver name)
  finds_method_quiet methods left receiver name = quiet_if (is_some (named methods name)) _ _ (quiet_pure _) (quiet_if (is_among left name) _ _ (quiet_stop _) (quiet_raises _))

  finds_none_quiet : (left : List (List ℕ)) (name : List ℕ) → Quiet (finds_none left name)
  finds_none_quiet left name = quiet_if (is_among left name) _ _ (quiet_stop _) (quiet_raises _)

  known_args_quiet : (args : Option (Measured Value)) → Quiet (known_args args)
  known_args_quiet None = quiet_stop _
  known_args_quiet (Some args) = quiet_pure _

  missing_member_quiet : (exception : Bool) (name : List ℕ) (args : Option (Measured Value)) → Quiet (missing_member exception name args)
  missing_member_quiet true name args = quiet_if (bytes_eq name (codes "args")) _ _ (known_args_quiet args) (quiet_stop _)
  missing_member_quiet false name args = quiet_raises _

  missing_of_class_quiet : (exception : Bool) (name : List ℕ) → Quiet (missing_of_class exception name)
  missing_of_class_quiet exception name = quiet_if (bytes_eq name (codes "mro")) _ _ (quiet_stop _) (quiet_if exception _ _ (quiet_stop _) (quiet_raises _))

  found_or_quiet : (p : Does Callee) (found : Option Callee) → Quiet p → Quiet (found_or p found)
  found_or_quiet p None h = h
  found_or_quiet p (Some found) h = quiet_pure _

  bound_or_quiet : (id : ObjId) (p : Does Callee) (found : Option Callee) → Quiet p → Quiet (bound_or id p found)
  bound_or_quiet id p None h = h
  bound_or_quiet id p (Some found) h = quiet_pure _

  value_or_quiet : (p : Does Callee) (found : Option Value) → Quiet p → Quiet (value_or p found)
  value_or_quiet p None h = h
  value_or_quiet p (Some found) h = quiet_pure _

  finds_above_at : (id : ObjId) (class from : ClassId) (name : List ℕ) (space : Space) (world : World) → Quiet (bound_or id (missing_member (is_exception program class) name (args_of (object_at world id))) (class_member program space from name))
  finds_above_at id class from name space world = bound_or_quiet id _ (class_member program space from name) (missing_member_quiet (is_exception program class) name (args_of (object_at world id)))

  pub finds_above_quiet : (id : ObjId) (class from : ClassId) (name : List ℕ) → Quiet (finds_above program id class from name)
  finds_above_quiet id class from name = record { still = λ s. (finds_above_at id class from name s.space s.objects).still s }

  finds_in_instance_quiet : (id : ObjId) (class : ClassId) (name : List ℕ) → Quiet (finds_in_instance program id class name)
  finds_in_instance_quiet id class name = record { still = λ s. (value_or_quiet _ (attr_get id name s.objects) (finds_above_quiet id class class name)).still s }

  finds_in_class_quiet : (class : ClassId) (name : List ℕ) → Quiet (finds_in_class program class name)
  finds_in_class_quiet (Built class) name = quiet_stop _
  finds_in_class_quiet (Own n) name = record { still = λ s. (found_or_quiet _ (class_member program s.space (Own n) name) (missing_of_class_quiet (is_exception program (Own n)) name)).still s }

  finds_in_object_quiet : (id : ObjId) (kind : ObjKind) (name : List ℕ) → Quiet (finds_in_object program id kind name)
  finds_in_object_quiet id kind.List name = finds_method_quiet list_methods left_of_list (v.Ref id) name
  finds_in_object_quiet id kind.Dict name = finds_method_quiet dict_methods left_of_dict (v.Ref id) name
  finds_in_object_quiet id (kind.Instance class) name = finds_in_instance_quiet id class name

  finds_in_module_quiet : (name : List ℕ) → Quiet (finds_in_module program name)
  finds_in_module_quiet name = record { still = λ s. (value_or_quiet _ (lookup name s.space.names) (quiet_stop _)).still s }

  finds_in_quiet : (x : Value) (view : Value-F Value) (name : List ℕ) → Quiet (finds_in program x view name)
  finds_in_quiet x (Value-F.Str text) name = finds_method_quiet text_methods left_of_text x name
  finds_in_quiet x (Value-F.Tuple parts) name = finds_none_quiet left_of_tuple name
  finds_in_quiet x (Value-F.Bool b) name = finds_none_quiet left_of_integer name
  finds_in_quiet x (Value-F.Int n) name = finds_none_quiet left_of_integer name
  finds_in_quiet x Value-F.None name = quiet_raises _
  finds_in_quiet x (Value-F.Ref id) name = record { still = λ s. (finds_in_object_quiet id (kind_of (object_at s.objects id)) name).still s }
  finds_in_quiet x (Value-F.Class class) name = finds_in_class_quiet class name
  finds_in_quiet x (Value-F.Func f) name = quiet_stop _
  finds_in_quiet x (Value-F.View view) name = quiet_stop _
  finds_in_quiet x Value-F.ModuleRef name = finds_in_module_quiet name

  pub finds_quiet : (x : Value) (name : List ℕ) → Quiet (finds program x name)
  finds_quiet x name = finds_in_quiet x (out-Value x) name

  pub read_found_quiet : (found : Callee) → Quiet (read_found found)
  read_found_quiet (callee.Value x) = quiet_gives x
  read_found_quiet _ = quiet_stop _

  sets_in_instance_quiet : (exception : Bool) (id : ObjId) (name : List ℕ) (x : Value) → Quiet (sets_in_instance exception id name x)
  sets_in_instance_quiet exception id name x = quiet_if (exception && bytes_eq name (codes "args")) _ _ (quiet_stop _) (record { still = λ s. refl })

  sets_in_object_quiet : (id : ObjId) (kind : ObjKind) (name : List ℕ) (x : Value) → Quiet (sets_in_object program id kind name x)
  sets_in_object_quiet id (kind.Instance class) name x = sets_in_instance_quiet (is_exception program class) id name x
  sets_in_object_quiet id _ name x = quiet_raises _

  sets_in_quiet : (view : Value-F Value) (name : List ℕ) (x : Value) → Quiet (sets_in program view name x)
  sets_in_quiet (Value-F.Class class) name x = quiet_stop _
  sets_in_quiet (Value-F.Func f) name x = quiet_stop _
  sets_in_quiet (Value-F.View view) name x = quiet_stop _
  sets_in_quiet (Value-F.Ref id) name x = record { still = λ s. (sets_in_object_quiet id (kind_of (object_at s.objects id)) name x).still s }
  sets_in_quiet _ name x = quiet_raises _

  pub sets_attribute_quiet : (of : Value) (name : List ℕ) (x : Value) → Quiet (sets_attribute program of name x)
  sets_attribute_quiet of name x = sets_in_quiet (out-Value of) name x

  -- ---- operators and built-in functions

  pub signs_quiet : (sign : Sign) (x : Value) → Quiet (signs sign x)
  signs_quiet sign x = quiet_value (aside (unary sign x))

  pub operates_quiet : (op : BinOp) (x y : Value) → Quiet (operates op x y)
  operates_quiet op x y = quiet_value (binary op x y)

  pub augments_quiet : (op : BinOp) (x y : Value) → Quiet (augments op x y)
  augments_quiet op x y = quiet_value (augment op x y)

  pub gets_item_quiet : (of at : Value) → Quiet (gets_item of at)
  gets_item_quiet of at = quiet_bind _ _ (quiet_asks (get_item of at)) quiet_gives

  pub sets_item_quiet : (of at x : Value) → Quiet (sets_item of at x)
  sets_item_quiet of at x = quiet_bind _ _ (quiet_performs (put_item of at x)) (λ _. quiet_pure nothing)

  pub deletes_item_quiet : (of at : Value) → Quiet (deletes_item of at)
  deletes_item_quiet of at = quiet_bind _ _ (quiet_performs (delete_item of at)) (λ _. quiet_pure nothing)

  pub gets_slice_quiet : (of low high : Value) → Quiet (gets_slice of low high)
  gets_slice_quiet of low high = quiet_value (slice of low high)

  pub compares_quiet : (op : CmpOp) (x y : Value) → Quiet (compares op x y)
  compares_quiet op x y = quiet_asks (compare op x y)

  pub calls_builtin_quiet : (builtin : Builtin) (arguments : List Value) → Quiet (calls_builtin program builtin arguments)
  calls_builtin_quiet builtin.Isinstance arguments = quiet_bind _ _ (quiet_asks (isinstance_row program arguments)) (λ yes. quiet_gives _)
  calls_builtin_quiet builtin.Str arguments = quiet_bind _ _ (quiet_asks (text_row program arguments)) quiet_gives
  calls_builtin_quiet other arguments = quiet_value (call_builtin other arguments)
