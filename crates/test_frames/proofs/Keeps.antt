-- Runs that leave the frame as it was.
use Rattle.std.proofs.Common.{◌≡◌, ℕ, zero, suc, Bool, true, false, List, refl, ◌∙◌, Option, Some, None, Ok, Err}
use Rattle.std.specs.Prelude.{if◌then◌else◌, bytes_eq, codes}
use Rattle.pyn_base.specs.declared.class.BuiltClass.{BuiltClass}
use Rattle.pyn_base.specs.declared.class.ClassId.{ClassId}
use Rattle.pyn_base.specs.declared.class.ClassId.TheVariants.{Built, Own}
use Rattle.pyn_base.specs.declared.ids.NodeId.{NodeId}
use Rattle.pyn_base.specs.declared.ids.ObjId.{ObjId}
use Rattle.py_meaning.specs.declared.builtin.Builtin.{Builtin}
use Rattle.py_meaning.specs.declared.builtin.Builtin.TheVariants as builtin
use Rattle.py_meaning.specs.declared.measured.Measured.{Measured}
use Rattle.py_meaning.specs.declared.object.ObjKind.{ObjKind}
use Rattle.py_meaning.specs.declared.object.ObjKind.TheVariants as kind
use Rattle.py_meaning.specs.declared.op.Op.{Op}
use Rattle.py_meaning.specs.declared.op.Op.TheVariants as op
use Rattle.py_meaning.specs.declared.value.Value.{Value, Value-F, out-Value}
use Rattle.py_meaning.specs.declared.value.Value.TheVariants as v
use Rattle.py_meaning.specs.Builtins.{call_builtin, reading}
use Rattle.py_meaning.specs.Methods.{Names, named, is_among, list_methods, dict_methods, text_methods, left_of_list, left_of_dict, left_of_tuple, left_of_integer, left_of_text}
use Rattle.py_meaning.specs.Operations.{kind_of, args_of, attr_get}
use Rattle.py_meaning.specs.Steps.{Costing, Change}
use Rattle.py_meaning.specs.Worlds.{World, object_at}
use Rattle.py_plain.specs.declared.run.Callee.{Callee}
use Rattle.py_plain.specs.declared.run.Callee.TheVariants as callee
use Rattle.py_plain.specs.declared.state.Frame.{Frame}
use Rattle.py_plain.specs.declared.state.Space.{Space}
use Rattle.py_plain.specs.declared.state.State.{State}
use Rattle.py_plain.specs.Attributes.{finds_method, finds_none, known_args, missing_member, missing_of_class, found_or, bound_or, value_or, finds_above, finds_in_instance, finds_in_class, finds_in_object, finds_in_module, finds_in, finds, read_found}
use Rattle.py_plain.specs.Builtins.{isinstance_row, text_row, calls_builtin}
use Rattle.py_plain.specs.Classes.{is_exception, class_member}
use Rattle.py_plain.specs.Names.{lookup, is_some, is_local, globals, function_at, builtin_meant, found_local, found_class, found_global, reads_in, reads_unless, reads, reads_name}
use Rattle.py_plain.specs.Program.{Function, Program}
use Rattle.py_plain.specs.Runs.{Watcher, Outcome, Run, begins_with, begins, go_on, ◌>>=◌, settled, performs, performs_value, asks, gives, pure}

pub record Keeps {W A : Type 0} (p : Run W A) : Type 0 where
  pub kept : (s : State World W) → (p s).1.frame ≡ s.frame

pub act : {W A : Type 0} (p : Run W A) → ((s : State World W) → (p s).1.frame ≡ s.frame) → Keeps p
act p h = record { kept = h }

module _ {W : Type 0} where
  go_on_keeps : {A B : Type 0} (f : A → Run W B) → ((a : A) → Keeps (f a)) → (end : Outcome A) (s : State World W) → (go_on end s f).1.frame ≡ s.frame
  go_on_keeps f h (Ok a) s = (h a).kept s
  go_on_keeps f h (Err why) s = refl

  pub bind_keeps : {A B : Type 0} (p : Run W A) (f : A → Run W B) → Keeps p → ((a : A) → Keeps (f a)) → Keeps (p >>= f)
  bind_keeps p f hp hf = act _ (λ s. go_on_keeps f hf (p s).0 (p s).1 ∙ hp.kept s)

  pub if_keeps : {A : Type 0} (b : Bool) (p q : Run W A) → Keeps p → Keeps q → Keeps (if b then p else q)
  if_keeps true p q h i = h
  if_keeps false p q h i = i

  pub pure_keeps : {A : Type 0} (a : A) → Keeps (pure {W = W} a)
  pure_keeps a = act (pure a) (λ s. refl)

  pub gives_keeps : (x : Value) → Keeps (gives {W = W} x)
  gives_keeps x = act (gives x) (λ s. refl)

  settled_keeps : {A : Type 0} (answer : Op (A × World)) (left : ℕ) (s : State World W) → (settled answer left s).1.frame ≡ s.frame
  settled_keeps (op.Done made) left s = refl
  settled_keeps (op.Raises class) left s = refl
  settled_keeps (op.Leaves construct) left s = refl
  settled_keeps op.OutOfSteps left s = refl
  settled_keeps op.Memory left s = refl

  pub performs_keeps : {A : Type 0} (change : Change World A) → Keeps (performs {W = W} change)
  performs_keeps change = act _ (λ s. settled_keeps (change s.objects s.left).0 (change s.objects s.left).1 s)

  pub performs_value_keeps : (change : Change World Value) → Keeps (performs_value {W = W} change)
  performs_value_keeps change = bind_keeps (performs change) gives (performs_keeps change) (λ x. act _ (λ s. refl))

  pub asks_keeps : {A : Type 0} (read : World → Costing A) → Keeps (asks {W = W} read)
  asks_keeps read = performs_keeps (reading read)

  begins_with_keeps : (watcher : Watcher W) (node : NodeId) (left : ℕ) (s : State World W) → (begins_with watcher node left s).1.frame ≡ s.frame
  begins_with_keeps watcher node zero s = refl
  begins_with_keeps watcher node (suc left) s = refl

  pub begins_keeps : (watcher : Watcher W) (node : NodeId) → Keeps (begins watcher node)
  begins_keeps watcher node = act _ (λ s. begins_with_keeps watcher node s.left s)

-- ---- names and attributes

module _ {W : Type 0} (program : Program) where
  found_local_keeps : (found : Option Value) → Keeps (found_local {W = W} found)
  found_local_keeps None = act _ (λ s. refl)
  found_local_keeps (Some x) = act _ (λ s. refl)

  found_class_keeps : (found : Option BuiltClass) → Keeps (found_class {W = W} found)
  found_class_keeps None = act _ (λ s. refl)
  found_class_keeps (Some class) = act _ (λ s. refl)

  found_global_keeps : (name : List ℕ) (found : Option Value) → Keeps (found_global {W = W} name found)
  found_global_keeps name None = found_class_keeps _
  found_global_keeps name (Some x) = act _ (λ s. refl)

  reads_in_keeps : (f : Option Function) (frame : Frame) (space : Space) (name : List ℕ) → Keeps (reads_in {W = W} f frame space name)
  reads_in_keeps f frame space name = if_keeps (is_local f name frame.variables) _ _ (found_local_keeps (lookup name frame.variables)) (found_global_keeps name (lookup name (globals f space)))

  reads_keeps : (name : List ℕ) → Keeps (reads {W = W} program name)
  reads_keeps name = act _ (λ s. (reads_in_keeps (function_at program s.frame.function) s.frame s.space name).kept s)

  reads_unless_keeps : (found : Option Builtin) (name : List ℕ) → Keeps (reads_unless {W = W} found (reads program name))
  reads_unless_keeps None name = reads_keeps name
  reads_unless_keeps (Some builtin) name = act _ (λ s. refl)

  pub reads_name_keeps : (name : List ℕ) → Keeps (reads_name {W = W} program name)
  reads_name_keeps name = act _ (λ s. (reads_unless_keeps (builtin_meant program s name) name).kept s)

  finds_method_keeps : {M : Type 0} (methods : Names M) (left : List (List ℕ)) (receiver : Value) (name : List ℕ) → Keeps (finds_method {W = W} methods left receiver name)
  finds_method_keeps methods left receiver name = if_keeps (is_some (named methods name)) _ _ (act _ (λ s. refl)) (if_keeps (is_among left name) _ _ (act _ (λ s. refl)) (act _ (λ s. refl)))

  finds_none_keeps : (left : List (List ℕ)) (name : List ℕ) → Keeps (finds_none {W = W} left name)
  finds_none_keeps left name = if_keeps (is_among left name) _ _ (act _ (λ s. refl)) (act _ (λ s. refl))

  known_args_keeps : (args : Option (Measured Value)) → Keeps (known_args {W = W} args)
  known_args_keeps None = act _ (λ s. refl)
  known_args_keeps (Some args) = act _ (λ s. refl)

  missing_member_keeps : (exception : Bool) (name : List ℕ) (args : Option (Measured Value)) → Keeps (missing_member {W = W} exception name args)
  missing_member_keeps true name args = if_keeps (bytes_eq name (codes "args")) _ _ (known_args_keeps args) (act _ (λ s. refl))
  missing_member_keeps false name args = act _ (λ s. refl)

  missing_of_class_keeps : (exception : Bool) (name : List ℕ) → Keeps (missing_of_class {W = W} exception name)
  missing_of_class_keeps exception name = if_keeps (bytes_eq name (codes "mro")) _ _ (act _ (λ s. refl)) (if_keeps exception _ _ (act _ (λ s. refl)) (act _ (λ s. refl)))

  found_or_keeps : (p : Run W Callee) (found : Option Callee) → Keeps p → Keeps (found_or p found)
  found_or_keeps p None h = h
  found_or_keeps p (Some found) h = act _ (λ s. refl)

  bound_or_keeps : (id : ObjId) (p : Run W Callee) (found : Option Callee) → Keeps p → Keeps (bound_or id p found)
  bound_or_keeps id p None h = h
  bound_or_keeps id p (Some found) h = act _ (λ s. refl)

  value_or_keeps : (p : Run W Callee) (found : Option Value) → Keeps p → Keeps (value_or p found)
  value_or_keeps p None h = h
  value_or_keeps p (Some found) h = act _ (λ s. refl)

  pub finds_above_keeps : (id : ObjId) (class from : ClassId) (name : List ℕ) → Keeps (finds_above {W = W} program id class from name)
  finds_above_keeps id class from name = act _ (λ s.
      (bound_or_keeps id _ (class_member program s.space from name) (missing_member_keeps (is_exception program class) name (args_of (object_at s.objects id)))).kept s)

  finds_in_instance_keeps : (id : ObjId) (class : ClassId) (name : List ℕ) → Keeps (finds_in_instance {W = W} program id class name)
  finds_in_instance_keeps id class name = act _ (λ s. (value_or_keeps _ (attr_get id name s.objects) (finds_above_keeps id class class name)).kept s)

  finds_in_class_keeps : (class : ClassId) (name : List ℕ) → Keeps (finds_in_class {W = W} program class name)
  finds_in_class_keeps (Built class) name = act _ (λ s. refl)
  finds_in_class_keeps (Own k) name = act _ (λ s. (found_or_keeps _ (class_member program s.space (Own k) name) (missing_of_class_keeps (is_exception program (Own k)) name)).kept s)

  finds_in_object_keeps : (id : ObjId) (kind : ObjKind) (name : List ℕ) → Keeps (finds_in_object {W = W} program id kind name)
  finds_in_object_keeps id kind.List name = finds_method_keeps list_methods left_of_list (v.Ref id) name
  finds_in_object_keeps id kind.Dict name = finds_method_keeps dict_methods left_of_dict (v.Ref id) name
  finds_in_object_keeps id (kind.Instance class) name = finds_in_instance_keeps id class name

  finds_in_module_keeps : (name : List ℕ) → Keeps (finds_in_module {W = W} program name)
  finds_in_module_keeps name = act _ (λ s. (value_or_keeps _ (lookup name s.space.names) (act _ (λ s. refl))).kept s)

  finds_in_keeps : (x : Value) (view : Value-F Value) (name : List ℕ) → Keeps (finds_in {W = W} program x view name)
  finds_in_keeps x (Value-F.Str text) name = finds_method_keeps text_methods left_of_text x name
  finds_in_keeps x (Value-F.Tuple parts) name = finds_none_keeps left_of_tuple name
  finds_in_keeps x (Value-F.Bool b) name = finds_none_keeps left_of_integer name
  finds_in_keeps x (Value-F.Int n) name = finds_none_keeps left_of_integer name
  finds_in_keeps x Value-F.None name = act _ (λ s. refl)
  finds_in_keeps x (Value-F.Ref id) name = act _ (λ s. (finds_in_object_keeps id (kind_of (object_at s.objects id)) name).kept s)
  finds_in_keeps x (Value-F.Class class) name = finds_in_class_keeps class name
  finds_in_keeps x (Value-F.Func f) name = act _ (λ s. refl)
  finds_in_keeps x (Value-F.View view) name = act _ (λ s. refl)
  finds_in_keeps x Value-F.ModuleRef name = finds_in_module_keeps name

  pub finds_keeps : (x : Value) (name : List ℕ) → Keeps (finds {W = W} program x name)
  finds_keeps x name = finds_in_keeps x (out-Value x) name

  pub read_found_keeps : (found : Callee) → Keeps (read_found {W = W} found)
  read_found_keeps (callee.Value x) = act _ (λ s. refl)
  read_found_keeps (callee.Function f) = act _ (λ s. refl)
  read_found_keeps (callee.Bound id f) = act _ (λ s. refl)
  read_found_keeps (callee.Method receiver name) = act _ (λ s. refl)
  read_found_keeps (callee.Builtin builtin) = act _ (λ s. refl)
  read_found_keeps (callee.BaseInit id) = act _ (λ s. refl)

  pub calls_builtin_keeps : (builtin : Builtin) (arguments : List Value) → Keeps (calls_builtin program {W = W} builtin arguments)
  calls_builtin_keeps builtin.Isinstance arguments = bind_keeps (asks (isinstance_row program arguments)) _ (asks_keeps (isinstance_row program arguments)) (λ yes. act _ (λ s. refl))
  calls_builtin_keeps builtin.Str arguments = bind_keeps (asks (text_row program arguments)) gives (asks_keeps (text_row program arguments)) (λ x. act _ (λ s. refl))
  calls_builtin_keeps other arguments = performs_value_keeps (call_builtin other arguments)
