-- Names, attributes, operators and calls of built-in functions do the same for both watchers, and gain no steps.
use Rattle.std.proofs.Common.{◌≡◌, ℕ, zero, suc, ◌≤◌, ◌&&◌, Ok, Bool, true, false, List, refl, ap, arith, Option, Some, None}
use Rattle.std.specs.Prelude.{bytes_eq, codes}
use Rattle.pyn_base.specs.declared.class.BuiltClass.{BuiltClass}
use Rattle.pyn_base.specs.declared.class.ClassId.{ClassId}
use Rattle.pyn_base.specs.declared.class.ClassId.TheVariants.{Built, Own}
use Rattle.pyn_base.specs.declared.ids.NodeId.{NodeId}
use Rattle.pyn_base.specs.declared.ids.ObjId.{ObjId}
use Rattle.pyn_base.specs.declared.ids.FuncId.{FuncId}
use Rattle.py_syntax.specs.declared.expr.Expr.{Expr}
use Rattle.py_syntax.specs.declared.operator.BinOp.{BinOp}
use Rattle.py_syntax.specs.declared.operator.CmpOp.{CmpOp}
use Rattle.py_syntax.specs.declared.operator.Sign.{Sign}
use Rattle.py_syntax.specs.declared.stmt.Stmt.{Stmt}
use Rattle.py_meaning.specs.declared.builtin.Builtin.{Builtin}
use Rattle.py_meaning.specs.declared.builtin.Builtin.TheVariants as builtin
use Rattle.py_meaning.specs.declared.object.ObjKind.{ObjKind}
use Rattle.py_meaning.specs.declared.object.ObjKind.TheVariants as kind
use Rattle.py_meaning.specs.declared.measured.Measured.{Measured}
use Rattle.py_meaning.specs.declared.value.Value.{Value, Value-F, out-Value}
use Rattle.py_meaning.specs.declared.value.Value.TheVariants as v
use Rattle.py_meaning.specs.Arithmetic.{unary}
use Rattle.py_meaning.specs.Builtins.{call_builtin, tuple_of_parts}
use Rattle.py_meaning.specs.Methods.{Names, named, is_among, call_method, list_methods, dict_methods, text_methods, left_of_list, left_of_dict, left_of_tuple, left_of_integer, left_of_text}
use Rattle.py_meaning.specs.Operations.{kind_of, args_of, attr_get, make_list, make_dict}
use Rattle.py_meaning.specs.Operators.{binary, augment, compare}
use Rattle.py_meaning.specs.Steps.{aside}
use Rattle.py_meaning.specs.Subscripts.{get_item, put_item, delete_item, slice}
use Rattle.py_meaning.specs.Walk.{walk}
use Rattle.py_meaning.specs.Worlds.{World, Pairs, object_at}
use Rattle.py_plain.specs.declared.judged.Judged.{Judged}
use Rattle.py_plain.specs.declared.run.Callee.{Callee}
use Rattle.py_plain.specs.declared.run.Callee.TheVariants as callee
use Rattle.py_plain.specs.declared.state.Frame.{Frame}
use Rattle.py_plain.specs.declared.state.Space.{Space}
use Rattle.py_plain.specs.declared.state.State.{State}
use Rattle.py_plain.specs.Attributes.{finds_method, finds_none, known_args, missing_member, missing_of_class, found_or, bound_or, value_or, finds_above, finds_in_instance, finds_in_class, finds_in_object, finds_in_module, finds_in, finds, read_found, sets_in_instance, sets_in_object, sets_in, sets_attribute}
use Rattle.py_plain.specs.Builtins.{isinstance_row, text_row, calls_builtin}
use Rattle.py_plain.specs.Classes.{is_exception, class_member}
use Rattle.py_plain.specs.Names.{lookup, is_some, is_local, globals, function_at, builtin_meant, found_local, found_class, found_global, reads_in, reads_unless, reads, reads_name, binds, unbinds}
use Rattle.py_plain.specs.Operators.{signs, operates, augments, gets_item, sets_item, deletes_item, gets_slice, compares}
use Rattle.py_plain.specs.Program.{Function, Program}
use Rattle.py_plain.specs.Runs.{Watcher, Ran, Run, Finding, begins_with, begins, noted, told, decides, gives}
use Rattle.py_plain.specs.Laws.{seen_by, mapped}
use Rattle.py_plain.proofs.Like.{Like, Frugal, frugal_aside, like_bind, like_act, like_pure, like_stop, like_if, like_gives, like_passes, like_raises, like_performs, like_performs_value, like_asks}

-- No operation on values gains steps.
pub record Operations (program : Program) : Type 0 where
  pub unary_frugal : (sign : Sign) (x : Value) → Frugal (unary sign x)
  pub binary_frugal : (op : BinOp) (x y : Value) (world : World) → Frugal (binary op x y world)
  pub augment_frugal : (op : BinOp) (x y : Value) (world : World) → Frugal (augment op x y world)
  pub compare_frugal : (op : CmpOp) (x y : Value) (world : World) → Frugal (compare op x y world)
  pub get_frugal : (of at : Value) (world : World) → Frugal (get_item of at world)
  pub put_frugal : (of at x : Value) (world : World) → Frugal (put_item of at x world)
  pub delete_frugal : (of at : Value) (world : World) → Frugal (delete_item of at world)
  pub slice_frugal : (of low high : Value) (world : World) → Frugal (slice of low high world)
  pub walk_frugal : (x : Value) (world : World) → Frugal (walk world x)
  pub list_frugal : (items : List Value) (world : World) → Frugal (make_list items world)
  pub tuple_frugal : (parts : List Value) → Frugal (tuple_of_parts parts)
  pub dict_frugal : (pairs : Pairs) (world : World) → Frugal (make_dict pairs world)
  pub builtin_frugal : (builtin : Builtin) (arguments : List Value) (world : World) → Frugal (call_builtin builtin arguments world)
  pub method_frugal : (receiver : Value) (name : List ℕ) (arguments : List Value) (world : World) → Frugal (call_method receiver name arguments world)
  pub isinstance_frugal : (arguments : List Value) (world : World) → Frugal (isinstance_row program arguments world)
  pub text_frugal : (arguments : List Value) (world : World) → Frugal (text_row program arguments world)

-- Two watchers of one program, where one keeps of each event what the other keeps.
pub record Sides (W W' : Type 0) : Type 0 where
  pub keep : W → W'
  pub watcher : Watcher W
  pub watcher' : Watcher W'
  pub began_alike : (node : NodeId) (x : W) → keep (watcher.began node x) ≡ watcher'.began node (keep x)
  pub judged_alike : (node : NodeId) (judged : Judged) (outcome : Bool) (x : W) → keep (watcher.judged node judged outcome x) ≡ watcher'.judged node judged outcome (keep x)
  pub program : Program
  pub operations : Operations program

-- What parts mean on both sides.
pub record Parts {W W' : Type 0} (sides : Sides W W') (k : ℕ) : Type 0 where
  pub value : Expr → Run W Finding
  pub value' : Expr → Run W' Finding
  pub does : Stmt → Run W Finding
  pub does' : Stmt → Run W' Finding
  pub value_like : (e : Expr) → Like sides.keep k (value e) (value' e)
  pub does_like : (stmt : Stmt) → Like sides.keep k (does stmt) (does' stmt)

module _ {W W' : Type 0} (sides : Sides W W') (k : ℕ) where
  -- ---- what is told

  pub noted_like : (f : Option FuncId) (node : NodeId) (x : W) → sides.keep (noted sides.watcher f node x) ≡ noted sides.watcher' f node (sides.keep x)
  noted_like None node x = refl
  noted_like (Some f) node x = sides.began_alike node x

  told_like : (f : Option FuncId) (node : NodeId) (judged : Judged) (outcome : Bool) (x : W) → sides.keep (told sides.watcher f node judged outcome x) ≡ told sides.watcher' f node judged outcome (sides.keep x)
  told_like None node judged outcome x = refl
  told_like (Some f) node judged outcome x = sides.judged_alike node judged outcome x

  -- a state that keeps something else
  abbrev pub keeping : State World W → ℕ → W' → State World W'
  keeping s n x = record { frame = s.frame; space = s.space; objects = s.objects; depth = s.depth; left = n; seen = x }

  pub begins_like : (node : NodeId) → Like sides.keep k (begins sides.watcher node) (begins sides.watcher' node)
  begins_like node = record { agree = λ s le. by_left s.left s; spends = λ s. less s.left s refl }
    where
      by_left : (n : ℕ) (s : State World W) → mapped sides.keep (begins_with sides.watcher node n s) ≡ begins_with sides.watcher' node n (seen_by sides.keep s)
      by_left zero s = refl
      by_left (suc n) s = ap (λ x. (let r : Ran W' (Unit {0}) = (Ok tt, keeping s n x) in r)) (noted_like s.frame.function node s.seen)

      less : (n : ℕ) (s : State World W) → s.left ≡ n → (begins_with sides.watcher node n s).1.left ≤ s.left
      less zero s e = omega arith
      less (suc n) s e = omega arith

  pub decides_like : (node : NodeId) (judged : Judged) (outcome : Bool) → Like sides.keep k (decides sides.watcher node judged outcome) (decides sides.watcher' node judged outcome)
  decides_like node judged outcome = record {
    agree = λ s le. ap (λ x. (let r : Ran W' (Unit {0}) = (Ok tt, keeping s s.left x) in r)) (told_like s.frame.function node judged outcome s.seen);
    spends = λ s. omega arith;
  }

  -- ---- names

  found_local_like : (found : Option Value) → Like sides.keep k (found_local found) (found_local found)
  found_local_like None = like_raises sides.keep k _
  found_local_like (Some x) = like_gives sides.keep k x

  found_class_like : (found : Option BuiltClass) → Like sides.keep k (found_class found) (found_class found)
  found_class_like None = like_stop sides.keep k _
  found_class_like (Some class) = like_gives sides.keep k _

  found_global_like : (name : List ℕ) (found : Option Value) → Like sides.keep k (found_global name found) (found_global name found)
  found_global_like name None = found_class_like _
  found_global_like name (Some x) = like_gives sides.keep k x

  reads_in_like : (f : Option Function) (frame : Frame) (space : Space) (name : List ℕ) → Like sides.keep k (reads_in f frame space name) (reads_in f frame space name)
  reads_in_like f frame space name = like_if sides.keep k (is_local f name frame.variables) _ _ _ _ (found_local_like (lookup name frame.variables)) (found_global_like name (lookup name (globals f space)))

  pub reads_like : (name : List ℕ) → Like sides.keep k (reads sides.program name) (reads sides.program name)
  reads_like name = record {
    agree = λ s le. (reads_in_like (function_at sides.program s.frame.function) s.frame s.space name).agree s le;
    spends = λ s. (reads_in_like (function_at sides.program s.frame.function) s.frame s.space name).spends s;
  }

  reads_unless_like : (found : Option Builtin) (name : List ℕ) → Like sides.keep k (reads_unless found (reads sides.program name)) (reads_unless found (reads sides.program name))
  reads_unless_like None name = reads_like name
  reads_unless_like (Some builtin) name = like_stop sides.keep k _

  pub reads_name_like : (name : List ℕ) → Like sides.keep k (reads_name sides.program name) (reads_name sides.program name)
  reads_name_like name = record {
    agree = λ s le. (reads_unless_like (builtin_meant sides.program s name) name).agree s le;
    spends = λ s. (reads_unless_like (builtin_meant sides.program s name) name).spends s;
  }

  pub binds_like : (name : List ℕ) (x : Value) → Like sides.keep k (binds name x) (binds name x)
  binds_like name x = like_act sides.keep k _ _ (λ s. refl) (λ s. omega arith)

  pub unbinds_like : (name : List ℕ) → Like sides.keep k (unbinds name) (unbinds name)
  unbinds_like name = like_act sides.keep k _ _ (λ s. refl) (λ s. omega arith)

  -- ---- attributes

  finds_method_like : {M : Type 0} (methods : Names M) (left : List (List ℕ)) (receiver : Value) (name : List ℕ) → Like sides.keep k (finds_method methods left receiver name) (finds_method methods left receiver name)
  finds_method_like methods left receiver name = like_if sides.keep k (is_some (named methods name)) _ _ _ _ (like_pure sides.keep k _) (like_if sides.keep k (is_among left name) _ _ _ _ (like_stop sides.keep k _) (like_raises sides.keep k _))

  finds_none_like : (left : List (List ℕ)) (name : List ℕ) → Like sides.keep k (finds_none left name) (finds_none left name)
  finds_none_like left name = like_if sides.keep k (is_among left name) _ _ _ _ (like_stop sides.keep k _) (like_raises sides.keep k _)

  known_args_like : (args : Option (Measured Value)) → Like sides.keep k (known_args args) (known_args args)
  known_args_like None = like_stop sides.keep k _
  known_args_like (Some args) = like_pure sides.keep k _

  missing_member_like : (exception : Bool) (name : List ℕ) (args : Option (Measured Value)) → Like sides.keep k (missing_member exception name args) (missing_member exception name args)
  missing_member_like true name args = like_if sides.keep k (bytes_eq name (codes "args")) _ _ _ _ (known_args_like args) (like_stop sides.keep k _)
  missing_member_like false name args = like_raises sides.keep k _

  missing_of_class_like : (exception : Bool) (name : List ℕ) → Like sides.keep k (missing_of_class exception name) (missing_of_class exception name)
  missing_of_class_like exception name = like_if sides.keep k (bytes_eq name (codes "mro")) _ _ _ _ (like_stop sides.keep k _) (like_if sides.keep k exception _ _ _ _ (like_stop sides.keep k _) (like_raises sides.keep k _))

  found_or_like : (p : Run W Callee) (q : Run W' Callee) (found : Option Callee) → Like sides.keep k p q → Like sides.keep k (found_or p found) (found_or q found)
  found_or_like p q None h = h
  found_or_like p q (Some found) h = like_pure sides.keep k _

  bound_or_like : (id : ObjId) (p : Run W Callee) (q : Run W' Callee) (found : Option Callee) → Like sides.keep k p q → Like sides.keep k (bound_or id p found) (bound_or id q found)
  bound_or_like id p q None h = h
  bound_or_like id p q (Some found) h = like_pure sides.keep k _

  value_or_like : (p : Run W Callee) (q : Run W' Callee) (found : Option Value) → Like sides.keep k p q → Like sides.keep k (value_or p found) (value_or q found)
  value_or_like p q None h = h
  value_or_like p q (Some found) h = like_pure sides.keep k _

  finds_above_at : (id : ObjId) (class from : ClassId) (name : List ℕ) (space : Space) (world : World) → Like {W = W} {W' = W'} sides.keep k (bound_or id (missing_member (is_exception sides.program class) name (args_of (object_at world id))) (class_member sides.program space from name)) (bound_or id (missing_member (is_exception sides.program class) name (args_of (object_at world id))) (class_member sides.program space from name))
  finds_above_at id class from name space world = bound_or_like id _ _ (class_member sides.program space from name) (missing_member_like (is_exception sides.program class) name (args_of (object_at world id)))

  pub finds_above_like : (id : ObjId) (class from : ClassId) (name : List ℕ) → Like sides.keep k (finds_above sides.program id class from name) (finds_above sides.program id class from name)
  finds_above_like id class from name = record { agree = λ s le. (finds_above_at id class from name s.space s.objects).agree s le; spends = λ s. (finds_above_at id class from name s.space s.objects).spends s }

  finds_in_instance_like : (id : ObjId) (class : ClassId) (name : List ℕ) → Like sides.keep k (finds_in_instance sides.program id class name) (finds_in_instance sides.program id class name)
  finds_in_instance_like id class name = record {
    agree = λ s le. (value_or_like _ _ (attr_get id name s.objects) (finds_above_like id class class name)).agree s le;
    spends = λ s. (value_or_like _ _ (attr_get id name s.objects) (finds_above_like id class class name)).spends s;
  }

  finds_in_class_like : (class : ClassId) (name : List ℕ) → Like sides.keep k (finds_in_class sides.program class name) (finds_in_class sides.program class name)
  finds_in_class_like (Built class) name = like_stop sides.keep k _
  finds_in_class_like (Own n) name = record {
    agree = λ s le. (found_or_like _ _ (class_member sides.program s.space (Own n) name) (missing_of_class_like (is_exception sides.program (Own n)) name)).agree s le;
    spends = λ s. (found_or_like _ _ (class_member sides.program s.space (Own n) name) (missing_of_class_like (is_exception sides.program (Own n)) name)).spends s;
  }

  finds_in_object_like : (id : ObjId) (kind : ObjKind) (name : List ℕ) → Like sides.keep k (finds_in_object sides.program id kind name) (finds_in_object sides.program id kind name)
  finds_in_object_like id kind.List name = finds_method_like list_methods left_of_list (v.Ref id) name
  finds_in_object_like id kind.Dict name = finds_method_like dict_methods left_of_dict (v.Ref id) name
  finds_in_object_like id (kind.Instance class) name = finds_in_instance_like id class name

  finds_in_module_like : (name : List ℕ) → Like sides.keep k (finds_in_module sides.program name) (finds_in_module sides.program name)
  finds_in_module_like name = record {
    agree = λ s le. (value_or_like _ _ (lookup name s.space.names) (like_stop sides.keep k _)).agree s le;
    spends = λ s. (value_or_like _ _ (lookup name s.space.names) (like_stop sides.keep k _)).spends s;
  }

  finds_in_like : (x : Value) (view : Value-F Value) (name : List ℕ) → Like sides.keep k (finds_in sides.program x view name) (finds_in sides.program x view name)
  finds_in_like x (Value-F.Str text) name = finds_method_like text_methods left_of_text x name
  finds_in_like x (Value-F.Tuple parts) name = finds_none_like left_of_tuple name
  finds_in_like x (Value-F.Bool b) name = finds_none_like left_of_integer name
  finds_in_like x (Value-F.Int n) name = finds_none_like left_of_integer name
  finds_in_like x Value-F.None name = like_raises sides.keep k _
  finds_in_like x (Value-F.Ref id) name = record {
    agree = λ s le. (finds_in_object_like id (kind_of (object_at s.objects id)) name).agree s le;
    spends = λ s. (finds_in_object_like id (kind_of (object_at s.objects id)) name).spends s;
  }
  finds_in_like x (Value-F.Class class) name = finds_in_class_like class name
  finds_in_like x (Value-F.Func f) name = like_stop sides.keep k _
  finds_in_like x (Value-F.View view) name = like_stop sides.keep k _
  finds_in_like x Value-F.ModuleRef name = finds_in_module_like name

  pub finds_like : (x : Value) (name : List ℕ) → Like sides.keep k (finds sides.program x name) (finds sides.program x name)
  finds_like x name = finds_in_like x (out-Value x) name

  pub read_found_like : (found : Callee) → Like sides.keep k (read_found found) (read_found found)
  read_found_like (callee.Value x) = like_gives sides.keep k x
  read_found_like _ = like_stop sides.keep k _

  sets_in_instance_like : (exception : Bool) (id : ObjId) (name : List ℕ) (x : Value) → Like sides.keep k (sets_in_instance exception id name x) (sets_in_instance exception id name x)
  sets_in_instance_like exception id name x = like_if sides.keep k (exception && bytes_eq name (codes "args")) _ _ _ _ (like_stop sides.keep k _) (like_act sides.keep k _ _ (λ s. refl) (λ s. omega arith))

  sets_in_object_like : (id : ObjId) (kind : ObjKind) (name : List ℕ) (x : Value) → Like sides.keep k (sets_in_object sides.program id kind name x) (sets_in_object sides.program id kind name x)
  sets_in_object_like id (kind.Instance class) name x = sets_in_instance_like (is_exception sides.program class) id name x
  sets_in_object_like id _ name x = like_raises sides.keep k _

  sets_in_like : (view : Value-F Value) (name : List ℕ) (x : Value) → Like sides.keep k (sets_in sides.program view name x) (sets_in sides.program view name x)
  sets_in_like (Value-F.Class class) name x = like_stop sides.keep k _
  sets_in_like (Value-F.Func f) name x = like_stop sides.keep k _
  sets_in_like (Value-F.View view) name x = like_stop sides.keep k _
  sets_in_like (Value-F.Ref id) name x = record {
    agree = λ s le. (sets_in_object_like id (kind_of (object_at s.objects id)) name x).agree s le;
    spends = λ s. (sets_in_object_like id (kind_of (object_at s.objects id)) name x).spends s;
  }
  sets_in_like _ name x = like_raises sides.keep k _

  pub sets_attribute_like : (of : Value) (name : List ℕ) (x : Value) → Like sides.keep k (sets_attribute sides.program of name x) (sets_attribute sides.program of name x)
  sets_attribute_like of name x = sets_in_like (out-Value of) name x

  -- ---- operators and built-in functions

  pub signs_like : (sign : Sign) (x : Value) → Like sides.keep k (signs sign x) (signs sign x)
  signs_like sign x = like_performs_value sides.keep k (aside (unary sign x)) (λ world. frugal_aside _ world (sides.operations.unary_frugal sign x))

  pub operates_like : (op : BinOp) (x y : Value) → Like sides.keep k (operates op x y) (operates op x y)
  operates_like op x y = like_performs_value sides.keep k (binary op x y) (sides.operations.binary_frugal op x y)

  pub augments_like : (op : BinOp) (x y : Value) → Like sides.keep k (augments op x y) (augments op x y)
  augments_like op x y = like_performs_value sides.keep k (augment op x y) (sides.operations.augment_frugal op x y)

  pub gets_item_like : (of at : Value) → Like sides.keep k (gets_item of at) (gets_item of at)
  gets_item_like of at = like_bind sides.keep k _ _ gives gives (like_asks sides.keep k (get_item of at) (sides.operations.get_frugal of at)) (like_gives sides.keep k)

  pub sets_item_like : (of at x : Value) → Like sides.keep k (sets_item of at x) (sets_item of at x)
  sets_item_like of at x = like_bind sides.keep k _ _ _ _ (like_performs sides.keep k (put_item of at x) (sides.operations.put_frugal of at x)) (λ _. like_passes sides.keep k)

  pub deletes_item_like : (of at : Value) → Like sides.keep k (deletes_item of at) (deletes_item of at)
  deletes_item_like of at = like_bind sides.keep k _ _ _ _ (like_performs sides.keep k (delete_item of at) (sides.operations.delete_frugal of at)) (λ _. like_passes sides.keep k)

  pub gets_slice_like : (of low high : Value) → Like sides.keep k (gets_slice of low high) (gets_slice of low high)
  gets_slice_like of low high = like_performs_value sides.keep k (slice of low high) (sides.operations.slice_frugal of low high)

  pub compares_like : (op : CmpOp) (x y : Value) → Like sides.keep k (compares op x y) (compares op x y)
  compares_like op x y = like_asks sides.keep k (compare op x y) (sides.operations.compare_frugal op x y)

  pub calls_builtin_like : (builtin : Builtin) (arguments : List Value) → Like sides.keep k (calls_builtin sides.program builtin arguments) (calls_builtin sides.program builtin arguments)
  calls_builtin_like builtin.Isinstance arguments = like_bind sides.keep k _ _ _ _ (like_asks sides.keep k (isinstance_row sides.program arguments) (sides.operations.isinstance_frugal arguments)) (λ yes. like_gives sides.keep k _)
  calls_builtin_like builtin.Str arguments = like_bind sides.keep k _ _ gives gives (like_asks sides.keep k (text_row sides.program arguments) (sides.operations.text_frugal arguments)) (like_gives sides.keep k)
  calls_builtin_like other arguments = like_performs_value sides.keep k (call_builtin other arguments) (sides.operations.builtin_frugal other arguments)
