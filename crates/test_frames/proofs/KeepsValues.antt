-- Calls, displays, decisions and all expressions leave the frame as it was: a call has a frame of its own, and gives the caller's back.
use Rattle.std.proofs.Common.{ℕ, zero, suc, ◌&&◌, ◌||◌, not, Bool, true, false, List, [], ◌∷◌, ◌++◌, refl, Option, Some, None, length}
use Rattle.std.specs.Prelude.{nat_lt, nat_le, bytes_eq, codes, slice_get}
use Rattle.pyn_base.specs.declared.class.BuiltClass.{BuiltClass}
use Rattle.pyn_base.specs.declared.class.ClassId.{ClassId}
use Rattle.pyn_base.specs.declared.class.ClassId.TheVariants.{Built, Own}
use Rattle.pyn_base.specs.declared.ids.FuncId.{FuncId}
use Rattle.pyn_base.specs.declared.ids.ObjId.{ObjId}
use Rattle.py_syntax.specs.declared.expr.Args.{Args, out-Args}
use Rattle.py_syntax.specs.declared.expr.Expr.{Expr}
use Rattle.py_syntax.specs.declared.expr.ExprKind.{ExprKind, ExprKind-F}
use Rattle.py_syntax.specs.declared.operator.CmpOp.{CmpOp}
use Rattle.py_syntax.specs.declared.stmt.Stmt.{Stmt}
use Rattle.py_meaning.specs.declared.builtin.Builtin.{Builtin}
use Rattle.py_meaning.specs.declared.object.ObjKind.{ObjKind}
use Rattle.py_meaning.specs.declared.object.ObjKind.TheVariants as kind
use Rattle.py_meaning.specs.declared.value.Value.{Value, Value-F, out-Value}
use Rattle.py_meaning.specs.declared.value.Value.TheVariants as v
use Rattle.py_meaning.specs.Arithmetic.{unary}
use Rattle.py_meaning.specs.Builtins.{tuple_of_parts}
use Rattle.py_meaning.specs.Methods.{call_method}
use Rattle.py_meaning.specs.Operations.{kind_of, make_list, make_dict}
use Rattle.py_meaning.specs.Operators.{binary, compare}
use Rattle.py_meaning.specs.Steps.{aside}
use Rattle.py_meaning.specs.Subscripts.{get_item, slice}
use Rattle.py_meaning.specs.Tuples.{depth_over, tuple_limit, measured}
use Rattle.py_meaning.specs.Worlds.{Attributes, Pairs, object_at}
use Rattle.py_plain.specs.declared.judged.Judged.{Judged}
use Rattle.py_plain.specs.declared.judged.Judged.TheVariants as j
use Rattle.py_plain.specs.declared.run.Callee.{Callee}
use Rattle.py_plain.specs.declared.run.Callee.TheVariants as callee
use Rattle.py_plain.specs.BuiltNames.{called_type}
use Rattle.py_plain.specs.Calls.{bound_arguments, call_limit, or_no_defaults, without_named, within_depth, is_filled, makes_instance, initialized, initializes_base, calls_base, super_of_instance, super_of_object, super_of, super_by, super_in, first_parameter, finds_super, inside, enters, calls_known, calls_function, initializes, instantiates_by, instantiates, calls_type, calls_class, calls_value, calls}
use Rattle.py_plain.specs.Classes.{class_of_object, base_of_class, derives, is_exception, initializer}
use Rattle.py_plain.specs.Decisions.{judged_chain, negates, conjunction, disjunction, conjoins, disjoins, chain, conditional}
use Rattle.py_plain.specs.Displays.{makes_list, makes_tuple, makes_dict, list_display, tuple_display, dict_display}
use Rattle.py_plain.specs.Expressions.{named_arguments, plain_arguments, arguments, calls_meant, calls_expr, bound, value_by}
use Rattle.py_plain.specs.Names.{is_some, function_at, builtin_meant}
use Rattle.py_plain.specs.Nodes.{kind_of_expr}
use Rattle.py_plain.specs.Operators.{judged_comparison}
use Rattle.py_names.specs.Bound.{parameters}
use Rattle.py_plain.specs.Program.{Function, Program}
use Rattle.py_plain.specs.Runs.{Watcher, Run, Finding, begins, gives, tests, performs}
use Rattle.py_plain.specs.Statements.{value_in, does_in, value_of}
use Rattle.test_frames.proofs.Keeps.{Keeps, act, pure_keeps, gives_keeps, bind_keeps, if_keeps, performs_keeps, performs_value_keeps, asks_keeps, begins_keeps, reads_name_keeps, finds_above_keeps, finds_keeps, read_found_keeps, calls_builtin_keeps}

module _ {W : Type 0} (watcher : Watcher W) (program : Program) where
  without_named_keeps : (named : Attributes) (p : Run W Finding) → Keeps p → Keeps (without_named named p)
  without_named_keeps [] p h = h
  without_named_keeps (argument ∷ more) p h = act _ (λ s. refl)

  within_depth_keeps : (parts : List Value) (p : Run W Finding) → Keeps p → Keeps (within_depth parts p)
  within_depth_keeps parts p h = if_keeps (nat_le (depth_over parts) tuple_limit) _ _ h (act _ (λ s. refl))

  initialized_keeps : (id : ObjId) (view : Value-F Value) → Keeps (initialized {W = W} id view)
  initialized_keeps id Value-F.None = act _ (λ s. refl)
  initialized_keeps id (Value-F.Bool b) = act _ (λ s. refl)
  initialized_keeps id (Value-F.Int n) = act _ (λ s. refl)
  initialized_keeps id (Value-F.Str text) = act _ (λ s. refl)
  initialized_keeps id (Value-F.Tuple parts) = act _ (λ s. refl)
  initialized_keeps id (Value-F.Class class) = act _ (λ s. refl)
  initialized_keeps id (Value-F.Func f) = act _ (λ s. refl)
  initialized_keeps id (Value-F.View view) = act _ (λ s. refl)
  initialized_keeps id (Value-F.Ref other) = act _ (λ s. refl)
  initialized_keeps id Value-F.ModuleRef = act _ (λ s. refl)

  initializes_base_keeps : (id : ObjId) (exception : Bool) (plain : List Value) (named : Attributes) → Keeps (initializes_base watcher program id exception plain named)
  initializes_base_keeps id true plain named = without_named_keeps named _ (within_depth_keeps plain _ (act _ (λ s. refl)))
  initializes_base_keeps id false plain named = if_keeps (is_filled plain || is_filled named) _ _ (act _ (λ s. refl)) (act _ (λ s. refl))

  calls_base_keeps : (id : ObjId) (plain : List Value) (named : Attributes) → Keeps (calls_base watcher program id plain named)
  calls_base_keeps id plain named = act _ (λ s. (initializes_base_keeps id (is_exception program (class_of_object (object_at s.objects id))) plain named).kept s)

  super_of_instance_keeps : (class : ClassId) (id : ObjId) (own : ClassId) (name : List ℕ) → Keeps (super_of_instance watcher program class id own name)
  super_of_instance_keeps class id own name = if_keeps (not (derives program own class)) _ _ (act _ (λ s. refl))
      (if_keeps (bytes_eq name (codes "__init__") && not (is_some (initializer program (base_of_class program class)))) _ _ (act _ (λ s. refl)) (finds_above_keeps program id own (base_of_class program class) name))

  super_of_object_keeps : (class : ClassId) (id : ObjId) (kind : ObjKind) (name : List ℕ) → Keeps (super_of_object watcher program class id kind name)
  super_of_object_keeps class id (kind.Instance own) name = super_of_instance_keeps class id own name
  super_of_object_keeps class id kind.List name = act _ (λ s. refl)
  super_of_object_keeps class id kind.Dict name = act _ (λ s. refl)

  super_of_keeps : (class : ClassId) (view : Value-F Value) (name : List ℕ) → Keeps (super_of watcher program class view name)
  super_of_keeps class (Value-F.Ref id) name = act _ (λ s. (super_of_object_keeps class id (kind_of (object_at s.objects id)) name).kept s)
  super_of_keeps class (Value-F.Class other) name = if_keeps (derives program other class) _ _ (act _ (λ s. refl)) (act _ (λ s. refl))
  super_of_keeps class Value-F.None name = act _ (λ s. refl)
  super_of_keeps class (Value-F.Bool b) name = act _ (λ s. refl)
  super_of_keeps class (Value-F.Int n) name = act _ (λ s. refl)
  super_of_keeps class (Value-F.Str text) name = act _ (λ s. refl)
  super_of_keeps class (Value-F.Tuple parts) name = act _ (λ s. refl)
  super_of_keeps class (Value-F.Func f) name = act _ (λ s. refl)
  super_of_keeps class (Value-F.View view) name = act _ (λ s. refl)
  super_of_keeps class Value-F.ModuleRef name = act _ (λ s. refl)

  super_by_keeps : (owner : Option ℕ) (first : Option Value) (name : List ℕ) → Keeps (super_by watcher program owner first name)
  super_by_keeps (Some class) (Some x) name = super_of_keeps (Own class) (out-Value x) name
  super_by_keeps (Some class) None name = act _ (λ s. refl)
  super_by_keeps None first name = act _ (λ s. refl)

  super_in_keeps : (f : Option Function) (variables : Attributes) (name : List ℕ) → Keeps (super_in watcher program f variables name)
  super_in_keeps None variables name = act _ (λ s. refl)
  super_in_keeps (Some f) variables name = super_by_keeps f.owner (first_parameter watcher program (parameters f.tree) variables) name

  finds_super_keeps : (name : List ℕ) → Keeps (finds_super watcher program name)
  finds_super_keeps name = act _ (λ s. (super_in_keeps (function_at program s.frame.function) s.frame.variables name).kept s)

  makes_list_keeps : (items : List Value) → Keeps (makes_list {W = W} items)
  makes_list_keeps items = bind_keeps (performs (make_list items)) _ (performs_keeps (make_list items)) (λ id. act _ (λ s. refl))

  makes_tuple_keeps : (parts : List Value) → Keeps (makes_tuple {W = W} parts)
  makes_tuple_keeps parts = performs_value_keeps (aside (tuple_of_parts parts))

  makes_dict_keeps : (pairs : Pairs) → Keeps (makes_dict {W = W} pairs)
  makes_dict_keeps pairs = bind_keeps (performs (make_dict pairs)) _ (performs_keeps (make_dict pairs)) (λ id. act _ (λ s. refl))

  module _ (value : Expr → Run W Finding) (does : Stmt → Run W Finding) (keeps : (e : Expr) → Keeps (value e)) where
    -- ---- calls

    enters_keeps : (id : FuncId) (f : Function) (variables : Option Attributes) → Keeps (enters watcher program does id f variables)
    enters_keeps id f None = act _ (λ s. refl)
    enters_keeps id f (Some variables) = act _ (λ s. (if_keeps (nat_lt s.depth call_limit) (inside watcher program does id f variables) _ (act _ (λ s. refl)) (act _ (λ s. refl))).kept s)

    calls_known_keeps : (id : FuncId) (f : Option Function) (plain : List Value) (named : Attributes) → Keeps (calls_known watcher program does id f plain named)
    calls_known_keeps id None plain named = act _ (λ s. refl)
    calls_known_keeps id (Some f) plain named = act _ (λ s. (enters_keeps id f (bound_arguments (parameters f.tree) (or_no_defaults (slice_get s.space.defaults id.0)) plain named)).kept s)

    calls_function_keeps : (id : FuncId) (plain : List Value) (named : Attributes) → Keeps (calls_function watcher program does id plain named)
    calls_function_keeps id plain named = calls_known_keeps id (slice_get program.functions id.0) plain named

    initializes_keeps : (id : ObjId) (f : FuncId) (plain : List Value) (named : Attributes) → Keeps (initializes watcher program does id f plain named)
    initializes_keeps id f plain named = bind_keeps _ _ (calls_function_keeps f (v.Ref id ∷ plain) named) (λ x. initialized_keeps id (out-Value x.0))

    instantiates_by_keeps : (class : ClassId) (exception : Bool) (init : Option FuncId) (plain : List Value) (named : Attributes) → Keeps (instantiates_by watcher program does class exception init plain named)
    instantiates_by_keeps class false None plain named = if_keeps (is_filled plain || is_filled named) _ _ (act _ (λ s. refl)) (act _ (λ s. refl))
    instantiates_by_keeps class false (Some f) plain named = bind_keeps (makes_instance class None) _ (act _ (λ s. refl)) (λ id. initializes_keeps id f plain named)
    instantiates_by_keeps class true None plain named = without_named_keeps named _ (within_depth_keeps plain _ (act _ (λ s. refl)))
    instantiates_by_keeps class true (Some f) plain named = within_depth_keeps plain _ (bind_keeps (makes_instance class (Some (measured plain))) _ (act _ (λ s. refl)) (λ id. initializes_keeps id f plain named))

    instantiates_keeps : (class : ClassId) (plain : List Value) (named : Attributes) → Keeps (instantiates watcher program does class plain named)
    instantiates_keeps class plain named = instantiates_by_keeps class (is_exception program class) (initializer program class) plain named

    calls_type_keeps : (type : Option Builtin) (class : BuiltClass) (plain : List Value) (named : Attributes) → Keeps (calls_type watcher program does type class plain named)
    calls_type_keeps None class plain named = instantiates_keeps (Built class) plain named
    calls_type_keeps (Some builtin) class plain named = without_named_keeps named _ (calls_builtin_keeps program builtin plain)

    calls_class_keeps : (class : ClassId) (plain : List Value) (named : Attributes) → Keeps (calls_class watcher program does class plain named)
    calls_class_keeps (Built class) plain named = calls_type_keeps (called_type class) class plain named
    calls_class_keeps (Own n) plain named = instantiates_keeps (Own n) plain named

    calls_value_keeps : (view : Value-F Value) (plain : List Value) (named : Attributes) → Keeps (calls_value watcher program does view plain named)
    calls_value_keeps (Value-F.Func f) plain named = calls_function_keeps f plain named
    calls_value_keeps (Value-F.Class class) plain named = calls_class_keeps class plain named
    calls_value_keeps Value-F.None plain named = act _ (λ s. refl)
    calls_value_keeps (Value-F.Bool b) plain named = act _ (λ s. refl)
    calls_value_keeps (Value-F.Int n) plain named = act _ (λ s. refl)
    calls_value_keeps (Value-F.Str text) plain named = act _ (λ s. refl)
    calls_value_keeps (Value-F.Tuple parts) plain named = act _ (λ s. refl)
    calls_value_keeps (Value-F.View view) plain named = act _ (λ s. refl)
    calls_value_keeps (Value-F.Ref id) plain named = act _ (λ s. refl)
    calls_value_keeps Value-F.ModuleRef plain named = act _ (λ s. refl)

    calls_keeps : (f : Callee) (plain : List Value) (named : Attributes) → Keeps (calls watcher program does f plain named)
    calls_keeps (callee.Value x) plain named = calls_value_keeps (out-Value x) plain named
    calls_keeps (callee.Function f) plain named = calls_function_keeps f plain named
    calls_keeps (callee.Bound id f) plain named = calls_function_keeps f (v.Ref id ∷ plain) named
    calls_keeps (callee.Method receiver name) plain named = without_named_keeps named _ (performs_value_keeps (call_method receiver name plain))
    calls_keeps (callee.Builtin builtin) plain named = without_named_keeps named _ (calls_builtin_keeps program builtin plain)
    calls_keeps (callee.BaseInit id) plain named = calls_base_keeps id plain named

    -- ---- displays and decisions

    list_display_keeps : (done : List Value) (items : List Expr) → Keeps (list_display value done items)
    list_display_keeps done [] = makes_list_keeps done
    list_display_keeps done (e ∷ more) = bind_keeps (value e) _ (keeps e) (λ x. list_display_keeps (done ++ x.0 ∷ []) more)

    tuple_display_keeps : (done : List Value) (items : List Expr) → Keeps (tuple_display value done items)
    tuple_display_keeps done [] = makes_tuple_keeps done
    tuple_display_keeps done (e ∷ more) = bind_keeps (value e) _ (keeps e) (λ x. tuple_display_keeps (done ++ x.0 ∷ []) more)

    dict_display_keeps : (done : Pairs) (pairs : List (Expr × Expr)) → Keeps (dict_display value done pairs)
    dict_display_keeps done [] = makes_dict_keeps done
    dict_display_keeps done (pair ∷ more) = bind_keeps (value pair.0) _ (keeps pair.0) (λ key. bind_keeps (value pair.1) _ (keeps pair.1) (λ x. dict_display_keeps (done ++ (key.0, x.0) ∷ []) more))

    negates_keeps : (x : Finding) → Keeps (negates {W = W} x)
    negates_keeps x = act _ (λ s. refl)

    conjunction_keeps : (done : List Judged) (x : Finding) (more : List Expr) → Keeps (conjunction value done x more)
    conjunction_keeps done x [] = pure_keeps _
    conjunction_keeps done x (e ∷ more) = bind_keeps (tests x.0) _ (act _ (λ s. refl)) (λ holds. if_keeps holds _ _ (bind_keeps (value e) _ (keeps e) (λ y. conjunction_keeps (done ++ x.1 ∷ []) y more)) (pure_keeps (x.0, j.All (done ++ x.1 ∷ []) (length (e ∷ more)))))

    disjunction_keeps : (done : List Judged) (x : Finding) (more : List Expr) → Keeps (disjunction value done x more)
    disjunction_keeps done x [] = pure_keeps _
    disjunction_keeps done x (e ∷ more) = bind_keeps (tests x.0) _ (act _ (λ s. refl)) (λ holds. if_keeps holds _ _ (pure_keeps (x.0, j.Any (done ++ x.1 ∷ []) (length (e ∷ more)))) (bind_keeps (value e) _ (keeps e) (λ y. disjunction_keeps (done ++ x.1 ∷ []) y more)))

    conjoins_keeps : (items : List Expr) → Keeps (conjoins value items)
    conjoins_keeps [] = act _ (λ s. refl)
    conjoins_keeps (e ∷ more) = bind_keeps (value e) _ (keeps e) (λ x. conjunction_keeps [] x more)

    disjoins_keeps : (items : List Expr) → Keeps (disjoins value items)
    disjoins_keeps [] = act _ (λ s. refl)
    disjoins_keeps (e ∷ more) = bind_keeps (value e) _ (keeps e) (λ x. disjunction_keeps [] x more)

    chain_keeps : (done : List Judged) (x : Value) (others : List (CmpOp × Expr)) → Keeps (chain value done x others)
    chain_keeps done x [] = pure_keeps _
    chain_keeps done x (part ∷ more) = bind_keeps (value part.1) _ (keeps part.1) (λ y. bind_keeps _ _ (asks_keeps (compare part.0 x y.0)) (λ holds. if_keeps holds _ _
        (chain_keeps (done ++ judged_comparison part.0 x y.0 true ∷ []) y.0 more) (pure_keeps (v.Bool false, judged_chain (done ++ judged_comparison part.0 x y.0 false ∷ []) (length more)))))

    conditional_keeps : (e test other : Expr) → Keeps (conditional value e test other)
    conditional_keeps e test other = bind_keeps (value test) _ (keeps test) (λ x. bind_keeps (tests x.0) _ (act _ (λ s. refl)) (λ holds. bind_keeps _ _ (if_keeps holds (value e) (value other) (keeps e) (keeps other)) (λ y. gives_keeps y.0)))

    -- ---- expressions

    named_keeps : (f : Callee) (plain : List Value) (done : Attributes) (named : List (List ℕ × Expr)) → Keeps (named_arguments watcher program value does f plain done named)
    named_keeps f plain done [] = calls_keeps f plain done
    named_keeps f plain done (argument ∷ more) = bind_keeps (value argument.1) _ (keeps argument.1) (λ x. named_keeps f plain (done ++ (argument.0, x.0) ∷ []) more)

    plain_keeps : (f : Callee) (done : List Value) (items : List Expr) (named : List (List ℕ × Expr)) → Keeps (plain_arguments watcher program value does f done items named)
    plain_keeps f done [] named = named_keeps f done [] named
    plain_keeps f done (e ∷ more) named = bind_keeps (value e) _ (keeps e) (λ x. plain_keeps f (done ++ x.0 ∷ []) more named)

    arguments_keeps : (args : Args) (f : Callee) → Keeps (arguments watcher program value does args f)
    arguments_keeps args f = plain_keeps f [] (out-Args args).plain (out-Args args).named

    calls_meant_keeps : (meant : Option Builtin) (e : Expr) (args : Args) → Keeps (calls_meant watcher program value does meant e args)
    calls_meant_keeps None e args = bind_keeps (value e) _ (keeps e) (λ x. arguments_keeps args (callee.Value x.0))
    calls_meant_keeps (Some builtin) e args = bind_keeps (begins watcher e.node) _ (begins_keeps watcher e.node) (λ _. arguments_keeps args (callee.Builtin builtin))

    calls_expr_keeps : (kind : ExprKind-F ExprKind Args Expr) (e : Expr) (args : Args) → Keeps (calls_expr watcher program value does kind e args)
    calls_expr_keeps (ExprKind-F.Name name) e args = act _ (λ s. (calls_meant_keeps (builtin_meant program s name) e args).kept s)
    calls_expr_keeps _ e args = calls_meant_keeps None e args

    bound_keeps : (e : Option Expr) → Keeps (bound watcher program value does e)
    bound_keeps None = act _ (λ s. refl)
    bound_keeps (Some e) = keeps e

    value_by_keeps : (kind : ExprKind-F ExprKind Args Expr) → Keeps (value_by watcher program value does kind)
    value_by_keeps ExprKind-F.NoneLit = act _ (λ s. refl)
    value_by_keeps (ExprKind-F.BoolLit b) = act _ (λ s. refl)
    value_by_keeps (ExprKind-F.IntLit n) = act _ (λ s. refl)
    value_by_keeps (ExprKind-F.StrLit text) = act _ (λ s. refl)
    value_by_keeps (ExprKind-F.Name name) = reads_name_keeps program name
    value_by_keeps (ExprKind-F.ListLit items) = list_display_keeps [] items
    value_by_keeps (ExprKind-F.TupleLit items) = tuple_display_keeps [] items
    value_by_keeps (ExprKind-F.DictLit pairs) = dict_display_keeps [] pairs
    value_by_keeps (ExprKind-F.Attr e name) = bind_keeps (value e) _ (keeps e) (λ x. bind_keeps _ _ (finds_keeps program x.0 name) (read_found_keeps program))
    value_by_keeps (ExprKind-F.Index of at) = bind_keeps (value of) _ (keeps of) (λ x. bind_keeps (value at) _ (keeps at) (λ i. bind_keeps _ gives (asks_keeps (get_item x.0 i.0)) (λ y. gives_keeps y)))
    value_by_keeps (ExprKind-F.Slice of low high) = bind_keeps (value of) _ (keeps of) (λ x. bind_keeps _ _ (bound_keeps low) (λ a. bind_keeps _ _ (bound_keeps high) (λ b. performs_value_keeps (slice x.0 a.0 b.0))))
    value_by_keeps (ExprKind-F.Call e args) = calls_expr_keeps (kind_of_expr e) e args
    value_by_keeps (ExprKind-F.Method e name args) = bind_keeps (value e) _ (keeps e) (λ x. bind_keeps _ _ (finds_keeps program x.0 name) (arguments_keeps args))
    value_by_keeps (ExprKind-F.Super name args) = bind_keeps _ _ (finds_super_keeps name) (arguments_keeps args)
    value_by_keeps (ExprKind-F.Unary sign e) = bind_keeps (value e) _ (keeps e) (λ x. performs_value_keeps (aside (unary sign x.0)))
    value_by_keeps (ExprKind-F.Not e) = bind_keeps (value e) _ (keeps e) negates_keeps
    value_by_keeps (ExprKind-F.Binary op a b) = bind_keeps (value a) _ (keeps a) (λ x. bind_keeps (value b) _ (keeps b) (λ y. performs_value_keeps (binary op x.0 y.0)))
    value_by_keeps (ExprKind-F.And items) = conjoins_keeps items
    value_by_keeps (ExprKind-F.Or items) = disjoins_keeps items
    value_by_keeps (ExprKind-F.Compare first others) = bind_keeps (value first) _ (keeps first) (λ x. chain_keeps [] x.0 others)
    value_by_keeps (ExprKind-F.Cond e test other) = conditional_keeps e test other

  value_in_keeps : (n : ℕ) (e : Expr) → Keeps (value_in watcher program n e)
  value_in_keeps zero e = act _ (λ s. refl)
  value_in_keeps (suc n) e = bind_keeps (begins watcher e.node) _ (begins_keeps watcher e.node) (λ _. value_by_keeps (value_in watcher program n) (does_in watcher program n) (value_in_keeps n) (kind_of_expr e))

  pub value_of_keeps : (e : Expr) → Keeps (value_of watcher program e)
  unfolding value_of
  value_of_keeps e = act _ (λ s. (value_in_keeps s.left e).kept s)
