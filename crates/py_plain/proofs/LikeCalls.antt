-- Calls, displays, decisions and assignments do the same for both watchers, and gain no steps.
use Rattle.std.proofs.Common.{ℕ, ◌+◌, Bool, true, false, ◌&&◌, ◌||◌, not, List, [], ◌∷◌, ◌++◌, length, refl, ap, arith, Option, Some, None}
use Rattle.std.specs.Prelude.{◌==◌, nat_lt, nat_le, bytes_eq, codes, slice_get}
use Rattle.pyn_base.specs.declared.class.BuiltClass.{BuiltClass}
use Rattle.pyn_base.specs.declared.class.ClassId.{ClassId}
use Rattle.pyn_base.specs.declared.class.ClassId.TheVariants.{Built, Own}
use Rattle.pyn_base.specs.declared.ids.FuncId.{FuncId}
use Rattle.pyn_base.specs.declared.ids.NodeId.{NodeId}
use Rattle.pyn_base.specs.declared.ids.ObjId.{ObjId}
use Rattle.py_syntax.specs.declared.expr.Args.{Args, out-Args}
use Rattle.py_syntax.specs.declared.expr.Expr.{Expr}
use Rattle.py_syntax.specs.declared.expr.ExprKind.{ExprKind, ExprKind-F}
use Rattle.py_syntax.specs.declared.operator.CmpOp.{CmpOp}
use Rattle.py_syntax.specs.declared.stmt.Stmt.{Stmt}
use Rattle.py_meaning.specs.declared.builtin.Builtin.{Builtin}
use Rattle.py_meaning.specs.declared.object.ObjKind.{ObjKind}
use Rattle.py_meaning.specs.declared.object.ObjKind.TheVariants as kind
use Rattle.py_meaning.specs.declared.value.Value.{Value, Value-F, out-Value}
use Rattle.py_meaning.specs.declared.value.Value.TheVariants as v
use Rattle.py_meaning.specs.Builtins.{tuple_of_parts}
use Rattle.py_meaning.specs.Methods.{call_method}
use Rattle.py_meaning.specs.Operations.{kind_of, make_list, make_dict}
use Rattle.py_meaning.specs.Steps.{aside}
use Rattle.py_meaning.specs.Tuples.{depth_over, tuple_limit, measured}
use Rattle.py_meaning.specs.declared.measured.Measured.{Measured}
use Rattle.py_meaning.specs.Walk.{walk}
use Rattle.py_meaning.specs.Worlds.{Attributes, Pairs, object_at}
use Rattle.py_plain.specs.declared.judged.Judged.{Judged}
use Rattle.py_plain.specs.declared.judged.Judged.TheVariants as j
use Rattle.py_plain.specs.declared.run.Callee.{Callee}
use Rattle.py_plain.specs.declared.run.Callee.TheVariants as callee
use Rattle.py_plain.specs.Assignments.{counted, unpacks, binds_all, binds_names}
use Rattle.py_plain.specs.BuiltNames.{called_type}
use Rattle.py_plain.specs.Calls.{bound_arguments, call_limit, leaves, or_no_defaults, without_named, within_depth, is_filled, makes_instance, initialized, initializes_base, calls_base, super_of_instance, super_of_object, super_of, super_by, super_in, first_parameter, finds_super, block, body, inside, enters, calls_known, calls_function, initializes, instantiates_by, instantiates, calls_type, calls_class, calls_value, calls}
use Rattle.py_plain.specs.Classes.{class_of_object, base_of_class, derives, is_exception, initializer}
use Rattle.py_plain.specs.Decisions.{judged_chain, negates, conjunction, disjunction, conjoins, disjoins, chain, conditional, decided, chooses}
use Rattle.py_plain.specs.Displays.{makes_list, makes_tuple, makes_dict, list_display, tuple_display, dict_display}
use Rattle.py_plain.specs.Expressions.{named_arguments, plain_arguments, arguments, calls_meant, calls_expr, bound, value_by}
use Rattle.py_plain.specs.Names.{is_some, function_at, builtin_meant}
use Rattle.py_plain.specs.Nodes.{kind_of_expr}
use Rattle.py_plain.specs.Operators.{judged_comparison}
use Rattle.py_names.specs.Bound.{parameters}
use Rattle.py_plain.specs.Program.{Function}
use Rattle.py_plain.specs.Runs.{Run, Finding}
use Rattle.py_plain.proofs.Like.{Like, frugal_aside, like_bind, like_act, like_pure, like_stop, like_if, like_gives, like_passes, like_tests, like_raises, like_performs, like_performs_value, like_asks}
use Rattle.py_plain.proofs.LikeValues.{Sides, Parts, begins_like, decides_like, reads_name_like, binds_like, finds_above_like, finds_like, read_found_like, signs_like, operates_like, gets_item_like, gets_slice_like, compares_like, calls_builtin_like}

module _ {W W' : Type 0} (sides : Sides W W') (k : ℕ) where
  -- ---- what needs no part

  without_named_like : (named : Attributes) (p : Run W Finding) (q : Run W' Finding) → Like sides.keep k p q → Like sides.keep k (without_named named p) (without_named named q)
  without_named_like [] p q h = h
  without_named_like (argument ∷ more) p q h = like_stop sides.keep k _

  pub within_depth_like : (parts : List Value) (p : Run W Finding) (q : Run W' Finding) → Like sides.keep k p q → Like sides.keep k (within_depth parts p) (within_depth parts q)
  within_depth_like parts p q h = like_if sides.keep k (nat_le (depth_over parts) tuple_limit) _ _ _ _ h (like_stop sides.keep k _)

  pub makes_instance_like : (class : ClassId) (args : Option (Measured Value)) → Like sides.keep k (makes_instance class args) (makes_instance class args)
  makes_instance_like class args = like_act sides.keep k _ _ (λ s. refl) (λ s. omega arith)

  initialized_like : (id : ObjId) (view : Value-F Value) → Like sides.keep k (initialized id view) (initialized id view)
  initialized_like id Value-F.None = like_gives sides.keep k _
  initialized_like id _ = like_raises sides.keep k _

  initializes_base_like : (id : ObjId) (exception : Bool) (plain : List Value) (named : Attributes) → Like sides.keep k (initializes_base sides.watcher sides.program id exception plain named) (initializes_base sides.watcher' sides.program id exception plain named)
  initializes_base_like id true plain named = without_named_like named _ _ (within_depth_like plain _ _ (like_act sides.keep k _ _ (λ s. refl) (λ s. omega arith)))
  initializes_base_like id false plain named = like_if sides.keep k (is_filled plain || is_filled named) _ _ _ _ (like_raises sides.keep k _) (like_passes sides.keep k)

  calls_base_like : (id : ObjId) (plain : List Value) (named : Attributes) → Like sides.keep k (calls_base sides.watcher sides.program id plain named) (calls_base sides.watcher' sides.program id plain named)
  calls_base_like id plain named = record {
    agree = λ s le. (initializes_base_like id (is_exception sides.program (class_of_object (object_at s.objects id))) plain named).agree s le;
    spends = λ s. (initializes_base_like id (is_exception sides.program (class_of_object (object_at s.objects id))) plain named).spends s;
  }

  super_of_instance_like : (class : ClassId) (id : ObjId) (own : ClassId) (name : List ℕ) → Like sides.keep k (super_of_instance sides.watcher sides.program class id own name) (super_of_instance sides.watcher' sides.program class id own name)
  super_of_instance_like class id own name = like_if sides.keep k (not (derives sides.program own class)) _ _ _ _ (like_raises sides.keep k _)
      (like_if sides.keep k (bytes_eq name (codes "__init__") && not (is_some (initializer sides.program (base_of_class sides.program class)))) _ _ _ _ (like_pure sides.keep k _) (finds_above_like sides k id own (base_of_class sides.program class) name))

  super_of_object_like : (class : ClassId) (id : ObjId) (kind : ObjKind) (name : List ℕ) → Like sides.keep k (super_of_object sides.watcher sides.program class id kind name) (super_of_object sides.watcher' sides.program class id kind name)
  super_of_object_like class id (kind.Instance own) name = super_of_instance_like class id own name
  super_of_object_like class id _ name = like_raises sides.keep k _

  super_of_like : (class : ClassId) (view : Value-F Value) (name : List ℕ) → Like sides.keep k (super_of sides.watcher sides.program class view name) (super_of sides.watcher' sides.program class view name)
  super_of_like class (Value-F.Ref id) name = record {
    agree = λ s le. (super_of_object_like class id (kind_of (object_at s.objects id)) name).agree s le;
    spends = λ s. (super_of_object_like class id (kind_of (object_at s.objects id)) name).spends s;
  }
  super_of_like class (Value-F.Class other) name = like_if sides.keep k (derives sides.program other class) _ _ _ _ (like_stop sides.keep k _) (like_raises sides.keep k _)
  super_of_like class _ name = like_raises sides.keep k _

  super_by_like : (owner : Option ℕ) (first : Option Value) (name : List ℕ) → Like sides.keep k (super_by sides.watcher sides.program owner first name) (super_by sides.watcher' sides.program owner first name)
  super_by_like (Some class) (Some x) name = super_of_like (Own class) (out-Value x) name
  super_by_like (Some class) None name = like_stop sides.keep k _
  super_by_like None first name = like_stop sides.keep k _

  super_in_like : (f : Option Function) (variables : Attributes) (name : List ℕ) → Like sides.keep k (super_in sides.watcher sides.program f variables name) (super_in sides.watcher' sides.program f variables name)
  super_in_like None variables name = like_stop sides.keep k _
  super_in_like (Some f) variables name = super_by_like f.owner (first_parameter sides.watcher sides.program (parameters f.tree) variables) name

  finds_super_like : (name : List ℕ) → Like sides.keep k (finds_super sides.watcher sides.program name) (finds_super sides.watcher' sides.program name)
  finds_super_like name = record {
    agree = λ s le. (super_in_like (function_at sides.program s.frame.function) s.frame.variables name).agree s le;
    spends = λ s. (super_in_like (function_at sides.program s.frame.function) s.frame.variables name).spends s;
  }

  makes_list_like : (items : List Value) → Like sides.keep k (makes_list items) (makes_list items)
  makes_list_like items = like_bind sides.keep k _ _ _ _ (like_performs sides.keep k (make_list items) (sides.operations.list_frugal items)) (λ id. like_gives sides.keep k (v.Ref id))

  makes_tuple_like : (parts : List Value) → Like sides.keep k (makes_tuple parts) (makes_tuple parts)
  makes_tuple_like parts = like_performs_value sides.keep k (aside (tuple_of_parts parts)) (λ world. frugal_aside _ world (sides.operations.tuple_frugal parts))

  makes_dict_like : (pairs : Pairs) → Like sides.keep k (makes_dict pairs) (makes_dict pairs)
  makes_dict_like pairs = like_bind sides.keep k _ _ _ _ (like_performs sides.keep k (make_dict pairs) (sides.operations.dict_frugal pairs)) (λ id. like_gives sides.keep k (v.Ref id))

  pub counted_like : (count : ℕ) (items : List Value) → Like sides.keep k (counted count items) (counted count items)
  counted_like count items = like_if sides.keep k (length items == count) _ _ _ _ (like_pure sides.keep k _) (like_raises sides.keep k _)

  pub unpacks_like : (count : ℕ) (x : Value) → Like sides.keep k (unpacks count x) (unpacks count x)
  unpacks_like count x = like_bind sides.keep k _ _ _ _ (like_asks sides.keep k (λ world. walk world x) (sides.operations.walk_frugal x)) (counted_like count)

  pub binds_all_like : (names : List (List ℕ)) (items : List Value) → Like sides.keep k (binds_all names items) (binds_all names items)
  binds_all_like [] items = like_passes sides.keep k
  binds_all_like (name ∷ names) [] = like_passes sides.keep k
  binds_all_like (name ∷ names) (x ∷ xs) = like_bind sides.keep k _ _ _ _ (binds_like sides k name x) (λ _. binds_all_like names xs)

  pub binds_names_like : (is_tuple : Bool) (names : List (List ℕ)) (x : Value) → Like sides.keep k (binds_names is_tuple names x) (binds_names is_tuple names x)
  binds_names_like true names x = like_bind sides.keep k _ _ _ _ (unpacks_like (length names) x) (binds_all_like names)
  binds_names_like false names x = binds_all_like names (x ∷ [])

  negates_like : (x : Finding) → Like sides.keep k (negates x) (negates x)
  negates_like x = like_bind sides.keep k _ _ _ _ (like_tests sides.keep k x.0) (λ holds. like_pure sides.keep k (v.Bool (not holds), j.Not x.1))

  pub decided_like : (node : NodeId) (p q : Run W Finding) (p' q' : Run W' Finding) → Like sides.keep k p p' → Like sides.keep k q q' → (x : Finding) → Like sides.keep k (decided sides.watcher node p q x) (decided sides.watcher' node p' q' x)
  decided_like node p q p' q' h i x = like_bind sides.keep k _ _ _ _ (like_tests sides.keep k x.0) (λ outcome. like_bind sides.keep k _ _ _ _ (decides_like sides k node x.1 outcome) (λ _. like_if sides.keep k outcome p q p' q' h i))

  -- ---- by parts

  module _ (parts : Parts sides k) where
    pub block_like : (body : List Stmt) → Like sides.keep k (block sides.watcher sides.program parts.does body) (block sides.watcher' sides.program parts.does' body)
    block_like [] = like_passes sides.keep k
    block_like (stmt ∷ more) = like_bind sides.keep k _ _ _ _ (parts.does_like stmt) (λ _. block_like more)

    body_like : (f : Function) → Like sides.keep k (body sides.watcher sides.program parts.does f) (body sides.watcher' sides.program parts.does' f)
    body_like f = like_bind sides.keep k _ _ _ _ (begins_like sides k f.tree.node) (λ _. block_like f.tree.body)

    inside_like : (id : FuncId) (f : Function) (variables : Attributes) → Like sides.keep k (inside sides.watcher sides.program parts.does id f variables) (inside sides.watcher' sides.program parts.does' id f variables)
    inside_like id f variables = record {
      agree = λ s le. ap (leaves s.frame) ((body_like f).agree (record s { frame = record { function = Some id; variables = variables; handled = [] }; depth = s.depth + 1 }) le);
      spends = λ s. (body_like f).spends (record s { frame = record { function = Some id; variables = variables; handled = [] }; depth = s.depth + 1 });
    }

    enters_like : (id : FuncId) (f : Function) (variables : Option Attributes) → Like sides.keep k (enters sides.watcher sides.program parts.does id f variables) (enters sides.watcher' sides.program parts.does' id f variables)
    enters_like id f None = like_raises sides.keep k _
    enters_like id f (Some variables) = record {
      agree = λ s le. (like_if sides.keep k (nat_lt s.depth call_limit) _ _ _ _ (inside_like id f variables) (like_stop sides.keep k _)).agree s le;
      spends = λ s. (like_if sides.keep k (nat_lt s.depth call_limit) _ _ _ _ (inside_like id f variables) (like_stop sides.keep k _)).spends s;
    }

    calls_known_like : (id : FuncId) (f : Option Function) (plain : List Value) (named : Attributes) → Like sides.keep k (calls_known sides.watcher sides.program parts.does id f plain named) (calls_known sides.watcher' sides.program parts.does' id f plain named)
    calls_known_like id None plain named = like_stop sides.keep k _
    calls_known_like id (Some f) plain named = record {
      agree = λ s le. (enters_like id f (bound_arguments (parameters f.tree) (or_no_defaults (slice_get s.space.defaults id.0)) plain named)).agree s le;
      spends = λ s. (enters_like id f (bound_arguments (parameters f.tree) (or_no_defaults (slice_get s.space.defaults id.0)) plain named)).spends s;
    }

    calls_function_like : (id : FuncId) (plain : List Value) (named : Attributes) → Like sides.keep k (calls_function sides.watcher sides.program parts.does id plain named) (calls_function sides.watcher' sides.program parts.does' id plain named)
    calls_function_like id plain named = calls_known_like id (slice_get sides.program.functions id.0) plain named

    initializes_like : (id : ObjId) (f : FuncId) (plain : List Value) (named : Attributes) → Like sides.keep k (initializes sides.watcher sides.program parts.does id f plain named) (initializes sides.watcher' sides.program parts.does' id f plain named)
    initializes_like id f plain named = like_bind sides.keep k _ _ _ _ (calls_function_like f (v.Ref id ∷ plain) named) (λ x. initialized_like id (out-Value x.0))

    instantiates_by_like : (class : ClassId) (exception : Bool) (init : Option FuncId) (plain : List Value) (named : Attributes) → Like sides.keep k (instantiates_by sides.watcher sides.program parts.does class exception init plain named) (instantiates_by sides.watcher' sides.program parts.does' class exception init plain named)
    instantiates_by_like class false None plain named = like_if sides.keep k (is_filled plain || is_filled named) _ _ _ _ (like_raises sides.keep k _) (like_bind sides.keep k _ _ _ _ (makes_instance_like class None) (λ id. like_gives sides.keep k (v.Ref id)))
    instantiates_by_like class false (Some f) plain named = like_bind sides.keep k _ _ _ _ (makes_instance_like class None) (λ id. initializes_like id f plain named)
    instantiates_by_like class true None plain named = without_named_like named _ _ (within_depth_like plain _ _ (like_bind sides.keep k _ _ _ _ (makes_instance_like class (Some (measured plain))) (λ id. like_gives sides.keep k (v.Ref id))))
    instantiates_by_like class true (Some f) plain named = within_depth_like plain _ _ (like_bind sides.keep k _ _ _ _ (makes_instance_like class (Some (measured plain))) (λ id. initializes_like id f plain named))

    pub instantiates_like : (class : ClassId) (plain : List Value) (named : Attributes) → Like sides.keep k (instantiates sides.watcher sides.program parts.does class plain named) (instantiates sides.watcher' sides.program parts.does' class plain named)
    instantiates_like class plain named = instantiates_by_like class (is_exception sides.program class) (initializer sides.program class) plain named

    calls_type_like : (type : Option Builtin) (class : BuiltClass) (plain : List Value) (named : Attributes) → Like sides.keep k (calls_type sides.watcher sides.program parts.does type class plain named) (calls_type sides.watcher' sides.program parts.does' type class plain named)
    calls_type_like None class plain named = instantiates_like (Built class) plain named
    calls_type_like (Some builtin) class plain named = without_named_like named _ _ (calls_builtin_like sides k builtin plain)

    calls_class_like : (class : ClassId) (plain : List Value) (named : Attributes) → Like sides.keep k (calls_class sides.watcher sides.program parts.does class plain named) (calls_class sides.watcher' sides.program parts.does' class plain named)
    calls_class_like (Built class) plain named = calls_type_like (called_type class) class plain named
    calls_class_like (Own n) plain named = instantiates_like (Own n) plain named

    calls_value_like : (view : Value-F Value) (plain : List Value) (named : Attributes) → Like sides.keep k (calls_value sides.watcher sides.program parts.does view plain named) (calls_value sides.watcher' sides.program parts.does' view plain named)
    calls_value_like (Value-F.Func f) plain named = calls_function_like f plain named
    calls_value_like (Value-F.Class class) plain named = calls_class_like class plain named
    calls_value_like _ plain named = like_raises sides.keep k _

    calls_like : (f : Callee) (plain : List Value) (named : Attributes) → Like sides.keep k (calls sides.watcher sides.program parts.does f plain named) (calls sides.watcher' sides.program parts.does' f plain named)
    calls_like (callee.Value x) plain named = calls_value_like (out-Value x) plain named
    calls_like (callee.Function f) plain named = calls_function_like f plain named
    calls_like (callee.Bound id f) plain named = calls_function_like f (v.Ref id ∷ plain) named
    calls_like (callee.Method receiver name) plain named = without_named_like named _ _ (like_performs_value sides.keep k (call_method receiver name plain) (sides.operations.method_frugal receiver name plain))
    calls_like (callee.Builtin builtin) plain named = without_named_like named _ _ (calls_builtin_like sides k builtin plain)
    calls_like (callee.BaseInit id) plain named = calls_base_like id plain named

    -- ---- displays and decisions

    list_display_like : (done : List Value) (items : List Expr) → Like sides.keep k (list_display parts.value done items) (list_display parts.value' done items)
    list_display_like done [] = makes_list_like done
    list_display_like done (e ∷ more) = like_bind sides.keep k _ _ _ _ (parts.value_like e) (λ x. list_display_like (done ++ x.0 ∷ []) more)

    tuple_display_like : (done : List Value) (items : List Expr) → Like sides.keep k (tuple_display parts.value done items) (tuple_display parts.value' done items)
    tuple_display_like done [] = makes_tuple_like done
    tuple_display_like done (e ∷ more) = like_bind sides.keep k _ _ _ _ (parts.value_like e) (λ x. tuple_display_like (done ++ x.0 ∷ []) more)

    dict_display_like : (done : Pairs) (pairs : List (Expr × Expr)) → Like sides.keep k (dict_display parts.value done pairs) (dict_display parts.value' done pairs)
    dict_display_like done [] = makes_dict_like done
    dict_display_like done (pair ∷ more) = like_bind sides.keep k _ _ _ _ (parts.value_like pair.0) (λ key. like_bind sides.keep k _ _ _ _ (parts.value_like pair.1) (λ x. dict_display_like (done ++ (key.0, x.0) ∷ []) more))

    conjunction_like : (done : List Judged) (x : Finding) (more : List Expr) → Like sides.keep k (conjunction parts.value done x more) (conjunction parts.value' done x more)
    conjunction_like done x [] = like_pure sides.keep k _
    conjunction_like done x (e ∷ more) = like_bind sides.keep k _ _ _ _ (like_tests sides.keep k x.0) (λ holds. like_if sides.keep k holds _ _ _ _ (like_bind sides.keep k _ _ _ _ (parts.value_like e) (λ y. conjunction_like (done ++ x.1 ∷ []) y more)) (like_pure sides.keep k (x.0, j.All (done ++ x.1 ∷ []) (length (e ∷ more)))))

    disjunction_like : (done : List Judged) (x : Finding) (more : List Expr) → Like sides.keep k (disjunction parts.value done x more) (disjunction parts.value' done x more)
    disjunction_like done x [] = like_pure sides.keep k _
    disjunction_like done x (e ∷ more) = like_bind sides.keep k _ _ _ _ (like_tests sides.keep k x.0) (λ holds. like_if sides.keep k holds _ _ _ _ (like_pure sides.keep k (x.0, j.Any (done ++ x.1 ∷ []) (length (e ∷ more)))) (like_bind sides.keep k _ _ _ _ (parts.value_like e) (λ y. disjunction_like (done ++ x.1 ∷ []) y more)))

    conjoins_like : (items : List Expr) → Like sides.keep k (conjoins parts.value items) (conjoins parts.value' items)
    conjoins_like [] = like_gives sides.keep k _
    conjoins_like (e ∷ more) = like_bind sides.keep k _ _ _ _ (parts.value_like e) (λ x. conjunction_like [] x more)

    disjoins_like : (items : List Expr) → Like sides.keep k (disjoins parts.value items) (disjoins parts.value' items)
    disjoins_like [] = like_gives sides.keep k _
    disjoins_like (e ∷ more) = like_bind sides.keep k _ _ _ _ (parts.value_like e) (λ x. disjunction_like [] x more)

    chain_like : (done : List Judged) (x : Value) (others : List (CmpOp × Expr)) → Like sides.keep k (chain parts.value done x others) (chain parts.value' done x others)
    chain_like done x [] = like_pure sides.keep k _
    chain_like done x (part ∷ more) = like_bind sides.keep k _ _ _ _ (parts.value_like part.1) (λ y. like_bind sides.keep k _ _ _ _ (compares_like sides k part.0 x y.0) (λ holds. like_if sides.keep k holds _ _ _ _ (chain_like (done ++ judged_comparison part.0 x y.0 true ∷ []) y.0 more) (like_pure sides.keep k (v.Bool false, judged_chain (done ++ judged_comparison part.0 x y.0 false ∷ []) (length more)))))

    conditional_like : (e test other : Expr) → Like sides.keep k (conditional parts.value e test other) (conditional parts.value' e test other)
    conditional_like e test other = like_bind sides.keep k _ _ _ _ (parts.value_like test) (λ x. like_bind sides.keep k _ _ _ _ (like_tests sides.keep k x.0) (λ holds. like_bind sides.keep k _ _ _ _ (like_if sides.keep k holds _ _ _ _ (parts.value_like e) (parts.value_like other)) (λ y. like_gives sides.keep k y.0)))

    pub chooses_like : (test : Expr) (p q : Run W Finding) (p' q' : Run W' Finding) → Like sides.keep k p p' → Like sides.keep k q q' → Like sides.keep k (chooses sides.watcher parts.value test p q) (chooses sides.watcher' parts.value' test p' q')
    chooses_like test p q p' q' h i = like_bind sides.keep k _ _ _ _ (parts.value_like test) (decided_like test.node p q p' q' h i)

    -- ---- expressions

    named_like : (f : Callee) (plain : List Value) (done : Attributes) (named : List (List ℕ × Expr)) → Like sides.keep k (named_arguments sides.watcher sides.program parts.value parts.does f plain done named) (named_arguments sides.watcher' sides.program parts.value' parts.does' f plain done named)
    named_like f plain done [] = calls_like f plain done
    named_like f plain done (argument ∷ more) = like_bind sides.keep k _ _ _ _ (parts.value_like argument.1) (λ x. named_like f plain (done ++ (argument.0, x.0) ∷ []) more)

    plain_like : (f : Callee) (done : List Value) (items : List Expr) (named : List (List ℕ × Expr)) → Like sides.keep k (plain_arguments sides.watcher sides.program parts.value parts.does f done items named) (plain_arguments sides.watcher' sides.program parts.value' parts.does' f done items named)
    plain_like f done [] named = named_like f done [] named
    plain_like f done (e ∷ more) named = like_bind sides.keep k _ _ _ _ (parts.value_like e) (λ x. plain_like f (done ++ x.0 ∷ []) more named)

    arguments_like : (args : Args) (f : Callee) → Like sides.keep k (arguments sides.watcher sides.program parts.value parts.does args f) (arguments sides.watcher' sides.program parts.value' parts.does' args f)
    arguments_like args f = plain_like f [] (out-Args args).plain (out-Args args).named

    calls_meant_like : (meant : Option Builtin) (e : Expr) (args : Args) → Like sides.keep k (calls_meant sides.watcher sides.program parts.value parts.does meant e args) (calls_meant sides.watcher' sides.program parts.value' parts.does' meant e args)
    calls_meant_like None e args = like_bind sides.keep k _ _ _ _ (parts.value_like e) (λ x. arguments_like args (callee.Value x.0))
    calls_meant_like (Some builtin) e args = like_bind sides.keep k _ _ _ _ (begins_like sides k e.node) (λ _. arguments_like args (callee.Builtin builtin))

    calls_expr_like : (kind : ExprKind-F ExprKind Args Expr) (e : Expr) (args : Args) → Like sides.keep k (calls_expr sides.watcher sides.program parts.value parts.does kind e args) (calls_expr sides.watcher' sides.program parts.value' parts.does' kind e args)
    calls_expr_like (ExprKind-F.Name name) e args = record {
      agree = λ s le. (calls_meant_like (builtin_meant sides.program s name) e args).agree s le;
      spends = λ s. (calls_meant_like (builtin_meant sides.program s name) e args).spends s;
    }
    calls_expr_like _ e args = calls_meant_like None e args

    bound_like : (e : Option Expr) → Like sides.keep k (bound sides.watcher sides.program parts.value parts.does e) (bound sides.watcher' sides.program parts.value' parts.does' e)
    bound_like None = like_passes sides.keep k
    bound_like (Some e) = parts.value_like e

    pub value_by_like : (kind : ExprKind-F ExprKind Args Expr) → Like sides.keep k (value_by sides.watcher sides.program parts.value parts.does kind) (value_by sides.watcher' sides.program parts.value' parts.does' kind)
    value_by_like ExprKind-F.NoneLit = like_gives sides.keep k _
    value_by_like (ExprKind-F.BoolLit b) = like_gives sides.keep k _
    value_by_like (ExprKind-F.IntLit n) = like_gives sides.keep k _
    value_by_like (ExprKind-F.StrLit text) = like_gives sides.keep k _
    value_by_like (ExprKind-F.Name name) = reads_name_like sides k name
    value_by_like (ExprKind-F.ListLit items) = list_display_like [] items
    value_by_like (ExprKind-F.TupleLit items) = tuple_display_like [] items
    value_by_like (ExprKind-F.DictLit pairs) = dict_display_like [] pairs
    value_by_like (ExprKind-F.Attr e name) = like_bind sides.keep k _ _ _ _ (parts.value_like e) (λ x. like_bind sides.keep k _ _ _ _ (finds_like sides k x.0 name) (read_found_like sides k))
    value_by_like (ExprKind-F.Index of at) = like_bind sides.keep k _ _ _ _ (parts.value_like of) (λ x. like_bind sides.keep k _ _ _ _ (parts.value_like at) (λ i. gets_item_like sides k x.0 i.0))
    value_by_like (ExprKind-F.Slice of low high) = like_bind sides.keep k _ _ _ _ (parts.value_like of) (λ x. like_bind sides.keep k _ _ _ _ (bound_like low) (λ a. like_bind sides.keep k _ _ _ _ (bound_like high) (λ b. gets_slice_like sides k x.0 a.0 b.0)))
    value_by_like (ExprKind-F.Call e args) = calls_expr_like (kind_of_expr e) e args
    value_by_like (ExprKind-F.Method e name args) = like_bind sides.keep k _ _ _ _ (parts.value_like e) (λ x. like_bind sides.keep k _ _ _ _ (finds_like sides k x.0 name) (arguments_like args))
    value_by_like (ExprKind-F.Super name args) = like_bind sides.keep k _ _ _ _ (finds_super_like name) (arguments_like args)
    value_by_like (ExprKind-F.Unary sign e) = like_bind sides.keep k _ _ _ _ (parts.value_like e) (λ x. signs_like sides k sign x.0)
    value_by_like (ExprKind-F.Not e) = like_bind sides.keep k _ _ _ _ (parts.value_like e) negates_like
    value_by_like (ExprKind-F.Binary op a b) = like_bind sides.keep k _ _ _ _ (parts.value_like a) (λ x. like_bind sides.keep k _ _ _ _ (parts.value_like b) (λ y. operates_like sides k op x.0 y.0))
    value_by_like (ExprKind-F.And items) = conjoins_like items
    value_by_like (ExprKind-F.Or items) = disjoins_like items
    value_by_like (ExprKind-F.Compare first others) = like_bind sides.keep k _ _ _ _ (parts.value_like first) (λ x. chain_like [] x.0 others)
    value_by_like (ExprKind-F.Cond e test other) = conditional_like e test other
