-- An assertion changes nothing: its subject, its display and its class make objects at most.
use Rattle.std.proofs.Common.{◌≡◌, ℕ, zero, suc, Bool, true, false, ◌&&◌, List, [], ◌∷◌, ◌++◌, length, map, ◌||◌, refl, sym, ap, subst, Option, Some, None}
use Rattle.std.specs.Prelude.{if◌then◌else◌, take, nat_le, bytes_eq, codes, IsTrue}
use Rattle.std.proofs.lemmas.Slice.Eq.{bytes_eq-Decides}
use Rattle.std.specs.List.{list_all}
use Rattle.pyn_base.specs.declared.class.BuiltClass.{BuiltClass}
use Rattle.pyn_base.specs.declared.class.BuiltClass.TheVariants.{AssertionError}
use Rattle.pyn_base.specs.declared.class.ClassId.{ClassId}
use Rattle.pyn_base.specs.declared.class.ClassId.TheVariants.{Built, Own}
use Rattle.pyn_base.specs.declared.construct.Construct.TheVariants as construct
use Rattle.pyn_base.specs.declared.ids.FuncId.{FuncId}
use Rattle.pyn_base.specs.declared.ids.NodeId.{NodeId}
use Rattle.pyn_base.specs.declared.ids.ObjId.{ObjId}
use Rattle.py_syntax.specs.declared.expr.Args.{Args, out-Args}
use Rattle.py_syntax.specs.declared.expr.Expr.{Expr}
use Rattle.py_syntax.specs.declared.expr.ExprKind.{ExprKind-F}
use Rattle.py_syntax.specs.declared.operator.CmpOp.{CmpOp}
use Rattle.py_syntax.specs.declared.operator.CmpOp.TheVariants.{Eq, Same}
use Rattle.py_syntax.specs.declared.operator.Sign.TheVariants.{Minus}
use Rattle.py_syntax.specs.declared.stmt.Clause.{Clause}
use Rattle.py_syntax.specs.declared.stmt.Stmt.{Stmt}
use Rattle.py_syntax.specs.declared.stmt.StmtKind.{StmtKind, StmtKind-F}
use Rattle.py_meaning.specs.declared.builtin.Builtin.{Builtin}
use Rattle.py_meaning.specs.declared.builtin.Builtin.TheVariants as builtin
use Rattle.py_meaning.specs.declared.measured.Measured.{Measured}
use Rattle.py_meaning.specs.declared.object.Object.TheVariants as object
use Rattle.py_meaning.specs.declared.object.ObjKind.{ObjKind}
use Rattle.py_meaning.specs.declared.object.ObjKind.TheVariants as kind
use Rattle.py_meaning.specs.declared.op.Op.{Op}
use Rattle.py_meaning.specs.declared.op.Op.TheVariants as op
use Rattle.py_meaning.specs.declared.value.Value.{Value, Value-F, out-Value}
use Rattle.py_meaning.specs.declared.value.Value.TheVariants as v
use Rattle.py_meaning.specs.Arithmetic.{unary}
use Rattle.py_meaning.specs.Builtins.{tuple_of_parts}
use Rattle.py_meaning.specs.Keys.{all_keys, as_key}
use Rattle.py_meaning.specs.Methods.{Names, named, is_among, list_methods, dict_methods, text_methods, left_of_list, left_of_dict, left_of_tuple, left_of_integer, left_of_text}
use Rattle.py_meaning.specs.Operations.{kind_of, args_of, attr_get, make_list, make_dict, for_key, made, put_all}
use Rattle.py_meaning.specs.Operators.{compare}
use Rattle.py_meaning.specs.Steps.{Costing, done}
use Rattle.py_meaning.specs.Tuples.{depth_over, tuple_limit, measured}
use Rattle.py_meaning.specs.Worlds.{World, Pairs, object_at}
use Rattle.py_plain.specs.declared.run.Abrupt.TheVariants.{Raised, Left}
use Rattle.py_plain.specs.declared.run.Callee.{Callee}
use Rattle.py_plain.specs.declared.run.Callee.TheVariants as callee
use Rattle.py_plain.specs.declared.state.Frame.{Frame}
use Rattle.py_plain.specs.declared.state.Space.{Space}
use Rattle.py_plain.specs.declared.state.State.{State}
use Rattle.py_plain.specs.Assertions.{ExprNode, is_name, is_subject, is_truth_or_none, is_integer, is_display_by, is_display, names_module, is_class, asks_class, calls_isinstance, is_comparison, is_condition, is_assertion_by, is_assertion}
use Rattle.py_plain.specs.Attributes.{finds_method, finds_none, missing_member, missing_of_class, found_or, bound_or, value_or, finds_above, finds_in_class, finds_in_object, finds_in, read_found}
use Rattle.py_plain.specs.BuiltNames.{built_functions}
use Rattle.py_plain.specs.Builtins.{isinstance_row}
use Rattle.py_plain.specs.Classes.{is_exception, class_member}
use Rattle.py_plain.specs.Displays.{list_display, tuple_display, dict_display}
use Rattle.py_plain.specs.Exceptions.{fails}
use Rattle.py_plain.specs.Expressions.{value_by, plain_arguments, calls_meant, calls_expr}
use Rattle.py_plain.specs.Laws.{IsOfTest, cut_back}
use Rattle.py_plain.specs.Names.{is_bound, lookup, is_some, is_local, globals, function_at, builtin_meant, builtin_in, found_local, found_class, found_global, reads_in, reads_unless, reads, reads_name}
use Rattle.py_plain.specs.Nodes.{kind_of_expr, kind_of_stmt}
use Rattle.py_plain.specs.Program.{Function, Program}
use Rattle.py_plain.specs.Runs.{Watcher, Run, Finding, nothing, passes, begins}
use Rattle.py_plain.specs.Statements.{value_of, means, does_by}
use Rattle.py_plain.proofs.Appends.{extends_one, Longer, Appends, Longest, Adds, appends_same, appends_at, appends_pure, appends_stop, appends_gives, appends_tests, appends_raises, appends_if, appends_makes, appends_bind, appends_performs, appends_performs_value, appends_begins, appends_decides, adds_costs, adds_aside, appends_asks}
use Rattle.py_plain.proofs.FrugalOwn.{operations}
use Rattle.py_plain.proofs.Levels.{value_of-out, means-out}

left_of : (a b : Bool) → IsTrue (a && b) → IsTrue a
left_of true b h = refl
left_of false b h = h

right_of : (a b : Bool) → IsTrue (a && b) → IsTrue b
right_of true b h = h
right_of false b h = cc

pub take_front : {A : Type 0} (xs ys : List A) → take (length xs) (xs ++ ys) ≡ xs
take_front [] ys = refl
take_front (x ∷ xs) ys = ap (λ l. x ∷ l) (take_front xs ys)

-- ---- objects that displays make

adds_list : (items : List Value) → Adds (make_list items)
adds_list items = record { adds = λ world left. adds_costs world (length items) left (done (made (object.List items) world)) (λ left. extends_one world (object.List items)) }

adds_key : {A : Type 0} (world : World) (key : Op (Unit {0})) (run : Costing (A × World)) → ((left : ℕ) → Longest world (run left).0) → (left : ℕ) → Longest world (for_key key run left).0
adds_key world (op.Done _) run h left = h left
adds_key world (op.Raises class) run h left = tt
adds_key world (op.Leaves construct) run h left = tt
adds_key world op.OutOfSteps run h left = tt
adds_key world op.Memory run h left = tt

adds_dict : (pairs : Pairs) → Adds (make_dict pairs)
adds_dict pairs = record {
  adds = λ world left.
      let key = all_keys (map (λ pair. as_key world pair.0) pairs) in
      let run : Costing (ObjId × World) = done (made (put_all pairs (object.Dict [] 0)) world) in
      adds_costs world _ left (for_key key run) (adds_key world key run (λ left. extends_one world (put_all pairs (object.Dict [] 0))));
}

module _ {W : Type 0} (watcher : Watcher W) (program : Program) where
  -- ---- names and attributes

  appends_name : (f : Option Function) (frame : Frame) (space : Space) (name : List ℕ) → Appends {W = W} (reads_in f frame space name)
  appends_name f frame space name = appends_if (is_local f name frame.variables) _ _ (by_local (lookup name frame.variables)) (by_global (lookup name (globals f space)))
    where
      by_local : (found : Option Value) → Appends {W = W} (found_local found)
      by_local None = appends_raises _
      by_local (Some x) = appends_gives x

      by_class : (found : Option BuiltClass) → Appends {W = W} (found_class found)
      by_class None = appends_stop _
      by_class (Some class) = appends_gives _

      by_global : (found : Option Value) → Appends {W = W} (found_global name found)
      by_global None = by_class _
      by_global (Some x) = appends_gives x

  appends_reads : (name : List ℕ) → Appends {W = W} (reads_name program name)
  appends_reads name = appends_at (λ s. reads_unless (builtin_meant program s name) (reads program name)) (λ s test. unless (builtin_meant program s name))
    where
      unless : (found : Option Builtin) → Appends {W = W} (reads_unless found (reads program name))
      unless None = appends_at (λ s. reads_in (function_at program s.frame.function) s.frame s.space name) (λ s test. appends_name (function_at program s.frame.function) s.frame s.space name)
      unless (Some builtin) = appends_stop _

  appends_method : {M : Type 0} (methods : Names M) (left : List (List ℕ)) (receiver : Value) (name : List ℕ) → Appends {W = W} (finds_method methods left receiver name)
  appends_method methods left receiver name = appends_if (is_some (named methods name)) _ _ (appends_pure _) (appends_if (is_among left name) _ _ (appends_stop _) (appends_raises _))

  appends_no_method : (left : List (List ℕ)) (name : List ℕ) → Appends {W = W} (finds_none left name)
  appends_no_method left name = appends_if (is_among left name) _ _ (appends_stop _) (appends_raises _)

  appends_missing : (exception : Bool) (name : List ℕ) (args : Option (Measured Value)) → Appends {W = W} (missing_member exception name args)
  appends_missing true name None = appends_if (bytes_eq name (codes "args")) _ _ (appends_stop _) (appends_stop _)
  appends_missing true name (Some args) = appends_if (bytes_eq name (codes "args")) _ _ (appends_pure _) (appends_stop _)
  appends_missing false name args = appends_raises _

  appends_above : (id : ObjId) (class from : ClassId) (name : List ℕ) → Appends {W = W} (finds_above program id class from name)
  appends_above id class from name =
      appends_at (λ s. bound_or id (missing_member (is_exception program class) name (args_of (object_at s.objects id))) (class_member program s.space from name))
      (λ s test. found (missing_member (is_exception program class) name (args_of (object_at s.objects id))) (class_member program s.space from name) (appends_missing (is_exception program class) name (args_of (object_at s.objects id))))
    where
      found : (p : Run W Callee) (member : Option Callee) → Appends p → Appends (bound_or id p member)
      found p None h = h
      found p (Some member) h = appends_pure _

  appends_value_or : (p : Run W Callee) (x : Option Value) → Appends p → Appends (value_or p x)
  appends_value_or p None h = h
  appends_value_or p (Some x) h = appends_pure _

  appends_in_class : (class : ClassId) (name : List ℕ) → Appends {W = W} (finds_in_class program class name)
  appends_in_class (Built class) name = appends_stop _
  appends_in_class (Own k) name = appends_at (λ s. found_or (missing_of_class (is_exception program (Own k)) name) (class_member program s.space (Own k) name)) (λ s test. found (class_member program s.space (Own k) name))
    where
      found : (member : Option Callee) → Appends {W = W} (found_or (missing_of_class (is_exception program (Own k)) name) member)
      found None = appends_if (bytes_eq name (codes "mro")) _ _ (appends_stop _) (appends_if (is_exception program (Own k)) _ _ (appends_stop _) (appends_raises _))
      found (Some member) = appends_pure _

  appends_in_object : (id : ObjId) (kind : ObjKind) (name : List ℕ) → Appends {W = W} (finds_in_object program id kind name)
  appends_in_object id kind.List name = appends_method list_methods left_of_list (v.Ref id) name
  appends_in_object id kind.Dict name = appends_method dict_methods left_of_dict (v.Ref id) name
  appends_in_object id (kind.Instance class) name = appends_at (λ s. value_or (finds_above program id class class name) (attr_get id name s.objects)) (λ s test. appends_value_or _ (attr_get id name s.objects) (appends_above id class class name))

  appends_finds : (x : Value) (view : Value-F Value) (name : List ℕ) → Appends {W = W} (finds_in program x view name)
  appends_finds x (Value-F.Str text) name = appends_method text_methods left_of_text x name
  appends_finds x (Value-F.Tuple parts) name = appends_no_method left_of_tuple name
  appends_finds x (Value-F.Bool b) name = appends_no_method left_of_integer name
  appends_finds x (Value-F.Int n) name = appends_no_method left_of_integer name
  appends_finds x Value-F.None name = appends_raises _
  appends_finds x (Value-F.Ref id) name = appends_at (λ s. finds_in_object program id (kind_of (object_at s.objects id)) name) (λ s test. appends_in_object id (kind_of (object_at s.objects id)) name)
  appends_finds x (Value-F.Class class) name = appends_in_class class name
  appends_finds x (Value-F.Func f) name = appends_stop _
  appends_finds x (Value-F.View view) name = appends_stop _
  appends_finds x Value-F.ModuleRef name = appends_at (λ s. value_or _ (lookup name s.space.names)) (λ s test. appends_value_or _ (lookup name s.space.names) (appends_stop _))

  appends_found : (found : Callee) → Appends {W = W} (read_found found)
  appends_found (callee.Value x) = appends_gives x
  appends_found _ = appends_stop _

  -- ---- parts of assertions, one level at a time

  abbrev value : Expr → Run W Finding
  value = value_of watcher program

  abbrev level : ExprNode → Run W Finding
  level = value_by watcher program value (means watcher program)

  node_appends : (e : Expr) → Appends (level (kind_of_expr e)) → Appends (value e)
  node_appends e h = appends_same (value e) _ (value_of-out watcher program (operations program) e) (appends_bind (begins watcher e.node) _ (appends_begins watcher e.node) (λ _. h))

  name_appends : (kind : ExprNode) → IsTrue (is_name kind) → Appends (level kind)
  name_appends (ExprKind-F.Name name) h = appends_reads name
  name_appends _ h = cc

  attribute_appends : (of : Expr) (name : List ℕ) → Appends (level (kind_of_expr of)) → Appends (level (ExprKind-F.Attr of name))
  attribute_appends of name h = appends_bind (value of) _ (node_appends of h) (λ x. appends_bind _ read_found (appends_finds x.0 (out-Value x.0) name) appends_found)

  subject_appends : (kind : ExprNode) → IsTrue (is_subject kind) → Appends (level kind)
  subject_appends (ExprKind-F.Name name) h = appends_reads name
  subject_appends (ExprKind-F.Attr of name) h = attribute_appends of name (name_appends (kind_of_expr of) h)
  subject_appends _ h = cc

  module_appends : (kind : ExprNode) → IsTrue (names_module kind) → Appends (level kind)
  module_appends (ExprKind-F.Name name) h = appends_reads name
  module_appends _ h = cc

  class_appends : (kind : ExprNode) → IsTrue (is_class kind) → Appends (level kind)
  class_appends (ExprKind-F.Name name) h = appends_reads name
  class_appends (ExprKind-F.Attr of name) h = attribute_appends of name (module_appends (kind_of_expr of) h)
  class_appends _ h = cc

  literal_appends : (kind : ExprNode) → IsTrue (is_truth_or_none kind) → Appends (level kind)
  literal_appends ExprKind-F.NoneLit h = appends_gives _
  literal_appends (ExprKind-F.BoolLit b) h = appends_gives _
  literal_appends _ h = cc

  integer_appends : (kind : ExprNode) → IsTrue (is_integer kind) → Appends (level kind)
  integer_appends (ExprKind-F.IntLit n) h = appends_gives _
  integer_appends _ h = cc

  -- ---- displays

  module _ (part : Expr → Bool) (part_appends : (e : Expr) → IsTrue (part e) → Appends (value e)) where
    lists : (done : List Value) (items : List Expr) → IsTrue (list_all part items) → Appends (list_display value done items)
    lists done [] h = appends_bind _ _ (appends_performs (make_list done) (adds_list done)) (λ id. appends_gives (v.Ref id))
    lists done (e ∷ more) h = appends_bind (value e) _ (part_appends e (left_of (part e) _ h)) (λ x. lists (done ++ x.0 ∷ []) more (right_of (part e) _ h))

    tuples : (done : List Value) (items : List Expr) → IsTrue (list_all part items) → Appends (tuple_display value done items)
    tuples done [] h = appends_performs_value _ (adds_aside (tuple_of_parts done))
    tuples done (e ∷ more) h = appends_bind (value e) _ (part_appends e (left_of (part e) _ h)) (λ x. tuples (done ++ x.0 ∷ []) more (right_of (part e) _ h))

    dicts : (done : Pairs) (pairs : List (Expr × Expr)) → IsTrue (list_all (λ pair. part pair.0 && part pair.1) pairs) → Appends (dict_display value done pairs)
    dicts done [] h = appends_bind _ _ (appends_performs (make_dict done) (adds_dict done)) (λ id. appends_gives (v.Ref id))
    dicts done (pair ∷ more) h =
        let both = left_of (part pair.0 && part pair.1) _ h in
        appends_bind (value pair.0) _ (part_appends pair.0 (left_of (part pair.0) _ both)) (λ key. appends_bind (value pair.1) _ (part_appends pair.1 (right_of (part pair.0) _ both))
        (λ x. dicts (done ++ (key.0, x.0) ∷ []) more (right_of (part pair.0 && part pair.1) _ h)))

    display_level : (kind : ExprNode) → IsTrue (is_display_by part kind) → Appends (level kind)
    display_level ExprKind-F.NoneLit h = appends_gives _
    display_level (ExprKind-F.BoolLit b) h = appends_gives _
    display_level (ExprKind-F.IntLit n) h = appends_gives _
    display_level (ExprKind-F.StrLit text) h = appends_gives _
    display_level (ExprKind-F.Unary Minus e) h = appends_bind (value e) _ (node_appends e (integer_appends (kind_of_expr e) h)) (λ x. appends_performs_value _ (adds_aside (unary Minus x.0)))
    display_level (ExprKind-F.ListLit items) h = lists [] items h
    display_level (ExprKind-F.TupleLit parts) h = tuples [] parts h
    display_level (ExprKind-F.DictLit pairs) h = dicts [] pairs h
    display_level _ h = cc

  display_appends : (levels : ℕ) (e : Expr) → IsTrue (is_display levels e) → Appends (value e)
  display_appends (suc levels) e h = node_appends e (display_level (is_display levels) (display_appends levels) (kind_of_expr e) h)
  display_appends zero e h = cc

  -- ---- conditions

  comparison_appends : (op : CmpOp) (subject e : Expr) → Appends (value subject) → Appends (value e) → Appends (level (ExprKind-F.Compare subject ((op, e) ∷ [])))
  comparison_appends op subject e h k = appends_bind (value subject) _ h (λ x. appends_bind (value e) _ k (λ y. appends_bind _ _ (appends_asks (compare op x.0 y.0))
      (λ holds. appends_if holds _ _ (appends_pure _) (appends_pure _))))

  compared : (levels : ℕ) (subject : Expr) (others : List (CmpOp × Expr)) → IsTrue (is_comparison levels (kind_of_expr subject) others) → Appends (level (ExprKind-F.Compare subject others))
  compared levels subject ((Same, e) ∷ []) h =
      let at = is_subject (kind_of_expr subject) in
      comparison_appends Same subject e (node_appends subject (subject_appends (kind_of_expr subject) (left_of at _ h))) (node_appends e (literal_appends (kind_of_expr e) (right_of at _ h)))
  compared levels subject ((Eq, e) ∷ []) h =
      let at = is_subject (kind_of_expr subject) in
      comparison_appends Eq subject e (node_appends subject (subject_appends (kind_of_expr subject) (left_of at _ h))) (display_appends levels e (right_of at _ h))
  compared levels subject _ h = cc

  -- The name `isinstance` means the built-in function, since no variable has it.
  isinstance_meant : (f : Option FuncId) (frame : Frame) (space : Space) → f ≡ None → is_bound (codes "isinstance") frame.variables ≡ false → builtin_in (function_at program f) frame space (codes "isinstance") ≡ Some builtin.Isinstance
  isinstance_meant None frame space e h = ap (λ b. (if b || is_bound (codes "isinstance") (globals None space) then None else named built_functions (codes "isinstance"))) h
  isinstance_meant (Some f) frame space e h = cc

  class_asked : (plain : List Expr) (named : List (List ℕ × Expr)) → IsTrue (asks_class plain named) → Appends (plain_arguments watcher program value (means watcher program) (callee.Builtin builtin.Isinstance) [] plain named)
  class_asked (subject ∷ class ∷ []) [] h =
      let at = is_name (kind_of_expr subject) in
      appends_bind (value subject) _ (node_appends subject (name_appends (kind_of_expr subject) (left_of at _ h))) (λ x. appends_bind (value class) _ (node_appends class (class_appends (kind_of_expr class) (right_of at _ h)))
      (λ y. appends_bind _ _ (appends_asks (isinstance_row program (x.0 ∷ y.0 ∷ []))) (λ yes. appends_gives (v.Bool yes))))
  class_asked _ _ h = cc

  called_appends : (kind : ExprNode) (called : Expr) (args : Args) → IsTrue (calls_isinstance kind) → IsTrue (asks_class (out-Args args).plain (out-Args args).named) → Appends (calls_expr watcher program value (means watcher program) kind called args)
  called_appends (ExprKind-F.Name name) called args h k = appends_at (λ s. calls_meant watcher program value (means watcher program) (builtin_meant program s name) called args) (λ s test.
      subst (λ meant. Appends (calls_meant watcher program value (means watcher program) meant called args))
      (sym (subst (λ name. builtin_in (function_at program s.frame.function) s.frame s.space name ≡ Some builtin.Isinstance) (sym ((bytes_eq-Decides name (codes "isinstance")).0 h)) (isinstance_meant s.frame.function s.frame s.space test.0 test.1)))
      (appends_bind (begins watcher called.node) _ (appends_begins watcher called.node) (λ _. class_asked (out-Args args).plain (out-Args args).named k)))
  called_appends _ called args h k = cc

  condition_appends : (levels : ℕ) (kind : ExprNode) → IsTrue (is_condition levels kind) → Appends (level kind)
  condition_appends levels (ExprKind-F.Compare subject others) h = compared levels subject others h
  condition_appends levels (ExprKind-F.Call called args) h =
      let at = calls_isinstance (kind_of_expr called) in called_appends (kind_of_expr called) called args (left_of at _ h) (right_of at _ h)
  condition_appends levels _ h = cc

  -- ---- assertions

  fails_appends : Appends (fails watcher program value (means watcher program) [])
  fails_appends = appends_if (nat_le (depth_over []) tuple_limit) _ _ (appends_bind _ _ (appends_makes (Built AssertionError) (Some (measured []))) (λ id. appends_stop (Raised id))) (appends_stop (Left construct.TupleDepth))

  statement_appends : (levels : ℕ) (node : NodeId) (kind : StmtKind-F StmtKind Clause Stmt) → IsTrue (is_assertion_by levels kind) → Appends (does_by watcher program value (means watcher program) node kind)
  statement_appends levels node (StmtKind-F.Assert condition None) h = appends_bind (value condition) _ (node_appends condition (condition_appends levels (kind_of_expr condition) h))
      (λ x. appends_bind _ _ (appends_tests x.0) (λ outcome. appends_bind _ _ (appends_decides watcher condition.node x.1 outcome) (λ _. appends_if outcome passes (fails watcher program value (means watcher program) []) (appends_pure nothing) fails_appends)))
  statement_appends levels node _ h = cc

  assertion_appends : (levels : ℕ) (stmt : Stmt) → IsTrue (is_assertion levels stmt) → Appends (means watcher program stmt)
  assertion_appends levels stmt h = appends_same (means watcher program stmt) _ (means-out watcher program (operations program) stmt)
      (appends_bind (begins watcher stmt.node) _ (appends_begins watcher stmt.node) (λ _. statement_appends levels stmt.node (kind_of_stmt stmt) h))

  cut_longer : (s t : State World W) → Longer s t → cut_back W s t ≡ s
  cut_longer s t h = rw h.frame (rw h.space (rw h.depth (rw h.seen (rw h.objects.same (rw (take_front s.objects h.objects.added) refl)))))

  pub assertion_changes_nothing : (levels : ℕ) (stmt : Stmt) (s : State World W) → IsTrue (is_assertion levels stmt) → IsOfTest W s → cut_back W s (means watcher program stmt s).1 ≡ s
  assertion_changes_nothing levels stmt s h test = cut_longer s _ ((assertion_appends levels stmt h).longer s test)
