-- Blocks, decisions and calls keep the rule where their parts do.
use Rattle.std.proofs.Common.{Bool, List, None, Option, Some, [], false, nat_lt, refl, true, ℕ, ◌+◌, ◌||◌, ◌∷◌, ◌≡◌}
use Rattle.std.specs.List.{AllByRecursion}
use Rattle.std.specs.Prelude.{if◌then◌else◌, nat_le, slice_get}
use Rattle.pyn_base.specs.declared.class.BuiltClass.{BuiltClass}
use Rattle.pyn_base.specs.declared.class.ClassId.{ClassId}
use Rattle.pyn_base.specs.declared.class.ClassId.TheVariants.{Built, Own}
use Rattle.pyn_base.specs.declared.ids.FuncId.{FuncId}
use Rattle.pyn_base.specs.declared.ids.NodeId.{NodeId}
use Rattle.pyn_base.specs.declared.ids.ObjId.{ObjId}
use Rattle.py_syntax.specs.declared.expr.Expr.{Expr}
use Rattle.py_syntax.specs.declared.stmt.Stmt.{Stmt}
use Rattle.py_names.specs.Bound.{parameters}
use Rattle.py_meaning.specs.Methods.{call_method}
use Rattle.py_meaning.specs.Tuples.{depth_over, measured, tuple_limit}
use Rattle.py_meaning.specs.Worlds.{Attributes}
use Rattle.py_meaning.specs.declared.builtin.Builtin.{Builtin}
use Rattle.py_meaning.specs.declared.measured.Measured.{Measured}
use Rattle.py_meaning.specs.declared.value.Value.{Value, Value-F, out-Value}
use Rattle.py_meaning.specs.declared.value.Value.TheVariants as v
use Rattle.py_plain.specs.BuiltNames.{called_type}
use Rattle.py_plain.specs.Builtins.{calls_builtin}
use Rattle.py_plain.specs.Calls.{block, body, bound_arguments, call_limit, calls, calls_class, calls_function, calls_known, calls_type, calls_value, enters, initializes, inside, instantiates, instantiates_by, is_filled, makes_instance, or_no_defaults, within_depth, without_named}
use Rattle.py_plain.specs.Classes.{initializer, is_exception}
use Rattle.py_plain.specs.Decisions.{chooses, decided}
use Rattle.py_plain.specs.Program.{Function}
use Rattle.py_plain.specs.Runs.{Finding, gives, nothing, ◌>>=◌}
use Rattle.py_plain.specs.Tests.{Trail, recorder}
use Rattle.py_plain.specs.declared.run.Callee.{Callee}
use Rattle.py_plain.specs.declared.run.Callee.TheVariants as callee
use Rattle.goal_model.specs.declared.kind.GoalKind.{GoalKind}
use Rattle.goal_model.specs.declared.kind.GoalKind.TheVariants.{Branch, Entry}
use Rattle.goal_model.specs.declared.point.Point.TheVariants.{Decision}
use Rattle.goal_laws.proofs.Held.{Bodies, Fits, HeldExpr, HeldStmt, Parts, Placed}
use Rattle.goal_laws.proofs.Kept.{Does, Kept, always, kept_bind, kept_decides, kept_enters, kept_if, kept_then, quiet, quiet_bind, quiet_gives, quiet_makes, quiet_pure, quiet_raises, quiet_stop, quiet_tests, quiet_value}
use Rattle.goal_laws.proofs.QuietParts.{calls_base_quiet, initialized_quiet}
use Rattle.goal_laws.proofs.QuietValues.{calls_builtin_quiet}
use Rattle.goal_laws.proofs.Trails.{Grows, Reaches, Rule, grows_both, grows_none, reaches_grows}

module _ (r : Rule) (bodies : Bodies r) (value : Expr → Does Finding) (does : Stmt → Does Finding) (parts : Parts r value does) where
  pub block_kept : (f : Option FuncId) (t : Trail) (governor : GoalKind) (body : List Stmt) → AllByRecursion (HeldStmt r f) body → AllByRecursion (Placed r f governor) body → Reaches r f t governor → Kept r f t (block recorder r.program does body)
  block_kept f t governor [] h p reach = quiet r _ (quiet_pure nothing)
  block_kept f t governor (stmt ∷ more) h p reach = kept_bind r _ _ (parts.statements f t governor stmt h.0 p.0 reach)
      (λ u grown _. block_kept f u governor more h.1 p.1 (reaches_grows r f t u governor grown reach))

  module _ (f : Option FuncId) where
    -- a decision, where what governs it is reached
    decided_kept : (t : Trail) (node : NodeId) (line : ℕ) (governor : GoalKind) (p q : Does Finding) (x : Finding) → Fits r f (Decision node line governor) → Reaches r f t governor
        → ((u : Trail) → Grows t u → Reaches r f u (Branch node true) → Kept r f u p) → ((u : Trail) → Grows t u → Reaches r f u (Branch node false) → Kept r f u q) → Kept r f t (decided recorder node p q x)
    decided_kept t node line governor p q x fits reach h k = kept_bind r _ _ (quiet r _ (quiet_tests x.0))
        (λ u grown outcome. kept_decides r node x.1 outcome (λ _. if outcome then p else q)
        (λ w more. fits w (reaches_grows r f t w governor (grows_both t u w grown more) reach) x.1 outcome)
        (λ w more came. chosen outcome w (grows_both t u w grown more) came))
      where
        chosen : (outcome : Bool) (u : Trail) → Grows t u → Reaches r f u (Branch node outcome) → Kept r f u (if outcome then p else q)
        chosen true u grown came = h u grown came
        chosen false u grown came = k u grown came

    pub chooses_kept : (t : Trail) (line : ℕ) (governor : GoalKind) (test : Expr) (p q : Does Finding) → HeldExpr r f test → Fits r f (Decision test.node line governor) → Reaches r f t governor
        → ((u : Trail) → Grows t u → Reaches r f u (Branch test.node true) → Kept r f u p) → ((u : Trail) → Grows t u → Reaches r f u (Branch test.node false) → Kept r f u q) → Kept r f t (chooses recorder value test p q)
    chooses_kept t line governor test p q held fits reach h k = kept_bind r _ _ (always r _ (parts.values f test held))
        (λ u grown x. decided_kept u test.node line governor p q x fits (reaches_grows r f t u governor grown reach)
        (λ w more came. h w (grows_both t u w grown more) came) (λ w more came. k w (grows_both t u w grown more) came))

    -- ---- calls

    abbrev Keeps : {A : Type 0} → Does A → Type 0
    Keeps p = Kept r f [] p

    body_kept : (id : FuncId) (fn : Function) → slice_get r.program.functions id.0 ≡ Some fn → Kept r (Some id) [] (body recorder r.program does fn)
    body_kept id fn is =
        let b = bodies id fn is in
        kept_enters r id fn (block recorder r.program does fn.tree.body) is b.begins (λ u came. block_kept (Some id) u (Entry id) fn.tree.body b.held b.placed came)

    inside_kept : (id : FuncId) (fn : Function) (variables : Attributes) → slice_get r.program.functions id.0 ≡ Some fn → Keeps (inside recorder r.program does id fn variables)
    inside_kept id fn variables is = record {
      at = λ s e o grown.
          let ran = (body_kept id fn is).at (record s { frame = record { function = Some id; variables = variables; handled = [] }; depth = s.depth + 1 }) refl o (grows_none s.seen) in
          record { obeys = ran.obeys; grows = ran.grows; function = refl };
    }

    enters_kept : (id : FuncId) (fn : Function) (variables : Option Attributes) → slice_get r.program.functions id.0 ≡ Some fn → Keeps (enters recorder r.program does id fn variables)
    enters_kept id fn None is = quiet r _ (quiet_raises _)
    enters_kept id fn (Some variables) is = record { at = λ s e o grown. (kept_if r (nat_lt s.depth call_limit) _ _ (inside_kept id fn variables is) (quiet r _ (quiet_stop _))).at s e o grown }

    calls_known_kept : (id : FuncId) (fn : Option Function) (plain : List Value) (named : Attributes) → slice_get r.program.functions id.0 ≡ fn → Keeps (calls_known recorder r.program does id fn plain named)
    calls_known_kept id None plain named is = quiet r _ (quiet_stop _)
    calls_known_kept id (Some fn) plain named is = record { at = λ s e o grown. (enters_kept id fn (bound_arguments (parameters fn.tree) (or_no_defaults (slice_get s.space.defaults id.0)) plain named) is).at s e o grown }

    calls_function_kept : (id : FuncId) (plain : List Value) (named : Attributes) → Keeps (calls_function recorder r.program does id plain named)
    calls_function_kept id plain named = calls_known_kept id (slice_get r.program.functions id.0) plain named refl

    initializes_kept : (id : ObjId) (fn : FuncId) (plain : List Value) (named : Attributes) → Keeps (initializes recorder r.program does id fn plain named)
    initializes_kept id fn plain named = kept_then r _ _ (calls_function_kept fn (v.Ref id ∷ plain) named) (λ x. quiet r _ (initialized_quiet r.program id (out-Value x.0)))

    without_named_kept : (named : Attributes) (p : Does Finding) → Keeps p → Keeps (without_named named p)
    without_named_kept [] p h = h
    without_named_kept (argument ∷ more) p h = quiet r _ (quiet_stop _)

    within_depth_kept : (items : List Value) (p : Does Finding) → Keeps p → Keeps (within_depth items p)
    within_depth_kept items p h = kept_if r (nat_le (depth_over items) tuple_limit) _ _ h (quiet r _ (quiet_stop _))

    -- a new instance, and a reference to it
    made_kept : (class : ClassId) (args : Option (Measured Value)) → Keeps (makes_instance class args >>= (λ id. gives (v.Ref id)))
    made_kept class args = quiet r _ (quiet_bind _ _ (quiet_makes class args) (λ id. quiet_gives (v.Ref id)))

    instantiates_by_kept : (class : ClassId) (exception : Bool) (init : Option FuncId) (plain : List Value) (named : Attributes) → Keeps (instantiates_by recorder r.program does class exception init plain named)
    instantiates_by_kept class false None plain named = kept_if r (is_filled plain || is_filled named) _ _ (quiet r _ (quiet_raises _)) (made_kept class None)
    instantiates_by_kept class false (Some fn) plain named = kept_then r _ _ (quiet r _ (quiet_makes class None)) (λ id. initializes_kept id fn plain named)
    instantiates_by_kept class true None plain named = without_named_kept named _ (within_depth_kept plain _ (made_kept class (Some (measured plain))))
    instantiates_by_kept class true (Some fn) plain named = within_depth_kept plain _ (kept_then r _ _ (quiet r _ (quiet_makes class (Some (measured plain)))) (λ id. initializes_kept id fn plain named))

    pub instantiates_kept : (class : ClassId) (plain : List Value) (named : Attributes) → Keeps (instantiates recorder r.program does class plain named)
    instantiates_kept class plain named = instantiates_by_kept class (is_exception r.program class) (initializer r.program class) plain named

    builtin_kept : (builtin : Builtin) (plain : List Value) (named : Attributes) → Keeps (without_named named (calls_builtin r.program builtin plain))
    builtin_kept builtin plain named = without_named_kept named _ (quiet r _ (calls_builtin_quiet r.program builtin plain))

    calls_type_kept : (type : Option Builtin) (class : BuiltClass) (plain : List Value) (named : Attributes) → Keeps (calls_type recorder r.program does type class plain named)
    calls_type_kept None class plain named = instantiates_kept (Built class) plain named
    calls_type_kept (Some builtin) class plain named = builtin_kept builtin plain named

    calls_class_kept : (class : ClassId) (plain : List Value) (named : Attributes) → Keeps (calls_class recorder r.program does class plain named)
    calls_class_kept (Built class) plain named = calls_type_kept (called_type class) class plain named
    calls_class_kept (Own k) plain named = instantiates_kept (Own k) plain named

    calls_value_kept : (view : Value-F Value) (plain : List Value) (named : Attributes) → Keeps (calls_value recorder r.program does view plain named)
    calls_value_kept (Value-F.Func fn) plain named = calls_function_kept fn plain named
    calls_value_kept (Value-F.Class class) plain named = calls_class_kept class plain named
    calls_value_kept _ plain named = quiet r _ (quiet_raises _)

    pub calls_kept : (called : Callee) (plain : List Value) (named : Attributes) → Keeps (calls recorder r.program does called plain named)
    calls_kept (callee.Value x) plain named = calls_value_kept (out-Value x) plain named
    calls_kept (callee.Function fn) plain named = calls_function_kept fn plain named
    calls_kept (callee.Bound id fn) plain named = calls_function_kept fn (v.Ref id ∷ plain) named
    calls_kept (callee.Method receiver name) plain named = without_named_kept named _ (quiet r _ (quiet_value (call_method receiver name plain)))
    calls_kept (callee.Builtin builtin) plain named = builtin_kept builtin plain named
    calls_kept (callee.BaseInit id) plain named = quiet r _ (calls_base_quiet r.program id plain named)
