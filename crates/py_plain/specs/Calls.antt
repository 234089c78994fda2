-- Calls (Language Reference 6.3.4, 8.7 and 3.2, "Callable types").
use Rattle.std.specs.Prelude.{ℕ, ◌+◌, ◌-◌, Bool, true, false, ◌&&◌, ◌||◌, not, nat_lt, nat_le, if◌then◌else◌, List, [], ◌∷◌, ◌++◌, length, zip, Option, Some, None, Ok, Err, slice_get, bytes_eq, codes}
use Rattle.pyn_base.specs.declared.class.BuiltClass.{BuiltClass}
use Rattle.pyn_base.specs.declared.class.BuiltClass.TheVariants.{TypeError}
use Rattle.pyn_base.specs.declared.class.ClassId.{ClassId}
use Rattle.pyn_base.specs.declared.class.ClassId.TheVariants.{Built, Own}
use Rattle.pyn_base.specs.declared.construct.Construct.TheVariants as construct
use Rattle.pyn_base.specs.declared.ids.FuncId.{FuncId}
use Rattle.pyn_base.specs.declared.ids.ObjId.{ObjId}
use Rattle.py_syntax.specs.declared.stmt.Stmt.{Stmt}
use Rattle.py_meaning.specs.declared.builtin.Builtin.{Builtin}
use Rattle.py_meaning.specs.declared.object.ObjKind.{ObjKind}
use Rattle.py_meaning.specs.declared.object.ObjKind.TheVariants as kind
use Rattle.py_meaning.specs.declared.value.Value.{Value, Value-F, out-Value}
use Rattle.py_meaning.specs.declared.value.Value.TheVariants as v
use Rattle.py_meaning.specs.Methods.{is_among, call_method}
use Rattle.py_meaning.specs.Operations.{kind_of, make_instance, set_args}
use Rattle.py_meaning.specs.Tuples.{depth_over, tuple_limit, measured}
use Rattle.py_meaning.specs.declared.measured.Measured.{Measured}
use Rattle.py_meaning.specs.Walk.{truth}
use Rattle.py_meaning.specs.Worlds.{World, Attributes, object_at}
use Rattle.py_plain.specs.declared.judged.Judged.TheVariants as j
use Rattle.py_plain.specs.declared.run.Abrupt.TheVariants.{Returned, Left}
use Rattle.py_plain.specs.declared.run.Callee.{Callee}
use Rattle.py_plain.specs.declared.run.Callee.TheVariants as callee
use Rattle.py_plain.specs.declared.state.Frame.{Frame}
use Rattle.py_plain.specs.Attributes.{finds_above}
use Rattle.py_plain.specs.Builtins.{calls_builtin}
use Rattle.py_plain.specs.BuiltNames.{called_type}
use Rattle.py_plain.specs.Classes.{class_of_object, base_of_class, derives, is_exception, initializer}
use Rattle.py_plain.specs.Names.{lookup, is_bound, is_some, function_at}
use Rattle.py_names.specs.Bound.{parameters}
use Rattle.py_plain.specs.Program.{Function, Program}
use Rattle.py_plain.specs.Runs.{Watcher, Outcome, Ran, Run, Finding, nothing, passes, pure, stop, gives, raises, begins, performs_value, ◌>>=◌, ◌>>◌}

-- ---- binding arguments to parameters: what is bound so far, and what is left

abbrev pub with_named : List (List ℕ) → Attributes → Attributes → Option Attributes
with_named params done [] = Some done
with_named params done (argument ∷ more) = if is_among params argument.0 && not (is_bound argument.0 done) then with_named params (done ++ argument ∷ []) more else None

abbrev pub defaulted : Option Value → List ℕ → Attributes → Option Attributes
defaulted None name done = None
defaulted (Some x) name done = Some (done ++ (name, x) ∷ [])

-- what follows a binding that may fail
abbrev pub and_then : Option Attributes → (Attributes → Option Attributes) → Option Attributes
and_then None next = None
and_then (Some done) next = next done

abbrev pub with_defaults : Attributes → Attributes → List (List ℕ) → Option Attributes
with_defaults defaults done [] = Some done
with_defaults defaults done (name ∷ names) = if is_bound name done then with_defaults defaults done names
    else and_then (defaulted (lookup name defaults) name done) (λ bound. with_defaults defaults bound names)

-- The variables of a call: plain arguments first, then named ones, then defaults; none where these don't fit.
abbrev pub bound_arguments : List (List ℕ) → Attributes → List Value → Attributes → Option Attributes
bound_arguments params defaults plain named = if nat_le (length plain) (length params)
    then and_then (with_named params (zip params plain) named) (λ bound. with_defaults defaults bound params) else None

-- ---- functions

-- so many functions of the module may be active
abbrev pub call_limit : ℕ
call_limit = 200

-- A call gives what its body returned, and None at its end.
abbrev pub answer : World → Outcome Finding → Outcome Finding
answer world (Ok x) = Ok nothing
answer world (Err (Returned x)) = Ok (x, j.Plain (truth world x))
answer world (Err other) = Err other

-- back in the frame of the caller
abbrev pub leaves : {W : Type 0} → Frame → Ran W Finding → Ran W Finding
leaves caller r = (answer r.1.objects r.0, record r.1 { frame = caller; depth = r.1.depth - 1 })

abbrev pub or_no_defaults : Option Attributes → Attributes
or_no_defaults None = []
or_no_defaults (Some defaults) = defaults

-- ---- named arguments where none are taken

abbrev pub without_named : {W : Type 0} → Attributes → Run W Finding → Run W Finding
without_named [] next = next
without_named (argument ∷ more) next = stop (Left construct.KeywordArgument)

-- a tuple that may be made
abbrev pub within_depth : {W : Type 0} → List Value → Run W Finding → Run W Finding
within_depth parts next = if nat_le (depth_over parts) tuple_limit then next else stop (Left construct.TupleDepth)

abbrev pub is_filled : {A : Type 0} → List A → Bool
is_filled [] = false
is_filled (x ∷ xs) = true

-- an instance, and a reference to it
abbrev pub makes_instance : {W : Type 0} → ClassId → Option (Measured Value) → Run W ObjId
makes_instance class args = λ s. let made = make_instance class args s.objects in (Ok made.0, record s { objects = made.1 })

-- `__init__` must give None
abbrev pub initialized : {W : Type 0} → ObjId → Value-F Value → Run W Finding
initialized id Value-F.None = gives (v.Ref id)
initialized id _ = raises TypeError

module _ {W : Type 0} (watcher : Watcher W) (program : Program) where
  -- ---- `super().__init__` that reaches a built-in class

  abbrev pub initializes_base : ObjId → Bool → List Value → Attributes → Run W Finding
  initializes_base id true plain named = without_named named (within_depth plain (λ s. (Ok nothing, record s { objects = set_args id (measured plain) s.objects })))
  initializes_base id false plain named = if is_filled plain || is_filled named then raises TypeError else passes

  abbrev pub calls_base : ObjId → List Value → Attributes → Run W Finding
  calls_base id plain named = λ s. initializes_base id (is_exception program (class_of_object (object_at s.objects id))) plain named s

  -- ---- `super()` (the manual, "Built-in Functions")

  -- what is found above a class for an instance of it
  abbrev pub super_of_instance : ClassId → ObjId → ClassId → List ℕ → Run W Callee
  super_of_instance class id own name = if not (derives program own class) then raises TypeError else
      (if bytes_eq name (codes "__init__") && not (is_some (initializer program (base_of_class program class)))
      then pure (callee.BaseInit id) else finds_above program id own (base_of_class program class) name)

  abbrev pub super_of_object : ClassId → ObjId → ObjKind → List ℕ → Run W Callee
  super_of_object class id (kind.Instance own) name = super_of_instance class id own name
  super_of_object class id _ name = raises TypeError

  -- by the first parameter
  abbrev pub super_of : ClassId → Value-F Value → List ℕ → Run W Callee
  super_of class (Value-F.Ref id) name = λ s. super_of_object class id (kind_of (object_at s.objects id)) name s
  super_of class (Value-F.Class other) name = if derives program other class then stop (Left construct.SuperOfAClass) else raises TypeError
  super_of class _ name = raises TypeError

  abbrev pub first_parameter : List (List ℕ) → Attributes → Option Value
  first_parameter [] variables = None
  first_parameter (name ∷ names) variables = lookup name variables

  abbrev pub super_by : Option ℕ → Option Value → List ℕ → Run W Callee
  super_by (Some class) (Some x) name = super_of (Own class) (out-Value x) name
  super_by _ _ name = stop (Left construct.Super)

  abbrev pub super_in : Option Function → Attributes → List ℕ → Run W Callee
  super_in None variables name = stop (Left construct.Super)
  super_in (Some f) variables name = super_by f.owner (first_parameter (parameters f.tree) variables) name

  -- Acceptance has seen that it stands in a method, whose first parameter is never bound again.
  abbrev pub finds_super : List ℕ → Run W Callee
  finds_super name = λ s. super_in (function_at program s.frame.function) s.frame.variables name s

  -- ---- calls, by what the statements of a body mean

  module _ (does : Stmt → Run W Finding) where
    abbrev pub block : List Stmt → Run W Finding
    block [] = passes
    block (s ∷ more) = does s >> block more

    -- a function begins once its parameters are bound
    abbrev pub body : Function → Run W Finding
    body f = begins watcher f.tree.node >> block f.tree.body

    -- a function in a frame of its own
    abbrev pub inside : FuncId → Function → Attributes → Run W Finding
    inside id f variables = λ s. leaves s.frame (body f (record s { frame = record { function = Some id; variables = variables; handled = [] }; depth = s.depth + 1 }))

    abbrev pub enters : FuncId → Function → Option Attributes → Run W Finding
    enters id f None = raises TypeError
    enters id f (Some variables) = λ s. (if nat_lt s.depth call_limit then inside id f variables else stop (Left construct.CallDepth)) s

    abbrev pub calls_known : FuncId → Option Function → List Value → Attributes → Run W Finding
    calls_known id None plain named = stop (Left construct.UnknownName)
    calls_known id (Some f) plain named = λ s. enters id f (bound_arguments (parameters f.tree) (or_no_defaults (slice_get s.space.defaults id.0)) plain named) s

    abbrev pub calls_function : FuncId → List Value → Attributes → Run W Finding
    calls_function id plain named = calls_known id (slice_get program.functions id.0) plain named

    -- ---- classes (3.2, "Classes")

    abbrev pub initializes : ObjId → FuncId → List Value → Attributes → Run W Finding
    initializes id f plain named = calls_function f (v.Ref id ∷ plain) named >>= (λ x. initialized id (out-Value x.0))

    -- An exception takes any plain arguments, and keeps them.
    abbrev pub instantiates_by : ClassId → Bool → Option FuncId → List Value → Attributes → Run W Finding
    instantiates_by class false None plain named = if is_filled plain || is_filled named then raises TypeError else (makes_instance class None >>= (λ id. gives (v.Ref id)))
    instantiates_by class false (Some f) plain named = makes_instance class None >>= (λ id. initializes id f plain named)
    instantiates_by class true None plain named = without_named named (within_depth plain (makes_instance class (Some (measured plain)) >>= (λ id. gives (v.Ref id))))
    instantiates_by class true (Some f) plain named = within_depth plain (makes_instance class (Some (measured plain)) >>= (λ id. initializes id f plain named))

    abbrev pub instantiates : ClassId → List Value → Attributes → Run W Finding
    instantiates class plain named = instantiates_by class (is_exception program class) (initializer program class) plain named

    abbrev pub calls_type : Option Builtin → BuiltClass → List Value → Attributes → Run W Finding
    calls_type None class plain named = instantiates (Built class) plain named
    calls_type (Some builtin) class plain named = without_named named (calls_builtin program builtin plain)

    abbrev pub calls_class : ClassId → List Value → Attributes → Run W Finding
    calls_class (Built class) plain named = calls_type (called_type class) class plain named
    calls_class (Own k) plain named = instantiates (Own k) plain named

    -- ---- what is called (6.3.4)

    abbrev pub calls_value : Value-F Value → List Value → Attributes → Run W Finding
    calls_value (Value-F.Func f) plain named = calls_function f plain named
    calls_value (Value-F.Class class) plain named = calls_class class plain named
    calls_value _ plain named = raises TypeError

    abbrev pub calls : Callee → List Value → Attributes → Run W Finding
    calls (callee.Value x) plain named = calls_value (out-Value x) plain named
    calls (callee.Function f) plain named = calls_function f plain named
    calls (callee.Bound id f) plain named = calls_function f (v.Ref id ∷ plain) named
    calls (callee.Method receiver name) plain named = without_named named (performs_value (call_method receiver name plain))
    calls (callee.Builtin builtin) plain named = without_named named (calls_builtin program builtin plain)
    calls (callee.BaseInit id) plain named = calls_base id plain named
