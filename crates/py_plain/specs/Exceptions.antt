-- Exceptions (Language Reference 4.3, 7.3, 7.8 and 8.4).
use Rattle.std.specs.Prelude.{ℕ, ◌-◌, Bool, true, false, if◌then◌else◌, List, [], ◌∷◌, ◌++◌, length, take, Option, Some, None, Ok, Err}
use Rattle.std.specs.List.{list_any}
use Rattle.std.specs.Option.{option_map, option_or}
use Rattle.pyn_base.specs.declared.class.BuiltClass.TheVariants.{AssertionError, TypeError}
use Rattle.pyn_base.specs.declared.class.ClassId.{ClassId}
use Rattle.pyn_base.specs.declared.class.ClassId.TheVariants.{Built}
use Rattle.pyn_base.specs.declared.construct.Construct.TheVariants as construct
use Rattle.pyn_base.specs.declared.ids.ObjId.{ObjId}
use Rattle.py_syntax.specs.declared.expr.Expr.{Expr}
use Rattle.py_syntax.specs.declared.stmt.Clause.{Clause, out-Clause}
use Rattle.py_syntax.specs.declared.stmt.Stmt.{Stmt}
use Rattle.py_meaning.specs.declared.object.ObjKind.{ObjKind}
use Rattle.py_meaning.specs.declared.object.ObjKind.TheVariants as kind
use Rattle.py_meaning.specs.declared.value.Value.{Value, Value-F, out-Value}
use Rattle.py_meaning.specs.declared.value.Value.TheVariants as v
use Rattle.py_meaning.specs.Methods.{named}
use Rattle.py_meaning.specs.Operations.{kind_of}
use Rattle.py_meaning.specs.Tuples.{measured}
use Rattle.py_meaning.specs.Worlds.{object_at}
use Rattle.py_plain.specs.declared.judged.Judged.TheVariants as j
use Rattle.py_plain.specs.declared.run.Abrupt.TheVariants.{Raised, OutOfSteps, Left}
use Rattle.py_plain.specs.declared.state.Space.{Space}
use Rattle.py_plain.specs.BuiltNames.{built_classes}
use Rattle.py_plain.specs.Calls.{block, instantiates, makes_instance, within_depth}
use Rattle.py_plain.specs.Classes.{class_of_object, derives, is_exception}
use Rattle.py_plain.specs.Decisions.{chooses}
use Rattle.py_plain.specs.Names.{binds, unbinds, lookup}
use Rattle.py_plain.specs.Nodes.{body_of_clause}
use Rattle.py_plain.specs.Program.{Program}
use Rattle.py_plain.specs.Runs.{Watcher, Outcome, Run, Finding, nothing, passes, stop, raises, begins, decides, after_end, ◌>>=◌, ◌>>◌}

-- ---- raising (7.8)

abbrev pub raises_object : {W : Type 0} → Value-F Value → Run W Finding
raises_object (Value-F.Ref id) = stop (Raised id)
raises_object _ = raises TypeError

abbrev pub last_of : {A : Type 0} → List A → Option A
last_of [] = None
last_of (x ∷ []) = Some x
last_of (x ∷ y ∷ more) = last_of (y ∷ more)

-- Acceptance has seen that `raise` alone stands in a clause.
abbrev pub raises_last : {W : Type 0} → Option ObjId → Run W Finding
raises_last None = stop (Left construct.BareRaise)
raises_last (Some id) = stop (Raised id)

abbrev pub reraises : {W : Type 0} → Run W Finding
reraises = λ s. raises_last (last_of s.frame.handled) s

-- ---- which clause handles an exception (8.4)

abbrev pub class_in_value : Value-F Value → Option ClassId
class_in_value (Value-F.Class class) = Some class
class_in_value _ = None

abbrev pub class_in : Option Value → Option ClassId
class_in None = None
class_in (Some x) = class_in_value (out-Value x)

-- a clause's class: the module's, or a built-in one
abbrev pub handled_class : Space → List ℕ → Option ClassId
handled_class space name = option_or (class_in (lookup name space.names)) (option_map Built (named built_classes name))

module _ (program : Program) where
  abbrev pub handles_class : ClassId → Option ClassId → Bool
  handles_class class None = false
  handles_class class (Some above) = derives program class above

  -- A clause without classes handles all; a subclass matches.
  abbrev pub handles : Space → ClassId → Option (List (List ℕ)) → Bool
  handles space class None = true
  handles space class (Some names) = list_any (λ name. handles_class class (handled_class space name)) names

-- ---- the frame in a clause

abbrev pub binds_as : {W : Type 0} → Option (List ℕ) → ObjId → Run W Finding
binds_as None id = passes
binds_as (Some name) id = binds name (v.Ref id)

abbrev pub unbinds_as : {W : Type 0} → Option (List ℕ) → Run W Finding
unbinds_as None = passes
unbinds_as (Some name) = unbinds name

abbrev pub enters_clause : {W : Type 0} → ObjId → Run W Finding
enters_clause id = λ s. (Ok nothing, record s { frame = record s.frame { handled = s.frame.handled ++ id ∷ [] } })

abbrev pub leaves_clause : {W : Type 0} → Run W Finding
leaves_clause = λ s. (Ok nothing, record s { frame = record s.frame { handled = take (length s.frame.handled - 1) s.frame.handled } })

-- The name after `as` is unbound on every way out.
abbrev pub after_clause : {W : Type 0} → Option (List ℕ) → Outcome Finding → Run W Finding
after_clause name end = leaves_clause >> (unbinds_as name >> (λ s. (end, s)))

-- ---- `finally`

-- an end of the whole run, after which nothing runs
abbrev pub is_final : Outcome Finding → Bool
is_final (Err OutOfSteps) = true
is_final (Err (Left construct)) = true
is_final _ = false

-- What came before a `finally` block counts where the block ends normally.
abbrev pub kept : {W : Type 0} → Outcome Finding → Outcome Finding → Run W Finding
kept before (Ok x) = λ s. (before, s)
kept before (Err why) = stop why

module _ {W : Type 0} (watcher : Watcher W) (program : Program) (value : Expr → Run W Finding) (does : Stmt → Run W Finding) where
  -- an exception class is called without arguments
  abbrev pub raises_class : ClassId → Run W Finding
  raises_class class = if is_exception program class then instantiates watcher program does class [] [] >>= (λ x. raises_object (out-Value x.0)) else raises TypeError

  abbrev pub raises_instance : ObjId → ObjKind → Run W Finding
  raises_instance id (kind.Instance class) = if is_exception program class then stop (Raised id) else raises TypeError
  raises_instance id _ = raises TypeError

  abbrev pub raises_value : Value-F Value → Run W Finding
  raises_value (Value-F.Class class) = raises_class class
  raises_value (Value-F.Ref id) = λ s. raises_instance id (kind_of (object_at s.objects id)) s
  raises_value _ = raises TypeError

  abbrev pub raise : Option Expr → Run W Finding
  raise None = reraises
  raise (Some e) = do
    x ← value e
    raises_value (out-Value x.0)

  -- ---- `assert` (7.3): the message is the argument, evaluated then

  abbrev pub fails : List Value → Run W Finding
  fails args = within_depth args (makes_instance (Built AssertionError) (Some (measured args)) >>= (λ id. stop (Raised id)))

  abbrev pub fails_with : Option Expr → Run W Finding
  fails_with None = fails []
  fails_with (Some e) = do
    x ← value e
    fails (x.0 ∷ [])

  abbrev pub assert : Expr → Option Expr → Run W Finding
  assert test message = chooses watcher value test passes (fails_with message)

  -- ---- `try` (8.4)

  abbrev pub maybe_block : Option (List Stmt) → Run W Finding
  maybe_block None = passes
  maybe_block (Some body) = block watcher program does body

  abbrev pub runs_clause : Clause → ObjId → Run W Finding
  runs_clause clause id = do
    binds_as (out-Clause clause).name id
    enters_clause id
    after_end (block watcher program does (body_of_clause clause)) (after_clause (out-Clause clause).name)

  -- A clause begins when its match is tried, and is a decision.
  abbrev pub matched : Clause → ObjId → Run W Finding → Bool → Run W Finding
  matched clause id others outcome = decides watcher (out-Clause clause).node (j.Plain outcome) outcome >> (if outcome then runs_clause clause id else others)

  abbrev pub tries_clauses : List Clause → ObjId → Run W Finding
  tries_clauses [] id = stop (Raised id)
  tries_clauses (clause ∷ more) id = begins watcher (out-Clause clause).node
      >> (λ s. matched clause id (tries_clauses more id) (handles program s.space (class_of_object (object_at s.objects id)) (out-Clause clause).classes) s)

  -- what follows the body
  abbrev pub after_body : List Clause → Option (List Stmt) → Outcome Finding → Run W Finding
  after_body clauses other (Ok x) = maybe_block other
  after_body clauses other (Err (Raised id)) = tries_clauses clauses id
  after_body clauses other (Err why) = stop why

  -- A `finally` block runs on every way out but those that end the whole run, and its own end replaces the one under way.
  abbrev pub finally : Option (List Stmt) → Outcome Finding → Run W Finding
  finally None before = λ s. (before, s)
  finally (Some body) before = if is_final before then (λ s. (before, s)) else after_end (block watcher program does body) (kept before)

  abbrev pub tries : List Stmt → List Clause → Option (List Stmt) → Option (List Stmt) → Run W Finding
  tries body clauses other last = after_end (after_end (block watcher program does body) (after_body clauses other)) (finally last)
