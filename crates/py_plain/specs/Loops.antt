-- Loops (Language Reference 8.2, 8.3 and 7.9 to 7.10).
use Rattle.std.specs.Prelude.{ℕ, zero, suc, ◌+◌, Bool, true, false, ◌==◌, nat_lt, if◌then◌else◌, pos, ◌+ℤ◌, ◌*ℤ◌, List, [], ◌∷◌, Option, Some, None, Ok, Err, slice_get}
use Rattle.std.specs.Option.{option_map}
use Rattle.pyn_base.specs.declared.class.BuiltClass.TheVariants.{TypeError, RuntimeError}
use Rattle.pyn_base.specs.declared.construct.Construct.TheVariants as construct
use Rattle.pyn_base.specs.declared.ids.NodeId.{NodeId}
use Rattle.pyn_base.specs.declared.ids.ObjId.{ObjId}
use Rattle.py_syntax.specs.declared.expr.Expr.{Expr}
use Rattle.py_syntax.specs.declared.stmt.Stmt.{Stmt}
use Rattle.py_meaning.specs.declared.object.ObjKind.{ObjKind}
use Rattle.py_meaning.specs.declared.object.ObjKind.TheVariants as kind
use Rattle.py_meaning.specs.declared.value.Value.{Value, Value-F, out-Value}
use Rattle.py_meaning.specs.declared.value.Value.TheVariants as v
use Rattle.py_meaning.specs.declared.value.View.{View}
use Rattle.py_meaning.specs.declared.value.View.TheVariants as view
use Rattle.py_meaning.specs.Operations.{kind_of, size_of, key_changes_of}
use Rattle.py_meaning.specs.Tuples.{tuple}
use Rattle.py_meaning.specs.Values.{range_length}
use Rattle.py_meaning.specs.Walk.{gives_new_tuples, shallow}
use Rattle.py_meaning.specs.Worlds.{World, object_at, elements, pairs}
use Rattle.py_plain.specs.declared.judged.Judged.TheVariants as j
use Rattle.py_plain.specs.declared.run.Abrupt.TheVariants.{Broke, Continued, OutOfSteps, Left}
use Rattle.py_plain.specs.declared.run.Walk.{Walk}
use Rattle.py_plain.specs.Assignments.{binds_names}
use Rattle.py_plain.specs.Calls.{block}
use Rattle.py_plain.specs.Decisions.{chooses}
use Rattle.py_plain.specs.Program.{Program}
use Rattle.py_plain.specs.Runs.{Watcher, Outcome, Run, Finding, passes, pure, stop, raises, takes, decides, after_end, ◌>>=◌, ◌>>◌}

-- after a turn of a loop: its end, or the next
abbrev pub after_turn : {W : Type 0} → Run W Finding → Outcome Finding → Run W Finding
after_turn again (Ok x) = again
after_turn again (Err Continued) = again
after_turn again (Err Broke) = passes
after_turn again (Err other) = stop other

-- ---- what a `for` walks: one element at a time, of what is there at that turn

-- the dict whose keys a walk follows
abbrev pub dict_in_object : ObjId → ObjKind → Option ObjId
dict_in_object id kind.Dict = Some id
dict_in_object id _ = None

abbrev pub dict_in_view : View → Option ObjId
dict_in_view (view.Range start end step) = None
dict_in_view (view.Keys dict) = Some dict
dict_in_view (view.Values dict) = Some dict
dict_in_view (view.Items dict) = Some dict

abbrev pub dict_walked : World → Value-F Value → Option ObjId
dict_walked world (Value-F.Ref id) = dict_in_object id (kind_of (object_at world id))
dict_walked world (Value-F.View view) = dict_in_view view
dict_walked world _ = None

abbrev pub pair_item : Value × Value → Value
pair_item pair = tuple (pair.0 ∷ pair.1 ∷ [])

abbrev pub element_of_object : World → ObjId → ObjKind → ℕ → Option Value
element_of_object world id kind.List at = slice_get (elements world id) at
element_of_object world id kind.Dict at = option_map (λ pair. pair.0) (slice_get (pairs world id) at)
element_of_object world id (kind.Instance class) at = None

abbrev pub element_of_view : World → View → ℕ → Option Value
element_of_view world (view.Range start end step) at = if nat_lt at (range_length start end step) then Some (v.Int (start +ℤ (pos at *ℤ step))) else None
element_of_view world (view.Keys dict) at = option_map (λ pair. pair.0) (slice_get (pairs world dict) at)
element_of_view world (view.Values dict) at = option_map (λ pair. pair.1) (slice_get (pairs world dict) at)
element_of_view world (view.Items dict) at = option_map pair_item (slice_get (pairs world dict) at)

-- the element at a place, if there is one now
abbrev pub element_at : World → Value-F Value → ℕ → Option Value
element_at world (Value-F.Str s) at = option_map (λ c. v.Str (c ∷ [])) (slice_get s at)
element_at world (Value-F.Tuple tuple) at = slice_get tuple.parts at
element_at world (Value-F.Ref id) at = element_of_object world id (kind_of (object_at world id)) at
element_at world (Value-F.View view) at = element_of_view world view at
element_at world _ at = None

abbrev pub is_walked_object : ObjKind → Bool
is_walked_object (kind.Instance class) = false
is_walked_object _ = true

abbrev pub is_walked : World → Value-F Value → Bool
is_walked world (Value-F.Str s) = true
is_walked world (Value-F.Tuple parts) = true
is_walked world (Value-F.Ref id) = is_walked_object (kind_of (object_at world id))
is_walked world (Value-F.View view) = true
is_walked world _ = false

abbrev pub size_at : World → Option ObjId → ℕ
size_at world None = 0
size_at world (Some dict) = size_of (object_at world dict)

abbrev pub changes_at : World → Option ObjId → ℕ
changes_at world None = 0
changes_at world (Some dict) = key_changes_of (object_at world dict)

abbrev pub walk_from_start : World → Value → Walk
walk_from_start world x = let dict = dict_walked world (out-Value x) in record { of = x; size = size_at world dict; changes = changes_at world dict; at = 0 }

-- A dict that has changed: another length raises, and other keys at the same length leave.
abbrev pub unchanged : {W : Type 0} → Walk → ℕ → ℕ → Run W (Unit {0})
unchanged walk size changes = if size == walk.size then (if changes == walk.changes then pure tt else stop (Left construct.DictChanged)) else raises RuntimeError

abbrev pub checks : {W : Type 0} → Walk → Run W (Unit {0})
checks walk = λ s. let dict = dict_walked s.objects (out-Value walk.of) in unchanged walk (size_at s.objects dict) (changes_at s.objects dict) s

-- an element that a view of items makes may be too deep a tuple
abbrev pub makes_element : {W : Type 0} → Bool → Value → Run W (Unit {0})
makes_element made x = if made then (if shallow (x ∷ []) then pure tt else stop (Left construct.TupleDepth)) else pure tt

module _ {W : Type 0} (watcher : Watcher W) (program : Program) (value : Expr → Run W Finding) (does : Stmt → Run W Finding) where
  -- ---- `while`: a turn is the test and, where it holds, the body

  abbrev pub while_turn : Run W Finding → Expr → List Stmt → Run W Finding
  while_turn again test body = chooses watcher value test (after_end (block watcher program does body) (after_turn again)) passes

  -- the turns, at most so many
  abbrev pub while_turns : ℕ → Expr → List Stmt → Run W Finding
  while_turns zero test body = stop OutOfSteps
  while_turns (suc k) test body = while_turn (while_turns k test body) test body

  -- Each turn takes a step, so there are no more turns than steps are left.
  abbrev pub while_loop : Expr → List Stmt → Run W Finding
  while_loop test body = λ s. while_turns s.left test body s

  -- ---- `for`: an element costs a step, then the decision is told, then names are bound

  abbrev pub for_element : NodeId → (Walk → Run W Finding) → List (List ℕ) → Bool → List Stmt → Walk → Option Value → Run W Finding
  for_element node again names is_tuple body walk None = decides watcher node (j.Plain false) false >> passes
  for_element node again names is_tuple body walk (Some x) = do
    takes 1
    makes_element (gives_new_tuples (out-Value walk.of)) x
    decides watcher node (j.Plain true) true
    binds_names is_tuple names x
    after_end (block watcher program does body) (after_turn (again record walk { at = walk.at + 1 }))

  abbrev pub for_turn : NodeId → (Walk → Run W Finding) → List (List ℕ) → Bool → List Stmt → Walk → Run W Finding
  for_turn node again names is_tuple body walk = checks walk >> (λ s. for_element node again names is_tuple body walk (element_at s.objects (out-Value walk.of) walk.at) s)

  abbrev pub for_turns : ℕ → NodeId → List (List ℕ) → Bool → List Stmt → Walk → Run W Finding
  for_turns zero node names is_tuple body walk = stop OutOfSteps
  for_turns (suc k) node names is_tuple body walk = for_turn node (λ next. for_turns k node names is_tuple body next) names is_tuple body walk

  -- Each turn but the last takes a step.
  abbrev pub for_walk : NodeId → List (List ℕ) → Bool → List Stmt → Walk → Run W Finding
  for_walk node names is_tuple body walk = λ s. for_turns (suc s.left) node names is_tuple body walk s

  abbrev pub for_value : NodeId → List (List ℕ) → Bool → List Stmt → Value → Run W Finding
  for_value node names is_tuple body x = λ s. (if is_walked s.objects (out-Value x) then for_walk node names is_tuple body (walk_from_start s.objects x) else raises TypeError) s

  abbrev pub for_loop : NodeId → List (List ℕ) → Bool → Expr → List Stmt → Run W Finding
  for_loop node names is_tuple e body = do
    x ← value e
    for_value node names is_tuple body x.0
