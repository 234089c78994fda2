-- What is walked, and what counts as true (the manual, "Truth Value Testing", "Iterator Types", "Ranges").
use Rattle.std.specs.Prelude.{ℕ, zero, suc, ℤ, pos, ◌+ℤ◌, Bool, true, false, not, nat_le, if◌then◌else◌, ◌==◌, List, [], ◌∷◌, length, map, Option, Some, None, ◌||◌}
use Rattle.std.specs.List.{list_all}
use Rattle.std.specs.Ordering.{int_eq}
use Rattle.pyn_base.specs.declared.class.BuiltClass.TheVariants.{TypeError}
use Rattle.pyn_base.specs.declared.construct.Construct.TheVariants as construct
use Rattle.py_meaning.specs.declared.object.Object.{Object}
use Rattle.py_meaning.specs.declared.object.Object.TheVariants as object
use Rattle.py_meaning.specs.declared.value.Value.{Value, Value-F, out-Value}
use Rattle.py_meaning.specs.declared.value.Value.TheVariants as value
use Rattle.py_meaning.specs.declared.value.View.{View}
use Rattle.py_meaning.specs.declared.value.View.TheVariants.{Range, Keys, Values, Items}
use Rattle.py_meaning.specs.Steps.{Costing, costs, done, raises, leaves}
use Rattle.py_meaning.specs.Values.{range_length}
use Rattle.py_meaning.specs.Tuples.{depth, tuple_limit, tuple}
use Rattle.py_meaning.specs.Worlds.{World, Pairs, object_at, pairs}

abbrev pub is_filled : {A : Type 0} → List A → Bool
is_filled [] = false
is_filled (x ∷ xs) = true

abbrev pub object_truth : Object → Bool
object_truth (object.List items) = is_filled items
object_truth (object.Dict pairs changes) = is_filled pairs
object_truth (object.Instance class attributes args) = true

abbrev pub view_truth : World → View → Bool
view_truth world (Range start stop step) = not (range_length start stop step == 0)
view_truth world (Keys dict) = is_filled (pairs world dict)
view_truth world (Values dict) = is_filled (pairs world dict)
view_truth world (Items dict) = is_filled (pairs world dict)

abbrev pub truth_by : World → Value-F Value → Bool
truth_by world Value-F.None = false
truth_by world (Value-F.Bool b) = b
truth_by world (Value-F.Int n) = not (int_eq n (pos 0))
truth_by world (Value-F.Str s) = is_filled s
truth_by world (Value-F.Tuple tuple) = is_filled tuple.parts
truth_by world (Value-F.Ref id) = object_truth (object_at world id)
truth_by world (Value-F.View view) = view_truth world view
truth_by world _ = true

-- False are None, False, 0 and everything of length 0.
abbrev pub truth : World → Value → Bool
truth world x = truth_by world (out-Value x)

-- so many integers, each by the step more than the one before
abbrev pub counted : ℤ → ℤ → ℕ → List Value
counted start step zero = []
counted start step (suc count) = value.Int start ∷ counted (start +ℤ step) step count

-- each character as a string of its own
abbrev pub characters_of : List ℕ → List Value
characters_of s = map (λ c. value.Str (c ∷ [])) s

abbrev pub keys_of : Pairs → List Value
keys_of pairs = map (λ pair. pair.0) pairs

abbrev pub values_of : Pairs → List Value
values_of pairs = map (λ pair. pair.1) pairs

-- each pair as a tuple
abbrev pub items_of : Pairs → List Value
items_of pairs = map (λ pair. tuple (pair.0 ∷ pair.1 ∷ [])) pairs

abbrev pub walked_object : Object → Option (List Value)
walked_object (object.List items) = Some items
walked_object (object.Dict pairs changes) = Some (keys_of pairs)
walked_object (object.Instance class attributes args) = None

abbrev pub walked_view : World → View → List Value
walked_view world (Range start stop step) = counted start step (range_length start stop step)
walked_view world (Keys dict) = keys_of (pairs world dict)
walked_view world (Values dict) = values_of (pairs world dict)
walked_view world (Items dict) = items_of (pairs world dict)

abbrev pub walked_by : World → Value-F Value → Option (List Value)
walked_by world (Value-F.Str s) = Some (characters_of s)
walked_by world (Value-F.Tuple tuple) = Some tuple.parts
walked_by world (Value-F.Ref id) = walked_object (object_at world id)
walked_by world (Value-F.View view) = Some (walked_view world view)
walked_by world _ = None

-- The elements of what is walked: a dict gives its keys, a string its characters.
abbrev pub walked : World → Value → Option (List Value)
walked world x = walked_by world (out-Value x)

abbrev pub shallow : List Value → Bool
shallow items = list_all (λ item. nat_le (depth item) tuple_limit) items

abbrev pub gives_new_tuples : Value-F Value → Bool
gives_new_tuples (Value-F.View (Items dict)) = true
gives_new_tuples _ = false

-- An element that a view of items makes may be too deep a tuple. Other elements are values that were there.
abbrev pub taken : Bool → List Value → Costing (List Value)
taken made items = if not made || shallow items then done items else leaves construct.TupleDepth

abbrev pub walk_over : Bool → Option (List Value) → Costing (List Value)
walk_over made None = raises TypeError
walk_over made (Some items) = costs (length items) (taken made items)

-- All elements are taken at once, a step for each.
abbrev pub walk : World → Value → Costing (List Value)
walk world x = walk_over (gives_new_tuples (out-Value x)) (walked world x)
