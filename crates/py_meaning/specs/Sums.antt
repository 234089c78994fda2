-- What `+` gives (the manual, "Common Sequence Operations"; Language Reference 6.7).
use Rattle.std.specs.Prelude.{ℕ, ◌+◌, ℤ, ◌+ℤ◌, Bool, true, false, if◌then◌else◌, ◌||◌, ◌&&◌, List, ◌++◌, length, Option, Some, None}
use Rattle.pyn_base.specs.Int.{in_range}
use Rattle.pyn_base.specs.declared.class.BuiltClass.TheVariants.{TypeError}
use Rattle.pyn_base.specs.declared.construct.Construct.TheVariants as construct
use Rattle.pyn_base.specs.declared.ids.ObjId.{ObjId}
use Rattle.py_meaning.specs.declared.object.Object.{Object}
use Rattle.py_meaning.specs.declared.object.Object.TheVariants as object
use Rattle.py_meaning.specs.declared.value.Value.{Value, Value-F, out-Value}
use Rattle.py_meaning.specs.declared.value.Value.TheVariants as value
use Rattle.py_meaning.specs.Steps.{Costing, Change, aside, done, raises, leaves, costs}
use Rattle.py_meaning.specs.Values.{number_of, is_view}
use Rattle.py_meaning.specs.Tuples.{new_tuple}
use Rattle.py_meaning.specs.Worlds.{World, object_at, elements}
use Rattle.py_meaning.specs.Operations.{made}

abbrev pub is_list : Object → Bool
is_list (object.List items) = true
is_list _ = false

abbrev pub as_value : ObjId × World → Value × World
as_value made = (value.Ref made.0, made.1)

-- Lists are joined to a new one, at a step for each element of the result.
abbrev pub add_lists : List Value → List Value → Change World Value
add_lists xs ys world = costs (length xs + length ys) (done (as_value (made (object.List (xs ++ ys)) world)))

abbrev pub add_refs : ObjId → ObjId → Change World Value
add_refs i j world = if is_list (object_at world i) && is_list (object_at world j) then add_lists (elements world i) (elements world j) world else raises TypeError

abbrev pub add_texts : List ℕ → List ℕ → Costing Value
add_texts s t = costs (length s + length t) (done (value.Str (s ++ t)))

abbrev pub add_tuples : List Value → List Value → Costing Value
add_tuples xs ys = costs (length xs + length ys) (new_tuple (xs ++ ys))

abbrev pub or_range : Option ℤ → Costing Value
or_range None = leaves construct.IntegerRange
or_range (Some n) = done (value.Int n)

abbrev pub add_numbers : Option ℤ → Option ℤ → Costing Value
add_numbers (Some a) (Some b) = or_range (in_range (a +ℤ b))
add_numbers _ _ = raises TypeError

abbrev pub add_values : Value-F Value → Value-F Value → Change World Value
add_values (Value-F.Str s) (Value-F.Str t) = aside (add_texts s t)
add_values (Value-F.Tuple s) (Value-F.Tuple t) = aside (add_tuples s.parts t.parts)
add_values (Value-F.Ref i) (Value-F.Ref j) = add_refs i j
add_values a b = aside (add_numbers (number_of a) (number_of b))

-- Numbers are added; strings, tuples and lists are joined. Other kinds raise, and views leave.
abbrev pub add : Value → Value → Change World Value
add a b = if is_view (out-Value a) || is_view (out-Value b) then (λ world. leaves construct.View) else add_values (out-Value a) (out-Value b)
