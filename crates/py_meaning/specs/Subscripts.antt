-- Subscriptions and slicings (Language Reference 6.3.2 and 6.3.3; the manual, "Common Sequence Operations").
use Rattle.std.specs.Prelude.{ℕ, ◌-◌, ℤ, if◌then◌else◌, ◌||◌, List, [], ◌∷◌, length, take, drop, Option, Some, None}
use Rattle.pyn_base.specs.declared.class.BuiltClass.TheVariants.{TypeError, IndexError}
use Rattle.pyn_base.specs.declared.construct.Construct.TheVariants as construct
use Rattle.pyn_base.specs.declared.ids.ObjId.{ObjId}
use Rattle.py_meaning.specs.declared.object.Object.TheVariants as object
use Rattle.py_meaning.specs.declared.object.ObjKind.{ObjKind}
use Rattle.py_meaning.specs.declared.object.ObjKind.TheVariants as kind
use Rattle.py_meaning.specs.declared.value.Value.{Value, Value-F, out-Value}
use Rattle.py_meaning.specs.declared.value.Value.TheVariants as value
use Rattle.py_meaning.specs.Steps.{Costing, Change, aside, answering, done, raises, leaves, costs, ◌>>=◌}
use Rattle.py_meaning.specs.Values.{number_of, number_of_truth, is_view, at_place}
use Rattle.py_meaning.specs.Tuples.{new_tuple}
use Rattle.py_meaning.specs.Worlds.{World, object_at, elements}
use Rattle.py_meaning.specs.Operations.{kind_of, made, index_place, insert_place, list_set, list_remove_free, dict_get, dict_put, dict_delete}
use Rattle.py_meaning.specs.Sums.{as_value, is_list}

abbrev pub or_index_error : {A : Type 0} → Option A → Costing A
or_index_error None = raises IndexError
or_index_error (Some x) = done x

-- what is at an index, below 0 from the end
abbrev pub indexed : {A : Type 0} → List A → Option ℤ → Costing A
indexed xs None = raises TypeError
indexed xs (Some at) = or_index_error (at_place xs (index_place at (length xs)))

abbrev pub item_of_object : ObjId → ObjKind → Value → World → Costing Value
item_of_object id kind.List at world = indexed (elements world id) (number_of (out-Value at))
item_of_object id kind.Dict at world = dict_get id at world
item_of_object id (kind.Instance class) at world = raises TypeError

abbrev pub item_of : Value-F Value → Value → World → Costing Value
item_of (Value-F.Str s) at world = indexed s (number_of (out-Value at)) >>= (λ c. done (value.Str (c ∷ [])))
item_of (Value-F.Tuple tuple) at world = indexed tuple.parts (number_of (out-Value at))
item_of (Value-F.Ref id) at world = item_of_object id (kind_of (object_at world id)) at world
item_of (Value-F.Class class) at world = leaves construct.SubscriptOfAClass
item_of _ at world = raises TypeError

-- `x[i]`: of a list, tuple or string by an integer, of a dict by a key, at its cost.
abbrev pub get_item : Value → Value → World → Costing Value
get_item of at world = if is_view (out-Value of) || is_view (out-Value at) then leaves construct.View else item_of (out-Value of) at world

-- an operation on a list by an integer
abbrev pub at_number : {A : Type 0} → Option ℤ → (ℤ → Change World A) → Change World A
at_number None change = aside (raises TypeError)
at_number (Some n) change = change n

abbrev pub put_in_object : ObjId → ObjKind → Value → Value → Change World (Unit {0})
put_in_object id kind.List at new = at_number (number_of (out-Value at)) (λ n. list_set id n new)
put_in_object id kind.Dict at new = dict_put id at new
put_in_object id (kind.Instance class) at new = aside (raises TypeError)

abbrev pub put_in : Value-F Value → Value → Value → Change World (Unit {0})
put_in (Value-F.Ref id) at new world = put_in_object id (kind_of (object_at world id)) at new world
put_in _ at new world = raises TypeError

-- `x[i] = v`: of a list or a dict. What is stored may be anything.
abbrev pub put_item : Value → Value → Value → Change World (Unit {0})
put_item of at new = if is_view (out-Value of) || is_view (out-Value at) then aside (leaves construct.View) else put_in (out-Value of) at new

-- The cost comes first, also where the index is no number.
abbrev pub delete_in_list : ObjId → Value → Change World (Unit {0})
delete_in_list id at world = costs (length (elements world id)) (at_number (number_of (out-Value at)) (λ n. answering tt (list_remove_free id n)) world)

abbrev pub delete_in_object : ObjId → ObjKind → Value → Change World (Unit {0})
delete_in_object id kind.List at = delete_in_list id at
delete_in_object id kind.Dict at = answering tt (dict_delete id at)
delete_in_object id (kind.Instance class) at = aside (raises TypeError)

abbrev pub delete_in : Value-F Value → Value → Change World (Unit {0})
delete_in (Value-F.Ref id) at world = delete_in_object id (kind_of (object_at world id)) at world
delete_in _ at world = raises TypeError

-- `del x[i]`: a list pays a step for each element, a dict the key and a step for each pair.
abbrev pub delete_item : Value → Value → Change World (Unit {0})
delete_item of at = if is_view (out-Value of) || is_view (out-Value at) then aside (leaves construct.View) else delete_in (out-Value of) at

-- A bound of a slice: a number, or None where it isn't given. Anything else is none.
abbrev pub bound : Value-F Value → Option (Option ℤ)
bound Value-F.None = Some None
bound (Value-F.Bool b) = Some (Some (number_of_truth b))
bound (Value-F.Int n) = Some (Some n)
bound _ = None

-- The place of a bound among so many, clamped, or another where it isn't given.
abbrev pub bound_place : Option ℤ → ℕ → ℕ → ℕ
bound_place None count other = other
bound_place (Some n) count other = insert_place n count

abbrev pub cut : {A : Type 0} → Option ℤ → Option ℤ → List A → List A
cut low high xs = take (bound_place high (length xs) (length xs) - bound_place low (length xs) 0) (drop (bound_place low (length xs) 0) xs)

abbrev pub cut_text : List ℕ → Costing Value
cut_text s = costs (length s) (done (value.Str s))

abbrev pub cut_tuple : List Value → Costing Value
cut_tuple parts = costs (length parts) (new_tuple parts)

-- a new list
abbrev pub cut_list : List Value → Change World Value
cut_list items world = costs (length items) (done (as_value (made (object.List items) world)))

abbrev pub cut_ref : ObjId → Option ℤ → Option ℤ → Change World Value
cut_ref id low high world = if is_list (object_at world id) then cut_list (cut low high (elements world id)) world else raises TypeError

abbrev pub slice_of : Value-F Value → Option (Option ℤ) → Option (Option ℤ) → Change World Value
slice_of (Value-F.Class class) _ _ = aside (leaves construct.SubscriptOfAClass)
slice_of (Value-F.Str s) (Some low) (Some high) = aside (cut_text (cut low high s))
slice_of (Value-F.Tuple tuple) (Some low) (Some high) = aside (cut_tuple (cut low high tuple.parts))
slice_of (Value-F.Ref id) (Some low) (Some high) = cut_ref id low high
slice_of _ _ _ = aside (raises TypeError)

-- `x[a:b]`, at a step for each element of the result.
abbrev pub slice : Value → Value → Value → Change World Value
slice of low high = if is_view (out-Value of) || (is_view (out-Value low) || is_view (out-Value high)) then aside (leaves construct.View)
    else slice_of (out-Value of) (bound (out-Value low)) (bound (out-Value high))
