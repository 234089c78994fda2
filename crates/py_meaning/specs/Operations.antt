-- What each call of a table of objects does to the world, one function a call.
use Rattle.std.specs.Prelude.{ℕ, ◌+◌, ◌-◌, min, ℤ, pos, negsuc, nat_lt, if◌then◌else◌, bytes_eq, List, [], ◌∷◌, ◌++◌, length, map, slice_get, slice_set, remove, Option, Some, None, reverse, ◌^◌}
use Rattle.std.specs.List.{position, insert, sum_by}
use Rattle.std.specs.Option.{option_map}
use Rattle.pyn_base.specs.declared.class.BuiltClass.TheVariants.{IndexError, KeyError}
use Rattle.pyn_base.specs.declared.class.ClassId.{ClassId}
use Rattle.pyn_base.specs.declared.ids.ObjId.{ObjId}
use Rattle.py_meaning.specs.declared.measured.Measured.{Measured}
use Rattle.py_meaning.specs.declared.object.Object.{Object}
use Rattle.py_meaning.specs.declared.object.Object.TheVariants as object
use Rattle.py_meaning.specs.declared.object.ObjKind.{ObjKind}
use Rattle.py_meaning.specs.declared.object.ObjKind.TheVariants as kind
use Rattle.py_meaning.specs.declared.op.Op.{Op}
use Rattle.py_meaning.specs.declared.op.Op.TheVariants as op
use Rattle.py_meaning.specs.declared.value.Value.{Value}
use Rattle.py_meaning.specs.Steps.{Costing, Change, done, raises, leaves, costs, ◌>>=◌}
use Rattle.py_meaning.specs.Lists.{with_second}
use Rattle.py_meaning.specs.Values.{at_place}
use Rattle.py_meaning.specs.Worlds.{World, Pairs, Attributes, object_at, elements, pairs, attributes, with_object}
use Rattle.py_meaning.specs.Keys.{as_key, all_keys, key_cost, key_place, value_of_key, one_change_more}

-- a new object goes last, and its place names it
abbrev pub made : Object → World → ObjId × World
made object world = (record { 0 = length world }, world ++ object ∷ [])

-- what changes one object changes the world there
abbrev pub on_object : {A : Type 0} → ObjId → Change Object A → Change World A
on_object id change world = change (object_at world id) >>= (λ made. done (made.0, with_object world id made.1))

-- Kinds, sizes and parts.

abbrev pub kind_of : Object → ObjKind
kind_of (object.List items) = kind.List
kind_of (object.Dict pairs changes) = kind.Dict
kind_of (object.Instance class attributes args) = kind.Instance class

abbrev pub size_of : Object → ℕ
size_of (object.List items) = length items
size_of (object.Dict pairs changes) = length pairs
size_of (object.Instance class attributes args) = length attributes

abbrev pub key_changes_of : Object → ℕ
key_changes_of (object.Dict pairs changes) = changes
key_changes_of _ = 0

abbrev pub args_of : Object → Option (Measured Value)
args_of (object.Instance class attributes args) = args
args_of _ = None

-- Lists (the manual, "Mutable Sequence Types"). Of an object of another kind nothing is done.

-- The place that an index means in a sequence of so many, below 0 from the end.
abbrev pub index_place : ℤ → ℕ → Option ℕ
index_place (pos at) count = if nat_lt at count then Some at else None
index_place (negsuc back) count = if nat_lt back count then Some (count - (back + 1)) else None

-- The same for an insertion: before the first is at the first, and after the last is at the end.
abbrev pub insert_place : ℤ → ℕ → ℕ
insert_place (pos at) count = min at count
insert_place (negsuc back) count = count - (back + 1)

abbrev pub list_get : ObjId → ℤ → World → Option Value
list_get list at world = at_place (elements world list) (index_place at (length (elements world list)))

abbrev pub make_list : List Value → Change World ObjId
make_list items world = costs (length items) (done (made (object.List items) world))

abbrev pub set_at : Value → List Value → Option ℕ → Costing (Unit {0} × Object)
set_at new items None = raises IndexError
set_at new items (Some at) = done (tt, object.List (slice_set items at new))

abbrev pub set_item : ℤ → Value → Change Object (Unit {0})
set_item at new (object.List items) = set_at new items (index_place at (length items))
set_item at new other = raises IndexError

abbrev pub taken_at : List Value → ℕ → Option Value → Costing (Value × Object)
taken_at items at None = raises IndexError
taken_at items at (Some item) = done (item, object.List (remove items at))

abbrev pub remove_at : List Value → Option ℕ → Costing (Value × Object)
remove_at items None = raises IndexError
remove_at items (Some at) = taken_at items at (slice_get items at)

abbrev pub remove_item : ℤ → Change Object Value
remove_item at (object.List items) = remove_at items (index_place at (length items))
remove_item at other = raises IndexError

abbrev pub inserted : ℤ → Value → Object → Object
inserted at new (object.List items) = object.List (insert items (insert_place at (length items)) new)
inserted at new other = other

-- a list with more items at its end
abbrev pub grown : List Value → Object → Object
grown more (object.List items) = object.List (items ++ more)
grown more other = other

abbrev pub turned : Object → Object
turned (object.List items) = object.List (reverse items)
turned other = other

abbrev pub list_set : ObjId → ℤ → Value → Change World (Unit {0})
list_set list at new = on_object list (set_item at new)

-- A write that costs nothing, for a caller that has paid; and the same at its cost.

abbrev pub list_insert_free : ObjId → ℤ → Value → World → World
list_insert_free list at new world = with_object world list (inserted at new (object_at world list))

abbrev pub list_insert : ObjId → ℤ → Value → Change World (Unit {0})
list_insert list at new world = costs (length (elements world list) + 1) (done (tt, list_insert_free list at new world))

abbrev pub list_extend_free : ObjId → List Value → World → World
list_extend_free list more world = with_object world list (grown more (object_at world list))

abbrev pub list_extend : ObjId → List Value → Change World (Unit {0})
list_extend list more world = costs (length more) (done (tt, list_extend_free list more world))

abbrev pub list_remove_free : ObjId → ℤ → Change World Value
list_remove_free list at = on_object list (remove_item at)

abbrev pub list_remove : ObjId → ℤ → Change World Value
list_remove list at world = costs (length (elements world list)) (list_remove_free list at world)

-- the last item
abbrev pub list_pop : ObjId → Change World Value
list_pop list world = costs 1 (list_remove_free list (negsuc 0) world)

abbrev pub list_reverse : ObjId → Change World (Unit {0})
list_reverse list world = costs (length (elements world list)) (done (tt, with_object world list (turned (object_at world list))))

-- a list with other items
abbrev pub set_elements : ObjId → List Value → World → World
set_elements list items world = with_object world list (object.List items)

-- Dicts (the manual, "Mapping Types"). A key's cost comes first, also where it is no key.

-- what follows where a value is a key, and its own answer where it is none
abbrev pub for_key : {A : Type 0} → Op (Unit {0}) → Costing A → Costing A
for_key (op.Done _) next = next
for_key (op.Raises class) next = raises class
for_key (op.Leaves construct) next = leaves construct
for_key op.OutOfSteps next = λ left. (op.OutOfSteps, left)
for_key op.Memory next = λ left. (op.Memory, left)

abbrev pub or_key_error : {A : Type 0} → Option A → Costing A
or_key_error None = raises KeyError
or_key_error (Some x) = done x

abbrev pub dict_get : ObjId → Value → World → Costing Value
dict_get dict key world = costs (key_cost key) (for_key (as_key world key) (or_key_error (value_of_key key (pairs world dict))))

abbrev pub put_at : Value → Value → Pairs → ℕ → Option ℕ → Object
put_at key value pairs changes None = object.Dict (pairs ++ (key, value) ∷ []) (one_change_more changes)
put_at key value pairs changes (Some at) = object.Dict (with_second pairs at value) changes

-- A later value for a key that is there keeps the place and the key; a new key goes last.
abbrev pub put_pair : Value → Value → Object → Object
put_pair key value (object.Dict pairs changes) = put_at key value pairs changes (key_place key pairs)
put_pair key value other = other

-- under what is a key
abbrev pub dict_put_free : ObjId → Value → Value → World → World
dict_put_free dict key new world = with_object world dict (put_pair key new (object_at world dict))

abbrev pub dict_put : ObjId → Value → Value → Change World (Unit {0})
dict_put dict key new world = costs (key_cost key) (for_key (as_key world key) (done (tt, dict_put_free dict key new world)))

abbrev pub taken_pair : Pairs → ℕ → ℕ → Option (Value × Value) → Costing (Value × Object)
taken_pair pairs changes at None = raises KeyError
taken_pair pairs changes at (Some pair) = done (pair.1, object.Dict (remove pairs at) (one_change_more changes))

abbrev pub delete_at : Pairs → ℕ → Option ℕ → Costing (Value × Object)
delete_at pairs changes None = raises KeyError
delete_at pairs changes (Some at) = taken_pair pairs changes at (slice_get pairs at)

abbrev pub delete_pair : Value → Change Object Value
delete_pair key (object.Dict pairs changes) = delete_at pairs changes (key_place key pairs)
delete_pair key other = raises KeyError

abbrev pub dict_delete_free : ObjId → Value → Change World Value
dict_delete_free dict key = on_object dict (delete_pair key)

abbrev pub dict_delete : ObjId → Value → Change World Value
dict_delete dict key world = costs (key_cost key + length (pairs world dict)) (for_key (as_key world key) (dict_delete_free dict key world))

abbrev pub put_all : Pairs → Object → Object
put_all [] dict = dict
put_all (pair ∷ pairs) dict = put_all pairs (put_pair pair.0 pair.1 dict)

-- All keys are paid for at once; then the first that is none raises or leaves; then the pairs are put in order.
abbrev pub make_dict : Pairs → Change World ObjId
make_dict pairs world = costs (sum_by (λ pair. key_cost pair.0) pairs) (for_key (all_keys (map (λ pair. as_key world pair.0) pairs))
    (done (made (put_all pairs (object.Dict [] 0)) world)))

-- A copy holds the same pairs, put one after another.
abbrev pub dict_copy : ObjId → Change World ObjId
dict_copy dict world = costs (length (pairs world dict)) (done (made (object.Dict (pairs world dict) (min (length (pairs world dict)) (2 ^ 64 - 1))) world))

-- Instances.

abbrev pub make_instance : ClassId → Option (Measured Value) → World → ObjId × World
make_instance class args world = made (object.Instance class [] args) world

abbrev pub attribute_place : List ℕ → Attributes → Option ℕ
attribute_place name attributes = position (λ attribute. bytes_eq attribute.0 name) attributes

-- an attribute of the instance alone
abbrev pub attr_get : ObjId → List ℕ → World → Option Value
attr_get instance name world = let held = attributes world instance in option_map (λ attribute. attribute.1) (at_place held (attribute_place name held))

abbrev pub with_attribute : List ℕ → Value → Attributes → Option ℕ → Attributes
with_attribute name new attributes None = attributes ++ (name, new) ∷ []
with_attribute name new attributes (Some at) = with_second attributes at new

-- An attribute keeps the place at which it was first set.
abbrev pub set_attribute : List ℕ → Value → Object → Object
set_attribute name new (object.Instance class attributes args) = object.Instance class (with_attribute name new attributes (attribute_place name attributes)) args
set_attribute name new other = other

abbrev pub attr_set : ObjId → List ℕ → Value → World → World
attr_set instance name new world = with_object world instance (set_attribute name new (object_at world instance))

abbrev pub with_args : Measured Value → Object → Object
with_args args (object.Instance class attributes old) = object.Instance class attributes (Some args)
with_args args other = other

abbrev pub set_args : ObjId → Measured Value → World → World
set_args instance args world = with_object world instance (with_args args (object_at world instance))

-- Clearing a dict that wasn't empty is one change of its keys.
abbrev pub cleared_keys : Pairs → ℕ → ℕ
cleared_keys [] changes = changes
cleared_keys (pair ∷ pairs) changes = one_change_more changes

abbrev pub cleared : Object → Object
cleared (object.List items) = object.List []
cleared (object.Dict pairs changes) = object.Dict [] (cleared_keys pairs changes)
cleared (object.Instance class attributes args) = object.Instance class attributes args

abbrev pub clear : ObjId → World → World
clear id world = with_object world id (cleared (object_at world id))
