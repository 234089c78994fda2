-- Worlds: objects in the order in which they were made.
use Rattle.std.specs.Prelude.{ℕ, ◌-◌, ◌^◌, ℤ, pos, negsuc, int_le, Bool, true, false, ◌&&◌, not, nat_lt, List, [], length, map, slice_get, slice_index_or, slice_set, Option, Some, None}
use Rattle.std.specs.List.{list_all}
use Rattle.std.specs.Ordering.{int_eq}
use Rattle.pyn_base.specs.declared.ids.ObjId.{ObjId}
use Rattle.pyn_base.specs.declared.name.Name.{Name}
use Rattle.py_meaning.specs.declared.object.Object.{Object}
use Rattle.py_meaning.specs.declared.object.Object.TheVariants as object
use Rattle.py_meaning.specs.declared.measured.Measured.{Measured}
use Rattle.py_meaning.specs.declared.value.Value.{Value, Value-F, para-Value}
use Rattle.py_meaning.specs.declared.value.Value.TheVariants as value
use Rattle.py_meaning.specs.declared.value.View.{View}
use Rattle.py_meaning.specs.declared.value.View.TheVariants.{Range, Keys, Values, Items}
use Rattle.py_meaning.specs.Tuples.{depth, is_measured}

-- A reference is a place in the world. Making an object appends it.
abbrev pub World : Type 0
World = List Object

abbrev pub Pairs : Type 0
Pairs = List (Value × Value)

abbrev pub Attributes : Type 0
Attributes = List (Name × Value)

-- The object that a reference names. One that names nothing, which no sound value does, reads as an empty list.
abbrev pub or_nothing : Option Object → Object
or_nothing None = object.List []
or_nothing (Some found) = found

abbrev pub object_at : World → ObjId → Object
object_at world id = or_nothing (slice_get world id.0)

abbrev pub elements_of : Object → List Value
elements_of (object.List items) = items
elements_of _ = []

abbrev pub pairs_of : Object → Pairs
pairs_of (object.Dict pairs changes) = pairs
pairs_of _ = []

abbrev pub attributes_of : Object → Attributes
attributes_of (object.Instance class attributes args) = attributes
attributes_of _ = []

-- what a list, a dict or an instance holds
abbrev pub elements : World → ObjId → List Value
elements world id = elements_of (object_at world id)

abbrev pub pairs : World → ObjId → Pairs
pairs world id = pairs_of (object_at world id)

abbrev pub attributes : World → ObjId → Attributes
attributes world id = attributes_of (object_at world id)

abbrev pub with_object : World → ObjId → Object → World
with_object world id new = slice_set world id.0 new

-- Soundness. Of the world it asks only how many objects there are, and which of them are dicts.

abbrev pub is_dict : Object → Bool
is_dict (object.Dict pairs changes) = true
is_dict _ = false

abbrev pub dicts : World → List Bool
dicts world = map is_dict world

abbrev pub within_machine : ℤ → Bool
within_machine n = int_le (negsuc (2 ^ 61 - 1)) n && int_le n (pos (2 ^ 61))

abbrev pub sound_view : List Bool → View → Bool
sound_view marks (Range start stop step) = within_machine start && within_machine stop && within_machine step && not (int_eq step (pos 0))
sound_view marks (Keys dict) = slice_index_or marks dict.0 false
sound_view marks (Values dict) = slice_index_or marks dict.0 false
sound_view marks (Items dict) = slice_index_or marks dict.0 false

-- At one level, from what is found of a tuple's parts: each reference names an object, each view of a dict a dict, and a tuple's
-- number is right and within the limit.
abbrev pub sound_by : {A : Type 0} → (A → Bool) → (A → ℕ) → List Bool → Value-F A → Bool
sound_by is_sound depth_of marks (Value-F.Tuple tuple) = list_all is_sound tuple.parts && is_measured tuple.depth (map depth_of tuple.parts)
sound_by is_sound depth_of marks (Value-F.Ref id) = nat_lt id.0 (length marks)
sound_by is_sound depth_of marks (Value-F.View view) = sound_view marks view
sound_by is_sound depth_of marks _ = true

-- the same at every level
unfoldable pub sound : List Bool → Value → Bool
sound marks = para-Value Bool (sound_by (λ part. part.1) (λ part. depth part.0) marks)

-- The arguments of an exception are a tuple.
abbrev pub sound_args : List Bool → Option (Measured Value) → Bool
sound_args marks None = true
sound_args marks (Some args) = sound marks (value.Tuple args)

abbrev pub sound_object : List Bool → Object → Bool
sound_object marks (object.List items) = list_all (sound marks) items
sound_object marks (object.Dict pairs changes) = list_all (λ pair. sound marks pair.0 && sound marks pair.1) pairs
sound_object marks (object.Instance class attributes args) = list_all (λ attribute. sound marks attribute.1) attributes && sound_args marks args

-- a world whose values are all sound for it
abbrev pub sound_world : World → Bool
sound_world world = list_all (sound_object (dicts world)) world
