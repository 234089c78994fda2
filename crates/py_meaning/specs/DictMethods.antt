-- The methods of dicts (the manual, "Mapping Types"), one equation a row.
use Rattle.std.specs.Prelude.{List, [], ◌∷◌, length}
use Rattle.pyn_base.specs.declared.class.BuiltClass.TheVariants.{TypeError}
use Rattle.pyn_base.specs.declared.construct.Construct.TheVariants as construct
use Rattle.pyn_base.specs.declared.ids.ObjId.{ObjId}
use Rattle.py_meaning.specs.declared.builtin.DictMethod.{DictMethod}
use Rattle.py_meaning.specs.declared.builtin.DictMethod.TheVariants as method
use Rattle.py_meaning.specs.declared.op.Op.{Op}
use Rattle.py_meaning.specs.declared.op.Op.TheVariants as op
use Rattle.py_meaning.specs.declared.value.Value.{Value}
use Rattle.py_meaning.specs.declared.value.Value.TheVariants as value
use Rattle.py_meaning.specs.declared.value.View.TheVariants.{Keys, Values, Items}
use Rattle.py_meaning.specs.Steps.{Costing, Change, aside, done, raises, costs, ◌>>=◌}
use Rattle.py_meaning.specs.Caught.{read_as, where_missing}
use Rattle.py_meaning.specs.Worlds.{World, Pairs, pairs}
use Rattle.py_meaning.specs.Operations.{dict_get, dict_delete, dict_copy, dict_put_free, clear}
use Rattle.py_meaning.specs.Sums.{as_value}

-- the value of a key, or another
abbrev pub get_or : ObjId → Value → Value → World → Costing Value
get_or dict key other world = read_as (where_missing other) (dict_get dict key world)

-- the value of a key, and the world as it is
abbrev pub with_value : World → Op Value → Op (Value × World)
with_value world (op.Done found) = op.Done (found, world)
with_value world (op.Raises class) = op.Raises class
with_value world (op.Leaves construct) = op.Leaves construct
with_value world op.OutOfSteps = op.OutOfSteps
with_value world op.Memory = op.Memory

-- The value of a key; under a missing one another is put, at no further cost.
abbrev pub set_default : ObjId → Value → Value → Change World Value
set_default dict key other world = read_as (λ answer. where_missing (other, dict_put_free dict key other world) (with_value world answer)) (dict_get dict key world)

-- What isn't hashable is a missing key to an empty dict of Python's, which isn't looked up in.
abbrev pub unhashable_leaves : {A : Type 0} → Pairs → Op A → Op A
unhashable_leaves [] (op.Raises TypeError) = op.Leaves construct.UnhashableKey
unhashable_leaves _ answer = answer

-- removes a key's pair and gives its value
abbrev pub pop_key : ObjId → Value → Change World Value
pop_key dict key world = read_as (unhashable_leaves (pairs world dict)) (dict_delete dict key world)

-- the same, or another value where the key is missing
abbrev pub pop_or : ObjId → Value → Value → Change World Value
pop_or dict key other world = read_as (where_missing (other, world)) (pop_key dict key world)

abbrev pub clear_dict : ObjId → Change World Value
clear_dict dict world = costs (length (pairs world dict)) (done (value.None, clear dict world))

abbrev pub copy_dict : ObjId → Change World Value
copy_dict dict world = dict_copy dict world >>= (λ new. done (as_value new))

abbrev pub dict_method : DictMethod → ObjId → List Value → Change World Value
dict_method method.Get dict (key ∷ []) = λ world. aside (get_or dict key value.None world) world
dict_method method.Get dict (key ∷ other ∷ []) = λ world. aside (get_or dict key other world) world
dict_method method.SetDefault dict (key ∷ []) = set_default dict key value.None
dict_method method.SetDefault dict (key ∷ other ∷ []) = set_default dict key other
dict_method method.Pop dict (key ∷ []) = pop_key dict key
dict_method method.Pop dict (key ∷ other ∷ []) = pop_or dict key other
dict_method method.Keys dict [] = aside (done (value.View (Keys dict)))
dict_method method.Values dict [] = aside (done (value.View (Values dict)))
dict_method method.Items dict [] = aside (done (value.View (Items dict)))
dict_method method.Clear dict [] = clear_dict dict
dict_method method.Copy dict [] = copy_dict dict
dict_method _ dict _ = aside (raises TypeError)
