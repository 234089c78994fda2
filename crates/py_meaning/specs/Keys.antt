-- Keys of dicts (the manual, "Mapping Types"; Language Reference 3.2.7).
use Rattle.std.specs.Prelude.{ℕ, ◌+◌, ◌-◌, ◌^◌, min, Bool, true, false, ◌&&◌, List, [], ◌∷◌, length, sum, Option}
use Rattle.std.specs.List.{position}
use Rattle.std.specs.Option.{option_map}
use Rattle.pyn_base.specs.declared.class.BuiltClass.TheVariants.{TypeError}
use Rattle.pyn_base.specs.declared.construct.Construct.TheVariants as construct
use Rattle.py_meaning.specs.declared.object.Object.{Object}
use Rattle.py_meaning.specs.declared.object.Object.TheVariants as object
use Rattle.py_meaning.specs.declared.op.Op.{Op}
use Rattle.py_meaning.specs.declared.op.Op.TheVariants as op
use Rattle.py_meaning.specs.declared.value.Value.{Value, Value-F, out-Value, fold-Value}
use Rattle.py_meaning.specs.Values.{same_single, at_place}
use Rattle.py_meaning.specs.Worlds.{World, Pairs, object_at}

-- A key costs 1 step; a string adds its length, a tuple its parts' costs.
abbrev pub key_cost_by : Value-F ℕ → ℕ
key_cost_by (Value-F.Str s) = 1 + length s
key_cost_by (Value-F.Tuple tuple) = 1 + sum tuple.parts
key_cost_by _ = 1

unfoldable pub key_cost : Value → ℕ
key_cost = fold-Value ℕ key_cost_by

-- what the first part answers that is no key
abbrev pub all_keys : List (Op (Unit {0})) → Op (Unit {0})
all_keys [] = op.Done tt
all_keys (op.Done _ ∷ parts) = all_keys parts
all_keys (op.Raises class ∷ parts) = op.Raises class
all_keys (op.Leaves construct ∷ parts) = op.Leaves construct
all_keys (op.OutOfSteps ∷ parts) = op.OutOfSteps
all_keys (op.Memory ∷ parts) = op.Memory

-- Lists and dicts aren't hashable; instances are, by what they are.
abbrev pub object_as_key : Object → Op (Unit {0})
object_as_key (object.List items) = op.Raises TypeError
object_as_key (object.Dict pairs changes) = op.Raises TypeError
object_as_key (object.Instance class attributes args) = op.Done tt

abbrev pub as_key_by : World → Value-F (Op (Unit {0})) → Op (Unit {0})
as_key_by world (Value-F.Tuple tuple) = all_keys tuple.parts
as_key_by world (Value-F.Ref id) = object_as_key (object_at world id)
as_key_by world (Value-F.View view) = op.Leaves construct.View
as_key_by world _ = op.Done tt

-- whether a value is a key: of parts that aren't, the first from the left decides
unfoldable pub as_key : World → Value → Op (Unit {0})
as_key world = fold-Value (Op (Unit {0})) (as_key_by world)

-- tests of parts at the parts of another tuple
abbrev pub all_agree : List (Value → Bool) → List Value → Bool
all_agree [] [] = true
all_agree (test ∷ tests) (part ∷ parts) = test part && all_agree tests parts
all_agree _ _ = false

abbrev pub same_key_by : Value-F (Value → Bool) → Value-F Value → Bool
same_key_by (Value-F.Tuple tests) (Value-F.Tuple tuple) = all_agree tests.parts tuple.parts
same_key_by a b = same_single a b

-- Whether two keys are the same, so True is 1. This has no level and costs nothing beside the key's cost.
unfoldable pub same_key : Value → Value → Bool
same_key = fold-Value (Value → Bool) (λ a b. same_key_by a (out-Value b))

-- the place of a key among the pairs
abbrev pub key_place : Value → Pairs → Option ℕ
key_place key pairs = position (λ pair. same_key key pair.0) pairs

abbrev pub value_of_key : Value → Pairs → Option Value
value_of_key key pairs = option_map (λ pair. pair.1) (at_place pairs (key_place key pairs))

-- The number of key changes stays at the greatest `u64` once it is there.
abbrev pub one_change_more : ℕ → ℕ
one_change_more changes = min (changes + 1) (2 ^ 64 - 1)
