-- Equality (Language Reference 6.10.1) and what it costs.
use Rattle.std.specs.Prelude.{ℕ, zero, suc, ◌+◌, Bool, true, false, if◌then◌else◌, ◌==◌, bytes_eq, List, [], ◌∷◌, length, Option, Some, None}
use Rattle.pyn_base.specs.declared.construct.Construct.TheVariants as construct
use Rattle.pyn_base.specs.declared.ids.ObjId.{ObjId}
use Rattle.py_meaning.specs.declared.object.Object.{Object}
use Rattle.py_meaning.specs.declared.object.Object.TheVariants as object
use Rattle.py_meaning.specs.declared.value.Value.{Value, Value-F, out-Value}
use Rattle.py_meaning.specs.Steps.{Costing, done, leaves, costs, ◌>>=◌}
use Rattle.py_meaning.specs.Values.{same_single}
use Rattle.py_meaning.specs.Worlds.{World, Pairs, object_at}
use Rattle.py_meaning.specs.Keys.{key_cost, value_of_key}

-- How the parts of two values are compared, one level further than the values.
pub record Parts : Type 0 where
  pub sequences : List Value → List Value → Costing Bool
  pub dicts : Pairs → Pairs → Costing Bool

-- one step and the parts' own cost for each pair, up to the first unequal one
abbrev pub equal_parts : (Value → Value → Costing Bool) → List Value → List Value → Costing Bool
equal_parts equal (x ∷ xs) (y ∷ ys) = costs 1 (equal x y >>= (λ same. if same then equal_parts equal xs ys else done false))
equal_parts equal _ _ = done true

abbrev pub equal_to_found : (Value → Value → Costing Bool) → Option Value → Value → Costing Bool
equal_to_found equal None y = done false
equal_to_found equal (Some x) y = equal x y

-- One step, the key's cost and the values' cost. The left dict's value is the left operand.
unfoldable pub equal_pair : (Value → Value → Costing Bool) → Pairs → Value × Value → Costing Bool
equal_pair equal left pair = costs (1 + key_cost pair.0) (equal_to_found equal (value_of_key pair.0 left) pair.1)

-- each pair of the right dict, up to the first that fails
abbrev pub equal_pairs : (Value → Value → Costing Bool) → Pairs → Pairs → Costing Bool
equal_pairs equal left [] = done true
equal_pairs equal left (pair ∷ pairs) = equal_pair equal left pair >>= (λ same. if same then equal_pairs equal left pairs else done false)

abbrev pub of_one_length : {A : Type 0} → (List A → List A → Costing Bool) → List A → List A → Costing Bool
of_one_length equal xs ys = if length xs == length ys then equal xs ys else done false

abbrev pub equal_objects : Parts → Object → Object → Costing Bool
equal_objects parts (object.List xs) (object.List ys) = of_one_length parts.sequences xs ys
equal_objects parts (object.Dict xs _) (object.Dict ys _) = of_one_length parts.dicts xs ys
equal_objects parts _ _ = done false

-- Strings of one length cost that length.
abbrev pub equal_texts : List ℕ → List ℕ → Costing Bool
equal_texts = of_one_length (λ s t. costs (length s) (done (bytes_eq s t)))

-- The same object is equal to itself, at no cost.
abbrev pub equal_refs : World → Parts → ObjId → ObjId → Costing Bool
equal_refs world parts i j = if i.0 == j.0 then done true else equal_objects parts (object_at world i) (object_at world j)

abbrev pub equal_by : World → Parts → Value-F Value → Value-F Value → Costing Bool
equal_by world parts (Value-F.Str s) (Value-F.Str t) = equal_texts s t
equal_by world parts (Value-F.Tuple s) (Value-F.Tuple t) = of_one_length parts.sequences s.parts t.parts
equal_by world parts (Value-F.Ref i) (Value-F.Ref j) = equal_refs world parts i j
equal_by world parts (Value-F.View x) (Value-F.View y) = leaves construct.View
equal_by world parts a b = done (same_single a b)

abbrev pub too_deep : Parts
too_deep = record { sequences = λ xs ys. leaves construct.ComparisonDepth; dicts = λ xs ys. leaves construct.ComparisonDepth }

abbrev pub parts_by : (Value → Value → Costing Bool) → Parts
parts_by equal = record { sequences = equal_parts equal; dicts = equal_pairs equal }

-- how parts are compared where so many levels of them may still be
abbrev pub parts_within : ℕ → World → Parts
parts_within zero world = too_deep
parts_within (suc levels) world = parts_by (λ a b. equal_by world (parts_within levels world) (out-Value a) (out-Value b))

abbrev pub equal_within : ℕ → World → Value → Value → Costing Bool
equal_within levels world a b = equal_by world (parts_within levels world) (out-Value a) (out-Value b)

-- The operands are at level 1. Parts at level 51 aren't compared.
abbrev pub comparison_limit : ℕ
comparison_limit = 50

unfoldable pub equal : World → Value → Value → Costing Bool
equal world a b = equal_within comparison_limit world a b
