-- Sameness and membership (Language Reference 6.10.2 and 6.10.3).
use Rattle.std.specs.Prelude.{ℕ, zero, suc, ◌+◌, ℤ, pos, negsuc, ◌-ℤ◌, int_lt, int_le, Bool, true, false, not, ◌&&◌, if◌then◌else◌, List, [], ◌∷◌, length, Option, Some, None}
use Rattle.std.specs.Option.{is_some}
use Rattle.std.specs.Ordering.{int_eq}
use Rattle.pyn_base.specs.Int.{floor_rest}
use Rattle.pyn_base.specs.declared.class.BuiltClass.TheVariants.{TypeError}
use Rattle.pyn_base.specs.declared.construct.Construct.TheVariants as construct
use Rattle.pyn_base.specs.declared.ids.ObjId.{ObjId}
use Rattle.py_meaning.specs.declared.object.ObjKind.{ObjKind}
use Rattle.py_meaning.specs.declared.object.ObjKind.TheVariants as kind
use Rattle.py_meaning.specs.declared.value.Value.{Value, Value-F, out-Value}
use Rattle.py_meaning.specs.declared.value.View.TheVariants.{Range, Keys}
use Rattle.py_meaning.specs.Steps.{Costing, done, raises, leaves, costs, ◌>>=◌}
use Rattle.py_meaning.specs.Caught.{read_as, is_found}
use Rattle.py_meaning.specs.Values.{number_of, is_view, same_single}
use Rattle.py_meaning.specs.Worlds.{World, object_at, elements}
use Rattle.py_meaning.specs.Operations.{kind_of, dict_get}
use Rattle.py_meaning.specs.Equal.{equal}
use Rattle.py_meaning.specs.Texts.{first_place}

abbrev pub same_truth : Bool → Bool → Bool
same_truth true b = b
same_truth false b = not b

-- `is`: the same None, bool, object, class or function. Whether two integers, strings, tuples or views are one object isn't
-- said by the language. A bool is no integer here.
abbrev pub identical : Value-F Value → Value-F Value → Costing Bool
identical (Value-F.Int a) (Value-F.Int b) = leaves construct.Identity
identical (Value-F.Str a) (Value-F.Str b) = leaves construct.Identity
identical (Value-F.Tuple a) (Value-F.Tuple b) = leaves construct.Identity
identical (Value-F.View a) (Value-F.View b) = leaves construct.Identity
identical (Value-F.Bool a) (Value-F.Bool b) = done (same_truth a b)
identical (Value-F.Bool a) _ = done false
identical (Value-F.Int a) _ = done false
identical a b = done (same_single a b)

-- The place of the first element that is equal to an item, from a place on. The element is the left operand, and each that is looked
-- at costs so many steps beside the comparison.
abbrev pub equal_place : ℕ → World → Value → ℕ → List Value → Costing (Option ℕ)
equal_place each world item at [] = done None
equal_place each world item at (x ∷ xs) = costs each (equal world x item >>= (λ same. if same then done (Some at) else equal_place each world item (suc at) xs))

-- A step for each element up to the first that is the same or equal.
abbrev pub any_equal : World → Value → List Value → Costing Bool
any_equal world item items = equal_place 1 world item 0 items >>= (λ place. done (is_some place))

abbrev pub is_key_of : ObjId → Value → World → Costing Bool
is_key_of dict key world = read_as is_found (dict_get dict key world)

-- whether a number is one of a range's (the manual, "Ranges"). A step of 0 is in no range.
abbrev pub is_counted : ℤ → ℤ → ℤ → ℤ → Bool
is_counted start stop (pos zero) n = false
is_counted start stop (pos step) n = int_le start n && int_lt n stop && int_eq (floor_rest (n -ℤ start) (pos step)) (pos 0)
is_counted start stop (negsuc step) n = int_lt stop n && int_le n start && int_eq (floor_rest (n -ℤ start) (negsuc step)) (pos 0)

abbrev pub in_counted : ℤ → ℤ → ℤ → Option ℤ → Costing Bool
in_counted start stop step None = done false
in_counted start stop step (Some n) = done (is_counted start stop step n)

-- whether a text is in another
abbrev pub in_text : Value-F Value → List ℕ → Costing Bool
in_text (Value-F.Str part) text = costs (length text + length part) (done (is_some (first_place part text)))
in_text _ text = raises TypeError

abbrev pub in_object : Value → ObjId → ObjKind → World → Costing Bool
in_object item id kind.List world = any_equal world item (elements world id)
in_object item id kind.Dict world = is_key_of id item world
in_object item id (kind.Instance class) world = raises TypeError

abbrev pub in_values : Value → Value-F Value → World → Costing Bool
in_values item (Value-F.Str text) world = in_text (out-Value item) text
in_values item (Value-F.Tuple tuple) world = any_equal world item tuple.parts
in_values item (Value-F.Ref id) world = in_object item id (kind_of (object_at world id)) world
in_values item (Value-F.View (Range start stop step)) world = in_counted start stop step (number_of (out-Value item))
in_values item (Value-F.View (Keys dict)) world = is_key_of dict item world
in_values item (Value-F.View _) world = leaves construct.View
in_values item _ world = raises TypeError

-- `in`: a view as the item leaves, whatever it is looked for in.
abbrev pub contains : Value → Value → World → Costing Bool
contains item whole world = if is_view (out-Value item) then leaves construct.View else in_values item (out-Value whole) world
