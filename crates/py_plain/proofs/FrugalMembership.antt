-- The operations of `Membership` gain no steps.
use Rattle.std.proofs.Common.{refl}
use Rattle.std.specs.Prelude.{ℕ, suc, ◌+◌, ℤ, List, [], ◌∷◌, length, Option, Some, None}
use Rattle.pyn_base.specs.declared.ids.ObjId.{ObjId}
use Rattle.py_meaning.specs.declared.object.ObjKind.{ObjKind}
use Rattle.py_meaning.specs.declared.object.ObjKind.TheVariants as kind
use Rattle.py_meaning.specs.declared.value.Value.{Value, Value-F, out-Value}
use Rattle.py_meaning.specs.declared.value.View.TheVariants.{Range, Keys}
use Rattle.py_meaning.specs.Caught.{is_found}
use Rattle.py_meaning.specs.Values.{number_of, is_view}
use Rattle.py_meaning.specs.Worlds.{World, object_at, elements}
use Rattle.py_meaning.specs.Operations.{kind_of}
use Rattle.py_meaning.specs.Membership.{identical, equal_place, any_equal, is_key_of, in_counted, in_text, in_object, in_values, contains}
use Rattle.py_plain.proofs.Like.{Frugal}
use Rattle.py_plain.proofs.Frugality.{frugal_done, frugal_raises, frugal_leaves, frugal_costs, frugal_then, frugal_if, frugal_read_as}
use Rattle.py_plain.proofs.FrugalEqual.{frugal_equal}
use Rattle.py_plain.proofs.FrugalOperations.{frugal_dict_get}

pub frugal_identical : (x1 : Value-F Value) → (x2 : Value-F Value) → Frugal (identical x1 x2)
frugal_identical (Value-F.Int a) (Value-F.Int b) = frugal_leaves _
frugal_identical (Value-F.Str a) (Value-F.Str b) = frugal_leaves _
frugal_identical (Value-F.Tuple a) (Value-F.Tuple b) = frugal_leaves _
frugal_identical (Value-F.View a) (Value-F.View b) = frugal_leaves _
frugal_identical (Value-F.Bool a) (Value-F.Bool b) = frugal_done _
frugal_identical (Value-F.Bool a) _ = frugal_done _
frugal_identical (Value-F.Int a) _ = frugal_done _
frugal_identical a b = frugal_done _

pub frugal_equal_place : (x1 : ℕ) → (x2 : World) → (x3 : Value) → (x4 : ℕ) → (x5 : List Value) → Frugal (equal_place x1 x2 x3 x4 x5)
frugal_equal_place each world item at [] = frugal_done _
frugal_equal_place each world item at (x ∷ xs) = frugal_costs each _ (frugal_then _ _ (frugal_equal world x item) (λ same. frugal_if same _ _ (frugal_done _) (frugal_equal_place each world item (suc at) xs)))

pub frugal_any_equal : (x1 : World) → (x2 : Value) → (x3 : List Value) → Frugal (any_equal x1 x2 x3)
frugal_any_equal world item items = frugal_then _ _ (frugal_equal_place 1 world item 0 items) (λ place. frugal_done _)

pub frugal_is_key_of : (x1 : ObjId) → (x2 : Value) → (x3 : World) → Frugal (is_key_of x1 x2 x3)
frugal_is_key_of dict key world = frugal_read_as is_found _ refl (frugal_dict_get dict key world)

pub frugal_in_counted : (x1 : ℤ) → (x2 : ℤ) → (x3 : ℤ) → (x4 : Option ℤ) → Frugal (in_counted x1 x2 x3 x4)
frugal_in_counted start stop step None = frugal_done _
frugal_in_counted start stop step (Some n) = frugal_done _

pub frugal_in_text : (x1 : Value-F Value) → (x2 : List ℕ) → Frugal (in_text x1 x2)
frugal_in_text (Value-F.Str part) text = frugal_costs ((length text) + (length part)) _ (frugal_done _)
frugal_in_text _ text = frugal_raises _

pub frugal_in_object : (x1 : Value) → (x2 : ObjId) → (x3 : ObjKind) → (x4 : World) → Frugal (in_object x1 x2 x3 x4)
frugal_in_object item id kind.List world = frugal_any_equal world item (elements world id)
frugal_in_object item id kind.Dict world = frugal_is_key_of id item world
frugal_in_object item id (kind.Instance class) world = frugal_raises _

pub frugal_in_values : (x1 : Value) → (x2 : Value-F Value) → (x3 : World) → Frugal (in_values x1 x2 x3)
frugal_in_values item (Value-F.Str text) world = frugal_in_text (out-Value item) text
frugal_in_values item (Value-F.Tuple tuple) world = frugal_any_equal world item tuple.parts
frugal_in_values item (Value-F.Ref id) world = frugal_in_object item id (kind_of (object_at world id)) world
frugal_in_values item (Value-F.View (Range start stop step)) world = frugal_in_counted start stop step (number_of (out-Value item))
frugal_in_values item (Value-F.View (Keys dict)) world = frugal_is_key_of dict item world
frugal_in_values item (Value-F.View _) world = frugal_leaves _
frugal_in_values item _ world = frugal_raises _

pub frugal_contains : (x1 : Value) → (x2 : Value) → (x3 : World) → Frugal (contains x1 x2 x3)
frugal_contains item whole world = frugal_if (is_view (out-Value item)) _ _ (frugal_leaves _) (frugal_in_values item (out-Value whole) world)
