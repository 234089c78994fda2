-- The operations of `Sums` gain no steps.
use Rattle.std.specs.Prelude.{ℕ, ◌+◌, ℤ, ◌+ℤ◌, ◌||◌, ◌&&◌, List, ◌++◌, length, Option, Some, None}
use Rattle.pyn_base.specs.Int.{in_range}
use Rattle.pyn_base.specs.declared.ids.ObjId.{ObjId}
use Rattle.py_meaning.specs.declared.value.Value.{Value, Value-F, out-Value}
use Rattle.py_meaning.specs.Values.{number_of, is_view}
use Rattle.py_meaning.specs.Worlds.{World, object_at, elements}
use Rattle.py_meaning.specs.Sums.{is_list, add_lists, add_refs, add_texts, add_tuples, or_range, add_numbers, add_values, add}
use Rattle.py_plain.proofs.Like.{Frugal, frugal_aside}
use Rattle.py_plain.proofs.Frugality.{frugal_done, frugal_raises, frugal_leaves, frugal_costs, frugal_if, frugal_if_at, frugal_new_tuple}

pub frugal_add_lists : (x1 : List Value) → (x2 : List Value) → (x3 : World) → Frugal (add_lists x1 x2 x3)
frugal_add_lists xs ys world = frugal_costs ((length xs) + (length ys)) _ (frugal_done _)

pub frugal_add_refs : (x1 : ObjId) → (x2 : ObjId) → (x3 : World) → Frugal (add_refs x1 x2 x3)
frugal_add_refs i j world = frugal_if ((is_list (object_at world i)) && (is_list (object_at world j))) _ _ (frugal_add_lists (elements world i) (elements world j) world) (frugal_raises _)

pub frugal_add_texts : (x1 : List ℕ) → (x2 : List ℕ) → Frugal (add_texts x1 x2)
frugal_add_texts s t = frugal_costs ((length s) + (length t)) _ (frugal_done _)

pub frugal_add_tuples : (x1 : List Value) → (x2 : List Value) → Frugal (add_tuples x1 x2)
frugal_add_tuples xs ys = frugal_costs ((length xs) + (length ys)) _ (frugal_new_tuple (xs ++ ys))

pub frugal_or_range : (x1 : Option ℤ) → Frugal (or_range x1)
frugal_or_range None = frugal_leaves _
frugal_or_range (Some n) = frugal_done _

pub frugal_add_numbers : (x1 : Option ℤ) → (x2 : Option ℤ) → Frugal (add_numbers x1 x2)
frugal_add_numbers (Some a) (Some b) = frugal_or_range (in_range (a +ℤ b))
frugal_add_numbers _ _ = frugal_raises _

pub frugal_add_values : (x1 : Value-F Value) → (x2 : Value-F Value) → (x3 : World) → Frugal (add_values x1 x2 x3)
frugal_add_values (Value-F.Str s) (Value-F.Str t) w2 = frugal_aside _ w2 (frugal_add_texts s t)
frugal_add_values (Value-F.Tuple xs) (Value-F.Tuple ys) w2 = frugal_aside _ w2 (frugal_add_tuples xs.parts ys.parts)
frugal_add_values (Value-F.Ref i) (Value-F.Ref j) w2 = frugal_add_refs i j w2
frugal_add_values a b w2 = frugal_aside _ w2 (frugal_add_numbers (number_of a) (number_of b))

pub frugal_add : (x1 : Value) → (x2 : Value) → (x3 : World) → Frugal (add x1 x2 x3)
frugal_add a b w2 = frugal_if_at ((is_view (out-Value a)) || (is_view (out-Value b))) _ _ w2 (frugal_leaves _) (frugal_add_values (out-Value a) (out-Value b) w2)
