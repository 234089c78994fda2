-- The operations of `Subscripts` gain no steps.
use Rattle.std.specs.Prelude.{ℕ, ℤ, ◌||◌, List, length, Option, Some, None}
use Rattle.pyn_base.specs.declared.ids.ObjId.{ObjId}
use Rattle.py_meaning.specs.declared.object.ObjKind.{ObjKind}
use Rattle.py_meaning.specs.declared.object.ObjKind.TheVariants as kind
use Rattle.py_meaning.specs.declared.value.Value.{Value, Value-F, out-Value}
use Rattle.py_meaning.specs.Steps.{Change, answering}
use Rattle.py_meaning.specs.Values.{number_of, is_view, at_place}
use Rattle.py_meaning.specs.Worlds.{World, object_at, elements}
use Rattle.py_meaning.specs.Operations.{kind_of, index_place, list_set, list_remove_free}
use Rattle.py_meaning.specs.Sums.{is_list}
use Rattle.py_meaning.specs.Subscripts.{or_index_error, indexed, item_of_object, item_of, get_item, at_number, put_in_object, put_in, put_item, delete_in_object, delete_in, delete_item, bound, cut, cut_text, cut_tuple, cut_list, cut_ref, slice_of, slice}
use Rattle.py_plain.proofs.Like.{Frugal, frugal_aside}
use Rattle.py_plain.proofs.Frugality.{frugal_done, frugal_raises, frugal_leaves, frugal_costs, frugal_then, frugal_if, frugal_if_at, frugal_new_tuple}
use Rattle.py_plain.proofs.FrugalOperations.{frugal_dict_delete, frugal_dict_get, frugal_dict_put, frugal_list_remove_free, frugal_list_set}

pub frugal_or_index_error : {A : Type 0} → (x1 : Option A) → Frugal (or_index_error x1)
frugal_or_index_error None = frugal_raises _
frugal_or_index_error (Some x) = frugal_done _

pub frugal_indexed : {A : Type 0} → (x1 : List A) → (x2 : Option ℤ) → Frugal (indexed x1 x2)
frugal_indexed xs None = frugal_raises _
frugal_indexed xs (Some at) = frugal_or_index_error (at_place xs (index_place at (length xs)))

pub frugal_item_of_object : (x1 : ObjId) → (x2 : ObjKind) → (x3 : Value) → (x4 : World) → Frugal (item_of_object x1 x2 x3 x4)
frugal_item_of_object id kind.List at world = frugal_indexed (elements world id) (number_of (out-Value at))
frugal_item_of_object id kind.Dict at world = frugal_dict_get id at world
frugal_item_of_object id (kind.Instance class) at world = frugal_raises _

pub frugal_item_of : (x1 : Value-F Value) → (x2 : Value) → (x3 : World) → Frugal (item_of x1 x2 x3)
frugal_item_of (Value-F.Str s) at world = frugal_then _ _ (frugal_indexed s (number_of (out-Value at))) (λ c. frugal_done _)
frugal_item_of (Value-F.Tuple tuple) at world = frugal_indexed tuple.parts (number_of (out-Value at))
frugal_item_of (Value-F.Ref id) at world = frugal_item_of_object id (kind_of (object_at world id)) at world
frugal_item_of (Value-F.Class class) at world = frugal_leaves _
frugal_item_of _ at world = frugal_raises _

pub frugal_get_item : (x1 : Value) → (x2 : Value) → (x3 : World) → Frugal (get_item x1 x2 x3)
frugal_get_item of at world = frugal_if ((is_view (out-Value of)) || (is_view (out-Value at))) _ _ (frugal_leaves _) (frugal_item_of (out-Value of) at world)

pub frugal_at_number : {A : Type 0} → (x1 : Option ℤ) → (x2 : (ℤ → Change World A)) → ((y1 : ℤ) (y2 : World) → Frugal (x2 y1 y2)) → (x3 : World) → Frugal (at_number x1 x2 x3)
frugal_at_number None change h2 w2 = frugal_aside _ w2 (frugal_raises _)
frugal_at_number (Some n) change h2 w2 = h2 n w2

pub frugal_put_in_object : (x1 : ObjId) → (x2 : ObjKind) → (x3 : Value) → (x4 : Value) → (x5 : World) → Frugal (put_in_object x1 x2 x3 x4 x5)
frugal_put_in_object id kind.List at new w4 = frugal_at_number (number_of (out-Value at)) (λ n. list_set id n new) (λ z1 z2. frugal_list_set id z1 new z2) w4
frugal_put_in_object id kind.Dict at new w4 = frugal_dict_put id at new w4
frugal_put_in_object id (kind.Instance class) at new w4 = frugal_aside _ w4 (frugal_raises _)

pub frugal_put_in : (x1 : Value-F Value) → (x2 : Value) → (x3 : Value) → (x4 : World) → Frugal (put_in x1 x2 x3 x4)
frugal_put_in (Value-F.Ref id) at new world = frugal_put_in_object id (kind_of (object_at world id)) at new world
frugal_put_in _ at new world = frugal_raises _

pub frugal_put_item : (x1 : Value) → (x2 : Value) → (x3 : Value) → (x4 : World) → Frugal (put_item x1 x2 x3 x4)
frugal_put_item of at new w3 = frugal_if_at ((is_view (out-Value of)) || (is_view (out-Value at))) _ _ w3 (frugal_aside _ w3 (frugal_leaves _)) (frugal_put_in (out-Value of) at new w3)

pub frugal_delete_in_object : (x1 : ObjId) → (x2 : ObjKind) → (x3 : Value) → (x4 : World) → Frugal (delete_in_object x1 x2 x3 x4)
frugal_delete_in_object id kind.List at w3 = frugal_costs (length (elements w3 id)) _ (frugal_at_number (number_of (out-Value at)) (λ n. answering tt (list_remove_free id n)) (λ z1 z2. frugal_then _ _ (frugal_list_remove_free id z1 z2) (λ made. frugal_done _)) w3)
frugal_delete_in_object id kind.Dict at w3 = frugal_then _ _ (frugal_dict_delete id at w3) (λ made. frugal_done _)
frugal_delete_in_object id (kind.Instance class) at w3 = frugal_aside _ w3 (frugal_raises _)

pub frugal_delete_in : (x1 : Value-F Value) → (x2 : Value) → (x3 : World) → Frugal (delete_in x1 x2 x3)
frugal_delete_in (Value-F.Ref id) at world = frugal_delete_in_object id (kind_of (object_at world id)) at world
frugal_delete_in _ at world = frugal_raises _

pub frugal_delete_item : (x1 : Value) → (x2 : Value) → (x3 : World) → Frugal (delete_item x1 x2 x3)
frugal_delete_item of at w2 = frugal_if_at ((is_view (out-Value of)) || (is_view (out-Value at))) _ _ w2 (frugal_aside _ w2 (frugal_leaves _)) (frugal_delete_in (out-Value of) at w2)

pub frugal_cut_text : (x1 : List ℕ) → Frugal (cut_text x1)
frugal_cut_text s = frugal_costs (length s) _ (frugal_done _)

pub frugal_cut_tuple : (x1 : List Value) → Frugal (cut_tuple x1)
frugal_cut_tuple parts = frugal_costs (length parts) _ (frugal_new_tuple parts)

pub frugal_cut_list : (x1 : List Value) → (x2 : World) → Frugal (cut_list x1 x2)
frugal_cut_list items world = frugal_costs (length items) _ (frugal_done _)

pub frugal_cut_ref : (x1 : ObjId) → (x2 : Option ℤ) → (x3 : Option ℤ) → (x4 : World) → Frugal (cut_ref x1 x2 x3 x4)
frugal_cut_ref id low high world = frugal_if (is_list (object_at world id)) _ _ (frugal_cut_list (cut low high (elements world id)) world) (frugal_raises _)

pub frugal_slice_of : (x1 : Value-F Value) → (x2 : Option (Option ℤ)) → (x3 : Option (Option ℤ)) → (x4 : World) → Frugal (slice_of x1 x2 x3 x4)
frugal_slice_of (Value-F.Class class) _ _ w3 = frugal_aside _ w3 (frugal_leaves _)
frugal_slice_of (Value-F.Str s) (Some low) (Some high) w3 = frugal_aside _ w3 (frugal_cut_text (cut low high s))
frugal_slice_of (Value-F.Tuple tuple) (Some low) (Some high) w3 = frugal_aside _ w3 (frugal_cut_tuple (cut low high tuple.parts))
frugal_slice_of (Value-F.Ref id) (Some low) (Some high) w3 = frugal_cut_ref id low high w3
frugal_slice_of _ _ _ w3 = frugal_aside _ w3 (frugal_raises _)

pub frugal_slice : (x1 : Value) → (x2 : Value) → (x3 : Value) → (x4 : World) → Frugal (slice x1 x2 x3 x4)
frugal_slice of low high w3 = frugal_if_at ((is_view (out-Value of)) || ((is_view (out-Value low)) || (is_view (out-Value high)))) _ _ w3 (frugal_aside _ w3 (frugal_leaves _)) (frugal_slice_of (out-Value of) (bound (out-Value low)) (bound (out-Value high)) w3)
