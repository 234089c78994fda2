-- The operations of `Operations` gain no steps.
use Rattle.std.specs.Prelude.{ℕ, ◌+◌, ℤ, negsuc, List, [], length, map, slice_get, Option, Some, None}
use Rattle.std.specs.List.{sum_by}
use Rattle.pyn_base.specs.declared.ids.ObjId.{ObjId}
use Rattle.py_meaning.specs.declared.object.Object.{Object}
use Rattle.py_meaning.specs.declared.object.Object.TheVariants as object
use Rattle.py_meaning.specs.declared.op.Op.{Op}
use Rattle.py_meaning.specs.declared.op.Op.TheVariants as op
use Rattle.py_meaning.specs.declared.value.Value.{Value}
use Rattle.py_meaning.specs.Steps.{Costing, Change, done}
use Rattle.py_meaning.specs.Worlds.{World, Pairs, object_at, elements, pairs}
use Rattle.py_meaning.specs.Keys.{as_key, all_keys, key_cost, key_place, value_of_key}
use Rattle.py_meaning.specs.Operations.{made, on_object, index_place, make_list, set_at, set_item, taken_at, remove_at, remove_item, list_set, list_insert, list_remove, list_remove_free, list_pop, list_reverse, list_extend, for_key, or_key_error, dict_get, dict_put, taken_pair, delete_at, delete_pair, dict_delete, dict_delete_free, put_all, make_dict, dict_copy}
use Rattle.py_plain.proofs.Like.{Frugal}
use Rattle.py_plain.proofs.Frugality.{frugal_done, frugal_raises, frugal_leaves, frugal_answer, frugal_costs, frugal_then}

pub frugal_on_object : {A : Type 0} → (x1 : ObjId) → (x2 : Change Object A) → ((y1 : Object) → Frugal (x2 y1)) → (x3 : World) → Frugal (on_object x1 x2 x3)
frugal_on_object id change h2 world = frugal_then _ _ (h2 (object_at world id)) (λ made. frugal_done _)

pub frugal_make_list : (x1 : List Value) → (x2 : World) → Frugal (make_list x1 x2)
frugal_make_list items world = frugal_costs (length items) _ (frugal_done _)

pub frugal_set_at : (x1 : Value) → (x2 : List Value) → (x3 : Option ℕ) → Frugal (set_at x1 x2 x3)
frugal_set_at new items None = frugal_raises _
frugal_set_at new items (Some at) = frugal_done _

pub frugal_set_item : (x1 : ℤ) → (x2 : Value) → (x3 : Object) → Frugal (set_item x1 x2 x3)
frugal_set_item at new (object.List items) = frugal_set_at new items (index_place at (length items))
frugal_set_item at new other = frugal_raises _

pub frugal_taken_at : (x1 : List Value) → (x2 : ℕ) → (x3 : Option Value) → Frugal (taken_at x1 x2 x3)
frugal_taken_at items at None = frugal_raises _
frugal_taken_at items at (Some item) = frugal_done _

pub frugal_remove_at : (x1 : List Value) → (x2 : Option ℕ) → Frugal (remove_at x1 x2)
frugal_remove_at items None = frugal_raises _
frugal_remove_at items (Some at) = frugal_taken_at items at (slice_get items at)

pub frugal_remove_item : (x1 : ℤ) → (x2 : Object) → Frugal (remove_item x1 x2)
frugal_remove_item at (object.List items) = frugal_remove_at items (index_place at (length items))
frugal_remove_item at other = frugal_raises _

pub frugal_list_set : (x1 : ObjId) → (x2 : ℤ) → (x3 : Value) → (x4 : World) → Frugal (list_set x1 x2 x3 x4)
frugal_list_set list at new w3 = frugal_on_object list (set_item at new) (λ z1. frugal_set_item at new z1) w3

pub frugal_list_insert : (x1 : ObjId) → (x2 : ℤ) → (x3 : Value) → (x4 : World) → Frugal (list_insert x1 x2 x3 x4)
frugal_list_insert list at new w3 = frugal_costs (length (elements w3 list) + 1) _ (frugal_done _)

pub frugal_list_remove_free : (x1 : ObjId) → (x2 : ℤ) → (x3 : World) → Frugal (list_remove_free x1 x2 x3)
frugal_list_remove_free list at w2 = frugal_on_object list (remove_item at) (λ z1. frugal_remove_item at z1) w2

pub frugal_list_remove : (x1 : ObjId) → (x2 : ℤ) → (x3 : World) → Frugal (list_remove x1 x2 x3)
frugal_list_remove list at w2 = frugal_costs (length (elements w2 list)) _ (frugal_list_remove_free list at w2)

pub frugal_list_pop : (x1 : ObjId) → (x2 : World) → Frugal (list_pop x1 x2)
frugal_list_pop list w1 = frugal_costs 1 _ (frugal_list_remove_free list (negsuc 0) w1)

pub frugal_list_reverse : (x1 : ObjId) → (x2 : World) → Frugal (list_reverse x1 x2)
frugal_list_reverse list w1 = frugal_costs (length (elements w1 list)) _ (frugal_done _)

pub frugal_list_extend : (x1 : ObjId) → (x2 : List Value) → (x3 : World) → Frugal (list_extend x1 x2 x3)
frugal_list_extend list more w2 = frugal_costs (length more) _ (frugal_done _)

pub frugal_for_key : {A : Type 0} → (x1 : Op (Unit {0})) → (x2 : Costing A) → Frugal x2 → Frugal (for_key x1 x2)
frugal_for_key (op.Done _) next h = h
frugal_for_key (op.Raises class) next h = frugal_raises _
frugal_for_key (op.Leaves construct) next h = frugal_leaves _
frugal_for_key op.OutOfSteps next h = frugal_answer op.OutOfSteps
frugal_for_key op.Memory next h = frugal_answer op.Memory

pub frugal_or_key_error : {A : Type 0} → (x1 : Option A) → Frugal (or_key_error x1)
frugal_or_key_error None = frugal_raises _
frugal_or_key_error (Some x) = frugal_done _

pub frugal_dict_get : (x1 : ObjId) → (x2 : Value) → (x3 : World) → Frugal (dict_get x1 x2 x3)
frugal_dict_get dict key world = frugal_costs (key_cost key) _ (frugal_for_key (as_key world key) (or_key_error (value_of_key key (pairs world dict))) (frugal_or_key_error (value_of_key key (pairs world dict))))

pub frugal_dict_put : (x1 : ObjId) → (x2 : Value) → (x3 : Value) → (x4 : World) → Frugal (dict_put x1 x2 x3 x4)
frugal_dict_put dict key new world = frugal_costs (key_cost key) _ (frugal_for_key (as_key world key) _ (frugal_done _))

pub frugal_taken_pair : (x1 : Pairs) → (x2 : ℕ) → (x3 : ℕ) → (x4 : Option (Value × Value)) → Frugal (taken_pair x1 x2 x3 x4)
frugal_taken_pair pairs changes at None = frugal_raises _
frugal_taken_pair pairs changes at (Some pair) = frugal_done _

pub frugal_delete_at : (x1 : Pairs) → (x2 : ℕ) → (x3 : Option ℕ) → Frugal (delete_at x1 x2 x3)
frugal_delete_at pairs changes None = frugal_raises _
frugal_delete_at pairs changes (Some at) = frugal_taken_pair pairs changes at (slice_get pairs at)

pub frugal_delete_pair : (x1 : Value) → (x2 : Object) → Frugal (delete_pair x1 x2)
frugal_delete_pair key (object.Dict pairs changes) = frugal_delete_at pairs changes (key_place key pairs)
frugal_delete_pair key other = frugal_raises _

pub frugal_dict_delete : (x1 : ObjId) → (x2 : Value) → (x3 : World) → Frugal (dict_delete x1 x2 x3)
frugal_dict_delete dict key world = frugal_costs ((key_cost key) + (length (pairs world dict))) _ (frugal_for_key (as_key world key) (dict_delete_free dict key world) (frugal_on_object dict (delete_pair key) (λ z1. frugal_delete_pair key z1) world))

pub frugal_make_dict : (x1 : Pairs) → (x2 : World) → Frugal (make_dict x1 x2)
frugal_make_dict pairs world = frugal_costs (sum_by (λ pair. key_cost pair.0) pairs) _ (frugal_for_key (all_keys (map (λ pair. as_key world pair.0) pairs)) (done (made (put_all pairs (object.Dict [] 0)) world)) (frugal_done _))

pub frugal_dict_copy : (x1 : ObjId) → (x2 : World) → Frugal (dict_copy x1 x2)
frugal_dict_copy dict world = frugal_costs (length (pairs world dict)) _ (frugal_done _)
