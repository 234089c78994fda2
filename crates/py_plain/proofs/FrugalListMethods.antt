-- The operations of `ListMethods` gain no steps.
use Rattle.std.specs.Prelude.{ℕ, suc, ◌+◌, ◌*◌, pos, if◌then◌else◌, List, [], ◌∷◌, length, Option, Some, None}
use Rattle.pyn_base.specs.declared.ids.ObjId.{ObjId}
use Rattle.py_meaning.specs.declared.builtin.ListMethod.{ListMethod}
use Rattle.py_meaning.specs.declared.builtin.ListMethod.TheVariants as method
use Rattle.py_meaning.specs.declared.value.Value.{Value, out-Value}
use Rattle.py_meaning.specs.declared.value.Value.TheVariants as value
use Rattle.py_meaning.specs.Steps.{Change, done}
use Rattle.py_meaning.specs.Values.{number_of}
use Rattle.py_meaning.specs.Worlds.{World, object_at, elements, with_object}
use Rattle.py_meaning.specs.Operations.{list_extend, list_remove_free, list_reverse, inserted}
use Rattle.py_meaning.specs.ListMethods.{giving_none, pop_at, insert_at, extend_by, removed, remove_equal, or_value_error, index_equal, equals_from, count_equal, clear_list, copy_list, list_method}
use Rattle.py_plain.proofs.Like.{Frugal, frugal_aside}
use Rattle.py_plain.proofs.Frugality.{frugal_done, frugal_raises, frugal_leaves, frugal_costs, frugal_then}
use Rattle.py_plain.proofs.FrugalArithmetic.{frugal_in_machine}
use Rattle.py_plain.proofs.FrugalEqual.{frugal_equal}
use Rattle.py_plain.proofs.FrugalMembership.{frugal_equal_place}
use Rattle.py_plain.proofs.FrugalOperations.{frugal_list_extend, frugal_list_pop, frugal_list_reverse, frugal_list_remove_free, frugal_make_list}
use Rattle.py_plain.proofs.FrugalWalk.{frugal_walk}

pub frugal_giving_none : {A : Type 0} → (x1 : Change World A) → ((y1 : World) → Frugal (x1 y1)) → (x2 : World) → Frugal (giving_none x1 x2)
frugal_giving_none change h1 w1 = frugal_then _ _ (h1 w1) (λ made. frugal_done _)

pub frugal_pop_at : (x1 : ObjId) → (x2 : Value) → (x3 : World) → Frugal (pop_at x1 x2 x3)
frugal_pop_at list at world = frugal_costs (length (elements world list)) _ (frugal_in_machine (number_of (out-Value at)) (λ n. list_remove_free list n world) (λ z1. frugal_list_remove_free list z1 world))

pub frugal_insert_at : (x1 : ObjId) → (x2 : Value) → (x3 : Value) → (x4 : World) → Frugal (insert_at x1 x2 x3 x4)
frugal_insert_at list at new world = frugal_costs ((length (elements world list)) + 1) _ (frugal_in_machine (number_of (out-Value at)) (λ n. done (value.None, with_object world list (inserted n new (object_at world list)))) (λ z1. frugal_done _))

pub frugal_extend_by : (x1 : ObjId) → (x2 : Value) → (x3 : World) → Frugal (extend_by x1 x2 x3)
frugal_extend_by list x world = frugal_then _ _ (frugal_walk world x) (λ items. frugal_done _)

pub frugal_removed : (x1 : ObjId) → (x2 : Option ℕ) → (x3 : World) → Frugal (removed x1 x2 x3)
frugal_removed list None world = frugal_raises _
frugal_removed list (Some at) world = frugal_then _ _ (frugal_list_remove_free list (pos at) world) (λ made. frugal_done _)

pub frugal_remove_equal : (x1 : ObjId) → (x2 : Value) → (x3 : World) → Frugal (remove_equal x1 x2 x3)
frugal_remove_equal list x world = frugal_costs (2 * (length (elements world list))) _ (frugal_then _ _ (frugal_equal_place 0 world x 0 (elements world list)) (λ place. frugal_removed list place world))

pub frugal_or_value_error : (x1 : Option ℕ) → Frugal (or_value_error x1)
frugal_or_value_error None = frugal_raises _
frugal_or_value_error (Some at) = frugal_done _

pub frugal_index_equal : (x1 : ObjId) → (x2 : Value) → (x3 : World) → Frugal (index_equal x1 x2 x3)
frugal_index_equal list x world = frugal_then _ _ (frugal_equal_place 1 world x 0 (elements world list)) (λ z1. frugal_or_value_error z1)

pub frugal_equals_from : (x1 : World) → (x2 : Value) → (x3 : ℕ) → (x4 : List Value) → Frugal (equals_from x1 x2 x3 x4)
frugal_equals_from world x count [] = frugal_done _
frugal_equals_from world x count (y ∷ ys) = frugal_then _ _ (frugal_equal world y x) (λ same. frugal_equals_from world x (if same then suc count else count) ys)

pub frugal_count_equal : (x1 : ObjId) → (x2 : Value) → (x3 : World) → Frugal (count_equal x1 x2 x3)
frugal_count_equal list x world = frugal_costs (length (elements world list)) _ (frugal_equals_from world x 0 (elements world list))

pub frugal_clear_list : (x1 : ObjId) → (x2 : World) → Frugal (clear_list x1 x2)
frugal_clear_list list world = frugal_costs (length (elements world list)) _ (frugal_done _)

pub frugal_copy_list : (x1 : ObjId) → (x2 : World) → Frugal (copy_list x1 x2)
frugal_copy_list list world = frugal_then _ _ (frugal_make_list (elements world list) world) (λ new. frugal_done _)

pub frugal_list_method : (x1 : ListMethod) → (x2 : ObjId) → (x3 : List Value) → (x4 : World) → Frugal (list_method x1 x2 x3 x4)
frugal_list_method method.Append list (x ∷ []) w3 = frugal_giving_none (list_extend list (x ∷ [])) (λ z1. frugal_list_extend list (x ∷ []) z1) w3
frugal_list_method method.Pop list [] w3 = frugal_list_pop list w3
frugal_list_method method.Pop list (at ∷ []) w3 = frugal_pop_at list at w3
frugal_list_method method.Insert list (at ∷ (x ∷ [])) w3 = frugal_insert_at list at x w3
frugal_list_method method.Extend list (x ∷ []) w3 = frugal_extend_by list x w3
frugal_list_method method.Remove list (x ∷ []) w3 = frugal_remove_equal list x w3
frugal_list_method method.Index list (x ∷ []) w3 = frugal_aside _ w3 (frugal_index_equal list x w3)
frugal_list_method method.Index list (x ∷ (start ∷ [])) w3 = frugal_aside _ w3 (frugal_leaves _)
frugal_list_method method.Index list (x ∷ (start ∷ (stop ∷ []))) w3 = frugal_aside _ w3 (frugal_leaves _)
frugal_list_method method.Count list (x ∷ []) w3 = frugal_aside _ w3 (frugal_count_equal list x w3)
frugal_list_method method.Clear list [] w3 = frugal_clear_list list w3
frugal_list_method method.Copy list [] w3 = frugal_copy_list list w3
frugal_list_method method.Reverse list [] w3 = frugal_giving_none (list_reverse list) (λ z1. frugal_list_reverse list z1) w3
frugal_list_method _ list _ w3 = frugal_aside _ w3 (frugal_raises _)
