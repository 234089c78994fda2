-- How many objects operations make above twice the steps that they take: one at most.
use Rattle.std.proofs.Common.{◌≡◌, ℕ, suc, ◌+◌, ◌-◌, ◌≤◌, ◌||◌, not, Bool, true, false, List, [], ◌∷◌, length, map, refl, arith, Option, Some, None, ℤ, length-append}
use Rattle.std.specs.Prelude.{if◌then◌else◌, nat_le, pos, negsuc}
use Rattle.std.proofs.lemmas.Bool.Decides.{nat_tests}
use Rattle.pyn_base.specs.declared.class.BuiltClass.{BuiltClass}
use Rattle.pyn_base.specs.declared.class.BuiltClass.TheVariants.{AttributeError, KeyError, TypeError}
use Rattle.pyn_base.specs.declared.construct.Construct.{Construct}
use Rattle.pyn_base.specs.declared.construct.Construct.TheVariants as construct
use Rattle.pyn_base.specs.declared.ids.ObjId.{ObjId}
use Rattle.py_syntax.specs.declared.operator.BinOp.{BinOp}
use Rattle.py_syntax.specs.declared.operator.BinOp.TheVariants.{Add, Sub, Mul, FloorDiv, Mod}
use Rattle.py_meaning.specs.declared.builtin.Builtin.{Builtin}
use Rattle.py_meaning.specs.declared.builtin.Builtin.TheVariants as builtin
use Rattle.py_meaning.specs.declared.builtin.ListMethod.{ListMethod}
use Rattle.py_meaning.specs.declared.builtin.ListMethod.TheVariants as of_list
use Rattle.py_meaning.specs.declared.builtin.DictMethod.{DictMethod}
use Rattle.py_meaning.specs.declared.builtin.DictMethod.TheVariants as of_dict
use Rattle.py_meaning.specs.declared.builtin.TextMethod.{TextMethod}
use Rattle.py_meaning.specs.declared.builtin.TextMethod.TheVariants as of_text
use Rattle.py_meaning.specs.declared.object.Object.{Object}
use Rattle.py_meaning.specs.declared.object.Object.TheVariants as object
use Rattle.py_meaning.specs.declared.object.ObjKind.{ObjKind}
use Rattle.py_meaning.specs.declared.object.ObjKind.TheVariants as kind
use Rattle.py_meaning.specs.declared.op.Op.{Op}
use Rattle.py_meaning.specs.declared.op.Op.TheVariants as op
use Rattle.py_meaning.specs.declared.value.Value.{Value, Value-F, out-Value}
use Rattle.py_meaning.specs.declared.value.Value.TheVariants as v
use Rattle.py_meaning.specs.Arithmetic.{in_machine, multiply_number, multiply_values, repeat_ref, repeated_text, repeated_tuple, product, difference, quotient}
use Rattle.py_meaning.specs.Builtins.{add_all, add_all_to, sum_of, sum_row, is_less_than, is_more_than, listed, list_row, dict_of_object, dict_of_value, dict_row, call_builtin}
use Rattle.py_meaning.specs.DictMethods.{with_value, set_default, unhashable_leaves, pop_key, pop_or, dict_method}
use Rattle.py_meaning.specs.Caught.{where_missing}
use Rattle.py_meaning.specs.Keys.{all_keys, as_key}
use Rattle.py_meaning.specs.ListMethods.{removed, list_method}
use Rattle.py_meaning.specs.Methods.{named, list_methods, dict_methods, text_methods, left_of_list, left_of_dict, left_of_tuple, left_of_integer, left_of_text, is_among, no_method, by_method, call_on_object, call_on_value, call_method}
use Rattle.py_meaning.specs.Operations.{made, on_object, for_key, kind_of, list_extend, list_reverse, set_item, remove_item, list_remove_free, dict_get, dict_put_free, put_pair, dict_delete, delete_pair, dict_copy, make_list, make_dict, put_all}
use Rattle.py_meaning.specs.Operators.{binary_values, binary, list_named, augment_at, augment}
use Rattle.py_meaning.specs.Steps.{Costing, Change, aside, answering, done, raises, leaves, costs, go_on, ◌>>=◌}
use Rattle.py_meaning.specs.Subscripts.{at_number, put_in_object, put_in, put_item, delete_in_object, delete_in, delete_item, cut, bound, slice_of, slice}
use Rattle.py_meaning.specs.Sums.{as_value, add_refs, add_values, add}
use Rattle.py_meaning.specs.TextMethods.{text, split_by, text_method}
use Rattle.py_meaning.specs.Texts.{begins_with, finishes_with, is_ascii, upper, lower, are_digits}
use Rattle.py_meaning.specs.Membership.{equal_place}
use Rattle.py_meaning.specs.Values.{number_of, is_view}
use Rattle.py_meaning.specs.Walk.{walk, walk_over, taken, walked, shallow, gives_new_tuples}
use Rattle.py_meaning.specs.Worlds.{World, Pairs, object_at, with_object, elements, pairs}
use Rattle.py_plain.proofs.Fine.{Counted}
use Rattle.py_plain.proofs.FineValues.{Counts, length_set}
use Rattle.py_plain.proofs.FrugalArithmetic.{frugal_by_numbers, frugal_difference, frugal_in_machine, frugal_product, frugal_quotient, frugal_repeated_text, frugal_repeated_tuple, frugal_rest_of_values}
use Rattle.py_plain.proofs.FrugalBuiltins.{frugal_abs_row, frugal_add_all, frugal_best_row, frugal_bool_row, frugal_call_builtin, frugal_int_row, frugal_is_less_than, frugal_is_more_than, frugal_len_row, frugal_range_row, frugal_str_row, frugal_tuple_row}
use Rattle.py_plain.proofs.FrugalDictMethods.{frugal_get_or}
use Rattle.py_plain.proofs.FrugalListMethods.{frugal_count_equal, frugal_index_equal}
use Rattle.py_plain.proofs.FrugalMethods.{frugal_call_method}
use Rattle.py_plain.proofs.FrugalOperations.{frugal_make_dict, frugal_make_list}
use Rattle.py_plain.proofs.FrugalOperators.{frugal_augment, frugal_binary}
use Rattle.py_plain.proofs.FrugalSubscripts.{frugal_cut_text, frugal_cut_tuple, frugal_delete_item, frugal_put_item, frugal_slice}
use Rattle.py_plain.proofs.FrugalSums.{frugal_add_numbers, frugal_add_texts, frugal_add_tuples}
use Rattle.py_plain.proofs.FrugalTextMethods.{frugal_find_by, frugal_join_walked, frugal_of_ascii, frugal_replace_by, frugal_strip_by, frugal_test_by, frugal_text}
use Rattle.py_plain.proofs.Frugality.{frugal_done, frugal_leaves, frugal_raises}
use Rattle.py_plain.proofs.Like.{Frugal}

-- where it is done, at most so many objects more
abbrev Within : {A : Type 0} → ℕ → World → Op (A × World) → Type 0
Within n world (op.Done new) = length new.1 ≤ length world + n
Within n world _ = Unit {0}

record Makes {A : Type 0} (n : ℕ) (world : World) (run : Costing (A × World)) : Type 0 where
  within : (left : ℕ) → Within n world (run left).0

counted : {A : Type 0} (n : ℕ) (world : World) (left : ℕ) (answer : Op (A × World)) (after : ℕ) → Within n world answer → after ≤ left → Counted n world left answer after
counted n world left (op.Done new) after h le = omega (arith, h, le)
counted n world left (op.Raises class) after h le = le
counted n world left (op.Leaves construct) after h le = le
counted n world left op.OutOfSteps after h le = le
counted n world left op.Memory after h le = le

counted_by : {A : Type 0} (n : ℕ) (world : World) (left : ℕ) (run : Costing (A × World)) → Makes n world run → Frugal run → Counted n world left (run left).0 (run left).1
counted_by n world left run h k = counted n world left (run left).0 (run left).1 (h.within left) (k.frugal left)

module _ {n : ℕ} {A : Type 0} (world : World) where
  makes_done : (a : A) (after : World) → length after ≤ length world + n → Makes n world (done (a, after))
  makes_done a after le = record { within = λ left. le }

  makes_written : (a : A) (id : ObjId) (o : Object) → Makes n world (done (a, with_object world id o))
  makes_written a id o = makes_done a (with_object world id o) (let same = length_set world id.0 o in omega (arith, same))

  makes_raises : (class : BuiltClass) → Makes {A = A} n world (raises class)
  makes_raises class = record { within = λ left. tt }

  makes_leaves : (why : Construct) → Makes {A = A} n world (leaves why)
  makes_leaves why = record { within = λ left. tt }

  makes_costs : (k : ℕ) (run : Costing (A × World)) → Makes n world run → Makes n world (costs k run)
  makes_costs k run h = record { within = λ left. chosen (nat_le k left) left }
    where
      chosen : (b : Bool) (left : ℕ) → Within n world (if b then run (left - k) else (op.OutOfSteps, left)).0
      chosen true left = h.within (left - k)
      chosen false left = tt

  makes_if : (b : Bool) (x y : Costing (A × World)) → Makes n world x → Makes n world y → Makes n world (if b then x else y)
  makes_if true x y h k = h
  makes_if false x y h k = k

  makes_if_at : (b : Bool) (x y : Change World A) → Makes n world (x world) → Makes n world (y world) → Makes n world ((if b then x else y) world)
  makes_if_at true x y h k = h
  makes_if_at false x y h k = k

  makes_then : {B : Type 0} (run : Costing B) (next : B → Costing (A × World)) → ((b : B) → Makes n world (next b)) → Makes n world (run >>= next)
  makes_then {B} run next h = record { within = λ left. on (run left).0 (run left).1 }
    where
      on : (answer : Op B) (left : ℕ) → Within n world (go_on answer left next).0
      on (op.Done b) left = (h b).within left
      on (op.Raises class) left = tt
      on (op.Leaves construct) left = tt
      on op.OutOfSteps left = tt
      on op.Memory left = tt

  makes_aside : (run : Costing A) → Frugal run → Makes n world (aside run world)
  makes_aside run h = makes_then run _ (λ a. makes_done a world (omega arith))

  makes_for_key : (key : Op (Unit {0})) (run : Costing (A × World)) → Makes n world run → Makes n world (for_key key run)
  makes_for_key (op.Done _) run h = h
  makes_for_key (op.Raises class) run h = record { within = λ left. tt }
  makes_for_key (op.Leaves construct) run h = record { within = λ left. tt }
  makes_for_key op.OutOfSteps run h = record { within = λ left. tt }
  makes_for_key op.Memory run h = record { within = λ left. tt }

  makes_in_machine : (z : Option ℤ) (next : ℤ → Costing (A × World)) → ((z : ℤ) → Makes n world (next z)) → Makes n world (in_machine z next)
  makes_in_machine None next h = makes_raises _
  makes_in_machine (Some z) next h = makes_if _ _ _ (h z) (makes_leaves _)

  on_object_makes : (id : ObjId) (change : Change Object A) → Makes n world (on_object id change world)
  on_object_makes id change = makes_then (change (object_at world id)) _ (λ new. makes_written new.0 id new.1)

  -- what follows a change
  makes_after : {B : Type 0} (m : ℕ) (run : Costing (B × World)) (next : B × World → Costing (A × World)) → Makes m world run → ((new : B × World) → length new.1 ≤ length world + m → Makes n world (next new)) → Makes n world (run >>= next)
  makes_after {B} m run next h k = record { within = λ left. on (run left).0 (run left).1 (h.within left) }
    where
      on : (answer : Op (B × World)) (left : ℕ) → Within m world answer → Within n world (go_on answer left next).0
      on (op.Done new) left le = (k new le).within left
      on (op.Raises class) left le = tt
      on (op.Leaves construct) left le = tt
      on op.OutOfSteps left le = tt
      on op.Memory left le = tt

leaves_within : {A : Type 0} (n : ℕ) (held : Pairs) (world : World) (answer : Op (A × World)) → Within n world answer → Within n world (unhashable_leaves held answer)
leaves_within n [] world (op.Raises TypeError) h = tt
leaves_within n [] world (op.Raises _) h = tt
leaves_within n [] world (op.Done new) h = h
leaves_within n [] world (op.Leaves construct) h = tt
leaves_within n [] world op.OutOfSteps h = tt
leaves_within n [] world op.Memory h = tt
leaves_within n (pair ∷ held) world answer h = h

module _ {n : ℕ} where
  giving_makes : {A B : Type 0} (b : B) (change : Change World A) (world : World) → Makes n world (change world) → Makes n world (answering b change world)
  giving_makes b change world h = makes_after world n (change world) _ h (λ new le. makes_done world b new.1 le)

  as_value_makes : (run : Costing (ObjId × World)) (world : World) → Makes n world run → Makes n world (run >>= (λ new. done (as_value new)))
  as_value_makes run world h = makes_after world n run _ h (λ new le. makes_done world (v.Ref new.0) new.1 le)

  extend_makes : (list : ObjId) (items : List Value) (world : World) → Makes n world (list_extend list items world)
  extend_makes list items world = makes_costs world _ _ (makes_written world (tt {0}) list _)

  reverse_makes : (list : ObjId) (world : World) → Makes n world (list_reverse list world)
  reverse_makes list world = makes_costs world _ _ (makes_written world (tt {0}) list _)

  remove_makes : (list : ObjId) (at : ℤ) (world : World) → Makes n world (list_remove_free list at world)
  remove_makes list at world = on_object_makes world list (remove_item at)

  removed_makes : (list : ObjId) (place : Option ℕ) (world : World) → Makes n world (removed list place world)
  removed_makes list None world = makes_raises world _
  removed_makes list (Some at) world = giving_makes v.None (list_remove_free list (pos at)) world (remove_makes list (pos at) world)

  delete_makes : (dict : ObjId) (key : Value) (world : World) → Makes n world (dict_delete dict key world)
  delete_makes dict key world = makes_costs world _ _ (makes_for_key world (as_key world key) _ (on_object_makes world dict (delete_pair key)))

  default_makes : (dict : ObjId) (key other : Value) (world : World) → Makes n world (set_default dict key other world)
  default_makes dict key other world = record { within = λ left. by (dict_get dict key world left).0 }
    where
      by : (answer : Op Value) → Within n world (where_missing (other, dict_put_free dict key other world) (with_value world answer))
      by (op.Done found) = omega arith
      by (op.Raises KeyError) = let same = length_set world dict.0 (put_pair key other (object_at world dict)) in omega (arith, same)
      by (op.Raises _) = tt
      by (op.Leaves construct) = tt
      by op.OutOfSteps = tt
      by op.Memory = tt

  pop_makes : (dict : ObjId) (key : Value) (world : World) → Makes n world (pop_key dict key world)
  pop_makes dict key world = record { within = λ left. leaves_within n (pairs world dict) world (dict_delete dict key world left).0 ((delete_makes dict key world).within left) }

  pop_or_makes : (dict : ObjId) (key other : Value) (world : World) → Makes n world (pop_or dict key other world)
  pop_or_makes dict key other world = record { within = λ left. by (pop_key dict key world left).0 ((pop_makes dict key world).within left) }
    where
      by : (answer : Op (Value × World)) → Within n world answer → Within n world (where_missing (other, world) answer)
      by (op.Done new) h = h
      by (op.Raises KeyError) h = omega arith
      by (op.Raises _) h = tt
      by (op.Leaves construct) h = tt
      by op.OutOfSteps h = tt
      by op.Memory h = tt

  -- ---- stores and deletions

  number_makes : {A : Type 0} (z : Option ℤ) (change : ℤ → Change World A) (world : World) → ((z : ℤ) → Makes n world (change z world)) → Makes n world (at_number z change world)
  number_makes None change world h = makes_aside world _ (frugal_raises _)
  number_makes (Some z) change world h = h z

  put_object_makes : (id : ObjId) (held : ObjKind) (at new : Value) (world : World) → Makes n world (put_in_object id held at new world)
  put_object_makes id kind.List at new world = number_makes (number_of (out-Value at)) _ world (λ z. on_object_makes world id (set_item z new))
  put_object_makes id kind.Dict at new world = makes_costs world _ _ (makes_for_key world (as_key world at) _ (makes_written world (tt {0}) id _))
  put_object_makes id (kind.Instance class) at new world = makes_aside world _ (frugal_raises _)

  put_in_makes : (of : Value-F Value) (at new : Value) (world : World) → Makes n world (put_in of at new world)
  put_in_makes (Value-F.Ref id) at new world = put_object_makes id (kind_of (object_at world id)) at new world
  put_in_makes _ at new world = makes_raises world _

  put_makes : (of at new : Value) (world : World) → Makes n world (put_item of at new world)
  put_makes of at new world = makes_if_at world (is_view (out-Value of) || is_view (out-Value at)) (aside (leaves construct.View)) (put_in (out-Value of) at new) (makes_aside world _ (frugal_leaves _)) (put_in_makes (out-Value of) at new world)

  delete_object_makes : (id : ObjId) (held : ObjKind) (at : Value) (world : World) → Makes n world (delete_in_object id held at world)
  delete_object_makes id kind.List at world = makes_costs world _ _ (number_makes (number_of (out-Value at)) _ world (λ z. giving_makes (tt {0}) (list_remove_free id z) world (remove_makes id z world)))
  delete_object_makes id kind.Dict at world = giving_makes (tt {0}) (dict_delete id at) world (delete_makes id at world)
  delete_object_makes id (kind.Instance class) at world = makes_aside world _ (frugal_raises _)

  delete_in_makes : (of : Value-F Value) (at : Value) (world : World) → Makes n world (delete_in of at world)
  delete_in_makes (Value-F.Ref id) at world = delete_object_makes id (kind_of (object_at world id)) at world
  delete_in_makes _ at world = makes_raises world _

  delete_item_makes : (of at : Value) (world : World) → Makes n world (delete_item of at world)
  delete_item_makes of at world = makes_if_at world (is_view (out-Value of) || is_view (out-Value at)) (aside (leaves construct.View)) (delete_in (out-Value of) at) (makes_aside world _ (frugal_leaves _)) (delete_in_makes (out-Value of) at world)

-- ---- what makes one object

made_makes : (o : Object) (world : World) → Makes 1 world (done (made o world))
made_makes o world = makes_done world _ _ (let longer = length-append world (o ∷ []) in omega (arith, longer))

new_value_makes : (o : Object) (world : World) → Makes 1 world (done (as_value (made o world)))
new_value_makes o world = makes_done world _ _ (let longer = length-append world (o ∷ []) in omega (arith, longer))

list_makes : (items : List Value) (world : World) → Makes 1 world (make_list items world)
list_makes items world = makes_costs world _ _ (made_makes (object.List items) world)

dict_makes : (held : Pairs) (world : World) → Makes 1 world (make_dict held world)
dict_makes held world = makes_costs world _ _ (makes_for_key world (all_keys (map (λ pair. as_key world pair.0) held)) _ (made_makes (put_all held (object.Dict [] 0)) world))

copy_makes : (dict : ObjId) (world : World) → Makes 1 world (dict_copy dict world)
copy_makes dict world = makes_costs world _ _ (made_makes _ world)

add_refs_makes : (i j : ObjId) (world : World) → Makes 1 world (add_refs i j world)
add_refs_makes i j world = makes_if world _ _ _ (makes_costs world _ _ (new_value_makes _ world)) (makes_raises world _)

add_values_makes : (a b : Value-F Value) (world : World) → Makes 1 world (add_values a b world)
add_values_makes (Value-F.Str s) (Value-F.Str t) world = makes_aside world _ (frugal_add_texts s t)
add_values_makes (Value-F.Tuple s) (Value-F.Tuple t) world = makes_aside world _ (frugal_add_tuples s.parts t.parts)
add_values_makes (Value-F.Ref i) (Value-F.Ref j) world = add_refs_makes i j world
add_values_makes a b world = makes_aside world _ (frugal_add_numbers (number_of a) (number_of b))

add_makes : (a b : Value) (world : World) → Makes 1 world (add a b world)
add_makes a b world = makes_if_at world (is_view (out-Value a) || is_view (out-Value b)) (λ world. leaves construct.View) (add_values (out-Value a) (out-Value b)) (makes_leaves world _) (add_values_makes (out-Value a) (out-Value b) world)

repeat_makes : (id : ObjId) (z : Option ℤ) (world : World) → Makes 1 world (repeat_ref id z world)
repeat_makes id z world = makes_if world _ _ _ (makes_in_machine world z _ (λ z. makes_costs world _ _ (new_value_makes _ world))) (makes_raises world _)

multiply_number_makes : (z : Option ℤ) (b : Value-F Value) (world : World) → Makes 1 world (multiply_number z b world)
multiply_number_makes z (Value-F.Str s) world = makes_aside world _ (frugal_in_machine z (repeated_text s) (frugal_repeated_text s))
multiply_number_makes z (Value-F.Tuple tuple) world = makes_aside world _ (frugal_in_machine z (repeated_tuple tuple.parts) (frugal_repeated_tuple tuple.parts))
multiply_number_makes z (Value-F.Ref id) world = repeat_makes id z world
multiply_number_makes z b world = makes_aside world _ (frugal_by_numbers product frugal_product z (number_of b))

multiply_makes : (a b : Value-F Value) (world : World) → Makes 1 world (multiply_values a b world)
multiply_makes (Value-F.Str s) b world = makes_aside world _ (frugal_in_machine (number_of b) (repeated_text s) (frugal_repeated_text s))
multiply_makes (Value-F.Tuple tuple) b world = makes_aside world _ (frugal_in_machine (number_of b) (repeated_tuple tuple.parts) (frugal_repeated_tuple tuple.parts))
multiply_makes (Value-F.Ref id) b world = repeat_makes id (number_of b) world
multiply_makes a b world = multiply_number_makes (number_of a) b world

binary_values_makes : (op : BinOp) (a b : Value-F Value) (world : World) → Makes 1 world (binary_values op a b world)
binary_values_makes Add a b world = add_values_makes a b world
binary_values_makes Sub a b world = makes_aside world _ (frugal_by_numbers difference frugal_difference (number_of a) (number_of b))
binary_values_makes Mul a b world = multiply_makes a b world
binary_values_makes FloorDiv a b world = makes_aside world _ (frugal_by_numbers quotient frugal_quotient (number_of a) (number_of b))
binary_values_makes Mod a b world = makes_aside world _ (frugal_rest_of_values a b)

binary_makes : (op : BinOp) (a b : Value) (world : World) → Makes 1 world (binary op a b world)
binary_makes op a b world = makes_if_at world (is_view (out-Value a) || is_view (out-Value b)) (aside (leaves construct.View)) (binary_values op (out-Value a) (out-Value b)) (makes_aside world _ (frugal_leaves _)) (binary_values_makes op (out-Value a) (out-Value b) world)

augment_at_makes : (list : Option ObjId) (op : BinOp) (a b : Value) (world : World) → Makes 1 world (augment_at list op a b world)
augment_at_makes (Some list) Add a b world = makes_then world (walk world b) _ (λ items. makes_written world (v.Ref list) list _)
augment_at_makes (Some list) Mul a b world = makes_if world _ _ _ (makes_leaves world _) (makes_in_machine world (number_of (out-Value b)) _ (λ z. makes_costs world _ _ (makes_written world (v.Ref list) list _)))
augment_at_makes list op a b world = binary_makes op a b world

slice_of_makes : (of : Value-F Value) (low high : Option (Option ℤ)) (world : World) → Makes 1 world (slice_of of low high world)
slice_of_makes (Value-F.Class class) low high world = makes_aside world _ (frugal_leaves _)
slice_of_makes (Value-F.Str s) (Some low) (Some high) world = makes_aside world _ (frugal_cut_text (cut low high s))
slice_of_makes (Value-F.Tuple tuple) (Some low) (Some high) world = makes_aside world _ (frugal_cut_tuple (cut low high tuple.parts))
slice_of_makes (Value-F.Ref id) (Some low) (Some high) world = makes_if world _ _ _ (makes_costs world _ _ (new_value_makes _ world)) (makes_raises world _)
slice_of_makes _ low high world = makes_aside world _ (frugal_raises _)

slice_makes : (of low high : Value) (world : World) → Makes 1 world (slice of low high world)
slice_makes of low high world = makes_if_at world (is_view (out-Value of) || (is_view (out-Value low) || is_view (out-Value high))) (aside (leaves construct.View)) (slice_of (out-Value of) (bound (out-Value low)) (bound (out-Value high))) (makes_aside world _ (frugal_leaves _)) (slice_of_makes (out-Value of) (bound (out-Value low)) (bound (out-Value high)) world)

-- ---- methods

split_makes : (by : Value-F Value) (s : List ℕ) (world : World) → Makes 1 world (split_by by s world)
split_makes Value-F.None s world = makes_costs world _ _ (makes_if world (is_ascii s) _ _ (new_value_makes _ world) (makes_leaves world _))
split_makes (Value-F.Str []) s world = makes_costs world _ _ (makes_raises world _)
split_makes (Value-F.Str (c ∷ part)) s world = makes_costs world _ _ (new_value_makes _ world)
split_makes _ s world = makes_costs world _ _ (makes_raises world _)

text_method_makes : (method : TextMethod) (s : List ℕ) (args : List Value) (world : World) → Makes 1 world (text_method method s args world)
text_method_makes of_text.Upper s [] world = makes_aside world _ (frugal_of_ascii s (text (map upper s)) (frugal_text (map upper s)))
text_method_makes of_text.Lower s [] world = makes_aside world _ (frugal_of_ascii s (text (map lower s)) (frugal_text (map lower s)))
text_method_makes of_text.IsDigit s [] world = makes_aside world _ (frugal_of_ascii s (done (v.Bool (are_digits s))) (frugal_done _))
text_method_makes of_text.Strip s [] world = makes_aside world _ (frugal_strip_by Value-F.None s)
text_method_makes of_text.Strip s (x ∷ []) world = makes_aside world _ (frugal_strip_by (out-Value x) s)
text_method_makes of_text.Split s [] world = split_makes Value-F.None s world
text_method_makes of_text.Split s (x ∷ []) world = split_makes (out-Value x) s world
text_method_makes of_text.Split s (x ∷ (most ∷ [])) world = makes_aside world _ (frugal_leaves _)
text_method_makes of_text.Join s (x ∷ []) world = makes_aside world _ (frugal_join_walked s x world)
text_method_makes of_text.StartsWith s (x ∷ []) world = makes_aside world _ (frugal_test_by (begins_with s) (out-Value x))
text_method_makes of_text.StartsWith s (x ∷ (start ∷ [])) world = makes_aside world _ (frugal_leaves _)
text_method_makes of_text.StartsWith s (x ∷ (start ∷ (stop ∷ []))) world = makes_aside world _ (frugal_leaves _)
text_method_makes of_text.EndsWith s (x ∷ []) world = makes_aside world _ (frugal_test_by (finishes_with s) (out-Value x))
text_method_makes of_text.EndsWith s (x ∷ (start ∷ [])) world = makes_aside world _ (frugal_leaves _)
text_method_makes of_text.EndsWith s (x ∷ (start ∷ (stop ∷ []))) world = makes_aside world _ (frugal_leaves _)
text_method_makes of_text.Replace s (part ∷ (new ∷ [])) world = makes_aside world _ (frugal_replace_by (out-Value part) (out-Value new) s)
text_method_makes of_text.Replace s (part ∷ (new ∷ (most ∷ []))) world = makes_aside world _ (frugal_leaves _)
text_method_makes of_text.Find s (x ∷ []) world = makes_aside world _ (frugal_find_by (out-Value x) s)
text_method_makes of_text.Find s (x ∷ (start ∷ [])) world = makes_aside world _ (frugal_leaves _)
text_method_makes of_text.Find s (x ∷ (start ∷ (stop ∷ []))) world = makes_aside world _ (frugal_leaves _)
text_method_makes _ s _ world = makes_aside world _ (frugal_raises _)

list_method_makes : (method : ListMethod) (list : ObjId) (args : List Value) (world : World) → Makes 1 world (list_method method list args world)
list_method_makes of_list.Append list (x ∷ []) world = giving_makes v.None (list_extend list (x ∷ [])) world (extend_makes list (x ∷ []) world)
list_method_makes of_list.Pop list [] world = makes_costs world 1 _ (remove_makes list (negsuc 0) world)
list_method_makes of_list.Pop list (at ∷ []) world = makes_costs world _ _ (makes_in_machine world (number_of (out-Value at)) _ (λ n. remove_makes list n world))
list_method_makes of_list.Insert list (at ∷ (x ∷ [])) world = makes_costs world _ _ (makes_in_machine world (number_of (out-Value at)) _ (λ n. makes_written world v.None list _))
list_method_makes of_list.Extend list (x ∷ []) world = makes_then world (walk world x) _ (λ items. makes_written world v.None list _)
list_method_makes of_list.Remove list (x ∷ []) world = makes_costs world _ _ (makes_then world (equal_place 0 world x 0 (elements world list)) _ (λ place. removed_makes list place world))
list_method_makes of_list.Index list (x ∷ []) world = makes_aside world _ (frugal_index_equal list x world)
list_method_makes of_list.Index list (x ∷ (start ∷ [])) world = makes_aside world _ (frugal_leaves _)
list_method_makes of_list.Index list (x ∷ (start ∷ (stop ∷ []))) world = makes_aside world _ (frugal_leaves _)
list_method_makes of_list.Count list (x ∷ []) world = makes_aside world _ (frugal_count_equal list x world)
list_method_makes of_list.Clear list [] world = makes_costs world _ _ (makes_written world v.None list _)
list_method_makes of_list.Copy list [] world = as_value_makes _ world (list_makes (elements world list) world)
list_method_makes of_list.Reverse list [] world = giving_makes v.None (list_reverse list) world (reverse_makes list world)
list_method_makes _ list _ world = makes_aside world _ (frugal_raises _)

dict_method_makes : (method : DictMethod) (dict : ObjId) (args : List Value) (world : World) → Makes 1 world (dict_method method dict args world)
dict_method_makes of_dict.Get dict (key ∷ []) world = makes_aside world _ (frugal_get_or dict key v.None world)
dict_method_makes of_dict.Get dict (key ∷ (other ∷ [])) world = makes_aside world _ (frugal_get_or dict key other world)
dict_method_makes of_dict.SetDefault dict (key ∷ []) world = default_makes dict key v.None world
dict_method_makes of_dict.SetDefault dict (key ∷ (other ∷ [])) world = default_makes dict key other world
dict_method_makes of_dict.Pop dict (key ∷ []) world = pop_makes dict key world
dict_method_makes of_dict.Pop dict (key ∷ (other ∷ [])) world = pop_or_makes dict key other world
dict_method_makes of_dict.Keys dict [] world = makes_aside world _ (frugal_done _)
dict_method_makes of_dict.Values dict [] world = makes_aside world _ (frugal_done _)
dict_method_makes of_dict.Items dict [] world = makes_aside world _ (frugal_done _)
dict_method_makes of_dict.Clear dict [] world = makes_costs world _ _ (makes_written world v.None dict _)
dict_method_makes of_dict.Copy dict [] world = as_value_makes _ world (copy_makes dict world)
dict_method_makes _ dict _ world = makes_aside world _ (frugal_raises _)

no_method_makes : (left : List (List ℕ)) (name : List ℕ) (world : World) → Makes 1 world (no_method left name world)
no_method_makes left name world = makes_if_at world (is_among left name) (aside (leaves construct.Method)) (aside (raises AttributeError)) (makes_aside world _ (frugal_leaves _)) (makes_aside world _ (frugal_raises _))

by_method_makes : {M : Type 0} (left : List (List ℕ)) (name : List ℕ) (row : M → Change World Value) (found : Option M) (world : World) → ((method : M) → Makes 1 world (row method world)) → Makes 1 world (by_method left name row found world)
by_method_makes left name row None world h = no_method_makes left name world
by_method_makes left name row (Some method) world h = h method

object_method_makes : (held : ObjKind) (id : ObjId) (name : List ℕ) (args : List Value) (world : World) → Makes 1 world (call_on_object held id name args world)
object_method_makes kind.List id name args world = by_method_makes left_of_list name _ (named list_methods name) world (λ method. list_method_makes method id args world)
object_method_makes kind.Dict id name args world = by_method_makes left_of_dict name _ (named dict_methods name) world (λ method. dict_method_makes method id args world)
object_method_makes (kind.Instance class) id name args world = makes_aside world _ (frugal_raises _)

value_method_makes : (x : Value-F Value) (name : List ℕ) (args : List Value) (world : World) → Makes 1 world (call_on_value x name args world)
value_method_makes (Value-F.Str s) name args world = by_method_makes left_of_text name _ (named text_methods name) world (λ method. text_method_makes method s args world)
value_method_makes (Value-F.Ref id) name args world = object_method_makes (kind_of (object_at world id)) id name args world
value_method_makes (Value-F.Tuple parts) name args world = no_method_makes left_of_tuple name world
value_method_makes (Value-F.Int n) name args world = no_method_makes left_of_integer name world
value_method_makes (Value-F.Bool b) name args world = no_method_makes left_of_integer name world
value_method_makes (Value-F.View view) name args world = makes_leaves world _
value_method_makes _ name args world = makes_raises world _

-- ---- built-in functions; a sum makes an object for each element at most, which the walk has paid

add_all_makes : (total : Value) (items : List Value) (world : World) → Makes (length items) world (add_all total items world)
add_all_makes total [] world = makes_done world total world (omega arith)
add_all_makes total (x ∷ xs) world = makes_after world 1 (add total x world) _ (add_makes total x world) (λ new le. shifted new le (add_all_makes new.0 xs new.1))
  where
    wider : (new : Value × World) (answer : Op (Value × World)) → length new.1 ≤ length world + 1 → Within (length xs) new.1 answer → Within (suc (length xs)) world answer
    wider new (op.Done last) le h = omega (arith, le, h)
    wider new (op.Raises class) le h = tt
    wider new (op.Leaves construct) le h = tt
    wider new op.OutOfSteps le h = tt
    wider new op.Memory le h = tt

    shifted : (new : Value × World) → length new.1 ≤ length world + 1 → Makes (length xs) new.1 (add_all new.0 xs new.1) → Makes (suc (length xs)) world (add_all new.0 xs new.1)
    shifted new le h = record { within = λ left. wider new (add_all new.0 xs new.1 left).0 le (h.within left) }

abbrev Pays : ℕ → Op (List Value) → ℕ → Type 0
Pays left (op.Done items) after = after + length items ≤ left
Pays left _ after = after ≤ left

walk_pays : (found : Option (List Value)) (made : Bool) (left : ℕ) → Pays left (walk_over made found left).0 (walk_over made found left).1
walk_pays None made left = omega arith
walk_pays (Some items) made left = by_steps (nat_le (length items) left) refl
  where
    le_of : (a b : ℕ) → nat_le a b ≡ true → a ≤ b
    le_of a b e = grind (arith, nat_tests)

    by_depth : (b : Bool) → length items ≤ left → Pays left ((if b then done items else leaves construct.TupleDepth) (left - length items)).0 ((if b then done items else leaves construct.TupleDepth) (left - length items)).1
    by_depth true le = omega (arith, le)
    by_depth false le = omega (arith, le)

    by_steps : (b : Bool) → nat_le (length items) left ≡ b → Pays left (if b then taken made items (left - length items) else (op.OutOfSteps, left)).0 (if b then taken made items (left - length items) else (op.OutOfSteps, left)).1
    by_steps true e = by_depth (not made || shallow items) (le_of (length items) left e)
    by_steps false e = omega arith

-- what was paid before
paid_before : {A : Type 0} (k : ℕ) (world : World) (left after : ℕ) (answer : Op (A × World)) (last : ℕ) → after + k ≤ left → Counted k world after answer last → Counted 1 world left answer last
paid_before k world left after (op.Done new) last le h = omega (arith, le, h)
paid_before k world left after (op.Raises class) last le h = omega (arith, le, h)
paid_before k world left after (op.Leaves construct) last le h = omega (arith, le, h)
paid_before k world left after op.OutOfSteps last le h = omega (arith, le, h)
paid_before k world left after op.Memory last le h = omega (arith, le, h)

sum_counted : (x start : Value) (world : World) (left : ℕ) → Counted 1 world left (sum_of x start world left).0 (sum_of x start world left).1
sum_counted x start world left = summed (walk world x left).0 (walk world x left).1 (walk_pays (walked world x) (gives_new_tuples (out-Value x)) left)
  where
    added : (items : List Value) (after : ℕ) → after + length items ≤ left → Counted 1 world left (add_all start items world after).0 (add_all start items world after).1
    added items after le = paid_before (length items) world left after _ _ le (counted_by (length items) world after (add_all start items world) (add_all_makes start items world) (frugal_add_all start items world))

    by_start : (first : Value-F Value) (items : List Value) (after : ℕ) → after + length items ≤ left → Counted 1 world left (add_all_to first start items world after).0 (add_all_to first start items world after).1
    by_start (Value-F.Str s) items after le = omega (arith, le)
    by_start _ items after le = added items after le

    summed : (answer : Op (List Value)) (after : ℕ) → Pays left answer after → Counted 1 world left (go_on answer after (λ items. add_all_to (out-Value start) start items world)).0 (go_on answer after (λ items. add_all_to (out-Value start) start items world)).1
    summed (op.Done items) after le = by_start (out-Value start) items after le
    summed (op.Raises class) after le = le
    summed (op.Leaves construct) after le = le
    summed op.OutOfSteps after le = le
    summed op.Memory after le = le

sum_row_counted : (args : List Value) (world : World) (left : ℕ) → Counted 1 world left (sum_row args world left).0 (sum_row args world left).1
sum_row_counted [] world left = omega arith
sum_row_counted (x ∷ []) world left = sum_counted x (v.Int (pos 0)) world left
sum_row_counted (x ∷ start ∷ []) world left = sum_counted x start world left
sum_row_counted (x ∷ start ∷ y ∷ rest) world left = omega arith

listed_makes : (new_tuples : Bool) (items : Option (List Value)) (world : World) → Makes 1 world (listed new_tuples items world)
listed_makes new_tuples None world = makes_raises world _
listed_makes new_tuples (Some items) world = makes_if world _ _ _ (makes_leaves world _) (makes_costs world _ _ (new_value_makes _ world))

list_row_makes : (args : List Value) (world : World) → Makes 1 world (list_row args world)
list_row_makes [] world = new_value_makes _ world
list_row_makes (x ∷ []) world = listed_makes (gives_new_tuples (out-Value x)) (walked world x) world
list_row_makes (x ∷ y ∷ rest) world = makes_raises world _

dict_object_makes : (held : ObjKind) (id : ObjId) (world : World) → Makes 1 world (dict_of_object held id world)
dict_object_makes kind.Dict id world = as_value_makes _ world (copy_makes id world)
dict_object_makes kind.List id world = makes_leaves world _
dict_object_makes (kind.Instance class) id world = makes_leaves world _

dict_value_makes : (x : Value-F Value) (world : World) → Makes 1 world (dict_of_value x world)
dict_value_makes (Value-F.Ref id) world = dict_object_makes (kind_of (object_at world id)) id world
dict_value_makes _ world = makes_leaves world _

dict_row_makes : (args : List Value) (world : World) → Makes 1 world (dict_row args world)
dict_row_makes [] world = as_value_makes _ world (dict_makes [] world)
dict_row_makes (x ∷ []) world = dict_value_makes (out-Value x) world
dict_row_makes (x ∷ y ∷ rest) world = makes_raises world _

builtin_counted : (builtin : Builtin) (args : List Value) (world : World) (left : ℕ) → Counted 1 world left (call_builtin builtin args world left).0 (call_builtin builtin args world left).1
builtin_counted builtin.Len args world left = counted_by 1 world left _ (makes_aside world _ (frugal_len_row args world)) (frugal_call_builtin builtin.Len args world)
builtin_counted builtin.Abs args world left = counted_by 1 world left _ (makes_aside world _ (frugal_abs_row args)) (frugal_call_builtin builtin.Abs args world)
builtin_counted builtin.Min args world left = counted_by 1 world left _ (makes_aside world _ (frugal_best_row (is_less_than world) (λ z1 z2. frugal_is_less_than world z1 z2) args world)) (frugal_call_builtin builtin.Min args world)
builtin_counted builtin.Max args world left = counted_by 1 world left _ (makes_aside world _ (frugal_best_row (is_more_than world) (λ z1 z2. frugal_is_more_than world z1 z2) args world)) (frugal_call_builtin builtin.Max args world)
builtin_counted builtin.Sum args world left = sum_row_counted args world left
builtin_counted builtin.Str args world left = counted_by 1 world left _ (makes_aside world _ (frugal_str_row args world)) (frugal_call_builtin builtin.Str args world)
builtin_counted builtin.Int args world left = counted_by 1 world left _ (makes_aside world _ (frugal_int_row args)) (frugal_call_builtin builtin.Int args world)
builtin_counted builtin.Bool args world left = counted_by 1 world left _ (makes_aside world _ (frugal_bool_row args world)) (frugal_call_builtin builtin.Bool args world)
builtin_counted builtin.List args world left = counted_by 1 world left _ (list_row_makes args world) (frugal_call_builtin builtin.List args world)
builtin_counted builtin.Tuple args world left = counted_by 1 world left _ (makes_aside world _ (frugal_tuple_row args world)) (frugal_call_builtin builtin.Tuple args world)
builtin_counted builtin.Dict args world left = counted_by 1 world left _ (dict_row_makes args world) (frugal_call_builtin builtin.Dict args world)
builtin_counted builtin.Range args world left = counted_by 1 world left _ (makes_aside world _ (frugal_range_row args)) (frugal_call_builtin builtin.Range args world)
builtin_counted builtin.Isinstance args world left = counted_by 1 world left _ (makes_aside world _ (frugal_leaves _)) (frugal_call_builtin builtin.Isinstance args world)
builtin_counted builtin.Print args world left = counted_by 1 world left _ (makes_aside world _ (frugal_done _)) (frugal_call_builtin builtin.Print args world)
builtin_counted builtin.Object args world left = counted_by 1 world left _ (makes_aside world _ (frugal_leaves _)) (frugal_call_builtin builtin.Object args world)

pub counts : Counts
counts = record {
  binaries = λ op x y world left. counted_by 1 world left (binary op x y world) (binary_makes op x y world) (frugal_binary op x y world);
  augmented = λ op x y world left. counted_by 1 world left (augment op x y world) (augment_at_makes (list_named world (out-Value x)) op x y world) (frugal_augment op x y world);
  puts = λ of at x world left. counted_by 0 world left (put_item of at x world) (put_makes of at x world) (frugal_put_item of at x world);
  deletes = λ of at world left. counted_by 0 world left (delete_item of at world) (delete_item_makes of at world) (frugal_delete_item of at world);
  slices = λ of low high world left. counted_by 1 world left (slice of low high world) (slice_makes of low high world) (frugal_slice of low high world);
  lists = λ items world left. counted_by 1 world left (make_list items world) (list_makes items world) (frugal_make_list items world);
  dict = λ held world left. counted_by 1 world left (make_dict held world) (dict_makes held world) (frugal_make_dict held world);
  builtins = builtin_counted;
  methods = λ receiver name args world left. counted_by 1 world left (call_method receiver name args world) (value_method_makes (out-Value receiver) name args world) (frugal_call_method receiver name args world);
}
