-- Operators on sound values: what they give is sound, and so is the world after them.
use Rattle.std.proofs.Common.{◌≡◌, ℕ, zero, suc, Bool, true, false, ◌||◌, if◌then◌else◌, List, [], ◌∷◌, refl, sym, length, drop, ℤ, Option, Some, None, ◌-◌, ◌*◌}
use Rattle.std.specs.Prelude.{IsTrue, ◌-ℤ◌, ◌*ℤ◌, pos, slice_get}
use Rattle.std.specs.List.{list_all, repeat}
use Rattle.std.specs.Ordering.{int_eq}
use Rattle.pyn_base.specs.Int.{in_range}
use Rattle.pyn_base.specs.declared.class.BuiltClass.TheVariants.{ZeroDivisionError, TypeError}
use Rattle.pyn_base.specs.declared.construct.Construct.TheVariants as construct
use Rattle.pyn_base.specs.declared.ids.ObjId.{ObjId}
use Rattle.py_syntax.specs.declared.operator.BinOp.{BinOp}
use Rattle.py_syntax.specs.declared.operator.BinOp.TheVariants.{Add, Sub, Mul, FloorDiv, Mod}
use Rattle.py_meaning.specs.declared.object.Object.TheVariants as object
use Rattle.py_meaning.specs.declared.object.ObjKind.{ObjKind}
use Rattle.py_meaning.specs.declared.object.ObjKind.TheVariants as kind
use Rattle.py_meaning.specs.declared.value.Value.{Value, Value-F, out-Value}
use Rattle.py_meaning.specs.declared.value.Value.TheVariants as value
use Rattle.py_meaning.specs.declared.value.Value.TheVariants.{outs-Ref}
use Rattle.py_meaning.specs.Steps.{Costing, Change, aside, done, raises, leaves, answering}
use Rattle.py_meaning.specs.Values.{number_of, is_view, at_place}
use Rattle.py_meaning.specs.Worlds.{World, object_at, elements, sound, sound_world, dicts}
use Rattle.py_meaning.specs.Walk.{walk}
use Rattle.py_meaning.specs.Operations.{made, kind_of, set_elements, index_place, list_set, list_extend_free, list_remove_free, dict_delete}
use Rattle.py_meaning.specs.Sums.{is_list, as_value}
use Rattle.py_meaning.specs.Arithmetic.{by_numbers, difference, product, quotient, rest, in_machine, count_or_zero, repeated_text, repeated_tuple, repeated_list, repeat_ref, multiply_number, multiply_values, rest_of_values}
use Rattle.py_meaning.specs.Operators.{binary, binary_values, augment, augment_at, extend_list, repeat_in_place, repeat_list, list_named}
use Rattle.py_meaning.specs.Subscripts.{indexed, or_index_error, item_of, item_of_object, get_item, at_number, put_in_object, put_in, put_item, delete_in_list, delete_in_object, delete_in, delete_item, bound, bound_place, cut, cut_text, cut_tuple, cut_list, cut_ref, slice_of, slice}
use Rattle.py_meaning.specs.SoundRuns.{AllFit, Answering, Fits, Gives, Holds, WorldSound}
use Rattle.py_meaning.proofs.Soundness.{all_join, all_take, all_drop, all_got}
use Rattle.py_meaning.specs.Outcomes.{gives_asked, gives_costs, gives_if, gives_then, gives_aside}
use Rattle.py_meaning.proofs.SoundKinds.{SoundKind, sound_kind, level_sound, sound_Str, sound_Int}
use Rattle.py_meaning.proofs.SoundWalks.{elements_fit, walk_gives, dict_get_gives}
use Rattle.py_meaning.proofs.SoundSums.{in_machine_gives, new_list_holds, text_gives, paid_tuple_gives, or_range_gives, add_values_hold}
use Rattle.py_meaning.proofs.SoundWrites.{holds_sound, written_holds, extended_holds, other_elements, list_set_sound, list_remove_free_holds, dict_put_sound, dict_delete_holds, answering_sound}

pub all_repeated : {A : Type 0} (p : A → Bool) (n : ℕ) (xs : List A) → IsTrue (list_all p xs) → IsTrue (list_all p (repeat n xs))
all_repeated p zero xs h = refl
all_repeated p (suc n) xs h = all_join p xs (repeat n xs) h (all_repeated p n xs h)

pub all_cut : {A : Type 0} (p : A → Bool) (low high : Option ℤ) (xs : List A) → IsTrue (list_all p xs) → IsTrue (list_all p (cut low high xs))
all_cut p low high xs h = all_take p (bound_place high (length xs) (length xs) - bound_place low (length xs) 0) (drop (bound_place low (length xs) 0) xs) (all_drop p (bound_place low (length xs) 0) xs h)

found_answers : {A : Type 0} (found : Option A) → Answering (or_index_error found)
found_answers None left = tt
found_answers (Some x) left = tt

indexed_answers : {A : Type 0} (xs : List A) (n : Option ℤ) → Answering (indexed xs n)
indexed_answers xs None = λ left. tt
indexed_answers xs (Some n) = found_answers (at_place xs (index_place n (length xs)))

module _ (world : World) (h : IsTrue (sound_world world)) where
  by_numbers_gives : (f : ℤ → ℤ → Costing Value) → ((a b : ℤ) → Gives (Fits world) (f a b)) → (a b : Option ℤ) → Gives (Fits world) (by_numbers f a b)
  by_numbers_gives f k (Some a) (Some b) = k a b
  by_numbers_gives f k (Some a) None = λ left. tt
  by_numbers_gives f k None b = λ left. tt

  int_gives : (n : ℤ) → Gives (Fits world) (done (value.Int n))
  int_gives n left = sound_Int (dicts world) n

  divided_gives : (b n : ℤ) → Gives (Fits world) (if int_eq b (pos 0) then raises ZeroDivisionError else done (value.Int n))
  divided_gives b n = gives_if (Fits world) (int_eq b (pos 0)) (raises ZeroDivisionError) (done (value.Int n)) (λ _ left. tt) (int_gives n)

  difference_gives : (a b : ℤ) → Gives (Fits world) (difference a b)
  difference_gives a b = or_range_gives world (in_range (a -ℤ b))

  product_gives : (a b : ℤ) → Gives (Fits world) (product a b)
  product_gives a b = or_range_gives world (in_range (a *ℤ b))

  quotient_gives : (a b : ℤ) → Gives (Fits world) (quotient a b)
  quotient_gives a b = divided_gives b _

  rest_gives : (a b : ℤ) → Gives (Fits world) (rest a b)
  rest_gives a b = divided_gives b _

  aside_holds : (run : Costing Value) → Gives (Fits world) run → Gives (Holds world) (aside run world)
  aside_holds run k = gives_aside world run h k

  repeat_text_gives : (s : List ℕ) (n : Option ℤ) → Gives (Fits world) (in_machine n (repeated_text s))
  repeat_text_gives s n = in_machine_gives (Fits world) n (repeated_text s) (λ z. text_gives world (count_or_zero z * length s) (repeat (count_or_zero z) s))

  repeat_tuple_gives : (parts : List Value) → AllFit world parts → (n : Option ℤ) → Gives (Fits world) (in_machine n (repeated_tuple parts))
  repeat_tuple_gives parts f n = in_machine_gives (Fits world) n (repeated_tuple parts) (λ z. paid_tuple_gives world (count_or_zero z * length parts) (repeat (count_or_zero z) parts) (all_repeated (sound (dicts world)) (count_or_zero z) parts f))

  repeated_list_holds : (items : List Value) → AllFit world items → (z : ℤ) → Gives (Holds world) (repeated_list items world z)
  repeated_list_holds items f z = gives_costs (Holds world) (count_or_zero z * length items) (done (as_value (made (object.List (repeat (count_or_zero z) items)) world)))
      (new_list_holds world (repeat (count_or_zero z) items) h (all_repeated (sound (dicts world)) (count_or_zero z) items f))

  repeat_ref_holds : (id : ObjId) (n : Option ℤ) → Gives (Holds world) (repeat_ref id n world)
  repeat_ref_holds id n = gives_if (Holds world) (is_list (object_at world id)) (in_machine n (repeated_list (elements world id) world)) (raises _)
      (λ _. in_machine_gives (Holds world) n (repeated_list (elements world id) world) (repeated_list_holds (elements world id) (elements_fit world id h))) (λ left. tt)

  multiply_number_holds : (n : Option ℤ) (b : Value-F Value) → SoundKind (dicts world) b → Gives (Holds world) (multiply_number n b world)
  multiply_number_holds n (Value-F.Str s) f = aside_holds (in_machine n (repeated_text s)) (repeat_text_gives s n)
  multiply_number_holds n (Value-F.Tuple t) f = aside_holds (in_machine n (repeated_tuple t.parts)) (repeat_tuple_gives t.parts f n)
  multiply_number_holds n (Value-F.Ref id) f = repeat_ref_holds id n
  multiply_number_holds n b f = aside_holds (by_numbers product n (number_of b)) (by_numbers_gives product product_gives n (number_of b))

  multiply_holds : (a b : Value-F Value) → SoundKind (dicts world) a → SoundKind (dicts world) b → Gives (Holds world) (multiply_values a b world)
  multiply_holds (Value-F.Str s) b f g = aside_holds (in_machine (number_of b) (repeated_text s)) (repeat_text_gives s (number_of b))
  multiply_holds (Value-F.Tuple t) b f g = aside_holds (in_machine (number_of b) (repeated_tuple t.parts)) (repeat_tuple_gives t.parts f (number_of b))
  multiply_holds (Value-F.Ref id) b f g = repeat_ref_holds id (number_of b)
  multiply_holds a b f g = multiply_number_holds (number_of a) b g

  rest_of_gives : (a b : Value-F Value) → Gives (Fits world) (rest_of_values a b)
  rest_of_gives (Value-F.Str s) b = λ left. tt
  rest_of_gives a b = by_numbers_gives rest rest_gives (number_of a) (number_of b)

  binary_values_hold : (op : BinOp) (a b : Value-F Value) → SoundKind (dicts world) a → SoundKind (dicts world) b → Gives (Holds world) (binary_values op a b world)
  binary_values_hold Add a b f g = add_values_hold world a b h f g
  binary_values_hold Sub a b f g = aside_holds (by_numbers difference (number_of a) (number_of b)) (by_numbers_gives difference difference_gives (number_of a) (number_of b))
  binary_values_hold Mul a b f g = multiply_holds a b f g
  binary_values_hold FloorDiv a b f g = aside_holds (by_numbers quotient (number_of a) (number_of b)) (by_numbers_gives quotient quotient_gives (number_of a) (number_of b))
  binary_values_hold Mod a b f g = aside_holds (rest_of_values a b) (rest_of_gives a b)

  chosen_holds : (b : Bool) (x y : Change World Value) → Gives (Holds world) (x world) → Gives (Holds world) (y world) → Gives (Holds world) ((if b then x else y) world)
  chosen_holds true x y k l = k
  chosen_holds false x y k l = l

  pub binary_holds : (op : BinOp) (a b : Value) → Fits world a → Fits world b → Gives (Holds world) (binary op a b world)
  binary_holds op a b f g = chosen_holds (is_view (out-Value a) || is_view (out-Value b)) (aside (leaves construct.View)) (binary_values op (out-Value a) (out-Value b)) (λ left. tt)
      (binary_values_hold op (out-Value a) (out-Value b) (sound_kind (dicts world) a f) (sound_kind (dicts world) b g))

  -- Augmented assignment. The value that is handed out is the list itself, or the operator's.

  extend_holds : (list : ObjId) (b : Value) → Fits world (value.Ref list) → Fits world b → Gives (Holds world) (extend_list list b world)
  extend_holds list b f g = gives_then (AllFit world) (Holds world) (λ items. done (value.Ref list, list_extend_free list items world))
      (λ items k left. extended_holds world h list items (value.Ref list) k f) (walk world b) (walk_gives world b h g)

  repeat_list_holds : (list : ObjId) (b : Value) → IsTrue (is_list (object_at world list)) → Fits world (value.Ref list) → Gives (Holds world) (repeat_list list b world)
  repeat_list_holds list b k f = gives_if (Holds world) (is_view (out-Value b)) (leaves construct.View) (in_machine (number_of (out-Value b)) (repeat_in_place list world)) (λ _ left. tt)
      (in_machine_gives (Holds world) (number_of (out-Value b)) (repeat_in_place list world) (λ z. let items = repeat (count_or_zero z) (elements world list) in
      gives_costs (Holds world) (count_or_zero z * length (elements world list)) (done (value.Ref list, set_elements list items world))
      (λ left. written_holds world h list (object.List items) (value.Ref list) (other_elements world list items k (all_repeated (sound (dicts world)) (count_or_zero z) (elements world list) (elements_fit world list h))) f)))

  abbrev NamedList : Option ObjId → Type 0
  NamedList None = Unit {0}
  NamedList (Some list) = IsTrue (is_list (object_at world list)) × Fits world (value.Ref list)

  augment_at_holds : (list : Option ObjId) (op : BinOp) (a b : Value) → NamedList list → Fits world a → Fits world b → Gives (Holds world) (augment_at list op a b world)
  augment_at_holds (Some list) Add a b k f g = extend_holds list b k.1 g
  augment_at_holds (Some list) Mul a b k f g = repeat_list_holds list b k.0 k.1
  augment_at_holds (Some list) Sub a b k f g = binary_holds Sub a b f g
  augment_at_holds (Some list) FloorDiv a b k f g = binary_holds FloorDiv a b f g
  augment_at_holds (Some list) Mod a b k f g = binary_holds Mod a b f g
  augment_at_holds None op a b k f g = binary_holds op a b f g

  chosen_list : (b : Bool) (id : ObjId) → b ≡ is_list (object_at world id) → Fits world (value.Ref id) → NamedList (if b then Some id else None)
  chosen_list true id e f = (sym e, f)
  chosen_list false id e f = tt

  ref_fits : (id : ObjId) → SoundKind (dicts world) (Value-F.Ref id) → Fits world (value.Ref id)
  ref_fits id f = level_sound (dicts world) (value.Ref id) (rw (outs-Ref id) f)

  list_named_fits : (k : Value-F Value) → SoundKind (dicts world) k → NamedList (list_named world k)
  list_named_fits (Value-F.Ref id) f = chosen_list (is_list (object_at world id)) id refl (ref_fits id f)
  list_named_fits _ f = tt

  pub augment_holds : (op : BinOp) (a b : Value) → Fits world a → Fits world b → Gives (Holds world) (augment op a b world)
  augment_holds op a b f g = augment_at_holds (list_named world (out-Value a)) op a b (list_named_fits (out-Value a) (sound_kind (dicts world) a f)) f g

  -- Subscriptions.

  chosen_sound : {A : Type 0} (b : Bool) (x y : Change World A) → Gives (WorldSound world) (x world) → Gives (WorldSound world) (y world) → Gives (WorldSound world) ((if b then x else y) world)
  chosen_sound true x y k l = k
  chosen_sound false x y k l = l

  found_gives : (found : Option Value) → ((v : Value) → found ≡ Some v → Fits world v) → Gives (Fits world) (or_index_error found)
  found_gives None f = λ left. tt
  found_gives (Some v) f = λ left. f v refl

  or_index_error_gives : (xs : List Value) → AllFit world xs → (place : Option ℕ) → Gives (Fits world) (or_index_error (at_place xs place))
  or_index_error_gives xs f None = λ left. tt
  or_index_error_gives xs f (Some at) = found_gives (slice_get xs at) (λ v e. all_got (sound (dicts world)) xs at v f e)

  indexed_gives : (xs : List Value) → AllFit world xs → (n : Option ℤ) → Gives (Fits world) (indexed xs n)
  indexed_gives xs f None = λ left. tt
  indexed_gives xs f (Some n) = or_index_error_gives xs f (index_place n (length xs))

  item_of_object_gives : (id : ObjId) (kind : ObjKind) (at : Value) → Gives (Fits world) (item_of_object id kind at world)
  item_of_object_gives id kind.List at = indexed_gives (elements world id) (elements_fit world id h) (number_of (out-Value at))
  item_of_object_gives id kind.Dict at = dict_get_gives world id at h
  item_of_object_gives id (kind.Instance class) at = λ left. tt

  item_of_gives : (k : Value-F Value) (at : Value) → SoundKind (dicts world) k → Gives (Fits world) (item_of k at world)
  item_of_gives (Value-F.Str s) at f = gives_asked (Fits world) (indexed s (number_of (out-Value at))) (λ c. done (value.Str (c ∷ []))) (indexed_answers s (number_of (out-Value at))) (λ c left. sound_Str (dicts world) (c ∷ []))
  item_of_gives (Value-F.Tuple t) at f = indexed_gives t.parts f (number_of (out-Value at))
  item_of_gives (Value-F.Ref id) at f = item_of_object_gives id (kind_of (object_at world id)) at
  item_of_gives (Value-F.Class class) at f = λ left. tt
  item_of_gives _ at f = λ left. tt

  pub get_item_gives : (of at : Value) → Fits world of → Gives (Fits world) (get_item of at world)
  get_item_gives of at f = gives_if (Fits world) (is_view (out-Value of) || is_view (out-Value at)) (leaves construct.View) (item_of (out-Value of) at world) (λ _ left. tt) (item_of_gives (out-Value of) at (sound_kind (dicts world) of f))

  at_number_sound : {A : Type 0} (n : Option ℤ) (change : ℤ → Change World A) → ((z : ℤ) → Gives (WorldSound world) (change z world)) → Gives (WorldSound world) (at_number n change world)
  at_number_sound None change k = λ left. tt
  at_number_sound (Some n) change k = k n

  put_in_object_sound : (id : ObjId) (kind : ObjKind) (at new : Value) → Fits world at → Fits world new → Gives (WorldSound world) (put_in_object id kind at new world)
  put_in_object_sound id kind.List at new f g = at_number_sound (number_of (out-Value at)) (λ n. list_set id n new) (λ n. list_set_sound world h id n new g)
  put_in_object_sound id kind.Dict at new f g = dict_put_sound world h id at new f g
  put_in_object_sound id (kind.Instance class) at new f g = λ left. tt

  put_in_sound : (k : Value-F Value) (at new : Value) → Fits world at → Fits world new → Gives (WorldSound world) (put_in k at new world)
  put_in_sound (Value-F.Ref id) at new f g = put_in_object_sound id (kind_of (object_at world id)) at new f g
  put_in_sound _ at new f g = λ left. tt

  pub put_item_sound : (of at new : Value) → Fits world at → Fits world new → Gives (WorldSound world) (put_item of at new world)
  put_item_sound of at new f g = chosen_sound (is_view (out-Value of) || is_view (out-Value at)) (aside (leaves construct.View)) (put_in (out-Value of) at new) (λ left. tt) (put_in_sound (out-Value of) at new f g)

  delete_in_list_sound : (id : ObjId) (at : Value) → Gives (WorldSound world) (delete_in_list id at world)
  delete_in_list_sound id at = let n = number_of (out-Value at) in let deletion : ℤ → Change World (Unit {0}) = λ z. answering (tt {0}) (list_remove_free id z) in
      gives_costs (WorldSound world) (length (elements world id)) (at_number n deletion world)
      (at_number_sound n deletion (λ z. answering_sound world h (tt {0}) (list_remove_free id z) (holds_sound world (list_remove_free id z world) (list_remove_free_holds world h id z))))

  delete_in_object_sound : (id : ObjId) (kind : ObjKind) (at : Value) → Gives (WorldSound world) (delete_in_object id kind at world)
  delete_in_object_sound id kind.List at = delete_in_list_sound id at
  delete_in_object_sound id kind.Dict at = answering_sound world h (tt {0}) (dict_delete id at) (holds_sound world (dict_delete id at world) (dict_delete_holds world h id at))
  delete_in_object_sound id (kind.Instance class) at = λ left. tt

  delete_in_sound : (k : Value-F Value) (at : Value) → Gives (WorldSound world) (delete_in k at world)
  delete_in_sound (Value-F.Ref id) at = delete_in_object_sound id (kind_of (object_at world id)) at
  delete_in_sound _ at = λ left. tt

  pub delete_item_sound : (of at : Value) → Gives (WorldSound world) (delete_item of at world)
  delete_item_sound of at = chosen_sound (is_view (out-Value of) || is_view (out-Value at)) (aside (leaves construct.View)) (delete_in (out-Value of) at) (λ left. tt) (delete_in_sound (out-Value of) at)

  -- Slices.

  cut_list_holds : (items : List Value) → AllFit world items → Gives (Holds world) (cut_list items world)
  cut_list_holds items f = gives_costs (Holds world) (length items) (done (as_value (made (object.List items) world))) (new_list_holds world items h f)

  cut_ref_holds : (id : ObjId) (low high : Option ℤ) → Gives (Holds world) (cut_ref id low high world)
  cut_ref_holds id low high = gives_if (Holds world) (is_list (object_at world id)) (cut_list (cut low high (elements world id)) world) (raises TypeError)
      (λ _. cut_list_holds (cut low high (elements world id)) (all_cut (sound (dicts world)) low high (elements world id) (elements_fit world id h))) (λ left. tt)

  slice_of_holds : (k : Value-F Value) (low high : Option (Option ℤ)) → SoundKind (dicts world) k → Gives (Holds world) (slice_of k low high world)
  slice_of_holds (Value-F.Str s) (Some low) (Some high) f = aside_holds (cut_text (cut low high s)) (text_gives world (length (cut low high s)) (cut low high s))
  slice_of_holds (Value-F.Tuple t) (Some low) (Some high) f = aside_holds (cut_tuple (cut low high t.parts)) (paid_tuple_gives world (length (cut low high t.parts)) (cut low high t.parts) (all_cut (sound (dicts world)) low high t.parts f))
  slice_of_holds (Value-F.Ref id) (Some low) (Some high) f = cut_ref_holds id low high
  slice_of_holds (Value-F.Class class) low high f = λ left. tt
  slice_of_holds _ _ _ f = λ left. tt

  pub slice_holds : (of low high : Value) → Fits world of → Gives (Holds world) (slice of low high world)
  slice_holds of low high f = chosen_holds (is_view (out-Value of) || (is_view (out-Value low) || is_view (out-Value high))) (aside (leaves construct.View))
      (slice_of (out-Value of) (bound (out-Value low)) (bound (out-Value high))) (λ left. tt)
      (slice_of_holds (out-Value of) (bound (out-Value low)) (bound (out-Value high)) (sound_kind (dicts world) of f))
