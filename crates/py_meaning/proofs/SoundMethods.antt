-- Methods called on sound values: what they give is sound, and so is the world after them.
use Rattle.std.proofs.Common.{◌≡◌, ℕ, zero, suc, Bool, true, false, if◌then◌else◌, List, [], ◌∷◌, map, refl, length, ℤ, Option, Some, None, ◌+◌, ◌*◌}
use Rattle.std.specs.Prelude.{IsTrue, pos, negsuc, slice_index_or}
use Rattle.std.specs.List.{list_all}
use Rattle.pyn_base.specs.declared.class.BuiltClass.TheVariants.{KeyError, TypeError, AttributeError}
use Rattle.pyn_base.specs.declared.construct.Construct.TheVariants.{NonAsciiText, Method}
use Rattle.pyn_base.specs.declared.ids.ObjId.{ObjId}
use Rattle.py_meaning.specs.declared.builtin.ListMethod.{ListMethod}
use Rattle.py_meaning.specs.declared.builtin.ListMethod.TheVariants as list
use Rattle.py_meaning.specs.declared.builtin.DictMethod.{DictMethod}
use Rattle.py_meaning.specs.declared.builtin.DictMethod.TheVariants as dict
use Rattle.py_meaning.specs.declared.builtin.TextMethod.{TextMethod}
use Rattle.py_meaning.specs.declared.builtin.TextMethod.TheVariants as text
use Rattle.py_meaning.specs.declared.object.Object.TheVariants as object
use Rattle.py_meaning.specs.declared.object.ObjKind.{ObjKind}
use Rattle.py_meaning.specs.declared.object.ObjKind.TheVariants as kind
use Rattle.py_meaning.specs.declared.op.Op.{Op}
use Rattle.py_meaning.specs.declared.op.Op.TheVariants as op
use Rattle.py_meaning.specs.declared.value.Value.{Value, Value-F, out-Value}
use Rattle.py_meaning.specs.declared.value.Value.TheVariants as value
use Rattle.py_meaning.specs.declared.value.Value.TheVariants.{outs-View}
use Rattle.py_meaning.specs.declared.value.View.TheVariants.{Keys, Values, Items}
use Rattle.py_meaning.specs.Steps.{Costing, Change, aside, answering, costs, done, raises, leaves, ◌>>=◌}
use Rattle.py_meaning.specs.Caught.{where_missing}
use Rattle.py_meaning.specs.Values.{number_of}
use Rattle.py_meaning.specs.Worlds.{World, Pairs, object_at, elements, pairs, sound, sound_world, dicts}
use Rattle.py_meaning.specs.Walk.{walk}
use Rattle.py_meaning.specs.Equal.{equal}
use Rattle.py_meaning.specs.Operations.{kind_of, list_extend, list_extend_free, list_insert_free, list_remove_free, list_reverse, make_list, clear, dict_get, dict_put_free, dict_delete, dict_copy}
use Rattle.py_meaning.specs.Arithmetic.{in_machine}
use Rattle.py_meaning.specs.Membership.{equal_place}
use Rattle.py_meaning.specs.ListMethods.{pop_at, insert_at, extend_by, removed, remove_equal, or_value_error, index_equal, equals_from, count_equal, clear_list, copy_list, list_method}
use Rattle.py_meaning.specs.DictMethods.{get_or, with_value, set_default, unhashable_leaves, pop_key, pop_or, clear_dict, copy_dict, dict_method}
use Rattle.py_meaning.specs.TextMethods.{of_ascii, text_method, strip_by, list_of_texts, cut_at, split_by, join_texts, join_walked, texts_of, test_by, replace_by, or_minus_one, find_by}
use Rattle.py_meaning.specs.Texts.{is_ascii, pieces, words, joined, replaced, first_place, stripped, is_blank, is_one_of, upper, lower, are_digits, begins_with, finishes_with}
use Rattle.py_meaning.specs.Methods.{named, is_among, no_method, by_method, list_methods, dict_methods, text_methods, left_of_list, left_of_dict, left_of_text, left_of_tuple, left_of_integer, call_on_object, call_on_value, call_method}
use Rattle.py_meaning.specs.SoundRuns.{AllFit, Fits, Gives, Holds, Answers, WorldSound}
use Rattle.py_meaning.proofs.Soundness.{first, second}
use Rattle.py_meaning.specs.Outcomes.{gives_asked, gives_costs, gives_if, gives_then, gives_aside}
use Rattle.py_meaning.specs.Questions.{equal_answers, place_answers}
use Rattle.py_meaning.proofs.SoundKinds.{level_sound, sound_Str, sound_Int, sound_Bool, sound_None}
use Rattle.py_meaning.proofs.SoundWalks.{made_value, copy_made, list_made, elements_fit, texts_fit, walk_gives, dict_get_gives}
use Rattle.py_meaning.proofs.SoundSums.{in_machine_gives, new_list_holds}
use Rattle.py_meaning.proofs.SoundWrites.{holds_sound, extended_holds, inserted_holds, put_holds, clear_holds, list_extend_sound, list_reverse_sound, list_remove_free_holds, list_pop_holds, dict_delete_holds}

missing_done : {A : Type 0} (P : A → Type 0) (other : A) (answer : Op A) → P other → Answers P answer → Answers P (where_missing other answer)
missing_done P other (op.Raises KeyError) p h = p
missing_done P other (op.Raises _) p h = tt
missing_done P other (op.Done a) p h = h
missing_done P other (op.Leaves construct) p h = tt
missing_done P other op.OutOfSteps p h = tt
missing_done P other op.Memory p h = h

valued_done : (world : World) (answer : Op Value) → IsTrue (sound_world world) → Answers (Fits world) answer → Answers (Holds world) (with_value world answer)
valued_done world (op.Done v) h f = ((h, λ w k. k), f)
valued_done world (op.Raises class) h f = tt
valued_done world (op.Leaves construct) h f = tt
valued_done world op.OutOfSteps h f = tt
valued_done world op.Memory h f = f

unhashable_done : {A : Type 0} (P : A → Type 0) (ps : Pairs) (answer : Op A) → Answers P answer → Answers P (unhashable_leaves ps answer)
unhashable_done P [] (op.Raises TypeError) h = tt
unhashable_done P [] (op.Raises _) h = tt
unhashable_done P [] (op.Done a) h = h
unhashable_done P [] (op.Leaves construct) h = tt
unhashable_done P [] op.OutOfSteps h = tt
unhashable_done P [] op.Memory h = h
unhashable_done P (p ∷ ps) answer h = h

marked : (world : World) (at : ℕ) → kind_of (object_at world (record { 0 = at })) ≡ kind.Dict → IsTrue (slice_index_or (dicts world) at false)
marked [] at e = cc
marked (object.List items ∷ world) zero e = cc
marked (object.Dict ps n ∷ world) zero e = refl
marked (object.Instance class attributes args ∷ world) zero e = cc
marked (o ∷ world) (suc at) e = marked world at e

module _ (world : World) (h : IsTrue (sound_world world)) where
  none_holds : {A : Type 0} (change : Change World A) → Gives (WorldSound world) (change world) → Gives (Holds world) (answering value.None change world)
  none_holds change k = gives_then (WorldSound world) (Holds world) (λ made. done (value.None, made.1)) (λ made s left. (s, sound_None (dicts made.1))) (change world) k

  int_fits : (n : ℤ) → Gives (Fits world) (done (value.Int n))
  int_fits n left = sound_Int (dicts world) n

  text_fits : (s : List ℕ) → Gives (Fits world) (done (value.Str s))
  text_fits s left = sound_Str (dicts world) s

  bool_fits : (b : Bool) → Gives (Fits world) (done (value.Bool b))
  bool_fits b left = sound_Bool (dicts world) b

  first_fits : (x : Value) (xs : List Value) → AllFit world (x ∷ xs) → Fits world x
  first_fits x xs f = first (sound (dicts world) x) (list_all (sound (dicts world)) xs) f

  second_fits : (x y : Value) → AllFit world (x ∷ y ∷ []) → Fits world y
  second_fits x y f = first_fits y [] (second (sound (dicts world) x) (list_all (sound (dicts world)) (y ∷ [])) f)

  paid_text : (s t : List ℕ) → Gives (Fits world) (costs (length s) (done (value.Str t)))
  paid_text s t = gives_costs (Fits world) (length s) (done (value.Str t)) (text_fits t)

  -- Lists.

  pop_at_holds : (list : ObjId) (at : Value) → Gives (Holds world) (pop_at list at world)
  pop_at_holds list at = let n = number_of (out-Value at) in gives_costs (Holds world) (length (elements world list)) (in_machine n (λ z. list_remove_free list z world))
      (in_machine_gives (Holds world) n (λ z. list_remove_free list z world) (λ z. list_remove_free_holds world h list z))

  insert_at_holds : (list : ObjId) (at new : Value) → Fits world new → Gives (Holds world) (insert_at list at new world)
  insert_at_holds list at new f = let n = number_of (out-Value at) in let next : ℤ → Costing (Value × World) = λ z. done (value.None, list_insert_free list z new world) in
      gives_costs (Holds world) (length (elements world list) + 1) (in_machine n next)
      (in_machine_gives (Holds world) n next (λ z left. inserted_holds world h list z new value.None f (sound_None (dicts world))))

  extend_by_holds : (list : ObjId) (x : Value) → Fits world x → Gives (Holds world) (extend_by list x world)
  extend_by_holds list x f = gives_then (AllFit world) (Holds world) (λ items. done (value.None, list_extend_free list items world))
      (λ items k left. extended_holds world h list items value.None k (sound_None (dicts world))) (walk world x) (walk_gives world x h f)

  removed_holds : (list : ObjId) (place : Option ℕ) → Gives (Holds world) (removed list place world)
  removed_holds list None = λ left. tt
  removed_holds list (Some at) = none_holds (list_remove_free list (pos at)) (holds_sound world (list_remove_free list (pos at) world) (list_remove_free_holds world h list (pos at)))

  remove_equal_holds : (list : ObjId) (x : Value) → Gives (Holds world) (remove_equal list x world)
  remove_equal_holds list x = let place = equal_place 0 world x 0 (elements world list) in
      gives_costs (Holds world) (2 * length (elements world list)) (place >>= (λ p. removed list p world)) (gives_asked (Holds world) place (λ p. removed list p world) (place_answers world 0 x 0 (elements world list)) (λ p. removed_holds list p))

  value_error_gives : (place : Option ℕ) → Gives (Fits world) (or_value_error place)
  value_error_gives None = λ left. tt
  value_error_gives (Some at) = int_fits (pos at)

  index_holds : (list : ObjId) (x : Value) → Gives (Holds world) (aside (index_equal list x world) world)
  index_holds list x = let place = equal_place 1 world x 0 (elements world list) in
      gives_aside world (index_equal list x world) h (gives_asked (Fits world) place or_value_error (place_answers world 1 x 0 (elements world list)) value_error_gives)

  equals_gives : (x : Value) (count : ℕ) (ys : List Value) → Gives (Fits world) (equals_from world x count ys)
  equals_gives x count [] = int_fits (pos count)
  equals_gives x count (y ∷ ys) = gives_asked (Fits world) (equal world y x) (λ same. equals_from world x (if same then suc count else count) ys) (equal_answers world y x) (λ same. equals_gives x (if same then suc count else count) ys)

  count_holds : (list : ObjId) (x : Value) → Gives (Holds world) (aside (count_equal list x world) world)
  count_holds list x = gives_aside world (count_equal list x world) h (gives_costs (Fits world) (length (elements world list)) (equals_from world x 0 (elements world list)) (equals_gives x 0 (elements world list)))

  clear_list_holds : (list : ObjId) → Gives (Holds world) (clear_list list world)
  clear_list_holds list = gives_costs (Holds world) (length (elements world list)) (done (value.None, clear list world)) (λ left. clear_holds world h list value.None (sound_None (dicts world)))

  copy_list_holds : (list : ObjId) → Gives (Holds world) (copy_list list world)
  copy_list_holds list = made_value world (make_list (elements world list) world) (list_made world (elements world list) h (elements_fit world list h))

  pub list_method_holds : (method : ListMethod) (list : ObjId) (args : List Value) → AllFit world args → Gives (Holds world) (list_method method list args world)
  list_method_holds list.Append id (x ∷ []) f = none_holds (list_extend id (x ∷ [])) (list_extend_sound world h id (x ∷ []) f)
  list_method_holds list.Pop id [] f = list_pop_holds world h id
  list_method_holds list.Pop id (at ∷ []) f = pop_at_holds id at
  list_method_holds list.Insert id (at ∷ x ∷ []) f = insert_at_holds id at x (second_fits at x f)
  list_method_holds list.Extend id (x ∷ []) f = extend_by_holds id x (first_fits x [] f)
  list_method_holds list.Remove id (x ∷ []) f = remove_equal_holds id x
  list_method_holds list.Index id (x ∷ []) f = index_holds id x
  list_method_holds list.Count id (x ∷ []) f = count_holds id x
  list_method_holds list.Clear id [] f = clear_list_holds id
  list_method_holds list.Copy id [] f = copy_list_holds id
  list_method_holds list.Reverse id [] f = none_holds (list_reverse id) (list_reverse_sound world h id)
  list_method_holds list.Index id (x ∷ start ∷ []) f = λ left. tt
  list_method_holds list.Index id (x ∷ start ∷ stop ∷ []) f = λ left. tt
  list_method_holds _ id _ f = λ left. tt

  -- Dicts.

  get_holds : (dict : ObjId) (key other : Value) → Fits world other → Gives (Holds world) (aside (get_or dict key other world) world)
  get_holds dict key other f = gives_aside world (get_or dict key other world) h (λ left. missing_done (Fits world) other (dict_get dict key world left).0 f (dict_get_gives world dict key h left))

  pub set_default_holds : (dict : ObjId) (key other : Value) → Fits world key → Fits world other → Gives (Holds world) (set_default dict key other world)
  set_default_holds dict key other f g left = missing_done (Holds world) (other, dict_put_free dict key other world) (with_value world (dict_get dict key world left).0)
      (put_holds world h dict key other other f g g) (valued_done world (dict_get dict key world left).0 h (dict_get_gives world dict key h left))

  pop_key_holds : (dict : ObjId) (key : Value) → Gives (Holds world) (pop_key dict key world)
  pop_key_holds dict key left = unhashable_done (Holds world) (pairs world dict) (dict_delete dict key world left).0 (dict_delete_holds world h dict key left)

  pop_or_holds : (dict : ObjId) (key other : Value) → Fits world other → Gives (Holds world) (pop_or dict key other world)
  pop_or_holds dict key other f left = missing_done (Holds world) (other, world) (pop_key dict key world left).0 ((h, λ v k. k), f) (pop_key_holds dict key left)

  clear_dict_holds : (dict : ObjId) → Gives (Holds world) (clear_dict dict world)
  clear_dict_holds dict = gives_costs (Holds world) (length (pairs world dict)) (done (value.None, clear dict world)) (λ left. clear_holds world h dict value.None (sound_None (dicts world)))

  copy_dict_holds : (dict : ObjId) → Gives (Holds world) (copy_dict dict world)
  copy_dict_holds dict = made_value world (dict_copy dict world) (copy_made world dict h)

  view_holds : (view : _) → IsTrue (sound (dicts world) (value.View view)) → Gives (Holds world) (aside (done (value.View view)) world)
  view_holds view f left = ((h, λ v k. k), f)

  pub dict_method_holds : (method : DictMethod) (dict : ObjId) (args : List Value) → IsTrue (slice_index_or (dicts world) dict.0 false) → AllFit world args → Gives (Holds world) (dict_method method dict args world)
  dict_method_holds dict.Get id (key ∷ []) m f = get_holds id key value.None (sound_None (dicts world))
  dict_method_holds dict.Get id (key ∷ other ∷ []) m f = get_holds id key other (second_fits key other f)
  dict_method_holds dict.SetDefault id (key ∷ []) m f = set_default_holds id key value.None (first_fits key [] f) (sound_None (dicts world))
  dict_method_holds dict.SetDefault id (key ∷ other ∷ []) m f = set_default_holds id key other (first_fits key (other ∷ []) f) (second_fits key other f)
  dict_method_holds dict.Pop id (key ∷ []) m f = pop_key_holds id key
  dict_method_holds dict.Pop id (key ∷ other ∷ []) m f = pop_or_holds id key other (second_fits key other f)
  dict_method_holds dict.Keys id [] m f = view_holds (Keys id) (level_sound (dicts world) (value.View (Keys id)) (rw (outs-View (Keys id)) m))
  dict_method_holds dict.Values id [] m f = view_holds (Values id) (level_sound (dicts world) (value.View (Values id)) (rw (outs-View (Values id)) m))
  dict_method_holds dict.Items id [] m f = view_holds (Items id) (level_sound (dicts world) (value.View (Items id)) (rw (outs-View (Items id)) m))
  dict_method_holds dict.Clear id [] m f = clear_dict_holds id
  dict_method_holds dict.Copy id [] m f = copy_dict_holds id
  dict_method_holds _ id _ m f = λ left. tt

  -- Strings.

  of_ascii_gives : (P : Value → Type 0) (s : List ℕ) (next : Costing Value) → Gives P next → Gives P (of_ascii s next)
  of_ascii_gives P s next k = gives_costs P (length s) (if is_ascii s then next else leaves NonAsciiText) (gives_if P (is_ascii s) next (leaves NonAsciiText) (λ _. k) (λ left. tt))

  strip_gives : (k : Value-F Value) (s : List ℕ) → Gives (Fits world) (strip_by k s)
  strip_gives Value-F.None s = of_ascii_gives (Fits world) s (done (value.Str (stripped is_blank s))) (text_fits (stripped is_blank s))
  strip_gives (Value-F.Str chars) s = paid_text s (stripped (is_one_of chars) s)
  strip_gives _ s = gives_costs (Fits world) (length s) (raises TypeError) (λ left. tt)

  list_of_texts_holds : (texts : List (List ℕ)) → Gives (Holds world) (list_of_texts texts world)
  list_of_texts_holds texts = new_list_holds world (map value.Str texts) h (texts_fit (dicts world) texts)

  cut_at_holds : (part s : List ℕ) → Gives (Holds world) (cut_at part s world)
  cut_at_holds [] s = λ left. tt
  cut_at_holds (c ∷ part) s = list_of_texts_holds (pieces (c ∷ part) s)

  split_holds : (k : Value-F Value) (s : List ℕ) → Gives (Holds world) (split_by k s world)
  split_holds Value-F.None s = let next = list_of_texts (words s) world in gives_costs (Holds world) (length s) (if is_ascii s then next else leaves NonAsciiText)
      (gives_if (Holds world) (is_ascii s) next (leaves NonAsciiText) (λ _. list_of_texts_holds (words s)) (λ left. tt))
  split_holds (Value-F.Str part) s = gives_costs (Holds world) (length s) (cut_at part s world) (cut_at_holds part s)
  split_holds _ s = gives_costs (Holds world) (length s) (raises TypeError) (λ left. tt)

  join_texts_gives : (s : List ℕ) (texts : Option (List (List ℕ))) → Gives (Fits world) (join_texts s texts)
  join_texts_gives s None = λ left. tt
  join_texts_gives s (Some texts) = gives_costs (Fits world) (length (joined s texts)) (done (value.Str (joined s texts))) (text_fits (joined s texts))

  join_gives : (s : List ℕ) (x : Value) → Fits world x → Gives (Fits world) (join_walked s x world)
  join_gives s x f = gives_then (AllFit world) (Fits world) (λ items. join_texts s (texts_of items)) (λ items k. join_texts_gives s (texts_of items)) (walk world x) (walk_gives world x h f)

  test_gives : (test : List ℕ → Bool) (k : Value-F Value) → Gives (Fits world) (test_by test k)
  test_gives test (Value-F.Str part) = gives_costs (Fits world) (length part) (done (value.Bool (test part))) (bool_fits (test part))
  test_gives test (Value-F.Tuple parts) = λ left. tt
  test_gives test _ = λ left. tt

  replace_gives : (a b : Value-F Value) (s : List ℕ) → Gives (Fits world) (replace_by a b s)
  replace_gives (Value-F.Str part) (Value-F.Str new) s = let made = replaced part new s in gives_costs (Fits world) (length s + length made) (done (value.Str made)) (text_fits made)
  replace_gives _ _ s = gives_costs (Fits world) (length s) (raises TypeError) (λ left. tt)

  or_minus_one_gives : (place : Option ℕ) → Gives (Fits world) (or_minus_one place)
  or_minus_one_gives None = int_fits (negsuc 0)
  or_minus_one_gives (Some at) = int_fits (pos at)

  find_gives : (k : Value-F Value) (s : List ℕ) → Gives (Fits world) (find_by k s)
  find_gives (Value-F.Str part) s = gives_costs (Fits world) (length s + length part) (or_minus_one (first_place part s)) (or_minus_one_gives (first_place part s))
  find_gives _ s = gives_costs (Fits world) (length s) (raises TypeError) (λ left. tt)

  aside_fits : (run : Costing Value) → Gives (Fits world) run → Gives (Holds world) (aside run world)
  aside_fits run k = gives_aside world run h k

  pub text_method_holds : (method : TextMethod) (s : List ℕ) (args : List Value) → AllFit world args → Gives (Holds world) (text_method method s args world)
  text_method_holds text.Upper s [] f = aside_fits (of_ascii s (done (value.Str (map upper s)))) (of_ascii_gives (Fits world) s (done (value.Str (map upper s))) (text_fits (map upper s)))
  text_method_holds text.Lower s [] f = aside_fits (of_ascii s (done (value.Str (map lower s)))) (of_ascii_gives (Fits world) s (done (value.Str (map lower s))) (text_fits (map lower s)))
  text_method_holds text.IsDigit s [] f = aside_fits (of_ascii s (done (value.Bool (are_digits s)))) (of_ascii_gives (Fits world) s (done (value.Bool (are_digits s))) (bool_fits (are_digits s)))
  text_method_holds text.Strip s [] f = aside_fits (strip_by Value-F.None s) (strip_gives Value-F.None s)
  text_method_holds text.Strip s (x ∷ []) f = aside_fits (strip_by (out-Value x) s) (strip_gives (out-Value x) s)
  text_method_holds text.Split s [] f = split_holds Value-F.None s
  text_method_holds text.Split s (x ∷ []) f = split_holds (out-Value x) s
  text_method_holds text.Split s (x ∷ most ∷ []) f = λ left. tt
  text_method_holds text.Join s (x ∷ []) f = aside_fits (join_walked s x world) (join_gives s x (first_fits x [] f))
  text_method_holds text.StartsWith s (x ∷ []) f = aside_fits (test_by (begins_with s) (out-Value x)) (test_gives (begins_with s) (out-Value x))
  text_method_holds text.StartsWith s (x ∷ start ∷ []) f = λ left. tt
  text_method_holds text.StartsWith s (x ∷ start ∷ stop ∷ []) f = λ left. tt
  text_method_holds text.EndsWith s (x ∷ []) f = aside_fits (test_by (finishes_with s) (out-Value x)) (test_gives (finishes_with s) (out-Value x))
  text_method_holds text.EndsWith s (x ∷ start ∷ []) f = λ left. tt
  text_method_holds text.EndsWith s (x ∷ start ∷ stop ∷ []) f = λ left. tt
  text_method_holds text.Replace s (part ∷ new ∷ []) f = aside_fits (replace_by (out-Value part) (out-Value new) s) (replace_gives (out-Value part) (out-Value new) s)
  text_method_holds text.Replace s (part ∷ new ∷ most ∷ []) f = λ left. tt
  text_method_holds text.Find s (x ∷ []) f = aside_fits (find_by (out-Value x) s) (find_gives (out-Value x) s)
  text_method_holds text.Find s (x ∷ start ∷ []) f = λ left. tt
  text_method_holds text.Find s (x ∷ start ∷ stop ∷ []) f = λ left. tt
  text_method_holds _ s _ f = λ left. tt

  -- Calls by name.

  left_or_missing : (b : Bool) → Gives (Holds world) ((if b then aside (leaves Method) else aside (raises AttributeError)) world)
  left_or_missing true = λ left. tt
  left_or_missing false = λ left. tt

  no_method_holds : (names : List (List ℕ)) (name : List ℕ) → Gives (Holds world) (no_method names name world)
  no_method_holds names name = left_or_missing (is_among names name)

  by_method_holds : {M : Type 0} (names : List (List ℕ)) (name : List ℕ) (row : M → Change World Value) → ((m : M) → Gives (Holds world) (row m world)) → (found : Option M) → Gives (Holds world) (by_method names name row found world)
  by_method_holds names name row k None = no_method_holds names name
  by_method_holds names name row k (Some m) = k m

  on_object_holds : (kind : ObjKind) (id : ObjId) (name : List ℕ) (args : List Value) → kind_of (object_at world id) ≡ kind → AllFit world args → Gives (Holds world) (call_on_object kind id name args world)
  on_object_holds kind.List id name args e f = by_method_holds left_of_list name (λ method. list_method method id args) (λ method. list_method_holds method id args f) (named list_methods name)
  on_object_holds kind.Dict id name args e f = by_method_holds left_of_dict name (λ method. dict_method method id args) (λ method. dict_method_holds method id args (marked world id.0 e) f) (named dict_methods name)
  on_object_holds (kind.Instance class) id name args e f = λ left. tt

  on_value_holds : (k : Value-F Value) (name : List ℕ) (args : List Value) → AllFit world args → Gives (Holds world) (call_on_value k name args world)
  on_value_holds (Value-F.Str s) name args f = by_method_holds left_of_text name (λ method. text_method method s args) (λ method. text_method_holds method s args f) (named text_methods name)
  on_value_holds (Value-F.Ref id) name args f = on_object_holds (kind_of (object_at world id)) id name args refl f
  on_value_holds (Value-F.Tuple parts) name args f = no_method_holds left_of_tuple name
  on_value_holds (Value-F.Int n) name args f = no_method_holds left_of_integer name
  on_value_holds (Value-F.Bool b) name args f = no_method_holds left_of_integer name
  on_value_holds (Value-F.View view) name args f = λ left. tt
  on_value_holds _ name args f = λ left. tt

  pub call_method_holds : (receiver : Value) (name : List ℕ) (args : List Value) → AllFit world args → Gives (Holds world) (call_method receiver name args world)
  call_method_holds receiver name args f = on_value_holds (out-Value receiver) name args f
