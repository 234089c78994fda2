-- Built-in functions called on sound values: what they give is sound, and so is the world after them.
use Rattle.std.proofs.Common.{◌≡◌, ℕ, Bool, true, false, not, ◌&&◌, if◌then◌else◌, nat_le, List, [], ◌∷◌, refl, length, ℤ, Option, Some, None}
use Rattle.std.specs.Prelude.{IsTrue, pos, nat_abs}
use Rattle.std.specs.List.{list_all}
use Rattle.std.specs.Option.{option_map}
use Rattle.std.specs.Ordering.{int_eq}
use Rattle.pyn_base.specs.Int.{in_range}
use Rattle.pyn_base.specs.declared.class.BuiltClass.TheVariants.{KeyError, ValueError}
use Rattle.pyn_base.specs.declared.class.ClassId.TheVariants.{Built}
use Rattle.pyn_base.specs.declared.construct.Construct.TheVariants.{NonAsciiText, StrOf, TupleDepth, MachineSize}
use Rattle.pyn_base.specs.declared.ids.ObjId.{ObjId}
use Rattle.py_meaning.specs.declared.builtin.Builtin.{Builtin}
use Rattle.py_meaning.specs.declared.builtin.Builtin.TheVariants as builtin
use Rattle.py_meaning.specs.declared.object.Object.TheVariants as object
use Rattle.py_meaning.specs.declared.object.ObjKind.{ObjKind}
use Rattle.py_meaning.specs.declared.object.ObjKind.TheVariants as kind
use Rattle.py_meaning.specs.declared.value.Value.{Value, Value-F, out-Value}
use Rattle.py_meaning.specs.declared.value.Value.TheVariants as value
use Rattle.py_meaning.specs.declared.value.Value.TheVariants.{outs-View, outs-Tuple}
use Rattle.py_meaning.specs.declared.value.View.TheVariants.{Range}
use Rattle.py_meaning.specs.Steps.{Costing, aside, costs, done, raises, leaves}
use Rattle.py_meaning.specs.declared.order.Order.TheVariants.{Less}
use Rattle.py_meaning.specs.Values.{number_of, same_class}
use Rattle.py_meaning.specs.Tuples.{depth_over, tuple_limit, tuple}
use Rattle.py_meaning.specs.Worlds.{World, object_at, sound, sound_world, dicts, within_machine}
use Rattle.py_meaning.specs.Walk.{walk, walked, gives_new_tuples, shallow, truth}
use Rattle.py_meaning.specs.Operations.{made, kind_of, args_of, make_dict, dict_copy}
use Rattle.py_meaning.specs.Sums.{add, as_value}
use Rattle.py_meaning.specs.Numerals.{integer_spelled}
use Rattle.py_meaning.specs.Texts.{is_ascii}
use Rattle.py_meaning.specs.Builtins.{or_type_error, len_row, absolute, abs_row, best_from, best, best_row, is_less_than, is_more_than, add_all, add_all_to, sum_of, sum_row, plain_text, text_or_leaves, text_of_args, text_of_object, text_of_value, str_row, spelled, integer_or_type_error, integer_of, int_row, bool_row, listed, list_row, tupled, tuple_row, dict_of_object, dict_of_value, dict_row, range_of, range_row, call_builtin}
use Rattle.py_meaning.specs.SoundRuns.{AllFit, Answering, Fits, Gives, Holds}
use Rattle.py_meaning.proofs.Soundness.{both, first, second, all_weaker}
use Rattle.py_meaning.specs.Outcomes.{gives_asked, gives_costs, gives_if, gives_then, gives_weaker, gives_aside}
use Rattle.py_meaning.specs.Questions.{ordered_answers}
use Rattle.py_meaning.proofs.SoundKinds.{level_sound, parts_shallow, sound_tuple, sound_Str, sound_Int, sound_Bool, sound_None}
use Rattle.py_meaning.proofs.SoundWalks.{made_value, copy_made, dict_made, Walked, walked_fits, walk_gives}
use Rattle.py_meaning.proofs.SoundSums.{new_list_holds, or_range_gives, add_holds}

all_wider : (world after : World) (items : List Value) → ((v : Value) → Fits world v → Fits after v) → AllFit world items → AllFit after items
all_wider world after items w f = all_weaker (sound (dicts world)) (sound (dicts after)) w items f

-- What holds after a wider world holds after the first.
widened : (world : World) (between : World) → ((v : Value) → Fits world v → Fits between v) → (made : Value × World) → Holds between made → Holds world made
widened world between w made h = ((h.0.0, λ v f. h.0.1 v (w v f)), h.1)

add_all_holds : (total : Value) (items : List Value) (world : World) → IsTrue (sound_world world) → Fits world total → AllFit world items → Gives (Holds world) (add_all total items world)
add_all_holds total [] world h f g = λ left. ((h, λ v k. k), f)
add_all_holds total (x ∷ xs) world h f g = let fx = first (sound (dicts world) x) (list_all (sound (dicts world)) xs) g in let fxs = second (sound (dicts world) x) (list_all (sound (dicts world)) xs) g in
    gives_then (Holds world) (Holds world) (λ added. add_all added.0 xs added.1)
    (λ added k. gives_weaker (Holds added.1) (Holds world) (widened world added.1 k.0.1) (add_all added.0 xs added.1)
    (add_all_holds added.0 xs added.1 k.0.0 k.1 (all_wider world added.1 xs k.0.1 fxs))) (add total x world) (add_holds world total x h f fx)

module _ (world : World) (h : IsTrue (sound_world world)) where
  int_fits : (n : ℤ) → Gives (Fits world) (done (value.Int n))
  int_fits n left = sound_Int (dicts world) n

  text_fits : (s : List ℕ) → Gives (Fits world) (done (value.Str s))
  text_fits s left = sound_Str (dicts world) s

  bool_fits : (b : Bool) → Gives (Fits world) (done (value.Bool b))
  bool_fits b left = sound_Bool (dicts world) b

  length_gives : (n : Option ℕ) → Gives (Fits world) (or_type_error n)
  length_gives None = λ left. tt
  length_gives (Some n) = int_fits (pos n)

  len_gives : (args : List Value) → Gives (Fits world) (len_row args world)
  len_gives (x ∷ []) = length_gives (option_map length (walked world x))
  len_gives [] = λ left. tt
  len_gives (x ∷ y ∷ more) = λ left. tt

  absolute_gives : (n : Option ℤ) → Gives (Fits world) (absolute n)
  absolute_gives None = λ left. tt
  absolute_gives (Some n) = int_fits (pos (nat_abs n))

  abs_gives : (args : List Value) → Gives (Fits world) (abs_row args)
  abs_gives (x ∷ []) = absolute_gives (number_of (out-Value x))
  abs_gives [] = λ left. tt
  abs_gives (x ∷ y ∷ more) = λ left. tt

  head_fits : (x : Value) (xs : List Value) → AllFit world (x ∷ xs) → Fits world x
  head_fits x xs f = first (sound (dicts world) x) (list_all (sound (dicts world)) xs) f

  rest_fit : (x : Value) (xs : List Value) → AllFit world (x ∷ xs) → AllFit world xs
  rest_fit x xs f = second (sound (dicts world) x) (list_all (sound (dicts world)) xs) f

  better_gives : (better : Value → Value → Costing Bool) → ((a b : Value) → Answering (better a b)) → (b : Value) (xs : List Value) → Fits world b → AllFit world xs → Gives (Fits world) (best_from better b xs)
  better_gives better q b [] f g = λ left. f
  better_gives better q b (x ∷ xs) f g = gives_asked (Fits world) (better x b) (λ yes. if yes then best_from better x xs else best_from better b xs) (q x b)
      (λ yes. gives_if (Fits world) yes (best_from better x xs) (best_from better b xs) (λ _. better_gives better q x xs (head_fits x xs g) (rest_fit x xs g)) (better_gives better q b xs f (rest_fit x xs g)))

  best_gives : (better : Value → Value → Costing Bool) → ((a b : Value) → Answering (better a b)) → (xs : List Value) → AllFit world xs → Gives (Fits world) (best better xs)
  best_gives better q [] f = λ left. tt
  best_gives better q (x ∷ xs) f = better_gives better q x xs (head_fits x xs f) (rest_fit x xs f)

  best_row_gives : (better : Value → Value → Costing Bool) → ((a b : Value) → Answering (better a b)) → (args : List Value) → AllFit world args → Gives (Fits world) (best_row better args world)
  best_row_gives better q [] f = λ left. tt
  best_row_gives better q (x ∷ []) f = gives_then (AllFit world) (Fits world) (best better) (λ items k. best_gives better q items k) (walk world x) (walk_gives world x h (head_fits x [] f))
  best_row_gives better q (x ∷ y ∷ more) f = gives_costs (Fits world) (length (x ∷ y ∷ more)) (best better (x ∷ y ∷ more)) (best_gives better q (x ∷ y ∷ more) f)

  add_all_to_holds : (k : Value-F Value) (start : Value) (items : List Value) → Fits world start → AllFit world items → Gives (Holds world) (add_all_to k start items world)
  add_all_to_holds (Value-F.Str s) start items f g = λ left. tt
  add_all_to_holds _ start items f g = add_all_holds start items world h f g

  sum_of_holds : (x start : Value) → Fits world x → Fits world start → Gives (Holds world) (sum_of x start world)
  sum_of_holds x start f g = gives_then (AllFit world) (Holds world) (λ items. add_all_to (out-Value start) start items world) (λ items k. add_all_to_holds (out-Value start) start items g k) (walk world x) (walk_gives world x h f)

  sum_holds : (args : List Value) → AllFit world args → Gives (Holds world) (sum_row args world)
  sum_holds (x ∷ []) f = sum_of_holds x (value.Int (pos 0)) (head_fits x [] f) (sound_Int (dicts world) (pos 0))
  sum_holds (x ∷ start ∷ []) f = sum_of_holds x start (head_fits x (start ∷ []) f) (head_fits start [] (rest_fit x (start ∷ []) f))
  sum_holds [] f = λ left. tt
  sum_holds (x ∷ y ∷ z ∷ more) f = λ left. tt

  text_or_leaves_gives : (s : Option (List ℕ)) → Gives (Fits world) (text_or_leaves s)
  text_or_leaves_gives None = λ left. tt
  text_or_leaves_gives (Some s) = gives_costs (Fits world) (length s) (done (value.Str s)) (text_fits s)

  text_of_args_gives : (args : Option (List Value)) → Gives (Fits world) (text_of_args args)
  text_of_args_gives None = λ left. tt
  text_of_args_gives (Some []) = text_or_leaves_gives (Some [])
  text_of_args_gives (Some (x ∷ [])) = text_or_leaves_gives (plain_text (out-Value x))
  text_of_args_gives (Some (x ∷ y ∷ more)) = λ left. tt

  text_of_object_gives : (k : ObjKind) (args : Option (List Value)) → Gives (Fits world) (text_of_object k args)
  text_of_object_gives (kind.Instance (Built class)) args = gives_if (Fits world) (same_class (Built class) (Built KeyError)) (leaves StrOf) (text_of_args args) (λ _ left. tt) (text_of_args_gives args)
  text_of_object_gives _ args = λ left. tt

  text_of_value_gives : (k : Value-F Value) → Gives (Fits world) (text_of_value k world)
  text_of_value_gives (Value-F.Ref id) = text_of_object_gives (kind_of (object_at world id)) (option_map (λ args. args.parts) (args_of (object_at world id)))
  text_of_value_gives k = text_or_leaves_gives (plain_text k)

  str_gives : (args : List Value) → Gives (Fits world) (str_row args world)
  str_gives [] = text_fits []
  str_gives (x ∷ []) = text_of_value_gives (out-Value x)
  str_gives (x ∷ y ∷ []) = λ left. tt
  str_gives (x ∷ y ∷ z ∷ []) = λ left. tt
  str_gives (x ∷ y ∷ z ∷ w ∷ more) = λ left. tt

  spelled_gives : (n : Option ℤ) → Gives (Fits world) (spelled n)
  spelled_gives None = λ left. tt
  spelled_gives (Some n) = or_range_gives world (in_range n)

  integer_or_gives : (n : Option ℤ) → Gives (Fits world) (integer_or_type_error n)
  integer_or_gives None = λ left. tt
  integer_or_gives (Some n) = int_fits n

  integer_of_gives : (k : Value-F Value) → Gives (Fits world) (integer_of k)
  integer_of_gives (Value-F.Str s) = gives_costs (Fits world) (length s) (if is_ascii s then spelled (integer_spelled s) else leaves NonAsciiText)
      (gives_if (Fits world) (is_ascii s) (spelled (integer_spelled s)) (leaves NonAsciiText) (λ _. spelled_gives (integer_spelled s)) (λ left. tt))
  integer_of_gives k = integer_or_gives (number_of k)

  int_gives : (args : List Value) → Gives (Fits world) (int_row args)
  int_gives [] = int_fits (pos 0)
  int_gives (x ∷ []) = integer_of_gives (out-Value x)
  int_gives (x ∷ y ∷ []) = λ left. tt
  int_gives (x ∷ y ∷ z ∷ more) = λ left. tt

  bool_gives : (args : List Value) → Gives (Fits world) (bool_row args world)
  bool_gives [] = bool_fits false
  bool_gives (x ∷ []) = bool_fits (truth world x)
  bool_gives (x ∷ y ∷ more) = λ left. tt

  range_view : (start stop step : ℤ) → (w : IsTrue (within_machine start && (within_machine stop && within_machine step))) → IsTrue (not (int_eq step (pos 0))) → Fits world (value.View (Range start stop step))
  range_view start stop step w n = let a = within_machine start in let b = within_machine stop in let c = within_machine step in let bc = second a (b && c) w in
      level_sound (dicts world) (value.View (Range start stop step)) (rw (outs-View (Range start stop step))
      (both (a && b && c) (not (int_eq step (pos 0))) (both (a && b) c (both a b (first a (b && c) w) (first b c bc)) (second b c bc)) n))

  stepped : (zero_step : Bool) (v : Value) → (IsTrue (not zero_step) → Fits world v) → Gives (Fits world) (if zero_step then raises ValueError else done v)
  stepped true v k = λ left. tt
  stepped false v k = λ left. k refl

  range_of_gives : (start stop step : Option ℤ) → Gives (Fits world) (range_of start stop step)
  range_of_gives (Some a) (Some b) (Some c) = gives_if (Fits world) (within_machine a && (within_machine b && within_machine c)) (if int_eq c (pos 0) then raises ValueError else done (value.View (Range a b c))) (leaves MachineSize)
      (λ w. stepped (int_eq c (pos 0)) (value.View (Range a b c)) (range_view a b c w)) (λ left. tt)
  range_of_gives (Some a) (Some b) None = λ left. tt
  range_of_gives (Some a) None c = λ left. tt
  range_of_gives None b c = λ left. tt

  range_gives : (args : List Value) → Gives (Fits world) (range_row args)
  range_gives (stop ∷ []) = range_of_gives (Some (pos 0)) (number_of (out-Value stop)) (Some (pos 1))
  range_gives (start ∷ stop ∷ []) = range_of_gives (number_of (out-Value start)) (number_of (out-Value stop)) (Some (pos 1))
  range_gives (start ∷ stop ∷ step ∷ []) = range_of_gives (number_of (out-Value start)) (number_of (out-Value stop)) (number_of (out-Value step))
  range_gives [] = λ left. tt
  range_gives (a ∷ b ∷ c ∷ d ∷ more) = λ left. tt

turned : (b : Bool) → false ≡ not b → IsTrue b
turned true e = refl
turned false e = cc

module _ (world : World) (h : IsTrue (sound_world world)) where
  dict_of_object_holds : (k : ObjKind) (id : ObjId) → Gives (Holds world) (dict_of_object k id world)
  dict_of_object_holds kind.Dict id = made_value world (dict_copy id world) (copy_made world id h)
  dict_of_object_holds kind.List id = λ left. tt
  dict_of_object_holds (kind.Instance class) id = λ left. tt

  dict_of_value_holds : (k : Value-F Value) → Gives (Holds world) (dict_of_value k world)
  dict_of_value_holds (Value-F.Ref id) = dict_of_object_holds (kind_of (object_at world id)) id
  dict_of_value_holds _ = λ left. tt

  dict_holds : (args : List Value) → Gives (Holds world) (dict_row args world)
  dict_holds [] = made_value world (make_dict [] world) (dict_made world [] h refl)
  dict_holds (x ∷ []) = dict_of_value_holds (out-Value x)
  dict_holds (x ∷ y ∷ more) = λ left. tt

  not_deep : (made : Bool) (items : List Value) → false ≡ (made && not (shallow items)) → (IsTrue (not made) → IsTrue (shallow items)) → IsTrue (shallow items)
  not_deep false items e k = k refl
  not_deep true items e k = turned (shallow items) e

  listed_chosen : (b new : Bool) (items : List Value) → b ≡ (new && not (shallow items)) → Walked (dicts world) new (Some items) → Gives (Holds world) (if b then leaves TupleDepth else costs (length items) (done (as_value (made (object.List items) world))))
  listed_chosen true new items e k = λ left. tt
  listed_chosen false new items e k = gives_costs (Holds world) (length items) (done (as_value (made (object.List items) world))) (new_list_holds world items h (k.0 (not_deep new items e k.1)))

  listed_holds : (made : Bool) (items : Option (List Value)) → Walked (dicts world) made items → Gives (Holds world) (listed made items world)
  listed_holds made None k = λ left. tt
  listed_holds made (Some items) k = listed_chosen (made && not (shallow items)) made items refl k

  list_holds : (args : List Value) → AllFit world args → Gives (Holds world) (list_row args world)
  list_holds [] f = new_list_holds world [] h refl
  list_holds (x ∷ []) f = listed_holds (gives_new_tuples (out-Value x)) (walked world x) (walked_fits world x h (head_fits world h x [] f))
  list_holds (x ∷ y ∷ more) f = λ left. tt

  tupled_gives : (made : Bool) (items : Option (List Value)) → Walked (dicts world) made items → Gives (Fits world) (tupled items)
  tupled_gives made None k = λ left. tt
  tupled_gives made (Some parts) k = gives_if (Fits world) (nat_le (depth_over parts) tuple_limit) (costs (length parts) (done (tuple parts))) (leaves TupleDepth)
      (λ c. gives_costs (Fits world) (length parts) (done (tuple parts)) (λ left. sound_tuple (dicts world) parts (k.0 (parts_shallow parts c)) c)) (λ left. tt)

  tuple_gives : (args : List Value) → AllFit world args → Gives (Fits world) (tuple_row args world)
  tuple_gives [] f = λ left. sound_tuple (dicts world) [] refl refl
  tuple_gives (x ∷ []) f = tupled_gives (gives_new_tuples (out-Value x)) (walked world x) (walked_fits world x h (head_fits world h x [] f))
  tuple_gives (x ∷ y ∷ more) f = λ left. tt

  aside_fits : (run : Costing Value) → Gives (Fits world) run → Gives (Holds world) (aside run world)
  aside_fits run k = gives_aside world run h k

  pub call_builtin_holds : (id : Builtin) (args : List Value) → AllFit world args → Gives (Holds world) (call_builtin id args world)
  call_builtin_holds builtin.Len args f = aside_fits (len_row args world) (len_gives world h args)
  call_builtin_holds builtin.Abs args f = aside_fits (abs_row args) (abs_gives world h args)
  call_builtin_holds builtin.Min args f = aside_fits (best_row (is_less_than world) args world) (best_row_gives world h (is_less_than world) (λ a b. ordered_answers world Less a b) args f)
  call_builtin_holds builtin.Max args f = aside_fits (best_row (is_more_than world) args world) (best_row_gives world h (is_more_than world) (λ a b. ordered_answers world Less b a) args f)
  call_builtin_holds builtin.Sum args f = sum_holds world h args f
  call_builtin_holds builtin.Str args f = aside_fits (str_row args world) (str_gives world h args)
  call_builtin_holds builtin.Int args f = aside_fits (int_row args) (int_gives world h args)
  call_builtin_holds builtin.Bool args f = aside_fits (bool_row args world) (bool_gives world h args)
  call_builtin_holds builtin.List args f = list_holds args f
  call_builtin_holds builtin.Tuple args f = aside_fits (tuple_row args world) (tuple_gives args f)
  call_builtin_holds builtin.Dict args f = dict_holds args
  call_builtin_holds builtin.Range args f = aside_fits (range_row args) (range_gives world h args)
  call_builtin_holds builtin.Isinstance args f = λ left. tt
  call_builtin_holds builtin.Print args f = λ left. ((h, λ v k. k), sound_None (dicts world))
  call_builtin_holds builtin.Object args f = λ left. tt
