-- The operations of `Builtins` gain no steps.
use Rattle.std.specs.Prelude.{ℕ, ℤ, pos, Bool, not, nat_le, ◌&&◌, List, [], ◌∷◌, length, Option, Some, None}
use Rattle.std.specs.Option.{option_map}
use Rattle.std.specs.Ordering.{int_eq}
use Rattle.pyn_base.specs.Int.{in_range}
use Rattle.pyn_base.specs.declared.class.BuiltClass.TheVariants.{KeyError}
use Rattle.pyn_base.specs.declared.class.ClassId.TheVariants.{Built}
use Rattle.pyn_base.specs.declared.ids.ObjId.{ObjId}
use Rattle.py_meaning.specs.declared.builtin.Builtin.{Builtin}
use Rattle.py_meaning.specs.declared.builtin.Builtin.TheVariants as builtin
use Rattle.py_meaning.specs.declared.object.ObjKind.{ObjKind}
use Rattle.py_meaning.specs.declared.object.ObjKind.TheVariants as kind
use Rattle.py_meaning.specs.declared.order.Order.TheVariants.{Less}
use Rattle.py_meaning.specs.declared.value.Value.{Value, Value-F, out-Value}
use Rattle.py_meaning.specs.declared.value.Value.TheVariants as value
use Rattle.py_meaning.specs.Steps.{Costing}
use Rattle.py_meaning.specs.Tuples.{depth_over, tuple_limit}
use Rattle.py_meaning.specs.Values.{number_of, same_class}
use Rattle.std.specs.Option.{option_map}
use Rattle.py_meaning.specs.Worlds.{World, object_at, within_machine}
use Rattle.py_meaning.specs.Operations.{kind_of, args_of}
use Rattle.py_meaning.specs.Walk.{walked, gives_new_tuples, shallow}
use Rattle.py_meaning.specs.Texts.{is_ascii}
use Rattle.py_meaning.specs.Numerals.{integer_spelled}
use Rattle.py_meaning.specs.Builtins.{or_type_error, len_row, absolute, abs_row, best_from, best, best_row, is_less_than, is_more_than, add_all, add_all_to, sum_of, sum_row, plain_text, text_or_leaves, text_of_args, text_of_object, text_of_value, str_row, spelled, integer_of_text, integer_or_type_error, integer_of, int_row, bool_row, listed, list_of, list_row, tuple_of_parts, tupled, tuple_row, dict_of_object, dict_of_value, dict_row, range_of, range_row, call_builtin}
use Rattle.py_plain.proofs.Like.{Frugal, frugal_aside}
use Rattle.py_plain.proofs.Frugality.{frugal_done, frugal_raises, frugal_leaves, frugal_costs, frugal_then, frugal_if}
use Rattle.py_plain.proofs.FrugalLess.{frugal_ordered}
use Rattle.py_plain.proofs.FrugalOperations.{frugal_dict_copy, frugal_make_dict}
use Rattle.py_plain.proofs.FrugalSums.{frugal_add, frugal_or_range}
use Rattle.py_plain.proofs.FrugalWalk.{frugal_walk}

pub frugal_or_type_error : (x1 : Option ℕ) → Frugal (or_type_error x1)
frugal_or_type_error None = frugal_raises _
frugal_or_type_error (Some n) = frugal_done _

pub frugal_len_row : (x1 : List Value) → (x2 : World) → Frugal (len_row x1 x2)
frugal_len_row (x ∷ []) world = frugal_or_type_error (option_map length (walked world x))
frugal_len_row _ world = frugal_raises _

pub frugal_absolute : (x1 : Option ℤ) → Frugal (absolute x1)
frugal_absolute None = frugal_raises _
frugal_absolute (Some n) = frugal_done _

pub frugal_abs_row : (x1 : List Value) → Frugal (abs_row x1)
frugal_abs_row (x ∷ []) = frugal_absolute (number_of (out-Value x))
frugal_abs_row _ = frugal_raises _

pub frugal_best_from : (x1 : (Value → Value → Costing Bool)) → ((y1 : Value) (y2 : Value) → Frugal (x1 y1 y2)) → (x2 : Value) → (x3 : List Value) → Frugal (best_from x1 x2 x3)
frugal_best_from better h1 b [] = frugal_done _
frugal_best_from better h1 b (x ∷ xs) = frugal_then _ _ (h1 x b) (λ yes. frugal_if yes _ _ (frugal_best_from better (λ z1 z2. h1 z1 z2) x xs) (frugal_best_from better (λ z3 z4. h1 z3 z4) b xs))

pub frugal_best : (x1 : (Value → Value → Costing Bool)) → ((y1 : Value) (y2 : Value) → Frugal (x1 y1 y2)) → (x2 : List Value) → Frugal (best x1 x2)
frugal_best better h1 [] = frugal_raises _
frugal_best better h1 (x ∷ xs) = frugal_best_from better (λ z1 z2. h1 z1 z2) x xs

pub frugal_best_row : (x1 : (Value → Value → Costing Bool)) → ((y1 : Value) (y2 : Value) → Frugal (x1 y1 y2)) → (x2 : List Value) → (x3 : World) → Frugal (best_row x1 x2 x3)
frugal_best_row better h1 [] world = frugal_raises _
frugal_best_row better h1 (x ∷ []) world = frugal_then _ _ (frugal_walk world x) (λ items. frugal_best better (λ z1 z2. h1 z1 z2) items)
frugal_best_row better h1 (x ∷ (y ∷ more)) world = frugal_costs (length (x ∷ (y ∷ more))) _ (frugal_best better (λ z1 z2. h1 z1 z2) (x ∷ (y ∷ more)))

pub frugal_is_less_than : (x1 : World) → (x2 : Value) → (x3 : Value) → Frugal (is_less_than x1 x2 x3)
frugal_is_less_than world x b = frugal_ordered world Less x b

pub frugal_is_more_than : (x1 : World) → (x2 : Value) → (x3 : Value) → Frugal (is_more_than x1 x2 x3)
frugal_is_more_than world x b = frugal_ordered world Less b x

pub frugal_add_all : (x1 : Value) → (x2 : List Value) → (x3 : World) → Frugal (add_all x1 x2 x3)
frugal_add_all total [] world = frugal_done _
frugal_add_all total (x ∷ xs) world = frugal_then _ _ (frugal_add total x world) (λ added. frugal_add_all added.0 xs added.1)

pub frugal_add_all_to : (x1 : Value-F Value) → (x2 : Value) → (x3 : List Value) → (x4 : World) → Frugal (add_all_to x1 x2 x3 x4)
frugal_add_all_to (Value-F.Str s) start items world = frugal_raises _
frugal_add_all_to _ start items world = frugal_add_all start items world

pub frugal_sum_of : (x1 : Value) → (x2 : Value) → (x3 : World) → Frugal (sum_of x1 x2 x3)
frugal_sum_of x start world = frugal_then _ _ (frugal_walk world x) (λ items. frugal_add_all_to (out-Value start) start items world)

pub frugal_sum_row : (x1 : List Value) → (x2 : World) → Frugal (sum_row x1 x2)
frugal_sum_row (x ∷ []) w1 = frugal_sum_of x (value.Int (pos 0)) w1
frugal_sum_row (x ∷ (start ∷ [])) w1 = frugal_sum_of x start w1
frugal_sum_row _ w1 = frugal_aside _ w1 (frugal_raises _)

pub frugal_text_or_leaves : (x1 : Option (List ℕ)) → Frugal (text_or_leaves x1)
frugal_text_or_leaves None = frugal_leaves _
frugal_text_or_leaves (Some s) = frugal_costs (length s) _ (frugal_done _)

pub frugal_text_of_args : (x1 : Option (List Value)) → Frugal (text_of_args x1)
frugal_text_of_args None = frugal_leaves _
frugal_text_of_args (Some []) = frugal_text_or_leaves (Some [])
frugal_text_of_args (Some (x ∷ [])) = frugal_text_or_leaves (plain_text (out-Value x))
frugal_text_of_args (Some (x ∷ (y ∷ more))) = frugal_leaves _

pub frugal_text_of_object : (x1 : ObjKind) → (x2 : Option (List Value)) → Frugal (text_of_object x1 x2)
frugal_text_of_object (kind.Instance (Built class)) args = frugal_if (same_class (Built class) (Built KeyError)) _ _ (frugal_leaves _) (frugal_text_of_args args)
frugal_text_of_object _ args = frugal_leaves _

pub frugal_text_of_value : (x1 : Value-F Value) → (x2 : World) → Frugal (text_of_value x1 x2)
frugal_text_of_value (Value-F.Ref id) world = frugal_text_of_object (kind_of (object_at world id)) (option_map (λ args. args.parts) (args_of (object_at world id)))
frugal_text_of_value v world = frugal_text_or_leaves (plain_text v)

pub frugal_str_row : (x1 : List Value) → (x2 : World) → Frugal (str_row x1 x2)
frugal_str_row [] world = frugal_done _
frugal_str_row (x ∷ []) world = frugal_text_of_value (out-Value x) world
frugal_str_row (x ∷ (y ∷ [])) world = frugal_leaves _
frugal_str_row (x ∷ (y ∷ (z ∷ []))) world = frugal_leaves _
frugal_str_row _ world = frugal_raises _

pub frugal_spelled : (x1 : Option ℤ) → Frugal (spelled x1)
frugal_spelled None = frugal_raises _
frugal_spelled (Some n) = frugal_or_range (in_range n)

pub frugal_integer_of_text : (x1 : List ℕ) → Frugal (integer_of_text x1)
frugal_integer_of_text s = frugal_costs (length s) _ (frugal_if (is_ascii s) _ _ (frugal_spelled (integer_spelled s)) (frugal_leaves _))

pub frugal_integer_or_type_error : (x1 : Option ℤ) → Frugal (integer_or_type_error x1)
frugal_integer_or_type_error None = frugal_raises _
frugal_integer_or_type_error (Some n) = frugal_done _

pub frugal_integer_of : (x1 : Value-F Value) → Frugal (integer_of x1)
frugal_integer_of (Value-F.Str s) = frugal_integer_of_text s
frugal_integer_of v = frugal_integer_or_type_error (number_of v)

pub frugal_int_row : (x1 : List Value) → Frugal (int_row x1)
frugal_int_row [] = frugal_done _
frugal_int_row (x ∷ []) = frugal_integer_of (out-Value x)
frugal_int_row (x ∷ (y ∷ [])) = frugal_leaves _
frugal_int_row _ = frugal_raises _

pub frugal_bool_row : (x1 : List Value) → (x2 : World) → Frugal (bool_row x1 x2)
frugal_bool_row [] world = frugal_done _
frugal_bool_row (x ∷ []) world = frugal_done _
frugal_bool_row _ world = frugal_raises _

pub frugal_listed : (x1 : Bool) → (x2 : Option (List Value)) → (x3 : World) → Frugal (listed x1 x2 x3)
frugal_listed new_tuples None world = frugal_raises _
frugal_listed new_tuples (Some items) world = frugal_if (new_tuples && (not (shallow items))) _ _ (frugal_leaves _) (frugal_costs (length items) _ (frugal_done _))

pub frugal_list_of : (x1 : Value) → (x2 : World) → Frugal (list_of x1 x2)
frugal_list_of x world = frugal_listed (gives_new_tuples (out-Value x)) (walked world x) world

pub frugal_list_row : (x1 : List Value) → (x2 : World) → Frugal (list_row x1 x2)
frugal_list_row [] world = frugal_done _
frugal_list_row (x ∷ []) world = frugal_list_of x world
frugal_list_row _ world = frugal_raises _

pub frugal_tuple_of_parts : (x1 : List Value) → Frugal (tuple_of_parts x1)
frugal_tuple_of_parts parts = frugal_if (nat_le (depth_over parts) tuple_limit) _ _ (frugal_costs (length parts) _ (frugal_done _)) (frugal_leaves _)

pub frugal_tupled : (x1 : Option (List Value)) → Frugal (tupled x1)
frugal_tupled None = frugal_raises _
frugal_tupled (Some parts) = frugal_tuple_of_parts parts

pub frugal_tuple_row : (x1 : List Value) → (x2 : World) → Frugal (tuple_row x1 x2)
frugal_tuple_row [] world = frugal_done _
frugal_tuple_row (x ∷ []) world = frugal_tupled (walked world x)
frugal_tuple_row _ world = frugal_raises _

pub frugal_dict_of_object : (x1 : ObjKind) → (x2 : ObjId) → (x3 : World) → Frugal (dict_of_object x1 x2 x3)
frugal_dict_of_object kind.Dict id world = frugal_then _ _ (frugal_dict_copy id world) (λ copy. frugal_done _)
frugal_dict_of_object _ id world = frugal_leaves _

pub frugal_dict_of_value : (x1 : Value-F Value) → (x2 : World) → Frugal (dict_of_value x1 x2)
frugal_dict_of_value (Value-F.Ref id) world = frugal_dict_of_object (kind_of (object_at world id)) id world
frugal_dict_of_value _ world = frugal_leaves _

pub frugal_dict_row : (x1 : List Value) → (x2 : World) → Frugal (dict_row x1 x2)
frugal_dict_row [] world = frugal_then _ _ (frugal_make_dict [] world) (λ new. frugal_done _)
frugal_dict_row (x ∷ []) world = frugal_dict_of_value (out-Value x) world
frugal_dict_row _ world = frugal_raises _

pub frugal_range_of : (x1 : Option ℤ) → (x2 : Option ℤ) → (x3 : Option ℤ) → Frugal (range_of x1 x2 x3)
frugal_range_of (Some start) (Some stop) (Some step) = frugal_if ((within_machine start) && ((within_machine stop) && (within_machine step))) _ _ (frugal_if (int_eq step (pos 0)) _ _ (frugal_raises _) (frugal_done _)) (frugal_leaves _)
frugal_range_of _ _ _ = frugal_raises _

pub frugal_range_row : (x1 : List Value) → Frugal (range_row x1)
frugal_range_row (stop ∷ []) = frugal_range_of (Some (pos 0)) (number_of (out-Value stop)) (Some (pos 1))
frugal_range_row (start ∷ (stop ∷ [])) = frugal_range_of (number_of (out-Value start)) (number_of (out-Value stop)) (Some (pos 1))
frugal_range_row (start ∷ (stop ∷ (step ∷ []))) = frugal_range_of (number_of (out-Value start)) (number_of (out-Value stop)) (number_of (out-Value step))
frugal_range_row _ = frugal_raises _

pub frugal_call_builtin : (x1 : Builtin) → (x2 : List Value) → (x3 : World) → Frugal (call_builtin x1 x2 x3)
frugal_call_builtin builtin.Len args w2 = frugal_aside _ w2 (frugal_len_row args w2)
frugal_call_builtin builtin.Abs args w2 = frugal_aside _ w2 (frugal_abs_row args)
frugal_call_builtin builtin.Min args w2 = frugal_aside _ w2 (frugal_best_row (is_less_than w2) (λ z1 z2. frugal_is_less_than w2 z1 z2) args w2)
frugal_call_builtin builtin.Max args w2 = frugal_aside _ w2 (frugal_best_row (is_more_than w2) (λ z1 z2. frugal_is_more_than w2 z1 z2) args w2)
frugal_call_builtin builtin.Sum args w2 = frugal_sum_row args w2
frugal_call_builtin builtin.Str args w2 = frugal_aside _ w2 (frugal_str_row args w2)
frugal_call_builtin builtin.Int args w2 = frugal_aside _ w2 (frugal_int_row args)
frugal_call_builtin builtin.Bool args w2 = frugal_aside _ w2 (frugal_bool_row args w2)
frugal_call_builtin builtin.List args w2 = frugal_list_row args w2
frugal_call_builtin builtin.Tuple args w2 = frugal_aside _ w2 (frugal_tuple_row args w2)
frugal_call_builtin builtin.Dict args w2 = frugal_dict_row args w2
frugal_call_builtin builtin.Range args w2 = frugal_aside _ w2 (frugal_range_row args)
frugal_call_builtin builtin.Isinstance args w2 = frugal_aside _ w2 (frugal_leaves _)
frugal_call_builtin builtin.Print args w2 = frugal_aside _ w2 (frugal_done _)
frugal_call_builtin builtin.Object args w2 = frugal_aside _ w2 (frugal_leaves _)
