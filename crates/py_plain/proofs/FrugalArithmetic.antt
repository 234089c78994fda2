-- The operations of `Arithmetic` gain no steps.
use Rattle.std.specs.Prelude.{ℕ, ◌*◌, ℤ, pos, ◌-ℤ◌, ◌*ℤ◌, List, length, Option, Some, None}
use Rattle.std.specs.Ordering.{int_eq}
use Rattle.pyn_base.specs.Int.{in_range}
use Rattle.pyn_base.specs.declared.ids.ObjId.{ObjId}
use Rattle.py_syntax.specs.declared.operator.Sign.{Sign}
use Rattle.py_meaning.specs.declared.value.Value.{Value, Value-F, out-Value}
use Rattle.py_meaning.specs.Steps.{Costing}
use Rattle.py_meaning.specs.Values.{number_of, is_view}
use Rattle.py_meaning.specs.Worlds.{World, object_at, elements, within_machine}
use Rattle.py_meaning.specs.Sums.{is_list}
use Rattle.py_meaning.specs.Arithmetic.{by_numbers, difference, product, quotient, rest, in_machine, count_or_zero, repeated_text, repeated_tuple, repeated_list, repeat_ref, multiply_number, multiply_values, rest_of_values, sign_number, unary}
use Rattle.py_plain.proofs.Like.{Frugal, frugal_aside}
use Rattle.py_plain.proofs.Frugality.{frugal_done, frugal_raises, frugal_leaves, frugal_costs, frugal_if, frugal_new_tuple}
use Rattle.py_plain.proofs.FrugalSums.{frugal_or_range}

pub frugal_by_numbers : (x1 : (ℤ → ℤ → Costing Value)) → ((y1 : ℤ) (y2 : ℤ) → Frugal (x1 y1 y2)) → (x2 : Option ℤ) → (x3 : Option ℤ) → Frugal (by_numbers x1 x2 x3)
frugal_by_numbers f h1 (Some a) (Some b) = h1 a b
frugal_by_numbers f h1 _ _ = frugal_raises _

pub frugal_difference : (x1 : ℤ) → (x2 : ℤ) → Frugal (difference x1 x2)
frugal_difference a b = frugal_or_range (in_range (a -ℤ b))

pub frugal_product : (x1 : ℤ) → (x2 : ℤ) → Frugal (product x1 x2)
frugal_product a b = frugal_or_range (in_range (a *ℤ b))

pub frugal_quotient : (x1 : ℤ) → (x2 : ℤ) → Frugal (quotient x1 x2)
frugal_quotient a b = frugal_if (int_eq b (pos 0)) _ _ (frugal_raises _) (frugal_done _)

pub frugal_rest : (x1 : ℤ) → (x2 : ℤ) → Frugal (rest x1 x2)
frugal_rest a b = frugal_if (int_eq b (pos 0)) _ _ (frugal_raises _) (frugal_done _)

pub frugal_in_machine : {A : Type 0} → (x1 : Option ℤ) → (x2 : (ℤ → Costing A)) → ((y1 : ℤ) → Frugal (x2 y1)) → Frugal (in_machine x1 x2)
frugal_in_machine None next h2 = frugal_raises _
frugal_in_machine (Some n) next h2 = frugal_if (within_machine n) _ _ (h2 n) (frugal_leaves _)

pub frugal_repeated_text : (x1 : List ℕ) → (x2 : ℤ) → Frugal (repeated_text x1 x2)
frugal_repeated_text s n = frugal_costs ((count_or_zero n) * (length s)) _ (frugal_done _)

pub frugal_repeated_tuple : (x1 : List Value) → (x2 : ℤ) → Frugal (repeated_tuple x1 x2)
frugal_repeated_tuple xs n = frugal_costs ((count_or_zero n) * (length xs)) _ (frugal_new_tuple _)

pub frugal_repeated_list : (x1 : List Value) → (x2 : World) → (x3 : ℤ) → Frugal (repeated_list x1 x2 x3)
frugal_repeated_list xs world n = frugal_costs ((count_or_zero n) * (length xs)) _ (frugal_done _)

pub frugal_repeat_ref : (x1 : ObjId) → (x2 : Option ℤ) → (x3 : World) → Frugal (repeat_ref x1 x2 x3)
frugal_repeat_ref id count world = frugal_if (is_list (object_at world id)) _ _ (frugal_in_machine count (repeated_list (elements world id) world) (λ z1. frugal_repeated_list (elements world id) world z1)) (frugal_raises _)

pub frugal_multiply_number : (x1 : Option ℤ) → (x2 : Value-F Value) → (x3 : World) → Frugal (multiply_number x1 x2 x3)
frugal_multiply_number n (Value-F.Str s) w2 = frugal_aside _ w2 (frugal_in_machine n (repeated_text s) (λ z1. frugal_repeated_text s z1))
frugal_multiply_number n (Value-F.Tuple xs) w2 = frugal_aside _ w2 (frugal_in_machine n (repeated_tuple xs.parts) (λ z1. frugal_repeated_tuple xs.parts z1))
frugal_multiply_number n (Value-F.Ref id) w2 = frugal_repeat_ref id n w2
frugal_multiply_number n b w2 = frugal_aside _ w2 (frugal_by_numbers product (λ z1 z2. frugal_product z1 z2) n (number_of b))

pub frugal_multiply_values : (x1 : Value-F Value) → (x2 : Value-F Value) → (x3 : World) → Frugal (multiply_values x1 x2 x3)
frugal_multiply_values (Value-F.Str s) b w2 = frugal_aside _ w2 (frugal_in_machine (number_of b) (repeated_text s) (λ z1. frugal_repeated_text s z1))
frugal_multiply_values (Value-F.Tuple xs) b w2 = frugal_aside _ w2 (frugal_in_machine (number_of b) (repeated_tuple xs.parts) (λ z1. frugal_repeated_tuple xs.parts z1))
frugal_multiply_values (Value-F.Ref id) b w2 = frugal_repeat_ref id (number_of b) w2
frugal_multiply_values a b w2 = frugal_multiply_number (number_of a) b w2

pub frugal_rest_of_values : (x1 : Value-F Value) → (x2 : Value-F Value) → Frugal (rest_of_values x1 x2)
frugal_rest_of_values (Value-F.Str s) b = frugal_leaves _
frugal_rest_of_values a b = frugal_by_numbers rest (λ z1 z2. frugal_rest z1 z2) (number_of a) (number_of b)

pub frugal_sign_number : (x1 : Sign) → (x2 : Option ℤ) → Frugal (sign_number x1 x2)
frugal_sign_number sign None = frugal_raises _
frugal_sign_number sign (Some n) = frugal_done _

pub frugal_unary : (x1 : Sign) → (x2 : Value) → Frugal (unary x1 x2)
frugal_unary sign a = frugal_if (is_view (out-Value a)) _ _ (frugal_leaves _) (frugal_sign_number sign (number_of (out-Value a)))
