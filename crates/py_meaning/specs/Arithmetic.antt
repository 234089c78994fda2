-- The arithmetic operators beside `+` (Language Reference 6.6 and 6.7; the manual, "Common Sequence Operations").
use Rattle.std.specs.Prelude.{ℕ, ◌*◌, ℤ, pos, negsuc, neg_ℤ, ◌-ℤ◌, ◌*ℤ◌, if◌then◌else◌, List, length, Option, Some, None}
use Rattle.std.specs.List.{repeat}
use Rattle.std.specs.Ordering.{int_eq}
use Rattle.pyn_base.specs.Int.{in_range, floor_quotient, floor_rest}
use Rattle.pyn_base.specs.declared.class.BuiltClass.TheVariants.{TypeError, ZeroDivisionError}
use Rattle.pyn_base.specs.declared.construct.Construct.TheVariants as construct
use Rattle.pyn_base.specs.declared.ids.ObjId.{ObjId}
use Rattle.py_syntax.specs.declared.operator.Sign.{Sign}
use Rattle.py_syntax.specs.declared.operator.Sign.TheVariants.{Minus, Plus}
use Rattle.py_meaning.specs.declared.object.Object.TheVariants as object
use Rattle.py_meaning.specs.declared.value.Value.{Value, Value-F, out-Value}
use Rattle.py_meaning.specs.declared.value.Value.TheVariants as value
use Rattle.py_meaning.specs.Steps.{Costing, Change, aside, done, raises, leaves, costs}
use Rattle.py_meaning.specs.Values.{number_of, is_view}
use Rattle.py_meaning.specs.Tuples.{new_tuple}
use Rattle.py_meaning.specs.Worlds.{World, object_at, elements, within_machine}
use Rattle.py_meaning.specs.Operations.{made}
use Rattle.py_meaning.specs.Sums.{is_list, as_value, or_range}

-- Numbers alone.
abbrev pub by_numbers : (ℤ → ℤ → Costing Value) → Option ℤ → Option ℤ → Costing Value
by_numbers f (Some a) (Some b) = f a b
by_numbers f _ _ = raises TypeError

abbrev pub difference : ℤ → ℤ → Costing Value
difference a b = or_range (in_range (a -ℤ b))

abbrev pub product : ℤ → ℤ → Costing Value
product a b = or_range (in_range (a *ℤ b))

-- rounded down
abbrev pub quotient : ℤ → ℤ → Costing Value
quotient a b = if int_eq b (pos 0) then raises ZeroDivisionError else done (value.Int (floor_quotient a b))

-- with the divisor's sign
abbrev pub rest : ℤ → ℤ → Costing Value
rest a b = if int_eq b (pos 0) then raises ZeroDivisionError else done (value.Int (floor_rest a b))

-- A position or a count of what a machine can count.
abbrev pub in_machine : {A : Type 0} → Option ℤ → (ℤ → Costing A) → Costing A
in_machine None next = raises TypeError
in_machine (Some n) next = if within_machine n then next n else leaves construct.MachineSize

-- A count below 0 counts as 0.
abbrev pub count_or_zero : ℤ → ℕ
count_or_zero (pos n) = n
count_or_zero (negsuc n) = 0

-- Repetition, at a step for each element of the result.
abbrev pub repeated_text : List ℕ → ℤ → Costing Value
repeated_text s n = costs (count_or_zero n * length s) (done (value.Str (repeat (count_or_zero n) s)))

abbrev pub repeated_tuple : List Value → ℤ → Costing Value
repeated_tuple xs n = costs (count_or_zero n * length xs) (new_tuple (repeat (count_or_zero n) xs))

-- a new list
abbrev pub repeated_list : List Value → World → ℤ → Costing (Value × World)
repeated_list xs world n = costs (count_or_zero n * length xs) (done (as_value (made (object.List (repeat (count_or_zero n) xs)) world)))

abbrev pub repeat_ref : ObjId → Option ℤ → Change World Value
repeat_ref id count world = if is_list (object_at world id) then in_machine count (repeated_list (elements world id) world) else raises TypeError

-- a count before a sequence, or two numbers
abbrev pub multiply_number : Option ℤ → Value-F Value → Change World Value
multiply_number n (Value-F.Str s) = aside (in_machine n (repeated_text s))
multiply_number n (Value-F.Tuple tuple) = aside (in_machine n (repeated_tuple tuple.parts))
multiply_number n (Value-F.Ref id) = repeat_ref id n
multiply_number n b = aside (by_numbers product n (number_of b))

-- A sequence and a count in either order, or two numbers.
abbrev pub multiply_values : Value-F Value → Value-F Value → Change World Value
multiply_values (Value-F.Str s) b = aside (in_machine (number_of b) (repeated_text s))
multiply_values (Value-F.Tuple tuple) b = aside (in_machine (number_of b) (repeated_tuple tuple.parts))
multiply_values (Value-F.Ref id) b = repeat_ref id (number_of b)
multiply_values a b = multiply_number (number_of a) b

-- A string before `%` is a format.
abbrev pub rest_of_values : Value-F Value → Value-F Value → Costing Value
rest_of_values (Value-F.Str s) b = leaves construct.StringFormat
rest_of_values a b = by_numbers rest (number_of a) (number_of b)

-- A sign before an integer.
abbrev pub signed : Sign → ℤ → ℤ
signed Minus n = neg_ℤ n
signed Plus n = n

abbrev pub sign_number : Sign → Option ℤ → Costing Value
sign_number sign None = raises TypeError
sign_number sign (Some n) = done (value.Int (signed sign n))

abbrev pub unary : Sign → Value → Costing Value
unary sign a = if is_view (out-Value a) then leaves construct.View else sign_number sign (number_of (out-Value a))
