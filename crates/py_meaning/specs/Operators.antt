-- The operators (Language Reference 6.6, 6.7, 6.10 and 7.2.1), one equation a row. A cost comes before its effect, and what no
-- row has raises TypeError and costs nothing.
use Rattle.std.specs.Prelude.{◌*◌, ℤ, Bool, not, if◌then◌else◌, ◌||◌, length, Option, Some, None}
use Rattle.std.specs.List.{repeat}
use Rattle.pyn_base.specs.declared.construct.Construct.TheVariants as construct
use Rattle.pyn_base.specs.declared.ids.ObjId.{ObjId}
use Rattle.py_syntax.specs.declared.operator.BinOp.{BinOp}
use Rattle.py_syntax.specs.declared.operator.BinOp.TheVariants.{Add, Sub, Mul, FloorDiv, Mod}
use Rattle.py_syntax.specs.declared.operator.CmpOp.{CmpOp}
use Rattle.py_syntax.specs.declared.operator.CmpOp.TheVariants.{Lt, Gt, Eq, Ge, Le, Ne, Contained, NotContained, Same, NotSame}
use Rattle.py_meaning.specs.declared.order.Order.TheVariants.{Less, Greater, AtMost, AtLeast}
use Rattle.py_meaning.specs.declared.value.Value.{Value, Value-F, out-Value}
use Rattle.py_meaning.specs.declared.value.Value.TheVariants as value
use Rattle.py_meaning.specs.Steps.{Costing, Change, aside, done, leaves, costs, ◌>>=◌}
use Rattle.py_meaning.specs.Values.{number_of, is_view}
use Rattle.py_meaning.specs.Worlds.{World, object_at, elements}
use Rattle.py_meaning.specs.Operations.{list_extend_free, set_elements}
use Rattle.py_meaning.specs.Walk.{walk}
use Rattle.py_meaning.specs.Equal.{equal}
use Rattle.py_meaning.specs.Less.{ordered}
use Rattle.py_meaning.specs.Sums.{add_values, is_list}
use Rattle.py_meaning.specs.Arithmetic.{by_numbers, difference, quotient, multiply_values, rest_of_values, in_machine, count_or_zero}
use Rattle.py_meaning.specs.Membership.{identical, contains}

abbrev pub binary_values : BinOp → Value-F Value → Value-F Value → Change World Value
binary_values Add a b = add_values a b
binary_values Sub a b = aside (by_numbers difference (number_of a) (number_of b))
binary_values Mul a b = multiply_values a b
binary_values FloorDiv a b = aside (by_numbers quotient (number_of a) (number_of b))
binary_values Mod a b = aside (rest_of_values a b)

-- An operand that is a view leaves.
abbrev pub binary : BinOp → Value → Value → Change World Value
binary op a b = if is_view (out-Value a) || is_view (out-Value b) then aside (leaves construct.View) else binary_values op (out-Value a) (out-Value b)

-- the list that a value names
abbrev pub list_named : World → Value-F Value → Option ObjId
list_named world (Value-F.Ref id) = if is_list (object_at world id) then Some id else None
list_named world _ = None

-- `+=` on a list: it grows by what is walked, which is taken first.
abbrev pub extend_list : ObjId → Value → Change World Value
extend_list list b world = walk world b >>= (λ items. done (value.Ref list, list_extend_free list items world))

-- `*=` on a list, which stays the same object.
abbrev pub repeat_in_place : ObjId → World → ℤ → Costing (Value × World)
repeat_in_place list world n = costs (count_or_zero n * length (elements world list)) (done (value.Ref list, set_elements list (repeat (count_or_zero n) (elements world list)) world))

abbrev pub repeat_list : ObjId → Value → Change World Value
repeat_list list b world = if is_view (out-Value b) then leaves construct.View else in_machine (number_of (out-Value b)) (repeat_in_place list world)

abbrev pub augment_at : Option ObjId → BinOp → Value → Value → Change World Value
augment_at (Some list) Add a b = extend_list list b
augment_at (Some list) Mul a b = repeat_list list b
augment_at _ op a b = binary op a b

-- An augmented assignment's operator. A list is changed itself by `+=` and `*=`; all else is as the operator.
abbrev pub augment : BinOp → Value → Value → Change World Value
augment op a b world = augment_at (list_named world (out-Value a)) op a b world

abbrev pub negated : Costing Bool → Costing Bool
negated run = run >>= (λ yes. done (not yes))

abbrev pub compare : CmpOp → Value → Value → World → Costing Bool
compare Eq a b world = equal world a b
compare Ne a b world = negated (equal world a b)
compare Lt a b world = ordered world Less a b
compare Gt a b world = ordered world Greater a b
compare Le a b world = ordered world AtMost a b
compare Ge a b world = ordered world AtLeast a b
compare Contained a b world = contains a b world
compare NotContained a b world = negated (contains a b world)
compare Same a b world = identical (out-Value a) (out-Value b)
compare NotSame a b world = negated (identical (out-Value a) (out-Value b))
