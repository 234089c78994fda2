-- The operations of `Operators` gain no steps.
use Rattle.std.specs.Prelude.{◌*◌, ℤ, Bool, ◌||◌, length, Option, Some}
use Rattle.pyn_base.specs.declared.ids.ObjId.{ObjId}
use Rattle.py_syntax.specs.declared.operator.BinOp.{BinOp}
use Rattle.py_syntax.specs.declared.operator.BinOp.TheVariants.{Add, Sub, Mul, FloorDiv, Mod}
use Rattle.py_syntax.specs.declared.operator.CmpOp.{CmpOp}
use Rattle.py_syntax.specs.declared.operator.CmpOp.TheVariants.{Lt, Gt, Eq, Ge, Le, Ne, Contained, NotContained, Same, NotSame}
use Rattle.py_meaning.specs.declared.order.Order.TheVariants.{Less, Greater, AtMost, AtLeast}
use Rattle.py_meaning.specs.declared.value.Value.{Value, Value-F, out-Value}
use Rattle.py_meaning.specs.Steps.{Costing}
use Rattle.py_meaning.specs.Values.{number_of, is_view}
use Rattle.py_meaning.specs.Worlds.{World, elements}
use Rattle.py_meaning.specs.Equal.{equal}
use Rattle.py_meaning.specs.Arithmetic.{difference, quotient, count_or_zero}
use Rattle.py_meaning.specs.Membership.{identical, contains}
use Rattle.py_meaning.specs.Operators.{binary_values, binary, list_named, extend_list, repeat_in_place, repeat_list, augment_at, augment, negated, compare}
use Rattle.py_plain.proofs.Like.{Frugal, frugal_aside}
use Rattle.py_plain.proofs.Frugality.{frugal_done, frugal_leaves, frugal_costs, frugal_then, frugal_if, frugal_if_at}
use Rattle.py_plain.proofs.FrugalArithmetic.{frugal_by_numbers, frugal_difference, frugal_in_machine, frugal_multiply_values, frugal_quotient, frugal_rest_of_values}
use Rattle.py_plain.proofs.FrugalEqual.{frugal_equal}
use Rattle.py_plain.proofs.FrugalLess.{frugal_ordered}
use Rattle.py_plain.proofs.FrugalMembership.{frugal_contains, frugal_identical}
use Rattle.py_plain.proofs.FrugalSums.{frugal_add_values}
use Rattle.py_plain.proofs.FrugalWalk.{frugal_walk}

pub frugal_binary_values : (x1 : BinOp) → (x2 : Value-F Value) → (x3 : Value-F Value) → (x4 : World) → Frugal (binary_values x1 x2 x3 x4)
frugal_binary_values Add a b w3 = frugal_add_values a b w3
frugal_binary_values Sub a b w3 = frugal_aside _ w3 (frugal_by_numbers difference (λ z1 z2. frugal_difference z1 z2) (number_of a) (number_of b))
frugal_binary_values Mul a b w3 = frugal_multiply_values a b w3
frugal_binary_values FloorDiv a b w3 = frugal_aside _ w3 (frugal_by_numbers quotient (λ z1 z2. frugal_quotient z1 z2) (number_of a) (number_of b))
frugal_binary_values Mod a b w3 = frugal_aside _ w3 (frugal_rest_of_values a b)

pub frugal_binary : (x1 : BinOp) → (x2 : Value) → (x3 : Value) → (x4 : World) → Frugal (binary x1 x2 x3 x4)
frugal_binary op a b w3 = frugal_if_at ((is_view (out-Value a)) || (is_view (out-Value b))) _ _ w3 (frugal_aside _ w3 (frugal_leaves _)) (frugal_binary_values op (out-Value a) (out-Value b) w3)

pub frugal_extend_list : (x1 : ObjId) → (x2 : Value) → (x3 : World) → Frugal (extend_list x1 x2 x3)
frugal_extend_list list b world = frugal_then _ _ (frugal_walk world b) (λ items. frugal_done _)

pub frugal_repeat_in_place : (x1 : ObjId) → (x2 : World) → (x3 : ℤ) → Frugal (repeat_in_place x1 x2 x3)
frugal_repeat_in_place list world n = frugal_costs ((count_or_zero n) * (length (elements world list))) _ (frugal_done _)

pub frugal_repeat_list : (x1 : ObjId) → (x2 : Value) → (x3 : World) → Frugal (repeat_list x1 x2 x3)
frugal_repeat_list list b world = frugal_if (is_view (out-Value b)) _ _ (frugal_leaves _) (frugal_in_machine (number_of (out-Value b)) (repeat_in_place list world) (λ z1. frugal_repeat_in_place list world z1))

pub frugal_augment_at : (x1 : Option ObjId) → (x2 : BinOp) → (x3 : Value) → (x4 : Value) → (x5 : World) → Frugal (augment_at x1 x2 x3 x4 x5)
frugal_augment_at (Some list) Add a b w4 = frugal_extend_list list b w4
frugal_augment_at (Some list) Mul a b w4 = frugal_repeat_list list b w4
frugal_augment_at _ op a b w4 = frugal_binary op a b w4

pub frugal_augment : (x1 : BinOp) → (x2 : Value) → (x3 : Value) → (x4 : World) → Frugal (augment x1 x2 x3 x4)
frugal_augment op a b world = frugal_augment_at (list_named world (out-Value a)) op a b world

pub frugal_negated : (x1 : Costing Bool) → Frugal x1 → Frugal (negated x1)
frugal_negated run h1 = frugal_then _ _ h1 (λ yes. frugal_done _)

pub frugal_compare : (x1 : CmpOp) → (x2 : Value) → (x3 : Value) → (x4 : World) → Frugal (compare x1 x2 x3 x4)
frugal_compare Eq a b world = frugal_equal world a b
frugal_compare Ne a b world = frugal_negated (equal world a b) (frugal_equal world a b)
frugal_compare Lt a b world = frugal_ordered world Less a b
frugal_compare Gt a b world = frugal_ordered world Greater a b
frugal_compare Le a b world = frugal_ordered world AtMost a b
frugal_compare Ge a b world = frugal_ordered world AtLeast a b
frugal_compare Contained a b world = frugal_contains a b world
frugal_compare NotContained a b world = frugal_negated (contains a b world) (frugal_contains a b world)
frugal_compare Same a b world = frugal_identical (out-Value a) (out-Value b)
frugal_compare NotSame a b world = frugal_negated (identical (out-Value a) (out-Value b)) (frugal_identical (out-Value a) (out-Value b))
