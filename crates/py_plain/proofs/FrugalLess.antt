-- The operations of `Less` gain no steps.
use Rattle.std.specs.Prelude.{ℕ, zero, suc, min, ℤ, Bool, ◌||◌, List, ◌∷◌, length, Option, Some}
use Rattle.pyn_base.specs.declared.ids.ObjId.{ObjId}
use Rattle.py_meaning.specs.declared.object.Object.{Object}
use Rattle.py_meaning.specs.declared.object.Object.TheVariants as object
use Rattle.py_meaning.specs.declared.order.Order.{Order}
use Rattle.py_meaning.specs.declared.value.Value.{Value, Value-F, out-Value}
use Rattle.py_meaning.specs.Steps.{Costing}
use Rattle.py_meaning.specs.Values.{number_of, is_view}
use Rattle.py_meaning.specs.Worlds.{World, object_at}
use Rattle.py_meaning.specs.Equal.{equal_within, comparison_limit}
use Rattle.py_meaning.specs.Less.{ordered_parts, ordered_numbers, ordered_objects, ordered_texts, ordered_refs, ordered_values, ordered_by, order_within, ordered_within, ordered}
use Rattle.py_plain.proofs.Like.{Frugal}
use Rattle.py_plain.proofs.Frugality.{frugal_done, frugal_raises, frugal_leaves, frugal_costs, frugal_then, frugal_if}
use Rattle.py_plain.proofs.FrugalEqual.{frugal_equal_within}

pub frugal_ordered_parts : (x1 : Order) → (x2 : (Value → Value → Costing Bool)) → ((y1 : Value) (y2 : Value) → Frugal (x2 y1 y2)) → (x3 : (Value → Value → Costing Bool)) → ((y1 : Value) (y2 : Value) → Frugal (x3 y1 y2)) → (x4 : List Value) → (x5 : List Value) → Frugal (ordered_parts x1 x2 x3 x4 x5)
frugal_ordered_parts order equal h2 further h3 (x ∷ xs) (y ∷ ys) = frugal_costs 1 _ (frugal_then _ _ (h2 x y) (λ same. frugal_if same _ _ (frugal_ordered_parts order equal (λ z1 z2. h2 z1 z2) further (λ z3 z4. h3 z3 z4) xs ys) (h3 x y)))
frugal_ordered_parts order equal h2 further h3 xs ys = frugal_done _

pub frugal_ordered_numbers : (x1 : Order) → (x2 : Option ℤ) → (x3 : Option ℤ) → Frugal (ordered_numbers x1 x2 x3)
frugal_ordered_numbers order (Some a) (Some b) = frugal_done _
frugal_ordered_numbers order _ _ = frugal_raises _

pub frugal_ordered_objects : (x1 : (List Value → List Value → Costing Bool)) → ((y1 : List Value) (y2 : List Value) → Frugal (x1 y1 y2)) → (x2 : Object) → (x3 : Object) → Frugal (ordered_objects x1 x2 x3)
frugal_ordered_objects parts h1 (object.List xs) (object.List ys) = h1 xs ys
frugal_ordered_objects parts h1 _ _ = frugal_raises _

pub frugal_ordered_texts : (x1 : Order) → (x2 : List ℕ) → (x3 : List ℕ) → Frugal (ordered_texts x1 x2 x3)
frugal_ordered_texts order s t = frugal_costs (min (length s) (length t)) _ (frugal_done _)

pub frugal_ordered_refs : (x1 : World) → (x2 : (List Value → List Value → Costing Bool)) → ((y1 : List Value) (y2 : List Value) → Frugal (x2 y1 y2)) → (x3 : ObjId) → (x4 : ObjId) → Frugal (ordered_refs x1 x2 x3 x4)
frugal_ordered_refs world parts h2 i j = frugal_ordered_objects parts (λ z1 z2. h2 z1 z2) (object_at world i) (object_at world j)

pub frugal_ordered_values : (x1 : World) → (x2 : Order) → (x3 : (List Value → List Value → Costing Bool)) → ((y1 : List Value) (y2 : List Value) → Frugal (x3 y1 y2)) → (x4 : Value-F Value) → (x5 : Value-F Value) → Frugal (ordered_values x1 x2 x3 x4 x5)
frugal_ordered_values world order parts h3 (Value-F.Str s) (Value-F.Str t) = frugal_ordered_texts order s t
frugal_ordered_values world order parts h3 (Value-F.Tuple xs) (Value-F.Tuple ys) = h3 xs.parts ys.parts
frugal_ordered_values world order parts h3 (Value-F.Ref i) (Value-F.Ref j) = frugal_ordered_refs world parts (λ z1 z2. h3 z1 z2) i j
frugal_ordered_values world order parts h3 a b = frugal_ordered_numbers order (number_of a) (number_of b)

pub frugal_ordered_by : (x1 : World) → (x2 : Order) → (x3 : (List Value → List Value → Costing Bool)) → ((y1 : List Value) (y2 : List Value) → Frugal (x3 y1 y2)) → (x4 : Value-F Value) → (x5 : Value-F Value) → Frugal (ordered_by x1 x2 x3 x4 x5)
frugal_ordered_by world order parts h3 a b = frugal_if ((is_view a) || (is_view b)) _ _ (frugal_leaves _) (frugal_ordered_values world order parts (λ z1 z2. h3 z1 z2) a b)

pub frugal_order_within : (x1 : ℕ) → (x2 : World) → (x3 : Order) → (x4 : List Value) → (x5 : List Value) → Frugal (order_within x1 x2 x3 x4 x5)
frugal_order_within zero world order xs ys = frugal_leaves _
frugal_order_within (suc levels) world order xs ys = frugal_ordered_parts order (equal_within levels world) (λ z1 z2. frugal_equal_within levels world z1 z2) (λ a b. ordered_by world order (order_within levels world order) (out-Value a) (out-Value b)) (λ z3 z4. frugal_ordered_by world order (order_within levels world order) (λ z5 z6. frugal_order_within levels world order z5 z6) (out-Value z3) (out-Value z4)) xs ys

pub frugal_ordered_within : (x1 : ℕ) → (x2 : World) → (x3 : Order) → (x4 : Value) → (x5 : Value) → Frugal (ordered_within x1 x2 x3 x4 x5)
frugal_ordered_within levels world order a b = frugal_ordered_by world order (order_within levels world order) (λ z1 z2. frugal_order_within levels world order z1 z2) (out-Value a) (out-Value b)

pub frugal_ordered : (x1 : World) → (x2 : Order) → (x3 : Value) → (x4 : Value) → Frugal (ordered x1 x2 x3 x4)
unfolding ordered
frugal_ordered world order a b = frugal_ordered_within comparison_limit world order a b
