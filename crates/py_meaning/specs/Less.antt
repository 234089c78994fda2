-- The orderings (Language Reference 6.10.1) and what they cost.
use Rattle.std.specs.Prelude.{ℕ, zero, suc, min, ℤ, Bool, if◌then◌else◌, ◌||◌, List, ◌∷◌, length, Option, Some}
use Rattle.std.specs.declared.cmp.Ordering.{Ordering}
use Rattle.std.specs.Ordering.{is_lt, is_gt, is_le, is_ge, nat_cmp, int_cmp}
use Rattle.std.specs.Cmp.Lexicographic.{slice_cmp}
use Rattle.pyn_base.specs.declared.class.BuiltClass.TheVariants.{TypeError}
use Rattle.pyn_base.specs.declared.construct.Construct.TheVariants as construct
use Rattle.pyn_base.specs.declared.ids.ObjId.{ObjId}
use Rattle.py_meaning.specs.declared.object.Object.{Object}
use Rattle.py_meaning.specs.declared.object.Object.TheVariants as object
use Rattle.py_meaning.specs.declared.order.Order.{Order}
use Rattle.py_meaning.specs.declared.order.Order.TheVariants.{Less, Greater, AtMost, AtLeast}
use Rattle.py_meaning.specs.declared.value.Value.{Value, Value-F, out-Value}
use Rattle.py_meaning.specs.Steps.{Costing, done, raises, leaves, costs, ◌>>=◌}
use Rattle.py_meaning.specs.Values.{number_of, is_view}
use Rattle.py_meaning.specs.Worlds.{World, object_at}
use Rattle.py_meaning.specs.Equal.{equal_within, comparison_limit}

-- whether the order holds of two things that compare so
abbrev pub holds : Order → Ordering → Bool
holds Less = is_lt
holds Greater = is_gt
holds AtMost = is_le
holds AtLeast = is_ge

-- One step and the comparisons' cost for each pair: the first unequal pair decides, and else the lengths.
abbrev pub ordered_parts : Order → (Value → Value → Costing Bool) → (Value → Value → Costing Bool) → List Value → List Value → Costing Bool
ordered_parts order equal further (x ∷ xs) (y ∷ ys) = costs 1 (equal x y >>= (λ same. if same then ordered_parts order equal further xs ys else further x y))
ordered_parts order equal further xs ys = done (holds order (nat_cmp (length xs) (length ys)))

abbrev pub ordered_numbers : Order → Option ℤ → Option ℤ → Costing Bool
ordered_numbers order (Some a) (Some b) = done (holds order (int_cmp a b))
ordered_numbers order _ _ = raises TypeError

abbrev pub ordered_objects : (List Value → List Value → Costing Bool) → Object → Object → Costing Bool
ordered_objects parts (object.List xs) (object.List ys) = parts xs ys
ordered_objects parts _ _ = raises TypeError

-- strings by code point, at the shorter one's length
abbrev pub ordered_texts : Order → List ℕ → List ℕ → Costing Bool
ordered_texts order s t = costs (min (length s) (length t)) (done (holds order (slice_cmp nat_cmp s t)))

abbrev pub ordered_refs : World → (List Value → List Value → Costing Bool) → ObjId → ObjId → Costing Bool
ordered_refs world parts i j = ordered_objects parts (object_at world i) (object_at world j)

-- other kinds raise
abbrev pub ordered_values : World → Order → (List Value → List Value → Costing Bool) → Value-F Value → Value-F Value → Costing Bool
ordered_values world order parts (Value-F.Str s) (Value-F.Str t) = ordered_texts order s t
ordered_values world order parts (Value-F.Tuple s) (Value-F.Tuple t) = parts s.parts t.parts
ordered_values world order parts (Value-F.Ref i) (Value-F.Ref j) = ordered_refs world parts i j
ordered_values world order parts a b = ordered_numbers order (number_of a) (number_of b)

-- Views have no order.
abbrev pub ordered_by : World → Order → (List Value → List Value → Costing Bool) → Value-F Value → Value-F Value → Costing Bool
ordered_by world order parts a b = if is_view a || is_view b then leaves construct.View else ordered_values world order parts a b

-- how parts are ordered where so many levels of them may still be
abbrev pub order_within : ℕ → World → Order → List Value → List Value → Costing Bool
order_within zero world order xs ys = leaves construct.ComparisonDepth
order_within (suc levels) world order xs ys = ordered_parts order (equal_within levels world)
    (λ a b. ordered_by world order (order_within levels world order) (out-Value a) (out-Value b)) xs ys

abbrev pub ordered_within : ℕ → World → Order → Value → Value → Costing Bool
ordered_within levels world order a b = ordered_by world order (order_within levels world order) (out-Value a) (out-Value b)

unfoldable pub ordered : World → Order → Value → Value → Costing Bool
ordered world order a b = ordered_within comparison_limit world order a b
