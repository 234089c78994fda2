-- Comparisons answer, whatever is compared: none is out of memory.
use Rattle.std.proofs.Common.{ℕ, ◌+◌, Bool, List, length, Option, Some, None, ℤ, not}
use Rattle.std.specs.Option.{is_some}
use Rattle.pyn_base.specs.declared.class.BuiltClass.TheVariants.{KeyError}
use Rattle.pyn_base.specs.declared.construct.Construct.TheVariants.{View}
use Rattle.pyn_base.specs.declared.ids.ObjId.{ObjId}
use Rattle.py_syntax.specs.declared.operator.CmpOp.{CmpOp}
use Rattle.py_syntax.specs.declared.operator.CmpOp.TheVariants.{Lt, Gt, Eq, Ge, Le, Ne, Contained, NotContained, Same, NotSame}
use Rattle.py_syntax.specs.declared.operator.Sign.{Sign}
use Rattle.py_meaning.specs.declared.object.ObjKind.{ObjKind}
use Rattle.py_meaning.specs.declared.object.ObjKind.TheVariants as kind
use Rattle.py_meaning.specs.declared.op.Op.{Op}
use Rattle.py_meaning.specs.declared.op.Op.TheVariants as op
use Rattle.py_meaning.specs.declared.order.Order.TheVariants.{Less, Greater, AtMost, AtLeast}
use Rattle.py_meaning.specs.declared.value.Value.{Value, Value-F, out-Value}
use Rattle.py_meaning.specs.declared.value.View.TheVariants.{Range, Keys, Values, Items}
use Rattle.py_meaning.specs.Steps.{Costing, done, leaves}
use Rattle.py_meaning.specs.Caught.{is_found}
use Rattle.py_meaning.specs.Values.{number_of, is_view}
use Rattle.py_meaning.specs.Worlds.{World, object_at, elements, pairs}
use Rattle.py_meaning.specs.Keys.{as_key, key_cost, value_of_key}
use Rattle.py_meaning.specs.Operations.{kind_of, for_key, or_key_error, dict_get}
use Rattle.py_meaning.specs.Equal.{equal}
use Rattle.py_meaning.specs.Texts.{first_place}
use Rattle.py_meaning.specs.Membership.{identical, equal_place, any_equal, is_key_of, in_counted, in_text, in_object, in_values, contains}
use Rattle.py_meaning.specs.Operators.{negated, compare}
use Rattle.py_meaning.specs.Arithmetic.{unary, sign_number}
use Rattle.py_meaning.specs.SoundRuns.{Answers, Answering}
use Rattle.py_meaning.specs.Outcomes.{gives_asked, gives_costs, gives_if}
use Rattle.py_meaning.specs.Questions.{Any, equal_answers, ordered_answers, place_answers}
use Rattle.py_meaning.proofs.SoundWalks.{for_key_gives}

negated_answers : (run : Costing Bool) → Answering run → Answering (negated run)
negated_answers run k = gives_asked Any run (λ yes. done (not yes)) k (λ yes left. tt)

identical_answers : (a b : Value-F Value) → Answering (identical a b)
identical_answers (Value-F.Int a) (Value-F.Int b) = λ left. tt
identical_answers (Value-F.Str a) (Value-F.Str b) = λ left. tt
identical_answers (Value-F.Tuple a) (Value-F.Tuple b) = λ left. tt
identical_answers (Value-F.Bool a) (Value-F.Bool b) = λ left. tt
identical_answers (Value-F.Bool a) _ = λ left. tt
identical_answers (Value-F.Int a) _ = λ left. tt
identical_answers a Value-F.None = λ left. tt
identical_answers a b = λ left. tt

found_answers : (answer : Op Value) → Answers Any answer → Answers Any (is_found answer)
found_answers (op.Done x) h = tt
found_answers (op.Raises KeyError) h = tt
found_answers (op.Raises _) h = tt
found_answers (op.Leaves construct) h = tt
found_answers op.OutOfSteps h = tt
found_answers op.Memory h = h

error_answers : (found : Option Value) → Answering (or_key_error found)
error_answers None = λ left. tt
error_answers (Some v) = λ left. tt

sign_answers : (sign : Sign) (n : Option ℤ) → Answering (sign_number sign n)
sign_answers sign None = λ left. tt
sign_answers sign (Some n) = λ left. tt

pub unary_answers : (sign : Sign) (a : Value) → Answering (unary sign a)
unary_answers sign a = gives_if Any (is_view (out-Value a)) (leaves View) (sign_number sign (number_of (out-Value a))) (λ _ left. tt) (sign_answers sign (number_of (out-Value a)))

module _ (world : World) where
  get_answers : (dict : ObjId) (key : Value) → Answering (dict_get dict key world)
  get_answers dict key = let found = or_key_error (value_of_key key (pairs world dict)) in
      gives_costs Any (key_cost key) (for_key (as_key world key) found) (for_key_gives world Any key found (error_answers (value_of_key key (pairs world dict))))

  key_answers : (dict : ObjId) (key : Value) → Answering (is_key_of dict key world)
  key_answers dict key left = found_answers (dict_get dict key world left).0 (get_answers dict key left)

  any_answers : (item : Value) (items : List Value) → Answering (any_equal world item items)
  any_answers item items = gives_asked Any (equal_place 1 world item 0 items) (λ place. done (is_some place)) (place_answers world 1 item 0 items) (λ place left. tt)

  counted_answers : (start stop step : ℤ) (n : Option ℤ) → Answering (in_counted start stop step n)
  counted_answers start stop step None = λ left. tt
  counted_answers start stop step (Some n) = λ left. tt

  text_answers : (k : Value-F Value) (text : List ℕ) → Answering (in_text k text)
  text_answers (Value-F.Str part) text = gives_costs Any (length text + length part) (done (is_some (first_place part text))) (λ left. tt)
  text_answers _ text = λ left. tt

  object_answers : (item : Value) (id : ObjId) (kind : ObjKind) → Answering (in_object item id kind world)
  object_answers item id kind.List = any_answers item (elements world id)
  object_answers item id kind.Dict = key_answers id item
  object_answers item id (kind.Instance class) = λ left. tt

  values_answer : (item : Value) (whole : Value-F Value) → Answering (in_values item whole world)
  values_answer item (Value-F.Str text) = text_answers (out-Value item) text
  values_answer item (Value-F.Tuple t) = any_answers item t.parts
  values_answer item (Value-F.Ref id) = object_answers item id (kind_of (object_at world id))
  values_answer item (Value-F.View (Range start stop step)) = counted_answers start stop step (number_of (out-Value item))
  values_answer item (Value-F.View (Keys dict)) = key_answers dict item
  values_answer item (Value-F.View (Values dict)) = λ left. tt
  values_answer item (Value-F.View (Items dict)) = λ left. tt
  values_answer item _ = λ left. tt

  contains_answers : (item whole : Value) → Answering (contains item whole world)
  contains_answers item whole = gives_if Any (is_view (out-Value item)) (leaves View) (in_values item (out-Value whole) world) (λ _ left. tt) (values_answer item (out-Value whole))

  pub compare_answers : (op : CmpOp) (a b : Value) → Answering (compare op a b world)
  compare_answers Eq a b = equal_answers world a b
  compare_answers Ne a b = negated_answers (equal world a b) (equal_answers world a b)
  compare_answers Lt a b = ordered_answers world Less a b
  compare_answers Gt a b = ordered_answers world Greater a b
  compare_answers Le a b = ordered_answers world AtMost a b
  compare_answers Ge a b = ordered_answers world AtLeast a b
  compare_answers Contained a b = contains_answers a b
  compare_answers NotContained a b = negated_answers (contains a b world) (contains_answers a b)
  compare_answers Same a b = identical_answers (out-Value a) (out-Value b)
  compare_answers NotSame a b = negated_answers (identical (out-Value a) (out-Value b)) (identical_answers (out-Value a) (out-Value b))
