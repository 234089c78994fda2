-- Questions of values answer, whatever the values are: none is out of memory, and none gives steps back.
use Rattle.std.proofs.Common.{◌≡◌, ℕ, zero, suc, ◌+◌, ◌||◌, ◌==◌, Bool, true, false, if◌then◌else◌, List, [], ◌∷◌, map, length, Option, Some, None, ℤ}
use Rattle.std.specs.Prelude.{min, bytes_eq}
use Rattle.std.specs.Ordering.{nat_cmp}
use Rattle.std.specs.Cmp.Lexicographic.{slice_cmp}
use Rattle.pyn_base.specs.declared.construct.Construct.TheVariants.{View}
use Rattle.py_meaning.specs.declared.object.Object.{Object}
use Rattle.py_meaning.specs.declared.object.Object.TheVariants as object
use Rattle.py_meaning.specs.declared.op.Op.{Op}
use Rattle.py_meaning.specs.declared.op.Op.TheVariants as op
use Rattle.py_meaning.specs.declared.order.Order.{Order}
use Rattle.py_meaning.specs.declared.value.Value.{Value, Value-F, out-Value, ind-Value, fold-roll-Value, roll-Value}
use Rattle.py_meaning.specs.declared.value.Value.TheFolds.{map-Value}
use Rattle.py_meaning.specs.Steps.{Costing, done, leaves, costs, ◌>>=◌}
use Rattle.py_meaning.specs.Values.{number_of, is_view}
use Rattle.py_meaning.specs.Worlds.{World, Pairs, object_at}
use Rattle.py_meaning.specs.Keys.{key_cost, value_of_key, as_key, as_key_by, all_keys, object_as_key}
use Rattle.py_meaning.specs.Equal.{Parts, equal, equal_by, equal_within, equal_parts, equal_pair, equal_pairs, equal_to_found, equal_objects, equal_texts, of_one_length, parts_within, comparison_limit}
use Rattle.py_meaning.specs.Less.{holds, ordered, ordered_by, ordered_values, ordered_numbers, ordered_objects, ordered_parts, order_within}
use Rattle.py_meaning.specs.Membership.{equal_place}
use Rattle.py_meaning.specs.SoundRuns.{Answers, Answering, Asks}
use Rattle.py_meaning.specs.Outcomes.{asks_costs, asks_if, asks_then, ends}

abbrev pub Any : {A : Type 0} → A → Type 0
Any a = Unit {0}

-- Keys.

abbrev AnswersKey : Op (Unit {0}) → Type 0
AnswersKey answer = Answers (λ _. Unit {0}) answer

pub next_key : (answer : Op (Unit {0})) (rest : List (Op (Unit {0}))) → AnswersKey answer → AnswersKey (all_keys rest) → AnswersKey (all_keys (answer ∷ rest))
next_key (op.Done _) rest h k = k
next_key (op.Raises class) rest h k = tt
next_key (op.Leaves construct) rest h k = tt
next_key op.OutOfSteps rest h k = tt
next_key op.Memory rest h k = h

object_answers : (o : Object) → AnswersKey (object_as_key o)
object_answers (object.List items) = tt
object_answers (object.Dict ps n) = tt
object_answers (object.Instance class attributes args) = tt

module _ {E : Type 0} (world : World) (p : E → Value) (k : (e : E) → AnswersKey (as_key world (p e))) where
  all_answer : (es : List E) → AnswersKey (all_keys (map (as_key world) (map p es)))
  all_answer [] = tt
  all_answer (e ∷ es) = next_key (as_key world (p e)) (map (as_key world) (map p es)) (k e) (all_answer es)

  key_by : (y : Value-F E) → AnswersKey (as_key_by world (map-Value Value (Op (Unit {0})) (as_key world) (map-Value E Value p y)))
  key_by (Value-F.Tuple t) = all_answer t.parts
  key_by (Value-F.Ref id) = object_answers (object_at world id)
  key_by (Value-F.View view) = tt
  key_by _ = tt

key_rolled : (world : World) (x : Value-F Value) → as_key world (roll-Value x) ≡ as_key_by world (map-Value Value (Op (Unit {0})) (as_key world) x)
unfolding as_key
key_rolled world x = fold-roll-Value (Op (Unit {0})) (as_key_by world) x

key_step : {E : Type 0} (world : World) (p : E → Value) (x : Value-F Value) (y : Value-F E) → map-Value E Value p y ≡ x → ((e : E) → AnswersKey (as_key world (p e))) → AnswersKey (as_key world (roll-Value x))
key_step world p x y is k = rw (key_rolled world x, ← is) (key_by world p k y)

pub as_key_answers : (world : World) (key : Value) → AnswersKey (as_key world key)
as_key_answers world = ind-Value (λ v. AnswersKey (as_key world v)) (λ x y is. key_step world (λ e. e.0) x y is (λ e. e.1))

-- Equality.

module _ (f : Value → Value → Costing Bool) (k : (a b : Value) → Asks (f a b)) where
  parts_answer : (xs ys : List Value) → Asks (equal_parts f xs ys)
  parts_answer [] ys = ends
  parts_answer (x ∷ xs) [] = ends
  parts_answer (x ∷ xs) (y ∷ ys) = asks_costs 1 (f x y >>= (λ same. if same then equal_parts f xs ys else done false))
      (asks_then (f x y) (λ same. if same then equal_parts f xs ys else done false) (k x y) (λ same. asks_if same (equal_parts f xs ys) (done false) (parts_answer xs ys) ends))

  found_answers : (found : Option Value) (y : Value) → Asks (equal_to_found f found y)
  found_answers None y = ends
  found_answers (Some x) y = k x y

  pair_answers : (left : Pairs) (pair : Value × Value) → Asks (equal_pair f left pair)
  unfolding equal_pair
  pair_answers ps pair = asks_costs (1 + key_cost pair.0) (equal_to_found f (value_of_key pair.0 ps) pair.1) (found_answers (value_of_key pair.0 ps) pair.1)

  pairs_answer : (ps qs : Pairs) → Asks (equal_pairs f ps qs)
  pairs_answer ps [] = ends
  pairs_answer ps (q ∷ qs) = asks_then (equal_pair f ps q) (λ same. if same then equal_pairs f ps qs else done false) (pair_answers ps q)
      (λ same. asks_if same (equal_pairs f ps qs) (done false) (pairs_answer ps qs) ends)

abbrev PartsAnswer : Parts → Type 0
PartsAnswer parts = ((xs ys : List Value) → Asks (parts.sequences xs ys)) × ((ps qs : Pairs) → Asks (parts.dicts ps qs))

one_length_answers : {A : Type 0} (f : List A → List A → Costing Bool) (xs ys : List A) → Asks (f xs ys) → Asks (of_one_length f xs ys)
one_length_answers f xs ys k = asks_if (length xs == length ys) (f xs ys) (done false) k ends

texts_answer : (s t : List ℕ) → Asks (equal_texts s t)
texts_answer s t = let compare : List ℕ → List ℕ → Costing Bool = λ s t. costs (length s) (done (bytes_eq s t)) in
    one_length_answers compare s t (asks_costs (length s) (done (bytes_eq s t)) ends)

module _ (world : World) where
  module _ (parts : Parts) (k : PartsAnswer parts) where
    objects_answer : (o o' : Object) → Asks (equal_objects parts o o')
    objects_answer (object.List xs) (object.List ys) = one_length_answers parts.sequences xs ys (k.0 xs ys)
    objects_answer (object.Dict ps n) (object.Dict qs m) = one_length_answers parts.dicts ps qs (k.1 ps qs)
    objects_answer _ _ = ends

    by_answers : (a b : Value-F Value) → Asks (equal_by world parts a b)
    by_answers (Value-F.Str s) (Value-F.Str t) = texts_answer s t
    by_answers (Value-F.Tuple s) (Value-F.Tuple t) = one_length_answers parts.sequences s.parts t.parts (k.0 s.parts t.parts)
    by_answers (Value-F.Ref i) (Value-F.Ref j) = asks_if (i.0 == j.0) (done true) (equal_objects parts (object_at world i) (object_at world j)) ends (objects_answer (object_at world i) (object_at world j))
    by_answers (Value-F.View x) (Value-F.View y) = ends
    by_answers a b = ends

  within_answers : (levels : ℕ) → PartsAnswer (parts_within levels world)
  within_answers zero = ((λ xs ys. ends), (λ ps qs. ends))
  within_answers (suc levels) = let f : Value → Value → Costing Bool = λ a b. equal_by world (parts_within levels world) (out-Value a) (out-Value b) in
      let k : (a b : Value) → Asks (f a b) = λ a b. by_answers (parts_within levels world) (within_answers levels) (out-Value a) (out-Value b) in
      (parts_answer f k, pairs_answer f k)

  equal_within_answers : (levels : ℕ) (a b : Value) → Asks (equal_within levels world a b)
  equal_within_answers levels a b = by_answers (parts_within levels world) (within_answers levels) (out-Value a) (out-Value b)

  pub equal_asks : (a b : Value) → Asks (equal world a b)
  unfolding equal
  equal_asks a b = equal_within_answers comparison_limit a b

  pub place_asks : (each : ℕ) (item : Value) (at : ℕ) (xs : List Value) → Asks (equal_place each world item at xs)
  place_asks each item at [] = ends
  place_asks each item at (x ∷ xs) = let next : Bool → Costing (Option ℕ) = λ same. if same then done (Some at) else equal_place each world item (suc at) xs in
      asks_costs each (equal world x item >>= next) (asks_then (equal world x item) next (equal_asks x item) (λ same. asks_if same (done (Some at)) (equal_place each world item (suc at) xs) ends (place_asks each item (suc at) xs)))

  -- Orderings.

  module _ (order : Order) where
    numbers_answer : (a b : Option ℤ) → Asks (ordered_numbers order a b)
    numbers_answer (Some a) (Some b) = ends
    numbers_answer (Some a) None = ends
    numbers_answer None b = ends

    module _ (parts : List Value → List Value → Costing Bool) (k : (xs ys : List Value) → Asks (parts xs ys)) where
      ordered_objects_answer : (o o' : Object) → Asks (ordered_objects parts o o')
      ordered_objects_answer (object.List xs) (object.List ys) = k xs ys
      ordered_objects_answer _ _ = ends

      values_answer : (a b : Value-F Value) → Asks (ordered_values world order parts a b)
      values_answer (Value-F.Str s) (Value-F.Str t) = asks_costs (min (length s) (length t)) (done (holds order (slice_cmp nat_cmp s t))) ends
      values_answer (Value-F.Tuple s) (Value-F.Tuple t) = k s.parts t.parts
      values_answer (Value-F.Ref i) (Value-F.Ref j) = ordered_objects_answer (object_at world i) (object_at world j)
      values_answer a b = numbers_answer (number_of a) (number_of b)

      ordered_by_answers : (a b : Value-F Value) → Asks (ordered_by world order parts a b)
      ordered_by_answers a b = asks_if (is_view a || is_view b) (leaves View) (ordered_values world order parts a b) ends (values_answer a b)

    sequence_answers : (f g : Value → Value → Costing Bool) → ((a b : Value) → Asks (f a b)) → ((a b : Value) → Asks (g a b)) → (xs ys : List Value) → Asks (ordered_parts order f g xs ys)
    sequence_answers f g k l (x ∷ xs) (y ∷ ys) = let next : Bool → Costing Bool = λ same. if same then ordered_parts order f g xs ys else g x y in
        asks_costs 1 (f x y >>= next) (asks_then (f x y) next (k x y) (λ same. asks_if same (ordered_parts order f g xs ys) (g x y) (sequence_answers f g k l xs ys) (l x y)))
    sequence_answers f g k l [] ys = ends
    sequence_answers f g k l (x ∷ xs) [] = ends

    order_answers : (levels : ℕ) (xs ys : List Value) → Asks (order_within levels world order xs ys)
    order_answers zero xs ys = ends
    order_answers (suc levels) xs ys = sequence_answers (equal_within levels world) (λ a b. ordered_by world order (order_within levels world order) (out-Value a) (out-Value b))
        (equal_within_answers levels) (λ a b. ordered_by_answers (order_within levels world order) (order_answers levels) (out-Value a) (out-Value b)) xs ys

    pub ordered_asks : (a b : Value) → Asks (ordered world order a b)
    unfolding ordered
    ordered_asks a b = ordered_by_answers (order_within comparison_limit world order) (order_answers comparison_limit) (out-Value a) (out-Value b)

-- The same without the steps.

pub equal_answers : (world : World) (a b : Value) → Answering (equal world a b)
equal_answers world a b left = (equal_asks world a b left).0

pub place_answers : (world : World) (each : ℕ) (item : Value) (at : ℕ) (xs : List Value) → Answering (equal_place each world item at xs)
place_answers world each item at xs left = (place_asks world each item at xs left).0

pub ordered_answers : (world : World) (order : Order) (a b : Value) → Answering (ordered world order a b)
ordered_answers world order a b left = (ordered_asks world order a b left).0
