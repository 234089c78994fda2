-- What is walked, found and made of sound values is sound.
use Rattle.std.proofs.Common.{◌≡◌, ℕ, zero, suc, Bool, true, false, ◌&&◌, ◌||◌, not, List, [], ◌∷◌, ◌++◌, map, refl, sym, ap, ◌∙◌, length, arith, nat_le, ℤ, ◌+ℤ◌, Option, Some, None, length-append}
use Rattle.std.proofs.lemmas.List.{length-map}
use Rattle.std.specs.Prelude.{IsTrue, IfSome, nat_lt, slice_get, min, ◌^◌, ◌-◌}
use Rattle.std.specs.List.{list_all, sum_by}
use Rattle.std.specs.Option.{option_map}
use Rattle.std.proofs.lemmas.Bool.Decides.{nat_tests}
use Rattle.pyn_base.specs.declared.construct.Construct.TheVariants.{TupleDepth}
use Rattle.pyn_base.specs.declared.ids.ObjId.{ObjId}
use Rattle.pyn_base.specs.declared.name.Name.{Name}
use Rattle.py_meaning.specs.declared.object.Object.{Object}
use Rattle.py_meaning.specs.declared.object.Object.TheVariants as object
use Rattle.py_meaning.specs.declared.op.Op.{Op}
use Rattle.py_meaning.specs.declared.op.Op.TheVariants as op
use Rattle.py_meaning.specs.declared.value.Value.{Value, Value-F, out-Value}
use Rattle.py_meaning.specs.declared.value.Value.TheVariants as value
use Rattle.py_meaning.specs.declared.value.Value.TheVariants.{outs-Ref}
use Rattle.py_meaning.specs.declared.value.View.{View}
use Rattle.py_meaning.specs.declared.value.View.TheVariants.{Range, Keys, Values, Items}
use Rattle.py_meaning.specs.Steps.{Costing, done, leaves, ◌>>=◌}
use Rattle.py_meaning.specs.Values.{at_place, range_length}
use Rattle.py_meaning.specs.Tuples.{depth, tuple, tuple_limit}
use Rattle.py_meaning.specs.Worlds.{World, Pairs, Attributes, object_at, elements, pairs, attributes, attributes_of, sound_args, sound, sound_object, sound_world, dicts, is_dict}
use Rattle.py_meaning.specs.Walk.{counted, characters_of, keys_of, values_of, items_of, walked_object, walked_view, walked_by, walked, walk, walk_over, taken, shallow, gives_new_tuples}
use Rattle.py_meaning.specs.Keys.{value_of_key, key_place, key_cost, as_key, all_keys}
use Rattle.py_meaning.specs.Operations.{for_key, or_key_error, attr_get, attribute_place, args_of, dict_get, dict_copy, make_list, make_dict, put_all, made}
use Rattle.py_meaning.specs.Sums.{as_value}
use Rattle.py_meaning.specs.SoundRuns.{AllFit, Answers, Fits, Gives, Holds, Made}
use Rattle.py_meaning.proofs.Soundness.{both, first, second, all_weaker, all_got}
use Rattle.py_meaning.proofs.Keeping.{object_sound, elements_of_sound, pairs_of_sound, made_world, put_all_sound}
use Rattle.py_meaning.specs.Outcomes.{gives_costs, gives_if, gives_then}
use Rattle.py_meaning.proofs.SoundKinds.{SoundKind, sound_kind, level_sound, sound_shallow, sound_tuple, tuple_depth, sound_Str, sound_Int}
use Rattle.py_meaning.specs.Questions.{as_key_answers, next_key}

abbrev pub pair_fits : List Bool → Value × Value → Bool
pair_fits marks pair = sound marks pair.0 && sound marks pair.1

pub elements_fit : (world : World) (id : ObjId) → IsTrue (sound_world world) → AllFit world (elements world id)
elements_fit world id h = elements_of_sound (dicts world) (object_at world id) (object_sound world id h)

pub pairs_fit : (world : World) (id : ObjId) → IsTrue (sound_world world) → IsTrue (list_all (pair_fits (dicts world)) (pairs world id))
pairs_fit world id h = pairs_of_sound (dicts world) (object_at world id) (object_sound world id h)

module _ (marks : List Bool) where
  pub characters_fit : (s : List ℕ) → IsTrue (list_all (sound marks) (characters_of s))
  characters_fit [] = refl
  characters_fit (c ∷ s) = both (sound marks (value.Str (c ∷ []))) (list_all (sound marks) (characters_of s)) (sound_Str marks (c ∷ [])) (characters_fit s)

  pub texts_fit : (texts : List (List ℕ)) → IsTrue (list_all (sound marks) (map value.Str texts))
  texts_fit [] = refl
  texts_fit (s ∷ texts) = both (sound marks (value.Str s)) (list_all (sound marks) (map value.Str texts)) (sound_Str marks s) (texts_fit texts)

  counted_fit : (start step : ℤ) (count : ℕ) → IsTrue (list_all (sound marks) (counted start step count))
  counted_fit start step zero = refl
  counted_fit start step (suc count) = both (sound marks (value.Int start)) (list_all (sound marks) (counted (start +ℤ step) step count)) (sound_Int marks start) (counted_fit (start +ℤ step) step count)

  keys_fit : (ps : Pairs) → IsTrue (list_all (pair_fits marks) ps) → IsTrue (list_all (sound marks) (keys_of ps))
  keys_fit [] h = refl
  keys_fit (p ∷ ps) h = let rest = list_all (pair_fits marks) ps in both (sound marks p.0) (list_all (sound marks) (keys_of ps))
      (first (sound marks p.0) (sound marks p.1) (first (pair_fits marks p) rest h)) (keys_fit ps (second (pair_fits marks p) rest h))

  values_fit : (ps : Pairs) → IsTrue (list_all (pair_fits marks) ps) → IsTrue (list_all (sound marks) (values_of ps))
  values_fit [] h = refl
  values_fit (p ∷ ps) h = let rest = list_all (pair_fits marks) ps in both (sound marks p.1) (list_all (sound marks) (values_of ps))
      (second (sound marks p.0) (sound marks p.1) (first (pair_fits marks p) rest h)) (values_fit ps (second (pair_fits marks p) rest h))

  pair_sound : (a b : Value) → IsTrue (sound marks a) → IsTrue (sound marks b) → IsTrue (nat_le (depth (tuple (a ∷ b ∷ []))) tuple_limit) → IsTrue (sound marks (tuple (a ∷ b ∷ [])))
  pair_sound a b h k low = sound_tuple marks (a ∷ b ∷ []) (both (sound marks a) (sound marks b && true) h (both (sound marks b) true k refl)) (ap (λ n. nat_le n tuple_limit) (sym (tuple_depth (a ∷ b ∷ []))) ∙ low)

  items_fit : (ps : Pairs) → IsTrue (list_all (pair_fits marks) ps) → IsTrue (shallow (items_of ps)) → IsTrue (list_all (sound marks) (items_of ps))
  items_fit [] h k = refl
  items_fit (p ∷ ps) h k = let rest = list_all (pair_fits marks) ps in let one = first (pair_fits marks p) rest h in let low = nat_le (depth (tuple (p.0 ∷ p.1 ∷ []))) tuple_limit in
      both (sound marks (tuple (p.0 ∷ p.1 ∷ []))) (list_all (sound marks) (items_of ps))
      (pair_sound p.0 p.1 (first (sound marks p.0) (sound marks p.1) one) (second (sound marks p.0) (sound marks p.1) one) (first low (shallow (items_of ps)) k))
      (items_fit ps (second (pair_fits marks p) rest h) (second low (shallow (items_of ps)) k))

  -- What is walked is sound where it isn't too deep, as only the tuples may be that the walk makes.
  abbrev pub Walked : Bool → Option (List Value) → Type 0
  Walked made None = Unit {0}
  Walked made (Some items) = (IsTrue (shallow items) → IsTrue (list_all (sound marks) items)) × (IsTrue (not made) → IsTrue (shallow items))

  there : (items : List Value) → IsTrue (list_all (sound marks) items) → Walked false (Some items)
  there items h = (λ _. h, λ _. all_weaker (sound marks) (λ x. nat_le (depth x) tuple_limit) (sound_shallow marks) items h)

module _ (world : World) where
  shallow_by : (made : Bool) (items : List Value) → IsTrue (not made || shallow items) → (IsTrue (not made) → IsTrue (shallow items)) → IsTrue (shallow items)
  shallow_by true items c k = c
  shallow_by false items c k = k refl

  walked_gives : (made : Bool) (items : Option (List Value)) → Walked (dicts world) made items → Gives (AllFit world) (walk_over made items)
  walked_gives made None k = λ left. tt
  walked_gives made (Some items) k = gives_costs (AllFit world) (length items) (taken made items)
      (gives_if (AllFit world) (not made || shallow items) (done items) (leaves TupleDepth) (λ c left. k.0 (shallow_by made items c k.1)) (λ left. tt))

  object_walked : (o : Object) → IsTrue (sound_object (dicts world) o) → Walked (dicts world) false (walked_object o)
  object_walked (object.List items) h = there (dicts world) items h
  object_walked (object.Dict ps n) h = there (dicts world) (keys_of ps) (keys_fit (dicts world) ps h)
  object_walked (object.Instance class attributes args) h = tt

  view_walked : (view : View) → IsTrue (sound_world world) → Walked (dicts world) (gives_new_tuples (Value-F.View view)) (Some (walked_view world view))
  view_walked (Range start stop step) h = there (dicts world) (counted start step (range_length start stop step)) (counted_fit (dicts world) start step (range_length start stop step))
  view_walked (Keys dict) h = there (dicts world) (keys_of (pairs world dict)) (keys_fit (dicts world) (pairs world dict) (pairs_fit world dict h))
  view_walked (Values dict) h = there (dicts world) (values_of (pairs world dict)) (values_fit (dicts world) (pairs world dict) (pairs_fit world dict h))
  view_walked (Items dict) h = (items_fit (dicts world) (pairs world dict) (pairs_fit world dict h), λ n. cc)

  kind_walked : (k : Value-F Value) → IsTrue (sound_world world) → SoundKind (dicts world) k → Walked (dicts world) (gives_new_tuples k) (walked_by world k)
  kind_walked (Value-F.Str s) h f = there (dicts world) (characters_of s) (characters_fit (dicts world) s)
  kind_walked (Value-F.Tuple t) h f = there (dicts world) t.parts f
  kind_walked (Value-F.Ref id) h f = object_walked (object_at world id) (object_sound world id h)
  kind_walked (Value-F.View view) h f = view_walked view h
  kind_walked _ h f = tt

  pub walked_fits : (v : Value) → IsTrue (sound_world world) → Fits world v → Walked (dicts world) (gives_new_tuples (out-Value v)) (walked world v)
  walked_fits v h f = kind_walked (out-Value v) h (sound_kind (dicts world) v f)

  pub walk_gives : (v : Value) → IsTrue (sound_world world) → Fits world v → Gives (AllFit world) (walk world v)
  walk_gives v h f = walked_gives (gives_new_tuples (out-Value v)) (walked world v) (walked_fits v h f)

  for_answer : {A : Type 0} (P : A → Type 0) (answer : Op (Unit {0})) (run : Costing A) → Answers (λ _. Unit {0}) answer → Gives P run → Gives P (for_key answer run)
  for_answer P (op.Done _) run n k = k
  for_answer P (op.Raises class) run n k = λ left. tt
  for_answer P (op.Leaves construct) run n k = λ left. tt
  for_answer P op.OutOfSteps run n k = λ left. tt
  for_answer P op.Memory run n k = absurd n

  pub for_key_gives : {A : Type 0} (P : A → Type 0) (key : Value) (run : Costing A) → Gives P run → Gives P (for_key (as_key world key) run)
  for_key_gives P key run = for_answer P (as_key world key) run (as_key_answers world key)

  got_fits : (found : Option (Value × Value)) → ((pair : Value × Value) → found ≡ Some pair → IsTrue (pair_fits (dicts world) pair)) → IfSome (option_map (λ pair. pair.1) found) (Fits world)
  got_fits None f = tt
  got_fits (Some pair) f = second (sound (dicts world) pair.0) (sound (dicts world) pair.1) (f pair refl)

  found_fits : (ps : Pairs) (place : Option ℕ) → IsTrue (list_all (pair_fits (dicts world)) ps) → IfSome (option_map (λ pair. pair.1) (at_place ps place)) (Fits world)
  found_fits ps None h = tt
  found_fits ps (Some at) h = got_fits (slice_get ps at) (λ pair e. all_got (pair_fits (dicts world)) ps at pair h e)

  or_key_error_gives : (found : Option Value) → IfSome found (Fits world) → Gives (Fits world) (or_key_error found)
  or_key_error_gives None h = λ left. tt
  or_key_error_gives (Some v) h = λ left. h

  pub dict_get_gives : (dict : ObjId) (key : Value) → IsTrue (sound_world world) → Gives (Fits world) (dict_get dict key world)
  dict_get_gives dict key h = gives_costs (Fits world) (key_cost key) (for_key (as_key world key) (or_key_error (value_of_key key (pairs world dict))))
      (for_key_gives (Fits world) key (or_key_error (value_of_key key (pairs world dict)))
      (or_key_error_gives (value_of_key key (pairs world dict)) (found_fits (pairs world dict) (key_place key (pairs world dict)) (pairs_fit world dict h))))

-- New objects.

named : (world : World) (o : Object) → IsTrue (nat_lt (length world) (length (dicts (world ++ o ∷ []))))
named world o = let e = length-map (world ++ o ∷ []) is_dict in let f = length-append world (o ∷ []) in grind (arith, nat_tests)

pub made_holds : (world : World) (o : Object) → IsTrue (sound_world world) → IsTrue (sound_object (dicts world) o) → Made world (made o world)
made_holds world o h k = let id = (made o world).0 in (made_world world o h k, level_sound (dicts (world ++ o ∷ [])) (value.Ref id) (rw (outs-Ref id) (named world o)))

pub made_value : (world : World) (run : Costing (ObjId × World)) → Gives (Made world) run → Gives (Holds world) (run >>= (λ new. done (as_value new)))
made_value world run k = gives_then (Made world) (Holds world) (λ new. done (as_value new)) (λ new m left. m) run k

pub copy_made : (world : World) (dict : ObjId) → IsTrue (sound_world world) → Gives (Made world) (dict_copy dict world)
copy_made world dict h = let ps = pairs world dict in let n = min (length ps) (2 ^ 64 - 1) in gives_costs (Made world) (length ps) (done (made (object.Dict ps n) world))
    (λ left. made_holds world (object.Dict ps n) h (pairs_fit world dict h))

pub list_made : (world : World) (items : List Value) → IsTrue (sound_world world) → AllFit world items → Gives (Made world) (make_list items world)
list_made world items h f = gives_costs (Made world) (length items) (done (made (object.List items) world)) (λ left. made_holds world (object.List items) h f)

keys_answer : (world : World) (ps : Pairs) → Answers (λ _. Unit {0}) (all_keys (map (λ pair. as_key world pair.0) ps))
keys_answer world [] = tt
keys_answer world (p ∷ ps) = next_key (as_key world p.0) (map (λ pair. as_key world pair.0) ps) (as_key_answers world p.0) (keys_answer world ps)

pub dict_made : (world : World) (ps : Pairs) → IsTrue (sound_world world) → IsTrue (list_all (pair_fits (dicts world)) ps) → Gives (Made world) (make_dict ps world)
dict_made world ps h f = let new = put_all ps (object.Dict [] 0) in let keys = all_keys (map (λ pair. as_key world pair.0) ps) in
    gives_costs (Made world) (sum_by (λ pair. key_cost pair.0) ps) (for_key keys (done (made new world)))
    (for_answer world (Made world) keys (done (made new world)) (keys_answer world ps) (λ left. made_holds world new h (put_all_sound (dicts world) ps (object.Dict [] 0) f refl)))

-- What is read of a sound world.

there_fits : (world : World) (found : Option Value) → ((v : Value) → found ≡ Some v → Fits world v) → IfSome found (Fits world)
there_fits world None k = tt
there_fits world (Some v) k = k v refl

pub at_fits : (world : World) (xs : List Value) (place : Option ℕ) → AllFit world xs → IfSome (at_place xs place) (Fits world)
at_fits world xs None f = tt
at_fits world xs (Some at) f = there_fits world (slice_get xs at) (λ v e. all_got (sound (dicts world)) xs at v f e)

attribute_fits : (world : World) (found : Option (Name × Value)) → ((a : Name × Value) → found ≡ Some a → Fits world a.1) → IfSome (option_map (λ a. a.1) found) (Fits world)
attribute_fits world None k = tt
attribute_fits world (Some a) k = k a refl

attributes_of_sound : (marks : List Bool) (o : Object) → IsTrue (sound_object marks o) → IsTrue (list_all (λ a. sound marks a.1) (attributes_of o))
attributes_of_sound marks (object.List items) h = refl
attributes_of_sound marks (object.Dict ps n) h = refl
attributes_of_sound marks (object.Instance class held args) h = first (list_all (λ a. sound marks a.1) held) (sound_args marks args) h

attribute_at_fits : (world : World) (held : Attributes) (place : Option ℕ) → IsTrue (list_all (λ a. sound (dicts world) a.1) held) → IfSome (option_map (λ a. a.1) (at_place held place)) (Fits world)
attribute_at_fits world held None f = tt
attribute_at_fits world held (Some at) f = attribute_fits world (slice_get held at) (λ a e. all_got (λ a. sound (dicts world) a.1) held at a f e)

pub attr_get_fits : (world : World) (instance : ObjId) (name : List ℕ) → IsTrue (sound_world world) → IfSome (attr_get instance name world) (Fits world)
attr_get_fits world instance name h = let held = attributes world instance in
    attribute_at_fits world held (attribute_place name held) (attributes_of_sound (dicts world) (object_at world instance) (object_sound world instance h))

known_args_fit : (world : World) (o : Object) → IsTrue (sound_object (dicts world) o) → IfSome (args_of o) (λ args. Fits world (value.Tuple args))
known_args_fit world (object.List items) h = tt
known_args_fit world (object.Dict ps n) h = tt
known_args_fit world (object.Instance class held None) h = tt
known_args_fit world (object.Instance class held (Some args)) h = second (list_all (λ a. sound (dicts world) a.1) held) (sound (dicts world) (value.Tuple args)) h

pub args_fit : (world : World) (instance : ObjId) → IsTrue (sound_world world) → IfSome (args_of (object_at world instance)) (λ args. Fits world (value.Tuple args))
args_fit world instance h = known_args_fit world (object_at world instance) (object_sound world instance h)
