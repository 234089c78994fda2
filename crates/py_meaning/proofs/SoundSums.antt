-- Sums of sound values are sound.
use Rattle.std.proofs.Common.{nat_le, ℕ, Bool, true, false, ◌&&◌, ◌||◌, if◌then◌else◌, List, ◌++◌, length, ℤ, Option, Some, None, ◌+◌}
use Rattle.std.specs.Prelude.{IsTrue, ◌+ℤ◌}
use Rattle.pyn_base.specs.Int.{in_range}
use Rattle.pyn_base.specs.declared.construct.Construct.TheVariants as construct
use Rattle.pyn_base.specs.declared.ids.ObjId.{ObjId}
use Rattle.py_meaning.specs.declared.object.Object.TheVariants as object
use Rattle.py_meaning.specs.declared.value.Value.{Value, Value-F, out-Value}
use Rattle.py_meaning.specs.declared.value.Value.TheVariants as value
use Rattle.py_meaning.specs.Steps.{Costing, aside, costs, done, raises, leaves}
use Rattle.py_meaning.specs.Values.{number_of, is_view}
use Rattle.py_meaning.specs.Tuples.{depth_over, tuple_limit, tuple, new_tuple}
use Rattle.py_meaning.specs.Worlds.{World, object_at, elements, sound, sound_world, dicts, within_machine}
use Rattle.py_meaning.specs.Operations.{made}
use Rattle.py_meaning.specs.Arithmetic.{in_machine}
use Rattle.py_meaning.specs.Sums.{add, add_values, add_refs, add_lists, add_texts, add_tuples, add_numbers, or_range, is_list, as_value}
use Rattle.py_meaning.specs.SoundRuns.{AllFit, Fits, Gives, Holds}
use Rattle.py_meaning.proofs.Soundness.{all_join}
use Rattle.py_meaning.specs.Outcomes.{gives_costs, gives_if, gives_aside}
use Rattle.py_meaning.proofs.SoundKinds.{SoundKind, sound_kind, sound_Str, sound_tuple, sound_Int}
use Rattle.py_meaning.proofs.SoundWalks.{elements_fit, made_holds}

module _ (world : World) where
  -- a new list, paid for
  pub new_list_holds : (items : List Value) → IsTrue (sound_world world) → AllFit world items → Gives (Holds world) (done (as_value (made (object.List items) world)))
  new_list_holds items h f left = made_holds world (object.List items) h f

  pub text_gives : (n : ℕ) (s : List ℕ) → Gives (Fits world) (costs n (done (value.Str s)))
  text_gives n s = gives_costs (Fits world) n (done (value.Str s)) (λ left. sound_Str (dicts world) s)

  pub tuple_gives : (parts : List Value) → AllFit world parts → Gives (Fits world) (new_tuple parts)
  tuple_gives parts f = gives_if (Fits world) (nat_le (depth_over parts) tuple_limit) (done (tuple parts)) (leaves construct.TupleDepth) (λ c left. sound_tuple (dicts world) parts f c) (λ left. tt)

  pub paid_tuple_gives : (n : ℕ) (parts : List Value) → AllFit world parts → Gives (Fits world) (costs n (new_tuple parts))
  paid_tuple_gives n parts f = gives_costs (Fits world) n (new_tuple parts) (tuple_gives parts f)

  pub or_range_gives : (n : Option ℤ) → Gives (Fits world) (or_range n)
  or_range_gives None = λ left. tt
  or_range_gives (Some n) = λ left. sound_Int (dicts world) n

  add_numbers_gives : (a b : Option ℤ) → Gives (Fits world) (add_numbers a b)
  add_numbers_gives (Some a) (Some b) = or_range_gives (in_range (a +ℤ b))
  add_numbers_gives (Some a) None = λ left. tt
  add_numbers_gives None b = λ left. tt

  numbers_hold : (a b : Option ℤ) → IsTrue (sound_world world) → Gives (Holds world) (aside (add_numbers a b) world)
  numbers_hold a b h = gives_aside world (add_numbers a b) h (add_numbers_gives a b)

  joined_holds : (i j : ObjId) → IsTrue (sound_world world) → Gives (Holds world) (add_lists (elements world i) (elements world j) world)
  joined_holds i j h = let xs = elements world i in let ys = elements world j in
      gives_costs (Holds world) (length xs + length ys) (done (as_value (made (object.List (xs ++ ys)) world)))
      (new_list_holds (xs ++ ys) h (all_join (sound (dicts world)) xs ys (elements_fit world i h) (elements_fit world j h)))

  refs_hold : (i j : ObjId) → IsTrue (sound_world world) → Gives (Holds world) (add_refs i j world)
  refs_hold i j h = gives_if (Holds world) (is_list (object_at world i) && is_list (object_at world j)) (add_lists (elements world i) (elements world j) world) (raises _) (λ k. joined_holds i j h) (λ left. tt)

  texts_hold : (s t : List ℕ) → IsTrue (sound_world world) → Gives (Holds world) (aside (add_texts s t) world)
  texts_hold s t h = gives_aside world (add_texts s t) h (text_gives (length s + length t) (s ++ t))

  tuples_hold : (xs ys : List Value) → IsTrue (sound_world world) → AllFit world xs → AllFit world ys → Gives (Holds world) (aside (add_tuples xs ys) world)
  tuples_hold xs ys h f g = gives_aside world (add_tuples xs ys) h (paid_tuple_gives (length xs + length ys) (xs ++ ys) (all_join (sound (dicts world)) xs ys f g))

  pub add_values_hold : (a b : Value-F Value) → IsTrue (sound_world world) → SoundKind (dicts world) a → SoundKind (dicts world) b → Gives (Holds world) (add_values a b world)
  add_values_hold (Value-F.Str s) (Value-F.Str t) h f g = texts_hold s t h
  add_values_hold (Value-F.Tuple s) (Value-F.Tuple t) h f g = tuples_hold s.parts t.parts h f g
  add_values_hold (Value-F.Ref i) (Value-F.Ref j) h f g = refs_hold i j h
  add_values_hold a b h f g = numbers_hold (number_of a) (number_of b) h

  by_view : (b : Bool) (x : Value-F Value) (y : Value-F Value) → IsTrue (sound_world world) → SoundKind (dicts world) x → SoundKind (dicts world) y → Gives (Holds world) ((if b then (λ world. leaves construct.View) else add_values x y) world)
  by_view true x y h f g = λ left. tt
  by_view false x y h f g = add_values_hold x y h f g

  pub add_holds : (a b : Value) → IsTrue (sound_world world) → Fits world a → Fits world b → Gives (Holds world) (add a b world)
  add_holds a b h f g = by_view (is_view (out-Value a) || is_view (out-Value b)) (out-Value a) (out-Value b) h (sound_kind (dicts world) a f) (sound_kind (dicts world) b g)

pub in_machine_gives : {A : Type 0} (P : A → Type 0) (n : Option ℤ) (next : ℤ → Costing A) → ((z : ℤ) → Gives P (next z)) → Gives P (in_machine n next)
in_machine_gives P None next k = λ left. tt
in_machine_gives P (Some n) next k = gives_if P (within_machine n) (next n) (leaves construct.MachineSize) (λ _. k n) (λ left. tt)
