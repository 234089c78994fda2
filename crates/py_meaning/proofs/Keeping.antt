-- Each operation keeps a world sound.
use Rattle.std.proofs.Common.{◌≡◌, ℕ, zero, suc, Bool, ◌&&◌, List, [], ◌∷◌, ◌++◌, refl, ◌∙◌, ap, length, Option, Some, None, ℤ}
use Rattle.std.proofs.lemmas.List.{map-append}
use Rattle.std.specs.Prelude.{slice_get, slice_set, IsTrue}
use Rattle.std.specs.List.{list_all}
use Rattle.pyn_base.specs.declared.ids.ObjId.{ObjId}
use Rattle.pyn_base.specs.declared.name.Name.{Name}
use Rattle.py_meaning.specs.declared.measured.Measured.{Measured}
use Rattle.py_meaning.specs.declared.object.Object.{Object}
use Rattle.py_meaning.specs.declared.object.Object.TheVariants as object
use Rattle.py_meaning.specs.declared.value.Value.{Value}
use Rattle.py_meaning.specs.declared.value.Value.TheVariants as value
use Rattle.py_meaning.specs.Steps.{changes}
use Rattle.py_meaning.specs.Worlds.{elements_of, pairs, pairs_of, World, Pairs, Attributes, object_at, or_nothing, with_object, dicts, is_dict, sound, sound_object, sound_args, sound_world}
use Rattle.py_meaning.specs.Keys.{key_place}
use Rattle.py_meaning.specs.Operations.{made, grown, inserted, turned, insert_place, put_pair, put_at, put_all, set_attribute, with_attribute, attribute_place, with_args, cleared}
use Rattle.py_meaning.specs.SoundRuns.{WorldSound}
use Rattle.py_meaning.proofs.Soundness.{both, first, second, stays_sound, all_join, all_one, all_set, all_reverse, all_insert, all_weaker, all_second, all_second_alone}

-- Objects of a world that grows.

args_grow : (marks more : List Bool) (args : Option (Measured Value)) → IsTrue (sound_args marks args) → IsTrue (sound_args (marks ++ more) args)
args_grow marks more None h = refl
args_grow marks more (Some args) h = stays_sound marks more (value.Tuple args) h

pair_grows : (marks more : List Bool) (pair : Value × Value) → IsTrue (sound marks pair.0 && sound marks pair.1) → IsTrue (sound (marks ++ more) pair.0 && sound (marks ++ more) pair.1)
pair_grows marks more pair h = both (sound (marks ++ more) pair.0) (sound (marks ++ more) pair.1)
    (stays_sound marks more pair.0 (first (sound marks pair.0) (sound marks pair.1) h)) (stays_sound marks more pair.1 (second (sound marks pair.0) (sound marks pair.1) h))

object_grows : (marks more : List Bool) (o : Object) → IsTrue (sound_object marks o) → IsTrue (sound_object (marks ++ more) o)
object_grows marks more (object.List items) h = all_weaker (sound marks) (sound (marks ++ more)) (stays_sound marks more) items h
object_grows marks more (object.Dict pairs changes) h = all_weaker (λ pair. sound marks pair.0 && sound marks pair.1) (λ pair. sound (marks ++ more) pair.0 && sound (marks ++ more) pair.1) (pair_grows marks more) pairs h
object_grows marks more (object.Instance class attributes args) h =
    let p = list_all (λ attribute. sound marks attribute.1) attributes in
    both (list_all (λ attribute. sound (marks ++ more) attribute.1) attributes) (sound_args (marks ++ more) args)
    (all_weaker (λ attribute. sound marks attribute.1) (λ attribute. sound (marks ++ more) attribute.1) (λ attribute. stays_sound marks more attribute.1) attributes (first p (sound_args marks args) h))
    (args_grow marks more args (second p (sound_args marks args) h))

-- a new object
pub made_world : (world : World) (o : Object) → IsTrue (sound_world world) → IsTrue (sound_object (dicts world) o) → WorldSound world (made o world)
made_world world o h k = let e : dicts (world ++ o ∷ []) ≡ dicts world ++ (is_dict o ∷ []) = map-append is_dict world (o ∷ []) in (
  rw e (all_join (sound_object (dicts world ++ (is_dict o ∷ []))) world (o ∷ [])
      (all_weaker (sound_object (dicts world)) (sound_object (dicts world ++ (is_dict o ∷ []))) (object_grows (dicts world) (is_dict o ∷ [])) world h)
      (all_one (sound_object (dicts world ++ (is_dict o ∷ []))) o (object_grows (dicts world) (is_dict o ∷ []) o k))),
  λ v f. ap (λ marks. sound marks v) e ∙ stays_sound (dicts world) (is_dict o ∷ []) v f,
)

-- A world in which one object is another of the same kind.

pub dicts_kept : (world : World) (at : ℕ) (o : Object) → is_dict o ≡ is_dict (or_nothing (slice_get world at)) → dicts (slice_set world at o) ≡ dicts world
dicts_kept [] at o e = refl
dicts_kept (x ∷ world) zero o e = ap (λ b. b ∷ dicts world) e
dicts_kept (x ∷ world) (suc at) o e = ap (λ rest. is_dict x ∷ rest) (dicts_kept world at o e)

-- an object of this kind, sound
abbrev pub Stays : List Bool → Object → Object → Type 0
Stays marks o s = (is_dict s ≡ is_dict o) × IsTrue (sound_object marks s)

pub written_world : {A : Type 0} (a : A) (world : World) (id : ObjId) (o : Object) → IsTrue (sound_world world) → Stays (dicts world) (object_at world id) o → WorldSound world (a, with_object world id o)
written_world a world id o h s = let d = dicts_kept world id.0 o s.0 in
    (rw d (all_set (sound_object (dicts world)) world id.0 o h s.1), λ v f. ap (λ marks. sound marks v) d ∙ f)

found_sound : (marks : List Bool) (world : World) (at : ℕ) → IsTrue (list_all (sound_object marks) world) → IsTrue (sound_object marks (or_nothing (slice_get world at)))
found_sound marks [] at h = refl
found_sound marks (x ∷ world) zero h = first (sound_object marks x) (list_all (sound_object marks) world) h
found_sound marks (x ∷ world) (suc at) h = found_sound marks world at (second (sound_object marks x) (list_all (sound_object marks) world) h)

pub object_sound : (world : World) (id : ObjId) → IsTrue (sound_world world) → IsTrue (sound_object (dicts world) (object_at world id))
object_sound world id h = found_sound (dicts world) world id.0 h

-- One object's changes.

module _ (marks : List Bool) where
  pub grown_stays : (more : List Value) (o : Object) → IsTrue (sound_object marks o) → IsTrue (list_all (sound marks) more) → Stays marks o (grown more o)
  grown_stays more (object.List items) h k = (refl, all_join (sound marks) items more h k)
  grown_stays more (object.Dict pairs changes) h k = (refl, h)
  grown_stays more (object.Instance class attributes args) h k = (refl, h)

  pub inserted_stays : (at : ℤ) (v : Value) (o : Object) → IsTrue (sound_object marks o) → IsTrue (sound marks v) → Stays marks o (inserted at v o)
  inserted_stays at v (object.List items) h k = (refl, all_insert (sound marks) items (insert_place at (length items)) v h k)
  inserted_stays at v (object.Dict pairs changes) h k = (refl, h)
  inserted_stays at v (object.Instance class attributes args) h k = (refl, h)

  abbrev pair_sound : Value × Value → Bool
  pair_sound pair = sound marks pair.0 && sound marks pair.1

  put_at_stays : (key v : Value) (pairs : Pairs) (n : ℕ) (place : Option ℕ) → IsTrue (list_all pair_sound pairs) → IsTrue (sound marks key) → IsTrue (sound marks v) → Stays marks (object.Dict pairs n) (put_at key v pairs n place)
  put_at_stays key v pairs n None h a b = (refl, all_join pair_sound pairs ((key, v) ∷ []) h (all_one pair_sound (key, v) (both (sound marks key) (sound marks v) a b)))
  put_at_stays key v pairs n (Some at) h a b = (refl, all_second (sound marks) (sound marks) pairs at v h b)

  pub put_pair_stays : (key v : Value) (o : Object) → IsTrue (sound_object marks o) → IsTrue (sound marks key) → IsTrue (sound marks v) → Stays marks o (put_pair key v o)
  put_pair_stays key v (object.List items) h a b = (refl, h)
  put_pair_stays key v (object.Dict pairs n) h a b = put_at_stays key v pairs n (key_place key pairs) h a b
  put_pair_stays key v (object.Instance class attributes args) h a b = (refl, h)

  pub put_all_sound : (pairs : Pairs) (o : Object) → IsTrue (list_all pair_sound pairs) → IsTrue (sound_object marks o) → IsTrue (sound_object marks (put_all pairs o))
  put_all_sound [] o h k = k
  put_all_sound (pair ∷ pairs) o h k = let both_sound = first (pair_sound pair) (list_all pair_sound pairs) h in
      put_all_sound pairs (put_pair pair.0 pair.1 o) (second (pair_sound pair) (list_all pair_sound pairs) h)
      (put_pair_stays pair.0 pair.1 o k (first (sound marks pair.0) (sound marks pair.1) both_sound) (second (sound marks pair.0) (sound marks pair.1) both_sound)).1

  attribute_stays : (name : List ℕ) (v : Value) (attributes : Attributes) (place : Option ℕ) → IsTrue (list_all (λ attribute. sound marks attribute.1) attributes) → IsTrue (sound marks v) → IsTrue (list_all (λ attribute. sound marks attribute.1) (with_attribute name v attributes place))
  attribute_stays name v attributes None h k = let p : (Name × Value) → Bool = λ attribute. sound marks attribute.1 in all_join p attributes ((name, v) ∷ []) h (all_one p (name, v) k)
  attribute_stays name v attributes (Some at) h k = all_second_alone (sound marks) attributes at v h k

  pub set_attribute_stays : (name : List ℕ) (v : Value) (o : Object) → IsTrue (sound_object marks o) → IsTrue (sound marks v) → Stays marks o (set_attribute name v o)
  set_attribute_stays name v (object.List items) h k = (refl, h)
  set_attribute_stays name v (object.Dict pairs n) h k = (refl, h)
  set_attribute_stays name v (object.Instance class attributes args) h k =
      let p = list_all (λ attribute. sound marks attribute.1) attributes in (
        refl,
        both (list_all (λ attribute. sound marks attribute.1) (with_attribute name v attributes (attribute_place name attributes))) (sound_args marks args)
            (attribute_stays name v attributes (attribute_place name attributes) (first p (sound_args marks args) h) k) (second p (sound_args marks args) h),
      )

  pub with_args_stays : (args : Measured Value) (o : Object) → IsTrue (sound_object marks o) → IsTrue (sound marks (value.Tuple args)) → Stays marks o (with_args args o)
  with_args_stays args (object.List items) h k = (refl, h)
  with_args_stays args (object.Dict pairs n) h k = (refl, h)
  with_args_stays args (object.Instance class attributes old) h k =
      let p = list_all (λ attribute. sound marks attribute.1) attributes in
      (refl, both p (sound marks (value.Tuple args)) (first p (sound_args marks old) h) k)

  pub turned_stays : (o : Object) → IsTrue (sound_object marks o) → Stays marks o (turned o)
  turned_stays (object.List items) h = (refl, all_reverse (sound marks) items h)
  turned_stays (object.Dict pairs n) h = (refl, h)
  turned_stays (object.Instance class attributes args) h = (refl, h)

  pub cleared_stays : (o : Object) → IsTrue (sound_object marks o) → Stays marks o (cleared o)
  cleared_stays (object.List items) h = (refl, refl)
  cleared_stays (object.Dict pairs n) h = (refl, refl)
  cleared_stays (object.Instance class attributes args) h = (refl, h)

pub elements_of_sound : (marks : List Bool) (o : Object) → IsTrue (sound_object marks o) → IsTrue (list_all (sound marks) (elements_of o))
elements_of_sound marks (object.List items) h = h
elements_of_sound marks (object.Dict pairs n) h = refl
elements_of_sound marks (object.Instance class attributes args) h = refl

pub pairs_of_sound : (marks : List Bool) (o : Object) → IsTrue (sound_object marks o) → IsTrue (list_all (λ pair. sound marks pair.0 && sound marks pair.1) (pairs_of o))
pairs_of_sound marks (object.List items) h = refl
pairs_of_sound marks (object.Dict pairs n) h = h
pairs_of_sound marks (object.Instance class attributes args) h = refl
