-- Soundness of a value, one level at a time.
use Rattle.std.proofs.Common.{◌≡◌, ℕ, suc, Bool, ◌&&◌, ◌==◌, List, [], ◌∷◌, map, refl, sym, ◌∙◌, ap, length, arith, nat_le, ℤ, eq-eqb}
use Rattle.std.specs.Prelude.{IsTrue, max, nat_lt}
use Rattle.std.specs.List.{list_all}
use Rattle.std.proofs.lemmas.Bool.Decides.{nat_tests}
use Rattle.py_meaning.specs.declared.value.Value.{Value, Value-F, out-Value}
use Rattle.py_meaning.specs.declared.value.Value.TheVariants as value
use Rattle.py_meaning.specs.declared.value.Value.TheVariants.{outs-Tuple}
use Rattle.py_meaning.specs.Tuples.{depth, depth_by, deepest, depth_over, tuple_limit, is_measured, tuple}
use Rattle.py_meaning.specs.Worlds.{sound, sound_by, sound_view}
use Rattle.py_meaning.specs.Walk.{shallow}
use Rattle.py_meaning.specs.Folds.{levels, views, sound-out, tuple-out}
use Rattle.py_meaning.proofs.Soundness.{both, first, second}

-- what a sound value is, by its kind
abbrev pub SoundKind : List Bool → Value-F Value → Type 0
SoundKind marks (Value-F.Tuple tuple) = IsTrue (list_all (sound marks) tuple.parts)
SoundKind marks (Value-F.Ref id) = IsTrue (nat_lt id.0 (length marks))
SoundKind marks (Value-F.View view) = IsTrue (sound_view marks view)
SoundKind marks _ = Unit {0}

max_left : (a b n : ℕ) → IsTrue (nat_le (suc (max a b)) n) → IsTrue (nat_le a n)
max_left a b n h = grind (arith, nat_tests)

max_right : (a b n : ℕ) → IsTrue (nat_le (suc (max a b)) n) → IsTrue (nat_le (suc b) n)
max_right a b n h = grind (arith, nat_tests)

-- The parts of a tuple that isn't too deep aren't.
pub parts_shallow : (parts : List Value) → IsTrue (nat_le (depth_over parts) tuple_limit) → IsTrue (shallow parts)
parts_shallow [] h = refl
parts_shallow (p ∷ ps) h = let d = deepest (map depth ps) in
    both (nat_le (depth p) 50) (shallow ps) (max_left (depth p) d 50 h) (parts_shallow ps (max_right (depth p) d 50 h))

pub tuple_depth : (parts : List Value) → depth (tuple parts) ≡ depth_over parts
tuple_depth parts = ap depth_by (tuple-out parts)

module _ (marks : List Bool) where
  kind_by : (k : Value-F Value) → IsTrue (sound_by (sound marks) depth marks k) → SoundKind marks k
  kind_by (Value-F.Tuple t) h = first (list_all (sound marks) t.parts) (is_measured t.depth (map depth t.parts)) h
  kind_by (Value-F.Ref id) h = h
  kind_by (Value-F.View view) h = h
  kind_by _ h = tt

  pub sound_kind : (v : Value) → IsTrue (sound marks v) → SoundKind marks (out-Value v)
  sound_kind v h = kind_by (out-Value v) (sym (sound-out marks v) ∙ h)

  -- and back
  pub level_sound : (v : Value) → IsTrue (sound_by (sound marks) depth marks (out-Value v)) → IsTrue (sound marks v)
  level_sound v h = sound-out marks v ∙ h

  shallow_by : (k : Value-F Value) → IsTrue (sound_by (sound marks) depth marks k) → IsTrue (nat_le (depth_by k) tuple_limit)
  shallow_by (Value-F.Tuple t) h = let right = t.depth == depth_over t.parts in let low = nat_le t.depth tuple_limit in
      second right low (second (list_all (sound marks) t.parts) (right && low) h)
  shallow_by _ h = refl

  pub sound_shallow : (v : Value) → IsTrue (sound marks v) → IsTrue (nat_le (depth v) tuple_limit)
  sound_shallow v h = shallow_by (out-Value v) (sym (sound-out marks v) ∙ h)

  pub sound_tuple : (parts : List Value) → IsTrue (list_all (sound marks) parts) → IsTrue (nat_le (depth_over parts) tuple_limit) → IsTrue (sound marks (tuple parts))
  sound_tuple parts h k = let n = depth_over parts in level_sound (tuple parts) (rw (tuple-out parts)
      (both (list_all (sound marks) parts) (n == n && nat_le n tuple_limit) h (both (n == n) (nat_le n tuple_limit) (eq-eqb n n refl) k)))

  pub sound_Str : (s : List ℕ) → IsTrue (sound marks (value.Str s))
  sound_Str s = simp (levels, views)

  pub sound_Int : (n : ℤ) → IsTrue (sound marks (value.Int n))
  sound_Int n = simp (levels, views)

  pub sound_Bool : (b : Bool) → IsTrue (sound marks (value.Bool b))
  sound_Bool b = simp (levels, views)

  pub sound_None : IsTrue (sound marks value.None)
  sound_None = simp (levels, views)
