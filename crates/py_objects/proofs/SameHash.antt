-- Keys that are the same have one hash.
use Rattle.std.proofs.Common.{◌≡◌, ℕ, ◌==◌, ◌&&◌, ℤ, Bool, true, false, List, [], ◌∷◌, map, Option, Some, None, refl, sym, ap, ◌∙◌, arith}
use Rattle.std.proofs.lemmas.Bool.{true≢false}
use Rattle.std.proofs.lemmas.Bool.Decides.{nat_tests, Decides-int_eq}
use Rattle.std.proofs.lemmas.Slice.Eq.{bytes_eq-Decides}
use Rattle.pyn_base.specs.declared.class.ClassId.{ClassId}
use Rattle.pyn_base.specs.declared.class.ClassId.TheVariants.{Built, Own}
use Rattle.py_meaning.specs.declared.value.Value.{Value, Value-F, out-Value, ind-Value, roll-Value, fold-roll-Value, fold_out-Value}
use Rattle.py_meaning.specs.declared.value.Value.TheFolds.{map-Value}
use Rattle.py_meaning.specs.Values.{number_of_truth, place_of_class, same_class, same_number}
use Rattle.py_meaning.specs.Keys.{same_key, same_key_by, all_agree}
use Rattle.py_objects.specs.Hashes.{mixed, hash_of_number, hash_of_class, hash_of_counted, hash_of_parts, key_hash, key_hash_by}

pub hash_out : (v : Value) → key_hash v ≡ key_hash_by (map-Value Value ℕ key_hash (out-Value v))
unfolding key_hash
hash_out v = fold_out-Value ℕ key_hash_by v

same_place : (a b : ℕ) → (a == b) ≡ true → a ≡ b
same_place a b h = grind (arith, nat_tests)

both : (a b : Bool) → (a && b) ≡ true → (a ≡ true) × (b ≡ true)
both true b h = (refl, h)
both false b h = absurd (true≢false (sym h))

one_number : (m n : Option ℤ) → same_number m n ≡ true → hash_of_counted m ≡ hash_of_counted n
one_number (Some a) (Some b) h = ap hash_of_number ((Decides-int_eq a b).0 h)
one_number (Some a) None h = absurd (true≢false (sym h))
one_number None n h = absurd (true≢false (sym h))

one_class : (c d : ClassId) → same_class c d ≡ true → hash_of_class c ≡ hash_of_class d
one_class (Built a) (Built b) h = ap (mixed 5) (same_place (place_of_class a) (place_of_class b) h)
one_class (Own a) (Own b) h = ap (mixed 6) (same_place a b h)
one_class _ _ h = absurd (true≢false (sym h))

abbrev OneHash : Value → Type 0
OneHash a = (b : Value) → same_key a b ≡ true → key_hash a ≡ key_hash b

module _ {E : Type 0} (p : E → Value) (k : (e : E) → OneHash (p e)) where
  parts : (es : List E) (vs : List Value) → all_agree (map same_key (map p es)) vs ≡ true → map key_hash (map p es) ≡ map key_hash vs
  parts [] [] h = refl
  parts [] (v ∷ vs) h = absurd (true≢false (sym h))
  parts (e ∷ es) [] h = absurd (true≢false (sym h))
  parts (e ∷ es) (v ∷ vs) h = let both_same = both (same_key (p e) v) (all_agree (map same_key (map p es)) vs) h in
      ap (λ x. x ∷ map key_hash (map p es)) (k e v both_same.0) ∙ ap (λ rest. key_hash v ∷ rest) (parts es vs both_same.1)

  at_level : (y : Value-F E) (z : Value-F Value) → same_key_by (map-Value Value (Value → Bool) same_key (map-Value E Value p y)) z ≡ true
      → key_hash_by (map-Value Value ℕ key_hash (map-Value E Value p y)) ≡ key_hash_by (map-Value Value ℕ key_hash z)
  at_level (Value-F.Tuple t) (Value-F.Tuple u) h = ap (hash_of_parts 2) (parts t.parts u.parts h)
  at_level (Value-F.Str s) (Value-F.Str t) h = ap (hash_of_parts 1) ((bytes_eq-Decides s t).0 h)
  at_level (Value-F.Ref i) (Value-F.Ref j) h = ap (mixed 7) (same_place i.0 j.0 h)
  at_level (Value-F.Class c) (Value-F.Class d) h = one_class c d h
  at_level (Value-F.Func f) (Value-F.Func g) h = ap (mixed 8) (same_place f.0 g.0 h)
  at_level Value-F.None Value-F.None h = refl
  at_level Value-F.ModuleRef Value-F.ModuleRef h = refl
  at_level (Value-F.Bool a) (Value-F.Bool b) h = one_number (Some (number_of_truth a)) (Some (number_of_truth b)) h
  at_level (Value-F.Bool a) (Value-F.Int n) h = one_number (Some (number_of_truth a)) (Some n) h
  at_level (Value-F.Int n) (Value-F.Bool b) h = one_number (Some n) (Some (number_of_truth b)) h
  at_level (Value-F.Int m) (Value-F.Int n) h = one_number (Some m) (Some n) h
  at_level _ _ h = absurd (true≢false (sym h))

same_rolled : (x : Value-F Value) (b : Value) → same_key (roll-Value x) b ≡ same_key_by (map-Value Value (Value → Bool) same_key x) (out-Value b)
unfolding same_key
same_rolled x b = ap (λ f. f b) (fold-roll-Value (Value → Bool) (λ a c. same_key_by a (out-Value c)) x)

hash_rolled : (x : Value-F Value) → key_hash (roll-Value x) ≡ key_hash_by (map-Value Value ℕ key_hash x)
unfolding key_hash
hash_rolled x = fold-roll-Value ℕ key_hash_by x

step : {E : Type 0} (p : E → Value) (x : Value-F Value) (y : Value-F E) → map-Value E Value p y ≡ x → ((e : E) → OneHash (p e)) → OneHash (roll-Value x)
step p x y is k b h =
    let h' = ap (λ x. same_key_by (map-Value Value (Value → Bool) same_key x) (out-Value b)) is ∙ sym (same_rolled x b) ∙ h in
    hash_rolled x ∙ ap (λ x. key_hash_by (map-Value Value ℕ key_hash x)) (sym is) ∙ at_level p k y (out-Value b) h' ∙ sym (hash_out b)

pub one_hash : (a b : Value) → same_key a b ≡ true → key_hash a ≡ key_hash b
one_hash = ind-Value OneHash (λ x y is. step (λ e. e.0) x y is (λ e. e.1))
