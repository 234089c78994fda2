-- A key's place found by its hash, and the hashes after a change of the pairs.
use Rattle.std.proofs.Common.{◌≡◌, ℕ, zero, suc, Bool, true, false, if◌then◌else◌, List, [], ◌∷◌, map, length, get_or, Option, Some, None, refl, sym, ap, ◌∙◌, arith, inl, inr, ◌+◌, eq-eqb, eqb-true}
use Rattle.std.specs.Prelude.{nat_eq, nat_lt, remove}
use Rattle.std.specs.Option.{option_map}
use Rattle.std.specs.List.{position, position_or_len, IsDistinct, AllByRecursion}
use Rattle.std.proofs.lemmas.Bool.{true≢false, cases_lt}
use Rattle.std.proofs.lemmas.Bool.Decides.{nat_tests}
use Rattle.std.proofs.lemmas.Map.Keys.{IsDistinct-head, IsDistinct-tail}
use Rattle.indexmap.proofs.SetLemmas.{map-remove}
use Rattle.py_meaning.specs.declared.value.Value.{Value}
use Rattle.py_meaning.specs.Worlds.{Pairs}
use Rattle.py_meaning.specs.Keys.{same_key, key_place}
use Rattle.py_meaning.specs.Lists.{with_second}
use Rattle.py_objects.specs.Hashes.{key_hash, hashes_of}
use Rattle.py_objects.proofs.SameHash.{one_hash}

-- The place in a list with one element more at its front.
shifted : (k n : ℕ) → (if nat_lt (1 + k) (suc n) then Some (1 + k) else None) ≡ option_map suc (if nat_lt k n then Some k else None)
shifted k n = elim (cases_lt k n) [ inl h ↦ grind (arith, nat_tests) | inr h ↦ grind (arith, nat_tests) ]

starts : (n : ℕ) → nat_lt 0 (suc n) ≡ true
starts n = grind (arith, nat_tests)

one_more : {A : Type 0} (test : A → Bool) (x : A) (xs : List A) (b : Bool) → test x ≡ b → position test (x ∷ xs) ≡ (if b then Some 0 else option_map suc (position test xs))
one_more test x xs true e = rw (e, starts (length xs)) refl
one_more test x xs false e = rw e (shifted (position_or_len test xs) (length xs))

module _ {A : Type 0} (test : A → Bool) (hash : A → ℕ) (h : ℕ) (agrees : (a : A) → test a ≡ true → h ≡ hash a) where
  -- An element with another hash doesn't pass.
  other : (a : A) → nat_eq h (hash a) ≡ false → (b : Bool) → test a ≡ b → b ≡ false
  other a e true t = absurd (true≢false (sym (eq-eqb h (hash a) (agrees a t)) ∙ e))
  other a e false t = refl

  fails : (a : A) → nat_eq h (hash a) ≡ false → test a ≡ false
  fails a e = let b = other a e (test a) refl in b

  none_left : (k : ℕ) (xs : List A) → h ≡ k → AllByRecursion (λ y. nat_eq k y ≡ false) (map hash xs) → position test xs ≡ None
  none_left k [] is apart = refl
  none_left k (x ∷ xs) is apart = one_more test x xs false (fails x (ap (λ n. nat_eq n (hash x)) is ∙ apart.0)) ∙ ap (option_map suc) (none_left k xs is apart.1)

  -- what the place of the hash says of the element's
  abbrev Tells : List A → Option ℕ → Type 0
  Tells xs None = position test xs ≡ None
  Tells xs (Some i) = (a : A) → a ≡ get_or xs i a → position test xs ≡ (if test a then Some i else None)

  later : (b : Bool) (i : ℕ) → option_map suc (if b then Some i else None) ≡ (if b then Some (suc i) else None)
  later true i = refl
  later false i = refl

  tells_more : (x : A) (xs : List A) (found : Option ℕ) → test x ≡ false → Tells xs found → Tells (x ∷ xs) (option_map suc found)
  tells_more x xs None f told = one_more test x xs false f ∙ ap (option_map suc) told
  tells_more x xs (Some i) f told = λ a e. one_more test x xs false f ∙ ap (option_map suc) (told a e) ∙ later (test a) i

  tells_first : (x : A) (xs : List A) → h ≡ hash x → AllByRecursion (λ y. nat_eq (hash x) y ≡ false) (map hash xs) → (b : Bool) → test x ≡ b → position test (x ∷ xs) ≡ (if b then Some 0 else None)
  tells_first x xs is apart true t = one_more test x xs true t
  tells_first x xs is apart false t = one_more test x xs false t ∙ ap (option_map suc) (none_left (hash x) xs is apart)

  pub told_of : (xs : List A) (found found' : Option ℕ) → found ≡ found' → Tells xs found' → Tells xs found
  told_of xs found found' e told = rw e told

  pub tells : (xs : List A) → IsDistinct nat_eq (map hash xs) → Tells xs (position (nat_eq h) (map hash xs))
  tells [] distinct = refl
  tells (x ∷ xs) distinct = told_of (x ∷ xs) (position (nat_eq h) (map hash (x ∷ xs))) (if nat_eq h (hash x) then Some 0 else option_map suc (position (nat_eq h) (map hash xs))) (one_more (nat_eq h) (hash x) (map hash xs) (nat_eq h (hash x)) refl) (elim (nat_eq h (hash x)) as (λ b. nat_eq h (hash x) ≡ b → Tells (x ∷ xs) (if b then Some 0 else option_map suc (position (nat_eq h) (map hash xs)))) [
    | true ↦ λ e a is. tells_first x xs (eqb-true h (hash x) e) (IsDistinct-head nat_eq (hash x) (map hash xs) distinct) (test x) refl ∙ ap (λ y. if test y then Some 0 else None) (sym is)
    | false ↦ λ e. tells_more x xs (position (nat_eq h) (map hash xs)) (fails x e) (tells xs (IsDistinct-tail nat_eq (hash x) (map hash xs) distinct))
  ] refl)

module _ (key : Value) (pairs : Pairs) (keys : List ℕ) (h : ℕ) (held : keys ≡ hashes_of pairs) (distinct : IsDistinct nat_eq keys) (is : h ≡ key_hash key) where
  abbrev same : Value × Value → Bool
  same pair = same_key key pair.0

  abbrev hash : Value × Value → ℕ
  hash pair = key_hash pair.0

  agrees : (pair : Value × Value) → same pair ≡ true → h ≡ hash pair
  agrees pair e = is ∙ one_hash key pair.0 e

  told : (found : Option ℕ) → found ≡ position (nat_eq h) keys → Tells same hash h agrees pairs found
  told found e = told_of same hash h agrees pairs found (position (nat_eq h) (hashes_of pairs)) (e ∙ ap (position (nat_eq h)) held) (tells same hash h agrees pairs (rw (← held) distinct))

  pub no_place : (found : Option ℕ) → found ≡ position (nat_eq h) keys → found ≡ None → None ≡ key_place key pairs
  no_place found e none = sym (told None (sym none ∙ e))

  pub place_if : (found : Option ℕ) (at : ℕ) (pair : Value × Value) (b : Bool) → found ≡ position (nat_eq h) keys → found ≡ Some at → pair ≡ get_or pairs at pair → same_key key pair.0 ≡ b → (if b then Some at else None) ≡ key_place key pairs
  place_if found at pair b e some is_pair t = sym (told (Some at) (sym some ∙ e) pair is_pair ∙ ap (λ b. if b then Some at else None) t)

-- Another value under a key changes no hash.
pub hashes_kept : (pairs : Pairs) (at : ℕ) (value : Value) → hashes_of (with_second pairs at value) ≡ hashes_of pairs
hashes_kept [] at value = refl
hashes_kept (pair ∷ pairs) zero value = refl
hashes_kept (pair ∷ pairs) (suc at) value = ap (λ rest. key_hash pair.0 ∷ rest) (hashes_kept pairs at value)

pub hashes_removed : (pairs : Pairs) (at : ℕ) → hashes_of (remove pairs at) ≡ remove (hashes_of pairs) at
hashes_removed pairs at = map-remove (λ pair. key_hash pair.0) pairs at
