-- A sound value stays so where objects are added.
use Rattle.std.proofs.Common.{◌≡◌, ℕ, zero, suc, Bool, true, false, ◌&&◌, List, [], ◌∷◌, ◌++◌, map, refl, sym, ◌∙◌, ap, length, arith, length-append}
use Rattle.std.specs.Prelude.{slice_index_or, slice_get, slice_set, remove, take, drop, reverse, nat_lt, Some, IsTrue}
use Rattle.std.specs.List.{list_all, insert}
use Rattle.py_meaning.specs.Lists.{with_second}
use Rattle.py_meaning.specs.Tuples.{depth, is_measured}
use Rattle.std.proofs.lemmas.List.{reverse-append}
use Rattle.std.proofs.lemmas.Bool.Decides.{nat_tests}
use Rattle.py_meaning.specs.declared.value.Value.{Value, Value-F, ind-Value, roll-Value}
use Rattle.py_meaning.specs.declared.value.Value.TheFolds.{map-Value}
use Rattle.py_meaning.specs.declared.value.View.{View}
use Rattle.py_meaning.specs.declared.value.View.TheVariants.{Range, Keys, Values, Items}
use Rattle.py_meaning.specs.Worlds.{sound, sound_by, sound_view}
use Rattle.py_meaning.specs.Folds.{sound-roll, sound_by-map}

pub both : (a b : Bool) → IsTrue a → IsTrue b → IsTrue (a && b)
both true b p q = q
both false b p q = p

pub first : (a b : Bool) → IsTrue (a && b) → IsTrue a
first true b p = refl
first false b p = p

pub second : (a b : Bool) → IsTrue (a && b) → IsTrue b
second true b p = p
second false b p = cc

-- a place that was marked
still_marked : (marks more : List Bool) (at : ℕ) → IsTrue (slice_index_or marks at false) → IsTrue (slice_index_or (marks ++ more) at false)
still_marked [] more at h = cc
still_marked (m ∷ marks) more zero h = h
still_marked (m ∷ marks) more (suc at) h = still_marked marks more at h

still_there : (marks more : List Bool) (at : ℕ) → IsTrue (nat_lt at (length marks)) → IsTrue (nat_lt at (length (marks ++ more)))
still_there marks more at h = let e = length-append marks more in grind (arith, nat_tests)

still_view : (marks more : List Bool) (view : View) → IsTrue (sound_view marks view) → IsTrue (sound_view (marks ++ more) view)
still_view marks more (Range a b c) h = h
still_view marks more (Keys dict) h = still_marked marks more dict.0 h
still_view marks more (Values dict) h = still_marked marks more dict.0 h
still_view marks more (Items dict) h = still_marked marks more dict.0 h

-- Lists whose items all pass.
module _ {A : Type 0} (p : A → Bool) where
  pub all_join : (xs ys : List A) → IsTrue (list_all p xs) → IsTrue (list_all p ys) → IsTrue (list_all p (xs ++ ys))
  all_join [] ys h k = k
  all_join (x ∷ xs) ys h k = both (p x) (list_all p (xs ++ ys)) (first (p x) (list_all p xs) h) (all_join xs ys (second (p x) (list_all p xs) h) k)

  pub all_one : (x : A) → IsTrue (p x) → IsTrue (list_all p (x ∷ []))
  all_one x h = both (p x) true h refl

  pub all_take : (n : ℕ) (xs : List A) → IsTrue (list_all p xs) → IsTrue (list_all p (take n xs))
  all_take zero xs h = refl
  all_take (suc n) [] h = refl
  all_take (suc n) (x ∷ xs) h = both (p x) (list_all p (take n xs)) (first (p x) (list_all p xs) h) (all_take n xs (second (p x) (list_all p xs) h))

  pub all_drop : (n : ℕ) (xs : List A) → IsTrue (list_all p xs) → IsTrue (list_all p (drop n xs))
  all_drop zero xs h = h
  all_drop (suc n) [] h = refl
  all_drop (suc n) (x ∷ xs) h = all_drop n xs (second (p x) (list_all p xs) h)

  pub all_set : (xs : List A) (at : ℕ) (x : A) → IsTrue (list_all p xs) → IsTrue (p x) → IsTrue (list_all p (slice_set xs at x))
  all_set [] at x h k = refl
  all_set (y ∷ xs) zero x h k = both (p x) (list_all p xs) k (second (p y) (list_all p xs) h)
  all_set (y ∷ xs) (suc at) x h k = both (p y) (list_all p (slice_set xs at x)) (first (p y) (list_all p xs) h) (all_set xs at x (second (p y) (list_all p xs) h) k)

  pub all_remove : (xs : List A) (at : ℕ) → IsTrue (list_all p xs) → IsTrue (list_all p (remove xs at))
  all_remove xs at h = all_join (take at xs) (drop (suc at) xs) (all_take at xs h) (all_drop (suc at) xs h)

  pub all_reverse : (xs : List A) → IsTrue (list_all p xs) → IsTrue (list_all p (reverse xs))
  all_reverse [] h = refl
  all_reverse (x ∷ xs) h = ap (list_all p) (reverse-append (x ∷ []) xs) ∙ all_join (reverse xs) (x ∷ []) (all_reverse xs (second (p x) (list_all p xs) h)) (all_one x (first (p x) (list_all p xs) h))

  pub all_insert : (xs : List A) (at : ℕ) (x : A) → IsTrue (list_all p xs) → IsTrue (p x) → IsTrue (list_all p (insert xs at x))
  all_insert xs at x h k = all_join (take at xs) (x ∷ drop at xs) (all_take at xs h) (both (p x) (list_all p (drop at xs)) k (all_drop at xs h))

  pub all_got : (xs : List A) (at : ℕ) (x : A) → IsTrue (list_all p xs) → slice_get xs at ≡ Some x → IsTrue (p x)
  all_got [] at x h e = cc
  all_got (y ∷ xs) zero x h e = let k = first (p y) (list_all p xs) h in let f : y ≡ x = cc in ap p (sym f) ∙ k
  all_got (y ∷ xs) (suc at) x h e = all_got xs at x (second (p y) (list_all p xs) h) e

pub all_weaker : {A : Type 0} (p q : A → Bool) → ((x : A) → IsTrue (p x) → IsTrue (q x)) → (xs : List A) → IsTrue (list_all p xs) → IsTrue (list_all q xs)
all_weaker p q f [] h = refl
all_weaker p q f (x ∷ xs) h = both (q x) (list_all q xs) (f x (first (p x) (list_all p xs) h)) (all_weaker p q f xs (second (p x) (list_all p xs) h))

-- A value in a world with more objects.

module _ (marks more : List Bool) {E : Type 0} (f g : E → Bool) (deep : E → ℕ) (grows : (e : E) → IsTrue (f e) → IsTrue (g e)) where
  still_by : (k : Value-F E) → IsTrue (sound_by f deep marks k) → IsTrue (sound_by g deep (marks ++ more) k)
  still_by (Value-F.Tuple t) h = let m = is_measured t.depth (map deep t.parts) in
      both (list_all g t.parts) m (all_weaker f g grows t.parts (first (list_all f t.parts) m h)) (second (list_all f t.parts) m h)
  still_by (Value-F.Ref id) h = still_there marks more id.0 h
  still_by (Value-F.View view) h = still_view marks more view h
  still_by _ h = refl

abbrev Grows : List Bool → List Bool → Value → Type 0
Grows marks more v = IsTrue (sound marks v) → IsTrue (sound (marks ++ more) v)

at_level : {E : Type 0} (p : E → Value) (marks : List Bool) (x : Value-F Value) (y : Value-F E) → map-Value E Value p y ≡ x → sound marks (roll-Value x) ≡ sound_by (λ e. sound marks (p e)) (λ e. depth (p e)) marks y
at_level p marks x y is = sound-roll marks x ∙ ap (sound_by (sound marks) depth marks) (sym is) ∙ sound_by-map p (sound marks) depth marks y

step : {E : Type 0} (p : E → Value) (marks more : List Bool) (x : Value-F Value) (y : Value-F E) → map-Value E Value p y ≡ x → ((e : E) → Grows marks more (p e)) → Grows marks more (roll-Value x)
step p marks more x y is grow h = at_level p (marks ++ more) x y is
    ∙ still_by marks more (λ e. sound marks (p e)) (λ e. sound (marks ++ more) (p e)) (λ e. depth (p e)) grow y (sym (at_level p marks x y is) ∙ h)

pub stays_sound : (marks more : List Bool) (v : Value) → Grows marks more v
stays_sound marks more = ind-Value (Grows marks more) (λ x y is. step (λ e. e.0) marks more x y is (λ e. e.1))

-- another second part
pub all_second : {A B : Type 0} (p : A → Bool) (q : B → Bool) (xs : List (A × B)) (at : ℕ) (b : B) → IsTrue (list_all (λ pair. p pair.0 && q pair.1) xs) → IsTrue (q b) → IsTrue (list_all (λ pair. p pair.0 && q pair.1) (with_second xs at b))
all_second p q [] at b h k = refl
all_second {A} {B} p q (x ∷ xs) zero b h k = let r : A × B → Bool = λ pair. p pair.0 && q pair.1 in both (p x.0 && q b) (list_all r xs) (both (p x.0) (q b) (first (p x.0) (q x.1) (first (r x) (list_all r xs) h)) k) (second (r x) (list_all r xs) h)
all_second {A} {B} p q (x ∷ xs) (suc at) b h k = let r : A × B → Bool = λ pair. p pair.0 && q pair.1 in both (r x) (list_all r (with_second xs at b)) (first (r x) (list_all r xs) h) (all_second p q xs at b (second (r x) (list_all r xs) h) k)

pub all_second_alone : {A B : Type 0} (q : B → Bool) (xs : List (A × B)) (at : ℕ) (b : B) → IsTrue (list_all (λ pair. q pair.1) xs) → IsTrue (q b) → IsTrue (list_all (λ pair. q pair.1) (with_second xs at b))
all_second_alone q [] at b h k = refl
all_second_alone {A} {B} q (x ∷ xs) zero b h k = let r : A × B → Bool = λ pair. q pair.1 in both (q b) (list_all r xs) k (second (r x) (list_all r xs) h)
all_second_alone {A} {B} q (x ∷ xs) (suc at) b h k = let r : A × B → Bool = λ pair. q pair.1 in both (r x) (list_all r (with_second xs at b)) (first (r x) (list_all r xs) h) (all_second_alone q xs at b (second (r x) (list_all r xs) h) k)
