-- Parts that are numbered one after another: those that are done, and those that are left.
use Rattle.std.proofs.Common.{◌≡◌, ◌∙◌, refl, sym, ap, ℕ, ◌+◌, ◌<◌, ◌≤◌, List, [], ◌∷◌, ◌++◌, map, length, drop, get_or, take, min, ◌-◌, append_assoc, append-nil, add-one, arith, Bool, true, false, drop-drop}
use Rattle.std.proofs.Math.Nat.{min-eq_left}
use Rattle.std.specs.List.{prefix_len}
use Rattle.std.proofs.Math.Seq.{drop-cons, take-length}
use Rattle.std.proofs.lemmas.List.{drop_all, get_or-take, get_or-drop, length-take, length-drop}
use Rattle.py_language.specs.TreesNumbers.{Numbered, in_order}

-- these before what is left
abbrev pub prepend : {X : Type 0} → List X → List X × ℕ → List X × ℕ
prepend done r = (done ++ r.0, r.1)

pub rest_of : {X : Type 0} (xs : List X) (i : ℕ) (x : X) → i < length xs → x ≡ get_or xs i x → drop i xs ≡ x ∷ drop (i + 1) xs
rest_of xs i x lt is = rw (drop-cons xs i x lt, ← is, add-one) refl

module _ {X Y : Type 0} (f : X → Numbered Y) where
  -- the parts of a list from a place on
  abbrev pub left : List X → ℕ → Numbered (List Y)
  left xs i = in_order (map f (drop i xs))

  -- one more of them
  pub one_done : (xs : List X) (i : ℕ) (x : X) (done done' : List Y) (n n' : ℕ) (y : Y) (whole : List Y × ℕ) → i < length xs → x ≡ get_or xs i x
      → whole ≡ prepend done (left xs i n) → (y, n') ≡ f x n → done' ≡ done ++ y ∷ [] → whole ≡ prepend done' (left xs (i + 1) n')
  one_done xs i x done done' n n' y whole lt is before e d =
      let rest = drop (i + 1) xs in
      before ∙ ap (λ zs. prepend done (in_order (map f zs) n)) (rest_of xs i x lt is)
      ∙ ap (λ (r : Y × ℕ). let more = in_order (map f rest) r.1 in (done ++ (r.0 ∷ more.0), more.1)) (sym e)
      ∙ ap (λ (zs : List Y). let pair : List Y × ℕ = (zs, (in_order (map f rest) n').1) in pair) (sym (append_assoc done (y ∷ []) (in_order (map f rest) n').0))
      ∙ ap (λ zs. prepend zs (in_order (map f rest) n')) (sym d)

  -- all of them
  pub all_done : (xs : List X) (i : ℕ) (done : List Y) (n : ℕ) (whole : List Y × ℕ) → length xs ≤ i → whole ≡ prepend done (left xs i n) → (done, n) ≡ whole
  all_done xs i done n whole le before =
      sym (before ∙ ap (λ zs. prepend done (in_order (map f zs) n)) (drop_all i xs le) ∙ ap (λ (zs : List Y). let pair : List Y × ℕ = (zs, n) in pair) (append-nil done))

-- an item of a stretch of a list
pub stretch_item : {X : Type 0} (xs : List X) (from count i : ℕ) (x : X) → from + count ≤ length xs → i < count → x ≡ get_or xs (from + i) x → x ≡ get_or (take count (drop from xs)) i x
stretch_item xs from count i x le lt is = is ∙ sym (get_or-take count (drop from xs) i x lt ∙ get_or-drop from xs i x)

pub stretch_length : {X : Type 0} (xs : List X) (from count : ℕ) → from + count ≤ length xs → length (take count (drop from xs)) ≡ count
stretch_length xs from count le = length-take count (drop from xs) ∙ ap (min count) (length-drop from xs) ∙ min-eq_left {n = count} {m = length xs - from} (omega arith)

-- the stretch from a place to the end
pub stretch_rest : {X : Type 0} (xs : List X) (from : ℕ) → take (length xs - from) (drop from xs) ≡ drop from xs
stretch_rest xs from = ap (λ n. take n (drop from xs)) (sym (length-drop from xs)) ∙ take-length (drop from xs)

pub drop_again : {X : Type 0} (xs : List X) (from k : ℕ) → drop k (drop from xs) ≡ drop (from + k) xs
drop_again xs from k = drop-drop k from xs

prefix_passes : {X : Type 0} (p : X → Bool) (x : X) (xs : List X) → p x ≡ true → prefix_len p (x ∷ xs) ≡ 1 + prefix_len p xs
prefix_passes p x xs e = rw (e) refl

prefix_fails : {X : Type 0} (p : X → Bool) (x : X) (xs : List X) → p x ≡ false → prefix_len p (x ∷ xs) ≡ 0
prefix_fails p x xs e = rw (e) refl

-- the items in front that pass: one more of them, and the first that doesn't
pub prefix_goes_on : {X : Type 0} (p : X → Bool) (xs : List X) (i : ℕ) (x : X) → i < length xs → x ≡ get_or xs i x → prefix_len p xs ≡ i + prefix_len p (drop i xs) → p x ≡ true → prefix_len p xs ≡ (i + 1) + prefix_len p (drop (i + 1) xs)
prefix_goes_on p xs i x lt is before passes = before ∙ ap (λ ys. i + prefix_len p ys) (rest_of xs i x lt is) ∙ ap (λ n. i + n) (prefix_passes p x (drop (i + 1) xs) passes) ∙ omega arith

pub prefix_ends : {X : Type 0} (p : X → Bool) (xs : List X) (i : ℕ) (x : X) → i < length xs → x ≡ get_or xs i x → prefix_len p xs ≡ i + prefix_len p (drop i xs) → p x ≡ false → i ≡ prefix_len p xs
prefix_ends p xs i x lt is before fails = sym (before ∙ ap (λ ys. i + prefix_len p ys) (rest_of xs i x lt is) ∙ ap (λ n. i + n) (prefix_fails p x (drop (i + 1) xs) fails) ∙ omega arith)

pub prefix_all : {X : Type 0} (p : X → Bool) (xs : List X) (i : ℕ) → length xs ≤ i → i ≤ length xs → prefix_len p xs ≡ i + prefix_len p (drop i xs) → length xs ≡ prefix_len p xs
prefix_all p xs i le ge before =
    let none : i + prefix_len p (drop i xs) ≡ i = ap (λ ys. i + prefix_len p ys) (drop_all i xs le) ∙ omega arith in
    sym (before ∙ none ∙ omega arith)

pub map_twice : {X Y Z : Type 0} (f : Y → Z) (g : X → Y) (xs : List X) → map f (map g xs) ≡ map (λ x. f (g x)) xs
map_twice f g [] = refl
map_twice f g (x ∷ xs) = ap (λ ys. f (g x) ∷ ys) (map_twice f g xs)

-- what is made of numbered parts
abbrev pub made : {X K : Type 0} → (X → K) → Numbered X → ℕ → K × ℕ
made make p n = (make (p n).0, (p n).1)

pub made_is : {X K : Type 0} (make : X → K) (p : Numbered X) (n end : ℕ) (x : X) (kind : K) (whole : K × ℕ) → whole ≡ made make p n → (x, end) ≡ p n → kind ≡ make x → ◌≡◌ {A = K × ℕ} (kind, end) whole
made_is {X} {K} make p n end x kind whole w r k =
    ap (λ (z : K). let q : K × ℕ = (z, end) in q) k ∙ ap (λ q. let z : K × ℕ = (make q.0, q.1) in z) r ∙ sym w

-- one after another
abbrev pub both : {X Y : Type 0} → Numbered X → Numbered Y → Numbered (X × Y)
both p q = λ n. let r = p n in let t = q r.1 in ((r.0, t.0), t.1)

pub then_is : {X Y : Type 0} (p : Numbered X) (q : Numbered Y) (n m end : ℕ) (x : X) (y : Y) → (x, m) ≡ p n → (y, end) ≡ q m → ((x, y), end) ≡ both p q n
then_is p q n m end x y ex ey = ap (λ t. ((x, t.0), t.1)) ey ∙ ap (λ r. let t = q r.1 in ((r.0, t.0), t.1)) ex
