-- Rows of names with one more, beside a map by their bytes.
use Rattle.std.proofs.Common.{◌≡◌, ℕ, Bool, true, false, if◌then◌else◌, ◌||◌, List, [], ◌∷◌, ◌++◌, map, Option, Some, None, is_some, chars, encode_utf8_all, IsUtf8, bytes_eq, refl, sym, ap, ◌∙◌}
use Rattle.std.specs.Borrow.{Bor}
use Rattle.std.specs.BTreeMap as tree
use Rattle.std.specs.BTreeMap.{BTreeMap}
use Rattle.std.specs.Cmp.Lexicographic.{slice_cmp}
use Rattle.std.specs.Ordering.{nat_cmp}
use Rattle.std.proofs.lemmas.Bool.{false_from_ne_true, true≢false}
use Rattle.std.proofs.lemmas.Map.Text.{btree_map_updates_str}
use Rattle.std.proofs.lemmas.Slice.Eq.{bytes_eq-Decides}
use Rattle.std.proofs.lemmas.Str.{encodes-chars}
use Rattle.py_meaning.specs.Methods.{Names, named, is_among}
use Rattle.py_name_sets.specs.Agrees.{Agrees}

bytes_same : (xs ys : List ℕ) → IsUtf8 xs → IsUtf8 ys → chars xs ≡ chars ys → xs ≡ ys
bytes_same xs ys u v e = sym (encodes-chars xs u) ∙ ap encode_utf8_all e ∙ encodes-chars ys v

same : (xs : List ℕ) → bytes_eq xs xs ≡ true
same xs = (bytes_eq-Decides xs xs).1 refl

-- a name that is no row's has what the last row has
named_last : {V : Type 0} (rows : Names V) (name : List ℕ) (value : V) (x : List ℕ) → named rows x ≡ None → bytes_eq x name ≡ true → named (rows ++ (name, value) ∷ []) x ≡ Some value
named_last [] name value x none is = rw is refl
named_last (row ∷ rows) name value x none is = elim (bytes_eq x row.0) as (λ b. (if b then Some row.1 else named rows x) ≡ None → (if b then Some row.1 else named (rows ++ (name, value) ∷ []) x) ≡ Some value) [ true ↦ λ h. cc | false ↦ λ h. named_last rows name value x h is ] none

named_other : {V : Type 0} (rows : Names V) (name : List ℕ) (value : V) (x : List ℕ) → bytes_eq x name ≡ false → named (rows ++ (name, value) ∷ []) x ≡ named rows x
named_other [] name value x is = rw is refl
named_other (row ∷ rows) name value x is = ap (λ rest. if bytes_eq x row.0 then Some row.1 else rest) (named_other rows name value x is)

named_there : {V : Type 0} (rows : Names V) (name : List ℕ) (value : V) (x : List ℕ) → is_some (named rows x) ≡ true → named (rows ++ (name, value) ∷ []) x ≡ named rows x
named_there [] name value x some = cc
named_there (row ∷ rows) name value x some = elim (bytes_eq x row.0) as (λ b. is_some (if b then Some row.1 else named rows x) ≡ true → (if b then Some row.1 else named (rows ++ (name, value) ∷ []) x) ≡ (if b then Some row.1 else named rows x)) [ true ↦ λ h. refl | false ↦ λ h. named_there rows name value x h ] some

no_value : {V : Type 0} (x : Option V) → is_some x ≡ false → x ≡ None
no_value None e = refl
no_value (Some x) e = absurd (true≢false e)

absurd_bool : (b : Bool) → b ≡ false → b ≡ true → ⊥
absurd_bool b f t = true≢false (sym t ∙ f)

pub agrees_new : {V : Type 0} (first : BTreeMap (Bor (List ℕ)) V) → first.entries ≡ [] → Agrees first []
agrees_new first empty = λ bytes u. rw empty refl

pub agrees_there : {V : Type 0} (first : BTreeMap (Bor (List ℕ)) V) (rows : Names V) (key : List ℕ) (value : V) → IsUtf8 key → Agrees first rows
    → is_some (tree.get_by (λ k. slice_cmp nat_cmp key k.now) first) ≡ true → Agrees first (rows ++ (chars key, value) ∷ [])
agrees_there first rows key value u agrees some = λ bytes v.
    elim (bytes_eq (chars bytes) (chars key)) as (λ b. bytes_eq (chars bytes) (chars key) ≡ b → tree.get_by (λ k. slice_cmp nat_cmp bytes k.now) first ≡ named (rows ++ (chars key, value) ∷ []) (chars bytes)) [
      | true ↦ λ is.
          let same_name : chars bytes ≡ chars key = (bytes_eq-Decides (chars bytes) (chars key)).0 is in
          let there : is_some (named rows (chars bytes)) ≡ true = ap (λ x. is_some (named rows x)) same_name ∙ ap is_some (sym (agrees key u)) ∙ some in
          agrees bytes v ∙ sym (named_there rows (chars key) value (chars bytes) there)
      | false ↦ λ is. agrees bytes v ∙ sym (named_other rows (chars key) value (chars bytes) is)
    ] refl

pub agrees_added : {V : Type 0} (first after : BTreeMap (Bor (List ℕ)) V) (rows : Names V) (key : List ℕ) (value : V) → IsUtf8 key → Agrees first rows
    → is_some (tree.get_by (λ k. slice_cmp nat_cmp key k.now) first) ≡ false
    → tree.UpdatesBy (λ x y. slice_cmp nat_cmp x.now y.now) (λ k. slice_cmp nat_cmp key k.now) first after (Some value) → Agrees after (rows ++ (chars key, value) ∷ [])
agrees_added first after rows key value u agrees none updates = λ bytes v.
    let found = btree_map_updates_str key first after (Some value) updates bytes in
    elim (bytes_eq key bytes) as (λ b. bytes_eq key bytes ≡ b → tree.get_by (λ k. slice_cmp nat_cmp bytes k.now) after ≡ named (rows ++ (chars key, value) ∷ []) (chars bytes)) [
      | true ↦ λ is.
          let same_bytes : key ≡ bytes = (bytes_eq-Decides key bytes).0 is in
          let none_here : named rows (chars bytes) ≡ None = ap (λ x. named rows (chars x)) (sym same_bytes) ∙ sym (agrees key u) ∙ no_value _ none in
          let last : bytes_eq (chars bytes) (chars key) ≡ true = (bytes_eq-Decides (chars bytes) (chars key)).1 (ap chars (sym same_bytes)) in
          found ∙ rw is refl ∙ sym (named_last rows (chars key) value (chars bytes) none_here last)
      | false ↦ λ is.
          let other : bytes_eq (chars bytes) (chars key) ≡ false = false_from_ne_true _ (λ e. absurd_bool _ is ((bytes_eq-Decides key bytes).1 (bytes_same key bytes u v (sym ((bytes_eq-Decides (chars bytes) (chars key)).0 e))))) in
          found ∙ rw is (agrees bytes v) ∙ sym (named_other rows (chars key) value (chars bytes) other)
    ] refl

-- names of rows, and rows
pub is_among_rows : {V : Type 0} (rows : Names V) (name : List ℕ) → is_some (named rows name) ≡ is_among (map (λ row. row.0) rows) name
is_among_rows [] name = refl
is_among_rows (row ∷ rows) name = elim (bytes_eq name row.0) as (λ b. is_some (if b then Some row.1 else named rows name) ≡ (b || is_among (map (λ row. row.0) rows) name)) [ true ↦ refl | false ↦ is_among_rows rows name ]

pub names_append : {V : Type 0} (rows : Names V) (name : List ℕ) (value : V) → map (λ row. row.0) (rows ++ (name, value) ∷ []) ≡ map (λ row. row.0) rows ++ name ∷ []
names_append [] name value = refl
names_append (row ∷ rows) name value = ap (λ rest. row.0 ∷ rest) (names_append rows name value)

mapped : {A B : Type 0} (f : A → B) (xs : List A) (x : A) (y : B) → f x ≡ y → map f (xs ++ x ∷ []) ≡ map f xs ++ y ∷ []
mapped f [] x y is = ap (λ z. z ∷ []) is
mapped f (first ∷ xs) x y is = ap (λ rest. f first ∷ rest) (mapped f xs x y is)

-- what is told of rows, with one row more
pub told_more : {A V : Type 0} (f : A → List ℕ × V) (xs ys : List A) (x : A) (name : List ℕ) (value : V) → ys ≡ xs ++ x ∷ [] → f x ≡ (name, value) → map f ys ≡ map f xs ++ (name, value) ∷ []
told_more f xs ys x name value more is = ap (map f) more ∙ mapped f xs x (name, value) is
