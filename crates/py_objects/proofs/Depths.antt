-- Parts one level further.
use Rattle.std.proofs.Common.{◌≡◌, ℕ, zero, suc, ◌-◌, List, length, refl, sym, ◌∙◌, ap, arith, eq-eqb, ℤ, Option, Bool, false}
use Rattle.py_meaning.specs.declared.op.Op.{Op}
use Rattle.py_meaning.specs.declared.value.Value.{Value, Value-F, out-Value}
use Rattle.py_meaning.specs.Values.{number_of, is_view}
use Rattle.py_meaning.specs.Steps.{Costing}
use Rattle.py_meaning.specs.Worlds.{World, Pairs}
use Rattle.py_meaning.specs.declared.order.Order.{Order}
use Rattle.py_meaning.specs.Less.{ordered_numbers, ordered_values, ordered_by, ordered_parts, ordered_within, order_within}
use Rattle.py_meaning.specs.Equal.{parts_within, parts_by, equal_within, equal_parts, equal_pairs, of_one_length}

pub deeper : (world : World) (levels : ℕ) → (levels ≡ 0 → ⊥) → parts_within levels world ≡ parts_by (equal_within (levels - 1) world)
deeper world zero h = absurd (h refl)
deeper world (suc n) h = let e : suc n - 1 ≡ n = omega arith in rw e refl

of_one : {A : Type 0} (f : List A → List A → Costing Bool) (xs ys : List A) (left : ℕ) → length xs ≡ length ys → of_one_length f xs ys left ≡ f xs ys left
of_one f xs ys left e = let h = eq-eqb (length xs) (length ys) e in rw h refl

pub sequences_deeper : (world : World) (levels : ℕ) (xs ys : List Value) (left left' : ℕ) (answer : Op Bool) → (levels ≡ 0 → ⊥) → length xs ≡ length ys → equal_parts (equal_within (levels - 1) world) xs ys left ≡ (answer, left') → of_one_length (parts_within levels world).sequences xs ys left ≡ (answer, left')
sequences_deeper world levels xs ys left left' answer h e r = of_one (parts_within levels world).sequences xs ys left e ∙ ap (λ p. p.sequences xs ys left) (deeper world levels h) ∙ r

pub dicts_deeper : (world : World) (levels : ℕ) (xs ys : Pairs) (left left' : ℕ) (answer : Op Bool) → (levels ≡ 0 → ⊥) → length xs ≡ length ys → equal_pairs (equal_within (levels - 1) world) xs ys left ≡ (answer, left') → of_one_length (parts_within levels world).dicts xs ys left ≡ (answer, left')
dicts_deeper world levels xs ys left left' answer h e r = of_one (parts_within levels world).dicts xs ys left e ∙ ap (λ p. p.dicts xs ys left) (deeper world levels h) ∙ r

pub order_deeper : (world : World) (levels : ℕ) (order : Order) (xs ys : List Value) (left left' : ℕ) (answer : Op Bool) → (levels ≡ 0 → ⊥) → ordered_parts order (equal_within (levels - 1) world) (ordered_within (levels - 1) world order) xs ys left ≡ (answer, left') → order_within levels world order xs ys left ≡ (answer, left')
order_deeper world zero order xs ys left left' answer h r = absurd (h refl)
order_deeper world (suc n) order xs ys left left' answer h r = let e : suc n - 1 ≡ n = omega arith in rw e at r

-- A value that is no string, tuple or reference is ordered by its number.
pub by_number : (world : World) (order : Order) (parts : List Value → List Value → Costing Bool) (a b : Value) (k : Value-F Value) (m n : Option ℤ) (left : ℕ) (ends : Op Bool × ℕ)
    → out-Value a ≡ k → ((b' : Value-F Value) → ordered_values world order parts k b' ≡ ordered_numbers order (number_of k) (number_of b'))
    → m ≡ number_of (out-Value a) → n ≡ number_of (out-Value b) → is_view (out-Value a) ≡ false → is_view (out-Value b) ≡ false
    → ordered_numbers order m n left ≡ ends → ordered_by world order parts (out-Value a) (out-Value b) left ≡ ends
by_number world order parts a b k m n left ends is simple em en va vb e =
    rw (va, vb) (ap (λ x. ordered_values world order parts x (out-Value b) left) is ∙ ap (λ f. f left) (simple (out-Value b))
    ∙ ap (λ x. ordered_numbers order (number_of x) (number_of (out-Value b)) left) (sym is)
    ∙ ap (λ x. ordered_numbers order x (number_of (out-Value b)) left) (sym em) ∙ ap (λ x. ordered_numbers order m x left) (sym en) ∙ e)
