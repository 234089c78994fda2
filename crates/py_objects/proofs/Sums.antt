-- Sums of numbers.
use Rattle.std.proofs.Common.{arith, ◌≡◌, ℕ, ℤ, Option, false, refl, sym, ◌∙◌, ap}
use Rattle.py_meaning.specs.declared.op.Op.{Op}
use Rattle.py_meaning.specs.declared.op.Op.TheVariants as op
use Rattle.py_meaning.specs.declared.value.Value.{Value, Value-F, out-Value}
use Rattle.py_meaning.specs.Steps.{Costing, aside, changes, settle, go_on, done, Does, UnlessMemory, UnlessDone}
use Rattle.py_meaning.specs.Values.{number_of, is_view}
use Rattle.py_meaning.specs.Worlds.{World}
use Rattle.py_meaning.specs.Sums.{add, add_values, add_numbers}

unless_done : {A : Type 0} {P : Type 0} (answer : Op A) → P → UnlessDone answer P
unless_done (op.Done a) p = tt
unless_done (op.Raises class) p = p
unless_done (op.Leaves construct) p = p
unless_done op.OutOfSteps p = p
unless_done op.Memory p = p

always : {A : Type 0} {P : Type 0} (answer : Op A) → P → UnlessMemory answer P
always (op.Done a) p = p
always (op.Raises class) p = p
always (op.Leaves construct) p = p
always op.OutOfSteps p = p
always op.Memory p = tt

settled : {A : Type 0} (world : World) (answer : Op A) (left : ℕ) → (let next = go_on answer left (λ x. done (x, world)) in settle world next.0 next.1) ≡ (answer, world, left)
settled world (op.Done a) left = refl
settled world (op.Raises class) left = refl
settled world (op.Leaves construct) left = refl
settled world op.OutOfSteps left = refl
settled world op.Memory left = refl

stays : {A : Type 0} (world : World) (run : Costing A) (answer : Op A) (left : ℕ) → run left ≡ (answer, left) → changes (aside run) world left ≡ (answer, world, left)
stays world run answer left e = settled world (run left).0 (run left).1 ∙ ap (λ t. (t.0, world, t.1)) e

-- a value that is no string, tuple or reference is added by its number
pub by_number : (world : World) (a b : Value) (k : Value-F Value) (m n : Option ℤ) (left : ℕ) (answer : Op Value)
    → out-Value a ≡ k → ((b' : Value-F Value) → add_values k b' ≡ aside (add_numbers (number_of k) (number_of b')))
    → m ≡ number_of (out-Value a) → n ≡ number_of (out-Value b) → is_view (out-Value a) ≡ false → is_view (out-Value b) ≡ false
    → add_numbers m n left ≡ (answer, left) → Does (add a b) world left answer world left
by_number world a b k m n left answer is simple em en va vb e = record {
  meant = always answer
      (rw (va, vb) (ap (λ x. changes (add_values x (out-Value b)) world left) is ∙ ap (λ f. changes f world left) (simple (out-Value b))
      ∙ stays world (add_numbers (number_of k) (number_of (out-Value b))) answer left
      (ap (λ x. add_numbers (number_of x) (number_of (out-Value b)) left) (sym is)
      ∙ ap (λ x. add_numbers x (number_of (out-Value b)) left) (sym em) ∙ ap (λ x. add_numbers m x left) (sym en) ∙ e)));
  unchanged = unless_done answer refl;
  fuel = omega arith;
}
