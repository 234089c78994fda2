-- Answers that are read otherwise.
use Rattle.std.proofs.Common.{◌≡◌, ℕ, ℤ, List, Option, refl, sym, ◌∙◌, ap}
use Rattle.py_meaning.specs.declared.op.Op.{Op}
use Rattle.py_meaning.specs.declared.op.Op.TheVariants as op
use Rattle.py_meaning.specs.declared.value.Value.{Value, Value-F, out-Value, roll-Value, roll-out-Value}
use Rattle.py_meaning.specs.declared.value.Value.TheVariants as value
use Rattle.py_meaning.specs.Steps.{Costing, UnlessMemory}
use Rattle.py_meaning.specs.Values.{number_of}
use Rattle.py_meaning.specs.Arithmetic.{by_numbers, rest, rest_of_values}

onward : {A : Type 0} {P Q : Type 0} (answer : Op A) → (P → Q) → UnlessMemory answer P → UnlessMemory answer Q
onward (op.Done a) f p = f p
onward (op.Raises class) f p = f p
onward (op.Leaves construct) f p = f p
onward op.OutOfSteps f p = f p
onward op.Memory f p = tt

pub always : {A : Type 0} {P : Type 0} (answer : Op A) → P → UnlessMemory answer P
always (op.Done a) p = p
always (op.Raises class) p = p
always (op.Leaves construct) p = p
always op.OutOfSteps p = p
always op.Memory p = tt

pub at_left : {A : Type 0} (answer : Op A) (run : Costing A) (left : ℕ) → UnlessMemory answer ((l : ℕ) → run l ≡ (answer, l)) → UnlessMemory answer (run left ≡ (answer, left))
at_left answer run left h = onward answer (λ (f : (l : ℕ) → run l ≡ (answer, l)). f left) h

unless_text : (k l : Value-F Value) → ((s : List ℕ) → k ≡ Value-F.Str s → ⊥) → rest_of_values k l ≡ by_numbers rest (number_of k) (number_of l)
unless_text (Value-F.Str s) l no_text = absurd (no_text s refl)
unless_text _ l no_text = refl

-- the rest of what is no string is that of its number
pub rest_by_number : (a b : Value) (m n : Option ℤ) (answer : Op Value) → ((s : List ℕ) → a ≡ value.Str s → ⊥)
    → m ≡ number_of (out-Value a) → n ≡ number_of (out-Value b) → ((left : ℕ) → by_numbers rest m n left ≡ (answer, left))
    → (left : ℕ) → rest_of_values (out-Value a) (out-Value b) left ≡ (answer, left)
unfolding roll-Value denote.Hole.Carrier.roll
rest_by_number a b m n answer no_text em en e left =
    ap (λ f. f left) (unless_text (out-Value a) (out-Value b) (λ s is. no_text s (sym (roll-out-Value a) ∙ ap roll-Value is)))
    ∙ rw (← em, ← en) (e left)
