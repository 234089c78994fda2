-- The integer of a value.
use Rattle.std.proofs.Common.{◌≡◌, ℕ, ◌-◌, ℤ, List, true, nat_le, length, Option, sym, ◌∙◌, ap}
use Rattle.py_meaning.specs.declared.op.Op.{Op}
use Rattle.py_meaning.specs.declared.value.Value.{Value, Value-F, out-Value}
use Rattle.py_meaning.specs.Values.{number_of}
use Rattle.py_meaning.specs.Texts.{is_ascii}
use Rattle.py_meaning.specs.Numerals.{integer_spelled}
use Rattle.py_meaning.specs.Builtins.{integer_of, integer_of_text, integer_or_type_error, spelled}

-- a value that is no text gives its number
pub by_number : (v : Value) (k : Value-F Value) (n : Option ℤ) (left : ℕ) (answer : Op Value) → out-Value v ≡ k → integer_of k ≡ integer_or_type_error (number_of k)
    → n ≡ number_of (out-Value v) → integer_or_type_error n left ≡ (answer, left) → integer_of (out-Value v) left ≡ (answer, left)
by_number v k n left answer is simple en e = ap (λ x. integer_of x left) is ∙ ap (λ f. f left) simple
    ∙ ap (λ x. integer_or_type_error (number_of x) left) (sym is) ∙ ap (λ m. integer_or_type_error m left) (sym en) ∙ e

pub of_ascii : (s : List ℕ) (left left' : ℕ) (answer : Op Value) → nat_le (length s) left ≡ true → is_ascii s ≡ true → left' ≡ left - length s
    → spelled (integer_spelled s) left' ≡ (answer, left') → integer_of_text s left ≡ (answer, left')
of_ascii s left left' answer enough ascii e h = rw (enough, ascii, ← e) h
