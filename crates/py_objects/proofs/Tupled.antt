-- A tuple that was paid for.
use Rattle.std.proofs.Common.{◌≡◌, ℕ, List, length, sym, ◌∙◌, ap, Option, Some, None, true, nat_le, if◌then◌else◌, ◌-◌}
use Rattle.std.specs.Option.{option_map}
use Rattle.py_meaning.specs.declared.op.Op.{Op}
use Rattle.py_meaning.specs.declared.op.Op.TheVariants as op
use Rattle.py_meaning.specs.declared.value.Value.{Value}
use Rattle.py_meaning.specs.Steps.{UnlessMemory}
use Rattle.py_meaning.specs.Tuples.{depth_over, tuple_limit, tuple, new_tuple}
use Rattle.py_meaning.specs.Builtins.{tupled}
use Rattle.py_objects.specs.Within.{or_empty}
use Rattle.py_objects.proofs.Writes.{unless_memory}

made_of : (xs : List Value) (count fuel left : ℕ) (answer : Op Value) → length xs ≡ count → nat_le (depth_over xs) tuple_limit ≡ true → true ≡ nat_le count fuel → left ≡ (if nat_le count fuel then fuel - count else fuel)
    → new_tuple xs left ≡ (answer, left) → tupled (Some xs) fuel ≡ (answer, left)
made_of xs count fuel left answer n low enough rest made =
    let made' : (op.Done (tuple xs), left) ≡ (answer, left) = rw low at made in
    let rest' : left ≡ fuel - count = rw (← enough) at rest in
    rw (low, n, ← enough) (ap (λ k. (op.Done (tuple xs), k)) (sym rest') ∙ made')

pub tupled_paid : (found : Option (List Value)) (count fuel left : ℕ) (answer : Op Value) → option_map length found ≡ Some count → nat_le (depth_over (or_empty found)) tuple_limit ≡ true → true ≡ nat_le count fuel
    → left ≡ (if nat_le count fuel then fuel - count else fuel) → UnlessMemory answer ((n : ℕ) → new_tuple (or_empty found) n ≡ (answer, n)) → UnlessMemory answer (tupled found fuel ≡ (answer, left))
tupled_paid None count fuel left answer e low enough rest = cc
tupled_paid (Some xs) count fuel left answer e low enough rest = let n : length xs ≡ count = cc in unless_memory answer (λ made. made_of xs count fuel left answer n low enough rest (made left))
