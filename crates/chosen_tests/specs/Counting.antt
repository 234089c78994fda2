-- How often each number was met.
use Rattle.std.specs.Prelude.{◌≡◌, ℕ, ◌+◌, ◌==◌, Bool, if◌then◌else◌, List, ◌++◌, slice_index}
use Rattle.std.specs.List.{count_by, list_any}
use Rattle.chosen_tests.specs.Chosen.{has_new}

-- how often a number is in a list
abbrev pub times : ℕ → List ℕ → ℕ
times x xs = count_by (λ y. y == x) xs

-- each number's count has risen by how often it is in the list
pub record Rose (old new : List ℕ) (xs : List ℕ) : Type 0 where
  pub by_times : (x : ℕ) → slice_index new x ≡ slice_index old x + times x xs

-- the counts are those of a list
pub record Counted (counts : List ℕ) (xs : List ℕ) : Type 0 where
  pub each : (x : ℕ) → slice_index counts x ≡ times x xs

-- whether one of the numbers is counted nowhere
abbrev pub lacks : List ℕ → List ℕ → Bool
lacks counts xs = list_any (λ x. slice_index counts x == 0) xs

-- Numbers are taken out of the counts where the others have them all, whatever the others are.
pub record Settles (old new : List ℕ) (xs : List ℕ) (needed : Bool) : Type 0 where
  pub answer : (rest : List ℕ) → Counted old (rest ++ xs) → needed ≡ has_new rest xs
  pub left : (rest : List ℕ) → Counted old (rest ++ xs) → Counted new (if needed then rest ++ xs else rest)
