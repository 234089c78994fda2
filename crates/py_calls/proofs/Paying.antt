-- What an operation is paid with.
use Rattle.std.proofs.Common.{◌≡◌, ℕ, subst, sym, ap, ◌∙◌}
use Rattle.py_meaning.specs.declared.op.Op.{Op}
use Rattle.py_meaning.specs.Steps.{Change, changes, UnlessMemory}
use Rattle.py_meaning.specs.Worlds.{World}
use Rattle.py_plain.specs.declared.state.State.{State}
use Rattle.py_plain.specs.Runs.{Ran, Run, go_on, ◌>>=◌}

pub paid : {A : Type 0} (answer : Op A) (change : Change World A) (before after : World) (had all left left' : ℕ) → had ≡ all → left ≡ left'
    → UnlessMemory answer (changes change before had ≡ (answer, after, left')) → UnlessMemory answer (changes change before all ≡ (answer, after, left))
paid answer change before after had all left left' had_all has_left e =
    subst (λ (h : ℕ). UnlessMemory answer (changes change before h ≡ (answer, after, left))) had_all
    (subst (λ (l : ℕ). UnlessMemory answer (changes change before had ≡ (answer, after, l))) (sym has_left) e)

-- A part of a run, and what follows it.
pub then_on : {W A B : Type 0} (p : Run W A) (next : A → Run W B) (s : State World W) (q : Ran W A) (r : Ran W B) → p s ≡ q → go_on q.0 q.1 next ≡ r → (p >>= next) s ≡ r
then_on p next s q r e h = ap (λ (q : Ran _ _). go_on q.0 q.1 next) e ∙ h
