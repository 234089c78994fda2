-- From what an operation answers to the run that performs it.
use Rattle.std.proofs.Common.{◌≡◌, ℕ, subst, refl, sym, ap, ◌∙◌}
use Rattle.py_meaning.specs.declared.op.Op.{Op}
use Rattle.py_meaning.specs.declared.op.Op.TheVariants as op
use Rattle.py_meaning.specs.Steps.{Change, changes, settle, UnlessMemory}
use Rattle.py_meaning.specs.Worlds.{World}
use Rattle.py_plain.specs.declared.state.State.{State}
use Rattle.py_plain.specs.Runs.{Ran, Run, go_on, settled, performs, raises, ◌>>=◌}
use Rattle.py_effects.specs.Answers.{Answers}

-- what a change answered, from its answer, what there is after it and the steps left
abbrev back : {A : Type 0} → Op A × World × ℕ → Op (A × World) × ℕ
back (op.Done a, w, l) = (op.Done (a, w), l)
back (op.Raises class, w, l) = (op.Raises class, l)
back (op.Leaves construct, w, l) = (op.Leaves construct, l)
back (op.OutOfSteps, w, l) = (op.OutOfSteps, l)
back (op.Memory, w, l) = (op.Memory, l)

back_settle : {A : Type 0} (before : World) (answer : Op (A × World)) (left : ℕ) → back (settle before answer left) ≡ (answer, left)
back_settle before (op.Done made) left = refl
back_settle before (op.Raises class) left = refl
back_settle before (op.Leaves construct) left = refl
back_settle before op.OutOfSteps left = refl
back_settle before op.Memory left = refl

-- After any answer but what is done all is as it was.
abbrev world_unless_done : {A : Type 0} → World → Op A × World × ℕ → World
world_unless_done before (op.Done a, w, l) = before
world_unless_done before (op.Raises class, w, l) = w
world_unless_done before (op.Leaves construct, w, l) = w
world_unless_done before (op.OutOfSteps, w, l) = w
world_unless_done before (op.Memory, w, l) = w

unchanged : {A : Type 0} (before : World) (answer : Op (A × World)) (left : ℕ) → world_unless_done before (settle before answer left) ≡ before
unchanged before (op.Done made) left = refl
unchanged before (op.Raises class) left = refl
unchanged before (op.Leaves construct) left = refl
unchanged before op.OutOfSteps left = refl
unchanged before op.Memory left = refl

module _ {W A : Type 0} (change : Change World A) (before : World) (had : ℕ) (s : State World W) where
  abbrev start : State World W
  start = record s { objects = before; left = had }

  known : (answer : Op A) → changes change before had ≡ (answer, s.objects, s.left) → change before had ≡ back (answer, s.objects, s.left)
  known answer e = sym (back_settle before (change before had).0 (change before had).1) ∙ ap back e

  kept : (answer : Op A) → changes change before had ≡ (answer, s.objects, s.left) → before ≡ world_unless_done before (answer, s.objects, s.left)
  kept answer e = sym (unchanged before (change before had).0 (change before had).1) ∙ ap (world_unless_done before) e

  by_answer : (answer : Op A) → changes change before had ≡ (answer, s.objects, s.left)
      → performs change start ≡ settled (back (answer, s.objects, s.left)).0 (back (answer, s.objects, s.left)).1 start
  by_answer answer e = ap (λ (r : Op (A × World) × ℕ). settled r.0 r.1 start) (known answer e)

  -- What an operation does is how its answer ends a run.
  pub performed : (answer : Op A) (r : Ran W A) → Answers answer s r → UnlessMemory answer (changes change before had ≡ (answer, s.objects, s.left)) → performs change start ≡ r
  performed (op.Done x) r ends e = by_answer (op.Done x) e ∙ ends
  performed (op.Raises class) r ends e = by_answer (op.Raises class) e ∙ ap (λ (w : World). raises class (record s { objects = w })) (kept (op.Raises class) e) ∙ ends
  performed (op.Leaves construct) r ends e = by_answer (op.Leaves construct) e ∙ ap (λ (w : World). settled {A = A} (op.Leaves construct) s.left (record s { objects = w })) (kept (op.Leaves construct) e) ∙ ends
  performed op.OutOfSteps r ends e = by_answer op.OutOfSteps e ∙ ap (λ (w : World). settled {A = A} op.OutOfSteps s.left (record s { objects = w })) (kept op.OutOfSteps e) ∙ ends
  performed op.Memory r ends e = absurd ends

-- A part of a run, and what follows it.
pub then_on : {W A B : Type 0} (p : Run W A) (next : A → Run W B) (s : State World W) (q : Ran W A) (r : Ran W B) → p s ≡ q → go_on q.0 q.1 next ≡ r → (p >>= next) s ≡ r
then_on p next s q r e h = ap (λ (q : Ran _ _). go_on q.0 q.1 next) e ∙ h

-- what an operation does that is paid from the state's steps
module _ {W A : Type 0} (s : State World W) (answer : Op A) (q : Ran W A) (had left left' : ℕ) (after : World)
    (had_all : had ≡ s.left) (has_left : left ≡ left') (ends : Answers answer (record s { objects = after; left = left }) q) where
  pub performs_as : (change : Change World A) → UnlessMemory answer (changes change s.objects had ≡ (answer, after, left')) → performs change s ≡ q
  performs_as change e = performed change s.objects s.left (record s { objects = after; left = left }) answer q ends
      (subst (λ (h : ℕ). UnlessMemory answer (changes change s.objects h ≡ (answer, after, left))) had_all
      (subst (λ (l : ℕ). UnlessMemory answer (changes change s.objects had ≡ (answer, after, l))) (sym has_left) e))
