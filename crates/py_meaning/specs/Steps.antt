-- Answers and the steps that they cost.
use Rattle.std.specs.Prelude.{◌≡◌, ◌≤◌, ℕ, ◌-◌, nat_le, if◌then◌else◌}
use Rattle.pyn_base.specs.declared.class.BuiltClass.{BuiltClass}
use Rattle.pyn_base.specs.declared.construct.Construct.{Construct}
use Rattle.py_meaning.specs.declared.op.Op.{Op}
use Rattle.py_meaning.specs.declared.op.Op.TheVariants as op

-- an answer and the steps left, from the steps that there are
abbrev pub Costing : Type 0 → Type 0
Costing A = ℕ → Op A × ℕ

-- an answer that costs nothing
abbrev pub done : {A : Type 0} → A → Costing A
done a = λ left. (op.Done a, left)

abbrev pub raises : {A : Type 0} → BuiltClass → Costing A
raises class = λ left. (op.Raises class, left)

abbrev pub leaves : {A : Type 0} → Construct → Costing A
leaves construct = λ left. (op.Leaves construct, left)

-- A cost comes before its effect. Where fewer steps are left, nothing happened.
abbrev pub costs : {A : Type 0} → ℕ → Costing A → Costing A
costs n run = λ left. if nat_le n left then run (left - n) else (op.OutOfSteps, left)

-- only what is done goes on
abbrev pub go_on : {A B : Type 0} → Op A → ℕ → (A → Costing B) → Op B × ℕ
go_on (op.Done a) left next = next a left
go_on (op.Raises class) left next = (op.Raises class, left)
go_on (op.Leaves construct) left next = (op.Leaves construct, left)
go_on op.OutOfSteps left next = (op.OutOfSteps, left)
go_on op.Memory left next = (op.Memory, left)

infixl 1 ◌>>=◌
abbrev pub ◌>>=◌ : {A B : Type 0} → Costing A → (A → Costing B) → Costing B
run >>= next = λ left. go_on (run left).0 (run left).1 next

-- An operation on what may change (a world, an object): it costs steps, and where it is done gives an answer and
-- what there is after it.
abbrev pub Change : Type 0 → Type 0 → Type 0
Change S A = S → Costing (A × S)

-- a change that leaves what there is as it was
abbrev pub aside : {S A : Type 0} → Costing A → Change S A
aside run s = run >>= (λ x. done (x, s))

-- a change whose answer is read otherwise
abbrev pub answering : {S A B : Type 0} → B → Change S A → Change S B
answering answer change s = change s >>= (λ made. done (answer, made.1))

abbrev pub settle : {S A : Type 0} → S → Op (A × S) → ℕ → Op A × S × ℕ
settle s (op.Done made) left = (op.Done made.0, made.1, left)
settle s (op.Raises class) left = (op.Raises class, s, left)
settle s (op.Leaves construct) left = (op.Leaves construct, s, left)
settle s op.OutOfSteps left = (op.OutOfSteps, s, left)
settle s op.Memory left = (op.Memory, s, left)

-- Its answer, what there is after it, and the steps left. After any answer but what is done all is as it was.
abbrev pub changes : {S A : Type 0} → Change S A → S → ℕ → Op A × S × ℕ
changes change s left = settle s (change s left).0 (change s left).1

-- a fact about an answer, but for out of memory, of which nothing is said
abbrev pub UnlessMemory : {A : Type 0} → Op A → Type 0 → Type 0
UnlessMemory (op.Done a) P = P
UnlessMemory (op.Raises class) P = P
UnlessMemory (op.Leaves construct) P = P
UnlessMemory op.OutOfSteps P = P
UnlessMemory op.Memory P = Unit {0}

-- a fact about every answer but what is done
abbrev pub UnlessDone : {A : Type 0} → Op A → Type 0 → Type 0
UnlessDone (op.Done a) P = Unit {0}
UnlessDone (op.Raises class) P = P
UnlessDone (op.Leaves construct) P = P
UnlessDone op.OutOfSteps P = P
UnlessDone op.Memory P = P

-- What a call does that is paid for: the change, from its answer and the steps before it and after. After any answer but what is done all is
-- as it was, and after every answer, also out of memory, the steps are no more than before.
abbrev pub Does : {S A : Type 0} → Change S A → S → ℕ → Op A → S → ℕ → Type 0
Does change old had result new left = record {
  meant : UnlessMemory result (changes change old had ≡ (result, new, left));
  unchanged : UnlessDone result (new ≡ old);
  fuel : left ≤ had;
}

-- The same of a call that costs nothing.
abbrev pub DoesFree : {S A : Type 0} → Change S A → S → Op A → S → Type 0
DoesFree change old result new = record {
  meant : UnlessMemory result ((left : ℕ) → changes change old left ≡ (result, new, left));
  unchanged : UnlessDone result (new ≡ old);
}
