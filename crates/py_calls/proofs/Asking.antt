-- Operations that only read the objects.
use Rattle.std.proofs.Common.{◌≡◌, ℕ, ap}
use Rattle.py_meaning.specs.declared.op.Op.{Op}
use Rattle.py_meaning.specs.declared.op.Op.TheVariants as op
use Rattle.py_meaning.specs.Builtins.{reading}
use Rattle.py_meaning.specs.Steps.{Costing, changes, go_on, settle, done, UnlessMemory}
use Rattle.py_meaning.specs.Worlds.{World}

-- what reading answers, from the answer alone
abbrev told : {A : Type 0} → World → Op A × ℕ → Op A × World × ℕ
told before r = let made = go_on r.0 r.1 (λ x. done (x, before)) in settle before made.0 made.1

-- It leaves the objects as they were.
pub asks_as : {A : Type 0} (read : World → Costing A) (before : World) (had : ℕ) (answer : Op A) (left : ℕ) → UnlessMemory answer (read before had ≡ (answer, left))
    → UnlessMemory answer (changes (reading read) before had ≡ (answer, before, left))
asks_as read before had (op.Done x) left e = ap (told before) e
asks_as read before had (op.Raises class) left e = ap (told before) e
asks_as read before had (op.Leaves construct) left e = ap (told before) e
asks_as read before had op.OutOfSteps left e = ap (told before) e
asks_as read before had op.Memory left e = tt
