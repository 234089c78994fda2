-- The number that falls at each turn of a machine.
use Rattle.std.proofs.Common.{◌≡◌, ◌*◌, ◌≤◌, List, [], ◌∷◌, length, ⊎_elim, arith, Err}
use Rattle.std.proofs.lemmas.Bool.{cases_lt}
use Rattle.std.proofs.lemmas.List.Sums.{sum_by-cons}
use Rattle.py_plain.specs.declared.run.Abrupt.TheVariants.{OutOfSteps}
use Rattle.py_plain.specs.Runs.{Outcome, Finding}
use Rattle.py_frames.specs.declared.control.Control.{Control}
use Rattle.py_frames.specs.declared.control.Control.TheVariants as c
use Rattle.py_frames.specs.declared.control.Doing.{Doing}
use Rattle.py_frames.specs.declared.control.Doing.TheVariants as d
use Rattle.py_frames.specs.declared.pending.Argument.{Argument}
use Rattle.py_frames.specs.declared.pending.Argument.TheVariants as argument
use Rattle.py_frames.specs.declared.pending.Pending.{Pending}
use Rattle.py_frames.specs.declared.pending.Pending.TheVariants as p
use Rattle.py_frames.specs.declared.pending.Step.{Step}
use Rattle.py_frames.specs.declared.pending.Step.TheVariants as step
use Rattle.py_frames.specs.Loads.{pending_weight, weight_of, weight, load_of, MeasureFalls}

argument-small : (a : Argument) → pending_weight (p.Argument a) ≤ 3
argument-small (argument.Initialized id) = omega arith
argument-small _ = omega arith

step-small : (s : Step) → pending_weight (p.Step s) ≤ 3
step-small step.RaiseMade = omega arith
step-small _ = omega arith

pending-small : (pending : Pending) → pending_weight pending ≤ 3
pending-small (p.Argument a) = argument-small a
pending-small (p.Step s) = step-small s
pending-small _ = omega arith

entry-small : (entry : Control) → weight_of entry ≤ 3
entry-small (c.Then pending) = pending-small pending
entry-small _ = omega arith

weight-small : (stack : List Control) → weight stack ≤ 3 * length stack
weight-small [] = omega arith
weight-small (entry ∷ stack) = omega (arith, entry-small entry, weight-small stack, sum_by-cons weight_of entry stack)

finished-small : (end : Outcome Finding) → load_of (d.Finished end) ≤ 6
finished-small (Err OutOfSteps) = omega arith
finished-small _ = omega arith

doing-small : (doing : Doing) → load_of doing ≤ 6
doing-small (d.Finished end) = finished-small end
doing-small _ = omega arith

pub measure_falls : MeasureFalls
measure_falls left left' stack stack' doing doing' fits s =
    ⊎_elim
    (λ lt. omega (arith, weight-small stack', doing-small doing'))
    (λ le. let same : left' ≡ left = omega (arith, s.fewer) in omega (arith, s.lighter same))
    (cases_lt left' left)
