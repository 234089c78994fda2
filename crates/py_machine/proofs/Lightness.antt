-- Ends and their loads.
use Rattle.std.proofs.Common.{◌≡◌, ◌≤◌, Ok, Err, ap, sym, arith}
use Rattle.py_meaning.specs.Worlds.{World}
use Rattle.py_plain.specs.declared.run.Abrupt.TheVariants as a
use Rattle.py_plain.specs.declared.state.State.{State}
use Rattle.py_plain.specs.Exceptions.{kept}
use Rattle.py_plain.specs.Runs.{Outcome, Finding}
use Rattle.py_frames.specs.declared.control.Doing.TheVariants as d
use Rattle.py_frames.specs.declared.pending.Argument.TheVariants as argument
use Rattle.py_frames.specs.declared.pending.Pending.{Pending}
use Rattle.py_frames.specs.declared.pending.Pending.TheVariants as p
use Rattle.py_frames.specs.declared.pending.Step.TheVariants as step
use Rattle.py_frames.specs.Loads.{pending_weight, load_of}

-- each entry that waits for a value weighs something
pub pending_weighs : (pending : Pending) → 1 ≤ pending_weight pending
pending_weighs (p.Operand x) = omega arith
pending_weighs (p.Decision x) = omega arith
pending_weighs (p.Argument (argument.Callee args)) = omega arith
pending_weighs (p.Argument (argument.Receiver name args)) = omega arith
pending_weighs (p.Argument (argument.Plain f done more named)) = omega arith
pending_weighs (p.Argument (argument.Named f plain done name more)) = omega arith
pending_weighs (p.Argument (argument.Initialized id)) = omega arith
pending_weighs (p.Store x) = omega arith
pending_weighs (p.Step step.Bare) = omega arith
pending_weighs (p.Step step.Return) = omega arith
pending_weighs (p.Step step.Raise) = omega arith
pending_weighs (p.Step step.RaiseMade) = omega arith
pending_weighs (p.Step (step.Block more)) = omega arith
pending_weighs (p.Step (step.If node body more other)) = omega arith
pending_weighs (p.Step (step.While test body)) = omega arith
pending_weighs (p.Step (step.For node names is_tuple body)) = omega arith
pending_weighs (p.Step (step.Assert node message)) = omega arith
pending_weighs (p.Step step.Message) = omega arith

-- no end is heavier than a normal one
end_load : (end : Outcome Finding) → load_of (d.Finished end) ≤ 5
end_load (Ok x) = omega arith
end_load (Err (a.Raised id)) = omega arith
end_load (Err (a.Returned x)) = omega arith
end_load (Err a.Broke) = omega arith
end_load (Err a.Continued) = omega arith
end_load (Err a.OutOfSteps) = omega arith
end_load (Err (a.Left construct)) = omega arith

-- What a `finally` block leaves is no heavier than its own end.
pub kept_load : {W : Type 0} (before end result : Outcome Finding) (s : State World W) → kept before end s ≡ (result, s) → load_of (d.Finished result) ≤ load_of (d.Finished end)
kept_load before (Ok x) result s e = let same : before ≡ result = ap (λ r. r.0) e in rw (sym same) (end_load before)
kept_load before (Err why) result s e = let same : Err why ≡ result = ap (λ r. r.0) e in rw (sym same) (omega arith)
