use Rattle.std.proofs.Common.{◌≡◌}
use Rattle.py_plain.specs.Runs.{watched_by}
use Rattle.py_plain.specs.Statements.{means}
use Rattle.py_frames.specs.Loads.{measure}
use Rattle.py_frames.specs.Rest.{rest}
use Rattle.py_machine.proofs.run.run.Given as goal

abbrev pub invariant-loop-stack : goal.invariant-loop-stack
invariant-loop-stack g l = let watcher = watched_by g.P.Probe.after_began g.P.Probe.after_judged in
    rest watcher l.tables l.stack.items l.doing l.s ≡ means watcher l.tables l.stmt l.fn.s

abbrev pub decreases-loop-stack : goal.decreases-loop-stack
decreases-loop-stack g l = measure l.s.left l.stack.items l.doing
