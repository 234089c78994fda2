use Rattle.py_plain.proofs.RunLaws.{soundness_kept, objects_paid, enough_steps, prefix}
use Rattle.py_plain.proofs.laws.laws_of_runs.Goals as goal

pub returns-clause-soundness : goal.returns-clause-soundness
returns-clause-soundness g c watcher program stmt s h = soundness_kept watcher program stmt s h

pub returns-clause-objects : goal.returns-clause-objects
returns-clause-objects g c watcher program stmt s = objects_paid watcher program stmt s

pub returns-clause-enough_steps : goal.returns-clause-enough_steps
returns-clause-enough_steps g c watcher program stmt s m h = enough_steps watcher program stmt s m h

pub returns-clause-prefix : goal.returns-clause-prefix
returns-clause-prefix g c program stmt s m h = prefix program stmt s m h
