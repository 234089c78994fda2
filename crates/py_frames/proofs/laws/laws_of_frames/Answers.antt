use Rattle.py_frames.proofs.Falling.{measure_falls}
use Rattle.py_frames.proofs.Pushes.{pushed}
use Rattle.py_frames.proofs.Waiting.{nodes_wait}
use Rattle.py_frames.proofs.laws.laws_of_frames.Goals as goal

pub returns-clause-pushed : goal.returns-clause-pushed
returns-clause-pushed g c watcher program stack entry r = pushed watcher program stack entry r

pub returns-clause-nodes : goal.returns-clause-nodes
returns-clause-nodes g c watcher program = nodes_wait watcher program

pub returns-clause-falls : goal.returns-clause-falls
returns-clause-falls g c left left' stack stack' doing doing' fits s = measure_falls left left' stack stack' doing doing' fits s
