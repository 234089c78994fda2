use Rattle.std.proofs.Common.{◌≡◌, length}
use Rattle.py_plain.specs.Assignments.{stores_all}
use Rattle.py_plain.specs.Program.{Program}
use Rattle.py_plain.specs.Runs.{Watcher}
use Rattle.py_plain.specs.Statements.{value_of}
use Rattle.py_eval.proofs.stores.next_store.Given as goal

abbrev pub invariant-loop-target : goal.invariant-loop-target
invariant-loop-target g l = record {
  meant : (watcher : Watcher _) (program : Program) → stores_all program (value_of watcher program) l.targets l.values l.s ≡ stores_all program (value_of watcher program) l.fn.targets l.fn.values l.fn.s;
  stack : l.stack.items ≡ l.fn.stack.items;
  spends : l.s.left ≡ l.fn.s.left;
}

abbrev pub decreases-loop-target : goal.decreases-loop-target
decreases-loop-target g l = length l.targets
