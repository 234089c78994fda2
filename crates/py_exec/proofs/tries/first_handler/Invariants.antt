use Rattle.std.proofs.Common.{◌≡◌, ◌≤◌, drop}
use Rattle.py_plain.specs.Exceptions.{tries_clauses}
use Rattle.py_plain.specs.Runs.{watched_by}
use Rattle.py_plain.specs.Statements.{value_of, means}
use Rattle.py_exec.proofs.tries.first_handler.Given as goal

abbrev pub invariant-loop-clause : goal.invariant-loop-clause
invariant-loop-clause g l =
    let watcher = watched_by g.P.Probe.after_began g.P.Probe.after_judged in record {
      meant : tries_clauses watcher l.tables (value_of watcher l.tables) (means watcher l.tables) (drop l.clause-index l.clauses) l.id l.s
          ≡ tries_clauses watcher l.tables (value_of watcher l.tables) (means watcher l.tables) l.clauses l.id l.fn.s;
      spends : l.s.left ≤ l.fn.s.left;
    }
