-- The clauses of a `try`, one at a time: what is done once one has been tried, and with the one that handles an exception.
use Rattle.std.specs.Prelude.{Bool, if◌then◌else◌, Option, Some, None}
use Rattle.std.specs.Borrow.{Bor}
use Rattle.pyn_base.specs.declared.ids.ObjId.{ObjId}
use Rattle.py_syntax.specs.declared.stmt.Clause.{Clause, out-Clause}
use Rattle.py_meaning.specs.Worlds.{object_at}
use Rattle.py_plain.specs.declared.run.Abrupt.TheVariants.{Raised}
use Rattle.py_plain.specs.Classes.{class_of_object}
use Rattle.py_plain.specs.Exceptions.{handles, matched, runs_clause}
use Rattle.py_plain.specs.Program.{Program}
use Rattle.py_plain.specs.Runs.{Watcher, Run, Finding, begins, stop, ◌>>◌}
use Rattle.py_plain.specs.Statements.{value_of, means}

module _ {W : Type 0} (watcher : Watcher W) (program : Program) (id : ObjId) where
  abbrev pub runs : Clause → Run W Finding
  runs clause = runs_clause watcher program (value_of watcher program) (means watcher program) clause id

  -- a clause that is tried before the others
  abbrev pub tried : Clause → Run W Finding → Run W Finding
  tried clause others = begins watcher (out-Clause clause).node
      >> (λ s. matched watcher program (value_of watcher program) (means watcher program) clause id others (handles program s.space (class_of_object (object_at s.objects id)) (out-Clause clause).classes) s)

  -- its block, if it handles the exception
  abbrev pub runs_handler : Clause → Run W Finding → Bool → Run W Finding
  runs_handler clause others outcome = if outcome then runs clause else others

  -- An exception that no clause handles goes on.
  abbrev pub runs_found : Option (Bor Clause) → Run W Finding
  runs_found None = stop (Raised id)
  runs_found (Some clause) = runs clause.now
