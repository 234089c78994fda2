-- Runs that clauses cite: a clause can't write `>>`.
use Rattle.std.specs.Prelude.{ℕ, Bool, true, List}
use Rattle.pyn_base.specs.declared.ids.NodeId.{NodeId}
use Rattle.py_syntax.specs.declared.expr.Expr.{Expr}
use Rattle.py_meaning.specs.declared.value.Value.{Value}
use Rattle.py_plain.specs.declared.judged.Judged.TheVariants as j
use Rattle.py_plain.specs.Assignments.{binds_names}
use Rattle.py_plain.specs.Loops.{makes_element}
use Rattle.py_plain.specs.Runs.{Watcher, Run, Finding, passes, takes, decides, ◌>>◌}

-- an expression alone
abbrev pub evaluates : {W : Type 0} → (Expr → Run W Finding) → Expr → Run W Finding
evaluates value e = value e >> passes

-- a turn of a `for`, up to its block and then the rest of the turn
abbrev pub binds_element : {W : Type 0} → Watcher W → NodeId → List (List ℕ) → Bool → Bool → Value → Run W Finding → Run W Finding
binds_element watcher node names is_tuple made x rest = takes 1 >> (makes_element made x >> (decides watcher node (j.Plain true) true >> (binds_names is_tuple names x >> rest)))
