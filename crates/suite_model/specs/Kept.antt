-- What of a test is kept: the longest prefix whose steps all end normally, with the step that raises where that ends it. A step that runs
-- out of steps, or leaves the subset, gives nothing.
use Rattle.std.specs.Prelude.{ℕ, ◌+◌, ◌-◌, if◌then◌else◌, List, [], ◌∷◌}
use Rattle.py_syntax.specs.declared.module.Module.{Module}
use Rattle.py_syntax.specs.declared.stmt.Stmt.{Stmt}
use Rattle.py_meaning.specs.Worlds.{World}
use Rattle.py_plain.specs.declared.run.End.{End}
use Rattle.py_plain.specs.declared.run.End.TheVariants as end
use Rattle.py_plain.specs.declared.state.State.{State}
use Rattle.py_plain.specs.Import.{imported}
use Rattle.py_plain.specs.Program.{Program, program_of}
use Rattle.py_plain.specs.Tests.{Trail, recorder, run_statement}
use Rattle.goal_model.specs.Goals.{Goal, goals_of}
use Rattle.goal_model.specs.Taken.{is_taken}
use Rattle.suite_model.specs.declared.test.Test.{Test}
use Rattle.suite_model.specs.declared.test.TestEnd.{TestEnd}
use Rattle.suite_model.specs.declared.test.TestEnd.TheVariants as test_end
use Rattle.suite_model.specs.Statements.{statements_of}

-- the steps that each kept statement took, how the test ends, and the trail of what is kept
pub record Kept : Type 0 where
  pub used : List ℕ
  pub end : TestEnd
  pub trail : Trail

abbrev pub ended : TestEnd → State World Trail → Kept
ended end s = record { used = []; end = end; trail = s.seen }

abbrev pub after_step : ℕ → Kept → Kept
after_step used kept = record kept { used = used ∷ kept.used }

-- by how a statement ended, from the state before it and after it, and from what is kept of the rest
abbrev pub kept_by : ℕ → End → State World Trail → State World Trail → Kept → Kept
kept_by limit end.Normal before after rest = after_step (limit - after.left) rest
kept_by limit (end.Raised id class) before after rest = after_step (limit - after.left) (ended (test_end.Raised class) after)
kept_by limit end.OutOfSteps before after rest = ended test_end.OutOfSteps before
kept_by limit (end.Left construct) before after rest = ended (test_end.Left construct) before
kept_by limit end.Memory before after rest = ended test_end.OutOfSteps before
kept_by limit (end.Ended stop) before after rest = ended test_end.OutOfSteps before

module _ (program : Program) (limit : ℕ) where
  -- statements with so many steps each
  abbrev pub kept_from : List Stmt → State World Trail → Kept
  kept_from [] s = ended test_end.Ok s
  kept_from (stmt ∷ more) s = let r = run_statement recorder program limit stmt s in kept_by limit r.0 s r.1 (kept_from more r.1)

abbrev pub kept_of : Module → ℕ → Test → Kept
kept_of module' limit test = kept_from (program_of module') limit (statements_of (program_of module') test) (imported (program_of module') [])

-- ---- the goals that a trail takes, by their numbers

abbrev pub taken_from : ℕ → Trail → List Goal → List ℕ
taken_from number trail [] = []
taken_from number trail (goal ∷ goals) = if is_taken trail goal then number ∷ taken_from (number + 1) trail goals else taken_from (number + 1) trail goals

abbrev pub gains_of : Module → Kept → List ℕ
gains_of module' kept = taken_from 0 kept.trail (goals_of module')
