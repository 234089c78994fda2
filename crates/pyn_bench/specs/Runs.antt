-- What is said of a module whose first function is called again and again, with no argument, by a test's statement.
use Rattle.std.specs.Prelude.{ℕ, zero, suc, ◌+◌, ◌-◌, nat_le, if◌then◌else◌, List, [], ◌∷◌, ◌++◌, length, codes, decimal, Result, Ok, Err}
use Rattle.py_syntax.specs.declared.module.Module.{Module}
use Rattle.py_syntax.specs.declared.refusal.Refusal.{Refusal}
use Rattle.py_syntax.specs.declared.refusal.Refusal.TheVariants as refusal
use Rattle.py_syntax.specs.declared.stmt.Stmt.{Stmt}
use Rattle.py_frames.specs.declared.probe.NoProbe.{NoProbe}
use Rattle.py_meaning.specs.Worlds.{World}
use Rattle.py_parser.specs.Parsed.{parsed}
use Rattle.py_plain.specs.declared.run.End.{End}
use Rattle.py_plain.specs.declared.run.End.TheVariants as end
use Rattle.py_plain.specs.declared.state.State.{State}
use Rattle.py_plain.specs.Import.{imported}
use Rattle.py_plain.specs.Program.{Program, program_of}
use Rattle.py_plain.specs.Runs.{Watcher}
use Rattle.py_plain.specs.Tests.{run_statement}
use Rattle.pyn_base.specs.declared.construct.Construct.TheVariants.{TooLong}
use Rattle.pyn_bench.specs.declared.runs.Made.{Made}
use Rattle.pyn_bench.specs.Refused.{refused_text}
use Rattle.suite_model.specs.declared.test.Step.TheVariants as step
use Rattle.suite_model.specs.declared.test.Test.{Test}
use Rattle.suite_model.specs.Statements.{statements_of}

-- the most steps that a statement can be given
abbrev pub given : ℕ
given = 4294967295

-- who watches nothing
abbrev pub unwatched : Watcher NoProbe
unwatched = record { began = λ node kept. kept; judged = λ node judged outcome kept. kept }

abbrev pub no_calls : Made
no_calls = record { ended = 0; steps = 0 }

-- after this many calls that ended, with these steps
abbrev pub after : ℕ → ℕ → Made → Made
after ended steps rest = record { ended = ended + rest.ended; steps = steps + rest.steps }

-- An exception ends a call too. What is neither ends all.
abbrev pub counted : End → ℕ → Made → Made
counted end.Normal used rest = after 1 used rest
counted (end.Raised id class) used rest = after 1 used rest
counted _ used rest = no_calls

module _ (program : Program) where
  abbrev pub calls : Stmt → ℕ → State World NoProbe → Made
  calls stmt zero s = no_calls
  calls stmt (suc n) s = let r = run_statement unwatched program given stmt s in counted r.0 (given - r.1.left) (calls stmt n r.1)

  abbrev pub calls_of_first : ℕ → List Stmt → Made
  calls_of_first times [] = no_calls
  calls_of_first times (stmt ∷ more) = calls stmt times (imported program record {})

-- a test that calls the first function
abbrev pub one_call : Test
one_call = record { steps = step.Function record { 0 = 0 } [] ∷ [] }

abbrev pub calls_text : Made → List ℕ
calls_text made = codes "calls " ++ decimal made.ended ++ codes "\nsteps " ++ decimal made.steps ++ codes "\n"

abbrev pub ran_text : ℕ → Module → List ℕ
ran_text times m = let program = program_of m in calls_text (calls_of_first program times (statements_of program one_call))

-- no definition gives the refusal for want of memory
abbrev pub run_answer : ℕ → Result Module Refusal → List ℕ
run_answer times (Ok m) = ran_text times m
run_answer times (Err (refusal.Refused line construct)) = refused_text line construct
run_answer times (Err refusal.Memory) = []

-- a text of more than 262,144 bytes is no module
abbrev pub run_report : ℕ → List ℕ → List ℕ
run_report times text = if nat_le (length text) 262144 then run_answer times (parsed text) else refused_text 1 TooLong
