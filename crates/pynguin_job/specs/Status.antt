use Rattle.std.specs.Prelude.{ℕ}
use Rattle.pynguin_job.specs.declared.status.Status.{Status}
use Rattle.pynguin_job.specs.declared.status.Status.TheVariants.{Done, BadWords, Refused, Fault, OutOfMemory}

-- the exit code of each status
abbrev pub code_of : Status → ℕ
code_of Done = 0
code_of BadWords = 2
code_of Refused = 3
code_of Fault = 4
code_of OutOfMemory = 5
