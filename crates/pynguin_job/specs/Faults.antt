-- Why a job is not done, the status that this gives, and what is said of it.
use Rattle.std.specs.Prelude.{ℕ, List, ◌++◌, codes, decimal}
use Rattle.pyn_base.specs.Construct.{text_of}
use Rattle.py_syntax.specs.declared.refusal.Refusal.{Refusal}
use Rattle.py_syntax.specs.declared.refusal.Refusal.TheVariants as refusal
use Rattle.pynguin_job.specs.declared.words.Job.{Job}
use Rattle.pynguin_job.specs.declared.words.JobFile.{JobFile}
use Rattle.pynguin_job.specs.declared.words.JobFile.TheVariants.{Source, Suite, Report}
use Rattle.pynguin_job.specs.declared.fault.JobFault.{JobFault}
use Rattle.pynguin_job.specs.declared.fault.JobFault.TheVariants.{Refused, Unread, Unwritten, Memory}
use Rattle.pynguin_job.specs.declared.status.Status.{Status}
use Rattle.pynguin_job.specs.declared.status.Status.TheVariants as status

abbrev pub path_of : Job → JobFile → List ℕ
path_of job Source = job.source
path_of job Suite = job.suite
path_of job Report = job.report

abbrev pub status_of : JobFault → Status
status_of (Refused line construct) = status.Refused
status_of Unread = status.Fault
status_of (Unwritten file) = status.Fault
status_of Memory = status.OutOfMemory

-- the fault that a refusal of the module is
abbrev pub fault_of : Refusal → JobFault
fault_of (refusal.Refused line construct) = Refused line construct
fault_of refusal.Memory = Memory

-- what is said where the words are refused
abbrev pub bad_words : List ℕ
bad_words = codes "bad words\n"

-- what is said where memory ran out
abbrev pub out_of_memory : List ℕ
out_of_memory = codes "out of memory\n"

-- what is said where a job is not done
abbrev pub said_of : Job → JobFault → List ℕ
said_of job (Refused line construct) = job.source ++ codes ":" ++ decimal line ++ codes ": " ++ text_of construct ++ codes "\n"
said_of job Unread = job.source ++ codes ": cannot be read\n"
said_of job (Unwritten file) = path_of job file ++ codes ": cannot be written\n"
said_of job Memory = out_of_memory
