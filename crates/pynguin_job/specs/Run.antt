-- What a run leaves on the desk, why it ends as it does, and what it says.
use Rattle.std.specs.Prelude.{◌≡◌, ℕ, pred, ◌≤◌, ◌⊎◌, ⊤, true, false, List, [], ◌∷◌, ◌++◌, map, length, take, drop, Option, Some, None, IfSome, Err, All, chars, encode_utf8_all}
use Rattle.pyn_base.specs.Files.{Files, content}
use Rattle.pyn_base.specs.Desk.{DeskState, Rose, CountsFailure, Says, append, put}
use Rattle.pyn_base.specs.declared.desk.CallKind.{CallKind}
use Rattle.pyn_base.specs.declared.desk.CallKind.TheVariants.{Read, Write}
use Rattle.pyn_base.specs.declared.desk.Called.{Called}
use Rattle.pyn_base.specs.declared.desk.DeskFail.{DeskFail}
use Rattle.pyn_base.specs.declared.desk.DeskFail.TheVariants as desk
use Rattle.py_syntax.specs.declared.refusal.Refusal.TheVariants as refusal
use Rattle.pynguin_job.specs.declared.words.Job.{Job}
use Rattle.pynguin_job.specs.declared.outputs.Output.{Output}
use Rattle.pynguin_job.specs.declared.fault.JobFault.{JobFault}
use Rattle.pynguin_job.specs.declared.fault.JobFault.TheVariants.{Refused, Unread, Unwritten, Memory}
use Rattle.pynguin_job.specs.declared.status.Status.{Status}
use Rattle.pynguin_job.specs.declared.status.Status.TheVariants as status
use Rattle.pynguin_job.specs.Faults.{path_of, status_of, said_of, bad_words, out_of_memory}
use Rattle.pynguin_job.specs.Reading.{module_in}
use Rattle.pynguin_job.specs.Outputs.{outputs_of}

-- ---- entries

-- a call that did not fail
abbrev pub called : CallKind → List ℕ → Called
called kind name = record { kind = kind; name = name; failed = false }

abbrev pub failed : CallKind → List ℕ → Called
failed kind name = record { kind = kind; name = name; failed = true }

abbrev pub write_call : Job → Output → Called
write_call job output = called Write (path_of job output.file)

-- the entry of the call that failed, where one did
abbrev pub failed_call : Job → Option JobFault → List Called
failed_call job None = []
failed_call job (Some (Refused line construct)) = []
failed_call job (Some Unread) = failed Read job.source ∷ []
failed_call job (Some (Unwritten file)) = failed Write (path_of job file) ∷ []
failed_call job (Some Memory) = []

-- ---- files

-- a file's bytes are the UTF-8 of its text
abbrev pub bytes_of : Output → List ℕ
bytes_of output = encode_utf8_all output.text

-- the files once these are written, one after another
abbrev pub put_all : Job → List Output → Option Files → Option Files
put_all job [] files = files
put_all job (output ∷ rest) files = put_all job rest (put files (path_of job output.file) (bytes_of output))

-- the first bytes of the next file, where some of it is written
abbrev pub put_piece : Job → Option ℕ → List Output → Option Files → Option Files
put_piece job None rest files = files
put_piece job (Some k) [] files = files
put_piece job (Some k) (next ∷ _) files = put files (path_of job next.file) (take k (bytes_of next))

-- Why writes end before these are written: at the next one, or for want of memory. No other fault comes.
abbrev pub StopsWrites : Option JobFault → List Output → Type 0
StopsWrites None rest = ⊤
StopsWrites (Some (Refused line construct)) rest = ⊥
StopsWrites (Some Unread) rest = ⊥
StopsWrites (Some (Unwritten file)) [] = ⊥
StopsWrites (Some (Unwritten file)) (next ∷ _) = next.file ≡ file
StopsWrites (Some Memory) rest = ⊤

-- the failure of a desk's call that is behind a fault
abbrev pub failure_behind : Option JobFault → Option DeskFail
failure_behind None = None
failure_behind (Some (Refused line construct)) = None
failure_behind (Some Unread) = Some desk.Failed
failure_behind (Some (Unwritten file)) = Some desk.Failed
failure_behind (Some Memory) = Some desk.Memory

-- Files written in order, up to a call that failed or wanted memory: those before it are whole,
-- and its file holds what it held or a prefix.
pub record WritesAll (job : Job) (outputs : List Output) (old new : DeskState) (fault : Option JobFault) : Type 0 where
  pub done : ℕ
  pub cut : Option ℕ
  pub files : new.files ≡ put_piece job cut (drop done outputs) (put_all job (take done outputs) old.files)
  pub calls : new.calls ≡ append old.calls (map (write_call job) (take done outputs) ++ failed_call job fault)
  pub all : fault ≡ None → (length outputs ≤ done) × (cut ≡ None)
  pub stops : StopsWrites fault (drop done outputs)
  -- the bytes that were written spell the texts
  pub legible : All (λ (output : Output). chars (bytes_of output) ≡ output.text) (take done outputs)
  pub counts : CountsFailure old.faults new.faults (failure_behind fault)
  pub said : new.said ≡ old.said

-- ---- the work of a run

-- the calls of a job, in order
abbrev pub plan_of : Job → List Called
plan_of job = called Read job.source ∷ called Write job.suite ∷ called Write job.report ∷ []

-- the next call of a plan, had it failed
abbrev pub failed_next : List Called → List Called
failed_next [] = []
failed_next (next ∷ _) = failed next.kind next.name ∷ []

-- how the entries of a run's work end: at a fault of the desk with the call that failed
abbrev pub fault_ending : Option JobFault → List Called → List Called
fault_ending None rest = []
fault_ending (Some (Refused line construct)) rest = []
fault_ending (Some Unread) rest = failed_next rest
fault_ending (Some (Unwritten file)) rest = failed_next rest
fault_ending (Some Memory) rest = []

-- the status of a run whose work is done, or not
abbrev pub ended : Option JobFault → Status
ended None = status.Done
ended (Some fault) = status_of fault

-- the files that a job writes on this desk: none where its module is refused
abbrev pub writes_of : Job → Files → List Output
writes_of job files = outputs_of job (module_in (content files job.source))

-- What the work of a run leaves. The first `done` calls of its plan were made and did not fail, the first of them the read; the next
-- one failed where the desk did, and is the call that the fault names; no other call was made. The files that were written are
-- whole, and the next one holds what it held or a prefix; no other file changed, and nothing was said.
pub record Leaves (job : Job) (old new : DeskState) (fault : Option JobFault) : Type 0 where
  pub done : ℕ
  pub cut : Option ℕ
  pub calls : new.calls ≡ append old.calls (take done (plan_of job) ++ fault_ending fault (drop done (plan_of job)))
  pub named : fault_ending fault (drop done (plan_of job)) ≡ failed_call job fault
  pub files : IfSome old.files (λ files.
      let writes = writes_of job files in
      new.files ≡ put_piece job cut (drop (pred done) writes) (put_all job (take (pred done) writes) (Some files)))
  pub tells_files : old.files ≡ None → new.files ≡ None
  pub said : new.said ≡ old.said
  pub all : fault ≡ None → (length (plan_of job) ≤ done) × (cut ≡ None)
  pub refused : ended fault ≡ status.Refused → done ≡ 1
  pub unread : done ≡ 0 → cut ≡ None

-- why the work of a run is done, or not
abbrev pub Cause : Job → DeskState → DeskState → Option JobFault → Type 0
Cause job old new None = new.faults ≡ old.faults
Cause job old new (Some (Refused line construct)) = (new.faults ≡ old.faults) × IfSome old.files (λ files. module_in (content files job.source) ≡ Err (refusal.Refused line construct))
Cause job old new (Some Unread) = (old.faults ≤ new.faults) × Rose old.faults new.faults
Cause job old new (Some (Unwritten file)) = (old.faults ≤ new.faults) × Rose old.faults new.faults
Cause job old new (Some Memory) = new.faults ≡ old.faults

-- ---- what is said

-- the status after the last `say`: a failed one leaves it, and one without memory is out of memory
abbrev pub concluded : Option DeskFail → Status → Status
concluded None usual = usual
concluded (Some desk.Failed) usual = usual
concluded (Some desk.TooLong) usual = usual
concluded (Some desk.Memory) usual = status.OutOfMemory

-- A run's last call: it says these bytes, and the status is this one, or out of memory with the `say`.
pub record Concludes (bytes : List ℕ) (usual : Status) (old new : DeskState) (last : Status) : Type 0 where
  pub failure : Option DeskFail
  pub says : Says old new bytes failure
  pub ends : last ≡ concluded failure usual

-- A run whose work is not done says why, or, where it can't have that text, that it is out of memory.
pub record Tells (job : Job) (fault : JobFault) (old new : DeskState) (last : Status) : Type 0 where
  pub told : JobFault
  pub which : (told ≡ fault) ⊎ (told ≡ Memory)
  pub concludes : Concludes (encode_utf8_all (said_of job told)) (status_of told) old new last

-- how a run ends after its work; one that is done says nothing
abbrev pub Ends : Job → Option JobFault → DeskState → DeskState → Status → Type 0
Ends job None old new last = (new ≡ old) × (last ≡ status.Done)
Ends job (Some fault) old new last = Tells job fault old new last

-- A run: its work, which leaves the desk at `between`, and then what it says.
pub record Runs (job : Job) (old new : DeskState) (last : Status) : Type 0 where
  pub fault : Option JobFault
  pub between : DeskState
  pub cause : Cause job old between fault
  pub leaves : Leaves job old between fault
  pub ends : Ends job fault between new last

-- The words are refused, unless it ran out of memory first: it says so, and makes no other call.
abbrev pub RefusesWords : DeskState → DeskState → Status → Type 0
RefusesWords old new last = Concludes bad_words status.BadWords old new last ⊎ Concludes out_of_memory status.OutOfMemory old new last
