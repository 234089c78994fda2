-- What the work of a run leaves, from what its calls leave.
use Rattle.std.proofs.Common.{◌≡◌, ℕ, zero, suc, ◌≤◌, ◌∙◌, sym, ap, refl, inl, inr, subst, List, [], ◌∷◌, ◌++◌, map, take, drop, Option, Some, None, IfNone, IfSome, Result, Ok, Err, encode_utf8_all, arith}
use Rattle.std.proofs.lemmas.List.{take-map}
use Rattle.std.proofs.Math.Seq.{drop-nil}
use Rattle.pyn_base.specs.Files.{Files, content}
use Rattle.pyn_base.specs.Desk.{DeskState, CountsFailure, Reads, append}
use Rattle.pyn_base.specs.declared.desk.CallKind.TheVariants.{Read, Write}
use Rattle.pyn_base.specs.declared.desk.Called.{Called}
use Rattle.pyn_base.specs.declared.desk.DeskFail.{DeskFail}
use Rattle.py_syntax.specs.declared.module.Module.{Module}
use Rattle.py_syntax.specs.declared.refusal.Refusal.{Refusal}
use Rattle.py_syntax.specs.declared.refusal.Refusal.TheVariants as refusal
use Rattle.py_syntax.specs.Gives.{Gives}
use Rattle.pynguin_job.specs.declared.words.Job.{Job}
use Rattle.pynguin_job.specs.declared.words.JobFile.{JobFile}
use Rattle.pynguin_job.specs.declared.outputs.Output.{Output}
use Rattle.pynguin_job.specs.declared.fault.JobFault.{JobFault}
use Rattle.pynguin_job.specs.declared.fault.JobFault.TheVariants.{Refused, Unread, Unwritten, Memory}
use Rattle.pynguin_job.specs.declared.status.Status.{Status}
use Rattle.pynguin_job.specs.declared.status.Status.TheVariants as status
use Rattle.pynguin_job.specs.Faults.{fault_of, out_of_memory}
use Rattle.pynguin_job.specs.Reading.{module_in}
use Rattle.pynguin_job.specs.Outputs.{outputs_for, outputs_of}
use Rattle.pynguin_job.specs.Run.{called, write_call, failed_call, failure_behind, fault_ending, ended, put_all, put_piece, StopsWrites, WritesAll, writes_of, Leaves, Cause, Concludes, Runs, RefusesWords}
use Rattle.pynguin_job.proofs.Writes.{append_append, append_nothing}

unchanged : (old new : Option Files) → new ≡ old → IfSome old (λ files. new ≡ Some files)
unchanged None new e = tt
unchanged (Some files) new e = e

-- a fault after the read, with nothing written
abbrev pub IsQuiet : Job → JobFault → Type 0
IsQuiet job fault = ((rest : List Called) → fault_ending (Some fault) rest ≡ []) × (failed_call job (Some fault) ≡ [])

pub read_alone : (job : Job) (old new : DeskState) (limit : ℕ) (text : List ℕ) (fault : JobFault) → IsQuiet job fault → Reads old new job.source limit (Ok text) → Leaves job old new (Some fault)
read_alone job old new limit text fault quiet r =
    record {
      done = 1;
      cut = None;
      calls = r.calls ∙ ap (λ e. append old.calls (called Read job.source ∷ e)) (sym (quiet.0 _));
      named = quiet.0 _ ∙ sym quiet.1;
      files = unchanged old.files new.files r.files;
      tells_files = λ e. r.files ∙ e;
      said = r.said;
      all = λ e. absurd (cc);
      refused = λ e. refl;
      unread = λ e. refl;
    }

-- the files after some of the writes
abbrev written : Job → ℕ → Option ℕ → List Output → Option Files → Option Files
written job d cut outputs files = put_piece job cut (drop d outputs) (put_all job (take d outputs) files)

files_at : (job : Job) (m : Module) (before mid after : Option Files) (text : List ℕ) (d : ℕ) (cut : Option ℕ) → mid ≡ before → IfSome before (λ files. text ≡ content files job.source) → module_in text ≡ Ok m
    → after ≡ written job d cut (outputs_for job m) mid → IfSome before (λ files. after ≡ written job d cut (writes_of job files) (Some files))
files_at job m None mid after text d cut same exact read e = tt
files_at job m (Some files) mid after text d cut same exact read e =
    let ws : outputs_for job m ≡ writes_of job files = ap (outputs_of job) (sym (ap module_in (sym exact) ∙ read)) in
    e ∙ ap (written job d cut (outputs_for job m)) same ∙ ap (λ xs. written job d cut xs (Some files)) ws

put_all_untold : (job : Job) (outputs : List Output) → put_all job outputs None ≡ None
put_all_untold job [] = refl
put_all_untold job (output ∷ rest) = put_all_untold job rest

put_piece_untold : (job : Job) (cut : Option ℕ) (outputs : List Output) → put_piece job cut outputs None ≡ None
put_piece_untold job None outputs = refl
put_piece_untold job (Some k) [] = refl
put_piece_untold job (Some k) (output ∷ rest) = refl

-- the entries of the two writes
abbrev writes : Job → List Called
writes job = called Write job.suite ∷ called Write job.report ∷ []

named_write : (job : Job) (m : Module) (d : ℕ) (file : JobFile) → StopsWrites (Some (Unwritten file)) (drop d (outputs_for job m)) → fault_ending (Some (Unwritten file)) (drop d (writes job)) ≡ failed_call job (Some (Unwritten file))
named_write job m zero file s = ap (λ f. failed_call job (Some (Unwritten f))) s
named_write job m (suc zero) file s = ap (λ f. failed_call job (Some (Unwritten f))) s
named_write job m (suc (suc d)) file s = let P : List Output → Type 0 = λ rest. StopsWrites (Some (Unwritten file)) rest in absurd (subst P (drop-nil d) s)

-- the call that failed is the next one
named_next : (job : Job) (m : Module) (d : ℕ) (fault : Option JobFault) → StopsWrites fault (drop d (outputs_for job m)) → fault_ending fault (drop d (writes job)) ≡ failed_call job fault
named_next job m d None s = refl
named_next job m d (Some (Refused line construct)) s = absurd s
named_next job m d (Some Unread) s = absurd s
named_next job m d (Some (Unwritten file)) s = named_write job m d file s
named_next job m d (Some Memory) s = refl

never_refused : (fault : Option JobFault) (rest : List Output) → StopsWrites fault rest → ended fault ≡ status.Refused → ⊥
never_refused None rest s e = cc
never_refused (Some (Refused line construct)) rest s e = s
never_refused (Some Unread) rest s e = s
never_refused (Some (Unwritten file)) rest s e = cc
never_refused (Some Memory) rest s e = cc

-- What the calls of a run say: the module's text was read, and its files were written as far as the fault let them.
pub record CallsOf (job : Job) (m : Module) (old mid new : DeskState) (limit : ℕ) (fault : Option JobFault) : Type 0 where
  pub text : List ℕ
  pub read : Reads old mid job.source limit (Ok text)
  pub module_is : module_in text ≡ Ok m
  pub wrote : WritesAll job (outputs_for job m) mid new fault

pub leaves_of : (job : Job) (m : Module) (old mid new : DeskState) (limit : ℕ) (fault : Option JobFault) → CallsOf job m old mid new limit fault → Leaves job old new fault
leaves_of job m old mid new limit fault c =
    let r = c.read in
    let w = c.wrote in
    let outputs = outputs_for job m in
    let named = named_next job m w.done fault w.stops in
    let entries : map (write_call job) (take w.done outputs) ++ failed_call job fault ≡ take w.done (writes job) ++ fault_ending fault (drop w.done (writes job)) =
    ap (λ xs. xs ++ failed_call job fault) (sym (take-map (write_call job) w.done outputs)) ∙ ap (λ xs. take w.done (writes job) ++ xs) (sym named) in
    record {
      done = suc w.done;
      cut = w.cut;
      calls = w.calls ∙ ap (λ c. append c (map (write_call job) (take w.done outputs) ++ failed_call job fault)) r.calls
          ∙ append_append old.calls _ _ ∙ ap (λ e. append old.calls (called Read job.source ∷ e)) entries;
      named = named;
      files = files_at job m old.files mid.files new.files c.text w.done w.cut r.files r.exact c.module_is w.files;
      tells_files = λ e.
          w.files ∙ ap (λ files. written job w.done w.cut outputs files) (r.files ∙ e)
          ∙ ap (put_piece job w.cut (drop w.done outputs)) (put_all_untold job (take w.done outputs)) ∙ put_piece_untold job w.cut (drop w.done outputs);
      said = w.said ∙ r.said;
      all = λ e. let h = w.all e in let le : 2 ≤ w.done = h.0 in (omega arith, h.1);
      refused = λ e. absurd (never_refused fault (drop w.done outputs) w.stops e);
      unread = λ e. absurd (omega arith);
    }

cause_at : (job : Job) (old mid new : DeskState) (rest : List Output) (fault : Option JobFault) → StopsWrites fault rest → mid.faults ≡ old.faults → CountsFailure mid.faults new.faults (failure_behind fault) → Cause job old new fault
cause_at job old mid new rest None s e counts = counts ∙ e
cause_at job old mid new rest (Some (Refused line construct)) s e counts = absurd s
cause_at job old mid new rest (Some Unread) s e counts = absurd s
cause_at job old mid new rest (Some (Unwritten file)) s e counts =
    let P : ℕ → Type 0 = λ n. CountsFailure n new.faults (failure_behind (Some (Unwritten file))) in subst P e counts
cause_at job old mid new rest (Some Memory) s e counts = counts ∙ e

pub cause_of : (job : Job) (m : Module) (old mid new : DeskState) (limit : ℕ) (fault : Option JobFault) → CallsOf job m old mid new limit fault → Cause job old new fault
cause_of job m old mid new limit fault c = cause_at job old mid new (drop c.wrote.done (outputs_for job m)) fault c.wrote.stops c.read.counts c.wrote.counts

read_renamed : {old new : DeskState} {name : List ℕ} {limit : ℕ} {result : Result (List ℕ) DeskFail} (name' : List ℕ) → name ≡ name' → Reads old new name limit result → Reads old new name' limit result
read_renamed {old} {new} {name} {limit} {result} name' e r = let P : List ℕ → Type 0 = λ n. Reads old new n limit result in subst P e r

-- the same, as the code sees it
pub ends_after : (job : Job) (old new : DeskState) (limit : ℕ) (source text : List ℕ) (fault : JobFault) → source ≡ job.source → IsQuiet job fault → Reads old new source limit (Ok text) → Leaves job old new (Some fault)
ends_after job old new limit source text fault e quiet r = read_alone job old new limit text fault quiet (read_renamed job.source e r)

pub calls_of : (job : Job) (m : Module) (old mid new : DeskState) (limit : ℕ) (source text lent : List ℕ) (outputs slice : List Output) (fault : Option JobFault)
    → source ≡ job.source → lent ≡ text → outputs ≡ outputs_for job m → slice ≡ outputs
    → Reads old mid source limit (Ok text) → module_in lent ≡ Ok m → WritesAll job slice mid new fault → CallsOf job m old mid new limit fault
calls_of job m old mid new limit source text lent outputs slice fault is_source is_text are is_outputs r made w =
    let P : List Output → Type 0 = λ os. WritesAll job os mid new fault in
    record {
      text = text;
      read = read_renamed job.source is_source r;
      module_is = ap module_in (sym is_text) ∙ made;
      wrote = subst P (is_outputs ∙ are) w;
    }

refused_in : (job : Job) (before : Option Files) (text : List ℕ) (why : Refusal) → IfSome before (λ files. text ≡ content files job.source) → module_in text ≡ Err why
    → IfSome before (λ files. module_in (content files job.source) ≡ Err why)
refused_in job None text why exact e = tt
refused_in job (Some files) text why exact e = ap module_in (sym exact) ∙ e

refusal_is_quiet : (job : Job) (why : Refusal) → IsQuiet job (fault_of why)
refusal_is_quiet job (refusal.Refused line construct) = (λ rest. refl, refl)
refusal_is_quiet job refusal.Memory = (λ rest. refl, refl)

-- what a run leaves whose module is refused
pub refused_leaves : (job : Job) (old new : DeskState) (limit : ℕ) (source text : List ℕ) (why : Refusal) (fault : JobFault) → source ≡ job.source → fault ≡ fault_of why → Reads old new source limit (Ok text) → Leaves job old new (Some fault)
refused_leaves job old new limit source text why fault e is r =
    let P : JobFault → Type 0 = λ f. Leaves job old new (Some f) in
    subst P (sym is) (ends_after job old new limit source text (fault_of why) e (refusal_is_quiet job why) r)

cause_by : (job : Job) (old new : DeskState) (text : List ℕ) (why : Refusal) → new.faults ≡ old.faults → IfSome old.files (λ files. text ≡ content files job.source) → Gives (Err why) (module_in text) → Cause job old new (Some (fault_of why))
cause_by job old new text (refusal.Refused line construct) counts exact gives = (counts, refused_in job old.files text (refusal.Refused line construct) exact gives)
cause_by job old new text refusal.Memory counts exact gives = counts

-- and why it is
pub refused_cause : (job : Job) (old new : DeskState) (limit : ℕ) (source text lent : List ℕ) (why : Refusal) (fault : JobFault) → source ≡ job.source → lent ≡ text → fault ≡ fault_of why → Reads old new source limit (Ok text) → Gives (Err why) (module_in lent) → Cause job old new (Some fault)
refused_cause job old new limit source text lent why fault e lends is r gives =
    let r' = read_renamed job.source e r in
    let P : JobFault → Type 0 = λ f. Cause job old new (Some f) in
    let Q : List ℕ → Type 0 = λ t. Gives (Err why) (module_in t) in
    subst P (sym is) (cause_by job old new text why r'.counts r'.exact (subst Q lends gives))

-- ASCII is its own UTF-8
memory_bytes : encode_utf8_all out_of_memory ≡ out_of_memory
unfolding lib.Utf8.encode
memory_bytes = refl

-- a run that has no memory for the words of its job
pub never_began : (found : Option Job) (old new : DeskState) (last : Status) → Concludes out_of_memory status.OutOfMemory old new last → IfSome found (λ job. Runs job old new last)
never_began None old new last says = tt
never_began (Some job) old new last says =
    record {
      fault = Some Memory;
      between = old;
      cause = refl;
      leaves = record {
        done = 0;
        cut = None;
        calls = sym (append_nothing old.calls);
        named = refl;
        files = unchanged old.files old.files refl;
        tells_files = λ e. e;
        said = refl;
        all = λ e. absurd (cc);
        refused = λ e. absurd (cc);
        unread = λ e. refl;
      };
      ends = record { told = Memory; which = inl refl; concludes = let P : List ℕ → Type 0 = λ bytes. Concludes bytes status.OutOfMemory old new last in subst P (sym memory_bytes) says };
    }

-- and where its words are refused, or not yet known to be
pub words_unread : (found : Option Job) (old new : DeskState) (last : Status) → Concludes out_of_memory status.OutOfMemory old new last → IfNone found (RefusesWords old new last)
words_unread None old new last says = inr says
words_unread (Some job) old new last says = tt
