-- Files that are written one after another.
use Rattle.std.proofs.Common.{◌≡◌, ℕ, ◌+◌, ◌<◌, ◌≤◌, ◌∙◌, sym, ap, refl, inl, inr, List, [], ◌∷◌, ◌++◌, map, length, take, drop, get_or, Option, Some, None, append_assoc, append-nil, add-one, subst, All, chars}
use Rattle.std.proofs.lemmas.List.{take_more, map-append}
use Rattle.std.proofs.lemmas.List.Elements.{All-nil, All-push, All-same}
use Rattle.std.proofs.Math.Seq.{drop-cons}
use Rattle.pyn_base.specs.Files.{Files}
use Rattle.pyn_base.specs.Desk.{DeskState, Writes, CountsFailure, append, put, entry}
use Rattle.pyn_base.specs.declared.desk.CallKind.TheVariants.{Write}
use Rattle.pynguin_job.specs.declared.words.Job.{Job}
use Rattle.pynguin_job.specs.declared.outputs.Output.{Output}
use Rattle.pynguin_job.specs.declared.fault.JobFault.{JobFault}
use Rattle.pynguin_job.specs.declared.fault.JobFault.TheVariants.{Refused, Unread, Unwritten, Memory}
use Rattle.pynguin_job.specs.Faults.{path_of}
use Rattle.pynguin_job.specs.Run.{write_call, failed_call, failure_behind, bytes_of, put_all, put_piece, StopsWrites, WritesAll}

pub append_append : {T : Type 0} (told : Option (List T)) (xs ys : List T) → append (append told xs) ys ≡ append told (xs ++ ys)
append_append None xs ys = refl
append_append (Some whole) xs ys = ap Some (append_assoc whole xs ys)

pub append_nothing : {T : Type 0} (told : Option (List T)) → append told [] ≡ told
append_nothing None = refl
append_nothing (Some whole) = ap Some (append-nil whole)

put_all-append : (job : Job) (xs ys : List Output) (files : Option Files) → put_all job (xs ++ ys) files ≡ put_all job ys (put_all job xs files)
put_all-append job [] ys files = refl
put_all-append job (x ∷ xs) ys files = put_all-append job xs ys (put files (path_of job x.file) (bytes_of x))

abbrev pub IsLegible : Output → Type 0
IsLegible output = chars (bytes_of output) ≡ output.text

-- the first i files are written
pub record WroteFirst (job : Job) (outputs : List Output) (i : ℕ) (old now : DeskState) : Type 0 where
  pub files : now.files ≡ put_all job (take i outputs) old.files
  pub calls : now.calls ≡ append old.calls (map (write_call job) (take i outputs))
  pub faults : now.faults ≡ old.faults
  pub said : now.said ≡ old.said
  pub legible : All IsLegible (take i outputs)

pub wrote_none : (job : Job) (outputs : List Output) (old : DeskState) → WroteFirst job outputs 0 old old
wrote_none job outputs old = record { files = refl; calls = sym (append_nothing old.calls); faults = refl; said = refl; legible = All-nil IsLegible }

pub wrote_more : (job : Job) (outputs : List Output) (i : ℕ) (o : Output) (old now next : DeskState) → i < length outputs → o ≡ get_or outputs i o → IsLegible o → WroteFirst job outputs i old now → Writes now next (path_of job o.file) (bytes_of o) None
    → WroteFirst job outputs (i + 1) old next
wrote_more job outputs i o old now next lt is spells before w =
    let taken : take (i + 1) outputs ≡ take i outputs ++ o ∷ [] = take_more outputs i o lt ∙ ap (λ x. take i outputs ++ x ∷ []) (sym is) in
    record {
      files = w.whole refl ∙ ap (λ f. put f (path_of job o.file) (bytes_of o)) before.files ∙ sym (put_all-append job (take i outputs) (o ∷ []) old.files)
          ∙ ap (λ xs. put_all job xs old.files) (sym taken);
      calls = w.calls ∙ ap (λ c. append c (write_call job o ∷ [])) before.calls ∙ append_append old.calls _ _
          ∙ ap (λ c. append old.calls c) (sym (map-append (write_call job) (take i outputs) (o ∷ [])))
          ∙ ap (λ xs. append old.calls (map (write_call job) xs)) (sym taken);
      faults = w.counts ∙ before.faults;
      said = w.said ∙ before.said;
      legible = All-same IsLegible (take (i + 1) outputs) (take i outputs ++ o ∷ []) taken (All-push IsLegible (take i outputs) o before.legible spells);
    }

-- the entry of a write that stopped
entry_of : (job : Job) (o : Output) (fault : JobFault) → StopsWrites (Some fault) (o ∷ []) → entry Write (path_of job o.file) (failure_behind (Some fault)) ≡ failed_call job (Some fault)
entry_of job o (Refused line construct) s = absurd s
entry_of job o Unread s = absurd s
entry_of job o (Unwritten file) s = ap (λ f. failed_call job (Some (Unwritten f))) s
entry_of job o Memory s = refl

stops_before : (o : Output) (rest more : List Output) (fault : JobFault) → StopsWrites (Some fault) (o ∷ rest) → StopsWrites (Some fault) (o ∷ more)
stops_before o rest more (Refused line construct) s = s
stops_before o rest more Unread s = s
stops_before o rest more (Unwritten file) s = s
stops_before o rest more Memory s = s

stopped_at : (cut : Option ℕ) (job : Job) (outputs : List Output) (i : ℕ) (o : Output) (old now next : DeskState) (fault : JobFault) → drop i outputs ≡ o ∷ drop (i + 1) outputs → StopsWrites (Some fault) (o ∷ []) → WroteFirst job outputs i old now
    → Writes now next (path_of job o.file) (bytes_of o) (failure_behind (Some fault)) → next.files ≡ put_piece job cut (o ∷ drop (i + 1) outputs) (put_all job (take i outputs) old.files) → WritesAll job outputs old next (Some fault)
stopped_at cut job outputs i o old now next fault rest stops before w files =
    record {
      done = i;
      cut = cut;
      files = files ∙ ap (λ xs. put_piece job cut xs (put_all job (take i outputs) old.files)) (sym rest);
      calls = w.calls ∙ ap (λ c. append c (entry Write (path_of job o.file) (failure_behind (Some fault)))) before.calls ∙ append_append old.calls _ _
          ∙ ap (λ e. append old.calls (map (write_call job) (take i outputs) ++ e)) (entry_of job o fault stops);
      all = λ e. absurd (cc);
      stops = let P : List Output → Type 0 = λ xs. StopsWrites (Some fault) xs in subst P (sym rest) (stops_before o [] (drop (i + 1) outputs) fault stops);
      legible = before.legible;
      counts = let P : ℕ → Type 0 = λ n. CountsFailure n next.faults (failure_behind (Some fault)) in subst P before.faults w.counts;
      said = w.said ∙ before.said;
    }

pub stopped : (job : Job) (outputs : List Output) (i : ℕ) (o : Output) (old now next : DeskState) (fault : JobFault) → i < length outputs → o ≡ get_or outputs i o → StopsWrites (Some fault) (o ∷ []) → WroteFirst job outputs i old now
    → Writes now next (path_of job o.file) (bytes_of o) (failure_behind (Some fault)) → WritesAll job outputs old next (Some fault)
stopped job outputs i o old now next fault lt is stops before w =
    let rest : drop i outputs ≡ o ∷ drop (i + 1) outputs = rw (drop-cons outputs i o lt, ← is, add-one) refl in
    elim w.partly [
      | inl same ↦ stopped_at None job outputs i o old now next fault rest stops before w (same ∙ before.files)
      | inr part ↦ stopped_at (Some part.0) job outputs i o old now next fault rest stops before w
          (part.1 ∙ ap (λ t. put t (path_of job o.file) (take part.0 (bytes_of o))) before.files)
    ]

pub wrote_all : (job : Job) (outputs : List Output) (i : ℕ) (old now : DeskState) → length outputs ≤ i → WroteFirst job outputs i old now → WritesAll job outputs old now None
wrote_all job outputs i old now le before =
    record {
      done = i;
      cut = None;
      files = before.files;
      calls = before.calls ∙ ap (λ xs. append old.calls xs) (sym (append-nil (map (write_call job) (take i outputs))));
      all = λ e. (le, refl);
      stops = tt;
      legible = before.legible;
      counts = before.faults;
      said = before.said;
    }
