-- The files of a run that is done can be trusted.
use Rattle.std.proofs.Common.{◌≡◌, ℕ, ◌≤◌, ◌∙◌, sym, ap, refl, subst, true, false, cond, List, [], ◌∷◌, take, drop, Option, Some, None, IfSome, IsSomeAnd, IfOk, Result, Ok, Err, bytes_eq, chars, encode_utf8_all, All}
use Rattle.std.proofs.lemmas.List.{take_all}
use Rattle.std.proofs.lemmas.List.Elements.{All-head, All-same}
use Rattle.std.specs.Ordering.{nat_cmp, eq_by_cmp}
use Rattle.std.specs.Cmp.Lexicographic.{slice_cmp}
use Rattle.std.proofs.lemmas.Cmp.{nat_list_cmp_total}
use Rattle.std.proofs.lemmas.Map.Text.{is_eq-slice_cmp}
use Rattle.std.proofs.lemmas.Slice.Eq.{bytes_eq-Decides}
use Rattle.std.specs.Bool.{⊤}
use Rattle.std.specs.Result.{result_err}
use Rattle.std.specs.FinMap.{get, insert, get-insert}
use Rattle.pyn_base.specs.Files.{Files, content}
use Rattle.pyn_base.specs.Desk.{DeskState}
use Rattle.py_syntax.specs.declared.module.Module.{Module}
use Rattle.py_language.specs.TokensNames.{is_name}
use Rattle.pyn_model.specs.FirstModules.{IsFirst}
use Rattle.pyn_model.specs.SuiteText.{suite_text}
use Rattle.pyn_model.specs.SuiteRead.{suite_of}
use Rattle.pyn_model.specs.Calls.{calls_suite}
use Rattle.pyn_model.specs.Report.{report_text}
use Rattle.pyn_model.specs.Judged.{judged}
use Rattle.pyn_model.proofs.Calls.{minimal-first, passes-first, complete-first}
use Rattle.pyn_model.proofs.ReadBack.{suite_of-calls}
use Rattle.pynguin_job.specs.declared.words.Job.{Job}
use Rattle.pynguin_job.specs.declared.words.JobFile.TheVariants as file
use Rattle.pynguin_job.specs.declared.fault.JobFault.{JobFault}
use Rattle.pynguin_job.specs.declared.outputs.Output.{Output}
use Rattle.pynguin_job.specs.Reading.{module_in}
use Rattle.pynguin_job.specs.Outputs.{outputs_for}
use Rattle.pynguin_job.specs.Run.{put_all, put_piece}
use Rattle.pynguin_job.specs.Headline.{IsTrusted}
use Rattle.pynguin_job.proofs.Identifiers.{one_line-name}
use Rattle.pynguin_job.proofs.Modules.{module_in-IsFirst}
use Rattle.pynguin_job.proofs.Runs.{CallsOf}
use Rattle.pynguin_job.proofs.Writes.{IsLegible}

tie : (name : List ℕ) → eq_by_cmp (slice_cmp nat_cmp) name name ≡ true
tie name = is_eq-slice_cmp name name ∙ (bytes_eq-Decides name name).1 refl

-- the files after both writes
abbrev both : Job → Module → Files → Files
both job m files =
    insert (insert files job.suite (encode_utf8_all (suite_text m (calls_suite job.name m)))) job.report
    (encode_utf8_all (report_text (judged m (calls_suite job.name m) 20000 0)))

trusted_in : (job : Job) (m : Module) (before : Files) → bytes_eq job.suite job.report ≡ false → is_name job.name ≡ true → module_in (content before job.source) ≡ Ok m → IsFirst m
    → chars (encode_utf8_all (suite_text m (calls_suite job.name m))) ≡ suite_text m (calls_suite job.name m) → IsTrusted job before (both job m before)
trusted_in job m before distinct name read first spells =
    let suite = calls_suite job.name m in
    let suite_bytes : List ℕ = encode_utf8_all (suite_text m suite) in
    let report_bytes : List ℕ = encode_utf8_all (report_text (judged m suite 20000 0)) in
    let one : Files = insert before job.suite suite_bytes in
    record {
      «module» = m;
      suite = suite;
      suite_bytes = suite_bytes;
      read = read;
      suite_file = get-insert nat_list_cmp_total one job.report report_bytes job.suite
          ∙ ap (λ t. cond t (Some report_bytes) (get one job.suite)) (is_eq-slice_cmp job.suite job.report ∙ distinct)
          ∙ get-insert nat_list_cmp_total before job.suite suite_bytes job.suite
          ∙ ap (λ t. cond t (Some suite_bytes) (get before job.suite)) (tie job.suite);
      written = refl;
      read_again = ap (suite_of m) spells ∙ suite_of-calls m job.name first (one_line-name job.name name);
      chosen = refl;
      passes = passes-first m first;
      report_file = get-insert nat_list_cmp_total one job.report report_bytes job.report
          ∙ ap (λ t. cond t (Some report_bytes) (get one job.report)) (tie job.report);
      minimal = minimal-first m first;
      complete = complete-first m first;
    }

trusted_at : (job : Job) (m : Module) (before mid after : Option Files) (text : List ℕ) (d : ℕ) (cut : Option ℕ) → bytes_eq job.suite job.report ≡ false → is_name job.name ≡ true → IsFirst m
    → mid ≡ before → IfSome before (λ files. text ≡ content files job.source) → module_in text ≡ Ok m
    → after ≡ put_piece job cut (drop d (outputs_for job m)) (put_all job (take d (outputs_for job m)) mid) → 2 ≤ d → cut ≡ None → All IsLegible (take d (outputs_for job m))
    → IfSome before (λ files. IsSomeAnd after (IsTrusted job files))
trusted_at job m None mid after text d cut distinct name first same exact read e le whole legible = tt
trusted_at job m (Some files) mid after text d cut distinct name first same exact read e le whole legible =
    let outputs = outputs_for job m in
    let all : take d outputs ≡ outputs = take_all d outputs le in
    let final : after ≡ Some (both job m files) =
    e ∙ ap (λ c. put_piece job c (drop d outputs) (put_all job (take d outputs) mid)) whole
    ∙ ap (put_all job (take d outputs)) same
    ∙ ap (λ xs. put_all job xs (Some files)) all in
    let suite : Output = record { file = file.Suite; text = suite_text m (calls_suite job.name m) } in
    let report : Output = record { file = file.Report; text = report_text (judged m (calls_suite job.name m) 20000 0) } in
    let spells = All-head IsLegible suite (report ∷ []) (All-same IsLegible outputs (take d outputs) (sym all) legible) in
    let P : Option Files → Type 0 = λ a. IsSomeAnd a (IsTrusted job files) in
    subst P (sym final) (trusted_in job m files distinct name (ap module_in (sym exact) ∙ read) first spells)

-- a run that wrote all
read_and_trusted : (job : Job) (m : Module) (old mid new : DeskState) (limit : ℕ) → bytes_eq job.suite job.report ≡ false → is_name job.name ≡ true → CallsOf job m old mid new limit None
    → IfSome old.files (λ before. IsSomeAnd new.files (IsTrusted job before))
read_and_trusted job m old mid new limit distinct name c =
    let w = c.wrote in
    let h = w.all refl in
    trusted_at job m old.files mid.files new.files c.text w.done w.cut distinct name (module_in-IsFirst c.text m c.module_is) c.read.files c.read.exact c.module_is w.files h.0 h.1 w.legible

-- a run whose work is done
pub trusted_of : (job : Job) (m : Module) (old mid new : DeskState) (limit : ℕ) (result : Result ⊤ JobFault) → bytes_eq job.suite job.report ≡ false → is_name job.name ≡ true → CallsOf job m old mid new limit (result_err result)
    → IfOk result (λ _. IfSome old.files (λ before. IsSomeAnd new.files (IsTrusted job before)))
trusted_of job m old mid new limit (Ok done) distinct name c = read_and_trusted job m old mid new limit distinct name c
trusted_of job m old mid new limit (Err fault) distinct name c = tt
