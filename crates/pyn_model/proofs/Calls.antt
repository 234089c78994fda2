-- The suite that calls each function of a module of the first form: its report, and that it is minimal.
use Rattle.std.proofs.Common.{◌≡◌, refl, sym, ap, ◌∙◌, subst, ℕ, ◌+◌, List, [], ◌∷◌, All, length}
use Rattle.std.proofs.lemmas.List.Elements.{All-nil, All-cons}
use Rattle.py_syntax.specs.declared.module.Module.{Module}
use Rattle.py_language.specs.declared.first.First.{First}
use Rattle.py_language.specs.FirstForm.{module_of}
use Rattle.pyn_model.specs.declared.report.TestLine.TheVariants.{Passes}
use Rattle.py_syntax.specs.Functions.{functions_of}
use Rattle.pyn_model.specs.Judged.{judged, goals_taken, IsMinimal}
use Rattle.pyn_model.specs.Goals.{goals_of}
use Rattle.pyn_model.specs.FileRun.{TestRun, file_run}
use Rattle.pyn_model.specs.Calls.{calls_from, calls_suite}
use Rattle.pyn_model.specs.CallsReport.{calls_report}
use Rattle.pyn_model.specs.FirstModules.{IsFirst}
use Rattle.pyn_model.proofs.Judging.{ran_at, ran_from, file_run-calls, goals_of-module, goal_lines-calls, outcomes-calls}
use Rattle.pyn_model.proofs.Minimality.{all_taken, minimal-calls, none_can_go-calls}

pub judged-calls : (m : Module) (name : List ℕ) → IsFirst m → judged m (calls_suite name m) 20000 0 ≡ calls_report name m
judged-calls m name first =
    let P : Module → Type 0 = λ n. judged n (calls_suite name n) 20000 0 ≡ calls_report name n in
    let n = module_of first.functions in
    let report : judged n (calls_suite name n) 20000 0 ≡ calls_report name n =
    ap (λ tests. record (judged n (calls_suite name n) 20000 0) { tests = tests }) (outcomes-calls first.functions first.distinct first.return)
    ∙ ap (λ goals. record (judged n (calls_suite name n) 20000 0) { tests = (calls_report name n).tests; goals = goals }) (goal_lines-calls first.functions first.distinct first.return)
    ∙ ap (λ minimal. record (calls_report name n) { minimal = minimal }) (none_can_go-calls first.functions first.distinct first.return) in
    subst P (sym first.is) report

pub minimal-first : (m : Module) → IsFirst m → IsMinimal m 20000 (calls_from 0 (functions_of m))
minimal-first m first =
    let P : Module → Type 0 = λ n. IsMinimal n 20000 (calls_from 0 (functions_of n)) in
    subst P (sym first.is) (minimal-calls first.functions first.distinct first.return)

abbrev IsPassing : TestRun → Type 0
IsPassing ran = ran.outcome ≡ Passes

passing : (k : ℕ) (fs : List First) → All IsPassing (ran_from k fs)
passing k [] = All-nil IsPassing
passing k (f ∷ rest) = All-cons IsPassing (ran_at k) (ran_from (k + 1) rest) refl (passing (k + 1) rest)

-- each test passes
pub passes-first : (m : Module) → IsFirst m → All (λ (ran : TestRun). ran.outcome ≡ Passes) (file_run m 20000 (calls_from 0 (functions_of m)))
passes-first m first =
    let P : Module → Type 0 = λ n. All IsPassing (file_run n 20000 (calls_from 0 (functions_of n))) in
    let Q : List TestRun → Type 0 = λ ran. All IsPassing ran in
    subst P (sym first.is)
    (subst Q (sym (file_run-calls first.functions first.distinct first.return)) (passing 0 first.functions))

-- no goal is missing
pub complete-first : (m : Module) → IsFirst m → goals_taken m 20000 (calls_from 0 (functions_of m)) ≡ length (goals_of m)
complete-first m first =
    let P : Module → Type 0 = λ n. goals_taken n 20000 (calls_from 0 (functions_of n)) ≡ length (goals_of n) in
    subst P (sym first.is)
    (all_taken first.functions first.distinct first.return ∙ ap length (sym (goals_of-module first.functions)))
