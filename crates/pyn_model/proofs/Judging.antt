-- What the tests of a module of the first form take: test k takes the goals of function k, and no other.
use Rattle.std.proofs.Common.{◌≡◌, ◌≢◌, refl, sym, ◌∙◌, ap, ap₂, subst, inl, inr, ℕ, suc, ◌+◌, ◌*◌, ◌<◌, ◌≤◌, Bool, true, false, ◌||◌, ◌==◌, cond, List, [], ◌∷◌, ◌++◌, length, Option, Some, None, map, arith, add-zero, eqb}
use Rattle.std.specs.List.{position_from, flat_map}
use Rattle.std.specs.Option.{option_map}
use Rattle.std.proofs.lemmas.Bool.Decides.{eqb_tells}
use Rattle.py_syntax.specs.declared.module.Func.{Func}
use Rattle.py_syntax.specs.declared.module.Module.{Module}
use Rattle.py_language.specs.declared.first.First.{First}
use Rattle.py_language.specs.FirstForm.{func_at, module_of, is_distinct, name_of}
use Rattle.pyn_model.specs.declared.report.GoalKind.TheVariants.{Entry, Reached}
use Rattle.pyn_model.specs.declared.report.GoalLine.{GoalLine}
use Rattle.pyn_model.specs.declared.report.TestLine.TheVariants.{Passes}
use Rattle.py_syntax.specs.Functions.{functions_of}
use Rattle.pyn_model.specs.Goals.{Goal, goals_in, goals_of, is_taken}
use Rattle.pyn_model.specs.FileRun.{TestRun, run_case, file_run}
use Rattle.pyn_model.specs.Judged.{goal_line, goal_lines, test_id}
use Rattle.pyn_model.specs.SuiteRead.{call_case}
use Rattle.pyn_model.specs.Calls.{calls_from}
use Rattle.pyn_model.specs.CallsReport.{function_lines, covers_from}
use Rattle.pyn_model.specs.FirstModules.{AllReturn}
use Rattle.pyn_model.proofs.Functions.{funcs_from, functions_of-module, IsCalled, AllCalled, all_called}
use Rattle.pyn_model.proofs.Running.{run_case-returning}

-- ---- tests of numbers

pub same_number : (n : ℕ) → (n == n) ≡ true
same_number n = elim (eqb_tells n n) [ inl same ↦ same.0 | inr differs ↦ absurd (differs.1 refl) ]

pub other_number : (m n : ℕ) → m ≢ n → (m == n) ≡ false
other_number m n d = elim (eqb_tells m n) [ inl same ↦ absurd (d same.1) | inr differs ↦ differs.0 ]

-- ---- runs and goals by place

abbrev pub trail_at : ℕ → List ℕ
trail_at k = 3 * k ∷ (3 * k + 1) ∷ (3 * k + 2) ∷ []

abbrev pub ran_at : ℕ → TestRun
ran_at k = record { outcome = Passes; trail = trail_at k }

abbrev pub ran_from : ℕ → List First → List TestRun
ran_from k [] = []
ran_from k (f ∷ rest) = ran_at k ∷ ran_from (k + 1) rest

abbrev pub entry_at : ℕ → Goal
entry_at k = record { kind = Entry; line = 4 * k + 1; nodes = 3 * k ∷ [] }

abbrev pub line_at : ℕ → Goal
line_at k = record { kind = Reached; line = 4 * k + 2; nodes = (3 * k + 1) ∷ [] }

abbrev pub goals_from : ℕ → List First → List Goal
goals_from k [] = []
goals_from k (f ∷ rest) = entry_at k ∷ line_at k ∷ goals_from (k + 1) rest

goals_in-func_at : (k : ℕ) (f : First) → goals_in (func_at k f) ≡ entry_at k ∷ line_at k ∷ []
goals_in-func_at k f = rw (same_number (4 * k + 2)) refl

goals_by_function : (k : ℕ) (fs : List First) → flat_map goals_in (funcs_from k fs) ≡ goals_from k fs
goals_by_function k [] = refl
goals_by_function k (f ∷ rest) =
    ap₂ (λ gs hs. gs ++ hs) (goals_in-func_at k f) (goals_by_function (k + 1) rest)

pub goals_of-module : (fs : List First) → goals_of (module_of fs) ≡ goals_from 0 fs
goals_of-module fs = ap (flat_map goals_in) (functions_of-module fs) ∙ goals_by_function 0 fs

-- ---- which test takes which goal

pub takes_entry : (k : ℕ) → is_taken (trail_at k) (entry_at k) ≡ true
takes_entry k = rw (same_number (3 * k)) refl

pub takes_line : (k : ℕ) → is_taken (trail_at k) (line_at k) ≡ true
takes_line k = rw (other_number (3 * k) (3 * k + 1) (λ e. omega (arith, e)), same_number (3 * k + 1)) refl

pub leaves_entry : (j k : ℕ) → j ≢ k → is_taken (trail_at j) (entry_at k) ≡ false
leaves_entry j k d =
    rw (other_number (3 * j) (3 * k) (λ e. d (omega (arith, e))), other_number (3 * j + 1) (3 * k) (λ e. omega (arith, e)), other_number (3 * j + 2) (3 * k) (λ e. omega (arith, e))) refl

pub leaves_line : (j k : ℕ) → j ≢ k → is_taken (trail_at j) (line_at k) ≡ false
leaves_line j k d =
    rw (other_number (3 * j) (3 * k + 1) (λ e. omega (arith, e)), other_number (3 * j + 1) (3 * k + 1) (λ e. d (omega (arith, e))), other_number (3 * j + 2) (3 * k + 1) (λ e. omega (arith, e))) refl

-- ---- the runs of the suite

run_case-called : (m : Module) (k : ℕ) (f : First) → AllReturn (f ∷ []) → IsCalled (functions_of m) k f → run_case m 20000 (call_case k k) ≡ ran_at k
run_case-called m k f r c =
    run_case-returning 19994 m f.name (3 * k) (4 * k + 1) (4 * k + 2) f.literal r.0.0 k c.at c.place r.0.1

runs_from : (m : Module) (k : ℕ) (fs : List First) → AllReturn fs → AllCalled (functions_of m) k fs → file_run m 20000 (calls_from k (funcs_from k fs)) ≡ ran_from k fs
runs_from m k [] r c = refl
runs_from m k (f ∷ rest) r c =
    ap₂ (λ x xs. x ∷ xs) (run_case-called m k f (r.0, r.1, tt) c.0) (runs_from m (k + 1) rest r.2 c.1)

pub file_run-calls : (fs : List First) → is_distinct (map name_of fs) ≡ true → AllReturn fs → file_run (module_of fs) 20000 (calls_from 0 (functions_of (module_of fs))) ≡ ran_from 0 fs
file_run-calls fs d r =
    let P : List Func → Type 0 = λ all. AllCalled all 0 fs in
    ap (λ all. file_run (module_of fs) 20000 (calls_from 0 all)) (functions_of-module fs)
    ∙ runs_from (module_of fs) 0 fs r (subst P (sym (functions_of-module fs)) (all_called fs d))

-- ---- the first test that takes a goal

-- a goal that test k takes, and no other test
pub record IsOf (k : ℕ) (goal : Goal) : Type 0 where
  pub own : is_taken (trail_at k) goal ≡ true
  pub others : (j : ℕ) → j ≢ k → is_taken (trail_at j) goal ≡ false

pub entry_is : (k : ℕ) → IsOf k (entry_at k)
entry_is k = record { own = takes_entry k; others = λ j d. leaves_entry j k d }

pub line_is : (k : ℕ) → IsOf k (line_at k)
line_is k = record { own = takes_line k; others = λ j d. leaves_line j k d }

abbrev pub taker : Goal → ℕ → List TestRun → Option ℕ
taker goal i ran = position_from (λ (r : TestRun). is_taken r.trail goal) i ran

first_taker : (k : ℕ) (goal : Goal) → IsOf k goal → (i : ℕ) (fs : List First) → i ≤ k → k < i + length fs → taker goal i (ran_from i fs) ≡ Some k
first_taker k goal o i [] le lt = absurd (omega (arith, le, lt))
first_taker k goal o i (f ∷ rest) le lt = elim (eqb_tells i k) [
  | inl same ↦
      let here : is_taken (trail_at i) goal ≡ true = ap (λ j. is_taken (trail_at j) goal) same.1 ∙ o.own in
      ap (λ t. cond t (Some i) (taker goal (i + 1) (ran_from (i + 1) rest))) here ∙ ap Some same.1
  | inr differs ↦
      ap (λ t. cond t (Some i) (taker goal (i + 1) (ran_from (i + 1) rest))) (o.others i differs.1)
      ∙ first_taker k goal o (i + 1) rest (omega (arith, le, differs.1)) (omega (arith, lt))
]

-- ---- the goals' lines in the report

abbrev line_with : Goal → Option ℕ → GoalLine
line_with goal by = record { kind = goal.kind; line = goal.line; by = option_map test_id by }

covered_at : (fs : List First) (k : ℕ) (goal : Goal) → IsOf k goal → k < length fs → goal_line (ran_from 0 fs) goal ≡ line_with goal (Some k)
covered_at fs k goal o lt = ap (line_with goal) (first_taker k goal o 0 fs (omega arith) (omega (arith, lt)))

lines_from : (all : List First) (k : ℕ) (rest : List First) → k + length rest ≤ length all → map (goal_line (ran_from 0 all)) (goals_from k rest) ≡ covers_from k (funcs_from k rest)
lines_from all k [] le = refl
lines_from all k (f ∷ rest) le =
    ap₂ (λ x xs. x ∷ xs) (covered_at all k (entry_at k) (entry_is k) (omega (arith, le)))
    (ap₂ (λ x xs. x ∷ xs) (covered_at all k (line_at k) (line_is k) (omega (arith, le)))
    (lines_from all (k + 1) rest (omega (arith, le))))

pub goal_lines-calls : (fs : List First) → is_distinct (map name_of fs) ≡ true → AllReturn fs
    → goal_lines (module_of fs) 20000 (calls_from 0 (functions_of (module_of fs))) ≡ covers_from 0 (functions_of (module_of fs))
goal_lines-calls fs d r =
    ap₂ (λ ran gs. map (goal_line ran) gs) (file_run-calls fs d r) (goals_of-module fs)
    ∙ lines_from fs 0 fs (omega arith) ∙ ap (covers_from 0) (sym (functions_of-module fs))

passes_from : (k : ℕ) (fs : List First) → map (λ (r : TestRun). r.outcome) (ran_from k fs) ≡ map (λ (f : Func). Passes) (funcs_from k fs)
passes_from k [] = refl
passes_from k (f ∷ rest) = ap (λ xs. Passes ∷ xs) (passes_from (k + 1) rest)

pub outcomes-calls : (fs : List First) → is_distinct (map name_of fs) ≡ true → AllReturn fs
    → map (λ (r : TestRun). r.outcome) (file_run (module_of fs) 20000 (calls_from 0 (functions_of (module_of fs)))) ≡ map (λ (f : Func). Passes) (functions_of (module_of fs))
outcomes-calls fs d r =
    ap (map (λ (r : TestRun). r.outcome)) (file_run-calls fs d r) ∙ passes_from 0 fs ∙ ap (map (λ (f : Func). Passes)) (sym (functions_of-module fs))
