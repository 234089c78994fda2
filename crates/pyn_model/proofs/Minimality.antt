-- No test of a module of the first form can go: without test k nothing takes the entry of function k.
use Rattle.std.proofs.Common.{◌≡◌, ◌≢◌, refl, sym, ◌∙◌, ap, ap₂, subst, inl, inr, ℕ, suc, ◌+◌, ◌*◌, ◌<◌, ◌≤◌, Bool, true, false, ◌&&◌, cond, nat_lt, List, [], ◌∷◌, ◌++◌, length, Option, Some, None, map, is_some, count_by, arith, append_assoc, length-append}
use Rattle.std.specs.List.{position_from}
use Rattle.std.specs.Option.{option_map}
use Rattle.std.proofs.lemmas.List.{map-append, length-map}
use Rattle.std.proofs.lemmas.List.Sums.{count_by-le-length, sum_by-cons}
use Rattle.std.proofs.lemmas.Bool.Decides.{eqb_tells, nat_tests}
use Rattle.py_syntax.specs.declared.module.Func.{Func}
use Rattle.py_syntax.specs.declared.module.Module.{Module}
use Rattle.py_language.specs.declared.first.First.{First}
use Rattle.py_language.specs.FirstForm.{module_of, is_distinct, name_of}
use Rattle.pyn_model.specs.declared.report.GoalKind.{GoalKind}
use Rattle.pyn_model.specs.declared.report.GoalKind.TheVariants.{Entry, Reached}
use Rattle.pyn_model.specs.declared.report.GoalLine.{GoalLine}
use Rattle.pyn_model.specs.declared.test.TestCase.{TestCase}
use Rattle.py_syntax.specs.Functions.{functions_of}
use Rattle.pyn_model.specs.Goals.{Goal, goals_of, is_taken}
use Rattle.pyn_model.specs.FileRun.{TestRun, run_case, file_run}
use Rattle.pyn_model.specs.Report.{covered_count}
use Rattle.pyn_model.specs.Judged.{goal_line, goal_lines, goals_taken, IsMinimal, none_can_go, test_id}
use Rattle.pyn_model.specs.Calls.{calls_from}
use Rattle.pyn_model.specs.CallsReport.{covers_from}
use Rattle.pyn_model.specs.FirstModules.{AllReturn}
use Rattle.pyn_model.proofs.Booleans.{and_true}
use Rattle.pyn_model.proofs.Functions.{funcs_from, functions_of-module}
use Rattle.pyn_model.proofs.Judging.{ran_at, ran_from, trail_at, entry_at, line_at, goals_from, goals_of-module, file_run-calls, goal_lines-calls, IsOf, entry_is, taker}

-- ---- what is left without one test

not_here : (t : Bool) (i : ℕ) (rest : Option ℕ) → t ≡ false → rest ≡ None → cond t (Some i) rest ≡ None
not_here t i rest e f = rw (e, f) refl

-- later tests don't take it
later : (k n i : ℕ) (fs : List First) → k < i → taker (entry_at k) n (ran_from i fs) ≡ None
later k n i [] lt = refl
later k n i (f ∷ rest) lt = not_here _ n _ ((entry_is k).others i (λ e. omega (arith, e, lt))) (later k (n + 1) (i + 1) rest (omega (arith, lt)))

head_of : TestRun → List TestRun → TestRun
head_of d [] = d
head_of d (x ∷ xs) = x

tail_of : List TestRun → List TestRun
tail_of [] = []
tail_of (x ∷ xs) = xs

head-is : (d x y : TestRun) (xs ys : List TestRun) → x ∷ xs ≡ y ∷ ys → x ≡ y
unfolding head_of
head-is d x y xs ys e = ap (head_of d) e

tail-is : (x y : TestRun) (xs ys : List TestRun) → x ∷ xs ≡ y ∷ ys → xs ≡ ys
unfolding tail_of
tail-is x y xs ys e = ap tail_of e

-- of the runs of these functions, those before and after one don't take its entry
without : (n i k : ℕ) (fs : List First) (before : List TestRun) (x : TestRun) (after : List TestRun) → ran_from i fs ≡ before ++ (x ∷ after) → k ≡ i + length before → taker (entry_at k) n (before ++ after) ≡ None
without n i k [] [] x after e at = absurd (cc)
without n i k [] (b ∷ before) x after e at = absurd (cc)
without n i k (f ∷ rest) [] x after e at =
    let same : ran_from (i + 1) rest ≡ after = tail-is _ _ _ _ e in
    ap (taker (entry_at k) n) (sym same) ∙ later k n (i + 1) rest (omega (arith, at))
without n i k (f ∷ rest) (b ∷ before) x after e at =
    let head : ran_at i ≡ b = head-is x _ _ _ _ e in
    let tail : ran_from (i + 1) rest ≡ before ++ (x ∷ after) = tail-is _ _ _ _ e in
    let other : is_taken (trail_at i) (entry_at k) ≡ false = (entry_is k).others i (λ s. omega (arith, s, at)) in
    not_here _ n _ (ap (λ (r : TestRun). is_taken r.trail (entry_at k)) (sym head) ∙ other)
    (without (n + 1) (i + 1) k rest before x after tail (omega (arith, at)))

-- ---- counting

one_at_most : (t : Bool) → cond t 1 0 ≤ 1
one_at_most true = omega arith
one_at_most false = omega arith

none_at : (t : Bool) → t ≡ false → ◌≡◌ {A = ℕ} (cond t 1 0) 0
none_at t e = rw e refl

one_more : (g : GoalLine) (gs : List GoalLine) → covered_count (g ∷ gs) ≡ cond (is_some g.by) 1 0 + covered_count gs
one_more g gs = sum_by-cons (λ (x : GoalLine). cond (is_some x.by) 1 0) g gs

-- where one of the goals isn't taken, fewer than all are
fewer : (h : Goal → GoalLine) (k i : ℕ) (fs : List First) → i ≤ k → k < i + length fs → is_some (h (entry_at k)).by ≡ false → covered_count (map h (goals_from i fs)) < length (goals_from i fs)
fewer h k i [] le lt e = absurd (omega (arith, le, lt))
fewer h k i (f ∷ rest) le lt e =
    let first : ℕ = cond (is_some (h (entry_at i)).by) 1 0 in
    let second : ℕ = cond (is_some (h (line_at i)).by) 1 0 in
    let others : covered_count (map h (goals_from (i + 1) rest)) ≤ length (goals_from (i + 1) rest) =
    rw (← length-map (goals_from (i + 1) rest) h) (count_by-le-length (λ (g : GoalLine). is_some g.by) (map h (goals_from (i + 1) rest))) in
    let rest_count : ℕ = covered_count (map h (goals_from (i + 1) rest)) in
    let sum : covered_count (map h (goals_from i (f ∷ rest))) ≡ first + (second + rest_count) =
    one_more (h (entry_at i)) (map h (line_at i ∷ goals_from (i + 1) rest)) ∙ ap (λ (n : ℕ). first + n) (one_more (h (line_at i)) (map h (goals_from (i + 1) rest))) in
    let a : first ≤ 1 = one_at_most _ in
    let b : second ≤ 1 = one_at_most _ in
    elim (eqb_tells i k) [
      | inl same ↦
          let none : ◌≡◌ {A = ℕ} first 0 = none_at _ (ap (λ j. is_some (h (entry_at j)).by) same.1 ∙ e) in
          omega (arith, sum, others, none, b)
      | inr differs ↦
          let less : covered_count (map h (goals_from (i + 1) rest)) < length (goals_from (i + 1) rest) =
          fewer h k (i + 1) rest (omega (arith, le, differs.1)) (omega (arith, lt)) e in
          omega (arith, sum, less, a, b)
    ]

abbrev covered_line : GoalKind → ℕ → ℕ → GoalLine
covered_line kind k line = record { kind = kind; line = line; by = Some (test_id k) }

all_covered : (k : ℕ) (fs : List First) → covered_count (covers_from k (funcs_from k fs)) ≡ length (goals_from k fs)
all_covered k [] = refl
all_covered k (f ∷ rest) =
    let more = all_covered (k + 1) rest in
    let two : covered_count (covers_from k (funcs_from k (f ∷ rest))) ≡ 1 + (1 + covered_count (covers_from (k + 1) (funcs_from (k + 1) rest))) =
    one_more (covered_line Entry k (4 * k + 1)) (covered_line Reached k (4 * k + 2) ∷ covers_from (k + 1) (funcs_from (k + 1) rest))
    ∙ ap (λ (n : ℕ). 1 + n) (one_more (covered_line Reached k (4 * k + 2)) (covers_from (k + 1) (funcs_from (k + 1) rest))) in
    omega (arith, more, two)

length-ran_from : (k : ℕ) (fs : List First) → length (ran_from k fs) ≡ length fs
length-ran_from k [] = refl
length-ran_from k (f ∷ rest) = ap suc (length-ran_from (k + 1) rest)

moved : (a b c d : ℕ) → c ≡ a → d ≡ b → a < b → c < d
moved a b c d e f lt = omega (arith, e, f, lt)

-- ---- the suite is minimal

module _ (fs : List First) (distinct : is_distinct (map name_of fs) ≡ true) (return : AllReturn fs) where
  abbrev pub calls : List TestCase
  calls = calls_from 0 (functions_of (module_of fs))

  pub all_taken : goals_taken (module_of fs) 20000 calls ≡ length (goals_from 0 fs)
  all_taken = ap covered_count (goal_lines-calls fs distinct return) ∙ ap (λ gs. covered_count (covers_from 0 gs)) (functions_of-module fs) ∙ all_covered 0 fs

  pub minimal-calls : IsMinimal (module_of fs) 20000 calls
  minimal-calls before case after e =
      let run = run_case (module_of fs) 20000 in
      let ran : ran_from 0 fs ≡ map run before ++ (run case ∷ map run after) =
      sym (file_run-calls fs distinct return) ∙ ap (map run) e ∙ map-append run before (case ∷ after) in
      let place : length before ≡ 0 + length (map run before) = let l = length-map before run in omega (arith, l) in
      let few : length before < 0 + length fs =
      let l : length fs ≡ length (map run before) + suc (length (map run after)) =
      sym (length-ran_from 0 fs) ∙ ap length ran ∙ length-append (map run before) (run case ∷ map run after) in
      let m = length-map before run in
      omega (arith, l, m) in
      let missed : taker (entry_at (length before)) 0 (file_run (module_of fs) 20000 (before ++ after)) ≡ None =
      ap (taker (entry_at (length before)) 0) (map-append run before after)
      ∙ without 0 0 (length before) fs (map run before) (run case) (map run after) ran place in
      let h = goal_line (file_run (module_of fs) 20000 (before ++ after)) in
      let none : is_some (h (entry_at (length before))).by ≡ false = ap (λ (by : Option ℕ). is_some (option_map test_id by)) missed in
      moved _ _ _ _ (ap (λ gs. covered_count (map h gs)) (goals_of-module fs)) all_taken (fewer h (length before) 0 fs (omega arith) few none)

below : (m n : ℕ) → m < n → nat_lt m n ≡ true
below m n lt = grind (arith, nat_tests, lt)

-- the test of the same
none_goes : (taken : List TestCase → ℕ) (all before rest : List TestCase) → all ≡ before ++ rest
    → ((b : List TestCase) (c : TestCase) (a : List TestCase) → all ≡ b ++ (c ∷ a) → taken (b ++ a) < taken all)
    → none_can_go taken before rest ≡ true
none_goes taken all before [] e less = refl
none_goes taken all before (c ∷ a) e less =
    and_true _ _ (below _ _ (moved (taken (before ++ a)) (taken all) _ _ refl (ap taken (sym e)) (less before c a e)))
    (none_goes taken all (before ++ (c ∷ [])) a (e ∙ sym (append_assoc before (c ∷ []) a)) less)

pub none_can_go-calls : (fs : List First) → is_distinct (map name_of fs) ≡ true → AllReturn fs
    → none_can_go (goals_taken (module_of fs) 20000) [] (calls_from 0 (functions_of (module_of fs))) ≡ true
none_can_go-calls fs d r =
    none_goes (goals_taken (module_of fs) 20000) _ [] (calls_from 0 (functions_of (module_of fs))) refl (minimal-calls fs d r)
