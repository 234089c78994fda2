-- A report's text and how it is read, both ways.
use Rattle.std.proofs.Common.{◌≡◌, ℕ, ◌+◌, ◌^◌, ◌≤◌, Bool, true, false, eqb, List, [], ◌∷◌, ◌++◌, length, Option, Some, None, Result, Ok, Err, codes, refl, sym, ap, subst, ◌∙◌, append_assoc, append-nil, arith, not}
use Rattle.std.specs.List.{AllByRecursion}
use Rattle.std.proofs.lemmas.Bool.{eqb-true, and_parts, not-true}
use Rattle.report_model.specs.declared.lines.GoalLine.{GoalLine}
use Rattle.report_model.specs.declared.lines.MutantLine.{MutantLine}
use Rattle.report_model.specs.declared.lines.TestLine.{TestLine}
use Rattle.report_model.specs.declared.report.Report.{Report}
use Rattle.report_model.specs.Fields.{after, is_name}
use Rattle.report_model.specs.Fits.{IsSmall, FitsTest, FitsGoal, FitsMutant, Fits, FitsTotals}
use Rattle.report_model.specs.Laws.{ReadsBack, IsSpelled}
use Rattle.report_model.specs.LineForms.{title_of, module_of, steps_of, cap_of, test_of, goal_of, mutant_of, total_of, minimal_of}
use Rattle.report_model.specs.Lines.{title_line, module_line, steps_line, cap_line, test_line, goal_line, mutant_line, total_line, minimal_line}
use Rattle.report_model.specs.ReportRead.{Lines, with_front, lines_of, Place, ◌>>=◌, read_or, next_in, next, goes_on, series_in, series, ends_in, Head, head_at, end_at, report_at, read_lines, read_report}
use Rattle.report_model.specs.ReportText.{Totals, numbered, end_lines, lines_with, text_of_lines, text_with, current}
use Rattle.report_model.proofs.FieldLaws.{spared}
use Rattle.report_model.proofs.LineLaws.{title_takes, title_again, module_takes, module_again, steps_takes, steps_again, cap_takes, cap_again, test_takes, test_again, goal_takes, goal_again, mutant_takes, mutant_again, total_takes, total_again, minimal_takes, minimal_again}
use Rattle.report_model.proofs.SparedLaws.{test_is_line, goal_is_line, mutant_is_line, total_is_line, minimal_is_line, word_number_is_line, title_is_line, module_is_line}

-- ---- lines

abbrev IsLine : List ℕ → Type 0
IsLine line = spared 10 line ≡ true

abbrev pub lines : List (List ℕ) → List ℕ → Lines
lines whole rest = record { whole = whole; rest = rest }

-- a line and what is after its line feed
pub line_first : (line text : List ℕ) → IsLine line → lines_of (line ++ 10 ∷ text) ≡ lines (line ∷ (lines_of text).whole) (lines_of text).rest
line_first [] text e = refl
line_first (c ∷ line) text e =
    let both = and_parts (not (eqb c 10)) (spared 10 line) e in
    rw (not-true (eqb c 10) both.0, line_first line text both.1) refl

-- a text without a line feed
pub no_line : (text : List ℕ) → IsLine text → lines_of text ≡ lines [] text
no_line [] e = refl
no_line (c ∷ text) e =
    let both = and_parts (not (eqb c 10)) (spared 10 text) e in
    rw (not-true (eqb c 10) both.0, no_line text both.1) refl

pub lines_again : (ls : List (List ℕ)) → AllByRecursion IsLine ls → lines_of (text_of_lines ls) ≡ lines ls []
lines_again [] e = refl
lines_again (line ∷ more) e =
    ap lines_of (append_assoc line (10 ∷ []) (text_of_lines more)) ∙ line_first line (text_of_lines more) e.0
    ∙ ap (λ (x : Lines). lines (line ∷ x.whole) x.rest) (lines_again more e.1)

with_front_text : (c : ℕ) (whole : List (List ℕ)) (rest : List ℕ) → text_of_lines (with_front c whole rest).whole ++ (with_front c whole rest).rest ≡ c ∷ (text_of_lines whole ++ rest)
with_front_text c [] rest = refl
with_front_text c (line ∷ more) rest = refl

-- the lines of a text, and what is after them, are the text
pub lines_text : (text : List ℕ) → text_of_lines (lines_of text).whole ++ (lines_of text).rest ≡ text
lines_text [] = refl
lines_text (c ∷ text) =
    let at : (b : Bool) → eqb c 10 ≡ b → text_of_lines (lines_of (c ∷ text)).whole ++ (lines_of (c ∷ text)).rest ≡ c ∷ text =
    λ b. elim b as (λ (v : Bool). eqb c 10 ≡ v → text_of_lines (lines_of (c ∷ text)).whole ++ (lines_of (c ∷ text)).rest ≡ c ∷ text) [
      | true ↦ λ e. rw e (ap (λ (xs : List ℕ). 10 ∷ xs) (lines_text text) ∙ ap (λ (x : ℕ). x ∷ text) (sym (eqb-true c 10 e)))
      | false ↦ λ e. rw e (with_front_text c (lines_of text).whole (lines_of text).rest ∙ ap (λ (xs : List ℕ). c ∷ xs) (lines_text text))
    ] in
    at (eqb c 10) refl

-- ---- the next line

pub bind_ok : {A B : Type 0} (r : Result A ℕ) (f : A → Result B ℕ) (y : B) → (r >>= f) ≡ Ok y → (x : A) × (r ≡ Ok x) × (f x ≡ Ok y)
bind_ok (Ok x) f y e = (x, refl, e)
bind_ok (Err n) f y e = absurd cc

then_again : {A B : Type 0} (r : Result A ℕ) (f : A → Result B ℕ) (x : A) (z : Result B ℕ) → r ≡ Ok x → f x ≡ z → (r >>= f) ≡ z
then_again r f x z e h = ap (λ p. p >>= f) e ∙ h

abbrev done : {A : Type 0} → A → Result A ℕ
done x = Ok x

same_Ok : {A : Type 0} (x y : A) → done x ≡ done y → x ≡ y
same_Ok x y e = cc

abbrev pub place : ℕ → List (List ℕ) → Place
place number ls = record { number = number; lines = ls }

next_again : {A : Type 0} (form : List ℕ → Option A) (number : ℕ) (line : List ℕ) (more : List (List ℕ)) (x : A) → form line ≡ Some x → next form (place number (line ∷ more)) ≡ Ok (x, place (number + 1) more)
next_again form number line more x e = ap (read_or number more) e

read_or_takes : {A : Type 0} (number : ℕ) (more : List (List ℕ)) (o : Option A) (y : A × Place) → read_or number more o ≡ Ok y → (o ≡ Some y.0) × (more ≡ y.1.lines)
read_or_takes number more (Some x) y e =
    let same = same_Ok (x, place (number + 1) more) y e in
    (ap (λ p. Some p.0) same, ap (λ p. p.1.lines) same)
read_or_takes number more None y e = absurd cc

pub next_takes : {A : Type 0} (form : List ℕ → Option A) (number : ℕ) (ls : List (List ℕ)) (y : A × Place) → next_in form number ls ≡ Ok y → (line : List ℕ) × (ls ≡ line ∷ y.1.lines) × (form line ≡ Some y.0)
next_takes form number [] y e = absurd cc
next_takes form number (line ∷ more) y e =
    let t = read_or_takes number more (form line) y e in
    (line, ap (λ (m : List (List ℕ)). line ∷ m) t.1, t.0)

-- ---- lines that are numbered in order

module _ {A : Type 0} (form : ℕ → List ℕ → Option A) (line : ℕ → A → List ℕ) (Good : A → Type 0) where
  -- the first of these lines is of another form
  abbrev pub Stops : List (List ℕ) → Type 0
  Stops [] = Unit {0}
  Stops (l ∷ more) = (k : ℕ) → form k l ≡ None

  stop : (k number : ℕ) (rest : List (List ℕ)) → Stops rest → series_in form k number rest ≡ ([], place number rest)
  stop k number [] s = refl
  stop k number (l ∷ more) s = rw (s k) refl

  pub series_again : ((k : ℕ) (x : A) → IsSmall k → Good x → form k (line k x) ≡ Some x) → (k number : ℕ) (xs : List A) (rest : List (List ℕ)) → AllByRecursion Good xs → k + length xs ≤ 2 ^ 32 → Stops rest
      → series_in form k number (numbered line k xs ++ rest) ≡ (xs, place (number + length xs) rest)
  series_again again k number [] rest good few s = stop k number rest s ∙ ap (λ n. ([], place n rest)) (omega arith)
  series_again again k number (x ∷ xs) rest good few s =
      let first : form k (line k x) ≡ Some x = again k x (omega arith) good.0 in
      let later = series_again again (k + 1) (number + 1) xs rest good.1 (omega arith) s in
      ap (λ o. goes_on o (place number (line k x ∷ (numbered line (k + 1) xs ++ rest))) (series_in form (k + 1) (number + 1) (numbered line (k + 1) xs ++ rest))) first
      ∙ ap (λ (p : List A × Place). (x ∷ p.0, p.1)) later
      ∙ ap (λ n. (x ∷ xs, place n rest)) (omega arith)

  pub numbered_lines : ((k : ℕ) (x : A) → IsSmall k → Good x → IsLine (line k x)) → (k : ℕ) (xs : List A) (rest : List (List ℕ)) → AllByRecursion Good xs → k + length xs ≤ 2 ^ 32 → AllByRecursion IsLine rest
      → AllByRecursion IsLine (numbered line k xs ++ rest)
  numbered_lines is_line k [] rest good few r = r
  numbered_lines is_line k (x ∷ xs) rest good few r = (is_line k x (omega arith) good.0, numbered_lines is_line (k + 1) xs rest good.1 (omega arith) r)

  -- what a series takes from lines
  abbrev pub Taken : ℕ → List (List ℕ) → List A × Place → Type 0
  Taken k ls s = (ls ≡ numbered line k s.0 ++ s.1.lines) × AllByRecursion Good s.0 × (k ≤ 2 ^ 32 → k + length s.0 ≤ 2 ^ 32)

  pub series_takes : ((k : ℕ) (l : List ℕ) (x : A) → form k l ≡ Some x → (l ≡ line k x) × IsSmall k × Good x) → (k number : ℕ) (ls : List (List ℕ)) → Taken k ls (series_in form k number ls)
  series_takes takes k number [] = (refl, tt, λ h. omega arith)
  series_takes takes k number (l ∷ more) =
      let later = series_in form (k + 1) (number + 1) more in
      let rest = series_takes takes (k + 1) (number + 1) more in
      let at : (o : Option A) → form k l ≡ o → Taken k (l ∷ more) (goes_on o (place number (l ∷ more)) later) =
      λ o. elim o as (λ (v : Option A). form k l ≡ v → Taken k (l ∷ more) (goes_on v (place number (l ∷ more)) later)) [
        | None ↦ λ e. (refl, tt, λ h. omega arith)
        | Some x ↦ λ e.
            let t = takes k l x e in
            (ap (λ (first : List ℕ). first ∷ more) t.0 ∙ ap (λ (m : List (List ℕ)). line k x ∷ m) rest.0, (t.2, rest.1), λ h. let few = rest.2 (omega (arith, t.1)) in omega arith)
      ] in
      at (form k l) refl

-- ---- the head and the end

pub head_again : (version : ℕ) (name : List ℕ) (steps cap : ℕ) (rest : List (List ℕ)) → is_name name ≡ true → IsSmall steps → IsSmall cap
    → head_at version (place 1 (title_line version ∷ module_line name ∷ steps_line steps ∷ cap_line cap ∷ rest)) ≡ Ok (record { name = name; steps = steps; cap = cap }, place 5 rest)
unfolding head_at
head_again version name steps cap rest good small_steps small_cap = rw (title_again version, module_again name good, steps_again steps small_steps, cap_again cap small_cap) refl

-- what a head takes from lines
abbrev pub HeadTaken : ℕ → List (List ℕ) → Head × Place → Type 0
HeadTaken version ls y =
    (ls ≡ title_line version ∷ module_line y.0.name ∷ steps_line y.0.steps ∷ cap_line y.0.cap ∷ y.1.lines) × (is_name y.0.name ≡ true) × IsSmall y.0.steps × IsSmall y.0.cap

pub head_takes : (version number : ℕ) (ls : List (List ℕ)) (y : Head × Place) → head_at version (place number ls) ≡ Ok y → HeadTaken version ls y
unfolding head_at
head_takes version number ls y e =
    let a = bind_ok (next (title_of version) (place number ls)) (λ title. next module_of title.1 >>= λ name. next steps_of name.1 >>= λ steps. next cap_of steps.1 >>= λ cap. Ok (record { name = name.0; steps = steps.0; cap = cap.0 }, cap.1)) y e in
    let b = bind_ok (next module_of a.0.1) (λ name. next steps_of name.1 >>= λ steps. next cap_of steps.1 >>= λ cap. Ok (record { name = name.0; steps = steps.0; cap = cap.0 }, cap.1)) y a.2 in
    let c = bind_ok (next steps_of b.0.1) (λ steps. next cap_of steps.1 >>= λ cap. Ok (record { name = b.0.0; steps = steps.0; cap = cap.0 }, cap.1)) y b.2 in
    let d = bind_ok (next cap_of c.0.1) (λ cap. Ok (record { name = b.0.0; steps = c.0.0; cap = cap.0 }, cap.1)) y c.2 in
    let made : Head × Place = (record { name = b.0.0; steps = c.0.0; cap = d.0.0 }, d.0.1) in
    let a' = next_takes (title_of version) number ls a.0 a.1 in
    let b' = next_takes module_of a.0.1.number a.0.1.lines b.0 b.1 in
    let c' = next_takes steps_of b.0.1.number b.0.1.lines c.0 c.1 in
    let d' = next_takes cap_of c.0.1.number c.0.1.lines d.0 d.1 in
    let name = module_takes b'.0 b.0.0 b'.2 in
    let steps = steps_takes c'.0 c.0.0 c'.2 in
    let cap = cap_takes d'.0 d.0.0 d'.2 in
    let title : a'.0 ≡ title_line version = title_takes version a'.0 a.0.0 a'.2 in
    subst (HeadTaken version ls) (same_Ok made y d.2) (
      a'.1 ∙ ap (λ (x : List ℕ). x ∷ a.0.1.lines) title
          ∙ ap (λ (m : List (List ℕ)). title_line version ∷ m) (b'.1 ∙ ap (λ (x : List ℕ). x ∷ b.0.1.lines) name.0
          ∙ ap (λ (m : List (List ℕ)). module_line b.0.0 ∷ m) (c'.1 ∙ ap (λ (x : List ℕ). x ∷ c.0.1.lines) steps.0
          ∙ ap (λ (m : List (List ℕ)). steps_line c.0.0 ∷ m) (d'.1 ∙ ap (λ (x : List ℕ). x ∷ d.0.1.lines) cap.0))),
      name.1,
      steps.1,
      cap.1,
    )

end_again : (number : ℕ) (totals : Totals) (minimal : Bool) → FitsTotals totals → end_at [] (place number (end_lines totals minimal)) ≡ Ok minimal
unfolding end_at
end_again number totals minimal fits =
    rw (total_again (codes "goals") totals.covered totals.goals refl fits.covered fits.goals, total_again (codes "kills") totals.killed totals.mutants refl fits.killed fits.mutants, minimal_again minimal) refl

ends_takes : (rest : List ℕ) (number : ℕ) (ls : List (List ℕ)) (n : ℕ) → ends_in rest number ls ≡ Ok n → (rest ≡ []) × (ls ≡ [])
ends_takes [] number [] n e = (refl, refl)
ends_takes [] number (l ∷ ls) n e = absurd cc
ends_takes (c ∷ rest) number [] n e = absurd cc
ends_takes (c ∷ rest) number (l ∷ ls) n e = absurd cc

-- what an end takes from lines, after which nothing is left
abbrev EndTaken : List ℕ → List (List ℕ) → Bool → Type 0
EndTaken rest ls minimal = (totals : Totals) × FitsTotals totals × (ls ≡ end_lines totals minimal) × (rest ≡ [])

end_takes : (rest : List ℕ) (number : ℕ) (ls : List (List ℕ)) (minimal : Bool) → end_at rest (place number ls) ≡ Ok minimal → EndTaken rest ls minimal
unfolding end_at
end_takes rest number ls minimal e =
    let a = bind_ok (next (total_of (codes "goals")) (place number ls)) (λ taken. next (total_of (codes "kills")) taken.1 >>= λ killed. next minimal_of killed.1 >>= λ m. ends_in rest m.1.number m.1.lines >>= λ all. Ok m.0) minimal e in
    let b = bind_ok (next (total_of (codes "kills")) a.0.1) (λ killed. next minimal_of killed.1 >>= λ m. ends_in rest m.1.number m.1.lines >>= λ all. Ok m.0) minimal a.2 in
    let c = bind_ok (next minimal_of b.0.1) (λ m. ends_in rest m.1.number m.1.lines >>= λ all. Ok m.0) minimal b.2 in
    let d = bind_ok (ends_in rest c.0.1.number c.0.1.lines) (λ all. Ok c.0.0) minimal c.2 in
    let a' = next_takes (total_of (codes "goals")) number ls a.0 a.1 in
    let b' = next_takes (total_of (codes "kills")) a.0.1.number a.0.1.lines b.0 b.1 in
    let c' = next_takes minimal_of b.0.1.number b.0.1.lines c.0 c.1 in
    let nothing = ends_takes rest c.0.1.number c.0.1.lines d.0 d.1 in
    let goals = total_takes (codes "goals") a'.0 a.0.0 a'.2 in
    let kills = total_takes (codes "kills") b'.0 b.0.0 b'.2 in
    let last = minimal_takes c'.0 c.0.0 c'.2 in
    let totals : Totals = record { covered = a.0.0.0; goals = a.0.0.1; killed = b.0.0.0; mutants = b.0.0.1 } in
    let taken : EndTaken rest ls c.0.0 = (
      totals,
      record { covered = goals.1; goals = goals.2; killed = kills.1; mutants = kills.2 },
      a'.1 ∙ ap (λ (x : List ℕ). x ∷ a.0.1.lines) goals.0
          ∙ ap (λ (m : List (List ℕ)). total_line (codes "goals") totals.covered totals.goals ∷ m) (b'.1 ∙ ap (λ (x : List ℕ). x ∷ b.0.1.lines) kills.0
          ∙ ap (λ (m : List (List ℕ)). total_line (codes "kills") totals.killed totals.mutants ∷ m) (c'.1 ∙ ap (λ (x : List ℕ). x ∷ c.0.1.lines) last ∙ ap (λ (m : List (List ℕ)). minimal_line c.0.0 ∷ m) nothing.1)),
      nothing.0,
    ) in
    subst (λ (m : Bool). EndTaken rest ls m) (same_Ok c.0.0 minimal d.2) taken

-- ---- a whole report

-- lines of another kind begin with another word
test_not_goal : (k : ℕ) (j : ℕ) (goal : GoalLine) → test_of k (goal_line j goal) ≡ None
unfolding test_of after
test_not_goal k j goal = refl

test_not_mutant : (k : ℕ) (j : ℕ) (mutant : MutantLine) → test_of k (mutant_line j mutant) ≡ None
unfolding test_of after
test_not_mutant k j mutant = refl

test_not_total : (k some all : ℕ) → test_of k (total_line (codes "goals") some all) ≡ None
unfolding test_of after
test_not_total k some all = refl

goal_not_mutant : (k : ℕ) (j : ℕ) (mutant : MutantLine) → goal_of k (mutant_line j mutant) ≡ None
unfolding goal_of after
goal_not_mutant k j mutant = refl

goal_not_total : (k some all : ℕ) → goal_of k (total_line (codes "goals") some all) ≡ None
unfolding goal_of after
goal_not_total k some all = refl

mutant_not_total : (k some all : ℕ) → mutant_of k (total_line (codes "goals") some all) ≡ None
unfolding mutant_of after
mutant_not_total k some all = refl

abbrev mutants_end : List MutantLine → Totals → Bool → List (List ℕ)
mutants_end mutants totals minimal = numbered mutant_line 0 mutants ++ end_lines totals minimal

abbrev goals_end : List GoalLine → List MutantLine → Totals → Bool → List (List ℕ)
goals_end goals mutants totals minimal = numbered goal_line 0 goals ++ mutants_end mutants totals minimal

mutants_stop_tests : (mutants : List MutantLine) (totals : Totals) (minimal : Bool) → Stops test_of test_line FitsTest (mutants_end mutants totals minimal)
mutants_stop_tests [] totals minimal = λ k. test_not_total k totals.covered totals.goals
mutants_stop_tests (m ∷ ms) totals minimal = λ k. test_not_mutant k 0 m

goals_stop_tests : (goals : List GoalLine) (mutants : List MutantLine) (totals : Totals) (minimal : Bool) → Stops test_of test_line FitsTest (goals_end goals mutants totals minimal)
goals_stop_tests [] mutants totals minimal = mutants_stop_tests mutants totals minimal
goals_stop_tests (g ∷ gs) mutants totals minimal = λ k. test_not_goal k 0 g

mutants_stop_goals : (mutants : List MutantLine) (totals : Totals) (minimal : Bool) → Stops goal_of goal_line FitsGoal (mutants_end mutants totals minimal)
mutants_stop_goals [] totals minimal = λ k. goal_not_total k totals.covered totals.goals
mutants_stop_goals (m ∷ ms) totals minimal = λ k. goal_not_mutant k 0 m

abbrev pub with_head : Head → List TestLine → List GoalLine → List MutantLine → Bool → Report
with_head head tests goals mutants minimal =
    record { «module» = head.name; steps = head.steps; cap = head.cap; tests = tests; goals = goals; mutants = mutants; minimal = minimal }

body_again : (head : Head) (number : ℕ) (tests : List TestLine) (goals : List GoalLine) (mutants : List MutantLine) (totals : Totals) (minimal : Bool)
    → AllByRecursion FitsTest tests → AllByRecursion FitsGoal goals → AllByRecursion FitsMutant mutants → length tests ≤ 2 ^ 32 → length goals ≤ 2 ^ 32 → length mutants ≤ 2 ^ 32 → FitsTotals totals
    → report_at [] head (place number (numbered test_line 0 tests ++ goals_end goals mutants totals minimal)) ≡ Ok (with_head head tests goals mutants minimal)
unfolding report_at
body_again head number tests goals mutants totals minimal good_tests good_goals good_mutants few_tests few_goals few_mutants fits =
    let a = series_again test_of test_line FitsTest test_again 0 number tests (goals_end goals mutants totals minimal) good_tests (omega arith) (goals_stop_tests goals mutants totals minimal) in
    let b = series_again goal_of goal_line FitsGoal goal_again 0 (number + length tests) goals (mutants_end mutants totals minimal) good_goals (omega arith) (mutants_stop_goals mutants totals minimal) in
    let c = series_again mutant_of mutant_line FitsMutant mutant_again 0 (number + length tests + length goals) mutants (end_lines totals minimal) good_mutants (omega arith) (λ k. mutant_not_total k totals.covered totals.goals) in
    rw (a, b, c, end_again (number + length tests + length goals + length mutants) totals minimal fits) refl

all_lines : (totals : Totals) (report : Report) → FitsTotals totals → Fits report → AllByRecursion IsLine (lines_with current totals report)
all_lines totals report fits_totals fits =
    let ending : AllByRecursion IsLine (end_lines totals report.minimal) =
    (total_is_line (codes "goals") totals.covered totals.goals refl fits_totals.covered fits_totals.goals, (total_is_line (codes "kills") totals.killed totals.mutants refl fits_totals.killed fits_totals.mutants, (minimal_is_line report.minimal, tt))) in
    let mutants = numbered_lines mutant_of mutant_line FitsMutant mutant_is_line 0 report.mutants (end_lines totals report.minimal) fits.mutants (omega (arith, fits.few_mutants)) ending in
    let goals = numbered_lines goal_of goal_line FitsGoal goal_is_line 0 report.goals (mutants_end report.mutants totals report.minimal) fits.goals (omega (arith, fits.few_goals)) mutants in
    let tests = numbered_lines test_of test_line FitsTest test_is_line 0 report.tests (goals_end report.goals report.mutants totals report.minimal) fits.tests (omega (arith, fits.few_tests)) goals in
    (title_is_line current (omega arith), (module_is_line report.«module» fits.name, (word_number_is_line (codes "steps") report.steps refl fits.steps, (word_number_is_line (codes "mutants") report.cap refl fits.cap, tests))))

pub whole_again : (totals : Totals) (report : Report) → FitsTotals totals → Fits report → read_lines current (lines (lines_with current totals report) []) ≡ Ok report
unfolding read_lines
whole_again totals report fits_totals fits =
    let body = numbered test_line 0 report.tests ++ goals_end report.goals report.mutants totals report.minimal in
    let head : Head = record { name = report.«module»; steps = report.steps; cap = report.cap } in
    then_again (head_at current (place 1 (lines_with current totals report))) (λ h. report_at [] h.0 h.1) (head, place 5 body) (Ok report) (head_again current report.«module» report.steps report.cap body fits.name fits.steps fits.cap)
    (body_again head 5 report.tests report.goals report.mutants totals report.minimal fits.tests fits.goals fits.mutants fits.few_tests fits.few_goals fits.few_mutants fits_totals)

pub report_again : ReadsBack
unfolding read_report
report_again totals report fits_totals fits =
    ap (read_lines current) (lines_again (lines_with current totals report) (all_lines totals report fits_totals fits)) ∙ whole_again totals report fits_totals fits

-- what a report takes from lines, after which nothing is left
abbrev ReportTaken : List ℕ → List (List ℕ) → Report → Type 0
ReportTaken rest whole report = Fits report × ((totals : Totals) × FitsTotals totals × (whole ≡ lines_with current totals report) × (rest ≡ []))

body_takes : (rest : List ℕ) (whole : List (List ℕ)) (head : Head) (number : ℕ) (ls : List (List ℕ)) (report : Report) → HeadTaken current whole (head, place number ls) → report_at rest head (place number ls) ≡ Ok report → ReportTaken rest whole report
unfolding report_at
body_takes rest whole head number ls report taken e =
    let tests = series test_of (place number ls) in
    let goals = series goal_of tests.1 in
    let mutants = series mutant_of goals.1 in
    let m = bind_ok (end_at rest mutants.1) (λ minimal. Ok (with_head head tests.0 goals.0 mutants.0 minimal)) report e in
    let t = end_takes rest mutants.1.number mutants.1.lines m.0 m.1 in
    let a = series_takes test_of test_line FitsTest test_takes 0 number ls in
    let b = series_takes goal_of goal_line FitsGoal goal_takes 0 tests.1.number tests.1.lines in
    let c = series_takes mutant_of mutant_line FitsMutant mutant_takes 0 goals.1.number goals.1.lines in
    let few_tests = a.2 (omega arith) in
    let few_goals = b.2 (omega arith) in
    let few_mutants = c.2 (omega arith) in
    let made : Report = with_head head tests.0 goals.0 mutants.0 m.0 in
    let fits : Fits made = record { name = taken.1; steps = taken.2; cap = taken.3; tests = a.1; goals = b.1; mutants = c.1; few_tests = omega (arith, few_tests); few_goals = omega (arith, few_goals); few_mutants = omega (arith, few_mutants) } in
    let same : whole ≡ lines_with current t.0 made =
    taken.0 ∙ ap (λ (x : List (List ℕ)). title_line current ∷ module_line head.name ∷ steps_line head.steps ∷ cap_line head.cap ∷ x)
    (a.0 ∙ ap (λ (x : List (List ℕ)). numbered test_line 0 tests.0 ++ x) (b.0 ∙ ap (λ (x : List (List ℕ)). numbered goal_line 0 goals.0 ++ x) (c.0 ∙ ap (λ (x : List (List ℕ)). numbered mutant_line 0 mutants.0 ++ x) t.2))) in
    subst (ReportTaken rest whole) (same_Ok made report m.2) (fits, (t.0, t.1, same, t.3))

pub report_takes : IsSpelled
unfolding read_report read_lines
report_takes text report e =
    let whole = (lines_of text).whole in
    let rest = (lines_of text).rest in
    let h = bind_ok (head_at current (place 1 whole)) (λ head. report_at rest head.0 head.1) report e in
    let taken = head_takes current 1 whole h.0 h.1 in
    let r = body_takes rest whole h.0.0 h.0.1.number h.0.1.lines report taken h.2 in
    let spelled : text ≡ text_with current r.1.0 report =
    sym (lines_text text) ∙ ap (λ (x : List ℕ). text_of_lines whole ++ x) r.1.3 ∙ append-nil (text_of_lines whole) ∙ ap text_of_lines r.1.2 in
    (r.0, (r.1.0, r.1.1, spelled))
