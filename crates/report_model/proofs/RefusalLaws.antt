-- The line that is refused is the first with which no report's text goes on.
use Rattle.std.proofs.Common.{◌≡◌, ℕ, ◌+◌, ◌<◌, ◌≤◌, ◌^◌, Bool, true, List, [], ◌∷◌, ◌++◌, length, Option, Some, None, Result, Ok, Err, codes, refl, sym, ap, ◌∙◌, append_assoc, append-nil, length-append, arith, zero-add, subst, suc, inl, inr, ◌⊎◌}
use Rattle.std.specs.List.{AllByRecursion}
use Rattle.report_model.specs.declared.lines.GoalLine.{GoalLine}
use Rattle.report_model.specs.declared.lines.MutantLine.{MutantLine}
use Rattle.report_model.specs.declared.lines.TestLine.{TestLine}
use Rattle.report_model.specs.declared.report.Report.{Report}
use Rattle.report_model.specs.Fields.{is_name}
use Rattle.report_model.specs.Fits.{IsSmall, FitsTest, FitsGoal, FitsMutant, Fits, FitsTotals}
use Rattle.report_model.specs.Laws.{Begins, IsStuck, RefusesFirst}
use Rattle.report_model.specs.LineForms.{title_of, module_of, steps_of, cap_of, test_of, goal_of, mutant_of, total_of, minimal_of}
use Rattle.report_model.specs.Lines.{title_line, module_line, steps_line, cap_line, test_line, goal_line, mutant_line, total_line, minimal_line}
use Rattle.report_model.specs.ReportRead.{Lines, lines_of, Place, ◌>>=◌, read_or, next_in, next, goes_on, series_in, series, ends_in, Head, head_at, end_at, report_at, read_lines, read_report}
use Rattle.report_model.specs.ReportText.{Totals, numbered, end_lines, lines_with, current}
use Rattle.report_model.proofs.LineLaws.{title_takes, title_again, module_takes, module_again, steps_takes, steps_again, cap_takes, cap_again, test_takes, test_again, goal_takes, goal_again, mutant_takes, mutant_again, total_takes, total_again, minimal_takes, minimal_again}
use Rattle.report_model.proofs.ReadLaws.{lines, place, bind_ok, next_takes, series_takes, with_head, HeadTaken, head_takes, head_again, whole_again}

bind_err : {A B : Type 0} (r : Result A ℕ) (f : A → Result B ℕ) (n : ℕ) → (r >>= f) ≡ Err n → (r ≡ Err n) ⊎ ((x : A) × (r ≡ Ok x) × (f x ≡ Err n))
bind_err (Ok x) f n e = inr (x, refl, e)
bind_err (Err k) f n e = let same : k ≡ n = cc in inl (ap (λ j. Err j) same)

-- ---- where reading ends

abbrev Dies : List (List ℕ) → List ℕ → Type 0
Dies front bad = (more : List (List ℕ)) → (n : ℕ) × (read_lines current (lines (front ++ (bad ∷ more)) []) ≡ Err n)

stuck : (front : List (List ℕ)) (bad : List ℕ) → Dies front bad → Begins (front ++ bad ∷ []) → ⊥
stuck front bad dies begins =
    let report = begins.1 in
    let more = begins.2 in
    let dead = dies more in
    let same : lines_with current begins.0 report ≡ front ++ (bad ∷ more) = begins.5 ∙ append_assoc front (bad ∷ []) more in
    let ok : read_lines current (lines (front ++ (bad ∷ more)) []) ≡ Ok report = ap (λ (ls : List (List ℕ)). read_lines current (lines ls [])) (sym same) ∙ whole_again begins.0 report begins.3 begins.4 in
    absurd cc

abbrev IsFirst : List (List ℕ) → ℕ → Type 0
IsFirst whole line = (front : List (List ℕ)) × (more : List (List ℕ)) × (whole ≡ front ++ more) × (line ≡ length front + 1) × Begins front × IsStuck front more

read_or_err : {A : Type 0} (number : ℕ) (more : List (List ℕ)) (o : Option A) (n : ℕ) → read_or number more o ≡ Err n → (o ≡ None) × (number ≡ n)
read_or_err number more (Some x) n e = absurd cc
read_or_err number more None n e = (refl, cc)

refuse : {A : Type 0} (whole front ls : List (List ℕ)) (number n : ℕ) (form : List ℕ → Option A) → whole ≡ front ++ ls → number ≡ length front + 1 → Begins front
    → ((bad : List ℕ) (more : List (List ℕ)) → ls ≡ bad ∷ more → form bad ≡ None → Dies front bad) → next_in form number ls ≡ Err n → IsFirst whole n
refuse whole front [] number n form e k begins dies h = (front, [], e, (let same : number ≡ n = cc in sym same ∙ k), begins, tt)
refuse whole front (bad ∷ more) number n form e k begins dies h =
    let r = read_or_err number more (form bad) n h in
    (front, bad ∷ more, e, sym r.1 ∙ k, begins, stuck front bad (dies bad more refl r.0))

read_or_number : {A : Type 0} (number : ℕ) (more : List (List ℕ)) (o : Option A) (y : A × Place) → read_or number more o ≡ Ok y → y.1.number ≡ number + 1
read_or_number number more (Some x) y e = let same : (x, place (number + 1) more) ≡ y = cc in ap (λ (p : _ × Place). p.1.number) (sym same)
read_or_number number more None y e = absurd cc

next_number : {A : Type 0} (form : List ℕ → Option A) (number : ℕ) (ls : List (List ℕ)) (y : A × Place) → next_in form number ls ≡ Ok y → y.1.number ≡ number + 1
next_number form number [] y e = absurd cc
next_number form number (line ∷ more) y e = read_or_number number more (form line) y e

-- ---- fronts of a head

zero : Totals
zero = record { covered = 0; goals = 0; killed = 0; mutants = 0 }

small : IsSmall 0
small = omega arith

zero_fits : FitsTotals zero
unfolding zero
zero_fits = record { covered = small; goals = small; killed = small; mutants = small }

-- a report without tests, goals and mutants
abbrev blank : List ℕ → ℕ → ℕ → Report
blank name steps cap = with_head (record { name = name; steps = steps; cap = cap }) [] [] [] true

blank_fits : (name : List ℕ) (steps cap : ℕ) → is_name name ≡ true → IsSmall steps → IsSmall cap → Fits (blank name steps cap)
blank_fits name steps cap good s c =
    record { name = good; steps = s; cap = c; tests = tt; goals = tt; mutants = tt; few_tests = omega arith; few_goals = omega arith; few_mutants = omega arith }

abbrev m : List ℕ
m = codes "m"

begins_0 : Begins []
begins_0 = (zero, blank m 0 0, lines_with current zero (blank m 0 0), zero_fits, blank_fits m 0 0 refl small small, refl)

abbrev head_1 : List (List ℕ)
head_1 = title_line current ∷ []

begins_1 : Begins head_1
begins_1 = (zero, blank m 0 0, module_line m ∷ steps_line 0 ∷ cap_line 0 ∷ end_lines zero true, zero_fits, blank_fits m 0 0 refl small small, refl)

abbrev head_2 : List ℕ → List (List ℕ)
head_2 name = title_line current ∷ module_line name ∷ []

begins_2 : (name : List ℕ) → is_name name ≡ true → Begins (head_2 name)
begins_2 name good = (zero, blank name 0 0, steps_line 0 ∷ cap_line 0 ∷ end_lines zero true, zero_fits, blank_fits name 0 0 good small small, refl)

abbrev head_3 : List ℕ → ℕ → List (List ℕ)
head_3 name steps = title_line current ∷ module_line name ∷ steps_line steps ∷ []

begins_3 : (name : List ℕ) (steps : ℕ) → is_name name ≡ true → IsSmall steps → Begins (head_3 name steps)
begins_3 name steps good s = (zero, blank name steps 0, cap_line 0 ∷ end_lines zero true, zero_fits, blank_fits name steps 0 good s small, refl)

dies_0 : (bad : List ℕ) → title_of current bad ≡ None → Dies [] bad
unfolding read_lines head_at
dies_0 bad e more = (1, rw e refl)

dies_1 : (bad : List ℕ) → module_of bad ≡ None → Dies head_1 bad
unfolding read_lines head_at
dies_1 bad e more = (2, rw (title_again current, e) refl)

dies_2 : (name bad : List ℕ) → is_name name ≡ true → steps_of bad ≡ None → Dies (head_2 name) bad
unfolding read_lines head_at
dies_2 name bad good e more = (3, rw (title_again current, module_again name good, e) refl)

dies_3 : (name : List ℕ) (steps : ℕ) (bad : List ℕ) → is_name name ≡ true → IsSmall steps → cap_of bad ≡ None → Dies (head_3 name steps) bad
unfolding read_lines head_at
dies_3 name steps bad good s e more = (4, rw (title_again current, module_again name good, steps_again steps s, e) refl)

head_refused : (whole : List (List ℕ)) (n : ℕ) → head_at current (place 1 whole) ≡ Err n → IsFirst whole n
unfolding head_at
head_refused whole n e =
    let rest1 : List ℕ × Place → Result (Head × Place) ℕ = λ name. next steps_of name.1 >>= λ steps. next cap_of steps.1 >>= λ cap. Ok (record { name = name.0; steps = steps.0; cap = cap.0 }, cap.1) in
    elim (bind_err (next (title_of current) (place 1 whole)) (λ title. next module_of title.1 >>= rest1) n e) [
      | inl h ↦ refuse whole [] whole 1 n (title_of current) refl refl begins_0 (λ bad more s f. dies_0 bad f) h
      | inr a ↦
          let a' = next_takes (title_of current) 1 whole a.0 a.1 in
          let one = next_number (title_of current) 1 whole a.0 a.1 in
          let title : whole ≡ head_1 ++ a.0.1.lines = a'.1 ∙ ap (λ (x : List ℕ). x ∷ a.0.1.lines) (title_takes current a'.0 a.0.0 a'.2) in
          elim (bind_err (next module_of a.0.1) rest1 n a.2) [
            | inl h ↦ refuse whole head_1 a.0.1.lines a.0.1.number n module_of title one begins_1 (λ bad more s f. dies_1 bad f) h
            | inr b ↦
                let b' = next_takes module_of a.0.1.number a.0.1.lines b.0 b.1 in
                let two = next_number module_of a.0.1.number a.0.1.lines b.0 b.1 in
                let name = module_takes b'.0 b.0.0 b'.2 in
                let to_name : whole ≡ head_2 b.0.0 ++ b.0.1.lines = title ∙ ap (λ (x : List (List ℕ)). title_line current ∷ x) (b'.1 ∙ ap (λ (x : List ℕ). x ∷ b.0.1.lines) name.0) in
                elim (bind_err (next steps_of b.0.1) (λ steps. next cap_of steps.1 >>= λ cap. Ok (record { name = b.0.0; steps = steps.0; cap = cap.0 }, cap.1)) n b.2) [
                  | inl h ↦ refuse whole (head_2 b.0.0) b.0.1.lines b.0.1.number n steps_of to_name (omega (arith, one, two)) (begins_2 b.0.0 name.1) (λ bad more s f. dies_2 b.0.0 bad name.1 f) h
                  | inr c ↦
                      let c' = next_takes steps_of b.0.1.number b.0.1.lines c.0 c.1 in
                      let three = next_number steps_of b.0.1.number b.0.1.lines c.0 c.1 in
                      let steps = steps_takes c'.0 c.0.0 c'.2 in
                      let to_steps : whole ≡ head_3 b.0.0 c.0.0 ++ c.0.1.lines =
                      to_name ∙ ap (λ (x : List (List ℕ)). title_line current ∷ module_line b.0.0 ∷ x) (c'.1 ∙ ap (λ (x : List ℕ). x ∷ c.0.1.lines) steps.0) in
                      elim (bind_err (next cap_of c.0.1) (λ cap. Ok (record { name = b.0.0; steps = c.0.0; cap = cap.0 }, cap.1)) n c.2) [
                        | inl h ↦ refuse whole (head_3 b.0.0 c.0.0) c.0.1.lines c.0.1.number n cap_of to_steps (omega (arith, one, two, three)) (begins_3 b.0.0 c.0.0 name.1 steps.1) (λ bad more s f. dies_3 b.0.0 c.0.0 bad name.1 steps.1 f) h
                        | inr d ↦ absurd cc
                      ]
                ]
          ]
    ]

-- ---- where a series stops

module _ {A : Type 0} (form : ℕ → List ℕ → Option A) where
  -- the first of these lines is not that of number k
  abbrev StopsAt : ℕ → List (List ℕ) → Type 0
  StopsAt k [] = Unit {0}
  StopsAt k (l ∷ more) = form k l ≡ None

  abbrev Stopped : ℕ → ℕ → List A × Place → Type 0
  Stopped k number s = StopsAt (k + length s.0) s.1.lines × (s.1.number ≡ number + length s.0)

  series_stopped : (k number : ℕ) (ls : List (List ℕ)) → Stopped k number (series_in form k number ls)
  series_stopped k number [] = (tt, omega arith)
  series_stopped k number (l ∷ more) =
      let later = series_in form (k + 1) (number + 1) more in
      let rest = series_stopped (k + 1) (number + 1) more in
      let at : (o : Option A) → form k l ≡ o → Stopped k number (goes_on o (place number (l ∷ more)) later) =
      λ o. elim o as (λ (v : Option A). form k l ≡ v → Stopped k number (goes_on v (place number (l ∷ more)) later)) [
        | None ↦ λ e. (let same : k ≡ k + 0 = omega arith in ap (λ j. form j l) (sym same) ∙ e, omega arith)
        | Some x ↦ λ e. (let same : k + 1 + length later.0 ≡ k + length (x ∷ later.0) = omega arith in subst (λ j. StopsAt j later.1.lines) same rest.0, (let n = rest.1 in omega arith))
      ] in
      at (form k l) refl

  -- only the first line counts
  first_same : (k : ℕ) (X Y E : List (List ℕ)) (bad : List ℕ) (old new : List (List ℕ)) → StopsAt k (X ++ (Y ++ (E ++ (bad ∷ old)))) → StopsAt k (X ++ (Y ++ (E ++ (bad ∷ new))))
  first_same k [] [] [] bad old new s = s
  first_same k [] [] (e ∷ E) bad old new s = s
  first_same k [] (y ∷ Y) E bad old new s = s
  first_same k (x ∷ X) Y E bad old new s = s

  module _ (line : ℕ → A → List ℕ) (Good : A → Type 0) where
    stop_at : (k number : ℕ) (rest : List (List ℕ)) → StopsAt k rest → series_in form k number rest ≡ ([], place number rest)
    stop_at k number [] s = refl
    stop_at k number (l ∷ more) s = rw s refl

    series_again_at : ((k : ℕ) (x : A) → IsSmall k → Good x → form k (line k x) ≡ Some x) → (k number : ℕ) (xs : List A) (rest : List (List ℕ)) → AllByRecursion Good xs → k + length xs ≤ 2 ^ 32
        → StopsAt (k + length xs) rest → series_in form k number (numbered line k xs ++ rest) ≡ (xs, place (number + length xs) rest)
    series_again_at again k number [] rest good few s =
        let same : k + 0 ≡ k = omega arith in
        stop_at k number rest (subst (λ j. StopsAt j rest) same s) ∙ ap (λ n. ([], place n rest)) (omega arith)
    series_again_at again k number (x ∷ xs) rest good few s =
        let first : form k (line k x) ≡ Some x = again k x (omega arith) good.0 in
        let same : k + length (x ∷ xs) ≡ k + 1 + length xs = omega arith in
        let later = series_again_at again (k + 1) (number + 1) xs rest good.1 (omega arith) (subst (λ j. StopsAt j rest) same s) in
        ap (λ o. goes_on o (place number (line k x ∷ (numbered line (k + 1) xs ++ rest))) (series_in form (k + 1) (number + 1) (numbered line (k + 1) xs ++ rest))) first
        ∙ ap (λ (p : List A × Place). (x ∷ p.0, p.1)) later
        ∙ ap (λ n. (x ∷ xs, place n rest)) (omega arith)

length-numbered : {A : Type 0} (line : ℕ → A → List ℕ) (k : ℕ) (xs : List A) → length (numbered line k xs) ≡ length xs
length-numbered line k [] = refl
length-numbered line k (x ∷ xs) = ap suc (length-numbered line (k + 1) xs)

-- ---- fronts of a report after its head

module _ (head : Head) (tests : List TestLine) (goals : List GoalLine) (mutants : List MutantLine) where
  abbrev body : List (List ℕ) → List (List ℕ)
  body E = numbered test_line 0 tests ++ (numbered goal_line 0 goals ++ (numbered mutant_line 0 mutants ++ E))

  abbrev front : List (List ℕ) → List (List ℕ)
  front E = title_line current ∷ module_line head.name ∷ steps_line head.steps ∷ cap_line head.cap ∷ body E

  record IsGood : Type 0 where
    name : is_name head.name ≡ true
    steps : IsSmall head.steps
    cap : IsSmall head.cap
    tests_fit : AllByRecursion FitsTest tests
    goals_fit : AllByRecursion FitsGoal goals
    mutants_fit : AllByRecursion FitsMutant mutants
    few_tests : length tests ≤ 2 ^ 32
    few_goals : length goals ≤ 2 ^ 32
    few_mutants : length mutants ≤ 2 ^ 32

  regroup : (E more : List (List ℕ)) → front (E ++ more) ≡ front E ++ more
  regroup E more = simp append_assoc

  begins_end : IsGood → (totals : Totals) (minimal : Bool) (E more : List (List ℕ)) → FitsTotals totals → end_lines totals minimal ≡ E ++ more → Begins (front E)
  begins_end good totals minimal E more fits e =
      let report = with_head head tests goals mutants minimal in
      let fits_report : Fits report = record { name = good.name; steps = good.steps; cap = good.cap; tests = good.tests_fit; goals = good.goals_fit; mutants = good.mutants_fit; few_tests = good.few_tests; few_goals = good.few_goals; few_mutants = good.few_mutants } in
      (totals, report, more, fits, fits_report, ap front e ∙ regroup E more)

  -- the series stop where they did
  record Stop (ls : List (List ℕ)) : Type 0 where
    after_tests : StopsAt test_of (length tests) (numbered goal_line 0 goals ++ (numbered mutant_line 0 mutants ++ ls))
    after_goals : StopsAt goal_of (length goals) (numbered mutant_line 0 mutants ++ ls)
    after_mutants : StopsAt mutant_of (length mutants) ls

  body_dies : IsGood → (E : List (List ℕ)) (bad : List ℕ) (old : List (List ℕ)) → Stop (E ++ (bad ∷ old))
      → ((number : ℕ) (more : List (List ℕ)) → (n : ℕ) × (end_at [] (place number (E ++ (bad ∷ more))) ≡ Err n)) → Dies (front E) bad
  unfolding read_lines report_at
  body_dies good E bad old stops dead more =
      let W = E ++ (bad ∷ more) in
      let M = numbered mutant_line 0 mutants ++ W in
      let G = numbered goal_line 0 goals ++ M in
      let last = 5 + length tests + length goals + length mutants in
      let d = dead last more in
      let a = series_again_at test_of test_line FitsTest test_again 0 5 tests G good.tests_fit (omega (arith, good.few_tests)) (subst (λ k. StopsAt test_of k G) (sym (zero-add (length tests))) (first_same test_of (length tests) (numbered goal_line 0 goals) (numbered mutant_line 0 mutants) E bad old more stops.after_tests)) in
      let b = series_again_at goal_of goal_line FitsGoal goal_again 0 (5 + length tests) goals M good.goals_fit (omega (arith, good.few_goals)) (subst (λ k. StopsAt goal_of k M) (sym (zero-add (length goals))) (first_same goal_of (length goals) [] (numbered mutant_line 0 mutants) E bad old more stops.after_goals)) in
      let c = series_again_at mutant_of mutant_line FitsMutant mutant_again 0 (5 + length tests + length goals) mutants W good.mutants_fit (omega (arith, good.few_mutants)) (subst (λ k. StopsAt mutant_of k W) (sym (zero-add (length mutants))) (first_same mutant_of (length mutants) [] [] E bad old more stops.after_mutants)) in
      let h = head_again current head.name head.steps head.cap (body W) good.name good.steps good.cap in
      (d.0, ap (λ (ls : List (List ℕ)). read_lines current (lines ls [])) (sym (regroup E (bad ∷ more))) ∙ rw (h, a, b, c, d.1) refl)

-- ---- the end

abbrev end_1 : ℕ × ℕ → List (List ℕ)
end_1 g = total_line (codes "goals") g.0 g.1 ∷ []

abbrev end_2 : ℕ × ℕ → ℕ × ℕ → List (List ℕ)
end_2 g k = total_line (codes "goals") g.0 g.1 ∷ total_line (codes "kills") k.0 k.1 ∷ []

abbrev totals_by : ℕ × ℕ → ℕ × ℕ → Totals
totals_by g k = record { covered = g.0; goals = g.1; killed = k.0; mutants = k.1 }

abbrev end_3 : ℕ × ℕ → ℕ × ℕ → Bool → List (List ℕ)
end_3 g k minimal = end_lines (totals_by g k) minimal

dead_0 : (bad : List ℕ) → total_of (codes "goals") bad ≡ None → (number : ℕ) (more : List (List ℕ)) → (n : ℕ) × (end_at [] (place number (bad ∷ more)) ≡ Err n)
unfolding end_at
dead_0 bad e number more = (number, rw e refl)

dead_1 : (g : ℕ × ℕ) (bad : List ℕ) → IsSmall g.0 → IsSmall g.1 → total_of (codes "kills") bad ≡ None → (number : ℕ) (more : List (List ℕ)) → (n : ℕ) × (end_at [] (place number (end_1 g ++ (bad ∷ more))) ≡ Err n)
unfolding end_at
dead_1 g bad s t e number more = (number + 1, rw (total_again (codes "goals") g.0 g.1 refl s t, e) refl)

dead_2 : (g k : ℕ × ℕ) (bad : List ℕ) → IsSmall g.0 → IsSmall g.1 → IsSmall k.0 → IsSmall k.1 → minimal_of bad ≡ None → (number : ℕ) (more : List (List ℕ)) → (n : ℕ) × (end_at [] (place number (end_2 g k ++ (bad ∷ more))) ≡ Err n)
unfolding end_at
dead_2 g k bad s t u v e number more = (number + 1 + 1, rw (total_again (codes "goals") g.0 g.1 refl s t, total_again (codes "kills") k.0 k.1 refl u v, e) refl)

dead_3 : (g k : ℕ × ℕ) (minimal : Bool) (bad : List ℕ) → IsSmall g.0 → IsSmall g.1 → IsSmall k.0 → IsSmall k.1 → (number : ℕ) (more : List (List ℕ)) → (n : ℕ) × (end_at [] (place number (end_3 g k minimal ++ (bad ∷ more))) ≡ Err n)
unfolding end_at
dead_3 g k minimal bad s t u v number more = (number + 1 + 1 + 1, rw (total_again (codes "goals") g.0 g.1 refl s t, total_again (codes "kills") k.0 k.1 refl u v, minimal_again minimal) refl)

ends_err : (rest : List ℕ) (number n : ℕ) (ls : List (List ℕ)) → ends_in rest number ls ≡ Err n → number ≡ n
ends_err [] number n [] e = absurd cc
ends_err [] number n (l ∷ ls) e = cc
ends_err (c ∷ rest) number n [] e = cc
ends_err (c ∷ rest) number n (l ∷ ls) e = cc

refuse_end : (whole front ls : List (List ℕ)) (rest : List ℕ) (number n : ℕ) → whole ≡ front ++ ls → number ≡ length front + 1 → Begins front → ((bad : List ℕ) (more : List (List ℕ)) → ls ≡ bad ∷ more → Dies front bad)
    → ends_in rest number ls ≡ Err n → IsFirst whole n
refuse_end whole front [] rest number n e k begins dies h = (front, [], e, sym (ends_err rest number n [] h) ∙ k, begins, tt)
refuse_end whole front (bad ∷ more) rest number n e k begins dies h =
    (front, bad ∷ more, e, sym (ends_err rest number n (bad ∷ more) h) ∙ k, begins, stuck front bad (dies bad more refl))

module _ (head : Head) (tests : List TestLine) (goals : List GoalLine) (mutants : List MutantLine) (good : IsGood head tests goals mutants) where
  abbrev size : ℕ
  size = 4 + length tests + length goals + length mutants

  length-front : (E : List (List ℕ)) → length (front head tests goals mutants E) ≡ size + length E
  length-front E =
      omega (
        arith,
        length-append (numbered test_line 0 tests) (numbered goal_line 0 goals ++ (numbered mutant_line 0 mutants ++ E)),
        length-append (numbered goal_line 0 goals) (numbered mutant_line 0 mutants ++ E),
        length-append (numbered mutant_line 0 mutants) E,
        length-numbered test_line 0 tests,
        length-numbered goal_line 0 goals,
        length-numbered mutant_line 0 mutants,
      )

  -- what is known where a part of the end is read
  abbrev at_end : List (List ℕ) → List (List ℕ) → List (List ℕ) → Type 0
  at_end whole E ls = (whole ≡ front head tests goals mutants E ++ ls) × Stop head tests goals mutants (E ++ ls)

  next_end : (whole E ls : List (List ℕ)) (line : List ℕ) (more : List (List ℕ)) → at_end whole E ls → ls ≡ line ∷ more → at_end whole (E ++ line ∷ []) more
  next_end whole E ls line more known e =
      let same : E ++ ls ≡ (E ++ line ∷ []) ++ more = ap (λ (x : List (List ℕ)). E ++ x) e ∙ sym (append_assoc E (line ∷ []) more) in
      (known.0 ∙ sym (regroup head tests goals mutants E ls) ∙ ap (front head tests goals mutants) same ∙ regroup head tests goals mutants (E ++ line ∷ []) more, subst (Stop head tests goals mutants) same known.1)

  end_refused : (whole ls : List (List ℕ)) (rest : List ℕ) (number n : ℕ) → at_end whole [] ls → number ≡ size + 1 → end_at rest (place number ls) ≡ Err n → IsFirst whole n
  unfolding end_at
  end_refused whole ls rest number n known count e =
      let dies : (E : List (List ℕ)) (ls' : List (List ℕ)) → at_end whole E ls' → (bad : List ℕ) (more : List (List ℕ)) → ls' ≡ bad ∷ more
      → ((number : ℕ) (more : List (List ℕ)) → (n : ℕ) × (end_at [] (place number (E ++ (bad ∷ more))) ≡ Err n)) → Dies (front head tests goals mutants E) bad =
      λ E ls' k bad more s dead. body_dies head tests goals mutants good E bad more (subst (λ (x : List (List ℕ)). Stop head tests goals mutants (E ++ x)) s k.1) dead in
      let zeroes : ℕ × ℕ = (0, 0) in
      let tail : Bool × Place → Result Bool ℕ = λ m. ends_in rest m.1.number m.1.lines >>= λ all. Ok m.0 in
      let tail2 : (ℕ × ℕ) × Place → Result Bool ℕ = λ killed. next minimal_of killed.1 >>= tail in
      elim (bind_err (next (total_of (codes "goals")) (place number ls)) (λ taken. next (total_of (codes "kills")) taken.1 >>= tail2) n e) [
        | inl h ↦ refuse whole (front head tests goals mutants []) ls number n (total_of (codes "goals")) known.0 (omega (arith, count, length-front []))
            (begins_end head tests goals mutants good zero true [] (end_lines zero true) zero_fits refl) (λ bad more s f. dies [] ls known bad more s (dead_0 bad f)) h
        | inr a ↦
            let a' = next_takes (total_of (codes "goals")) number ls a.0 a.1 in
            let one = next_number (total_of (codes "goals")) number ls a.0 a.1 in
            let g = total_takes (codes "goals") a'.0 a.0.0 a'.2 in
            let known1 : at_end whole (end_1 a.0.0) a.0.1.lines = next_end whole [] ls (total_line (codes "goals") a.0.0.0 a.0.0.1) a.0.1.lines known (a'.1 ∙ ap (λ (x : List ℕ). x ∷ a.0.1.lines) g.0) in
            elim (bind_err (next (total_of (codes "kills")) a.0.1) tail2 n a.2) [
              | inl h ↦ refuse whole (front head tests goals mutants (end_1 a.0.0)) a.0.1.lines a.0.1.number n (total_of (codes "kills")) known1.0 (omega (arith, count, one, length-front (end_1 a.0.0)))
                  (begins_end head tests goals mutants good (totals_by a.0.0 zeroes) true (end_1 a.0.0) (total_line (codes "kills") 0 0 ∷ minimal_line true ∷ []) (record { covered = g.1; goals = g.2; killed = small; mutants = small }) refl)
                  (λ bad more s f. dies (end_1 a.0.0) a.0.1.lines known1 bad more s (dead_1 a.0.0 bad g.1 g.2 f)) h
              | inr b ↦
                  let b' = next_takes (total_of (codes "kills")) a.0.1.number a.0.1.lines b.0 b.1 in
                  let two = next_number (total_of (codes "kills")) a.0.1.number a.0.1.lines b.0 b.1 in
                  let k = total_takes (codes "kills") b'.0 b.0.0 b'.2 in
                  let known2 : at_end whole (end_2 a.0.0 b.0.0) b.0.1.lines = next_end whole (end_1 a.0.0) a.0.1.lines (total_line (codes "kills") b.0.0.0 b.0.0.1) b.0.1.lines known1 (b'.1 ∙ ap (λ (x : List ℕ). x ∷ b.0.1.lines) k.0) in
                  let fits : FitsTotals (totals_by a.0.0 b.0.0) = record { covered = g.1; goals = g.2; killed = k.1; mutants = k.2 } in
                  elim (bind_err (next minimal_of b.0.1) tail n b.2) [
                    | inl h ↦ refuse whole (front head tests goals mutants (end_2 a.0.0 b.0.0)) b.0.1.lines b.0.1.number n minimal_of known2.0 (omega (arith, count, one, two, length-front (end_2 a.0.0 b.0.0)))
                        (begins_end head tests goals mutants good (totals_by a.0.0 b.0.0) true (end_2 a.0.0 b.0.0) (minimal_line true ∷ []) fits refl)
                        (λ bad more s f. dies (end_2 a.0.0 b.0.0) b.0.1.lines known2 bad more s (dead_2 a.0.0 b.0.0 bad g.1 g.2 k.1 k.2 f)) h
                    | inr c ↦
                        let c' = next_takes minimal_of b.0.1.number b.0.1.lines c.0 c.1 in
                        let three = next_number minimal_of b.0.1.number b.0.1.lines c.0 c.1 in
                        let known3 : at_end whole (end_3 a.0.0 b.0.0 c.0.0) c.0.1.lines = next_end whole (end_2 a.0.0 b.0.0) b.0.1.lines (minimal_line c.0.0) c.0.1.lines known2 (c'.1 ∙ ap (λ (x : List ℕ). x ∷ c.0.1.lines) (minimal_takes c'.0 c.0.0 c'.2)) in
                        elim (bind_err (ends_in rest c.0.1.number c.0.1.lines) (λ all. Ok c.0.0) n c.2) [
                          | inl h ↦ refuse_end whole (front head tests goals mutants (end_3 a.0.0 b.0.0 c.0.0)) c.0.1.lines rest c.0.1.number n known3.0 (omega (arith, count, one, two, three, length-front (end_3 a.0.0 b.0.0 c.0.0)))
                              (begins_end head tests goals mutants good (totals_by a.0.0 b.0.0) c.0.0 (end_3 a.0.0 b.0.0 c.0.0) [] fits (sym (append-nil (end_3 a.0.0 b.0.0 c.0.0))))
                              (λ bad more s. dies (end_3 a.0.0 b.0.0 c.0.0) c.0.1.lines known3 bad more s (dead_3 a.0.0 b.0.0 c.0.0 bad g.1 g.2 k.1 k.2)) h
                          | inr d ↦ absurd cc
                        ]
                  ]
            ]
      ]

head_number : (version number : ℕ) (ls : List (List ℕ)) (y : Head × Place) → head_at version (place number ls) ≡ Ok y → y.1.number ≡ number + 4
unfolding head_at
head_number version number ls y e =
    let rest2 : List ℕ × Place → ℕ × Place → Result (Head × Place) ℕ = λ name steps. next cap_of steps.1 >>= λ cap. Ok (record { name = name.0; steps = steps.0; cap = cap.0 }, cap.1) in
    let a = bind_ok (next (title_of version) (place number ls)) (λ title. next module_of title.1 >>= λ name. next steps_of name.1 >>= rest2 name) y e in
    let b = bind_ok (next module_of a.0.1) (λ name. next steps_of name.1 >>= rest2 name) y a.2 in
    let c = bind_ok (next steps_of b.0.1) (rest2 b.0) y b.2 in
    let d = bind_ok (next cap_of c.0.1) (λ cap. Ok (record { name = b.0.0; steps = c.0.0; cap = cap.0 }, cap.1)) y c.2 in
    let one = next_number (title_of version) number ls a.0 a.1 in
    let two = next_number module_of a.0.1.number a.0.1.lines b.0 b.1 in
    let three = next_number steps_of b.0.1.number b.0.1.lines c.0 c.1 in
    let four = next_number cap_of c.0.1.number c.0.1.lines d.0 d.1 in
    let made : Head × Place = (record { name = b.0.0; steps = c.0.0; cap = d.0.0 }, d.0.1) in
    let same : made ≡ y = cc in
    ap (λ (p : Head × Place). p.1.number) (sym same) ∙ omega (arith, one, two, three, four)

end_err : (rest : List ℕ) (at : Place) (made : Bool → Report) (n : ℕ) → (end_at rest at >>= λ minimal. Ok (made minimal)) ≡ Err n → end_at rest at ≡ Err n
end_err rest at made n e =
    elim (bind_err (end_at rest at) (λ minimal. Ok (made minimal)) n e) [
      | inl h ↦ h
      | inr m ↦ absurd cc
    ]

pub refuses_first : RefusesFirst
unfolding read_report read_lines report_at
refuses_first text n e =
    let whole = (lines_of text).whole in
    let rest = (lines_of text).rest in
    elim (bind_err (head_at current (place 1 whole)) (λ head. report_at rest head.0 head.1) n e) [
      | inl h ↦ head_refused whole n h
      | inr h ↦
          let at = head_takes current 1 whole h.0 h.1 in
          let number = head_number current 1 whole h.0 h.1 in
          let tests = series test_of h.0.1 in
          let goals = series goal_of tests.1 in
          let mutants = series mutant_of goals.1 in
          let a = series_takes test_of test_line FitsTest test_takes 0 h.0.1.number h.0.1.lines in
          let b = series_takes goal_of goal_line FitsGoal goal_takes 0 tests.1.number tests.1.lines in
          let c = series_takes mutant_of mutant_line FitsMutant mutant_takes 0 goals.1.number goals.1.lines in
          let few_tests = a.2 (omega arith) in
          let few_goals = b.2 (omega arith) in
          let few_mutants = c.2 (omega arith) in
          let s = series_stopped test_of 0 h.0.1.number h.0.1.lines in
          let t = series_stopped goal_of 0 tests.1.number tests.1.lines in
          let u = series_stopped mutant_of 0 goals.1.number goals.1.lines in
          let good : IsGood h.0.0 tests.0 goals.0 mutants.0 = record { name = at.1; steps = at.2; cap = at.3; tests_fit = a.1; goals_fit = b.1; mutants_fit = c.1; few_tests = omega (arith, few_tests); few_goals = omega (arith, few_goals); few_mutants = omega (arith, few_mutants) } in
          let goals_on : tests.1.lines ≡ numbered goal_line 0 goals.0 ++ (numbered mutant_line 0 mutants.0 ++ mutants.1.lines) = b.0 ∙ ap (λ (x : List (List ℕ)). numbered goal_line 0 goals.0 ++ x) c.0 in
          let stops : Stop h.0.0 tests.0 goals.0 mutants.0 mutants.1.lines =
          record {
            after_tests = subst (λ (x : List (List ℕ)). StopsAt test_of (length tests.0) x) goals_on (subst (λ k. StopsAt test_of k tests.1.lines) (zero-add (length tests.0)) s.0);
            after_goals = subst (λ (x : List (List ℕ)). StopsAt goal_of (length goals.0) x) c.0 (subst (λ k. StopsAt goal_of k goals.1.lines) (zero-add (length goals.0)) t.0);
            after_mutants = subst (λ k. StopsAt mutant_of k mutants.1.lines) (zero-add (length mutants.0)) u.0;
          } in
          let all : whole ≡ front h.0.0 tests.0 goals.0 mutants.0 [] ++ mutants.1.lines =
          at.0 ∙ ap (λ (x : List (List ℕ)). title_line current ∷ module_line h.0.0.name ∷ steps_line h.0.0.steps ∷ cap_line h.0.0.cap ∷ x) (a.0 ∙ ap (λ (x : List (List ℕ)). numbered test_line 0 tests.0 ++ x) goals_on)
          ∙ regroup h.0.0 tests.0 goals.0 mutants.0 [] mutants.1.lines in
          end_refused h.0.0 tests.0 goals.0 mutants.0 good whole mutants.1.lines rest mutants.1.number n (all, stops) (omega (arith, number, s.1, t.1, u.1)) (end_err rest mutants.1 (λ minimal. with_head h.0.0 tests.0 goals.0 mutants.0 minimal) n h.2)
    ]
