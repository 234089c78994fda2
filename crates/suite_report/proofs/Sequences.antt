-- Lines that are written one after another.
use Rattle.std.proofs.Common.{◌≡◌, ◌∙◌, sym, ap, refl, arith, codes, decimal, [], ℕ, ◌+◌, ◌<◌, List, ◌∷◌, ◌++◌, length, drop, get_or, append_assoc, add-one}
use Rattle.std.proofs.Math.Seq.{drop-cons}
use Rattle.std.proofs.lemmas.Grind.{flat_map-append}
use Rattle.std.proofs.lemmas.Fmt.{decimal_digit}
use Rattle.report_model.specs.declared.report.Report.{Report}
use Rattle.report_model.specs.Lines.{title_line, module_line, steps_line, cap_line, test_line, goal_line, mutant_line}
use Rattle.report_model.specs.ReportText.{numbered, ended, text_of_lines, end_lines, totals_of, report_text, current}
use Rattle.report_model.specs.Words.{◌␣◌}
use Rattle.suite_report.specs.Heads.{head_lines, head_text}

pub item_more : {A : Type 0} (line : ℕ → A → List ℕ) (text next whole : List ℕ) (n : ℕ) (items : List A) (item : A) → n < length items → item ≡ get_or items n item
    → text ++ text_of_lines (numbered line n (drop n items)) ≡ whole → next ≡ text ++ ended (line n item) → next ++ text_of_lines (numbered line (n + 1) (drop (n + 1) items)) ≡ whole
item_more line text next whole n items item lt is before e =
    let later = text_of_lines (numbered line (n + 1) (drop (n + 1) items)) in
    let first : drop n items ≡ get_or items n item ∷ drop (n + 1) items = rw (drop-cons items n item lt, add-one) refl in
    let rest : drop n items ≡ item ∷ drop (n + 1) items = first ∙ ap (λ x. x ∷ drop (n + 1) items) (sym is) in
    ap (λ (t : List ℕ). t ++ later) e
    ∙ append_assoc text (ended (line n item)) later
    ∙ ap (λ xs. text ++ text_of_lines (numbered line n xs)) (sym rest)
    ∙ before

-- the parts of a report, one after another
pub joined : (h t g m e : List (List ℕ)) → text_of_lines (h ++ (t ++ (g ++ (m ++ e)))) ≡ (((text_of_lines h ++ text_of_lines t) ++ text_of_lines g) ++ text_of_lines m) ++ text_of_lines e
joined h t g m e = simp (flat_map-append ended, append_assoc)

title_is : title_line current ≡ codes "pynguin report 1"
title_is = ap (λ d. codes "pynguin" ␣ codes "report" ␣ d) (decimal_digit 1 (omega arith))

-- the head's lines, of any name and numbers
head_parts : (name steps most : List ℕ) → text_of_lines (codes "pynguin report 1" ∷ (codes "module" ␣ name) ∷ (codes "steps" ␣ steps) ∷ (codes "mutants" ␣ most) ∷ [])
    ≡ codes "pynguin report 1\nmodule " ++ (name ++ (codes "\nsteps " ++ (steps ++ (codes "\nmutants " ++ (most ++ codes "\n")))))
head_parts name steps most =
    ap (λ (z : List ℕ). codes "pynguin report 1\nmodule " ++ z)
    (append_assoc name (10 ∷ []) (text_of_lines ((codes "steps" ␣ steps) ∷ (codes "mutants" ␣ most) ∷ []))
    ∙ ap (λ (z : List ℕ). name ++ (codes "\nsteps " ++ z))
    (append_assoc steps (10 ∷ []) (text_of_lines ((codes "mutants" ␣ most) ∷ []))
    ∙ ap (λ (z : List ℕ). steps ++ (codes "\nmutants " ++ z)) (append_assoc most (10 ∷ []) [])))

-- the head, written
head_is : (report : Report) → text_of_lines (head_lines report) ≡ head_text report
head_is report =
    ap (λ (t : List ℕ). ended t ++ text_of_lines (module_line report.«module» ∷ steps_line report.steps ∷ cap_line report.cap ∷ [])) title_is
    ∙ head_parts report.«module» (decimal report.steps) (decimal report.cap)

-- lines of items that are those of others
pub lines_of : {A : Type 0} (line : ℕ → A → List ℕ) (next text : List ℕ) (items others : List A) → next ≡ text ++ text_of_lines (numbered line 0 items) → items ≡ others → next ≡ text ++ text_of_lines (numbered line 0 others)
lines_of line next text items others e same = e ∙ ap (λ xs. text ++ text_of_lines (numbered line 0 xs)) same

-- the whole text, written part by part
pub written : (report : Report) (z a b c d e : List ℕ) → z ≡ [] → a ≡ z ++ head_text report → b ≡ a ++ text_of_lines (numbered test_line 0 report.tests) → c ≡ b ++ text_of_lines (numbered goal_line 0 report.goals)
    → d ≡ c ++ text_of_lines (numbered mutant_line 0 report.mutants) → e ≡ d ++ text_of_lines (end_lines (totals_of report) report.minimal) → e ≡ report_text report
written report z a b c d e ez ea eb ec ed ee =
    let T = numbered test_line 0 report.tests in
    let G = numbered goal_line 0 report.goals in
    let M = numbered mutant_line 0 report.mutants in
    let E = end_lines (totals_of report) report.minimal in
    let head : a ≡ text_of_lines (head_lines report) = ea ∙ ap (λ (x : List ℕ). x ++ head_text report) ez ∙ sym (head_is report) in
    ee ∙ ap (λ (x : List ℕ). x ++ text_of_lines E) (ed ∙ ap (λ (x : List ℕ). x ++ text_of_lines M) (ec ∙ ap (λ (x : List ℕ). x ++ text_of_lines G) (eb ∙ ap (λ (x : List ℕ). x ++ text_of_lines T) head)))
    ∙ sym (joined (head_lines report) T G M E)
