-- Lines that are written one after another.
use Rattle.std.proofs.Common.{◌≡◌, ◌∙◌, sym, ap, ℕ, ◌+◌, ◌<◌, ◌≤◌, List, [], ◌∷◌, ◌++◌, length, drop, get_or, append_assoc, append-nil, refl, add-one}
use Rattle.std.proofs.Math.Seq.{drop-cons}
use Rattle.pyn_model.specs.declared.report.TestLine.{TestLine}
use Rattle.pyn_model.specs.declared.report.GoalLine.{GoalLine}
use Rattle.pyn_model.specs.Report.{test_text, tests_text, goal_text, goals_text}

pub test_more : (text next whole : List ℕ) (n : ℕ) (tests : List TestLine) (d : TestLine) → n < length tests
    → text ++ tests_text n (drop n tests) ≡ whole → next ≡ text ++ test_text n (get_or tests n d) → next ++ tests_text (n + 1) (drop (n + 1) tests) ≡ whole
test_more text next whole n tests d lt before e =
    let test = get_or tests n d in
    let rest : drop n tests ≡ test ∷ drop (n + 1) tests = rw (drop-cons tests n d lt, add-one) refl in
    ap (λ t. t ++ tests_text (n + 1) (drop (n + 1) tests)) e
    ∙ append_assoc text (test_text n test) (tests_text (n + 1) (drop (n + 1) tests))
    ∙ ap (λ xs. text ++ tests_text n xs) (sym rest)
    ∙ before

pub goal_more : (text next whole : List ℕ) (n : ℕ) (goals : List GoalLine) (d : GoalLine) → n < length goals
    → text ++ goals_text n (drop n goals) ≡ whole → next ≡ text ++ goal_text n (get_or goals n d) → next ++ goals_text (n + 1) (drop (n + 1) goals) ≡ whole
goal_more text next whole n goals d lt before e =
    let goal = get_or goals n d in
    let rest : drop n goals ≡ goal ∷ drop (n + 1) goals = rw (drop-cons goals n d lt, add-one) refl in
    ap (λ t. t ++ goals_text (n + 1) (drop (n + 1) goals)) e
    ∙ append_assoc text (goal_text n goal) (goals_text (n + 1) (drop (n + 1) goals))
    ∙ ap (λ xs. text ++ goals_text n xs) (sym rest)
    ∙ before
