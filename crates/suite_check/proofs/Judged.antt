-- A report that is made item by item.
use Rattle.std.proofs.Common.{◌≡◌, ◌∙◌, refl, sym, ap, ap₂, ℕ, suc, true, ◌+◌, ◌<◌, ◌≤◌, List, [], ◌∷◌, ◌++◌, map, length, drop, get_or, Option, Some, None, append_assoc, append-nil, add-one, arith}
use Rattle.std.specs.List.{cons_option}
use Rattle.std.proofs.Math.Seq.{drop-cons}
use Rattle.py_syntax.specs.declared.module.Func.{Func}
use Rattle.py_syntax.specs.declared.module.Item.{Item}
use Rattle.py_syntax.specs.declared.module.Module.{Module}
use Rattle.py_syntax.specs.Functions.{function_in, functions_in}
use Rattle.py_language.specs.declared.first.First.{First}
use Rattle.py_language.specs.FirstForm.{items_from}
use Rattle.pyn_model.specs.FirstModules.{IsFirst}
use Rattle.pyn_model.specs.declared.report.GoalLine.{GoalLine}
use Rattle.pyn_model.specs.declared.report.TestLine.{TestLine}
use Rattle.pyn_model.specs.CallsReport.{function_lines, covers_from, passes, calls_report}
use Rattle.suite_check.specs.Items.{item_tests, item_lines, number_after}

rest_of : (items : List Item) (n : ℕ) (item : Item) → n < length items → item ≡ get_or items n item → drop n items ≡ item ∷ drop (n + 1) items
rest_of items n item lt is = rw (drop-cons items n item lt, ← is, add-one) refl

tests_first : (tests : List TestLine) (found : Option Func) (rest : List Func) → tests ++ item_tests found ++ passes rest ≡ tests ++ passes (cons_option found rest)
tests_first tests None rest = ap (λ t. t ++ passes rest) (append-nil tests)
tests_first tests (Some f) rest = append_assoc tests (item_tests (Some f)) (passes rest)

goals_first : (goals : List GoalLine) (k : ℕ) (found : Option Func) (rest : List Func) → goals ++ item_lines k found ++ covers_from (number_after k found) rest ≡ goals ++ covers_from k (cons_option found rest)
goals_first goals k None rest = ap (λ t. t ++ covers_from k rest) (append-nil goals)
goals_first goals k (Some f) rest = append_assoc goals (function_lines k f) (covers_from (k + 1) rest)

-- what holds after so many items
pub record Judged (items : List Item) (n : ℕ) (tests0 tests : List TestLine) (goals0 goals : List GoalLine) (k : ℕ) : Type 0 where
  pub tests_are : tests ++ passes (functions_in (drop n items)) ≡ tests0 ++ passes (functions_in items)
  pub goals_are : goals ++ covers_from k (functions_in (drop n items)) ≡ goals0 ++ covers_from 0 (functions_in items)
  pub within : k ≤ n

within_more : (k n : ℕ) (found : Option Func) → k ≤ n → number_after k found ≤ n + 1
within_more k n None le = omega (arith, le)
within_more k n (Some f) le = omega (arith, le)

pub judged_more : (items : List Item) (n : ℕ) (tests0 tests tests' : List TestLine) (goals0 goals goals' : List GoalLine) (k k' : ℕ) (item : Item)
    → n < length items → item ≡ get_or items n item → Judged items n tests0 tests goals0 goals k
    → tests' ≡ tests ++ item_tests (function_in item) → goals' ≡ goals ++ item_lines k (function_in item) → k' ≡ number_after k (function_in item)
    → Judged items (n + 1) tests0 tests' goals0 goals' k'
judged_more items n tests0 tests tests' goals0 goals goals' k k' item lt is before t g e =
    let rest = functions_in (drop (n + 1) items) in
    let here : drop n items ≡ item ∷ drop (n + 1) items = rest_of items n item lt is in
    record {
      tests_are = ap (λ ts. ts ++ passes rest) t ∙ tests_first tests (function_in item) rest
          ∙ ap (λ xs. tests ++ passes (functions_in xs)) (sym here) ∙ before.tests_are;
      goals_are = ap₂ (λ gs j. gs ++ covers_from j rest) g e ∙ goals_first goals k (function_in item) rest
          ∙ ap (λ xs. goals ++ covers_from k (functions_in xs)) (sym here) ∙ before.goals_are;
      within = let w = within_more k n (function_in item) before.within in omega (arith, w, e);
    }

-- ---- a module of the first form

items_as_many : (place : ℕ) (fs : List First) → length (items_from place fs) ≡ length fs
items_as_many place [] = refl
items_as_many place (f ∷ rest) = ap suc (items_as_many (place + 1) rest)

pub few_items : (m : Module) (items : List Item) → IsFirst m → items ≡ m.items → length items < 2147483648
few_items m items first is =
    let n : length items ≡ length first.functions = ap length (is ∙ ap (λ (m : Module). m.items) first.is) ∙ items_as_many 0 first.functions in
    let few : length first.functions ≤ 2000 = first.few in
    omega (arith, n, few)

-- the parts of the report, when all items are judged
pub all_judged : (m : Module) (name name' : List ℕ) (items : List Item) (tests : List TestLine) (goals : List GoalLine)
    → items ≡ m.items → tests ≡ passes (functions_in items) → goals ≡ covers_from 0 (functions_in items) → name' ≡ name
    → record { «module» = name'; steps = 20000; cap = 0; tests = tests; goals = goals; minimal = true } ≡ calls_report name m
all_judged m name name' items tests goals is t g n =
    ap (λ x. record (calls_report name m) { «module» = x; tests = tests; goals = goals }) n
    ∙ ap₂ (λ ts gs. record (calls_report name m) { tests = ts; goals = gs })
    (t ∙ ap (λ xs. passes (functions_in xs)) is) (g ∙ ap (λ xs. covers_from 0 (functions_in xs)) is)

pub from_nothing : {T : Type 0} (old more now : List T) → now ≡ old ++ more → old ≡ [] → now ≡ more
from_nothing old more now e n = e ∙ ap (λ t. t ++ more) n
