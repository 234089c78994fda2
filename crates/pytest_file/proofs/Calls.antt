-- The text of the suite is that of its tests, one after another.
use Rattle.std.proofs.Common.{◌≡◌, ◌∙◌, refl, sym, ap, ap₂, subst, ℕ, ◌+◌, ◌<◌, ◌≤◌, List, [], ◌∷◌, ◌++◌, length, drop, get_or, Option, Some, None, codes, decimal, slice_get, append_assoc, append-nil, add-one, arith, length-append}
use Rattle.std.specs.List.{cons_option}
use Rattle.std.proofs.Math.Seq.{drop-cons}
use Rattle.py_syntax.specs.declared.module.Func.{Func}
use Rattle.py_syntax.specs.declared.module.Item.{Item}
use Rattle.py_syntax.specs.declared.module.Module.{Module}
use Rattle.py_syntax.specs.Functions.{function_in, functions_in, functions_of}
use Rattle.pyn_model.specs.declared.test.Step.TheVariants.{Function}
use Rattle.pyn_model.specs.Tests.{function_name, name_in}
use Rattle.pyn_model.specs.SuiteText.{steps_text, tests_text, suite_text}
use Rattle.pyn_model.specs.Calls.{calls_from, calls_suite}
use Rattle.pyn_model.proofs.ReadBack.{step_line, step-is}
use Rattle.pytest_file.specs.CallText.{call_text, calls_text, item_text, number_after}

-- ---- the loop's step

rest_of : (items : List Item) (n : ℕ) (d : Item) → n < length items → drop n items ≡ get_or items n d ∷ drop (n + 1) items
rest_of items n d lt = rw (drop-cons items n d lt, add-one) refl

item_first : (text : List ℕ) (k : ℕ) (found : Option Func) (rest : List Func) → text ++ item_text k found ++ calls_text (number_after k found) rest ≡ text ++ calls_text k (cons_option found rest)
item_first text k None rest = ap (λ t. t ++ calls_text k rest) (append-nil text)
item_first text k (Some f) rest = append_assoc text (call_text k f.name) (calls_text (k + 1) rest)

pub item_more : (text next whole : List ℕ) (k k' n : ℕ) (items : List Item) (item : Item) → n < length items → item ≡ get_or items n item
    → text ++ calls_text k (functions_in (drop n items)) ≡ whole → next ≡ text ++ item_text k (function_in item) → k' ≡ number_after k (function_in item)
    → next ++ calls_text k' (functions_in (drop (n + 1) items)) ≡ whole
item_more text next whole k k' n items item lt is before e e' =
    let rest = functions_in (drop (n + 1) items) in
    let here : drop n items ≡ item ∷ drop (n + 1) items = rest_of items n item lt ∙ ap (λ x. x ∷ drop (n + 1) items) (sym is) in
    ap₂ (λ t j. t ++ calls_text j rest) e e'
    ∙ item_first text k (function_in item) rest
    ∙ ap (λ xs. text ++ calls_text k (functions_in xs)) (sym here)
    ∙ before

next_within : (k : ℕ) (found : Option Func) → number_after k found ≤ k + 1
next_within k None = omega arith
next_within k (Some f) = omega arith

pub item_within : (k k' n : ℕ) (found : Option Func) → k ≤ n → k' ≡ number_after k found → k' ≤ n + 1
item_within k k' n found le e = let w = next_within k found in omega (arith, le, e, w)

-- ---- the text of the suite

-- function k of a list
at_length : (before : List Func) (f : Func) (rest : List Func) → slice_get (before ++ (f ∷ rest)) (length before) ≡ Some f
at_length [] f rest = refl
at_length (b ∷ before) f rest = at_length before f rest

case_is : (m : Module) (k : ℕ) (name : List ℕ) (behind : List ℕ) → function_name m k ≡ name
    → codes "\n\ndef test_case_" ++ decimal k ++ codes "():\n" ++ steps_text m 0 (Function (record { 0 = k }) [] ∷ []) ++ behind ≡ call_text k name ++ behind
case_is m k name behind e =
    ap (λ step. codes "\n\ndef test_case_" ++ decimal k ++ codes "():\n" ++ step ++ behind) (step-is m k ∙ ap step_line e)
    ∙ ap (λ t. t ++ behind) (joined (codes "\n\ndef test_case_" ++ decimal k) name)
  where
    joined : (head name : List ℕ) → head ++ codes "():\n" ++ step_line name ≡ head ++ codes "():\n    var_0 = module_0." ++ name ++ codes "()\n"
    joined head name =
        append_assoc head (codes "():\n") (step_line name)
        ∙ sym (append_assoc head (codes "():\n    var_0 = module_0." ++ name) (codes "()\n"))
        ∙ ap (λ t. t ++ codes "()\n") (sym (append_assoc head (codes "():\n    var_0 = module_0.") name))

tests_are : (m : Module) (before rest : List Func) → functions_of m ≡ before ++ rest
    → tests_text m (length before) (calls_from (length before) rest) ≡ calls_text (length before) rest
tests_are m before [] e = refl
tests_are m before (f ∷ rest) e =
    let P : ℕ → Type 0 = λ k. tests_text m k (calls_from k rest) ≡ calls_text k rest in
    let one_more : length (before ++ (f ∷ [])) ≡ length before + 1 = length-append before (f ∷ []) in
    let behind = subst P one_more (tests_are m (before ++ (f ∷ [])) rest (e ∙ sym (append_assoc before (f ∷ []) rest))) in
    let name : function_name m (length before) ≡ f.name = ap (λ fs. name_in (slice_get fs (length before))) e ∙ ap name_in (at_length before f rest) in
    case_is m (length before) f.name (tests_text m (length before + 1) (calls_from (length before + 1) rest)) name
    ∙ ap (λ t. call_text (length before) f.name ++ t) behind

pub suite_text-calls : (m : Module) (name : List ℕ) → codes "import pytest\nimport " ++ name ++ codes " as module_0\n" ++ calls_text 0 (functions_of m) ≡ suite_text m (calls_suite name m)
suite_text-calls m name =
    ap (λ t. codes "import pytest\nimport " ++ name ++ codes " as module_0\n" ++ t) (sym (tests_are m [] (functions_of m) refl))
