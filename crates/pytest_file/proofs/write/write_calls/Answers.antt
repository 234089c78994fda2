use Rattle.std.proofs.Common.{◌≡◌, ◌∙◌, ap, ◌++◌, chars, codes, List, ℕ, []}
use Rattle.py_syntax.specs.Functions.{functions_in}
use Rattle.py_syntax.specs.declared.module.Item.{Item}
use Rattle.pytest_file.specs.CallText.{calls_text}
use Rattle.pytest_file.proofs.Calls.{suite_text-calls}
use Rattle.pytest_file.proofs.write.write_calls.Goals as goal

whole : (empty imports head text : List ℕ) (slice items : List Item) → text ≡ head ++ calls_text 0 (functions_in slice) → slice ≡ items → head ≡ empty ++ imports → empty ≡ []
    → text ≡ imports ++ calls_text 0 (functions_in items)
whole empty imports head text slice items e is h n =
    e ∙ ap (λ xs. head ++ calls_text 0 (functions_in xs)) is
    ∙ ap (λ t. t ++ calls_text 0 (functions_in items)) (h ∙ ap (λ t. t ++ imports) n)

pub returns : goal.returns
returns c =
    whole _ _ _ _ _ _ c.in_ok-write_tests.ensures c.as_slice.ensures c.in_ok-write_imports.ensures c.new-text.ensures
    ∙ suite_text-calls c.args.module.now (chars c.args.name.now)
