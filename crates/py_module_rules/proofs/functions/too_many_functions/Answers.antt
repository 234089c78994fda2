use Rattle.std.proofs.Common.{ap, ◌∙◌, map, drop}
use Rattle.std.proofs.lemmas.List.{take_all}
use Rattle.py_scopes.specs.ModuleRows.{most_functions}
use Rattle.py_scopes.specs.Refusals.{least}
use Rattle.py_module_rules.proofs.PastMost.{lines_past}
use Rattle.py_module_rules.specs.Pieces.{line_of}
use Rattle.py_module_rules.proofs.functions.too_many_functions.Goals as goal

pub returns : goal.returns
returns c =
    c.least.ensures ∙ ap least
    (c.loop-function.invariant
    ∙ ap (map (λ function. line_of function.now)) (take_all c.loop-function.function-index c.past_most-rest.result.now c.loop-function-test.false ∙ c.past_most-rest.ensures)
    ∙ lines_past most_functions c.as_slice.result.now
    ∙ ap (λ functions. map line_of (drop most_functions functions)) c.as_slice.ensures)
