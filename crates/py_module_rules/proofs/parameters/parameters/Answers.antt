use Rattle.std.proofs.Common.{sym, ap, ◌∙◌}
use Rattle.std.specs.List.{flat_map}
use Rattle.std.proofs.lemmas.List.{take_all}
use Rattle.std.proofs.lemmas.List.Folds.{flat_map-map}
use Rattle.py_scopes.specs.Refusals.{least}
use Rattle.py_module_rules.specs.Pieces.{params_of}
use Rattle.py_module_rules.proofs.parameters.parameters.Goals as goal

pub returns : goal.returns
returns c =
    c.least.ensures ∙ ap least
    (c.loop-function.invariant
    ∙ ap (flat_map (λ function. params_of function.now)) (take_all c.loop-function.function-index c.as_slice-all.result.now c.loop-function-test.false)
    ∙ sym (flat_map-map params_of (λ function. function.now) c.as_slice-all.result.now)
    ∙ ap (flat_map params_of) c.as_slice-all.ensures)
