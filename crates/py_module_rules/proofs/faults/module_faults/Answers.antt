use Rattle.std.proofs.Common.{map, drop, ap, ◌∙◌}
use Rattle.std.specs.List.{flat_map}
use Rattle.py_scopes.specs.ModuleRows.{functions_in_item, most_functions}
use Rattle.py_scopes.specs.Refusals.{least}
use Rattle.py_module_rules.specs.Pieces.{line_of}
use Rattle.py_module_rules.proofs.faults.module_faults.Goals as goal

pub returns-clause-too_many_functions : goal.returns-clause-too_many_functions
returns-clause-too_many_functions c =
    c.in_ok-too_many_functions.ensures
    ∙ ap (λ functions. least (map line_of (drop most_functions functions))) (c.in_ok-functions.ensures ∙ ap (flat_map functions_in_item) c.as_slice-items.ensures)
