use Rattle.std.proofs.Common.{◌++◌, ap, ◌∙◌}
use Rattle.py_scopes.specs.Constants.{has_display}
use Rattle.py_module_rules.proofs.Prefixes.{flat_more}
use Rattle.py_module_rules.proofs.DefaultsOf.{defaults_are}
use Rattle.py_scopes.specs.ModuleRows.{functions_in_item, defaults_where}
use Rattle.py_module_rules.proofs.parameters.mutable_default.Goals as goal

pub loop-item-preserved : goal.loop-item-preserved
loop-item-preserved c =
    flat_more (defaults_where has_display) c.args.items.now c.loop-item.item-index c.item-item.result _ _ _ c.loop-item-test.true c.item-item.is c.loop-item.invariant c.in_ok-add_mutable.ensures
    (defaults_are has_display c.as_slice.result.now c.item-item.result (c.as_slice.ensures ∙ c.in_ok-add_item.ensures ∙ ap (λ functions. functions ++ functions_in_item c.item-item.result) c.new-functions.ensures))
