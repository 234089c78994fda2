use Rattle.std.proofs.Common.{◌++◌, ap, ◌∙◌}
use Rattle.py_scopes.specs.ModuleRows.{functions_in_item, defaults_in, defaults_where}
use Rattle.py_module_rules.specs.Pieces.{is_no_constant}
use Rattle.py_module_rules.proofs.DefaultsOf.{defaults_are}
use Rattle.py_module_rules.proofs.Prefixes.{standing_more, constants_more}
use Rattle.py_module_rules.proofs.parameters.defaults.Goals as goal

pub loop-item-preserved : goal.loop-item-preserved
loop-item-preserved c =
    let items = c.args.items.now in
    let i = c.loop-item.item-index in
    let x = c.item-item.result in
    record {
      lines = standing_more defaults_in items i x _ _ _ c.loop-item-test.true c.item-item.is c.loop-item.invariant.lines c.in_ok-add_defaults.ensures
          (defaults_are (is_no_constant c.loop-item.names) c.as_slice.result.now x (c.as_slice.ensures ∙ c.in_ok-add_item.ensures ∙ ap (λ functions. functions ++ functions_in_item c.item-item.result) c.new-functions.ensures)
          ∙ ap (λ names. defaults_where (is_no_constant names) x) c.loop-item.invariant.names);
      names = constants_more items i x _ _ c.loop-item-test.true c.item-item.is c.loop-item.invariant.names c.in_ok-add_constant.ensures;
    }
