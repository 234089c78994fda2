use Rattle.std.proofs.Common.{◌∙◌, ap}
use Rattle.std.specs.List.{flat_map}
use Rattle.std.proofs.lemmas.List.{take_all}
use Rattle.py_name_rules.specs.Places.{item_names}
use Rattle.py_name_rules.proofs.ModuleNames.{module_names_are}
use Rattle.py_name_rules.proofs.known.module_names.Goals as goal

pub returns : goal.returns
returns c = c.loop-item.invariant ∙ ap (flat_map item_names) (take_all c.loop-item.item-index c.args.items.now c.loop-item-test.false) ∙ module_names_are c.args.items.now
