use Rattle.py_annotation_rules.proofs.Prefixes.{classes_more, imports_more}
use Rattle.py_annotation_rules.proofs.scope.Known.of_items.Goals as goal

pub loop-item-preserved : goal.loop-item-preserved
loop-item-preserved c = record {
  classes = classes_more c.args.items.now c.loop-item.item-index c.item-item.result _ _ c.loop-item-test.true c.item-item.is c.loop-item.invariant.classes c.in_ok-add_item.ensures.classes;
  imports = imports_more c.args.items.now c.loop-item.item-index c.item-item.result _ _ c.loop-item-test.true c.item-item.is c.loop-item.invariant.imports c.in_ok-add_item.ensures.imports;
}
