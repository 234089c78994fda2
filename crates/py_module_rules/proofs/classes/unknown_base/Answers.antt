use Rattle.std.proofs.Common.{ap, take, ◌∙◌}
use Rattle.py_module_rules.specs.Pieces.{base_at, base_by}
use Rattle.py_module_rules.proofs.Prefixes.{standing_more, classes_more, base_is}
use Rattle.py_module_rules.proofs.classes.unknown_base.Goals as goal

pub loop-item-preserved : goal.loop-item-preserved
loop-item-preserved c =
    let items = c.args.items.now in
    let i = c.loop-item.item-index in
    let x = c.item-item.result in
    record {
      lines = standing_more base_at items i x _ _ _ c.loop-item-test.true c.item-item.is c.loop-item.invariant.lines c.in_ok-add_base.ensures
          (ap (λ classes. base_by classes x) c.loop-item.invariant.classes ∙ base_is (take i items) x);
      classes = classes_more items i x _ _ c.loop-item-test.true c.item-item.is c.loop-item.invariant.classes c.in_ok-add_class.ensures;
    }
