use Rattle.std.proofs.Common.{ap, []}
use Rattle.py_scopes.specs.ModuleRows.{in_item}
use Rattle.py_annotation_rules.specs.Found.{annotations_at}
use Rattle.py_annotation_rules.proofs.Prefixes.{standing_more, classes_more, imports_more}
use Rattle.py_annotation_rules.proofs.module_annotations.annotations.Goals as goal

pub loop-i-preserved : goal.loop-i-preserved
loop-i-preserved c =
    let m = c.args.tree.now in
    let items = c.as_slice-items.result.now in
    let i = c.loop-i.i in
    let x = c.index-items-i.result in
    record {
      lines = standing_more (annotations_at m) items i x [] _ _ _ c.loop-i-test.true c.index-items-i.is c.loop-i.invariant.lines c.in_ok-add_item_at.ensures
          (ap (λ front. in_item m front x) c.split_at.ensures.front);
      classes = classes_more items i x _ _ c.loop-i-test.true c.index-items-i.is c.loop-i.invariant.classes c.in_ok-add_item.ensures.classes;
      imports = imports_more items i x _ _ c.loop-i-test.true c.index-items-i.is c.loop-i.invariant.imports c.in_ok-add_item.ensures.imports;
    }
