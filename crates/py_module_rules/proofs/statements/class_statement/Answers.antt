use Rattle.std.proofs.Common.{ap, take, ◌∙◌}
use Rattle.py_module_rules.specs.Pieces.{class_statements_at, statements_by}
use Rattle.py_module_rules.proofs.Prefixes.{standing_more, constants_more, class_statements_are}
use Rattle.py_module_rules.proofs.statements.class_statement.Goals as goal

pub loop-item-preserved : goal.loop-item-preserved
loop-item-preserved c =
    let items = c.args.items.now in
    let i = c.loop-item.item-index in
    let x = c.item-item.result in
    record {
      lines = standing_more class_statements_at items i x _ _ _ c.loop-item-test.true c.item-item.is c.loop-item.invariant.lines c.in_ok-add_class_statements.ensures
          (ap (λ names. statements_by names x) c.loop-item.invariant.names ∙ class_statements_are (take i items) x);
      names = constants_more items i x _ _ c.loop-item-test.true c.item-item.is c.loop-item.invariant.names c.in_ok-add_constant.ensures;
    }
