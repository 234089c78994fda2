use Rattle.std.proofs.Common.{ap, take, ◌∙◌}
use Rattle.py_module_rules.specs.Pieces.{statement_at, statement_by}
use Rattle.py_module_rules.proofs.Prefixes.{standing_more, constants_more, statement_is}
use Rattle.py_module_rules.proofs.statements.module_statement.Goals as goal

pub loop-item-preserved : goal.loop-item-preserved
loop-item-preserved c =
    let items = c.args.items.now in
    let i = c.loop-item.item-index in
    let x = c.item-item.result in
    record {
      lines = standing_more statement_at items i x _ _ _ c.loop-item-test.true c.item-item.is c.loop-item.invariant.lines c.in_ok-add_statement.ensures
          (ap (λ names. statement_by names x) c.loop-item.invariant.names ∙ statement_is (take i items) x);
      names = constants_more items i x _ _ c.loop-item-test.true c.item-item.is c.loop-item.invariant.names c.in_ok-add_constant.ensures;
    }
