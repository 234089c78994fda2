use Rattle.std.proofs.Common.{◌∙◌, ap₂}
use Rattle.py_sites.specs.Refs.{seen_option}
use Rattle.py_sites.specs.Walks.{last_from}
use Rattle.py_sites.proofs.Arguments.{left_in_order, one_argument, all_arguments}
use Rattle.py_sites.proofs.last_part.ArgsParted.last_part.Goals as goal

pub loop-x-preserved : goal.loop-x-preserved
loop-x-preserved c =
    one_argument c.args.limit c.as_slice-all.result.now c.loop-x.x-index c.x-item.result c.loop-x.left.now c.split_at.result.0.now c.split_at.result.1.now c.written_before.result _ _ _ _ c.loop-x-test.true c.x-item.is c.written_before.ensures.count c.split_at.ensures.front c.split_at.ensures.back c.loop-x.invariant c.slice_part.ensures c.last_part-found.ensures

pub returns : goal.returns
returns c =
    all_arguments c.args.limit c.as_slice-all.result.now c.loop-x.x-index c.loop-x.left.now _ _ _ c.loop-x-test.false c.loop-x.invariant c.slice_part-2.ensures
    ∙ ap₂ (λ all named. last_from c.args.limit (seen_option c.args.best) (left_in_order all 0 named)) c.as_slice-all.ensures c.as_slice-left.ensures
