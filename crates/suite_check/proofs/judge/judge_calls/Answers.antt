use Rattle.std.proofs.Common.{◌∙◌, sym}
use Rattle.pyn_model.proofs.Calls.{judged-calls}
use Rattle.suite_check.proofs.Judged.{few_items, all_judged, from_nothing}
use Rattle.suite_check.proofs.judge.judge_calls.Goals as goal

pub judge_items-requires : goal.judge_items-requires
judge_items-requires c = few_items c.args.module.now c.as_slice.result.now c.requires c.as_slice.ensures

pub returns : goal.returns
returns c =
    all_judged c.args.module.now c.args.name.now _ c.as_slice.result.now _ _ c.as_slice.ensures
    (from_nothing _ _ _ c.in_ok-judge_items.ensures.tests c.new-tests.ensures)
    (from_nothing _ _ _ c.in_ok-judge_items.ensures.goals c.new-goals.ensures)
    c.in_ok-to_owned.ensures
    ∙ sym (judged-calls c.args.module.now c.args.name.now c.requires)
