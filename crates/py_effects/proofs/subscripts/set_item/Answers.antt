use Rattle.py_meaning.specs.Subscripts.{put_item}
use Rattle.py_plain.specs.Runs.{performs, passes}
use Rattle.py_effects.proofs.Performing.{performs_as, then_on}
use Rattle.py_effects.proofs.subscripts.set_item.Goals as goal

pub returns-clause-meant : goal.returns-clause-meant
returns-clause-meant g c =
    let change = put_item c.args.of.now c.args.at.now c.args.x in
    then_on (performs change) (λ _. passes) c.args.s.now (c.in_ok-end.end, c.settle.new.s) (c.passed.result, c.settle.new.s)
    (performs_as c.args.s.now c.set_item-answer.result (c.in_ok-end.end, c.settle.new.s) c.new-fuel.result c.left-s.result c.set_item-answer.new.fuel c.set_item-answer.new.objects
    c.new-fuel.ensures c.left-s.ensures c.in_ok-end.ensures.meant change c.set_item-answer.ensures.meant)
    c.passed.ensures
