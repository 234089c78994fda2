use Rattle.py_meaning.specs.Operators.{augment}
use Rattle.py_plain.specs.Runs.{performs, gives}
use Rattle.py_effects.proofs.Performing.{performs_as, then_on}
use Rattle.py_effects.proofs.operators.augment.Goals as goal

pub returns-clause-meant : goal.returns-clause-meant
returns-clause-meant g c =
    let change = augment c.args.op c.args.x.now c.args.y.now in
    then_on (performs change) gives c.args.s.now (c.in_ok-end.end, c.settle.new.s) (c.given.result, c.settle.new.s)
    (performs_as c.args.s.now c.augment-answer.result (c.in_ok-end.end, c.settle.new.s) c.new-fuel.result c.left-s.result c.augment-answer.new.fuel c.augment-answer.new.objects
    c.new-fuel.ensures c.left-s.ensures c.in_ok-end.ensures.meant change c.augment-answer.ensures.meant)
    c.given.ensures
