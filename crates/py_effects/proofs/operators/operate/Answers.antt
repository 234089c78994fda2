use Rattle.py_meaning.specs.Operators.{binary}
use Rattle.py_plain.specs.Runs.{performs, gives}
use Rattle.py_effects.proofs.Performing.{performs_as, then_on}
use Rattle.py_effects.proofs.operators.operate.Goals as goal

pub returns-clause-meant : goal.returns-clause-meant
returns-clause-meant g c =
    let change = binary c.args.op c.args.x.now c.args.y.now in
    then_on (performs change) gives c.args.s.now (c.in_ok-end.end, c.settle.new.s) (c.given.result, c.settle.new.s)
    (performs_as c.args.s.now c.binary-answer.result (c.in_ok-end.end, c.settle.new.s) c.new-fuel.result c.left-s.result c.binary-answer.new.fuel c.binary-answer.new.objects
    c.new-fuel.ensures c.left-s.ensures c.in_ok-end.ensures.meant change c.binary-answer.ensures.meant)
    c.given.ensures
