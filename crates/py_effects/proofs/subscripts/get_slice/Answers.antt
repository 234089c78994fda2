use Rattle.py_meaning.specs.Subscripts.{slice}
use Rattle.py_plain.specs.Runs.{performs, gives}
use Rattle.py_effects.proofs.Performing.{performs_as, then_on}
use Rattle.py_effects.proofs.subscripts.get_slice.Goals as goal

pub returns-clause-meant : goal.returns-clause-meant
returns-clause-meant g c =
    let change = slice c.args.of.now c.args.low.now c.args.high.now in
    then_on (performs change) gives c.args.s.now (c.in_ok-end.end, c.settle.new.s) (c.given.result, c.settle.new.s)
    (performs_as c.args.s.now c.slice-answer.result (c.in_ok-end.end, c.settle.new.s) c.new-fuel.result c.left-s.result c.slice-answer.new.fuel c.slice-answer.new.objects
    c.new-fuel.ensures c.left-s.ensures c.in_ok-end.ensures.meant change c.slice-answer.ensures.meant)
    c.given.ensures
