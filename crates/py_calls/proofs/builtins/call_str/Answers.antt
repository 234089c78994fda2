use Rattle.py_meaning.specs.Builtins.{reading}
use Rattle.py_plain.specs.Builtins.{text_row}
use Rattle.py_plain.specs.Runs.{performs, gives}
use Rattle.py_calls.proofs.Paying.{paid, then_on}
use Rattle.py_calls.proofs.builtins.call_str.Goals as goal

pub returns-clause-meant : goal.returns-clause-meant
returns-clause-meant g c =
    let change = reading (text_row c.args.tables.now c.args.plain.now) in
    then_on (performs change) gives c.args.s.now (c.in_ok-end.end, c.settle_change.new.s) (c.given.result, c.settle_change.new.s)
    (c.in_ok-end.ensures.meant change c.args.s.now.objects c.args.s.now.left
    (paid c.text_row-answer.result change c.args.s.now.objects c.text_row-answer.new.objects c.new-fuel.result c.args.s.now.left c.left-s.result c.text_row-answer.new.fuel
    c.new-fuel.ensures c.left-s.ensures c.text_row-answer.ensures.meant))
    c.given.ensures
