use Rattle.py_meaning.specs.Builtins.{reading}
use Rattle.py_plain.specs.Builtins.{isinstance_row}
use Rattle.py_calls.proofs.Asking.{asks_as}
use Rattle.py_calls.proofs.Paying.{paid}
use Rattle.py_calls.proofs.builtins.ask_isinstance.Goals as goal

pub returns-clause-meant : goal.returns-clause-meant
returns-clause-meant g c =
    let read = isinstance_row c.args.tables.now c.args.plain.now in
    let s = c.args.s.now in
    let call = c.isinstance_row-answer in
    c.in_ok-end.ensures.meant (reading read) s.objects s.left
    (paid call.result (reading read) s.objects s.objects c.new-fuel.result s.left c.left-s.result call.new.fuel c.new-fuel.ensures c.left-s.ensures
    (asks_as read s.objects c.new-fuel.result call.result call.new.fuel call.ensures.meant))
