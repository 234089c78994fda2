use Rattle.std.proofs.Common.{◌+◌, drop, length, ap, ◌∙◌, arith}
use Rattle.py_plain.specs.Program.{methods_from}
use Rattle.py_import.proofs.Steps.{stepped, one_more}
use Rattle.py_import.proofs.bindings.number_after_methods.Goals as goal

pub loop-member-preserved : goal.loop-member-preserved
loop-member-preserved c =
    let ms = c.args.members.now in
    let i = c.loop-member.member-index in
    let e = ap (λ xs. length (methods_from 0 xs)) (stepped ms i c.member-item.result c.loop-member-test.true c.member-item.is) ∙ one_more c.member-item.result (drop (i + 1) ms) in
    omega (arith, e, c.loop-member.invariant, c.in_ok-next.ensures)
