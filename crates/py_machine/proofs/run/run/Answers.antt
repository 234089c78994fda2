use Rattle.std.proofs.Common.{subst, arith}
use Rattle.py_machine.specs.Turns.{TurnFalls}
use Rattle.py_machine.proofs.run.run.Goals as goal

pub loop-stack-smaller : goal.loop-stack-smaller
loop-stack-smaller g c =
    let before = c.loop-stack in
    let after = c.take_turn.new in
    let small = after.stack.small in
    let sinks = subst (λ turn. TurnFalls turn before.s.left after.s.left before.stack.items before.doing after.stack.items) c.in-Goes.is c.in_ok-next.ensures.falls in
    c.laws_of_frames.ensures.falls before.s.left after.s.left before.stack.items after.stack.items before.doing c.in-Goes.next (omega (arith, small)) sinks
