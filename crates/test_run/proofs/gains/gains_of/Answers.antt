use Rattle.std.proofs.Common.{◌∙◌, ap, Some, List, ℕ, true, false, ◌++◌, drop, ◌+◌}
use Rattle.test_run.proofs.Taking.{one_more}
use Rattle.test_run.specs.Gains.{marked_from}
use Rattle.test_run.proofs.gains.gains_of.Goals.{then-taken+in_ok-push, else-taken}
use Rattle.test_run.proofs.gains.gains_of.Goals as goal

pub loop-number-preserved : goal.loop-number-preserved
loop-number-preserved c =
    let rest : List ℕ → List ℕ = λ gains. gains ++ marked_from (c.loop-number.number + 1) c.args.marks.now (drop (c.loop-number.number + 1) c.args.goals.now) in
    elim c.if-taken.branch [
      | then-taken+in_ok-push w ↦ ap rest (w.gains-is ∙ w.in_ok-push.ensures.ok)
          ∙ one_more c.args.marks.now true c.args.goals.now c.loop-number.number c.loop-number.gains _ (c.taken.ensures ∙ ap Some w.if-taken.true) c.loop-number.invariant
      | else-taken w ↦ ap rest w.gains-is
          ∙ one_more c.args.marks.now false c.args.goals.now c.loop-number.number c.loop-number.gains _ (c.taken.ensures ∙ ap Some w.if-taken.false) c.loop-number.invariant
    ]
