use Rattle.std.proofs.Common.{ℕ, ◌+◌, List, sym, subst, ◌∙◌}
use Rattle.chosen_tests.specs.declared.chosen.Chosen.{Chosen}
use Rattle.chosen_tests.specs.Counting.{Rose}
use Rattle.chosen_tests.proofs.OfTests.{PassedTests, Tells, test_left, test_taken}
use Rattle.chosen_tests.proofs.gaining.gaining_tests.Goals.{then-is_wanted+in_ok-add+in_ok-as_chosen+in_ok-push, else-is_wanted}
use Rattle.chosen_tests.proofs.gaining.gaining_tests.Goals as goal

pub loop-test-preserved : goal.loop-test-preserved
loop-test-preserved c =
    let m = c.args.tree.now in
    let limit = c.args.limit in
    let tests = c.args.tests.now in
    let i = c.loop-test.test-index in
    let test = c.test-item.result in
    let ran = c.in_ok-ran.ran in
    let tells : Tells m limit test c.args.tables.now ran.steps.items ran.end ran.gains =
    record { tables = c.requires.tables; steps = c.in_ok-ran.ensures.steps; ends = c.in_ok-ran.ensures.end; gains = c.in_ok-ran.ensures.gains } in
    let passed : List Chosen → List ℕ → Type 0 = λ all counts. PassedTests m limit tests (i + 1) all counts in
    elim c.if-is_wanted.branch [
      | then-is_wanted+in_ok-add+in_ok-as_chosen+in_ok-push w ↦
          subst (λ (counts : List ℕ). passed c.if-is_wanted.all counts) (sym w.counts-is)
          (test_taken m limit tests i test c.loop-test.all c.if-is_wanted.all c.loop-test.counts w.add.new.self _ c.args.tables.now ran.steps.items ran.end ran.gains c.is_wanted.result
          c.loop-test-test.true c.test-item.is tells c.is_wanted.ensures w.if-is_wanted.true
          (subst (λ (gained : List ℕ). Rose c.loop-test.counts w.add.new.self gained) w.as_slice.ensures w.in_ok-add.ensures) w.in_ok-as_chosen.ensures (w.all-is ∙ w.in_ok-push.ensures.ok) c.loop-test.invariant)
      | else-is_wanted w ↦
          subst (λ (counts : List ℕ). passed c.if-is_wanted.all counts) (sym w.counts-is)
          (subst (λ (all : List Chosen). passed all c.loop-test.counts) (sym w.all-is)
          (test_left m limit tests i test c.loop-test.all c.loop-test.counts c.args.tables.now ran.steps.items ran.end ran.gains c.is_wanted.result
          c.loop-test-test.true c.test-item.is tells c.is_wanted.ensures w.if-is_wanted.false c.loop-test.invariant))
    ]
