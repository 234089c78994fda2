use Rattle.std.specs.Prelude.{slice_index}
use Rattle.chosen_tests.specs.Counting.{times}
use Rattle.std.proofs.Common.{ℕ, ◌≤◌, List, sym, subst}
use Rattle.chosen_tests.specs.declared.chosen.Chosen.{Chosen}
use Rattle.chosen_tests.specs.Chosen.{gains_kept}
use Rattle.chosen_tests.proofs.SecondPass.{Looked, enough, none_looked, one_goes, one_stays}
use Rattle.chosen_tests.proofs.staying.staying_tests.Goals as goal

pub loop-test-init : goal.loop-test-init
loop-test-init c =
    subst (λ (stay : List Chosen). Looked gains_kept c.args.found.tests c.args.found.tests stay c.args.found.counts) (sym c.new-stay.ensures.items)
    (none_looked gains_kept c.args.found.tests c.args.found.counts c.requires)

pub settle-requires : goal.settle-requires
settle-requires c =
    subst (λ ns. (x : ℕ) → times x ns ≤ slice_index c.loop-test.counts x) (sym c.as_slice.ensures)
    (enough gains_kept c.args.found.tests c.loop-test.tests c.pop.new.self c.in-Some.test c.loop-test.stay.items c.loop-test.counts c.in-Some.ensures c.loop-test.invariant)

pub loop-test-preserved-in-Continue-branch-2 : goal.loop-test-preserved-in-Continue-branch-2
loop-test-preserved-in-Continue-branch-2 c =
    subst (λ (stay : List Chosen). Looked gains_kept c.args.found.tests c.pop.new.self stay c.settle.new.self) (sym c.in_ok-push.ensures.items)
    (one_stays gains_kept c.args.found.tests c.loop-test.tests c.pop.new.self c.in-Some.test c.loop-test.stay.items c.loop-test.counts c.settle.new.self c.as_slice.result.now c.in_ok-needed.needed
    c.in-Some.ensures c.as_slice.ensures c.if-needed.true c.in_ok-needed.ensures c.loop-test.invariant)

pub loop-test-preserved : goal.loop-test-preserved
loop-test-preserved c =
    one_goes gains_kept c.args.found.tests c.loop-test.tests c.pop.new.self c.in-Some.test c.loop-test.stay.items c.loop-test.counts c.settle.new.self c.as_slice.result.now c.in_ok-needed.needed
    c.in-Some.ensures c.as_slice.ensures c.if-needed.false c.in_ok-needed.ensures c.loop-test.invariant
