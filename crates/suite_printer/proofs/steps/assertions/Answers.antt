use Rattle.std.proofs.Common.{◌≡◌, ◌∙◌, ap, ℕ, true, arith}
use Rattle.std.specs.Prelude.{◌==◌}
use Rattle.std.proofs.lemmas.Bool.Decides.{nat_tests}
use Rattle.suite_text.specs.SuiteText.{asserts_later}
use Rattle.suite_printer.proofs.BodyRows.{one_assertion, later_is}
use Rattle.suite_printer.proofs.steps.assertions.Goals as goal

equal : (x k : ℕ) → x ≡ k → (x == k) ≡ true
equal x k e = grind (arith, nat_tests, e)

pub loop-x-preserved : goal.loop-x-preserved
loop-x-preserved c =
    let program = c.args.tables.now in
    let x = c.in-Some.x.now in
    let more = c.in-Some.rest.now in
    let same : (x.after == c.args.k) ≡ true = equal x.after c.args.k c.if-x-k.false in
    record {
      page = one_assertion program c.args.k x c.loop-x.left.now more _ c.loop-x.page c.assertion_line.new.page c.in-Some.ensures same c.loop-x.invariant.page c.in_ok-assertion_line.ensures;
      rest = c.loop-x.invariant.rest ∙ ap (asserts_later c.args.k) c.in-Some.ensures ∙ later_is program c.args.k x more same;
    }
