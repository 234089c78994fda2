use Rattle.std.proofs.Common.{◌∙◌, sym}
use Rattle.std.proofs.lemmas.List.{at_drop_all}
use Rattle.suite_file.specs.SuiteOf.{entries_from}
use Rattle.suite_reader.specs.Parts.{with_entries}
use Rattle.suite_reader.proofs.Read.{test_is}
use Rattle.suite_reader.proofs.cases.read_test.Goals as goal

pub returns : goal.returns
returns c =
    let names = c.args.names.now in
    let test = c.args.test.now in
    let past = rw c.as_slice-stmt-items.ensures at c.loop-stmt-test.false in
    let all = sym (at_drop_all (λ ys. with_entries c.loop-stmt.parts (entries_from names c.loop-stmt.at ys)) test.body c.loop-stmt.stmt-index past) ∙ c.loop-stmt.invariant.parts in
    test_is names c.args.fault c.args.number test c.loop-stmt.parts c.in_ok-header.header c.earlier.result all c.in_ok-header.ensures c.earlier.ensures
