use Rattle.std.proofs.Common.{◌∙◌, sym}
use Rattle.std.specs.Str.{chars}
use Rattle.suite_reader.proofs.Read.{without_imports, accepted, refused}
use Rattle.suite_reader.proofs.suites.as_suite.Goals as goal

pub returns-then-is : goal.returns-then-is
unfolding chars
returns-then-is c = without_imports c.args.tables.now c.args.file.now (sym c.is.ensures ∙ c.if-is.true)

pub returns-in-None : goal.returns-in-None
unfolding chars
returns-in-None c =
    accepted c.args.tables.now c.in_ok-names.names c.args.file.now c.as_slice.result.now c.fault_of_strays-strays.result c.as_slice-2.result.now c.in_ok-cases.cases c.in_ok-cases.fault
    (sym c.is.ensures ∙ c.if-is.false) c.in_ok-names.ensures c.as_slice.ensures c.as_slice-2.ensures c.fault_of_strays-strays.ensures c.in_ok-cases.ensures
    c.in_ok-to_owned-in-None.field-0 c.in-None.is c.in_ok-to_owned-in-None.ensures

pub returns : goal.returns
unfolding chars
returns c =
    refused c.args.tables.now c.in_ok-names.names c.args.file.now c.as_slice.result.now c.fault_of_strays-strays.result c.as_slice-2.result.now c.in_ok-cases.cases c.in_ok-cases.fault
    (sym c.is.ensures ∙ c.if-is.false) c.in_ok-names.ensures c.as_slice.ensures c.as_slice-2.ensures c.fault_of_strays-strays.ensures c.in_ok-cases.ensures
    c.in-Some.line c.in-Some.construct c.in-Some.is
