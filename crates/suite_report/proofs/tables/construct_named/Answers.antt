use Rattle.std.proofs.Common.{sym, ◌∙◌}
use Rattle.report_model.specs.Fields.{named}
use Rattle.suite_report.proofs.tables.construct_named.Goals as goal

pub returns-in-Some : goal.returns-in-Some
unfolding named
returns-in-Some c = sym c.find_construct.ensures ∙ c.in-Some.is

pub returns-in-None : goal.returns-in-None
unfolding named
returns-in-None c = sym c.find_construct.ensures ∙ c.in-None.is
