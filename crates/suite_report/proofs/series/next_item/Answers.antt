use Rattle.std.proofs.Common.{arith}
use Rattle.suite_report.proofs.Places.{no_line, no_item, is_item}
use Rattle.suite_report.proofs.series.next_item.Goals as goal

pub next_line-requires : goal.next_line-requires
next_line-requires g c = λ some. omega arith

pub returns-in_default : goal.returns-in_default
returns-in_default g c = no_line g.T.Numbered.form c.args.number c.args.at c.in_default.ensures

pub returns-in-Ok : goal.returns-in-Ok
returns-in-Ok g c = is_item g.T.Numbered.form c.args.number c.args.at c.in-Some.after c.in-Some.line.now _ c.requires c.in-Some.ensures c.in-Ok.ensures

pub returns-in-Err-Form : goal.returns-in-Err-Form
returns-in-Err-Form g c = no_item g.T.Numbered.form c.args.number c.args.at c.in-Some.after c.in-Some.line.now c.in-Some.ensures (rw c.in-Err-Form.field-0-is at c.in-Err-Form.ensures)
