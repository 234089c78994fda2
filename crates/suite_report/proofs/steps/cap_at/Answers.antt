use Rattle.std.proofs.Common.{sym, subst, arith}
use Rattle.report_model.specs.LineForms.{cap_of}
use Rattle.report_model.specs.ReportRead.{next}
use Rattle.suite_report.specs.Places.{place}
use Rattle.suite_report.specs.Refuses.{Refuses}
use Rattle.suite_report.proofs.Places.{no_next, is_read, is_refused, room_after}
use Rattle.suite_report.proofs.steps.cap_at.Goals as goal

pub next_line-requires : goal.next_line-requires
next_line-requires c = λ some. omega arith

pub returns-in_default : goal.returns-in_default
returns-in_default c = subst (λ r. Refuses r (next cap_of (place c.args.at))) (sym c.refusal_by.ensures) (no_next cap_of c.args.at c.in_default.ensures)

pub returns-in-Ok : goal.returns-in-Ok
returns-in-Ok c = is_read cap_of c.args.at c.in-Some.after c.in-Some.line.now _ c.in-Some.ensures c.in-Ok.ensures (room_after c.args.at c.in-Some.after c.in-Some.line.now c.requires c.in-Some.ensures)

pub returns-in-Err : goal.returns-in-Err
returns-in-Err c = subst (λ r. Refuses r (next cap_of (place c.args.at))) (sym c.refusal_by-in-Err.ensures) (is_refused cap_of c.args.at c.in-Some.after c.in-Some.line.now c.in-Err.fault c.in-Some.ensures c.in-Err.ensures)
