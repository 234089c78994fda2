use Rattle.std.proofs.Common.{sym, refl}
use Rattle.suite_report.proofs.Places.{lines_none, lines_some}
use Rattle.suite_report.proofs.cursor.next_line.Goals as goal

pub returns-in-None : goal.returns-in-None
returns-in-None c = lines_none _ (sym c.in-None.ensures)

pub returns-in-Some : goal.returns-in-Some
returns-in-Some c =
    let cut = lines_some _ (c.in-Some.line.now, c.in-Some.rest.now) (sym c.in-Some.ensures) in
    record { lines = cut.0; number = refl; bytes = cut.1 }
