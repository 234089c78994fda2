use Rattle.std.proofs.Common.{◌≡◌, length}
use Rattle.suite_report.specs.Places.{left, HasRoom, series_at}
use Rattle.suite_report.proofs.Places.{with_front_items}
use Rattle.suite_report.proofs.series.series.Given as goal

-- what is read so far and the series from here on are the whole series
abbrev pub invariant-loop-items : goal.invariant-loop-items
invariant-loop-items g l =
    record {
      so_far : series_at g.T.Numbered.form 0 l.fn.start ≡ with_front_items g.T.Numbered.form l.items (series_at g.T.Numbered.form (length l.items) l.at);
      same_left : left l.at ≡ left l.fn.start;
      has_room : HasRoom l.at;
    }

abbrev pub decreases-loop-items : goal.decreases-loop-items
decreases-loop-items g l = length l.at.rest.now
