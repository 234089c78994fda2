use Rattle.std.proofs.Common.{◌≡◌, ◌+◌, ◌^◌, ◌<◌, length}
use Rattle.pyn_bench.specs.Reports.{counted, tokens_in}
use Rattle.pyn_bench.proofs.reports.token_count.Given as goal

abbrev pub invariant-loop-line : goal.invariant-loop-line
invariant-loop-line l = record {
  value : counted (l.count + tokens_in l.rest) ≡ counted (tokens_in l.lines);
  small : l.count < 2 ^ 64;
}

abbrev pub decreases-loop-line : goal.decreases-loop-line
decreases-loop-line l = length l.rest
