use Rattle.std.proofs.Common.{◌≡◌, ℕ, get_or, length}
use Rattle.chosen_tests.proofs.counts.Counts.reserve_for.Given as goal

abbrev pub invariant-loop-grown : goal.invariant-loop-grown
invariant-loop-grown l = record {
  same : (x : ℕ) → get_or l.self-inside.counts.items x 0 ≡ get_or l.fn.self x 0;
  room : length l.self-inside.counts.items ≡ l._grown;
}
