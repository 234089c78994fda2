use Rattle.std.proofs.Common.{◌≡◌, ◌≤◌, length, drop}
use Rattle.pynguin_job.specs.Words.{after_slashes, last_part}
use Rattle.pynguin_job.proofs.words.last_part.Given as goal

abbrev pub invariant-loop-i : goal.invariant-loop-i
invariant-loop-i l = (l.start ≤ length l.path) × (last_part l.path ≡ after_slashes (drop l.start l.path) (drop l.i l.path))
