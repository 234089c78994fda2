use Rattle.std.proofs.Common.{◌≡◌, drop, ◌≤◌, ◌*◌, ◌+◌, ◌^◌, length}
use Rattle.py_meaning.specs.Texts.{joined}
use Rattle.py_text.proofs.Joining.{following}
use Rattle.py_text.proofs.joins.joined_length.Given as goal

abbrev pub invariant-loop-text : goal.invariant-loop-text
invariant-loop-text l = record { so_far : l.length + length (following l.between (drop l.text-index l.others)) ≡ length (joined l.between l.texts); bound : l.length ≤ (2 * l.text-index + 1) * 2 ^ 64 }
