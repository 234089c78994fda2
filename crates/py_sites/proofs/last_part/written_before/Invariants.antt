use Rattle.std.proofs.Common.{◌≡◌, ◌+◌, drop}
use Rattle.std.specs.List.{prefix_len}
use Rattle.py_sites.specs.Code.{precedes}
use Rattle.py_sites.proofs.last_part.written_before.Given as goal

abbrev pub invariant-loop-i : goal.invariant-loop-i
invariant-loop-i l = prefix_len (precedes l.number) l.named ≡ l.i + prefix_len (precedes l.number) (drop l.i l.named)
