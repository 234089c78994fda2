use Rattle.std.proofs.Common.{◌≡◌, ◌+◌, ◌*◌, ◌^◌, ◌≤◌, length}
use Rattle.py_meaning.specs.Texts.{joined, pieces}
use Rattle.py_text.proofs.joins.length_in_places.Given as goal

-- Each place takes a character of the text at least, and what is put there has fewer than 2 ^ 64.
abbrev pub invariant-loop-at : goal.invariant-loop-at
invariant-loop-at l = record {
  so_far : l.length + length (joined l.new (pieces l.part l.rest)) ≡ length (joined l.new (pieces l.part l.text));
  bound : l.length + length l.rest * 2 ^ 64 ≤ length l.text * 2 ^ 64;
}

abbrev pub decreases-loop-at : goal.decreases-loop-at
decreases-loop-at l = length l.rest
