use Rattle.std.proofs.Common.{◌≡◌, ◌+◌, ◌≤◌, length, take}
use Rattle.std.specs.List.{suffix_len}
use Rattle.py_text.proofs.ends.without_end.Given as goal

abbrev pub invariant-loop-len : goal.invariant-loop-len
invariant-loop-len g l = record { within : l.len ≤ length l.text; so_far : l.len + suffix_len (g.T.Test.passes l.test) l.text ≡ length l.text + suffix_len (g.T.Test.passes l.test) (take l.len l.text) }

abbrev pub decreases-loop-len : goal.decreases-loop-len
decreases-loop-len g l = l.len
