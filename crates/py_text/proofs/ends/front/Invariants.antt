use Rattle.std.proofs.Common.{◌≡◌, ℕ, ◌<◌, true, get_or}
use Rattle.py_text.proofs.ends.front.Given as goal

abbrev pub invariant-loop-i : goal.invariant-loop-i
invariant-loop-i g l = (k d : ℕ) → k < l.i → g.T.Test.passes l.test (get_or l.text k d) ≡ true
