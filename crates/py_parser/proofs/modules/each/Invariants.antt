use Rattle.std.proofs.Common.{◌≡◌, ◌++◌, map, reverse, length}
use Rattle.py_parser.proofs.modules.each.Given as goal

abbrev pub invariant-loop-item : goal.invariant-loop-item
invariant-loop-item g l = (f : _ → _) → ((x : _) (u : _) → goal.G-post g l.wrap x u → u ≡ f x) → map f l.fn.items ≡ l.all ++ map f (reverse l.rest)

abbrev pub decreases-loop-item : goal.decreases-loop-item
decreases-loop-item g l = length l.rest
