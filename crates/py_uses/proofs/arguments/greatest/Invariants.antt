use Rattle.std.proofs.Common.{◌≡◌, drop}
use Rattle.std.specs.Prelude.{max}
use Rattle.py_uses.specs.Blocks.{greatest}
use Rattle.py_uses.proofs.arguments.greatest.Given as goal

abbrev pub invariant-loop-x : goal.invariant-loop-x
invariant-loop-x l = max l.found (greatest (drop l.x-index l.xs)) ≡ greatest l.xs
