use Rattle.std.proofs.Common.{◌≡◌, drop}
use Rattle.std.specs.Prelude.{nat_lt}
use Rattle.std.specs.List.{list_any}
use Rattle.py_uses.specs.Blocks.{mixes}
use Rattle.py_uses.proofs.arguments.mixes.Given as goal

abbrev pub invariant-loop-row : goal.invariant-loop-row
invariant-loop-row l = list_any (λ row. nat_lt row.1.node.0 l.last) (drop l.row-index l.named) ≡ mixes l.plain l.named
