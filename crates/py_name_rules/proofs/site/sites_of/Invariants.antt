use Rattle.std.proofs.Common.{◌≡◌, take}
use Rattle.py_name_rules.proofs.site.sites_of.Given as goal

abbrev pub invariant-loop-piece : goal.invariant-loop-piece
invariant-loop-piece l = l.sites.items ≡ take l.piece-index l.pieces
