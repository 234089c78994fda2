use Rattle.std.proofs.Common.{◌≡◌, drop}
use Rattle.std.specs.List.{flat_map}
use Rattle.py_sites.specs.Refs.{seen_option}
use Rattle.py_sites.specs.Walks.{last_from}
use Rattle.py_sites.proofs.last_part.slice_part.Given as goal

abbrev pub invariant-loop-one : goal.invariant-loop-one
invariant-loop-one g l = last_from l.limit (seen_option l.best) (flat_map g.T.Parted.listed l.xs) ≡ last_from l.limit (seen_option l.found) (flat_map g.T.Parted.listed (drop l.one-index l.xs))
