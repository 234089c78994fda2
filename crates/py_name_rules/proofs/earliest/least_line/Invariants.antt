use Rattle.std.proofs.Common.{◌≡◌, drop}
use Rattle.std.specs.List.{flat_map}
use Rattle.py_scopes.specs.Pieces.{lines_in}
use Rattle.py_scopes.specs.Refusals.{least}
use Rattle.py_name_rules.specs.Earliest.{earlier_of}
use Rattle.py_name_rules.proofs.earliest.least_line.Given as goal

abbrev pub invariant-loop-site : goal.invariant-loop-site
invariant-loop-site g l =
    let lines = lines_in (g.R.Rule.breaks l.rule) in
    earlier_of l.least (least (flat_map lines (drop l.site-index l.sites))) ≡ least (flat_map lines l.sites)
