use Rattle.std.proofs.Common.{◌≡◌, drop}
use Rattle.std.specs.List.{flat_map}
use Rattle.py_scopes.specs.Refusals.{least}
use Rattle.py_name_rules.specs.Earliest.{earlier_of, fault_at}
use Rattle.py_name_rules.proofs.earliest.least_in.Given as goal

abbrev pub invariant-loop-used : goal.invariant-loop-used
invariant-loop-used g l =
    let faults = fault_at (g.R.Rule.breaks l.rule) l.site.place in
    earlier_of l.least (least (flat_map faults (drop l.used-index l.all))) ≡ earlier_of l.initial.least (least (flat_map faults l.all))
