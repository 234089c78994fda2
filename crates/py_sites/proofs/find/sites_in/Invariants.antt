use Rattle.std.proofs.Common.{◌≡◌, ◌≤◌, ◌+◌, ◌-◌}
use Rattle.std.specs.List.{range_with_len}
use Rattle.py_sites.proofs.find.sites_in.Given as goal

abbrev pub invariant-loop-next : goal.invariant-loop-next
invariant-loop-next l = (l.initial.next ≤ l.next) × (l.initial.next ≤ l.last → l.next ≤ l.last) × (l.ids ≡ range_with_len (l.initial.next + 1) (l.next - l.initial.next))

abbrev pub decreases-loop-next : goal.decreases-loop-next
decreases-loop-next l = l.last - l.next
