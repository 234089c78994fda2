use Rattle.std.proofs.Common.{◌≡◌, ◌≤◌, drop}
use Rattle.py_meaning.specs.Membership.{equal_place}
use Rattle.py_objects.proofs.objects.Objects.equal_place.Given as goal

abbrev pub invariant-loop-at : goal.invariant-loop-at
invariant-loop-at l = record {
  found : equal_place l.each l.self l.item l.at (drop l.at l.items) l.fuel ≡ equal_place l.each l.self l.item 0 l.items l.fn.fuel;
  falls : l.fuel ≤ l.fn.fuel;
}
