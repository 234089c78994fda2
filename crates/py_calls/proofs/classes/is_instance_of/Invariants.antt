use Rattle.std.proofs.Common.{◌≡◌, ◌≤◌, drop}
use Rattle.py_plain.specs.Builtins.{is_instance_of}
use Rattle.py_calls.proofs.classes.is_instance_of.Given as goal

abbrev pub invariant-loop-x : goal.invariant-loop-x
invariant-loop-x l = record {
  left : is_instance_of l.tables l.class (drop l.x-index l.classes) l.fuel ≡ is_instance_of l.tables l.class l.classes l.fn.fuel;
  fuel : l.fuel ≤ l.fn.fuel;
}
