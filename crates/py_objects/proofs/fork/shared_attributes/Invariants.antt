use Rattle.std.proofs.Common.{◌≡◌, take}
use Rattle.py_objects.proofs.fork.shared_attributes.Given as goal

abbrev pub invariant-loop-attribute : goal.invariant-loop-attribute
invariant-loop-attribute l = l.shared.items ≡ take l.attribute-index l.attributes
