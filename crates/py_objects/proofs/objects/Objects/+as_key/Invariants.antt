use Rattle.std.proofs.Common.{◌≡◌, map, drop}
use Rattle.py_meaning.specs.Keys.{as_key, all_keys}
use Rattle.py_objects.proofs.objects.Objects.+as_key.Given as goal

abbrev pub invariant-all_keys-loop-part : goal.invariant-all_keys-loop-part
invariant-all_keys-loop-part l = all_keys (map (as_key l.self) (drop l.part-index l.parts)) ≡ all_keys (map (as_key l.self) l.parts)
