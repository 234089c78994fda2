use Rattle.std.proofs.Common.{◌≡◌, map, drop}
use Rattle.py_meaning.specs.Keys.{as_key, all_keys}
use Rattle.py_objects.proofs.objects.Objects.are_keys.Given as goal

abbrev pub invariant-loop-pair : goal.invariant-loop-pair
invariant-loop-pair l = all_keys (map (λ pair. as_key l.self pair.0) (drop l.pair-index l.pairs)) ≡ all_keys (map (λ pair. as_key l.self pair.0) l.pairs)
