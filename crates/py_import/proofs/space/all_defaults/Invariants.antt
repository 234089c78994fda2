use Rattle.std.proofs.Common.{◌≡◌, ◌++◌, drop, map}
use Rattle.py_plain.specs.Import.{defaults_of}
use Rattle.py_import.proofs.space.all_defaults.Given as goal

abbrev pub invariant-loop-f : goal.invariant-loop-f
invariant-loop-f l = l.all ++ map (λ f. defaults_of l.names f.tree) (drop l.f-index l.functions) ≡ map (λ f. defaults_of l.names f.tree) l.functions
