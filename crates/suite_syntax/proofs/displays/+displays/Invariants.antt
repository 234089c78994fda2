use Rattle.std.proofs.Common.{◌≡◌, take, map}
use Rattle.suite_model.specs.Assertions.{display}
use Rattle.suite_syntax.proofs.displays.+displays.Given as goal

abbrev pub invariant-displays-loop-part : goal.invariant-displays-loop-part
invariant-displays-loop-part l = l.all ≡ map display (take l.part-index l.parts)

abbrev pub invariant-paired-loop-pair : goal.invariant-paired-loop-pair
invariant-paired-loop-pair l = l.all ≡ map (λ pair. (display pair.0, display pair.1)) (take l.pair-index l.pairs)
