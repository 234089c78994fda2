use Rattle.std.proofs.Common.{◌≡◌, take, map}
use Rattle.suite_model.specs.Types.{annotated}
use Rattle.test_chromosome.proofs.annotations.+annotated.Given as goal

abbrev pub invariant-all_annotated-loop-part : goal.invariant-all_annotated-loop-part
invariant-all_annotated-loop-part l = l.types ≡ map (annotated l.tables.classes) (take l.part-index l.parts)
