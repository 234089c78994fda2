use Rattle.std.proofs.Common.{◌≡◌, [], drop}
use Rattle.py_meaning.specs.Operations.{put_all}
use Rattle.py_meaning.specs.declared.object.Object.TheVariants as object
use Rattle.py_objects.proofs.displays.dict_of.Given as goal

abbrev pub invariant-loop-pair : goal.invariant-loop-pair
invariant-loop-pair l = put_all (drop l.pair-index l.pairs) l.dict ≡ put_all l.pairs (object.Dict [] 0)
