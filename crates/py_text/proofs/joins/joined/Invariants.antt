use Rattle.std.proofs.Common.{◌≡◌, ◌++◌, drop}
use Rattle.py_meaning.specs.Texts.{joined}
use Rattle.py_text.proofs.Joining.{following}
use Rattle.py_text.proofs.joins.joined.Given as goal

abbrev pub invariant-loop-text : goal.invariant-loop-text
invariant-loop-text l = l.joined.items ++ following l.between (drop l.text-index l.others) ≡ joined l.between l.texts
