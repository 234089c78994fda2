use Rattle.std.proofs.Common.{◌≡◌, map, filter}
use Rattle.py_meaning.specs.Walk.{is_filled}
use Rattle.py_text.proofs.cuts.words.Given as goal

abbrev pub invariant-loop-word : goal.invariant-loop-word
invariant-loop-word l = l.words.items ≡ filter is_filled (map (λ word. word.now) l.yielded)
