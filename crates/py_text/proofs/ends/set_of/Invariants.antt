use Rattle.std.proofs.Common.{◌≡◌, ℕ, take}
use Rattle.std.specs.HashSet.{contains}
use Rattle.std.specs.Prelude.{nat_eq}
use Rattle.py_meaning.specs.Texts.{is_one_of}
use Rattle.py_text.proofs.ends.set_of.Given as goal

abbrev pub invariant-loop-c : goal.invariant-loop-c
invariant-loop-c l = (q : ℕ) → contains nat_eq l.set q ≡ is_one_of (take l.c-index l.chars) q
