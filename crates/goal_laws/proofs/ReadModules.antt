-- A module that was read is numbered and has plain lines, so its runs take parents.
use Rattle.std.proofs.Common.{◌≡◌, subst, Result, Ok, Err}
use Rattle.py_syntax.specs.declared.module.Module.{Module}
use Rattle.py_syntax.specs.declared.refusal.Refusal.{Refusal}
use Rattle.py_grammar.specs.Blocks.{◌>>=◌}
use Rattle.py_grammar.specs.Modules.{unnumbered}
use Rattle.py_nodes.specs.Numbers.{numbered}
use Rattle.py_sites.specs.Nodes.{IsNumbered}
use Rattle.line_laws.specs.Laws.{LinesArePlain}
use Rattle.goal_laws.specs.Laws.{TestsTakeParents, ReadTestsTakeParents}

abbrev AreNumbered : Type 0
AreNumbered = (m : Module) → IsNumbered (numbered m)

numbered_when_read : AreNumbered → (read : Result Module Refusal) (m : Module) → (read >>= λ r. Ok (numbered r)) ≡ Ok m → IsNumbered m
numbered_when_read dense (Ok r) m h = let e : numbered r ≡ m = cc in subst IsNumbered e (dense r)
numbered_when_read dense (Err e) m h = absurd (cc)

pub read_tests : LinesArePlain → AreNumbered → TestsTakeParents → ReadTestsTakeParents
read_tests plain dense take text m h limit test = take m (numbered_when_read dense (unnumbered text) m h) (plain text m h) limit test
