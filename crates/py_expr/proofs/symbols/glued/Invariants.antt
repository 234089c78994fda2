use Rattle.std.proofs.Common.{◌≡◌, ◌++◌, drop}
use Rattle.py_expr.specs.Stacks.{glued}
use Rattle.py_expr.proofs.symbols.glued.Given as goal

abbrev pub invariant-loop-token : goal.invariant-loop-token
invariant-loop-token l = glued l.strings l.last ≡ l.text ++ glued (drop l.token-index l.strings) l.last
