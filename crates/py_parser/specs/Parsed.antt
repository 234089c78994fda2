-- The module that a text is, with its nodes numbered, or its first fault.
use Rattle.std.specs.Prelude.{ℕ, List, Result, Ok}
use Rattle.py_syntax.specs.declared.module.Module.{Module}
use Rattle.py_syntax.specs.declared.refusal.Refusal.{Refusal}
use Rattle.py_grammar.specs.Blocks.{◌>>=◌}
use Rattle.py_grammar.specs.Modules.{unnumbered}
use Rattle.py_nodes.specs.Numbers.{numbered}

unfoldable pub parsed : List ℕ → Result Module Refusal
parsed text = unnumbered text >>= λ m. Ok (numbered m)
