-- What holds of the lines of every module that reading gives.
use Rattle.std.specs.Prelude.{IsTrue, List, Ok, ℕ, ◌≡◌}
use Rattle.py_syntax.specs.declared.module.Module.{Module}
use Rattle.py_grammar.specs.Blocks.{◌>>=◌}
use Rattle.py_grammar.specs.Modules.{unnumbered}
use Rattle.py_nodes.specs.Numbers.{numbered}
use Rattle.py_plain.specs.Program.{program_of}
use Rattle.line_laws.specs.PlainLines.{has_plain_lines}

-- what a text is read as: a module, whose nodes are numbered then
abbrev pub IsReadFrom : List ℕ → Module → Type 0
IsReadFrom text m = (unnumbered text >>= λ read. Ok (numbered read)) ≡ Ok m

abbrev pub LinesArePlain : Type 0
LinesArePlain = (text : List ℕ) (m : Module) → IsReadFrom text m → IsTrue (has_plain_lines (program_of m))
