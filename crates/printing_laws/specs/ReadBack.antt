-- What was read is read back from its text: expressions, and modules.
use Rattle.std.specs.Prelude.{◌≡◌, ℕ, true, List, [], Some, Ok, encode_utf8_all}
use Rattle.std.specs.List.{list_all}
use Rattle.py_language.specs.declared.token.Token.{Token}
use Rattle.py_language.specs.Trees.{tree_at}
use Rattle.py_language.specs.TreesPlaces.{Level}
use Rattle.py_syntax.specs.declared.expr.Expr.{Expr}
use Rattle.py_syntax.specs.declared.module.Module.{Module}
use Rattle.py_grammar.specs.Blocks.{◌>>=◌}
use Rattle.py_grammar.specs.Modules.{unnumbered}
use Rattle.py_nodes.specs.Numbers.{numbered}
use Rattle.py_spelling.specs.Spelling.{is_balanced, is_sound}
use Rattle.py_printing.specs.Expressions.{expr_tokens}
use Rattle.py_printer.specs.Lines.{Line}
use Rattle.py_printer.specs.ReadBack.{IsReadBack}
use Rattle.py_layout.specs.Modules.{erased_module}
use Rattle.module_printer.specs.Modules.{module_lines, module_text}

-- ---- expressions

-- its names are identifiers and no keywords, its integers aren't negative and are of the language, and its strings are characters
abbrev pub IsPrintable : Level → Expr → Type 0
IsPrintable l x = list_all is_sound (expr_tokens l x) ≡ true

-- the tree of any tokens is read back from its text, where it is printable
abbrev pub PrintedExpressionsReadBack : Type 0
PrintedExpressionsReadBack = (l : Level) (ts : List Token) (x : Expr) → tree_at l ts ≡ Some x → IsPrintable l x → IsReadBack l x

-- ---- modules

-- what a text is read as: a module, whose nodes are numbered then
abbrev pub IsReadFrom : List ℕ → Module → Type 0
IsReadFrom text m = (unnumbered text >>= λ read. Ok (numbered read)) ≡ Ok m

-- The brackets of each line of the module's text close in order, and no more than 50 are open at once, as in every text. A tuple in an index is
-- printed with brackets of its own, so the index of a target may have more of them than were read.
abbrev pub HasFewBrackets : Module → Type 0
HasFewBrackets m = list_all (λ (l : Line). is_balanced [] l.tokens) (module_lines m) ≡ true

-- what the module's text is read as is the same module, up to lines and node numbers
abbrev pub IsModuleReadBack : Module → Type 0
IsModuleReadBack m = (made : Module) × (IsReadFrom (encode_utf8_all (module_text m)) made × (erased_module made ≡ erased_module m))

-- a module that any text is read as is read back from its text
abbrev pub PrintedModulesReadBack : Type 0
PrintedModulesReadBack = (text : List ℕ) (m : Module) → IsReadFrom text m → HasFewBrackets m → IsModuleReadBack m

-- ---- numbers

-- numbering the nodes of a module changes neither its lines nor what it is up to lines and node numbers
pub record IsNumberedAlike (m : Module) : Type 0 where
  pub lines : module_lines (numbered m) ≡ module_lines m
  pub same : erased_module (numbered m) ≡ erased_module m

abbrev pub NumbersChangeNothing : Type 0
NumbersChangeNothing = (m : Module) → IsNumberedAlike m
