-- A text to which lines are added, one after another.
use Rattle.std.specs.Prelude.{ℕ, List, [], ◌∷◌, ◌++◌, replicate}
use Rattle.py_layout.specs.Rows.{Row, Rows}
use Rattle.py_printer.specs.Style.{text_of}
use Rattle.module_printer.specs.declared.page.Page.{Page}

-- after a line of this text at a column
abbrev pub added : Page → ℕ → List ℕ → Page
added p column text = record { text = p.text ++ (replicate p.blanks 10 ++ (replicate column 32 ++ (text ++ 10 ∷ []))); blanks = 0 }

unfoldable pub add : Page → Row → Page
add p r = added p r.column (text_of r.tokens)

-- after lines
abbrev pub onto : Page → Rows → Page
onto p [] = p
onto p (r ∷ rs) = onto (add p r) rs
