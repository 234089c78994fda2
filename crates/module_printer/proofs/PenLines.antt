-- A pen's text as a line of a page.
use Rattle.std.proofs.Common.{◌≡◌, ◌∙◌, ap, ℕ, List, [], ◌∷◌}
use Rattle.std.specs.Prelude.{Result, Ok, Err, OnOk}
use Rattle.py_language.specs.declared.token.Token.{Token}
use Rattle.py_layout.specs.Rows.{row}
use Rattle.py_printer.specs.declared.pen.Pen.{Pen}
use Rattle.py_printer.specs.Style.{fresh, write}
use Rattle.module_printer.specs.declared.page.Page.{Page}
use Rattle.module_printer.specs.Pages.{added, add, onto}

pub line_ok : {T E : Type 0} (r : Result T E) (before after : Page) (column : ℕ) (start p : Pen) (ts : List Token) → start ≡ fresh [] → p ≡ write start ts
    → OnOk r (after ≡ added before column p.text) → OnOk r (after ≡ onto before (row column ts ∷ []))
unfolding add
line_ok (Ok v) before after column start p ts s e h = h ∙ ap (λ (q : Pen). added before column q.text) (e ∙ ap (λ q. write q ts) s)
line_ok (Err v) before after column start p ts s e h = tt
