-- Pages after lines, and a pen's text as a line of a page.
use Rattle.std.proofs.Common.{◌≡◌, ◌∙◌, ap, refl, sym, ℕ, List, [], ◌∷◌, ◌++◌, append_assoc, append-nil}
use Rattle.std.specs.Prelude.{Result, Ok, Err, OnOk}
use Rattle.py_language.specs.declared.token.Token.{Token}
use Rattle.py_layout.specs.Rows.{Row, Rows, row}
use Rattle.py_printer.specs.declared.pen.Pen.{Pen}
use Rattle.py_printer.specs.Lines.{Line, line_text, lines_text}
use Rattle.py_printer.specs.Style.{fresh, write}
use Rattle.module_printer.specs.declared.page.Page.{Page}
use Rattle.module_printer.specs.Modules.{lines_of}
use Rattle.module_printer.specs.Pages.{added, add, onto}

pub onto_append : (p : Page) (xs ys : Rows) → onto p (xs ++ ys) ≡ onto (onto p xs) ys
onto_append p [] ys = refl
onto_append p (x ∷ xs) ys = onto_append (add p x) xs ys

pub onto_cons : (p : Page) (r : Row) (rows : Rows) → onto p (r ∷ rows) ≡ onto (onto p (r ∷ [])) rows
onto_cons p r rows = refl

pub lines_append : (xs ys : List Line) → lines_text (xs ++ ys) ≡ lines_text xs ++ lines_text ys
lines_append [] ys = refl
lines_append (x ∷ xs) ys = ap (λ z. line_text x ++ z) (lines_append xs ys) ∙ sym (append_assoc (line_text x) (lines_text xs) (lines_text ys))

-- the text of a page after lines, of which the first has the page's empty lines before it
pub onto_text : (p : Page) (rs : Rows) → (onto p rs).text ≡ p.text ++ lines_text (lines_of p.blanks rs)
unfolding add
onto_text p [] = sym (append-nil p.text)
onto_text p (r ∷ rs) = onto_text (add p r) rs ∙ append_assoc p.text _ (lines_text (lines_of 0 rs))

-- the tokens that a new pen wrote are a line
pub line_ok : {T E : Type 0} (r : Result T E) (before after : Page) (column : ℕ) (start p : Pen) (ts : List Token) → start ≡ fresh [] → p ≡ write start ts
    → OnOk r (after ≡ added before column p.text) → OnOk r (after ≡ onto before (row column ts ∷ []))
unfolding add
line_ok (Ok v) before after column start p ts s e h = h ∙ ap (λ (q : Pen). added before column q.text) (e ∙ ap (λ q. write q ts) s)
line_ok (Err v) before after column start p ts s e h = tt
