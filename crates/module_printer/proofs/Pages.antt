-- Pages after lines.
use Rattle.std.proofs.Common.{◌≡◌, ◌∙◌, sym, ap, refl, ℕ, zero, suc, ◌+◌, List, [], ◌∷◌, ◌++◌, append_assoc, append-nil, add-one}
use Rattle.std.specs.Prelude.{replicate}
use Rattle.py_layout.specs.Rows.{Row, Rows}
use Rattle.py_printer.specs.Lines.{Line, line_text, lines_text}
use Rattle.module_printer.specs.declared.page.Page.{Page}
use Rattle.module_printer.specs.Modules.{lines_of}
use Rattle.module_printer.specs.Pages.{add, onto}

more : (n c : ℕ) → replicate n c ++ c ∷ [] ≡ replicate (suc n) c
more zero c = refl
more (suc n) c = ap (λ z. c ∷ z) (more n c)

pub one_more : (n c : ℕ) → replicate n c ++ c ∷ [] ≡ replicate (n + 1) c
one_more n c = more n c ∙ ap (λ k. replicate k c) (sym (add-one n))

pub line_added : (text line : List ℕ) (blanks column : ℕ)
    → (((text ++ replicate blanks 10) ++ replicate column 32) ++ line) ++ 10 ∷ [] ≡ text ++ (replicate blanks 10 ++ (replicate column 32 ++ (line ++ 10 ∷ [])))
line_added text line blanks column =
    let gap = replicate blanks 10 in
    let indent = replicate column 32 in
    append_assoc ((text ++ gap) ++ indent) line (10 ∷ []) ∙ append_assoc (text ++ gap) indent (line ++ 10 ∷ []) ∙ append_assoc text gap (indent ++ (line ++ 10 ∷ []))

pub onto_append : (p : Page) (xs ys : Rows) → onto p (xs ++ ys) ≡ onto (onto p xs) ys
onto_append p [] ys = refl
onto_append p (x ∷ xs) ys = onto_append (add p x) xs ys

pub onto_cons : (p : Page) (r : Row) (rows : Rows) → onto p (r ∷ rows) ≡ onto (onto p (r ∷ [])) rows
onto_cons p r rows = refl

pub onto_nil : (p : Page) → onto p [] ≡ p
onto_nil p = refl

pub lines_append : (xs ys : List Line) → lines_text (xs ++ ys) ≡ lines_text xs ++ lines_text ys
lines_append [] ys = refl
lines_append (x ∷ xs) ys = ap (λ z. line_text x ++ z) (lines_append xs ys) ∙ sym (append_assoc (line_text x) (lines_text xs) (lines_text ys))

-- the text of a page after lines, of which the first has the page's empty lines before it
pub onto_text : (p : Page) (rs : Rows) → (onto p rs).text ≡ p.text ++ lines_text (lines_of p.blanks rs)
unfolding add
onto_text p [] = sym (append-nil p.text)
onto_text p (r ∷ rs) = onto_text (add p r) rs ∙ append_assoc p.text _ (lines_text (lines_of 0 rs))
