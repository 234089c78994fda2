-- The parts of a module or a class, from the front, with the empty lines between them.
use Rattle.std.proofs.Common.{◌≡◌, ◌∙◌, sym, ap, ℕ, ◌+◌, List, [], ◌∷◌, ◌++◌, ◌<◌, ◌≤◌, length, drop, get_or, Option, Some, append_assoc, append-nil}
use Rattle.std.proofs.lemmas.List.{drop_all}
use Rattle.std.specs.Prelude.{Result, Ok, Err, OnOk}
use Rattle.py_syntax.specs.declared.module.Class.{Class}
use Rattle.py_syntax.specs.declared.module.Member.{Member}
use Rattle.py_layout.specs.Rows.{Rows}
use Rattle.py_printer.specs.Lines.{Line, lines_text}
use Rattle.module_printer.specs.declared.gaps.Part.{Part}
use Rattle.module_printer.specs.declared.page.Page.{Page}
use Rattle.module_printer.specs.Modules.{gap, spaced, lines_of, class_row, class_lines, members_lines}
use Rattle.module_printer.specs.Pages.{onto}
use Rattle.module_printer.proofs.Commas.{rest_of}
use Rattle.module_printer.proofs.Pages.{lines_append, onto_text}

module _ {X : Type 0} (wide : ℕ) (part_of : X → Part) (lines : ℕ → X → List Line) where
  -- the text of what is left from a place on
  abbrev pub left : Option Part → List X → ℕ → List ℕ
  left last xs i = lines_text (spaced wide part_of lines last (drop i xs))

  pub one_part : (xs : List X) (i : ℕ) (x : X) (last : Option Part) (this : Part) (blanks : ℕ) (whole p q : List ℕ) → i < length xs → x ≡ get_or xs i x → whole ≡ p ++ left last xs i
      → this ≡ part_of x → blanks ≡ gap wide last this → q ≡ p ++ lines_text (lines blanks x) → whole ≡ q ++ left (Some this) xs (i + 1)
  one_part xs i x last this blanks whole p q lt is before kind size a =
      let rest = spaced wide part_of lines (Some (part_of x)) (drop (i + 1) xs) in
      let own = lines (gap wide last (part_of x)) x in
      before ∙ ap (λ ys. p ++ lines_text (spaced wide part_of lines last ys)) (rest_of xs i x lt is)
      ∙ ap (λ z. p ++ z) (lines_append own rest) ∙ sym (append_assoc p (lines_text own) (lines_text rest))
      ∙ ap (λ n. (p ++ lines_text (lines n x)) ++ lines_text rest) (sym (size ∙ ap (λ k. gap wide last k) kind))
      ∙ ap (λ z. z ++ lines_text rest) (sym a)
      ∙ ap (λ k. q ++ left (Some k) xs (i + 1)) (sym kind)

  pub all_parts : (xs : List X) (i : ℕ) (last : Option Part) (whole p : List ℕ) → length xs ≤ i → whole ≡ p ++ left last xs i → p ≡ whole
  all_parts xs i last whole p le before = sym (before ∙ ap (λ ys. p ++ lines_text (spaced wide part_of lines last ys)) (drop_all i xs le) ∙ append-nil p)

-- ---- a page after lines, as its text

pub text_ok : {T E : Type 0} (r : Result T E) (before after : Page) (rows : Rows) → OnOk r (after ≡ onto before rows) → OnOk r (after.text ≡ before.text ++ lines_text (lines_of before.blanks rows))
text_ok (Ok v) before after rows e = ap (λ (p : Page). p.text) e ∙ onto_text before rows
text_ok (Err v) before after rows e = tt

pub class_ok : {T E : Type 0} (r : Result T E) (x : Class) (members : List Member) (before middle after : Page) → middle ≡ onto before (class_row x ∷ []) → members ≡ x.members
    → OnOk r (after.text ≡ middle.text ++ lines_text (members_lines members)) → OnOk r (after.text ≡ before.text ++ lines_text (class_lines before.blanks x))
class_ok (Ok v) x members before middle after a same b =
    let head = lines_of before.blanks (class_row x ∷ []) in
    b ∙ ap (λ ms. middle.text ++ lines_text (members_lines ms)) same
    ∙ ap (λ z. z ++ lines_text (members_lines x.members)) (ap (λ (p : Page). p.text) a ∙ onto_text before (class_row x ∷ []))
    ∙ append_assoc before.text (lines_text head) (lines_text (members_lines x.members))
    ∙ ap (λ z. before.text ++ z) (sym (lines_append head (members_lines x.members)))
class_ok (Err v) x members before middle after a same b = tt
