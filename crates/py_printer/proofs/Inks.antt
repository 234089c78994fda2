-- What the pen's calls give, over plain variables.
use Rattle.std.proofs.Common.{◌≡◌, ◌∙◌, sym, ap, ℕ, Bool, List, [], ◌∷◌, ◌++◌, append_assoc, append-nil}
use Rattle.std.specs.Prelude.{Result, Ok, Err, OnOk}
use Rattle.py_spelling.specs.Spelling.{glyph, glyphs_by}
use Rattle.py_printer.specs.declared.kinds.Kind.{Kind}
use Rattle.py_printer.specs.declared.kinds.Last.{Last}
use Rattle.py_printer.specs.declared.pen.Pen.{Pen}
use Rattle.py_printer.specs.Style.{ink}

pub on_ok : {T E X : Type 0} (r : Result T E) (x y z : X) → OnOk r (x ≡ y) → y ≡ z → OnOk r (x ≡ z)
on_ok (Ok v) x y z h e = h ∙ e
on_ok (Err v) x y z h e = tt

pub inked : {T E : Type 0} (r : Result T E) (p q : Pen) (k k' : Kind) (l l' : Last) (ts ts' : List ℕ) → OnOk r (q ≡ ink p k l ts) → k ≡ k' → l ≡ l' → ts ≡ ts' → OnOk r (q ≡ ink p k' l' ts')
inked r p q k k' l l' ts ts' h a b c =
    on_ok r q (ink p k l ts) (ink p k' l' ts') h
    (ap (λ k. ink p k l ts) a ∙ ap (λ l. ink p k' l ts) b ∙ ap (λ ts. ink p k' l' ts) c)

pub glyphs-push : (nested : Bool) (cs : List ℕ) (c : ℕ) → glyphs_by nested (cs ++ c ∷ []) ≡ glyphs_by nested cs ++ glyph nested c
glyphs-push nested [] c = append-nil (glyph nested c)
glyphs-push nested (d ∷ cs) c = ap (λ xs. glyph nested d ++ xs) (glyphs-push nested cs c) ∙ sym (append_assoc (glyph nested d) (glyphs_by nested cs) (glyph nested c))

-- a quote, what is between, and a quote
pub quoted_text : (front sp gs : List ℕ) → ((front ++ (sp ++ 34 ∷ [])) ++ gs) ++ 34 ∷ [] ≡ front ++ (sp ++ 34 ∷ (gs ++ 34 ∷ []))
quoted_text front sp gs = simp append_assoc
