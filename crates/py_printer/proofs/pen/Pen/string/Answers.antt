use Rattle.std.proofs.Common.{◌≡◌, ◌∙◌, ap, ap₂, refl, chars, [], ◌∷◌, ◌++◌, List, ℕ}
use Rattle.py_spelling.specs.Spelling.{space, glyphs}
use Rattle.py_language.specs.declared.token.Token.TheVariants as t
use Rattle.py_printer.specs.declared.kinds.Kind.TheVariants as is
use Rattle.py_printer.specs.declared.kinds.Last.TheVariants as last
use Rattle.py_printer.specs.declared.pen.Pen.{Pen}
use Rattle.py_printer.specs.Style.{put, ink, has_gap}
use Rattle.py_printer.proofs.Ascii.{chars_of_ascii}
use Rattle.py_printer.proofs.Inks.{quoted_text}
use Rattle.py_printer.proofs.pen.Pen.string.Goals as goal

abbrev with : Pen → List ℕ → Pen
with q text = record { text = text; last = q.last; place = q.place; opened = q.opened }

-- a quote, the characters and a quote are the token
joined_is : (p q : Pen) (s front whole cs : List ℕ) → q ≡ ink p is.Operand last.Quoted (chars (34 ∷ [])) → cs ≡ s → front ≡ q.text ++ glyphs cs → whole ≡ front ++ 34 ∷ [] → with q whole ≡ put p (t.Str s)
unfolding put
joined_is p q s front whole cs a b d e =
    let f : q ≡ ink p is.Operand last.Quoted (34 ∷ []) = a ∙ ap (ink p is.Operand last.Quoted) (chars_of_ascii (34 ∷ []) refl) in
    let g : whole ≡ ((ink p is.Operand last.Quoted (34 ∷ [])).text ++ glyphs s) ++ 34 ∷ [] = e ∙ ap (λ xs. xs ++ 34 ∷ []) (d ∙ ap₂ (λ (q : Pen) cs. q.text ++ glyphs cs) f b) in
    ap₂ with f (g ∙ quoted_text p.text (space (has_gap p is.Operand (34 ∷ []))) (glyphs s))

pub returns : goal.returns
returns c = joined_is c.args.self.now c.ink.new.self c.args.string.now c.push_glyphs.new.to c.push.new.self _ c.in_ok-ink.ensures c.as_str.ensures.chars c.in_ok-push_glyphs.ensures c.in_ok-push.ensures.ok
