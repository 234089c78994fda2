use Rattle.std.proofs.Common.{sym, ap, ◌∙◌, ◌++◌, map-id, append-nil, append_assoc}
use Rattle.std.proofs.lemmas.Iterator.{YieldsList-from_chars}
use Rattle.std.proofs.lemmas.Iterator.Consumers.{YieldsList-end}
use Rattle.py_spelling.specs.Spelling.{glyph, glyphs_by}
use Rattle.py_printer.proofs.Inks.{glyphs-push}
use Rattle.py_printer.proofs.pen.push_glyphs_by.Goals as goal

pub loop-c-init : goal.loop-c-init
loop-c-init c = sym (append-nil _)

pub loop-c-preserved : goal.loop-c-preserved
loop-c-preserved c =
    c.in_ok-push_glyph.ensures ∙ ap (λ xs. xs ++ glyph c.args.nested c.in-Some.c) c.loop-c.invariant
    ∙ append_assoc c.args.to.now (glyphs_by c.args.nested c.loop-c.yielded) (glyph c.args.nested c.in-Some.c) ∙ ap (λ xs. c.args.to.now ++ xs) (sym (glyphs-push c.args.nested c.loop-c.yielded c.in-Some.c))

pub returns : goal.returns
returns c =
    let end = YieldsList-end (YieldsList-from_chars c.args.string.now c.utf8.string cc) c.loop-c.yielded _ c.loop-c.yielded_by _ _ c.in-None.is c.next.ensures.steps in
    c.loop-c.invariant ∙ ap (λ cs. c.args.to.now ++ glyphs_by c.args.nested cs) (sym (map-id c.loop-c.yielded) ∙ end.0)
