use Rattle.std.proofs.Common.{◌≡◌, ◌∙◌, refl, ap, ◌++◌, []}
use Rattle.py_language.specs.TreesPlaces.{Conditional}
use Rattle.py_syntax.specs.declared.expr.Expr.{Expr}
use Rattle.py_printer.specs.declared.pen.Pen.{Pen}
use Rattle.py_printer.specs.declared.slots.Slot.TheVariants as slot
use Rattle.py_printer.specs.Expressions.{draw, printed_in}
use Rattle.py_printer.specs.ReadBack.{expr_text}
use Rattle.py_printer.specs.Style.{fresh}
use Rattle.py_printer.proofs.Inks.{on_ok}
use Rattle.py_printer.proofs.printer.print_expr.Goals as goal

text_drawn : (x : Expr) → (draw (fresh []) (printed_in slot.Conditional x)).text ≡ expr_text x
unfolding draw
text_drawn x = refl

pub returns-clause-text : goal.returns-clause-text
returns-clause-text c =
    let start : c.new-pen.result ≡ fresh [] = c.new-pen.ensures ∙ ap fresh c.new.ensures in
    on_ok c.push_str.result c.push_str.new.self _ _ c.push_str.ensures.ok
    (ap (λ xs. c.args.to.now ++ xs) (c.as_str.ensures.chars ∙ ap (λ (p : Pen). p.text) (c.in_ok-expression.ensures ∙ ap (λ p. draw p (printed_in slot.Conditional c.args.expr.now)) start) ∙ text_drawn c.args.expr.now))

pub returns-clause-back : goal.returns-clause-back
returns-clause-back c = λ ts s h. c.laws_of_printing.ensures.back Conditional ts c.args.expr.now s h

pub returns-in_err-expression-clause-back : goal.returns-in_err-expression-clause-back
returns-in_err-expression-clause-back c = λ ts s h. c.laws_of_printing.ensures.back Conditional ts c.args.expr.now s h
