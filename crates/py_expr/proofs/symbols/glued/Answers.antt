use Rattle.std.proofs.Common.{◌∙◌, ap, ◌++◌}
use Rattle.py_expr.proofs.SymbolLemmas.{glued_goes_on, glued_ended}
use Rattle.py_expr.proofs.symbols.glued.Goals as goal

pub loop-token-preserved : goal.loop-token-preserved
loop-token-preserved c = glued_goes_on _ _ _ _ _ _ _ c.loop-token-test.true c.token-item.is c.loop-token.invariant (c.in_ok-push_str.ensures.ok ∙ ap (λ t. c.loop-token.text ++ t) c.text_of.ensures)

pub returns : goal.returns
returns c = glued_ended _ _ _ _ _ _ c.loop-token-test.false c.loop-token.invariant (c.in_ok-push_str-2.ensures.ok ∙ ap (λ t. c.loop-token.text ++ t) c.as_str.ensures.chars)
