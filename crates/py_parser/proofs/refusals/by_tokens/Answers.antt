use Rattle.std.proofs.Common.{◌∙◌, sym, ap}
use Rattle.py_grammar.specs.Refusals.{by_tokens, or_else}
use Rattle.py_parser.proofs.refusals.by_tokens.Goals as goal

pub returns-in-Some-foreign : goal.returns-in-Some-foreign
returns-in-Some-foreign c = sym (c.loop-token.invariant ∙ ap by_tokens c.in-Some.ensures ∙ ap (λ o. or_else o (by_tokens c.in-Some.others.now)) (sym c.in-Some-foreign.ensures))

pub loop-token-preserved : goal.loop-token-preserved
loop-token-preserved c = c.loop-token.invariant ∙ ap by_tokens c.in-Some.ensures ∙ ap (λ o. or_else o (by_tokens c.in-Some.others.now)) (sym c.in-None.ensures)

pub returns : goal.returns
returns c = sym (c.loop-token.invariant ∙ ap by_tokens c.in_default.ensures)
