use Rattle.std.proofs.Common.{◌∙◌, sym, ap, arith}
use Rattle.std.specs.Prelude.{Some}
use Rattle.py_line.proofs.CutLemmas.{found_fits, some_is_found}
use Rattle.py_line.proofs.cut.last_cut.Goals as goal

pub overflow_sub-tokens : goal.overflow_sub-tokens
overflow_sub-tokens c = omega (arith, found_fits c.args.separator c.args.tokens.now c.loop-token.rest.now c.loop-token.depth c.in_default.ensures c.loop-token.found c.loop-token.invariant.found_is c.in-Some-found.token c.in-Some-found.behind c.in-Some-found.is)

pub overflow_sub-tokens-2 : goal.overflow_sub-tokens-2
overflow_sub-tokens-2 c = omega (arith, found_fits c.args.separator c.args.tokens.now c.loop-token.rest.now c.loop-token.depth c.in_default.ensures c.loop-token.found c.loop-token.invariant.found_is c.in-Some-found.token c.in-Some-found.behind c.in-Some-found.is)

pub returns : goal.returns
returns c =
    some_is_found c.args.separator c.args.tokens.now c.loop-token.rest.now c.loop-token.depth c.in_default.ensures c.loop-token.found c.loop-token.invariant.found_is c.in-Some-found.token c.in-Some-found.behind c.in-Some-found.is
    ∙ ap (λ zs. Some (zs, c.in-Some-found.token.now, c.in-Some-found.behind.now)) (sym c.split_at.ensures.front)
