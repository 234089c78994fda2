use Rattle.std.proofs.Common.{◌∙◌, sym, ap, arith}
use Rattle.std.specs.Prelude.{Some}
use Rattle.py_expr_shape.specs.Cuts.{place, separates}
use Rattle.py_expr_shape.proofs.CutLemmas.{found_fits, some_is_found}
use Rattle.py_expr_shape.proofs.cut.last_cut.Goals as goal

pub overflow_sub-symbols : goal.overflow_sub-symbols
overflow_sub-symbols c = omega (arith, found_fits (separates c.args.separator) c.args.symbols.now c.loop-symbol.rest.now (place c.loop-symbol.depth c.loop-symbol.after) c.in_default.ensures c.loop-symbol.found c.loop-symbol.invariant.found_is c.in-Some-found.symbol c.in-Some-found.behind c.in-Some-found.is)

pub overflow_sub-symbols-2 : goal.overflow_sub-symbols-2
overflow_sub-symbols-2 c = omega (arith, found_fits (separates c.args.separator) c.args.symbols.now c.loop-symbol.rest.now (place c.loop-symbol.depth c.loop-symbol.after) c.in_default.ensures c.loop-symbol.found c.loop-symbol.invariant.found_is c.in-Some-found.symbol c.in-Some-found.behind c.in-Some-found.is)

pub returns : goal.returns
returns c =
    some_is_found (separates c.args.separator) c.args.symbols.now c.loop-symbol.rest.now (place c.loop-symbol.depth c.loop-symbol.after) c.in_default.ensures c.loop-symbol.found c.loop-symbol.invariant.found_is c.in-Some-found.symbol c.in-Some-found.behind c.in-Some-found.is
    ∙ ap (λ zs. Some (zs, c.in-Some-found.symbol.now, c.in-Some-found.behind.now)) (sym c.split_at.ensures.front)
