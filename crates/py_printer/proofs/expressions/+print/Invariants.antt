use Rattle.std.proofs.Common.{◌≡◌, map, drop, true}
use Rattle.py_language.specs.declared.shape.Symbol.TheVariants as s
use Rattle.py_printer.specs.Expressions.{draw, printed_in, joined, separator_symbol, named_symbols, entry_symbols, compared_symbols}
use Rattle.py_printer.proofs.Series.{left}
use Rattle.py_printer.proofs.expressions.+print.Given as goal

abbrev pub invariant-series-loop-x : goal.invariant-series-loop-x
invariant-series-loop-x l = draw l.fn.pen (joined true (separator_symbol l.mark) (map (printed_in l.slot) l.xs)) ≡ draw l.pen (left (printed_in l.slot) (separator_symbol l.mark) l.first l.xs l.x-index)

abbrev pub invariant-pairs-loop-entry : goal.invariant-pairs-loop-entry
invariant-pairs-loop-entry l = draw l.fn.pen (joined true s.Comma (map entry_symbols l.entries)) ≡ draw l.pen (left entry_symbols s.Comma l.first l.entries l.entry-index)

abbrev pub invariant-named_arguments-loop-argument : goal.invariant-named_arguments-loop-argument
invariant-named_arguments-loop-argument l = draw l.fn.pen (joined l.fn.are_first s.Comma (map named_symbols l.named)) ≡ draw l.pen (left named_symbols s.Comma l.first l.named l.argument-index)

abbrev pub invariant-compared-loop-other : goal.invariant-compared-loop-other
invariant-compared-loop-other l = draw l.fn.pen (compared_symbols l.others) ≡ draw l.pen (compared_symbols (drop l.other-index l.others))
