use Rattle.std.proofs.Common.{◌≡◌, ◌++◌}
use Rattle.py_spelling.specs.Spelling.{glyphs_by}
use Rattle.py_printer.proofs.pen.push_glyphs_by.Given as goal

abbrev pub invariant-loop-c : goal.invariant-loop-c
invariant-loop-c l = l.to ≡ l.fn.to ++ glyphs_by l.nested l.yielded
