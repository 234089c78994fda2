use Rattle.std.proofs.Common.{◌∙◌, ap, refl}
use Rattle.std.specs.Prelude.{decimal}
use Rattle.std.proofs.lemmas.Str.{chars-IsAscii}
use Rattle.py_printer.specs.declared.kinds.Kind.TheVariants as is
use Rattle.py_printer.specs.declared.kinds.Last.TheVariants as last
use Rattle.py_printer.specs.Style.{put}
use Rattle.py_printer.proofs.Inks.{inked}
use Rattle.py_printer.proofs.pen.Pen.integer.Goals as goal

pub returns : goal.returns
unfolding put
returns c =
    inked c.ink.result c.args.self.now c.ink.new.self is.Operand is.Operand last.Number last.Number _ _ c.ink.ensures refl refl
    (chars-IsAscii c.format-digits.result.now c.format-digits.ensures.ascii ∙ c.format-digits.ensures.text ∙ ap decimal c.magnitude-size.ensures)
