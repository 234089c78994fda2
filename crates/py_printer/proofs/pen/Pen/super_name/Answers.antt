use Rattle.std.proofs.Common.{refl}
use Rattle.py_printing.specs.SymbolTokens.{super_name}
use Rattle.py_printer.specs.declared.kinds.Kind.TheVariants as is
use Rattle.py_printer.specs.declared.kinds.Last.TheVariants as last
use Rattle.py_printer.specs.Style.{put}
use Rattle.py_printer.proofs.Ascii.{chars_of_ascii}
use Rattle.py_printer.proofs.Inks.{inked}
use Rattle.py_printer.proofs.pen.Pen.super_name.Goals as goal

pub returns : goal.returns
unfolding put
returns c = inked c.ink.result c.args.self.now c.ink.new.self is.Operand is.Operand last.Word last.Word _ _ c.ink.ensures refl refl (chars_of_ascii super_name refl)
