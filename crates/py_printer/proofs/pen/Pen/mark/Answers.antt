use Rattle.std.proofs.Common.{◌∙◌, ap, chars}
use Rattle.py_printer.specs.Kinds.{mark_last}
use Rattle.py_printer.specs.Style.{put}
use Rattle.py_printer.proofs.Ascii.{mark_chars}
use Rattle.py_printer.proofs.Inks.{inked}
use Rattle.py_printer.proofs.pen.Pen.mark.Goals as goal

pub returns : goal.returns
unfolding put
returns c =
    inked c.ink.result c.args.self.now c.ink.new.self _ _ _ _ _ _ c.ink.ensures c.mark_kind-kind.ensures (c.mark_last.ensures ∙ ap mark_last c.mark_kind-kind.ensures)
    (ap chars c.mark_text.ensures ∙ mark_chars c.args.mark)
