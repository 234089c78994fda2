use Rattle.std.proofs.Common.{◌∙◌, ap, refl, chars}
use Rattle.py_printer.specs.declared.kinds.Last.TheVariants as last
use Rattle.py_printer.specs.Style.{put}
use Rattle.py_printer.proofs.Ascii.{keyword_chars}
use Rattle.py_printer.proofs.Inks.{inked}
use Rattle.py_printer.proofs.pen.Pen.keyword.Goals as goal

pub returns : goal.returns
unfolding put
returns c = inked c.ink.result c.args.self.now c.ink.new.self _ _ last.Word last.Word _ _ c.ink.ensures c.keyword_kind.ensures refl (ap chars c.keyword_text.ensures ∙ keyword_chars c.args.keyword)
