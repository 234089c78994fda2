use Rattle.std.proofs.Common.{sym, ap, ◌∙◌, length}
use Rattle.std.proofs.lemmas.Bool.Decides.{Decides-eqb}
use Rattle.py_text.proofs.Joining.{length_everywhere, replaced_empty}
use Rattle.py_text.proofs.joins.replaced_length.Goals as goal

pub returns-then-is_empty : goal.returns-then-is_empty
returns-then-is_empty c =
    c.length_everywhere.ensures ∙ sym (length_everywhere c.args.new.now c.args.text.now) ∙ ap length (sym (replaced_empty c.args.part.now c.args.new.now c.args.text.now ((Decides-eqb (length c.args.part.now) 0).0 (sym c.if-is_empty.ensures))))
