use Rattle.std.proofs.Common.{◌∙◌}
use Rattle.py_line.proofs.CutLemmas.{cut_front, back_is}
use Rattle.py_line.proofs.cut.cut.Goals as goal

pub returns-clause-front : goal.returns-clause-front
returns-clause-front c =
    c.split_at.ensures.front ∙ cut_front c.args.separator _ _ (back_is c.args.separator _ _ _ c.loop-token.invariant.back_is c.in_default.ensures)
