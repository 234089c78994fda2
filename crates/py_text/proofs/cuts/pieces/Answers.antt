use Rattle.std.proofs.Common.{◌∙◌}
use Rattle.py_text.proofs.Cutting.{next_piece_by, the_last, shorter}
use Rattle.py_text.proofs.cuts.pieces.Goals as goal

pub loop-pieces-smaller : goal.loop-pieces-smaller
loop-pieces-smaller c = shorter _ _ _ c.in-Some.at c.requires (rw c.in-Some.is at c.in_ok-at.ensures.within) c.cut.ensures.after

pub loop-pieces-preserved : goal.loop-pieces-preserved
loop-pieces-preserved c =
    next_piece_by _ _ _ c.in-Some.at c.requires (rw c.in-Some.is at c.in_ok-at.ensures.place) c.loop-pieces.invariant c.in_ok-push.ensures.items (c.in_ok-copied.ensures ∙ c.cut.ensures.before) c.cut.ensures.after

pub returns : goal.returns
returns c = the_last _ _ _ c.requires (rw c.in_default.is at c.in_ok-at.ensures.place) c.loop-pieces.invariant c.in_ok-push-2.ensures.items c.in_ok-copied-2.ensures
