use Rattle.std.proofs.Common.{◌+◌, length, ap, arith, length-drop, length-take}
use Rattle.py_text.proofs.Joining.{next_place_length, the_last_length}
use Rattle.py_text.proofs.joins.length_in_places.Goals as goal

pub loop-at-preserved : goal.loop-at-preserved
loop-at-preserved c =
    let rest = c.loop-at.rest.now in
    let at = c.in-Some.at in
    let piece = c.cut.result.0.now in
    let rest_after = c.cut.result.1.now in
    let step = next_place_length c.args.part.now c.args.new.now rest piece rest_after at c.requires (rw c.in-Some.is at c.in_ok-at.ensures.place) c.cut.ensures.before c.cut.ensures.after in
    let within = rw c.in-Some.is at c.in_ok-at.ensures.within in
    let piece_length = ap length c.cut.ensures.before in
    let after_length = ap length c.cut.ensures.after in
    record {
      so_far = omega (arith, c.loop-at.invariant.so_far);
      bound = omega (arith, c.loop-at.invariant.bound, length-take at rest, length-drop (at + length c.args.part.now) rest);
    }

pub returns : goal.returns
returns c =
    let last = the_last_length c.args.part.now c.args.new.now c.loop-at.rest.now c.requires (rw c.in_default.is at c.in_ok-at.ensures.place) in
    omega (arith, c.loop-at.invariant.so_far)
