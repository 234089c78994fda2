use Rattle.std.proofs.Common.{◌≡◌, List, ℕ, IfOk, subst}
use Rattle.py_text.proofs.Joining.{next_place, the_last_rest}
use Rattle.py_text.proofs.joins.put_in_places.Goals as goal

pub loop-made-preserved : goal.loop-made-preserved
loop-made-preserved c =
    next_place _ c.args.new.now _ c.loop-made.made.items c.in-Some.at c.requires (rw c.in-Some.is at c.in_ok-at.ensures.place) c.loop-made.invariant
    c.in_ok-extend_from_slice.ensures.items c.in_ok-extend_from_slice-2.ensures.items c.cut.ensures.before c.cut.ensures.after

pub returns : goal.returns
returns c =
    let whole = the_last_rest _ c.args.new.now _ c.loop-made.made.items c.requires (rw c.in_default.is at c.in_ok-at.ensures.place) c.loop-made.invariant c.in_ok-extend_from_slice-3.ensures.items in
    subst (λ (text : List ℕ). IfOk c.from_vec.result (λ made. made ≡ text)) whole c.from_vec.ensures
