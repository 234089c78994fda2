use Rattle.std.proofs.Common.{ℕ, ◌+◌, sym, subst, arith, List}
use Rattle.py_text.proofs.Scans.{AreBordersSoFar, border_fits, border_moves_on, border_slides, border_of, begins_at, apart_as_read, same_as_read}
use Rattle.py_text.proofs.places.borders.Goals as goal

pub loop-at-preserved-in-Continue-branch-2 : goal.loop-at-preserved-in-Continue-branch-2
loop-at-preserved-in-Continue-branch-2 c =
    let text = c.args.text.now in
    let at = c.loop-at.at in
    let fit = c.loop-at.fit in
    let fits = same_as_read text text (at + fit) fit _ _ (omega arith) (omega arith) c.index-text-at.is c.index-text-fit.is c.if-text-at.true in
    record {
      within = omega arith;
      so_far = subst (λ (borders : List ℕ). AreBordersSoFar text borders at (fit + 1)) (sym c.in_ok-push-2.ensures.items) (border_fits c.loop-at.invariant.so_far fits);
    }

pub loop-at-preserved-in-Continue-branch-3 : goal.loop-at-preserved-in-Continue-branch-3
loop-at-preserved-in-Continue-branch-3 c =
    let text = c.args.text.now in
    let at = c.loop-at.at in
    let fit = c.loop-at.fit in
    let apart = apart_as_read text text (at + fit) fit _ _ (omega arith) (omega arith) c.index-text-at.is c.index-text-fit.is c.if-text-at.false in
    record {
      within = omega arith;
      so_far = subst (λ (borders : List ℕ). AreBordersSoFar text borders (at + 1) fit) (sym c.in_ok-push-3.ensures.items) (border_moves_on c.if-fit-eq0.true c.loop-at.invariant.so_far apart);
    }

pub overflow_sub-at : goal.overflow_sub-at
overflow_sub-at c =
    let so_far = c.loop-at.invariant.so_far in
    let b = border_of c.loop-at.borders.items c.loop-at.fit _ so_far.are_borders (omega arith) (omega (arith, so_far.ends)) c.index-border.ensures in
    omega (arith, b.ends)

pub loop-at-preserved : goal.loop-at-preserved
loop-at-preserved c =
    let text = c.args.text.now in
    let at = c.loop-at.at in
    let fit = c.loop-at.fit in
    let border = c.index-border.result.now in
    let so_far = c.loop-at.invariant.so_far in
    let b = border_of c.loop-at.borders.items fit _ so_far.are_borders (omega arith) (omega (arith, so_far.ends)) c.index-border.ensures in
    let ends = b.ends in
    let apart = apart_as_read text text (at + fit) fit _ _ (omega arith) (omega arith) c.index-text-at.is c.index-text-fit.is c.if-text-at.false in
    record {
      within = omega arith;
      so_far = subst (λ (n : ℕ). AreBordersSoFar text c.loop-at.borders.items (at + n) border) (begins_at fit border b) (border_slides border so_far apart b);
    }
