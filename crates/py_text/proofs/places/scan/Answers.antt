use Rattle.std.proofs.Common.{ℕ, ◌+◌, ◌-◌, subst, refl, arith, get_or}
use Rattle.py_text.proofs.Scans.{IsScanned, found_at, found_nowhere, scan_slides, border_of, begins_at, apart_as_read}
use Rattle.py_text.proofs.places.scan.Goals as goal

pub returns-then-fit-part-clause-place : goal.returns-then-fit-part-clause-place
returns-then-fit-part-clause-place c =
    found_at c.loop-at.at (omega arith) (subst (IsScanned c.args.part.now c.args.text.now c.loop-at.at) c.if-fit-part.true c.loop-at.invariant.scanned)

pub returns-clause-place : goal.returns-clause-place
returns-clause-place c = found_nowhere c.loop-at.at c.loop-at.fit (omega arith) c.loop-at.invariant.scanned

pub loop-at-preserved : goal.loop-at-preserved
loop-at-preserved c =
    let at = c.loop-at.at in
    let fit = c.loop-at.fit in
    let border = get_or c.args.borders.now (fit - 1) 0 in
    let b = border_of c.args.borders.now fit 0 c.requires.are_borders (omega arith) (omega arith) refl in
    let ends = b.ends in
    let apart = apart_as_read c.args.text.now c.args.part.now (at + fit) fit _ _ (omega arith) (omega arith) c.index-text-at.is c.index-part-fit.is c.if-text-at.false in
    record {
      within = omega arith;
      fits = omega arith;
      scanned = subst (λ (n : ℕ). IsScanned c.args.part.now c.args.text.now (at + n) border) (begins_at fit border b) (scan_slides border c.loop-at.invariant.scanned (omega arith) apart b);
    }
