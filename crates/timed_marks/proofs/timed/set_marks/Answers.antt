use Rattle.std.proofs.Common.{◌≡◌, refl, sym, ap, ◌∙◌, true, false, ◌∷◌, ◌++◌}
use Rattle.py_frames.specs.Marked.{unmarked, begun, came}
use Rattle.timed_marks.proofs.Setting.{marks, set_one, set_none}
use Rattle.timed_marks.proofs.timed.set_marks.Goals.{then-mark, else-mark, then-mark-2, else-mark-2}
use Rattle.timed_marks.proofs.timed.set_marks.Goals as goal

pub returns-then-mark-3 : goal.returns-then-mark-3
returns-then-mark-3 c front rest at before =
    let mark = c.args.mark in
    let one : c.if-mark.marks ≡ front ++ marks mark.began false false ∷ rest =
    elim c.if-mark.branch [
      | then-mark w ↦ set_one begun c.args.node front rest unmarked (marks mark.began false false) _ _ at before (w.marks-is ∙ w.began.ensures) (ap (λ b. marks b false false) (sym w.if-mark.true))
      | else-mark w ↦ set_none front rest unmarked (marks mark.began false false) _ _ before w.marks-is (ap (λ b. marks b false false) (sym w.if-mark.false))
    ] in
    let two : c.if-mark-2.marks ≡ front ++ marks mark.began mark.held false ∷ rest =
    elim c.if-mark-2.branch [
      | then-mark-2 w ↦ set_one (came true) c.args.node front rest (marks mark.began false false) (marks mark.began mark.held false) _ _ at one (w.marks-is ∙ w.judged.ensures) (ap (λ b. marks mark.began b false) (sym w.if-mark-2.true))
      | else-mark-2 w ↦ set_none front rest (marks mark.began false false) (marks mark.began mark.held false) _ _ one w.marks-is (ap (λ b. marks mark.began b false) (sym w.if-mark-2.false))
    ] in
    set_one (came false) c.args.node front rest (marks mark.began mark.held false) mark _ _ at two c.judged-then-mark-3.ensures (ap (λ b. marks mark.began mark.held b) (sym c.if-mark-3.true))

pub returns-else-mark-3 : goal.returns-else-mark-3
returns-else-mark-3 c front rest at before =
    let mark = c.args.mark in
    let one : c.if-mark.marks ≡ front ++ marks mark.began false false ∷ rest =
    elim c.if-mark.branch [
      | then-mark w ↦ set_one begun c.args.node front rest unmarked (marks mark.began false false) _ _ at before (w.marks-is ∙ w.began.ensures) (ap (λ b. marks b false false) (sym w.if-mark.true))
      | else-mark w ↦ set_none front rest unmarked (marks mark.began false false) _ _ before w.marks-is (ap (λ b. marks b false false) (sym w.if-mark.false))
    ] in
    let two : c.if-mark-2.marks ≡ front ++ marks mark.began mark.held false ∷ rest =
    elim c.if-mark-2.branch [
      | then-mark-2 w ↦ set_one (came true) c.args.node front rest (marks mark.began false false) (marks mark.began mark.held false) _ _ at one (w.marks-is ∙ w.judged.ensures) (ap (λ b. marks mark.began b false) (sym w.if-mark-2.true))
      | else-mark-2 w ↦ set_none front rest (marks mark.began false false) (marks mark.began mark.held false) _ _ one w.marks-is (ap (λ b. marks mark.began b false) (sym w.if-mark-2.false))
    ] in
    set_none front rest (marks mark.began mark.held false) mark _ _ two refl (ap (λ b. marks mark.began mark.held b) (sym c.if-mark-3.false))
