-- A timed run tells what a recorded one keeps: statement by statement, since who watches plays no part, and what a statement adds comes last.
use Rattle.std.proofs.Common.{◌≡◌, refl, sym, ap, ◌∙◌, subst, append-nil, append_assoc, ℕ, Bool, List, [], ◌∷◌, ◌++◌}
use Rattle.pyn_base.specs.declared.ids.NodeId.{NodeId}
use Rattle.py_syntax.specs.declared.stmt.Stmt.{Stmt}
use Rattle.py_frames.specs.declared.marks.Mark.{Mark}
use Rattle.py_meaning.specs.Worlds.{World}
use Rattle.py_plain.specs.declared.judged.Judged.{Judged}
use Rattle.py_plain.specs.declared.run.End.{End}
use Rattle.py_plain.specs.declared.run.End.TheVariants as end
use Rattle.py_plain.specs.declared.state.State.{State}
use Rattle.py_plain.specs.Import.{imported}
use Rattle.py_plain.specs.Laws.{SameForWatchers, seen_by}
use Rattle.py_plain.specs.Program.{Program}
use Rattle.py_plain.specs.Statements.{means}
use Rattle.py_plain.specs.Tests.{Trail, Began, Decided, recorder, run_statement, end_of}
use Rattle.suite_model.specs.Kept.{Kept, kept_from}
use Rattle.suite_model.specs.Kept.{kept_by as recorded_by}
use Rattle.timed_marks.specs.Laws.{TimesTell}
use Rattle.timed_marks.specs.Timed.{Timed, timer, untouched, timed_by, after_event, begun_at, came_at, marks_before}
use Rattle.test_run.specs.Laws.{TimedAsKept, TellsOf}
use Rattle.test_run.specs.Watched.{Watched, kept_for, kept_by}

-- ---- what a trail grows by

-- a trail that goes on from another one
abbrev GoesOn : Trail → Trail → Type 0
GoesOn trail all = (more : Trail) × (all ≡ trail ++ more)

-- the trail of all that ran, the last statement too
abbrev all_by : End → State World Trail → Trail → Trail
all_by end.Normal after rest = rest
all_by _ after rest = after.seen

module _ (program : Program) (limit : ℕ) where
  abbrev all_from : List Stmt → State World Trail → Trail
  all_from [] s = s.seen
  all_from (stmt ∷ more) s = let r = run_statement recorder program limit stmt s in all_by r.0 r.1 (all_from more r.1)

  module _ (same : SameForWatchers Trail Trail) where
    statement_goes_on : (stmt : Stmt) (s : State World Trail) → GoesOn s.seen (run_statement recorder program limit stmt s).1.seen
    statement_goes_on stmt s =
        let keep : Trail → Trail = λ trail. s.seen ++ trail in
        let alone = record s { left = limit; seen = [] } in
        let e = same keep recorder recorder (λ node trail. sym (append_assoc s.seen trail (Began node ∷ []))) (λ node judged outcome trail. sym (append_assoc s.seen trail (Decided node judged outcome ∷ []))) program stmt alone in (
          (means recorder program stmt alone).1.seen,
          ap (λ (trail : Trail). (means recorder program stmt (record s { left = limit; seen = trail })).1.seen) (sym (append-nil s.seen)) ∙ sym (ap (λ r. r.1.seen) e),
        )

    by_end_goes_on : (e : End) (before after : State World Trail) (rest : Kept) (all : Trail) → GoesOn before.seen after.seen → GoesOn rest.trail all
        → GoesOn (recorded_by limit e before after rest).trail (all_by e after all)
    by_end_goes_on end.Normal before after rest all one more = more
    by_end_goes_on (end.Raised id class) before after rest all one more = ([], sym (append-nil after.seen))
    by_end_goes_on end.OutOfSteps before after rest all one more = one
    by_end_goes_on (end.Left construct) before after rest all one more = one
    by_end_goes_on end.Memory before after rest all one more = one
    by_end_goes_on (end.Ended stop) before after rest all one more = one

    goes_on : (stmts : List Stmt) (s : State World Trail) → GoesOn (kept_from program limit stmts s).trail (all_from stmts s)
    goes_on [] s = ([], sym (append-nil s.seen))
    goes_on (stmt ∷ more) s =
        let r = run_statement recorder program limit stmt s in
        by_end_goes_on r.0 s r.1 (kept_from program limit more r.1) (all_from more r.1) (statement_goes_on stmt s) (goes_on more r.1)

-- ---- the same run, timed

behind : (trail more : Trail) (t : Timed) → timed_by (trail ++ more) t ≡ timed_by more (timed_by trail t)
behind [] more t = refl
behind (Began node ∷ trail) more t = behind trail more (after_event begun_at node t)
behind (Decided node judged outcome ∷ trail) more t = behind trail more (after_event (came_at outcome) node t)

module _ (nodes : ℕ) where
  abbrev keep : Trail → Timed
  keep trail = timed_by trail (untouched nodes)

  abbrev as_timed : Kept → Trail → Watched Timed
  as_timed kept all = record { used = kept.used; end = kept.end; seen = keep kept.trail; all = keep all }

  began : (node : NodeId) (trail : Trail) → keep (recorder.began node trail) ≡ timer.began node (keep trail)
  began node trail = behind trail (Began node ∷ []) (untouched nodes)

  judged : (node : NodeId) (how : Judged) (outcome : Bool) (trail : Trail) → keep (recorder.judged node how outcome trail) ≡ timer.judged node how outcome (keep trail)
  judged node how outcome trail = behind trail (Decided node how outcome ∷ []) (untouched nodes)

  module _ (same : SameForWatchers Trail Timed) (program : Program) (limit : ℕ) where
    statement : (stmt : Stmt) (s : State World Trail)
        → run_statement timer program limit stmt (seen_by keep s) ≡ (let r = run_statement recorder program limit stmt s in (r.0, seen_by keep r.1))
    statement stmt s = sym (ap (λ r. (end_of r.1.objects r.0, r.1)) (same keep recorder timer began judged program stmt (record s { left = limit })))

    by_end : (e : End) (before after : State World Trail) (rest : Kept) (all : Trail)
        → kept_by limit e (seen_by keep before) (seen_by keep after) (as_timed rest all) ≡ as_timed (recorded_by limit e before after rest) (all_by e after all)
    by_end end.Normal before after rest all = refl
    by_end (end.Raised id class) before after rest all = refl
    by_end end.OutOfSteps before after rest all = refl
    by_end (end.Left construct) before after rest all = refl
    by_end end.Memory before after rest all = refl
    by_end (end.Ended stop) before after rest all = refl

    told : (stmts : List Stmt) (s : State World Trail) → kept_for timer program limit stmts (seen_by keep s) ≡ as_timed (kept_from program limit stmts s) (all_from program limit stmts s)
    told [] s = refl
    told (stmt ∷ more) s =
        let r = run_statement recorder program limit stmt s in
        ap (λ q. kept_by limit q.0 (seen_by keep s) q.1 (kept_for timer program limit more q.1)) (statement stmt s)
        ∙ ap (λ rest. kept_by limit r.0 (seen_by keep s) (seen_by keep r.1) rest) (told more r.1)
        ∙ by_end r.0 s r.1 (kept_from program limit more r.1) (all_from program limit more r.1)

  tells : TimesTell → (kept : Kept) (all : Trail) → GoesOn kept.trail all → TellsOf nodes (as_timed kept all) kept
  tells times kept all on =
      record { steps_are = refl; end_is = refl; marks_are = λ h. ap (λ (trail : Trail). marks_at (keep kept.trail).clock trail) on.1 ∙ times nodes kept.trail on.0 h }
    where
      marks_at : ℕ → Trail → List Mark
      marks_at end trail = marks_before end (keep trail).times

pub timed_as_kept : SameForWatchers Trail Timed → SameForWatchers Trail Trail → TimesTell → TimedAsKept
timed_as_kept same again times nodes program limit stmts =
    let s = imported program [] in
    subst (λ (w : Watched Timed). TellsOf nodes w (kept_from program limit stmts s)) (sym (told nodes same program limit stmts s))
    (tells nodes times (kept_from program limit stmts s) (all_from program limit stmts s) (goes_on program limit again stmts s))
