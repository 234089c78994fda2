-- What is kept is kept alone too: by induction over the statements.
use Rattle.std.proofs.Common.{◌≡◌, ◌≤◌, ◌-◌, refl, ap, ◌∙◌, ℕ, zero, suc, List, [], ◌∷◌, length, arith}
use Rattle.std.specs.Prelude.{take}
use Rattle.py_syntax.specs.declared.stmt.Stmt.{Stmt}
use Rattle.py_meaning.specs.Worlds.{World}
use Rattle.py_plain.specs.declared.run.End.{End}
use Rattle.py_plain.specs.declared.run.End.TheVariants as end
use Rattle.py_plain.specs.declared.state.State.{State}
use Rattle.py_plain.specs.Program.{Program}
use Rattle.py_plain.specs.Tests.{Trail, recorder, run_statement}
use Rattle.suite_model.specs.declared.test.TestEnd.TheVariants as test_end
use Rattle.suite_model.specs.Kept.{Kept, ended, kept_from, kept_by}
use Rattle.suite_model.specs.Laws.{KeptAlone, KeptOf}

module _ (program : Program) (limit : ℕ) where
  abbrev Agrees : Kept → Kept → Type 0
  Agrees alone whole = (alone.used ≡ whole.used) × (alone.trail ≡ whole.trail)

  abbrev Claim : List Stmt → State World Trail → Type 0
  Claim stmts s = let whole = kept_from program limit stmts s in Agrees (kept_from program limit (take (length whole.used) stmts) s) whole

  -- so many statements, of which the first one ends so
  abbrev cut : End → State World Trail → State World Trail → List Stmt → ℕ → Kept
  cut e before after more zero = ended test_end.Ok before
  cut e before after more (suc n) = kept_by limit e before after (kept_from program limit (take n more) after)

  by_end : (e : End) (before after : State World Trail) (more : List Stmt) → Claim more after
      → let whole = kept_by limit e before after (kept_from program limit more after) in Agrees (cut e before after more (length whole.used)) whole
  by_end end.Normal before after more h = (ap (λ used. (limit - after.left) ∷ used) h.0, h.1)
  by_end (end.Raised id class) before after more h = (refl, refl)
  by_end end.OutOfSteps before after more h = (refl, refl)
  by_end (end.Left construct) before after more h = (refl, refl)
  by_end end.Memory before after more h = (refl, refl)
  by_end (end.Ended stop) before after more h = (refl, refl)

  cuts : (stmt : Stmt) (more : List Stmt) (s : State World Trail) (n : ℕ)
      → let r = run_statement recorder program limit stmt s in kept_from program limit (take n (stmt ∷ more)) s ≡ cut r.0 s r.1 more n
  cuts stmt more s zero = refl
  cuts stmt more s (suc n) = refl

  alone : (stmts : List Stmt) (s : State World Trail) → Claim stmts s
  alone [] s = (refl, refl)
  alone (stmt ∷ more) s =
      let r = run_statement recorder program limit stmt s in
      let n = length (kept_from program limit (stmt ∷ more) s).used in
      let h = by_end r.0 s r.1 more (alone more r.1) in
      (ap (λ kept. kept.used) (cuts stmt more s n) ∙ h.0, ap (λ kept. kept.trail) (cuts stmt more s n) ∙ h.1)

  short_by : (e : End) (before after : State World Trail) (rest : Kept) (n : ℕ) → length rest.used ≤ n → length (kept_by limit e before after rest).used ≤ suc n
  short_by end.Normal before after rest n h = omega (arith, h)
  short_by (end.Raised id class) before after rest n h = omega arith
  short_by end.OutOfSteps before after rest n h = omega arith
  short_by (end.Left construct) before after rest n h = omega arith
  short_by end.Memory before after rest n h = omega arith
  short_by (end.Ended stop) before after rest n h = omega arith

  short : (stmts : List Stmt) (s : State World Trail) → length (kept_from program limit stmts s).used ≤ length stmts
  short [] s = omega arith
  short (stmt ∷ more) s =
      let r = run_statement recorder program limit stmt s in
      short_by r.0 s r.1 (kept_from program limit more r.1) (length more) (short more r.1)

pub kept_alone : KeptAlone
kept_alone program limit stmts s = alone program limit stmts s

pub kept_of : KeptOf
kept_of program limit stmts s = short program limit stmts s
