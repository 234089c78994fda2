-- The kept steps, run alone, are all kept and raise what was raised: by induction over the steps.
use Rattle.std.proofs.Common.{◌≡◌, ◌-◌, ◌+◌, refl, ap, ◌∙◌, ℕ, zero, suc, List, [], ◌∷◌, length}
use Rattle.std.specs.Prelude.{take}
use Rattle.py_meaning.specs.Worlds.{World}
use Rattle.py_plain.specs.declared.run.End.{End}
use Rattle.py_plain.specs.declared.run.End.TheVariants as end
use Rattle.py_plain.specs.declared.state.State.{State}
use Rattle.py_plain.specs.Program.{Program}
use Rattle.py_plain.specs.Tests.{Trail, recorder, run_statement}
use Rattle.suite_model.specs.declared.test.Step.{Step}
use Rattle.suite_model.specs.declared.test.TestEnd.TheVariants as test_end
use Rattle.suite_model.specs.Kept.{Kept, ended, kept_by, kept_from}
use Rattle.suite_model.specs.Statements.{statement_of, statements_from}
use Rattle.case_laws.specs.Cases.{class_raised}

pub take_again : {A : Type 0} (n : ℕ) (xs : List A) → take n (take n xs) ≡ take n xs
take_again zero xs = refl
take_again (suc n) [] = refl
take_again (suc n) (x ∷ xs) = ap (λ rest. x ∷ rest) (take_again n xs)

module _ (program : Program) (limit : ℕ) where
  abbrev kept : ℕ → List Step → State World Trail → Kept
  kept k steps s = kept_from program limit (statements_from program k steps) s

  abbrev Agrees : Kept → Kept → Type 0
  Agrees alone whole = (alone.used ≡ whole.used) × (class_raised alone.end ≡ class_raised whole.end)

  abbrev Claim : ℕ → List Step → State World Trail → Type 0
  Claim k steps s = let whole = kept k steps s in Agrees (kept k (take (length whole.used) steps) s) whole

  -- so many steps, of which the first one ends so
  abbrev cut : End → State World Trail → State World Trail → ℕ → List Step → ℕ → Kept
  cut e before after k more zero = ended test_end.Ok before
  cut e before after k more (suc n) = kept_by limit e before after (kept (k + 1) (take n more) after)

  by_end : (e : End) (before after : State World Trail) (k : ℕ) (more : List Step) → Claim (k + 1) more after
      → let whole = kept_by limit e before after (kept (k + 1) more after) in Agrees (cut e before after k more (length whole.used)) whole
  by_end end.Normal before after k more h = (ap (λ used. (limit - after.left) ∷ used) h.0, h.1)
  by_end (end.Raised id class) before after k more h = (refl, refl)
  by_end end.OutOfSteps before after k more h = (refl, refl)
  by_end (end.Left construct) before after k more h = (refl, refl)
  by_end end.Memory before after k more h = (refl, refl)
  by_end (end.Ended stop) before after k more h = (refl, refl)

  cuts : (k : ℕ) (step : Step) (more : List Step) (s : State World Trail) (n : ℕ)
      → let r = run_statement recorder program limit (statement_of program k step) s in kept k (take n (step ∷ more)) s ≡ cut r.0 s r.1 k more n
  cuts k step more s zero = refl
  cuts k step more s (suc n) = refl

  pub kept_again : (k : ℕ) (steps : List Step) (s : State World Trail) → Claim k steps s
  kept_again k [] s = (refl, refl)
  kept_again k (step ∷ more) s =
      let r = run_statement recorder program limit (statement_of program k step) s in
      let n = length (kept k (step ∷ more) s).used in
      let h = by_end r.0 s r.1 k more (kept_again (k + 1) more r.1) in
      (ap (λ (whole : Kept). whole.used) (cuts k step more s n) ∙ h.0, ap (λ (whole : Kept). class_raised whole.end) (cuts k step more s n) ∙ h.1)
