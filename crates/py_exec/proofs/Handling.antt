-- The clauses of a `try`, from one of them on.
use Rattle.std.proofs.Common.{◌≡◌, ℕ, ◌+◌, ◌<◌, Bool, true, false, Ok, Err, List, ◌∷◌, length, drop, get_or, sym, ap, ◌∙◌}
use Rattle.std.proofs.lemmas.List.{at_drop_more}
use Rattle.pyn_base.specs.declared.ids.ObjId.{ObjId}
use Rattle.py_syntax.specs.declared.stmt.Clause.{Clause}
use Rattle.py_meaning.specs.Worlds.{World}
use Rattle.py_plain.specs.declared.run.Abrupt.{Abrupt}
use Rattle.py_plain.specs.declared.state.State.{State}
use Rattle.py_plain.specs.Exceptions.{tries_clauses}
use Rattle.py_plain.specs.Program.{Program}
use Rattle.py_plain.specs.Runs.{Watcher, Outcome, Ran, Run, Finding, go_on}
use Rattle.py_plain.specs.Statements.{value_of, means}
use Rattle.py_exec.specs.Handlers.{runs, tried, runs_handler}

module _ {W : Type 0} (watcher : Watcher W) (program : Program) (id : ObjId) (clauses : List Clause) where
  abbrev tries : List Clause → Run W Finding
  tries some = tries_clauses watcher program (value_of watcher program) (means watcher program) some id

  module _ (at : ℕ) (clause : Clause) (within : at < length clauses) (is : clause ≡ get_or clauses at clause) (whole : Ran W Finding) (s s' : State World W) (end : Outcome Bool)
      (before : tries (drop at clauses) s ≡ whole)
      (meant : (others : Run W Finding) → tried watcher program id clause others s ≡ go_on end s' (runs_handler watcher program id clause others)) where
    abbrev next : Bool → Run W Finding
    next = runs_handler watcher program id clause (tries (drop (at + 1) clauses))

    here : whole ≡ go_on end s' next
    here = sym before ∙ at_drop_more (λ some. tries some s) clauses at clause within ∙ ap (λ (c : Clause). tries (c ∷ drop (at + 1) clauses) s) (sym is) ∙ meant (tries (drop (at + 1) clauses))

    at_end : (q : Outcome Bool) → end ≡ q → whole ≡ go_on q s' next
    at_end q e = here ∙ ap (λ (q : Outcome Bool). go_on q s' next) e

    pub handled : end ≡ Ok true → whole ≡ runs watcher program id clause s'
    handled ok = at_end (Ok true) ok

    pub not_handled : end ≡ Ok false → tries (drop (at + 1) clauses) s' ≡ whole
    not_handled ok = sym (at_end (Ok false) ok)

    pub not_begun : (why : Abrupt) → end ≡ Err why → whole ≡ (Err why, s')
    not_begun why err = at_end (Err why) err
