-- A part of a run, by how it has ended.
use Rattle.std.proofs.Common.{◌≡◌, Ok, Err, ap}
use Rattle.py_meaning.specs.Worlds.{World}
use Rattle.py_plain.specs.declared.run.Abrupt.{Abrupt}
use Rattle.py_plain.specs.declared.state.State.{State}
use Rattle.py_plain.specs.Runs.{Ran, Run, go_on, ◌>>=◌}

-- A part that ends abruptly ends the whole.
pub stopped : {W A B : Type 0} (p : Run W A) (next : A → Run W B) (s s' : State World W) (why : Abrupt) → p s ≡ (Err why, s') → (p >>= next) s ≡ (Err why, s')
stopped p next s s' why e = ap (λ (r : Ran _ _). go_on r.0 r.1 next) e

-- What follows a part goes on with what that has given.
pub went_on : {W A B : Type 0} (p : Run W A) (next : A → Run W B) (s s' : State World W) (a : A) → p s ≡ (Ok a, s') → (p >>= next) s ≡ next a s'
went_on p next s s' a e = ap (λ (r : Ran _ _). go_on r.0 r.1 next) e
