-- Steps that are taken.
use Rattle.std.proofs.Common.{◌≡◌, ℕ, ◌<◌, ◌≤◌, Bool, true, false, Ok, Err, OnOk, ap, refl, arith}
use Rattle.std.specs.Prelude.{nat_le}
use Rattle.std.proofs.lemmas.Bool.Decides.{nat_tests}
use Rattle.py_meaning.specs.Worlds.{World}
use Rattle.py_plain.specs.declared.run.Abrupt.TheVariants.{OutOfSteps}
use Rattle.py_plain.specs.declared.state.State.{State}
use Rattle.py_plain.specs.Runs.{Outcome, Ran, takes, takes_if}

some_left : (n : ℕ) → nat_le 1 n ≡ true → 1 ≤ n
some_left n e = grind (arith, nat_tests)

taken : {W : Type 0} (b : Bool) (s s' : State World W) (r : Outcome (Unit {0})) → nat_le 1 s.left ≡ b → takes_if b 1 s ≡ (r, s') → OnOk r (s'.left < s.left)
taken true s s' (Ok u) some e =
    let left = ap (λ (q : Ran _ (Unit {0})). q.1.left) e in
    let had = some_left s.left some in
    omega arith
taken true s s' (Err why) some e = cc
taken false s s' (Ok u) some e = let f : Err OutOfSteps ≡ Ok u = ap (λ (q : Ran _ (Unit {0})). q.0) e in cc
taken false s s' (Err why) some e = cc

pub takes_one : {W : Type 0} (s s' : State World W) (r : Outcome (Unit {0})) → takes 1 s ≡ (r, s') → OnOk r (s'.left < s.left)
takes_one s s' r e = taken (nat_le 1 s.left) s s' r refl e

pub ruleset steps = (takes_one)
