-- Operations that gain no steps: each is made of parts that gain none.
use Rattle.std.proofs.Common.{◌≡◌, ℕ, ◌+◌, ◌≤◌, ◌<◌, ◌-◌, Bool, true, false, refl, ap, ◌∙◌, arith}
use Rattle.std.proofs.lemmas.Bool.Decides.{nat_tests}
use Rattle.std.specs.Prelude.{if◌then◌else◌, nat_le, List}
use Rattle.pyn_base.specs.declared.class.BuiltClass.{BuiltClass}
use Rattle.pyn_base.specs.declared.construct.Construct.{Construct}
use Rattle.py_meaning.specs.declared.op.Op.{Op}
use Rattle.py_meaning.specs.declared.op.Op.TheVariants as op
use Rattle.py_meaning.specs.Caught.{read_as}
use Rattle.py_meaning.specs.declared.value.Value.{Value}
use Rattle.py_meaning.specs.Tuples.{depth_over, tuple_limit, new_tuple}
use Rattle.py_meaning.specs.Steps.{Costing, done, raises, leaves, costs, go_on, ◌>>=◌}
use Rattle.py_plain.proofs.Like.{Frugal, SteadyCost, SameCost, OutCost, steady_then}

pub frugal_done : {A : Type 0} (a : A) → Frugal (done a)
frugal_done a = record { frugal = λ left. omega arith; steady = λ left m. SameCost refl }

pub frugal_raises : {A : Type 0} (class : BuiltClass) → Frugal (raises {A = A} class)
frugal_raises class = record { frugal = λ left. omega arith; steady = λ left m. SameCost refl }

pub frugal_leaves : {A : Type 0} (construct : Construct) → Frugal (leaves {A = A} construct)
frugal_leaves construct = record { frugal = λ left. omega arith; steady = λ left m. SameCost refl }

-- an answer at no cost
pub frugal_answer : {A : Type 0} (answer : Op A) → Frugal {A = A} (λ left. (answer, left))
frugal_answer answer = record { frugal = λ left. omega arith; steady = λ left m. SameCost refl }

pub frugal_costs : {A : Type 0} (n : ℕ) (run : Costing A) → Frugal run → Frugal (costs n run)
frugal_costs {A} n run h = record { frugal = λ left. chosen (nat_le n left) left; steady = λ left m. steady_at (nat_le n left) (nat_le n (m + left)) left m refl refl }
  where
    chosen : (b : Bool) (left : ℕ) → (if b then run (left - n) else (op.OutOfSteps, left)).1 ≤ left
    chosen true left = omega (arith, h.frugal (left - n))
    chosen false left = omega arith

    few : (a b : ℕ) → nat_le a b ≡ true → a ≤ b
    few a b e = grind (arith, nat_tests)

    many : (a b : ℕ) → nat_le a b ≡ false → b < a
    many a b e = grind (arith, nat_tests)

    steady_at : (b b' : Bool) (left m : ℕ) → nat_le n left ≡ b → nat_le n (m + left) ≡ b' → SteadyCost {A = A} m (if b then run (left - n) else (op.OutOfSteps, left)) (if b' then run (m + left - n) else (op.OutOfSteps, m + left))
    steady_at true true left m e e' = let le = few n left e in let same : m + left - n ≡ m + (left - n) = omega (arith, le) in rw same (h.steady (left - n) m)
    steady_at true false left m e e' = let le = few n left e in let lt = many n (m + left) e' in absurd (omega (arith, le, lt))
    steady_at false b' left m e e' = OutCost refl

pub frugal_then : {A B : Type 0} (run : Costing A) (next : A → Costing B) → Frugal run → ((a : A) → Frugal (next a)) → Frugal (run >>= next)
frugal_then {A = A} run next h k = record { frugal = λ left. gone_on (run left).0 (run left).1 left (h.frugal left); steady = steady_then run next h (λ a. (k a).steady) }
  where
    gone_on : (answer : Op A) (less left : ℕ) → less ≤ left → (go_on answer less next).1 ≤ left
    gone_on (op.Done a) less left le = omega (arith, (k a).frugal less)
    gone_on (op.Raises class) less left le = le
    gone_on (op.Leaves construct) less left le = le
    gone_on op.OutOfSteps less left le = le
    gone_on op.Memory less left le = le

pub frugal_if : {A : Type 0} (b : Bool) (x y : Costing A) → Frugal x → Frugal y → Frugal (if b then x else y)
frugal_if true x y h i = h
frugal_if false x y h i = i

pub frugal_new_tuple : (parts : List Value) → Frugal (new_tuple parts)
frugal_new_tuple parts = frugal_if (nat_le (depth_over parts) tuple_limit) _ _ (frugal_done _) (frugal_leaves _)

pub frugal_if_at : {S A : Type 0} (b : Bool) (x y : S → Costing A) (s : S) → Frugal (x s) → Frugal (y s) → Frugal ((if b then x else y) s)
frugal_if_at true x y s h i = h
frugal_if_at false x y s h i = i

pub frugal_read_as : {A B : Type 0} (f : Op A → Op B) (run : Costing A) → f op.OutOfSteps ≡ op.OutOfSteps → Frugal run → Frugal (read_as f run)
frugal_read_as {A} f run out h = record { frugal = h.frugal; steady = λ left m. read m (run left) (run (m + left)) (h.steady left m) }
  where
    read : (m : ℕ) (r r' : Op A × ℕ) → SteadyCost m r r' → SteadyCost m (f r.0, r.1) (f r'.0, r'.1)
    read m r r' (SameCost e) = SameCost (ap (λ r. (f r.0, r.1)) e)
    read m r r' (OutCost e) = OutCost (ap f e ∙ out)
