-- What a run's answer has: lemmas that crates above cite.
use Rattle.std.proofs.Common.{◌≡◌, ◌≤◌, ℕ, Bool, true, false, if◌then◌else◌, nat_le, ◌-◌, refl, ap, arith}
use Rattle.std.specs.Prelude.{IsTrue}
use Rattle.py_meaning.specs.declared.op.Op.{Op}
use Rattle.py_meaning.specs.declared.op.Op.TheVariants as op
use Rattle.py_meaning.specs.declared.value.Value.{Value}
use Rattle.py_meaning.specs.Steps.{Costing, aside, go_on, done, costs, ◌>>=◌}
use Rattle.py_meaning.specs.Worlds.{World, sound_world}
use Rattle.py_meaning.specs.SoundRuns.{Answers, Answering, Asks, Gives, Holds, Fits}

module _ {A : Type 0} (P : A → Type 0) where
  chosen_answer : (b : Bool) (n left : ℕ) (run : Costing A) → Gives P run → Answers P (if b then run (left - n) else (op.OutOfSteps, left)).0
  chosen_answer true n left run k = k (left - n)
  chosen_answer false n left run k = tt

  pub gives_costs : (n : ℕ) (run : Costing A) → Gives P run → Gives P (costs n run)
  gives_costs n run k left = chosen_answer (nat_le n left) n left run k

  pub gives_if : (b : Bool) (x y : Costing A) → (IsTrue b → Gives P x) → Gives P y → Gives P (if b then x else y)
  gives_if true x y k l = k refl
  gives_if false x y k l = l

module _ {A B : Type 0} (P : A → Type 0) (Q : B → Type 0) (next : A → Costing B) (k : (a : A) → P a → Gives Q (next a)) where
  gone_on : (answer : Op A) (left : ℕ) → Answers P answer → Answers Q (go_on answer left next).0
  gone_on (op.Done a) left p = k a p left
  gone_on (op.Raises class) left p = tt
  gone_on (op.Leaves construct) left p = tt
  gone_on op.OutOfSteps left p = tt
  gone_on op.Memory left p = p

  pub gives_then : (run : Costing A) → Gives P run → Gives Q (run >>= next)
  gives_then run h left = gone_on (run left).0 (run left).1 (h left)

module _ {A : Type 0} (P Q : A → Type 0) (f : (a : A) → P a → Q a) where
  weaker_answer : (answer : Op A) → Answers P answer → Answers Q answer
  weaker_answer (op.Done a) p = f a p
  weaker_answer (op.Raises class) p = tt
  weaker_answer (op.Leaves construct) p = tt
  weaker_answer op.OutOfSteps p = tt
  weaker_answer op.Memory p = p

  -- a weaker property
  pub gives_weaker : (run : Costing A) → Gives P run → Gives Q run
  gives_weaker run k left = weaker_answer (run left).0 (k left)

-- A run after a question, of whose answer nothing is used.
pub gives_asked : {A B : Type 0} (Q : B → Type 0) (run : Costing A) (next : A → Costing B) → Answering run → ((a : A) → Gives Q (next a)) → Gives Q (run >>= next)
gives_asked Q run next k f = gives_then (λ a. Unit {0}) Q next (λ a _. f a) run k

pub gives_aside : (world : World) (run : Costing Value) → IsTrue (sound_world world) → Gives (Fits world) run → Gives (Holds world) (aside run world)
gives_aside world run h k = gives_then (Fits world) (Holds world) (λ v. done (v, world)) (λ v p left. ((h, λ w f. f), p)) run k

-- A question takes steps and gives none back.

pub ends : (left : ℕ) → Unit {0} × (left ≤ left)
ends left = (tt, omega arith)

chosen_asks : {A : Type 0} (b : Bool) (n left : ℕ) (run : Costing A) → Asks run → let ended = if b then run (left - n) else (op.OutOfSteps, left) in Answers (λ a. Unit {0}) ended.0 × (ended.1 ≤ left)
chosen_asks true n left run k = let asked = k (left - n) in (asked.0, omega (arith, asked.1))
chosen_asks false n left run k = (tt, omega arith)

pub asks_costs : {A : Type 0} (n : ℕ) (run : Costing A) → Asks run → Asks (costs n run)
asks_costs n run k left = chosen_asks (nat_le n left) n left run k

pub asks_if : {A : Type 0} (b : Bool) (x y : Costing A) → Asks x → Asks y → Asks (if b then x else y)
asks_if true x y k l = k
asks_if false x y k l = l

module _ {A B : Type 0} (next : A → Costing B) (k : (a : A) → Asks (next a)) where
  gone_asks : (answer : Op A) (left before : ℕ) → Answers (λ a. Unit {0}) answer → left ≤ before → let ended = go_on answer left next in Answers (λ b. Unit {0}) ended.0 × (ended.1 ≤ before)
  gone_asks (op.Done a) left before h e = let asked = k a left in (asked.0, omega (arith, asked.1, e))
  gone_asks (op.Raises class) left before h e = (tt, e)
  gone_asks (op.Leaves construct) left before h e = (tt, e)
  gone_asks op.OutOfSteps left before h e = (tt, e)
  gone_asks op.Memory left before h e = (h, e)

pub asks_then : {A B : Type 0} (run : Costing A) (next : A → Costing B) → Asks run → ((a : A) → Asks (next a)) → Asks (run >>= next)
asks_then run next h k left = gone_asks next k (run left).0 (run left).1 left (h left).0 (h left).1

-- the steps after a question that was asked
pub asked_left : {A : Type 0} (run : Costing A) → Asks run → (before : ℕ) (answer : Op A) (left : ℕ) → run before ≡ (answer, left) → left ≤ before
asked_left run k before answer left e = let h = (k before).1 in rw (← ap (λ t. t.1) e) h
