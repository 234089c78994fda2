-- Runs in a test that make objects and change nothing else.
use Rattle.std.proofs.Common.{◌≡◌, ℕ, zero, suc, ◌-◌, Bool, true, false, List, [], ◌∷◌, ◌++◌, refl, sym, ap, ◌∙◌, append_assoc, subst, Option, Some, None, Ok, Err}
use Rattle.std.specs.Prelude.{if◌then◌else◌, nat_le, codes}
use Rattle.pyn_base.specs.declared.class.BuiltClass.{BuiltClass}
use Rattle.pyn_base.specs.declared.class.ClassId.{ClassId}
use Rattle.pyn_base.specs.declared.ids.FuncId.{FuncId}
use Rattle.pyn_base.specs.declared.ids.NodeId.{NodeId}
use Rattle.py_meaning.specs.declared.measured.Measured.{Measured}
use Rattle.py_meaning.specs.declared.op.Op.{Op}
use Rattle.py_meaning.specs.declared.op.Op.TheVariants as op
use Rattle.py_meaning.specs.declared.value.Value.{Value}
use Rattle.py_meaning.specs.Steps.{Costing, Change, aside, done, costs, go_on as then_on}
use Rattle.py_meaning.specs.Worlds.{World}
use Rattle.py_plain.specs.declared.judged.Judged.{Judged}
use Rattle.py_plain.specs.declared.run.Abrupt.{Abrupt}
use Rattle.py_plain.specs.declared.state.State.{State}
use Rattle.py_plain.specs.Calls.{makes_instance}
use Rattle.py_plain.specs.Laws.{IsOfTest}
use Rattle.py_plain.specs.Names.{is_bound}
use Rattle.py_plain.specs.Runs.{Watcher, Outcome, Run, go_on, ◌>>=◌, pure, stop, gives, tests, raises, settled, performs, asks, performs_value, begins, begins_with, noted, decides, told}

-- a list with more at its end
pub record Extends {A : Type 0} (xs ys : List A) : Type 0 where
  pub added : List A
  pub same : ys ≡ xs ++ added

pub extends_self : {A : Type 0} (xs : List A) → Extends xs xs
extends_self xs = record { added = []; same = sym (append-nil xs) }
  where
    append-nil : {A : Type 0} (xs : List A) → xs ++ [] ≡ xs
    append-nil [] = refl
    append-nil (x ∷ xs) = ap (λ ys. x ∷ ys) (append-nil xs)

pub extends_one : {A : Type 0} (xs : List A) (x : A) → Extends xs (xs ++ x ∷ [])
extends_one xs x = record { added = x ∷ []; same = refl }

pub extends_both : {A : Type 0} (xs ys zs : List A) → Extends xs ys → Extends ys zs → Extends xs zs
extends_both xs ys zs h k = record { added = h.added ++ k.added; same = k.same ∙ ap (λ l. l ++ k.added) h.same ∙ append_assoc xs h.added k.added }

-- a state with more objects, and fewer steps
pub record Longer {W : Type 0} (s t : State World W) : Type 0 where
  pub frame : t.frame ≡ s.frame
  pub space : t.space ≡ s.space
  pub depth : t.depth ≡ s.depth
  pub seen : t.seen ≡ s.seen
  pub objects : Extends s.objects t.objects

pub record Appends {W A : Type 0} (p : Run W A) : Type 0 where
  pub longer : (s : State World W) → IsOfTest W s → Longer s (p s).1

abbrev pub Longest : {A : Type 0} → World → Op (A × World) → Type 0
Longest world (op.Done made) = Extends world made.1
Longest world _ = Unit {0}

-- an operation that makes objects and changes none
pub record Adds {A : Type 0} (change : Change World A) : Type 0 where
  pub adds : (world : World) (left : ℕ) → Longest world (change world left).0

module _ {W : Type 0} where
  -- as it was, but for objects and steps
  abbrev moved : State World W → World → ℕ → State World W
  moved s world left = record s { objects = world; left = left }

  grown : (s : State World W) (world : World) (left : ℕ) → Extends s.objects world → Longer s (moved s world left)
  grown s world left h = record { frame = refl; space = refl; depth = refl; seen = refl; objects = h }

  longer_both : (s t u : State World W) → Longer s t → Longer t u → Longer s u
  longer_both s t u h k = record { frame = k.frame ∙ h.frame; space = k.space ∙ h.space; depth = k.depth ∙ h.depth; seen = k.seen ∙ h.seen; objects = extends_both s.objects t.objects u.objects h.objects k.objects }

  still_test : (s t : State World W) → Longer s t → IsOfTest W s → IsOfTest W t
  still_test s t h test = (ap (λ frame. frame.function) h.frame ∙ test.0, ap (λ frame. is_bound (codes "isinstance") frame.variables) h.frame ∙ test.1)

  pub appends_same : {A : Type 0} (p q : Run W A) → ((s : State World W) → p s ≡ q s) → Appends q → Appends p
  appends_same p q e h = record { longer = λ s test. subst (λ r. Longer s r.1) (sym (e s)) (h.longer s test) }

  -- what depends on the state
  pub appends_at : {A : Type 0} (p : State World W → Run W A) → ((s : State World W) → IsOfTest W s → Appends (p s)) → Appends (λ s. p s s)
  appends_at p h = record { longer = λ s test. (h s test).longer s test }

  pub appends_pure : {A : Type 0} (a : A) → Appends (pure {W = W} a)
  appends_pure a = record { longer = λ s test. grown s s.objects s.left (extends_self s.objects) }

  pub appends_stop : {A : Type 0} (why : Abrupt) → Appends (stop {W = W} {A = A} why)
  appends_stop why = record { longer = λ s test. grown s s.objects s.left (extends_self s.objects) }

  pub appends_gives : (x : Value) → Appends (gives {W = W} x)
  appends_gives x = record { longer = λ s test. grown s s.objects s.left (extends_self s.objects) }

  pub appends_tests : (x : Value) → Appends (tests {W = W} x)
  appends_tests x = record { longer = λ s test. grown s s.objects s.left (extends_self s.objects) }

  pub appends_raises : {A : Type 0} (class : BuiltClass) → Appends (raises {W = W} {A = A} class)
  appends_raises class = record { longer = λ s test. grown s _ s.left (extends_one s.objects _) }

  pub appends_makes : (class : ClassId) (args : Option (Measured Value)) → Appends (makes_instance {W = W} class args)
  appends_makes class args = record { longer = λ s test. grown s _ s.left (extends_one s.objects _) }

  pub appends_if : {A : Type 0} (b : Bool) (p q : Run W A) → Appends p → Appends q → Appends (if b then p else q)
  appends_if true p q h k = h
  appends_if false p q h k = k

  pub appends_bind : {A B : Type 0} (p : Run W A) (f : A → Run W B) → Appends p → ((a : A) → Appends (f a)) → Appends (p >>= f)
  appends_bind {A} p f h k = record { longer = λ s test. gone_on (p s).0 s (p s).1 (h.longer s test) test }
    where
      gone_on : (end : Outcome A) (s t : State World W) → Longer s t → IsOfTest W s → Longer s (go_on end t f).1
      gone_on (Ok a) s t l test = longer_both s t _ l ((k a).longer t (still_test s t l test))
      gone_on (Err why) s t l test = l

  settled_longer : {A : Type 0} (answer : Op (A × World)) (left : ℕ) (s : State World W) → Longest s.objects answer → Longer s (settled answer left s).1
  settled_longer (op.Done made) left s h = grown s made.1 left h
  settled_longer (op.Raises class) left s h = grown s _ left (extends_one s.objects _)
  settled_longer (op.Leaves construct) left s h = grown s s.objects left (extends_self s.objects)
  settled_longer op.OutOfSteps left s h = grown s s.objects left (extends_self s.objects)
  settled_longer op.Memory left s h = grown s s.objects s.left (extends_self s.objects)

  pub appends_performs : {A : Type 0} (change : Change World A) → Adds change → Appends (performs {W = W} change)
  appends_performs change h = record { longer = λ s test. settled_longer (change s.objects s.left).0 (change s.objects s.left).1 s (h.adds s.objects s.left) }

  pub appends_performs_value : (change : Change World Value) → Adds change → Appends (performs_value {W = W} change)
  appends_performs_value change h = appends_bind (performs change) gives (appends_performs change h) appends_gives

  -- in a test nothing is told

  pub appends_begins : (watcher : Watcher W) (node : NodeId) → Appends (begins watcher node)
  appends_begins watcher node = record { longer = λ s test. by_left s.left s test }
    where
      silent : (f : Option FuncId) (seen : W) → f ≡ None → noted watcher f node seen ≡ seen
      silent None seen e = refl
      silent (Some f) seen e = cc

      by_left : (n : ℕ) (s : State World W) → IsOfTest W s → Longer s (begins_with watcher node n s).1
      by_left zero s test = grown s s.objects s.left (extends_self s.objects)
      by_left (suc n) s test = record { frame = refl; space = refl; depth = refl; seen = silent s.frame.function s.seen test.0; objects = extends_self s.objects }

  pub appends_decides : (watcher : Watcher W) (node : NodeId) (judged : Judged) (outcome : Bool) → Appends (decides watcher node judged outcome)
  appends_decides watcher node judged outcome = record { longer = λ s test. record { frame = refl; space = refl; depth = refl; seen = silent s.frame.function s.seen test.0; objects = extends_self s.objects } }
    where
      silent : (f : Option FuncId) (seen : W) → f ≡ None → told watcher f node judged outcome seen ≡ seen
      silent None seen e = refl
      silent (Some f) seen e = cc

-- ---- operations

pub adds_costs : {A : Type 0} (world : World) (n left : ℕ) (run : Costing (A × World)) → ((left : ℕ) → Longest world (run left).0) → Longest world (costs n run left).0
adds_costs {A} world n left run h = chosen (nat_le n left)
  where
    chosen : (b : Bool) → Longest world (if b then run (left - n) else (op.OutOfSteps, left)).0
    chosen true = h (left - n)
    chosen false = tt

pub adds_aside : {A : Type 0} (run : Costing A) → Adds (aside {S = World} run)
adds_aside {A} run = record { adds = λ world left. answered (run left).0 (run left).1 world }
  where
    answered : (answer : Op A) (left : ℕ) (world : World) → Longest world (then_on {B = A × World} answer left (λ x. done (x, world))).0
    answered (op.Done a) left world = extends_self world
    answered (op.Raises class) left world = tt
    answered (op.Leaves construct) left world = tt
    answered op.OutOfSteps left world = tt
    answered op.Memory left world = tt

pub appends_asks : {W A : Type 0} (read : World → Costing A) → Appends (asks {W = W} read)
appends_asks read = appends_performs _ (record { adds = λ world left. (adds_aside (read world)).adds world left })
