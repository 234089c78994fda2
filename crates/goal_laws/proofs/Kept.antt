-- Runs that keep the rule, and runs that tell nothing, by how they are put together.
use Rattle.std.proofs.Common.{Bool, Err, Ok, Option, Some, [], ap, false, refl, subst, suc, sym, true, zero, ℕ, ◌∙◌, ◌≡◌}
use Rattle.std.specs.Prelude.{if◌then◌else◌, nat_le, slice_get}
use Rattle.pyn_base.specs.declared.class.BuiltClass.{BuiltClass}
use Rattle.pyn_base.specs.declared.class.ClassId.{ClassId}
use Rattle.pyn_base.specs.declared.ids.FuncId.{FuncId}
use Rattle.pyn_base.specs.declared.ids.NodeId.{NodeId}
use Rattle.py_meaning.specs.Steps.{Change, Costing}
use Rattle.py_meaning.specs.Worlds.{World}
use Rattle.py_meaning.specs.declared.measured.Measured.{Measured}
use Rattle.py_meaning.specs.declared.op.Op.{Op}
use Rattle.py_meaning.specs.declared.op.Op.TheVariants as op
use Rattle.py_meaning.specs.declared.value.Value.{Value}
use Rattle.py_plain.specs.Calls.{makes_instance}
use Rattle.py_plain.specs.Program.{Function}
use Rattle.py_plain.specs.Runs.{Outcome, Ran, Run, after_end, asks, begins, begins_with, decides, gives, go_on, noted, performs, performs_value, pure, raises, settled, stop, takes, takes_if, tests, told, ◌>>=◌, ◌>>◌}
use Rattle.py_plain.specs.Tests.{Began, Decided, Trail, recorder}
use Rattle.py_plain.specs.declared.judged.Judged.{Judged}
use Rattle.py_plain.specs.declared.run.Abrupt.{Abrupt}
use Rattle.py_plain.specs.declared.state.State.{State}
use Rattle.goal_model.specs.declared.kind.GoalKind.TheVariants.{Branch, Entry}
use Rattle.goal_laws.proofs.Trails.{Allowed, Grows, Obeys, Permitted, Reaches, Rule, began_reaches, grows_itself, grows_none, has_reached, noted_goes, told_goes, told_reaches}

abbrev pub S : Type 0
S = State World Trail

abbrev pub Does : Type 0 → Type 0
Does A = Run Trail A

-- ---- runs that tell nothing

abbrev pub shown : S → Trail × Option FuncId
shown s = (s.seen, s.frame.function)

pub record Quiet {A : Type 0} (p : Does A) : Type 0 where
  pub still : (s : S) → shown (p s).1 ≡ shown s

still_on : {A B : Type 0} (end : Outcome A) (s : S) (next : A → Does B) → ((a : A) → Quiet (next a)) → shown (go_on end s next).1 ≡ shown s
still_on (Ok a) s next h = (h a).still s
still_on (Err why) s next h = refl

pub quiet_bind : {A B : Type 0} (p : Does A) (next : A → Does B) → Quiet p → ((a : A) → Quiet (next a)) → Quiet (p >>= next)
quiet_bind p next h k = record { still = λ s. still_on (p s).0 (p s).1 next k ∙ h.still s }

pub quiet_if : {A : Type 0} (b : Bool) (p q : Does A) → Quiet p → Quiet q → Quiet (if b then p else q)
quiet_if true p q h k = h
quiet_if false p q h k = k

pub quiet_pure : {A : Type 0} (a : A) → Quiet (pure {W = Trail} a)
quiet_pure a = record { still = λ s. refl }

pub quiet_stop : {A : Type 0} (why : Abrupt) → Quiet (stop {W = Trail} {A = A} why)
quiet_stop why = record { still = λ s. refl }

pub quiet_gives : (x : Value) → Quiet (gives {W = Trail} x)
quiet_gives x = record { still = λ s. refl }

pub quiet_tests : (x : Value) → Quiet (tests {W = Trail} x)
quiet_tests x = record { still = λ s. refl }

pub quiet_raises : {A : Type 0} (class : BuiltClass) → Quiet (raises {W = Trail} {A = A} class)
quiet_raises class = record { still = λ s. refl }

pub quiet_makes : (class : ClassId) (args : Option (Measured Value)) → Quiet (makes_instance {W = Trail} class args)
quiet_makes class args = record { still = λ s. refl }

settled_still : {A : Type 0} (answer : Op (A × World)) (left : ℕ) (s : S) → shown (settled answer left s).1 ≡ shown s
settled_still (op.Done made) left s = refl
settled_still (op.Raises class) left s = refl
settled_still (op.Leaves construct) left s = refl
settled_still op.OutOfSteps left s = refl
settled_still op.Memory left s = refl

pub quiet_performs : {A : Type 0} (change : Change World A) → Quiet (performs {W = Trail} change)
quiet_performs change = record { still = λ s. settled_still (change s.objects s.left).0 (change s.objects s.left).1 s }

pub quiet_asks : {A : Type 0} (read : World → Costing A) → Quiet (asks {W = Trail} read)
quiet_asks read = quiet_performs _

pub quiet_value : (change : Change World Value) → Quiet (performs_value {W = Trail} change)
quiet_value change = quiet_bind _ _ (quiet_performs change) quiet_gives

takes_still : (b : Bool) (n : ℕ) (s : S) → shown (takes_if b n s).1 ≡ shown s
takes_still true n s = refl
takes_still false n s = refl

pub quiet_takes : (n : ℕ) → Quiet (takes {W = Trail} n)
quiet_takes n = record { still = λ s. takes_still (nat_le n s.left) n s }

-- ---- runs that keep the rule

module _ (r : Rule) where
  -- what a run leaves
  pub record Good {A : Type 0} (s : S) (ran : Ran Trail A) : Type 0 where
    pub obeys : Obeys r ran.1.seen
    pub grows : Grows s.seen ran.1.seen
    pub function : ran.1.frame.function ≡ s.frame.function

  -- A run in a function, or in a test, from a trail that has what another had.
  pub record Kept {A : Type 0} (f : Option FuncId) (t : Trail) (p : Does A) : Type 0 where
    pub at : (s : S) → s.frame.function ≡ f → Obeys r s.seen → Grows t s.seen → Good s (p s)

  module _ {f : Option FuncId} where
    pub later : {A : Type 0} {t : Trail} (u : Trail) (p : Does A) → Grows t u → Kept f t p → Kept f u p
    later u p g h = record { at = λ s e o grown. h.at s e o (λ test came. grown test (g test came)) }

    pub always : {A : Type 0} {t : Trail} (p : Does A) → Kept f [] p → Kept f t p
    always {t = t} p h = later t p (grows_none t) h

    pub quiet : {A : Type 0} {t : Trail} (p : Does A) → Quiet p → Kept f t p
    quiet p h = record {
      at = λ s e o grown. record {
        obeys = subst (Obeys r) (sym (ap (λ pair. pair.0) (h.still s))) o;
        grows = subst (Grows s.seen) (sym (ap (λ pair. pair.0) (h.still s))) (grows_itself s.seen);
        function = ap (λ pair. pair.1) (h.still s);
      };
    }

    good_on : {A B : Type 0} (t : Trail) (s : S) (end : Outcome A) (u : S) (next : A → Does B) → s.frame.function ≡ f → Grows t s.seen → Good s (end, u)
        → ((u : Trail) → Grows t u → (a : A) → Kept f u (next a)) → Good s (go_on end u next)
    good_on t s (Ok a) u next e grown h k =
        let now = (k u.seen (λ test came. h.grows test (grown test came)) a).at u (h.function ∙ e) h.obeys (grows_itself u.seen) in
        record { obeys = now.obeys; grows = λ test came. now.grows test (h.grows test came); function = now.function ∙ h.function }
    good_on t s (Err why) u next e grown h k = record { obeys = h.obeys; grows = h.grows; function = h.function }

    pub kept_bind : {A B : Type 0} {t : Trail} (p : Does A) (next : A → Does B) → Kept f t p → ((u : Trail) → Grows t u → (a : A) → Kept f u (next a)) → Kept f t (p >>= next)
    kept_bind {t = t} p next h k = record { at = λ s e o grown. good_on t s (p s).0 (p s).1 next e grown (h.at s e o grown) k }

    pub kept_then : {A B : Type 0} {t : Trail} (p : Does A) (next : A → Does B) → Kept f t p → ((a : A) → Kept f [] (next a)) → Kept f t (p >>= next)
    kept_then p next h k = kept_bind p next h (λ u grown a. always (next a) (k a))

    good_after : {A B : Type 0} (t : Trail) (s : S) (end : Outcome A) (u : S) (next : Outcome A → Does B) → s.frame.function ≡ f → Grows t s.seen → Good s (end, u)
        → ((u : Trail) → Grows t u → (end : Outcome A) → Kept f u (next end)) → Good s (next end u)
    good_after t s end u next e grown h k =
        let now = (k u.seen (λ test came. h.grows test (grown test came)) end).at u (h.function ∙ e) h.obeys (grows_itself u.seen) in
        record { obeys = now.obeys; grows = λ test came. now.grows test (h.grows test came); function = now.function ∙ h.function }

    pub kept_after : {A B : Type 0} {t : Trail} (p : Does A) (next : Outcome A → Does B) → Kept f t p → ((u : Trail) → Grows t u → (end : Outcome A) → Kept f u (next end)) → Kept f t (after_end p next)
    kept_after {t = t} p next h k = record { at = λ s e o grown. good_after t s (p s).0 (p s).1 next e grown (h.at s e o grown) k }

    pub kept_if : {A : Type 0} {t : Trail} (b : Bool) (p q : Does A) → Kept f t p → Kept f t q → Kept f t (if b then p else q)
    kept_if true p q h k = h
    kept_if false p q h k = k

    -- ---- what is told

    begun_good : (node : NodeId) (n : ℕ) (s : S) → s.frame.function ≡ f → Obeys r s.seen → Permitted r f s.seen (Began node) → Good s (begins_with recorder node n s)
    begun_good node zero s e o p = record { obeys = o; grows = grows_itself s.seen; function = refl }
    begun_good node (suc n) s e o p =
        let goes = noted_goes r s.frame.function s.seen node (subst (λ f. Permitted r f s.seen (Began node)) (sym e) p) o in
        record { obeys = goes.0; grows = goes.1; function = refl }

    pub kept_begins : {t : Trail} (node : NodeId) → ((u : Trail) → Grows t u → Permitted r f u (Began node)) → Kept f t (begins recorder node)
    kept_begins node h = record { at = λ s e o grown. begun_good node s.left s e o (h s.seen grown) }

    -- A decision, and what follows it, where its outcome is known to have come.
    pub kept_decides : {B : Type 0} {t : Trail} (node : NodeId) (judged : Judged) (outcome : Bool) (next : Unit {0} → Does B) → ((u : Trail) → Grows t u → Permitted r f u (Decided node judged outcome))
        → ((u : Trail) → Grows t u → Reaches r f u (Branch node outcome) → Kept f u (next tt)) → Kept f t (decides recorder node judged outcome >>= next)
    kept_decides node judged outcome next h k = record {
      at = λ s e o grown.
          let goes = told_goes r s.frame.function s.seen node judged outcome (subst (λ f. Permitted r f s.seen (Decided node judged outcome)) (sym e) (h s.seen grown)) o in
          let u = told recorder s.frame.function node judged outcome s.seen in
          let came : Reaches r f u (Branch node outcome) = subst (λ f. Reaches r f u (Branch node outcome)) e (told_reaches r s.frame.function s.seen node judged outcome) in
          let now = (k u (λ test came. goes.1 test (grown test came)) came).at (record s { seen = u }) e goes.0 (grows_itself u) in
          record { obeys = now.obeys; grows = λ test came. now.grows test (goes.1 test came); function = now.function };
    }

  -- ---- a function that begins, and its body

  entered_good : {B : Type 0} (id : FuncId) (f : Function) (next : Does B) → slice_get r.program.functions id.0 ≡ Some f → ((u : Trail) → Reaches r (Some id) u (Entry id) → Kept (Some id) u next)
      → (n : ℕ) (s : S) → s.frame.function ≡ Some id → Obeys r s.seen → Allowed r s.seen (Began f.tree.node)
      → Good s (go_on (begins_with recorder f.tree.node n s).0 (begins_with recorder f.tree.node n s).1 (λ _. next))
  entered_good id f next is k zero s e o p = record { obeys = o; grows = grows_itself s.seen; function = refl }
  entered_good id f next is k (suc n) s e o p =
      let node = f.tree.node in
      let u = noted recorder s.frame.function node s.seen in
      let goes = noted_goes r s.frame.function s.seen node (subst (λ f. Permitted r f s.seen (Began node)) (sym e) p) o in
      let came : has_reached r u (Entry id) ≡ true = subst (λ f. has_reached r (noted recorder f node s.seen) (Entry id) ≡ true) (sym e) (began_reaches r s.seen id f is) in
      let now = (k u came).at (record s { left = n; seen = u }) e goes.0 (grows_itself u) in
      record { obeys = now.obeys; grows = λ test came. now.grows test (goes.1 test came); function = now.function }

  pub kept_enters : {B : Type 0} {t : Trail} (id : FuncId) (f : Function) (next : Does B) → slice_get r.program.functions id.0 ≡ Some f → ((u : Trail) → Allowed r u (Began f.tree.node))
      → ((u : Trail) → Reaches r (Some id) u (Entry id) → Kept (Some id) u next) → Kept (Some id) t (begins recorder f.tree.node >> next)
  kept_enters id f next is p k = record { at = λ s e o grown. entered_good id f next is k s.left s e o (p s.seen) }
