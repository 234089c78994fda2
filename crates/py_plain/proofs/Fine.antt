-- What is claimed of every run, by one record: that it keeps its state sound, that its objects are paid for, or that with more steps it
-- begins in the same way. Each is claimed alone, and a lemma on a definition shows all three.
use Rattle.std.proofs.Common.{◌≡◌, ℕ, zero, suc, ◌+◌, ◌-◌, ◌*◌, ◌≤◌, ◌<◌, Bool, true, false, ◌&&◌, [], ◌∷◌, length, refl, sym, ap, subst, arith, Option, Some, None, Ok, Err, length-append}
use Rattle.std.specs.Prelude.{if◌then◌else◌, nat_le, IsTrue}
use Rattle.std.specs.List.{list_all}
use Rattle.std.proofs.lemmas.Bool.Decides.{nat_tests}
use Rattle.pyn_base.specs.declared.class.BuiltClass.{BuiltClass}
use Rattle.pyn_base.specs.declared.class.ClassId.{ClassId}
use Rattle.pyn_base.specs.declared.class.ClassId.TheVariants.{Built}
use Rattle.pyn_base.specs.declared.ids.FuncId.{FuncId}
use Rattle.pyn_base.specs.declared.ids.NodeId.{NodeId}
use Rattle.pyn_base.specs.declared.ids.ObjId.{ObjId}
use Rattle.py_meaning.specs.declared.measured.Measured.{Measured}
use Rattle.py_meaning.specs.declared.object.Object.{Object}
use Rattle.py_meaning.specs.declared.object.Object.TheVariants as object
use Rattle.py_meaning.specs.declared.op.Op.{Op}
use Rattle.py_meaning.specs.declared.op.Op.TheVariants as op
use Rattle.py_meaning.specs.declared.value.Value.{Value}
use Rattle.py_meaning.specs.declared.value.Value.TheVariants as v
use Rattle.py_meaning.specs.Operations.{made}
use Rattle.py_meaning.specs.SoundRuns.{Fits, WorldSound}
use Rattle.py_meaning.specs.Steps.{Change}
use Rattle.py_meaning.specs.Walk.{truth}
use Rattle.py_meaning.specs.Worlds.{World, sound, sound_world, sound_object, sound_args, dicts}
use Rattle.py_meaning.proofs.Soundness.{all_weaker}
use Rattle.py_meaning.proofs.SoundKinds.{sound_None}
use Rattle.py_meaning.proofs.SoundWalks.{made_holds}
use Rattle.py_plain.specs.declared.judged.Judged.{Judged}
use Rattle.py_plain.specs.declared.judged.Judged.TheVariants as j
use Rattle.py_plain.specs.declared.run.Abrupt.{Abrupt}
use Rattle.py_plain.specs.declared.run.Abrupt.TheVariants.{Raised, Returned, OutOfSteps}
use Rattle.py_plain.specs.declared.state.Frame.{Frame}
use Rattle.py_plain.specs.declared.state.State.{State}
use Rattle.py_plain.specs.Calls.{makes_instance}
use Rattle.py_plain.specs.Runs.{Watcher, Outcome, Ran, Run, Finding, nothing, go_on, ◌>>=◌, ◌>>◌, after_end, stop, gives, raises, settled, performs, takes_if, takes, begins_with, begins, noted, decides, told}
use Rattle.py_plain.proofs.Like.{Frugal, SteadyCost, SameCost, OutCost}
use Rattle.py_plain.specs.SoundStates.{SoundFrame, SoundState, Widens, EndFits, KeptSound, FindingFits}

pub data Claim : Type 0 where
  Sound : Claim
  Paid : Claim
  Prefix : Claim

-- a relation of what a watcher keeps before and after events
pub record Growth (W : Type 0) : Type 1 where
  pub watcher : Watcher W
  pub follows : W → W → Type 0
  pub itself : (x : W) → follows x x
  pub both : (x y z : W) → follows x y → follows y z → follows x z
  pub began : (node : NodeId) (x : W) → follows x (watcher.began node x)
  pub judged : (node : NodeId) (judged : Judged) (outcome : Bool) (x : W) → follows x (watcher.judged node judged outcome x)

-- a state with more steps
abbrev pub more : {W : Type 0} → ℕ → State World W → State World W
more m s = record s { left = m + s.left }

more_none : {W : Type 0} (s : State World W) → more 0 s ≡ s
more_none s = let e : 0 + s.left ≡ s.left = omega arith in ap (λ left. record s { left = left }) e

-- How many objects above twice the steps a part of a node may make: so many where it raises, and one fewer where it goes on.
abbrev pub allowed : {A : Type 0} → ℕ → Outcome A → ℕ
allowed c (Ok a) = c - 1
allowed c (Err why) = c

-- whether a part and what follows it are allowed so much together
abbrev pub may : ℕ → ℕ → ℕ → Bool
may c d e = nat_le c e && (nat_le ((c - 1) + d) e && nat_le ((c - 1) + (d - 1)) (e - 1))

le_of : (a b : ℕ) → nat_le a b ≡ true → a ≤ b
le_of a b h = grind (arith, nat_tests)

and_left : (a b : Bool) → a && b ≡ true → a ≡ true
and_left true b h = refl
and_left false b h = h

and_right : (a b : Bool) → a && b ≡ true → b ≡ true
and_right true b h = h
and_right false b h = cc

pub frame_widens : (world after : World) (frame : Frame) → Widens world after → SoundFrame world frame → SoundFrame after frame
frame_widens world after frame f h = record {
  variables = all_weaker (λ row. sound (dicts world) row.1) (λ row. sound (dicts after) row.1) (λ row. f row.1) frame.variables h.variables;
  handled = all_weaker (λ id. sound (dicts world) (v.Ref id)) (λ id. sound (dicts after) (v.Ref id)) (λ id. f (v.Ref id)) frame.handled h.handled;
}

pub state_widens : {W : Type 0} (s : State World W) (after : World) (left : ℕ) (seen : W) → IsTrue (sound_world after) → Widens s.objects after → SoundState s → SoundState (record s { objects = after; left = left; seen = seen })
state_widens s after left seen w f h = record {
  world = w;
  frame = frame_widens s.objects after s.frame f h.frame;
  space =
      let marks = dicts s.objects in let marks' = dicts after in
      let rows = all_weaker (λ row. sound marks row.1) (λ row. sound marks' row.1) (λ row. f row.1) in
      record {
        names = rows s.space.names h.space.names;
        defaults = all_weaker (list_all (λ row. sound marks row.1)) (list_all (λ row. sound marks' row.1)) rows s.space.defaults h.space.defaults;
        constants = all_weaker (list_all (λ row. sound marks row.1)) (list_all (λ row. sound marks' row.1)) rows s.space.constants h.space.constants;
      };
}

abbrev pub On : Claim → Type 0 → Type 0
On claim claimed = claim ≡ Sound → claimed

abbrev pub IdFits : World → ObjId → Type 0
IdFits world id = Fits world (v.Ref id)

abbrev pub Anything : {A : Type 0} → World → A → Type 0
Anything world a = Unit {0}

-- what an operation that is done leaves
abbrev pub Answered : {A : Type 0} → (World → A → Type 0) → World → Op (A × World) → Type 0
Answered fits world (op.Done new) = WorldSound world new × fits new.1 new.0
Answered fits world _ = Unit {0}

-- It makes at most so many objects above twice its steps.
abbrev pub Counted : {A : Type 0} → ℕ → World → ℕ → Op (A × World) → ℕ → Type 0
Counted n world left (op.Done new) after = length new.1 + 2 * after ≤ length world + 2 * left + n
Counted n world left _ after = after ≤ left

module _ {W : Type 0} (g : Growth W) (claim : Claim) where
  -- With more steps a run ends in the same way, or it had run out of them.
  pub data Steady {A : Type 0} (m : ℕ) (r r' : Ran W A) : Type 0 where
    Same : r' ≡ (r.0, more m r.1) → Steady m r r'
    Out : r.0 ≡ Err OutOfSteps → g.follows r.1.seen r'.1.seen → Steady m r r'

  pub record Good {A : Type 0} (c : ℕ) (fits : World → A → Type 0) (s : State World W) (m : ℕ) (r r' : Ran W A) : Type 0 where
    pub sound : claim ≡ Sound → KeptSound fits s r
    pub paid : claim ≡ Paid → length r.1.objects + 2 * r.1.left ≤ length s.objects + 2 * s.left + allowed c r.0
    pub steady : claim ≡ Prefix → Steady m r r'

  -- A run from a state whose world widens one in which some values are known to be sound, beside the same run with no fewer steps.
  pub record Fine {A : Type 0} (c : ℕ) (w : World) (fits : World → A → Type 0) (p q : Run W A) : Type 0 where
    pub grows : claim ≡ Prefix → (s : State World W) → g.follows s.seen (q s).1.seen
    pub at : (s : State World W) (m : ℕ) → On claim (Widens w s.objects × SoundState s) → Good c fits s m (p s) (q (more m s))

  pub allowed_none : {B : Type 0} (end : Outcome B) → allowed 0 end ≡ 0
  allowed_none (Ok a) = refl
  allowed_none (Err why) = refl

  -- ---- one run after another

  allowed_both : {B : Type 0} (c d e : ℕ) → may c d e ≡ true → (end : Outcome B) → (c - 1) + allowed d end ≤ allowed e end
  allowed_both c d e h (Ok b) = le_of _ _ (and_right (nat_le ((c - 1) + d) e) _ (and_right (nat_le c e) _ h))
  allowed_both c d e h (Err why) = le_of _ _ (and_left (nat_le ((c - 1) + d) e) _ (and_right (nat_le c e) _ h))

  module _ (A B : Type 0) (fits : World → A → Type 0) (fits' : World → B → Type 0) (c d e : ℕ) (w : World) (h : may c d e ≡ true) (f f' : A → Run W B)
      (k : (w' : World) (a : A) → On claim (Widens w w') → On claim (fits w' a) → Fine d w' fits' (f a) (f' a)) where
    next_grows : claim ≡ Prefix → (end : Outcome A) (t : State World W) → g.follows t.seen (go_on end t f').1.seen
    next_grows on (Ok a) t = (k w a (λ x. cc) (λ x. cc)).grows on t
    next_grows on (Err why) t = g.itself t.seen

    next_sound : claim ≡ Sound → (m : ℕ) (s t : State World W) (end : Outcome A) → Widens w s.objects → KeptSound fits s (end, t) → KeptSound fits' s (go_on end t f)
    next_sound on m s t (Ok a) wide h =
        let now = ((k t.objects a (λ _ x y. h.widens x (wide x y)) (λ _. h.end)).at t m (λ _. ((λ x y. y), h.state))).sound on in
        record { state = now.state; widens = λ x y. now.widens x (h.widens x y); end = now.end }
    next_sound on m s t (Err (Raised id)) wide h = record { state = h.state; widens = h.widens; end = h.end }
    next_sound on m s t (Err (Returned x)) wide h = record { state = h.state; widens = h.widens; end = h.end }
    next_sound on m s t (Err why) wide h = record { state = h.state; widens = h.widens; end = tt }

    next_paid : claim ≡ Paid → (n : ℕ) (t : State World W) (end : Outcome A) → length t.objects + 2 * t.left ≤ n + allowed c end → length (go_on end t f).1.objects + 2 * (go_on end t f).1.left ≤ n + allowed e (go_on end t f).0
    next_paid on n t (Ok a) le =
        let now = ((k w a (λ x. cc) (λ x. cc)).at t 0 (λ x. cc)).paid on in
        let fit = allowed_both c d e h (f a t).0 in omega (arith, now, fit, le)
    next_paid on n t (Err why) le = let fit = le_of c e (and_left (nat_le c e) _ h) in omega (arith, le, fit)

    next_steady : claim ≡ Prefix → (m : ℕ) (t : State World W) (end : Outcome A) (r' : Ran W A) → Steady m (end, t) r' → Steady m (go_on end t f) (go_on r'.0 r'.1 f')
    next_steady on m t (Ok a) r' (Same same) = subst (λ r'. Steady m (f a t) (go_on r'.0 r'.1 f')) (sym same) (((k w a (λ x. cc) (λ x. cc)).at t m (λ x. cc)).steady on)
    next_steady on m t (Err why) r' (Same same) = subst (λ r'. Steady m (Err why, t) (go_on r'.0 r'.1 f')) (sym same) (Same refl)
    next_steady on m t (Ok a) r' (Out out follows) = cc
    next_steady on m t (Err why) r' (Out out follows) = Out (ap (λ end. (go_on end t f).0) out) (g.both t.seen r'.1.seen _ follows (next_grows on r'.0 r'.1))

    bind_both : (p q : Run W A) → Fine c w fits p q → Fine e w fits' (p >>= f) (q >>= f')
    bind_both p q hp = record {
      grows = λ on s. g.both s.seen (q s).1.seen _ (hp.grows on s) (next_grows on (q s).0 (q s).1);
      at = λ s m ready. record {
        sound = λ on. next_sound on m s (p s).1 (p s).0 (ready on).0 ((hp.at s m ready).sound on);
        paid = λ on. next_paid on (length s.objects + 2 * s.left) (p s).1 (p s).0 ((hp.at s m ready).paid on);
        steady = λ on. next_steady on m (p s).1 (p s).0 (q (more m s)) ((hp.at s m ready).steady on);
      };
    }

  pub fine_bind : {A B : Type 0} {fits : World → A → Type 0} {fits' : World → B → Type 0} {c d e : ℕ} {w : World} (p q : Run W A) (f f' : A → Run W B) → Fine c w fits p q
      → ((w' : World) (a : A) → On claim (Widens w w') → On claim (fits w' a) → Fine d w' fits' (f a) (f' a)) → may c d e ≡ true → Fine e w fits' (p >>= f) (q >>= f')
  fine_bind {A} {B} {fits} {fits'} {c} {d} {e} {w} p q f f' hp k h = bind_both A B fits fits' c d e w h f f' k p q hp

  -- what follows any end: out of steps it does nothing that can be seen
  abbrev pub Passes : {A B : Type 0} → (Outcome A → Run W B) → Type 0
  Passes {A} f = (s : State World W) → ((f (Err OutOfSteps) s).0 ≡ Err OutOfSteps) × ((f (Err OutOfSteps) s).1.seen ≡ s.seen)

  module _ (A B : Type 0) (fits : World → A → Type 0) (fits' : World → B → Type 0) (e : ℕ) (w : World) (f f' : Outcome A → Run W B) (through : Passes f)
      (k : (w' : World) (end : Outcome A) → On claim (Widens w w') → On claim (EndFits fits w' end) → Fine e w' fits' (f end) (f' end)) where
    after_steady : claim ≡ Prefix → (m : ℕ) (t : State World W) (end : Outcome A) (r' : Ran W A) → Steady m (end, t) r' → Steady m (f end t) (f' r'.0 r'.1)
    after_steady on m t end r' (Same same) = subst (λ r'. Steady m (f end t) (f' r'.0 r'.1)) (sym same) (((k w end (λ x. cc) (λ x. cc)).at t m (λ x. cc)).steady on)
    after_steady on m t end r' (Out out follows) = subst (λ end. Steady m (f end t) (f' r'.0 r'.1)) (sym out)
        (Out (through t).0 (subst (λ x. g.follows x (f' r'.0 r'.1).1.seen) (sym (through t).1) (g.both t.seen r'.1.seen _ follows ((k w r'.0 (λ x. cc) (λ x. cc)).grows on r'.1))))

    after_sound : claim ≡ Sound → (m : ℕ) (s t : State World W) (end : Outcome A) → Widens w s.objects → KeptSound fits s (end, t) → KeptSound fits' s (f end t)
    after_sound on m s t end wide h =
        let now = ((k t.objects end (λ _ x y. h.widens x (wide x y)) (λ _. h.end)).at t m (λ _. ((λ x y. y), h.state))).sound on in
        record { state = now.state; widens = λ x y. now.widens x (h.widens x y); end = now.end }

    after_both : (p q : Run W A) → Fine 0 w fits p q → Fine e w fits' (after_end p f) (after_end q f')
    after_both p q hp = record {
      grows = λ on s. g.both s.seen (q s).1.seen _ (hp.grows on s) ((k w (q s).0 (λ x. cc) (λ x. cc)).grows on (q s).1);
      at = λ s m ready. record {
        sound = λ on. after_sound on m s (p s).1 (p s).0 (ready on).0 ((hp.at s m ready).sound on);
        paid = λ on.
            let none = allowed_none (p s).0 in let first = (hp.at s m ready).paid on in
            let later = ((k w (p s).0 (λ x. cc) (λ x. cc)).at (p s).1 m (λ x. cc)).paid on in omega (arith, none, first, later);
        steady = λ on. after_steady on m (p s).1 (p s).0 (q (more m s)) ((hp.at s m ready).steady on);
      };
    }

  pub fine_after : {A B : Type 0} {fits : World → A → Type 0} {fits' : World → B → Type 0} {e : ℕ} {w : World} (p q : Run W A) (f f' : Outcome A → Run W B) → Passes f → Fine 0 w fits p q
      → ((w' : World) (end : Outcome A) → On claim (Widens w w') → On claim (EndFits fits w' end) → Fine e w' fits' (f end) (f' end)) → Fine e w fits' (after_end p f) (after_end q f')
  fine_after {A} {B} {fits} {fits'} {e} {w} p q f f' through hp k = after_both A B fits fits' e w f f' through k p q hp

  -- a choice by the state
  pub fine_at : {A : Type 0} {fits : World → A → Type 0} {c : ℕ} {w : World} (p q : State World W → Run W A)
      → ((s : State World W) (m : ℕ) → On claim (Widens w s.objects) → On claim (SoundState s) → Fine c s.objects fits (p s) (q (more m s))) → Fine c w fits (λ s. p s s) (λ s. q s s)
  fine_at p q h = record {
    grows = λ on s. subst (λ t. g.follows s.seen (q t s).1.seen) (more_none s) ((h s 0 (λ x. cc) (λ x. cc)).grows on s);
    at = λ s m ready. (h s m (λ on. (ready on).0) (λ on. (ready on).1)).at s m (λ on. ((λ x y. y), (ready on).1));
  }

  pub fine_if : {A : Type 0} {fits : World → A → Type 0} {c : ℕ} {w : World} (b : Bool) (p q p' q' : Run W A) → Fine c w fits p p' → Fine c w fits q q' → Fine c w fits (if b then p else q) (if b then p' else q')
  fine_if true p q p' q' h k = h
  fine_if false p q p' q' h k = k

  -- the same with more allowed
  pub fine_more : {A : Type 0} {fits : World → A → Type 0} {w : World} {c d : ℕ} (p q : Run W A) → nat_le c d ≡ true → Fine c w fits p q → Fine d w fits p q
  fine_more {A} {fits} {w} {c} {d} p q le h = record {
    grows = h.grows;
    at = λ s m ready. record { sound = (h.at s m ready).sound; paid = λ on. let first = (h.at s m ready).paid on in let wider = allowed_more (p s).0 in omega (arith, first, wider); steady = (h.at s m ready).steady };
  }
    where
      allowed_more : (end : Outcome A) → allowed c end ≤ allowed d end
      allowed_more (Ok a) = let h = le_of c d le in omega (arith, h)
      allowed_more (Err why) = le_of c d le

  -- ---- what leaves the state as it was

  pub fine_says : {A : Type 0} {fits : World → A → Type 0} {w : World} (end : World → Outcome A) → ((w' : World) → On claim (Widens w w') → On claim (EndFits fits w' (end w'))) → Fine 0 w fits (λ s. (end s.objects, s)) (λ s. (end s.objects, s))
  fine_says end h = record {
    grows = λ on s. g.itself s.seen;
    at = λ s m ready. record {
      sound = λ on. record { state = (ready on).1; widens = λ x y. y; end = h s.objects (λ on. (ready on).0) on };
      paid = λ on. omega arith;
      steady = λ on. Same refl;
    };
  }

  pub fine_end : {A : Type 0} {fits : World → A → Type 0} {w : World} (end : Outcome A) → ((w' : World) → On claim (Widens w w') → On claim (EndFits fits w' end)) → Fine 0 w fits (λ s. (end, s)) (λ s. (end, s))
  fine_end end h = fine_says (λ w. end) h

  -- one that needs no value
  pub fine_stop : {A : Type 0} {fits : World → A → Type 0} {w : World} (why : Abrupt) → ((w' : World) → On claim (EndFits {A = A} fits w' (Err why))) → Fine 0 w fits (stop why) (stop why)
  fine_stop why h = fine_end (Err why) (λ w' wide. h w')

  pub fine_gives : {w : World} (x : Value) → On claim (Fits w x) → Fine 0 w FindingFits (gives x) (gives x)
  fine_gives x h = fine_says (λ world. Ok (x, j.Plain (truth world x))) (λ w' wide on. wide on x (h on))

  -- ---- objects

  -- a new object, and an end that may name it
  pub fine_made : {A : Type 0} {fits : World → A → Type 0} {c : ℕ} {w : World} (o : Object) (end : ObjId → Outcome A) → ((id : ObjId) → 1 ≤ allowed c (end id))
      → ((w' : World) → On claim (Widens w w') → On claim (IsTrue (sound_object (dicts w') o))) → ((w' : World) (id : ObjId) → Fits w' (v.Ref id) → On claim (EndFits fits w' (end id)))
      → Fine c w fits (λ s. (end (made o s.objects).0, record s { objects = (made o s.objects).1 })) (λ s. (end (made o s.objects).0, record s { objects = (made o s.objects).1 }))
  fine_made o end one whole h = record {
    grows = λ on s. g.itself s.seen;
    at = λ s m ready. record {
      sound = λ on.
          let new = made_holds s.objects o (ready on).1.world (whole s.objects (λ on. (ready on).0) on) in
          record { state = state_widens s (made o s.objects).1 s.left s.seen new.0.0 new.0.1 (ready on).1; widens = new.0.1; end = h (made o s.objects).1 (made o s.objects).0 new.1 on };
      paid = λ on. let longer = length-append s.objects (o ∷ []) in let least = one (made o s.objects).0 in omega (arith, longer, least);
      steady = λ on. Same refl;
    };
  }

  pub fine_raises : {A : Type 0} {fits : World → A → Type 0} {w : World} (class : BuiltClass) → Fine 1 w fits (raises class) (raises class)
  fine_raises class = fine_made (object.Instance (Built class) [] None) (λ id. Err (Raised id)) (λ id. omega arith) (λ w' wide on. refl) (λ w' id h on. h)

  pub fine_instance : {w : World} (class : ClassId) (args : Option (Measured Value)) → ((w' : World) → On claim (Widens w w') → On claim (IsTrue (sound_args (dicts w') args))) → Fine 2 w IdFits (makes_instance class args) (makes_instance class args)
  fine_instance class args h = fine_made (object.Instance class [] args) Ok (λ id. omega arith) h (λ w' id h on. h)

  -- a write that makes no object
  pub fine_writes : {w : World} (write : World → World) → ((w' : World) → length (write w') ≡ length w') → ((w' : World) → On claim (Widens w w') → On claim (IsTrue (sound_world w')) → On claim (WorldSound {A = Unit {0}} w' (tt, write w')))
      → Fine 0 w FindingFits (λ s. (Ok nothing, record s { objects = write s.objects })) (λ s. (Ok nothing, record s { objects = write s.objects }))
  fine_writes write long h = record {
    grows = λ on s. g.itself s.seen;
    at = λ s m ready. record {
      sound = λ on.
          let new = h s.objects (λ on. (ready on).0) (λ on. (ready on).1.world) on in
          record { state = state_widens s (write s.objects) s.left s.seen new.0 new.1 (ready on).1; widens = new.1; end = sound_None (dicts (write s.objects)) };
      paid = λ on. let same = long s.objects in omega (arith, same);
      steady = λ on. Same refl;
    };
  }

  -- another frame
  pub fine_frame : {w : World} (write : Frame → Frame) → ((w' : World) (frame : Frame) → On claim (Widens w w') → On claim (SoundFrame w' frame) → On claim (SoundFrame w' (write frame)))
      → Fine 0 w FindingFits (λ s. (Ok nothing, record s { frame = write s.frame })) (λ s. (Ok nothing, record s { frame = write s.frame }))
  fine_frame write h = record {
    grows = λ on s. g.itself s.seen;
    at = λ s m ready. record {
      sound = λ on. let now = (ready on).1 in record {
        state = record { world = now.world; frame = h s.objects s.frame (λ on. (ready on).0) (λ on. (ready on).1.frame) on; space = now.space };
        widens = λ x y. y;
        end = sound_None (dicts s.objects);
      };
      paid = λ on. omega arith;
      steady = λ on. Same refl;
    };
  }

  -- ---- operations

  -- what is known of an operation
  pub record Able {A : Type 0} (n : ℕ) (w : World) (fits : World → A → Type 0) (change : Change World A) : Type 0 where
    pub answers : (w' : World) (left : ℕ) → On claim (Widens w w') → On claim (IsTrue (sound_world w')) → On claim (Answered fits w' (change w' left).0)
    pub counts : claim ≡ Paid → (w' : World) (left : ℕ) → Counted n w' left (change w' left).0 (change w' left).1
    pub frugal : (w' : World) → Frugal (change w')

  module _ (A : Type 0) (fits : World → A → Type 0) (n : ℕ) where
    settled_sound : claim ≡ Sound → (answer : Op (A × World)) (left : ℕ) (s : State World W) → SoundState s → Answered fits s.objects answer → KeptSound fits s (settled answer left s)
    settled_sound on (op.Done new) left s h k = record { state = state_widens s new.1 left s.seen k.0.0 k.0.1 h; widens = k.0.1; end = k.1 }
    settled_sound on (op.Raises class) left s h k =
        let new = made_holds s.objects (object.Instance (Built class) [] None) h.world refl in
        record { state = state_widens s (made (object.Instance (Built class) [] None) s.objects).1 left s.seen new.0.0 new.0.1 h; widens = new.0.1; end = new.1 }
    settled_sound on (op.Leaves construct) left s h k = record { state = state_widens s s.objects left s.seen h.world (λ x y. y) h; widens = λ x y. y; end = tt }
    settled_sound on op.OutOfSteps left s h k = record { state = state_widens s s.objects left s.seen h.world (λ x y. y) h; widens = λ x y. y; end = tt }
    settled_sound on op.Memory left s h k = record { state = h; widens = λ x y. y; end = tt }

    settled_paid : (answer : Op (A × World)) (left : ℕ) (s : State World W) → Counted n s.objects s.left answer left → length (settled answer left s).1.objects + 2 * (settled answer left s).1.left ≤ length s.objects + 2 * s.left + allowed (suc n) (settled answer left s).0
    settled_paid (op.Done new) left s h = omega (arith, h)
    settled_paid (op.Raises class) left s h = let longer = length-append s.objects (object.Instance (Built class) [] None ∷ []) in omega (arith, longer, h)
    settled_paid (op.Leaves construct) left s h = omega (arith, h)
    settled_paid op.OutOfSteps left s h = omega (arith, h)
    settled_paid op.Memory left s h = omega arith

    settled_follows : (answer : Op (A × World)) (left : ℕ) (s : State World W) → g.follows s.seen (settled answer left s).1.seen
    settled_follows (op.Done new) left s = g.itself s.seen
    settled_follows (op.Raises class) left s = g.itself s.seen
    settled_follows (op.Leaves construct) left s = g.itself s.seen
    settled_follows op.OutOfSteps left s = g.itself s.seen
    settled_follows op.Memory left s = g.itself s.seen

    settled_same : (m : ℕ) (answer : Op (A × World)) (left : ℕ) (s : State World W) → Steady m (settled answer left s) (settled answer (m + left) (more m s))
    settled_same m (op.Done new) left s = Same refl
    settled_same m (op.Raises class) left s = Same refl
    settled_same m (op.Leaves construct) left s = Same refl
    settled_same m op.OutOfSteps left s = Same refl
    settled_same m op.Memory left s = Same refl

    settled_out : (m : ℕ) (answer : Op (A × World)) (left : ℕ) (s : State World W) (answer' : Op (A × World)) (left' : ℕ) → answer ≡ op.OutOfSteps → Steady m (settled answer left s) (settled answer' left' (more m s))
    settled_out m op.OutOfSteps left s answer' left' e = Out refl (settled_follows answer' left' (more m s))
    settled_out m _ left s answer' left' e = cc

    settled_steady : (m : ℕ) (r r' : Op (A × World) × ℕ) (s : State World W) → SteadyCost m r r' → Steady m (settled r.0 r.1 s) (settled r'.0 r'.1 (more m s))
    settled_steady m r r' s (SameCost e) = subst (λ r'. Steady m (settled r.0 r.1 s) (settled r'.0 r'.1 (more m s))) (sym e) (settled_same m r.0 r.1 s)
    settled_steady m r r' s (OutCost e) = settled_out m r.0 r.1 s r'.0 r'.1 e

    performs_fine : (w : World) (change : Change World A) → Able n w fits change → Fine (suc n) w fits (performs change) (performs change)
    performs_fine w change h = record {
      grows = λ on s. settled_follows (change s.objects s.left).0 (change s.objects s.left).1 s;
      at = λ s m ready. record {
        sound = λ on. settled_sound on (change s.objects s.left).0 (change s.objects s.left).1 s (ready on).1 (h.answers s.objects s.left (λ on. (ready on).0) (λ on. (ready on).1.world) on);
        paid = λ on. settled_paid (change s.objects s.left).0 (change s.objects s.left).1 s (h.counts on s.objects s.left);
        steady = λ on. settled_steady m (change s.objects s.left) (change s.objects (m + s.left)) s ((h.frugal s.objects).steady s.left m);
      };
    }

  pub fine_performs : {A : Type 0} {fits : World → A → Type 0} {n : ℕ} {w : World} (change : Change World A) → Able n w fits change → Fine (suc n) w fits (performs change) (performs change)
  fine_performs {A} {fits} {n} {w} change h = performs_fine A fits n w change h

  -- ---- steps, and what is told

  pub fine_takes : {w : World} (n : ℕ) → Fine 0 w Anything (takes n) (takes n)
  fine_takes n = record {
    grows = λ on s. seen_same (nat_le n s.left) s;
    at = λ s m ready. record {
      sound = λ on. taken_sound (nat_le n s.left) s (ready on).1;
      paid = λ on. taken_paid (nat_le n s.left) s;
      steady = λ on. taken_steady (nat_le n s.left) (nat_le n (m + s.left)) m s refl refl;
    };
  }
    where
      seen_same : (b : Bool) (s : State World W) → g.follows s.seen (takes_if b n s).1.seen
      seen_same true s = g.itself s.seen
      seen_same false s = g.itself s.seen

      taken_sound : (b : Bool) (s : State World W) → SoundState s → KeptSound Anything s (takes_if b n s)
      taken_sound true s h = record { state = state_widens s s.objects (s.left - n) s.seen h.world (λ x y. y) h; widens = λ x y. y; end = tt }
      taken_sound false s h = record { state = h; widens = λ x y. y; end = tt }

      taken_paid : (b : Bool) (s : State World W) → length (takes_if b n s).1.objects + 2 * (takes_if b n s).1.left ≤ length s.objects + 2 * s.left + allowed 0 (takes_if b n s).0
      taken_paid true s = omega arith
      taken_paid false s = omega arith

      taken_steady : (b b' : Bool) (m : ℕ) (s : State World W) → nat_le n s.left ≡ b → nat_le n (m + s.left) ≡ b' → Steady m (takes_if b n s) (takes_if b' n (more m s))
      taken_steady true true m s e e' = let few = le_of n s.left e in let same : m + s.left - n ≡ m + (s.left - n) = omega (arith, few) in Same (ap (λ left. (let r : Ran W (Unit {0}) = (Ok tt, record s { left = left }) in r)) same)
      taken_steady true false m s e e' = let few = le_of n s.left e in let many : m + s.left < n = grind (arith, nat_tests) in absurd (omega (arith, few, many))
      taken_steady false true m s e e' = Out refl (g.itself s.seen)
      taken_steady false false m s e e' = Same refl

  follows_noted : (f : Option FuncId) (node : NodeId) (x : W) → g.follows x (noted g.watcher f node x)
  follows_noted None node x = g.itself x
  follows_noted (Some f) node x = g.began node x

  follows_told : (f : Option FuncId) (node : NodeId) (judged : Judged) (outcome : Bool) (x : W) → g.follows x (told g.watcher f node judged outcome x)
  follows_told None node judged outcome x = g.itself x
  follows_told (Some f) node judged outcome x = g.judged node judged outcome x

  pub fine_decides : {w : World} (node : NodeId) (judged : Judged) (outcome : Bool) → Fine 0 w Anything (decides g.watcher node judged outcome) (decides g.watcher node judged outcome)
  fine_decides node judged outcome = record {
    grows = λ on s. follows_told s.frame.function node judged outcome s.seen;
    at = λ s m ready. record {
      sound = λ on. record { state = state_widens s s.objects s.left (told g.watcher s.frame.function node judged outcome s.seen) (ready on).1.world (λ x y. y) (ready on).1; widens = λ x y. y; end = tt };
      paid = λ on. omega arith;
      steady = λ on. Same refl;
    };
  }

  abbrev begun : NodeId → ℕ → State World W → State World W
  begun node n s = record s { left = n; seen = noted g.watcher s.frame.function node s.seen }

  -- a node that begins, and what it does: its step pays for two objects
  pub fine_node : {w : World} (node : NodeId) (p q : Run W Finding) → Fine 2 w FindingFits p q → Fine 0 w FindingFits (begins g.watcher node >> p) (begins g.watcher node >> q)
  fine_node {w} node p q h = record {
    grows = λ on s. node_grows on s.left s;
    at = λ s m ready. record {
      sound = λ on. node_sound on m s.left s (ready on);
      paid = λ on. node_paid on s.left s refl;
      steady = λ on. node_steady on m s.left s;
    };
  }
    where
      node_grows : claim ≡ Prefix → (n : ℕ) (s : State World W) → g.follows s.seen ((begins_with g.watcher node n >> q) s).1.seen
      node_grows on zero s = g.itself s.seen
      node_grows on (suc n) s = g.both s.seen (begun node n s).seen _ (follows_noted s.frame.function node s.seen) (h.grows on (begun node n s))

      node_sound : claim ≡ Sound → (m n : ℕ) (s : State World W) → Widens w s.objects × SoundState s → KeptSound FindingFits s ((begins_with g.watcher node n >> p) s)
      node_sound on m zero s ready = record { state = ready.1; widens = λ x y. y; end = tt }
      node_sound on m (suc n) s ready =
          let now = (h.at (begun node n s) m (λ on. (ready.0, state_widens s s.objects n (noted g.watcher s.frame.function node s.seen) ready.1.world (λ x y. y) ready.1))).sound on in
          record { state = now.state; widens = now.widens; end = now.end }

      allowed_two : (end : Outcome Finding) → allowed 2 end ≤ 2
      allowed_two (Ok a) = omega arith
      allowed_two (Err why) = omega arith

      node_paid : claim ≡ Paid → (n : ℕ) (s : State World W) → s.left ≡ n → length ((begins_with g.watcher node n >> p) s).1.objects + 2 * ((begins_with g.watcher node n >> p) s).1.left ≤ length s.objects + 2 * s.left + allowed 0 ((begins_with g.watcher node n >> p) s).0
      node_paid on zero s e = omega arith
      node_paid on (suc n) s e = let now = (h.at (begun node n s) 0 (λ x. cc)).paid on in let few = allowed_two (p (begun node n s)).0 in omega (arith, now, few, e)

      node_steady : claim ≡ Prefix → (m n : ℕ) (s : State World W) → Steady m ((begins_with g.watcher node n >> p) (record s { left = n })) ((begins_with g.watcher node (m + n) >> q) (record s { left = m + n }))
      node_steady on m zero s = Out refl (node_grows on (m + 0) (record s { left = m + 0 }))
      node_steady on m (suc n) s =
          let e : m + suc n ≡ suc (m + n) = omega arith in
          rw e ((h.at (begun node n s) m (λ x. cc)).steady on)

  -- the same, where it does no more than a step
  pub fine_begins : {w : World} (node : NodeId) → Fine 0 w Anything (begins g.watcher node) (begins g.watcher node)
  fine_begins node = record {
    grows = λ on s. begin_grows s.left s;
    at = λ s m ready. record {
      sound = λ on. begin_sound s.left s (ready on).1;
      paid = λ on. begin_paid s.left s refl;
      steady = λ on. begin_steady m s.left s;
    };
  }
    where
      begin_grows : (n : ℕ) (s : State World W) → g.follows s.seen (begins_with g.watcher node n s).1.seen
      begin_grows zero s = g.itself s.seen
      begin_grows (suc n) s = follows_noted s.frame.function node s.seen

      begin_sound : (n : ℕ) (s : State World W) → SoundState s → KeptSound Anything s (begins_with g.watcher node n s)
      begin_sound zero s h = record { state = h; widens = λ x y. y; end = tt }
      begin_sound (suc n) s h = record { state = state_widens s s.objects n (noted g.watcher s.frame.function node s.seen) h.world (λ x y. y) h; widens = λ x y. y; end = tt }

      begin_paid : (n : ℕ) (s : State World W) → s.left ≡ n → length (begins_with g.watcher node n s).1.objects + 2 * (begins_with g.watcher node n s).1.left ≤ length s.objects + 2 * s.left + allowed 0 (begins_with g.watcher node n s).0
      begin_paid zero s e = omega arith
      begin_paid (suc n) s e = omega (arith, e)

      begin_steady : (m n : ℕ) (s : State World W) → Steady m (begins_with g.watcher node n (record s { left = n })) (begins_with g.watcher node (m + n) (record s { left = m + n }))
      begin_steady m zero s = Out refl (begin_grows (m + 0) (record s { left = m + 0 }))
      begin_steady m (suc n) s = let e : m + suc n ≡ suc (m + n) = omega arith in rw e (Same refl)
