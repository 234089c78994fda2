-- What was set before a trail's end are the marks that the trail leaves.
use Rattle.std.proofs.Common.{◌≡◌, refl, sym, ap, ap₂, ◌∙◌, subst, arith, ℕ, zero, suc, ◌+◌, ◌<◌, ◌≤◌, min, Bool, true, false, List, [], ◌∷◌, ◌++◌, Option, Some, None}
use Rattle.std.proofs.Math.Nat.{min-eq_left, min-eq_right}
use Rattle.std.proofs.lemmas.Bool.Decides.{nat_tests}
use Rattle.std.proofs.lemmas.Option.{slice_get-map}
use Rattle.std.specs.Option.{option_map}
use Rattle.std.specs.Prelude.{nat_le, replicate, slice_get, slice_set}
use Rattle.pyn_base.specs.declared.ids.NodeId.{NodeId}
use Rattle.py_frames.specs.declared.marks.Mark.{Mark}
use Rattle.py_frames.specs.Marked.{unmarked, begun, came, marked, marked_at}
use Rattle.py_plain.specs.Tests.{Trail, Began, Decided}
use Rattle.goal_graph.specs.Graph.{marked_by}
use Rattle.timed_marks.specs.declared.times.Times.{Times}
use Rattle.timed_marks.specs.Timed.{Timed, never, untouched, first, begun_at, came_at, set_at, last_time, after_event, timed_by, is_before, mark_before, marks_before}
use Rattle.timed_marks.specs.Laws.{TimesTell}

-- ---- times below a clock

abbrev Below : ℕ → Times → Type 0
Below clock times = (times.began < clock) × ((times.held < clock) × (times.failed < clock))

abbrev AllBelow : ℕ → List Times → Type 0
AllBelow clock [] = Unit {0}
AllBelow clock (times ∷ all) = Below clock times × AllBelow clock all

ap₃ : {A B C D : Type 0} (f : A → B → C → D) {a a' : A} {b b' : B} {c c' : C} → a ≡ a' → b ≡ b' → c ≡ c' → f a b c ≡ f a' b' c'
ap₃ f p q r = cc

abbrev marks : Bool → Bool → Bool → Mark
marks began held failed = record { began = began; held = held; failed = failed }

-- ---- clocks

-- what a clock shows after an event, unless it stays
ticks : (top now : ℕ) → min (now + 1) top < top → min (now + 1) top ≡ now + 1
ticks top now h = by (nat_le (now + 1) top) refl
  where
    by : (b : Bool) → nat_le (now + 1) top ≡ b → min (now + 1) top ≡ now + 1
    by true e = min-eq_left (grind (arith, nat_tests, e))
    by false e =
        let ge : top ≤ now + 1 = grind (arith, nat_tests, e) in
        let is : min (now + 1) top ≡ top = min-eq_right ge in
        absurd (omega (arith, h, is))

later : (top end now : ℕ) → end ≤ now → end ≤ top → end ≤ min (now + 1) top
later top end now h k = by (nat_le (now + 1) top) refl
  where
    by : (b : Bool) → nat_le (now + 1) top ≡ b → end ≤ min (now + 1) top
    by true e =
        let is : min (now + 1) top ≡ now + 1 = min-eq_left (grind (arith, nat_tests, e)) in omega (arith, h, is)
    by false e =
        let ge : top ≤ now + 1 = grind (arith, nat_tests, e) in
        let is : min (now + 1) top ≡ top = min-eq_right ge in omega (arith, k, is)

early : (trail : Trail) (t : Timed) → (timed_by trail t).clock < last_time → t.clock < last_time
early [] t h = h
early (Began node ∷ trail) t h = let lt = early trail (after_event begun_at node t) h in let e = ticks last_time t.clock lt in omega (arith, lt, e)
early (Decided node judged outcome ∷ trail) t h = let lt = early trail (after_event (came_at outcome) node t) h in let e = ticks last_time t.clock lt in omega (arith, lt, e)

-- ---- what comes later changes nothing before

module _ (end : ℕ) where
  first_stays : (time now : ℕ) → end ≤ now → is_before end (first time now) ≡ is_before end time
  first_stays zero zero h = refl
  first_stays zero (suc now) h = grind (arith, nat_tests, h)
  first_stays (suc time) now h = refl

  begun_stays : (now : ℕ) → end ≤ now → (times : Times) → mark_before end (begun_at now times) ≡ mark_before end times
  begun_stays now h times = ap (λ b. record (mark_before end times) { began = b }) (first_stays times.began now h)

  came_stays : (outcome : Bool) (now : ℕ) → end ≤ now → (times : Times) → mark_before end (came_at outcome now times) ≡ mark_before end times
  came_stays true now h times = ap (λ b. record (mark_before end times) { held = b }) (first_stays times.held now h)
  came_stays false now h times = ap (λ b. record (mark_before end times) { failed = b }) (first_stays times.failed now h)

  module _ (change : Times → Times) (same : (times : Times) → mark_before end (change times) ≡ mark_before end times) where
    put_stays : (all : List Times) (at : ℕ) (times : Times) → slice_get all at ≡ Some times → marks_before end (slice_set all at (change times)) ≡ marks_before end all
    put_stays [] at times e = refl
    put_stays (one ∷ all) zero times e =
        let is : one ≡ times = cc in ap (λ mark. mark ∷ marks_before end all) (same times ∙ ap (mark_before end) (sym is))
    put_stays (one ∷ all) (suc at) times e = ap (λ marks. mark_before end one ∷ marks) (put_stays all at times e)

    set_stays : (node : NodeId) (all : List Times) (o : Option Times) → slice_get all node.0 ≡ o → marks_before end (set_at change node all o) ≡ marks_before end all
    set_stays node all None e = refl
    set_stays node all (Some times) e = put_stays all node.0 times e

  later_stays : (more : Trail) (t : Timed) → end ≤ t.clock → end ≤ last_time → marks_before end (timed_by more t).times ≡ marks_before end t.times
  later_stays [] t h k = refl
  later_stays (Began node ∷ more) t h k =
      later_stays more (after_event begun_at node t) (later last_time end t.clock h k) k
      ∙ set_stays (begun_at t.clock) (begun_stays t.clock h) node t.times (slice_get t.times node.0) refl
  later_stays (Decided node judged outcome ∷ more) t h k =
      later_stays more (after_event (came_at outcome) node t) (later last_time end t.clock h k) k
      ∙ set_stays (came_at outcome t.clock) (came_stays outcome t.clock h) node t.times (slice_get t.times node.0) refl

-- ---- an event now is one mark more

first_now : (time now : ℕ) → time < now → is_before (now + 1) (first time now) ≡ true
first_now zero zero h = absurd (omega (arith, h))
first_now zero (suc now) h = grind (arith, nat_tests)
first_now (suc time) now h = grind (arith, nat_tests, h)

still : (time now : ℕ) → time < now → is_before (now + 1) time ≡ is_before now time
still zero now h = refl
still (suc time) now h = grind (arith, nat_tests, h)

first_below : (time now : ℕ) → time < now → first time now < now + 1
first_below zero now h = omega arith
first_below (suc time) now h = omega (arith, h)

module _ (now : ℕ) where
  abbrev Now : (Times → Times) → (Mark → Mark) → Type 0
  Now change mark = (times : Times) → Below now times → (mark_before (now + 1) (change times) ≡ mark (mark_before now times)) × Below (now + 1) (change times)

  same_now : Now (λ times. times) (λ mark. mark)
  same_now times b =
      (ap₃ marks (still times.began now b.0) (still times.held now b.1.0) (still times.failed now b.1.1), (omega (arith, b.0), (omega (arith, b.1.0), omega (arith, b.1.1))))

  begun_now : Now (begun_at now) begun
  begun_now times b =
      (ap₃ marks (first_now times.began now b.0) (still times.held now b.1.0) (still times.failed now b.1.1), (first_below times.began now b.0, (omega (arith, b.1.0), omega (arith, b.1.1))))

  came_now : (outcome : Bool) → Now (came_at outcome now) (came outcome)
  came_now true times b =
      (ap₃ marks (still times.began now b.0) (first_now times.held now b.1.0) (still times.failed now b.1.1), (omega (arith, b.0), (first_below times.held now b.1.0, omega (arith, b.1.1))))
  came_now false times b =
      (ap₃ marks (still times.began now b.0) (still times.held now b.1.0) (first_now times.failed now b.1.1), (omega (arith, b.0), (omega (arith, b.1.0), first_below times.failed now b.1.1)))

  all_now : (all : List Times) → AllBelow now all → (marks_before (now + 1) all ≡ marks_before now all) × AllBelow (now + 1) all
  all_now [] b = (refl, tt)
  all_now (times ∷ all) b =
      let one = same_now times b.0 in let rest = all_now all b.1 in (ap₂ (λ mark marks. mark ∷ marks) one.0 rest.0, (one.1, rest.1))

  module _ (change : Times → Times) (mark : Mark → Mark) (one : Now change mark) where
    put_now : (all : List Times) (at : ℕ) (times : Times) → AllBelow now all → slice_get all at ≡ Some times
        → (marks_before (now + 1) (slice_set all at (change times)) ≡ slice_set (marks_before now all) at (mark (mark_before now times))) × AllBelow (now + 1) (slice_set all at (change times))
    put_now [] at times b e = (refl, tt)
    put_now (head ∷ all) zero times b e =
        let is : head ≡ times = cc in
        let it = one times (subst (Below now) is b.0) in
        let rest = all_now all b.1 in
        (ap₂ (λ mark marks. mark ∷ marks) it.0 rest.0, (it.1, rest.1))
    put_now (head ∷ all) (suc at) times b e =
        let it = same_now head b.0 in
        let rest = put_now all at times b.1 e in
        (ap₂ (λ mark marks. mark ∷ marks) it.0 rest.0, (it.1, rest.1))

    get_now : (all : List Times) (at : ℕ) → slice_get (marks_before now all) at ≡ option_map (mark_before now) (slice_get all at)
    get_now all at = slice_get-map (mark_before now) all at

    set_now : (node : NodeId) (all : List Times) (o : Option Times) → AllBelow now all → slice_get all node.0 ≡ o
        → (marks_before (now + 1) (set_at change node all o) ≡ marked_at mark node (marks_before now all) (option_map (mark_before now) o)) × AllBelow (now + 1) (set_at change node all o)
    set_now node all None b e = all_now all b
    set_now node all (Some times) b e = put_now all node.0 times b e

    event_now : (node : NodeId) (all : List Times) → AllBelow now all
        → (marks_before (now + 1) (set_at change node all (slice_get all node.0)) ≡ marked mark node (marks_before now all)) × AllBelow (now + 1) (set_at change node all (slice_get all node.0))
    event_now node all b =
        let it = set_now node all (slice_get all node.0) b refl in
        (it.0 ∙ ap (marked_at mark node (marks_before now all)) (sym (get_now all node.0)), it.1)

-- ---- trails

behind : (trail more : Trail) (t : Timed) → timed_by (trail ++ more) t ≡ timed_by more (timed_by trail t)
behind [] more t = refl
behind (Began node ∷ trail) more t = behind trail more (after_event begun_at node t)
behind (Decided node judged outcome ∷ trail) more t = behind trail more (after_event (came_at outcome) node t)

abbrev Tells : Trail → Timed → Type 0
Tells trail t = AllBelow t.clock t.times → (timed_by trail t).clock < last_time
    → marks_before (timed_by trail t).clock (timed_by trail t).times ≡ marked_by trail (marks_before t.clock t.times)

-- one event, and then the rest of a trail
after_one : (trail : Trail) (change : ℕ → Times → Times) (mark : Mark → Mark) (node : NodeId) (t : Timed) → Now t.clock (change t.clock) mark → Tells trail (after_event change node t)
    → AllBelow t.clock t.times → (timed_by trail (after_event change node t)).clock < last_time
    → marks_before (timed_by trail (after_event change node t)).clock (timed_by trail (after_event change node t)).times ≡ marked_by trail (marked mark node (marks_before t.clock t.times))
after_one trail change mark node t one rest b h =
    let next = after_event change node t in
    let it = event_now t.clock (change t.clock) mark one node t.times b in
    let e : next.clock ≡ t.clock + 1 = ticks last_time t.clock (early trail next h) in
    rest (subst (λ n. AllBelow n next.times) (sym e) it.1) h
    ∙ ap (marked_by trail) (ap (λ n. marks_before n next.times) e ∙ it.0)

told : (trail : Trail) (t : Timed) → Tells trail t
told [] t b h = refl
told (Began node ∷ trail) t b h = after_one trail begun_at begun node t (begun_now t.clock) (told trail (after_event begun_at node t)) b h
told (Decided node judged outcome ∷ trail) t b h =
    after_one trail (came_at outcome) (came outcome) node t (came_now t.clock outcome) (told trail (after_event (came_at outcome) node t)) b h

untouched_below : (nodes : ℕ) → AllBelow 1 (replicate nodes never)
untouched_below zero = tt
untouched_below (suc nodes) = ((omega arith, (omega arith, omega arith)), untouched_below nodes)

untouched_marks : (nodes : ℕ) → marks_before 1 (replicate nodes never) ≡ replicate nodes unmarked
untouched_marks zero = refl
untouched_marks (suc nodes) = ap (λ marks. unmarked ∷ marks) (untouched_marks nodes)

pub times_tell : TimesTell
times_tell nodes trail more h =
    let start = untouched nodes in
    let end = (timed_by trail start).clock in
    ap (λ (t : Timed). marks_before end t.times) (behind trail more start)
    ∙ later_stays end more (timed_by trail start) (omega arith) (omega (arith, h))
    ∙ told trail start (untouched_below nodes) h
    ∙ ap (marked_by trail) (untouched_marks nodes)
