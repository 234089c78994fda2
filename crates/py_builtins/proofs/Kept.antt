-- A sum leaves the objects that there were, and puts new lists after them.
use Rattle.std.proofs.Common.{◌≡◌, ℕ, suc, ◌+◌, ◌<◌, ◌≤◌, Bool, true, false, ◌&&◌, ◌||◌, if◌then◌else◌, nat_le, List, ◌∷◌, take, drop, drop-cons, add-one, get_or, length, refl, sym, ◌∙◌, ap, arith}
use Rattle.std.proofs.lemmas.List.{take-take, length-take}
use Rattle.std.proofs.Math.Seq.{take-length, take-append_seam}
use Rattle.pyn_base.specs.declared.class.BuiltClass.TheVariants.{TypeError}
use Rattle.pyn_base.specs.declared.construct.Construct.TheVariants as construct
use Rattle.pyn_base.specs.declared.ids.ObjId.{ObjId}
use Rattle.py_meaning.specs.declared.op.Op.{Op}
use Rattle.py_meaning.specs.declared.op.Op.TheVariants as op
use Rattle.py_meaning.specs.declared.value.Value.{Value, Value-F, out-Value}
use Rattle.py_meaning.specs.Steps.{Costing, UnlessMemory, changes, settle, go_on, aside, done, raises, leaves}
use Rattle.py_meaning.specs.Values.{number_of, is_view}
use Rattle.py_meaning.specs.Worlds.{World, object_at, elements}
use Rattle.py_meaning.specs.Sums.{add, add_values, add_refs, add_lists, add_texts, add_tuples, add_numbers, is_list}
use Rattle.py_meaning.specs.Builtins.{add_all}
use Rattle.py_builtins.specs.Held.{beside}

-- A run after which the objects that there were come first.
abbrev pub Kept : World → Costing (Value × World) → Type 0
Kept world run = (left : ℕ) → take (length world) (settle world (run left).0 (run left).1).1 ≡ world

by_answer : (world : World) (answer : Op Value) (left : ℕ) → take (length world) (let next = go_on answer left (λ x. done (x, world)) in settle world next.0 next.1).1 ≡ world
by_answer world (op.Done x) left = take-length world
by_answer world (op.Raises class) left = take-length world
by_answer world (op.Leaves construct) left = take-length world
by_answer world op.OutOfSteps left = take-length world
by_answer world op.Memory left = take-length world

kept_aside : (world : World) (run : Costing Value) → Kept world (aside run world)
kept_aside world run left = by_answer world (run left).0 (run left).1

paid : (world after : World) (answer : Value) (b : Bool) (left rest : ℕ) → take (length world) after ≡ world
    → (let next = if◌then◌else◌ {A = Op (Value × World) × ℕ} b (op.Done (answer, after), rest) (op.OutOfSteps, left) in take (length world) (settle world next.0 next.1).1) ≡ world
paid world after answer true left rest e = e
paid world after answer false left rest e = take-length world

kept_lists : (world : World) (xs ys : List Value) → Kept world (add_lists xs ys world)
kept_lists world xs ys left = paid world _ _ (nat_le (length xs + length ys) left) left _ (take-append_seam world _)

if_lists : (world : World) (xs ys : List Value) (b : Bool) → Kept world (if b then add_lists xs ys world else raises TypeError)
if_lists world xs ys true = kept_lists world xs ys
if_lists world xs ys false = λ left. take-length world

kept_refs : (world : World) (i j : ObjId) → Kept world (add_refs i j world)
kept_refs world i j = if_lists world (elements world i) (elements world j) (is_list (object_at world i) && is_list (object_at world j))

kept_values : (world : World) (a b : Value-F Value) → Kept world (add_values a b world)
kept_values world (Value-F.Str s) (Value-F.Str t) = kept_aside world (add_texts s t)
kept_values world (Value-F.Tuple s) (Value-F.Tuple t) = kept_aside world (add_tuples s.parts t.parts)
kept_values world (Value-F.Ref i) (Value-F.Ref j) = kept_refs world i j
kept_values world a b = kept_aside world (add_numbers (number_of a) (number_of b))

if_view : (world : World) (a b : Value-F Value) (v : Bool) → Kept world ((if v then (λ world. leaves construct.View) else add_values a b) world)
if_view world a b true = λ left. take-length world
if_view world a b false = kept_values world a b

kept_add : (world : World) (a b : Value) → Kept world (add a b world)
kept_add world a b = if_view world (out-Value a) (out-Value b) (is_view (out-Value a) || is_view (out-Value b))

-- What comes first among more comes first among all that begin with these.
pub still_kept : (a b c : World) → take (length a) b ≡ a → take (length b) c ≡ b → take (length a) c ≡ a
still_kept a b c h k = let n : length a ≤ length b = omega (arith, ap length h, length-take (length a) b) in
    sym (take-take (length a) (length b) c n) ∙ ap (take (length a)) k ∙ h

pub kept_sum : (world after : World) (a b sum : Value) (left left' : ℕ) → changes (add a b) world left ≡ (op.Done sum, after, left') → take (length world) after ≡ world
kept_sum world after a b sum left left' e = ap (λ t. take (length world) t.1) (sym e) ∙ kept_add world a b left

-- What a change answered, by the clause of its call.

answered : (world : World) (run : Op (Value × World)) (left : ℕ) → run ≡ beside (settle world run left).0 (settle world run left).1
answered world (op.Done made) left = refl
answered world (op.Raises class) left = refl
answered world (op.Leaves construct) left = refl
answered world op.OutOfSteps left = refl
answered world op.Memory left = refl

left_as_is : (world : World) (run : Op (Value × World)) (left : ℕ) → left ≡ (settle world run left).2
left_as_is world (op.Done made) left = refl
left_as_is world (op.Raises class) left = refl
left_as_is world (op.Leaves construct) left = refl
left_as_is world op.OutOfSteps left = refl
left_as_is world op.Memory left = refl

-- a sum goes on after the addition of its next item, whatever that answers
pub next_sum : (total item : Value) (rest : List Value) (world after : World) (answer : Op Value) (left left' : ℕ) → changes (add total item) world left ≡ (answer, after, left')
    → add_all total (item ∷ rest) world left ≡ go_on (beside answer after) left' (λ added. add_all added.0 rest added.1)
next_sum total item rest world after answer left left' e = let run = add total item world left in
    ap (λ found. go_on found run.1 (λ added. add_all added.0 rest added.1)) (answered world run.0 run.1 ∙ ap (λ t. beside t.0 t.1) e)
    ∙ ap (λ n. go_on (beside answer after) n (λ added. add_all added.0 rest added.1)) (left_as_is world run.0 run.1 ∙ ap (λ t. t.2) e)

-- an addition that isn't done is the sum's answer
pub faulted : (total item : Value) (rest : List Value) (world after : World) (answer : Op Value) (left left' : ℕ) {whole : Op (Value × World) × ℕ} → add_all total (item ∷ rest) world left ≡ whole
    → ((sum : Value) → answer ≡ op.Done sum → ⊥) → UnlessMemory answer (changes (add total item) world left ≡ (answer, after, left')) → UnlessMemory answer (whole ≡ (beside answer after, left'))
faulted total item rest world after (op.Done sum) left left' same h e = absurd (h sum refl)
faulted total item rest world after (op.Raises class) left left' same h e = sym same ∙ next_sum total item rest world after (op.Raises class) left left' e
faulted total item rest world after (op.Leaves construct) left left' same h e = sym same ∙ next_sum total item rest world after (op.Leaves construct) left left' e
faulted total item rest world after op.OutOfSteps left left' same h e = sym same ∙ next_sum total item rest world after op.OutOfSteps left left' e
faulted total item rest world after op.Memory left left' same h e = tt

pub next : {A : Type 0} (xs : List A) (at : ℕ) (x : A) → at < length xs → x ≡ get_or xs at x → drop at xs ≡ x ∷ drop (at + 1) xs
next xs at x h e = rw (add-one, drop-cons xs at x) (ap (λ y. y ∷ drop (suc at) xs) (sym e))
