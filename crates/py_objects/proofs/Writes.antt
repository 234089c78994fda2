-- A change of one object, as a change of the world.
use Rattle.std.proofs.Common.{◌≡◌, ℕ, zero, suc, [], ◌∷◌, ap, refl, sym, ◌∙◌}
use Rattle.std.specs.Prelude.{slice_get, slice_set, Result, Ok, Err, OnOk, OnErr}
use Rattle.pyn_base.specs.declared.ids.ObjId.{ObjId}
use Rattle.py_meaning.specs.declared.object.Object.{Object}
use Rattle.py_meaning.specs.declared.object.Object.TheVariants as object
use Rattle.py_meaning.specs.declared.op.Op.{Op}
use Rattle.py_meaning.specs.declared.op.Op.TheVariants as op
use Rattle.py_meaning.specs.Steps.{Change, changes, settle, go_on, done, UnlessMemory, UnlessDone}
use Rattle.py_meaning.specs.Worlds.{World, object_at, or_nothing, with_object}
use Rattle.py_meaning.specs.Operations.{on_object}

keeps_at : (world : World) (at : ℕ) → slice_set world at (or_nothing (slice_get world at)) ≡ world
keeps_at [] at = refl
keeps_at (o ∷ world) zero = refl
keeps_at (o ∷ world) (suc at) = ap (λ rest. o ∷ rest) (keeps_at world at)

twice_at : (world : World) (at : ℕ) (a b : Object) → slice_set (slice_set world at a) at b ≡ slice_set world at b
twice_at [] at a b = refl
twice_at (o ∷ world) zero a b = refl
twice_at (o ∷ world) (suc at) a b = ap (λ rest. o ∷ rest) (twice_at world at a b)

-- an object written as it is changes nothing
pub keeps : (world : World) (id : ObjId) → with_object world id (object_at world id) ≡ world
keeps world id = keeps_at world id.0

-- the later write counts
pub twice : (world : World) (id : ObjId) (a b : Object) → with_object (with_object world id a) id b ≡ with_object world id b
twice world id a b = twice_at world id.0 a b

-- an object's change, placed in the world
abbrev pub placed : {A : Type 0} → World → ObjId → Op A × Object × ℕ → Op A × World × ℕ
placed world id t = (t.0, with_object world id t.1, t.2)

settled : {A : Type 0} (world : World) (id : ObjId) (answer : Op (A × Object)) (left : ℕ) → (let next = go_on answer left (λ made. done (made.0, with_object world id made.1)) in settle world next.0 next.1) ≡ placed world id (settle (object_at world id) answer left)
settled world id (op.Done made) left = refl
settled world id (op.Raises class) left = ap (λ w. (op.Raises class, w, left)) (sym (keeps world id))
settled world id (op.Leaves construct) left = ap (λ w. (op.Leaves construct, w, left)) (sym (keeps world id))
settled world id op.OutOfSteps left = ap (λ w. (op.OutOfSteps, w, left)) (sym (keeps world id))
settled world id op.Memory left = ap (λ w. (op.Memory, w, left)) (sym (keeps world id))

pub changes_on_object : {A : Type 0} (id : ObjId) (change : Change Object A) (world : World) (left : ℕ) → changes (on_object id change) world left ≡ placed world id (changes change (object_at world id) left)
changes_on_object id change world left = settled world id (change (object_at world id) left).0 (change (object_at world id) left).1

pub unless_memory : {A : Type 0} {P Q : Type 0} (answer : Op A) → (P → Q) → UnlessMemory answer P → UnlessMemory answer Q
unless_memory (op.Done a) f p = f p
unless_memory (op.Raises class) f p = f p
unless_memory (op.Leaves construct) f p = f p
unless_memory op.OutOfSteps f p = f p
unless_memory op.Memory f p = tt

unless_done : {A : Type 0} {P Q : Type 0} (answer : Op A) → (P → Q) → UnlessDone answer P → UnlessDone answer Q
unless_done (op.Done a) f p = tt
unless_done (op.Raises class) f p = f p
unless_done (op.Leaves construct) f p = f p
unless_done op.OutOfSteps f p = f p
unless_done op.Memory f p = f p

-- An object was taken, changed and put back.
module _ (id : ObjId) (world taken after : World) (held held' : Object) (was : held ≡ object_at world id) (took : taken ≡ with_object world id (object.List [])) (put : after ≡ with_object taken id held') where
  put_back : after ≡ with_object world id held'
  put_back = put ∙ ap (λ w. with_object w id held') took ∙ twice world id (object.List []) held'

  stays : held' ≡ held → after ≡ world
  stays e = put_back ∙ ap (with_object world id) (e ∙ was) ∙ keeps world id

  goes : {A : Type 0} (change : Change Object A) (answer : Op A) (left left' : ℕ) → changes change held left ≡ (answer, held', left') → changes (on_object id change) world left ≡ (answer, after, left')
  goes change answer left left' e = changes_on_object id change world left ∙ ap (placed world id) (ap (λ o. changes change o left) (sym was) ∙ e) ∙ ap (λ w. (answer, w, left')) (sym put_back)

  pub written_free : {A : Type 0} (change : Change Object A) (answer : Op A) → UnlessMemory answer ((left : ℕ) → changes change held left ≡ (answer, held', left)) → UnlessMemory answer ((left : ℕ) → changes (on_object id change) world left ≡ (answer, after, left))
  written_free change answer = unless_memory answer (λ h left. goes change answer left left (h left))

  pub unwritten : {A : Type 0} (answer : Op A) → UnlessDone answer (held' ≡ held) → UnlessDone answer (after ≡ world)
  unwritten answer = unless_done answer stays

  pub changed : (f : Object → Object) → held' ≡ f held → after ≡ with_object world id (f (object_at world id))
  changed f e = put_back ∙ ap (with_object world id) (e ∙ ap f was)

  pub rewritten : {E : Type 0} (f : Object → Object) (answer : Result (Unit {0}) E) → OnOk answer (held' ≡ f held) → OnOk answer (after ≡ with_object world id (f (object_at world id)))
  rewritten f (Ok a) e = changed f e
  rewritten f (Err a) e = tt

  pub not_rewritten : {E : Type 0} (answer : Result (Unit {0}) E) → OnErr answer (held' ≡ held) → OnErr answer (after ≡ world)
  not_rewritten (Ok a) e = tt
  not_rewritten (Err a) e = stays e
