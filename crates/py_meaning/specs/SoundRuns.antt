-- Runs that keep a world sound.
use Rattle.std.specs.Prelude.{ℕ, ◌≤◌, IsTrue, List}
use Rattle.std.specs.List.{list_all}
use Rattle.pyn_base.specs.declared.ids.ObjId.{ObjId}
use Rattle.py_meaning.specs.declared.op.Op.{Op}
use Rattle.py_meaning.specs.declared.op.Op.TheVariants as op
use Rattle.py_meaning.specs.declared.value.Value.{Value}
use Rattle.py_meaning.specs.declared.value.Value.TheVariants as value
use Rattle.py_meaning.specs.Steps.{Costing}
use Rattle.py_meaning.specs.Worlds.{World, sound, sound_world, dicts}

-- An answer that isn't out of memory, with a property where it is done.
abbrev pub Answers : {A : Type 0} → (A → Type 0) → Op A → Type 0
Answers P (op.Done a) = P a
Answers P (op.Raises class) = Unit {0}
Answers P (op.Leaves construct) = Unit {0}
Answers P op.OutOfSteps = Unit {0}
Answers P op.Memory = ⊥

-- whatever the steps that there are
abbrev pub Gives : {A : Type 0} → (A → Type 0) → Costing A → Type 0
Gives P run = (left : ℕ) → Answers P (run left).0

-- any answer but out of memory
abbrev pub Answering : {A : Type 0} → Costing A → Type 0
Answering run = Gives (λ a. Unit {0}) run

-- The same, and no more steps are left than there were.
abbrev pub Asks : {A : Type 0} → Costing A → Type 0
Asks run = (left : ℕ) → Answers (λ a. Unit {0}) (run left).0 × ((run left).1 ≤ left)

-- a value that is sound for a world
abbrev pub Fits : World → Value → Type 0
Fits world v = IsTrue (sound (dicts world) v)

abbrev pub AllFit : World → List Value → Type 0
AllFit world items = IsTrue (list_all (sound (dicts world)) items)

-- A world in which all that fits another fits too, beside whatever is handed out.
abbrev pub Wider : {A : Type 0} → World → A × World → Type 0
Wider before made = (v : Value) → Fits before v → Fits made.1 v

-- A sound world that is wider than the one before it, beside whatever is handed out.
abbrev pub WorldSound : {A : Type 0} → World → A × World → Type 0
WorldSound before made = IsTrue (sound_world made.1) × Wider before made

-- The same, and the value that is handed out is sound for it.
abbrev pub Holds : World → Value × World → Type 0
Holds before made = WorldSound before made × Fits made.1 made.0

-- The same, and what is handed out names an object of it.
abbrev pub Made : World → ObjId × World → Type 0
Made before made = WorldSound before made × Fits made.1 (value.Ref made.0)
