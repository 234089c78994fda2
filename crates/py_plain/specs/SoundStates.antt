-- Sound states: each value that a state holds is sound for its world, which is sound itself.
use Rattle.std.specs.Prelude.{List, IsTrue, Ok, Err}
use Rattle.std.specs.List.{list_all}
use Rattle.py_meaning.specs.declared.value.Value.{Value}
use Rattle.py_meaning.specs.declared.value.Value.TheVariants as v
use Rattle.py_meaning.specs.SoundRuns.{Fits}
use Rattle.py_meaning.specs.Worlds.{World, Attributes, sound, sound_world, dicts}
use Rattle.py_plain.specs.declared.run.Abrupt.TheVariants.{Raised, Returned}
use Rattle.py_plain.specs.declared.state.Frame.{Frame}
use Rattle.py_plain.specs.declared.state.Space.{Space}
use Rattle.py_plain.specs.declared.state.State.{State}
use Rattle.py_plain.specs.Runs.{Outcome, Ran, Finding}

-- values by their names
abbrev pub NamesFit : World → Attributes → Type 0
NamesFit world bound = IsTrue (list_all (λ row. sound (dicts world) row.1) bound)

abbrev pub AllNamesFit : World → List Attributes → Type 0
AllNamesFit world all = IsTrue (list_all (list_all (λ row. sound (dicts world) row.1)) all)

pub record SoundFrame (world : World) (frame : Frame) : Type 0 where
  pub variables : NamesFit world frame.variables
  -- each exception that is being handled names an object
  pub handled : IsTrue (list_all (λ id. sound (dicts world) (v.Ref id)) frame.handled)

pub record SoundSpace (world : World) (space : Space) : Type 0 where
  pub names : NamesFit world space.names
  pub defaults : AllNamesFit world space.defaults
  pub constants : AllNamesFit world space.constants

pub record SoundState {W : Type 0} (s : State World W) : Type 0 where
  pub world : IsTrue (sound_world s.objects)
  pub frame : SoundFrame s.objects s.frame
  pub space : SoundSpace s.objects s.space

-- what is sound for a world is sound for another too
abbrev pub Widens : World → World → Type 0
Widens before after = (x : Value) → Fits before x → Fits after x

-- An exception that is raised names an object, and a value that is returned is sound.
abbrev pub EndFits : {A : Type 0} → (World → A → Type 0) → World → Outcome A → Type 0
EndFits fits world (Ok a) = fits world a
EndFits fits world (Err (Raised id)) = Fits world (v.Ref id)
EndFits fits world (Err (Returned x)) = Fits world x
EndFits fits world (Err why) = Unit {0}

-- a run that has kept its state sound
pub record KeptSound {W A : Type 0} (fits : World → A → Type 0) (s : State World W) (r : Ran W A) : Type 0 where
  pub state : SoundState r.1
  pub widens : Widens s.objects r.1.objects
  pub end : EndFits fits r.1.objects r.0

abbrev pub FindingFits : World → Finding → Type 0
FindingFits world x = Fits world x.0
