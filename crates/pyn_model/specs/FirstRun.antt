-- Runs of the first form's programs: what is done one thing after another, over the present frame's variables and
-- the steps that are left.
use Rattle.std.specs.Prelude.{ℕ, zero, suc, List, [], ◌∷◌, ◌++◌, Result, Ok, Err}
use Rattle.pyn_base.specs.declared.construct.Construct.{Construct}
use Rattle.pyn_base.specs.declared.ids.NodeId.{NodeId}
use Rattle.py_meaning.specs.declared.value.Value.{Value}

-- The state of a run. A test's own frame has depth 0, a function of the module that it calls depth 1, and so on.
pub record State : Type 0 where
  -- the variables of the present frame
  pub variables : List (List ℕ × Value)
  -- the functions of the module that are active
  pub depth : ℕ
  -- the steps that are left
  pub left : ℕ
  -- the trail: the nodes of the module that began, in order
  pub trail : List ℕ

-- why a run doesn't go on
pub data Stop : Type 0 where
  Returned : Value → Stop
  OutOfSteps : Stop
  Left : Construct → Stop

abbrev pub Run : Type 0 → Type 0
Run A = State → Result A Stop × State

-- goes on from where a run has ended with an answer
abbrev pub go_on : {A B : Type 0} → Result A Stop → State → (A → Run B) → Result B Stop × State
go_on (Ok a) s next = next a s
go_on (Err stop) s next = (Err stop, s)

infixl 10 ◌>>=◌
abbrev pub ◌>>=◌ : {A B : Type 0} → Run A → (A → Run B) → Run B
p >>= next = λ s. go_on (p s).0 (p s).1 next

infixl 10 ◌>>◌
abbrev pub ◌>>◌ : {A B : Type 0} → Run A → Run B → Run B
p >> q = p >>= (λ _. q)

abbrev pub pure : {A : Type 0} → A → Run A
pure a = λ s. (Ok a, s)

abbrev pub stop : {A : Type 0} → Stop → Run A
stop why = λ s. (Err why, s)

-- the trail once a node began; a test's own nodes are not in it
abbrev pub noted : ℕ → NodeId → List ℕ → List ℕ
noted zero node trail = trail
noted (suc depth) node trail = trail ++ node.0 ∷ []

-- a node that begins takes one step, and where none is left nothing happens
abbrev pub begins_with : ℕ → NodeId → Run (Unit {0})
begins_with zero node = stop OutOfSteps
begins_with (suc left) node = λ s. (Ok tt, record s { left = left; trail = noted s.depth node s.trail })

abbrev pub begins : NodeId → Run (Unit {0})
begins node = λ s. begins_with s.left node s
