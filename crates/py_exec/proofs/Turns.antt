-- A turn of a `for`, once its walk has been checked, and once its names are bound.
use Rattle.std.proofs.Common.{◌≡◌, ℕ, ◌+◌, Bool, Ok, Err, List, Option, Some, sym, ap, ◌∙◌}
use Rattle.pyn_base.specs.declared.ids.NodeId.{NodeId}
use Rattle.py_syntax.specs.declared.stmt.Stmt.{Stmt}
use Rattle.py_meaning.specs.declared.value.Value.{Value, out-Value}
use Rattle.py_meaning.specs.Walk.{gives_new_tuples}
use Rattle.py_meaning.specs.Worlds.{World}
use Rattle.py_plain.specs.declared.run.Abrupt.{Abrupt}
use Rattle.py_plain.specs.declared.run.Walk.{Walk}
use Rattle.py_plain.specs.declared.state.State.{State}
use Rattle.py_plain.specs.Calls.{block}
use Rattle.py_plain.specs.Laws.{ForByTurn}
use Rattle.py_plain.specs.Loops.{after_turn, checks, element_at, for_element, for_walk}
use Rattle.py_plain.specs.Program.{Program}
use Rattle.py_plain.specs.Runs.{Watcher, Outcome, Ran, Run, Finding, after_end, go_on}
use Rattle.py_plain.specs.Statements.{value_of, means}
use Rattle.py_exec.specs.Elements.{binds_element}

module _ {W : Type 0} (watcher : Watcher W) (program : Program) (node : NodeId) (names : List (List ℕ)) (is_tuple : Bool) (body : List Stmt) (walk : Walk) where
  abbrev walks : Walk → Run W Finding
  walks on = for_walk watcher program (value_of watcher program) (means watcher program) node names is_tuple body on

  abbrev with_element : Option Value → Run W Finding
  with_element found = for_element watcher program (value_of watcher program) (means watcher program) node walks names is_tuple body walk found

  abbrev element : Run W Finding
  element = λ s. with_element (element_at s.objects (out-Value walk.of) walk.at) s

  checked : ForByTurn W → (s s' : State World W) (end : Outcome (Unit {0})) → checks walk s ≡ (end, s') → walks walk s ≡ go_on end s' (λ _. element)
  checked by_turn s s' end e = by_turn watcher program node names is_tuple body walk s ∙ ap (λ (q : Ran W (Unit {0})). go_on q.0 q.1 (λ _. element)) e

  pub unchanged_goes_on : ForByTurn W → (s s' : State World W) (end : Outcome (Unit {0})) (u : Unit {0}) → checks walk s ≡ (end, s') → end ≡ Ok u → walks walk s ≡ element s'
  unchanged_goes_on by_turn s s' end u e ok = checked by_turn s s' end e ∙ ap (λ (q : Outcome (Unit {0})). go_on q s' (λ _. element)) ok

  pub changed_ends : ForByTurn W → (s s' : State World W) (end : Outcome (Unit {0})) (why : Abrupt) → checks walk s ≡ (end, s') → end ≡ Err why → walks walk s ≡ (Err why, s')
  changed_ends by_turn s s' end why e err = checked by_turn s s' end e ∙ ap (λ (q : Outcome (Unit {0})). go_on q s' (λ _. element)) err

  -- a turn's block, and then the turns from a place on
  abbrev from_body : Walk → Run W Finding
  from_body next = after_end (block watcher program (means watcher program) body) (after_turn (walks next))

  abbrev further : Walk
  further = record walk { at = walk.at + 1 }

  module _ (found : Option Value) (x : Value) (made : Bool) (s s' : State World W) (end : Outcome Finding) (is : found ≡ Some x) (news : made ≡ gives_new_tuples (out-Value walk.of))
      (bound : (rest : Run W Finding) → binds_element watcher node names is_tuple made x rest s ≡ go_on end s' (λ _. rest)) where
    bound_end : with_element found s ≡ go_on end s' (λ _. from_body further)
    bound_end = ap (λ (y : Option Value). with_element y s) is ∙ ap (λ (new : Bool). binds_element watcher node names is_tuple new x (from_body further) s) (sym news) ∙ bound (from_body further)

    pub bound_goes_on : (y : Finding) (next : Walk) → end ≡ Ok y → next ≡ further → with_element found s ≡ from_body next s'
    bound_goes_on y next ok e = bound_end ∙ ap (λ (q : Outcome Finding). go_on q s' (λ _. from_body further)) ok ∙ ap (λ (on : Walk). from_body on s') (sym e)

    pub unbound_ends : (why : Abrupt) → end ≡ Err why → with_element found s ≡ (Err why, s')
    unbound_ends why err = bound_end ∙ ap (λ (q : Outcome Finding). go_on q s' (λ _. from_body further)) err
