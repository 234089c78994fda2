-- `super()` in a function of which all is known.
use Rattle.std.proofs.Common.{◌≡◌, ℕ, List, Option, Some, ap, ◌∙◌}
use Rattle.py_meaning.specs.declared.value.Value.{Value}
use Rattle.py_meaning.specs.Worlds.{World}
use Rattle.py_names.specs.Bound.{parameters}
use Rattle.py_plain.specs.declared.state.State.{State}
use Rattle.py_plain.specs.Calls.{first_parameter, super_by, super_in, finds_super}
use Rattle.py_plain.specs.Names.{function_at}
use Rattle.py_plain.specs.Program.{Function, Program}
use Rattle.py_plain.specs.Runs.{Watcher}

pub super_found : {W : Type 0} (watcher : Watcher W) (program : Program) (s : State World W) (name : List ℕ) (f : Function) (class : ℕ) (x : Option Value)
    → function_at program s.frame.function ≡ Some f → f.owner ≡ Some class → first_parameter watcher program (parameters f.tree) s.frame.variables ≡ x
    → finds_super watcher program name s ≡ super_by watcher program (Some class) x name s
super_found watcher program s name f class x known owned first =
    ap (λ f. super_in watcher program f s.frame.variables name s) known
    ∙ ap (λ owner. super_by watcher program owner (first_parameter watcher program (parameters f.tree) s.frame.variables) name s) owned
    ∙ ap (λ x. super_by watcher program (Some class) x name s) first
