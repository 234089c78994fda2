use Rattle.std.proofs.Common.{◌≡◌, [], ◌++◌, drop, map}
use Rattle.py_accept.specs.Accepted.{first_of_each}
use Rattle.py_accept.proofs.infos.names_of.Given as goal

abbrev pub invariant-loop-name : goal.invariant-loop-name
invariant-loop-name l =
    l.all ++ first_of_each l.seen (map (λ name. name.now) (drop l.name-index l.names)) ≡ first_of_each [] (map (λ name. name.now) l.names)
