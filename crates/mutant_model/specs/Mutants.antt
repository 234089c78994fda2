-- The mutants of a module: by node, then by the alphabet of their operators, in a chain of comparisons by place.
use Rattle.std.specs.Prelude.{ℕ, Bool, true, List, [], take, filter, bytes_eq}
use Rattle.std.specs.List.{flat_map, list_any, list_all}
use Rattle.py_syntax.specs.declared.module.Func.{Func}
use Rattle.py_syntax.specs.declared.module.Item.{Item}
use Rattle.py_syntax.specs.declared.module.Item.TheVariants as item
use Rattle.py_syntax.specs.declared.module.Member.{Member}
use Rattle.py_syntax.specs.declared.module.Member.TheVariants as member
use Rattle.py_syntax.specs.declared.module.Module.{Module}
use Rattle.py_syntax.specs.declared.patch.Change.{Change}
use Rattle.py_syntax.specs.declared.patch.Change.TheVariants.{ClauseToRaise, ClauseToPass}
use Rattle.py_syntax.specs.declared.patch.Patch.{Patch}
use Rattle.py_names.specs.Bound.{locals}
use Rattle.py_nodes.specs.Numbers.{numbered}
use Rattle.mutant_model.specs.declared.mutant.Mutant.{Mutant}
use Rattle.mutant_model.specs.Rewriting.{rewritten_func, rewritten_module}
use Rattle.mutant_model.specs.Sites.{sites_in}

-- A clause may be emptied where its function binds the same names afterwards: a name that no other place binds would be local no more.
abbrev pub keeps_names : Func → Patch → Bool
keeps_names f patch = list_all (λ name. list_any (λ other. bytes_eq name other) (locals (rewritten_func patch f))) (locals f)

abbrev pub may_change : Func → Patch → Change → Bool
may_change f patch ClauseToRaise = keeps_names f patch
may_change f patch ClauseToPass = keeps_names f patch
may_change f patch _ = true

abbrev pub mutants_in : Func → List Mutant
mutants_in f = filter (λ mutant. may_change f mutant.patch mutant.patch.change) (sites_in f)

abbrev pub mutants_of_member : Member → List Mutant
mutants_of_member (member.Func f) = mutants_in f
mutants_of_member (member.Other x) = []

abbrev pub mutants_of_item : Item → List Mutant
mutants_of_item (item.Func f) = mutants_in f
mutants_of_item (item.Class c) = flat_map mutants_of_member c.members
mutants_of_item (item.Import line names) = []
mutants_of_item (item.Other x) = []

-- the first so many
abbrev pub mutants_of : Module → ℕ → List Mutant
mutants_of m cap = take cap (flat_map mutants_of_item m.items)

-- The module with the one node rewritten. Its nodes are numbered anew.
abbrev pub mutated : Module → Patch → Module
mutated m patch = numbered (rewritten_module patch m)
