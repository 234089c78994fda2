-- A module that is numbered has its nodes numbered from 0, one after another.
use Rattle.std.proofs.Common.{◌≡◌, ◌∙◌, refl, sym, ap, subst, ℕ, suc, ◌+◌, true, List, [], ◌∷◌, ◌++◌, map, arith}
use Rattle.std.specs.List.{flat_map, range_with_len, AllByRecursion}
use Rattle.std.proofs.lemmas.List.{map-append}
use Rattle.std.proofs.lemmas.Grind.{flat_map-append}
use Rattle.py_syntax.specs.declared.module.Class.{Class}
use Rattle.py_syntax.specs.declared.module.Func.{Func}
use Rattle.py_syntax.specs.declared.module.Item.{Item}
use Rattle.py_syntax.specs.declared.module.Item.TheVariants as item
use Rattle.py_syntax.specs.declared.module.Member.{Member}
use Rattle.py_syntax.specs.declared.module.Member.TheVariants as member
use Rattle.py_syntax.specs.declared.module.Module.{Module}
use Rattle.py_syntax.specs.declared.stmt.Stmt.{Stmt}
use Rattle.py_language.specs.TreesNumbers.{in_order as each}
use Rattle.py_nodes.specs.Numbers.{stmt, func, member_numbered, class, item_numbered, numbered}
use Rattle.py_sites.specs.Nodes.{Node, Nodes, nodes, nodes_of, number, stmt_nodes, member_functions, item_functions, function, IsNumbered}
use Rattle.py_sites.proofs.Spans.{Spans, spans_none, spans_one, spans_node, Follows, each_follows}
use Rattle.py_sites.proofs.SpansStmt.{stmt_follows}

all_stmts : (body : List Stmt) → AllByRecursion (Follows stmt_nodes) (map (stmt true) body)
all_stmts [] = tt
all_stmts (x ∷ body) = (stmt_follows x, all_stmts body)

func_follows : (f : Func) → Follows (λ f. nodes (function f)) (func f)
func_follows f n = spans_node (function (func f n).0) n refl (each_follows stmt_nodes (map (stmt true) f.body) (all_stmts f.body) (suc n))

abbrev member_list : Member → Nodes
member_list m = flat_map nodes (map function (member_functions m))

member_follows : (m : Member) → Follows member_list (member_numbered m)
member_follows (member.Func f) n = spans_one (func_follows f n)
member_follows (member.Other x) n = spans_none n

all_members : (ms : List Member) → AllByRecursion (Follows member_list) (map member_numbered ms)
all_members [] = tt
all_members (m ∷ ms) = (member_follows m, all_members ms)

-- the nodes of functions that are found one list after another
flat_functions : {X : Type 0} (f : X → List Func) (xs : List X) → flat_map (λ x. flat_map nodes (map function (f x))) xs ≡ flat_map nodes (map function (flat_map f xs))
flat_functions f [] = refl
flat_functions f (x ∷ xs) =
    ap (λ ys. flat_map nodes (map function (f x)) ++ ys) (flat_functions f xs)
    ∙ sym (ap (flat_map nodes) (map-append function (f x) (flat_map f xs)) ∙ flat_map-append nodes (map function (f x)) (map function (flat_map f xs)))

abbrev item_list : Item → Nodes
item_list i = flat_map nodes (map function (item_functions i))

item_follows : (i : Item) → Follows item_list (item_numbered i)
item_follows (item.Func f) n = spans_one (func_follows f n)
item_follows (item.Class c) n =
    let r = each (map member_numbered c.members) n in
    subst (λ xs. Spans xs n r.1) (flat_functions member_functions r.0) (each_follows member_list (map member_numbered c.members) (all_members c.members) n)
item_follows (item.Import line names) n = spans_none n
item_follows (item.Other x) n = spans_none n

all_items : (items : List Item) → AllByRecursion (Follows item_list) (map item_numbered items)
all_items [] = tt
all_items (i ∷ items) = (item_follows i, all_items items)

pub dense : (m : Module) → IsNumbered (numbered m)
dense m =
    let r = each (map item_numbered m.items) 0 in
    let s = each_follows item_list (map item_numbered m.items) (all_items m.items) 0 in
    let ends = s.ends in
    let many : s.many ≡ r.1 = omega (arith, ends) in
    ap (map number) (sym (flat_functions item_functions r.0)) ∙ s.numbers ∙ ap (range_with_len 0) many
