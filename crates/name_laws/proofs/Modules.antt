-- The name of each function, and of each class, of a module that was read is an identifier, in a class or not.
use Rattle.std.proofs.Common.{Bool, List, None, Option, Some, [], false, map, true, ℕ, ◌∷◌}
use Rattle.std.specs.List.{AllByRecursion}
use Rattle.std.specs.Prelude.{Ok, Result, if◌then◌else◌, nat_le, not, ◌==◌}
use Rattle.py_language.specs.Tokens.{tokens_of}
use Rattle.py_language.specs.declared.token.Logical.{Logical}
use Rattle.py_syntax.specs.declared.module.Func.{Func}
use Rattle.py_syntax.specs.declared.module.Item.{Item}
use Rattle.py_syntax.specs.declared.module.Item.TheVariants as item
use Rattle.py_syntax.specs.declared.module.Member.{Member as Method}
use Rattle.py_syntax.specs.declared.module.Member.TheVariants as member
use Rattle.py_syntax.specs.declared.module.Module.{Module}
use Rattle.py_syntax.specs.declared.module.Param.{Param}
use Rattle.py_syntax.specs.declared.refusal.Refusal.{Refusal}
use Rattle.py_syntax.specs.declared.stmt.Annotation.{Annotation}
use Rattle.py_syntax.specs.declared.stmt.Stmt.{Stmt}
use Rattle.py_grammar.specs.Blocks.{Behind, Group, Member, behind, column_of, continues, formed, groups, in_column, in_order, lines_at, members, unless_deeper}
use Rattle.py_grammar.specs.Compounds.{block, deeper_block, deepest, statement, statements, unless_continued}
use Rattle.py_grammar.specs.Forms.{form_of}
use Rattle.py_grammar.specs.Refusals.{misplaced, refused}
use Rattle.py_grammar.specs.Modules.{class_statement, deepest_in_class, fault_in, function, import_line, method, methods, module_item, module_items, on_line, unless_fault, unnumbered}
use Rattle.py_grammar.specs.declared.form.Form.{Form}
use Rattle.py_grammar.specs.declared.form.Form.TheVariants.{Compound, Future, Typing}
use Rattle.py_grammar.specs.declared.form.Header.TheVariants.{Class, Def}
use Rattle.py_grammar.specs.declared.place.Place.{Place}
use Rattle.py_grammar.specs.declared.place.Place.TheVariants as place
use Rattle.name_laws.proofs.Cuts.{Part, parts_all}
use Rattle.name_laws.proofs.Headers.{FormNamed, IsIdentifier, SoundLine, form_of_named}
use Rattle.name_laws.proofs.Holds.{Holds, Maybe, given, holds_after, holds_bind, no, refusal, yes}
use Rattle.name_laws.proofs.Lists.{all_join}

-- ---- lines, and the groups that they are cut into

abbrev SoundLines : List Logical → Type 0
SoundLines lines = AllByRecursion SoundLine lines

abbrev SoundMember : Member → Type 0
SoundMember m = Part SoundLine m

abbrev SoundGroup : Group → Type 0
SoundGroup g = Part SoundMember g

groups_sound : (column : ℕ) (lines : List Logical) → SoundLines lines → AllByRecursion SoundGroup (groups column lines)
groups_sound column lines s =
    parts_all SoundMember (λ m. not (continues column m.0)) (members column lines) (parts_all SoundLine (λ l. nat_le l.column column) lines s)

unless_holds : {A : Type 0} (P : A → Type 0) (ls : List Logical) (made : Result A Refusal) → Holds P made → Holds P (unless_deeper ls made)
unless_holds P [] made h = h
unless_holds P (l ∷ ls) made h = refusal

module _ (at : Place) (room : ℕ) where
  continued_holds : {A : Type 0} (P : A → Type 0) (ms : List Member) (made : Result A Refusal) → Holds P made → Holds P (unless_continued at room ms made)
  continued_holds P [] made h = h
  continued_holds P (m ∷ ms) made h = refusal

  module _ {A : Type 0} (inner : Behind → List Logical → Result (List A) Refusal) (P : List A → Type 0) where
    deeper_holds : (end : Behind) (l : Logical) (ls : List Logical) → Holds P (inner end ls) → Holds P (deeper_block at room inner end l ls)
    deeper_holds (Some fault) l [] h = refusal
    deeper_holds None l [] h = refusal
    deeper_holds end l (x ∷ xs) h = h

    block_holds : (end : Behind) (m : Member) (small : Option (List A)) → Holds P (inner end m.1) → Maybe P small → Holds P (block at room inner end m small)
    block_holds end m None h k = deeper_holds end m.0 m.1 h
    block_holds end m (Some small) h k = by (room == 0)
      where
        by : (b : Bool) → Holds P (if b then refused at room m.0 else unless_deeper m.1 (Ok small))
        by true = refusal
        by false = unless_holds P m.1 (Ok small) (given k.at)

  -- a block's statements, by what each of them has
  module _ {A : Type 0} (read : Behind → Group → Form → Result (List A) Refusal) (P : A → Type 0)
      (each : (end : Behind) (g : Group) (form : Form) → SoundGroup g → FormNamed form → Holds (AllByRecursion P) (read end g form)) where
    formed_named : (end : Behind) (g : Group) (form : Option Form) → SoundGroup g → Maybe FormNamed form → Holds (AllByRecursion P) (formed at room read end g form)
    formed_named end g None s f = refusal
    formed_named end g (Some form) s f = each end g form s f.at

    column_named : (column : ℕ) (end : Behind) (g : Group) → SoundGroup g → Holds (AllByRecursion P) (in_column at room read column end g)
    column_named column end g s = by (g.0.0.column == column)
      where
        by : (b : Bool) → Holds (AllByRecursion P) (if b then formed at room read end g (form_of g.0.0) else misplaced g.0.0)
        by true = formed_named end g (form_of g.0.0) s (form_of_named g.0.0 s.0.0)
        by false = refusal

    groups_named : (column : ℕ) (end : Behind) (gs : List Group) → AllByRecursion SoundGroup gs → Holds (AllByRecursion P) (in_order at room read column end gs)
    groups_named column end [] s = given tt
    groups_named column end (g ∷ gs) s =
        holds_bind (AllByRecursion P) (in_column at room read column (behind gs end) g) _ (column_named column (behind gs end) g s.0)
        (λ first h. holds_bind (AllByRecursion P) (in_order at room read column end gs) _ (groups_named column end gs s.1) (λ others k. given (all_join P first others h k)))

    lines_named : (column : ℕ) (end : Behind) (lines : List Logical) → SoundLines lines → Holds (AllByRecursion P) (lines_at at room read column end lines)
    lines_named column end lines s = groups_named column end (groups column lines) (groups_sound column lines s)

-- ---- functions

abbrev FuncNamed : Func → Type 0
FuncNamed f = IsIdentifier f.name

function_named : (at : Place) (room : ℕ) (end : Behind) (g : Group) (name : List ℕ) (params : List Param) (returns : Option Annotation) (small : Option (List Stmt)) → IsIdentifier name → Holds FuncNamed (function at room end g name params returns small)
function_named at room end g name params returns small s =
    holds_after (block at room (statements room) (behind g.1 end) g.0 small) _ (λ body. continued_holds at room FuncNamed g.1 _ (given s))

-- ---- classes

abbrev pub MemberNamed : Method → Type 0
MemberNamed (member.Func f) = FuncNamed f
MemberNamed (member.Other s) = Unit {0}

others_named : (all : List Stmt) → AllByRecursion MemberNamed (map member.Other all)
others_named [] = tt
others_named (s ∷ all) = (tt, others_named all)

method_named : (end : Behind) (g : Group) (form : Form) → SoundGroup g → FormNamed form → Holds (AllByRecursion MemberNamed) (method end g form)
unfolding method
method_named end g (Compound (Def name params returns) small) s f =
    holds_bind FuncNamed (function place.Class deepest_in_class end g name params returns small) _ (function_named place.Class deepest_in_class end g name params returns small f) (λ made k. given (k, tt))
method_named end g form s f = holds_after (statement place.Class deepest_in_class (statements deepest_in_class) end g form) _ (λ all. given (others_named all))

methods_named : (end : Behind) (lines : List Logical) → SoundLines lines → Holds (AllByRecursion MemberNamed) (methods end lines)
unfolding methods
methods_named end lines s = lines_named place.Class deepest_in_class method MemberNamed method_named (column_of lines) end lines s

line_named : (small : Option (List Stmt)) → Maybe (AllByRecursion MemberNamed) (on_line small)
line_named None = no
line_named (Some small) = yes (others_named small)

abbrev pub ItemNamed : Item → Type 0
ItemNamed (item.Func f) = FuncNamed f
ItemNamed (item.Class c) = IsIdentifier c.name × AllByRecursion MemberNamed c.members
ItemNamed (item.Import line names) = Unit {0}
ItemNamed (item.Other s) = Unit {0}

class_named : (end : Behind) (g : Group) (name : List ℕ) (base : Option (List ℕ)) (small : Option (List Stmt)) → SoundGroup g → IsIdentifier name → Holds (AllByRecursion ItemNamed) (class_statement end g name base small)
class_named end g name base small s f =
    holds_bind (AllByRecursion MemberNamed) (block place.Module deepest methods (behind g.1 end) g.0 (on_line small)) _
    (block_holds place.Module deepest methods (AllByRecursion MemberNamed) (behind g.1 end) g.0 (on_line small) (methods_named (behind g.1 end) g.0.1 s.0.1) (line_named small))
    (λ found k. continued_holds place.Module deepest (AllByRecursion ItemNamed) g.1 _ (given ((f, k), tt)))

-- ---- modules

statements_named : (all : List Stmt) → AllByRecursion ItemNamed (map item.Other all)
statements_named [] = tt
statements_named (s ∷ all) = (tt, statements_named all)

import_named : (g : Group) (names : List (List ℕ)) → Holds (AllByRecursion ItemNamed) (import_line g names)
import_named g names = unless_holds (AllByRecursion ItemNamed) g.0.1 _ (continued_holds place.Module deepest (AllByRecursion ItemNamed) g.1 _ (given (tt, tt)))

item_named : (end : Behind) (g : Group) (form : Form) → SoundGroup g → FormNamed form → Holds (AllByRecursion ItemNamed) (module_item end g form)
unfolding module_item
item_named end g (Compound (Def name params returns) small) s f =
    holds_bind FuncNamed (function place.Module deepest end g name params returns small) _ (function_named place.Module deepest end g name params returns small f) (λ made k. given (k, tt))
item_named end g (Compound (Class name base) small) s f = class_named end g name base small s f
item_named end g Future s f = import_named g []
item_named end g (Typing names) s f = import_named g names
item_named end g form s f = holds_after (statement place.Module deepest (statements deepest) end g form) _ (λ all. given (statements_named all))

items_named : (end : Behind) (lines : List Logical) → SoundLines lines → Holds (AllByRecursion ItemNamed) (module_items end lines)
unfolding module_items
items_named end lines s = lines_named place.Module deepest module_item ItemNamed item_named 0 end lines s

abbrev pub ModuleNamed : Module → Type 0
ModuleNamed m = AllByRecursion ItemNamed m.items

unless_fault_named : (end : Behind) (items : List Item) → AllByRecursion ItemNamed items → Holds ModuleNamed (unless_fault end items)
unless_fault_named None items h = given h
unless_fault_named (Some fault) items h = refusal

pub unnumbered_named : (text : List ℕ) → SoundLines (tokens_of text).lines → Holds ModuleNamed (unnumbered text)
unfolding unnumbered
unnumbered_named text s =
    let end = fault_in (tokens_of text).fault in
    holds_bind (AllByRecursion ItemNamed) (module_items end (tokens_of text).lines) _ (items_named end (tokens_of text).lines s) (λ items h. unless_fault_named end items h)
