-- Each function of a module that was read lies on lines, in a class or not.
use Rattle.std.proofs.Common.{List, None, Option, Some, [], map, refl, suc, zero, ℕ, ◌+◌, ◌∷◌}
use Rattle.std.specs.List.{AllByRecursion}
use Rattle.std.specs.Prelude.{Err, Ok, Result}
use Rattle.py_language.specs.Tokens.{tokens_of}
use Rattle.py_language.specs.TokensCharacters.{lines_of}
use Rattle.py_language.specs.TokensLaws.{InOrder}
use Rattle.py_language.specs.TokensLines.{line_feeds}
use Rattle.py_language.specs.declared.token.Logical.{Logical}
use Rattle.py_syntax.specs.declared.module.Item.{Item}
use Rattle.py_syntax.specs.declared.module.Item.TheVariants as item
use Rattle.py_syntax.specs.declared.module.Member.TheVariants as member
use Rattle.py_syntax.specs.declared.module.Module.{Module}
use Rattle.py_syntax.specs.declared.module.Param.{Param}
use Rattle.py_syntax.specs.declared.refusal.Refusal.{Refusal}
use Rattle.py_syntax.specs.declared.stmt.Annotation.{Annotation}
use Rattle.py_syntax.specs.declared.stmt.Stmt.{Stmt}
use Rattle.py_grammar.specs.Blocks.{Behind, Group, behind, column_of}
use Rattle.py_grammar.specs.Compounds.{block, deepest, statement, statements}
use Rattle.py_grammar.specs.Modules.{class_statement, deepest_in_class, fault_in, function, import_line, method, methods, module_item, module_items, on_line, unless_fault, unnumbered}
use Rattle.py_grammar.specs.declared.form.Form.{Form}
use Rattle.py_grammar.specs.declared.form.Form.TheVariants.{Compound, Future, Typing}
use Rattle.py_grammar.specs.declared.form.Header.TheVariants.{Class, Def}
use Rattle.py_grammar.specs.declared.place.Place.{Place}
use Rattle.py_grammar.specs.declared.place.Place.TheVariants as place
use Rattle.line_laws.proofs.Blocks.{block_holds, continued_holds, lines_good, unless_holds}
use Rattle.line_laws.proofs.Compounds.{Leads, statement_leads, suite_lies}
use Rattle.line_laws.proofs.Cuts.{group_lines, member_lines, order_split}
use Rattle.line_laws.proofs.Forms.{FormFits}
use Rattle.line_laws.proofs.Holds.{Holds, Maybe, given, holds_bind, no, refusal, yes}
use Rattle.line_laws.proofs.Lists.{all_join}
use Rattle.line_laws.proofs.Lines.{lines_wider}
use Rattle.line_laws.specs.Layout.{Block, InLines, ItemLaid, Laid, MemberLaid, OnLine}

pub statements_lie : (room : ℕ) (end : Behind) (lines : List Logical) (low high : ℕ) → InOrder low high lines → Holds (InLines room low high) (statements room end lines)
unfolding statements
statements_lie zero end [] low high o = given (refl, o)
statements_lie zero end (l ∷ lines) low high o = refusal
statements_lie (suc room) end lines low high o =
    lines_good place.Block room (statement place.Block room (statements room)) (Leads place.Block room (InLines room) (lines_wider room) (statements room) (statements_lie room)) (InLines (suc room))
    (statement_leads place.Block room (InLines room) (lines_wider room) (statements room) (statements_lie room)) (λ low high le. le) (λ low middle high xs ys le l r. l high ys le r) (column_of lines) end lines low high o

function_laid : (at : Place) (room : ℕ) (end : Behind) (g : Group) (name : List ℕ) (params : List Param) (returns : Option Annotation) (small : Option (List Stmt)) (low high : ℕ) → InOrder low high (group_lines g) → Maybe (OnLine g.0.0.line) small
    → Holds Laid (function at room end g name params returns small)
function_laid at room end g name params returns small low high o f =
    let p = order_split low high (g.0.0 ∷ g.0.1) (member_lines g.1) o in
    holds_bind (Block (InLines room) g.0.0.line p.middle) (block at room (statements room) (behind g.1 end) g.0 small) _
    (suite_lies at room (InLines room) (lines_wider room) (statements room) (statements_lie room) (behind g.1 end) g.0 small low p.middle p.before f)
    (λ body b. continued_holds at room Laid g.1 _ (given (room, p.middle, b)))

-- what is no function has none
holds_always : {A : Type 0} (r : Result A Refusal) → Holds (λ (a : A). Unit {0}) r
holds_always (Ok a) = given tt
holds_always (Err e) = refusal

-- ---- classes

members_laid : (all : List Stmt) → AllByRecursion MemberLaid (map member.Other all)
members_laid [] = tt
members_laid (s ∷ all) = (tt, members_laid all)

method_laid : (end : Behind) (g : Group) (form : Form) (low high : ℕ) → InOrder low high (group_lines g) → FormFits g.0.0.line form → Holds (AllByRecursion MemberLaid) (method end g form)
unfolding method
method_laid end g (Compound (Def name params returns) small) low high o f =
    holds_bind Laid (function place.Class deepest_in_class end g name params returns small) _ (function_laid place.Class deepest_in_class end g name params returns small low high o f) (λ made k. given (k, tt))
method_laid end g form low high o f =
    holds_bind (λ (all : List Stmt). Unit {0}) (statement place.Class deepest_in_class (statements deepest_in_class) end g form) _ (holds_always _) (λ all k. given (members_laid all))

methods_laid : (end : Behind) (lines : List Logical) (low high : ℕ) → InOrder low high lines → Holds (AllByRecursion MemberLaid) (methods end lines)
unfolding methods
methods_laid end lines low high o =
    lines_good place.Class deepest_in_class method (λ low high. AllByRecursion MemberLaid) (λ low high. AllByRecursion MemberLaid) method_laid (λ low high le. tt) (λ low middle high xs ys le h k. all_join MemberLaid xs ys h k) (column_of lines) end lines low high o

line_laid : (small : Option (List Stmt)) → Maybe (AllByRecursion MemberLaid) (on_line small)
line_laid None = no
line_laid (Some small) = yes (members_laid small)

class_laid : (end : Behind) (g : Group) (name : List ℕ) (base : Option (List ℕ)) (small : Option (List Stmt)) (low high : ℕ) → InOrder low high (group_lines g) → Holds (AllByRecursion ItemLaid) (class_statement end g name base small)
class_laid end g name base small low high o =
    let p = order_split low high (g.0.0 ∷ g.0.1) (member_lines g.1) o in
    holds_bind (AllByRecursion MemberLaid) (block place.Module deepest methods (behind g.1 end) g.0 (on_line small)) _
    (block_holds place.Module deepest methods (AllByRecursion MemberLaid) (behind g.1 end) g.0 (on_line small) (methods_laid (behind g.1 end) g.0.1 (g.0.0.line + 1) p.middle p.before.1) (line_laid small))
    (λ found k. continued_holds place.Module deepest (AllByRecursion ItemLaid) g.1 _ (given (k, tt)))

-- ---- modules

items_laid : (all : List Stmt) → AllByRecursion ItemLaid (map item.Other all)
items_laid [] = tt
items_laid (s ∷ all) = (tt, items_laid all)

import_laid : (g : Group) (names : List (List ℕ)) → Holds (AllByRecursion ItemLaid) (import_line g names)
import_laid g names = unless_holds (AllByRecursion ItemLaid) g.0.1 _ (continued_holds place.Module deepest (AllByRecursion ItemLaid) g.1 _ (given (tt, tt)))

item_laid : (end : Behind) (g : Group) (form : Form) (low high : ℕ) → InOrder low high (group_lines g) → FormFits g.0.0.line form → Holds (AllByRecursion ItemLaid) (module_item end g form)
unfolding module_item
item_laid end g (Compound (Def name params returns) small) low high o f =
    holds_bind Laid (function place.Module deepest end g name params returns small) _ (function_laid place.Module deepest end g name params returns small low high o f) (λ made k. given (k, tt))
item_laid end g (Compound (Class name base) small) low high o f = class_laid end g name base small low high o
item_laid end g Future low high o f = import_laid g []
item_laid end g (Typing names) low high o f = import_laid g names
item_laid end g form low high o f =
    holds_bind (λ (all : List Stmt). Unit {0}) (statement place.Module deepest (statements deepest) end g form) _ (holds_always _) (λ all k. given (items_laid all))

module_laid : (end : Behind) (lines : List Logical) (low high : ℕ) → InOrder low high lines → Holds (AllByRecursion ItemLaid) (module_items end lines)
unfolding module_items
module_laid end lines low high o =
    lines_good place.Module deepest module_item (λ low high. AllByRecursion ItemLaid) (λ low high. AllByRecursion ItemLaid) item_laid (λ low high le. tt) (λ low middle high xs ys le h k. all_join ItemLaid xs ys h k) 0 end lines low high o

abbrev pub ModuleLaid : Module → Type 0
ModuleLaid m = AllByRecursion ItemLaid m.items

unless_fault_laid : (end : Behind) (items : List Item) → AllByRecursion ItemLaid items → Holds ModuleLaid (unless_fault end items)
unless_fault_laid None items h = given h
unless_fault_laid (Some fault) items h = refusal

pub unnumbered_laid : (text : List ℕ) → InOrder 1 (1 + line_feeds (lines_of text)) (tokens_of text).lines → Holds ModuleLaid (unnumbered text)
unfolding unnumbered
unnumbered_laid text o =
    let end = fault_in (tokens_of text).fault in
    holds_bind (AllByRecursion ItemLaid) (module_items end (tokens_of text).lines) _ (module_laid end (tokens_of text).lines 1 (1 + line_feeds (lines_of text)) o) (λ items h. unless_fault_laid end items h)
