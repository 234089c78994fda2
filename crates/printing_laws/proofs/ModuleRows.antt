-- The lines of functions, classes and modules that are read from lines of a text.
use Rattle.std.proofs.Common.{ℕ, ◌+◌, List, [], ◌∷◌, map, Option, Some, None}
use Rattle.std.specs.List.{AllByRecursion, flat_map}
use Rattle.std.specs.Prelude.{Ok}
use Rattle.py_language.specs.declared.token.Logical.{Logical}
use Rattle.py_syntax.specs.declared.module.Func.{Func}
use Rattle.py_syntax.specs.declared.module.Item.{Item}
use Rattle.py_syntax.specs.declared.module.Item.TheVariants as item
use Rattle.py_syntax.specs.declared.module.Member.{Member as Method}
use Rattle.py_syntax.specs.declared.module.Member.TheVariants as member
use Rattle.py_syntax.specs.declared.module.Module.{Module}
use Rattle.py_syntax.specs.declared.module.Param.{Param}
use Rattle.py_syntax.specs.declared.stmt.Annotation.{Annotation}
use Rattle.py_syntax.specs.declared.stmt.Stmt.{Stmt}
use Rattle.py_grammar.specs.Blocks.{◌>>=◌, Behind, Group, behind, column_of}
use Rattle.py_grammar.specs.Compounds.{block, deepest, statement, statements}
use Rattle.py_grammar.specs.Forms.{form_of}
use Rattle.py_grammar.specs.Modules.{class_statement, deepest_in_class, function, import_line, method, methods, module_item, module_items, on_line, read_lines, unless_fault}
use Rattle.py_grammar.specs.declared.form.Form.{Form}
use Rattle.py_grammar.specs.declared.form.Form.TheVariants.{Compound, Future, Typing}
use Rattle.py_grammar.specs.declared.form.Header.TheVariants.{Class, Def}
use Rattle.py_grammar.specs.declared.place.Place.{Place}
use Rattle.py_grammar.specs.declared.place.Place.TheVariants as place
use Rattle.py_layout.specs.Modules.{func_rows, item_rows, member_rows, module_rows}
use Rattle.py_layout.specs.Rows.{indent}
use Rattle.py_annotation_layout.specs.Annotations.{annotation_tokens}
use Rattle.printing_laws.proofs.BlockRows.{block_holds, block_rows_good, continued_holds, lines_good, statement_good, statements_good, stmt_rows_good, unless_holds}
use Rattle.printing_laws.proofs.Forms.{BlockGood, FormGood, StmtGood}
use Rattle.printing_laws.proofs.Groups.{GoodGroup, GoodLine, GoodLines}
use Rattle.printing_laws.proofs.HeaderRows.{AllNames, HeaderGood, import_good}
use Rattle.printing_laws.proofs.Holds.{Holds, Maybe, given, holds_bind, no, refusal, yes}
use Rattle.printing_laws.proofs.SmallRows.{GoodRows, rows_append}

-- ---- what each part has

abbrev pub FuncGood : Func → Type 0
FuncGood f = HeaderGood (Def f.name f.params f.returns) × BlockGood f.body

abbrev pub MemberGood : Method → Type 0
MemberGood (member.Func f) = FuncGood f
MemberGood (member.Other x) = StmtGood x

abbrev pub ItemGood : Item → Type 0
ItemGood (item.Func f) = FuncGood f
ItemGood (item.Class c) = HeaderGood (Class c.name c.base) × AllByRecursion MemberGood c.members
ItemGood (item.Import line names) = AllNames names
ItemGood (item.Other x) = StmtGood x

-- ---- its rows

func_rows_good : (column : ℕ) (f : Func) → FuncGood f → GoodRows (func_rows annotation_tokens column f)
func_rows_good column f k = (k.0, block_rows_good (column + indent) f.body k.1)

member_rows_good : (column : ℕ) (x : Method) → MemberGood x → GoodRows (member_rows annotation_tokens column x)
member_rows_good column (member.Func f) k = func_rows_good column f k
member_rows_good column (member.Other x) k = stmt_rows_good x column k

members_rows_good : (column : ℕ) (all : List Method) → AllByRecursion MemberGood all → GoodRows (flat_map (member_rows annotation_tokens column) all)
members_rows_good column [] k = tt
members_rows_good column (x ∷ xs) k = rows_append (member_rows annotation_tokens column x) (flat_map (member_rows annotation_tokens column) xs) (member_rows_good column x k.0) (members_rows_good column xs k.1)

item_rows_good : (x : Item) → ItemGood x → GoodRows (item_rows annotation_tokens 0 x)
item_rows_good (item.Func f) k = func_rows_good 0 f k
item_rows_good (item.Class c) k = (k.0, members_rows_good (0 + indent) c.members k.1)
item_rows_good (item.Import line names) k = (import_good names k, tt)
item_rows_good (item.Other x) k = stmt_rows_good x 0 k

items_rows_good : (all : List Item) → AllByRecursion ItemGood all → GoodRows (flat_map (item_rows annotation_tokens 0) all)
items_rows_good [] k = tt
items_rows_good (x ∷ xs) k = rows_append (item_rows annotation_tokens 0 x) (flat_map (item_rows annotation_tokens 0) xs) (item_rows_good x k.0) (items_rows_good xs k.1)

-- ---- reading

module _ (form_good : (l : Logical) → GoodLine l → Maybe FormGood (form_of l)) where
  function_good : (at : Place) (room : ℕ) (end : Behind) (w : Group) (name : List ℕ) (params : List Param) (returns : Option Annotation) (small : Option (List Stmt)) → GoodGroup w → HeaderGood (Def name params returns) → Maybe BlockGood small
      → Holds FuncGood (function at room end w name params returns small)
  function_good at room end w name params returns small k l m =
      holds_bind BlockGood (block at room (statements room) (behind w.1 end) w.0 small) _ (block_holds form_good at room (statements room) BlockGood (statements_good form_good room) (behind w.1 end) w.0 small k.0.1 m)
      (λ body b. continued_holds form_good at room FuncGood w.1 _ (given (l, b)))

  others_good : {A : Type 0} (make : Stmt → A) (P : A → Type 0) → ((x : Stmt) → StmtGood x → P (make x)) → (all : List Stmt) → BlockGood all → AllByRecursion P (map make all)
  others_good make P f [] k = tt
  others_good make P f (x ∷ xs) k = (f x k.0, others_good make P f xs k.1)

  plain_good : {A : Type 0} (at : Place) (room : ℕ) (make : Stmt → A) (P : A → Type 0) → ((x : Stmt) → StmtGood x → P (make x)) → (end : Behind) (w : Group) (form : Form) → GoodGroup w → FormGood form
      → Holds (AllByRecursion P) (statement at room (statements room) end w form >>= λ all. Ok (map make all))
  plain_good at room make P f end w form k l =
      holds_bind BlockGood (statement at room (statements room) end w form) _ (statement_good form_good at room (statements room) (statements_good form_good room) end w form k l) (λ all a. given (others_good make P f all a))

  -- ---- classes

  method_good : (end : Behind) (w : Group) (form : Form) → GoodGroup w → FormGood form → Holds (AllByRecursion MemberGood) (method end w form)
  unfolding method
  method_good end w (Compound (Def name params returns) small) k l =
      holds_bind FuncGood (function place.Class deepest_in_class end w name params returns small) _ (function_good place.Class deepest_in_class end w name params returns small k l.0 l.1) (λ made a. given (a, tt))
  method_good end w form k l = plain_good place.Class deepest_in_class member.Other MemberGood (λ x a. a) end w form k l

  methods_good : (end : Behind) (lines : List Logical) → GoodLines lines → Holds (AllByRecursion MemberGood) (methods end lines)
  unfolding methods
  methods_good end lines k = lines_good form_good place.Class deepest_in_class method MemberGood method_good (column_of lines) end lines k

  on_line_good : (small : Option (List Stmt)) → Maybe BlockGood small → Maybe (AllByRecursion MemberGood) (on_line small)
  on_line_good None k = no
  on_line_good (Some small) k = yes (others_good member.Other MemberGood (λ x a. a) small k.at)

  class_good : (end : Behind) (w : Group) (name : List ℕ) (base : Option (List ℕ)) (small : Option (List Stmt)) → GoodGroup w → HeaderGood (Class name base) → Maybe BlockGood small → Holds (AllByRecursion ItemGood) (class_statement end w name base small)
  class_good end w name base small k l m =
      holds_bind (AllByRecursion MemberGood) (block place.Module deepest methods (behind w.1 end) w.0 (on_line small)) _
      (block_holds form_good place.Module deepest methods (AllByRecursion MemberGood) methods_good (behind w.1 end) w.0 (on_line small) k.0.1 (on_line_good small m))
      (λ found a. continued_holds form_good place.Module deepest (AllByRecursion ItemGood) w.1 _ (given ((l, a), tt)))

  -- ---- modules

  import_line_good : (w : Group) (names : List (List ℕ)) → AllNames names → Holds (AllByRecursion ItemGood) (import_line w names)
  import_line_good w names k = unless_holds (AllByRecursion ItemGood) w.0.1 _ (continued_holds form_good place.Module deepest (AllByRecursion ItemGood) w.1 _ (given (k, tt)))

  item_good : (end : Behind) (w : Group) (form : Form) → GoodGroup w → FormGood form → Holds (AllByRecursion ItemGood) (module_item end w form)
  unfolding module_item
  item_good end w (Compound (Def name params returns) small) k l =
      holds_bind FuncGood (function place.Module deepest end w name params returns small) _ (function_good place.Module deepest end w name params returns small k l.0 l.1) (λ made a. given (a, tt))
  item_good end w (Compound (Class name base) small) k l = class_good end w name base small k l.0 l.1
  item_good end w Future k l = import_line_good w [] tt
  item_good end w (Typing names) k l = import_line_good w names l
  item_good end w form k l = plain_good place.Module deepest item.Other ItemGood (λ x a. a) end w form k l

  items_good : (end : Behind) (lines : List Logical) → GoodLines lines → Holds (AllByRecursion ItemGood) (module_items end lines)
  unfolding module_items
  items_good end lines k = lines_good form_good place.Module deepest module_item ItemGood item_good 0 end lines k

  abbrev pub ModuleGood : Module → Type 0
  ModuleGood m = GoodRows (module_rows annotation_tokens m)

  unless_fault_good : (end : Behind) (items : List Item) → AllByRecursion ItemGood items → Holds ModuleGood (unless_fault end items)
  unless_fault_good None items k = given (items_rows_good items k)
  unless_fault_good (Some fault) items k = refusal

  pub module_good : (end : Behind) (lines : List Logical) → GoodLines lines → Holds ModuleGood (read_lines end lines)
  module_good end lines k = holds_bind (AllByRecursion ItemGood) (module_items end lines) _ (items_good end lines k) (λ items a. unless_fault_good end items a)
