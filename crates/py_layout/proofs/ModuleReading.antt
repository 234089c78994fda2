-- A module that was read is read back from its own lines.
use Rattle.std.proofs.Common.{◌≡◌, ◌∙◌, sym, ap, refl, subst, ℕ, Bool, true, false, List, [], ◌∷◌, ◌++◌, Option, Some, None}
use Rattle.std.specs.Prelude.{if◌then◌else◌, map}
use Rattle.py_syntax.specs.declared.stmt.Annotation.{Annotation}
use Rattle.py_syntax.specs.declared.module.Param.{Param}
use Rattle.py_syntax.specs.declared.stmt.Stmt.{Stmt}
use Rattle.py_grammar.specs.declared.form.Form.{Form}
use Rattle.py_grammar.specs.declared.form.Form.TheVariants.{Compound, Future, Typing}
use Rattle.py_grammar.specs.declared.form.Header.TheVariants as h
use Rattle.py_grammar.specs.Forms as f
use Rattle.py_language.specs.declared.token.Logical.{Logical}
use Rattle.py_grammar.specs.Refusals.{first_word, is_continuing}
use Rattle.py_layout.proofs.SmallForms.{SmallForm}
use Rattle.std.specs.Prelude.{Result, Ok}
use Rattle.py_syntax.specs.declared.refusal.Refusal.{Refusal}
use Rattle.py_grammar.specs.declared.place.Place.{Place}
use Rattle.py_grammar.specs.declared.place.Place.TheVariants.{Block}
use Rattle.py_grammar.specs.Blocks as blocks
use Rattle.py_grammar.specs.Blocks.{Member, Group, Behind, behind, unless_deeper}
use Rattle.py_grammar.specs.Compounds as compounds
use Rattle.py_layout.proofs.Headers.{HeaderForm, of_if, of_elif, of_else, of_while, of_for, of_try, of_any, of_except, of_finally, of_def, of_class}
use Rattle.std.specs.Prelude.{◌==◌}
use Rattle.py_grammar.specs.Refusals.{is_clause}
use Rattle.py_layout.proofs.BlockForms.{ok_bind, ok_is, Every, HasOne, Smalls, MaybeSmalls, KindRead, is_small, BlockRead}
use Rattle.py_layout.proofs.BlockReading.{statements_read}
use Rattle.py_syntax.specs.declared.module.Func.{Func}
use Rattle.py_syntax.specs.declared.module.Item.{Item}
use Rattle.py_syntax.specs.declared.module.Item.TheVariants as item
use Rattle.py_syntax.specs.declared.module.Member.{Member as Method}
use Rattle.py_syntax.specs.declared.module.Member.TheVariants as member
use Rattle.py_grammar.specs.declared.place.Place.TheVariants as place
use Rattle.py_grammar.specs.Modules as modules
use Rattle.py_layout.proofs.BlockReading.{form_at, smalls_of, smalls_in, statement_read, of_line}
use Rattle.py_layout.proofs.Headers.{ReadParams, ReadAnnotation}

-- ---- what the items of a module are that was read

abbrev pub FuncRead : ℕ → Func → Type 0
FuncRead room f = ((before : ℕ) × (ReadParams before f.params × ReadAnnotation before f.returns)) × BlockRead room f.body

abbrev pub MemberRead : Method → Type 0
MemberRead (member.Func f) = FuncRead modules.deepest_in_class f
MemberRead (member.Other x) = KindRead (BlockRead modules.deepest_in_class) x.kind

abbrev pub ItemRead : Item → Type 0
ItemRead (item.Func f) = FuncRead compounds.deepest f
ItemRead (item.Class c) = HasOne c.members × Every MemberRead c.members
ItemRead (item.Import line names) = Unit {0}
ItemRead (item.Other x) = KindRead (BlockRead compounds.deepest) x.kind

def_parts : (before : ℕ) (n : List ℕ) (params : List Param) (returns : Option Annotation) → HeaderForm before (h.Def n params returns) → ReadParams before params × ReadAnnotation before returns
def_parts before n params returns (of_def n2 params2 returns2 is r v) =
    let w : (params2 ≡ params) × (returns2 ≡ returns) = (cc, cc) in
    (subst (ReadParams before) w.0 r, subst (ReadAnnotation before) w.1 v)
def_parts before n params returns (of_if test' is r) = absurd (cc)
def_parts before n params returns (of_elif test' is r) = absurd (cc)
def_parts before n params returns (of_else is) = absurd (cc)
def_parts before n params returns (of_while test' is r) = absurd (cc)
def_parts before n params returns (of_for n2 more is_tuple walked is one r) = absurd (cc)
def_parts before n params returns (of_try is) = absurd (cc)
def_parts before n params returns (of_any is) = absurd (cc)
def_parts before n params returns (of_except n2 more name is) = absurd (cc)
def_parts before n params returns (of_finally is) = absurd (cc)
def_parts before n params returns (of_class n2 base is) = absurd (cc)

-- a function's block, on its header's line or on deeper lines
func_block : (p : Place) (room : ℕ) (some : (room == 0) ≡ false) (end : Behind) (m : Member) (small : Option (List Stmt)) (body : List Stmt) → MaybeSmalls m.0.line small → compounds.block p room (compounds.statements room) end m small ≡ Ok body → BlockRead room body
func_block p room some end m small body r e =
    Rattle.py_layout.proofs.BlockReading.suite_read p room (compounds.statements room) (BlockRead room) (λ end x xs body e. statements_read room end x xs body e) (smalls_in room) end m small body m.0.line r e

func_read : (p : Place) (room : ℕ) (some : (room == 0) ≡ false) (end : Behind) (w : Group) (n : List ℕ) (params : List Param) (returns : Option Annotation) (small : Option (List Stmt)) (f' : Func) → f.form_of w.0.0 ≡ Some (Compound (h.Def n params returns) small)
    → modules.function p room end w n params returns small ≡ Ok f' → FuncRead room f'
func_read p room some end w n params returns small f' q e =
    let b = ok_bind (compounds.block p room (compounds.statements room) (behind w.1 end) w.0 small) (λ body. compounds.unless_continued p room w.1 (Ok (record { node = record { 0 = 0 }; name = n; line = w.0.0.line; params = params; returns = returns; body = body }))) f' e in
    let made : Func = record { node = record { 0 = 0 }; name = n; line = w.0.0.line; params = params; returns = returns; body = b.0 } in
    let parts = def_parts w.0.0.line n params returns (form_at w.0.0 (h.Def n params returns) small q) in
    subst (FuncRead room) (continued w.1 made f' b.1.1) ((w.0.0.line, parts), func_block p room some (behind w.1 end) w.0 small b.0 (smalls_of w.0.0 (h.Def n params returns) small q) b.1.0)
  where
    continued : (ms : List Member) (made a : Func) → compounds.unless_continued p room ms (Ok made) ≡ Ok a → made ≡ a
    continued [] made a e = ok_is made a e
    continued (m ∷ ms) made a e = absurd (cc)

others_read : {A : Type 0} (P : List Stmt → Type 0) (make : Stmt → A) (Q : A → Type 0) (given : (x : Stmt) → KindRead P x.kind → Q (make x)) (all : List Stmt) → Every (λ (x : Stmt). KindRead P x.kind) all → Every Q (map make all)
others_read P make Q given [] r = tt
others_read P make Q given (x ∷ xs) r = (given x r.0, others_read P make Q given xs r.1)

map_one : {A B : Type 0} (make : A → B) (xs : List A) → HasOne xs → HasOne (map make xs)
map_one make xs w = (make w.0, (map make w.1.0, ap (map make) w.1.1))

-- ---- lines that are read one statement after another

module _ {A : Type 0} (p : Place) (room : ℕ) (st : Behind → Group → Form → Result (List A) Refusal) (Q : A → Type 0)
    (one_read : (end : Behind) (w : Group) (form : Form) (all : List A) → f.form_of w.0.0 ≡ Some form → st end w form ≡ Ok all → HasOne all × Every Q all) where
  every_append : (xs ys : List A) → Every Q xs → Every Q ys → Every Q (xs ++ ys)
  every_append [] ys r q = q
  every_append (x ∷ xs) ys r q = (r.0, every_append xs ys r.1 q)

  column_read : (column : ℕ) (end : Behind) (w : Group) (all : List A) → blocks.in_column p room st column end w ≡ Ok all → HasOne all × Every Q all
  column_read column end w all e = by (w.0.0.column == column) e
    where
      formed : (o : Option Form) → f.form_of w.0.0 ≡ o → blocks.formed p room st end w o ≡ Ok all → HasOne all × Every Q all
      formed None q e = absurd (cc)
      formed (Some form) q e = one_read end w form all q e

      by : (v : Bool) → (if v then blocks.formed p room st end w (f.form_of w.0.0) else Rattle.py_grammar.specs.Refusals.misplaced w.0.0) ≡ Ok all → HasOne all × Every Q all
      by true e = formed (f.form_of w.0.0) refl e
      by false e = absurd (cc)

  order_read : (column : ℕ) (end : Behind) (ws : List Group) (all : List A) → blocks.in_order p room st column end ws ≡ Ok all → (HasOne ws → HasOne all) × Every Q all
  order_read column end [] all e = (λ one. absurd (let wrong : [] ≡ one.0 ∷ one.1.0 = one.1.1 in cc), subst (Every Q) (ok_is [] all e) tt)
  order_read column end (w ∷ ws) all e =
      let b = ok_bind (blocks.in_column p room st column (behind ws end) w) (λ first. blocks.◌>>=◌ (blocks.in_order p room st column end ws) (λ others. Ok (first ++ others))) all e in
      let d = ok_bind (blocks.in_order p room st column end ws) (λ others. Ok (b.0 ++ others)) all b.1.1 in
      let first = column_read column (behind ws end) w b.0 b.1.0 in
      (λ one. (first.0.0, (first.0.1.0 ++ d.0, sym (ok_is (b.0 ++ d.0) all d.1.1) ∙ ap (λ z. z ++ d.0) first.0.1.1)), subst (Every Q) (ok_is (b.0 ++ d.0) all d.1.1) (every_append b.0 d.0 first.1 (order_read column end ws d.0 d.1.0).1))

-- ---- classes and modules

plain_read : {A : Type 0} (p : Place) (room : ℕ) (some : (room == 0) ≡ false) (make : Stmt → A) (Q : A → Type 0) (given : (x : Stmt) → KindRead (BlockRead room) x.kind → Q (make x)) (end : Behind) (w : Group) (form : Form) (all : List A)
    → f.form_of w.0.0 ≡ Some form → (blocks.◌>>=◌ (compounds.statement p room (compounds.statements room) end w form) (λ made. Ok (map make made))) ≡ Ok all → HasOne all × Every Q all
plain_read p room some make Q given end w form all q e =
    let b = ok_bind (compounds.statement p room (compounds.statements room) end w form) (λ made. Ok (map make made)) all e in
    let r = statement_read p room (compounds.statements room) (BlockRead room) (λ end x xs body e. statements_read room end x xs body e) (smalls_in room) end w form b.0 q b.1.0 in
    subst (λ z. HasOne z × Every Q z) (ok_is (map make b.0) all b.1.1) (map_one make b.0 r.0, others_read (BlockRead room) make Q given b.0 r.1)

method_read : (end : Behind) (w : Group) (form : Form) (all : List Method) → f.form_of w.0.0 ≡ Some form → modules.method end w form ≡ Ok all → HasOne all × Every MemberRead all
unfolding modules.method
method_read end w (Compound (h.Def n params returns) small) all q e =
    let b = ok_bind (modules.function place.Class modules.deepest_in_class end w n params returns small) (λ made. Ok (member.Func made ∷ [])) all e in
    subst (λ z. HasOne z × Every MemberRead z) (ok_is (member.Func b.0 ∷ []) all b.1.1) ((member.Func b.0, ([], refl)), (func_read place.Class modules.deepest_in_class refl end w n params returns small b.0 q b.1.0, tt))
method_read end w form all q e = plain_read place.Class modules.deepest_in_class refl member.Other MemberRead (λ x r. r) end w form all q e

members_read : (end : Behind) (x : Logical) (xs : List Logical) (all : List Method) → modules.methods end (x ∷ xs) ≡ Ok all → HasOne all × Every MemberRead all
unfolding modules.methods
members_read end x xs all e =
    let r = order_read place.Class modules.deepest_in_class modules.method MemberRead method_read x.column end (blocks.groups x.column (x ∷ xs)) all e in
    (r.0 (_, (_, refl)), r.1)

smalls_members : (before : ℕ) (small : List Stmt) → Smalls before small → HasOne (map member.Other small) × Every MemberRead (map member.Other small)
smalls_members before small r = (map_one member.Other small r.0, by small r.1)
  where
    by : (xs : List Stmt) → Every (λ (x : Stmt). SmallForm before x.kind) xs → Every MemberRead (map member.Other xs)
    by [] r = tt
    by (x ∷ xs) r = (is_small before r.0, by xs r.1)

class_block : (end : Behind) (m : Member) (small : Option (List Stmt)) (found : List Method) → MaybeSmalls m.0.line small → compounds.block place.Module compounds.deepest modules.methods end m (modules.on_line small) ≡ Ok found → HasOne found × Every MemberRead found
class_block end m (Some small) found r e = by m.1 e
  where
    by : (ls : List Logical) → unless_deeper ls (Ok (map member.Other small)) ≡ Ok found → HasOne found × Every MemberRead found
    by [] e = subst (λ z. HasOne z × Every MemberRead z) (ok_is (map member.Other small) found e) (smalls_members m.0.line small r)
    by (l ∷ ls) e = absurd (cc)
class_block end m None found r e = by end m.1 e
  where
    by : (end : Behind) (ls : List Logical) → compounds.deeper_block place.Module compounds.deepest modules.methods end m.0 ls ≡ Ok found → HasOne found × Every MemberRead found
    by None [] e = absurd (cc)
    by (Some fault) [] e = absurd (cc)
    by end (x ∷ xs) e = members_read end x xs found e

import_read : (w : Group) (names : List (List ℕ)) (all : List Item) → modules.import_line w names ≡ Ok all → HasOne all × Every ItemRead all
import_read w names all e = by w.0.1 w.1 e
  where
    by : (ls : List Logical) (ms : List Member) → unless_deeper ls (compounds.unless_continued place.Module compounds.deepest ms (Ok (item.Import w.0.0.line names ∷ []))) ≡ Ok all → HasOne all × Every ItemRead all
    by [] [] e = subst (λ z. HasOne z × Every ItemRead z) (ok_is _ all e) ((item.Import w.0.0.line names, ([], refl)), (tt, tt))
    by [] (m ∷ ms) e = absurd (cc)
    by (l ∷ ls) ms e = absurd (cc)

item_read : (end : Behind) (w : Group) (form : Form) (all : List Item) → f.form_of w.0.0 ≡ Some form → modules.module_item end w form ≡ Ok all → HasOne all × Every ItemRead all
unfolding modules.module_item
item_read end w (Compound (h.Def n params returns) small) all q e =
    let b = ok_bind (modules.function place.Module compounds.deepest end w n params returns small) (λ made. Ok (item.Func made ∷ [])) all e in
    subst (λ z. HasOne z × Every ItemRead z) (ok_is (item.Func b.0 ∷ []) all b.1.1) ((item.Func b.0, ([], refl)), (func_read place.Module compounds.deepest refl end w n params returns small b.0 q b.1.0, tt))
item_read end w (Compound (h.Class n base) small) all q e =
    let b = ok_bind (compounds.block place.Module compounds.deepest modules.methods (behind w.1 end) w.0 (modules.on_line small)) (λ found. compounds.unless_continued place.Module compounds.deepest w.1 (Ok (item.Class (record { name = n; base = base; line = w.0.0.line; members = found }) ∷ []))) all e in
    let r = class_block (behind w.1 end) w.0 small b.0 (smalls_of w.0.0 (h.Class n base) small q) b.1.0 in
    let made : Item = item.Class (record { name = n; base = base; line = w.0.0.line; members = b.0 }) in
    subst (λ z. HasOne z × Every ItemRead z) (continued w.1 (made ∷ []) b.1.1) ((made, ([], refl)), (r, tt))
  where
    continued : (ms : List Member) (made : List Item) → compounds.unless_continued place.Module compounds.deepest ms (Ok made) ≡ Ok all → made ≡ all
    continued [] made e = ok_is made all e
    continued (m ∷ ms) made e = absurd (cc)
item_read end w Future all q e = import_read w [] all e
item_read end w (Typing names) all q e = import_read w names all e
item_read end w form all q e = plain_read place.Module compounds.deepest refl item.Other ItemRead (λ x r. r) end w form all q e

pub items_read : (end : Behind) (lines : List Logical) (all : List Item) → modules.module_items end lines ≡ Ok all → Every ItemRead all
unfolding modules.module_items
items_read end lines all e = (order_read place.Module compounds.deepest modules.module_item ItemRead item_read 0 end (blocks.groups 0 lines) all e).1
