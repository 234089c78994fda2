-- The lines of compound statements, and of blocks, that are read from lines of a text.
use Rattle.std.proofs.Common.{◌∙◌, sym, ap, refl, subst, ℕ, zero, suc, ◌+◌, List, [], ◌∷◌, ◌++◌, map, Option, Some, None}
use Rattle.std.specs.List.{AllByRecursion}
use Rattle.std.specs.Prelude.{Ok, Result, option_map, option_to_list, ◌==◌}
use Rattle.py_language.specs.TreesPlaces.{Conditional}
use Rattle.py_language.specs.declared.token.Logical.{Logical}
use Rattle.py_syntax.specs.declared.expr.Expr.{Expr}
use Rattle.py_syntax.specs.declared.refusal.Refusal.{Refusal}
use Rattle.py_syntax.specs.declared.stmt.Clause.{Clause, out-roll-Clause}
use Rattle.py_syntax.specs.declared.stmt.Stmt.{Stmt}
use Rattle.py_syntax.specs.declared.stmt.StmtKind.{StmtKind, StmtKind-F}
use Rattle.py_syntax.specs.declared.stmt.StmtKind.TheVariants.{outs-For, outs-If, outs-Try, outs-While}
use Rattle.py_grammar.specs.Blocks.{Behind, Group, Member, behind, column_of, formed, groups, in_column, in_order, lines_at, unless_deeper}
use Rattle.py_grammar.specs.Compounds.{Arms, Ending, Handlers, and_arms, and_handlers, arm, arms, block, clause_at, deeper_block, ending, finally, handled, handler, handlers, lacking, last_part, last_parts, statement, statements, stmt, suite, unless_continued}
use Rattle.py_grammar.specs.Forms.{form_of}
use Rattle.py_grammar.specs.Refusals.{first_word, is_clause}
use Rattle.py_grammar.specs.declared.form.Form.{Form}
use Rattle.py_grammar.specs.declared.form.Form.TheVariants.{Compound, Simple}
use Rattle.py_grammar.specs.declared.form.Header.{Header}
use Rattle.py_grammar.specs.declared.form.Header.TheVariants as h
use Rattle.py_grammar.specs.declared.place.Place.{Place}
use Rattle.py_grammar.specs.declared.place.Place.TheVariants as place_is
use Rattle.py_printing.specs.Expressions.{expr_tokens}
use Rattle.py_layout.specs.Rows.{Placed, Rows, arms_rows, block_rows, clause_rows, headed, indent, kind_rows, maybe_headed, placed, rows_of, rows_of_clause}
use Rattle.py_layout.proofs.Good.{Good}
use Rattle.py_layout.proofs.RowLevels.{parts_of_clause, parts_of_kind, by_clause, by_statement}
use Rattle.py_annotation_layout.specs.Annotations.{annotation_tokens}
use Rattle.printing_laws.proofs.Forms.{BlockGood, FormGood, StmtGood}
use Rattle.printing_laws.proofs.Groups.{GoodGroup, GoodLine, GoodLines, GoodMember, GoodMembers, groups_good}
use Rattle.printing_laws.proofs.HeaderRows.{HeaderGood}
use Rattle.printing_laws.proofs.Holds.{Holds, Maybe, given, holds_bind, holds_if, refusal}
use Rattle.printing_laws.proofs.SmallRows.{GoodRows, KindGood, kind_is, rows_append}

-- ---- rows of blocks

abbrev ours : Stmt → Placed
ours = rows_of annotation_tokens

pub stmt_rows_good : (x : Stmt) (column : ℕ) → StmtGood x → GoodRows (rows_of annotation_tokens x column)
stmt_rows_good x column k = subst GoodRows (sym (by_statement annotation_tokens x column)) (k column)

placed_good : (column : ℕ) (body : List Stmt) → BlockGood body → GoodRows (placed column (map ours body))
placed_good column [] k = tt
placed_good column (x ∷ xs) k = rows_append (rows_of annotation_tokens x column) (placed column (map ours xs)) (stmt_rows_good x column k.0) (placed_good column xs k.1)

pub block_rows_good : (column : ℕ) (body : List Stmt) → BlockGood body → GoodRows (block_rows annotation_tokens column body)
block_rows_good column [] k = tt
block_rows_good column (x ∷ xs) k = rows_append (rows_of annotation_tokens x column) (block_rows annotation_tokens column xs) (stmt_rows_good x column k.0) (block_rows_good column xs k.1)

headed_good : (column : ℕ) (header : Header) (body : List Stmt) → HeaderGood header → BlockGood body → GoodRows (headed annotation_tokens column header (map ours body))
headed_good column header body k l = (k, placed_good (column + indent) body l)

abbrev pub MaybeBlock : Option (List Stmt) → Type 0
MaybeBlock None = Unit {0}
MaybeBlock (Some body) = BlockGood body

maybe_headed_good : (column : ℕ) (header : Header) (body : Option (List Stmt)) → HeaderGood header → MaybeBlock body → GoodRows (maybe_headed annotation_tokens column header (option_map (map ours) body))
maybe_headed_good column header None k l = tt
maybe_headed_good column header (Some body) k l = headed_good column header body k l

-- ---- arms

abbrev TestGood : Expr → Type 0
TestGood test = Good (expr_tokens Conditional test)

abbrev ArmsGood : List (Expr × List Stmt) → Type 0
ArmsGood all = AllByRecursion (λ (one : Expr × List Stmt). HeaderGood (h.Elif one.0) × BlockGood one.1) all

abbrev placed_arms : List (Expr × List Stmt) → List (Expr × List Placed)
placed_arms all = map (λ (one : Expr × List Stmt). let q : Expr × List Placed = (one.0, map ours one.1) in q) all

others_good : (column : ℕ) (all : List (Expr × List Stmt)) → ArmsGood all → GoodRows (arms_rows annotation_tokens column h.Elif (placed_arms all))
others_good column [] k = tt
others_good column (one ∷ all) k =
    rows_append (headed annotation_tokens column (h.Elif one.0) (map ours one.1)) (arms_rows annotation_tokens column h.Elif (placed_arms all)) (headed_good column (h.Elif one.0) one.1 k.0.0 k.0.1) (others_good column all k.1)

if_good : (test : Expr) (body : List Stmt) (all : List (Expr × List Stmt)) (other : Option (List Stmt)) → HeaderGood (h.If test) → BlockGood body → ArmsGood all → MaybeBlock other → (column : ℕ)
    → GoodRows (kind_rows annotation_tokens (parts_of_kind annotation_tokens (StmtKind-F.If ((test, body) ∷ all) other)) column)
if_good test body all None t k l m column =
    rows_append (arms_rows annotation_tokens column h.If (placed_arms ((test, body) ∷ all))) [] (rows_append (headed annotation_tokens column (h.If test) (map ours body)) (arms_rows annotation_tokens column h.Elif (placed_arms all)) (headed_good column (h.If test) body t k) (others_good column all l)) tt
if_good test body all (Some other) t k l m column =
    rows_append (arms_rows annotation_tokens column h.If (placed_arms ((test, body) ∷ all))) (headed annotation_tokens column h.Else (map ours other))
    (rows_append (headed annotation_tokens column (h.If test) (map ours body)) (arms_rows annotation_tokens column h.Elif (placed_arms all)) (headed_good column (h.If test) body t k) (others_good column all l))
    (headed_good column h.Else other (refl, (refl, (refl, tt))) m)

-- ---- clauses

abbrev pub ClauseGood : Clause → Type 0
ClauseGood c = (column : ℕ) → GoodRows (rows_of_clause annotation_tokens c column)

clause_good : (l : Logical) (classes : Option (List (List ℕ))) (name : Option (List ℕ)) (body : List Stmt) → HeaderGood (h.Except classes name) → BlockGood body → ClauseGood (clause_at l classes name body)
clause_good l classes name body k b column =
    subst GoodRows (sym (by_clause annotation_tokens (clause_at l classes name body) column ∙ ap (λ f. clause_rows annotation_tokens (parts_of_clause annotation_tokens f) column) (out-roll-Clause _)))
    (headed_good column (h.Except classes name) body k b)

clauses_good : (column : ℕ) (all : List Clause) → AllByRecursion ClauseGood all → GoodRows (placed column (map (rows_of_clause annotation_tokens) all))
clauses_good column [] k = tt
clauses_good column (c ∷ all) k = rows_append (rows_of_clause annotation_tokens c column) (placed column (map (rows_of_clause annotation_tokens) all)) (k.0 column) (clauses_good column all k.1)

abbrev HandlersGood : Handlers → Type 0
HandlersGood found = AllByRecursion ClauseGood found.0 × (MaybeBlock found.1 × MaybeBlock found.2)

try_good : (body : List Stmt) (found : Handlers) → BlockGood body → HandlersGood found → (column : ℕ) → GoodRows (kind_rows annotation_tokens (parts_of_kind annotation_tokens (StmtKind-F.Try body found.0 found.1 found.2)) column)
try_good body (all, other, last) k l column = by other last l.1.0 l.1.1
  where
    ending_rows : (other last : Option (List Stmt)) → Rows
    ending_rows other last = maybe_headed annotation_tokens column h.Else (option_map (map ours) other) ++ maybe_headed annotation_tokens column h.Finally (option_map (map ours) last)

    whole : (other last : Option (List Stmt)) → MaybeBlock other → MaybeBlock last
        → GoodRows (headed annotation_tokens column h.Try (map ours body) ++ (placed column (map (rows_of_clause annotation_tokens) all) ++ ending_rows other last))
    whole other last m n =
        rows_append (headed annotation_tokens column h.Try (map ours body)) (placed column (map (rows_of_clause annotation_tokens) all) ++ ending_rows other last) (headed_good column h.Try body (refl, (refl, (refl, tt))) k)
        (rows_append (placed column (map (rows_of_clause annotation_tokens) all)) (ending_rows other last) (clauses_good column all l.0)
        (rows_append (maybe_headed annotation_tokens column h.Else (option_map (map ours) other)) (maybe_headed annotation_tokens column h.Finally (option_map (map ours) last))
        (maybe_headed_good column h.Else other (refl, (refl, (refl, tt))) m) (maybe_headed_good column h.Finally last (refl, (refl, (refl, tt))) n)))

    by : (other last : Option (List Stmt)) → MaybeBlock other → MaybeBlock last → GoodRows (kind_rows annotation_tokens (parts_of_kind annotation_tokens (StmtKind-F.Try body all other last)) column)
    by None None m n = whole None None m n
    by None (Some last) m n = whole None (Some last) m n
    by (Some other) None m n = whole (Some other) None m n
    by (Some other) (Some last) m n = whole (Some other) (Some last) m n

-- ---- reading

pub unless_holds : {A : Type 0} (P : A → Type 0) (ls : List Logical) (made : Result A Refusal) → Holds P made → Holds P (unless_deeper ls made)
unless_holds P [] made k = k
unless_holds P (l ∷ ls) made k = refusal

pub all_join : {A : Type 0} (P : A → Type 0) (xs ys : List A) → AllByRecursion P xs → AllByRecursion P ys → AllByRecursion P (xs ++ ys)
all_join P [] ys k l = l
all_join P (x ∷ xs) ys k l = (k.0, all_join P xs ys k.1 l)

-- the form of each line of the text is good
module _ (form_good : (l : Logical) → GoodLine l → Maybe FormGood (form_of l)) where
  module _ (place : Place) (room : ℕ) where
    pub continued_holds : {A : Type 0} (P : A → Type 0) (ms : List Member) (made : Result A Refusal) → Holds P made → Holds P (unless_continued place room ms made)
    continued_holds P [] made k = k
    continued_holds P (m ∷ ms) made k = refusal

    module _ {A : Type 0} (inner : Behind → List Logical → Result (List A) Refusal) (P : List A → Type 0) (inner_good : (end : Behind) (ls : List Logical) → GoodLines ls → Holds P (inner end ls)) where
      deeper_holds : (end : Behind) (l : Logical) (ls : List Logical) → GoodLines ls → Holds P (deeper_block place room inner end l ls)
      deeper_holds (Some fault) l [] k = refusal
      deeper_holds None l [] k = refusal
      deeper_holds end l (x ∷ xs) k = inner_good end (x ∷ xs) k

      pub block_holds : (end : Behind) (m : Member) (small : Option (List A)) → GoodLines m.1 → Maybe P small → Holds P (block place room inner end m small)
      block_holds end m None k l = deeper_holds end m.0 m.1 k
      block_holds end m (Some small) k l = holds_if (room == 0) _ _ refusal (unless_holds P m.1 (Ok small) (given l.at))

    -- a block's statements, by what each of them has
    module _ {A : Type 0} (read : Behind → Group → Form → Result (List A) Refusal) (P : A → Type 0) (each : (end : Behind) (w : Group) (form : Form) → GoodGroup w → FormGood form → Holds (AllByRecursion P) (read end w form)) where
      formed_good : (end : Behind) (w : Group) (form : Option Form) → GoodGroup w → Maybe FormGood form → Holds (AllByRecursion P) (formed place room read end w form)
      formed_good end w None k l = refusal
      formed_good end w (Some form) k l = each end w form k l.at

      column_good : (column : ℕ) (end : Behind) (w : Group) → GoodGroup w → Holds (AllByRecursion P) (in_column place room read column end w)
      column_good column end w k = holds_if (w.0.0.column == column) _ _ (formed_good end w (form_of w.0.0) k (form_good w.0.0 k.0.0)) refusal

      order_good : (column : ℕ) (end : Behind) (ws : List Group) → AllByRecursion GoodGroup ws → Holds (AllByRecursion P) (in_order place room read column end ws)
      order_good column end [] k = given tt
      order_good column end (w ∷ ws) k =
          holds_bind (AllByRecursion P) (in_column place room read column (behind ws end) w) _ (column_good column (behind ws end) w k.0)
          (λ first a. holds_bind (AllByRecursion P) (in_order place room read column end ws) _ (order_good column end ws k.1) (λ others b. given (all_join P first others a b)))

      pub lines_good : (column : ℕ) (end : Behind) (lines : List Logical) → GoodLines lines → Holds (AllByRecursion P) (lines_at place room read column end lines)
      lines_good column end lines k = order_good column end (groups column lines) (groups_good column lines k)

    -- ---- compound statements

    module _ (inner : Behind → List Logical → Result (List Stmt) Refusal) (inner_good : (end : Behind) (ls : List Logical) → GoodLines ls → Holds BlockGood (inner end ls)) where
      suite_good : (end : Behind) (m : Member) (small : Option (List Stmt)) → GoodMember m → Maybe BlockGood small → Holds BlockGood (suite place room inner end m small)
      suite_good end m small k l = block_holds inner BlockGood inner_good end m small k.1 l

      -- an arm with its test, or `else`
      abbrev ArmGood : Option Expr × List Stmt → Type 0
      ArmGood (None, body) = BlockGood body
      ArmGood (Some test, body) = HeaderGood (h.Elif test) × BlockGood body

      abbrev AllArms : Arms → Type 0
      AllArms found = ArmsGood found.0 × MaybeBlock found.1

      arm_good : (end : Behind) (m : Member) (ms : List Member) (form : Option Form) → GoodMember m → Maybe FormGood form → Holds ArmGood (arm place room inner end m ms form)
      arm_good end m ms (Some (Compound (h.Elif test) small)) k l = holds_bind BlockGood (suite place room inner end m small) _ (suite_good end m small k l.at.1) (λ body b. given {a = (Some test, body)} (l.at.0, b))
      arm_good end m ms (Some (Compound h.Else small)) k l =
          holds_bind BlockGood (suite place room inner end m small) _ (suite_good end m small k l.at.1) (λ body b. continued_holds ArmGood ms _ (given {a = (None, body)} b))
      arm_good end m ms _ k l = refusal

      and_arms_good : (more : Result Arms Refusal) (one : Option Expr × List Stmt) → ArmGood one → Holds AllArms more → Holds AllArms (and_arms place room inner more one)
      and_arms_good more (None, body) k l = given {a = ([], Some body)} (tt, k)
      and_arms_good more (Some test, body) k l = holds_bind AllArms more _ l (λ others o. given {a = ((test, body) ∷ others.0, others.1)} ((k, o.0), o.1))

      arms_good : (end : Behind) (ms : List Member) → GoodMembers ms → Holds AllArms (arms place room inner end ms)
      arms_good end [] k = given {a = ([], None)} (tt, tt)
      arms_good end (m ∷ ms) k =
          holds_bind ArmGood (arm place room inner (behind ms end) m ms (form_of m.0)) _ (arm_good (behind ms end) m ms (form_of m.0) k.0 (form_good m.0 k.0.0)) (λ one a. and_arms_good (arms place room inner end ms) one a (arms_good end ms k.1))

      finally_good : (end : Behind) (m : Member) (ms : List Member) (form : Option Form) → GoodMember m → Maybe FormGood form → Holds MaybeBlock (finally place room inner end m ms form)
      finally_good end m ms (Some (Compound h.Finally small)) k l =
          holds_bind BlockGood (suite place room inner end m small) _ (suite_good end m small k l.at.1) (λ body b. continued_holds MaybeBlock ms _ (given {a = Some body} b))
      finally_good end m ms _ k l = refusal

      last_good : (end : Behind) (ms : List Member) → GoodMembers ms → Holds MaybeBlock (last_part place room inner end ms)
      last_good end [] k = given {a = None} tt
      last_good end (m ∷ ms) k = finally_good (behind ms end) m ms (form_of m.0) k.0 (form_good m.0 k.0.0)

      abbrev EndingGood : Ending → Type 0
      EndingGood found = MaybeBlock found.0 × MaybeBlock found.1

      ending_good : (end last : Behind) (m : Member) (ms : List Member) (form : Option Form) → GoodMember m → GoodMembers ms → Maybe FormGood form → Holds EndingGood (ending place room inner end last m ms form)
      ending_good end last m ms (Some (Compound h.Else small)) k n l =
          holds_bind BlockGood (suite place room inner end m small) _ (suite_good end m small k l.at.1)
          (λ body b. holds_bind MaybeBlock (last_part place room inner last ms) _ (last_good last ms n) (λ others o. given {a = (Some body, others)} (b, o)))
      ending_good end last m ms form k n l = holds_bind MaybeBlock (finally place room inner end m ms form) _ (finally_good end m ms form k l) (λ body b. given {a = (None, body)} (tt, b))

      endings_good : (end : Behind) (ms : List Member) → GoodMembers ms → Holds EndingGood (last_parts place room inner end ms)
      endings_good end [] k = given {a = (None, None)} (tt, tt)
      endings_good end (m ∷ ms) k = ending_good (behind ms end) end m ms (form_of m.0) k.0 k.1 (form_good m.0 k.0.0)

      -- of a clause, if there is one, and the rest of the statement, or what is not read yet
      abbrev HandlerGood : Option Clause × Option Ending → Type 0
      HandlerGood (found, None) = AllByRecursion ClauseGood (option_to_list found)
      HandlerGood (found, Some rest) = AllByRecursion ClauseGood (option_to_list found) × EndingGood rest

      handler_good : (end last : Behind) (m : Member) (ms : List Member) (form : Option Form) → GoodMember m → GoodMembers ms → Maybe FormGood form → Holds HandlerGood (handler place room inner end last m ms form)
      handler_good end last m ms (Some (Compound (h.Except None name) small)) k n l =
          holds_bind BlockGood (suite place room inner end m small) _ (suite_good end m small k l.at.1)
          (λ body b. holds_bind EndingGood (last_parts place room inner last ms) _ (endings_good last ms n)
          (λ others o. given {a = (Some (clause_at m.0 None name body), Some others)} ((clause_good m.0 None name body l.at.0 b, tt), o)))
      handler_good end last m ms (Some (Compound (h.Except (Some classes) name) small)) k n l =
          holds_bind BlockGood (suite place room inner end m small) _ (suite_good end m small k l.at.1) (λ body b. given {a = (Some (clause_at m.0 (Some classes) name body), None)} (clause_good m.0 (Some classes) name body l.at.0 b, tt))
      handler_good end last m ms form k n l = holds_bind EndingGood (ending place room inner end last m ms form) _ (ending_good end last m ms form k n l) (λ others o. given {a = (None, Some others)} (tt, o))

      and_handlers_good : (more : Result Handlers Refusal) (found : Option Clause × Option Ending) → HandlerGood found → Holds HandlersGood more → Holds HandlersGood (and_handlers place room inner more found)
      and_handlers_good more (found, Some rest) k l = given {a = (option_to_list found, rest.0, rest.1)} (k.0, k.1)
      and_handlers_good more (found, None) k l =
          holds_bind HandlersGood more _ l (λ others o. given {a = (option_to_list found ++ others.0, others.1, others.2)} (all_join ClauseGood (option_to_list found) others.0 k o.0, o.1))

      handlers_good : (end : Behind) (ms : List Member) → GoodMembers ms → Holds HandlersGood (handlers place room inner end ms)
      handlers_good end [] k = given {a = ([], None, None)} (tt, (tt, tt))
      handlers_good end (m ∷ ms) k =
          holds_bind HandlerGood (handler place room inner (behind ms end) end m ms (form_of m.0)) _ (handler_good (behind ms end) end m ms (form_of m.0) k.0 k.1 (form_good m.0 k.0.0))
          (λ found a. and_handlers_good (handlers place room inner end ms) found a (handlers_good end ms k.1))

      lacking_holds : {A : Type 0} (P : A → Type 0) (end : Behind) (l : Logical) → Holds P (lacking place room end l)
      lacking_holds P (Some fault) l = refusal
      lacking_holds P None l = refusal

      handled_good : (end : Behind) (l : Logical) (ms : List Member) → GoodMembers ms → Holds HandlersGood (handled place room inner end l ms)
      handled_good end l [] k = lacking_holds HandlersGood end l
      handled_good end l (m ∷ ms) k = holds_if (is_clause (first_word m.0.tokens)) _ _ (handlers_good end (m ∷ ms) k) refusal

      one_good : (l : Logical) (kind : StmtKind) → KindGood kind → BlockGood (stmt l kind)
      one_good l kind k = (k, tt)

      pub statement_good : (end : Behind) (w : Group) (form : Form) → GoodGroup w → FormGood form → Holds BlockGood (statement place room inner end w form)
      unfolding statement
      statement_good end w (Simple small) k l = unless_holds BlockGood w.0.1 _ (continued_holds BlockGood w.1 _ (given l))
      statement_good end w (Compound (h.If test) small) k l =
          holds_bind BlockGood (suite place room inner (behind w.1 end) w.0 small) _ (suite_good (behind w.1 end) w.0 small k.0 l.1)
          (λ body b. holds_bind AllArms (arms place room inner end w.1) _ (arms_good end w.1 k.1)
          (λ others o. given (one_good w.0.0 _ (kind_is _ _ (outs-If _ _) (if_good test body others.0 others.1 l.0 b o.0 o.1)))))
      statement_good end w (Compound (h.While test) small) k l =
          holds_bind BlockGood (suite place room inner (behind w.1 end) w.0 small) _ (suite_good (behind w.1 end) w.0 small k.0 l.1)
          (λ body b. continued_holds BlockGood w.1 _ (given (one_good w.0.0 _ (kind_is _ _ (outs-While _ _) (λ column. headed_good column (h.While test) body l.0 b)))))
      statement_good end w (Compound (h.For names is_tuple walked) small) k l =
          holds_bind BlockGood (suite place room inner (behind w.1 end) w.0 small) _ (suite_good (behind w.1 end) w.0 small k.0 l.1)
          (λ body b. continued_holds BlockGood w.1 _ (given (one_good w.0.0 _ (kind_is _ _ (outs-For _ _ _ _) (λ column. headed_good column (h.For names is_tuple walked) body l.0 b)))))
      statement_good end w (Compound h.Try small) k l =
          holds_bind BlockGood (suite place room inner (behind w.1 end) w.0 small) _ (suite_good (behind w.1 end) w.0 small k.0 l.1)
          (λ body b. holds_bind HandlersGood (handled place room inner end w.0.0 w.1) _ (handled_good end w.0.0 w.1 k.1)
          (λ others o. given (one_good w.0.0 _ (kind_is _ _ (outs-Try _ _ _ _) (try_good body others b o)))))
      statement_good end w _ k l = refusal

  pub statements_good : (room : ℕ) (end : Behind) (lines : List Logical) → GoodLines lines → Holds BlockGood (statements room end lines)
  unfolding statements
  statements_good zero end [] k = given tt
  statements_good zero end (l ∷ lines) k = refusal
  statements_good (suc room) end lines k =
      lines_good place_is.Block room (statement place_is.Block room (statements room)) StmtGood (statement_good place_is.Block room (statements room) (statements_good room)) (column_of lines) end lines k
