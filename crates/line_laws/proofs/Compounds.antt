-- Compound statements as they are read: their blocks follow one another, each on its header's line or on the lines after it.
use Rattle.std.proofs.Common.{List, None, Option, Some, [], ap, arith, inl, inr, map, refl, subst, sym, ℕ, ◌++◌, ◌+◌, ◌<◌, ◌∙◌, ◌∷◌, ◌≡◌, ◌≤◌}
use Rattle.std.specs.Option.{option_to_list}
use Rattle.std.specs.Prelude.{Result}
use Rattle.py_language.specs.TokensLaws.{InOrder}
use Rattle.py_language.specs.declared.token.Logical.{Logical}
use Rattle.py_syntax.specs.declared.expr.Expr.{Expr}
use Rattle.py_syntax.specs.declared.refusal.Refusal.{Refusal}
use Rattle.py_syntax.specs.declared.stmt.Clause.{Clause, out-Clause, out-roll-Clause}
use Rattle.py_syntax.specs.declared.stmt.Stmt.{Stmt}
use Rattle.py_syntax.specs.declared.stmt.StmtKind.{StmtKind, StmtKind-F, out-StmtKind}
use Rattle.py_syntax.specs.declared.stmt.StmtKind.TheVariants.{outs-For, outs-If, outs-Try, outs-While}
use Rattle.py_grammar.specs.Blocks.{Behind, Group, Member, behind}
use Rattle.py_grammar.specs.Compounds.{Arms, Ending, Handlers, and_arms, and_handlers, arm, arms, clause_at, ending, finally, handled, handler, handlers, lacking, last_part, last_parts, statement, stmt, suite}
use Rattle.py_grammar.specs.Forms.{form_of}
use Rattle.py_grammar.specs.Refusals.{first_word, is_clause}
use Rattle.py_grammar.specs.declared.form.Form.{Form}
use Rattle.py_grammar.specs.declared.form.Form.TheVariants.{Compound, Simple}
use Rattle.py_grammar.specs.declared.form.Header.TheVariants as h
use Rattle.py_grammar.specs.declared.place.Place.{Place}
use Rattle.line_laws.proofs.Blocks.{block_holds, continued_holds, unless_holds}
use Rattle.line_laws.proofs.Cuts.{Split, group_lines, member_lines, order_rises, order_split}
use Rattle.line_laws.proofs.Forms.{FormFits, form_of_fits}
use Rattle.line_laws.proofs.Holds.{Holds, Maybe, given, holds_also, holds_bind, holds_if, no, refusal, yes}
use Rattle.line_laws.proofs.Lines.{block_wider}
use Rattle.line_laws.specs.Layout.{Block, Blocks, Next, OnLine, Rows, blocks_of}

module _ (place : Place) (room : ℕ) (Deeper : ℕ → ℕ → List Stmt → Type 0) (deeper_wider : (start end end' : ℕ) (body : List Stmt) → end ≤ end' → Deeper start end body → Deeper start end' body)
    (inner : Behind → List Logical → Result (List Stmt) Refusal) (inner_lies : (end : Behind) (lines : List Logical) (low high : ℕ) → InOrder low high lines → Holds (Deeper low high) (inner end lines)) where
  -- blocks on lines from one on and before another
  abbrev Following : ℕ → ℕ → List (List Stmt) → Type 0
  Following low high [] = low ≤ high
  Following low high (body ∷ more) = (header : ℕ) × (low ≤ header) × Blocks Deeper header high body more

  block_until : (header middle high : ℕ) (body : List Stmt) → middle ≤ high → Block Deeper header middle body → Block Deeper header high body
  block_until header middle high body le b = block_wider Deeper deeper_wider header middle high body le b

  blocks_join : (header middle high : ℕ) (body : List Stmt) (bs : List (List Stmt)) → Block Deeper header middle body → Following middle high bs → Blocks Deeper header high body bs
  blocks_join header middle high body [] b f = block_until header middle high body f b
  blocks_join header middle high body (next ∷ more) b f = (middle, f.0, b, f.1, f.2)

  -- the lines of a member, and of the members after it
  abbrev Parted : ℕ → ℕ → Member → List Member → Type 0
  Parted low high m ms = Split low high (m.0 ∷ m.1) (member_lines ms)

  parted : (low high : ℕ) (m : Member) (ms : List Member) → InOrder low high (member_lines (m ∷ ms)) → Parted low high m ms
  parted low high m ms o = order_split low high (m.0 ∷ m.1) (member_lines ms) o

  rises : (low high : ℕ) (m : Member) (ms : List Member) (p : Parted low high m ms) → p.middle ≤ high
  rises low high m ms p = order_rises p.middle high (member_lines ms) p.after

  pub suite_lies : (end : Behind) (m : Member) (small : Option (List Stmt)) (low high : ℕ) → InOrder low high (m.0 ∷ m.1) → Maybe (OnLine m.0.line) small → Holds (Block Deeper m.0.line high) (suite place room inner end m small)
  suite_lies end m small low high o f =
      let lt : m.0.line < high = let le = order_rises (m.0.line + 1) high m.1 o.1 in omega (arith, le) in
      block_holds place room inner (Block Deeper m.0.line high) end m small
      (holds_also (Deeper (m.0.line + 1) high) (Block Deeper m.0.line high) (inner end m.1) (λ body d. inr d) (inner_lies end m.1 (m.0.line + 1) high o.1))
      (maybe_on_line small f lt)
    where
      maybe_on_line : (small : Option (List Stmt)) → Maybe (OnLine m.0.line) small → m.0.line < high → Maybe (Block Deeper m.0.line high) small
      maybe_on_line None f lt = no
      maybe_on_line (Some body) f lt = yes (inl (lt, f.at))

  -- ---- `if`

  abbrev arm_bodies : Arms → List (List Stmt)
  arm_bodies found = map (λ arm. arm.1) found.0 ++ option_to_list found.1

  abbrev ArmsLie : ℕ → ℕ → Arms → Type 0
  ArmsLie low high found = Following low high (arm_bodies found)

  arm_lies : (end : Behind) (m : Member) (ms : List Member) (form : Option Form) (low high : ℕ) → InOrder low high (m.0 ∷ m.1) → Maybe (FormFits m.0.line) form
      → Holds (λ (a : Option Expr × List Stmt). Block Deeper m.0.line high a.1) (arm place room inner end m ms form)
  arm_lies end m ms (Some (Compound (h.Elif test) small)) low high o f =
      holds_bind (Block Deeper m.0.line high) (suite place room inner end m small) _ (suite_lies end m small low high o f.at) (λ body b. given b)
  arm_lies end m ms (Some (Compound h.Else small)) low high o f =
      holds_bind (Block Deeper m.0.line high) (suite place room inner end m small) _ (suite_lies end m small low high o f.at) (λ body b. continued_holds place room _ ms _ (given b))
  arm_lies end m ms _ low high o f = refusal

  and_arms_lie : (low header middle high : ℕ) (more : Result Arms Refusal) (a : Option Expr × List Stmt) → low ≤ header → middle ≤ high → Block Deeper header middle a.1 → Holds (ArmsLie middle high) more
      → Holds (ArmsLie low high) (and_arms place room inner more a)
  and_arms_lie low header middle high more (None, body) le le' b k = given (header, le, block_until header middle high body le' b)
  and_arms_lie low header middle high more (Some test, body) le le' b k =
      holds_bind (ArmsLie middle high) more _ k (λ others f. given (header, le, blocks_join header middle high body (arm_bodies others) b f))

  arms_lie : (end : Behind) (ms : List Member) (low high : ℕ) → InOrder low high (member_lines ms) → Holds (ArmsLie low high) (arms place room inner end ms)
  arms_lie end [] low high o = given o
  arms_lie end (m ∷ ms) low high o =
      let p = parted low high m ms o in
      holds_bind (λ (a : Option Expr × List Stmt). Block Deeper m.0.line p.middle a.1) (arm place room inner (behind ms end) m ms (form_of m.0)) _ (arm_lies (behind ms end) m ms (form_of m.0) low p.middle p.before (form_of_fits m.0))
      (λ a b. and_arms_lie low m.0.line p.middle high (arms place room inner end ms) a p.before.0 (rises low high m ms p) b (arms_lie end ms p.middle high p.after))

  -- ---- `try`

  abbrev LastLies : ℕ → ℕ → Option (List Stmt) → Type 0
  LastLies low high last = Following low high (option_to_list last)

  finally_lies : (end : Behind) (m : Member) (ms : List Member) (form : Option Form) (low high : ℕ) → Parted low high m ms → Maybe (FormFits m.0.line) form → Holds (LastLies low high) (finally place room inner end m ms form)
  finally_lies end m ms (Some (Compound h.Finally small)) low high p f =
      holds_bind (Block Deeper m.0.line p.middle) (suite place room inner end m small) _ (suite_lies end m small low p.middle p.before f.at)
      (λ body b. continued_holds place room _ ms _ (given (m.0.line, p.before.0, block_until m.0.line p.middle high body (rises low high m ms p) b)))
  finally_lies end m ms _ low high p f = refusal

  last_lies : (end : Behind) (ms : List Member) (low high : ℕ) → InOrder low high (member_lines ms) → Holds (LastLies low high) (last_part place room inner end ms)
  last_lies end [] low high o = given o
  last_lies end (m ∷ ms) low high o = finally_lies (behind ms end) m ms (form_of m.0) low high (parted low high m ms o) (form_of_fits m.0)

  abbrev EndingLies : ℕ → ℕ → Ending → Type 0
  EndingLies low high found = Following low high (option_to_list found.0 ++ option_to_list found.1)

  ending_lies : (end last : Behind) (m : Member) (ms : List Member) (form : Option Form) (low high : ℕ) → Parted low high m ms → Maybe (FormFits m.0.line) form → Holds (EndingLies low high) (ending place room inner end last m ms form)
  ending_lies end last m ms (Some (Compound h.Else small)) low high p f =
      holds_bind (Block Deeper m.0.line p.middle) (suite place room inner end m small) _ (suite_lies end m small low p.middle p.before f.at)
      (λ body b. holds_bind (LastLies p.middle high) (last_part place room inner last ms) _ (last_lies last ms p.middle high p.after)
      (λ others k. given (m.0.line, p.before.0, blocks_join m.0.line p.middle high body (option_to_list others) b k)))
  ending_lies end last m ms form low high p f =
      holds_bind (LastLies low high) (finally place room inner end m ms form) _ (finally_lies end m ms form low high p f) (λ body k. given {a = (None, body)} k)

  endings_lie : (end : Behind) (ms : List Member) (low high : ℕ) → InOrder low high (member_lines ms) → Holds (EndingLies low high) (last_parts place room inner end ms)
  endings_lie end [] low high o = given o
  endings_lie end (m ∷ ms) low high o = ending_lies (behind ms end) end m ms (form_of m.0) low high (parted low high m ms o) (form_of_fits m.0)

  abbrev clause_body : Clause → List Stmt
  clause_body c = (out-Clause c).body

  clause_body_at : (header : ℕ) (high : ℕ) (l : Logical) (classes : Option (List (List ℕ))) (name : Option (List ℕ)) (body : List Stmt) (bs : List (List Stmt))
      → Blocks Deeper header high body bs → Blocks Deeper header high (clause_body (clause_at l classes name body)) bs
  clause_body_at header high l classes name body bs b = subst (λ body. Blocks Deeper header high body bs) (sym (ap (λ c. c.body) (out-roll-Clause _))) b

  abbrev handler_bodies : Handlers → List (List Stmt)
  handler_bodies found = map clause_body found.0 ++ (option_to_list found.1 ++ option_to_list found.2)

  abbrev HandlersLie : ℕ → ℕ → Handlers → Type 0
  HandlersLie low high found = Following low high (handler_bodies found)

  -- of a clause, if there is one, before the rest of the statement, or before what is not read yet
  abbrev HandlerLies : ℕ → ℕ → ℕ → Option Clause × Option Ending → Type 0
  HandlerLies low middle high (found, Some rest) = HandlersLie low high (option_to_list found, rest.0, rest.1)
  HandlerLies low middle high (found, None) = (others : Handlers) → HandlersLie middle high others → HandlersLie low high (option_to_list found ++ others.0, others.1, others.2)

  handler_lies : (end last : Behind) (m : Member) (ms : List Member) (form : Option Form) (low high : ℕ) (p : Parted low high m ms) → Maybe (FormFits m.0.line) form
      → Holds (HandlerLies low p.middle high) (handler place room inner end last m ms form)
  handler_lies end last m ms (Some (Compound (h.Except None name) small)) low high p f =
      holds_bind (Block Deeper m.0.line p.middle) (suite place room inner end m small) _ (suite_lies end m small low p.middle p.before f.at)
      (λ body b. holds_bind (EndingLies p.middle high) (last_parts place room inner last ms) _ (endings_lie last ms p.middle high p.after)
      (λ others k. given (m.0.line, p.before.0, clause_body_at m.0.line high m.0 None name body _ (blocks_join m.0.line p.middle high body _ b k))))
  handler_lies end last m ms (Some (Compound (h.Except (Some classes) name) small)) low high p f =
      holds_bind (Block Deeper m.0.line p.middle) (suite place room inner end m small) _ (suite_lies end m small low p.middle p.before f.at)
      (λ body b. given (λ others k. (m.0.line, p.before.0, clause_body_at m.0.line high m.0 (Some classes) name body _ (blocks_join m.0.line p.middle high body (handler_bodies others) b k))))
  handler_lies end last m ms form low high p f =
      holds_bind (EndingLies low high) (ending place room inner end last m ms form) _ (ending_lies end last m ms form low high p f) (λ others k. given {a = (None, Some others)} k)

  and_handlers_lie : (low middle high : ℕ) (more : Result Handlers Refusal) (c : Option Clause × Option Ending) → HandlerLies low middle high c → Holds (HandlersLie middle high) more → Holds (HandlersLie low high) (and_handlers place room inner more c)
  and_handlers_lie low middle high more (found, Some rest) k next = given k
  and_handlers_lie low middle high more (found, None) k next = holds_bind (HandlersLie middle high) more _ next (λ others f. given (k others f))

  handlers_lie : (end : Behind) (ms : List Member) (low high : ℕ) → InOrder low high (member_lines ms) → Holds (HandlersLie low high) (handlers place room inner end ms)
  handlers_lie end [] low high o = given o
  handlers_lie end (m ∷ ms) low high o =
      let p = parted low high m ms o in
      holds_bind (HandlerLies low p.middle high) (handler place room inner (behind ms end) end m ms (form_of m.0)) _ (handler_lies (behind ms end) end m ms (form_of m.0) low high p (form_of_fits m.0))
      (λ c k. and_handlers_lie low p.middle high (handlers place room inner end ms) c k (handlers_lie end ms p.middle high p.after))

  lacking_holds : {A : Type 0} (P : A → Type 0) (end : Behind) (l : Logical) → Holds P (lacking place room end l)
  lacking_holds P (Some fault) l = refusal
  lacking_holds P None l = refusal

  handled_lies : (end : Behind) (l : Logical) (ms : List Member) (low high : ℕ) → InOrder low high (member_lines ms) → Holds (HandlersLie low high) (handled place room inner end l ms)
  handled_lies end l [] low high o = lacking_holds (HandlersLie low high) end l
  handled_lies end l (m ∷ ms) low high o = holds_if (is_clause (first_word m.0.tokens)) _ _ (handlers_lie end (m ∷ ms) low high o) refusal

  -- ---- statements

  -- what a statement is, before those on the lines after it
  abbrev pub Leads : ℕ → ℕ → List Stmt → Type 0
  Leads low high body = (top : ℕ) (others : List Stmt) → high ≤ top → Rows Deeper high top others → Rows Deeper low top (body ++ others)

  rows_earlier : (low high top : ℕ) (body : List Stmt) → low ≤ high → Rows Deeper high top body → Rows Deeper low top body
  rows_earlier low high top [] le r = omega (arith, le, r)
  rows_earlier low high top (s ∷ more) le r = (let at = r.0 in omega (arith, le, at), r.1)

  simple_leads : (line low high : ℕ) (body : List Stmt) → low ≤ line → line < high → OnLine line body → Leads low high body
  simple_leads line low high [] le lt h top others le' rest = rows_earlier low high top others (omega (arith, le, lt)) rest
  simple_leads line low high (s ∷ more) le lt h top others le' rest =
      let same = h.0.0 in
      let later = simple_leads line s.line high more (omega (arith, same)) lt h.1 top others le' rest in
      (omega (arith, same, le), subst (Next Deeper (λ from. Rows Deeper from top (more ++ others)) s.line top) (sym h.0.1) (omega (arith, same, lt, le'), later))

  compound_leads : (l : Logical) (low high : ℕ) (kind : StmtKind) (f : StmtKind-F StmtKind Clause Stmt) (body : List Stmt) (more : List (List Stmt)) → low ≤ l.line → out-StmtKind kind ≡ f → blocks_of f ≡ body ∷ more
      → Blocks Deeper l.line high body more → Leads low high (stmt l kind)
  compound_leads l low high kind f body more le e e' b top others le' rest =
      (le, subst (Next Deeper (λ from. Rows Deeper from top others) l.line top) (sym (ap blocks_of e ∙ e')) (high, b, rest))

  pub statement_leads : (end : Behind) (g : Group) (form : Form) (low high : ℕ) → InOrder low high (group_lines g) → FormFits g.0.0.line form → Holds (Leads low high) (statement place room inner end g form)
  unfolding statement
  statement_leads end g (Simple small) low high o f =
      let p = parted low high g.0 g.1 o in
      let le = order_rises (g.0.0.line + 1) p.middle g.0.1 p.before.1 in
      let le' = rises low high g.0 g.1 p in
      unless_holds _ g.0.1 _ (continued_holds place room _ g.1 _ (given (simple_leads g.0.0.line low high small p.before.0 (omega (arith, le, le')) f)))
  statement_leads end g (Compound (h.If test) small) low high o f =
      let p = parted low high g.0 g.1 o in
      holds_bind (Block Deeper g.0.0.line p.middle) (suite place room inner (behind g.1 end) g.0 small) _ (suite_lies (behind g.1 end) g.0 small low p.middle p.before f)
      (λ body b. holds_bind (ArmsLie p.middle high) (arms place room inner end g.1) _ (arms_lie end g.1 p.middle high p.after)
      (λ others k. given (compound_leads g.0.0 low high _ _ body (arm_bodies others) p.before.0 (outs-If _ _) refl (blocks_join g.0.0.line p.middle high body (arm_bodies others) b k))))
  statement_leads end g (Compound (h.While test) small) low high o f =
      let p = parted low high g.0 g.1 o in
      holds_bind (Block Deeper g.0.0.line p.middle) (suite place room inner (behind g.1 end) g.0 small) _ (suite_lies (behind g.1 end) g.0 small low p.middle p.before f)
      (λ body b. continued_holds place room _ g.1 _ (given (compound_leads g.0.0 low high _ _ body [] p.before.0 (outs-While _ _) refl (block_until g.0.0.line p.middle high body (rises low high g.0 g.1 p) b))))
  statement_leads end g (Compound (h.For names is_tuple walked) small) low high o f =
      let p = parted low high g.0 g.1 o in
      holds_bind (Block Deeper g.0.0.line p.middle) (suite place room inner (behind g.1 end) g.0 small) _ (suite_lies (behind g.1 end) g.0 small low p.middle p.before f)
      (λ body b. continued_holds place room _ g.1 _ (given (compound_leads g.0.0 low high _ _ body [] p.before.0 (outs-For _ _ _ _) refl (block_until g.0.0.line p.middle high body (rises low high g.0 g.1 p) b))))
  statement_leads end g (Compound h.Try small) low high o f =
      let p = parted low high g.0 g.1 o in
      holds_bind (Block Deeper g.0.0.line p.middle) (suite place room inner (behind g.1 end) g.0 small) _ (suite_lies (behind g.1 end) g.0 small low p.middle p.before f)
      (λ body b. holds_bind (HandlersLie p.middle high) (handled place room inner end g.0.0 g.1) _ (handled_lies end g.0.0 g.1 p.middle high p.after)
      (λ others k. given (compound_leads g.0.0 low high _ _ body (handler_bodies others) p.before.0 (outs-Try _ _ _ _) refl (blocks_join g.0.0.line p.middle high body (handler_bodies others) b k))))
  statement_leads end g _ low high o f = refusal
