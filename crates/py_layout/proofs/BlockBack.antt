-- A block that was read is read back from its own lines.
use Rattle.std.proofs.Common.{◌≡◌, ◌∙◌, sym, ap, refl, subst, ℕ, zero, suc, Bool, true, false, List, [], ◌∷◌, ◌++◌, append-nil, append_assoc, Option, Some, None, arith}
use Rattle.std.specs.Prelude.{if◌then◌else◌, map, option_map}
use Rattle.py_language.specs.declared.token.Token.{Token}
use Rattle.py_language.specs.TreesPlaces.{Listed, Conditional}
use Rattle.py_syntax.specs.declared.expr.Expr.{Expr}
use Rattle.py_syntax.specs.declared.stmt.Annotation.{Annotation}
use Rattle.py_syntax.specs.declared.stmt.StmtKind.{StmtKind, out-StmtKind}
use Rattle.py_syntax.specs.declared.stmt.StmtKind.TheVariants as s
use Rattle.py_syntax.specs.declared.stmt.StmtKind.TheVariants.{outs-Pass, outs-Break, outs-Continue, outs-Return, outs-Raise, outs-Assert, outs-Del, outs-Assign, outs-Augment, outs-Bare}
use Rattle.py_grammar.specs.Separators.{parts}
use Rattle.py_grammar.specs.Statements as g
use Rattle.py_printing.specs.Expressions.{ShapesReadBack}
use Rattle.py_layout.specs.Quiet.{ExpressionsAreQuiet}
use Rattle.py_layout.specs.Starts.{ExpressionsBegin}
use Rattle.py_layout.specs.Small.{small_by, small_tokens, fresh, fresh_small, ReadsBack}
use Rattle.py_syntax.specs.declared.stmt.Stmt.{Stmt}
use Rattle.py_grammar.specs.declared.form.Form.{Form}
use Rattle.py_grammar.specs.declared.form.Form.TheVariants.{Simple, Compound}
use Rattle.py_grammar.specs.declared.form.Header.{Header}
use Rattle.py_grammar.specs.declared.form.Header.TheVariants as h
use Rattle.py_grammar.specs.Forms as f
use Rattle.py_layout.specs.Headers.{header_tokens, fresh_header}
use Rattle.py_layout.proofs.Small.{ReadAt}
use Rattle.py_language.specs.declared.token.Logical.{Logical}
use Rattle.py_syntax.specs.declared.stmt.Clause.{Clause}
use Rattle.py_syntax.specs.declared.stmt.Clause as clause
use Rattle.py_syntax.specs.declared.stmt.StmtKind.{StmtKind-F}
use Rattle.py_grammar.specs.Refusals.{first_word, is_continuing}
use Rattle.py_printing.specs.Expressions.{TreesReadBack}
use Rattle.py_layout.specs.Erased.{erased_clause_by, erased, erased_clause, erased_kind}
use Rattle.py_layout.proofs.SmallForms.{SmallForm, of_pass, of_break, of_continue, of_return, of_raise, of_assert, of_del, of_assign, of_typed, of_augment, of_bare}
use Rattle.std.specs.Prelude.{Result, Ok}
use Rattle.py_syntax.specs.declared.refusal.Refusal.{Refusal}
use Rattle.py_grammar.specs.declared.place.Place.{Place}
use Rattle.py_grammar.specs.declared.place.Place.TheVariants.{Block}
use Rattle.py_grammar.specs.Blocks as blocks
use Rattle.py_grammar.specs.Blocks.{Member, Group, Behind, behind, unless_deeper}
use Rattle.py_grammar.specs.Compounds as compounds
use Rattle.py_layout.proofs.Headers.{HeaderForm, of_if, of_elif, of_else, of_while, of_for, of_try, of_any, of_except, of_finally}
use Rattle.std.specs.Prelude.{◌==◌}
use Rattle.py_grammar.specs.Refusals.{is_clause}
use Rattle.py_layout.proofs.BlockForms.{Every, HasOne, ArmsRead, MaybeBlock, ClassesRead, ClausesRead, Complete, KindRead, is_small, is_if, is_while, is_for, is_try, StmtsRead, BlockRead}
use Rattle.std.proofs.Common.{◌≤◌, ◌+◌}
use Rattle.py_syntax.specs.declared.stmt.StmtKind.TheVariants.{outs-If, outs-While, outs-For, outs-Try}
use Rattle.py_layout.specs.Blocks.{shown, BlocksReadBack}
use Rattle.py_layout.specs.Rows.{Row, Rows, Placed, row, indent, placed, headed, arms_rows, kind_rows, rows_of, rows_of_clause, rows_of_kind, block_rows}
use Rattle.py_layout.proofs.BlockReading.{statements_read}
use Rattle.py_layout.proofs.Erasing.{erased-stmt, erased-clause, erased_as, fresh_again, small_again}
use Rattle.py_layout.proofs.Headers.{header_back}
use Rattle.py_layout.proofs.Members.{lines_of, MemberAt, MembersAt, members_of, Continuing, GroupAt, GroupsAt, groups_back}
use Rattle.py_layout.proofs.RowLevels.{parts_of_kind, by_statement, by_kind, by_clause}
use Rattle.py_layout.proofs.SmallForms.{form_back}
use Rattle.py_layout.proofs.SmallLines.{SmallLine, no_continuing, line_form, small_line}
use Rattle.py_layout.proofs.OwnLines.{cons_is, is_plain_form, Split, split_rows, FromOn, from_append, from_less, deeper, lines_append, behind_none, same_number, form_as}

module _ (quiet : ExpressionsAreQuiet) (begins : ExpressionsBegin) (own : ShapesReadBack) (trees : TreesReadBack) (annotated : Annotation → List Token) (reads : ReadsBack annotated) where
  abbrev rows : Stmt → Placed
  rows = rows_of annotated

  pub placed_is : (column : ℕ) (body : List Stmt) → placed column (map rows body) ≡ block_rows annotated column body
  placed_is column [] = refl
  placed_is column (x ∷ xs) = ap (λ z. rows x column ++ z) (placed_is column xs)

  -- what is read back of the lines of a block
  pub record InnerBack (inner : Behind → List Logical → Result (List Stmt) Refusal) (column : ℕ) (ls : List Logical) (body : List Stmt) : Type 0 where
    pub made : List Stmt
    pub read : inner None ls ≡ Ok made
    pub same : map erased made ≡ map erased body
    pub one : HasOne ls
    pub from_on : FromOn column ls

  module _ (place : Place) (room : ℕ) (inner : Behind → List Logical → Result (List Stmt) Refusal) (P : List Stmt → Type 0) where
    module _ (inner_back : (body : List Stmt) → P body → (column : ℕ) (ls : List Logical) → map shown ls ≡ block_rows annotated column body → InnerBack inner column ls body) where
      -- ---- a header with its block

      pub record HeadedBack (column : ℕ) (header : Header) (ls : List Logical) (body : List Stmt) : Type 0 where
        pub member : Member
        pub lines : ls ≡ lines_of (member ∷ [])
        pub at : MemberAt column member
        pub tokens : member.0.tokens ≡ header_tokens annotated header
        pub made : List Stmt
        pub read : compounds.suite place room inner None member None ≡ Ok made
        pub same : map erased made ≡ map erased body
        pub from_on : FromOn column ls

      deeper_is : (l : Logical) (ds : List Logical) → HasOne ds → compounds.deeper_block place room inner None l ds ≡ inner None ds
      deeper_is l ds one = subst (λ z. compounds.deeper_block place room inner None l z ≡ inner None z) (sym one.1.1) refl

      pub headed_back : (column : ℕ) (header : Header) (body : List Stmt) (ls : List Logical) → P body → map shown ls ≡ headed annotated column header (map rows body) → HeadedBack column header ls body
      headed_back column header body [] p e = absurd (cc)
      headed_back column header body (l ∷ ds) p e =
          let c = cons_is (shown l) (row column (header_tokens annotated header)) (map shown ds) (placed (column + indent) (map rows body)) e in
          let b = inner_back body p (column + indent) ds (c.1 ∙ placed_is (column + indent) body) in
          let at : l.column ≡ column = ap (λ (r : Row). r.column) c.0 in
          record {
            member = (l, ds);
            lines = ap (λ z. l ∷ z) (sym (append-nil ds));
            at = (at, deeper column ds b.from_on);
            tokens = ap (λ (r : Row). r.tokens) c.0;
            made = b.made;
            read = deeper_is l ds b.one ∙ b.read;
            same = b.same;
            from_on = (from_here column l.column at, from_less column ds b.from_on);
          }
        where
          from_here : (a b : ℕ) → b ≡ a → a ≤ b
          from_here a b h = omega arith

      pub header_form_of : (column : ℕ) (header : Header) (ls : List Logical) (body : List Stmt) (before : ℕ) (b : HeadedBack column header ls body) → HeaderForm before header
          → f.form_of b.member.0 ≡ Some (Compound (fresh_header b.member.0.line header) None)
      header_form_of column header ls body before b r = form_as b.member.0 (header_tokens annotated header) (Some (Compound (fresh_header b.member.0.line header) None)) b.tokens (header_back quiet begins own annotated reads before b.member.0.line header r)

      -- ---- the arms of an `if`, after the first

      abbrev arm_rows : Expr × List Stmt → Expr × List Placed
      arm_rows arm = (arm.0, map rows arm.1)

      abbrev other_rows : ℕ → Header → Option (List Stmt) → Rows
      other_rows column header None = []
      other_rows column header (Some body) = headed annotated column header (map rows body)

      abbrev erased_arm : Expr × List Stmt → Expr × List Stmt
      erased_arm arm = (fresh 0 arm.0, map erased arm.1)

      pub record ArmsBack (column : ℕ) (ls : List Logical) (arms : List (Expr × List Stmt)) (other : Option (List Stmt)) : Type 0 where
        pub members : List Member
        pub lines : ls ≡ lines_of members
        pub at : MembersAt column members
        pub continue : Continuing members
        pub made : compounds.Arms
        pub read : compounds.arms place room inner None members ≡ Ok made
        pub same : map erased_arm made.0 ≡ map erased_arm arms
        pub same_other : option_map (map erased) made.1 ≡ option_map (map erased) other
        pub from_on : FromOn column ls

      starts_else : (m : Member) → m.0.tokens ≡ header_tokens annotated h.Else → is_continuing (first_word m.0.tokens) ≡ true
      starts_else m e = ap (λ z. is_continuing (first_word z)) e

      starts_elif : (m : Member) (test : Expr) → m.0.tokens ≡ header_tokens annotated (h.Elif test) → is_continuing (first_word m.0.tokens) ≡ true
      starts_elif m test e = ap (λ z. is_continuing (first_word z)) e

      arms_back : (column : ℕ) (arms : List (Expr × List Stmt)) (other : Option (List Stmt)) (ls : List Logical) → ArmsRead P arms → MaybeBlock P other
          → map shown ls ≡ arms_rows annotated column h.Elif (map arm_rows arms) ++ other_rows column h.Else other → ArmsBack column ls arms other
      arms_back column [] None [] r q e = record { members = []; lines = refl; at = tt; continue = tt; made = ([], None); read = refl; same = refl; same_other = refl; from_on = tt }
      arms_back column [] None (l ∷ ls) r q e = absurd (cc)
      arms_back column [] (Some body) ls r q e =
          let b = headed_back column h.Else body ls q e in
          let form = header_form_of column h.Else ls body 0 b (of_else refl) in
          record {
            members = b.member ∷ [];
            lines = b.lines;
            at = (b.at, tt);
            continue = (starts_else b.member b.tokens, tt);
            made = ([], Some b.made);
            read =
                ap (λ o. blocks.◌>>=◌ (compounds.arm place room inner None b.member [] o) (compounds.and_arms place room inner (Ok ([], None)))) form
                ∙ ap (λ r. blocks.◌>>=◌ (blocks.◌>>=◌ r (λ body. Ok (None, body))) (compounds.and_arms place room inner (Ok ([], None)))) b.read;
            same = refl;
            same_other = ap Some b.same;
            from_on = b.from_on;
          }
      arms_back column (arm ∷ arms) other ls r q e =
          let rest = arms_rows annotated column h.Elif (map arm_rows arms) ++ other_rows column h.Else other in
          let cut = split_rows ls (headed annotated column (h.Elif arm.0) (map rows arm.1)) rest (e ∙ append_assoc (headed annotated column (h.Elif arm.0) (map rows arm.1)) (arms_rows annotated column h.Elif (map arm_rows arms)) (other_rows column h.Else other)) in
          let b = headed_back column (h.Elif arm.0) arm.1 cut.first r.0.1 cut.shows in
          let more = arms_back column arms other cut.rest r.1 q cut.shows_rest in
          let form = header_form_of column (h.Elif arm.0) cut.first arm.1 r.0.0.0 b (of_elif arm.0 refl r.0.0.1) in
          let test = fresh b.member.0.line arm.0 in
          record {
            members = b.member ∷ more.members;
            lines = cut.whole ∙ ap (λ z. z ++ cut.rest) b.lines ∙ ap (λ z. (b.member.0 ∷ (b.member.1 ++ [])) ++ z) more.lines ∙ ap (λ z. b.member.0 ∷ (z ++ lines_of more.members)) (append-nil b.member.1);
            at = (b.at, more.at);
            continue = (starts_elif b.member arm.0 b.tokens, more.continue);
            made = ((test, b.made) ∷ more.made.0, more.made.1);
            read =
                ap (λ n. blocks.◌>>=◌ (compounds.arm place room inner n b.member more.members (f.form_of b.member.0)) (compounds.and_arms place room inner (compounds.arms place room inner None more.members))) (behind_none more.members)
                ∙ ap (λ o. blocks.◌>>=◌ (compounds.arm place room inner None b.member more.members o) (compounds.and_arms place room inner (compounds.arms place room inner None more.members))) form
                ∙ ap (λ r. blocks.◌>>=◌ (blocks.◌>>=◌ r (λ body. Ok (Some test, body))) (compounds.and_arms place room inner (compounds.arms place room inner None more.members))) b.read
                ∙ ap (λ r. blocks.◌>>=◌ r (λ others. Ok ((test, b.made) ∷ others.0, others.1))) more.read;
            same =
                ap (λ z. (z, map erased b.made) ∷ map erased_arm more.made.0) (fresh_again trees own r.0.0.0 b.member.0.line Conditional arm.0 r.0.0.1)
                ∙ ap (λ z. (fresh 0 arm.0, z) ∷ map erased_arm more.made.0) b.same
                ∙ ap (λ z. erased_arm arm ∷ z) more.same;
            same_other = more.same_other;
            from_on = subst (FromOn column) (sym cut.whole) (from_append column cut.first cut.rest b.from_on more.from_on);
          }

      -- ---- `else` and `finally` of a `try`

      abbrev IsOne : Option (List Stmt) → Type 0
      IsOne None = ⊥
      IsOne (Some body) = Unit {0}

      pub record LastBack (column : ℕ) (ls : List Logical) (last : Option (List Stmt)) : Type 0 where
        pub members : List Member
        pub lines : ls ≡ lines_of members
        pub at : MembersAt column members
        pub continue : Continuing members
        pub made : Option (List Stmt)
        pub read : compounds.last_part place room inner None members ≡ Ok made
        pub as_parts : compounds.last_parts place room inner None members ≡ Ok (None, made)
        pub as_handlers : compounds.handlers place room inner None members ≡ Ok ([], None, made)
        pub same : option_map (map erased) made ≡ option_map (map erased) last
        pub from_on : FromOn column ls
        pub begins_clause : IsOne last → (m : Member) × ((ms : List Member) × ((members ≡ m ∷ ms) × (is_clause (first_word m.0.tokens) ≡ true)))

      starts_finally : (m : Member) → m.0.tokens ≡ header_tokens annotated h.Finally → (is_continuing (first_word m.0.tokens) ≡ true) × (is_clause (first_word m.0.tokens) ≡ true)
      starts_finally m e = (ap (λ z. is_continuing (first_word z)) e, ap (λ z. is_clause (first_word z)) e)

      last_back : (column : ℕ) (last : Option (List Stmt)) (ls : List Logical) → MaybeBlock P last → map shown ls ≡ other_rows column h.Finally last → LastBack column ls last
      last_back column None [] q e =
          record { members = []; lines = refl; at = tt; continue = tt; made = None; read = refl; as_parts = refl; as_handlers = refl; same = refl; from_on = tt; begins_clause = λ one. absurd one }
      last_back column None (l ∷ ls) q e = absurd (cc)
      last_back column (Some body) ls q e =
          let b = headed_back column h.Finally body ls q e in
          let form = header_form_of column h.Finally ls body 0 b (of_finally refl) in
          let starts = starts_finally b.member b.tokens in
          let finally : compounds.finally place room inner None b.member [] (Some (Compound h.Finally None)) ≡ Ok (Some b.made) = ap (λ r. blocks.◌>>=◌ r (λ body. Ok (Some body))) b.read in
          record {
            members = b.member ∷ [];
            lines = b.lines;
            at = (b.at, tt);
            continue = (starts.0, tt);
            made = Some b.made;
            read = ap (λ o. compounds.finally place room inner None b.member [] o) form ∙ finally;
            as_parts = ap (λ o. compounds.ending place room inner None None b.member [] o) form ∙ ap (λ r. blocks.◌>>=◌ r (λ body. Ok (None, body))) finally;
            as_handlers =
                ap (λ o. blocks.◌>>=◌ (compounds.handler place room inner None None b.member [] o) (compounds.and_handlers place room inner (Ok ([], None, None)))) form
                ∙ ap (λ r. blocks.◌>>=◌ (blocks.◌>>=◌ (blocks.◌>>=◌ r (λ body. Ok (None, body))) (λ others. Ok (None, Some others))) (compounds.and_handlers place room inner (Ok ([], None, None)))) finally;
            same = ap Some b.same;
            from_on = b.from_on;
            begins_clause = λ one. (b.member, ([], (refl, starts.1)));
          }

      pub record EndingBack (column : ℕ) (ls : List Logical) (other last : Option (List Stmt)) : Type 0 where
        pub members : List Member
        pub lines : ls ≡ lines_of members
        pub at : MembersAt column members
        pub continue : Continuing members
        pub made : compounds.Ending
        pub as_parts : compounds.last_parts place room inner None members ≡ Ok made
        pub as_handlers : compounds.handlers place room inner None members ≡ Ok ([], made.0, made.1)
        pub same : option_map (map erased) made.0 ≡ option_map (map erased) other
        pub same_last : option_map (map erased) made.1 ≡ option_map (map erased) last
        pub from_on : FromOn column ls
        pub begins_clause : other ≡ None → IsOne last → (m : Member) × ((ms : List Member) × ((members ≡ m ∷ ms) × (is_clause (first_word m.0.tokens) ≡ true)))

      ending_back : (column : ℕ) (other last : Option (List Stmt)) (ls : List Logical) → MaybeBlock P other → MaybeBlock P last → map shown ls ≡ other_rows column h.Else other ++ other_rows column h.Finally last → EndingBack column ls other last
      ending_back column None last ls r q e =
          let b = last_back column last ls q e in
          record { members = b.members; lines = b.lines; at = b.at; continue = b.continue; made = (None, b.made); as_parts = b.as_parts; as_handlers = b.as_handlers; same = refl; same_last = b.same; from_on = b.from_on; begins_clause = λ none one. b.begins_clause one }
      ending_back column (Some body) last ls r q e =
          let cut = split_rows ls (headed annotated column h.Else (map rows body)) (other_rows column h.Finally last) e in
          let b = headed_back column h.Else body cut.first r cut.shows in
          let more = last_back column last cut.rest q cut.shows_rest in
          let form = header_form_of column h.Else cut.first body 0 b (of_else refl) in
          let ending : compounds.ending place room inner None None b.member more.members (Some (Compound h.Else None)) ≡ Ok (Some b.made, more.made) =
          ap (λ r. blocks.◌>>=◌ r (λ body. blocks.◌>>=◌ (compounds.last_part place room inner None more.members) (λ others. Ok (Some body, others)))) b.read
          ∙ ap (λ r. blocks.◌>>=◌ r (λ others. Ok (Some b.made, others))) more.read
          in
          record {
            members = b.member ∷ more.members;
            lines = cut.whole ∙ ap (λ z. z ++ cut.rest) b.lines ∙ ap (λ z. (b.member.0 ∷ (b.member.1 ++ [])) ++ z) more.lines ∙ ap (λ z. b.member.0 ∷ (z ++ lines_of more.members)) (append-nil b.member.1);
            at = (b.at, more.at);
            continue = (starts_else b.member b.tokens, more.continue);
            made = (Some b.made, more.made);
            as_parts =
                ap (λ n. compounds.ending place room inner n None b.member more.members (f.form_of b.member.0)) (behind_none more.members)
                ∙ ap (λ o. compounds.ending place room inner None None b.member more.members o) form ∙ ending;
            as_handlers =
                ap (λ n. blocks.◌>>=◌ (compounds.handler place room inner n None b.member more.members (f.form_of b.member.0)) (compounds.and_handlers place room inner (compounds.handlers place room inner None more.members))) (behind_none more.members)
                ∙ ap (λ o. blocks.◌>>=◌ (compounds.handler place room inner None None b.member more.members o) (compounds.and_handlers place room inner (compounds.handlers place room inner None more.members))) form
                ∙ ap (λ r. blocks.◌>>=◌ (blocks.◌>>=◌ r (λ others. Ok (None, Some others))) (compounds.and_handlers place room inner (compounds.handlers place room inner None more.members))) ending;
            same = ap Some b.same;
            same_last = more.same;
            from_on = subst (FromOn column) (sym cut.whole) (from_append column cut.first cut.rest b.from_on more.from_on);
            begins_clause = λ none one. absurd (cc);
          }

      -- ---- clauses

      pub record HandlersBack (column : ℕ) (ls : List Logical) (clauses : List Clause) (other last : Option (List Stmt)) : Type 0 where
        pub members : List Member
        pub lines : ls ≡ lines_of members
        pub at : MembersAt column members
        pub continue : Continuing members
        pub made : compounds.Handlers
        pub read : compounds.handlers place room inner None members ≡ Ok made
        pub same : map erased_clause made.0 ≡ map erased_clause clauses
        pub same_other : option_map (map erased) made.1 ≡ option_map (map erased) other
        pub same_last : option_map (map erased) made.2 ≡ option_map (map erased) last
        pub from_on : FromOn column ls
        pub begins_clause : Complete clauses other last → (m : Member) × ((ms : List Member) × ((members ≡ m ∷ ms) × (is_clause (first_word m.0.tokens) ≡ true)))

      abbrev clauses_rows : ℕ → List Clause → Rows
      clauses_rows column clauses = placed column (map (rows_of_clause annotated) clauses)

      clause_is : (column : ℕ) (c : Clause) → rows_of_clause annotated c column ≡ headed annotated column (h.Except (clause.out-Clause c).classes (clause.out-Clause c).name) (map rows (clause.out-Clause c).body)
      clause_is column c = by_clause annotated c column

      -- what a clause is up to lines and numbers
      erased_made : (l : Logical) (classes : Option (List (List ℕ))) (name : Option (List ℕ)) (body : List Stmt) → erased_clause (compounds.clause_at l classes name body)
          ≡ clause.roll-Clause (record { node = record { 0 = 0 }; line = 0; classes = classes; name = name; body = map erased body })
      erased_made l classes name body =
          erased-clause (compounds.clause_at l classes name body)
          ∙ ap (λ z. erased_clause_by (clause.map-Clause StmtKind Clause Stmt StmtKind Clause Stmt erased_kind erased_clause erased z)) (clause.out-roll-Clause (record { node = record { 0 = 0 }; line = l.line; classes = classes; name = name; body = body }))

      erased_same : (l : Logical) (c : Clause) (classes : Option (List (List ℕ))) (name : Option (List ℕ)) (body : List Stmt) → (clause.out-Clause c).classes ≡ classes → (clause.out-Clause c).name ≡ name → map erased body ≡ map erased (clause.out-Clause c).body
          → erased_clause (compounds.clause_at l classes name body) ≡ erased_clause c
      erased_same l c classes name body is named same =
          let K = clause.out-Clause c in
          erased_made l classes name body
          ∙ ap (λ z. clause.roll-Clause (record { node = record { 0 = 0 }; line = 0; classes = classes; name = name; body = z })) same
          ∙ ap (λ z. clause.roll-Clause (record { node = record { 0 = 0 }; line = 0; classes = z; name = name; body = map erased K.body })) (sym is)
          ∙ ap (λ z. clause.roll-Clause (record { node = record { 0 = 0 }; line = 0; classes = K.classes; name = z; body = map erased K.body })) (sym named)
          ∙ sym (erased-clause c)

      starts_except : (m : Member) (classes : Option (List (List ℕ))) (name : Option (List ℕ)) → m.0.tokens ≡ header_tokens annotated (h.Except classes name) → (is_continuing (first_word m.0.tokens) ≡ true) × (is_clause (first_word m.0.tokens) ≡ true)
      starts_except m None name e = (ap (λ z. is_continuing (first_word z)) e, ap (λ z. is_clause (first_word z)) e)
      starts_except m (Some classes) name e = (ap (λ z. is_continuing (first_word z)) e, ap (λ z. is_clause (first_word z)) e)

      by_classes : (column : ℕ) (c : Clause) (clauses : List Clause) (other last : Option (List Stmt)) (ls : List Logical) (cut : Split ls (rows_of_clause annotated c column) (clauses_rows column clauses ++ (other_rows column h.Else other ++ other_rows column h.Finally last)))
          (b : HeadedBack column (h.Except (clause.out-Clause c).classes (clause.out-Clause c).name) cut.first (clause.out-Clause c).body) (more : HandlersBack column cut.rest clauses other last)
          (classes : Option (List (List ℕ))) → (clause.out-Clause c).classes ≡ classes → ClassesRead (clause.out-Clause c).classes (clause.out-Clause c).name clauses → (clauses ≡ [] → EndingBack column cut.rest other last) → HandlersBack column ls (c ∷ clauses) other last
      by_classes column c clauses other last ls cut b more None is r ending =
          let K = clause.out-Clause c in
          let name = K.name in
          let facts : (K.name ≡ None) × (clauses ≡ []) = subst (λ z. ClassesRead z K.name clauses) is r in
          let tail = ending facts.1 in
          let header : h.Except K.classes K.name ≡ h.Except None None = ap (λ z. h.Except z K.name) is ∙ ap (h.Except None) facts.0 in
          let tokens : b.member.0.tokens ≡ header_tokens annotated (h.Except None None) = b.tokens ∙ ap (header_tokens annotated) header in
          let form = form_as b.member.0 (header_tokens annotated (h.Except None None)) (Some (Compound (h.Except None None) None)) tokens (header_back quiet begins own annotated reads 0 b.member.0.line (h.Except None None) (of_any refl)) in
          let starts = starts_except b.member None None tokens in
          let made = compounds.clause_at b.member.0 None None b.made in
          let next = compounds.and_handlers place room inner (compounds.handlers place room inner None tail.members) in
          record {
            members = b.member ∷ tail.members;
            lines = cut.whole ∙ ap (λ z. z ++ cut.rest) b.lines ∙ ap (λ z. (b.member.0 ∷ (b.member.1 ++ [])) ++ z) tail.lines ∙ ap (λ z. b.member.0 ∷ (z ++ lines_of tail.members)) (append-nil b.member.1);
            at = (b.at, tail.at);
            continue = (starts.0, tail.continue);
            made = (made ∷ [], tail.made.0, tail.made.1);
            read =
                ap (λ n. blocks.◌>>=◌ (compounds.handler place room inner n None b.member tail.members (f.form_of b.member.0)) next) (behind_none tail.members)
                ∙ ap (λ o. blocks.◌>>=◌ (compounds.handler place room inner None None b.member tail.members o) next) form
                ∙ ap (λ r. blocks.◌>>=◌ (blocks.◌>>=◌ r (λ body. blocks.◌>>=◌ (compounds.last_parts place room inner None tail.members) (λ others. Ok (Some (compounds.clause_at b.member.0 None None body), Some others)))) next) b.read
                ∙ ap (λ r. blocks.◌>>=◌ (blocks.◌>>=◌ r (λ others. Ok (Some made, Some others))) next) tail.as_parts;
            same = ap (λ z. z ∷ []) (erased_same b.member.0 c None None b.made is facts.0 b.same) ∙ ap (λ z. erased_clause c ∷ map erased_clause z) (sym facts.1);
            same_other = tail.same;
            same_last = tail.same_last;
            from_on = subst (FromOn column) (sym cut.whole) (from_append column cut.first cut.rest b.from_on tail.from_on);
            begins_clause = λ u. (b.member, (tail.members, (refl, starts.1)));
          }
      by_classes column c clauses other last ls cut b more (Some classes) is r ending =
          let K = clause.out-Clause c in
          let one : HasOne classes = subst (λ z. ClassesRead z K.name clauses) is r in
          let header : h.Except K.classes K.name ≡ h.Except (Some classes) K.name = ap (λ z. h.Except z K.name) is in
          let tokens : b.member.0.tokens ≡ header_tokens annotated (h.Except (Some classes) K.name) = b.tokens ∙ ap (header_tokens annotated) header in
          let form = form_as b.member.0 (header_tokens annotated (h.Except (Some classes) K.name)) (Some (Compound (h.Except (Some classes) K.name) None)) tokens
          (header_back quiet begins own annotated reads 0 b.member.0.line (h.Except (Some classes) K.name) (of_except one.0 one.1.0 K.name (ap (λ z. h.Except (Some z) K.name) one.1.1))) in
          let starts = starts_except b.member (Some classes) K.name tokens in
          let made = compounds.clause_at b.member.0 (Some classes) K.name b.made in
          let next = compounds.and_handlers place room inner (compounds.handlers place room inner None more.members) in
          record {
            members = b.member ∷ more.members;
            lines = cut.whole ∙ ap (λ z. z ++ cut.rest) b.lines ∙ ap (λ z. (b.member.0 ∷ (b.member.1 ++ [])) ++ z) more.lines ∙ ap (λ z. b.member.0 ∷ (z ++ lines_of more.members)) (append-nil b.member.1);
            at = (b.at, more.at);
            continue = (starts.0, more.continue);
            made = (made ∷ more.made.0, more.made.1, more.made.2);
            read =
                ap (λ n. blocks.◌>>=◌ (compounds.handler place room inner n None b.member more.members (f.form_of b.member.0)) next) (behind_none more.members)
                ∙ ap (λ o. blocks.◌>>=◌ (compounds.handler place room inner None None b.member more.members o) next) form
                ∙ ap (λ r. blocks.◌>>=◌ (blocks.◌>>=◌ r (λ body. Ok (Some (compounds.clause_at b.member.0 (Some classes) K.name body), None))) next) b.read
                ∙ ap (λ r. blocks.◌>>=◌ r (λ others. Ok (made ∷ others.0, others.1, others.2))) more.read;
            same = ap (λ z. z ∷ map erased_clause more.made.0) (erased_same b.member.0 c (Some classes) K.name b.made is refl b.same) ∙ ap (λ z. erased_clause c ∷ z) more.same;
            same_other = more.same_other;
            same_last = more.same_last;
            from_on = subst (FromOn column) (sym cut.whole) (from_append column cut.first cut.rest b.from_on more.from_on);
            begins_clause = λ u. (b.member, (more.members, (refl, starts.1)));
          }

      handlers_back : (column : ℕ) (clauses : List Clause) (other last : Option (List Stmt)) (ls : List Logical) → ClausesRead P clauses → MaybeBlock P other → MaybeBlock P last
          → map shown ls ≡ clauses_rows column clauses ++ (other_rows column h.Else other ++ other_rows column h.Finally last) → HandlersBack column ls clauses other last
      handlers_back column [] other last ls r q w e =
          let b = ending_back column other last ls q w e in
          record {
            members = b.members;
            lines = b.lines;
            at = b.at;
            continue = b.continue;
            made = ([], b.made.0, b.made.1);
            read = b.as_handlers;
            same = refl;
            same_other = b.same;
            same_last = b.same_last;
            from_on = b.from_on;
            begins_clause = λ c. b.begins_clause c.0 (one_of last c.1);
          }
        where
          one_of : (last : Option (List Stmt)) → (body : List Stmt) × (last ≡ Some body) → IsOne last
          one_of None c = absurd (let wrong : None ≡ Some c.0 = c.1 in cc)
          one_of (Some body) c = tt
      handlers_back column (c ∷ clauses) other last ls r q w e =
          let tail = other_rows column h.Else other ++ other_rows column h.Finally last in
          let K = clause.out-Clause c in
          let cut = split_rows ls (rows_of_clause annotated c column) (clauses_rows column clauses ++ tail) (e ∙ append_assoc (rows_of_clause annotated c column) (clauses_rows column clauses) tail) in
          let b = headed_back column (h.Except K.classes K.name) K.body cut.first r.0.1 (cut.shows ∙ clause_is column c) in
          let more = handlers_back column clauses other last cut.rest r.1 q w cut.shows_rest in
          by_classes column c clauses other last ls cut b more K.classes refl r.0.0 (λ is. ending_of clauses is cut.shows_rest)
        where
          -- after a clause without classes there is none
          ending_of : (clauses : List Clause) → clauses ≡ [] → {rest : List Logical} → map shown rest ≡ clauses_rows column clauses ++ (other_rows column h.Else other ++ other_rows column h.Finally last) → EndingBack column rest other last
          ending_of [] is {rest = rest} shows = ending_back column other last rest q w shows
          ending_of (d ∷ ds) is shows = absurd (cc)

      -- ---- statements

      abbrev reader : Behind → Group → Form → Result (List Stmt) Refusal
      reader = compounds.statement place room inner

      in_column_back : (column : ℕ) (w : Group) (form : Form) (all : List Stmt) → w.0.0.column ≡ column → f.form_of w.0.0 ≡ Some form → reader None w form ≡ Ok all → blocks.in_column place room reader column None w ≡ Ok all
      in_column_back column w form all at is e =
          ap (λ n. if n == column then blocks.formed place room reader None w (f.form_of w.0.0) else Rattle.py_grammar.specs.Refusals.misplaced w.0.0) at
          ∙ ap (λ v. if v then blocks.formed place room reader None w (f.form_of w.0.0) else Rattle.py_grammar.specs.Refusals.misplaced w.0.0) (same_number column)
          ∙ ap (blocks.formed place room reader None w) is ∙ e

      pub record StmtBack (column : ℕ) (ls : List Logical) (x : Stmt) : Type 0 where
        pub group : Group
        pub lines : ls ≡ lines_of (group.0 ∷ group.1)
        pub at : GroupAt column group
        pub made : Stmt
        pub form : Form
        pub formed : f.form_of group.0.0 ≡ Some form
        pub plain : is_plain_form form ≡ true
        pub read_form : reader None group form ≡ Ok (made ∷ [])
        pub read : blocks.in_column place room reader column None group ≡ Ok (made ∷ [])
        pub same : erased made ≡ erased x
        pub from_on : FromOn column ls

      same_stmt : (made x : Stmt) → erased_kind made.kind ≡ erased_kind x.kind → erased made ≡ erased x
      same_stmt made x e = erased-stmt made ∙ ap (λ z. let y : Stmt = record { node = record { 0 = 0 }; line = 0; kind = z } in y) e ∙ sym (erased-stmt x)

      -- a small statement

      small_row : (kind made : StmtKind) (level : StmtKind-F StmtKind Clause Stmt) (column : ℕ) → kind ≡ made → out-StmtKind made ≡ level → kind_rows annotated (parts_of_kind annotated level) column ≡ row column (small_by annotated level) ∷ []
          → rows_of_kind annotated kind column ≡ row column (small_tokens annotated kind) ∷ []
      small_row kind made level column is out e =
          by_kind annotated kind column ∙ ap (λ z. kind_rows annotated (parts_of_kind annotated z) column) (ap out-StmtKind is ∙ out) ∙ e ∙ ap (λ z. row column (small_by annotated z) ∷ []) (sym (ap out-StmtKind is ∙ out))

      small_rows : (before : ℕ) (kind : StmtKind) (column : ℕ) → SmallForm before kind → rows_of_kind annotated kind column ≡ row column (small_tokens annotated kind) ∷ []
      small_rows before kind column (of_pass is) = small_row kind _ _ column is outs-Pass refl
      small_rows before kind column (of_break is) = small_row kind _ _ column is outs-Break refl
      small_rows before kind column (of_continue is) = small_row kind _ _ column is outs-Continue refl
      small_rows before kind column (of_return x is r) = small_row kind _ _ column is (outs-Return x) refl
      small_rows before kind column (of_raise x is r) = small_row kind _ _ column is (outs-Raise x) refl
      small_rows before kind column (of_assert test message is r v) = small_row kind _ _ column is (outs-Assert test message) refl
      small_rows before kind column (of_del of at is r v) = small_row kind _ _ column is (outs-Del of at) refl
      small_rows before kind column (of_assign a more is_tuple x is one r v) = small_row kind _ _ column is (outs-Assign (a ∷ more) is_tuple None x) refl
      small_rows before kind column (of_typed a type x is r u w v) = small_row kind _ _ column is (outs-Assign (a ∷ []) false (Some type) x) refl
      small_rows before kind column (of_augment a op x is r v) = small_row kind _ _ column is (outs-Augment a op x) refl
      small_rows before kind column (of_bare x is r) = small_row kind _ _ column is (outs-Bare x) refl

      read_small : (w : Group) (all : List Stmt) → w.0.1 ≡ [] → w.1 ≡ [] → reader None w (Simple all) ≡ Ok all
      unfolding compounds.statement
      read_small w all ds ms = ap (λ z. unless_deeper z (compounds.unless_continued place room w.1 (Ok all))) ds ∙ ap (λ z. compounds.unless_continued place room z (Ok all)) ms

      stmt_small : (x : Stmt) (column : ℕ) (ls : List Logical) (before : ℕ) → SmallForm before x.kind → map shown ls ≡ row column (small_tokens annotated x.kind) ∷ [] → StmtBack column ls x
      stmt_small x column [] before r e = absurd (cc)
      stmt_small x column (l ∷ m ∷ ls) before r e = absurd (let c = cons_is (shown l) (row column (small_tokens annotated x.kind)) (map shown (m ∷ ls)) [] e in let wrong : map shown (m ∷ ls) ≡ [] = c.1 in cc)
      stmt_small x column (l ∷ []) before r e =
          let c = cons_is (shown l) (row column (small_tokens annotated x.kind)) [] [] e in
          let at : l.column ≡ column = ap (λ (z : Row). z.column) c.0 in
          let tokens : l.tokens ≡ small_tokens annotated x.kind = ap (λ (z : Row). z.tokens) c.0 in
          let line : SmallLine l.tokens = subst SmallLine (sym tokens) (small_line quiet begins annotated own reads before x.kind r) in
          let kind = fresh_small l.line x.kind in
          let made : Stmt = record { node = record { 0 = 0 }; line = l.line; kind = kind } in
          let form = line_form l kind line (ap (g.small l.line) tokens ∙ form_back quiet begins own annotated reads before l.line x.kind r) in
          record {
            group = ((l, []), []);
            lines = refl;
            at = record { head = (at, tt); begins = no_continuing l.tokens line; others = tt; continue = tt };
            made = made;
            form = (Simple (made ∷ []));
            formed = form;
            plain = refl;
            read_form = (read_small ((l, []), []) (made ∷ []) refl refl);
            read = in_column_back column ((l, []), []) (Simple (made ∷ [])) (made ∷ []) at form (read_small ((l, []), []) (made ∷ []) refl refl);
            same = same_stmt made x (small_again trees own before l.line x.kind r);
            from_on = (from_here column l.column at, tt);
          }
        where
          from_here : (a b : ℕ) → b ≡ a → a ≤ b
          from_here a b h = omega arith

      -- an `if`

      if_rows : (column : ℕ) (arms : List (Expr × List Stmt)) (other : Option (List Stmt)) → kind_rows annotated (parts_of_kind annotated (StmtKind-F.If arms other)) column ≡ arms_rows annotated column h.If (map arm_rows arms) ++ other_rows column h.Else other
      if_rows column arms None = refl
      if_rows column arms (Some body) = refl

      erased_if : (arms : List (Expr × List Stmt)) (other : Option (List Stmt)) → erased_kind (s.If arms other) ≡ s.If (map (λ (arm : Expr × List Stmt). (fresh 0 arm.0, arm.1)) (map (λ (arm : Expr × List Stmt). (arm.0, map erased arm.1)) arms)) (option_map (map erased) other)
      erased_if arms None = erased_as (s.If arms None) (StmtKind-F.If arms None) (outs-If arms None)
      erased_if arms (Some body) = erased_as (s.If arms (Some body)) (StmtKind-F.If arms (Some body)) (outs-If arms (Some body))

      arms_twice : (arms : List (Expr × List Stmt)) → map (λ (arm : Expr × List Stmt). (fresh 0 arm.0, arm.1)) (map (λ (arm : Expr × List Stmt). (arm.0, map erased arm.1)) arms) ≡ map erased_arm arms
      arms_twice [] = refl
      arms_twice (arm ∷ arms) = ap (λ z. erased_arm arm ∷ z) (arms_twice arms)

      erased_if_as : (arms : List (Expr × List Stmt)) (other : Option (List Stmt)) → erased_kind (s.If arms other) ≡ s.If (map erased_arm arms) (option_map (map erased) other)
      erased_if_as arms other = erased_if arms other ∙ ap (λ z. s.If z (option_map (map erased) other)) (arms_twice arms)

      read_if : (w : Group) (test : Expr) (made : List Stmt) (arms : compounds.Arms) → compounds.suite place room inner None w.0 None ≡ Ok made → compounds.arms place room inner None w.1 ≡ Ok arms
          → reader None w (Compound (h.If test) None) ≡ Ok (compounds.stmt w.0.0 (s.If ((test, made) ∷ arms.0) arms.1))
      unfolding compounds.statement
      read_if w test made arms e a =
          ap (λ n. blocks.◌>>=◌ (compounds.suite place room inner n w.0 None) (λ body. blocks.◌>>=◌ (compounds.arms place room inner None w.1) (λ others. Ok (compounds.stmt w.0.0 (s.If ((test, body) ∷ others.0) others.1))))) (behind_none w.1)
          ∙ ap (λ r. blocks.◌>>=◌ r (λ body. blocks.◌>>=◌ (compounds.arms place room inner None w.1) (λ others. Ok (compounds.stmt w.0.0 (s.If ((test, body) ∷ others.0) others.1))))) e
          ∙ ap (λ r. blocks.◌>>=◌ r (λ others. Ok (compounds.stmt w.0.0 (s.If ((test, made) ∷ others.0) others.1)))) a

      stmt_if : (x : Stmt) (column : ℕ) (ls : List Logical) (before : ℕ) (test : Expr) (body : List Stmt) (arms : List (Expr × List Stmt)) (other : Option (List Stmt)) → x.kind ≡ s.If ((test, body) ∷ arms) other
          → ReadAt before Conditional test → P body → ArmsRead P arms → MaybeBlock P other → map shown ls ≡ rows x column → StmtBack column ls x
      stmt_if x column ls before test body arms other is r p a o e =
          let rest = arms_rows annotated column h.Elif (map arm_rows arms) ++ other_rows column h.Else other in
          let head = headed annotated column (h.If test) (map rows body) in
          let all : rows x column ≡ head ++ rest =
          by_statement annotated x column ∙ by_kind annotated x.kind column
          ∙ ap (λ z. kind_rows annotated (parts_of_kind annotated z) column) (ap out-StmtKind is ∙ outs-If ((test, body) ∷ arms) other)
          ∙ if_rows column ((test, body) ∷ arms) other
          ∙ append_assoc head (arms_rows annotated column h.Elif (map arm_rows arms)) (other_rows column h.Else other)
          in
          let cut = split_rows ls head rest (e ∙ all) in
          let b = headed_back column (h.If test) body cut.first p cut.shows in
          let more = arms_back column arms other cut.rest a o cut.shows_rest in
          let w : Group = (b.member, more.members) in
          let again = fresh b.member.0.line test in
          let form = header_form_of column (h.If test) cut.first body before b (of_if test refl r) in
          let made : Stmt = record { node = record { 0 = 0 }; line = b.member.0.line; kind = s.If ((again, b.made) ∷ more.made.0) more.made.1 } in
          record {
            group = w;
            lines = cut.whole ∙ ap (λ z. z ++ cut.rest) b.lines ∙ ap (λ z. (b.member.0 ∷ (b.member.1 ++ [])) ++ z) more.lines ∙ ap (λ z. b.member.0 ∷ (z ++ lines_of more.members)) (append-nil b.member.1);
            at = record { head = b.at; begins = ap (λ z. is_continuing (first_word z)) b.tokens; others = more.at; continue = more.continue };
            made = made;
            form = (Compound (h.If again) None);
            formed = form;
            plain = refl;
            read_form = (read_if w again b.made more.made b.read more.read);
            read = in_column_back column w (Compound (h.If again) None) (made ∷ []) b.at.0 form (read_if w again b.made more.made b.read more.read);
            same = same_stmt made x
                (erased_if_as ((again, b.made) ∷ more.made.0) more.made.1
                ∙ ap (λ z. s.If ((z, map erased b.made) ∷ map erased_arm more.made.0) (option_map (map erased) more.made.1)) (fresh_again trees own before b.member.0.line Conditional test r)
                ∙ ap (λ z. s.If ((fresh 0 test, z) ∷ map erased_arm more.made.0) (option_map (map erased) more.made.1)) b.same
                ∙ ap (λ z. s.If ((fresh 0 test, map erased body) ∷ z) (option_map (map erased) more.made.1)) more.same
                ∙ ap (λ z. s.If (map erased_arm ((test, body) ∷ arms)) z) more.same_other
                ∙ sym (erased_if_as ((test, body) ∷ arms) other) ∙ ap erased_kind (sym is));
            from_on = subst (FromOn column) (sym cut.whole) (from_append column cut.first cut.rest b.from_on more.from_on);
          }

      -- loops

      read_while : (w : Group) (test : Expr) (made : List Stmt) → w.1 ≡ [] → compounds.suite place room inner None w.0 None ≡ Ok made → reader None w (Compound (h.While test) None) ≡ Ok (compounds.stmt w.0.0 (s.While test made))
      unfolding compounds.statement
      read_while w test made ms e =
          ap (λ n. blocks.◌>>=◌ (compounds.suite place room inner n w.0 None) (λ body. compounds.unless_continued place room w.1 (Ok (compounds.stmt w.0.0 (s.While test body))))) (behind_none w.1)
          ∙ ap (λ r. blocks.◌>>=◌ r (λ body. compounds.unless_continued place room w.1 (Ok (compounds.stmt w.0.0 (s.While test body))))) e
          ∙ ap (λ z. compounds.unless_continued place room z (Ok (compounds.stmt w.0.0 (s.While test made)))) ms

      stmt_while : (x : Stmt) (column : ℕ) (ls : List Logical) (before : ℕ) (test : Expr) (body : List Stmt) → x.kind ≡ s.While test body → ReadAt before Conditional test → P body → map shown ls ≡ rows x column → StmtBack column ls x
      stmt_while x column ls before test body is r p e =
          let all : rows x column ≡ headed annotated column (h.While test) (map rows body) =
          by_statement annotated x column ∙ by_kind annotated x.kind column ∙ ap (λ z. kind_rows annotated (parts_of_kind annotated z) column) (ap out-StmtKind is ∙ outs-While test body)
          in
          let b = headed_back column (h.While test) body ls p (e ∙ all) in
          let w : Group = (b.member, []) in
          let again = fresh b.member.0.line test in
          let form = header_form_of column (h.While test) ls body before b (of_while test refl r) in
          let made : Stmt = record { node = record { 0 = 0 }; line = b.member.0.line; kind = s.While again b.made } in
          record {
            group = w;
            lines = b.lines;
            at = record { head = b.at; begins = ap (λ z. is_continuing (first_word z)) b.tokens; others = tt; continue = tt };
            made = made;
            form = (Compound (h.While again) None);
            formed = form;
            plain = refl;
            read_form = (read_while w again b.made refl b.read);
            read = in_column_back column w (Compound (h.While again) None) (made ∷ []) b.at.0 form (read_while w again b.made refl b.read);
            same = same_stmt made x
                (erased_as (s.While again b.made) _ (outs-While again b.made)
                ∙ ap (λ z. s.While z (map erased b.made)) (fresh_again trees own before b.member.0.line Conditional test r)
                ∙ ap (s.While (fresh 0 test)) b.same
                ∙ sym (erased_as (s.While test body) _ (outs-While test body)) ∙ ap erased_kind (sym is));
            from_on = b.from_on;
          }

      read_for : (w : Group) (names : List (List ℕ)) (is_tuple : Bool) (walked : Expr) (made : List Stmt) → w.1 ≡ [] → compounds.suite place room inner None w.0 None ≡ Ok made
          → reader None w (Compound (h.For names is_tuple walked) None) ≡ Ok (compounds.stmt w.0.0 (s.For names is_tuple walked made))
      unfolding compounds.statement
      read_for w names is_tuple walked made ms e =
          ap (λ n. blocks.◌>>=◌ (compounds.suite place room inner n w.0 None) (λ body. compounds.unless_continued place room w.1 (Ok (compounds.stmt w.0.0 (s.For names is_tuple walked body))))) (behind_none w.1)
          ∙ ap (λ r. blocks.◌>>=◌ r (λ body. compounds.unless_continued place room w.1 (Ok (compounds.stmt w.0.0 (s.For names is_tuple walked body))))) e
          ∙ ap (λ z. compounds.unless_continued place room z (Ok (compounds.stmt w.0.0 (s.For names is_tuple walked made)))) ms

      stmt_for : (x : Stmt) (column : ℕ) (ls : List Logical) (before : ℕ) (n : List ℕ) (others : List (List ℕ)) (is_tuple : Bool) (walked : Expr) (body : List Stmt) → x.kind ≡ s.For (n ∷ others) is_tuple walked body
          → (is_tuple ≡ false → others ≡ []) → ReadAt before Listed walked → P body → map shown ls ≡ rows x column → StmtBack column ls x
      stmt_for x column ls before n others is_tuple walked body is one r p e =
          let names = n ∷ others in
          let all : rows x column ≡ headed annotated column (h.For names is_tuple walked) (map rows body) =
          by_statement annotated x column ∙ by_kind annotated x.kind column ∙ ap (λ z. kind_rows annotated (parts_of_kind annotated z) column) (ap out-StmtKind is ∙ outs-For names is_tuple walked body)
          in
          let b = headed_back column (h.For names is_tuple walked) body ls p (e ∙ all) in
          let w : Group = (b.member, []) in
          let again = fresh b.member.0.line walked in
          let form = header_form_of column (h.For names is_tuple walked) ls body before b (of_for n others is_tuple walked refl one r) in
          let made : Stmt = record { node = record { 0 = 0 }; line = b.member.0.line; kind = s.For names is_tuple again b.made } in
          record {
            group = w;
            lines = b.lines;
            at = record { head = b.at; begins = ap (λ z. is_continuing (first_word z)) b.tokens; others = tt; continue = tt };
            made = made;
            form = (Compound (h.For names is_tuple again) None);
            formed = form;
            plain = refl;
            read_form = (read_for w names is_tuple again b.made refl b.read);
            read = in_column_back column w (Compound (h.For names is_tuple again) None) (made ∷ []) b.at.0 form (read_for w names is_tuple again b.made refl b.read);
            same = same_stmt made x
                (erased_as (s.For names is_tuple again b.made) _ (outs-For names is_tuple again b.made)
                ∙ ap (λ z. s.For names is_tuple z (map erased b.made)) (fresh_again trees own before b.member.0.line Listed walked r)
                ∙ ap (s.For names is_tuple (fresh 0 walked)) b.same
                ∙ sym (erased_as (s.For names is_tuple walked body) _ (outs-For names is_tuple walked body)) ∙ ap erased_kind (sym is));
            from_on = b.from_on;
          }

      -- a `try`

      try_rows : (column : ℕ) (body : List Stmt) (clauses : List Clause) (other last : Option (List Stmt)) → kind_rows annotated (parts_of_kind annotated (StmtKind-F.Try body clauses other last)) column
          ≡ headed annotated column h.Try (map rows body) ++ (clauses_rows column clauses ++ (other_rows column h.Else other ++ other_rows column h.Finally last))
      try_rows column body clauses None None = refl
      try_rows column body clauses None (Some l) = refl
      try_rows column body clauses (Some o) None = refl
      try_rows column body clauses (Some o) (Some l) = refl

      erased_try : (body : List Stmt) (clauses : List Clause) (other last : Option (List Stmt)) → erased_kind (s.Try body clauses other last) ≡ s.Try (map erased body) (map erased_clause clauses) (option_map (map erased) other) (option_map (map erased) last)
      erased_try body clauses None None = erased_as _ _ (outs-Try body clauses None None)
      erased_try body clauses None (Some l) = erased_as _ _ (outs-Try body clauses None (Some l))
      erased_try body clauses (Some o) None = erased_as _ _ (outs-Try body clauses (Some o) None)
      erased_try body clauses (Some o) (Some l) = erased_as _ _ (outs-Try body clauses (Some o) (Some l))

      handled_is : (l : Logical) (ms : List Member) → (m : Member) × ((more : List Member) × ((ms ≡ m ∷ more) × (is_clause (first_word m.0.tokens) ≡ true))) → compounds.handled place room inner None l ms ≡ compounds.handlers place room inner None ms
      handled_is l ms c =
          ap (compounds.handled place room inner None l) c.1.1.0
          ∙ ap (λ v. if v then compounds.handlers place room inner None (c.0 ∷ c.1.0) else Rattle.py_grammar.specs.Refusals.refused place room l) c.1.1.1
          ∙ ap (compounds.handlers place room inner None) (sym c.1.1.0)

      read_try : (w : Group) (made : List Stmt) (parts : compounds.Handlers) → compounds.suite place room inner None w.0 None ≡ Ok made → compounds.handled place room inner None w.0.0 w.1 ≡ Ok parts
          → reader None w (Compound h.Try None) ≡ Ok (compounds.stmt w.0.0 (s.Try made parts.0 parts.1 parts.2))
      unfolding compounds.statement
      read_try w made parts e a =
          ap (λ n. blocks.◌>>=◌ (compounds.suite place room inner n w.0 None) (λ body. blocks.◌>>=◌ (compounds.handled place room inner None w.0.0 w.1) (λ others. Ok (compounds.stmt w.0.0 (s.Try body others.0 others.1 others.2))))) (behind_none w.1)
          ∙ ap (λ r. blocks.◌>>=◌ r (λ body. blocks.◌>>=◌ (compounds.handled place room inner None w.0.0 w.1) (λ others. Ok (compounds.stmt w.0.0 (s.Try body others.0 others.1 others.2))))) e
          ∙ ap (λ r. blocks.◌>>=◌ r (λ others. Ok (compounds.stmt w.0.0 (s.Try made others.0 others.1 others.2)))) a

      stmt_try : (x : Stmt) (column : ℕ) (ls : List Logical) (body : List Stmt) (clauses : List Clause) (other last : Option (List Stmt)) → x.kind ≡ s.Try body clauses other last → P body → ClausesRead P clauses → MaybeBlock P other → MaybeBlock P last
          → Complete clauses other last → map shown ls ≡ rows x column → StmtBack column ls x
      stmt_try x column ls body clauses other last is p c o q complete e =
          let head = headed annotated column h.Try (map rows body) in
          let rest = clauses_rows column clauses ++ (other_rows column h.Else other ++ other_rows column h.Finally last) in
          let all : rows x column ≡ head ++ rest =
          by_statement annotated x column ∙ by_kind annotated x.kind column
          ∙ ap (λ z. kind_rows annotated (parts_of_kind annotated z) column) (ap out-StmtKind is ∙ outs-Try body clauses other last)
          ∙ try_rows column body clauses other last
          in
          let cut = split_rows ls head rest (e ∙ all) in
          let b = headed_back column h.Try body cut.first p cut.shows in
          let more = handlers_back column clauses other last cut.rest c o q cut.shows_rest in
          let w : Group = (b.member, more.members) in
          let form = header_form_of column h.Try cut.first body 0 b (of_try refl) in
          let made : Stmt = record { node = record { 0 = 0 }; line = b.member.0.line; kind = s.Try b.made more.made.0 more.made.1 more.made.2 } in
          record {
            group = w;
            lines = cut.whole ∙ ap (λ z. z ++ cut.rest) b.lines ∙ ap (λ z. (b.member.0 ∷ (b.member.1 ++ [])) ++ z) more.lines ∙ ap (λ z. b.member.0 ∷ (z ++ lines_of more.members)) (append-nil b.member.1);
            at = record { head = b.at; begins = ap (λ z. is_continuing (first_word z)) b.tokens; others = more.at; continue = more.continue };
            made = made;
            form = (Compound h.Try None);
            formed = form;
            plain = refl;
            read_form = (read_try w b.made more.made b.read (handled_is b.member.0 more.members (more.begins_clause complete) ∙ more.read));
            read = in_column_back column w (Compound h.Try None) (made ∷ []) b.at.0 form (read_try w b.made more.made b.read (handled_is b.member.0 more.members (more.begins_clause complete) ∙ more.read));
            same = same_stmt made x
                (erased_try b.made more.made.0 more.made.1 more.made.2
                ∙ ap (λ z. s.Try z (map erased_clause more.made.0) (option_map (map erased) more.made.1) (option_map (map erased) more.made.2)) b.same
                ∙ ap (λ z. s.Try (map erased body) z (option_map (map erased) more.made.1) (option_map (map erased) more.made.2)) more.same
                ∙ ap (λ z. s.Try (map erased body) (map erased_clause clauses) z (option_map (map erased) more.made.2)) more.same_other
                ∙ ap (s.Try (map erased body) (map erased_clause clauses) (option_map (map erased) other)) more.same_last
                ∙ sym (erased_try body clauses other last) ∙ ap erased_kind (sym is));
            from_on = subst (FromOn column) (sym cut.whole) (from_append column cut.first cut.rest b.from_on more.from_on);
          }

      pub stmt_back : (x : Stmt) (column : ℕ) (ls : List Logical) → KindRead P x.kind → map shown ls ≡ rows x column → StmtBack column ls x
      stmt_back x column ls (is_small before r) e = stmt_small x column ls before r (e ∙ by_statement annotated x column ∙ small_rows before x.kind column r)
      stmt_back x column ls (is_if before test body arms other is r p a o) e = stmt_if x column ls before test body arms other is r p a o e
      stmt_back x column ls (is_while before test body is r p) e = stmt_while x column ls before test body is r p e
      stmt_back x column ls (is_for before n more is_tuple walked body is one r p) e = stmt_for x column ls before n more is_tuple walked body is one r p e
      stmt_back x column ls (is_try body clauses other last is p c o q complete) e = stmt_try x column ls body clauses other last is p c o q complete e

      -- ---- a block

      pub record StmtsBack (column : ℕ) (ls : List Logical) (body : List Stmt) : Type 0 where
        pub groups : List Group
        pub lines : ls ≡ lines_of (members_of groups)
        pub at : GroupsAt column groups
        pub made : List Stmt
        pub read : blocks.in_order place room reader column None groups ≡ Ok made
        pub same : map erased made ≡ map erased body
        pub from_on : FromOn column ls
        pub one : HasOne body → HasOne groups

      stmts_back : (body : List Stmt) (column : ℕ) (ls : List Logical) → Every (λ (x : Stmt). KindRead P x.kind) body → map shown ls ≡ block_rows annotated column body → StmtsBack column ls body
      stmts_back [] column [] r e = record { groups = []; lines = refl; at = tt; made = []; read = refl; same = refl; from_on = tt; one = λ w. absurd (let wrong : [] ≡ w.0 ∷ w.1.0 = w.1.1 in cc) }
      stmts_back [] column (l ∷ ls) r e = absurd (cc)
      stmts_back (x ∷ xs) column ls r e =
          let cut = split_rows ls (rows x column) (block_rows annotated column xs) e in
          let b = stmt_back x column cut.first r.0 cut.shows in
          let more = stmts_back xs column cut.rest r.1 cut.shows_rest in
          record {
            groups = b.group ∷ more.groups;
            lines = cut.whole ∙ ap (λ z. z ++ cut.rest) b.lines ∙ ap (λ z. lines_of (b.group.0 ∷ b.group.1) ++ z) more.lines ∙ sym (lines_append (b.group.0 ∷ b.group.1) (members_of more.groups));
            at = (b.at, more.at);
            made = b.made ∷ more.made;
            read =
                ap (λ n. blocks.◌>>=◌ (blocks.in_column place room reader column n b.group) (λ first. blocks.◌>>=◌ (blocks.in_order place room reader column None more.groups) (λ others. Ok (first ++ others)))) (behind_none more.groups)
                ∙ ap (λ r. blocks.◌>>=◌ r (λ first. blocks.◌>>=◌ (blocks.in_order place room reader column None more.groups) (λ others. Ok (first ++ others)))) b.read
                ∙ ap (λ r. blocks.◌>>=◌ r (λ others. Ok (b.made ∷ others))) more.read;
            same = ap (λ z. z ∷ map erased more.made) b.same ∙ ap (λ z. erased x ∷ z) more.same;
            from_on = subst (FromOn column) (sym cut.whole) (from_append column cut.first cut.rest b.from_on more.from_on);
            one = λ w. (b.group, (more.groups, refl));
          }

      pub lines_back : (body : List Stmt) (column : ℕ) (ls : List Logical) → StmtsRead P body → map shown ls ≡ block_rows annotated column body
          → (made : List Stmt) × ((blocks.lines_at place room reader (blocks.column_of ls) None ls ≡ Ok made) × ((map erased made ≡ map erased body) × (HasOne ls × FromOn column ls)))
      lines_back body column ls r e =
          let b = stmts_back body column ls r.1 e in
          let one = b.one r.0 in
          let first : ls ≡ one.0.0.0 ∷ (one.0.0.1 ++ lines_of (one.0.1 ++ members_of one.1.0)) = b.lines ∙ ap (λ z. lines_of (members_of z)) one.1.1 in
          let at : GroupAt column one.0 = (subst (GroupsAt column) one.1.1 b.at).0 in
          let column_is : blocks.column_of ls ≡ column = ap blocks.column_of first ∙ at.head.0 in (
            b.made,
            (
              ap (λ n. blocks.lines_at place room reader n None ls) column_is
                  ∙ ap (λ z. blocks.in_order place room reader column None (blocks.groups column z)) b.lines
                  ∙ ap (blocks.in_order place room reader column None) (groups_back column b.groups b.at)
                  ∙ b.read,
              (b.same, ((one.0.0.0, (one.0.0.1 ++ lines_of (one.0.1 ++ members_of one.1.0), first)), b.from_on)),
            ),
          )

  pub block_back : (room : ℕ) (body : List Stmt) → BlockRead room body → (column : ℕ) (ls : List Logical) → map shown ls ≡ block_rows annotated column body → InnerBack (compounds.statements room) column ls body
  unfolding compounds.statements
  block_back zero body r column ls e = absurd r
  block_back (suc room) body r column ls e =
      let b = lines_back Block room (compounds.statements room) (BlockRead room) (λ inside p deep rest shows. block_back room inside p deep rest shows) body column ls r e in
      record { made = b.0; read = b.1.0; same = b.1.1.0; one = b.1.1.1.0; from_on = b.1.1.1.1 }

pub blocks_read_back : ExpressionsAreQuiet → ExpressionsBegin → ShapesReadBack → TreesReadBack → BlocksReadBack
blocks_read_back quiet begins own trees annotated reads room end l ls body e column shows e' =
    let b = block_back quiet begins own trees annotated reads room body (statements_read room end l ls body e) column shows e' in
    (b.made, (b.read, b.same))
