-- Blocks as they are read: from the lines after a header or from its own line, statement by statement.
use Rattle.std.proofs.Common.{List, None, Option, Some, [], subst, sym, ℕ, ◌++◌, ◌∷◌, ◌≤◌}
use Rattle.std.specs.Prelude.{Ok, Result, ◌==◌}
use Rattle.py_language.specs.TokensLaws.{InOrder}
use Rattle.py_language.specs.declared.token.Logical.{Logical}
use Rattle.py_syntax.specs.declared.refusal.Refusal.{Refusal}
use Rattle.py_grammar.specs.Blocks.{Behind, Group, Member, behind, formed, groups, in_column, in_order, lines_at, unless_deeper}
use Rattle.py_grammar.specs.Compounds.{block, deeper_block, unless_continued}
use Rattle.py_grammar.specs.Forms.{form_of}
use Rattle.py_grammar.specs.declared.form.Form.{Form}
use Rattle.py_grammar.specs.declared.place.Place.{Place}
use Rattle.line_laws.proofs.Cuts.{all_lines, group_lines, groups_joined, order_rises, order_split}
use Rattle.line_laws.proofs.Forms.{FormFits, form_of_fits}
use Rattle.line_laws.proofs.Holds.{Holds, Maybe, given, holds_bind, holds_if, refusal}

pub unless_holds : {A : Type 0} (P : A → Type 0) (ls : List Logical) (made : Result A Refusal) → Holds P made → Holds P (unless_deeper ls made)
unless_holds P [] made h = h
unless_holds P (l ∷ ls) made h = refusal

module _ (place : Place) (room : ℕ) where
  pub continued_holds : {A : Type 0} (P : A → Type 0) (ms : List Member) (made : Result A Refusal) → Holds P made → Holds P (unless_continued place room ms made)
  continued_holds P [] made h = h
  continued_holds P (m ∷ ms) made h = refusal

  -- ---- the block of a header

  module _ {A : Type 0} (inner : Behind → List Logical → Result (List A) Refusal) (P : List A → Type 0) where
    deeper_holds : (end : Behind) (l : Logical) (ls : List Logical) → Holds P (inner end ls) → Holds P (deeper_block place room inner end l ls)
    deeper_holds (Some fault) l [] h = refusal
    deeper_holds None l [] h = refusal
    deeper_holds end l (x ∷ xs) h = h

    pub block_holds : (end : Behind) (m : Member) (small : Option (List A)) → Holds P (inner end m.1) → Maybe P small → Holds P (block place room inner end m small)
    block_holds end m None h k = deeper_holds end m.0 m.1 h
    block_holds end m (Some small) h k = holds_if (room == 0) _ _ refusal (unless_holds P m.1 (Ok small) (given k.at))

  -- ---- the statements of a block, by what each of them leads to

  module _ {A : Type 0} (statement : Behind → Group → Form → Result (List A) Refusal) (Leads Good : ℕ → ℕ → List A → Type 0)
      (each_leads : (end : Behind) (g : Group) (form : Form) (low high : ℕ) → InOrder low high (group_lines g) → FormFits g.0.0.line form → Holds (Leads low high) (statement end g form))
      (none_good : (low high : ℕ) → low ≤ high → Good low high [])
      (both_good : (low middle high : ℕ) (xs ys : List A) → middle ≤ high → Leads low middle xs → Good middle high ys → Good low high (xs ++ ys)) where
    formed_leads : (end : Behind) (g : Group) (form : Option Form) (low high : ℕ) → InOrder low high (group_lines g) → Maybe (FormFits g.0.0.line) form → Holds (Leads low high) (formed place room statement end g form)
    formed_leads end g None low high o f = refusal
    formed_leads end g (Some form) low high o f = each_leads end g form low high o f.at

    column_leads : (column : ℕ) (end : Behind) (g : Group) (low high : ℕ) → InOrder low high (group_lines g) → Holds (Leads low high) (in_column place room statement column end g)
    column_leads column end g low high o = holds_if (g.0.0.column == column) _ _ (formed_leads end g (form_of g.0.0) low high o (form_of_fits g.0.0)) refusal

    groups_good : (column : ℕ) (end : Behind) (gs : List Group) (low high : ℕ) → InOrder low high (all_lines gs) → Holds (Good low high) (in_order place room statement column end gs)
    groups_good column end [] low high o = given (none_good low high o)
    groups_good column end (g ∷ gs) low high o =
        let s = order_split low high (group_lines g) (all_lines gs) o in
        holds_bind (Leads low s.middle) (in_column place room statement column (behind gs end) g) _ (column_leads column (behind gs end) g low s.middle s.before)
        (λ first l. holds_bind (Good s.middle high) (in_order place room statement column end gs) _ (groups_good column end gs s.middle high s.after)
        (λ others k. given (both_good low s.middle high first others (order_rises s.middle high (all_lines gs) s.after) l k)))

    pub lines_good : (column : ℕ) (end : Behind) (lines : List Logical) (low high : ℕ) → InOrder low high lines → Holds (Good low high) (lines_at place room statement column end lines)
    lines_good column end lines low high o = groups_good column end (groups column lines) low high (subst (InOrder low high) (sym (groups_joined column lines)) o)
