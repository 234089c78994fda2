-- The arms of an `if`, one after another: what is read, and what is left. And faults that are passed on.
use Rattle.std.proofs.Common.{◌≡◌, ℕ, List, [], ◌∷◌, ◌++◌, Option, Some, None, Result, Ok, Err, refl, sym, ap, ◌∙◌, append_assoc}
use Rattle.std.specs.Prelude.{◌≢◌}
use Rattle.py_language.specs.declared.token.Logical.{Logical}
use Rattle.py_syntax.specs.Gives.{Gives}
use Rattle.py_syntax.specs.declared.expr.Expr.{Expr}
use Rattle.py_syntax.specs.declared.refusal.Refusal.{Refusal}
use Rattle.py_syntax.specs.declared.refusal.Refusal.TheVariants.{Refused, Memory}
use Rattle.py_syntax.specs.declared.stmt.Stmt.{Stmt}
use Rattle.py_grammar.specs.declared.form.Form.{Form}
use Rattle.py_grammar.specs.declared.form.Form.TheVariants.{Compound}
use Rattle.py_grammar.specs.declared.form.Header.{Header}
use Rattle.py_grammar.specs.declared.form.Header.TheVariants as h
use Rattle.py_grammar.specs.declared.place.Place.{Place}
use Rattle.py_grammar.specs.Refusals.{refusal, refused}
use Rattle.py_grammar.specs.Forms.{form_of}
use Rattle.py_grammar.specs.Blocks.{◌>>=◌, Member, Behind, behind, members}
use Rattle.py_grammar.specs.Compounds.{Arms, arm, and_arms, arms}
use Rattle.py_parser.specs.Reads.{form_or_refusal, form_at, prepend_arms}

-- a fault is passed on
pub fault_again : (T : Type 0) (e : Refusal) → Gives {T = T} (Err e) (Err e)
fault_again T (Refused line construct) = refl
fault_again T Memory = tt

arms_more : (all : List (Expr × List Stmt)) (x : Expr × List Stmt) (o : Result Arms Refusal) → prepend_arms all (o >>= λ others. Ok (x ∷ others.0, others.1)) ≡ prepend_arms (all ++ x ∷ []) o
arms_more all x (Ok r) = ap (λ ys. Ok (ys, r.1)) (sym (append_assoc all (x ∷ []) r.0))
arms_more all x (Err e) = refl

with_block : List Stmt → Option Expr → Result (Option Expr × List Stmt) Refusal
with_block body o = Ok (o, body)

module _ (place : Place) (room : ℕ) (inner : Behind → List Logical → Result (List Stmt) Refusal) where
  -- a line with another header is no arm
  arm_other : (end : Behind) (m : Member) (ms : List Member) (header : Header) (small : Option (List Stmt)) → ((test : Expr) → header ≢ h.Elif test) → header ≢ h.Else
      → arm place room inner end m ms (Some (Compound header small)) ≡ refused place room m.0
  arm_other end m ms (h.Elif test) small n k = absurd (n test refl)
  arm_other end m ms h.Else small n k = absurd (k refl)
  arm_other end m ms _ small n k = refl

  pub no_arm : (end : Behind) (m : Member) (ms : List Member) (form : Form) (header : Header) (small : Option (List Stmt)) → form ≡ Compound header small → ((test : Expr) → header ≢ h.Elif test) → header ≢ h.Else
      → (e : Refusal) → e ≡ refusal place room m.0 → Gives {T = Option Expr × List Stmt} (Err e) (arm place room inner end m ms (Some form))
  no_arm end m ms form header small f n k e r = rw (r, f) (arm_other end m ms header small n k)

  -- an arm is read by its line's form
  arm_is : (end : Behind) (m : Member) (ms : List Member) (o : Option Form) → arm place room inner end m ms o ≡ form_or_refusal place room m.0 o >>= λ form. arm place room inner end m ms (Some form)
  arm_is end m ms None = refl
  arm_is end m ms (Some form) = refl

  module _ (column : ℕ) (end : Behind) (rest after : List Logical) (m : Member) (n : members column rest ≡ m ∷ members column after)
      (W : Result Arms Refusal) (all : List (Expr × List Stmt)) (w : W ≡ prepend_arms all (arms place room inner end (members column rest))) where
    abbrev pub others : List Member
    others = members column after

    abbrev pub more : Option Expr × List Stmt → Result Arms Refusal
    more = and_arms place room inner (arms place room inner end others)

    by_form : W ≡ prepend_arms all ((form_at place room m.0 >>= λ form. arm place room inner (behind others end) m others (Some form)) >>= more)
    by_form = w ∙ ap (λ ms. prepend_arms all (arms place room inner end ms)) n ∙ ap (λ r. prepend_arms all (r >>= more)) (arm_is (behind others end) m others (form_of m.0))

    by_arm : (form : Form) → form_at place room m.0 ≡ Ok form → (end' : Behind) → end' ≡ behind others end → W ≡ prepend_arms all (arm place room inner end' m others (Some form) >>= more)
    by_arm form f end' b =
        by_form ∙ ap (λ r. prepend_arms all ((r >>= λ x. arm place room inner (behind others end) m others (Some x)) >>= more)) f
        ∙ ap (λ x. prepend_arms all (arm place room inner x m others (Some form) >>= more)) (sym b)

    pub next_arm : (form : Form) → form_at place room m.0 ≡ Ok form → (end' : Behind) → end' ≡ behind others end → (o : Option Expr) (body : List Stmt) (test : Expr) (all' : List (Expr × List Stmt))
        → arm place room inner end' m others (Some form) ≡ Ok (o, body) → o ≡ Some test → all' ≡ all ++ (test, body) ∷ [] → W ≡ prepend_arms all' (arms place room inner end others)
    unfolding with_block
    next_arm form f end' b o body test all' g t e =
        by_arm form f end' b ∙ ap (λ r. prepend_arms all (r >>= more)) (g ∙ ap (with_block body) t) ∙ arms_more all (test, body) (arms place room inner end others)
        ∙ ap (λ ys. prepend_arms ys (arms place room inner end others)) (sym e)
