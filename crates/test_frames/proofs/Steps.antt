-- A test's statements leave a frame of a test.
use Rattle.std.proofs.Common.{◌≡◌, ℕ, zero, suc, ◌+◌, not, ◌||◌, Bool, true, false, List, [], ◌∷◌, refl, sym, ap, subst, ◌∙◌, Option, Some, None, Ok, Err, cond, length, rules}
use Rattle.std.proofs.lemmas.List.Folds.{list_any-append}
use Rattle.std.specs.List.{list_any, position_or_len}
use Rattle.std.specs.Prelude.{nat_lt, bytes_eq, codes}
use Rattle.pyn_base.specs.declared.ids.NodeId.{NodeId}
use Rattle.py_syntax.specs.declared.stmt.Clause.{Clause}
use Rattle.py_syntax.specs.declared.stmt.Stmt.{Stmt}
use Rattle.py_syntax.specs.declared.stmt.StmtKind.{StmtKind, StmtKind-F, out-StmtKind}
use Rattle.py_syntax.specs.declared.stmt.StmtKind.TheVariants as stmt
use Rattle.py_syntax.specs.declared.stmt.Target.TheVariants as target
use Rattle.py_meaning.specs.declared.value.Value.{Value}
use Rattle.py_meaning.specs.Lists.{with_second}
use Rattle.py_meaning.specs.Operations.{attribute_place, with_attribute}
use Rattle.py_meaning.specs.Worlds.{World, Attributes}
use Rattle.py_plain.specs.declared.state.State.{State}
use Rattle.py_plain.specs.Assignments.{stores_to}
use Rattle.py_plain.specs.Laws.{IsOfTest, StatementsByLevel}
use Rattle.py_plain.specs.Names.{is_some, is_bound, bound_to, binds}
use Rattle.py_plain.specs.Program.{Program}
use Rattle.py_plain.specs.Runs.{Watcher, Outcome, Run, Finding, begins, go_on, passes, ◌>>=◌, ◌>>◌}
use Rattle.py_plain.specs.Statements.{does_by, value_of, means}
use Rattle.test_frames.specs.Laws.{FramesAreKept, ImportsAreTests, AssignmentsLeaveTests, ExpressionsLeaveTests}
use Rattle.test_frames.proofs.Keeps.{Keeps, begins_keeps}
use Rattle.test_frames.proofs.KeepsValues.{value_of_keeps}

-- ---- one name more, and which others are bound

is_some_cond : (b : Bool) (n : ℕ) → is_some (cond b (Some n) None) ≡ b
is_some_cond true n = refl
is_some_cond false n = refl

module _ (name : List ℕ) where
  abbrev is_it : List ℕ × Value → Bool
  is_it row = bytes_eq row.0 name

  shorter : (a b : ℕ) → nat_lt (1 + a) (suc b) ≡ nat_lt a b
  shorter a b = search rules

  positive : (n : ℕ) → nat_lt 0 (suc n) ≡ true
  positive n = search rules

  found_by : (b : Bool) (bound : Attributes) → nat_lt (position_or_len is_it bound) (length bound) ≡ list_any is_it bound
      → nat_lt (cond (not b) (1 + position_or_len is_it bound) 0) (suc (length bound)) ≡ (b || list_any is_it bound)
  found_by true bound h = positive (length bound)
  found_by false bound h = shorter (position_or_len is_it bound) (length bound) ∙ h

  found : (bound : Attributes) → nat_lt (position_or_len is_it bound) (length bound) ≡ list_any is_it bound
  found [] = refl
  found (row ∷ bound) = found_by (is_it row) bound (found bound)

  bound_any : (bound : Attributes) → is_bound name bound ≡ list_any is_it bound
  bound_any bound = is_some_cond (nat_lt (position_or_len is_it bound) (length bound)) (position_or_len is_it bound) ∙ found bound

  second_kept : (bound : Attributes) (at : ℕ) (x : Value) → list_any is_it (with_second bound at x) ≡ list_any is_it bound
  second_kept [] at x = refl
  second_kept (row ∷ bound) zero x = refl
  second_kept (row ∷ bound) (suc at) x = ap (λ b. is_it row || b) (second_kept bound at x)

  or_false : (b : Bool) → (b || false) ≡ b
  or_false true = refl
  or_false false = refl

  with_kept : (other : List ℕ) (x : Value) (bound : Attributes) (place : Option ℕ) → bytes_eq other name ≡ false → list_any is_it (with_attribute other x bound place) ≡ list_any is_it bound
  with_kept other x bound None apart =
      list_any-append is_it bound ((other, x) ∷ []) ∙ ap (λ b. list_any is_it bound || (b || false)) apart ∙ or_false (list_any is_it bound)
  with_kept other x bound (Some at) apart = second_kept bound at x

  bound_kept : (other : List ℕ) (x : Value) (bound : Attributes) → bytes_eq other name ≡ false → is_bound name (bound_to other x bound) ≡ is_bound name bound
  bound_kept other x bound apart = bound_any (bound_to other x bound) ∙ with_kept other x bound (attribute_place other bound) apart ∙ sym (bound_any bound)

-- ---- runs that leave a test

module _ {W : Type 0} where
  record Leaves {A : Type 0} (p : Run W A) : Type 0 where
    left : (s : State World W) → IsOfTest W s → IsOfTest W (p s).1

  go_on_leaves : {A B : Type 0} (f : A → Run W B) → ((a : A) → Leaves (f a)) → (end : Outcome A) (s : State World W) → IsOfTest W s → IsOfTest W (go_on end s f).1
  go_on_leaves f h (Ok a) s is = (h a).left s is
  go_on_leaves f h (Err why) s is = is

  bind_leaves : {A B : Type 0} (p : Run W A) (f : A → Run W B) → Leaves p → ((a : A) → Leaves (f a)) → Leaves (p >>= f)
  bind_leaves p f hp hf = record { left = λ s is. go_on_leaves f hf (p s).0 (p s).1 (hp.left s is) }

  keeps_leaves : {A : Type 0} (p : Run W A) → Keeps p → Leaves p
  keeps_leaves p keeps = record { left = λ s is. subst (λ frame. (frame.function ≡ None) × (is_bound (codes "isinstance") frame.variables ≡ false)) (sym (keeps.kept s)) is }

  binds_leaves : (name : List ℕ) (x : Value) → bytes_eq name (codes "isinstance") ≡ false → Leaves (binds name x)
  binds_leaves name x apart = record { left = λ s is. (is.0, bound_kept (codes "isinstance") name x s.frame.variables apart ∙ is.1) }

  passes_leaves : Leaves (passes {W = W})
  passes_leaves = record { left = λ s is. is }

pub frames_are_kept : {W : Type 0} → FramesAreKept W
frames_are_kept watcher program e s = (value_of_keeps watcher program e).kept s

pub imports_are_tests : {W : Type 0} → ImportsAreTests W
imports_are_tests program seen = (refl, refl)

-- a statement by its node and what its kind does
module _ {W : Type 0} (by_level : StatementsByLevel W) (watcher : Watcher W) (program : Program) where
  abbrev doing : NodeId → StmtKind-F StmtKind Clause Stmt → Run W Finding
  doing node kind = begins watcher node >> does_by watcher program (value_of watcher program) (means watcher program) node kind

  leaves_by : (node : NodeId) (line : ℕ) (kind : StmtKind) (level : StmtKind-F StmtKind Clause Stmt) → out-StmtKind kind ≡ level → Leaves (does_by watcher program (value_of watcher program) (means watcher program) node level)
      → (s : State World W) → IsOfTest W s → IsOfTest W (means watcher program (record { node = node; line = line; kind = kind }) s).1
  leaves_by node line kind level is leaves s test =
      subst (λ r. IsOfTest W r.1) (sym (by_level watcher program (record { node = node; line = line; kind = kind }) s ∙ ap (λ (f : StmtKind-F StmtKind Clause Stmt). doing node f s) is))
      ((bind_leaves (begins watcher node) (λ _. does_by watcher program (value_of watcher program) (means watcher program) node level) (keeps_leaves (begins watcher node) (begins_keeps watcher node)) (λ _. leaves)).left s test)

pub assignments_leave_tests : {W : Type 0} → StatementsByLevel W → AssignmentsLeaveTests W
assignments_leave_tests {W} by_level watcher program node line name annotation e s apart test =
    leaves_by by_level watcher program node line (stmt.Assign (target.Name name ∷ []) false annotation e) (StmtKind-F.Assign (target.Name name ∷ []) false annotation e) (stmt.outs-Assign (target.Name name ∷ []) false annotation e)
    (bind_leaves (value_of watcher program e) (λ x. stores_to program (value_of watcher program) false (target.Name name ∷ []) x.0) (keeps_leaves (value_of watcher program e) (value_of_keeps watcher program e))
    (λ x. bind_leaves (binds name x.0) (λ _. passes) (binds_leaves name x.0 apart) (λ _. passes_leaves)))
    s test

pub expressions_leave_tests : {W : Type 0} → StatementsByLevel W → ExpressionsLeaveTests W
expressions_leave_tests {W} by_level watcher program node line e s test =
    leaves_by by_level watcher program node line (stmt.Bare e) (StmtKind-F.Bare e) (stmt.outs-Bare e)
    (bind_leaves (value_of watcher program e) (λ _. passes) (keeps_leaves (value_of watcher program e) (value_of_keeps watcher program e)) (λ _. passes_leaves))
    s test
