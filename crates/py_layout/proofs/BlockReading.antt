-- A block that was read: what its statements are.
use Rattle.std.proofs.Common.{◌≡◌, ◌∙◌, sym, ap, refl, subst, ℕ, zero, suc, Bool, true, false, List, [], ◌∷◌, ◌++◌, Option, Some, None}
use Rattle.std.specs.Prelude.{if◌then◌else◌}
use Rattle.py_language.specs.declared.token.Token.{Token}
use Rattle.py_language.specs.declared.token.Token.TheVariants as t
use Rattle.py_language.specs.declared.token.Keyword.TheVariants as k
use Rattle.py_language.specs.TreesPlaces.{Listed, Conditional}
use Rattle.py_language.specs.Trees.{◌>>=◌}
use Rattle.py_syntax.specs.declared.expr.Expr.{Expr}
use Rattle.py_syntax.specs.declared.stmt.StmtKind.{StmtKind}
use Rattle.py_syntax.specs.declared.stmt.StmtKind.TheVariants as s
use Rattle.py_syntax.specs.declared.stmt.StmtKind.TheVariants.{outs-Pass, outs-Break, outs-Continue, outs-Return, outs-Raise, outs-Assert, outs-Del, outs-Assign, outs-Augment, outs-Bare}
use Rattle.py_grammar.specs.declared.separator.Separator.TheVariants.{Colon, As}
use Rattle.py_grammar.specs.Separators.{front, back, parts}
use Rattle.py_grammar.specs.Statements as g
use Rattle.py_syntax.specs.declared.stmt.Stmt.{Stmt}
use Rattle.py_grammar.specs.declared.form.Form.{Form}
use Rattle.py_grammar.specs.declared.form.Form.TheVariants.{Simple, Compound}
use Rattle.py_grammar.specs.declared.form.Header.{Header}
use Rattle.py_grammar.specs.declared.form.Header.TheVariants as h
use Rattle.py_grammar.specs.Forms as f
use Rattle.py_layout.proofs.Small.{some_bind, ReadAt}
use Rattle.py_language.specs.declared.token.Logical.{Logical}
use Rattle.py_syntax.specs.declared.stmt.Clause.{Clause}
use Rattle.py_syntax.specs.declared.stmt.Clause as clause
use Rattle.py_grammar.specs.Refusals.{first_word, is_continuing}
use Rattle.py_layout.proofs.SmallForms.{SmallForm}
use Rattle.std.specs.Prelude.{Result, Ok}
use Rattle.py_syntax.specs.declared.refusal.Refusal.{Refusal}
use Rattle.py_grammar.specs.declared.place.Place.{Place}
use Rattle.py_grammar.specs.declared.place.Place.TheVariants.{Block}
use Rattle.py_grammar.specs.Blocks as blocks
use Rattle.py_grammar.specs.Blocks.{Member, Group, Behind, behind, unless_deeper}
use Rattle.py_grammar.specs.Compounds as compounds
use Rattle.py_layout.proofs.Headers.{HeaderForm, of_if, of_elif, of_else, of_while, of_for, of_try, of_any, of_except, of_finally, of_def, of_class, header_form}
use Rattle.std.specs.Prelude.{◌==◌}
use Rattle.py_grammar.specs.Refusals.{is_clause}
use Rattle.py_layout.proofs.Headers.{compound_read}
use Rattle.py_layout.proofs.BlockForms.{ok_bind, ok_is, Every, HasOne, Smalls, MaybeSmalls, simple_form, header_small, ArmsRead, MaybeBlock, ClassesRead, ClausesRead, Complete, KindRead, is_small, is_if, is_while, is_for, is_try, StmtsRead, BlockRead}

-- ---- a line's form

pub of_line : (l : Logical) (o : Option Form) → f.form_of l ≡ o → f.form l.line l.tokens ≡ o
unfolding f.form_of
of_line l o e = e

pub smalls_of : (l : Logical) (header : Header) (small : Option (List Stmt)) → f.form_of l ≡ Some (Compound header small) → MaybeSmalls l.line small
smalls_of l header small e = header_small l.line l.tokens header small (of_line l (Some (Compound header small)) e)

pub form_at : (l : Logical) (header : Header) (small : Option (List Stmt)) → f.form_of l ≡ Some (Compound header small) → HeaderForm l.line header
form_at l header small e = header_form l.line l.tokens header small (of_line l (Some (Compound header small)) e)

if_test : (before : ℕ) (test : Expr) → HeaderForm before (h.If test) → ReadAt before Conditional test
if_test before test (of_if test' is r) = subst (ReadAt before Conditional) (let w : test' ≡ test = cc in w) r
if_test before test (of_elif test' is r) = absurd (cc)
if_test before test (of_else is) = absurd (cc)
if_test before test (of_while test' is r) = absurd (cc)
if_test before test (of_for n more is_tuple walked is one r) = absurd (cc)
if_test before test (of_try is) = absurd (cc)
if_test before test (of_any is) = absurd (cc)
if_test before test (of_except n more name is) = absurd (cc)
if_test before test (of_finally is) = absurd (cc)
if_test before test (of_def n params returns is r v) = absurd (cc)
if_test before test (of_class n base is) = absurd (cc)

elif_test : (before : ℕ) (test : Expr) → HeaderForm before (h.Elif test) → ReadAt before Conditional test
elif_test before test (of_elif test' is r) = subst (ReadAt before Conditional) (let w : test' ≡ test = cc in w) r
elif_test before test (of_if test' is r) = absurd (cc)
elif_test before test (of_else is) = absurd (cc)
elif_test before test (of_while test' is r) = absurd (cc)
elif_test before test (of_for n more is_tuple walked is one r) = absurd (cc)
elif_test before test (of_try is) = absurd (cc)
elif_test before test (of_any is) = absurd (cc)
elif_test before test (of_except n more name is) = absurd (cc)
elif_test before test (of_finally is) = absurd (cc)
elif_test before test (of_def n params returns is r v) = absurd (cc)
elif_test before test (of_class n base is) = absurd (cc)

while_test : (before : ℕ) (test : Expr) → HeaderForm before (h.While test) → ReadAt before Conditional test
while_test before test (of_while test' is r) = subst (ReadAt before Conditional) (let w : test' ≡ test = cc in w) r
while_test before test (of_if test' is r) = absurd (cc)
while_test before test (of_elif test' is r) = absurd (cc)
while_test before test (of_else is) = absurd (cc)
while_test before test (of_for n more is_tuple walked is one r) = absurd (cc)
while_test before test (of_try is) = absurd (cc)
while_test before test (of_any is) = absurd (cc)
while_test before test (of_except n more name is) = absurd (cc)
while_test before test (of_finally is) = absurd (cc)
while_test before test (of_def n params returns is r v) = absurd (cc)
while_test before test (of_class n base is) = absurd (cc)

abbrev ForRead : ℕ → List (List ℕ) → Bool → Expr → Type 0
ForRead before names is_tuple walked = (n : List ℕ) × ((more : List (List ℕ)) × ((names ≡ n ∷ more) × ((is_tuple ≡ false → more ≡ []) × ReadAt before Listed walked)))

for_parts : (before : ℕ) (names : List (List ℕ)) (is_tuple : Bool) (walked : Expr) → HeaderForm before (h.For names is_tuple walked) → ForRead before names is_tuple walked
for_parts before names is_tuple walked (of_for n more b x is one r) =
    let w : (n ∷ more ≡ names) × ((b ≡ is_tuple) × (x ≡ walked)) = (cc, (cc, cc)) in
    (n, (more, (sym w.0, (λ e. one (w.1.0 ∙ e), subst (ReadAt before Listed) w.1.1 r))))
for_parts before names is_tuple walked (of_if test' is r) = absurd (cc)
for_parts before names is_tuple walked (of_elif test' is r) = absurd (cc)
for_parts before names is_tuple walked (of_else is) = absurd (cc)
for_parts before names is_tuple walked (of_while test' is r) = absurd (cc)
for_parts before names is_tuple walked (of_try is) = absurd (cc)
for_parts before names is_tuple walked (of_any is) = absurd (cc)
for_parts before names is_tuple walked (of_except n more name is) = absurd (cc)
for_parts before names is_tuple walked (of_finally is) = absurd (cc)
for_parts before names is_tuple walked (of_def n params returns is r v) = absurd (cc)
for_parts before names is_tuple walked (of_class n base is) = absurd (cc)

abbrev ClassesOf : Option (List (List ℕ)) → Option (List ℕ) → Type 0
ClassesOf None name = name ≡ None
ClassesOf (Some classes) name = HasOne classes

except_parts : (before : ℕ) (classes : Option (List (List ℕ))) (name : Option (List ℕ)) → HeaderForm before (h.Except classes name) → ClassesOf classes name
except_parts before classes name (of_any is) = subst (λ z. ClassesOf z name) (let w : None ≡ classes = cc in w) (let w : name ≡ None = cc in w)
except_parts before classes name (of_except n more b is) = subst (λ z. ClassesOf z name) (let w : Some (n ∷ more) ≡ classes = cc in w) (n, (more, refl))
except_parts before classes name (of_if test' is r) = absurd (cc)
except_parts before classes name (of_elif test' is r) = absurd (cc)
except_parts before classes name (of_else is) = absurd (cc)
except_parts before classes name (of_while test' is r) = absurd (cc)
except_parts before classes name (of_for n more is_tuple walked is one r) = absurd (cc)
except_parts before classes name (of_try is) = absurd (cc)
except_parts before classes name (of_finally is) = absurd (cc)
except_parts before classes name (of_def n params returns is r v) = absurd (cc)
except_parts before classes name (of_class n base is) = absurd (cc)

-- a line that begins with `except` or `finally` is no `else`
except_no_else : (ts : List Token) → f.except ts ≡ Some h.Else → ⊥
except_no_else [] e = cc
except_no_else (x ∷ xs) e =
    let a = some_bind (f.handled (front As (x ∷ xs))) (λ classes. f.as_name (back As (x ∷ xs)) >>= λ bound. Some (h.Except (Some classes) bound)) h.Else e in
    let b = some_bind (f.as_name (back As (x ∷ xs))) (λ bound. Some (h.Except (Some a.0) bound)) h.Else a.1.1 in
    (let w : Some (h.Except (Some a.0) b.0) ≡ Some h.Else = b.1.1 in cc)

alone_no_else : (ts : List Token) → g.alone h.Finally ts ≡ Some h.Else → ⊥
alone_no_else [] e = cc
alone_no_else (x ∷ xs) e = cc

clause_no_else : (before : ℕ) (ts : List Token) (small : Option (List Stmt)) → is_clause (first_word ts) ≡ true → f.form before ts ≡ Some (Compound h.Else small) → ⊥
clause_no_else before (t.Keyword k.Except ∷ xs) small w e = except_no_else (front Colon xs) (compound_read before f.except (front Colon xs) (back Colon xs) h.Else small e)
clause_no_else before (t.Keyword k.Finally ∷ xs) small w e = alone_no_else (front Colon xs) (compound_read before (g.alone h.Finally) (front Colon xs) (back Colon xs) h.Else small e)
clause_no_else before _ small w e = cc

smalls_as_read : (P : List Stmt → Type 0) (before : ℕ) (all : List Stmt) → Every (λ (x : Stmt). SmallForm before x.kind) all → Every (λ (x : Stmt). KindRead P x.kind) all
smalls_as_read P before [] r = tt
smalls_as_read P before (x ∷ xs) r = (is_small before r.0, smalls_as_read P before xs r.1)

-- ---- compound statements, by what their blocks are

module _ (place : Place) (room : ℕ) (inner : Behind → List Logical → Result (List Stmt) Refusal) (P : List Stmt → Type 0)
    (inner_read : (end : Behind) (x : Logical) (xs : List Logical) (body : List Stmt) → inner end (x ∷ xs) ≡ Ok body → P body)
    (smalls_read : (room == 0) ≡ false → (before : ℕ) (body : List Stmt) → Smalls before body → P body) where
  deeper_read : (end : Behind) (l : Logical) (ls : List Logical) (body : List Stmt) → compounds.deeper_block place room inner end l ls ≡ Ok body → P body
  deeper_read None l [] body e = absurd (cc)
  deeper_read (Some fault) l [] body e = absurd (cc)
  deeper_read end l (x ∷ xs) body e = inner_read end x xs body e

  unless_read : (ls : List Logical) (small body : List Stmt) → unless_deeper ls (Ok small) ≡ Ok body → small ≡ body
  unless_read [] small body e = ok_is small body e
  unless_read (l ∷ ls) small body e = absurd (cc)

  pub suite_read : (end : Behind) (m : Member) (small : Option (List Stmt)) (body : List Stmt) (before : ℕ) → MaybeSmalls before small → compounds.suite place room inner end m small ≡ Ok body → P body
  suite_read end m None body before r e = deeper_read end m.0 m.1 body e
  suite_read end m (Some small) body before r e = by (room == 0) refl e
    where
      by : (v : Bool) → (room == 0) ≡ v → (if v then Rattle.py_grammar.specs.Refusals.refused place room m.0 else unless_deeper m.1 (Ok small)) ≡ Ok body → P body
      by true q w = absurd (cc)
      by false q w = subst P (unless_read m.1 small body w) (smalls_read q before small r)

  continued_read : {A : Type 0} (ms : List Member) (made a : A) → compounds.unless_continued place room ms (Ok made) ≡ Ok a → made ≡ a
  continued_read [] made a e = ok_is made a e
  continued_read (m ∷ ms) made a e = absurd (cc)

  -- ---- `if`

  abbrev ArmRead : Option Expr × List Stmt → Type 0
  ArmRead (Some test, body) = ((before : ℕ) × ReadAt before Conditional test) × P body
  ArmRead (None, body) = P body

  arm_read : (end : Behind) (m : Member) (ms : List Member) (o : Option Form) (a : Option Expr × List Stmt) → f.form_of m.0 ≡ o → compounds.arm place room inner end m ms o ≡ Ok a → ArmRead a
  arm_read end m ms (Some (Compound (h.Elif test) small)) a w e =
      let b = ok_bind (compounds.suite place room inner end m small) (λ body. Ok (Some test, body)) a e in
      subst ArmRead (ok_is (Some test, b.0) a b.1.1) ((m.0.line, elif_test m.0.line test (form_at m.0 (h.Elif test) small w)), suite_read end m small b.0 m.0.line (smalls_of m.0 (h.Elif test) small w) b.1.0)
  arm_read end m ms (Some (Compound h.Else small)) a w e =
      let b = ok_bind (compounds.suite place room inner end m small) (λ body. compounds.unless_continued place room ms (Ok (None, body))) a e in
      subst ArmRead (continued_read ms (None, b.0) a b.1.1) (suite_read end m small b.0 m.0.line (smalls_of m.0 h.Else small w) b.1.0)
  arm_read end m ms _ a w e = absurd (cc)

  abbrev ArmsOf : compounds.Arms → Type 0
  ArmsOf arms = ArmsRead P arms.0 × MaybeBlock P arms.1

  and_arms_read : (more : Result compounds.Arms Refusal) (a : Option Expr × List Stmt) (arms : compounds.Arms) → ArmRead a → ((others : compounds.Arms) → more ≡ Ok others → ArmsOf others) → compounds.and_arms place room inner more a ≡ Ok arms → ArmsOf arms
  and_arms_read more (None, body) arms r next e = subst ArmsOf (ok_is ([], Some body) arms e) (tt, r)
  and_arms_read more (Some test, body) arms r next e =
      let b = ok_bind more (λ others. Ok ((test, body) ∷ others.0, others.1)) arms e in
      let o = next b.0 b.1.0 in
      subst ArmsOf (ok_is ((test, body) ∷ b.0.0, b.0.1) arms b.1.1) ((r, o.0), o.1)

  arms_read : (end : Behind) (ms : List Member) (arms : compounds.Arms) → compounds.arms place room inner end ms ≡ Ok arms → ArmsOf arms
  arms_read end [] arms e = subst ArmsOf (ok_is ([], None) arms e) (tt, tt)
  arms_read end (m ∷ ms) arms e =
      let b = ok_bind (compounds.arm place room inner (behind ms end) m ms (f.form_of m.0)) (compounds.and_arms place room inner (compounds.arms place room inner end ms)) arms e in
      and_arms_read (compounds.arms place room inner end ms) b.0 arms (arm_read (behind ms end) m ms (f.form_of m.0) b.0 refl b.1.0) (λ others w. arms_read end ms others w) b.1.1

  -- ---- `try`

  abbrev IsBlock : Option (List Stmt) → Type 0
  IsBlock last = (body : List Stmt) × (last ≡ Some body)

  finally_read : (end : Behind) (m : Member) (ms : List Member) (o : Option Form) (last : Option (List Stmt)) → f.form_of m.0 ≡ o → compounds.finally place room inner end m ms o ≡ Ok last → MaybeBlock P last × IsBlock last
  finally_read end m ms (Some (Compound h.Finally small)) last w e =
      let b = ok_bind (compounds.suite place room inner end m small) (λ body. compounds.unless_continued place room ms (Ok (Some body))) last e in
      let is = continued_read ms (Some b.0) last b.1.1 in
      (subst (MaybeBlock P) is (suite_read end m small b.0 m.0.line (smalls_of m.0 h.Finally small w) b.1.0), (b.0, sym is))
  finally_read end m ms _ last w e = absurd (cc)

  last_read : (end : Behind) (ms : List Member) (last : Option (List Stmt)) → compounds.last_part place room inner end ms ≡ Ok last → MaybeBlock P last
  last_read end [] last e = subst (MaybeBlock P) (ok_is None last e) tt
  last_read end (m ∷ ms) last e = (finally_read (behind ms end) m ms (f.form_of m.0) last refl e).0

  abbrev EndingOf : compounds.Ending → Type 0
  EndingOf parts = MaybeBlock P parts.0 × MaybeBlock P parts.1

  -- where it is no `else` it is a `finally` alone
  abbrev NotElse : Option Form → Type 0
  NotElse o = (small : Option (List Stmt)) → o ≡ Some (Compound h.Else small) → ⊥

  abbrev FinallyAlone : compounds.Ending → Type 0
  FinallyAlone parts = (parts.0 ≡ None) × IsBlock parts.1

  by_finally : (end : Behind) (m : Member) (ms : List Member) (o : Option Form) (parts : compounds.Ending) → f.form_of m.0 ≡ o → (blocks.◌>>=◌ (compounds.finally place room inner end m ms o) (λ body. Ok (None, body))) ≡ Ok parts → EndingOf parts × FinallyAlone parts
  by_finally end m ms o parts w e =
      let b = ok_bind (compounds.finally place room inner end m ms o) (λ body. Ok (None, body)) parts e in
      let r = finally_read end m ms o b.0 w b.1.0 in
      subst (λ p. EndingOf p × FinallyAlone p) (ok_is (None, b.0) parts b.1.1) ((tt, r.0), (refl, r.1))

  -- `else`, where it may be, and `finally`
  ending_read : (end last : Behind) (m : Member) (ms : List Member) (o : Option Form) (parts : compounds.Ending) → f.form_of m.0 ≡ o → compounds.ending place room inner end last m ms o ≡ Ok parts → EndingOf parts × (NotElse o → FinallyAlone parts)
  ending_read end last m ms (Some (Compound h.Else small)) parts w e =
      let b = ok_bind (compounds.suite place room inner end m small) (λ body. blocks.◌>>=◌ (compounds.last_part place room inner last ms) (λ others. Ok (Some body, others))) parts e in
      let d = ok_bind (compounds.last_part place room inner last ms) (λ others. Ok (Some b.0, others)) parts b.1.1 in
      (subst EndingOf (ok_is (Some b.0, d.0) parts d.1.1) (suite_read end m small b.0 m.0.line (smalls_of m.0 h.Else small w) b.1.0, last_read last ms d.0 d.1.0), λ no. absurd (no small refl))
  ending_read end last m ms o parts w e = let r = by_finally end m ms o parts w e in (r.0, λ no. r.1)

  last_parts_read : (end : Behind) (ms : List Member) (parts : compounds.Ending) → compounds.last_parts place room inner end ms ≡ Ok parts → EndingOf parts
  last_parts_read end [] parts e = subst EndingOf (ok_is (None, None) parts e) (tt, tt)
  last_parts_read end (m ∷ ms) parts e = (ending_read (behind ms end) end m ms (f.form_of m.0) parts refl e).0

  -- what a clause is, by what is behind it
  abbrev ClauseRead : Clause → List Clause → Type 0
  ClauseRead c more = ClassesRead (clause.out-Clause c).classes (clause.out-Clause c).name more × P (clause.out-Clause c).body

  made_clause : (l : Logical) (classes : Option (List (List ℕ))) (name : Option (List ℕ)) (body : List Stmt) (more : List Clause) → ClassesRead classes name more → P body → ClauseRead (compounds.clause_at l classes name body) more
  made_clause l classes name body more r p =
      subst (λ (c : clause.Clause-F StmtKind Clause Stmt). ClassesRead c.classes c.name more × P c.body) (sym (clause.out-roll-Clause _)) (r, p)

  abbrev Found : Type 0
  Found = Option Clause × Option compounds.Ending

  -- a clause with classes, after which more may be; one without, or none, after which none is
  abbrev FoundRead : Found → Type 0
  FoundRead (Some c, Some rest) = ClauseRead c [] × EndingOf rest
  FoundRead (Some c, None) = (more : List Clause) → ClauseRead c more
  FoundRead (None, Some rest) = EndingOf rest
  FoundRead (None, None) = ⊥

  abbrev FirstRead : Found → Type 0
  FirstRead (None, Some rest) = FinallyAlone rest
  FirstRead found = Unit {0}

  by_ending : (end last : Behind) (m : Member) (ms : List Member) (o : Option Form) (found : Found) → f.form_of m.0 ≡ o → (blocks.◌>>=◌ (compounds.ending place room inner end last m ms o) (λ others. Ok (None, Some others))) ≡ Ok found → FoundRead found × (NotElse o → FirstRead found)
  by_ending end last m ms o found w e =
      let b = ok_bind (compounds.ending place room inner end last m ms o) (λ others. Ok (None, Some others)) found e in
      let r = ending_read end last m ms o b.0 w b.1.0 in
      subst (λ p. FoundRead p × (NotElse o → FirstRead p)) (ok_is (None, Some b.0) found b.1.1) (r.0, r.1)

  classes_bare : (before : ℕ) (name : Option (List ℕ)) → ClassesOf None name → ClassesRead None name []
  classes_bare before name r = (r, refl)

  handler_read : (end last : Behind) (m : Member) (ms : List Member) (o : Option Form) (found : Found) → f.form_of m.0 ≡ o → compounds.handler place room inner end last m ms o ≡ Ok found → FoundRead found × (NotElse o → FirstRead found)
  handler_read end last m ms (Some (Compound (h.Except None name) small)) found w e =
      let b = ok_bind (compounds.suite place room inner end m small) (λ body. blocks.◌>>=◌ (compounds.last_parts place room inner last ms) (λ others. Ok (Some (compounds.clause_at m.0 None name body), Some others))) found e in
      let d = ok_bind (compounds.last_parts place room inner last ms) (λ others. Ok (Some (compounds.clause_at m.0 None name b.0), Some others)) found b.1.1 in
      let header = except_parts m.0.line None name (form_at m.0 (h.Except None name) small w) in
      subst (λ p. FoundRead p × (NotElse (Some (Compound (h.Except None name) small)) → FirstRead p)) (ok_is (Some (compounds.clause_at m.0 None name b.0), Some d.0) found d.1.1)
      ((made_clause m.0 None name b.0 [] (classes_bare m.0.line name header) (suite_read end m small b.0 m.0.line (smalls_of m.0 (h.Except None name) small w) b.1.0), last_parts_read last ms d.0 d.1.0), λ no. tt)
  handler_read end last m ms (Some (Compound (h.Except (Some classes) name) small)) found w e =
      let b = ok_bind (compounds.suite place room inner end m small) (λ body. Ok (Some (compounds.clause_at m.0 (Some classes) name body), None)) found e in
      let header = except_parts m.0.line (Some classes) name (form_at m.0 (h.Except (Some classes) name) small w) in
      subst (λ p. FoundRead p × (NotElse (Some (Compound (h.Except (Some classes) name) small)) → FirstRead p)) (ok_is (Some (compounds.clause_at m.0 (Some classes) name b.0), None) found b.1.1)
      (λ more. made_clause m.0 (Some classes) name b.0 more header (suite_read end m small b.0 m.0.line (smalls_of m.0 (h.Except (Some classes) name) small w) b.1.0), λ no. tt)
  handler_read end last m ms o found w e = by_ending end last m ms o found w e

  abbrev HandlersOf : compounds.Handlers → Type 0
  HandlersOf parts = ClausesRead P parts.0 × (MaybeBlock P parts.1 × MaybeBlock P parts.2)

  abbrev CompleteParts : compounds.Handlers → Type 0
  CompleteParts parts = Complete parts.0 parts.1 parts.2

  and_handlers_read : (more : Result compounds.Handlers Refusal) (found : Found) (parts : compounds.Handlers) → FoundRead found → ((others : compounds.Handlers) → more ≡ Ok others → HandlersOf others)
      → compounds.and_handlers place room inner more found ≡ Ok parts → HandlersOf parts × (FirstRead found → CompleteParts parts)
  and_handlers_read more (Some c, Some rest) parts r next e = subst (λ p. HandlersOf p × (Unit {0} → CompleteParts p)) (ok_is (c ∷ [], rest.0, rest.1) parts e) (((r.0, tt), r.1), λ u. tt)
  and_handlers_read more (None, Some rest) parts r next e = subst (λ p. HandlersOf p × (FinallyAlone rest → CompleteParts p)) (ok_is ([], rest.0, rest.1) parts e) ((tt, r), λ u. u)
  and_handlers_read more (Some c, None) parts r next e =
      let b = ok_bind more (λ others. Ok (c ∷ others.0, others.1, others.2)) parts e in
      let o = next b.0 b.1.0 in
      subst (λ p. HandlersOf p × (Unit {0} → CompleteParts p)) (ok_is (c ∷ b.0.0, b.0.1, b.0.2) parts b.1.1) (((r b.0.0, o.0), o.1), λ u. tt)
  and_handlers_read more (None, None) parts r next e = absurd r

  handlers_read : (end : Behind) (ms : List Member) (parts : compounds.Handlers) → compounds.handlers place room inner end ms ≡ Ok parts → HandlersOf parts
  handlers_read end [] parts e = subst HandlersOf (ok_is ([], None, None) parts e) (tt, (tt, tt))
  handlers_read end (m ∷ ms) parts e =
      let b = ok_bind (compounds.handler place room inner (behind ms end) end m ms (f.form_of m.0)) (compounds.and_handlers place room inner (compounds.handlers place room inner end ms)) parts e in
      (and_handlers_read (compounds.handlers place room inner end ms) b.0 parts (handler_read (behind ms end) end m ms (f.form_of m.0) b.0 refl b.1.0).0 (λ others w. handlers_read end ms others w) b.1.1).0

  first_handlers : (end : Behind) (m : Member) (ms : List Member) (parts : compounds.Handlers) → is_clause (first_word m.0.tokens) ≡ true → compounds.handlers place room inner end (m ∷ ms) ≡ Ok parts → HandlersOf parts × CompleteParts parts
  first_handlers end m ms parts c e =
      let b = ok_bind (compounds.handler place room inner (behind ms end) end m ms (f.form_of m.0)) (compounds.and_handlers place room inner (compounds.handlers place room inner end ms)) parts e in
      let found = handler_read (behind ms end) end m ms (f.form_of m.0) b.0 refl b.1.0 in
      let r = and_handlers_read (compounds.handlers place room inner end ms) b.0 parts found.0 (λ others w. handlers_read end ms others w) b.1.1 in
      (r.0, r.1 (found.1 (λ small w. clause_no_else m.0.line m.0.tokens small c (of_line m.0 (Some (Compound h.Else small)) w))))

  handled_read : (end : Behind) (l : Logical) (ms : List Member) (parts : compounds.Handlers) → compounds.handled place room inner end l ms ≡ Ok parts → HandlersOf parts × CompleteParts parts
  handled_read None l [] parts e = absurd (cc)
  handled_read (Some fault) l [] parts e = absurd (cc)
  handled_read end l (m ∷ ms) parts e = by (is_clause (first_word m.0.tokens)) refl e
    where
      by : (v : Bool) → is_clause (first_word m.0.tokens) ≡ v → (if v then compounds.handlers place room inner end (m ∷ ms) else Rattle.py_grammar.specs.Refusals.refused place room l) ≡ Ok parts → HandlersOf parts × CompleteParts parts
      by true q w = first_handlers end m ms parts q w
      by false q w = absurd (cc)

  -- ---- statements

  one_read : (l : Logical) (kind : StmtKind) (all : List Stmt) → KindRead P kind → compounds.stmt l kind ≡ all → StmtsRead P all
  one_read l kind all r is = subst (StmtsRead P) is ((_, ([], refl)), (r, tt))

  pub statement_read : (end : Behind) (w : Group) (form : Form) (all : List Stmt) → f.form_of w.0.0 ≡ Some form → compounds.statement place room inner end w form ≡ Ok all → StmtsRead P all
  unfolding compounds.statement
  statement_read end w (Simple small) all q e =
      let r = simple_form w.0.0.line w.0.0.tokens small (of_line w.0.0 (Some (Simple small)) q) in
      by w.0.1 w.1 e (r.0, smalls_as_read P w.0.0.line small r.1)
    where
      by : (ls : List Logical) (ms : List Member) → unless_deeper ls (compounds.unless_continued place room ms (Ok small)) ≡ Ok all → StmtsRead P small → StmtsRead P all
      by [] ms e r = subst (StmtsRead P) (continued_read ms small all e) r
      by (l ∷ ls) ms e r = absurd (cc)
  statement_read end w (Compound (h.If test) small) all q e =
      let b = ok_bind (compounds.suite place room inner (behind w.1 end) w.0 small) (λ body. blocks.◌>>=◌ (compounds.arms place room inner end w.1) (λ others. Ok (compounds.stmt w.0.0 (s.If ((test, body) ∷ others.0) others.1)))) all e in
      let d = ok_bind (compounds.arms place room inner end w.1) (λ others. Ok (compounds.stmt w.0.0 (s.If ((test, b.0) ∷ others.0) others.1))) all b.1.1 in
      let arms = arms_read end w.1 d.0 d.1.0 in
      one_read w.0.0 (s.If ((test, b.0) ∷ d.0.0) d.0.1) all
      (is_if w.0.0.line test b.0 d.0.0 d.0.1 refl (if_test w.0.0.line test (form_at w.0.0 (h.If test) small q)) (suite_read (behind w.1 end) w.0 small b.0 w.0.0.line (smalls_of w.0.0 (h.If test) small q) b.1.0) arms.0 arms.1)
      (ok_is _ all d.1.1)
  statement_read end w (Compound (h.While test) small) all q e =
      let b = ok_bind (compounds.suite place room inner (behind w.1 end) w.0 small) (λ body. compounds.unless_continued place room w.1 (Ok (compounds.stmt w.0.0 (s.While test body)))) all e in
      one_read w.0.0 (s.While test b.0) all
      (is_while w.0.0.line test b.0 refl (while_test w.0.0.line test (form_at w.0.0 (h.While test) small q)) (suite_read (behind w.1 end) w.0 small b.0 w.0.0.line (smalls_of w.0.0 (h.While test) small q) b.1.0))
      (continued_read w.1 _ all b.1.1)
  statement_read end w (Compound (h.For names is_tuple walked) small) all q e =
      let b = ok_bind (compounds.suite place room inner (behind w.1 end) w.0 small) (λ body. compounds.unless_continued place room w.1 (Ok (compounds.stmt w.0.0 (s.For names is_tuple walked body)))) all e in
      let p = for_parts w.0.0.line names is_tuple walked (form_at w.0.0 (h.For names is_tuple walked) small q) in
      one_read w.0.0 (s.For names is_tuple walked b.0) all
      (is_for w.0.0.line p.0 p.1.0 is_tuple walked b.0 (ap (λ z. s.For z is_tuple walked b.0) p.1.1.0) p.1.1.1.0 p.1.1.1.1 (suite_read (behind w.1 end) w.0 small b.0 w.0.0.line (smalls_of w.0.0 (h.For names is_tuple walked) small q) b.1.0))
      (continued_read w.1 _ all b.1.1)
  statement_read end w (Compound h.Try small) all q e =
      let b = ok_bind (compounds.suite place room inner (behind w.1 end) w.0 small) (λ body. blocks.◌>>=◌ (compounds.handled place room inner end w.0.0 w.1) (λ others. Ok (compounds.stmt w.0.0 (s.Try body others.0 others.1 others.2)))) all e in
      let d = ok_bind (compounds.handled place room inner end w.0.0 w.1) (λ others. Ok (compounds.stmt w.0.0 (s.Try b.0 others.0 others.1 others.2))) all b.1.1 in
      let r = handled_read end w.0.0 w.1 d.0 d.1.0 in
      one_read w.0.0 (s.Try b.0 d.0.0 d.0.1 d.0.2) all
      (is_try b.0 d.0.0 d.0.1 d.0.2 refl (suite_read (behind w.1 end) w.0 small b.0 w.0.0.line (smalls_of w.0.0 h.Try small q) b.1.0) r.0.0 r.0.1.0 r.0.1.1 r.1)
      (ok_is _ all d.1.1)
  statement_read end w _ all q e = absurd (cc)

  -- ---- the lines of a block

  every_append : (xs ys : List Stmt) → Every (λ (x : Stmt). KindRead P x.kind) xs → Every (λ (x : Stmt). KindRead P x.kind) ys → Every (λ (x : Stmt). KindRead P x.kind) (xs ++ ys)
  every_append [] ys r q = q
  every_append (x ∷ xs) ys r q = (r.0, every_append xs ys r.1 q)

  in_column_read : (column : ℕ) (end : Behind) (w : Group) (all : List Stmt) → blocks.in_column place room (compounds.statement place room inner) column end w ≡ Ok all → StmtsRead P all
  in_column_read column end w all e = by (w.0.0.column == column) e
    where
      formed : (o : Option Form) → f.form_of w.0.0 ≡ o → blocks.formed place room (compounds.statement place room inner) end w o ≡ Ok all → StmtsRead P all
      formed None q e = absurd (cc)
      formed (Some form) q e = statement_read end w form all q e

      by : (v : Bool) → (if v then blocks.formed place room (compounds.statement place room inner) end w (f.form_of w.0.0) else Rattle.py_grammar.specs.Refusals.misplaced w.0.0) ≡ Ok all → StmtsRead P all
      by true e = formed (f.form_of w.0.0) refl e
      by false e = absurd (cc)

  in_order_read : (column : ℕ) (end : Behind) (ws : List Group) (all : List Stmt) → blocks.in_order place room (compounds.statement place room inner) column end ws ≡ Ok all → Every (λ (x : Stmt). KindRead P x.kind) all
  in_order_read column end [] all e = subst (Every (λ (x : Stmt). KindRead P x.kind)) (ok_is [] all e) tt
  in_order_read column end (w ∷ ws) all e =
      let b = ok_bind (blocks.in_column place room (compounds.statement place room inner) column (behind ws end) w) (λ first. blocks.◌>>=◌ (blocks.in_order place room (compounds.statement place room inner) column end ws) (λ others. Ok (first ++ others))) all e in
      let d = ok_bind (blocks.in_order place room (compounds.statement place room inner) column end ws) (λ others. Ok (b.0 ++ others)) all b.1.1 in
      subst (Every (λ (x : Stmt). KindRead P x.kind)) (ok_is (b.0 ++ d.0) all d.1.1) (every_append b.0 d.0 (in_column_read column (behind ws end) w b.0 b.1.0).1 (in_order_read column end ws d.0 d.1.0))

  -- the first statement is there
  order_filled : (column : ℕ) (end : Behind) (w : Group) (ws : List Group) (all : List Stmt) → blocks.in_order place room (compounds.statement place room inner) column end (w ∷ ws) ≡ Ok all → HasOne all
  order_filled column end w ws all e =
      let b = ok_bind (blocks.in_column place room (compounds.statement place room inner) column (behind ws end) w) (λ first. blocks.◌>>=◌ (blocks.in_order place room (compounds.statement place room inner) column end ws) (λ others. Ok (first ++ others))) all e in
      let d = ok_bind (blocks.in_order place room (compounds.statement place room inner) column end ws) (λ others. Ok (b.0 ++ others)) all b.1.1 in
      let first = (in_column_read column (behind ws end) w b.0 b.1.0).0 in
      (first.0, (first.1.0 ++ d.0, sym (ok_is (b.0 ++ d.0) all d.1.1) ∙ ap (λ z. z ++ d.0) first.1.1))

  pub lines_read : (column : ℕ) (end : Behind) (x : Logical) (xs : List Logical) (all : List Stmt) → blocks.lines_at place room (compounds.statement place room inner) column end (x ∷ xs) ≡ Ok all → StmtsRead P all
  lines_read column end x xs all e = (groups_filled (blocks.groups column (x ∷ xs)) (_, (_, refl)) e, in_order_read column end (blocks.groups column (x ∷ xs)) all e)
    where
      groups_filled : (ws : List Group) → HasOne ws → blocks.in_order place room (compounds.statement place room inner) column end ws ≡ Ok all → HasOne all
      groups_filled ws one w = order_filled column end one.0 one.1.0 all (ap (blocks.in_order place room (compounds.statement place room inner) column end) (sym one.1.1) ∙ w)

-- ---- blocks

pub smalls_in : (room : ℕ) → (room == 0) ≡ false → (before : ℕ) (body : List Stmt) → Smalls before body → BlockRead room body
smalls_in zero some before body r = absurd (cc)
smalls_in (suc room) some before body r = (r.0, smalls_as_read (BlockRead room) before body r.1)

pub statements_read : (room : ℕ) (end : Behind) (x : Logical) (xs : List Logical) (body : List Stmt) → compounds.statements room end (x ∷ xs) ≡ Ok body → BlockRead room body
unfolding compounds.statements
statements_read zero end x xs body e = absurd (cc)
statements_read (suc room) end x xs body e =
    lines_read Block room (compounds.statements room) (BlockRead room) (λ end x xs body e. statements_read room end x xs body e) (smalls_in room) x.column end x xs body e
