-- What the statements of a block are that was read from any lines.
use Rattle.std.proofs.Common.{◌≡◌, ap, refl, subst, ℕ, zero, suc, Bool, false, List, [], ◌∷◌, Option, Some, None}
use Rattle.py_language.specs.declared.token.Token.{Token}
use Rattle.py_language.specs.declared.token.Token.TheVariants as t
use Rattle.py_language.specs.declared.token.Keyword.TheVariants as k
use Rattle.py_language.specs.TreesPlaces.{Listed, Conditional}
use Rattle.py_language.specs.Trees.{◌>>=◌, each}
use Rattle.py_syntax.specs.declared.expr.Expr.{Expr}
use Rattle.py_syntax.specs.declared.stmt.StmtKind.{StmtKind}
use Rattle.py_syntax.specs.declared.stmt.StmtKind.TheVariants as s
use Rattle.py_syntax.specs.declared.stmt.StmtKind.TheVariants.{outs-Pass, outs-Break, outs-Continue, outs-Return, outs-Raise, outs-Assert, outs-Del, outs-Assign, outs-Augment, outs-Bare}
use Rattle.py_grammar.specs.declared.separator.Separator.TheVariants.{Semicolon, Colon}
use Rattle.py_grammar.specs.Separators.{front, back, split, trimmed}
use Rattle.py_grammar.specs.Statements as g
use Rattle.std.specs.Prelude.{bytes_eq, codes}
use Rattle.py_syntax.specs.declared.stmt.Stmt.{Stmt}
use Rattle.py_grammar.specs.declared.form.Form.TheVariants.{Simple, Compound, Future, Typing}
use Rattle.py_grammar.specs.declared.form.Header.{Header}
use Rattle.py_grammar.specs.declared.form.Header.TheVariants as h
use Rattle.py_grammar.specs.Forms as f
use Rattle.py_layout.proofs.Small.{some_bind, some_is, ReadAt}
use Rattle.py_layout.proofs.SmallForms.{each_filled, split_filled}
use Rattle.py_syntax.specs.declared.stmt.Clause.{Clause}
use Rattle.py_syntax.specs.declared.stmt.Clause as clause
use Rattle.py_layout.proofs.SmallForms.{SmallForm}
use Rattle.std.specs.Prelude.{Result, Ok, Err}
use Rattle.py_syntax.specs.declared.refusal.Refusal.{Refusal}
use Rattle.py_grammar.specs.Blocks as blocks
use Rattle.py_grammar.specs.Blocks.{Member, Group, Behind, behind, unless_deeper}
use Rattle.py_layout.proofs.Headers.{neither, import_no, simple_no}
use Rattle.py_layout.proofs.SmallForms.{small_form}

pub ok_bind : {A B : Type 0} (r : Result A Refusal) (next : A → Result B Refusal) (b : B) → (blocks.◌>>=◌ r next) ≡ Ok b → (a : A) × ((r ≡ Ok a) × (next a ≡ Ok b))
ok_bind (Err why) next b e = absurd (cc)
ok_bind (Ok a) next b e = (a, (refl, e))

pub ok_is : {A : Type 0} (a b : A) → (let r : Result A Refusal = Ok a in r) ≡ Ok b → a ≡ b
ok_is a b e = cc

abbrev pub Every : {A : Type 0} → (A → Type 0) → List A → Type 0
Every Q [] = Unit {0}
Every Q (x ∷ xs) = Q x × Every Q xs

abbrev pub HasOne : {A : Type 0} → List A → Type 0
HasOne {A = A} xs = (x : A) × ((more : List A) × (xs ≡ x ∷ more))

-- ---- small statements on a line

abbrev pub Smalls : ℕ → List Stmt → Type 0
Smalls before body = HasOne body × Every (λ (x : Stmt). SmallForm before x.kind) body

abbrev pub MaybeSmalls : ℕ → Option (List Stmt) → Type 0
MaybeSmalls before None = Unit {0}
MaybeSmalls before (Some body) = Smalls before body

each_small : (before : ℕ) (parts : List (List Token)) (all : List Stmt) → each (g.statement before) parts ≡ Some all → Every (λ (x : Stmt). SmallForm before x.kind) all
each_small before [] all e = subst (Every (λ (x : Stmt). SmallForm before x.kind)) (some_is [] all e) tt
each_small before (xs ∷ more) all e =
    let a = some_bind (g.statement before xs) (λ first. each (g.statement before) more >>= λ others. Some (first ∷ others)) all e in
    let b = some_bind (each (g.statement before) more) (λ others. Some (a.0 ∷ others)) all a.1.1 in
    let c = some_bind (g.small before xs) (λ kind. Some (record { node = record { 0 = 0 }; line = before; kind = kind })) a.0 a.1.0 in
    let is : c.0 ≡ a.0.kind = ap (λ (x : Stmt). x.kind) (some_is _ a.0 c.1.1) in
    subst (Every (λ (x : Stmt). SmallForm before x.kind)) (some_is (a.0 ∷ b.0) all b.1.1) (subst (SmallForm before) is (small_form before xs c.0 c.1.0), each_small before more b.0 b.1.0)

simple_smalls : (before : ℕ) (ts : List Token) (all : List Stmt) → g.simple before ts ≡ Some all → Smalls before all
simple_smalls before [] all e = absurd (cc)
simple_smalls before (x ∷ xs) all e = (each_filled before (g.statement before) (trimmed (split Semicolon (x ∷ xs))) all (split_filled before Semicolon x xs) e, each_small before (trimmed (split Semicolon (x ∷ xs))) all e)

block_smalls : (before : ℕ) (ts : List Token) (body : Option (List Stmt)) → f.block before ts ≡ Some body → MaybeSmalls before body
block_smalls before [] body e = subst (MaybeSmalls before) (some_is None body e) tt
block_smalls before (x ∷ xs) body e =
    let a = some_bind (g.simple before (x ∷ xs)) (λ all. Some (Some all)) body e in
    subst (MaybeSmalls before) (some_is (Some a.0) body a.1.1) (simple_smalls before (x ∷ xs) a.0 a.1.0)

same_body : (made header : Header) (small body : Option (List Stmt)) → Some (Compound made body) ≡ Some (Compound header small) → body ≡ small
same_body made header small body e = cc

-- what follows a header's colon, and that a compound statement isn't a simple one
compound_small : (before : ℕ) (make : List Token → Option Header) (ahead rest : List Token) (header : Header) (small : Option (List Stmt)) → f.compound_by before make ahead rest ≡ Some (Compound header small) → MaybeSmalls before small
compound_small before make ahead [] header small e = absurd (cc)
compound_small before make ahead (x ∷ xs) header small e =
    let a = some_bind (make ahead) (λ found. f.block before xs >>= λ body. Some (Compound found body)) (Compound header small) e in
    let b = some_bind (f.block before xs) (λ body. Some (Compound a.0 body)) (Compound header small) a.1.1 in
    subst (MaybeSmalls before) (same_body a.0 header small b.0 b.1.1) (block_smalls before xs b.0 b.1.0)

not_simple : (before : ℕ) (make : List Token → Option Header) (ahead rest : List Token) (all : List Stmt) → f.compound_by before make ahead rest ≡ Some (Simple all) → ⊥
not_simple before make ahead [] all e = cc
not_simple before make ahead (x ∷ xs) all e =
    let a = some_bind (make ahead) (λ found. f.block before xs >>= λ body. Some (Compound found body)) (Simple all) e in
    let b = some_bind (f.block before xs) (λ body. Some (Compound a.0 body)) (Simple all) a.1.1 in
    (let w : Some (Compound a.0 b.0) ≡ Some (Simple all) = b.1.1 in cc)

import_not_simple : (before : ℕ) (ts : List Token) (all : List Stmt) → f.import ts ≡ Some (Simple all) → ⊥
import_not_simple before (t.Name n ∷ t.Keyword k.Import ∷ xs) all e =
    neither before (bytes_eq n (codes "__future__")) _ _ (Some (Simple all)) (λ w. future (g.name xs) w)
    (neither before (bytes_eq n (codes "typing")) _ _ (Some (Simple all)) (λ w. typing (f.imported xs) w) (λ w. cc)) e
  where
    future : (o : Option (List ℕ)) → (o >>= f.future_of) ≡ Some (Simple all) → ⊥
    future o w = let a = some_bind o f.future_of (Simple all) w in neither before (bytes_eq a.0 (codes "annotations")) (Some Future) None (Some (Simple all)) (λ v. cc) (λ v. cc) a.1.1

    typing : (o : Option (List (List ℕ))) → (o >>= λ names. Some (Typing names)) ≡ Some (Simple all) → ⊥
    typing o w = let a = some_bind o (λ names. Some (Typing names)) (Simple all) w in (let v : Some (Typing a.0) ≡ Some (Simple all) = a.1.1 in cc)
import_not_simple before _ all e = cc

statements_smalls : (before : ℕ) (ts : List Token) (all : List Stmt) → f.statements before ts ≡ Some (Simple all) → Smalls before all
statements_smalls before ts all e =
    let a = some_bind (g.simple before ts) (λ all. Some (Simple all)) (Simple all) e in
    let is : a.0 ≡ all = (let w : Some (Simple a.0) ≡ Some (Simple all) = a.1.1 in cc) in
    subst (Smalls before) is (simple_smalls before ts a.0 a.1.0)

pub simple_form : (before : ℕ) (ts : List Token) (all : List Stmt) → f.form before ts ≡ Some (Simple all) → Smalls before all
simple_form before (t.Keyword k.If ∷ xs) all e = absurd (not_simple before (f.tested before h.If) (front Colon xs) (back Colon xs) all e)
simple_form before (t.Keyword k.Elif ∷ xs) all e = absurd (not_simple before (f.tested before h.Elif) (front Colon xs) (back Colon xs) all e)
simple_form before (t.Keyword k.Else ∷ xs) all e = absurd (not_simple before (g.alone h.Else) (front Colon xs) (back Colon xs) all e)
simple_form before (t.Keyword k.While ∷ xs) all e = absurd (not_simple before (f.tested before h.While) (front Colon xs) (back Colon xs) all e)
simple_form before (t.Keyword k.For ∷ xs) all e = absurd (not_simple before (f.for before) (front Colon xs) (back Colon xs) all e)
simple_form before (t.Keyword k.Try ∷ xs) all e = absurd (not_simple before (g.alone h.Try) (front Colon xs) (back Colon xs) all e)
simple_form before (t.Keyword k.Except ∷ xs) all e = absurd (not_simple before f.except (front Colon xs) (back Colon xs) all e)
simple_form before (t.Keyword k.Finally ∷ xs) all e = absurd (not_simple before (g.alone h.Finally) (front Colon xs) (back Colon xs) all e)
simple_form before (t.Keyword k.Def ∷ xs) all e = absurd (not_simple before (f.def before) (front Colon xs) (back Colon xs) all e)
simple_form before (t.Keyword k.Class ∷ xs) all e = absurd (not_simple before f.class (front Colon xs) (back Colon xs) all e)
simple_form before (t.Keyword k.From ∷ xs) all e = absurd (import_not_simple before xs all e)
simple_form before xs all e = statements_smalls before xs all e

pub header_small : (before : ℕ) (ts : List Token) (header : Header) (small : Option (List Stmt)) → f.form before ts ≡ Some (Compound header small) → MaybeSmalls before small
header_small before (t.Keyword k.If ∷ xs) header small e = compound_small before (f.tested before h.If) (front Colon xs) (back Colon xs) header small e
header_small before (t.Keyword k.Elif ∷ xs) header small e = compound_small before (f.tested before h.Elif) (front Colon xs) (back Colon xs) header small e
header_small before (t.Keyword k.Else ∷ xs) header small e = compound_small before (g.alone h.Else) (front Colon xs) (back Colon xs) header small e
header_small before (t.Keyword k.While ∷ xs) header small e = compound_small before (f.tested before h.While) (front Colon xs) (back Colon xs) header small e
header_small before (t.Keyword k.For ∷ xs) header small e = compound_small before (f.for before) (front Colon xs) (back Colon xs) header small e
header_small before (t.Keyword k.Try ∷ xs) header small e = compound_small before (g.alone h.Try) (front Colon xs) (back Colon xs) header small e
header_small before (t.Keyword k.Except ∷ xs) header small e = compound_small before f.except (front Colon xs) (back Colon xs) header small e
header_small before (t.Keyword k.Finally ∷ xs) header small e = compound_small before (g.alone h.Finally) (front Colon xs) (back Colon xs) header small e
header_small before (t.Keyword k.Def ∷ xs) header small e = compound_small before (f.def before) (front Colon xs) (back Colon xs) header small e
header_small before (t.Keyword k.Class ∷ xs) header small e = compound_small before f.class (front Colon xs) (back Colon xs) header small e
header_small before (t.Keyword k.From ∷ xs) header small e = absurd (import_no before xs header small e)
header_small before xs header small e = absurd (simple_no before (g.simple before xs) header small e)

-- ---- statements

abbrev pub ArmsRead : (List Stmt → Type 0) → List (Expr × List Stmt) → Type 0
ArmsRead P [] = Unit {0}
ArmsRead P (arm ∷ arms) = (((before : ℕ) × ReadAt before Conditional arm.0) × P arm.1) × ArmsRead P arms

abbrev pub MaybeBlock : (List Stmt → Type 0) → Option (List Stmt) → Type 0
MaybeBlock P None = Unit {0}
MaybeBlock P (Some body) = P body

-- a clause: one without classes has no name, and is the last
abbrev pub ClassesRead : Option (List (List ℕ)) → Option (List ℕ) → List Clause → Type 0
ClassesRead None name more = (name ≡ None) × (more ≡ [])
ClassesRead (Some classes) name more = HasOne classes

abbrev pub ClausesRead : (List Stmt → Type 0) → List Clause → Type 0
ClausesRead P [] = Unit {0}
ClausesRead P (c ∷ more) = (ClassesRead (clause.out-Clause c).classes (clause.out-Clause c).name more × P (clause.out-Clause c).body) × ClausesRead P more

-- where there is no clause there is a `finally`, and no `else`
abbrev pub Complete : List Clause → Option (List Stmt) → Option (List Stmt) → Type 0
Complete [] other last = (other ≡ None) × ((body : List Stmt) × (last ≡ Some body))
Complete (c ∷ more) other last = Unit {0}

pub data KindRead (P : List Stmt → Type 0) (kind : StmtKind) : Type 0 where
  is_small : (before : ℕ) → SmallForm before kind → KindRead P kind
  is_if : (before : ℕ) (test : Expr) (body : List Stmt) (arms : List (Expr × List Stmt)) (other : Option (List Stmt)) → kind ≡ s.If ((test, body) ∷ arms) other → ReadAt before Conditional test → P body → ArmsRead P arms → MaybeBlock P other → KindRead P kind
  is_while : (before : ℕ) (test : Expr) (body : List Stmt) → kind ≡ s.While test body → ReadAt before Conditional test → P body → KindRead P kind
  is_for : (before : ℕ) (n : List ℕ) (more : List (List ℕ)) (is_tuple : Bool) (walked : Expr) (body : List Stmt) → kind ≡ s.For (n ∷ more) is_tuple walked body → (is_tuple ≡ false → more ≡ []) → ReadAt before Listed walked → P body → KindRead P kind
  is_try : (body : List Stmt) (clauses : List Clause) (other last : Option (List Stmt)) → kind ≡ s.Try body clauses other last → P body → ClausesRead P clauses → MaybeBlock P other → MaybeBlock P last → Complete clauses other last → KindRead P kind

abbrev pub StmtsRead : (List Stmt → Type 0) → List Stmt → Type 0
StmtsRead P all = HasOne all × Every (λ (x : Stmt). KindRead P x.kind) all

-- what is read in a block inside which so many may be
abbrev pub BlockRead : ℕ → List Stmt → Type 0
BlockRead zero body = ⊥
BlockRead (suc room) body = StmtsRead (BlockRead room) body
