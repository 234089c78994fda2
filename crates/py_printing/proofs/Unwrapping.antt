-- What an answer was made of: the parts between commas and in brackets, and where a form may be.
use Rattle.std.proofs.Common.{◌≡◌, ◌∙◌, sym, ap, refl, subst, ℕ, Bool, true, false, cond, ◌&&◌, not, List, [], ◌∷◌, ◌++◌, Option, Some, None}
use Rattle.std.specs.Prelude.{nat_le, map}
use Rattle.py_cut.specs.Cut.{scan, Passes, Stops}
use Rattle.py_cut.specs.Cut as cut
use Rattle.py_language.specs.declared.shape.Atom.{Atom}
use Rattle.py_language.specs.declared.shape.Atom.TheVariants as a
use Rattle.py_language.specs.declared.shape.Bracket.{Bracket}
use Rattle.py_language.specs.declared.shape.Bracket.TheVariants.{Round, Square, Brace}
use Rattle.py_language.specs.declared.shape.Shape.{Shape, Shape-F}
use Rattle.py_language.specs.declared.shape.Symbol.{Symbol}
use Rattle.py_language.specs.declared.shape.Symbol.TheVariants as s
use Rattle.py_language.specs.TreesPlaces.{Level, Listed, Conditional, Disjunction, Conjunction, Negation, Comparison, Sum, Product, Signed, Postfix, start, next, number, at, closing, front, back, pieces, split, trimmed, is_same}
use Rattle.py_language.specs.Trees.{◌>>=◌, closed, inside, each, comma_list}
use Rattle.py_language.specs.TreesSymbols.{is_super}
use Rattle.py_printing.proofs.Wholes.{Whole, holds, front_whole, pieces_whole}
use Rattle.py_cut.proofs.Cuts.{front-back}
use Rattle.py_printing.specs.Printing.{Slot, At, Callee, Owner, Lone, Printed, plain_at, is_bare_in, is_super_name, print_node, printed, Each}

-- ---- answers that are there

pub bind_inv : {A B : Type 0} (o : Option A) (f : A → Option B) (y : B) → (o >>= f) ≡ Some y → (v : A) × ((o ≡ Some v) × (f v ≡ Some y))
bind_inv None f y e = absurd (cc)
bind_inv (Some v) f y e = (v, (refl, e))

pub some_same : {A : Type 0} (x y : A) → Some x ≡ Some y → x ≡ y
some_same x y e = cc

pub no_answer : {A : Type 0} {X : Type 0} (y : A) → None ≡ Some y → X
no_answer y e = absurd (cc)

pub each_inv : {A B : Type 0} (W : A → Type 0) (f : A → Option B) (Q : B → Type 0) → ((t : A) (v : B) → W t → f t ≡ Some v → Q v) → (ts : List A) (vs : List B) → Each W ts → each f ts ≡ Some vs → Each Q vs
each_inv W f Q g [] vs w e = subst (Each Q) (some_same [] vs e) tt
each_inv W f Q g (t ∷ ts) vs w e =
    let a = bind_inv (f t) (λ first. each f ts >>= λ others. Some (first ∷ others)) vs e in
    let b = bind_inv (each f ts) (λ others. Some (a.0 ∷ others)) vs a.1.1 in
    subst (Each Q) (some_same (a.0 ∷ b.0) vs b.1.1) (g t a.0 w.0 a.1.0, each_inv W f Q g ts b.0 w.1 b.1.0)

pub each_some : {A B : Type 0} (f : A → Option B) (t : A) (ts : List A) (vs : List B) → each f (t ∷ ts) ≡ Some vs → (v : B) × ((others : List B) × (vs ≡ v ∷ others))
each_some f t ts vs e =
    let a = bind_inv (f t) (λ first. each f ts >>= λ others. Some (first ∷ others)) vs e in
    let b = bind_inv (each f ts) (λ others. Some (a.0 ∷ others)) vs a.1.1 in
    (a.0, (b.0, sym (some_same (a.0 ∷ b.0) vs b.1.1)))

-- ---- parts between commas

abbrev pub Wholes : List (List Symbol) → Type 0
Wholes ts = Each Whole ts

pub seconds : (qs : List (Symbol × List Symbol)) → Each (λ (q : Symbol × List Symbol). Whole q.1) qs → Wholes (map (λ (q : Symbol × List Symbol). q.1) qs)
seconds [] h = tt
seconds (q ∷ qs) h = (h.0, seconds qs h.1)

pub trimmed_whole : (ts : List (List Symbol)) → Wholes ts → Wholes (trimmed ts)
trimmed_whole [] h = tt
trimmed_whole ([] ∷ []) h = tt
trimmed_whole ([] ∷ u ∷ us) h = (h.0, trimmed_whole (u ∷ us) h.1)
trimmed_whole ((x ∷ t) ∷ ts) h = (h.0, trimmed_whole ts h.1)

pub comma_inv : {B : Type 0} (f : List Symbol → Option B) (Q : B → Type 0) → ((t : List Symbol) (v : B) → Whole t → f t ≡ Some v → Q v) → (xs : List Symbol) (vs : List B) → Whole xs → comma_list f xs ≡ Some vs → Each Q vs
comma_inv f Q g xs vs w e =
    each_inv Whole f Q g (trimmed (split Listed xs)) vs
    (trimmed_whole (split Listed xs) (front_whole (at Listed) start xs w, seconds (pieces (at Listed) xs) (pieces_whole (at Listed) start xs w))) e

-- a list of none is of no symbols
pub split_some : (v : Bool) (c : Symbol) (here : List Symbol) (rest : List (Symbol × List Symbol)) (others : List (Symbol × List Symbol))
    → (t : List Symbol) × ((ts : List (List Symbol)) × (trimmed (cond v [] (c ∷ here) ∷ map (λ (q : Symbol × List Symbol). q.1) (cond v ((c, here) ∷ rest) others)) ≡ t ∷ ts))
split_some true c here rest others = ([], (trimmed (here ∷ map (λ (q : Symbol × List Symbol). q.1) rest), refl))
split_some false c here rest others = (c ∷ here, (trimmed (map (λ (q : Symbol × List Symbol). q.1) others), refl))

pub none_inv : {B : Type 0} (f : List Symbol → Option B) (xs : List Symbol) → comma_list f xs ≡ Some [] → xs ≡ []
none_inv f [] e = refl
none_inv f (x ∷ xs) e =
    let w = split_some (at Listed start x) x (cut.front next (at Listed) (next start x) xs) (cut.pieces next (at Listed) (next start x) xs) (cut.pieces next (at Listed) (next start x) xs) in
    let c = each_some f w.0 w.1.0 [] (ap (each f) (sym w.1.1) ∙ e) in
    let wrong_is : [] ≡ c.0 ∷ c.1.0 = c.1.1 in absurd (cc)

-- ---- brackets

pub same_by : (v : Bool) (inner xs : List Symbol) → cond v (Some inner) None ≡ Some xs → xs ≡ inner
same_by true inner xs e = sym (some_same inner xs e)
same_by false inner xs e = no_answer xs e

pub closed_inv : (b : Bracket) (inner rest xs : List Symbol) → closed b inner rest ≡ Some xs → xs ≡ inner
closed_inv b inner [] xs e = no_answer xs e
closed_inv b inner (s.Close c ∷ []) xs e = same_by (is_same b c) inner xs e
closed_inv b inner (s.Close c ∷ z ∷ zs) xs e = no_answer xs e
closed_inv b inner ((s.Atom y) ∷ zs) xs e = no_answer xs e
closed_inv b inner ((s.Super y) ∷ zs) xs e = no_answer xs e
closed_inv b inner ((s.Method y) ∷ zs) xs e = no_answer xs e
closed_inv b inner ((s.Attribute y) ∷ zs) xs e = no_answer xs e
closed_inv b inner ((s.Sign y) ∷ zs) xs e = no_answer xs e
closed_inv b inner ((s.Factor y) ∷ zs) xs e = no_answer xs e
closed_inv b inner ((s.Compare y) ∷ zs) xs e = no_answer xs e
closed_inv b inner (s.Or ∷ zs) xs e = no_answer xs e
closed_inv b inner (s.And ∷ zs) xs e = no_answer xs e
closed_inv b inner (s.Not ∷ zs) xs e = no_answer xs e
closed_inv b inner (s.If ∷ zs) xs e = no_answer xs e
closed_inv b inner (s.Else ∷ zs) xs e = no_answer xs e
closed_inv b inner (s.Comma ∷ zs) xs e = no_answer xs e
closed_inv b inner (s.Colon ∷ zs) xs e = no_answer xs e
closed_inv b inner (s.Equal ∷ zs) xs e = no_answer xs e
closed_inv b inner ((s.Open y) ∷ zs) xs e = no_answer xs e
closed_inv b inner (s.Other ∷ zs) xs e = no_answer xs e

pub inside_whole : (b : Bracket) (zs xs : List Symbol) → Whole zs → inside b zs ≡ Some xs → Whole xs
unfolding inside
inside_whole b zs xs w e = subst Whole (sym (closed_inv b (front closing zs) (back closing zs) xs e)) (front_whole closing start zs w)

pub close_is : (c : Bracket) (inner xs : List Symbol) → closed Round inner (s.Close c ∷ []) ≡ Some xs → c ≡ Round
close_is Round inner xs e = refl
close_is Square inner xs e = no_answer xs e
close_is Brace inner xs e = no_answer xs e

pub closed_round : (inner rest xs : List Symbol) → closed Round inner rest ≡ Some xs → rest ≡ s.Close Round ∷ []
closed_round inner [] xs e = no_answer xs e
closed_round inner (s.Close c ∷ []) xs e = ap (λ b. s.Close b ∷ []) (close_is c inner xs e)
closed_round inner (s.Close c ∷ z ∷ zs) xs e = no_answer xs e
closed_round inner ((s.Atom y) ∷ zs) xs e = no_answer xs e
closed_round inner ((s.Super y) ∷ zs) xs e = no_answer xs e
closed_round inner ((s.Method y) ∷ zs) xs e = no_answer xs e
closed_round inner ((s.Attribute y) ∷ zs) xs e = no_answer xs e
closed_round inner ((s.Sign y) ∷ zs) xs e = no_answer xs e
closed_round inner ((s.Factor y) ∷ zs) xs e = no_answer xs e
closed_round inner ((s.Compare y) ∷ zs) xs e = no_answer xs e
closed_round inner (s.Or ∷ zs) xs e = no_answer xs e
closed_round inner (s.And ∷ zs) xs e = no_answer xs e
closed_round inner (s.Not ∷ zs) xs e = no_answer xs e
closed_round inner (s.If ∷ zs) xs e = no_answer xs e
closed_round inner (s.Else ∷ zs) xs e = no_answer xs e
closed_round inner (s.Comma ∷ zs) xs e = no_answer xs e
closed_round inner (s.Colon ∷ zs) xs e = no_answer xs e
closed_round inner (s.Equal ∷ zs) xs e = no_answer xs e
closed_round inner ((s.Open y) ∷ zs) xs e = no_answer xs e
closed_round inner (s.Other ∷ zs) xs e = no_answer xs e

-- nothing between round brackets
pub inside_nothing : (zs : List Symbol) → inside Round zs ≡ Some [] → zs ≡ s.Close Round ∷ []
unfolding inside
inside_nothing zs e =
    sym (front-back next closing start zs)
    ∙ ap (λ r. r ++ back closing zs) (sym (closed_inv Round (front closing zs) (back closing zs) [] e))
    ∙ closed_round (front closing zs) (back closing zs) [] e

-- what follows in a slot
abbrev pub Follows : Slot → List Symbol → Type 0
Follows (At l) rest = Unit {0}
Follows Callee rest = (gs : List Symbol) × (rest ≡ s.Open Round ∷ gs)
Follows Owner rest = (n : List ℕ) × ((gs : List Symbol) × (rest ≡ s.Method n ∷ gs))
Follows Lone rest = (n : List ℕ) × ((gs : List Symbol) × (rest ≡ s.Open Round ∷ s.Close Round ∷ s.Method n ∷ gs))

-- ---- where forms are

pub moved : (slot : Slot) (x y : Shape) (p : Printed) → x ≡ y → printed y ≡ p → is_bare_in slot p ≡ true → is_bare_in slot (printed x) ≡ true
moved slot x y p is eq h = ap (is_bare_in slot) (ap printed is ∙ eq) ∙ h

pub low : (l : Level) → nat_le (number l) 10 ≡ true
low Listed = refl
low Conditional = refl
low Disjunction = refl
low Conjunction = refl
low Negation = refl
low Comparison = refl
low Sum = refl
low Product = refl
low Signed = refl
low Postfix = refl

pub anywhere : (slot : Slot) (xs : List Symbol) → is_bare_in slot (plain_at Postfix xs) ≡ true
anywhere (At l) xs = low l
anywhere Callee xs = refl
anywhere Owner xs = refl
anywhere Lone xs = refl

pub atom_anywhere : (slot : Slot) (v : Atom) (rest : List Symbol) → Follows slot rest → Whole (s.Atom v ∷ rest) → is_bare_in slot (print_node (Shape-F.Atom v)) ≡ true
atom_anywhere (At l) v rest f w = low l
atom_anywhere Callee v rest f w = refl
atom_anywhere Owner v rest f w = refl
atom_anywhere Lone v rest f w = lone_by v (subst (λ r. Whole (s.Atom v ∷ r)) f.1.1 w).0
  where
    lone_by : (v : Atom) → holds (s.Atom v) (s.Open Round ∷ s.Close Round ∷ s.Method f.0 ∷ f.1.0) ≡ true → not (is_super_name v) ≡ true
    lone_by a.NoneLit h = refl
    lone_by (a.BoolLit b) h = refl
    lone_by (a.IntLit n) h = refl
    lone_by (a.StrLit z) h = refl
    lone_by (a.Name n) h = super_by (is_super n) h
      where
        super_by : (v : Bool) → not (v && true) ≡ true → not v ≡ true
        super_by false h = refl
        super_by true h = absurd (cc)
