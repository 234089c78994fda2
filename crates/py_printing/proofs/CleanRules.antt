-- What sound symbols are read as is printed by sound symbols: by each rule of the grammar.
use Rattle.std.proofs.Common.{◌≡◌, sym, refl, subst, ℕ, zero, suc, Bool, true, false, cond, List, [], ◌∷◌, ◌++◌, Option, Some, None}
use Rattle.std.specs.Prelude.{map}
use Rattle.py_cut.specs.Cut as cut
use Rattle.py_cut.proofs.Cuts.{front-back, last_cut-joined}
use Rattle.py_language.specs.declared.shape.Atom.TheVariants as a
use Rattle.py_language.specs.declared.shape.Bracket.{Bracket}
use Rattle.py_language.specs.declared.shape.Bracket.TheVariants.{Round, Square, Brace}
use Rattle.py_language.specs.declared.shape.Shape.{Shape}
use Rattle.py_language.specs.declared.shape.Shape.TheVariants as e
use Rattle.py_language.specs.declared.shape.Symbol.{Symbol}
use Rattle.py_language.specs.declared.shape.Symbol.TheVariants as s
use Rattle.py_language.specs.TreesPlaces.{Level, Listed, Conditional, Disjunction, Conjunction, Negation, Comparison, Sum, Product, Signed, Postfix, Place, start, next, at, below, closing, colon, front, back, pieces, last_cut, split, trimmed, is_same}
use Rattle.py_language.specs.Trees.{◌>>=◌, operator, comparator, closed, inside, each, comma_list, in_two, in_all, tuple_or, rounded, argument, arguments, entry_by, entry, atom, bound, subscript_by, subscript, group, at_level, listed, conditional, disjunction, conjunction, negation, comparison, sum, product, signed, postfix, otherwise, chosen, shape}
use Rattle.py_printing.specs.Printing.{Each, IfThere}
use Rattle.py_printing.proofs.CleanForms.{clean, Clean, CleanAs, EntryAs, ComparedAs, ArgAs, atom_as, list_as, tuple_as, dict_as, attr_as, index_as, slice_as, call_as, method_as, super_as, unary_as, not_as, binary_as, and_as, or_as, compare_as, cond_as}

-- ---- answers

-- what holds of an answer, if there is one
abbrev pub All : {A : Type 0} → (A → Type 0) → Option A → Type 0
All P None = Unit {0}
All P (Some x) = P x

-- an answer, and another one made from it
both : {A B : Type 0} (P : A → Type 0) (Q : B → Type 0) (o : Option A) (f : A → Option B) → All P o → ((v : A) → P v → All Q (f v)) → All Q (o >>= f)
both P Q None f h g = tt
both P Q (Some v) f h g = g v h

each_all : {A B : Type 0} (W : A → Type 0) (f : A → Option B) (P : B → Type 0) → ((t : A) → W t → All P (f t)) → (ts : List A) → Each W ts → All (Each P) (each f ts)
each_all W f P g [] h = tt
each_all W f P g (t ∷ ts) h =
    both P (Each P) (f t) (λ first. each f ts >>= λ others. Some (first ∷ others)) (g t h.0)
    (λ v k. both (Each P) (Each P) (each f ts) (λ others. Some (v ∷ others)) (each_all W f P g ts h.1) (λ vs ks. (k, ks)))

-- ---- parts of sound symbols

clean_front : (xs ys : List Symbol) → Clean (xs ++ ys) → Clean xs
clean_front [] ys h = tt
clean_front (x ∷ xs) ys h = (h.0, clean_front xs ys h.1)

clean_back : (xs ys : List Symbol) → Clean (xs ++ ys) → Clean ys
clean_back [] ys h = h
clean_back (x ∷ xs) ys h = clean_back xs ys h.1

abbrev CleanPiece : Symbol × List Symbol → Type 0
CleanPiece q = Clean q.1

module _ (p : Place → Symbol → Bool) where
  front_clean : (w : Place) (xs : List Symbol) → Clean xs → Clean (cut.front next p w xs)
  front_clean w xs h = clean_front (cut.front next p w xs) (cut.back next p w xs) (subst Clean (sym (front-back next p w xs)) h)

  back_clean : (w : Place) (xs : List Symbol) → Clean xs → Clean (cut.back next p w xs)
  back_clean w xs h = clean_back (cut.front next p w xs) (cut.back next p w xs) (subst Clean (sym (front-back next p w xs)) h)

  pieces_by : (v : Bool) (q : Symbol × List Symbol) (qs : List (Symbol × List Symbol)) → CleanPiece q → Each CleanPiece qs → Each CleanPiece (cond v (q ∷ qs) qs)
  pieces_by true q qs h g = (h, g)
  pieces_by false q qs h g = g

  pieces_clean : (w : Place) (xs : List Symbol) → Clean xs → Each CleanPiece (cut.pieces next p w xs)
  pieces_clean w [] h = tt
  pieces_clean w (x ∷ xs) h = pieces_by (p w x) (x, cut.front next p (next w x) xs) (cut.pieces next p (next w x) xs) (front_clean (next w x) xs h.1) (pieces_clean (next w x) xs h.1)

seconds : (qs : List (Symbol × List Symbol)) → Each CleanPiece qs → Each Clean (map (λ (q : Symbol × List Symbol). q.1) qs)
seconds [] h = tt
seconds (q ∷ qs) h = (h.0, seconds qs h.1)

trimmed_clean : (ts : List (List Symbol)) → Each Clean ts → Each Clean (trimmed ts)
trimmed_clean [] h = tt
trimmed_clean ([] ∷ []) h = tt
trimmed_clean ([] ∷ u ∷ us) h = (h.0, trimmed_clean (u ∷ us) h.1)
trimmed_clean ((x ∷ t) ∷ ts) h = (h.0, trimmed_clean ts h.1)

comma_all : {B : Type 0} (f : List Symbol → Option B) (P : B → Type 0) → ((t : List Symbol) → Clean t → All P (f t)) → (xs : List Symbol) → Clean xs → All (Each P) (comma_list f xs)
comma_all f P g xs h =
    each_all Clean f P g (trimmed (split Listed xs))
    (trimmed_clean (split Listed xs) (front_clean (at Listed) start xs h, seconds (pieces (at Listed) xs) (pieces_clean (at Listed) start xs h)))

same_by : (v : Bool) (inner : List Symbol) → Clean inner → All Clean (cond v (Some inner) None)
same_by true inner h = h
same_by false inner h = tt

closed_clean : (b : Bracket) (inner rest : List Symbol) → Clean inner → All Clean (closed b inner rest)
closed_clean b inner [] h = tt
closed_clean b inner (s.Close c ∷ []) h = same_by (is_same b c) inner h
closed_clean b inner (s.Close c ∷ z ∷ zs) h = tt
closed_clean b inner ((s.Atom u) ∷ zs) h = tt
closed_clean b inner ((s.Super u) ∷ zs) h = tt
closed_clean b inner ((s.Method u) ∷ zs) h = tt
closed_clean b inner ((s.Attribute u) ∷ zs) h = tt
closed_clean b inner ((s.Sign u) ∷ zs) h = tt
closed_clean b inner ((s.Factor u) ∷ zs) h = tt
closed_clean b inner ((s.Compare u) ∷ zs) h = tt
closed_clean b inner ((s.Open u) ∷ zs) h = tt
closed_clean b inner (s.Or ∷ zs) h = tt
closed_clean b inner (s.And ∷ zs) h = tt
closed_clean b inner (s.Not ∷ zs) h = tt
closed_clean b inner (s.If ∷ zs) h = tt
closed_clean b inner (s.Else ∷ zs) h = tt
closed_clean b inner (s.Comma ∷ zs) h = tt
closed_clean b inner (s.Colon ∷ zs) h = tt
closed_clean b inner (s.Equal ∷ zs) h = tt
closed_clean b inner (s.Other ∷ zs) h = tt

inside_clean : (b : Bracket) (xs : List Symbol) → Clean xs → All Clean (inside b xs)
unfolding inside
inside_clean b xs h = closed_clean b (front closing xs) (back closing xs) (front_clean closing start xs h)

abbrev Shaped : Option Shape → Type 0
Shaped o = All CleanAs o

-- what is made of an operand
abbrev MadeAs : (Shape → Shape) → Type 0
MadeAs make = (x : Shape) → CleanAs x → CleanAs (make x)

module _ (part : Level → List Symbol → Option Shape) (ih : (l : Level) (xs : List Symbol) → Clean xs → Shaped (part l xs)) where
  -- ---- atoms and what is in brackets

  tuple_all : (whole : List Symbol → Option Shape) (ps : List (Symbol × List Symbol)) (xs : List Symbol) → Clean xs → Shaped (whole xs) → Shaped (tuple_or part whole ps xs)
  tuple_all whole [] xs h w = w
  tuple_all whole (p ∷ ps) xs h w = both (Each CleanAs) CleanAs (comma_list (part Conditional) xs) (λ all. Some (e.TupleLit all)) (comma_all (part Conditional) CleanAs (ih Conditional) xs h) tuple_as

  rounded_all : (xs : List Symbol) → Clean xs → Shaped (rounded part xs)
  rounded_all [] h = tuple_as [] tt
  rounded_all (x ∷ xs) h = tuple_all (part Conditional) (pieces (at Listed) (x ∷ xs)) (x ∷ xs) h (ih Conditional (x ∷ xs) h)

  plain_all : (xs : List Symbol) → Clean xs → All ArgAs (part Conditional xs >>= λ x. Some (None, x))
  plain_all xs h = both CleanAs ArgAs (part Conditional xs) (λ x. Some (None, x)) (ih Conditional xs h) (λ x a. (tt, a))

  argument_all : (xs : List Symbol) → Clean xs → All ArgAs (argument part xs)
  argument_all [] h = plain_all [] h
  argument_all ((s.Super u) ∷ xs) h = plain_all ((s.Super u) ∷ xs) h
  argument_all ((s.Method u) ∷ xs) h = plain_all ((s.Method u) ∷ xs) h
  argument_all ((s.Attribute u) ∷ xs) h = plain_all ((s.Attribute u) ∷ xs) h
  argument_all ((s.Sign u) ∷ xs) h = plain_all ((s.Sign u) ∷ xs) h
  argument_all ((s.Factor u) ∷ xs) h = plain_all ((s.Factor u) ∷ xs) h
  argument_all ((s.Compare u) ∷ xs) h = plain_all ((s.Compare u) ∷ xs) h
  argument_all ((s.Open u) ∷ xs) h = plain_all ((s.Open u) ∷ xs) h
  argument_all ((s.Close u) ∷ xs) h = plain_all ((s.Close u) ∷ xs) h
  argument_all (s.Or ∷ xs) h = plain_all (s.Or ∷ xs) h
  argument_all (s.And ∷ xs) h = plain_all (s.And ∷ xs) h
  argument_all (s.Not ∷ xs) h = plain_all (s.Not ∷ xs) h
  argument_all (s.If ∷ xs) h = plain_all (s.If ∷ xs) h
  argument_all (s.Else ∷ xs) h = plain_all (s.Else ∷ xs) h
  argument_all (s.Comma ∷ xs) h = plain_all (s.Comma ∷ xs) h
  argument_all (s.Colon ∷ xs) h = plain_all (s.Colon ∷ xs) h
  argument_all (s.Equal ∷ xs) h = plain_all (s.Equal ∷ xs) h
  argument_all (s.Other ∷ xs) h = plain_all (s.Other ∷ xs) h
  argument_all (s.Atom a.NoneLit ∷ xs) h = plain_all (s.Atom a.NoneLit ∷ xs) h
  argument_all (s.Atom (a.BoolLit b) ∷ xs) h = plain_all (s.Atom (a.BoolLit b) ∷ xs) h
  argument_all (s.Atom (a.IntLit n) ∷ xs) h = plain_all (s.Atom (a.IntLit n) ∷ xs) h
  argument_all (s.Atom (a.StrLit z) ∷ xs) h = plain_all (s.Atom (a.StrLit z) ∷ xs) h
  argument_all (s.Atom (a.Name n) ∷ []) h = plain_all (s.Atom (a.Name n) ∷ []) h
  argument_all (s.Atom (a.Name n) ∷ (s.Atom u) ∷ xs) h = plain_all (s.Atom (a.Name n) ∷ (s.Atom u) ∷ xs) h
  argument_all (s.Atom (a.Name n) ∷ (s.Super u) ∷ xs) h = plain_all (s.Atom (a.Name n) ∷ (s.Super u) ∷ xs) h
  argument_all (s.Atom (a.Name n) ∷ (s.Method u) ∷ xs) h = plain_all (s.Atom (a.Name n) ∷ (s.Method u) ∷ xs) h
  argument_all (s.Atom (a.Name n) ∷ (s.Attribute u) ∷ xs) h = plain_all (s.Atom (a.Name n) ∷ (s.Attribute u) ∷ xs) h
  argument_all (s.Atom (a.Name n) ∷ (s.Sign u) ∷ xs) h = plain_all (s.Atom (a.Name n) ∷ (s.Sign u) ∷ xs) h
  argument_all (s.Atom (a.Name n) ∷ (s.Factor u) ∷ xs) h = plain_all (s.Atom (a.Name n) ∷ (s.Factor u) ∷ xs) h
  argument_all (s.Atom (a.Name n) ∷ (s.Compare u) ∷ xs) h = plain_all (s.Atom (a.Name n) ∷ (s.Compare u) ∷ xs) h
  argument_all (s.Atom (a.Name n) ∷ (s.Open u) ∷ xs) h = plain_all (s.Atom (a.Name n) ∷ (s.Open u) ∷ xs) h
  argument_all (s.Atom (a.Name n) ∷ (s.Close u) ∷ xs) h = plain_all (s.Atom (a.Name n) ∷ (s.Close u) ∷ xs) h
  argument_all (s.Atom (a.Name n) ∷ s.Or ∷ xs) h = plain_all (s.Atom (a.Name n) ∷ s.Or ∷ xs) h
  argument_all (s.Atom (a.Name n) ∷ s.And ∷ xs) h = plain_all (s.Atom (a.Name n) ∷ s.And ∷ xs) h
  argument_all (s.Atom (a.Name n) ∷ s.Not ∷ xs) h = plain_all (s.Atom (a.Name n) ∷ s.Not ∷ xs) h
  argument_all (s.Atom (a.Name n) ∷ s.If ∷ xs) h = plain_all (s.Atom (a.Name n) ∷ s.If ∷ xs) h
  argument_all (s.Atom (a.Name n) ∷ s.Else ∷ xs) h = plain_all (s.Atom (a.Name n) ∷ s.Else ∷ xs) h
  argument_all (s.Atom (a.Name n) ∷ s.Comma ∷ xs) h = plain_all (s.Atom (a.Name n) ∷ s.Comma ∷ xs) h
  argument_all (s.Atom (a.Name n) ∷ s.Colon ∷ xs) h = plain_all (s.Atom (a.Name n) ∷ s.Colon ∷ xs) h
  argument_all (s.Atom (a.Name n) ∷ s.Other ∷ xs) h = plain_all (s.Atom (a.Name n) ∷ s.Other ∷ xs) h
  argument_all (s.Atom (a.Name n) ∷ s.Equal ∷ xs) h = both CleanAs ArgAs (part Conditional xs) (λ x. Some (Some n, x)) (ih Conditional xs h.1.1) (λ x a. (h.0, a))

  arguments_all : (xs : List Symbol) → Clean xs → All (Each ArgAs) (arguments part xs)
  arguments_all xs h = comma_all (argument part) ArgAs argument_all xs h

  entry_by_all : (key rest : List Symbol) → Clean key → Clean rest → All EntryAs (entry_by part key rest)
  entry_by_all key [] h g = tt
  entry_by_all key (s.Colon ∷ value) h g =
      both CleanAs EntryAs (part Conditional key) (λ k. part Conditional value >>= λ v. Some (k, v)) (ih Conditional key h)
      (λ k a. both CleanAs EntryAs (part Conditional value) (λ v. Some (k, v)) (ih Conditional value g.1) (λ v b. (a, b)))
  entry_by_all key ((s.Atom u) ∷ zs) h g = tt
  entry_by_all key ((s.Super u) ∷ zs) h g = tt
  entry_by_all key ((s.Method u) ∷ zs) h g = tt
  entry_by_all key ((s.Attribute u) ∷ zs) h g = tt
  entry_by_all key ((s.Sign u) ∷ zs) h g = tt
  entry_by_all key ((s.Factor u) ∷ zs) h g = tt
  entry_by_all key ((s.Compare u) ∷ zs) h g = tt
  entry_by_all key ((s.Open u) ∷ zs) h g = tt
  entry_by_all key ((s.Close u) ∷ zs) h g = tt
  entry_by_all key (s.Or ∷ zs) h g = tt
  entry_by_all key (s.And ∷ zs) h g = tt
  entry_by_all key (s.Not ∷ zs) h g = tt
  entry_by_all key (s.If ∷ zs) h g = tt
  entry_by_all key (s.Else ∷ zs) h g = tt
  entry_by_all key (s.Comma ∷ zs) h g = tt
  entry_by_all key (s.Equal ∷ zs) h g = tt
  entry_by_all key (s.Other ∷ zs) h g = tt

  entry_all : (xs : List Symbol) → Clean xs → All EntryAs (entry part xs)
  entry_all xs h = entry_by_all (front colon xs) (back colon xs) (front_clean colon start xs h) (back_clean colon start xs h)

  -- what is in brackets, and what is made of it
  in_brackets : {B : Type 0} (P : B → Type 0) (b : Bracket) (xs : List Symbol) (f : List Symbol → Option B) → Clean xs → ((v : List Symbol) → Clean v → All P (f v)) → All P (inside b xs >>= f)
  in_brackets P b xs f h g = both Clean P (inside b xs) f (inside_clean b xs h) g

  -- arguments in brackets, and what is made of them
  with_arguments : {B : Type 0} (P : B → Type 0) (xs : List Symbol) (f : List (Option (List ℕ) × Shape) → B) → Clean xs → ((args : List (Option (List ℕ) × Shape)) → Each ArgAs args → P (f args)) → All P (inside Round xs >>= λ v. arguments part v >>= λ args. Some (f args))
  with_arguments P xs f h g = in_brackets P Round xs (λ v. arguments part v >>= λ args. Some (f args)) h (λ v k. both (Each ArgAs) P (arguments part v) (λ args. Some (f args)) (arguments_all v k) g)

  atom_all : (xs : List Symbol) → Clean xs → Shaped (atom part xs)
  atom_all [] h = tt
  atom_all (s.Atom v ∷ []) h = atom_as v h.0
  atom_all (s.Atom v ∷ z ∷ zs) h = tt
  atom_all (s.Super n ∷ []) h = tt
  atom_all (s.Super n ∷ s.Open Round ∷ zs) h = with_arguments CleanAs zs (e.Super n) h.1.1 (λ args k. super_as n args h.0 k)
  atom_all (s.Super n ∷ s.Open Square ∷ zs) h = tt
  atom_all (s.Super n ∷ s.Open Brace ∷ zs) h = tt
  atom_all (s.Super n ∷ (s.Atom u) ∷ zs) h = tt
  atom_all (s.Super n ∷ (s.Super u) ∷ zs) h = tt
  atom_all (s.Super n ∷ (s.Method u) ∷ zs) h = tt
  atom_all (s.Super n ∷ (s.Attribute u) ∷ zs) h = tt
  atom_all (s.Super n ∷ (s.Sign u) ∷ zs) h = tt
  atom_all (s.Super n ∷ (s.Factor u) ∷ zs) h = tt
  atom_all (s.Super n ∷ (s.Compare u) ∷ zs) h = tt
  atom_all (s.Super n ∷ (s.Close u) ∷ zs) h = tt
  atom_all (s.Super n ∷ s.Or ∷ zs) h = tt
  atom_all (s.Super n ∷ s.And ∷ zs) h = tt
  atom_all (s.Super n ∷ s.Not ∷ zs) h = tt
  atom_all (s.Super n ∷ s.If ∷ zs) h = tt
  atom_all (s.Super n ∷ s.Else ∷ zs) h = tt
  atom_all (s.Super n ∷ s.Comma ∷ zs) h = tt
  atom_all (s.Super n ∷ s.Colon ∷ zs) h = tt
  atom_all (s.Super n ∷ s.Equal ∷ zs) h = tt
  atom_all (s.Super n ∷ s.Other ∷ zs) h = tt
  atom_all (s.Open Round ∷ zs) h = in_brackets CleanAs Round zs (rounded part) h.1 rounded_all
  atom_all (s.Open Square ∷ zs) h = in_brackets CleanAs Square zs (λ v. comma_list (part Conditional) v >>= λ all. Some (e.ListLit all)) h.1 (λ v k. both (Each CleanAs) CleanAs (comma_list (part Conditional) v) (λ all. Some (e.ListLit all)) (comma_all (part Conditional) CleanAs (ih Conditional) v k) list_as)
  atom_all (s.Open Brace ∷ zs) h = in_brackets CleanAs Brace zs (λ v. comma_list (entry part) v >>= λ all. Some (e.DictLit all)) h.1 (λ v k. both (Each EntryAs) CleanAs (comma_list (entry part) v) (λ all. Some (e.DictLit all)) (comma_all (entry part) EntryAs entry_all v k) dict_as)
  atom_all ((s.Method u) ∷ zs) h = tt
  atom_all ((s.Attribute u) ∷ zs) h = tt
  atom_all ((s.Sign u) ∷ zs) h = tt
  atom_all ((s.Factor u) ∷ zs) h = tt
  atom_all ((s.Compare u) ∷ zs) h = tt
  atom_all ((s.Close u) ∷ zs) h = tt
  atom_all (s.Or ∷ zs) h = tt
  atom_all (s.And ∷ zs) h = tt
  atom_all (s.Not ∷ zs) h = tt
  atom_all (s.If ∷ zs) h = tt
  atom_all (s.Else ∷ zs) h = tt
  atom_all (s.Comma ∷ zs) h = tt
  atom_all (s.Colon ∷ zs) h = tt
  atom_all (s.Equal ∷ zs) h = tt
  atom_all (s.Other ∷ zs) h = tt

  -- ---- groups

  bound_all : (xs : List Symbol) → Clean xs → All (IfThere CleanAs) (bound part xs)
  bound_all [] h = tt
  bound_all (x ∷ xs) h = both CleanAs (IfThere CleanAs) (part Conditional (x ∷ xs)) (λ x. Some (Some x)) (ih Conditional (x ∷ xs) h) (λ x a. a)

  subscript_by_all : (whole low rest : List Symbol) → Clean whole → Clean low → Clean rest → All MadeAs (subscript_by part whole low rest)
  subscript_by_all whole low [] h g k = both CleanAs MadeAs (part Listed whole) (λ i. Some (λ x. e.Index x i)) (ih Listed whole h) (λ i b x a. index_as x i a b)
  subscript_by_all whole low (s.Colon ∷ high) h g k =
      both (IfThere CleanAs) MadeAs (bound part low) (λ a. bound part high >>= λ b. Some (λ x. e.Slice x a b)) (bound_all low g)
      (λ u b. both (IfThere CleanAs) MadeAs (bound part high) (λ v. Some (λ x. e.Slice x u v)) (bound_all high k.1) (λ v c x a. slice_as x u v a b c))
  subscript_by_all whole low ((s.Atom u) ∷ zs) h g k = tt
  subscript_by_all whole low ((s.Super u) ∷ zs) h g k = tt
  subscript_by_all whole low ((s.Method u) ∷ zs) h g k = tt
  subscript_by_all whole low ((s.Attribute u) ∷ zs) h g k = tt
  subscript_by_all whole low ((s.Sign u) ∷ zs) h g k = tt
  subscript_by_all whole low ((s.Factor u) ∷ zs) h g k = tt
  subscript_by_all whole low ((s.Compare u) ∷ zs) h g k = tt
  subscript_by_all whole low ((s.Open u) ∷ zs) h g k = tt
  subscript_by_all whole low ((s.Close u) ∷ zs) h g k = tt
  subscript_by_all whole low (s.Or ∷ zs) h g k = tt
  subscript_by_all whole low (s.And ∷ zs) h g k = tt
  subscript_by_all whole low (s.Not ∷ zs) h g k = tt
  subscript_by_all whole low (s.If ∷ zs) h g k = tt
  subscript_by_all whole low (s.Else ∷ zs) h g k = tt
  subscript_by_all whole low (s.Comma ∷ zs) h g k = tt
  subscript_by_all whole low (s.Equal ∷ zs) h g k = tt
  subscript_by_all whole low (s.Other ∷ zs) h g k = tt

  subscript_all : (xs : List Symbol) → Clean xs → All MadeAs (subscript part xs)
  subscript_all xs h = subscript_by_all xs (front colon xs) (back colon xs) h (front_clean colon start xs h) (back_clean colon start xs h)

  group_all : (g : Symbol) (gs : List Symbol) → clean g ≡ true → Clean gs → All MadeAs (group part g gs)
  group_all (s.Attribute n) [] h k = λ x a. attr_as x n a h
  group_all (s.Attribute n) (z ∷ zs) h k = tt
  group_all (s.Method n) [] h k = tt
  group_all (s.Method n) (s.Open Round ∷ zs) h k = with_arguments MadeAs zs (λ args x. e.Method x n args) k.1 (λ args c x a. method_as x n args a h c)
  group_all (s.Method n) (s.Open Square ∷ zs) h k = tt
  group_all (s.Method n) (s.Open Brace ∷ zs) h k = tt
  group_all (s.Method n) ((s.Atom u) ∷ zs) h k = tt
  group_all (s.Method n) ((s.Super u) ∷ zs) h k = tt
  group_all (s.Method n) ((s.Method u) ∷ zs) h k = tt
  group_all (s.Method n) ((s.Attribute u) ∷ zs) h k = tt
  group_all (s.Method n) ((s.Sign u) ∷ zs) h k = tt
  group_all (s.Method n) ((s.Factor u) ∷ zs) h k = tt
  group_all (s.Method n) ((s.Compare u) ∷ zs) h k = tt
  group_all (s.Method n) ((s.Close u) ∷ zs) h k = tt
  group_all (s.Method n) (s.Or ∷ zs) h k = tt
  group_all (s.Method n) (s.And ∷ zs) h k = tt
  group_all (s.Method n) (s.Not ∷ zs) h k = tt
  group_all (s.Method n) (s.If ∷ zs) h k = tt
  group_all (s.Method n) (s.Else ∷ zs) h k = tt
  group_all (s.Method n) (s.Comma ∷ zs) h k = tt
  group_all (s.Method n) (s.Colon ∷ zs) h k = tt
  group_all (s.Method n) (s.Equal ∷ zs) h k = tt
  group_all (s.Method n) (s.Other ∷ zs) h k = tt
  group_all (s.Open Round) gs h k = with_arguments MadeAs gs (λ args x. e.Call x args) k (λ args c x a. call_as x args a c)
  group_all (s.Open Square) gs h k = in_brackets MadeAs Square gs (subscript part) k subscript_all
  group_all (s.Open Brace) gs h k = tt
  group_all (s.Atom u) gs h k = tt
  group_all (s.Super u) gs h k = tt
  group_all (s.Sign u) gs h k = tt
  group_all (s.Factor u) gs h k = tt
  group_all (s.Compare u) gs h k = tt
  group_all (s.Close u) gs h k = tt
  group_all s.Or gs h k = tt
  group_all s.And gs h k = tt
  group_all s.Not gs h k = tt
  group_all s.If gs h k = tt
  group_all s.Else gs h k = tt
  group_all s.Comma gs h k = tt
  group_all s.Colon gs h k = tt
  group_all s.Equal gs h k = tt
  group_all s.Other gs h k = tt

  -- cut at the last mark: both sides and the mark are sound
  two_all : (whole left : List Symbol → Option Shape) (node : Shape → Symbol → List Symbol → Option Shape) (p : Place → Symbol → Bool) (xs : List Symbol) → Clean xs → Shaped (whole xs) → ((ys : List Symbol) → Clean ys → Shaped (left ys))
      → ((y : Shape) (g : Symbol) (gs : List Symbol) → CleanAs y → clean g ≡ true → Clean gs → Shaped (node y g gs)) → Shaped (in_two whole left node (last_cut p xs) xs)
  two_all whole left node p xs h w l n = by (last_cut p xs) refl
    where
      by : (c : Option (List Symbol × Symbol × List Symbol)) → last_cut p xs ≡ c → Shaped (in_two whole left node c xs)
      by None k = w
      by (Some c) k =
          let both_sides : Clean (c.0 ++ c.1 ∷ c.2) = subst Clean (sym (last_cut-joined next p start xs c k)) h in
          let rest = clean_back c.0 (c.1 ∷ c.2) both_sides in
          both CleanAs CleanAs (left c.0) (λ y. node y c.1 c.2) (l c.0 (clean_front c.0 (c.1 ∷ c.2) both_sides)) (λ y a. n y c.1 c.2 a rest.0 rest.1)

  postfix_all : (xs : List Symbol) → Clean xs → Shaped (postfix part xs)
  unfolding postfix
  postfix_all xs h = two_all (atom part) (part Postfix) (λ x g zs. group part g zs >>= λ made. Some (made x)) (at Postfix) xs h (atom_all xs h) (ih Postfix)
      (λ y g gs a k ks. both MadeAs CleanAs (group part g gs) (λ made. Some (made y)) (group_all g gs k ks) (λ make m. m y a))

  -- ---- the levels above

  signed_all : (xs : List Symbol) → Clean xs → Shaped (signed part xs)
  unfolding signed
  signed_all [] h = postfix_all [] h
  signed_all (s.Sign g ∷ xs) h = both CleanAs CleanAs (part Signed xs) (λ x. Some (e.Unary g x)) (ih Signed xs h.1) (unary_as g)
  signed_all ((s.Atom u) ∷ xs) h = postfix_all ((s.Atom u) ∷ xs) h
  signed_all ((s.Super u) ∷ xs) h = postfix_all ((s.Super u) ∷ xs) h
  signed_all ((s.Method u) ∷ xs) h = postfix_all ((s.Method u) ∷ xs) h
  signed_all ((s.Attribute u) ∷ xs) h = postfix_all ((s.Attribute u) ∷ xs) h
  signed_all ((s.Factor u) ∷ xs) h = postfix_all ((s.Factor u) ∷ xs) h
  signed_all ((s.Compare u) ∷ xs) h = postfix_all ((s.Compare u) ∷ xs) h
  signed_all ((s.Open u) ∷ xs) h = postfix_all ((s.Open u) ∷ xs) h
  signed_all ((s.Close u) ∷ xs) h = postfix_all ((s.Close u) ∷ xs) h
  signed_all (s.Or ∷ xs) h = postfix_all (s.Or ∷ xs) h
  signed_all (s.And ∷ xs) h = postfix_all (s.And ∷ xs) h
  signed_all (s.Not ∷ xs) h = postfix_all (s.Not ∷ xs) h
  signed_all (s.If ∷ xs) h = postfix_all (s.If ∷ xs) h
  signed_all (s.Else ∷ xs) h = postfix_all (s.Else ∷ xs) h
  signed_all (s.Comma ∷ xs) h = postfix_all (s.Comma ∷ xs) h
  signed_all (s.Colon ∷ xs) h = postfix_all (s.Colon ∷ xs) h
  signed_all (s.Equal ∷ xs) h = postfix_all (s.Equal ∷ xs) h
  signed_all (s.Other ∷ xs) h = postfix_all (s.Other ∷ xs) h

  binary_all : (l : Level) (y : Shape) (g : Symbol) (gs : List Symbol) → CleanAs y → Clean gs → Shaped (part l gs >>= λ right. Some (e.Binary (operator g) y right))
  binary_all l y g gs a k = both CleanAs CleanAs (part l gs) (λ right. Some (e.Binary (operator g) y right)) (ih l gs k) (λ z b. binary_as (operator g) y z a b)

  product_all : (xs : List Symbol) → Clean xs → Shaped (product part xs)
  unfolding product
  product_all xs h = two_all (signed part) (part Product) (λ y g gs. part Signed gs >>= λ right. Some (e.Binary (operator g) y right)) (at Product) xs h (signed_all xs h) (ih Product) (λ y g gs a k ks. binary_all Signed y g gs a ks)

  sum_all : (xs : List Symbol) → Clean xs → Shaped (sum part xs)
  unfolding sum
  sum_all xs h = two_all (product part) (part Sum) (λ y g gs. part Product gs >>= λ right. Some (e.Binary (operator g) y right)) (at Sum) xs h (product_all xs h) (ih Sum) (λ y g gs a k ks. binary_all Product y g gs a ks)

  -- cut at each mark
  many_all : {B : Type 0} (P : B → Type 0) (whole head : List Symbol → Option Shape) (piece : Symbol × List Symbol → Option B) (node : Shape → List B → Shape) (p : Place → Symbol → Bool) (xs : List Symbol) → Clean xs → Shaped (whole xs)
      → ((ys : List Symbol) → Clean ys → Shaped (head ys)) → ((q : Symbol × List Symbol) → CleanPiece q → All P (piece q)) → ((y : Shape) (others : List B) → CleanAs y → Each P others → CleanAs (node y others)) → Shaped (in_all whole head piece node (front p xs) (pieces p xs) xs)
  many_all P whole head piece node p xs h w l k n = by (front p xs) (pieces p xs) (front_clean p start xs h) (pieces_clean p start xs h)
    where
      by : (first : List Symbol) (qs : List (Symbol × List Symbol)) → Clean first → Each CleanPiece qs → Shaped (in_all whole head piece node first qs xs)
      by first [] c d = w
      by first (q ∷ qs) c d =
          both CleanAs CleanAs (head first) (λ x. each piece (q ∷ qs) >>= λ others. Some (node x others)) (l first c)
          (λ x a. both (Each P) CleanAs (each piece (q ∷ qs)) (λ others. Some (node x others)) (each_all CleanPiece piece P k (q ∷ qs) d) (λ others b. n x others a b))

  comparison_all : (xs : List Symbol) → Clean xs → Shaped (comparison part xs)
  unfolding comparison
  comparison_all xs h = many_all ComparedAs (sum part) (part Sum) (λ p. part Sum p.1 >>= λ x. Some (comparator p.0, x)) e.Compare (at Comparison) xs h (sum_all xs h) (ih Sum)
      (λ q c. both CleanAs ComparedAs (part Sum q.1) (λ x. Some (comparator q.0, x)) (ih Sum q.1 c) (λ x a. a)) compare_as

  negation_all : (xs : List Symbol) → Clean xs → Shaped (negation part xs)
  unfolding negation
  negation_all [] h = comparison_all [] h
  negation_all (s.Not ∷ xs) h = both CleanAs CleanAs (part Negation xs) (λ x. Some (e.Not x)) (ih Negation xs h.1) not_as
  negation_all ((s.Atom u) ∷ xs) h = comparison_all ((s.Atom u) ∷ xs) h
  negation_all ((s.Super u) ∷ xs) h = comparison_all ((s.Super u) ∷ xs) h
  negation_all ((s.Method u) ∷ xs) h = comparison_all ((s.Method u) ∷ xs) h
  negation_all ((s.Attribute u) ∷ xs) h = comparison_all ((s.Attribute u) ∷ xs) h
  negation_all ((s.Sign u) ∷ xs) h = comparison_all ((s.Sign u) ∷ xs) h
  negation_all ((s.Factor u) ∷ xs) h = comparison_all ((s.Factor u) ∷ xs) h
  negation_all ((s.Compare u) ∷ xs) h = comparison_all ((s.Compare u) ∷ xs) h
  negation_all ((s.Open u) ∷ xs) h = comparison_all ((s.Open u) ∷ xs) h
  negation_all ((s.Close u) ∷ xs) h = comparison_all ((s.Close u) ∷ xs) h
  negation_all (s.Or ∷ xs) h = comparison_all (s.Or ∷ xs) h
  negation_all (s.And ∷ xs) h = comparison_all (s.And ∷ xs) h
  negation_all (s.If ∷ xs) h = comparison_all (s.If ∷ xs) h
  negation_all (s.Else ∷ xs) h = comparison_all (s.Else ∷ xs) h
  negation_all (s.Comma ∷ xs) h = comparison_all (s.Comma ∷ xs) h
  negation_all (s.Colon ∷ xs) h = comparison_all (s.Colon ∷ xs) h
  negation_all (s.Equal ∷ xs) h = comparison_all (s.Equal ∷ xs) h
  negation_all (s.Other ∷ xs) h = comparison_all (s.Other ∷ xs) h

  conjunction_all : (xs : List Symbol) → Clean xs → Shaped (conjunction part xs)
  unfolding conjunction
  conjunction_all xs h = many_all CleanAs (negation part) (part Negation) (λ p. part Negation p.1) (λ x others. e.And (x ∷ others)) (at Conjunction) xs h (negation_all xs h) (ih Negation) (λ q c. ih Negation q.1 c) (λ x others a b. and_as (x ∷ others) (a, b))

  disjunction_all : (xs : List Symbol) → Clean xs → Shaped (disjunction part xs)
  unfolding disjunction
  disjunction_all xs h = many_all CleanAs (conjunction part) (part Conjunction) (λ p. part Conjunction p.1) (λ x others. e.Or (x ∷ others)) (at Disjunction) xs h (conjunction_all xs h) (ih Conjunction) (λ q c. ih Conjunction q.1 c) (λ x others a b. or_as (x ∷ others) (a, b))

  otherwise_all : (value test rest : List Symbol) → Clean value → Clean test → Clean rest → Shaped (otherwise part value test rest)
  otherwise_all value test [] h g k = tt
  otherwise_all value test (s.Else ∷ xs) h g k =
      both CleanAs CleanAs (part Disjunction value) (λ v. part Disjunction test >>= λ c. part Conditional xs >>= λ o. Some (e.Cond v c o)) (ih Disjunction value h)
      (λ v a. both CleanAs CleanAs (part Disjunction test) (λ c. part Conditional xs >>= λ o. Some (e.Cond v c o)) (ih Disjunction test g)
      (λ c b. both CleanAs CleanAs (part Conditional xs) (λ o. Some (e.Cond v c o)) (ih Conditional xs k.1) (λ o d. cond_as v c o a b d)))
  otherwise_all value test ((s.Atom u) ∷ xs) h g k = tt
  otherwise_all value test ((s.Super u) ∷ xs) h g k = tt
  otherwise_all value test ((s.Method u) ∷ xs) h g k = tt
  otherwise_all value test ((s.Attribute u) ∷ xs) h g k = tt
  otherwise_all value test ((s.Sign u) ∷ xs) h g k = tt
  otherwise_all value test ((s.Factor u) ∷ xs) h g k = tt
  otherwise_all value test ((s.Compare u) ∷ xs) h g k = tt
  otherwise_all value test ((s.Open u) ∷ xs) h g k = tt
  otherwise_all value test ((s.Close u) ∷ xs) h g k = tt
  otherwise_all value test (s.Or ∷ xs) h g k = tt
  otherwise_all value test (s.And ∷ xs) h g k = tt
  otherwise_all value test (s.Not ∷ xs) h g k = tt
  otherwise_all value test (s.If ∷ xs) h g k = tt
  otherwise_all value test (s.Comma ∷ xs) h g k = tt
  otherwise_all value test (s.Colon ∷ xs) h g k = tt
  otherwise_all value test (s.Equal ∷ xs) h g k = tt
  otherwise_all value test (s.Other ∷ xs) h g k = tt

  chosen_all : (xs value rest : List Symbol) → Clean xs → Clean value → Clean rest → Shaped (chosen part xs value rest)
  chosen_all xs value [] h g k = disjunction_all xs h
  chosen_all xs value (s.If ∷ ys) h g k = otherwise_all value (front (below Disjunction) ys) (back (below Disjunction) ys) g (front_clean (below Disjunction) start ys k.1) (back_clean (below Disjunction) start ys k.1)
  chosen_all xs value ((s.Atom u) ∷ ys) h g k = tt
  chosen_all xs value ((s.Super u) ∷ ys) h g k = tt
  chosen_all xs value ((s.Method u) ∷ ys) h g k = tt
  chosen_all xs value ((s.Attribute u) ∷ ys) h g k = tt
  chosen_all xs value ((s.Sign u) ∷ ys) h g k = tt
  chosen_all xs value ((s.Factor u) ∷ ys) h g k = tt
  chosen_all xs value ((s.Compare u) ∷ ys) h g k = tt
  chosen_all xs value ((s.Open u) ∷ ys) h g k = tt
  chosen_all xs value ((s.Close u) ∷ ys) h g k = tt
  chosen_all xs value (s.Or ∷ ys) h g k = tt
  chosen_all xs value (s.And ∷ ys) h g k = tt
  chosen_all xs value (s.Not ∷ ys) h g k = tt
  chosen_all xs value (s.Else ∷ ys) h g k = tt
  chosen_all xs value (s.Comma ∷ ys) h g k = tt
  chosen_all xs value (s.Colon ∷ ys) h g k = tt
  chosen_all xs value (s.Equal ∷ ys) h g k = tt
  chosen_all xs value (s.Other ∷ ys) h g k = tt

  conditional_all : (xs : List Symbol) → Clean xs → Shaped (conditional part xs)
  unfolding conditional
  conditional_all xs h = chosen_all xs (front (below Disjunction) xs) (back (below Disjunction) xs) h (front_clean (below Disjunction) start xs h) (back_clean (below Disjunction) start xs h)

  listed_all : (xs : List Symbol) → Clean xs → Shaped (listed part xs)
  unfolding listed
  listed_all xs h = tuple_all (conditional part) (pieces (at Listed) xs) xs h (conditional_all xs h)

  level_all : (l : Level) (xs : List Symbol) → Clean xs → Shaped (at_level part l xs)
  level_all Listed xs h = listed_all xs h
  level_all Conditional xs h = conditional_all xs h
  level_all Disjunction xs h = disjunction_all xs h
  level_all Conjunction xs h = conjunction_all xs h
  level_all Negation xs h = negation_all xs h
  level_all Comparison xs h = comparison_all xs h
  level_all Sum xs h = sum_all xs h
  level_all Product xs h = product_all xs h
  level_all Signed xs h = signed_all xs h
  level_all Postfix xs h = postfix_all xs h

pub shape_all : (d : ℕ) (l : Level) (xs : List Symbol) → Clean xs → Shaped (shape d l xs)
shape_all zero l xs h = tt
shape_all (suc d) l xs h = level_all (shape d) (λ l xs h. shape_all d l xs h) l xs h
