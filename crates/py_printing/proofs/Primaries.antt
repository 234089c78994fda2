-- Primaries, displays and brackets are read back, where their parts are.
use Rattle.std.proofs.Common.{◌≡◌, ◌∙◌, sym, ap, refl, subst, ℕ, true, false, List, [], ◌∷◌, ◌++◌, Option, Some, None, arith}
use Rattle.std.specs.Prelude.{◌==◌, map}
use Rattle.py_cut.specs.Cut.{scan, Passes, Stops}
use Rattle.py_cut.specs.Cut as cut
use Rattle.py_cut.proofs.Cuts.{scan-append, pieces-append, pieces-none, Passes-append, front_of, back_of, last_cut-passes, last_cut-at}
use Rattle.py_language.specs.declared.shape.Atom.{Atom}
use Rattle.py_language.specs.declared.shape.Atom.TheVariants as a
use Rattle.py_language.specs.declared.shape.Bracket.{Bracket}
use Rattle.py_language.specs.declared.shape.Bracket.TheVariants.{Round, Square, Brace}
use Rattle.py_language.specs.declared.shape.Shape.{Shape}
use Rattle.py_language.specs.declared.shape.Shape.TheVariants as e
use Rattle.py_language.specs.declared.shape.Symbol.{Symbol}
use Rattle.py_language.specs.declared.shape.Symbol.TheVariants as s
use Rattle.py_language.specs.TreesPlaces.{Level, Listed, Conditional, Postfix, Place, start, next, at, closing, colon, front, back, pieces, trimmed, is_same}
use Rattle.py_language.specs.Trees.{◌>>=◌, closed, inside, each, comma_list, tuple_or, rounded, argument, entry_by, entry, atom, bound, subscript_by, group, postfix}
use Rattle.py_printing.specs.Printing.{chain, after_comma, commas, enclosed}
use Rattle.py_printing.proofs.Chains.{done, Part, IsMark, Marked, IsPassed, Passed, Balanced, front-chain, pieces-chain, part-more, part-chain, part-wider, inside_passes, inside_ended}
use Rattle.py_printing.proofs.Levels.{wrong, fine, Good, closing-wrong, colon-wrong, wrong-outside, at-outside, good-looser, no_back}
use Rattle.py_printing.proofs.Operators.{at_part, first_append, first_chain, Read}

-- ---- brackets

-- no closing bracket is unmatched in it
pub closed_part : (m : Level) (xs : List Symbol) → Good m xs → Part closing xs
closed_part m xs g = part-wider (wrong m) closing (closing-wrong m) xs g.part

pub balanced_part : (xs : List Symbol) → Part closing xs → Balanced xs
balanced_part xs p = record { passes = p.passes; level_is = ap (λ (w : Place). w.depth) p.ended }

pub balanced_nil : Balanced []
balanced_nil = record { passes = tt; level_is = refl }

same_bracket : (b : Bracket) → is_same b b ≡ true
same_bracket Round = refl
same_bracket Square = refl
same_bracket Brace = refl

pub inside_is : (b : Bracket) (xs : List Symbol) → Balanced xs → inside b (xs ++ s.Close b ∷ []) ≡ Some xs
unfolding inside closing
inside_is b xs h =
    let stop : Stops next closing (scan next start xs) (s.Close b ∷ []) = ap (λ d. d == 0) h.level_is in
    ap (closed b (front closing (xs ++ s.Close b ∷ []))) (back_of next closing start xs (s.Close b ∷ []) h.passes stop)
    ∙ ap (λ z. closed b z (s.Close b ∷ [])) (front_of next closing start xs (s.Close b ∷ []) h.passes stop)
    ∙ rw (same_bracket b) refl

-- a primary on its own: no group is after an operand in it
pub record Atomic (xs : List Symbol) : Type 0 where
  pub good : Good Postfix xs
  pub whole : Passes next (at Postfix) start xs

open_wrong : (b : Bracket) → wrong Postfix start (s.Open b) ≡ false
unfolding wrong
open_wrong Round = refl
open_wrong Square = refl
open_wrong Brace = refl

open_at : (b : Bracket) → at Postfix start (s.Open b) ≡ false
unfolding at
open_at Round = refl
open_at Square = refl
open_at Brace = refl

pub enclosed_atomic : (b : Bracket) (xs : List Symbol) → Balanced xs → Atomic (enclosed b xs)
enclosed_atomic b xs h = record {
  good = record { part = record { passes = (open_wrong b, inside_passes (wrong Postfix) xs b (wrong-outside Postfix) h); ended = inside_ended xs b h }; first = refl };
  whole = (open_at b, inside_passes (at Postfix) xs b (at-outside Postfix) h);
}

-- ---- groups after an operand

pub record Group (g : Symbol) (gs : List Symbol) : Type 0 where
  pub marks : at Postfix done g ≡ true
  pub whole : Passes next (at Postfix) (next done g) gs
  pub passed : wrong Postfix done g ≡ false
  pub passes : Passes next (wrong Postfix) (next done g) gs
  pub ended : scan next (next done g) gs ≡ done

attribute_group : (n : List ℕ) → Group (s.Attribute n) []
unfolding at wrong
attribute_group n = record { marks = refl; whole = tt; passed = refl; passes = tt; ended = refl }

call_group : (xs : List Symbol) → Balanced xs → Group (s.Open Round) (xs ++ s.Close Round ∷ [])
unfolding at wrong
call_group xs h = record { marks = refl; whole = inside_passes (at Postfix) xs Round (at-outside Postfix) h; passed = refl; passes = inside_passes (wrong Postfix) xs Round (wrong-outside Postfix) h; ended = inside_ended xs Round h }

index_group : (xs : List Symbol) → Balanced xs → Group (s.Open Square) (xs ++ s.Close Square ∷ [])
unfolding at wrong
index_group xs h = record { marks = refl; whole = inside_passes (at Postfix) xs Square (at-outside Postfix) h; passed = refl; passes = inside_passes (wrong Postfix) xs Square (wrong-outside Postfix) h; ended = inside_ended xs Square h }

method_group : (n : List ℕ) (xs : List Symbol) → Balanced xs → Group (s.Method n) (enclosed Round xs)
unfolding at wrong
method_group n xs h = record { marks = refl; whole = (refl, inside_passes (at Postfix) xs Round (at-outside Postfix) h); passed = refl; passes = (refl, inside_passes (wrong Postfix) xs Round (wrong-outside Postfix) h); ended = inside_ended xs Round h }

-- ---- what is between commas

pub record Item {B : Type 0} (f : List Symbol → Option B) (v : B) (xs : List Symbol) : Type 0 where
  pub value : f xs ≡ Some v
  pub listed_part : Part (at Listed) xs
  pub closed_is : Part closing xs
  pub some : fine Listed xs ≡ true

abbrev pub Items : {B : Type 0} → (List Symbol → Option B) → List B → List (List Symbol) → Type 0
Items f [] [] = Unit {0}
Items f (v ∷ vs) (t ∷ ts) = Item f v t × Items f vs ts
Items f _ _ = ⊥

comma_mark : IsMark (at Listed) s.Comma
unfolding at
comma_mark = record { marks = refl; begins = refl }

comma_passed : IsPassed closing s.Comma
unfolding closing
comma_passed = record { passed = refl; begins = refl }

items_marked : {B : Type 0} (f : List Symbol → Option B) (vs : List B) (ts : List (List Symbol)) → Items f vs ts → Marked (at Listed) (map after_comma ts)
items_marked f [] [] h = tt
items_marked f [] (t ∷ ts) h = absurd h
items_marked f (v ∷ vs) [] h = absurd h
items_marked f (v ∷ vs) (t ∷ ts) h = (comma_mark, (h.0.listed_part, items_marked f vs ts h.1))

items_passed : {B : Type 0} (f : List Symbol → Option B) (vs : List B) (ts : List (List Symbol)) → Items f vs ts → Passed closing (map after_comma ts)
items_passed f [] [] h = tt
items_passed f [] (t ∷ ts) h = absurd h
items_passed f (v ∷ vs) [] h = absurd h
items_passed f (v ∷ vs) (t ∷ ts) h = (comma_passed, (h.0.closed_is, items_passed f vs ts h.1))

items_each : {B : Type 0} (f : List Symbol → Option B) (vs : List B) (ts : List (List Symbol)) → Items f vs ts → each f ts ≡ Some vs
items_each f [] [] h = refl
items_each f [] (t ∷ ts) h = absurd h
items_each f (v ∷ vs) [] h = absurd h
items_each f (v ∷ vs) (t ∷ ts) h = rw (h.0.value, items_each f vs ts h.1) refl

behind_same : (ts : List (List Symbol)) → map (λ (p : Symbol × List Symbol). p.1) (map after_comma ts) ≡ ts
behind_same [] = refl
behind_same (t ∷ ts) = ap (λ z. t ∷ z) (behind_same ts)

trimmed_some : (t : List Symbol) (ts : List (List Symbol)) → fine Listed t ≡ true → trimmed (t ∷ ts) ≡ t ∷ trimmed ts
trimmed_some [] ts e = absurd (cc)
trimmed_some (x ∷ t) ts e = refl

trimmed_all : {B : Type 0} (f : List Symbol → Option B) (vs : List B) (ts : List (List Symbol)) → Items f vs ts → trimmed ts ≡ ts
trimmed_all f [] [] h = refl
trimmed_all f [] (t ∷ ts) h = absurd h
trimmed_all f (v ∷ vs) [] h = absurd h
trimmed_all f (v ∷ vs) (t ∷ ts) h = trimmed_some t ts h.0.some ∙ ap (λ z. t ∷ z) (trimmed_all f vs ts h.1)

pub comma_is : {B : Type 0} (f : List Symbol → Option B) (vs : List B) (ts : List (List Symbol)) → Items f vs ts → comma_list f (commas ts) ≡ Some vs
comma_is f [] [] h = refl
comma_is f [] (t ∷ ts) h = absurd h
comma_is f (v ∷ vs) [] h = absurd h
comma_is f (v ∷ vs) (t ∷ ts) h =
    let ms = items_marked f vs ts h.1 in
    ap (λ z. each f (trimmed (z ∷ map (λ (p : Symbol × List Symbol). p.1) (pieces (at Listed) (chain t (map after_comma ts)))))) (front-chain (at Listed) t (map after_comma ts) h.0.listed_part ms)
    ∙ ap (λ z. each f (trimmed (t ∷ map (λ (p : Symbol × List Symbol). p.1) z))) (pieces-chain (at Listed) t (map after_comma ts) h.0.listed_part ms)
    ∙ ap (λ z. each f (trimmed (t ∷ z))) (behind_same ts)
    ∙ ap (each f) (trimmed_all f (v ∷ vs) (t ∷ ts) h)
    ∙ items_each f (v ∷ vs) (t ∷ ts) h

pub comma_balanced : {B : Type 0} (f : List Symbol → Option B) (vs : List B) (ts : List (List Symbol)) → Items f vs ts → Balanced (commas ts)
comma_balanced f [] [] h = balanced_nil
comma_balanced f [] (t ∷ ts) h = absurd h
comma_balanced f (v ∷ vs) [] h = absurd h
comma_balanced f (v ∷ vs) (t ∷ ts) h = balanced_part (chain t (map after_comma ts)) (part-chain closing t (map after_comma ts) h.0.closed_is (items_passed f vs ts h.1))

one_piece : (t : List Symbol) → Part (at Listed) t → pieces (at Listed) (t ++ s.Comma ∷ []) ≡ (s.Comma, []) ∷ []
unfolding at
one_piece t h =
    pieces-append next (at Listed) start t (s.Comma ∷ []) h.passes ∙ ap (λ (w : Place). cut.pieces next (at Listed) w (s.Comma ∷ [])) h.ended

-- one part with a comma after it
pub one_comma : {B : Type 0} (f : List Symbol → Option B) (v : B) (t : List Symbol) → Item f v t → comma_list f (t ++ s.Comma ∷ []) ≡ Some (v ∷ [])
unfolding at
one_comma f v t h =
    let stop : Stops next (at Listed) (scan next start t) (s.Comma ∷ []) = ap (λ (w : Place). at Listed w s.Comma) h.listed_part.ended in
    ap (λ z. each f (trimmed (z ∷ map (λ (p : Symbol × List Symbol). p.1) (pieces (at Listed) (t ++ s.Comma ∷ []))))) (front_of next (at Listed) start t (s.Comma ∷ []) h.listed_part.passes stop)
    ∙ ap (λ z. each f (trimmed (t ∷ map (λ (p : Symbol × List Symbol). p.1) z))) (one_piece t h.listed_part)
    ∙ ap (each f) (trimmed_some t ([] ∷ []) h.some)
    ∙ rw h.value refl

one_balanced : (t : List Symbol) → Part closing t → Balanced (t ++ s.Comma ∷ [])
unfolding closing
one_balanced t h = record {
  passes = Passes-append next closing start t (s.Comma ∷ []) h.passes (subst (λ (w : Place). Passes next closing w (s.Comma ∷ [])) (sym h.ended) (refl, tt));
  level_is = ap (λ (w : Place). w.depth) (scan-append next start t (s.Comma ∷ []) ∙ ap (λ (w : Place). next w s.Comma) h.ended);
}

-- ---- an argument without a name has no `=`

no_equal : (a : Atom) (rest : List Symbol) → Passes next (wrong Conditional) start (s.Atom a ∷ s.Equal ∷ rest) → ⊥
unfolding wrong
no_equal a rest h = let wrong_is : true ≡ false = h.1.0 in cc

module _ (part : Level → List Symbol → Option Shape) where
  plain_argument : (xs : List Symbol) → Good Conditional xs → argument part xs ≡ (part Conditional xs >>= λ x. Some (None, x))
  plain_argument [] g = refl
  plain_argument ((s.Super y) ∷ xs) g = refl
  plain_argument ((s.Method y) ∷ xs) g = refl
  plain_argument ((s.Attribute y) ∷ xs) g = refl
  plain_argument ((s.Sign y) ∷ xs) g = refl
  plain_argument ((s.Factor y) ∷ xs) g = refl
  plain_argument ((s.Compare y) ∷ xs) g = refl
  plain_argument (s.Or ∷ xs) g = refl
  plain_argument (s.And ∷ xs) g = refl
  plain_argument (s.Not ∷ xs) g = refl
  plain_argument (s.If ∷ xs) g = refl
  plain_argument (s.Else ∷ xs) g = refl
  plain_argument (s.Comma ∷ xs) g = refl
  plain_argument (s.Colon ∷ xs) g = refl
  plain_argument (s.Equal ∷ xs) g = refl
  plain_argument ((s.Open y) ∷ xs) g = refl
  plain_argument ((s.Close y) ∷ xs) g = refl
  plain_argument (s.Other ∷ xs) g = refl
  plain_argument (s.Atom a.NoneLit ∷ xs) g = refl
  plain_argument (s.Atom (a.BoolLit b) ∷ xs) g = refl
  plain_argument (s.Atom (a.IntLit n) ∷ xs) g = refl
  plain_argument (s.Atom (a.StrLit z) ∷ xs) g = refl
  plain_argument (s.Atom (a.Name n) ∷ []) g = refl
  plain_argument (s.Atom (a.Name n) ∷ (s.Atom y) ∷ xs) g = refl
  plain_argument (s.Atom (a.Name n) ∷ (s.Super y) ∷ xs) g = refl
  plain_argument (s.Atom (a.Name n) ∷ (s.Method y) ∷ xs) g = refl
  plain_argument (s.Atom (a.Name n) ∷ (s.Attribute y) ∷ xs) g = refl
  plain_argument (s.Atom (a.Name n) ∷ (s.Sign y) ∷ xs) g = refl
  plain_argument (s.Atom (a.Name n) ∷ (s.Factor y) ∷ xs) g = refl
  plain_argument (s.Atom (a.Name n) ∷ (s.Compare y) ∷ xs) g = refl
  plain_argument (s.Atom (a.Name n) ∷ s.Or ∷ xs) g = refl
  plain_argument (s.Atom (a.Name n) ∷ s.And ∷ xs) g = refl
  plain_argument (s.Atom (a.Name n) ∷ s.Not ∷ xs) g = refl
  plain_argument (s.Atom (a.Name n) ∷ s.If ∷ xs) g = refl
  plain_argument (s.Atom (a.Name n) ∷ s.Else ∷ xs) g = refl
  plain_argument (s.Atom (a.Name n) ∷ s.Comma ∷ xs) g = refl
  plain_argument (s.Atom (a.Name n) ∷ s.Colon ∷ xs) g = refl
  plain_argument (s.Atom (a.Name n) ∷ s.Equal ∷ xs) g = absurd (no_equal (a.Name n) xs g.part.passes)
  plain_argument (s.Atom (a.Name n) ∷ (s.Open y) ∷ xs) g = refl
  plain_argument (s.Atom (a.Name n) ∷ (s.Close y) ∷ xs) g = refl
  plain_argument (s.Atom (a.Name n) ∷ s.Other ∷ xs) g = refl

  rounded_some : (xs : List Symbol) → fine Listed xs ≡ true → rounded part xs ≡ tuple_or part (part Conditional) (pieces (at Listed) xs) xs
  rounded_some [] e = absurd (cc)
  rounded_some (x ∷ xs) e = refl

  bound_some : (xs : List Symbol) → fine Listed xs ≡ true → bound part xs ≡ (part Conditional xs >>= λ x. Some (Some x))
  bound_some [] e = absurd (cc)
  bound_some (x ∷ xs) e = refl

module _ (part : Level → List Symbol → Option Shape) (P : Level → Shape → List Symbol → Type 0) (reads : (l : Level) (x : Shape) (xs : List Symbol) → P l x xs → part l xs ≡ Some x) (goods : (l : Level) (x : Shape) (xs : List Symbol) → P l x xs → Good l xs) where
  -- ---- primaries

  atomic_read : (x : Shape) (xs : List Symbol) → Atomic xs → atom part xs ≡ Some x → Read part P Postfix x xs
  unfolding postfix
  atomic_read x xs w e = record { read = rw (last_cut-passes next (at Postfix) start xs w.whole) e; good = w.good }

  group_read : (y : Shape) (ys : List Symbol) (g : Symbol) (gs : List Symbol) (made : Shape → Shape) → P Postfix y ys → Group g gs → group part g gs ≡ Some made → Read part P Postfix (made y) (ys ++ g ∷ gs)
  unfolding postfix
  group_read y ys g gs made p w e =
      let good = goods Postfix y ys p in
      let here : at Postfix (scan next start ys) g ≡ true = ap (λ (v : Place). at Postfix v g) good.part.ended ∙ w.marks in
      let rest : Passes next (at Postfix) (next (scan next start ys) g) gs = subst (λ (v : Place). Passes next (at Postfix) (next v g) gs) (sym good.part.ended) w.whole in
      record {
        read = rw (last_cut-at next (at Postfix) start ys g gs here rest, reads Postfix y ys p, e) refl;
        good = record {
          part = record {
            passes = Passes-append next (wrong Postfix) start ys (g ∷ gs) good.part.passes (subst (λ (v : Place). Passes next (wrong Postfix) v (g ∷ gs)) (sym good.part.ended) (w.passed, w.passes));
            ended = scan-append next start ys (g ∷ gs) ∙ ap (λ (v : Place). scan next v (g ∷ gs)) good.part.ended ∙ w.ended;
          };
          first = first_append Postfix ys (g ∷ gs) good.first;
        };
      }

  -- ---- parts of lists

  listed_item : (x : Shape) (xs : List Symbol) → P Conditional x xs → Item (part Conditional) x xs
  listed_item x xs p =
      let g = goods Conditional x xs p in
      record { value = reads Conditional x xs p; listed_part = at_part Listed Conditional (omega arith) xs g; closed_is = closed_part Conditional xs g; some = (good-looser Listed Conditional (omega arith) xs g).first }

  abbrev pub arg_text : Option (List ℕ) → List Symbol → List Symbol
  arg_text None t = t
  arg_text (Some n) t = s.Atom (a.Name n) ∷ s.Equal ∷ t

  abbrev pub arg_texts : List (Option (List ℕ) × Shape) → List (List Symbol) → List (List Symbol)
  arg_texts [] ts = []
  arg_texts (x ∷ xs) [] = []
  arg_texts (x ∷ xs) (t ∷ ts) = arg_text x.0 t ∷ arg_texts xs ts

  abbrev pub Arguments : List (Option (List ℕ) × Shape) → List (List Symbol) → Type 0
  Arguments [] [] = Unit {0}
  Arguments (x ∷ xs) (t ∷ ts) = P Conditional x.1 t × Arguments xs ts
  Arguments _ _ = ⊥

  argument_item : (n : Option (List ℕ)) (x : Shape) (t : List Symbol) → P Conditional x t → Item (argument part) (n, x) (arg_text n t)
  unfolding at closing
  argument_item None x t p =
      let i = listed_item x t p in
      record { value = plain_argument part t (goods Conditional x t p) ∙ rw i.value refl; listed_part = i.listed_part; closed_is = i.closed_is; some = i.some }
  argument_item (Some n) x t p =
      let i = listed_item x t p in
      record {
        value = rw i.value refl;
        listed_part = record { passes = (refl, (refl, i.listed_part.passes)); ended = i.listed_part.ended };
        closed_is = record { passes = (refl, (refl, i.closed_is.passes)); ended = i.closed_is.ended };
        some = refl;
      }

  argument_items : (xs : List (Option (List ℕ) × Shape)) (ts : List (List Symbol)) → Arguments xs ts → Items (argument part) xs (arg_texts xs ts)
  argument_items [] [] h = tt
  argument_items [] (t ∷ ts) h = absurd h
  argument_items (x ∷ xs) [] h = absurd h
  argument_items (x ∷ xs) (t ∷ ts) h = (argument_item x.0 x.1 t h.0, argument_items xs ts h.1)

  abbrev pub Listing : List Shape → List (List Symbol) → Type 0
  Listing [] [] = Unit {0}
  Listing (x ∷ xs) (t ∷ ts) = P Conditional x t × Listing xs ts
  Listing _ _ = ⊥

  listing_items : (xs : List Shape) (ts : List (List Symbol)) → Listing xs ts → Items (part Conditional) xs ts
  listing_items [] [] h = tt
  listing_items [] (t ∷ ts) h = absurd h
  listing_items (x ∷ xs) [] h = absurd h
  listing_items (x ∷ xs) (t ∷ ts) h = (listed_item x t h.0, listing_items xs ts h.1)

  -- the texts of keys and values
  abbrev pub entry_text : List Symbol × List Symbol → List Symbol
  entry_text t = t.0 ++ s.Colon ∷ t.1

  abbrev pub Entries : List (Shape × Shape) → List (List Symbol × List Symbol) → Type 0
  Entries [] [] = Unit {0}
  Entries (x ∷ xs) (t ∷ ts) = (P Conditional x.0 t.0 × P Conditional x.1 t.1) × Entries xs ts
  Entries _ _ = ⊥

  colon_part : (m : Level) (xs : List Symbol) → Good m xs → Part colon xs
  colon_part m xs g = part-wider (wrong m) colon (colon-wrong m) xs g.part

  entry_item : (k v : Shape) (t u : List Symbol) → P Conditional k t → P Conditional v u → Item (entry part) (k, v) (t ++ s.Colon ∷ u)
  unfolding at closing colon
  entry_item k v t u p q =
      let gk = goods Conditional k t p in
      let gv = goods Conditional v u q in
      let c = colon_part Conditional t gk in
      let stop : Stops next colon (scan next start t) (s.Colon ∷ u) = ap (λ (w : Place). colon w s.Colon) c.ended in
      record {
        value = ap (λ z. entry_by part z (back colon (t ++ s.Colon ∷ u))) (front_of next colon start t (s.Colon ∷ u) c.passes stop)
            ∙ ap (entry_by part t) (back_of next colon start t (s.Colon ∷ u) c.passes stop)
            ∙ rw (reads Conditional k t p, reads Conditional v u q) refl;
        listed_part = part-more (at Listed) t u s.Colon (at_part Listed Conditional (omega arith) t gk) (record { passed = refl; begins = refl }) (at_part Listed Conditional (omega arith) u gv);
        closed_is = part-more closing t u s.Colon (closed_part Conditional t gk) (record { passed = refl; begins = refl }) (closed_part Conditional u gv);
        some = first_append Listed t (s.Colon ∷ u) ((good-looser Listed Conditional (omega arith) t gk).first);
      }

  entry_items : (xs : List (Shape × Shape)) (ts : List (List Symbol × List Symbol)) → Entries xs ts → Items (entry part) xs (map entry_text ts)
  entry_items [] [] h = tt
  entry_items [] (t ∷ ts) h = absurd h
  entry_items (x ∷ xs) [] h = absurd h
  entry_items (x ∷ xs) (t ∷ ts) h = (entry_item x.0 x.1 t.0 t.1 h.0.0 h.0.1, entry_items xs ts h.1)

  -- ---- names, literals, brackets and displays

  pub read_atom : (x : Atom) → Read part P Postfix (e.Atom x) (s.Atom x ∷ [])
  unfolding wrong at
  read_atom x = atomic_read (e.Atom x) (s.Atom x ∷ []) (record { good = record { part = record { passes = (refl, tt); ended = refl }; first = refl }; whole = (refl, tt) }) refl

  pub read_super : (n : List ℕ) (xs : List (Option (List ℕ) × Shape)) (ts : List (List Symbol)) → Arguments xs ts → Read part P Postfix (e.Super n xs) (s.Super n ∷ enclosed Round (commas (arg_texts xs ts)))
  unfolding wrong at
  read_super n xs ts h =
      let items = argument_items xs ts h in
      let inner = commas (arg_texts xs ts) in
      let bal = comma_balanced (argument part) xs (arg_texts xs ts) items in
      let w = enclosed_atomic Round inner bal in
      atomic_read (e.Super n xs) (s.Super n ∷ enclosed Round inner)
      (record { good = record { part = record { passes = (refl, w.good.part.passes); ended = w.good.part.ended }; first = refl }; whole = (refl, w.whole) })
      (rw (inside_is Round inner bal, comma_is (argument part) xs (arg_texts xs ts) items) refl)

  pub read_round : (x : Shape) (xs : List Symbol) → P Conditional x xs → Read part P Postfix x (enclosed Round xs)
  read_round x xs p =
      let g = goods Conditional x xs p in
      let i = listed_item x xs p in
      let bal = balanced_part xs i.closed_is in
      let none : pieces (at Listed) xs ≡ [] = pieces-none next (at Listed) start xs i.listed_part.passes in
      atomic_read x (enclosed Round xs) (enclosed_atomic Round xs bal)
      (rw (inside_is Round xs bal) (rounded_some part xs i.some ∙ rw none i.value))

  pub read_unit : Read part P Postfix (e.TupleLit []) (enclosed Round [])
  read_unit = atomic_read (e.TupleLit []) (enclosed Round []) (enclosed_atomic Round [] balanced_nil) (rw (inside_is Round [] balanced_nil) refl)

  pub read_single : (x : Shape) (xs : List Symbol) → P Conditional x xs → Read part P Postfix (e.TupleLit (x ∷ [])) (enclosed Round (xs ++ s.Comma ∷ []))
  read_single x xs p =
      let i = listed_item x xs p in
      let bal = one_balanced xs i.closed_is in
      atomic_read (e.TupleLit (x ∷ [])) (enclosed Round (xs ++ s.Comma ∷ [])) (enclosed_atomic Round (xs ++ s.Comma ∷ []) bal)
      (rw (inside_is Round (xs ++ s.Comma ∷ []) bal) (rounded_some part (xs ++ s.Comma ∷ []) (first_append Listed xs (s.Comma ∷ []) i.some) ∙ rw (one_piece xs i.listed_part, one_comma (part Conditional) x xs i) refl))

  pub read_tuple : (x y : Shape) (ys : List Shape) (t u : List Symbol) (us : List (List Symbol)) → Listing (x ∷ y ∷ ys) (t ∷ u ∷ us) → Read part P Postfix (e.TupleLit (x ∷ y ∷ ys)) (enclosed Round (commas (t ∷ u ∷ us)))
  read_tuple x y ys t u us h =
      let items = listing_items (x ∷ y ∷ ys) (t ∷ u ∷ us) h in
      let inner = commas (t ∷ u ∷ us) in
      let bal = comma_balanced (part Conditional) (x ∷ y ∷ ys) (t ∷ u ∷ us) items in
      let i = listed_item x t h.0 in
      let ps = pieces-chain (at Listed) t (map after_comma (u ∷ us)) i.listed_part (items_marked (part Conditional) (y ∷ ys) (u ∷ us) items.1) in
      atomic_read (e.TupleLit (x ∷ y ∷ ys)) (enclosed Round inner) (enclosed_atomic Round inner bal)
      (rw (inside_is Round inner bal) (rounded_some part inner (first_chain Listed t (map after_comma (u ∷ us)) i.some) ∙ rw (ps, comma_is (part Conditional) (x ∷ y ∷ ys) (t ∷ u ∷ us) items) refl))

  pub read_list : (xs : List Shape) (ts : List (List Symbol)) → Listing xs ts → Read part P Postfix (e.ListLit xs) (enclosed Square (commas ts))
  read_list xs ts h =
      let items = listing_items xs ts h in
      let bal = comma_balanced (part Conditional) xs ts items in
      atomic_read (e.ListLit xs) (enclosed Square (commas ts)) (enclosed_atomic Square (commas ts) bal) (rw (inside_is Square (commas ts) bal, comma_is (part Conditional) xs ts items) refl)

  pub read_dict : (xs : List (Shape × Shape)) (ts : List (List Symbol × List Symbol)) → Entries xs ts → Read part P Postfix (e.DictLit xs) (enclosed Brace (commas (map entry_text ts)))
  read_dict xs ts h =
      let items = entry_items xs ts h in
      let inner = commas (map entry_text ts) in
      let bal = comma_balanced (entry part) xs (map entry_text ts) items in
      atomic_read (e.DictLit xs) (enclosed Brace inner) (enclosed_atomic Brace inner bal) (rw (inside_is Brace inner bal, comma_is (entry part) xs (map entry_text ts) items) refl)

  -- ---- groups

  pub read_attr : (y : Shape) (n : List ℕ) (ys : List Symbol) → P Postfix y ys → Read part P Postfix (e.Attr y n) (ys ++ s.Attribute n ∷ [])
  read_attr y n ys p = group_read y ys (s.Attribute n) [] (λ x. e.Attr x n) p (attribute_group n) refl

  pub read_method : (y : Shape) (n : List ℕ) (xs : List (Option (List ℕ) × Shape)) (ys : List Symbol) (ts : List (List Symbol)) → P Postfix y ys → Arguments xs ts
      → Read part P Postfix (e.Method y n xs) (ys ++ s.Method n ∷ enclosed Round (commas (arg_texts xs ts)))
  read_method y n xs ys ts p h =
      let items = argument_items xs ts h in
      let inner = commas (arg_texts xs ts) in
      let bal = comma_balanced (argument part) xs (arg_texts xs ts) items in
      group_read y ys (s.Method n) (enclosed Round inner) (λ x. e.Method x n xs) p (method_group n inner bal) (rw (inside_is Round inner bal, comma_is (argument part) xs (arg_texts xs ts) items) refl)

  pub read_call : (y : Shape) (xs : List (Option (List ℕ) × Shape)) (ys : List Symbol) (ts : List (List Symbol)) → P Postfix y ys → Arguments xs ts
      → Read part P Postfix (e.Call y xs) (ys ++ enclosed Round (commas (arg_texts xs ts)))
  read_call y xs ys ts p h =
      let items = argument_items xs ts h in
      let inner = commas (arg_texts xs ts) in
      let bal = comma_balanced (argument part) xs (arg_texts xs ts) items in
      group_read y ys (s.Open Round) (inner ++ s.Close Round ∷ []) (λ x. e.Call x xs) p (call_group inner bal) (rw (inside_is Round inner bal, comma_is (argument part) xs (arg_texts xs ts) items) refl)

  pub read_index : (y i : Shape) (ys is : List Symbol) → P Postfix y ys → P Listed i is → Read part P Postfix (e.Index y i) (ys ++ enclosed Square is)
  read_index y i ys is p q =
      let g = goods Listed i is q in
      let c = colon_part Listed is g in
      let bal = balanced_part is (closed_part Listed is g) in
      group_read y ys (s.Open Square) (is ++ s.Close Square ∷ []) (λ x. e.Index x i) p (index_group is bal)
      (rw (inside_is Square is bal, no_back colon is c.passes, reads Listed i is q) refl)

  -- a bound of a slice, which may be missing
  abbrev pub Bound : Option Shape → List Symbol → Type 0
  Bound None t = t ≡ []
  Bound (Some x) t = P Conditional x t

  record Bounded (o : Option Shape) (t : List Symbol) : Type 0 where
    value : bound part t ≡ Some o
    balanced_is : Balanced t
    passes_colon : Passes next colon start t

  bounded : (o : Option Shape) (t : List Symbol) → Bound o t → Bounded o t
  bounded None [] h = record { value = refl; balanced_is = balanced_nil; passes_colon = tt }
  bounded None (x ∷ t) h = absurd (cc)
  bounded (Some x) t p =
      let i = listed_item x t p in
      record { value = bound_some part t i.some ∙ rw i.value refl; balanced_is = balanced_part t i.closed_is; passes_colon = (colon_part Conditional t (goods Conditional x t p)).passes }

  behind_colon : (w : Place) → w.depth ≡ 0 → next w s.Colon ≡ start
  behind_colon w e = ap (λ d. record { depth = d; after = false }) e

  pub read_slice : (y : Shape) (low high : Option Shape) (ys t u : List Symbol) → P Postfix y ys → Bound low t → Bound high u → Read part P Postfix (e.Slice y low high) (ys ++ enclosed Square (t ++ s.Colon ∷ u))
  unfolding colon closing
  read_slice y low high ys t u p h k =
      let a = bounded low t h in
      let b = bounded high u k in
      let inner = t ++ s.Colon ∷ u in
      let again = behind_colon (scan next start t) a.balanced_is.level_is in
      let bal : Balanced inner = record {
        passes = Passes-append next closing start t (s.Colon ∷ u) a.balanced_is.passes (refl, subst (λ (w : Place). Passes next closing w u) (sym again) b.balanced_is.passes);
        level_is = ap (λ (w : Place). w.depth) (scan-append next start t (s.Colon ∷ u)) ∙ ap (λ (w : Place). (scan next w u).depth) again ∙ b.balanced_is.level_is;
      } in
      let stop : Stops next colon (scan next start t) (s.Colon ∷ u) = ap (λ d. d == 0) a.balanced_is.level_is in
      group_read y ys (s.Open Square) (inner ++ s.Close Square ∷ []) (λ x. e.Slice x low high) p (index_group inner bal)
      (rw (inside_is Square inner bal)
      (ap (λ z. subscript_by part inner z (back colon inner)) (front_of next colon start t (s.Colon ∷ u) a.passes_colon stop)
      ∙ ap (subscript_by part inner t) (back_of next colon start t (s.Colon ∷ u) a.passes_colon stop)
      ∙ rw (a.value, b.value) refl))
