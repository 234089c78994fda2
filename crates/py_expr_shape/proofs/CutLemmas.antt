-- Cutting symbols from a place on: what is left to cut, and what the slices are.
use Rattle.std.proofs.Common.{◌≡◌, ℕ, ◌+◌, ◌-◌, ◌≤◌, ◌<◌, cond, Bool, true, false, List, [], ◌∷◌, ◌++◌, length, take, Option, Some, None, refl, sym, ap, subst, ◌∙◌, arith, length-append}
use Rattle.std.proofs.Math.Seq.{take-append_seam}
use Rattle.std.proofs.lemmas.Bool.Decides.{nat_tests}
use Rattle.std.specs.Prelude.{◌==◌, ◌&&◌}
use Rattle.std.specs.Borrow.{Bor}
use Rattle.py_cut.specs.Cut as cut
use Rattle.py_cut.proofs.Cuts as cuts
use Rattle.py_language.specs.declared.shape.Bracket.{Bracket}
use Rattle.py_language.specs.declared.shape.Bracket.TheVariants.{Round, Square, Brace}
use Rattle.py_language.specs.declared.shape.Symbol.{Symbol}
use Rattle.py_language.specs.declared.shape.Symbol.TheVariants.{Atom, Attribute, Open, Close, Colon}
use Rattle.py_language.specs.Trees.{closed, inside}
use Rattle.py_language.specs.TreesPlaces.{Place, start, next, rank, number, Level, Listed, Disjunction, Conjunction, Comparison, at, pieces, closing, colon, front, back, last_cut}
use Rattle.py_expr_shape.specs.declared.cut.Separator.{Separator}
use Rattle.py_expr_shape.specs.declared.cut.Separator.TheVariants as separator
use Rattle.py_expr_shape.specs.Cuts.{separates, begins_anew, pieces_from, NotAhead}

pub not_closing : (s : Place) (x : Symbol) → ((b : Bracket) → x ≡ Close b → ⊥) → false ≡ closing s x
unfolding closing
not_closing s (Close b) h = absurd (h b refl)
not_closing s (_) h = refl

pub not_colon : (s : Place) (x : Symbol) → (x ≡ Colon → ⊥) → false ≡ colon s x
unfolding colon
not_colon s Colon h = absurd (h refl)
not_colon s (_) h = refl

module _ (p : Place → Symbol → Bool) where
  cut_front_by : (xs ys zs : List Symbol) → xs ++ ys ≡ zs → take (length zs - length ys) zs ≡ xs
  cut_front_by xs ys zs e = rw (sym e) (ap (λ n. take n (xs ++ ys)) (let n : length (xs ++ ys) - length ys ≡ length xs = omega (arith, length-append xs ys) in n) ∙ take-append_seam xs ys)

  pub cut_front : (xs rest : List Symbol) → back p xs ≡ rest → take (length xs - length rest) xs ≡ front p xs
  cut_front xs rest e = cut_front_by (front p xs) rest xs (ap (λ zs. front p xs ++ zs) (sym e) ∙ cuts.front-back next p start xs)

  pub back_is : (xs rest : List Symbol) (s : Place) → back p xs ≡ cut.back next p s rest → cut.Stops next p s rest → back p xs ≡ rest
  back_is xs rest s e h = e ∙ cuts.back-stops next p s rest h

  -- the last separator, with what is after it
  abbrev pub from_it : Option (List Symbol × Symbol × List Symbol) → Option (Symbol × List Symbol)
  from_it None = None
  from_it (Some c) = Some (c.1, c.2)

  abbrev pub or_found : Option (Symbol × List Symbol) → Option (Symbol × List Symbol) → Option (Symbol × List Symbol)
  or_found None f = f
  or_found (Some c) f = Some c

  -- the last separator of all is the last one that is left to find, or the one that was found
  abbrev pub IsFound : List Symbol → Place → List Symbol → Option (Bor Symbol × Bor (List Symbol)) → Type 0
  IsFound xs s ys None = from_it (last_cut p xs) ≡ from_it (cut.last_cut next p s ys)
  IsFound xs s ys (Some f) = from_it (last_cut p xs) ≡ or_found (from_it (cut.last_cut next p s ys)) (Some (f.0.now, f.1.now))

  some_left : (xs ys : List Symbol) (x : Symbol) (c : Option (List Symbol × Symbol × List Symbol)) → last_cut p xs ≡ c → from_it c ≡ Some (x, ys) → (zs : List Symbol) × (last_cut p xs ≡ Some (zs, x, ys)) × (zs ++ x ∷ ys ≡ xs)
  some_left xs ys x None h e = absurd (cc)
  some_left xs ys x (Some c) h e =
      let is : ◌≡◌ {A = Symbol × List Symbol} (c.1, c.2) (x, ys) = cc in
      let whole : last_cut p xs ≡ Some (c.0, x, ys) = h ∙ ap (λ (q : Symbol × List Symbol). Some (c.0, q.0, q.1)) is in
      (c.0, whole, cuts.last_cut-joined next p start xs (c.0, x, ys) whole)

  module _ (xs rest : List Symbol) (s : Place) (e : rest ≡ []) (f : Option (Bor Symbol × Bor (List Symbol))) (before : IsFound xs s rest f) (y : Bor Symbol) (ws : Bor (List Symbol)) (g : f ≡ Some (y, ws)) where
    is : IsFound xs s rest (Some (y, ws))
    is = subst (IsFound xs s rest) g before

    some_found : (zs : List Symbol) × (last_cut p xs ≡ Some (zs, y.now, ws.now)) × (zs ++ y.now ∷ ws.now ≡ xs)
    some_found = some_left xs ws.now y.now (last_cut p xs) refl (is ∙ ap (λ r. or_found (from_it (cut.last_cut next p s r)) (Some (y.now, ws.now))) e)

    pub found_fits : length ws.now + 1 ≤ length xs
    found_fits = omega (arith, ap length some_found.2, length-append some_found.0 (y.now ∷ ws.now))

    pub some_is_found : last_cut p xs ≡ Some (take (length xs - length ws.now - 1) xs, y.now, ws.now)
    some_is_found =
        some_found.1 ∙ ap (λ zs. Some (zs, y.now, ws.now)) (sym (cut_front_by some_found.0 (y.now ∷ ws.now) xs some_found.2)
        ∙ ap (λ n. take n xs) (let n : length xs - length (y.now ∷ ws.now) ≡ length xs - length ws.now - 1 = omega arith in n))

-- behind a comma, a word or a comparison outside brackets, an operand begins
calm : (k : ℕ) (a : Bool) (x : Symbol) → 0 < rank a x → rank a x < 7 → next (record { depth = k; after = a }) x ≡ record { depth = k; after = false }
calm k a (Atom x) lo hi = absurd (omega arith)
calm k true (Attribute x) lo hi = absurd (omega arith)
calm k false (Attribute x) lo hi = absurd (omega arith)
calm k true (Open Round) lo hi = absurd (omega arith)
calm k true (Open Square) lo hi = absurd (omega arith)
calm k true (Open Brace) lo hi = absurd (omega arith)
calm k false (Open b) lo hi = absurd (omega arith)
calm k a (Close b) lo hi = absurd (omega arith)
calm k a (_) lo hi = refl

and_true : (a b : Bool) → (a && b) ≡ true → (a ≡ true) × (b ≡ true)
and_true true b h = (refl, h)
and_true false b h = absurd (cc)

-- marks after which an operand begins
pub record Restarts (p : Place → Symbol → Bool) : Type 0 where
  pub restarts : (s : Place) (x : Symbol) → p s x ≡ true → next s x ≡ start

at_restarts : (l : Level) → 0 < number l → number l < 7 → (s : Place) (x : Symbol) → at l s x ≡ true → next s x ≡ start
unfolding at
at_restarts l lo hi s x h =
    let p = and_true (s.depth == 0) (rank s.after x == number l) h in
    calm s.depth s.after x (grind (arith, nat_tests, p.1)) (grind (arith, nat_tests, p.1)) ∙ ap (λ (k : ℕ). let s : Place = record { depth = k; after = false } in s) (grind (arith, nat_tests, p.0))

pub level_restarts : (l : Level) → 0 < number l → number l < 7 → Restarts (at l)
level_restarts l lo hi = record { restarts = at_restarts l lo hi }

anew : (q : Separator) → begins_anew q ≡ true → Restarts (separates q)
anew separator.Comma h = level_restarts Listed (omega arith) (omega arith)
anew separator.Or h = level_restarts Disjunction (omega arith) (omega arith)
anew separator.And h = level_restarts Conjunction (omega arith) (omega arith)
anew separator.Comparison h = level_restarts Comparison (omega arith) (omega arith)
anew (_) h = absurd (cc)

module _ (q : Separator) (again : Restarts (separates q)) where
  pieces_by : (s : Place) (x : Symbol) (xs : List Symbol) (b : Bool) → separates q s x ≡ b → cut.pieces next (separates q) (next s x) xs ≡ pieces_from q (cut.back next (separates q) (next s x) xs)
      → cond b ((x, cut.front next (separates q) (next s x) xs) ∷ cut.pieces next (separates q) (next s x) xs) (cut.pieces next (separates q) (next s x) xs) ≡ pieces_from q (cond b (x ∷ xs) (cut.back next (separates q) (next s x) xs))
  pieces_by s x xs true e h = rw (again.restarts s x e) refl
  pieces_by s x xs false e h = h

  pieces_at : (s : Place) (xs : List Symbol) → cut.pieces next (separates q) s xs ≡ pieces_from q (cut.back next (separates q) s xs)
  pieces_at s [] = refl
  pieces_at s (x ∷ xs) = pieces_by s x xs (separates q s x) refl (pieces_at (next s x) xs)

-- the pieces begin at the first separator
pub pieces_back : (q : Separator) (xs rest : List Symbol) → begins_anew q ≡ true → rest ≡ back (separates q) xs → pieces (separates q) xs ≡ pieces_from q rest
pieces_back q xs rest h e = pieces_at q (anew q h) start xs ∙ ap (pieces_from q) (sym e)

is_colon : (s : Place) (y : Symbol) → colon s y ≡ true → y ≡ Colon
unfolding colon
is_colon s Colon h = refl
is_colon s (_) h = absurd (cc)

pub colon_first : (xs : List Symbol) (y : Symbol) (ys : List Symbol) → back colon xs ≡ y ∷ ys → back colon xs ≡ Colon ∷ ys
colon_first xs y ys e = e ∙ ap (λ z. z ∷ ys) (is_colon (cut.scan next start (front colon xs)) y (subst (cut.Stops next colon (cut.scan next start (front colon xs))) e (cuts.back_stops next colon start xs)))

-- a bracket that does not close with its own kind, or not at the end
pub not_closed : (b : Bracket) (v ys : List Symbol) → NotAhead (Close b) ys → closed b v ys ≡ None
not_closed b v [] h = refl
not_closed Round v (Close Round ∷ []) h = absurd (h refl)
not_closed Round v (Close Square ∷ []) h = refl
not_closed Round v (Close Brace ∷ []) h = refl
not_closed Square v (Close Round ∷ []) h = refl
not_closed Square v (Close Square ∷ []) h = absurd (h refl)
not_closed Square v (Close Brace ∷ []) h = refl
not_closed Brace v (Close Round ∷ []) h = refl
not_closed Brace v (Close Square ∷ []) h = refl
not_closed Brace v (Close Brace ∷ []) h = absurd (h refl)
not_closed b v (Close c ∷ y ∷ ys) h = refl
not_closed b v (_ ∷ ys) h = refl

pub is_closed : (b : Bracket) (v : List Symbol) → closed b v (Close b ∷ []) ≡ Some v
is_closed Round v = refl
is_closed Square v = refl
is_closed Brace v = refl

pub more_closed : (b : Bracket) (v : List Symbol) (y : Symbol) (ys : List Symbol) → closed b v (Close b ∷ y ∷ ys) ≡ None
more_closed b v y ys = refl

pub inside_by : (b : Bracket) (xs v rest : List Symbol) → v ≡ front closing xs → rest ≡ back closing xs → (o : Option (List Symbol)) → closed b v rest ≡ o → inside b xs ≡ o
unfolding inside
inside_by b xs v rest e f o g = rw (sym e, sym f) g
