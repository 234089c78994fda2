-- Cutting tokens from a place on: what is left to cut, and what the slices are.
use Rattle.std.proofs.Common.{◌≡◌, ℕ, ◌+◌, ◌-◌, ◌≤◌, List, [], ◌∷◌, ◌++◌, length, take, Option, Some, None, refl, sym, ap, subst, ◌∙◌, arith, length-append}
use Rattle.std.proofs.Math.Seq.{take-append_seam}
use Rattle.std.specs.Borrow.{Bor}
use Rattle.py_cut.specs.Cut as cut
use Rattle.py_cut.proofs.Cuts as cuts
use Rattle.py_language.specs.declared.shape.Bracket.{Bracket}
use Rattle.py_language.specs.declared.token.Token.{Token}
use Rattle.py_grammar.specs.declared.separator.Separator.{Separator}
use Rattle.py_grammar.specs.declared.separator.Separator.TheVariants.{Closing}
use Rattle.py_grammar.specs.Separators.{opened, outside, front, back, last_cut, closed, inside}

module _ (q : Separator) where
  cut_front_by : (xs ys zs : List Token) → xs ++ ys ≡ zs → take (length zs - length ys) zs ≡ xs
  cut_front_by xs ys zs e = rw (sym e) (ap (λ n. take n (xs ++ ys)) (let n : length (xs ++ ys) - length ys ≡ length xs = omega (arith, length-append xs ys) in n) ∙ take-append_seam xs ys)

  pub cut_front : (xs rest : List Token) → back q xs ≡ rest → take (length xs - length rest) xs ≡ front q xs
  cut_front xs rest e = cut_front_by (front q xs) rest xs (ap (λ zs. front q xs ++ zs) (sym e) ∙ cuts.front-back opened (outside q) 0 xs)

  pub back_is : (xs rest : List Token) (depth : ℕ) → back q xs ≡ cut.back opened (outside q) depth rest → cut.Stops opened (outside q) depth rest → back q xs ≡ rest
  back_is xs rest depth e h = e ∙ cuts.back-stops opened (outside q) depth rest h

  -- the last separator, with what is after it
  abbrev pub from_it : Option (List Token × Token × List Token) → Option (Token × List Token)
  from_it None = None
  from_it (Some c) = Some (c.1, c.2)

  abbrev pub or_found : Option (Token × List Token) → Option (Token × List Token) → Option (Token × List Token)
  or_found None f = f
  or_found (Some c) f = Some c

  -- the last separator of all is the last one that is left to find, or the one that was found
  abbrev pub IsFound : List Token → ℕ → List Token → Option (Bor Token × Bor (List Token)) → Type 0
  IsFound xs depth ys None = from_it (last_cut q xs) ≡ from_it (cut.last_cut opened (outside q) depth ys)
  IsFound xs depth ys (Some f) = from_it (last_cut q xs) ≡ or_found (from_it (cut.last_cut opened (outside q) depth ys)) (Some (f.0.now, f.1.now))

  some_left : (xs ys : List Token) (x : Token) (c : Option (List Token × Token × List Token)) → last_cut q xs ≡ c → from_it c ≡ Some (x, ys) → (zs : List Token) × (last_cut q xs ≡ Some (zs, x, ys)) × (zs ++ x ∷ ys ≡ xs)
  some_left xs ys x None h e = absurd (cc)
  some_left xs ys x (Some c) h e =
      let is : ◌≡◌ {A = Token × List Token} (c.1, c.2) (x, ys) = cc in
      let whole : last_cut q xs ≡ Some (c.0, x, ys) = h ∙ ap (λ (r : Token × List Token). Some (c.0, r.0, r.1)) is in
      (c.0, whole, cuts.last_cut-joined opened (outside q) 0 xs (c.0, x, ys) whole)

  module _ (xs rest : List Token) (depth : ℕ) (e : rest ≡ []) (f : Option (Bor Token × Bor (List Token))) (before : IsFound xs depth rest f) (y : Bor Token) (ws : Bor (List Token)) (g : f ≡ Some (y, ws)) where
    is : IsFound xs depth rest (Some (y, ws))
    is = subst (IsFound xs depth rest) g before

    some_found : (zs : List Token) × (last_cut q xs ≡ Some (zs, y.now, ws.now)) × (zs ++ y.now ∷ ws.now ≡ xs)
    some_found = some_left xs ws.now y.now (last_cut q xs) refl (is ∙ ap (λ r. or_found (from_it (cut.last_cut opened (outside q) depth r)) (Some (y.now, ws.now))) e)

    pub found_fits : length ws.now + 1 ≤ length xs
    found_fits = omega (arith, ap length some_found.2, length-append some_found.0 (y.now ∷ ws.now))

    pub some_is_found : last_cut q xs ≡ Some (take (length xs - length ws.now - 1) xs, y.now, ws.now)
    some_is_found =
        some_found.1 ∙ ap (λ zs. Some (zs, y.now, ws.now)) (sym (cut_front_by some_found.0 (y.now ∷ ws.now) xs some_found.2)
        ∙ ap (λ n. take n xs) (let n : length xs - length (y.now ∷ ws.now) ≡ length xs - length ws.now - 1 = omega arith in n))

pub inside_by : (b : Bracket) (xs v rest : List Token) → v ≡ front Closing xs → rest ≡ back Closing xs → (o : Option (List Token)) → closed b v rest ≡ o → inside b xs ≡ o
inside_by b xs v rest e f o g = rw (sym e, sym f) g
