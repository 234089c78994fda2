-- Parts with commas between them, in square brackets, are read one by one.
use Rattle.std.proofs.Common.{◌≡◌, ◌∙◌, ap, refl, ℕ, true, ◌||◌, List, [], ◌∷◌, ◌++◌, Some}
use Rattle.std.specs.Prelude.{map, nat_lt}
use Rattle.std.specs.List.{list_all}
use Rattle.std.proofs.lemmas.List.Folds.{list_all-append}
use Rattle.py_cut.specs.Cut as cut
use Rattle.py_cut.specs.Cut.{scan}
use Rattle.py_language.specs.declared.shape.Bracket.TheVariants.{Square}
use Rattle.py_language.specs.declared.token.Mark.TheVariants as m
use Rattle.py_language.specs.declared.token.Token.{Token}
use Rattle.py_language.specs.declared.token.Token.TheVariants as t
use Rattle.py_grammar.specs.declared.separator.Separator.{Separator}
use Rattle.py_grammar.specs.declared.separator.Separator.TheVariants.{Comma, Closing}
use Rattle.py_grammar.specs.Separators.{opened, outside, marks, back, split, closed, inside}
use Rattle.py_spelling.specs.Spelling.{is_sound}
use Rattle.py_layout.specs.Small.{joined}
use Rattle.py_layout.proofs.Cutting.{front_pass, pieces_pass, front_at, back_at, pieces_at}
use Rattle.py_annotation_layout.proofs.Quiet.{Set, CalmAt, AllCalm, outside_here}

-- a mark after tokens that close
pub mark_after : (p : Separator) (n : ℕ) (x : Token) → n ≡ 0 → marks p x ≡ true → outside p n x ≡ true
mark_after p n x e h = ap (λ k. outside p k x) e ∙ outside_here p x true h

pub inside_back : (set : Set) (ts : List Token) → set Closing ≡ true → CalmAt set 0 ts → inside Square (ts ++ t.Mark m.RightBracket ∷ []) ≡ Some ts
inside_back set ts s c =
    let passes = c.passes Closing (ap (λ v. v || nat_lt 0 0) s) in
    let e = mark_after Closing (scan opened 0 ts) (t.Mark m.RightBracket) c.closes refl in
    ap (λ z. closed Square z (back Closing (ts ++ t.Mark m.RightBracket ∷ []))) (front_at opened (outside Closing) 0 ts (t.Mark m.RightBracket) [] passes e)
    ∙ ap (closed Square ts) (back_at opened (outside Closing) 0 ts (t.Mark m.RightBracket) [] passes e)

module _ (set : Set) (s : set Comma ≡ true) where
  passes_comma : (xs : List Token) → CalmAt set 0 xs → cut.Passes opened (outside Comma) 0 xs
  passes_comma xs c = c.passes Comma (ap (λ v. v || nat_lt 0 0) s)

  split_one : (xs : List Token) → CalmAt set 0 xs → split Comma xs ≡ xs ∷ []
  split_one xs c =
      ap (λ z. z ∷ map (λ (q : Token × List Token). q.1) (cut.pieces opened (outside Comma) 0 xs)) (front_pass opened (outside Comma) 0 xs (passes_comma xs c))
      ∙ ap (λ z. xs ∷ map (λ (q : Token × List Token). q.1) z) (pieces_pass opened (outside Comma) 0 xs (passes_comma xs c))

  split_comma : (xs ys : List Token) → CalmAt set 0 xs → split Comma (xs ++ t.Mark m.Comma ∷ ys) ≡ xs ∷ split Comma ys
  split_comma xs ys c =
      let h = passes_comma xs c in
      let e = mark_after Comma (scan opened 0 xs) (t.Mark m.Comma) c.closes refl in
      ap (λ z. z ∷ map (λ (q : Token × List Token). q.1) (cut.pieces opened (outside Comma) 0 (xs ++ t.Mark m.Comma ∷ ys))) (front_at opened (outside Comma) 0 xs (t.Mark m.Comma) ys h e)
      ∙ ap (λ z. xs ∷ map (λ (q : Token × List Token). q.1) z) (pieces_at opened (outside Comma) 0 xs (t.Mark m.Comma) ys h e)
      ∙ ap (λ n. xs ∷ cut.front opened (outside Comma) (opened n (t.Mark m.Comma)) ys ∷ map (λ (q : Token × List Token). q.1) (cut.pieces opened (outside Comma) (opened n (t.Mark m.Comma)) ys)) c.closes

  pub split_joined : (xs : List Token) (more : List (List Token)) → AllCalm set 0 (xs ∷ more) → split Comma (joined (xs ∷ more)) ≡ xs ∷ more
  split_joined xs [] h = split_one xs h.0
  split_joined xs (ys ∷ more) h = split_comma xs (joined (ys ∷ more)) h.0 ∙ ap (λ z. xs ∷ z) (split_joined ys more h.1)

abbrev pub AllSound : List (List Token) → Type 0
AllSound [] = Unit {0}
AllSound (xs ∷ more) = (list_all is_sound xs ≡ true) × AllSound more

pub sound_append : (xs ys : List Token) → list_all is_sound xs ≡ true → list_all is_sound ys ≡ true → list_all is_sound (xs ++ ys) ≡ true
sound_append xs ys e f = list_all-append is_sound xs ys ∙ rw (e, f) refl

pub sound_joined : (parts : List (List Token)) → AllSound parts → list_all is_sound (joined parts) ≡ true
sound_joined [] h = refl
sound_joined (xs ∷ []) h = h.0
sound_joined (xs ∷ ys ∷ more) h = sound_append xs (t.Mark m.Comma ∷ joined (ys ∷ more)) h.0 (sound_joined (ys ∷ more) h.1)
