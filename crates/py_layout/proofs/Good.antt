-- Tokens of a text, and that whatever a list of them is cut into has such tokens.
use Rattle.std.proofs.Common.{◌≡◌, ◌∙◌, ap, refl, subst, Bool, true, false, cond, ◌&&◌, List, [], ◌∷◌, ◌++◌, Option, Some, None}
use Rattle.std.specs.Prelude.{map}
use Rattle.std.specs.List.{list_all}
use Rattle.py_cut.specs.Cut as cut
use Rattle.py_language.specs.declared.shape.Bracket.{Bracket}
use Rattle.py_language.specs.declared.shape.Bracket.TheVariants.{Round, Square}
use Rattle.py_language.specs.declared.token.Mark.TheVariants as m
use Rattle.py_language.specs.declared.token.Token.{Token}
use Rattle.py_language.specs.declared.token.Token.TheVariants as t
use Rattle.py_grammar.specs.declared.separator.Separator.{Separator}
use Rattle.py_grammar.specs.declared.separator.Separator.TheVariants.{Closing}
use Rattle.py_grammar.specs.Separators.{opened, outside, front, back, last_cut, split, trimmed, closed, inside}
use Rattle.py_spelling.specs.Spelling.{is_sound}

abbrev pub Good : List Token → Type 0
Good [] = Unit {0}
Good (x ∷ xs) = (is_sound x ≡ true) × Good xs

abbrev pub AllGood : List (List Token) → Type 0
AllGood [] = Unit {0}
AllGood (xs ∷ more) = Good xs × AllGood more

pub and_both : (v w : Bool) → (v && w) ≡ true → (v ≡ true) × (w ≡ true)
and_both true w e = (refl, e)
and_both false w e = absurd (cc)

pub good_of : (ts : List Token) → list_all is_sound ts ≡ true → Good ts
good_of [] e = tt
good_of (x ∷ xs) e = let two = and_both (is_sound x) (list_all is_sound xs) e in (two.0, good_of xs two.1)

pub all_of : (ts : List Token) → Good ts → list_all is_sound ts ≡ true
all_of [] h = refl
all_of (x ∷ xs) h = ap (λ v. v && list_all is_sound xs) h.0 ∙ all_of xs h.1

pub good_append : (xs ys : List Token) → Good xs → Good ys → Good (xs ++ ys)
good_append [] ys h k = k
good_append (x ∷ xs) ys h k = (h.0, good_append xs ys h.1 k)

-- ---- cuts

module _ {S : Type 0} (next : S → Token → S) (p : S → Token → Bool) where
  front_good : (s : S) (xs : List Token) → Good xs → Good (cut.front next p s xs)
  front_good s [] h = tt
  front_good s (x ∷ xs) h = by (p s x) (front_good (next s x) xs h.1)
    where
      by : (v : Bool) → Good (cut.front next p (next s x) xs) → Good (cond v [] (x ∷ cut.front next p (next s x) xs))
      by true k = tt
      by false k = (h.0, k)

  back_good : (s : S) (xs : List Token) → Good xs → Good (cut.back next p s xs)
  back_good s [] h = tt
  back_good s (x ∷ xs) h = by (p s x) (back_good (next s x) xs h.1)
    where
      by : (v : Bool) → Good (cut.back next p (next s x) xs) → Good (cond v (x ∷ xs) (cut.back next p (next s x) xs))
      by true k = h
      by false k = k

  pieces_good : (s : S) (xs : List Token) → Good xs → AllGood (map (λ (q : Token × List Token). q.1) (cut.pieces next p s xs))
  pieces_good s [] h = tt
  pieces_good s (x ∷ xs) h = by (p s x) (pieces_good (next s x) xs h.1)
    where
      by : (v : Bool) → AllGood (map (λ (q : Token × List Token). q.1) (cut.pieces next p (next s x) xs)) → AllGood (map (λ (q : Token × List Token). q.1) (cond v ((x, cut.front next p (next s x) xs) ∷ cut.pieces next p (next s x) xs) (cut.pieces next p (next s x) xs)))
      by true k = (front_good (next s x) xs h.1, k)
      by false k = k

  -- both sides of a cut, and its mark
  abbrev pub GoodCut : Option (List Token × Token × List Token) → Type 0
  GoodCut None = Unit {0}
  GoodCut (Some c) = Good c.0 × ((is_sound c.1 ≡ true) × Good c.2)

  cut_good : (s : S) (xs : List Token) → Good xs → GoodCut (cut.last_cut next p s xs)
  cut_good s [] h = tt
  cut_good s (x ∷ xs) h = by (p s x) (cut.last_cut next p (next s x) xs) (cut_good (next s x) xs h.1)
    where
      by : (v : Bool) (o : Option (List Token × Token × List Token)) → GoodCut o → GoodCut (cut.or_here next p v x xs o)
      by v (Some c) k = ((h.0, k.0), k.1)
      by true None k = (tt, (h.0, h.1))
      by false None k = tt

pub good_front : (p : Separator) (xs : List Token) → Good xs → Good (front p xs)
good_front p xs h = front_good opened (outside p) 0 xs h

pub good_back : (p : Separator) (xs : List Token) → Good xs → Good (back p xs)
good_back p xs h = back_good opened (outside p) 0 xs h

abbrev pub GoodAt : Option (List Token × Token × List Token) → Type 0
GoodAt None = Unit {0}
GoodAt (Some c) = Good c.0 × ((is_sound c.1 ≡ true) × Good c.2)

pub good_cut : (p : Separator) (xs : List Token) → Good xs → GoodAt (last_cut p xs)
good_cut p xs h = by (last_cut p xs) (cut_good opened (outside p) 0 xs h)
  where
    by : (o : Option (List Token × Token × List Token)) → GoodCut opened (outside p) o → GoodAt o
    by None k = tt
    by (Some c) k = k

trimmed_good : (parts : List (List Token)) → AllGood parts → AllGood (trimmed parts)
trimmed_good [] h = tt
trimmed_good ([] ∷ []) h = tt
trimmed_good ((x ∷ xs) ∷ []) h = (h.0, tt)
trimmed_good (xs ∷ ys ∷ more) h = with_more xs h.0 (trimmed_good (ys ∷ more) h.1)
  where
    with_more : (xs : List Token) → Good xs → AllGood (trimmed (ys ∷ more)) → AllGood (trimmed (xs ∷ ys ∷ more))
    with_more [] h k = (h, k)
    with_more (x ∷ xs) h k = (h, k)

pub good_split : (p : Separator) (xs : List Token) → Good xs → AllGood (split p xs)
good_split p xs h = (front_good opened (outside p) 0 xs h, pieces_good opened (outside p) 0 xs h)

pub good_parts : (p : Separator) (xs : List Token) → Good xs → AllGood (trimmed (split p xs))
good_parts p xs h = trimmed_good (split p xs) (good_split p xs h)

pub good_inside : (b : Bracket) (xs content : List Token) → Good xs → inside b xs ≡ Some content → Good content
good_inside b xs content h e = by b (front Closing xs) (back Closing xs) (good_front Closing xs h) e
  where
    by : (b : Bracket) (ts rest : List Token) → Good ts → closed b ts rest ≡ Some content → Good content
    by Round ts (t.Mark m.RightParen ∷ []) k e = subst Good (let w : ts ≡ content = cc in w) k
    by Square ts (t.Mark m.RightBracket ∷ []) k e = subst Good (let w : ts ≡ content = cc in w) k
    by _ ts _ k e = absurd (cc)
