-- Symbols that tokens make: what is joined is joined in them, and in each part of them.
use Rattle.std.specs.Prelude.{if◌then◌else◌}
use Rattle.std.proofs.Common.{◌≡◌, sym, refl, subst, ℕ, Bool, true, false, not, ◌&&◌, List, [], ◌∷◌, ◌++◌}
use Rattle.py_cut.specs.Cut as cut
use Rattle.py_cut.proofs.Cuts.{front-back}
use Rattle.py_language.specs.declared.token.Token.{Token}
use Rattle.py_language.specs.declared.token.Token.TheVariants as t
use Rattle.py_language.specs.declared.token.Mark.{Mark}
use Rattle.py_language.specs.declared.token.Mark.TheVariants as m
use Rattle.py_language.specs.declared.token.Keyword.{Keyword}
use Rattle.py_language.specs.declared.token.Keyword.TheVariants as k
use Rattle.py_language.specs.declared.shape.Atom.TheVariants as a
use Rattle.py_language.specs.declared.shape.Bracket.TheVariants.{Round, Square, Brace}
use Rattle.py_language.specs.declared.shape.Symbol.{Symbol}
use Rattle.py_language.specs.declared.shape.Symbol.TheVariants as s
use Rattle.py_language.specs.TreesPlaces.{Place, next}
use Rattle.py_language.specs.TreesSymbols.{is_super, named, attribute, join, symbol, symbols, mark_symbol, keyword_symbol}
use Rattle.py_syntax.specs.declared.operator.CmpOp.TheVariants.{Lt, Gt, Eq, Ge, Le, Ne, Contained, NotContained, Same, NotSame}
use Rattle.py_printing.specs.Printing.{is_factor, Each}
use Rattle.py_printing.specs.SymbolTokens.{first_is, is_round, is_close, is_called}

-- whether a symbol is joined with those after it where it may be
abbrev pub holds : Symbol → List Symbol → Bool
holds (s.Attribute n) rest = not (first_is is_round rest)
holds (s.Atom (a.Name n)) rest = not (is_super n && is_called rest)
holds (s.Factor op) rest = is_factor op
holds _ rest = true

abbrev pub Whole : List Symbol → Type 0
Whole [] = Unit {0}
Whole (x ∷ xs) = (holds x xs ≡ true) × Whole xs

pub whole_back : (xs ys : List Symbol) → Whole (xs ++ ys) → Whole ys
whole_back [] ys h = h
whole_back (x ∷ xs) ys h = whole_back xs ys h.1

and_false : (v : Bool) → (v && false) ≡ false
and_false true = refl
and_false false = refl

round_front : (xs ys : List Symbol) → not (first_is is_round (xs ++ ys)) ≡ true → not (first_is is_round xs) ≡ true
round_front [] ys e = refl
round_front (x ∷ xs) ys e = e

-- what is called in a front is called in the whole
called_front : (v : Bool) (xs ys : List Symbol) → not (v && is_called (xs ++ ys)) ≡ true → not (v && is_called xs) ≡ true
called_front v [] ys e = rw (and_false v) refl
called_front v (x ∷ []) ys e = rw (and_false (is_round x), and_false v) refl
called_front v (x ∷ y ∷ []) ys e = rw (and_false (is_close y), and_false (is_round x), and_false v) refl
called_front v (x ∷ y ∷ z ∷ xs) ys e = e

holds_front : (x : Symbol) (xs ys : List Symbol) → holds x (xs ++ ys) ≡ true → holds x xs ≡ true
holds_front (s.Atom a.NoneLit) xs ys e = refl
holds_front (s.Atom (a.BoolLit b)) xs ys e = refl
holds_front (s.Atom (a.IntLit n)) xs ys e = refl
holds_front (s.Atom (a.StrLit z)) xs ys e = refl
holds_front (s.Atom (a.Name n)) xs ys e = called_front (is_super n) xs ys e
holds_front (s.Super y) xs ys e = refl
holds_front (s.Method y) xs ys e = refl
holds_front (s.Attribute n) xs ys e = round_front xs ys e
holds_front (s.Sign y) xs ys e = refl
holds_front (s.Factor op) xs ys e = e
holds_front (s.Compare y) xs ys e = refl
holds_front s.Or xs ys e = refl
holds_front s.And xs ys e = refl
holds_front s.Not xs ys e = refl
holds_front s.If xs ys e = refl
holds_front s.Else xs ys e = refl
holds_front s.Comma xs ys e = refl
holds_front s.Colon xs ys e = refl
holds_front s.Equal xs ys e = refl
holds_front (s.Open y) xs ys e = refl
holds_front (s.Close y) xs ys e = refl
holds_front s.Other xs ys e = refl

pub whole_front : (xs ys : List Symbol) → Whole (xs ++ ys) → Whole xs
whole_front [] ys h = tt
whole_front (x ∷ xs) ys h = (holds_front x xs ys h.0, whole_front xs ys h.1)

-- ---- cuts

module _ (p : Place → Symbol → Bool) where
  pub front_whole : (w : Place) (xs : List Symbol) → Whole xs → Whole (cut.front next p w xs)
  front_whole w xs h = whole_front (cut.front next p w xs) (cut.back next p w xs) (subst Whole (sym (front-back next p w xs)) h)

  pub back_whole : (w : Place) (xs : List Symbol) → Whole xs → Whole (cut.back next p w xs)
  back_whole w xs h = whole_back (cut.front next p w xs) (cut.back next p w xs) (subst Whole (sym (front-back next p w xs)) h)

  pieces_by : (v : Bool) (q : Symbol × List Symbol) (qs : List (Symbol × List Symbol)) → Whole q.1 → Each (λ (q : Symbol × List Symbol). Whole q.1) qs → Each (λ (q : Symbol × List Symbol). Whole q.1) (if v then q ∷ qs else qs)
  pieces_by true q qs h g = (h, g)
  pieces_by false q qs h g = g

  pub pieces_whole : (w : Place) (xs : List Symbol) → Whole xs → Each (λ (q : Symbol × List Symbol). Whole q.1) (cut.pieces next p w xs)
  pieces_whole w [] h = tt
  pieces_whole w (x ∷ xs) h = pieces_by (p w x) (x, cut.front next p (next w x) xs) (cut.pieces next p (next w x) xs) (front_whole (next w x) xs h.1) (pieces_whole (next w x) xs h.1)

-- ---- the symbols of tokens

attribute_whole : (n : List ℕ) (xs : List Symbol) → Whole xs → Whole (attribute n xs)
attribute_whole n [] h = (refl, h)
attribute_whole n ((s.Atom y) ∷ xs) h = (refl, h)
attribute_whole n ((s.Super y) ∷ xs) h = (refl, h)
attribute_whole n ((s.Method y) ∷ xs) h = (refl, h)
attribute_whole n ((s.Attribute y) ∷ xs) h = (refl, h)
attribute_whole n ((s.Sign y) ∷ xs) h = (refl, h)
attribute_whole n ((s.Factor y) ∷ xs) h = (refl, h)
attribute_whole n ((s.Compare y) ∷ xs) h = (refl, h)
attribute_whole n (s.Or ∷ xs) h = (refl, h)
attribute_whole n (s.And ∷ xs) h = (refl, h)
attribute_whole n (s.Not ∷ xs) h = (refl, h)
attribute_whole n (s.If ∷ xs) h = (refl, h)
attribute_whole n (s.Else ∷ xs) h = (refl, h)
attribute_whole n (s.Comma ∷ xs) h = (refl, h)
attribute_whole n (s.Colon ∷ xs) h = (refl, h)
attribute_whole n (s.Equal ∷ xs) h = (refl, h)
attribute_whole n ((s.Close y) ∷ xs) h = (refl, h)
attribute_whole n (s.Other ∷ xs) h = (refl, h)
attribute_whole n (s.Open Round ∷ xs) h = (refl, h)
attribute_whole n (s.Open Square ∷ xs) h = (refl, h)
attribute_whole n (s.Open Brace ∷ xs) h = (refl, h)

named_by : (v : Bool) (n : List ℕ) (x : List ℕ) (xs : List Symbol) → is_super n ≡ v → Whole (s.Open Round ∷ s.Close Round ∷ s.Method x ∷ xs) → Whole (if v then s.Super x ∷ xs else s.Atom (a.Name n) ∷ s.Open Round ∷ s.Close Round ∷ s.Method x ∷ xs)
named_by true n x xs e h = (refl, h.1.1.1)
named_by false n x xs e h = (rw e refl, h)

named_whole : (n : List ℕ) (xs : List Symbol) → Whole xs → Whole (named n xs)
named_whole n [] h = (rw (and_false (is_super n)) refl, h)
named_whole n ((s.Atom y) ∷ xs) h = (rw (and_false (is_super n)) refl, h)
named_whole n ((s.Super y) ∷ xs) h = (rw (and_false (is_super n)) refl, h)
named_whole n ((s.Method y) ∷ xs) h = (rw (and_false (is_super n)) refl, h)
named_whole n ((s.Attribute y) ∷ xs) h = (rw (and_false (is_super n)) refl, h)
named_whole n ((s.Sign y) ∷ xs) h = (rw (and_false (is_super n)) refl, h)
named_whole n ((s.Factor y) ∷ xs) h = (rw (and_false (is_super n)) refl, h)
named_whole n ((s.Compare y) ∷ xs) h = (rw (and_false (is_super n)) refl, h)
named_whole n (s.Or ∷ xs) h = (rw (and_false (is_super n)) refl, h)
named_whole n (s.And ∷ xs) h = (rw (and_false (is_super n)) refl, h)
named_whole n (s.Not ∷ xs) h = (rw (and_false (is_super n)) refl, h)
named_whole n (s.If ∷ xs) h = (rw (and_false (is_super n)) refl, h)
named_whole n (s.Else ∷ xs) h = (rw (and_false (is_super n)) refl, h)
named_whole n (s.Comma ∷ xs) h = (rw (and_false (is_super n)) refl, h)
named_whole n (s.Colon ∷ xs) h = (rw (and_false (is_super n)) refl, h)
named_whole n (s.Equal ∷ xs) h = (rw (and_false (is_super n)) refl, h)
named_whole n ((s.Close y) ∷ xs) h = (rw (and_false (is_super n)) refl, h)
named_whole n (s.Other ∷ xs) h = (rw (and_false (is_super n)) refl, h)
named_whole n (s.Open Square ∷ xs) h = (rw (and_false (is_super n)) refl, h)
named_whole n (s.Open Brace ∷ xs) h = (rw (and_false (is_super n)) refl, h)
named_whole n (s.Open Round ∷ []) h = (rw (and_false (is_super n)) refl, h)
named_whole n (s.Open Round ∷ (s.Atom y) ∷ xs) h = (rw (and_false (is_super n)) refl, h)
named_whole n (s.Open Round ∷ (s.Super y) ∷ xs) h = (rw (and_false (is_super n)) refl, h)
named_whole n (s.Open Round ∷ (s.Method y) ∷ xs) h = (rw (and_false (is_super n)) refl, h)
named_whole n (s.Open Round ∷ (s.Attribute y) ∷ xs) h = (rw (and_false (is_super n)) refl, h)
named_whole n (s.Open Round ∷ (s.Sign y) ∷ xs) h = (rw (and_false (is_super n)) refl, h)
named_whole n (s.Open Round ∷ (s.Factor y) ∷ xs) h = (rw (and_false (is_super n)) refl, h)
named_whole n (s.Open Round ∷ (s.Compare y) ∷ xs) h = (rw (and_false (is_super n)) refl, h)
named_whole n (s.Open Round ∷ s.Or ∷ xs) h = (rw (and_false (is_super n)) refl, h)
named_whole n (s.Open Round ∷ s.And ∷ xs) h = (rw (and_false (is_super n)) refl, h)
named_whole n (s.Open Round ∷ s.Not ∷ xs) h = (rw (and_false (is_super n)) refl, h)
named_whole n (s.Open Round ∷ s.If ∷ xs) h = (rw (and_false (is_super n)) refl, h)
named_whole n (s.Open Round ∷ s.Else ∷ xs) h = (rw (and_false (is_super n)) refl, h)
named_whole n (s.Open Round ∷ s.Comma ∷ xs) h = (rw (and_false (is_super n)) refl, h)
named_whole n (s.Open Round ∷ s.Colon ∷ xs) h = (rw (and_false (is_super n)) refl, h)
named_whole n (s.Open Round ∷ s.Equal ∷ xs) h = (rw (and_false (is_super n)) refl, h)
named_whole n (s.Open Round ∷ (s.Open y) ∷ xs) h = (rw (and_false (is_super n)) refl, h)
named_whole n (s.Open Round ∷ s.Other ∷ xs) h = (rw (and_false (is_super n)) refl, h)
named_whole n (s.Open Round ∷ s.Close Square ∷ xs) h = (rw (and_false (is_super n)) refl, h)
named_whole n (s.Open Round ∷ s.Close Brace ∷ xs) h = (rw (and_false (is_super n)) refl, h)
named_whole n (s.Open Round ∷ s.Close Round ∷ []) h = (rw (and_false (is_super n)) refl, h)
named_whole n (s.Open Round ∷ s.Close Round ∷ (s.Atom y) ∷ xs) h = (rw (and_false (is_super n)) refl, h)
named_whole n (s.Open Round ∷ s.Close Round ∷ (s.Super y) ∷ xs) h = (rw (and_false (is_super n)) refl, h)
named_whole n (s.Open Round ∷ s.Close Round ∷ s.Method y ∷ xs) h = named_by (is_super n) n y xs refl h
named_whole n (s.Open Round ∷ s.Close Round ∷ (s.Attribute y) ∷ xs) h = (rw (and_false (is_super n)) refl, h)
named_whole n (s.Open Round ∷ s.Close Round ∷ (s.Sign y) ∷ xs) h = (rw (and_false (is_super n)) refl, h)
named_whole n (s.Open Round ∷ s.Close Round ∷ (s.Factor y) ∷ xs) h = (rw (and_false (is_super n)) refl, h)
named_whole n (s.Open Round ∷ s.Close Round ∷ (s.Compare y) ∷ xs) h = (rw (and_false (is_super n)) refl, h)
named_whole n (s.Open Round ∷ s.Close Round ∷ s.Or ∷ xs) h = (rw (and_false (is_super n)) refl, h)
named_whole n (s.Open Round ∷ s.Close Round ∷ s.And ∷ xs) h = (rw (and_false (is_super n)) refl, h)
named_whole n (s.Open Round ∷ s.Close Round ∷ s.Not ∷ xs) h = (rw (and_false (is_super n)) refl, h)
named_whole n (s.Open Round ∷ s.Close Round ∷ s.If ∷ xs) h = (rw (and_false (is_super n)) refl, h)
named_whole n (s.Open Round ∷ s.Close Round ∷ s.Else ∷ xs) h = (rw (and_false (is_super n)) refl, h)
named_whole n (s.Open Round ∷ s.Close Round ∷ s.Comma ∷ xs) h = (rw (and_false (is_super n)) refl, h)
named_whole n (s.Open Round ∷ s.Close Round ∷ s.Colon ∷ xs) h = (rw (and_false (is_super n)) refl, h)
named_whole n (s.Open Round ∷ s.Close Round ∷ s.Equal ∷ xs) h = (rw (and_false (is_super n)) refl, h)
named_whole n (s.Open Round ∷ s.Close Round ∷ (s.Open y) ∷ xs) h = (rw (and_false (is_super n)) refl, h)
named_whole n (s.Open Round ∷ s.Close Round ∷ (s.Close y) ∷ xs) h = (rw (and_false (is_super n)) refl, h)
named_whole n (s.Open Round ∷ s.Close Round ∷ s.Other ∷ xs) h = (rw (and_false (is_super n)) refl, h)

string_whole : (x : List ℕ) (xs : List Symbol) → Whole xs → Whole (join (s.Atom (a.StrLit x)) xs)
string_whole x [] h = (refl, h)
string_whole x ((s.Super y) ∷ xs) h = (refl, h)
string_whole x ((s.Method y) ∷ xs) h = (refl, h)
string_whole x ((s.Attribute y) ∷ xs) h = (refl, h)
string_whole x ((s.Sign y) ∷ xs) h = (refl, h)
string_whole x ((s.Factor y) ∷ xs) h = (refl, h)
string_whole x ((s.Compare y) ∷ xs) h = (refl, h)
string_whole x (s.Or ∷ xs) h = (refl, h)
string_whole x (s.And ∷ xs) h = (refl, h)
string_whole x (s.Not ∷ xs) h = (refl, h)
string_whole x (s.If ∷ xs) h = (refl, h)
string_whole x (s.Else ∷ xs) h = (refl, h)
string_whole x (s.Comma ∷ xs) h = (refl, h)
string_whole x (s.Colon ∷ xs) h = (refl, h)
string_whole x (s.Equal ∷ xs) h = (refl, h)
string_whole x ((s.Open y) ∷ xs) h = (refl, h)
string_whole x ((s.Close y) ∷ xs) h = (refl, h)
string_whole x (s.Other ∷ xs) h = (refl, h)
string_whole x (s.Atom a.NoneLit ∷ xs) h = (refl, h)
string_whole x (s.Atom (a.BoolLit b) ∷ xs) h = (refl, h)
string_whole x (s.Atom (a.IntLit n) ∷ xs) h = (refl, h)
string_whole x (s.Atom (a.Name n) ∷ xs) h = (refl, h)
string_whole x (s.Atom (a.StrLit z) ∷ xs) h = (refl, h.1)

not_whole : (xs : List Symbol) → Whole xs → Whole (join s.Not xs)
not_whole [] h = (refl, h)
not_whole ((s.Atom y) ∷ xs) h = (refl, h)
not_whole ((s.Super y) ∷ xs) h = (refl, h)
not_whole ((s.Method y) ∷ xs) h = (refl, h)
not_whole ((s.Attribute y) ∷ xs) h = (refl, h)
not_whole ((s.Sign y) ∷ xs) h = (refl, h)
not_whole ((s.Factor y) ∷ xs) h = (refl, h)
not_whole (s.Or ∷ xs) h = (refl, h)
not_whole (s.And ∷ xs) h = (refl, h)
not_whole (s.Not ∷ xs) h = (refl, h)
not_whole (s.If ∷ xs) h = (refl, h)
not_whole (s.Else ∷ xs) h = (refl, h)
not_whole (s.Comma ∷ xs) h = (refl, h)
not_whole (s.Colon ∷ xs) h = (refl, h)
not_whole (s.Equal ∷ xs) h = (refl, h)
not_whole ((s.Open y) ∷ xs) h = (refl, h)
not_whole ((s.Close y) ∷ xs) h = (refl, h)
not_whole (s.Other ∷ xs) h = (refl, h)
not_whole (s.Compare Lt ∷ xs) h = (refl, h)
not_whole (s.Compare Gt ∷ xs) h = (refl, h)
not_whole (s.Compare Eq ∷ xs) h = (refl, h)
not_whole (s.Compare Ge ∷ xs) h = (refl, h)
not_whole (s.Compare Le ∷ xs) h = (refl, h)
not_whole (s.Compare Ne ∷ xs) h = (refl, h)
not_whole (s.Compare Contained ∷ xs) h = (refl, h.1)
not_whole (s.Compare NotContained ∷ xs) h = (refl, h)
not_whole (s.Compare Same ∷ xs) h = (refl, h)
not_whole (s.Compare NotSame ∷ xs) h = (refl, h)

same_whole : (xs : List Symbol) → Whole xs → Whole (join (s.Compare Same) xs)
same_whole [] h = (refl, h)
same_whole ((s.Atom y) ∷ xs) h = (refl, h)
same_whole ((s.Super y) ∷ xs) h = (refl, h)
same_whole ((s.Method y) ∷ xs) h = (refl, h)
same_whole ((s.Attribute y) ∷ xs) h = (refl, h)
same_whole ((s.Sign y) ∷ xs) h = (refl, h)
same_whole ((s.Factor y) ∷ xs) h = (refl, h)
same_whole ((s.Compare y) ∷ xs) h = (refl, h)
same_whole (s.Or ∷ xs) h = (refl, h)
same_whole (s.And ∷ xs) h = (refl, h)
same_whole (s.Not ∷ xs) h = (refl, h.1)
same_whole (s.If ∷ xs) h = (refl, h)
same_whole (s.Else ∷ xs) h = (refl, h)
same_whole (s.Comma ∷ xs) h = (refl, h)
same_whole (s.Colon ∷ xs) h = (refl, h)
same_whole (s.Equal ∷ xs) h = (refl, h)
same_whole ((s.Open y) ∷ xs) h = (refl, h)
same_whole ((s.Close y) ∷ xs) h = (refl, h)
same_whole (s.Other ∷ xs) h = (refl, h)

keyword_whole : (x : Keyword) (xs : List Symbol) → Whole xs → Whole (join (keyword_symbol x) xs)
keyword_whole k.As xs h = (refl, h)
keyword_whole k.If xs h = (refl, h)
keyword_whole k.In xs h = (refl, h)
keyword_whole k.Is xs h = same_whole xs h
keyword_whole k.Or xs h = (refl, h)
keyword_whole k.And xs h = (refl, h)
keyword_whole k.Def xs h = (refl, h)
keyword_whole k.Del xs h = (refl, h)
keyword_whole k.For xs h = (refl, h)
keyword_whole k.Not xs h = not_whole xs h
keyword_whole k.Try xs h = (refl, h)
keyword_whole k.NoneLit xs h = (refl, h)
keyword_whole k.TrueLit xs h = (refl, h)
keyword_whole k.Elif xs h = (refl, h)
keyword_whole k.Else xs h = (refl, h)
keyword_whole k.From xs h = (refl, h)
keyword_whole k.Pass xs h = (refl, h)
keyword_whole k.With xs h = (refl, h)
keyword_whole k.FalseLit xs h = (refl, h)
keyword_whole k.Async xs h = (refl, h)
keyword_whole k.Await xs h = (refl, h)
keyword_whole k.Break xs h = (refl, h)
keyword_whole k.Class xs h = (refl, h)
keyword_whole k.Raise xs h = (refl, h)
keyword_whole k.While xs h = (refl, h)
keyword_whole k.Yield xs h = (refl, h)
keyword_whole k.Assert xs h = (refl, h)
keyword_whole k.Except xs h = (refl, h)
keyword_whole k.Global xs h = (refl, h)
keyword_whole k.Import xs h = (refl, h)
keyword_whole k.Lambda xs h = (refl, h)
keyword_whole k.Return xs h = (refl, h)
keyword_whole k.Finally xs h = (refl, h)
keyword_whole k.Continue xs h = (refl, h)
keyword_whole k.Nonlocal xs h = (refl, h)

mark_whole : (x : Mark) (xs : List Symbol) → Whole xs → Whole (join (mark_symbol x) xs)
mark_whole m.Plus xs h = (refl, h)
mark_whole m.Minus xs h = (refl, h)
mark_whole m.Star xs h = (refl, h)
mark_whole m.DoubleStar xs h = (refl, h)
mark_whole m.Slash xs h = (refl, h)
mark_whole m.DoubleSlash xs h = (refl, h)
mark_whole m.Percent xs h = (refl, h)
mark_whole m.At xs h = (refl, h)
mark_whole m.LeftShift xs h = (refl, h)
mark_whole m.RightShift xs h = (refl, h)
mark_whole m.Ampersand xs h = (refl, h)
mark_whole m.Pipe xs h = (refl, h)
mark_whole m.Caret xs h = (refl, h)
mark_whole m.Tilde xs h = (refl, h)
mark_whole m.Walrus xs h = (refl, h)
mark_whole m.Less xs h = (refl, h)
mark_whole m.Greater xs h = (refl, h)
mark_whole m.LessEqual xs h = (refl, h)
mark_whole m.GreaterEqual xs h = (refl, h)
mark_whole m.EqualEqual xs h = (refl, h)
mark_whole m.NotEqual xs h = (refl, h)
mark_whole m.LeftParen xs h = (refl, h)
mark_whole m.RightParen xs h = (refl, h)
mark_whole m.LeftBracket xs h = (refl, h)
mark_whole m.RightBracket xs h = (refl, h)
mark_whole m.LeftBrace xs h = (refl, h)
mark_whole m.RightBrace xs h = (refl, h)
mark_whole m.Comma xs h = (refl, h)
mark_whole m.Colon xs h = (refl, h)
mark_whole m.Dot xs h = (refl, h)
mark_whole m.Semicolon xs h = (refl, h)
mark_whole m.Equal xs h = (refl, h)
mark_whole m.Arrow xs h = (refl, h)
mark_whole m.Ellipsis xs h = (refl, h)
mark_whole m.PlusEqual xs h = (refl, h)
mark_whole m.MinusEqual xs h = (refl, h)
mark_whole m.StarEqual xs h = (refl, h)
mark_whole m.SlashEqual xs h = (refl, h)
mark_whole m.DoubleSlashEqual xs h = (refl, h)
mark_whole m.PercentEqual xs h = (refl, h)
mark_whole m.AtEqual xs h = (refl, h)
mark_whole m.AmpersandEqual xs h = (refl, h)
mark_whole m.PipeEqual xs h = (refl, h)
mark_whole m.CaretEqual xs h = (refl, h)
mark_whole m.RightShiftEqual xs h = (refl, h)
mark_whole m.LeftShiftEqual xs h = (refl, h)
mark_whole m.DoubleStarEqual xs h = (refl, h)

token_whole : (x : Token) (xs : List Symbol) → Whole xs → Whole (join (symbol x) xs)
token_whole (t.Name n) xs h = named_whole n xs h
token_whole (t.Int n) xs h = (refl, h)
token_whole (t.Str x) xs h = string_whole x xs h
token_whole (t.Keyword x) xs h = keyword_whole x xs h
token_whole (t.Mark x) xs h = mark_whole x xs h

pub symbols_whole : (ts : List Token) → Whole (symbols ts)
symbols_whole [] = tt
symbols_whole (t.Mark m.Plus ∷ ts) = mark_whole m.Plus (symbols ts) (symbols_whole ts)
symbols_whole (t.Mark m.Minus ∷ ts) = mark_whole m.Minus (symbols ts) (symbols_whole ts)
symbols_whole (t.Mark m.Star ∷ ts) = mark_whole m.Star (symbols ts) (symbols_whole ts)
symbols_whole (t.Mark m.DoubleStar ∷ ts) = mark_whole m.DoubleStar (symbols ts) (symbols_whole ts)
symbols_whole (t.Mark m.Slash ∷ ts) = mark_whole m.Slash (symbols ts) (symbols_whole ts)
symbols_whole (t.Mark m.DoubleSlash ∷ ts) = mark_whole m.DoubleSlash (symbols ts) (symbols_whole ts)
symbols_whole (t.Mark m.Percent ∷ ts) = mark_whole m.Percent (symbols ts) (symbols_whole ts)
symbols_whole (t.Mark m.At ∷ ts) = mark_whole m.At (symbols ts) (symbols_whole ts)
symbols_whole (t.Mark m.LeftShift ∷ ts) = mark_whole m.LeftShift (symbols ts) (symbols_whole ts)
symbols_whole (t.Mark m.RightShift ∷ ts) = mark_whole m.RightShift (symbols ts) (symbols_whole ts)
symbols_whole (t.Mark m.Ampersand ∷ ts) = mark_whole m.Ampersand (symbols ts) (symbols_whole ts)
symbols_whole (t.Mark m.Pipe ∷ ts) = mark_whole m.Pipe (symbols ts) (symbols_whole ts)
symbols_whole (t.Mark m.Caret ∷ ts) = mark_whole m.Caret (symbols ts) (symbols_whole ts)
symbols_whole (t.Mark m.Tilde ∷ ts) = mark_whole m.Tilde (symbols ts) (symbols_whole ts)
symbols_whole (t.Mark m.Walrus ∷ ts) = mark_whole m.Walrus (symbols ts) (symbols_whole ts)
symbols_whole (t.Mark m.Less ∷ ts) = mark_whole m.Less (symbols ts) (symbols_whole ts)
symbols_whole (t.Mark m.Greater ∷ ts) = mark_whole m.Greater (symbols ts) (symbols_whole ts)
symbols_whole (t.Mark m.LessEqual ∷ ts) = mark_whole m.LessEqual (symbols ts) (symbols_whole ts)
symbols_whole (t.Mark m.GreaterEqual ∷ ts) = mark_whole m.GreaterEqual (symbols ts) (symbols_whole ts)
symbols_whole (t.Mark m.EqualEqual ∷ ts) = mark_whole m.EqualEqual (symbols ts) (symbols_whole ts)
symbols_whole (t.Mark m.NotEqual ∷ ts) = mark_whole m.NotEqual (symbols ts) (symbols_whole ts)
symbols_whole (t.Mark m.LeftParen ∷ ts) = mark_whole m.LeftParen (symbols ts) (symbols_whole ts)
symbols_whole (t.Mark m.RightParen ∷ ts) = mark_whole m.RightParen (symbols ts) (symbols_whole ts)
symbols_whole (t.Mark m.LeftBracket ∷ ts) = mark_whole m.LeftBracket (symbols ts) (symbols_whole ts)
symbols_whole (t.Mark m.RightBracket ∷ ts) = mark_whole m.RightBracket (symbols ts) (symbols_whole ts)
symbols_whole (t.Mark m.LeftBrace ∷ ts) = mark_whole m.LeftBrace (symbols ts) (symbols_whole ts)
symbols_whole (t.Mark m.RightBrace ∷ ts) = mark_whole m.RightBrace (symbols ts) (symbols_whole ts)
symbols_whole (t.Mark m.Comma ∷ ts) = mark_whole m.Comma (symbols ts) (symbols_whole ts)
symbols_whole (t.Mark m.Colon ∷ ts) = mark_whole m.Colon (symbols ts) (symbols_whole ts)
symbols_whole (t.Mark m.Semicolon ∷ ts) = mark_whole m.Semicolon (symbols ts) (symbols_whole ts)
symbols_whole (t.Mark m.Equal ∷ ts) = mark_whole m.Equal (symbols ts) (symbols_whole ts)
symbols_whole (t.Mark m.Arrow ∷ ts) = mark_whole m.Arrow (symbols ts) (symbols_whole ts)
symbols_whole (t.Mark m.Ellipsis ∷ ts) = mark_whole m.Ellipsis (symbols ts) (symbols_whole ts)
symbols_whole (t.Mark m.PlusEqual ∷ ts) = mark_whole m.PlusEqual (symbols ts) (symbols_whole ts)
symbols_whole (t.Mark m.MinusEqual ∷ ts) = mark_whole m.MinusEqual (symbols ts) (symbols_whole ts)
symbols_whole (t.Mark m.StarEqual ∷ ts) = mark_whole m.StarEqual (symbols ts) (symbols_whole ts)
symbols_whole (t.Mark m.SlashEqual ∷ ts) = mark_whole m.SlashEqual (symbols ts) (symbols_whole ts)
symbols_whole (t.Mark m.DoubleSlashEqual ∷ ts) = mark_whole m.DoubleSlashEqual (symbols ts) (symbols_whole ts)
symbols_whole (t.Mark m.PercentEqual ∷ ts) = mark_whole m.PercentEqual (symbols ts) (symbols_whole ts)
symbols_whole (t.Mark m.AtEqual ∷ ts) = mark_whole m.AtEqual (symbols ts) (symbols_whole ts)
symbols_whole (t.Mark m.AmpersandEqual ∷ ts) = mark_whole m.AmpersandEqual (symbols ts) (symbols_whole ts)
symbols_whole (t.Mark m.PipeEqual ∷ ts) = mark_whole m.PipeEqual (symbols ts) (symbols_whole ts)
symbols_whole (t.Mark m.CaretEqual ∷ ts) = mark_whole m.CaretEqual (symbols ts) (symbols_whole ts)
symbols_whole (t.Mark m.RightShiftEqual ∷ ts) = mark_whole m.RightShiftEqual (symbols ts) (symbols_whole ts)
symbols_whole (t.Mark m.LeftShiftEqual ∷ ts) = mark_whole m.LeftShiftEqual (symbols ts) (symbols_whole ts)
symbols_whole (t.Mark m.DoubleStarEqual ∷ ts) = mark_whole m.DoubleStarEqual (symbols ts) (symbols_whole ts)
symbols_whole (t.Mark m.Dot ∷ []) = mark_whole m.Dot [] tt
symbols_whole (t.Mark m.Dot ∷ t.Name n ∷ ts) = attribute_whole n (symbols ts) (symbols_whole ts)
symbols_whole (t.Mark m.Dot ∷ t.Int n ∷ ts) = mark_whole m.Dot (symbols (t.Int n ∷ ts)) (symbols_whole (t.Int n ∷ ts))
symbols_whole (t.Mark m.Dot ∷ t.Str x ∷ ts) = mark_whole m.Dot (symbols (t.Str x ∷ ts)) (symbols_whole (t.Str x ∷ ts))
symbols_whole (t.Mark m.Dot ∷ t.Keyword x ∷ ts) = mark_whole m.Dot (symbols (t.Keyword x ∷ ts)) (symbols_whole (t.Keyword x ∷ ts))
symbols_whole (t.Mark m.Dot ∷ t.Mark x ∷ ts) = mark_whole m.Dot (symbols (t.Mark x ∷ ts)) (symbols_whole (t.Mark x ∷ ts))
symbols_whole (t.Name n ∷ ts) = named_whole n (symbols ts) (symbols_whole ts)
symbols_whole (t.Int n ∷ ts) = (refl, symbols_whole ts)
symbols_whole (t.Str x ∷ ts) = string_whole x (symbols ts) (symbols_whole ts)
symbols_whole (t.Keyword x ∷ ts) = keyword_whole x (symbols ts) (symbols_whole ts)
