-- The symbols of a list of tokens, made from the last one on.
use Rattle.std.proofs.Common.{◌≡◌, inl, inr, ℕ, ◌+◌, Bool, true, false, List, [], ◌∷◌, ◌++◌, length, drop, get_or, refl, sym, ap, ◌∙◌, append_assoc, arith, length-append, ◌<◌, ◌≤◌}
use Rattle.std.specs.Str.{chars}
use Rattle.std.proofs.lemmas.List.{append-nil, drop_all}
use Rattle.std.proofs.Math.Seq.{drop-append_seam}
use Rattle.py_language.specs.declared.shape.Symbol.{Symbol}
use Rattle.py_language.specs.declared.token.Mark.TheVariants.{Dot}
use Rattle.py_language.specs.declared.token.Token.{Token}
use Rattle.py_language.specs.declared.token.Token.TheVariants.{Name, Mark, Str}
use Rattle.py_language.specs.TreesSymbols.{symbol, symbols, join, named, attribute, is_super}
use Rattle.std.specs.Prelude.{◌&&◌}
use Rattle.py_language.specs.declared.shape.Atom.TheVariants as a
use Rattle.py_language.specs.declared.shape.Bracket.TheVariants.{Round, Square, Brace}
use Rattle.py_language.specs.declared.shape.Symbol.TheVariants.{Atom, Super, Method, Open, Close}
use Rattle.py_expr.proofs.NumberSteps.{rest_of}
use Rattle.py_expr.specs.Stacks.{Pushed, AreStrings, text_of, glued, SuperOf, begins_called}

pub cons_is : (x : Token) (behind : List Token) → ((n : List ℕ) (zs : List Token) → x ≡ Mark Dot → behind ≡ Name n ∷ zs → ⊥) → symbols (x ∷ behind) ≡ join (symbol x) (symbols behind)
cons_is (Mark Dot) [] h = refl
cons_is (Mark Dot) (Name n ∷ zs) h = absurd (h n zs refl refl)
cons_is (Mark Dot) (_ ∷ zs) h = refl
cons_is (_) behind h = refl

-- two strings are joined one after another, or at once
join_twice : (s t : List ℕ) (xs : List Symbol) → join (Atom (a.StrLit s)) (join (Atom (a.StrLit t)) xs) ≡ join (Atom (a.StrLit (s ++ t))) xs
join_twice s t [] = refl
join_twice s t (Atom (a.StrLit u) ∷ xs) = ap (λ r. Atom (a.StrLit r) ∷ xs) (sym (append_assoc s t u))
join_twice s t (Atom (_) ∷ xs) = refl
join_twice s t (_ ∷ xs) = refl

strings_are : (strings : List Token) (s : List ℕ) (behind : List Token) → AreStrings strings → symbols (strings ++ Str s ∷ behind) ≡ join (Atom (a.StrLit (glued strings s))) (symbols behind)
strings_are [] s behind h = refl
strings_are (Str t ∷ strings) s behind h = ap (join (Atom (a.StrLit t))) (strings_are strings s behind h) ∙ join_twice t (glued strings s) (symbols behind)
strings_are (_ ∷ strings) s behind h = absurd h

no_name : (strings : List Token) (s : List ℕ) (behind : List Token) (n : List ℕ) (zs : List Token) → AreStrings strings → strings ++ Str s ∷ behind ≡ Name n ∷ zs → ⊥
no_name [] s behind n zs h e = cc
no_name (Str t ∷ strings) s behind n zs h e = cc
no_name (_ ∷ strings) s behind n zs h e = absurd h

-- the symbols of what is after `rest` are made, and no name there is after a dot before it
pub record Seen (tokens rest : List Token) (made : List Symbol) : Type 0 where
  pub behind : List Token
  pub joined : rest ++ behind ≡ tokens
  pub made_is : made ≡ symbols behind
  pub whole : (ys : List Token) → rest ≡ ys ++ Mark Dot ∷ [] → (n : List ℕ) (zs : List Token) → behind ≡ Name n ∷ zs → ⊥

pub seen_begun : (tokens : List Token) (made : List Symbol) → made ≡ [] → Seen tokens tokens made
seen_begun tokens made e = record { behind = []; joined = append-nil tokens; made_is = e; whole = λ ys a n zs b. cc }

pub seen_ended : (tokens rest : List Token) (made : List Symbol) → Seen tokens rest made → rest ≡ [] → made ≡ symbols tokens
seen_ended tokens rest made s e = s.made_is ∙ ap symbols (ap (λ r. r ++ s.behind) (sym e) ∙ s.joined)

pub seen_goes_on : (tokens rest before : List Token) (x : Token) (old new : List Symbol) (r : List Token) → Seen tokens rest old → rest ≡ before ++ x ∷ [] → Pushed before x old new r → Seen tokens r new
seen_goes_on tokens rest before x old new r s e (inl p) = record {
  behind = x ∷ s.behind;
  joined = ap (λ b. b ++ x ∷ s.behind) p.0 ∙ sym (append_assoc before (x ∷ []) s.behind) ∙ ap (λ b. b ++ s.behind) (sym e) ∙ s.joined;
  made_is = p.1 ∙ ap (join (symbol x)) s.made_is ∙ sym (cons_is x s.behind (λ n zs d b. s.whole before (e ∙ ap (λ x. before ++ x ∷ []) d) n zs b));
  whole = λ ys a n zs b. p.2 n (let w = b in cc) ys (sym p.0 ∙ a);
}
seen_goes_on tokens rest before x old new r s e (inr (inl p)) = record {
  behind = Mark Dot ∷ Name p.0 ∷ s.behind;
  joined = sym (append_assoc r (Mark Dot ∷ []) (Name p.0 ∷ s.behind)) ∙ ap (λ b. b ++ Name p.0 ∷ s.behind) (sym p.2) ∙ sym (append_assoc before (Name p.0 ∷ []) s.behind)
      ∙ ap (λ x. (before ++ x ∷ []) ++ s.behind) (sym p.1) ∙ ap (λ b. b ++ s.behind) (sym e) ∙ s.joined;
  made_is = p.3 ∙ ap (attribute p.0) s.made_is;
  whole = λ ys a n zs b. cc;
}
seen_goes_on tokens rest before x old new r s e (inr (inr p)) =
    let behind = p.1 ++ Str p.0 ∷ s.behind in
    record {
      behind = behind;
      joined = sym (append_assoc r p.1 (Str p.0 ∷ s.behind)) ∙ ap (λ b. b ++ Str p.0 ∷ s.behind) (sym p.3) ∙ sym (append_assoc before (Str p.0 ∷ []) s.behind)
          ∙ ap (λ x. (before ++ x ∷ []) ++ s.behind) (sym p.2) ∙ ap (λ b. b ++ s.behind) (sym e) ∙ s.joined;
      made_is = p.5 ∙ ap (join (Atom (a.StrLit (glued p.1 p.0)))) s.made_is ∙ sym (strings_are p.1 p.0 s.behind p.4);
      whole = λ ys a n zs b. no_name p.1 p.0 s.behind n zs p.4 b;
    }

pub seen_shorter : (rest before : List Token) (x : Token) (old new : List Symbol) (r : List Token) → rest ≡ before ++ x ∷ [] → Pushed before x old new r → length r < length rest
seen_shorter rest before x old new r e (inl p) = omega (arith, ap length e, ap length p.0, length-append before (x ∷ []))
seen_shorter rest before x old new r e (inr (inl p)) = omega (arith, ap length e, ap length p.2, length-append before (x ∷ []), length-append r (Mark Dot ∷ []))
seen_shorter rest before x old new r e (inr (inr p)) = omega (arith, ap length e, ap length p.3, length-append before (x ∷ []), length-append r p.1)

and_false : (b : Bool) → (b && false) ≡ true → ⊥
and_false true e = cc
and_false false e = cc

and_true : (b : Bool) → (b && true) ≡ b
and_true true = refl
and_true false = refl

named_by : (n : List ℕ) (a b : Symbol) (m : List ℕ) (xs : List Symbol) → (is_super n && begins_called (a ∷ b ∷ Method m ∷ xs)) ≡ true → named n (a ∷ b ∷ Method m ∷ xs) ≡ Super m ∷ xs
named_by n (Open Round) (Close Round) m xs h = let e : is_super n ≡ true = sym (and_true (is_super n)) ∙ h in rw e refl
named_by n (Open Round) (Close Square) m xs h = absurd (and_false (is_super n) h)
named_by n (Open Round) (Close Brace) m xs h = absurd (and_false (is_super n) h)
named_by n (Open Round) (_) m xs h = absurd (and_false (is_super n) h)
named_by n (Open Square) b m xs h = absurd (and_false (is_super n) h)
named_by n (Open Brace) b m xs h = absurd (and_false (is_super n) h)
named_by n (_) b m xs h = absurd (and_false (is_super n) h)

pub named_super : (n : List ℕ) (old new : List Symbol) → true ≡ (is_super n && begins_called old) → SuperOf old new → new ≡ named n old
named_super n old new h s =
    s.5 ∙ sym (named_by n s.0 s.1 s.2 s.3 (ap (λ o. is_super n && begins_called o) (sym s.4) ∙ sym h)) ∙ ap (named n) (sym s.4)

pub named_plain : (n : List ℕ) (old : List Symbol) → false ≡ (is_super n && begins_called old) → Atom (a.Name n) ∷ old ≡ named n old
named_plain n [] h = refl
named_plain n (Open Round ∷ []) h = refl
named_plain n (Open Round ∷ Close Round ∷ []) h = refl
named_plain n (Open Round ∷ Close Round ∷ Method m ∷ xs) h = let e : is_super n ≡ false = sym (and_true (is_super n)) ∙ sym h in rw e refl
named_plain n (Open Round ∷ Close Round ∷ _ ∷ xs) h = refl
named_plain n (Open Round ∷ Close Square ∷ xs) h = refl
named_plain n (Open Round ∷ Close Brace ∷ xs) h = refl
named_plain n (Open Round ∷ _ ∷ xs) h = refl
named_plain n (Open Square ∷ xs) h = refl
named_plain n (Open Brace ∷ xs) h = refl
named_plain n (_ ∷ xs) h = refl

pub both_false : (a b c : Bool) → c ≡ a → c ≡ false → false ≡ (a && b)
both_false true b c e f = absurd (let w = sym e ∙ f in cc)
both_false false b c e f = refl

pub both_true : (a b c d : Bool) → c ≡ a → c ≡ true → d ≡ b → d ≡ (a && b)
both_true true b c d e f g = g
both_true false b c d e f g = absurd (let w = sym e ∙ f in cc)

-- strings at the end of a list of tokens
pub record Apart (tokens outer : List Token) : Type 0 where
  pub strings : List Token
  pub joined : tokens ≡ outer ++ strings
  pub are : AreStrings strings

pub apart_begun : (tokens : List Token) → Apart tokens tokens
apart_begun tokens = record { strings = []; joined = sym (append-nil tokens); are = tt }

pub apart_goes_on : (tokens outer before : List Token) (s : List ℕ) → Apart tokens outer → outer ≡ before ++ Str s ∷ [] → Apart tokens before
apart_goes_on tokens outer before s p e = record {
  strings = Str s ∷ p.strings;
  joined = p.joined ∙ ap (λ o. o ++ p.strings) e ∙ append_assoc before (Str s ∷ []) p.strings;
  are = p.are;
}

pub apart_ended : (tokens outer : List Token) → Apart tokens outer → AreStrings (drop (length outer) tokens)
apart_ended tokens outer p = rw (p.joined, drop-append_seam outer p.strings) p.are

-- one more text of a list of strings
pub glued_goes_on : (strings : List Token) (i : ℕ) (x : Token) (text next last whole : List ℕ) → i < length strings → x ≡ get_or strings i x → whole ≡ text ++ glued (drop i strings) last → next ≡ text ++ text_of x
    → whole ≡ next ++ glued (drop (i + 1) strings) last
glued_goes_on strings i x text next last whole lt is before e =
    before ∙ ap (λ xs. text ++ glued xs last) (rest_of strings i x lt is) ∙ sym (append_assoc text (text_of x) (glued (drop (i + 1) strings) last)) ∙ ap (λ t. t ++ glued (drop (i + 1) strings) last) (sym e)

pub glued_ended : (strings : List Token) (i : ℕ) (text next last whole : List ℕ) → length strings ≤ i → whole ≡ text ++ glued (drop i strings) last → next ≡ text ++ last → next ≡ whole
glued_ended strings i text next last whole le before e = sym (before ∙ ap (λ xs. text ++ glued xs last) (drop_all i strings le) ∙ sym e)

pub no_text : (x : Token) → ((s : List ℕ) → x ≡ Str s → ⊥) → chars [] ≡ text_of x
unfolding chars
no_text (Str s) h = absurd (h s refl)
no_text (_) h = refl
