-- What is read as an annotation: its form, and the tokens that its parts are read from.
use Rattle.std.proofs.Common.{◌≡◌, ◌∙◌, sym, ap, subst, ℕ, zero, suc, true, List, [], ◌∷◌, Option, Some, None}
use Rattle.std.specs.Prelude.{encode_utf8_all}
use Rattle.std.specs.List.{list_all}
use Rattle.pyn_base.specs.declared.construct.Construct.{Construct}
use Rattle.py_language.specs.declared.shape.Bracket.TheVariants.{Square}
use Rattle.py_language.specs.declared.token.Keyword.TheVariants as k
use Rattle.py_language.specs.declared.token.Logical.{Logical}
use Rattle.py_language.specs.declared.token.Mark.TheVariants as m
use Rattle.py_language.specs.declared.token.Token.{Token}
use Rattle.py_language.specs.declared.token.Token.TheVariants as t
use Rattle.py_language.specs.Tokens.{tokens_of}
use Rattle.py_language.specs.Trees.{◌>>=◌, each}
use Rattle.py_syntax.specs.declared.stmt.Annotation.{Annotation}
use Rattle.py_syntax.specs.declared.stmt.Annotation.TheVariants as a
use Rattle.py_grammar.specs.declared.separator.Separator.TheVariants.{Comma, Pipe}
use Rattle.py_grammar.specs.Annotations as g
use Rattle.py_grammar.specs.Separators.{inside, last_cut, split, all_parts}
use Rattle.py_spelling.specs.Spelling.{is_sound, has_sound_tokens, AllTokensAreSound}
use Rattle.py_layout.proofs.Small.{some_bind, some_is}
use Rattle.py_layout.proofs.Good.{Good, AllGood, GoodAt, and_both, good_of, good_cut, good_split, good_inside}

-- It is an annotation in fewer brackets and strings than the number, read from tokens that are a text's where S holds.
abbrev pub ReadIn : Type 0 → ℕ → Annotation → Type 0
ReadIn S d x = (ts : List Token) × ((g.annotation_in d ts ≡ Some x) × (S → Good ts))

abbrev pub EachIn : Type 0 → ℕ → List Annotation → Type 0
EachIn S d [] = Unit {0}
EachIn S d (x ∷ xs) = ReadIn S d x × EachIn S d xs

-- without `| None`
pub data One (S : Type 0) (d : ℕ) (x : Annotation) : Type 0 where
  of_plain : (n : List ℕ) → x ≡ a.Named n [] → (S → is_sound (t.Name n) ≡ true) → One S d x
  of_parts : (n : List ℕ) (y : Annotation) (ys : List Annotation) → x ≡ a.Named n (y ∷ ys) → (S → is_sound (t.Name n) ≡ true) → EachIn S d (y ∷ ys) → One S d x
  of_none : x ≡ a.NoneType → One S d x
  of_quoted : (y : Annotation) → x ≡ a.Quoted y → ReadIn (Unit {0}) d y → One S d x

pub data Form (S : Type 0) (d : ℕ) (x : Annotation) : Type 0 where
  of_one : One S d x → Form S d x
  of_or : (y : Annotation) → x ≡ a.OrNone y → One S d y → Form S d x

module _ (sounds : AllTokensAreSound) (S : Type 0) (d : ℕ) where
  abbrev part : List Token → Option Annotation
  part = g.annotation_in d

  -- ---- parts in brackets

  each_read : (parts : List (List Token)) (all : List Annotation) → (S → AllGood parts) → each part parts ≡ Some all → EachIn S d all
  each_read [] all h e = subst (EachIn S d) (some_is [] all e) tt
  each_read (ts ∷ more) all h e =
      let f = some_bind (part ts) (λ first. each part more >>= λ others. Some (first ∷ others)) all e in
      let j = some_bind (each part more) (λ others. Some (f.0 ∷ others)) all f.1.1 in
      subst (EachIn S d) (some_is (f.0 ∷ j.0) all j.1.1) ((ts, (f.1.0, λ s. (h s).0)), each_read more j.0 (λ s. (h s).1) j.1.0)

  filled : (xs : List Token) (parts : List (List Token)) (all : List Annotation) → each part (xs ∷ parts) ≡ Some all → (y : Annotation) × ((ys : List Annotation) × (all ≡ y ∷ ys))
  filled xs parts all e =
      let f = some_bind (part xs) (λ first. each part parts >>= λ others. Some (first ∷ others)) all e in
      let j = some_bind (each part parts) (λ others. Some (f.0 ∷ others)) all f.1.1 in
      (f.0, (j.0, sym (some_is (f.0 ∷ j.0) all j.1.1)))

  bracketed : (n : List ℕ) (xs : List Token) (x : Annotation) → (S → is_sound (t.Name n) ≡ true) → (S → Good xs) → (inside Square xs >>= all_parts Comma part >>= λ all. Some (a.Named n all)) ≡ Some x → One S d x
  bracketed n xs x s h e =
      let f = some_bind (inside Square xs >>= all_parts Comma part) (λ all. Some (a.Named n all)) x e in
      let c = some_bind (inside Square xs) (all_parts Comma part) f.0 f.1.0 in
      let w = filled _ _ f.0 c.1.1 in
      let good : S → AllGood (split Comma c.0) = λ s. good_split Comma c.0 (good_inside Square xs c.0 (h s) c.1.0) in
      of_parts n w.0 w.1.0 (sym (some_is (a.Named n f.0) x f.1.1) ∙ ap (a.Named n) w.1.1) s (subst (EachIn S d) w.1.1 (each_read (split Comma c.0) f.0 good c.1.1))

  named_form : (n : List ℕ) (xs : List Token) (x : Annotation) → (S → is_sound (t.Name n) ≡ true) → (S → Good xs) → g.named part n xs ≡ Some x → One S d x
  named_form n [] x s h e = of_plain n (sym (some_is (a.Named n []) x e)) s
  named_form n (t.Mark m.LeftBracket ∷ xs) x s h e = bracketed n xs x s (λ v. (h v).1) e
  named_form n _ x s h e = absurd (cc)

  -- ---- strings

  lone_good : (ls : List Logical) (fault : Option (ℕ × Construct)) (ts : List Token) → list_all has_sound_tokens ls ≡ true → g.lone ls fault ≡ Some ts → Good ts
  lone_good (l ∷ []) None ts s e = subst Good (some_is l.tokens ts e) (good_of l.tokens (and_both (has_sound_tokens l) true s).0)
  lone_good _ _ ts s e = absurd (cc)

  line_good : (text : List ℕ) (ts : List Token) → g.line_in text ≡ Some ts → Good ts
  line_good text ts e = lone_good (tokens_of text).lines (tokens_of text).fault ts (sounds text) e

  quoted_form : (xs : List Token) (x : Annotation) → g.quoted part xs ≡ Some x → One S d x
  unfolding g.held
  quoted_form xs x e =
      let f = some_bind (g.strings xs >>= g.held part) (λ y. Some (a.Quoted y)) x e in
      let h = some_bind (g.strings xs) (g.held part) f.0 f.1.0 in
      let l = some_bind (g.line_in (encode_utf8_all h.0)) part f.0 h.1.1 in
      of_quoted f.0 (sym (some_is (a.Quoted f.0) x f.1.1)) (l.0, (l.1.1, λ u. line_good (encode_utf8_all h.0) l.0 l.1.0))

  -- ---- one, and with `| None`

  one_form : (xs : List Token) (x : Annotation) → (S → Good xs) → g.one part xs ≡ Some x → One S d x
  one_form [] x h e = absurd (cc)
  one_form (t.Keyword k.NoneLit ∷ []) x h e = of_none (sym (some_is a.NoneType x e))
  one_form (t.Name n ∷ xs) x h e = named_form n xs x (λ s. (h s).0) (λ s. (h s).1) e
  one_form xs x h e = quoted_form xs x e

  before_form : (xs ys : List Token) (x : Annotation) → (S → Good xs) → g.before_none part xs ys ≡ Some x → Form S d x
  before_form xs (t.Keyword k.NoneLit ∷ []) x h e =
      let f = some_bind (g.one part xs) (λ y. Some (a.OrNone y)) x e in
      of_or f.0 (sym (some_is (a.OrNone f.0) x f.1.1)) (one_form xs f.0 h f.1.0)
  before_form xs _ x h e = absurd (cc)

  maybe_form : (o : Option (List Token × Token × List Token)) (xs : List Token) (x : Annotation) → (S → GoodAt o) → (S → Good xs) → g.maybe_none part o xs ≡ Some x → Form S d x
  maybe_form (Some c) xs x c_good h e = before_form c.0 c.2 x (λ s. (c_good s).0) e
  maybe_form None xs x c_good h e = of_one (one_form xs x h e)

  pub form_of : (xs : List Token) (x : Annotation) → (S → Good xs) → g.annotation_in (suc d) xs ≡ Some x → Form S d x
  unfolding g.annotation_in
  form_of xs x h e = maybe_form (last_cut Pipe xs) xs x (λ s. good_cut Pipe xs (h s)) h e

pub none_at_zero : (xs : List Token) (x : Annotation) → g.annotation_in zero xs ≡ Some x → ⊥
unfolding g.annotation_in
none_at_zero xs x e = cc
