-- What is read as an annotation is read from its own tokens: by induction on how deep it is.
use Rattle.std.proofs.Common.{◌≡◌, ◌∙◌, sym, ap, refl, subst, ℕ, zero, suc, ◌≤◌, Bool, true, false, ◌||◌, List, [], ◌∷◌, ◌++◌, Option, Some, append-nil, append_assoc, encode_utf8_all, arith}
use Rattle.std.specs.Prelude.{map, nat_lt}
use Rattle.std.specs.List.{list_all}
use Rattle.py_cut.specs.Cut.{scan, Passes}
use Rattle.py_language.specs.declared.token.Keyword.TheVariants as k
use Rattle.py_language.specs.declared.token.Mark.TheVariants as m
use Rattle.py_language.specs.declared.token.Token.{Token}
use Rattle.py_language.specs.declared.token.Token.TheVariants as t
use Rattle.py_language.specs.Trees.{◌>>=◌, each}
use Rattle.py_syntax.specs.declared.stmt.Annotation.{Annotation}
use Rattle.py_syntax.specs.declared.stmt.Annotation.TheVariants as a
use Rattle.py_grammar.specs.declared.separator.Separator.{Separator}
use Rattle.py_grammar.specs.declared.separator.Separator.TheVariants.{Semicolon, Comma, Colon, Equal, Assign, Pipe, Part, In, As, Closing}
use Rattle.py_grammar.specs.Annotations as g
use Rattle.py_grammar.specs.Separators.{opened, outside, marks, all_parts}
use Rattle.py_spelling.specs.Spelling.{is_sound, is_balanced, OnlyBracketsOpen, AllTokensAreSound}
use Rattle.py_printer.specs.Lines.{LinesReadBack, TextsAreCharacters}
use Rattle.py_printer.specs.Style.{text_of}
use Rattle.py_layout.specs.Quiet.{is_strict}
use Rattle.py_layout.specs.Small.{joined, is_never_in_annotations, ReadsBack}
use Rattle.py_layout.proofs.Cutting.{last_cut_pass, last_cut_at}
use Rattle.py_layout.proofs.Good.{Good, good_of}
use Rattle.py_annotation_layout.specs.Annotations.{annotation_tokens}
use Rattle.py_annotation_layout.specs.Laws.{AnnotationsAreSound, AnnotationsAreBalanced}
use Rattle.py_annotation_layout.proofs.Edges.{name_edges, none_starts, none_ends, bracket_ends, string_starts, string_ends}
use Rattle.py_annotation_layout.proofs.Endless.{Edges, line_read}
use Rattle.py_annotation_layout.proofs.Forms.{ReadIn, EachIn, One, of_plain, of_parts, of_none, of_quoted, Form, of_one, of_or, form_of, none_at_zero}
use Rattle.py_annotation_layout.proofs.Levels.{tokens-Named, tokens-NoneType, tokens-OrNone, tokens-Quoted}
use Rattle.py_annotation_layout.proofs.Lists.{mark_after, inside_back, split_joined, AllSound, sound_append, sound_joined}
use Rattle.py_annotation_layout.proofs.Nesting.{Nest, nest_append, nest_between, nest_token, AllNest, nest_joined}
use Rattle.py_annotation_layout.proofs.Quiet.{CalmAt, AllCalm, outside_here, calm_append, calm_token, calm_weaker, calm_between, calm_joined, comma_deep}

-- Tokens of an annotation in at most so many brackets and strings. What a text asks of them holds where `s` does.
record Nice (s : Bool) (d : ℕ) (x : Annotation) (ts : List Token) : Type 0 where
  back : g.annotation_in (suc d) ts ≡ Some x
  calm : (n : ℕ) → CalmAt is_never_in_annotations n ts
  sound : s ≡ true → list_all is_sound ts ≡ true
  nest : s ≡ true → Nest d ts
  edges : s ≡ true → Edges ts

-- of one without `| None`
record NiceOne (s : Bool) (d : ℕ) (x : Annotation) (ts : List Token) : Type 0 where
  back : g.one (g.annotation_in d) ts ≡ Some x
  calm : (n : ℕ) → CalmAt is_strict n ts
  sound : s ≡ true → list_all is_sound ts ≡ true
  nest : s ≡ true → Nest d ts
  edges : s ≡ true → Edges ts

abbrev Below : ℕ → Bool → Annotation → Type 0
Below zero s x = ⊥
Below (suc d) s x = Nice s d x (annotation_tokens x)

-- ---- tokens that are no separators

never_strict : (p : Separator) → is_never_in_annotations p ≡ true → is_strict p ≡ true
never_strict Pipe e = refl
never_strict Semicolon e = refl
never_strict Comma e = refl
never_strict Colon e = refl
never_strict Equal e = refl
never_strict Assign e = refl
never_strict As e = refl
never_strict Closing e = refl
never_strict Part e = absurd (cc)
never_strict In e = absurd (cc)

name_marks : (n : List ℕ) (p : Separator) → marks p (t.Name n) ≡ false
name_marks n Semicolon = refl
name_marks n Comma = refl
name_marks n Colon = refl
name_marks n Equal = refl
name_marks n Assign = refl
name_marks n Pipe = refl
name_marks n Part = refl
name_marks n In = refl
name_marks n As = refl
name_marks n Closing = refl

string_marks : (text : List ℕ) (p : Separator) → marks p (t.Str text) ≡ false
string_marks text Semicolon = refl
string_marks text Comma = refl
string_marks text Colon = refl
string_marks text Equal = refl
string_marks text Assign = refl
string_marks text Pipe = refl
string_marks text Part = refl
string_marks text In = refl
string_marks text As = refl
string_marks text Closing = refl

none_marks : (p : Separator) → marks p (t.Keyword k.NoneLit) ≡ false
none_marks Semicolon = refl
none_marks Comma = refl
none_marks Colon = refl
none_marks Equal = refl
none_marks Assign = refl
none_marks Pipe = refl
none_marks Part = refl
none_marks In = refl
none_marks As = refl
none_marks Closing = refl

bar_marks : (p : Separator) → is_never_in_annotations p ≡ true → marks p (t.Mark m.Pipe) ≡ false
bar_marks Pipe e = absurd (cc)
bar_marks Semicolon e = refl
bar_marks Comma e = refl
bar_marks Colon e = refl
bar_marks Equal e = refl
bar_marks Assign e = refl
bar_marks Part e = refl
bar_marks In e = refl
bar_marks As e = refl
bar_marks Closing e = refl

bracket_marks : (p : Separator) → is_strict p ≡ true → marks p (t.Mark m.LeftBracket) ≡ false
bracket_marks Part e = absurd (cc)
bracket_marks Semicolon e = refl
bracket_marks Comma e = refl
bracket_marks Colon e = refl
bracket_marks Equal e = refl
bracket_marks Assign e = refl
bracket_marks Pipe e = refl
bracket_marks In e = refl
bracket_marks As e = refl
bracket_marks Closing e = refl

module _ (lines : LinesReadBack) (characters : TextsAreCharacters) (only : OnlyBracketsOpen) (sounds : AllTokensAreSound) where
  -- ---- a name

  plain_nice : (s : Bool) (d : ℕ) (n : List ℕ) → (s ≡ true → is_sound (t.Name n) ≡ true) → NiceOne s d (a.Named n []) (t.Name n ∷ [])
  plain_nice s d n h =
      record {
        back = refl;
        calm = calm_token is_strict (t.Name n) ((λ k. refl), (λ p e. name_marks n p));
        sound = λ e. rw (h e) refl;
        nest = λ e. nest_token only d (t.Name n) (h e) refl;
        edges = λ e. let two = name_edges n (h e) in record { first = t.Name n; more = []; begins = refl; kind = refl; starts = two.0; front = []; last = t.Name n; whole = refl; ends = two.1 };
      }

  -- ---- a name with parts

  abbrev EachBelow : ℕ → Bool → List Annotation → Type 0
  EachBelow d s [] = Unit {0}
  EachBelow d s (x ∷ xs) = Nice s d x (annotation_tokens x) × EachBelow d s xs

  all_calm : (d : ℕ) (s : Bool) (n : ℕ) (xs : List Annotation) → EachBelow d s xs → AllCalm is_never_in_annotations n (map annotation_tokens xs)
  all_calm d s n [] h = tt
  all_calm d s n (x ∷ xs) h = (h.0.calm n, all_calm d s n xs h.1)

  all_sound : (d : ℕ) (s : Bool) → s ≡ true → (xs : List Annotation) → EachBelow d s xs → AllSound (map annotation_tokens xs)
  all_sound d s e [] h = tt
  all_sound d s e (x ∷ xs) h = (h.0.sound e, all_sound d s e xs h.1)

  all_nest : (d : ℕ) (s : Bool) → s ≡ true → (xs : List Annotation) → EachBelow d s xs → AllNest only d (map annotation_tokens xs)
  all_nest d s e [] h = tt
  all_nest d s e (x ∷ xs) h = (h.0.nest e, all_nest d s e xs h.1)

  each_back : (d : ℕ) (s : Bool) (xs : List Annotation) → EachBelow d s xs → each (g.annotation_in (suc d)) (map annotation_tokens xs) ≡ Some xs
  each_back d s [] h = refl
  each_back d s (x ∷ xs) h =
      ap (λ o. o >>= λ first. each (g.annotation_in (suc d)) (map annotation_tokens xs) >>= λ others. Some (first ∷ others)) h.0.back
      ∙ ap (λ o. o >>= λ others. Some (x ∷ others)) (each_back d s xs h.1)

  -- the separators that commas don't count among
  abbrev closing : Separator → Bool
  closing Closing = true
  closing _ = false

  closing_never : (p : Separator) → closing p ≡ true → is_never_in_annotations p ≡ true
  closing_never Closing e = refl
  closing_never _ e = absurd (cc)

  comma_marks : (p : Separator) → closing p ≡ true → marks p (t.Mark m.Comma) ≡ false
  comma_marks Closing e = refl
  comma_marks _ e = absurd (cc)

  all_weaker : (parts : List (List Token)) → AllCalm is_never_in_annotations 0 parts → AllCalm closing 0 parts
  all_weaker [] h = tt
  all_weaker (xs ∷ more) h = (calm_weaker is_never_in_annotations closing closing_never 0 xs h.0, all_weaker more h.1)

  module _ (s : Bool) (d : ℕ) (n : List ℕ) (y : Annotation) (ys : List Annotation) where
    abbrev part : List Token → Option Annotation
    part = g.annotation_in (suc d)

    abbrev parts : List (List Token)
    parts = map annotation_tokens (y ∷ ys)

    abbrev between : List Token
    between = joined parts

    abbrev after : List Token
    after = t.Mark m.LeftBracket ∷ (between ++ t.Mark m.RightBracket ∷ [])

    between_closes : EachBelow d s (y ∷ ys) → CalmAt closing 0 between
    between_closes below = calm_joined closing 0 (calm_token closing (t.Mark m.Comma) ((λ k. refl), comma_marks) 0) parts (all_weaker parts (all_calm d s 0 (y ∷ ys) below))

    parts_nice : (s ≡ true → is_sound (t.Name n) ≡ true) → EachBelow d s (y ∷ ys) → NiceOne s (suc d) (a.Named n (y ∷ ys)) (t.Name n ∷ after)
    parts_nice h below =
        record {
          back = ap (λ o. (o >>= all_parts Comma part) >>= λ all. Some (a.Named n all)) (inside_back closing between refl (between_closes below))
              ∙ ap (λ z. each part z >>= λ all. Some (a.Named n all)) (split_joined is_never_in_annotations refl (annotation_tokens y) (map annotation_tokens ys) (all_calm d s 0 (y ∷ ys) below))
              ∙ ap (λ o. o >>= λ all. Some (a.Named n all)) (each_back d s (y ∷ ys) below);
          calm = λ k. calm_append is_strict k (t.Name n ∷ []) after (calm_token is_strict (t.Name n) ((λ k. refl), (λ p e. name_marks n p)) k)
              (calm_between is_strict is_never_in_annotations bracket_marks k between (calm_joined is_never_in_annotations (suc k) (comma_deep is_never_in_annotations k) parts (all_calm d s (suc k) (y ∷ ys) below)));
          sound = λ e. sound_append (t.Name n ∷ t.Mark m.LeftBracket ∷ []) (between ++ t.Mark m.RightBracket ∷ []) (rw (h e) refl) (sound_append between (t.Mark m.RightBracket ∷ []) (sound_joined parts (all_sound d s e (y ∷ ys) below)) refl);
          nest = λ e. nest_append (suc d) (t.Name n ∷ []) after (nest_token only (suc d) (t.Name n) (h e) refl) (nest_between d between (nest_joined only d parts (all_nest d s e (y ∷ ys) below)));
          edges = λ e. record { first = t.Name n; more = after; begins = refl; kind = refl; starts = (name_edges n (h e)).0; front = t.Name n ∷ t.Mark m.LeftBracket ∷ between; last = t.Mark m.RightBracket; whole = refl; ends = bracket_ends };
        }

  -- ---- `None`

  none_nice : (s : Bool) (d : ℕ) → NiceOne s d a.NoneType (t.Keyword k.NoneLit ∷ [])
  none_nice s d =
      record {
        back = refl;
        calm = calm_token is_strict (t.Keyword k.NoneLit) ((λ k. refl), (λ p e. none_marks p));
        sound = λ e. refl;
        nest = λ e. nest_token only d (t.Keyword k.NoneLit) refl refl;
        edges = λ e. record { first = t.Keyword k.NoneLit; more = []; begins = refl; kind = refl; starts = none_starts; front = []; last = t.Keyword k.NoneLit; whole = refl; ends = none_ends };
      }

  -- ---- in a string

  quoted_back : (d : ℕ) (y : Annotation) (ts : List Token) → d ≤ 50 → Nice true d y ts → g.quoted (g.annotation_in (suc d)) (t.Str (text_of ts) ∷ []) ≡ Some (a.Quoted y)
  unfolding g.held
  quoted_back d y ts le w =
      let balanced : is_balanced [] ts ≡ true = ap (is_balanced []) (sym (append-nil ts)) ∙ w.nest refl [] [] (omega (arith, le)) in
      ap (λ text. (g.line_in (encode_utf8_all text) >>= g.annotation_in (suc d)) >>= λ x. Some (a.Quoted x)) (append-nil (text_of ts))
      ∙ ap (λ o. (o >>= g.annotation_in (suc d)) >>= λ x. Some (a.Quoted x)) (line_read lines ts (w.edges refl) (w.sound refl) balanced)
      ∙ ap (λ o. o >>= λ x. Some (a.Quoted x)) w.back

  quoted_nice : (s : Bool) (d : ℕ) (y : Annotation) (ts : List Token) → d ≤ 50 → Nice true d y ts → NiceOne s (suc d) (a.Quoted y) (t.Str (text_of ts) ∷ [])
  quoted_nice s d y ts le w =
      let text = text_of ts in
      let scalars : is_sound (t.Str text) ≡ true = characters ts (w.sound refl) in
      record {
        back = quoted_back d y ts le w;
        calm = calm_token is_strict (t.Str text) ((λ k. refl), (λ p e. string_marks text p));
        sound = λ e. rw scalars refl;
        nest = λ e. nest_token only (suc d) (t.Str text) scalars refl;
        edges = λ e. record { first = t.Str text; more = []; begins = refl; kind = refl; starts = string_starts text; front = []; last = t.Str text; whole = refl; ends = string_ends text };
      }

  -- ---- one

  module _ (d : ℕ) (le : d ≤ 50) (ih : (s : Bool) (y : Annotation) → ReadIn (s ≡ true) d y → Below d s y) where
    each_below : (e : ℕ) (s : Bool) (xs : List Annotation) → d ≡ suc e → EachIn (s ≡ true) d xs → EachBelow e s xs
    each_below e s [] is r = tt
    each_below e s (x ∷ xs) is r = (subst (λ n. Below n s x) is (ih s x r.0), each_below e s xs is r.1)

    abbrev Moved : Bool → Annotation → List Token → Type 0
    Moved s x ts = NiceOne s d x ts

    moved : (s : Bool) (x y : Annotation) (ts : List Token) → x ≡ y → annotation_tokens y ≡ ts → NiceOne s d y ts → NiceOne s d x (annotation_tokens x)
    moved s x y ts is e w = subst (λ z. NiceOne s d z (annotation_tokens z)) (sym is) (subst (λ z. NiceOne s d y z) (sym e) w)

    parts_by : (e : ℕ) (s : Bool) (n : List ℕ) (y : Annotation) (ys : List Annotation) → d ≡ e → (s ≡ true → is_sound (t.Name n) ≡ true) → EachIn (s ≡ true) d (y ∷ ys)
        → NiceOne s d (a.Named n (y ∷ ys)) (t.Name n ∷ t.Mark m.LeftBracket ∷ (joined (map annotation_tokens (y ∷ ys)) ++ t.Mark m.RightBracket ∷ []))
    parts_by zero s n y ys is h r = absurd (subst (λ n. Below n s y) is (ih s y r.0))
    parts_by (suc e) s n y ys is h r =
        subst (λ k. NiceOne s k (a.Named n (y ∷ ys)) (t.Name n ∷ t.Mark m.LeftBracket ∷ (joined (map annotation_tokens (y ∷ ys)) ++ t.Mark m.RightBracket ∷ []))) (sym is) (parts_nice s e n y ys h (each_below e s (y ∷ ys) is r))

    quoted_by : (e : ℕ) (s : Bool) (y : Annotation) → d ≡ e → ReadIn (Unit {0}) d y → NiceOne s d (a.Quoted y) (t.Str (text_of (annotation_tokens y)) ∷ [])
    quoted_by zero s y is r = absurd (subst (λ n. Below n true y) is (ih true y (r.0, (r.1.0, λ v. r.1.1 tt))))
    quoted_by (suc e) s y is r =
        subst (λ k. NiceOne s k (a.Quoted y) (t.Str (text_of (annotation_tokens y)) ∷ [])) (sym is)
        (quoted_nice s e y (annotation_tokens y) (omega (arith, le, is)) (subst (λ n. Below n true y) is (ih true y (r.0, (r.1.0, λ v. r.1.1 tt)))))

    one_nice : (s : Bool) (x : Annotation) → One (s ≡ true) d x → NiceOne s d x (annotation_tokens x)
    one_nice s x (of_plain n is h) = moved s x _ _ is (tokens-Named n []) (plain_nice s d n h)
    one_nice s x (of_parts n y ys is h r) = moved s x _ _ is (tokens-Named n (y ∷ ys)) (parts_by d s n y ys refl h r)
    one_nice s x (of_none is) = moved s x _ _ is tokens-NoneType (none_nice s d)
    one_nice s x (of_quoted y is r) = moved s x _ _ is (tokens-Quoted y) (quoted_by d s y refl r)

    -- ---- with `| None`, or without

    alone : (s : Bool) (x : Annotation) (ts : List Token) → NiceOne s d x ts → Nice s d x ts
    unfolding g.annotation_in
    alone s x ts w =
        record {
          back = ap (λ o. g.maybe_none (g.annotation_in d) o ts) (last_cut_pass opened (outside Pipe) 0 ts ((w.calm 0).passes Pipe refl)) ∙ w.back;
          calm = λ n. calm_weaker is_strict is_never_in_annotations never_strict n ts (w.calm n);
          sound = w.sound;
          nest = w.nest;
          edges = w.edges;
        }

    abbrev bar : List Token
    bar = t.Mark m.Pipe ∷ t.Keyword k.NoneLit ∷ []

    bar_back : (s : Bool) (y : Annotation) (ts : List Token) → NiceOne s d y ts → g.annotation_in (suc d) (ts ++ bar) ≡ Some (a.OrNone y)
    unfolding g.annotation_in
    bar_back s y ts w =
        let c = (w.calm 0).closes in
        let after : Passes opened (outside Pipe) (scan opened 0 ts) (t.Keyword k.NoneLit ∷ []) = subst (λ n. Passes opened (outside Pipe) n (t.Keyword k.NoneLit ∷ [])) (sym c) (outside_here Pipe (t.Keyword k.NoneLit) false refl, tt) in
        ap (λ o. g.maybe_none (g.annotation_in d) o (ts ++ bar)) (last_cut_at opened (outside Pipe) 0 ts (t.Mark m.Pipe) (t.Keyword k.NoneLit ∷ []) (mark_after Pipe (scan opened 0 ts) (t.Mark m.Pipe) c refl) after)
        ∙ ap (λ o. o >>= λ x. Some (a.OrNone x)) w.back

    barred : (s : Bool) (y : Annotation) (ts : List Token) → NiceOne s d y ts → Nice s d (a.OrNone y) (ts ++ bar)
    barred s y ts w =
        record {
          back = bar_back s y ts w;
          calm = λ n. calm_append is_never_in_annotations n ts bar (calm_weaker is_strict is_never_in_annotations never_strict n ts (w.calm n))
              (calm_append is_never_in_annotations n (t.Mark m.Pipe ∷ []) (t.Keyword k.NoneLit ∷ []) (calm_token is_never_in_annotations (t.Mark m.Pipe) ((λ k. refl), bar_marks) n)
              (calm_token is_never_in_annotations (t.Keyword k.NoneLit) ((λ k. refl), (λ p e. none_marks p)) n));
          sound = λ e. sound_append ts bar (w.sound e) refl;
          nest = λ e. nest_append d ts bar (w.nest e) (nest_append d (t.Mark m.Pipe ∷ []) (t.Keyword k.NoneLit ∷ []) (nest_token only d (t.Mark m.Pipe) refl refl) (nest_token only d (t.Keyword k.NoneLit) refl refl));
          edges = λ e.
              let w' = w.edges e in
              record { first = w'.first; more = w'.more ++ bar; begins = ap (λ z. z ++ bar) w'.begins; kind = w'.kind; starts = w'.starts; front = ts ++ t.Mark m.Pipe ∷ []; last = t.Keyword k.NoneLit; whole = sym (append_assoc ts (t.Mark m.Pipe ∷ []) (t.Keyword k.NoneLit ∷ [])); ends = none_ends };
        }

    form_nice : (s : Bool) (x : Annotation) → Form (s ≡ true) d x → Nice s d x (annotation_tokens x)
    form_nice s x (of_one w) = alone s x (annotation_tokens x) (one_nice s x w)
    form_nice s x (of_or y is w) =
        subst (λ z. Nice s d z (annotation_tokens z)) (sym is) (subst (λ ts. Nice s d (a.OrNone y) ts) (sym (tokens-OrNone y)) (barred s y (annotation_tokens y) (one_nice s y w)))

  -- ---- at any depth

  nice : (d : ℕ) (s : Bool) (ts : List Token) (x : Annotation) → (s ≡ true → Good ts) → d ≤ 50 → g.annotation_in (suc d) ts ≡ Some x → Nice s d x (annotation_tokens x)
  nice zero s ts x h le e = form_nice zero le (λ s y r. none_at_zero r.0 y r.1.0) s x (form_of sounds (s ≡ true) zero ts x h e)
  nice (suc d) s ts x h le e = form_nice (suc d) le (λ s y r. nice d s r.0 y r.1.1 (omega (arith, le)) r.1.0) s x (form_of sounds (s ≡ true) (suc d) ts x h e)

  top : (ts : List Token) (x : Annotation) → g.annotation ts ≡ Some x → Nice false 50 x (annotation_tokens x)
  top ts x e = nice 50 false ts x (λ w. absurd (cc)) (omega arith) e

  top_sound : (ts : List Token) (x : Annotation) → list_all is_sound ts ≡ true → g.annotation ts ≡ Some x → Nice true 50 x (annotation_tokens x)
  top_sound ts x h e = nice 50 true ts x (λ w. good_of ts h) (omega arith) e

  pub reads_back : ReadsBack annotation_tokens
  reads_back =
      record {
        back = λ ts x e. (top ts x e).back;
        whole = λ ts x e p h. let c = (top ts x e).calm 0 in (c.closes, c.passes p (ap (λ v. v || nat_lt 0 0) h));
      }

  pub annotations_sound : AnnotationsAreSound
  annotations_sound ts x h e = (top_sound ts x h e).sound refl

  pub annotations_balanced : AnnotationsAreBalanced
  annotations_balanced ts rest x h e = (top_sound ts x h e).nest refl [] rest (omega arith)
