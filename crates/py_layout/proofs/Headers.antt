-- Headers of compound statements are read back from their tokens.
use Rattle.std.proofs.Common.{◌≡◌, ◌∙◌, sym, ap, refl, subst, ℕ, zero, suc, Bool, true, false, List, [], ◌∷◌, ◌++◌, append-nil, append_assoc, Option, Some, None}
use Rattle.std.specs.Prelude.{if◌then◌else◌, map, option_map}
use Rattle.py_cut.specs.Cut.{scan, Passes}
use Rattle.py_language.specs.declared.token.Token.{Token}
use Rattle.py_language.specs.declared.token.Token.TheVariants as t
use Rattle.py_language.specs.declared.token.Keyword.TheVariants as k
use Rattle.py_language.specs.declared.token.Mark.TheVariants as m
use Rattle.py_language.specs.TreesPlaces.{Level, Listed, Conditional}
use Rattle.py_language.specs.Trees.{◌>>=◌, each}
use Rattle.py_syntax.specs.declared.expr.Expr.{Expr}
use Rattle.py_syntax.specs.declared.stmt.Annotation.{Annotation}
use Rattle.py_grammar.specs.declared.separator.Separator.{Separator}
use Rattle.py_grammar.specs.declared.separator.Separator.TheVariants.{Semicolon, Comma, Colon, Equal, Assign, Pipe, Part, In, As, Closing}
use Rattle.py_grammar.specs.Annotations.{annotation}
use Rattle.py_grammar.specs.Separators.{opened, outside, marks, front, back, split, trimmed, parts, some_parts, has, closed, inside}
use Rattle.py_grammar.specs.Statements as g
use Rattle.py_printing.specs.Expressions.{expr_tokens, ShapesReadBack}
use Rattle.py_layout.specs.Quiet.{is_strict, QuietAt, ExpressionsAreQuiet}
use Rattle.py_layout.specs.Starts.{Begins, ExpressionsBegin}
use Rattle.py_layout.specs.Small.{joined, list_tokens, typed_tokens, fresh, Whole, is_never_in_annotations, ReadsBack}
use Rattle.py_layout.proofs.Quiet.{between, outside_deep}
use Rattle.py_layout.proofs.Cutting.{front_pass, back_pass, front_at, back_at}
use Rattle.std.specs.Prelude.{bytes_eq, codes}
use Rattle.py_language.specs.declared.shape.Bracket.TheVariants.{Round}
use Rattle.py_syntax.specs.declared.module.Param.{Param}
use Rattle.py_syntax.specs.declared.stmt.Stmt.{Stmt}
use Rattle.py_grammar.specs.declared.form.Form.{Form}
use Rattle.py_grammar.specs.declared.form.Form.TheVariants.{Simple, Compound, Future, Typing}
use Rattle.py_grammar.specs.declared.form.Header.{Header}
use Rattle.py_grammar.specs.declared.form.Header.TheVariants as h
use Rattle.py_grammar.specs.Forms as f
use Rattle.py_layout.specs.Headers.{lone, colon, classes_tokens, as_tokens, base_tokens, with_default, param_tokens, returns_tokens, header_tokens, fresh_param, fresh_header, HeadersReadBack}
use Rattle.py_layout.proofs.Small.{some_bind, some_is, ReadAt, read_at, MaybeRead, AllWhole, AllBegin, expr_quiet, expr_back, whole_append, whole_token, quiet_whole, not_here, mark_after, joined_whole, list_whole, split_joined, trimmed_all, list_parts, list_has, list_begins, some_parts_of}
use Rattle.py_layout.proofs.SmallForms.{each_filled, split_filled, lone_part, lone_one}

-- ---- brackets round tokens in which no bracket closes one that was opened before them

opened_deep : (n : ℕ) (x : Token) → outside Closing n x ≡ false → opened (suc n) x ≡ suc (opened n x)
unfolding outside
opened_deep n (t.Mark m.LeftParen) e = refl
opened_deep n (t.Mark m.LeftBracket) e = refl
opened_deep n (t.Mark m.LeftBrace) e = refl
opened_deep zero (t.Mark m.RightParen) e = absurd (cc)
opened_deep zero (t.Mark m.RightBracket) e = absurd (cc)
opened_deep zero (t.Mark m.RightBrace) e = absurd (cc)
opened_deep (suc n) (t.Mark m.RightParen) e = refl
opened_deep (suc n) (t.Mark m.RightBracket) e = refl
opened_deep (suc n) (t.Mark m.RightBrace) e = refl
opened_deep n _ e = refl

scan_deep : (n : ℕ) (xs : List Token) → Passes opened (outside Closing) n xs → scan opened (suc n) xs ≡ suc (scan opened n xs)
scan_deep n [] h = refl
scan_deep n (x ∷ xs) h = ap (λ j. scan opened j xs) (opened_deep n x h.0) ∙ scan_deep (opened n x) xs h.1

passes_deep : (p : Separator) (n : ℕ) (xs : List Token) → Passes opened (outside Closing) n xs → Passes opened (outside p) (suc n) xs
passes_deep p n [] h = tt
passes_deep p n (x ∷ xs) h = (outside_deep p n x, subst (λ j. Passes opened (outside p) j xs) (sym (opened_deep n x h.0)) (passes_deep p (opened n x) xs h.1))

-- tokens in round brackets
in_brackets : (xs : List Token) → Whole Closing xs → QuietAt 0 (t.Mark m.LeftParen ∷ (xs ++ t.Mark m.RightParen ∷ []))
in_brackets xs w = between Round 0 xs (record { closes = scan_deep 0 xs w.1 ∙ ap suc w.0; passes = λ p e. passes_deep p 0 xs w.1 })

-- ---- names

no_mark_of_name : (p : Separator) (n : List ℕ) → marks p (t.Name n) ≡ false
no_mark_of_name Semicolon n = refl
no_mark_of_name Comma n = refl
no_mark_of_name Colon n = refl
no_mark_of_name Equal n = refl
no_mark_of_name Assign n = refl
no_mark_of_name Pipe n = refl
no_mark_of_name Part n = refl
no_mark_of_name In n = refl
no_mark_of_name As n = refl
no_mark_of_name Closing n = refl

module _ (quiet : ExpressionsAreQuiet) (begins : ExpressionsBegin) (own : ShapesReadBack) (annotated : Annotation → List Token) (reads : ReadsBack annotated) (before line : ℕ) where
  -- the lemmas on lists of tokens, here
  not_mark : (p : Separator) (x : Token) → marks p x ≡ false → outside p 0 x ≡ false
  not_mark = not_here quiet begins own before

  marked : (p : Separator) (n : ℕ) (x : Token) → n ≡ 0 → marks p x ≡ true → outside p n x ≡ true
  marked = mark_after quiet begins own before

  add : (p : Separator) (xs ys : List Token) → Whole p xs → Whole p ys → Whole p (xs ++ ys)
  add = whole_append quiet begins own before

  cons : (p : Separator) (x : Token) (ys : List Token) → opened 0 x ≡ 0 → marks p x ≡ false → Whole p ys → Whole p (x ∷ ys)
  cons p x ys o e w = whole_token quiet begins own before p x ys o (not_mark p x e) w

  of_quiet : (p : Separator) (ts : List Token) → QuietAt 0 ts → is_strict p ≡ true → Whole p ts
  of_quiet = quiet_whole quiet begins own before

  nothing : (p : Separator) → Whole p []
  nothing p = (refl, tt)

  whole_name : (p : Separator) (n : List ℕ) → Whole p (lone n)
  whole_name p n = cons p (t.Name n) [] refl (no_mark_of_name p n) (nothing p)

  expr_whole : (p : Separator) (level : Level) (x : Expr) → ReadAt before level x → is_strict p ≡ true → Whole p (expr_tokens level x)
  expr_whole p level x r e = of_quiet p (expr_tokens level x) (expr_quiet quiet begins own before level x r 0) e

  back_of : (level : Level) (x : Expr) → ReadAt before level x → g.expr_at line level (expr_tokens level x) ≡ Some (fresh line x)
  back_of = expr_back quiet begins own before line

  pub names_whole : (p : Separator) (names : List (List ℕ)) → AllWhole quiet begins own before line p (map lone names)
  names_whole p [] = tt
  names_whole p (n ∷ names) = (whole_name p n, names_whole p names)

  pub names_begin : (names : List (List ℕ)) → AllBegin quiet begins own before line (map lone names)
  names_begin [] = tt
  names_begin (n ∷ names) = (record { first = t.Name n; rest = []; whole = refl; starts = refl }, names_begin names)

  pub each_name : (names : List (List ℕ)) → each g.name (map lone names) ≡ Some names
  each_name [] = refl
  each_name (n ∷ names) = ap (λ o. o >>= λ others. Some (n ∷ others)) (each_name names)

  names_back : (is_tuple : Bool) (n : List ℕ) (more : List (List ℕ)) → (is_tuple ≡ false → more ≡ []) → some_parts Comma g.name (list_tokens is_tuple (map lone (n ∷ more))) ≡ Some (n ∷ more)
  names_back is_tuple n more one =
      some_parts_of quiet begins own before line g.name (list_tokens is_tuple (map lone (n ∷ more))) (list_begins quiet begins own before line is_tuple (lone n) (map lone more) (names_begin (n ∷ [])).0)
      ∙ ap (each g.name) (list_parts quiet begins own before line is_tuple (lone n) (map lone more) (λ e. ap (map lone) (one e)) (names_whole Comma (n ∷ more)) (names_begin (n ∷ more)))
      ∙ each_name (n ∷ more)

  -- ---- a header's tokens, and the colon after them

  colon_after : (header : List Token → Option Header) (ts : List Token) (made : Header) → Whole Colon ts → header ts ≡ Some made → f.compound line header (ts ++ colon) ≡ Some (Compound made None)
  colon_after header ts made w e =
      let c = marked Colon (scan opened 0 ts) (t.Mark m.Colon) w.0 refl in
      ap (λ z. f.compound_by line header z (back Colon (ts ++ colon))) (front_at opened (outside Colon) 0 ts (t.Mark m.Colon) [] w.1 c)
      ∙ ap (f.compound_by line header ts) (back_at opened (outside Colon) 0 ts (t.Mark m.Colon) [] w.1 c)
      ∙ ap (λ o. o >>= λ found. Some (Compound found None)) e

  tested_back : (made : Expr → Header) (test : Expr) → ReadAt before Conditional test → f.compound line (f.tested line made) (expr_tokens Conditional test ++ colon) ≡ Some (Compound (made (fresh line test)) None)
  tested_back made test r = colon_after (f.tested line made) (expr_tokens Conditional test) (made (fresh line test)) (expr_whole Colon Conditional test r refl) (ap (λ o. o >>= λ x. Some (made x)) (back_of Conditional test r))

  alone_back : (made : Header) → f.compound line (g.alone made) colon ≡ Some (Compound made None)
  alone_back made = colon_after (g.alone made) [] made (nothing Colon) refl

  -- ---- `for`

  for_back : (is_tuple : Bool) (n : List ℕ) (more : List (List ℕ)) (walked : Expr) → (is_tuple ≡ false → more ≡ []) → ReadAt before Listed walked
      → f.compound line (f.for line) ((list_tokens is_tuple (map lone (n ∷ more)) ++ t.Keyword k.In ∷ expr_tokens Listed walked) ++ colon) ≡ Some (Compound (h.For (n ∷ more) is_tuple (fresh line walked)) None)
  for_back is_tuple n more walked one r =
      let L = list_tokens is_tuple (map lone (n ∷ more)) in
      let E = expr_tokens Listed walked in
      let whole : (p : Separator) → marks p (t.Mark m.Comma) ≡ false → Whole p L = λ p e. list_whole quiet begins own before line p e is_tuple (map lone (n ∷ more)) (names_whole p (n ∷ more)) in
      let w = whole In refl in
      let c = marked In (scan opened 0 L) (t.Keyword k.In) w.0 refl in
      colon_after (f.for line) (L ++ t.Keyword k.In ∷ E) (h.For (n ∷ more) is_tuple (fresh line walked))
      (add Colon L (t.Keyword k.In ∷ E) (whole Colon refl) (cons Colon (t.Keyword k.In) E refl refl (expr_whole Colon Listed walked r refl)))
      (ap (λ z. f.for_by line z (back In (L ++ t.Keyword k.In ∷ E))) (front_at opened (outside In) 0 L (t.Keyword k.In) E w.1 c)
      ∙ ap (f.for_by line L) (back_at opened (outside In) 0 L (t.Keyword k.In) E w.1 c)
      ∙ ap (λ o. o >>= λ names. g.exprs line E >>= λ z. Some (h.For names (has Comma L) z)) (names_back is_tuple n more one)
      ∙ ap (λ o. o >>= λ z. Some (h.For (n ∷ more) (has Comma L) z)) (back_of Listed walked r)
      ∙ ap (λ b. Some (h.For (n ∷ more) b (fresh line walked))) (list_has quiet begins own before line is_tuple (lone n) (map lone more) (λ e. ap (map lone) (one e)) (names_whole Comma (n ∷ more))))

  -- ---- `except`

  inside_round : (xs : List Token) → Whole Closing xs → inside Round (xs ++ t.Mark m.RightParen ∷ []) ≡ Some xs
  inside_round xs w =
      let e = marked Closing (scan opened 0 xs) (t.Mark m.RightParen) w.0 refl in
      ap (λ z. closed Round z (back Closing (xs ++ t.Mark m.RightParen ∷ []))) (front_at opened (outside Closing) 0 xs (t.Mark m.RightParen) [] w.1 e)
      ∙ ap (closed Round xs) (back_at opened (outside Closing) 0 xs (t.Mark m.RightParen) [] w.1 e)

  as_whole : (p : Separator) → marks p (t.Keyword k.As) ≡ false → (name : Option (List ℕ)) → Whole p (as_tokens name)
  as_whole p e None = nothing p
  as_whole p e (Some n) = cons p (t.Keyword k.As) (lone n) refl e (whole_name p n)

  except_cut : (x : Token) (xs : List Token) (classes : List (List ℕ)) (name : Option (List ℕ)) → Whole As (x ∷ xs) → f.handled (x ∷ xs) ≡ Some classes
      → f.except ((x ∷ xs) ++ as_tokens name) ≡ Some (h.Except (Some classes) name)
  except_cut x xs classes None w e =
      let C = x ∷ xs in
      subst (λ z. f.except (x ∷ z) ≡ Some (h.Except (Some classes) None)) (sym (append-nil xs))
      (ap (λ z. f.handled z >>= λ c. f.as_name (back As C) >>= λ b. Some (h.Except (Some c) b)) (front_pass opened (outside As) 0 C w.1)
      ∙ ap (λ o. o >>= λ c. f.as_name (back As C) >>= λ b. Some (h.Except (Some c) b)) e
      ∙ ap (λ z. f.as_name z >>= λ b. Some (h.Except (Some classes) b)) (back_pass opened (outside As) 0 C w.1))
  except_cut x xs classes (Some n) w e =
      let C = x ∷ xs in
      let c = marked As (scan opened 0 C) (t.Keyword k.As) w.0 refl in
      ap (λ z. f.handled z >>= λ c. f.as_name (back As (C ++ t.Keyword k.As ∷ lone n)) >>= λ b. Some (h.Except (Some c) b)) (front_at opened (outside As) 0 C (t.Keyword k.As) (lone n) w.1 c)
      ∙ ap (λ o. o >>= λ c. f.as_name (back As (C ++ t.Keyword k.As ∷ lone n)) >>= λ b. Some (h.Except (Some c) b)) e
      ∙ ap (λ z. f.as_name z >>= λ b. Some (h.Except (Some classes) b)) (back_at opened (outside As) 0 C (t.Keyword k.As) (lone n) w.1 c)

  bracketed : (n : List ℕ) (more : List (List ℕ)) → QuietAt 0 (t.Mark m.LeftParen ∷ (joined (map lone (n ∷ more)) ++ t.Mark m.RightParen ∷ []))
  bracketed n more = in_brackets (joined (map lone (n ∷ more))) (joined_whole quiet begins own before line Closing refl (map lone (n ∷ more)) (names_whole Closing (n ∷ more)))

  except_back : (n : List ℕ) (more : List (List ℕ)) (name : Option (List ℕ)) → f.compound line f.except ((classes_tokens (n ∷ more) ++ as_tokens name) ++ colon) ≡ Some (Compound (h.Except (Some (n ∷ more)) name) None)
  except_back n [] name =
      colon_after f.except (lone n ++ as_tokens name) (h.Except (Some (n ∷ [])) name) (add Colon (lone n) (as_tokens name) (whole_name Colon n) (as_whole Colon refl name))
      (except_cut (t.Name n) [] (n ∷ []) name (whole_name As n) refl)
  except_back n (n2 ∷ more) name =
      let J = joined (map lone (n ∷ n2 ∷ more)) in
      let C = J ++ t.Mark m.RightParen ∷ [] in
      let q = bracketed n (n2 ∷ more) in
      let closing = joined_whole quiet begins own before line Closing refl (map lone (n ∷ n2 ∷ more)) (names_whole Closing (n ∷ n2 ∷ more)) in
      colon_after f.except ((t.Mark m.LeftParen ∷ C) ++ as_tokens name) (h.Except (Some (n ∷ n2 ∷ more)) name) (add Colon (t.Mark m.LeftParen ∷ C) (as_tokens name) (of_quiet Colon (t.Mark m.LeftParen ∷ C) q refl) (as_whole Colon refl name))
      (except_cut (t.Mark m.LeftParen) C (n ∷ n2 ∷ more) name (of_quiet As (t.Mark m.LeftParen ∷ C) q refl)
      (ap (λ o. o >>= some_parts Comma g.name) (inside_round J closing) ∙ names_back true n (n2 ∷ more) (λ e. absurd (cc))))

  -- ---- `class`

  class_back : (n : List ℕ) (base : Option (List ℕ)) → f.compound line f.class ((t.Name n ∷ base_tokens base) ++ colon) ≡ Some (Compound (h.Class n base) None)
  class_back n None = colon_after f.class (lone n) (h.Class n None) (whole_name Colon n) refl
  class_back n (Some b) =
      colon_after f.class (t.Name n ∷ base_tokens (Some b)) (h.Class n (Some b)) (add Colon (lone n) (base_tokens (Some b)) (whole_name Colon n) (of_quiet Colon (base_tokens (Some b)) (in_brackets (lone b) (whole_name Closing b)) refl))
      (ap (λ o. (o >>= f.base_in) >>= λ z. Some (h.Class n z)) (inside_round (lone b) (whole_name Closing b)))

  -- ---- `def`

  abbrev AnnotationRead : Option Annotation → Type 0
  AnnotationRead None = Unit {0}
  AnnotationRead (Some a) = (ts : List Token) × (annotation ts ≡ Some a)

  abbrev ParamsRead : List Param → Type 0
  ParamsRead [] = Unit {0}
  ParamsRead (p ∷ params) = (AnnotationRead p.annotation × MaybeRead before Conditional p.default) × ParamsRead params

  typed_whole : (p : Separator) → is_never_in_annotations p ≡ true → marks p (t.Mark m.Colon) ≡ false → (a : Option Annotation) → AnnotationRead a → Whole p (typed_tokens annotated a)
  typed_whole p e c None r = nothing p
  typed_whole p e c (Some a) r = cons p (t.Mark m.Colon) (annotated a) refl c (reads.whole r.0 a r.1 p e)

  first_whole : (p : Separator) → is_never_in_annotations p ≡ true → marks p (t.Mark m.Colon) ≡ false → (n : List ℕ) (a : Option Annotation) → AnnotationRead a → Whole p (t.Name n ∷ typed_tokens annotated a)
  first_whole p e c n a r = cons p (t.Name n) (typed_tokens annotated a) refl (no_mark_of_name p n) (typed_whole p e c a r)

  default_whole : (p : Separator) → is_strict p ≡ true → marks p (t.Mark m.Equal) ≡ false → (ts : List Token) (d : Option Expr) → Whole p ts → MaybeRead before Conditional d → Whole p (with_default ts d)
  default_whole p s e ts None w r = w
  default_whole p s e ts (Some x) w r = add p ts (t.Mark m.Equal ∷ expr_tokens Conditional x) w (cons p (t.Mark m.Equal) (expr_tokens Conditional x) refl e (expr_whole p Conditional x r s))

  type_back : (a : Option Annotation) → AnnotationRead a → f.of_type (typed_tokens annotated a) ≡ Some a
  type_back None r = refl
  type_back (Some a) r = ap (λ o. o >>= λ z. Some (Some z)) (reads.back r.0 a r.1)

  abbrev param_of : List ℕ → Option Annotation → Option Expr → Param
  param_of n a d = record { name = n; annotation = a; default = d; line = line }

  param_back : (n : List ℕ) (a : Option Annotation) (d : Option Expr) → AnnotationRead a → MaybeRead before Conditional d
      → f.param line (with_default (t.Name n ∷ typed_tokens annotated a) d) ≡ Some (param_of n a (option_map (fresh line) d))
  param_back n a None r v =
      let F = t.Name n ∷ typed_tokens annotated a in
      let w = first_whole Equal refl refl n a r in
      ap (λ z. f.param_by line z (back Equal F)) (front_pass opened (outside Equal) 0 F w.1)
      ∙ ap (f.param_by line F) (back_pass opened (outside Equal) 0 F w.1)
      ∙ ap (λ o. o >>= λ z. Some (param_of n z None)) (type_back a r)
  param_back n a (Some x) r v =
      let F = t.Name n ∷ typed_tokens annotated a in
      let E = expr_tokens Conditional x in
      let w = first_whole Equal refl refl n a r in
      let c = marked Equal (scan opened 0 F) (t.Mark m.Equal) w.0 refl in
      ap (λ z. f.param_by line z (back Equal (F ++ t.Mark m.Equal ∷ E))) (front_at opened (outside Equal) 0 F (t.Mark m.Equal) E w.1 c)
      ∙ ap (f.param_by line F) (back_at opened (outside Equal) 0 F (t.Mark m.Equal) E w.1 c)
      ∙ ap (λ o. o >>= λ z. f.default_of line (t.Mark m.Equal ∷ E) >>= λ d. Some (param_of n z d)) (type_back a r)
      ∙ ap (λ o. (o >>= λ e. Some (Some e)) >>= λ d. Some (param_of n a d)) (back_of Conditional x v)

  each_param : (params : List Param) → ParamsRead params → each (f.param line) (map (param_tokens annotated) params) ≡ Some (map (fresh_param line) params)
  each_param [] r = refl
  each_param (p ∷ params) r =
      ap (λ o. o >>= λ first. each (f.param line) (map (param_tokens annotated) params) >>= λ others. Some (first ∷ others)) (param_back p.name p.annotation p.default r.0.0 r.0.1)
      ∙ ap (λ o. o >>= λ others. Some (fresh_param line p ∷ others)) (each_param params r.1)

  params_whole : (p : Separator) → is_never_in_annotations p ≡ true → is_strict p ≡ true → marks p (t.Mark m.Colon) ≡ false → marks p (t.Mark m.Equal) ≡ false → (params : List Param) → ParamsRead params
      → AllWhole quiet begins own before line p (map (param_tokens annotated) params)
  params_whole p e s c q [] r = tt
  params_whole p e s c q (x ∷ params) r =
      (default_whole p s q (t.Name x.name ∷ typed_tokens annotated x.annotation) x.default (first_whole p e c x.name x.annotation r.0.0) r.0.1, params_whole p e s c q params r.1)

  default_begins : (n : List ℕ) (ts : List Token) (d : Option Expr) → Begins (with_default (t.Name n ∷ ts) d)
  default_begins n ts None = record { first = t.Name n; rest = ts; whole = refl; starts = refl }
  default_begins n ts (Some x) = record { first = t.Name n; rest = ts ++ t.Mark m.Equal ∷ expr_tokens Conditional x; whole = refl; starts = refl }

  params_begin : (params : List Param) → AllBegin quiet begins own before line (map (param_tokens annotated) params)
  params_begin [] = tt
  params_begin (p ∷ params) = (default_begins p.name (typed_tokens annotated p.annotation) p.default, params_begin params)

  params_back : (params : List Param) → ParamsRead params → parts Comma (f.param line) (joined (map (param_tokens annotated) params)) ≡ Some (map (fresh_param line) params)
  params_back [] r = refl
  params_back (p ∷ params) r =
      let P = map (param_tokens annotated) (p ∷ params) in
      ap (λ z. each (f.param line) (trimmed z)) (split_joined quiet begins own before line (param_tokens annotated p) (map (param_tokens annotated) params) (params_whole Comma refl refl refl refl (p ∷ params) r))
      ∙ ap (each (f.param line)) (trimmed_all quiet begins own before line P (params_begin (p ∷ params)))
      ∙ each_param (p ∷ params) r

  returns_back : (a : Option Annotation) → AnnotationRead a → f.returned (returns_tokens annotated a) ≡ Some a
  returns_back None r = refl
  returns_back (Some a) r = ap (λ o. o >>= λ z. Some (Some z)) (reads.back r.0 a r.1)

  returns_whole : (a : Option Annotation) → AnnotationRead a → Whole Colon (returns_tokens annotated a)
  returns_whole None r = nothing Colon
  returns_whole (Some a) r = cons Colon (t.Mark m.Arrow) (annotated a) refl refl (reads.whole r.0 a r.1 Colon refl)

  def_back : (n : List ℕ) (params : List Param) (returns : Option Annotation) → ParamsRead params → AnnotationRead returns
      → f.compound line (f.def line) ((t.Name n ∷ t.Mark m.LeftParen ∷ (joined (map (param_tokens annotated) params) ++ t.Mark m.RightParen ∷ returns_tokens annotated returns)) ++ colon)
      ≡ Some (Compound (h.Def n (map (fresh_param line) params) returns) None)
  def_back n params returns r v =
      let J = joined (map (param_tokens annotated) params) in
      let R = returns_tokens annotated returns in
      let w = joined_whole quiet begins own before line Closing refl (map (param_tokens annotated) params) (params_whole Closing refl refl refl refl params r) in
      let c = marked Closing (scan opened 0 J) (t.Mark m.RightParen) w.0 refl in
      let brackets : Whole Colon (t.Mark m.LeftParen ∷ (J ++ t.Mark m.RightParen ∷ R)) =
      subst (λ z. Whole Colon (t.Mark m.LeftParen ∷ z)) (append_assoc J (t.Mark m.RightParen ∷ []) R)
      (add Colon (t.Mark m.LeftParen ∷ (J ++ t.Mark m.RightParen ∷ [])) R (of_quiet Colon (t.Mark m.LeftParen ∷ (J ++ t.Mark m.RightParen ∷ [])) (in_brackets J w) refl) (returns_whole returns v))
      in
      colon_after (f.def line) (t.Name n ∷ t.Mark m.LeftParen ∷ (J ++ t.Mark m.RightParen ∷ R)) (h.Def n (map (fresh_param line) params) returns)
      (cons Colon (t.Name n) (t.Mark m.LeftParen ∷ (J ++ t.Mark m.RightParen ∷ R)) refl refl brackets)
      (ap (λ z. f.def_by line n z (back Closing (J ++ t.Mark m.RightParen ∷ R))) (front_at opened (outside Closing) 0 J (t.Mark m.RightParen) R w.1 c)
      ∙ ap (f.def_by line n J) (back_at opened (outside Closing) 0 J (t.Mark m.RightParen) R w.1 c)
      ∙ ap (λ o. o >>= λ ps. f.returned R >>= λ z. Some (h.Def n ps z)) (params_back params r)
      ∙ ap (λ o. o >>= λ z. Some (h.Def n (map (fresh_param line) params) z)) (returns_back returns v))

-- ---- what the parts of a header are that was read from any tokens

module _ (before : ℕ) where
  abbrev pub ReadAnnotation : Option Annotation → Type 0
  ReadAnnotation None = Unit {0}
  ReadAnnotation (Some a) = (ts : List Token) × (annotation ts ≡ Some a)

  abbrev pub ReadParams : List Param → Type 0
  ReadParams [] = Unit {0}
  ReadParams (p ∷ params) = (ReadAnnotation p.annotation × MaybeRead before Conditional p.default) × ReadParams params

  pub data HeaderForm (header : Header) : Type 0 where
    of_if : (test : Expr) → header ≡ h.If test → ReadAt before Conditional test → HeaderForm header
    of_elif : (test : Expr) → header ≡ h.Elif test → ReadAt before Conditional test → HeaderForm header
    of_else : header ≡ h.Else → HeaderForm header
    of_while : (test : Expr) → header ≡ h.While test → ReadAt before Conditional test → HeaderForm header
    of_for : (n : List ℕ) (more : List (List ℕ)) (is_tuple : Bool) (walked : Expr) → header ≡ h.For (n ∷ more) is_tuple walked → (is_tuple ≡ false → more ≡ []) → ReadAt before Listed walked → HeaderForm header
    of_try : header ≡ h.Try → HeaderForm header
    of_any : header ≡ h.Except None None → HeaderForm header
    of_except : (n : List ℕ) (more : List (List ℕ)) (name : Option (List ℕ)) → header ≡ h.Except (Some (n ∷ more)) name → HeaderForm header
    of_finally : header ≡ h.Finally → HeaderForm header
    of_def : (n : List ℕ) (params : List Param) (returns : Option Annotation) → header ≡ h.Def n params returns → ReadParams params → ReadAnnotation returns → HeaderForm header
    of_class : (n : List ℕ) (base : Option (List ℕ)) → header ≡ h.Class n base → HeaderForm header

  tested_form : (made : Expr → Header) (ts : List Token) (header : Header) → f.tested before made ts ≡ Some header → (test : Expr) × ((header ≡ made test) × ReadAt before Conditional test)
  tested_form made ts header e =
      let r = some_bind (g.expr before ts) (λ x. Some (made x)) header e in
      (r.0, (sym (some_is (made r.0) header r.1.1), read_at before Conditional ts r.0 r.1.0))

  alone_form : (made header : Header) (ts : List Token) → g.alone made ts ≡ Some header → header ≡ made
  alone_form made header [] e = sym (some_is made header e)
  alone_form made header (x ∷ xs) e = absurd (cc)

  -- several names, in a list that has one at least
  names_filled : (ts : List Token) (names : List (List ℕ)) → some_parts Comma g.name ts ≡ Some names → (n : List ℕ) × ((more : List (List ℕ)) × ((names ≡ n ∷ more) × (has Comma ts ≡ false → more ≡ [])))
  names_filled [] names e = absurd (cc)
  names_filled (y ∷ ys) names e =
      let w = each_filled before g.name (trimmed (split Comma (y ∷ ys))) names (split_filled before Comma y ys) e in
      (w.0, (w.1.0, (w.1.1, λ o. lone_one before g.name (trimmed (split Comma (y ∷ ys))) (y ∷ ys) w.0 w.1.0 (lone_part before y ys o) (e ∙ ap Some w.1.1))))

  for_form : (ahead rest : List Token) (header : Header) → f.for_by before ahead rest ≡ Some header → HeaderForm header
  for_form ahead [] header e = absurd (cc)
  for_form ahead (x ∷ xs) header e =
      let a = some_bind (some_parts Comma g.name ahead) (λ names. g.exprs before xs >>= λ walked. Some (h.For names (has Comma ahead) walked)) header e in
      let b = some_bind (g.exprs before xs) (λ walked. Some (h.For a.0 (has Comma ahead) walked)) header a.1.1 in
      let n = names_filled ahead a.0 a.1.0 in
      of_for n.0 n.1.0 (has Comma ahead) b.0 (sym (some_is _ header b.1.1) ∙ ap (λ names. h.For names (has Comma ahead) b.0) n.1.1.0) n.1.1.1 (read_at before Listed xs b.0 b.1.0)

  handled_filled : (ts : List Token) (classes : List (List ℕ)) → f.handled ts ≡ Some classes → (n : List ℕ) × ((more : List (List ℕ)) × (classes ≡ n ∷ more))
  handled_filled (t.Name n ∷ []) classes e = (n, ([], sym (some_is (n ∷ []) classes e)))
  handled_filled (t.Mark m.LeftParen ∷ xs) classes e =
      let a = some_bind (inside Round xs) (some_parts Comma g.name) classes e in
      let n = names_filled a.0 classes a.1.1 in
      (n.0, (n.1.0, n.1.1.0))
  handled_filled _ classes e = absurd (cc)

  except_form : (ts : List Token) (header : Header) → f.except ts ≡ Some header → HeaderForm header
  except_form [] header e = of_any (sym (some_is (h.Except None None) header e))
  except_form (x ∷ xs) header e =
      let a = some_bind (f.handled (front As (x ∷ xs))) (λ classes. f.as_name (back As (x ∷ xs)) >>= λ bound. Some (h.Except (Some classes) bound)) header e in
      let b = some_bind (f.as_name (back As (x ∷ xs))) (λ bound. Some (h.Except (Some a.0) bound)) header a.1.1 in
      let n = handled_filled (front As (x ∷ xs)) a.0 a.1.0 in
      of_except n.0 n.1.0 b.0 (sym (some_is _ header b.1.1) ∙ ap (λ classes. h.Except (Some classes) b.0) n.1.1)

  type_form : (ts : List Token) (a : Option Annotation) → f.of_type ts ≡ Some a → ReadAnnotation a
  type_form [] a e = subst ReadAnnotation (some_is None a e) tt
  type_form (t.Mark m.Colon ∷ xs) a e = let b = some_bind (annotation xs) (λ z. Some (Some z)) a e in subst ReadAnnotation (some_is (Some b.0) a b.1.1) (xs, b.1.0)
  type_form _ a e = absurd (cc)

  returned_form : (ts : List Token) (a : Option Annotation) → f.returned ts ≡ Some a → ReadAnnotation a
  returned_form [] a e = subst ReadAnnotation (some_is None a e) tt
  returned_form (t.Mark m.Arrow ∷ xs) a e = let b = some_bind (annotation xs) (λ z. Some (Some z)) a e in subst ReadAnnotation (some_is (Some b.0) a b.1.1) (xs, b.1.0)
  returned_form _ a e = absurd (cc)

  default_form : (ts : List Token) (d : Option Expr) → f.default_of before ts ≡ Some d → MaybeRead before Conditional d
  default_form [] d e = subst (MaybeRead before Conditional) (some_is None d e) tt
  default_form (x ∷ xs) d e = let b = some_bind (g.expr before xs) (λ z. Some (Some z)) d e in subst (MaybeRead before Conditional) (some_is (Some b.0) d b.1.1) (read_at before Conditional xs b.0 b.1.0)

  abbrev ReadParam : Param → Type 0
  ReadParam p = ReadAnnotation p.annotation × MaybeRead before Conditional p.default

  param_form : (ahead rest : List Token) (p : Param) → f.param_by before ahead rest ≡ Some p → ReadParam p
  param_form (t.Name n ∷ xs) rest p e =
      let a = some_bind (f.of_type xs) (λ annotation. f.default_of before rest >>= λ default. Some (record { name = n; annotation = annotation; default = default; line = before })) p e in
      let d = some_bind (f.default_of before rest) (λ default. Some (record { name = n; annotation = a.0; default = default; line = before })) p a.1.1 in
      subst ReadParam (some_is _ p d.1.1) (type_form xs a.0 a.1.0, default_form rest d.0 d.1.0)
  param_form _ rest p e = absurd (cc)

  params_form : (parts : List (List Token)) (params : List Param) → each (f.param before) parts ≡ Some params → ReadParams params
  params_form [] params e = subst ReadParams (some_is [] params e) tt
  params_form (xs ∷ more) params e =
      let a = some_bind (f.param before xs) (λ first. each (f.param before) more >>= λ others. Some (first ∷ others)) params e in
      let b = some_bind (each (f.param before) more) (λ others. Some (a.0 ∷ others)) params a.1.1 in
      subst ReadParams (some_is (a.0 ∷ b.0) params b.1.1) (param_form (front Equal xs) (back Equal xs) a.0 a.1.0, params_form more b.0 b.1.0)

  def_by_form : (n : List ℕ) (content rest : List Token) (header : Header) → f.def_by before n content rest ≡ Some header → HeaderForm header
  def_by_form n content (t.Mark m.RightParen ∷ xs) header e =
      let a = some_bind (parts Comma (f.param before) content) (λ params. f.returned xs >>= λ returns. Some (h.Def n params returns)) header e in
      let b = some_bind (f.returned xs) (λ returns. Some (h.Def n a.0 returns)) header a.1.1 in
      of_def n a.0 b.0 (sym (some_is _ header b.1.1)) (params_form (trimmed (split Comma content)) a.0 a.1.0) (returned_form xs b.0 b.1.0)
  def_by_form n content _ header e = absurd (cc)

  def_form : (ts : List Token) (header : Header) → f.def before ts ≡ Some header → HeaderForm header
  def_form (t.Name n ∷ t.Mark m.LeftParen ∷ xs) header e = def_by_form n (front Closing xs) (back Closing xs) header e
  def_form _ header e = absurd (cc)

  class_form : (ts : List Token) (header : Header) → f.class ts ≡ Some header → HeaderForm header
  class_form (t.Name n ∷ []) header e = of_class n None (sym (some_is (h.Class n None) header e))
  class_form (t.Name n ∷ t.Mark m.LeftParen ∷ xs) header e = let b = some_bind (f.base xs) (λ z. Some (h.Class n z)) header e in of_class n b.0 (sym (some_is (h.Class n b.0) header b.1.1))
  class_form _ header e = absurd (cc)

  pub same_header : (made header : Header) (small body : Option (List Stmt)) → Some (Compound made body) ≡ Some (Compound header small) → made ≡ header
  same_header made header small body e = cc

  pub compound_read : (make : List Token → Option Header) (ahead rest : List Token) (header : Header) (small : Option (List Stmt)) → f.compound_by before make ahead rest ≡ Some (Compound header small) → make ahead ≡ Some header
  compound_read make ahead [] header small e = absurd (cc)
  compound_read make ahead (x ∷ xs) header small e =
      let a = some_bind (make ahead) (λ found. f.block before xs >>= λ body. Some (Compound found body)) (Compound header small) e in
      let b = some_bind (f.block before xs) (λ body. Some (Compound a.0 body)) (Compound header small) a.1.1 in
      a.1.0 ∙ ap Some (same_header a.0 header small b.0 b.1.1)

  -- an import line, and small statements, are no compound statement
  pub neither : (b : Bool) (x y z : Option Form) → (x ≡ z → ⊥) → (y ≡ z → ⊥) → (if b then x else y) ≡ z → ⊥
  neither true x y z p q e = p e
  neither false x y z p q e = q e

  future_no : (o : Option (List ℕ)) (header : Header) (small : Option (List Stmt)) → (o >>= f.future_of) ≡ Some (Compound header small) → ⊥
  future_no o header small e =
      let a = some_bind o f.future_of (Compound header small) e in
      neither (bytes_eq a.0 (codes "annotations")) (Some Future) None (Some (Compound header small)) (λ w. cc) (λ w. cc) a.1.1

  typing_no : (o : Option (List (List ℕ))) (header : Header) (small : Option (List Stmt)) → (o >>= λ names. Some (Typing names)) ≡ Some (Compound header small) → ⊥
  typing_no o header small e = let a = some_bind o (λ names. Some (Typing names)) (Compound header small) e in (let w : Some (Typing a.0) ≡ Some (Compound header small) = a.1.1 in cc)

  pub import_no : (ts : List Token) (header : Header) (small : Option (List Stmt)) → f.import ts ≡ Some (Compound header small) → ⊥
  import_no (t.Name n ∷ t.Keyword k.Import ∷ xs) header small e =
      neither (bytes_eq n (codes "__future__")) _ _ (Some (Compound header small)) (future_no (g.name xs) header small)
      (neither (bytes_eq n (codes "typing")) _ _ (Some (Compound header small)) (typing_no (f.imported xs) header small) (λ w. cc)) e
  import_no _ header small e = cc

  pub simple_no : (o : Option (List Stmt)) (header : Header) (small : Option (List Stmt)) → (o >>= λ all. Some (Simple all)) ≡ Some (Compound header small) → ⊥
  simple_no o header small e = let a = some_bind o (λ all. Some (Simple all)) (Compound header small) e in (let w : Some (Simple a.0) ≡ Some (Compound header small) = a.1.1 in cc)

  by_test : (made : Expr → Header) (xs : List Token) (header : Header) (small : Option (List Stmt)) → f.compound before (f.tested before made) xs ≡ Some (Compound header small) → (test : Expr) × ((header ≡ made test) × ReadAt before Conditional test)
  by_test made xs header small e = tested_form made (front Colon xs) header (compound_read (f.tested before made) (front Colon xs) (back Colon xs) header small e)

  by_word : (made header : Header) (xs : List Token) (small : Option (List Stmt)) → f.compound before (g.alone made) xs ≡ Some (Compound header small) → header ≡ made
  by_word made header xs small e = alone_form made header (front Colon xs) (compound_read (g.alone made) (front Colon xs) (back Colon xs) header small e)

  pub header_form : (ts : List Token) (header : Header) (small : Option (List Stmt)) → f.form before ts ≡ Some (Compound header small) → HeaderForm header
  header_form (t.Keyword k.If ∷ xs) header small e = let r = by_test h.If xs header small e in of_if r.0 r.1.0 r.1.1
  header_form (t.Keyword k.Elif ∷ xs) header small e = let r = by_test h.Elif xs header small e in of_elif r.0 r.1.0 r.1.1
  header_form (t.Keyword k.Else ∷ xs) header small e = of_else (by_word h.Else header xs small e)
  header_form (t.Keyword k.While ∷ xs) header small e = let r = by_test h.While xs header small e in of_while r.0 r.1.0 r.1.1
  header_form (t.Keyword k.For ∷ xs) header small e = for_form (front In (front Colon xs)) (back In (front Colon xs)) header (compound_read (f.for before) (front Colon xs) (back Colon xs) header small e)
  header_form (t.Keyword k.Try ∷ xs) header small e = of_try (by_word h.Try header xs small e)
  header_form (t.Keyword k.Except ∷ xs) header small e = except_form (front Colon xs) header (compound_read f.except (front Colon xs) (back Colon xs) header small e)
  header_form (t.Keyword k.Finally ∷ xs) header small e = of_finally (by_word h.Finally header xs small e)
  header_form (t.Keyword k.Def ∷ xs) header small e = def_form (front Colon xs) header (compound_read (f.def before) (front Colon xs) (back Colon xs) header small e)
  header_form (t.Keyword k.Class ∷ xs) header small e = class_form (front Colon xs) header (compound_read f.class (front Colon xs) (back Colon xs) header small e)
  header_form (t.Keyword k.From ∷ xs) header small e = absurd (import_no xs header small e)
  header_form xs header small e = absurd (simple_no (g.simple before xs) header small e)

-- ---- the law

module _ (quiet : ExpressionsAreQuiet) (begins : ExpressionsBegin) (own : ShapesReadBack) (annotated : Annotation → List Token) (reads : ReadsBack annotated) (before line : ℕ) where
  abbrev Back : Header → Type 0
  Back header = f.form line (header_tokens annotated header) ≡ Some (Compound (fresh_header line header) None)

  read_params : (params : List Param) → ReadParams before params → ParamsRead quiet begins own annotated reads before line params
  read_params [] r = tt
  read_params (p ∷ params) r = ((read_annotation p.annotation r.0.0, r.0.1), read_params params r.1)
    where
      read_annotation : (a : Option Annotation) → ReadAnnotation before a → AnnotationRead quiet begins own annotated reads before line a
      read_annotation None r = tt
      read_annotation (Some a) r = r

  returns_read : (a : Option Annotation) → ReadAnnotation before a → AnnotationRead quiet begins own annotated reads before line a
  returns_read None r = tt
  returns_read (Some a) r = r

  pub header_back : (header : Header) → HeaderForm before header → Back header
  header_back header (of_if test is r) = subst Back (sym is) (tested_back quiet begins own annotated reads before line h.If test r)
  header_back header (of_elif test is r) = subst Back (sym is) (tested_back quiet begins own annotated reads before line h.Elif test r)
  header_back header (of_else is) = subst Back (sym is) (alone_back quiet begins own annotated reads before line h.Else)
  header_back header (of_while test is r) = subst Back (sym is) (tested_back quiet begins own annotated reads before line h.While test r)
  header_back header (of_for n more is_tuple walked is one r) = subst Back (sym is) (for_back quiet begins own annotated reads before line is_tuple n more walked one r)
  header_back header (of_try is) = subst Back (sym is) (alone_back quiet begins own annotated reads before line h.Try)
  header_back header (of_any is) = subst Back (sym is) (colon_after quiet begins own annotated reads before line f.except [] (h.Except None None) (refl, tt) refl)
  header_back header (of_except n more name is) = subst Back (sym is) (except_back quiet begins own annotated reads before line n more name)
  header_back header (of_finally is) = subst Back (sym is) (alone_back quiet begins own annotated reads before line h.Finally)
  header_back header (of_def n params returns is r v) = subst Back (sym is) (def_back quiet begins own annotated reads before line n params returns (read_params params r) (returns_read returns v))
  header_back header (of_class n base is) = subst Back (sym is) (class_back quiet begins own annotated reads before line n base)

pub headers_read_back : ExpressionsAreQuiet → ExpressionsBegin → ShapesReadBack → HeadersReadBack
headers_read_back quiet begins own annotated reads before line ts header small e = header_back quiet begins own annotated reads before line header (header_form before ts header small e)
