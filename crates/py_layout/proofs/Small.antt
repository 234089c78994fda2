-- Small statements are read back from their tokens.
use Rattle.std.proofs.Common.{◌≡◌, ◌∙◌, sym, ap, refl, subst, ℕ, Bool, true, false, ◌||◌, List, [], ◌∷◌, ◌++◌, append-nil, Option, Some, None}
use Rattle.std.specs.Prelude.{if◌then◌else◌, map, option_map}
use Rattle.py_cut.specs.Cut as cut
use Rattle.py_cut.specs.Cut.{scan, Passes}
use Rattle.py_language.specs.declared.shape.Bracket.TheVariants.{Square}
use Rattle.py_language.specs.declared.shape.Shape.{Shape}
use Rattle.py_language.specs.declared.token.Token.{Token}
use Rattle.py_language.specs.declared.token.Token.TheVariants as t
use Rattle.py_language.specs.declared.token.Keyword.TheVariants as k
use Rattle.py_language.specs.declared.token.Mark.TheVariants as m
use Rattle.py_language.specs.TreesNumbers.{numbered}
use Rattle.py_language.specs.TreesPlaces.{Level, Listed, Conditional, Postfix}
use Rattle.py_language.specs.TreesSymbols.{symbols}
use Rattle.py_language.specs.Trees.{◌>>=◌, each, shape, deepest, tree_at}
use Rattle.py_syntax.specs.declared.expr.Expr.{Expr, fold_out-Expr}
use Rattle.py_syntax.specs.declared.operator.BinOp.{BinOp}
use Rattle.py_syntax.specs.declared.operator.BinOp.TheVariants.{Add, Sub, Mul, FloorDiv, Mod}
use Rattle.py_syntax.specs.declared.stmt.Annotation.{Annotation}
use Rattle.py_syntax.specs.declared.stmt.StmtKind.TheVariants as s
use Rattle.py_syntax.specs.declared.stmt.StmtKind.TheVariants.{outs-Pass, outs-Break, outs-Continue, outs-Return, outs-Raise, outs-Assert, outs-Del, outs-Assign, outs-Augment, outs-Bare}
use Rattle.py_syntax.specs.declared.stmt.Target.{Target}
use Rattle.py_syntax.specs.declared.stmt.Target.TheVariants as to
use Rattle.py_grammar.specs.declared.separator.Separator.{Separator}
use Rattle.py_grammar.specs.declared.separator.Separator.TheVariants.{Comma, Colon, Equal, Assign, Part, Closing}
use Rattle.py_grammar.specs.Annotations.{annotation}
use Rattle.py_grammar.specs.Separators.{opened, outside, marks, front, back, last_cut, split, trimmed, parts, some_parts, is_some, has, closed, inside}
use Rattle.py_grammar.specs.Statements as g
use Rattle.py_printing.specs.Expressions.{Given, args_of, kind_of, unnumbered, expr_tokens, ShapesReadBack}
use Rattle.py_layout.specs.Quiet.{is_strict, QuietAt, ExpressionsAreQuiet}
use Rattle.py_layout.specs.Starts.{is_start, Begins, ExpressionsBegin}
use Rattle.py_layout.specs.Small.{indexed, target_tokens, joined, list_tokens, augmenting_token, maybe_tokens, message_tokens, fresh, fresh_target, Whole}
use Rattle.py_layout.proofs.Quiet.{quiet_append, plain_quiet, between, dotted, scan-append, passes-append}
use Rattle.py_layout.proofs.Cutting.{front_pass, back_pass, pieces_pass, front_at, back_at, pieces_at, last_cut_at}

-- ---- readings that may fail

pub some_bind : {A B : Type 0} (o : Option A) (f : A → Option B) (b : B) → (o >>= f) ≡ Some b → (a : A) × ((o ≡ Some a) × (f a ≡ Some b))
some_bind None f b e = absurd (cc)
some_bind (Some a) f b e = (a, (refl, e))

pub some_is : {A : Type 0} (a b : A) → Some a ≡ Some b → a ≡ b
some_is a b e = cc

-- ---- expressions

-- the shape has neither number nor line
pub shape_of_kind : (x y : Expr) → x.kind ≡ y.kind → unnumbered x ≡ unnumbered y
unfolding unnumbered
shape_of_kind x y e = fold_out-Expr Shape Given Shape kind_of args_of (λ f. f.kind) x ∙ ap (λ kind. Rattle.py_syntax.specs.declared.expr.ExprKind.fold-ExprKind Shape Given Shape kind_of args_of (λ f. f.kind) kind) e ∙ sym (fold_out-Expr Shape Given Shape kind_of args_of (λ f. f.kind) y)

-- what an expression of a line is: one that tokens are read as, with the line's number
pub record ReadAt (line : ℕ) (level : Level) (x : Expr) : Type 0 where
  pub ts : List Token
  pub tree : Expr
  pub read : tree_at level ts ≡ Some tree
  pub shape : unnumbered x ≡ unnumbered tree

pub read_at : (line : ℕ) (level : Level) (ts : List Token) (x : Expr) → g.expr_at line level ts ≡ Some x → ReadAt line level x
read_at line level ts x e =
    let f = some_bind (tree_at level ts) (λ y. Some (record { node = y.node; line = line; kind = y.kind })) x e in
    let is : record { node = f.0.node; line = line; kind = f.0.kind } ≡ x = some_is _ _ f.1.1 in
    record { ts = ts; tree = f.0; read = f.1.0; shape = shape_of_kind x f.0 (sym (ap (λ (z : Expr). z.kind) is)) }

abbrev pub MaybeRead : ℕ → Level → Option Expr → Type 0
MaybeRead line level None = Unit {0}
MaybeRead line level (Some x) = ReadAt line level x

abbrev pub TargetRead : ℕ → Target → Type 0
TargetRead line (to.Name n) = Unit {0}
TargetRead line (to.Attr of n) = ReadAt line Postfix of
TargetRead line (to.Index of at) = ReadAt line Postfix of × ReadAt line Listed at

abbrev pub TargetsRead : ℕ → List Target → Type 0
TargetsRead line [] = Unit {0}
TargetsRead line (a ∷ more) = TargetRead line a × TargetsRead line more

module _ (quiet : ExpressionsAreQuiet) (begins : ExpressionsBegin) (own : ShapesReadBack) where
  tokens_same : (level : Level) (x y : Expr) → unnumbered x ≡ unnumbered y → expr_tokens level x ≡ expr_tokens level y
  tokens_same level x y e = ap (λ z. Rattle.py_printing.specs.Texts.shape_tokens level z) e

  module _ (before : ℕ) where
    pub expr_quiet : (level : Level) (x : Expr) → ReadAt before level x → (n : ℕ) → QuietAt n (expr_tokens level x)
    expr_quiet level x r n = subst (QuietAt n) (sym (tokens_same level x r.tree r.shape)) (quiet level r.ts r.tree r.read n)

    pub expr_begins : (level : Level) (x : Expr) → ReadAt before level x → Begins (expr_tokens level x)
    expr_begins level x r = subst Begins (sym (tokens_same level x r.tree r.shape)) (begins level r.ts r.tree r.read)

    pub expr_back : (line : ℕ) (level : Level) (x : Expr) → ReadAt before level x → g.expr_at line level (expr_tokens level x) ≡ Some (fresh line x)
    unfolding tree_at
    expr_back line level x r =
        let read : shape deepest level (symbols (expr_tokens level x)) ≡ Some (unnumbered x) =
        subst (λ z. shape deepest level (symbols (Rattle.py_printing.specs.Texts.shape_tokens level z)) ≡ Some z) (sym r.shape) (own level r.ts r.tree r.read)
        in ap (λ (o : Option Shape). (o >>= λ z. Some (numbered z 0).0) >>= λ y. Some (record { node = y.node; line = line; kind = y.kind })) read

    pub maybe_back : (line : ℕ) (level : Level) (x : Option Expr) → MaybeRead before level x → g.maybe line level (maybe_tokens level x) ≡ Some (option_map (fresh line) x)
    maybe_back line level None r = refl
    maybe_back line level (Some x) r =
        let b = expr_begins level x r in
        ap (g.maybe line level) b.whole
        ∙ ap (λ ts. g.expr_at line level ts >>= λ y. Some (Some y)) (sym b.whole)
        ∙ ap (λ (o : Option Expr). o >>= λ y. Some (Some y)) (expr_back line level x r)

    -- ---- tokens in which a separator doesn't stand outside brackets

    pub whole_append : (p : Separator) (xs ys : List Token) → Whole p xs → Whole p ys → Whole p (xs ++ ys)
    whole_append p xs ys f h = (
      scan-append 0 xs ys ∙ ap (λ n. scan opened n ys) f.0 ∙ h.0,
      passes-append p 0 xs ys f.1 (subst (λ n. Passes opened (outside p) n ys) (sym f.0) h.1),
    )

    pub whole_token : (p : Separator) (x : Token) (ys : List Token) → opened 0 x ≡ 0 → outside p 0 x ≡ false → Whole p ys → Whole p (x ∷ ys)
    whole_token p x ys o e h = whole_append p (x ∷ []) ys (o, (e, tt)) h

    pub quiet_whole : (p : Separator) (ts : List Token) → QuietAt 0 ts → is_strict p ≡ true → Whole p ts
    quiet_whole p ts q e = (q.closes, q.passes p (ap (λ v. v || Rattle.std.specs.Prelude.nat_lt 0 0) e))

    -- ---- targets

    pub target_quiet : (a : Target) → TargetRead before a → QuietAt 0 (target_tokens a)
    target_quiet (to.Name n) r = plain_quiet (t.Name n) (λ n. refl) refl 0
    target_quiet (to.Attr of n) r = quiet_append 0 (expr_tokens Postfix of) _ (expr_quiet Postfix of r 0) (dotted n 0)
    target_quiet (to.Index of at) r = quiet_append 0 (expr_tokens Postfix of) _ (expr_quiet Postfix of r.0 0) (between Square 0 (expr_tokens Listed at) (expr_quiet Listed at r.1 1))

    pub begins_more : (xs ys : List Token) → Begins xs → Begins (xs ++ ys)
    begins_more xs ys b = record { first = b.first; rest = b.rest ++ ys; whole = ap (λ z. z ++ ys) b.whole; starts = b.starts }

    pub target_begins : (a : Target) → TargetRead before a → Begins (target_tokens a)
    target_begins (to.Name n) r = record { first = t.Name n; rest = []; whole = refl; starts = refl }
    target_begins (to.Attr of n) r = begins_more (expr_tokens Postfix of) _ (expr_begins Postfix of r)
    target_begins (to.Index of at) r = begins_more (expr_tokens Postfix of) _ (expr_begins Postfix of r.0)

    pub here : (p : Separator) (x : Token) → marks p x ≡ true → outside p 0 x ≡ true
    unfolding outside
    here p x e = e

    pub not_here : (p : Separator) (x : Token) → marks p x ≡ false → outside p 0 x ≡ false
    unfolding outside
    not_here p x e = e

    -- a mark after tokens that close
    pub mark_after : (p : Separator) (n : ℕ) (x : Token) → n ≡ 0 → marks p x ≡ true → outside p n x ≡ true
    mark_after p n x e h = ap (λ k. outside p k x) e ∙ here p x h

    shut : (p : Separator) → outside p 1 (t.Mark m.RightBracket) ≡ false
    unfolding outside
    shut p = refl

    module _ (line : ℕ) where
      -- ---- one target

      inside_back : (at : Expr) → ReadAt before Listed at → inside Square (expr_tokens Listed at ++ t.Mark m.RightBracket ∷ []) ≡ Some (expr_tokens Listed at)
      inside_back at r =
          let w = quiet_whole Closing (expr_tokens Listed at) (expr_quiet Listed at r 0) refl in
          let e = mark_after Closing (scan opened 0 (expr_tokens Listed at)) (t.Mark m.RightBracket) w.0 refl in
          ap (λ xs. closed Square xs (back Closing (expr_tokens Listed at ++ t.Mark m.RightBracket ∷ []))) (front_at opened (outside Closing) 0 (expr_tokens Listed at) (t.Mark m.RightBracket) [] w.1 e)
          ∙ ap (closed Square (expr_tokens Listed at)) (back_at opened (outside Closing) 0 (expr_tokens Listed at) (t.Mark m.RightBracket) [] w.1 e)

      subscript_back : (of at : Expr) → ReadAt before Postfix of → ReadAt before Listed at
          → g.subscript line (expr_tokens Postfix of) (expr_tokens Listed at ++ t.Mark m.RightBracket ∷ []) ≡ Some (fresh line of, fresh line at)
      subscript_back of at r k =
          ap (λ o. o >>= λ x. inside Square (expr_tokens Listed at ++ t.Mark m.RightBracket ∷ []) >>= λ content. g.exprs line content >>= λ i. Some (x, i)) (expr_back line Postfix of r)
          ∙ ap (λ o. o >>= λ content. g.exprs line content >>= λ i. Some (fresh line of, i)) (inside_back at k)
          ∙ ap (λ o. o >>= λ i. Some (fresh line of, i)) (expr_back line Listed at k)

      -- the last part of a target or of what is deleted
      dot_cut : (of : Expr) (n : List ℕ) → ReadAt before Postfix of → last_cut Part (expr_tokens Postfix of ++ t.Mark m.Dot ∷ t.Name n ∷ []) ≡ Some (expr_tokens Postfix of, t.Mark m.Dot, t.Name n ∷ [])
      dot_cut of n r =
          let c = (expr_quiet Postfix of r 0).closes in
          last_cut_at opened (outside Part) 0 (expr_tokens Postfix of) (t.Mark m.Dot) (t.Name n ∷ []) (mark_after Part (scan opened 0 (expr_tokens Postfix of)) (t.Mark m.Dot) c refl)
          (subst (λ k. Passes opened (outside Part) (opened k (t.Mark m.Dot)) (t.Name n ∷ [])) (sym c) (not_here Part (t.Name n) refl, tt))

      index_cut : (of at : Expr) → ReadAt before Postfix of → ReadAt before Listed at
          → last_cut Part (indexed of at) ≡ Some (expr_tokens Postfix of, t.Mark m.LeftBracket, expr_tokens Listed at ++ t.Mark m.RightBracket ∷ [])
      index_cut of at r k =
          let c = (expr_quiet Postfix of r 0).closes in
          let q = expr_quiet Listed at k 1 in
          last_cut_at opened (outside Part) 0 (expr_tokens Postfix of) (t.Mark m.LeftBracket) (expr_tokens Listed at ++ t.Mark m.RightBracket ∷ []) (mark_after Part (scan opened 0 (expr_tokens Postfix of)) (t.Mark m.LeftBracket) c refl)
          (subst (λ j. Passes opened (outside Part) (opened j (t.Mark m.LeftBracket)) (expr_tokens Listed at ++ t.Mark m.RightBracket ∷ [])) (sym c)
          (passes-append Part 1 (expr_tokens Listed at) (t.Mark m.RightBracket ∷ []) (q.passes Part refl) (subst (λ j. Passes opened (outside Part) j (t.Mark m.RightBracket ∷ [])) (sym q.closes) (shut Part, tt))))

      -- a target of more than one token
      target_two : (x y : Token) (zs : List Token) → g.target line (x ∷ y ∷ zs) ≡ (last_cut Part (x ∷ y ∷ zs) >>= λ c. g.target_at line c.0 c.1 c.2)
      target_two (t.Name n) y zs = refl
      target_two (t.Keyword w) y zs = refl
      target_two (t.Int n) y zs = refl
      target_two (t.Str text) y zs = refl
      target_two (t.Mark w) y zs = refl

      target_cut : (xs : List Token) (x : Token) (ys : List Token) → Begins xs → g.target line (xs ++ x ∷ ys) ≡ (last_cut Part (xs ++ x ∷ ys) >>= λ c. g.target_at line c.0 c.1 c.2)
      target_cut xs x ys b = subst (λ z. g.target line (z ++ x ∷ ys) ≡ (last_cut Part (z ++ x ∷ ys) >>= λ c. g.target_at line c.0 c.1 c.2)) (sym b.whole) (by b.rest)
        where
          by : (rest : List Token) → g.target line ((b.first ∷ rest) ++ x ∷ ys) ≡ (last_cut Part ((b.first ∷ rest) ++ x ∷ ys) >>= λ c. g.target_at line c.0 c.1 c.2)
          by [] = target_two b.first x ys
          by (z ∷ zs) = target_two b.first z (zs ++ x ∷ ys)

      target_back : (a : Target) → TargetRead before a → g.target line (target_tokens a) ≡ Some (fresh_target line a)
      target_back (to.Name n) r = refl
      target_back (to.Attr of n) r =
          target_cut (expr_tokens Postfix of) (t.Mark m.Dot) (t.Name n ∷ []) (expr_begins Postfix of r)
          ∙ ap (λ o. o >>= λ c. g.target_at line c.0 c.1 c.2) (dot_cut of n r)
          ∙ ap (λ o. o >>= λ x. Some (to.Attr x n)) (expr_back line Postfix of r)
      target_back (to.Index of at) r =
          target_cut (expr_tokens Postfix of) (t.Mark m.LeftBracket) (expr_tokens Listed at ++ t.Mark m.RightBracket ∷ []) (expr_begins Postfix of r.0)
          ∙ ap (λ o. o >>= λ c. g.target_at line c.0 c.1 c.2) (index_cut of at r.0 r.1)
          ∙ ap (λ o. o >>= λ p. Some (to.Index p.0 p.1)) (subscript_back of at r.0 r.1)

      -- ---- several targets

      whole_comma : (p : Separator) → marks p (t.Mark m.Comma) ≡ false → (xs ys : List Token) → Whole p xs → Whole p ys → Whole p (xs ++ t.Mark m.Comma ∷ ys)
      whole_comma p e xs ys f h = whole_append p xs (t.Mark m.Comma ∷ ys) f (whole_token p (t.Mark m.Comma) ys refl (not_here p (t.Mark m.Comma) e) h)

      abbrev pub AllWhole : Separator → List (List Token) → Type 0
      AllWhole p [] = Unit {0}
      AllWhole p (xs ∷ more) = Whole p xs × AllWhole p more

      pub joined_whole : (p : Separator) → marks p (t.Mark m.Comma) ≡ false → (parts : List (List Token)) → AllWhole p parts → Whole p (joined parts)
      joined_whole p e [] h = (refl, tt)
      joined_whole p e (xs ∷ []) h = h.0
      joined_whole p e (xs ∷ ys ∷ more) h = whole_comma p e xs (joined (ys ∷ more)) h.0 (joined_whole p e (ys ∷ more) h.1)

      pub list_whole : (p : Separator) → marks p (t.Mark m.Comma) ≡ false → (is_tuple : Bool) (parts : List (List Token)) → AllWhole p parts → Whole p (list_tokens is_tuple parts)
      list_whole p e is_tuple [] h = (refl, tt)
      list_whole p e true (xs ∷ []) h = whole_comma p e xs [] h.0 (refl, tt)
      list_whole p e false (xs ∷ []) h = h.0
      list_whole p e is_tuple (xs ∷ ys ∷ more) h = joined_whole p e (xs ∷ ys ∷ more) h

      split_one : (xs : List Token) → Whole Comma xs → split Comma xs ≡ xs ∷ []
      split_one xs h =
          ap (λ z. z ∷ map (λ (q : Token × List Token). q.1) (cut.pieces opened (outside Comma) 0 xs)) (front_pass opened (outside Comma) 0 xs h.1)
          ∙ ap (λ z. xs ∷ map (λ (q : Token × List Token). q.1) z) (pieces_pass opened (outside Comma) 0 xs h.1)

      split_comma : (xs ys : List Token) → Whole Comma xs → split Comma (xs ++ t.Mark m.Comma ∷ ys) ≡ xs ∷ split Comma ys
      split_comma xs ys h =
          let e = mark_after Comma (scan opened 0 xs) (t.Mark m.Comma) h.0 refl in
          ap (λ z. z ∷ map (λ (q : Token × List Token). q.1) (cut.pieces opened (outside Comma) 0 (xs ++ t.Mark m.Comma ∷ ys))) (front_at opened (outside Comma) 0 xs (t.Mark m.Comma) ys h.1 e)
          ∙ ap (λ z. xs ∷ map (λ (q : Token × List Token). q.1) z) (pieces_at opened (outside Comma) 0 xs (t.Mark m.Comma) ys h.1 e)
          ∙ ap (λ n. xs ∷ cut.front opened (outside Comma) (opened n (t.Mark m.Comma)) ys ∷ map (λ (q : Token × List Token). q.1) (cut.pieces opened (outside Comma) (opened n (t.Mark m.Comma)) ys)) h.0

      pub split_joined : (xs : List Token) (more : List (List Token)) → AllWhole Comma (xs ∷ more) → split Comma (joined (xs ∷ more)) ≡ xs ∷ more
      split_joined xs [] h = split_one xs h.0
      split_joined xs (ys ∷ more) h = split_comma xs (joined (ys ∷ more)) h.0 ∙ ap (λ z. xs ∷ z) (split_joined ys more h.1)

      abbrev pub AllBegin : List (List Token) → Type 0
      AllBegin [] = Unit {0}
      AllBegin (xs ∷ more) = Begins xs × AllBegin more

      trimmed_cons : (xs : List Token) (more : List (List Token)) → Begins xs → trimmed (xs ∷ more) ≡ xs ∷ trimmed more
      trimmed_cons xs more b = subst (λ z. trimmed (z ∷ more) ≡ z ∷ trimmed more) (sym b.whole) (by more)
        where
          by : (more : List (List Token)) → trimmed ((b.first ∷ b.rest) ∷ more) ≡ (b.first ∷ b.rest) ∷ trimmed more
          by [] = refl
          by (ys ∷ more) = refl

      pub trimmed_all : (parts : List (List Token)) → AllBegin parts → trimmed parts ≡ parts
      trimmed_all [] h = refl
      trimmed_all (xs ∷ more) h = trimmed_cons xs more h.0 ∙ ap (λ z. xs ∷ z) (trimmed_all more h.1)

      -- the parts of a list, in which one part is a tuple's or alone
      pub list_parts : (is_tuple : Bool) (xs : List Token) (more : List (List Token)) → (is_tuple ≡ false → more ≡ []) → AllWhole Comma (xs ∷ more) → AllBegin (xs ∷ more)
          → trimmed (split Comma (list_tokens is_tuple (xs ∷ more))) ≡ xs ∷ more
      list_parts true xs [] one h b = ap trimmed (split_comma xs [] h.0) ∙ trimmed_cons xs ([] ∷ []) b.0
      list_parts false xs [] one h b = ap trimmed (split_one xs h.0) ∙ trimmed_cons xs [] b.0
      list_parts is_tuple xs (ys ∷ more) one h b = ap trimmed (split_joined xs (ys ∷ more) h) ∙ trimmed_all (xs ∷ ys ∷ more) b

      -- a comma is there where it is a tuple
      pub list_has : (is_tuple : Bool) (xs : List Token) (more : List (List Token)) → (is_tuple ≡ false → more ≡ []) → AllWhole Comma (xs ∷ more) → has Comma (list_tokens is_tuple (xs ∷ more)) ≡ is_tuple
      list_has true xs [] one h = ap is_some (back_at opened (outside Comma) 0 xs (t.Mark m.Comma) [] h.0.1 (mark_after Comma (scan opened 0 xs) (t.Mark m.Comma) h.0.0 refl))
      list_has false xs [] one h = ap is_some (back_pass opened (outside Comma) 0 xs h.0.1)
      list_has true xs (ys ∷ more) one h = ap is_some (back_at opened (outside Comma) 0 xs (t.Mark m.Comma) (joined (ys ∷ more)) h.0.1 (mark_after Comma (scan opened 0 xs) (t.Mark m.Comma) h.0.0 refl))
      list_has false xs (ys ∷ more) one h = absurd (let wrong : ys ∷ more ≡ [] = one refl in cc)

      pub list_begins : (is_tuple : Bool) (xs : List Token) (more : List (List Token)) → Begins xs → Begins (list_tokens is_tuple (xs ∷ more))
      list_begins true xs [] b = begins_more xs (t.Mark m.Comma ∷ []) b
      list_begins false xs [] b = b
      list_begins is_tuple xs (ys ∷ more) b = begins_more xs _ b

      pub some_parts_of : {B : Type 0} (f : List Token → Option B) (ts : List Token) → Begins ts → some_parts Comma f ts ≡ parts Comma f ts
      some_parts_of f ts b = subst (λ z. some_parts Comma f z ≡ parts Comma f z) (sym b.whole) refl

      pub targets_whole : (p : Separator) → is_strict p ≡ true → (targets : List Target) → TargetsRead before targets → AllWhole p (map target_tokens targets)
      targets_whole p e [] r = tt
      targets_whole p e (a ∷ more) r = (quiet_whole p (target_tokens a) (target_quiet a r.0) e, targets_whole p e more r.1)

      targets_begin : (targets : List Target) → TargetsRead before targets → AllBegin (map target_tokens targets)
      targets_begin [] r = tt
      targets_begin (a ∷ more) r = (target_begins a r.0, targets_begin more r.1)

      each_target : (targets : List Target) → TargetsRead before targets → each (g.target line) (map target_tokens targets) ≡ Some (map (fresh_target line) targets)
      each_target [] r = refl
      each_target (a ∷ more) r =
          ap (λ o. o >>= λ first. each (g.target line) (map target_tokens more) >>= λ others. Some (first ∷ others)) (target_back a r.0)
          ∙ ap (λ o. o >>= λ others. Some (fresh_target line a ∷ others)) (each_target more r.1)

      targets_back : (is_tuple : Bool) (a : Target) (more : List Target) → (is_tuple ≡ false → more ≡ []) → TargetsRead before (a ∷ more)
          → some_parts Comma (g.target line) (list_tokens is_tuple (map target_tokens (a ∷ more))) ≡ Some (map (fresh_target line) (a ∷ more))
      targets_back is_tuple a more one r =
          let L = list_tokens is_tuple (map target_tokens (a ∷ more)) in
          some_parts_of (g.target line) L (list_begins is_tuple (target_tokens a) (map target_tokens more) (target_begins a r.0))
          ∙ ap (each (g.target line)) (list_parts is_tuple (target_tokens a) (map target_tokens more) (λ e. ap (map target_tokens) (one e)) (targets_whole Comma refl (a ∷ more) r) (targets_begin (a ∷ more) r))
          ∙ each_target (a ∷ more) r

      -- ---- statements that begin with no keyword

      small_start : (x : Token) (rest : List Token) → is_start x ≡ true → g.small line (x ∷ rest) ≡ g.assignment line (x ∷ rest)
      small_start (t.Keyword k.Pass) rest e = absurd (cc)
      small_start (t.Keyword k.Break) rest e = absurd (cc)
      small_start (t.Keyword k.Continue) rest e = absurd (cc)
      small_start (t.Keyword k.Return) rest e = absurd (cc)
      small_start (t.Keyword k.Raise) rest e = absurd (cc)
      small_start (t.Keyword k.Assert) rest e = absurd (cc)
      small_start (t.Keyword k.Del) rest e = absurd (cc)
      small_start _ rest e = refl

      at_start : (ts : List Token) → Begins ts → g.small line ts ≡ g.assignment line ts
      at_start ts b = subst (λ z. g.small line z ≡ g.assignment line z) (sym b.whole) (small_start b.first b.rest b.starts)

      no_colon : (ts : List Token) → Whole Colon ts → g.assignment line ts ≡ g.unannotated line ts
      no_colon ts h = ap (g.assignment_by line ts (front Colon ts)) (back_pass opened (outside Colon) 0 ts h.1)

      assign_cut : (xs : List Token) (x : Token) (ys : List Token) → Whole Assign xs → marks Assign x ≡ true → g.unannotated line (xs ++ x ∷ ys) ≡ g.unannotated_by line (xs ++ x ∷ ys) xs (x ∷ ys)
      assign_cut xs x ys h e =
          let m = mark_after Assign (scan opened 0 xs) x h.0 e in
          ap (λ z. g.unannotated_by line (xs ++ x ∷ ys) z (back Assign (xs ++ x ∷ ys))) (front_at opened (outside Assign) 0 xs x ys h.1 m)
          ∙ ap (g.unannotated_by line (xs ++ x ∷ ys) xs) (back_at opened (outside Assign) 0 xs x ys h.1 m)

      pub value_whole : (p : Separator) (x : Expr) → ReadAt before Listed x → is_strict p ≡ true → Whole p (expr_tokens Listed x)
      value_whole p x r e = quiet_whole p (expr_tokens Listed x) (expr_quiet Listed x r 0) e

      pub bare_back : (x : Expr) → ReadAt before Listed x → g.small line (expr_tokens Listed x) ≡ Some (s.Bare (fresh line x))
      bare_back x r =
          let E = expr_tokens Listed x in
          at_start E (expr_begins Listed x r) ∙ no_colon E (value_whole Colon x r refl)
          ∙ ap (g.unannotated_by line E (front Assign E)) (back_pass opened (outside Assign) 0 E (value_whole Assign x r refl).1)
          ∙ ap (λ o. o >>= λ y. Some (s.Bare y)) (expr_back line Listed x r)

      -- the tokens before `=` or an operator with it, and an expression after it
      parted : (p : Separator) (xs : List Token) (y : Token) (x : Expr) → is_strict p ≡ true → opened 0 y ≡ 0 → marks p y ≡ false → Whole p xs → ReadAt before Listed x → Whole p (xs ++ y ∷ expr_tokens Listed x)
      parted p xs y x e o m h r = whole_append p xs (y ∷ expr_tokens Listed x) h (whole_token p y (expr_tokens Listed x) o (not_here p y m) (value_whole p x r e))

      pub assign_back : (is_tuple : Bool) (a : Target) (more : List Target) (x : Expr) → (is_tuple ≡ false → more ≡ []) → TargetsRead before (a ∷ more) → ReadAt before Listed x
          → g.small line (list_tokens is_tuple (map target_tokens (a ∷ more)) ++ t.Mark m.Equal ∷ expr_tokens Listed x) ≡ Some (s.Assign (map (fresh_target line) (a ∷ more)) is_tuple None (fresh line x))
      assign_back is_tuple a more x one r v =
          let L = list_tokens is_tuple (map target_tokens (a ∷ more)) in
          let W = L ++ t.Mark m.Equal ∷ expr_tokens Listed x in
          let parts_whole : (p : Separator) → is_strict p ≡ true → AllWhole p (map target_tokens (a ∷ more)) = λ p e. targets_whole p e (a ∷ more) r in
          at_start W (begins_more L _ (list_begins is_tuple (target_tokens a) (map target_tokens more) (target_begins a r.0)))
          ∙ no_colon W (parted Colon L (t.Mark m.Equal) x refl refl refl (list_whole Colon refl is_tuple (map target_tokens (a ∷ more)) (parts_whole Colon refl)) v)
          ∙ assign_cut L (t.Mark m.Equal) (expr_tokens Listed x) (list_whole Assign refl is_tuple (map target_tokens (a ∷ more)) (parts_whole Assign refl)) refl
          ∙ ap (λ o. o >>= λ targets. g.exprs line (expr_tokens Listed x) >>= λ value. Some (s.Assign targets (has Comma L) None value)) (targets_back is_tuple a more one r)
          ∙ ap (λ o. o >>= λ value. Some (s.Assign (map (fresh_target line) (a ∷ more)) (has Comma L) None value)) (expr_back line Listed x v)
          ∙ ap (λ b. Some (s.Assign (map (fresh_target line) (a ∷ more)) b None (fresh line x))) (list_has is_tuple (target_tokens a) (map target_tokens more) (λ e. ap (map target_tokens) (one e)) (parts_whole Comma refl))

      augment_tail : (ts : List Token) (op : BinOp) (xs ys : List Token) → g.unannotated_by line ts xs (augmenting_token op ∷ ys) ≡ (g.target line xs >>= λ changed. g.exprs line ys >>= λ value. Some (s.Augment changed op value))
      augment_tail ts Add xs ys = refl
      augment_tail ts Sub xs ys = refl
      augment_tail ts Mul xs ys = refl
      augment_tail ts FloorDiv xs ys = refl
      augment_tail ts Mod xs ys = refl

      augment_marks : (op : BinOp) → marks Assign (augmenting_token op) ≡ true
      augment_marks Add = refl
      augment_marks Sub = refl
      augment_marks Mul = refl
      augment_marks FloorDiv = refl
      augment_marks Mod = refl

      augment_flat : (op : BinOp) → (opened 0 (augmenting_token op) ≡ 0) × (marks Colon (augmenting_token op) ≡ false)
      augment_flat Add = (refl, refl)
      augment_flat Sub = (refl, refl)
      augment_flat Mul = (refl, refl)
      augment_flat FloorDiv = (refl, refl)
      augment_flat Mod = (refl, refl)

      pub augment_back : (a : Target) (op : BinOp) (x : Expr) → TargetRead before a → ReadAt before Listed x → g.small line (target_tokens a ++ augmenting_token op ∷ expr_tokens Listed x) ≡ Some (s.Augment (fresh_target line a) op (fresh line x))
      augment_back a op x r v =
          let T = target_tokens a in
          let W = T ++ augmenting_token op ∷ expr_tokens Listed x in
          at_start W (begins_more T _ (target_begins a r))
          ∙ no_colon W (parted Colon T (augmenting_token op) x refl (augment_flat op).0 (augment_flat op).1 (quiet_whole Colon T (target_quiet a r) refl) v)
          ∙ assign_cut T (augmenting_token op) (expr_tokens Listed x) (quiet_whole Assign T (target_quiet a r) refl) (augment_marks op)
          ∙ augment_tail W op T (expr_tokens Listed x)
          ∙ ap (λ o. o >>= λ changed. g.exprs line (expr_tokens Listed x) >>= λ value. Some (s.Augment changed op value)) (target_back a r)
          ∙ ap (λ o. o >>= λ value. Some (s.Augment (fresh_target line a) op value)) (expr_back line Listed x v)

      unindexed_fresh : (a : Target) → g.unindexed a ≡ Some a → g.unindexed (fresh_target line a) ≡ Some (fresh_target line a)
      unindexed_fresh (to.Name n) e = refl
      unindexed_fresh (to.Attr of n) e = refl
      unindexed_fresh (to.Index of at) e = absurd (cc)

      pub typed_back : (A : List Token) (type : Annotation) (a : Target) (x : Expr) → annotation A ≡ Some type → Whole Equal A → TargetRead before a → g.unindexed a ≡ Some a → ReadAt before Listed x
          → g.small line (target_tokens a ++ t.Mark m.Colon ∷ (A ++ t.Mark m.Equal ∷ expr_tokens Listed x)) ≡ Some (s.Assign (fresh_target line a ∷ []) false (Some type) (fresh line x))
      typed_back A type a x e h r u v =
          let T = target_tokens a in
          let E = expr_tokens Listed x in
          let R = A ++ t.Mark m.Equal ∷ E in
          let W = T ++ t.Mark m.Colon ∷ R in
          let w = quiet_whole Colon T (target_quiet a r) refl in
          let c = mark_after Colon (scan opened 0 T) (t.Mark m.Colon) w.0 refl in
          let q = mark_after Equal (scan opened 0 A) (t.Mark m.Equal) h.0 refl in
          at_start W (begins_more T _ (target_begins a r))
          ∙ ap (λ z. g.assignment_by line W z (back Colon W)) (front_at opened (outside Colon) 0 T (t.Mark m.Colon) R w.1 c)
          ∙ ap (g.assignment_by line W T) (back_at opened (outside Colon) 0 T (t.Mark m.Colon) R w.1 c)
          ∙ ap (λ z. g.annotated_by line T z (back Equal R)) (front_at opened (outside Equal) 0 A (t.Mark m.Equal) E h.1 q)
          ∙ ap (g.annotated_by line T A) (back_at opened (outside Equal) 0 A (t.Mark m.Equal) E h.1 q)
          ∙ ap (λ o. (o >>= g.unindexed) >>= λ bound. annotation A >>= λ of_type. g.exprs line E >>= λ value. Some (s.Assign (bound ∷ []) false (Some of_type) value)) (target_back a r)
          ∙ ap (λ o. o >>= λ bound. annotation A >>= λ of_type. g.exprs line E >>= λ value. Some (s.Assign (bound ∷ []) false (Some of_type) value)) (unindexed_fresh a u)
          ∙ ap (λ o. o >>= λ of_type. g.exprs line E >>= λ value. Some (s.Assign (fresh_target line a ∷ []) false (Some of_type) value)) e
          ∙ ap (λ o. o >>= λ value. Some (s.Assign (fresh_target line a ∷ []) false (Some type) value)) (expr_back line Listed x v)

      -- ---- the others

      pub assert_back : (test : Expr) (message : Option Expr) → ReadAt before Conditional test → MaybeRead before Conditional message
          → g.asserted line (expr_tokens Conditional test ++ message_tokens message) ≡ Some (s.Assert (fresh line test) (option_map (fresh line) message))
      assert_back test None r v =
          let E = expr_tokens Conditional test in
          let h = quiet_whole Comma E (expr_quiet Conditional test r 0) refl in
          subst (λ z. g.asserted line z ≡ Some (s.Assert (fresh line test) None)) (sym (append-nil E))
          (ap (λ z. g.asserted_by line z (back Comma E)) (front_pass opened (outside Comma) 0 E h.1)
          ∙ ap (g.asserted_by line E) (back_pass opened (outside Comma) 0 E h.1)
          ∙ ap (λ o. o >>= λ y. Some (s.Assert y None)) (expr_back line Conditional test r))
      assert_back test (Some x) r v =
          let E = expr_tokens Conditional test in
          let M = expr_tokens Conditional x in
          let h = quiet_whole Comma E (expr_quiet Conditional test r 0) refl in
          let c = mark_after Comma (scan opened 0 E) (t.Mark m.Comma) h.0 refl in
          ap (λ z. g.asserted_by line z (back Comma (E ++ t.Mark m.Comma ∷ M))) (front_at opened (outside Comma) 0 E (t.Mark m.Comma) M h.1 c)
          ∙ ap (g.asserted_by line E) (back_at opened (outside Comma) 0 E (t.Mark m.Comma) M h.1 c)
          ∙ ap (λ o. o >>= λ tested. g.expr line M >>= λ message. Some (s.Assert tested (Some message))) (expr_back line Conditional test r)
          ∙ ap (λ o. o >>= λ message. Some (s.Assert (fresh line test) (Some message))) (expr_back line Conditional x v)

      pub delete_back : (of at : Expr) → ReadAt before Postfix of → ReadAt before Listed at → g.deleted line (indexed of at) ≡ Some (s.Del (fresh line of) (fresh line at))
      delete_back of at r v =
          ap (λ o. o >>= λ c. g.deleted_at line c.0 c.1 c.2) (index_cut of at r v)
          ∙ ap (λ o. o >>= λ p. Some (s.Del p.0 p.1)) (subscript_back of at r v)
