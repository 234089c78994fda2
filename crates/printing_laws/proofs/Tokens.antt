-- The tokens of expressions, annotations, targets and lists of them, read from the tokens of a text.
use Rattle.std.proofs.Common.{◌≡◌, sym, ap, refl, subst, ℕ, Bool, true, false, List, [], ◌∷◌, ◌++◌, Option, Some, None}
use Rattle.std.specs.Prelude.{map}
use Rattle.py_language.specs.declared.shape.Bracket.{Bracket}
use Rattle.py_language.specs.declared.shape.Bracket.TheVariants.{Square}
use Rattle.py_language.specs.declared.token.Mark.TheVariants as m
use Rattle.py_language.specs.declared.token.Token.{Token}
use Rattle.py_language.specs.declared.token.Token.TheVariants as t
use Rattle.py_language.specs.Trees.{◌>>=◌, each, tree_at}
use Rattle.py_language.specs.TreesPlaces.{Level, Listed, Postfix}
use Rattle.py_syntax.specs.declared.expr.Expr.{Expr}
use Rattle.py_syntax.specs.declared.stmt.Annotation.{Annotation}
use Rattle.py_syntax.specs.declared.stmt.Target.{Target}
use Rattle.py_grammar.specs.declared.separator.Separator.{Separator}
use Rattle.py_grammar.specs.declared.separator.Separator.TheVariants.{Part}
use Rattle.py_grammar.specs.Annotations.{annotation}
use Rattle.py_grammar.specs.Separators.{inside, last_cut, split, trimmed, parts, some_parts, all_parts}
use Rattle.py_grammar.specs.Statements as g
use Rattle.py_spelling.specs.Spelling.{is_sound}
use Rattle.py_printing.specs.Expressions.{expr_tokens, SoundTreesAreSound}
use Rattle.py_printing.specs.Texts.{shape_tokens}
use Rattle.py_printer.specs.Lines.{has_tokens}
use Rattle.py_layout.specs.Small.{indexed, target_tokens, joined, list_tokens, maybe_tokens}
use Rattle.py_layout.specs.Starts.{ExpressionsBegin}
use Rattle.py_layout.proofs.Good.{Good, AllGood, GoodAt, good_of, all_of, good_append, good_cut, good_split, good_parts, good_inside}
use Rattle.py_layout.proofs.Small.{shape_of_kind}
use Rattle.py_annotation_layout.specs.Annotations.{annotation_tokens}
use Rattle.py_annotation_layout.specs.Laws.{AnnotationsAreSound}
use Rattle.printing_laws.proofs.Holds.{Maybe, no, yes, maybe_then, maybe_read}

-- ---- lists of tokens

-- there are some, and a text can hold them
abbrev pub Filled : List Token → Type 0
Filled ts = (has_tokens ts ≡ true) × Good ts

abbrev pub IsIdentifier : List ℕ → Type 0
IsIdentifier n = is_sound (t.Name n) ≡ true

pub some_after : (xs : List Token) (y : Token) (ys : List Token) → has_tokens (xs ++ y ∷ ys) ≡ true
some_after [] y ys = refl
some_after (x ∷ xs) y ys = refl

pub joined_good : (parts : List (List Token)) → AllGood parts → Good (joined parts)
joined_good [] h = tt
joined_good (xs ∷ []) h = h.0
joined_good (xs ∷ ys ∷ more) h = good_append xs (t.Mark m.Comma ∷ joined (ys ∷ more)) h.0 (refl, joined_good (ys ∷ more) h.1)

pub list_good : (is_tuple : Bool) (parts : List (List Token)) → AllGood parts → Good (list_tokens is_tuple parts)
list_good is_tuple [] h = tt
list_good true (xs ∷ []) h = good_append xs (t.Mark m.Comma ∷ []) h.0 (refl, tt)
list_good false (xs ∷ []) h = h.0
list_good is_tuple (xs ∷ ys ∷ more) h = joined_good (xs ∷ ys ∷ more) h

-- ---- parts between separators

module _ {B : Type 0} (f : List Token → Option B) (P : B → Type 0) (each_one : (ts : List Token) → Good ts → Maybe P (f ts)) where
  abbrev pub All : List B → Type 0
  All [] = Unit {0}
  All (b ∷ bs) = P b × All bs

  each_good : (ps : List (List Token)) → AllGood ps → Maybe All (each f ps)
  each_good [] h = yes tt
  each_good (xs ∷ more) h = maybe_then P (f xs) _ (each_one xs h.0) (λ first k. maybe_then All (each f more) _ (each_good more h.1) (λ others l. yes (k, l)))

  pub parts_good : (p : Separator) (xs : List Token) → Good xs → Maybe All (parts p f xs)
  parts_good p xs h = each_good (trimmed (split p xs)) (good_parts p xs h)

  pub some_good : (p : Separator) (xs : List Token) → Good xs → Maybe All (some_parts p f xs)
  some_good p [] h = no
  some_good p (x ∷ xs) h = parts_good p (x ∷ xs) h

  pub all_good : (p : Separator) (xs : List Token) → Good xs → Maybe All (all_parts p f xs)
  all_good p xs h = each_good (split p xs) (good_split p xs h)

  pub shown_good : (show : B → List Token) → ((b : B) → P b → Good (show b)) → (bs : List B) → All bs → AllGood (map show bs)
  shown_good show k [] h = tt
  shown_good show k (b ∷ bs) h = (k b h.0, shown_good show k bs h.1)

-- ---- names

pub name_good : (xs : List Token) → Good xs → Maybe IsIdentifier (g.name xs)
name_good (t.Name n ∷ []) h = yes h.0
name_good _ h = no

pub inside_good : (b : Bracket) (xs : List Token) → Good xs → Maybe Good (inside b xs)
inside_good b xs h = maybe_read Good (inside b xs) (λ content e. good_inside b xs content h e)

-- ---- expressions

module _ (sound_trees : SoundTreesAreSound) (begins : ExpressionsBegin) where
  abbrev pub ExprGood : Level → Expr → Type 0
  ExprGood level x = Filled (expr_tokens level x)

  tree_good : (level : Level) (ts : List Token) (x y : Expr) → Good ts → tree_at level ts ≡ Some x → x.kind ≡ y.kind → ExprGood level y
  tree_good level ts x y h e same =
      let b = begins level ts x e in
      let tokens : expr_tokens level x ≡ expr_tokens level y = ap (shape_tokens level) (shape_of_kind x y same) in
      subst Filled tokens (subst (λ z. has_tokens z ≡ true) (sym b.whole) refl, good_of (expr_tokens level x) (sound_trees level ts x (all_of ts h) e))

  pub expr_good : (line : ℕ) (level : Level) (ts : List Token) → Good ts → Maybe (ExprGood level) (g.expr_at line level ts)
  expr_good line level ts h =
      maybe_then (λ x. tree_at level ts ≡ Some x) (tree_at level ts) _ (maybe_read (λ x. tree_at level ts ≡ Some x) (tree_at level ts) (λ x e. e)) (λ x e. yes (tree_good level ts x _ h e refl))

  abbrev pub MaybeGood : Level → Option Expr → Type 0
  MaybeGood level x = Good (maybe_tokens level x)

  pub maybe_good : (line : ℕ) (level : Level) (ts : List Token) → Good ts → Maybe (MaybeGood level) (g.maybe line level ts)
  maybe_good line level [] h = yes tt
  maybe_good line level (x ∷ xs) h = maybe_then (ExprGood level) (g.expr_at line level (x ∷ xs)) _ (expr_good line level (x ∷ xs) h) (λ y k. yes k.1)

  -- ---- targets

  module _ (line : ℕ) where
    pub indexed_good : (of at : Expr) → ExprGood Postfix of → ExprGood Listed at → Good (indexed of at)
    indexed_good of at h k = good_append (expr_tokens Postfix of) _ h.1 (refl, good_append (expr_tokens Listed at) _ k.1 (refl, tt))

    pub subscript_good : (object xs : List Token) → Good object → Good xs → Maybe (λ (p : Expr × Expr). Good (indexed p.0 p.1)) (g.subscript line object xs)
    subscript_good object xs h k =
        maybe_then (ExprGood Postfix) (g.expr_at line Postfix object) _ (expr_good line Postfix object h)
        (λ x a. maybe_then Good (inside Square xs) _ (inside_good Square xs k)
        (λ content c. maybe_then (ExprGood Listed) (g.exprs line content) _ (expr_good line Listed content c) (λ i b. yes (indexed_good x i a b))))

    abbrev pub TargetGood : Target → Type 0
    TargetGood a = Good (target_tokens a)

    target_at_good : (object : List Token) (x : Token) (xs : List Token) → Good object → Good xs → Maybe TargetGood (g.target_at line object x xs)
    target_at_good object (t.Mark m.Dot) xs h k =
        maybe_then IsIdentifier (g.name xs) _ (name_good xs k) (λ n a. maybe_then (ExprGood Postfix) (g.expr_at line Postfix object) _ (expr_good line Postfix object h)
        (λ x b. yes (good_append (expr_tokens Postfix x) _ b.1 (refl, (a, tt)))))
    target_at_good object (t.Mark m.LeftBracket) xs h k = maybe_then (λ (p : Expr × Expr). Good (indexed p.0 p.1)) (g.subscript line object xs) _ (subscript_good object xs h k) (λ p a. yes a)
    target_at_good object _ xs h k = no

    cut_good : (o : Option (List Token × Token × List Token)) → GoodAt o → Maybe TargetGood (o >>= λ c. g.target_at line c.0 c.1 c.2)
    cut_good None h = no
    cut_good (Some c) h = target_at_good c.0 c.1 c.2 h.0 h.1.1

    pub target_good : (ts : List Token) → Good ts → Maybe TargetGood (g.target line ts)
    target_good (t.Name n ∷ []) h = yes (h.0, tt)
    target_good [] h = cut_good (last_cut Part []) (good_cut Part [] h)
    target_good (t.Name n ∷ x ∷ xs) h = cut_good (last_cut Part (t.Name n ∷ x ∷ xs)) (good_cut Part (t.Name n ∷ x ∷ xs) h)
    target_good (t.Keyword w ∷ xs) h = cut_good (last_cut Part (t.Keyword w ∷ xs)) (good_cut Part (t.Keyword w ∷ xs) h)
    target_good (t.Int n ∷ xs) h = cut_good (last_cut Part (t.Int n ∷ xs)) (good_cut Part (t.Int n ∷ xs) h)
    target_good (t.Str text ∷ xs) h = cut_good (last_cut Part (t.Str text ∷ xs)) (good_cut Part (t.Str text ∷ xs) h)
    target_good (t.Mark w ∷ xs) h = cut_good (last_cut Part (t.Mark w ∷ xs)) (good_cut Part (t.Mark w ∷ xs) h)

-- ---- annotations

abbrev pub AnnotationGood : Annotation → Type 0
AnnotationGood a = Good (annotation_tokens a)

pub annotation_good : AnnotationsAreSound → (ts : List Token) → Good ts → Maybe AnnotationGood (annotation ts)
annotation_good sound ts h = maybe_read AnnotationGood (annotation ts) (λ a e. good_of (annotation_tokens a) (sound ts a (all_of ts h) e))
