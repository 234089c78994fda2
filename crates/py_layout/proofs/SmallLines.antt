-- A small statement on a line of its own is read back, and is the same up to lines and node numbers.
use Rattle.std.proofs.Common.{◌≡◌, ◌∙◌, sym, ap, refl, subst, ℕ, Bool, true, false, List, [], ◌∷◌, ◌++◌, Option, Some, None}
use Rattle.std.specs.Prelude.{map}
use Rattle.py_cut.specs.Cut as cut
use Rattle.py_cut.specs.Cut.{scan, Passes}
use Rattle.py_language.specs.declared.token.Token.{Token}
use Rattle.py_language.specs.declared.token.Token.TheVariants as t
use Rattle.py_language.specs.declared.token.Keyword.TheVariants as k
use Rattle.py_language.specs.declared.token.Mark.TheVariants as m
use Rattle.py_language.specs.TreesPlaces.{Level, Listed, Conditional, Postfix}
use Rattle.py_language.specs.Trees.{◌>>=◌, each}
use Rattle.py_syntax.specs.declared.expr.Expr.{Expr}
use Rattle.py_syntax.specs.declared.operator.BinOp.{BinOp}
use Rattle.py_syntax.specs.declared.operator.BinOp.TheVariants.{Add, Sub, Mul, FloorDiv, Mod}
use Rattle.py_syntax.specs.declared.stmt.Annotation.{Annotation}
use Rattle.py_syntax.specs.declared.stmt.StmtKind.{StmtKind, out-StmtKind}
use Rattle.py_syntax.specs.declared.stmt.StmtKind.TheVariants.{outs-Pass, outs-Break, outs-Continue, outs-Return, outs-Raise, outs-Assert, outs-Del, outs-Assign, outs-Augment, outs-Bare}
use Rattle.py_syntax.specs.declared.stmt.Target.TheVariants as to
use Rattle.py_grammar.specs.declared.separator.Separator.{Separator}
use Rattle.py_grammar.specs.declared.separator.Separator.TheVariants.{Semicolon}
use Rattle.py_grammar.specs.Separators.{opened, outside, marks, trimmed}
use Rattle.py_grammar.specs.Statements as g
use Rattle.py_printing.specs.Expressions.{expr_tokens, ShapesReadBack}
use Rattle.py_layout.specs.Quiet.{ExpressionsAreQuiet}
use Rattle.py_layout.specs.Starts.{is_start, Begins, ExpressionsBegin}
use Rattle.py_layout.specs.Small.{indexed, target_tokens, list_tokens, augmenting_token, maybe_tokens, message_tokens, typed_tokens, small_by, small_tokens, Whole, ReadsBack}
use Rattle.py_layout.proofs.Cutting.{front_pass, pieces_pass}
use Rattle.py_syntax.specs.declared.stmt.Stmt.{Stmt}
use Rattle.py_grammar.specs.declared.form.Form.TheVariants.{Simple}
use Rattle.py_grammar.specs.Forms as f
use Rattle.py_layout.proofs.Small.{some_bind, some_is, ReadAt, read_at, MaybeRead, AllWhole, AllBegin, expr_quiet, expr_begins, expr_back, whole_append, whole_token, quiet_whole, here, not_here, mark_after, joined_whole, list_whole, split_joined, trimmed_all, list_parts, list_has, list_begins, some_parts_of}
use Rattle.py_language.specs.declared.token.Logical.{Logical}
use Rattle.py_syntax.specs.declared.stmt.Clause.{Clause}
use Rattle.py_syntax.specs.declared.stmt.StmtKind.{StmtKind-F}
use Rattle.py_grammar.specs.Refusals.{first_word, is_continuing}
use Rattle.py_layout.proofs.Small.{TargetRead, TargetsRead, target_quiet, target_begins, targets_whole}
use Rattle.py_layout.proofs.SmallForms.{SmallForm, of_pass, of_break, of_continue, of_return, of_raise, of_assert, of_del, of_assign, of_typed, of_augment, of_bare}

-- ---- lines of small statements

-- the tokens that a small statement may begin with
abbrev starts_small : Token → Bool
starts_small (t.Keyword k.Pass) = true
starts_small (t.Keyword k.Break) = true
starts_small (t.Keyword k.Continue) = true
starts_small (t.Keyword k.Return) = true
starts_small (t.Keyword k.Raise) = true
starts_small (t.Keyword k.Assert) = true
starts_small (t.Keyword k.Del) = true
starts_small x = is_start x

small_of_start : (x : Token) → is_start x ≡ true → starts_small x ≡ true
small_of_start (t.Keyword k.Pass) e = refl
small_of_start (t.Keyword k.Break) e = refl
small_of_start (t.Keyword k.Continue) e = refl
small_of_start (t.Keyword k.Return) e = refl
small_of_start (t.Keyword k.Raise) e = refl
small_of_start (t.Keyword k.Assert) e = refl
small_of_start (t.Keyword k.Del) e = refl
small_of_start _ e = e

-- tokens without a semicolon outside brackets, which begin no statement of another kind
pub record SmallLine (ts : List Token) : Type 0 where
  pub first : Token
  pub rest : List Token
  pub whole : ts ≡ first ∷ rest
  pub starts : starts_small first ≡ true
  pub one : Whole Semicolon ts

no_word : (x : Token) (rest : List Token) → starts_small x ≡ true → is_continuing (first_word (x ∷ rest)) ≡ false
no_word (t.Keyword k.Elif) rest e = absurd (cc)
no_word (t.Keyword k.Else) rest e = absurd (cc)
no_word (t.Keyword k.Except) rest e = absurd (cc)
no_word (t.Keyword k.Finally) rest e = absurd (cc)
no_word _ rest e = refl

pub no_continuing : (ts : List Token) → SmallLine ts → is_continuing (first_word ts) ≡ false
no_continuing ts l = subst (λ z. is_continuing (first_word z) ≡ false) (sym l.whole) (no_word l.first l.rest l.starts)

as_statements : (line : ℕ) (x : Token) (rest : List Token) → starts_small x ≡ true → f.form line (x ∷ rest) ≡ f.statements line (x ∷ rest)
as_statements line (t.Keyword k.If) rest e = absurd (cc)
as_statements line (t.Keyword k.Elif) rest e = absurd (cc)
as_statements line (t.Keyword k.Else) rest e = absurd (cc)
as_statements line (t.Keyword k.While) rest e = absurd (cc)
as_statements line (t.Keyword k.For) rest e = absurd (cc)
as_statements line (t.Keyword k.Try) rest e = absurd (cc)
as_statements line (t.Keyword k.Except) rest e = absurd (cc)
as_statements line (t.Keyword k.Finally) rest e = absurd (cc)
as_statements line (t.Keyword k.Def) rest e = absurd (cc)
as_statements line (t.Keyword k.Class) rest e = absurd (cc)
as_statements line (t.Keyword k.From) rest e = absurd (cc)
as_statements line _ rest e = refl

abbrev alone_on : ℕ → StmtKind → List Stmt
alone_on line kind = record { node = record { 0 = 0 }; line = line; kind = kind } ∷ []

one_part : (line : ℕ) (x : Token) (rest : List Token) (kind : StmtKind) → Whole Semicolon (x ∷ rest) → g.small line (x ∷ rest) ≡ Some kind → g.simple line (x ∷ rest) ≡ Some (alone_on line kind)
one_part line x rest kind w e =
    ap (λ z. each (g.statement line) (trimmed (z ∷ map (λ (q : Token × List Token). q.1) (cut.pieces opened (outside Semicolon) 0 (x ∷ rest))))) (front_pass opened (outside Semicolon) 0 (x ∷ rest) w.1)
    ∙ ap (λ z. each (g.statement line) (trimmed ((x ∷ rest) ∷ map (λ (q : Token × List Token). q.1) z))) (pieces_pass opened (outside Semicolon) 0 (x ∷ rest) w.1)
    ∙ ap (λ o. (o >>= λ kind. Some (record { node = record { 0 = 0 }; line = line; kind = kind })) >>= λ first. Some (first ∷ [])) e

pub line_form : (l : Logical) (kind : StmtKind) → SmallLine l.tokens → g.small l.line l.tokens ≡ Some kind → f.form_of l ≡ Some (Simple (alone_on l.line kind))
unfolding f.form_of
line_form l kind w e =
    let small : g.small l.line (w.first ∷ w.rest) ≡ Some kind = ap (g.small l.line) (sym w.whole) ∙ e in
    ap (f.form l.line) w.whole ∙ as_statements l.line w.first w.rest w.starts
    ∙ ap (λ o. o >>= λ all. Some (Simple all)) (one_part l.line w.first w.rest kind (subst (Whole Semicolon) w.whole w.one) small)

module _ (quiet : ExpressionsAreQuiet) (begins : ExpressionsBegin) (annotated : Annotation → List Token) (own : ShapesReadBack) (reads : ReadsBack annotated) (before : ℕ) where
  w_add : (p : Separator) (xs ys : List Token) → Whole p xs → Whole p ys → Whole p (xs ++ ys)
  w_add = whole_append quiet begins own before

  w_cons : (x : Token) (ys : List Token) → opened 0 x ≡ 0 → marks Semicolon x ≡ false → Whole Semicolon ys → Whole Semicolon (x ∷ ys)
  w_cons x ys o e w = whole_token quiet begins own before Semicolon x ys o (not_here quiet begins own before Semicolon x e) w

  w_expr : (level : Level) (x : Expr) → ReadAt before level x → Whole Semicolon (expr_tokens level x)
  w_expr level x r = quiet_whole quiet begins own before Semicolon (expr_tokens level x) (expr_quiet quiet begins own before level x r 0) refl

  w_maybe : (level : Level) (x : Option Expr) → MaybeRead before level x → Whole Semicolon (maybe_tokens level x)
  w_maybe level None r = (refl, tt)
  w_maybe level (Some x) r = w_expr level x r

  w_indexed : (of at : Expr) → ReadAt before Postfix of → ReadAt before Listed at → Whole Semicolon (indexed of at)
  w_indexed of at r v = quiet_whole quiet begins own before Semicolon (indexed of at) (target_quiet quiet begins own before (to.Index of at) (r, v)) refl

  w_typed : (a : Option Annotation) → ((b : Annotation) → a ≡ Some b → Whole Semicolon (annotated b)) → Whole Semicolon (typed_tokens annotated a)
  w_typed None r = (refl, tt)
  w_typed (Some b) r = w_cons (t.Mark m.Colon) (annotated b) refl refl (r b refl)

  word : (x : Token) (rest : List Token) → starts_small x ≡ true → opened 0 x ≡ 0 → marks Semicolon x ≡ false → Whole Semicolon rest → SmallLine (x ∷ rest)
  word x rest s o e w = record { first = x; rest = rest; whole = refl; starts = s; one = w_cons x rest o e w }

  started : (ts : List Token) → Begins ts → Whole Semicolon ts → SmallLine ts
  started ts b w = record { first = b.first; rest = b.rest; whole = b.whole; starts = small_of_start b.first b.starts; one = w }

  message_whole : (message : Option Expr) → MaybeRead before Conditional message → Whole Semicolon (message_tokens message)
  message_whole None r = (refl, tt)
  message_whole (Some x) r = w_cons (t.Mark m.Comma) (expr_tokens Conditional x) refl refl (w_expr Conditional x r)

  augment_plain : (op : BinOp) → (opened 0 (augmenting_token op) ≡ 0) × (marks Semicolon (augmenting_token op) ≡ false)
  augment_plain Add = (refl, refl)
  augment_plain Sub = (refl, refl)
  augment_plain Mul = (refl, refl)
  augment_plain FloorDiv = (refl, refl)
  augment_plain Mod = (refl, refl)

  abbrev LineOf : StmtKind → Type 0
  LineOf kind = SmallLine (small_tokens annotated kind)

  by_out : (kind made : StmtKind) (level : StmtKind-F StmtKind Clause Stmt) → kind ≡ made → out-StmtKind made ≡ level → SmallLine (small_by annotated level) → LineOf kind
  by_out kind made level is out l = subst (λ z. SmallLine (small_by annotated z)) (sym (ap out-StmtKind is ∙ out)) l

  pub small_line : (kind : StmtKind) → SmallForm before kind → LineOf kind
  small_line kind (of_pass is) = by_out kind _ _ is outs-Pass (word (t.Keyword k.Pass) [] refl refl refl (refl, tt))
  small_line kind (of_break is) = by_out kind _ _ is outs-Break (word (t.Keyword k.Break) [] refl refl refl (refl, tt))
  small_line kind (of_continue is) = by_out kind _ _ is outs-Continue (word (t.Keyword k.Continue) [] refl refl refl (refl, tt))
  small_line kind (of_return x is r) = by_out kind _ _ is (outs-Return x) (word (t.Keyword k.Return) (maybe_tokens Listed x) refl refl refl (w_maybe Listed x r))
  small_line kind (of_raise x is r) = by_out kind _ _ is (outs-Raise x) (word (t.Keyword k.Raise) (maybe_tokens Conditional x) refl refl refl (w_maybe Conditional x r))
  small_line kind (of_assert test message is r v) =
      by_out kind _ _ is (outs-Assert test message) (word (t.Keyword k.Assert) (expr_tokens Conditional test ++ message_tokens message) refl refl refl (w_add Semicolon (expr_tokens Conditional test) (message_tokens message) (w_expr Conditional test r) (message_whole message v)))
  small_line kind (of_del of at is r v) = by_out kind _ _ is (outs-Del of at) (word (t.Keyword k.Del) (indexed of at) refl refl refl (w_indexed of at r v))
  small_line kind (of_assign a more is_tuple x is one r v) =
      let L = list_tokens is_tuple (map target_tokens (a ∷ more)) in
      by_out kind _ _ is (outs-Assign (a ∷ more) is_tuple None x)
      (started (L ++ t.Mark m.Equal ∷ expr_tokens Listed x) (Rattle.py_layout.proofs.Small.begins_more quiet begins own before L _ (list_begins quiet begins own before 0 is_tuple (target_tokens a) (map target_tokens more) (target_begins quiet begins own before a r.0)))
      (w_add Semicolon L (t.Mark m.Equal ∷ expr_tokens Listed x) (list_whole quiet begins own before 0 Semicolon refl is_tuple (map target_tokens (a ∷ more)) (targets_whole quiet begins own before 0 Semicolon refl (a ∷ more) r)) (w_cons (t.Mark m.Equal) (expr_tokens Listed x) refl refl (w_expr Listed x v))))
  small_line kind (of_typed a type x is r u w v) =
      let T = target_tokens a in
      let R = t.Mark m.Colon ∷ (annotated type ++ t.Mark m.Equal ∷ expr_tokens Listed x) in
      by_out kind _ _ is (outs-Assign (a ∷ []) false (Some type) x)
      (started (T ++ R) (Rattle.py_layout.proofs.Small.begins_more quiet begins own before T R (target_begins quiet begins own before a r))
      (w_add Semicolon T R (quiet_whole quiet begins own before Semicolon T (target_quiet quiet begins own before a r) refl)
      (w_cons (t.Mark m.Colon) (annotated type ++ t.Mark m.Equal ∷ expr_tokens Listed x) refl refl (w_add Semicolon (annotated type) (t.Mark m.Equal ∷ expr_tokens Listed x) (reads.whole w.0 type w.1 Semicolon refl) (w_cons (t.Mark m.Equal) (expr_tokens Listed x) refl refl (w_expr Listed x v))))))
  small_line kind (of_augment a op x is r v) =
      let T = target_tokens a in
      by_out kind _ _ is (outs-Augment a op x)
      (started (T ++ augmenting_token op ∷ expr_tokens Listed x) (Rattle.py_layout.proofs.Small.begins_more quiet begins own before T _ (target_begins quiet begins own before a r))
      (w_add Semicolon T (augmenting_token op ∷ expr_tokens Listed x) (quiet_whole quiet begins own before Semicolon T (target_quiet quiet begins own before a r) refl) (w_cons (augmenting_token op) (expr_tokens Listed x) (augment_plain op).0 (augment_plain op).1 (w_expr Listed x v))))
  small_line kind (of_bare x is r) = by_out kind _ _ is (outs-Bare x) (started (expr_tokens Listed x) (expr_begins quiet begins own before Listed x r) (w_expr Listed x r))
