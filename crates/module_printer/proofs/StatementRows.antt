-- The lines of each form of statement, in the order in which they are written.
use Rattle.std.proofs.Common.{◌≡◌, ◌∙◌, sym, ap, ap₂, refl, ℕ, ◌+◌, Bool, true, false, List, [], ◌∷◌, ◌++◌, ◌<◌, ◌≤◌, length, drop, get_or, Option, Some, None}
use Rattle.std.proofs.lemmas.List.{drop_all}
use Rattle.std.specs.Prelude.{map, option_map}
use Rattle.std.specs.List.{flat_map}
use Rattle.py_language.specs.TreesPlaces.{Conditional}
use Rattle.py_language.specs.declared.token.Keyword.{Keyword}
use Rattle.py_language.specs.declared.token.Token.TheVariants as t
use Rattle.py_language.specs.declared.token.Keyword.TheVariants as k
use Rattle.py_syntax.specs.declared.expr.Expr.{Expr}
use Rattle.py_syntax.specs.declared.stmt.Clause.{Clause, out-Clause}
use Rattle.py_syntax.specs.declared.stmt.Stmt.{Stmt}
use Rattle.py_syntax.specs.declared.stmt.StmtKind.{StmtKind, StmtKind-F, out-StmtKind, roll-StmtKind, roll-out-StmtKind}
use Rattle.py_syntax.specs.declared.stmt.StmtKind.TheVariants as s
use Rattle.py_syntax.specs.declared.stmt.StmtKind.TheVariants.{outs-If, outs-While, outs-For, outs-Try}
use Rattle.py_grammar.specs.declared.form.Header.TheVariants as h
use Rattle.py_printing.specs.Expressions.{expr_tokens}
use Rattle.py_layout.specs.Headers.{colon, header_tokens}
use Rattle.py_layout.specs.Rows.{Rows, Placed, row, indent, placed, headed, arms_rows, maybe_headed, kind_rows, rows_of, rows_of_clause, rows_of_kind, block_rows}
use Rattle.py_layout.specs.Small.{small_by, small_tokens}
use Rattle.py_layout.proofs.RowLevels.{parts_of_kind, by_statement, by_kind, by_clause}
use Rattle.py_annotation_layout.specs.Annotations.{annotation_tokens}
use Rattle.module_printer.specs.Blocks.{deeper, tested_rows, word_rows, maybe_rows, arms_by}
use Rattle.module_printer.proofs.Commas.{rest_of}
use Rattle.module_printer.specs.declared.page.Page.{Page}
use Rattle.module_printer.specs.Pages.{onto}
use Rattle.module_printer.proofs.Pages.{onto_append, onto_nil}

-- ---- blocks

pub placed_is : (column : ℕ) (body : List Stmt) → placed column (map (rows_of annotation_tokens) body) ≡ block_rows annotation_tokens column body
placed_is column [] = refl
placed_is column (stmt ∷ body) = ap (λ z. rows_of annotation_tokens stmt column ++ z) (placed_is column body)

abbrev placed_arms : List (Expr × List Stmt) → List (Expr × List Placed)
placed_arms arms = map (λ (arm : Expr × List Stmt). let q : Expr × List Placed = (arm.0, map (rows_of annotation_tokens) arm.1) in q) arms

others_are : (column : ℕ) (arms : List (Expr × List Stmt)) → arms_rows annotation_tokens column h.Elif (placed_arms arms) ≡ arms_by column k.Elif arms
others_are column [] = refl
others_are column (arm ∷ arms) =
    ap₂ (λ z w. row column (header_tokens annotation_tokens (h.Elif arm.0)) ∷ (z ++ w)) (placed_is (column + indent) arm.1) (others_are column arms)

arms_are : (column : ℕ) (arms : List (Expr × List Stmt)) → arms_rows annotation_tokens column h.If (placed_arms arms) ≡ arms_by column k.If arms
arms_are column [] = refl
arms_are column (arm ∷ arms) =
    ap₂ (λ z w. row column (header_tokens annotation_tokens (h.If arm.0)) ∷ (z ++ w)) (placed_is (column + indent) arm.1) (others_are column arms)

else_is : (column : ℕ) (body : Option (List Stmt)) → maybe_headed annotation_tokens column h.Else (option_map (map (rows_of annotation_tokens)) body) ≡ maybe_rows column k.Else body
else_is column None = refl
else_is column (Some body) = ap (λ z. row column (header_tokens annotation_tokens h.Else) ∷ z) (placed_is (column + indent) body)

finally_is : (column : ℕ) (body : Option (List Stmt)) → maybe_headed annotation_tokens column h.Finally (option_map (map (rows_of annotation_tokens)) body) ≡ maybe_rows column k.Finally body
finally_is column None = refl
finally_is column (Some body) = ap (λ z. row column (header_tokens annotation_tokens h.Finally) ∷ z) (placed_is (column + indent) body)

if_rows : (column : ℕ) (arms : List (Expr × List Stmt)) (other : Option (List Stmt)) → kind_rows annotation_tokens (parts_of_kind annotation_tokens (StmtKind-F.If arms other)) column ≡ arms_by column k.If arms ++ maybe_rows column k.Else other
if_rows column arms None = ap (λ z. z ++ []) (arms_are column arms)
if_rows column arms (Some body) = ap₂ (λ z w. z ++ w) (arms_are column arms) (else_is column (Some body))

pub kind-If : (arms : List (Expr × List Stmt)) (other : Option (List Stmt)) (column : ℕ) → rows_of_kind annotation_tokens (s.If arms other) column ≡ arms_by column k.If arms ++ maybe_rows column k.Else other
kind-If arms other column =
    by_kind annotation_tokens (s.If arms other) column ∙ ap (λ f. kind_rows annotation_tokens (parts_of_kind annotation_tokens f) column) (outs-If arms other) ∙ if_rows column arms other

pub kind-While : (test : Expr) (body : List Stmt) (column : ℕ) → rows_of_kind annotation_tokens (s.While test body) column ≡ tested_rows column k.While test body
kind-While test body column =
    by_kind annotation_tokens (s.While test body) column ∙ ap (λ f. kind_rows annotation_tokens (parts_of_kind annotation_tokens f) column) (outs-While test body)
    ∙ ap (λ z. row column (header_tokens annotation_tokens (h.While test)) ∷ z) (placed_is (column + indent) body)

pub kind-For : (names : List (List ℕ)) (is_tuple : Bool) (walked : Expr) (body : List Stmt) (column : ℕ)
    → rows_of_kind annotation_tokens (s.For names is_tuple walked body) column ≡ row column (header_tokens annotation_tokens (h.For names is_tuple walked)) ∷ deeper column body
kind-For names is_tuple walked body column =
    by_kind annotation_tokens (s.For names is_tuple walked body) column ∙ ap (λ f. kind_rows annotation_tokens (parts_of_kind annotation_tokens f) column) (outs-For names is_tuple walked body)
    ∙ ap (λ z. row column (header_tokens annotation_tokens (h.For names is_tuple walked)) ∷ z) (placed_is (column + indent) body)

pub clause_is : (clause : Clause) (column : ℕ) → rows_of_clause annotation_tokens clause column ≡ row column (header_tokens annotation_tokens (h.Except (out-Clause clause).classes (out-Clause clause).name)) ∷ deeper column (out-Clause clause).body
clause_is clause column = by_clause annotation_tokens clause column ∙ ap (λ z. row column (header_tokens annotation_tokens (h.Except (out-Clause clause).classes (out-Clause clause).name)) ∷ z) (placed_is (column + indent) (out-Clause clause).body)

clauses_are : (column : ℕ) (clauses : List Clause) → placed column (map (rows_of_clause annotation_tokens) clauses) ≡ flat_map (λ clause. rows_of_clause annotation_tokens clause column) clauses
clauses_are column [] = refl
clauses_are column (clause ∷ clauses) = ap (λ z. rows_of_clause annotation_tokens clause column ++ z) (clauses_are column clauses)

try_rows : (body : List Stmt) (clauses : List Clause) (other last : Option (List Stmt)) (column : ℕ)
    → kind_rows annotation_tokens (parts_of_kind annotation_tokens (StmtKind-F.Try body clauses other last)) column
    ≡ headed annotation_tokens column h.Try (map (rows_of annotation_tokens) body)
    ++ (placed column (map (rows_of_clause annotation_tokens) clauses) ++ (maybe_headed annotation_tokens column h.Else (option_map (map (rows_of annotation_tokens)) other) ++ maybe_headed annotation_tokens column h.Finally (option_map (map (rows_of annotation_tokens)) last)))
try_rows body clauses None None column = refl
try_rows body clauses None (Some last) column = refl
try_rows body clauses (Some other) None column = refl
try_rows body clauses (Some other) (Some last) column = refl

pub kind-Try : (body : List Stmt) (clauses : List Clause) (other last : Option (List Stmt)) (column : ℕ)
    → rows_of_kind annotation_tokens (s.Try body clauses other last) column
    ≡ word_rows column k.Try body ++ (flat_map (λ clause. rows_of_clause annotation_tokens clause column) clauses ++ (maybe_rows column k.Else other ++ maybe_rows column k.Finally last))
kind-Try body clauses other last column =
    by_kind annotation_tokens (s.Try body clauses other last) column ∙ ap (λ f. kind_rows annotation_tokens (parts_of_kind annotation_tokens f) column) (outs-Try body clauses other last)
    ∙ try_rows body clauses other last column
    ∙ ap₂ (λ z w. (row column (header_tokens annotation_tokens h.Try) ∷ z) ++ w) (placed_is (column + indent) body)
    (ap₂ (λ z w. z ++ w) (clauses_are column clauses) (ap₂ (λ z w. z ++ w) (else_is column other) (finally_is column last)))

-- ---- lists of parts, from the front

module _ {X : Type 0} (show : X → Rows) where
  abbrev pub left : List X → ℕ → Rows
  left xs i = flat_map show (drop i xs)

  pub one_part : (xs : List X) (i : ℕ) (x : X) (whole p q : Page) → i < length xs → x ≡ get_or xs i x → whole ≡ onto p (left xs i) → q ≡ onto p (show x) → whole ≡ onto q (left xs (i + 1))
  one_part xs i x whole p q lt is before a =
      before ∙ ap (λ ys. onto p (flat_map show ys)) (rest_of xs i x lt is) ∙ onto_append p (show x) (left xs (i + 1)) ∙ ap (λ z. onto z (left xs (i + 1))) (sym a)

  pub all_parts : (xs : List X) (i : ℕ) (whole p : Page) → length xs ≤ i → whole ≡ onto p (left xs i) → p ≡ whole
  all_parts xs i whole p le before = sym (before ∙ ap (λ ys. onto p (flat_map show ys)) (drop_all i xs le) ∙ onto_nil p)

module _ (column : ℕ) where
  pub one_arm : (xs : List (Expr × List Stmt)) (i : ℕ) (x : Expr × List Stmt) (keyword : Keyword) (body : List Stmt) (whole p q r : Page) → i < length xs → x ≡ get_or xs i x
      → whole ≡ onto p (arms_by column keyword (drop i xs)) → q ≡ onto p (row column ((t.Keyword keyword ∷ expr_tokens Conditional x.0) ++ colon) ∷ []) → body ≡ x.1 → r ≡ onto q (deeper column body)
      → whole ≡ onto r (arms_by column k.Elif (drop (i + 1) xs))
  one_arm xs i x keyword body whole p q r lt is before head same inner =
      let rest = arms_by column k.Elif (drop (i + 1) xs) in
      before ∙ ap (λ ys. onto p (arms_by column keyword ys)) (rest_of xs i x lt is)
      ∙ onto_append p (tested_rows column keyword x.0 x.1) rest
      ∙ ap (λ z. onto (onto z (deeper column x.1)) rest) (sym head)
      ∙ ap (λ b. onto (onto q (deeper column b)) rest) (sym same)
      ∙ ap (λ z. onto z rest) (sym inner)

  pub all_arms : (xs : List (Expr × List Stmt)) (i : ℕ) (keyword : Keyword) (whole p : Page) → length xs ≤ i → whole ≡ onto p (arms_by column keyword (drop i xs)) → p ≡ whole
  all_arms xs i keyword whole p le before = sym (before ∙ ap (λ ys. onto p (arms_by column keyword ys)) (drop_all i xs le) ∙ onto_nil p)

-- ---- small statements

abbrev pub is_small_by : {X C S : Type 0} → StmtKind-F X C S → Bool
is_small_by (StmtKind-F.If arms other) = false
is_small_by (StmtKind-F.While test body) = false
is_small_by (StmtKind-F.For names is_tuple walked body) = false
is_small_by (StmtKind-F.Try body clauses other last) = false
is_small_by _ = true

pub small_row : (kind : StmtKind) (column : ℕ) → is_small_by (out-StmtKind kind) ≡ true → rows_of_kind annotation_tokens kind column ≡ row column (small_tokens annotation_tokens kind) ∷ []
small_row kind column e = by_kind annotation_tokens kind column ∙ by (out-StmtKind kind) e
  where
    by : (f : StmtKind-F StmtKind Clause Stmt) → is_small_by f ≡ true → kind_rows annotation_tokens (parts_of_kind annotation_tokens f) column ≡ row column (small_by annotation_tokens f) ∷ []
    by StmtKind-F.Pass e = refl
    by StmtKind-F.Break e = refl
    by StmtKind-F.Continue e = refl
    by (StmtKind-F.Return x) e = refl
    by (StmtKind-F.Raise x) e = refl
    by (StmtKind-F.Assert test message) e = refl
    by (StmtKind-F.Del of at) e = refl
    by (StmtKind-F.Assign targets is_tuple type x) e = refl
    by (StmtKind-F.Augment target op x) e = refl
    by (StmtKind-F.Bare x) e = refl
    by (StmtKind-F.If arms other) e = absurd (cc)
    by (StmtKind-F.While test body) e = absurd (cc)
    by (StmtKind-F.For names is_tuple walked body) e = absurd (cc)
    by (StmtKind-F.Try body clauses other last) e = absurd (cc)

pub small_onto : (p : Page) (column : ℕ) (stmt : Stmt) → is_small_by (out-StmtKind stmt.kind) ≡ true → onto p (row column (small_tokens annotation_tokens stmt.kind) ∷ []) ≡ onto p (rows_of annotation_tokens stmt column)
small_onto p column stmt e = ap (onto p) (sym (by_statement annotation_tokens stmt column ∙ small_row stmt.kind column e))

same_kind : (x y : StmtKind) → out-StmtKind x ≡ out-StmtKind y → x ≡ y
same_kind x y e = sym (roll-out-StmtKind x) ∙ ap roll-StmtKind e ∙ roll-out-StmtKind y

-- a kind of statement that is none of these four is small
pub other_kind : (kind : StmtKind) → ((arms : List (Expr × List Stmt)) (other : Option (List Stmt)) → kind ≡ s.If arms other → ⊥) → ((test : Expr) (body : List Stmt) → kind ≡ s.While test body → ⊥)
    → ((names : List (List ℕ)) (is_tuple : Bool) (walked : Expr) (body : List Stmt) → kind ≡ s.For names is_tuple walked body → ⊥)
    → ((body : List Stmt) (clauses : List Clause) (other last : Option (List Stmt)) → kind ≡ s.Try body clauses other last → ⊥) → is_small_by (out-StmtKind kind) ≡ true
other_kind kind no_if no_while no_for no_try = by (out-StmtKind kind) refl
  where
    by : (f : StmtKind-F StmtKind Clause Stmt) → out-StmtKind kind ≡ f → is_small_by f ≡ true
    by (StmtKind-F.If arms other) e = absurd (no_if arms other (same_kind kind (s.If arms other) (e ∙ sym (outs-If arms other))))
    by (StmtKind-F.While test body) e = absurd (no_while test body (same_kind kind (s.While test body) (e ∙ sym (outs-While test body))))
    by (StmtKind-F.For names is_tuple walked body) e = absurd (no_for names is_tuple walked body (same_kind kind (s.For names is_tuple walked body) (e ∙ sym (outs-For names is_tuple walked body))))
    by (StmtKind-F.Try body clauses other last) e = absurd (no_try body clauses other last (same_kind kind (s.Try body clauses other last) (e ∙ sym (outs-Try body clauses other last))))
    by StmtKind-F.Pass e = refl
    by StmtKind-F.Break e = refl
    by StmtKind-F.Continue e = refl
    by (StmtKind-F.Return x) e = refl
    by (StmtKind-F.Raise x) e = refl
    by (StmtKind-F.Assert test message) e = refl
    by (StmtKind-F.Del of at) e = refl
    by (StmtKind-F.Assign targets is_tuple type x) e = refl
    by (StmtKind-F.Augment target op x) e = refl
    by (StmtKind-F.Bare x) e = refl

pub try_onto : (p : Page) (column : ℕ) (stmt : Stmt) (body : List Stmt) (clauses : List Clause) (other last : Option (List Stmt)) → stmt.kind ≡ s.Try body clauses other last
    → onto (onto (onto (onto p (word_rows column k.Try body)) (flat_map (λ clause. rows_of_clause annotation_tokens clause column) clauses)) (maybe_rows column k.Else other)) (maybe_rows column k.Finally last)
    ≡ onto p (rows_of annotation_tokens stmt column)
try_onto p column stmt body clauses other last is =
    let one = word_rows column k.Try body in
    let two = flat_map (λ clause. rows_of_clause annotation_tokens clause column) clauses in
    let three = maybe_rows column k.Else other in
    let four = maybe_rows column k.Finally last in
    sym (onto_append p one (two ++ (three ++ four)) ∙ onto_append (onto p one) two (three ++ four) ∙ onto_append (onto (onto p one) two) three four)
    ∙ ap (onto p) (sym (by_statement annotation_tokens stmt column ∙ ap (λ kind. rows_of_kind annotation_tokens kind column) is ∙ kind-Try body clauses other last column))

pub ruleset statement_levels = (by_statement, kind-If, kind-While, kind-For, kind-Try)
