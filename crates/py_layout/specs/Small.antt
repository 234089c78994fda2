-- The tokens that each small statement is printed as, and the statement as it is read from them (Language Reference, chapter 7).
use Rattle.std.specs.Prelude.{◌≡◌, ℕ, Bool, true, false, if◌then◌else◌, List, [], ◌∷◌, ◌++◌, map, option_map, Option, Some, None}
use Rattle.py_cut.specs.Cut.{scan, Passes}
use Rattle.py_language.specs.declared.token.Token.{Token}
use Rattle.py_language.specs.declared.token.Token.TheVariants as t
use Rattle.py_language.specs.declared.token.Keyword.TheVariants as k
use Rattle.py_language.specs.declared.token.Mark.TheVariants as m
use Rattle.py_language.specs.TreesNumbers.{numbered}
use Rattle.py_language.specs.TreesPlaces.{Level, Listed, Conditional, Postfix}
use Rattle.py_syntax.specs.declared.expr.Expr.{Expr}
use Rattle.py_syntax.specs.declared.operator.BinOp.{BinOp}
use Rattle.py_syntax.specs.declared.operator.BinOp.TheVariants.{Add, Sub, Mul, FloorDiv, Mod}
use Rattle.py_syntax.specs.declared.stmt.Annotation.{Annotation}
use Rattle.py_syntax.specs.declared.stmt.Clause.{Clause}
use Rattle.py_syntax.specs.declared.stmt.Stmt.{Stmt}
use Rattle.py_syntax.specs.declared.stmt.StmtKind.{StmtKind, StmtKind-F, out-StmtKind}
use Rattle.py_syntax.specs.declared.stmt.StmtKind.TheVariants as s
use Rattle.py_syntax.specs.declared.stmt.Target.{Target}
use Rattle.py_syntax.specs.declared.stmt.Target.TheVariants as to
use Rattle.py_grammar.specs.declared.separator.Separator.{Separator}
use Rattle.py_grammar.specs.declared.separator.Separator.TheVariants.{Pipe}
use Rattle.py_grammar.specs.Annotations.{annotation}
use Rattle.py_grammar.specs.Separators.{opened, outside}
use Rattle.py_grammar.specs.Statements.{small}
use Rattle.py_printing.specs.Expressions.{unnumbered, expr_tokens}
use Rattle.py_layout.specs.Quiet.{is_strict}

-- ---- targets, and several with commas between them

abbrev pub indexed : Expr → Expr → List Token
indexed of at = expr_tokens Postfix of ++ t.Mark m.LeftBracket ∷ (expr_tokens Listed at ++ t.Mark m.RightBracket ∷ [])

abbrev pub target_tokens : Target → List Token
target_tokens (to.Name n) = t.Name n ∷ []
target_tokens (to.Attr of n) = expr_tokens Postfix of ++ t.Mark m.Dot ∷ t.Name n ∷ []
target_tokens (to.Index of at) = indexed of at

abbrev pub joined : List (List Token) → List Token
joined [] = []
joined (xs ∷ []) = xs
joined (xs ∷ ys ∷ more) = xs ++ t.Mark m.Comma ∷ joined (ys ∷ more)

-- A tuple of one has a comma.
abbrev pub list_tokens : Bool → List (List Token) → List Token
list_tokens is_tuple [] = []
list_tokens is_tuple (xs ∷ []) = if is_tuple then xs ++ t.Mark m.Comma ∷ [] else xs
list_tokens is_tuple (xs ∷ ys ∷ more) = joined (xs ∷ ys ∷ more)

-- ---- statements

abbrev pub augmenting_token : BinOp → Token
augmenting_token Add = t.Mark m.PlusEqual
augmenting_token Sub = t.Mark m.MinusEqual
augmenting_token Mul = t.Mark m.StarEqual
augmenting_token FloorDiv = t.Mark m.DoubleSlashEqual
augmenting_token Mod = t.Mark m.PercentEqual

abbrev pub maybe_tokens : Level → Option Expr → List Token
maybe_tokens level None = []
maybe_tokens level (Some x) = expr_tokens level x

abbrev pub message_tokens : Option Expr → List Token
message_tokens None = []
message_tokens (Some x) = t.Mark m.Comma ∷ expr_tokens Conditional x

-- by the tokens of annotations
module _ (annotated : Annotation → List Token) where
  abbrev pub typed_tokens : Option Annotation → List Token
  typed_tokens None = []
  typed_tokens (Some a) = t.Mark m.Colon ∷ annotated a

  abbrev pub small_by : {X C S : Type 0} → StmtKind-F X C S → List Token
  small_by StmtKind-F.Pass = t.Keyword k.Pass ∷ []
  small_by StmtKind-F.Break = t.Keyword k.Break ∷ []
  small_by StmtKind-F.Continue = t.Keyword k.Continue ∷ []
  small_by (StmtKind-F.Return x) = t.Keyword k.Return ∷ maybe_tokens Listed x
  small_by (StmtKind-F.Raise x) = t.Keyword k.Raise ∷ maybe_tokens Conditional x
  small_by (StmtKind-F.Assert test message) = t.Keyword k.Assert ∷ (expr_tokens Conditional test ++ message_tokens message)
  small_by (StmtKind-F.Del of at) = t.Keyword k.Del ∷ indexed of at
  small_by (StmtKind-F.Assign targets is_tuple type x) = list_tokens is_tuple (map target_tokens targets) ++ (typed_tokens type ++ t.Mark m.Equal ∷ expr_tokens Listed x)
  small_by (StmtKind-F.Augment target op x) = target_tokens target ++ augmenting_token op ∷ expr_tokens Listed x
  small_by (StmtKind-F.Bare x) = expr_tokens Listed x
  small_by _ = []

  -- a small statement's tokens; a compound one has none
  abbrev pub small_tokens : StmtKind → List Token
  small_tokens kind = small_by (out-StmtKind kind)

-- ---- what is read from these tokens on a line: the same with the line's number, and nodes numbered within each expression

abbrev pub fresh : ℕ → Expr → Expr
fresh line x = record { node = (numbered (unnumbered x) 0).0.node; line = line; kind = (numbered (unnumbered x) 0).0.kind }

abbrev pub fresh_target : ℕ → Target → Target
fresh_target line (to.Name n) = to.Name n
fresh_target line (to.Attr of n) = to.Attr (fresh line of) n
fresh_target line (to.Index of at) = to.Index (fresh line of) (fresh line at)

abbrev pub fresh_by : ℕ → StmtKind → StmtKind-F StmtKind Clause Stmt → StmtKind
fresh_by line kind (StmtKind-F.Return x) = s.Return (option_map (fresh line) x)
fresh_by line kind (StmtKind-F.Raise x) = s.Raise (option_map (fresh line) x)
fresh_by line kind (StmtKind-F.Assert test message) = s.Assert (fresh line test) (option_map (fresh line) message)
fresh_by line kind (StmtKind-F.Del of at) = s.Del (fresh line of) (fresh line at)
fresh_by line kind (StmtKind-F.Assign targets is_tuple type x) = s.Assign (map (fresh_target line) targets) is_tuple type (fresh line x)
fresh_by line kind (StmtKind-F.Augment target op x) = s.Augment (fresh_target line target) op (fresh line x)
fresh_by line kind (StmtKind-F.Bare x) = s.Bare (fresh line x)
fresh_by line kind _ = kind

abbrev pub fresh_small : ℕ → StmtKind → StmtKind
fresh_small line kind = fresh_by line kind (out-StmtKind kind)

-- ---- the law

-- tokens in which a separator doesn't stand outside brackets, and whose brackets close
abbrev pub Whole : Separator → List Token → Type 0
Whole p ts = (scan opened 0 ts ≡ 0) × Passes opened (outside p) 0 ts

-- the separators that no annotation has outside brackets
abbrev pub is_never_in_annotations : Separator → Bool
is_never_in_annotations Pipe = false
is_never_in_annotations p = is_strict p

-- tokens of annotations that are read back
pub record ReadsBack (annotated : Annotation → List Token) : Type 0 where
  pub back : (ts : List Token) (a : Annotation) → annotation ts ≡ Some a → annotation (annotated a) ≡ Some a
  pub whole : (ts : List Token) (a : Annotation) → annotation ts ≡ Some a → (p : Separator) → is_never_in_annotations p ≡ true → Whole p (annotated a)

-- a small statement that any tokens are read as is read from its own tokens, on any line
abbrev pub SmallReadBack : Type 0
SmallReadBack = (annotated : Annotation → List Token) → ReadsBack annotated → (before line : ℕ) (ts : List Token) (kind : StmtKind)
    → small before ts ≡ Some kind → small line (small_tokens annotated kind) ≡ Some (fresh_small line kind)
