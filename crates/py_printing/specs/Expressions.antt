-- The shape of an expression: without its numbers and lines, and with its plain arguments before the named ones.
use Rattle.std.specs.Prelude.{◌≡◌, ℕ, Bool, true, List, [], ◌∷◌, ◌++◌, Option, Some, None}
use Rattle.std.specs.List.{list_all}
use Rattle.py_language.specs.declared.token.Token.{Token}
use Rattle.py_language.specs.declared.shape.Atom.TheVariants as a
use Rattle.py_language.specs.declared.shape.Shape.{Shape}
use Rattle.py_language.specs.declared.shape.Shape.TheVariants as e
use Rattle.py_language.specs.TreesPlaces.{Level}
use Rattle.py_language.specs.TreesSymbols.{symbols}
use Rattle.py_language.specs.Trees.{shape, deepest, tree_at}
use Rattle.py_syntax.specs.declared.expr.Args.{Args-F}
use Rattle.py_syntax.specs.declared.expr.Expr.{Expr, fold-Expr}
use Rattle.py_syntax.specs.declared.expr.ExprKind.{ExprKind-F}
use Rattle.py_language.specs.Tokens.{tokens_of}
use Rattle.py_spelling.specs.Spelling.{is_sound, is_balanced}
use Rattle.py_printing.specs.Texts.{line_text, shape_tokens}

abbrev pub Given : Type 0
Given = List (Option (List ℕ) × Shape)

abbrev pub unnamed : List Shape → Given
unnamed [] = []
unnamed (x ∷ xs) = (None, x) ∷ unnamed xs

abbrev pub named : List (List ℕ × Shape) → Given
named [] = []
named (p ∷ ps) = (Some p.0, p.1) ∷ named ps

abbrev pub args_of : Args-F Shape Given Shape → Given
args_of f = unnamed f.plain ++ named f.named

abbrev pub kind_of : ExprKind-F Shape Given Shape → Shape
kind_of ExprKind-F.NoneLit = e.Atom a.NoneLit
kind_of (ExprKind-F.BoolLit b) = e.Atom (a.BoolLit b)
kind_of (ExprKind-F.IntLit n) = e.Atom (a.IntLit n)
kind_of (ExprKind-F.StrLit s) = e.Atom (a.StrLit s)
kind_of (ExprKind-F.Name n) = e.Atom (a.Name n)
kind_of (ExprKind-F.ListLit xs) = e.ListLit xs
kind_of (ExprKind-F.TupleLit xs) = e.TupleLit xs
kind_of (ExprKind-F.DictLit xs) = e.DictLit xs
kind_of (ExprKind-F.Attr x n) = e.Attr x n
kind_of (ExprKind-F.Index x i) = e.Index x i
kind_of (ExprKind-F.Slice x low high) = e.Slice x low high
kind_of (ExprKind-F.Call x args) = e.Call x args
kind_of (ExprKind-F.Method x n args) = e.Method x n args
kind_of (ExprKind-F.Super n args) = e.Super n args
kind_of (ExprKind-F.Unary g x) = e.Unary g x
kind_of (ExprKind-F.Not x) = e.Not x
kind_of (ExprKind-F.Binary op x y) = e.Binary op x y
kind_of (ExprKind-F.And xs) = e.And xs
kind_of (ExprKind-F.Or xs) = e.Or xs
kind_of (ExprKind-F.Compare x cs) = e.Compare x cs
kind_of (ExprKind-F.Cond x y z) = e.Cond x y z

-- two expressions are the same up to lines and node numbers where this is the same
unfoldable pub unnumbered : Expr → Shape
unnumbered = fold-Expr Shape Given Shape kind_of args_of (λ f. f.kind)

-- the tokens that an expression is printed as, at a level
abbrev pub expr_tokens : Level → Expr → List Token
expr_tokens l x = shape_tokens l (unnumbered x)

-- the tree of any tokens is the tree of its own tokens, up to lines and node numbers
abbrev pub TreesReadBack : Type 0
TreesReadBack = (l : Level) (ts : List Token) (x : Expr) → tree_at l ts ≡ Some x → (y : Expr) × ((tree_at l (expr_tokens l x) ≡ Some y) × (unnumbered y ≡ unnumbered x))

-- the shape of a tree's own tokens is that of the tree
abbrev pub ShapesReadBack : Type 0
ShapesReadBack = (l : Level) (ts : List Token) (x : Expr) → tree_at l ts ≡ Some x → shape deepest l (symbols (expr_tokens l x)) ≡ Some (unnumbered x)

-- the text of the tree of any tokens, in any style of spaces, is one logical line without a fault,
-- whose tree is the same up to lines and node numbers, where names, integers and strings are those of a text
abbrev pub ExpressionsReadBack : Type 0
ExpressionsReadBack = (tight : Token → Token → Bool) (l : Level) (ts : List Token) (x : Expr) → tree_at l ts ≡ Some x → list_all is_sound (expr_tokens l x) ≡ true
    → (tokens_of (line_text tight (expr_tokens l x)) ≡ record { lines = record { line = 1; column = 0; tokens = expr_tokens l x } ∷ []; fault = None })
    × ((y : Expr) × ((tree_at l (expr_tokens l x) ≡ Some y) × (unnumbered y ≡ unnumbered x)))

-- brackets of the tree of any tokens close in order, and no more than 50 are open at once, whatever tokens come after it
abbrev pub TreesAreBalanced : Type 0
TreesAreBalanced = (l : Level) (ts : List Token) (x : Expr) (rest : List Token) → tree_at l ts ≡ Some x → list_all is_sound (expr_tokens l x) ≡ true → is_balanced [] (expr_tokens l x ++ rest) ≡ is_balanced [] rest

-- a tree of sound tokens is printed by sound tokens
abbrev pub SoundTreesAreSound : Type 0
SoundTreesAreSound = (l : Level) (ts : List Token) (x : Expr) → list_all is_sound ts ≡ true → tree_at l ts ≡ Some x → list_all is_sound (expr_tokens l x) ≡ true

-- the text of the tree of any sound tokens, as those of a text are, is read back to the same tree up to lines and node numbers
abbrev pub SoundExpressionsReadBack : Type 0
SoundExpressionsReadBack = (tight : Token → Token → Bool) (l : Level) (ts : List Token) (x : Expr) → list_all is_sound ts ≡ true → tree_at l ts ≡ Some x
    → (tokens_of (line_text tight (expr_tokens l x)) ≡ record { lines = record { line = 1; column = 0; tokens = expr_tokens l x } ∷ []; fault = None })
    × ((y : Expr) × ((tree_at l (expr_tokens l x) ≡ Some y) × (unnumbered y ≡ unnumbered x)))
