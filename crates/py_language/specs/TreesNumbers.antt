-- The numbers of an expression's nodes: from a number on, in the order of reading, a node before its parts.
use Rattle.std.specs.Prelude.{ℕ, suc, List, [], ◌∷◌, Option, Some, None}
use Rattle.py_language.specs.declared.shape.Atom.{Atom}
use Rattle.py_language.specs.declared.shape.Atom.TheVariants as a
use Rattle.py_language.specs.declared.shape.Shape.{Shape, Shape-F, fold-Shape}
use Rattle.py_syntax.specs.declared.expr.Args.{Args, roll-Args}
use Rattle.py_syntax.specs.declared.expr.Expr.{Expr}
use Rattle.py_syntax.specs.declared.expr.ExprKind.{ExprKind}
use Rattle.py_syntax.specs.declared.expr.ExprKind.TheVariants as e
use Rattle.py_syntax.specs.declared.operator.CmpOp.{CmpOp}

-- something with numbers, from a number on, and the number behind it
abbrev pub Numbered : Type 0 → Type 0
Numbered X = ℕ → X × ℕ

infixl 10 ◌>>=◌
abbrev pub ◌>>=◌ : {X Y : Type 0} → Numbered X → (X → Numbered Y) → Numbered Y
p >>= f = λ n. let r = p n in f r.0 r.1

abbrev pub plain : {X : Type 0} → X → Numbered X
plain x = λ n. (x, n)

-- a node, then its parts
abbrev pub node : Numbered ExprKind → Numbered Expr
node parts = λ n. let r = parts (suc n) in (record { node = record { 0 = n }; line = 1; kind = r.0 }, r.1)

abbrev pub in_order : {X : Type 0} → List (Numbered X) → Numbered (List X)
in_order [] = plain []
in_order (p ∷ ps) = do
  x ← p
  others ← in_order ps
  plain (x ∷ others)

abbrev pub entries : List (Numbered Expr × Numbered Expr) → Numbered (List (Expr × Expr))
entries [] = plain []
entries (p ∷ ps) = do
  key ← p.0
  value ← p.1
  others ← entries ps
  plain ((key, value) ∷ others)

abbrev pub compared : List (CmpOp × Numbered Expr) → Numbered (List (CmpOp × Expr))
compared [] = plain []
compared (p ∷ ps) = do
  x ← p.1
  others ← compared ps
  plain ((p.0, x) ∷ others)

abbrev pub Given : Type 0
Given = List Expr × List (List ℕ × Expr)

abbrev pub given : Option (List ℕ) → Expr → Given → Given
given None x others = (x ∷ others.0, others.1)
given (Some n) x others = (others.0, (n, x) ∷ others.1)

-- plain and named arguments, numbered as they stand
abbrev pub arguments : List (Option (List ℕ) × Numbered Expr) → Numbered Given
arguments [] = plain ([], [])
arguments (p ∷ ps) = do
  x ← p.1
  others ← arguments ps
  plain (given p.0 x others)

abbrev pub args : Given → Args
args g = roll-Args (record { plain = g.0; named = g.1 })

abbrev pub bound : Option (Numbered Expr) → Numbered (Option Expr)
bound None = plain None
bound (Some p) = do
  x ← p
  plain (Some x)

abbrev pub atom : Atom → ExprKind
atom a.NoneLit = e.NoneLit
atom (a.BoolLit b) = e.BoolLit b
atom (a.IntLit n) = e.IntLit n
atom (a.StrLit s) = e.StrLit s
atom (a.Name n) = e.Name n

-- the parts of a node, from the numbers of what they are made of
abbrev pub parts : Shape-F (Numbered Expr) → Numbered ExprKind
parts (Shape-F.Atom x) = plain (atom x)
parts (Shape-F.ListLit ps) = do
  all ← in_order ps
  plain (e.ListLit all)
parts (Shape-F.TupleLit ps) = do
  all ← in_order ps
  plain (e.TupleLit all)
parts (Shape-F.DictLit ps) = do
  all ← entries ps
  plain (e.DictLit all)
parts (Shape-F.Attr p n) = do
  object ← p
  plain (e.Attr object n)
parts (Shape-F.Index p i) = do
  object ← p
  index ← i
  plain (e.Index object index)
parts (Shape-F.Slice p a b) = do
  object ← p
  low ← bound a
  high ← bound b
  plain (e.Slice object low high)
parts (Shape-F.Call p ps) = do
  callee ← p
  given ← arguments ps
  plain (e.Call callee (args given))
parts (Shape-F.Method p n ps) = do
  object ← p
  given ← arguments ps
  plain (e.Method object n (args given))
parts (Shape-F.Super n ps) = do
  given ← arguments ps
  plain (e.Super n (args given))
parts (Shape-F.Unary s p) = do
  x ← p
  plain (e.Unary s x)
parts (Shape-F.Not p) = do
  x ← p
  plain (e.Not x)
parts (Shape-F.Binary op p q) = do
  left ← p
  right ← q
  plain (e.Binary op left right)
parts (Shape-F.And ps) = do
  all ← in_order ps
  plain (e.And all)
parts (Shape-F.Or ps) = do
  all ← in_order ps
  plain (e.Or all)
parts (Shape-F.Compare p ps) = do
  first ← p
  others ← compared ps
  plain (e.Compare first others)
parts (Shape-F.Cond p q r) = do
  value ← p
  test ← q
  other ← r
  plain (e.Cond value test other)

unfoldable pub numbered : Shape → Numbered Expr
numbered = fold-Shape (Numbered Expr) (λ x. node (parts x))
