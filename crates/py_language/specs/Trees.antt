-- The shape of an expression, by cutting its symbols at their marks outside brackets, level by level from the loosest
-- (Language Reference, chapter 6). What has no mark of a level is cut at the next one.
use Rattle.std.specs.Prelude.{ℕ, zero, suc, List, [], ◌∷◌, Option, Some, None, if◌then◌else◌}
use Rattle.py_language.specs.declared.token.Token.{Token}
use Rattle.py_language.specs.declared.shape.Atom.TheVariants.{Name}
use Rattle.py_language.specs.declared.shape.Bracket.{Bracket}
use Rattle.py_language.specs.declared.shape.Bracket.TheVariants.{Round, Square, Brace}
use Rattle.py_language.specs.declared.shape.Symbol.{Symbol}
use Rattle.py_language.specs.declared.shape.Symbol.TheVariants as s
use Rattle.py_language.specs.declared.shape.Shape.{Shape}
use Rattle.py_language.specs.declared.shape.Shape.TheVariants as e
use Rattle.py_language.specs.TreesPlaces.{Level, Listed, Conditional, Disjunction, Conjunction, Negation, Comparison, Sum, Product, Signed, Postfix, at, below, closing, colon, front, back, pieces, last_cut, split, trimmed, is_same}
use Rattle.py_language.specs.TreesSymbols.{symbols}
use Rattle.py_language.specs.TreesNumbers.{numbered}
use Rattle.py_syntax.specs.declared.expr.Expr.{Expr}
use Rattle.py_syntax.specs.declared.operator.BinOp.{BinOp}
use Rattle.py_syntax.specs.declared.operator.BinOp.TheVariants.{Add, Sub}
use Rattle.py_syntax.specs.declared.operator.CmpOp.{CmpOp}
use Rattle.py_syntax.specs.declared.operator.CmpOp.TheVariants.{Eq}
use Rattle.py_syntax.specs.declared.operator.Sign.TheVariants.{Minus}

infixl 10 ◌>>=◌
abbrev pub ◌>>=◌ : {A B : Type 0} → Option A → (A → Option B) → Option B
(Some x) >>= f = f x
None >>= f = None

abbrev pub operator : Symbol → BinOp
operator (s.Factor op) = op
operator (s.Sign Minus) = Sub
operator _ = Add

abbrev pub comparator : Symbol → CmpOp
comparator (s.Compare op) = op
comparator _ = Eq

-- What stands in a bracket that was opened right before, if the bracket that closes it is of its kind and is the last symbol.
abbrev pub closed : Bracket → List Symbol → List Symbol → Option (List Symbol)
closed b inner (s.Close c ∷ []) = if is_same b c then Some inner else None
closed b inner _ = None

unfoldable pub inside : Bracket → List Symbol → Option (List Symbol)
inside b xs = closed b (front closing xs) (back closing xs)

abbrev pub each : {A B : Type 0} → (A → Option B) → List A → Option (List B)
each f [] = Some []
each f (x ∷ xs) = do
  first ← f x
  others ← each f xs
  Some (first ∷ others)

-- what stands between commas; a last comma may stand behind it
abbrev pub comma_list : {B : Type 0} → (List Symbol → Option B) → List Symbol → Option (List B)
comma_list f xs = each f (trimmed (split Listed xs))

-- cut in two, or whole where there is no mark
abbrev pub in_two : (List Symbol → Option Shape) → (List Symbol → Option Shape) → (Shape → Symbol → List Symbol → Option Shape) → Option (List Symbol × Symbol × List Symbol) → List Symbol → Option Shape
in_two whole left node None xs = whole xs
in_two whole left node (Some c) xs = left c.0 >>= λ l. node l c.1 c.2

-- cut at each mark, or whole where there is none
abbrev pub in_all : {B : Type 0} → (List Symbol → Option Shape) → (List Symbol → Option Shape) → (Symbol × List Symbol → Option B) → (Shape → List B → Shape) → List Symbol → List (Symbol × List Symbol) → List Symbol → Option Shape
in_all whole head piece node first [] xs = whole xs
in_all whole head piece node first (p ∷ ps) xs = do
  x ← head first
  others ← each piece (p ∷ ps)
  Some (node x others)

-- `part l xs` is the shape of a part at a level, which is one less deep
module _ (part : Level → List Symbol → Option Shape) where
  -- ---- atoms and what stands in brackets (6.2)

  -- a tuple where there is a comma
  abbrev pub tuple_or : (List Symbol → Option Shape) → List (Symbol × List Symbol) → List Symbol → Option Shape
  tuple_or whole [] xs = whole xs
  tuple_or whole (p ∷ ps) xs = comma_list (part Conditional) xs >>= λ all. Some (e.TupleLit all)

  -- in round brackets, which are a tuple's own
  abbrev pub rounded : List Symbol → Option Shape
  rounded [] = Some (e.TupleLit [])
  rounded xs = tuple_or (part Conditional) (pieces (at Listed) xs) xs

  -- an argument, with its name if it has one (6.3.4)
  abbrev pub argument : List Symbol → Option (Option (List ℕ) × Shape)
  argument (s.Atom (Name n) ∷ s.Equal ∷ xs) = part Conditional xs >>= λ x. Some (Some n, x)
  argument xs = part Conditional xs >>= λ x. Some (None, x)

  abbrev pub arguments : List Symbol → Option (List (Option (List ℕ) × Shape))
  arguments xs = comma_list argument xs

  abbrev pub entry_by : List Symbol → List Symbol → Option (Shape × Shape)
  entry_by key (s.Colon ∷ value) = do
    k ← part Conditional key
    v ← part Conditional value
    Some (k, v)
  entry_by key _ = None

  -- a key, a colon and a value
  abbrev pub entry : List Symbol → Option (Shape × Shape)
  entry xs = entry_by (front colon xs) (back colon xs)

  abbrev pub atom : List Symbol → Option Shape
  atom (s.Atom a ∷ []) = Some (e.Atom a)
  atom (s.Super n ∷ s.Open Round ∷ xs) = inside Round xs >>= λ v. arguments v >>= λ args. Some (e.Super n args)
  atom (s.Open Round ∷ xs) = inside Round xs >>= rounded
  atom (s.Open Square ∷ xs) = inside Square xs >>= λ v. comma_list (part Conditional) v >>= λ all. Some (e.ListLit all)
  atom (s.Open Brace ∷ xs) = inside Brace xs >>= λ v. comma_list entry v >>= λ all. Some (e.DictLit all)
  atom _ = None

  -- ---- primaries, at the last group (6.3)

  abbrev pub bound : List Symbol → Option (Option Shape)
  bound [] = Some None
  bound xs = part Conditional xs >>= λ x. Some (Some x)

  abbrev pub subscript_by : List Symbol → List Symbol → List Symbol → Option (Shape → Shape)
  subscript_by whole low [] = part Listed whole >>= λ i. Some (λ x. e.Index x i)
  subscript_by whole low (s.Colon ∷ high) = do
    a ← bound low
    b ← bound high
    Some (λ x. e.Slice x a b)
  subscript_by whole low _ = None

  -- an index, or the bounds of a slice on both sides of a colon
  abbrev pub subscript : List Symbol → Option (Shape → Shape)
  subscript xs = subscript_by xs (front colon xs) (back colon xs)

  -- a group behind an operand, by its first symbol and the others
  abbrev pub group : Symbol → List Symbol → Option (Shape → Shape)
  group (s.Attribute n) [] = Some (λ x. e.Attr x n)
  group (s.Method n) (s.Open Round ∷ xs) = inside Round xs >>= λ v. arguments v >>= λ args. Some (λ x. e.Method x n args)
  group (s.Open Round) xs = inside Round xs >>= λ v. arguments v >>= λ args. Some (λ x. e.Call x args)
  group (s.Open Square) xs = inside Square xs >>= subscript
  group _ _ = None

  unfoldable pub postfix : List Symbol → Option Shape
  postfix xs = in_two atom (part Postfix) (λ x g zs. group g zs >>= λ made. Some (made x)) (last_cut (at Postfix) xs) xs

  -- ---- arithmetic, at the last mark (6.6 and 6.7)

  unfoldable pub signed : List Symbol → Option Shape
  signed (s.Sign g ∷ xs) = part Signed xs >>= λ x. Some (e.Unary g x)
  signed xs = postfix xs

  abbrev pub binary : Level → Shape → Symbol → List Symbol → Option Shape
  binary l left x xs = part l xs >>= λ right. Some (e.Binary (operator x) left right)

  unfoldable pub product : List Symbol → Option Shape
  product xs = in_two signed (part Product) (binary Signed) (last_cut (at Product) xs) xs

  unfoldable pub sum : List Symbol → Option Shape
  sum xs = in_two product (part Sum) (binary Product) (last_cut (at Sum) xs) xs

  -- ---- comparisons and truth, at each mark (6.10 and 6.11)

  unfoldable pub comparison : List Symbol → Option Shape
  comparison xs = in_all sum (part Sum) (λ p. part Sum p.1 >>= λ x. Some (comparator p.0, x)) e.Compare (front (at Comparison) xs) (pieces (at Comparison) xs) xs

  unfoldable pub negation : List Symbol → Option Shape
  negation (s.Not ∷ xs) = part Negation xs >>= λ x. Some (e.Not x)
  negation xs = comparison xs

  unfoldable pub conjunction : List Symbol → Option Shape
  conjunction xs = in_all negation (part Negation) (λ p. part Negation p.1) (λ x others. e.And (x ∷ others)) (front (at Conjunction) xs) (pieces (at Conjunction) xs) xs

  unfoldable pub disjunction : List Symbol → Option Shape
  disjunction xs = in_all conjunction (part Conjunction) (λ p. part Conjunction p.1) (λ x others. e.Or (x ∷ others)) (front (at Disjunction) xs) (pieces (at Disjunction) xs) xs

  -- ---- conditionals (6.12): the first mark is an `if`, and the next one an `else`

  abbrev pub otherwise : List Symbol → List Symbol → List Symbol → Option Shape
  otherwise value test (s.Else ∷ xs) = do
    v ← part Disjunction value
    c ← part Disjunction test
    o ← part Conditional xs
    Some (e.Cond v c o)
  otherwise value test _ = None

  abbrev pub chosen : List Symbol → List Symbol → List Symbol → Option Shape
  chosen whole value [] = disjunction whole
  chosen whole value (s.If ∷ xs) = otherwise value (front (below Disjunction) xs) (back (below Disjunction) xs)
  chosen whole value _ = None

  unfoldable pub conditional : List Symbol → Option Shape
  conditional xs = chosen xs (front (below Disjunction) xs) (back (below Disjunction) xs)

  -- ---- expressions with commas between them (6.16)

  unfoldable pub listed : List Symbol → Option Shape
  listed xs = tuple_or conditional (pieces (at Listed) xs) xs

  abbrev pub at_level : Level → List Symbol → Option Shape
  at_level Listed = listed
  at_level Conditional = conditional
  at_level Disjunction = disjunction
  at_level Conjunction = conjunction
  at_level Negation = negation
  at_level Comparison = comparison
  at_level Sum = sum
  at_level Product = product
  at_level Signed = signed
  at_level Postfix = postfix

-- the shape of the symbols at a level, no deeper than the number
abbrev pub shape : ℕ → Level → List Symbol → Option Shape
shape zero l xs = None
shape (suc d) l xs = at_level (shape d) l xs

-- how deep an expression may be
abbrev pub deepest : ℕ
deepest = 50

-- the expression that a list of tokens is, at a level
unfoldable pub tree_at : Level → List Token → Option Expr
tree_at l xs = shape deepest l (symbols xs) >>= λ x. Some (numbered x 0).0

-- an expression
abbrev pub tree_of : List Token → Option Expr
tree_of xs = tree_at Conditional xs

-- an expression, or several with commas between them, which are a tuple
abbrev pub trees_of : List Token → Option Expr
trees_of xs = tree_at Listed xs
