-- How the shape of an expression is printed as symbols, with brackets where the grammar needs them (Language Reference, chapter 6).
use Rattle.std.specs.Prelude.{◌≡◌, ◌⊎◌, ℕ, zero, suc, Bool, true, false, not, ◌&&◌, if◌then◌else◌, nat_le, List, [], ◌∷◌, ◌++◌, Option, Some, None, map}
use Rattle.py_language.specs.declared.shape.Atom.{Atom}
use Rattle.py_language.specs.declared.shape.Atom.TheVariants as a
use Rattle.py_language.specs.declared.shape.Bracket.{Bracket}
use Rattle.py_language.specs.declared.shape.Bracket.TheVariants.{Round, Square, Brace}
use Rattle.py_language.specs.declared.shape.Shape.{Shape, Shape-F, fold-Shape}
use Rattle.py_language.specs.declared.shape.Shape.TheVariants as e
use Rattle.py_language.specs.declared.shape.Symbol.{Symbol}
use Rattle.py_language.specs.declared.shape.Symbol.TheVariants as s
use Rattle.py_language.specs.TreesPlaces.{Level, Listed, Conditional, Disjunction, Conjunction, Negation, Comparison, Sum, Product, Signed, Postfix, number}
use Rattle.py_language.specs.TreesSymbols.{is_super}
use Rattle.py_syntax.specs.declared.operator.BinOp.{BinOp}
use Rattle.py_syntax.specs.declared.operator.BinOp.TheVariants.{Add, Sub, Mul, FloorDiv, Mod}
use Rattle.py_syntax.specs.declared.operator.CmpOp.{CmpOp}
use Rattle.py_language.specs.Trees.{operator}
use Rattle.py_syntax.specs.declared.operator.Sign.{Sign}
use Rattle.py_syntax.specs.declared.operator.Sign.TheVariants.{Minus, Plus}

-- parts with marks between them
abbrev pub chain : List Symbol → List (Symbol × List Symbol) → List Symbol
chain head [] = head
chain head (p ∷ ps) = head ++ p.0 ∷ chain p.1 ps

abbrev pub after_comma : List Symbol → Symbol × List Symbol
after_comma xs = (s.Comma, xs)

abbrev pub commas : List (List Symbol) → List Symbol
commas [] = []
commas (xs ∷ others) = chain xs (map after_comma others)

abbrev pub enclosed : Bracket → List Symbol → List Symbol
enclosed b xs = s.Open b ∷ (xs ++ s.Close b ∷ [])

-- ---- where an expression is

pub data Slot : Type 0 where
  -- where a level of the grammar is read
  At : Level → Slot
  -- before the round bracket of a call: an attribute there would be a method
  Callee : Slot
  -- before a method's dot: `super()` there would be another node
  Owner : Slot
  -- before `()` and a method's dot: the name `super` there would be another node. Nothing is printed here; it is a place of what is read
  Lone : Slot

abbrev pub level : Slot → Level
level (At l) = l
level Callee = Postfix
level Owner = Postfix
level Lone = Postfix

-- `*`, `//` and `%`
abbrev pub is_factor : BinOp → Bool
is_factor Mul = true
is_factor FloorDiv = true
is_factor Mod = true
is_factor _ = false

-- an expression's text, with what decides whether it needs brackets
pub record Printed : Type 0 where
  -- the tightest level at which it is read as it is
  pub own : Level
  pub is_attribute : Bool
  -- the name `super` alone
  pub is_name : Bool
  -- `super()`
  pub is_call : Bool
  pub bare : List Symbol

abbrev pub is_bare_in : Slot → Printed → Bool
is_bare_in (At l) p = nat_le (number l) (number p.own)
is_bare_in Callee p = nat_le (number Postfix) (number p.own) && not p.is_attribute
is_bare_in Owner p = nat_le (number Postfix) (number p.own) && not p.is_call
is_bare_in Lone p = nat_le (number Postfix) (number p.own) && (not p.is_attribute && not p.is_name)

-- the text in a slot, in brackets where they are needed
abbrev pub in_slot : Slot → Printed → List Symbol
in_slot slot p = if is_bare_in slot p then p.bare else enclosed Round p.bare

abbrev pub plain_at : Level → List Symbol → Printed
plain_at l xs = record { own = l; is_attribute = false; is_name = false; is_call = false; bare = xs }

abbrev pub one : Printed → List Symbol
one p = in_slot (At Conditional) p

-- a mark before each of several parts
abbrev pub marked : Symbol → List (List Symbol) → List (Symbol × List Symbol)
marked m [] = []
marked m (t ∷ ts) = (m, t) ∷ marked m ts

abbrev pub compared : List (CmpOp × Printed) → List (Symbol × List Symbol)
compared [] = []
compared (c ∷ cs) = (s.Compare c.0, in_slot (At Sum) c.1) ∷ compared cs

abbrev pub chained : Symbol → List (List Symbol) → List Symbol
chained m [] = []
chained m (t ∷ ts) = chain t (marked m ts)

abbrev pub argument : Option (List ℕ) × Printed → List Symbol
argument (None, p) = one p
argument (Some n, p) = s.Atom (a.Name n) ∷ s.Equal ∷ one p

abbrev pub arguments : List (Option (List ℕ) × Printed) → List Symbol
arguments ps = enclosed Round (commas (map argument ps))

abbrev pub entry : Printed × Printed → List Symbol
entry (k, v) = one k ++ s.Colon ∷ one v

-- a tuple of one has a comma
abbrev pub tuple : List (List Symbol) → List Symbol
tuple [] = []
tuple (t ∷ []) = t ++ s.Comma ∷ []
tuple (t ∷ u ∷ us) = commas (t ∷ u ∷ us)

abbrev pub bound : Option Printed → List Symbol
bound None = []
bound (Some p) = one p

abbrev pub is_super_name : Atom → Bool
is_super_name (a.Name n) = is_super n
is_super_name _ = false

abbrev pub is_none_of : List (Option (List ℕ) × Printed) → Bool
is_none_of [] = true
is_none_of (p ∷ ps) = false

abbrev pub binary : BinOp → Printed → Printed → Printed
binary Add p q = plain_at Sum (in_slot (At Sum) p ++ s.Sign Plus ∷ in_slot (At Product) q)
binary Sub p q = plain_at Sum (in_slot (At Sum) p ++ s.Sign Minus ∷ in_slot (At Product) q)
binary op p q = plain_at Product (in_slot (At Product) p ++ s.Factor op ∷ in_slot (At Signed) q)

abbrev pub print_node : Shape-F Printed → Printed
print_node (Shape-F.Atom x) = record { own = Postfix; is_attribute = false; is_name = is_super_name x; is_call = false; bare = s.Atom x ∷ [] }
print_node (Shape-F.ListLit ps) = plain_at Postfix (enclosed Square (commas (map one ps)))
print_node (Shape-F.TupleLit ps) = plain_at Postfix (enclosed Round (tuple (map one ps)))
print_node (Shape-F.DictLit ps) = plain_at Postfix (enclosed Brace (commas (map entry ps)))
print_node (Shape-F.Attr p n) = record { own = Postfix; is_attribute = true; is_name = false; is_call = false; bare = in_slot (At Postfix) p ++ s.Attribute n ∷ [] }
print_node (Shape-F.Index p i) = plain_at Postfix (in_slot (At Postfix) p ++ enclosed Square (in_slot (At Listed) i))
print_node (Shape-F.Slice p low high) = plain_at Postfix (in_slot (At Postfix) p ++ enclosed Square (bound low ++ s.Colon ∷ bound high))
print_node (Shape-F.Call p ps) = record { own = Postfix; is_attribute = false; is_name = false; is_call = p.is_name && is_none_of ps; bare = in_slot Callee p ++ arguments ps }
print_node (Shape-F.Method p n ps) = plain_at Postfix (in_slot Owner p ++ s.Method n ∷ arguments ps)
print_node (Shape-F.Super n ps) = plain_at Postfix (s.Super n ∷ arguments ps)
print_node (Shape-F.Unary g p) = plain_at Signed (s.Sign g ∷ in_slot (At Signed) p)
print_node (Shape-F.Not p) = plain_at Negation (s.Not ∷ in_slot (At Negation) p)
print_node (Shape-F.Binary op p q) = binary op p q
print_node (Shape-F.And ps) = plain_at Conjunction (chained s.And (map (in_slot (At Negation)) ps))
print_node (Shape-F.Or ps) = plain_at Disjunction (chained s.Or (map (in_slot (At Conjunction)) ps))
print_node (Shape-F.Compare p ps) = plain_at Comparison (chain (in_slot (At Sum) p) (compared ps))
print_node (Shape-F.Cond p q r) = plain_at Conditional (in_slot (At Disjunction) p ++ s.If ∷ (in_slot (At Disjunction) q ++ s.Else ∷ in_slot (At Conditional) r))

unfoldable pub printed : Shape → Printed
printed = fold-Shape Printed print_node

abbrev pub print : Slot → Shape → List Symbol
print slot x = in_slot slot (printed x)

-- ---- what can be read: how deep, and where

abbrev pub Each : {X : Type 0} → (X → Type 0) → List X → Type 0
Each P [] = Unit {0}
Each P (x ∷ xs) = P x × Each P xs

abbrev pub IfThere : (Shape → Type 0) → Option Shape → Type 0
IfThere P None = Unit {0}
IfThere P (Some x) = P x

-- the forms of a node whose parts are P in their slots: `and`, `or` and comparisons have two operands or more
pub data Form (P : Slot → Shape → Type 0) (x : Shape) : Type 0 where
  of_atom : (v : Atom) → x ≡ e.Atom v → Form P x
  of_list : (xs : List Shape) → x ≡ e.ListLit xs → Each (P (At Conditional)) xs → Form P x
  of_tuple : (xs : List Shape) → x ≡ e.TupleLit xs → Each (P (At Conditional)) xs → Form P x
  of_dict : (xs : List (Shape × Shape)) → x ≡ e.DictLit xs → Each (λ (p : Shape × Shape). P (At Conditional) p.0 × P (At Conditional) p.1) xs → Form P x
  of_attr : (y : Shape) (n : List ℕ) → x ≡ e.Attr y n → P (At Postfix) y → Form P x
  of_index : (y i : Shape) → x ≡ e.Index y i → P (At Postfix) y → P (At Listed) i → Form P x
  of_slice : (y : Shape) (low high : Option Shape) → x ≡ e.Slice y low high → P (At Postfix) y → IfThere (P (At Conditional)) low → IfThere (P (At Conditional)) high → Form P x
  of_call : (y : Shape) (xs : List (Option (List ℕ) × Shape)) → x ≡ e.Call y xs → P Callee y → Each (λ (p : Option (List ℕ) × Shape). P (At Conditional) p.1) xs → Form P x
  of_method : (y : Shape) (n : List ℕ) (xs : List (Option (List ℕ) × Shape)) → x ≡ e.Method y n xs → P Owner y → Each (λ (p : Option (List ℕ) × Shape). P (At Conditional) p.1) xs → Form P x
  of_super : (n : List ℕ) (xs : List (Option (List ℕ) × Shape)) → x ≡ e.Super n xs → Each (λ (p : Option (List ℕ) × Shape). P (At Conditional) p.1) xs → Form P x
  of_unary : (g : Sign) (y : Shape) → x ≡ e.Unary g y → P (At Signed) y → Form P x
  of_not : (y : Shape) → x ≡ e.Not y → P (At Negation) y → Form P x
  of_sum : (g : Sign) (y z : Shape) → x ≡ e.Binary (operator (s.Sign g)) y z → P (At Sum) y → P (At Product) z → Form P x
  of_product : (op : BinOp) (y z : Shape) → is_factor op ≡ true → x ≡ e.Binary op y z → P (At Product) y → P (At Signed) z → Form P x
  of_and : (y z : Shape) (xs : List Shape) → x ≡ e.And (y ∷ z ∷ xs) → Each (P (At Negation)) (y ∷ z ∷ xs) → Form P x
  of_or : (y z : Shape) (xs : List Shape) → x ≡ e.Or (y ∷ z ∷ xs) → Each (P (At Conjunction)) (y ∷ z ∷ xs) → Form P x
  of_compare : (y : Shape) (c : CmpOp × Shape) (cs : List (CmpOp × Shape)) → x ≡ e.Compare y (c ∷ cs) → P (At Sum) y → Each (λ (c : CmpOp × Shape). P (At Sum) c.1) (c ∷ cs) → Form P x
  of_cond : (y z w : Shape) → x ≡ e.Cond y z w → P (At Disjunction) y → P (At Disjunction) z → P (At Conditional) w → Form P x

-- a node in the slot as it is, or one in brackets, which is one deeper
abbrev pub Node : (Slot → Shape → Type 0) → Slot → Shape → Type 0
Node P slot x = ((is_bare_in slot (printed x) ≡ true) × Form P x) ⊎ P (At Conditional) x

-- what is read in a slot, no deeper than the number
abbrev pub Fits : ℕ → Slot → Shape → Type 0
Fits zero slot x = ⊥
Fits (suc d) slot x = Node (Fits d) slot x
