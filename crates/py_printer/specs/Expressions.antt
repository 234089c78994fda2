-- What the parts of an expression are printed as.
use Rattle.std.specs.Prelude.{ℕ, Bool, true, false, not, ◌&&◌, List, [], ◌∷◌, ◌++◌, Option, Some, None, map, if◌then◌else◌, ◌==◌}
use Rattle.py_language.specs.declared.shape.Atom.TheVariants as a
use Rattle.py_language.specs.declared.shape.Shape.{Shape}
use Rattle.py_language.specs.declared.shape.Symbol.{Symbol}
use Rattle.py_language.specs.declared.shape.Symbol.TheVariants as s
use Rattle.py_language.specs.TreesPlaces as l
use Rattle.py_language.specs.TreesSymbols.{is_super}
use Rattle.py_syntax.specs.declared.expr.Args.{Args, out-Args, fold-Args}
use Rattle.py_syntax.specs.declared.expr.Expr.{Expr}
use Rattle.py_syntax.specs.declared.expr.ExprKind.{ExprKind, ExprKind-F, out-ExprKind, fold-ExprKind}
use Rattle.py_syntax.specs.declared.operator.BinOp.{BinOp}
use Rattle.py_syntax.specs.declared.operator.BinOp.TheVariants.{Add, Sub}
use Rattle.py_syntax.specs.declared.operator.CmpOp.{CmpOp}
use Rattle.py_printing.specs.Expressions.{Given, args_of, kind_of, unnumbered}
use Rattle.py_printing.specs.Printing as p
use Rattle.py_printing.specs.Printing.{Printed, At, printed, print}
use Rattle.py_printing.specs.SymbolTokens.{tokens}
use Rattle.py_printer.specs.declared.expressions.Separator.{Separator}
use Rattle.py_printer.specs.declared.expressions.Separator.TheVariants as separator
use Rattle.py_printer.specs.declared.pen.Pen.{Pen}
use Rattle.py_printer.specs.declared.slots.Slot.{Slot}
use Rattle.py_printer.specs.declared.slots.Slot.TheVariants as slot
use Rattle.py_printer.specs.Style.{write}

-- the shapes of a node and of arguments
abbrev pub of_kind : ExprKind → Shape
of_kind = fold-ExprKind Shape Given Shape kind_of args_of (λ f. f.kind)

abbrev pub of_args : Args → Given
of_args = fold-Args Shape Given Shape kind_of args_of (λ f. f.kind)

abbrev pub place_of : Slot → p.Slot
place_of slot.Listed = At l.Listed
place_of slot.Conditional = At l.Conditional
place_of slot.Disjunction = At l.Disjunction
place_of slot.Conjunction = At l.Conjunction
place_of slot.Negation = At l.Negation
place_of slot.Sum = At l.Sum
place_of slot.Product = At l.Product
place_of slot.Signed = At l.Signed
place_of slot.Postfix = At l.Postfix
place_of slot.Callee = p.Callee
place_of slot.Owner = p.Owner

abbrev pub slot_number : Slot → ℕ
slot_number here = l.number (p.level (place_of here))

abbrev pub operator_number : BinOp → ℕ
operator_number Add = 7
operator_number Sub = 7
operator_number _ = 8

abbrev pub own_node : ExprKind-F ExprKind Args Expr → ℕ
own_node (ExprKind-F.Cond x y z) = 2
own_node (ExprKind-F.Or xs) = 3
own_node (ExprKind-F.And xs) = 4
own_node (ExprKind-F.Not x) = 5
own_node (ExprKind-F.Compare x cs) = 6
own_node (ExprKind-F.Binary op x y) = operator_number op
own_node (ExprKind-F.Unary g x) = 9
own_node _ = 10

-- the level of a node, as a number
abbrev pub own_of : ExprKind → ℕ
own_of k = own_node (out-ExprKind k)

abbrev pub attribute_node : ExprKind-F ExprKind Args Expr → Bool
attribute_node (ExprKind-F.Attr x n) = true
attribute_node _ = false

abbrev pub is_attribute : ExprKind → Bool
is_attribute k = attribute_node (out-ExprKind k)

abbrev pub super_name_node : ExprKind-F ExprKind Args Expr → Bool
super_name_node (ExprKind-F.Name n) = is_super n
super_name_node _ = false

abbrev pub is_super_name : ExprKind → Bool
is_super_name k = super_name_node (out-ExprKind k)

abbrev pub is_empty : {X : Type 0} → List X → Bool
is_empty [] = true
is_empty (x ∷ xs) = false

abbrev pub super_call_node : ExprKind-F ExprKind Args Expr → Bool
super_call_node (ExprKind-F.Call x args) = is_super_name x.kind && (is_empty (out-Args args).plain && is_empty (out-Args args).named)
super_call_node _ = false

abbrev pub is_super_call : ExprKind → Bool
is_super_call k = super_call_node (out-ExprKind k)

-- whether a node that holds tightly enough needs no brackets in a slot
abbrev pub is_allowed : Slot → ExprKind → Bool
is_allowed slot.Callee x = not (is_attribute x)
is_allowed slot.Owner x = not (is_super_call x)
is_allowed _ x = true

-- ---- symbols

-- the symbols of a node without brackets round it
abbrev pub bare_of : ExprKind → List Symbol
bare_of k = (printed (of_kind k)).bare

abbrev pub printed_in : Slot → Expr → List Symbol
printed_in here x = print (place_of here) (unnumbered x)

abbrev pub separator_symbol : Separator → Symbol
separator_symbol separator.Comma = s.Comma
separator_symbol separator.And = s.And
separator_symbol separator.Or = s.Or

abbrev pub joint : Bool → Symbol → List Symbol
joint true m = []
joint false m = m ∷ []

-- texts with a mark before each but the first of a list
abbrev pub joined : Bool → Symbol → List (List Symbol) → List Symbol
joined first m [] = []
joined first m (t ∷ ts) = joint first m ++ (t ++ joined false m ts)

abbrev pub named_symbols : List ℕ × Expr → List Symbol
named_symbols n = s.Atom (a.Name n.0) ∷ s.Equal ∷ printed_in slot.Conditional n.1

abbrev pub entry_symbols : Expr × Expr → List Symbol
entry_symbols e = printed_in slot.Conditional e.0 ++ s.Colon ∷ printed_in slot.Conditional e.1

abbrev pub compared_symbols : List (CmpOp × Expr) → List Symbol
compared_symbols [] = []
compared_symbols (c ∷ cs) = s.Compare c.0 ∷ (printed_in slot.Sum c.1 ++ compared_symbols cs)

abbrev pub bound_symbols : Option Expr → List Symbol
bound_symbols None = []
bound_symbols (Some x) = printed_in slot.Conditional x

-- the comma of a tuple with so many parts
abbrev pub only_comma : ℕ → List Symbol
only_comma count = if count == 1 then s.Comma ∷ [] else []

abbrev pub given_of : Args → List (Option (List ℕ) × Printed)
given_of args = map (λ (p : Option (List ℕ) × Shape). let q : Option (List ℕ) × Printed = (p.0, printed p.1) in q) (of_args args)

-- operands of an operator
abbrev pub left_slot : BinOp → Slot
left_slot Add = slot.Sum
left_slot Sub = slot.Sum
left_slot _ = slot.Product

abbrev pub right_slot : BinOp → Slot
right_slot Add = slot.Product
right_slot Sub = slot.Product
right_slot _ = slot.Signed

-- a node that is no operator, and one that has no parts
abbrev pub primary_node : ExprKind-F ExprKind Args Expr → Bool
primary_node (ExprKind-F.Unary g x) = false
primary_node (ExprKind-F.Not x) = false
primary_node (ExprKind-F.Binary op x y) = false
primary_node (ExprKind-F.And xs) = false
primary_node (ExprKind-F.Or xs) = false
primary_node (ExprKind-F.Compare x cs) = false
primary_node (ExprKind-F.Cond x y z) = false
primary_node _ = true

abbrev pub is_primary : ExprKind → Bool
is_primary k = primary_node (out-ExprKind k)

abbrev pub atom_node : ExprKind-F ExprKind Args Expr → Bool
atom_node ExprKind-F.NoneLit = true
atom_node (ExprKind-F.BoolLit b) = true
atom_node (ExprKind-F.IntLit n) = true
atom_node (ExprKind-F.StrLit s) = true
atom_node (ExprKind-F.Name n) = true
atom_node _ = false

abbrev pub is_atom : ExprKind → Bool
is_atom k = atom_node (out-ExprKind k)

-- ---- the pen after symbols

unfoldable pub draw : Pen → List Symbol → Pen
draw p xs = write p (tokens xs)
