-- What decides whether an expression needs brackets, by its kind.
use Rattle.std.proofs.Common.{◌≡◌, ◌∙◌, refl, sym, ap, ap₂, ℕ, Bool, true, false, ◌&&◌, not, map}
use Rattle.std.specs.Prelude.{Some, None, nat_le}
use Rattle.py_language.specs.declared.shape.Atom.TheVariants as a
use Rattle.py_language.specs.declared.shape.Shape.{Shape}
use Rattle.py_language.specs.TreesPlaces.{number}
use Rattle.py_syntax.specs.declared.expr.Args.{Args}
use Rattle.py_syntax.specs.declared.expr.Expr.{Expr}
use Rattle.py_syntax.specs.declared.expr.ExprKind.{ExprKind, ExprKind-F, out-ExprKind}
use Rattle.py_syntax.specs.declared.operator.BinOp.{BinOp}
use Rattle.py_syntax.specs.declared.operator.BinOp.TheVariants.{Add, Sub, Mul, FloorDiv, Mod}
use Rattle.py_syntax.specs.declared.operator.CmpOp.{CmpOp}
use Rattle.py_printing.specs.Expressions.{unnumbered}
use Rattle.py_printing.specs.Printing.{Printed, binary, is_bare_in, printed}
use Rattle.py_printer.specs.declared.slots.Slot.{Slot}
use Rattle.py_printer.specs.declared.slots.Slot.TheVariants as slot
use Rattle.py_printer.specs.Expressions.{of_kind, of_args, place_of, slot_number, operator_number, own_node, own_of, attribute_node, is_attribute, super_name_node, is_super_name, super_call_node, is_super_call, is_allowed}
use Rattle.py_printer.proofs.Parts.{none_given}
use Rattle.py_printer.proofs.Unnumbering.{expr_is, layer, kind_is}
use Rattle.py_printer.proofs.Unrolled.{printed-Atom, printed-ListLit, printed-TupleLit, printed-DictLit, printed-Attr, printed-Index, printed-Slice, printed-Call, printed-Method, printed-Super, printed-Unary, printed-Not, printed-Binary, printed-And, printed-Or, printed-Compare, printed-Cond}

record Look : Type 0 where
  own : ℕ
  attribute : Bool
  name : Bool
  call : Bool

abbrev look : Printed → Look
look p = record { own = number p.own; attribute = p.is_attribute; name = p.is_name; call = p.is_call }

abbrev plain_look : ExprKind-F ExprKind Args Expr → Look
plain_look f = record { own = own_node f; attribute = attribute_node f; name = super_name_node f; call = false }

operator_look : (op : BinOp) (q r : Printed) → look (binary op q r) ≡ record { own = operator_number op; attribute = false; name = false; call = false }
operator_look Add q r = refl
operator_look Sub q r = refl
operator_look Mul q r = refl
operator_look FloorDiv q r = refl
operator_look Mod q r = refl

-- but for calls
abbrev call_by : ExprKind-F ExprKind Args Expr → Printed → Bool
call_by (ExprKind-F.Call x args) p = p.is_call
call_by _ p = false

layer_look : (f : ExprKind-F ExprKind Args Expr) → look (printed (layer f)) ≡ record { own = own_node f; attribute = attribute_node f; name = super_name_node f; call = call_by f (printed (layer f)) }
layer_look ExprKind-F.NoneLit = ap look (printed-Atom a.NoneLit)
layer_look (ExprKind-F.BoolLit b) = ap look (printed-Atom (a.BoolLit b))
layer_look (ExprKind-F.IntLit n) = ap look (printed-Atom (a.IntLit n))
layer_look (ExprKind-F.StrLit x) = ap look (printed-Atom (a.StrLit x))
layer_look (ExprKind-F.Name n) = ap look (printed-Atom (a.Name n))
layer_look (ExprKind-F.ListLit xs) = ap look (printed-ListLit (map unnumbered xs))
layer_look (ExprKind-F.TupleLit xs) = ap look (printed-TupleLit (map unnumbered xs))
layer_look (ExprKind-F.DictLit xs) = ap look (printed-DictLit (map (λ (q : Expr × Expr). let r : Shape × Shape = (unnumbered q.0, unnumbered q.1) in r) xs))
layer_look (ExprKind-F.Attr x n) = ap look (printed-Attr (unnumbered x) n)
layer_look (ExprKind-F.Index x i) = ap look (printed-Index (unnumbered x) (unnumbered i))
layer_look (ExprKind-F.Method x n args) = ap look (printed-Method (unnumbered x) n (of_args args))
layer_look (ExprKind-F.Super n args) = ap look (printed-Super n (of_args args))
layer_look (ExprKind-F.Unary g x) = ap look (printed-Unary g (unnumbered x))
layer_look (ExprKind-F.Not x) = ap look (printed-Not (unnumbered x))
layer_look (ExprKind-F.And xs) = ap look (printed-And (map unnumbered xs))
layer_look (ExprKind-F.Or xs) = ap look (printed-Or (map unnumbered xs))
layer_look (ExprKind-F.Compare x cs) = ap look (printed-Compare (unnumbered x) (map (λ (c : CmpOp × Expr). let r : CmpOp × Shape = (c.0, unnumbered c.1) in r) cs))
layer_look (ExprKind-F.Cond x y z) = ap look (printed-Cond (unnumbered x) (unnumbered y) (unnumbered z))
layer_look (ExprKind-F.Binary op x y) = ap look (printed-Binary op (unnumbered x) (unnumbered y)) ∙ operator_look op (printed (unnumbered x)) (printed (unnumbered y))
layer_look (ExprKind-F.Slice x None None) = ap look (printed-Slice (unnumbered x) None None)
layer_look (ExprKind-F.Slice x None (Some v)) = ap look (printed-Slice (unnumbered x) None (Some (unnumbered v)))
layer_look (ExprKind-F.Slice x (Some u) None) = ap look (printed-Slice (unnumbered x) (Some (unnumbered u)) None)
layer_look (ExprKind-F.Slice x (Some u) (Some v)) = ap look (printed-Slice (unnumbered x) (Some (unnumbered u)) (Some (unnumbered v)))
layer_look (ExprKind-F.Call x args) =
    let e = printed-Call (unnumbered x) (of_args args) in
    ap (λ p. let q : Look = record { own = number p.own; attribute = p.is_attribute; name = p.is_name; call = (printed (layer (ExprKind-F.Call x args))).is_call } in q) e

kind_look : (x : ExprKind) → look (printed (of_kind x)) ≡ look (printed (layer (out-ExprKind x)))
kind_look x = ap (λ y. look (printed y)) (kind_is x)

pub own_is : (x : ExprKind) → number (printed (of_kind x)).own ≡ own_of x
own_is x = ap (λ l. l.own) (kind_look x ∙ layer_look (out-ExprKind x))

pub attribute_is : (x : ExprKind) → (printed (of_kind x)).is_attribute ≡ is_attribute x
attribute_is x = ap (λ l. l.attribute) (kind_look x ∙ layer_look (out-ExprKind x))

pub name_is : (x : ExprKind) → (printed (of_kind x)).is_name ≡ is_super_name x
name_is x = ap (λ l. l.name) (kind_look x ∙ layer_look (out-ExprKind x))

layer_call : (f : ExprKind-F ExprKind Args Expr) → call_by f (printed (layer f)) ≡ super_call_node f
layer_call (ExprKind-F.Call x args) =
    ap (λ p. p.is_call) (printed-Call (unnumbered x) (of_args args))
    ∙ ap₂ (λ v w. v && w) (ap (λ y. (printed y).is_name) (expr_is x) ∙ name_is x.kind) (none_given args)
layer_call _ = refl

pub call_is : (x : ExprKind) → (printed (of_kind x)).is_call ≡ is_super_call x
call_is x = ap (λ l. l.call) (kind_look x ∙ layer_look (out-ExprKind x)) ∙ layer_call (out-ExprKind x)

and_true : (v : Bool) → (v && true) ≡ v
and_true true = refl
and_true false = refl

bare_by : (here : Slot) (x : ExprKind) (p : Printed) → number p.own ≡ own_of x → p.is_attribute ≡ is_attribute x → p.is_call ≡ is_super_call x
    → is_bare_in (place_of here) p ≡ (nat_le (slot_number here) (own_of x) && is_allowed here x)
bare_by slot.Listed x p o g c = rw o (sym (and_true (nat_le 1 (own_of x))))
bare_by slot.Conditional x p o g c = rw o (sym (and_true (nat_le 2 (own_of x))))
bare_by slot.Disjunction x p o g c = rw o (sym (and_true (nat_le 3 (own_of x))))
bare_by slot.Conjunction x p o g c = rw o (sym (and_true (nat_le 4 (own_of x))))
bare_by slot.Negation x p o g c = rw o (sym (and_true (nat_le 5 (own_of x))))
bare_by slot.Sum x p o g c = rw o (sym (and_true (nat_le 7 (own_of x))))
bare_by slot.Product x p o g c = rw o (sym (and_true (nat_le 8 (own_of x))))
bare_by slot.Signed x p o g c = rw o (sym (and_true (nat_le 9 (own_of x))))
bare_by slot.Postfix x p o g c = rw o (sym (and_true (nat_le 10 (own_of x))))
bare_by slot.Callee x p o g c = ap₂ (λ n v. nat_le 10 n && not v) o g
bare_by slot.Owner x p o g c = ap₂ (λ n v. nat_le 10 n && not v) o c

pub bare_is : (here : Slot) (x : ExprKind) → is_bare_in (place_of here) (printed (of_kind x)) ≡ (nat_le (slot_number here) (own_of x) && is_allowed here x)
bare_is here x = bare_by here x (printed (of_kind x)) (own_is x) (attribute_is x) (call_is x)
