-- The first token of a printed expression, form by form.
use Rattle.std.proofs.Common.{◌≡◌, ◌∙◌, sym, ap, refl, subst, ℕ, zero, suc, Bool, true, false, List, [], ◌∷◌, ◌++◌, inl, inr}
use Rattle.std.specs.Prelude.{if◌then◌else◌, map}
use Rattle.py_language.specs.declared.token.Token.{Token}
use Rattle.py_language.specs.declared.shape.Atom.{Atom}
use Rattle.py_language.specs.declared.shape.Atom.TheVariants as a
use Rattle.py_language.specs.declared.shape.Bracket.{Bracket}
use Rattle.py_language.specs.declared.shape.Bracket.TheVariants.{Round, Square, Brace}
use Rattle.py_language.specs.declared.shape.Shape.{Shape}
use Rattle.py_language.specs.declared.shape.Shape.TheVariants as e
use Rattle.py_language.specs.declared.shape.Shape.TheVariants.{outs-Atom, outs-ListLit, outs-TupleLit, outs-DictLit, outs-Attr, outs-Index, outs-Slice, outs-Call, outs-Method, outs-Super, outs-Unary, outs-Not, outs-Binary, outs-And, outs-Or, outs-Compare, outs-Cond}
use Rattle.py_language.specs.declared.shape.Symbol.{Symbol}
use Rattle.py_language.specs.declared.shape.Symbol.TheVariants as s
use Rattle.py_language.specs.TreesPlaces.{Conditional, Disjunction, Conjunction, Negation, Sum, Product, Postfix}
use Rattle.py_language.specs.Trees.{deepest, operator}
use Rattle.py_syntax.specs.declared.operator.BinOp.{BinOp}
use Rattle.py_syntax.specs.declared.operator.BinOp.TheVariants.{Add, Sub, Mul, FloorDiv, Mod}
use Rattle.py_syntax.specs.declared.operator.CmpOp.{CmpOp}
use Rattle.py_syntax.specs.declared.operator.Sign.{Sign}
use Rattle.py_syntax.specs.declared.operator.Sign.TheVariants.{Minus, Plus}
use Rattle.py_printing.specs.Expressions.{expr_tokens, unnumbered, ShapesReadBack}
use Rattle.py_printing.specs.ShapeLaws.{OnlyFittingAreRead}
use Rattle.py_printing.specs.Printing as p
use Rattle.py_printing.specs.Printing.{chain, after_comma, commas, enclosed, Slot, At, Callee, Owner, Printed, is_bare_in, in_slot, is_factor, one, marked, argument, arguments, entry, tuple, bound, binary, printed, print, print_node, Each, IfThere, Form, of_atom, of_list, of_tuple, of_dict, of_attr, of_index, of_slice, of_call, of_method, of_super, of_unary, of_not, of_sum, of_product, of_and, of_or, of_compare, of_cond, Fits}
use Rattle.py_printing.specs.SymbolTokens.{tokens, tokens_in}
use Rattle.py_layout.specs.Starts.{is_start, Begins, ExpressionsBegin}
use Rattle.py_layout.proofs.Quiet.{tokens-append, printed_by, printed-out, printed-slice}

abbrev SymBegins : List Symbol → Type 0
SymBegins xs = Begins (tokens xs)

-- a first part begins the whole
join : (xs ys : List Symbol) → SymBegins xs → SymBegins (xs ++ ys)
join xs ys b = record { first = b.first; rest = b.rest ++ tokens ys; whole = tokens-append xs ys ∙ ap (λ z. z ++ tokens ys) b.whole; starts = b.starts }

starting : (x : Token) (rest : List Token) → is_start x ≡ true → Begins (x ∷ rest)
starting x rest e = record { first = x; rest = rest; whole = refl; starts = e }

atom_begins : (v : Atom) (rest : List Token) → Begins (tokens_in (s.Atom v) ++ rest)
atom_begins a.NoneLit rest = starting _ rest refl
atom_begins (a.BoolLit true) rest = starting _ rest refl
atom_begins (a.BoolLit false) rest = starting _ rest refl
atom_begins (a.IntLit n) rest = starting _ rest refl
atom_begins (a.StrLit x) rest = starting _ rest refl
atom_begins (a.Name n) rest = starting _ rest refl

sign_begins : (g : Sign) (rest : List Token) → Begins (tokens_in (s.Sign g) ++ rest)
sign_begins Minus rest = starting _ rest refl
sign_begins Plus rest = starting _ rest refl

open_begins : (b : Bracket) (xs : List Symbol) → SymBegins (enclosed b xs)
open_begins Round xs = starting _ _ refl
open_begins Square xs = starting _ _ refl
open_begins Brace xs = starting _ _ refl

link : (xs : List Symbol) (qs : List (Symbol × List Symbol)) → SymBegins xs → SymBegins (chain xs qs)
link xs [] b = b
link xs (q ∷ qs) b = join xs (q.0 ∷ chain q.1 qs) b

-- ---- nodes, by their parts

module _ (P : Slot → Shape → Type 0) (ih : (slot : Slot) (x : Shape) → P slot x → SymBegins (print slot x)) where
  abbrev Bare : Shape → Type 0
  Bare x = SymBegins (printed x).bare

  moved : (x y : Shape) (p : Printed) → x ≡ y → printed y ≡ p → SymBegins p.bare → Bare x
  moved x y p is eq h = subst (λ (q : Printed). SymBegins q.bare) (sym (ap printed is ∙ eq)) h

  binary_begins : (op : BinOp) (y z : Shape) → (is_factor op ≡ true → P (At Product) y) → (is_factor op ≡ false → P (At Sum) y) → SymBegins (binary op (printed y) (printed z)).bare
  binary_begins Add y z f g = join (print (At Sum) y) _ (ih (At Sum) y (g refl))
  binary_begins Sub y z f g = join (print (At Sum) y) _ (ih (At Sum) y (g refl))
  binary_begins Mul y z f g = join (print (At Product) y) _ (ih (At Product) y (f refl))
  binary_begins FloorDiv y z f g = join (print (At Product) y) _ (ih (At Product) y (f refl))
  binary_begins Mod y z f g = join (print (At Product) y) _ (ih (At Product) y (f refl))

  sum_factor : (g : Sign) → is_factor (operator (s.Sign g)) ≡ false
  sum_factor Plus = refl
  sum_factor Minus = refl

  form_begins : (x : Shape) → Form P x → Bare x
  form_begins x (of_atom v is) = moved x _ _ is (printed-out (e.Atom v) ∙ ap printed_by (outs-Atom v)) (atom_begins v [])
  form_begins x (of_list xs is h) = moved x _ _ is (printed-out (e.ListLit xs) ∙ ap printed_by (outs-ListLit xs)) (open_begins Square (commas (map one (map printed xs))))
  form_begins x (of_tuple xs is h) = moved x _ _ is (printed-out (e.TupleLit xs) ∙ ap printed_by (outs-TupleLit xs)) (open_begins Round (tuple (map one (map printed xs))))
  form_begins x (of_dict xs is h) = moved x _ _ is (printed-out (e.DictLit xs) ∙ ap printed_by (outs-DictLit xs)) (open_begins Brace (commas (map entry (map (λ (p : Shape × Shape). (printed p.0, printed p.1)) xs))))
  form_begins x (of_attr y name is h) = moved x _ _ is (printed-out (e.Attr y name) ∙ ap printed_by (outs-Attr y name)) (join (print (At Postfix) y) _ (ih (At Postfix) y h))
  form_begins x (of_index y i is h k) = moved x _ _ is (printed-out (e.Index y i) ∙ ap printed_by (outs-Index y i)) (join (print (At Postfix) y) _ (ih (At Postfix) y h))
  form_begins x (of_slice y low high is h k l) = moved x _ _ is (printed-slice y low high) (join (print (At Postfix) y) _ (ih (At Postfix) y h))
  form_begins x (of_call y xs is h k) = moved x _ _ is (printed-out (e.Call y xs) ∙ ap printed_by (outs-Call y xs)) (join (print Callee y) _ (ih Callee y h))
  form_begins x (of_method y name xs is h k) = moved x _ _ is (printed-out (e.Method y name xs) ∙ ap printed_by (outs-Method y name xs)) (join (print Owner y) _ (ih Owner y h))
  form_begins x (of_super name xs is k) = moved x _ _ is (printed-out (e.Super name xs) ∙ ap printed_by (outs-Super name xs)) (starting _ _ refl)
  form_begins x (of_unary g y is h) = moved x _ _ is (printed-out (e.Unary g y) ∙ ap printed_by (outs-Unary g y)) (sign_begins g _)
  form_begins x (of_not y is h) = moved x _ _ is (printed-out (e.Not y) ∙ ap printed_by (outs-Not y)) (starting _ _ refl)
  form_begins x (of_sum g y z is h k) = moved x _ _ is (printed-out (e.Binary (operator (s.Sign g)) y z) ∙ ap printed_by (outs-Binary (operator (s.Sign g)) y z)) (binary_begins (operator (s.Sign g)) y z (λ f. absurd (let wrong : true ≡ false = sym f ∙ sum_factor g in cc)) (λ f. h))
  form_begins x (of_product op y z f is h k) = moved x _ _ is (printed-out (e.Binary op y z) ∙ ap printed_by (outs-Binary op y z)) (binary_begins op y z (λ g. h) (λ g. absurd (let wrong : true ≡ false = sym f ∙ g in cc)))
  form_begins x (of_and y z xs is h) = moved x _ _ is (printed-out (e.And (y ∷ z ∷ xs)) ∙ ap printed_by (outs-And (y ∷ z ∷ xs))) (link (print (At Negation) y) (marked s.And (map (in_slot (At Negation)) (map printed (z ∷ xs)))) (ih (At Negation) y h.0))
  form_begins x (of_or y z xs is h) = moved x _ _ is (printed-out (e.Or (y ∷ z ∷ xs)) ∙ ap printed_by (outs-Or (y ∷ z ∷ xs))) (link (print (At Conjunction) y) (marked s.Or (map (in_slot (At Conjunction)) (map printed (z ∷ xs)))) (ih (At Conjunction) y h.0))
  form_begins x (of_compare y c cs is h k) = moved x _ _ is (printed-out (e.Compare y (c ∷ cs)) ∙ ap printed_by (outs-Compare y (c ∷ cs))) (link (print (At Sum) y) (p.compared (map (λ (c : CmpOp × Shape). (c.0, printed c.1)) (c ∷ cs))) (ih (At Sum) y h))
  form_begins x (of_cond y z w is h k l) = moved x _ _ is (printed-out (e.Cond y z w) ∙ ap printed_by (outs-Cond y z w)) (join (print (At Disjunction) y) _ (ih (At Disjunction) y h))

-- ---- in a slot, with brackets where they are put

slot_begins : (v : Bool) (xs : List Symbol) → SymBegins xs → SymBegins (if v then xs else enclosed Round xs)
slot_begins true xs b = b
slot_begins false xs b = open_begins Round xs

bare_begins : (d : ℕ) (slot : Slot) (x : Shape) → Fits d slot x → SymBegins (printed x).bare
bare_begins zero slot x h = absurd h
bare_begins (suc d) slot x (inl h) = form_begins (Fits d) (λ s y k. slot_begins (is_bare_in s (printed y)) (printed y).bare (bare_begins d s y k)) x h.1
bare_begins (suc d) slot x (inr h) = bare_begins d (At Conditional) x h

pub expressions_begin : OnlyFittingAreRead → ShapesReadBack → ExpressionsBegin
expressions_begin fits back l ts x h =
    slot_begins (is_bare_in (At l) (printed (unnumbered x))) (printed (unnumbered x)).bare (bare_begins deepest (At l) (unnumbered x) (fits deepest l (expr_tokens l x) (unnumbered x) (back l ts x h)))
