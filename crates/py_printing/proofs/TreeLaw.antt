-- Only what fits is read, and so whatever is read is read back from its text.
use Rattle.std.proofs.Common.{◌≡◌, ◌∙◌, sym, ap, refl, subst, ℕ, zero, suc, Bool, true, false, not, ◌&&◌, List, [], ◌∷◌, ◌++◌, Some, inl, inr, append-nil}
use Rattle.std.specs.Prelude.{nat_le}
use Rattle.py_language.specs.declared.token.Token.{Token}
use Rattle.py_language.specs.declared.shape.Bracket.TheVariants.{Round}
use Rattle.py_language.specs.declared.shape.Shape.{Shape}
use Rattle.py_language.specs.declared.shape.Shape.TheVariants as e
use Rattle.py_language.specs.declared.shape.Symbol.{Symbol}
use Rattle.py_language.specs.declared.shape.Symbol.TheVariants as s
use Rattle.py_language.specs.TreesPlaces.{Level, Conditional, Postfix, number}
use Rattle.py_language.specs.TreesSymbols.{symbols}
use Rattle.py_language.specs.Trees.{shape, operator}
use Rattle.py_syntax.specs.declared.operator.BinOp.{BinOp}
use Rattle.py_syntax.specs.declared.operator.BinOp.TheVariants.{Add, Sub, Mul, FloorDiv, Mod}
use Rattle.py_printing.specs.Printing.{Slot, At, Callee, Owner, Lone, level, Printed, is_bare_in, binary, printed, print, Form, of_atom, of_list, of_tuple, of_dict, of_attr, of_index, of_slice, of_call, of_method, of_super, of_unary, of_not, of_sum, of_product, of_and, of_or, of_compare, of_cond, Fits}
use Rattle.py_printing.specs.SymbolTokens.{tokens}
use Rattle.py_printing.proofs.Unrolled.{printed-Atom, printed-ListLit, printed-TupleLit, printed-DictLit, printed-Attr, printed-Index, printed-Slice, printed-Call, printed-Method, printed-Super, printed-Unary, printed-Not, printed-Binary, printed-And, printed-Or, printed-Compare, printed-Cond}
use Rattle.py_printing.proofs.StructureLaw.{read_back}
use Rattle.py_printing.proofs.SymbolLaw.{symbols_back}
use Rattle.py_printing.proofs.Neatness.{form_of, print_apart}
use Rattle.py_printing.proofs.Wholes.{Whole, whole_front, symbols_whole}
use Rattle.py_printing.proofs.Unwrapping.{Follows}
use Rattle.py_printing.proofs.Inversion.{postfix_inv, level_inv}

-- ---- a name before a call

and_both : (v w : Bool) → (v && w) ≡ true → (v ≡ true) × (w ≡ true)
and_both true w e = (refl, e)
and_both false w e = absurd (cc)

no_name : (x y : Shape) (p : Printed) → x ≡ y → printed y ≡ p → p.is_name ≡ false → (printed x).is_name ≡ true → is_bare_in Callee (printed x) ≡ true
no_name x y p is eq f n = let wrong : false ≡ true = sym f ∙ ap (λ (q : Printed). q.is_name) (sym (ap printed is ∙ eq)) ∙ n in absurd (cc)

binary_name : (op : BinOp) (p q : Printed) → (binary op p q).is_name ≡ false
binary_name Add p q = refl
binary_name Sub p q = refl
binary_name Mul p q = refl
binary_name FloorDiv p q = refl
binary_name Mod p q = refl

name_stands : (P : Slot → Shape → Type 0) (x : Shape) → Form P x → (printed x).is_name ≡ true → is_bare_in Callee (printed x) ≡ true
name_stands P x (of_atom v is) n = ap (is_bare_in Callee) (ap printed is ∙ printed-Atom v)
name_stands P x (of_list xs is h) n = no_name x _ _ is (printed-ListLit xs) refl n
name_stands P x (of_tuple xs is h) n = no_name x _ _ is (printed-TupleLit xs) refl n
name_stands P x (of_dict xs is h) n = no_name x _ _ is (printed-DictLit xs) refl n
name_stands P x (of_attr y m is h) n = no_name x _ _ is (printed-Attr y m) refl n
name_stands P x (of_index y i is h k) n = no_name x _ _ is (printed-Index y i) refl n
name_stands P x (of_slice y low high is h k l) n = no_name x _ _ is (printed-Slice y low high) refl n
name_stands P x (of_call y xs is h k) n = no_name x _ _ is (printed-Call y xs) refl n
name_stands P x (of_method y m xs is h k) n = no_name x _ _ is (printed-Method y m xs) refl n
name_stands P x (of_super m xs is k) n = no_name x _ _ is (printed-Super m xs) refl n
name_stands P x (of_unary g y is h) n = no_name x _ _ is (printed-Unary g y) refl n
name_stands P x (of_not y is h) n = no_name x _ _ is (printed-Not y) refl n
name_stands P x (of_sum g y z is h k) n = no_name x _ _ is (printed-Binary (operator (s.Sign g)) y z) (binary_name (operator (s.Sign g)) (printed y) (printed z)) n
name_stands P x (of_product op y z f is h k) n = no_name x _ _ is (printed-Binary op y z) (binary_name op (printed y) (printed z)) n
name_stands P x (of_and y z xs is h) n = no_name x _ _ is (printed-And (y ∷ z ∷ xs)) refl n
name_stands P x (of_or y z xs is h) n = no_name x _ _ is (printed-Or (y ∷ z ∷ xs)) refl n
name_stands P x (of_compare y c cs is h k) n = no_name x _ _ is (printed-Compare y (c ∷ cs)) refl n
name_stands P x (of_cond y z w is h k l) n = no_name x _ _ is (printed-Cond y z w) refl n

-- `super()` in brackets fits where its name stood in brackets
super_fits : (d : ℕ) (y : Shape) → Fits d Lone y → (printed y).is_name ≡ true → Fits d (At Conditional) (e.Call y [])
super_fits zero y h n = absurd h
super_fits (suc d) y (inl h) n = absurd (never (printed y).is_name (nat_le 10 (number (printed y).own)) (not (printed y).is_attribute) n h.0)
  where
    never : (m a b : Bool) → m ≡ true → (a && (b && not m)) ≡ true → ⊥
    never true true true e f = cc
    never true true false e f = cc
    never true false b e f = cc
    never false a b e f = cc
super_fits (suc zero) y (inr h) n = absurd h
super_fits (suc (suc d)) y (inr h) n =
    let form = form_of d (At Conditional) y h in
    let callee : Fits (suc d) Callee y = inl (name_stands (Fits d) y form n, form) in
    inl (ap (is_bare_in (At Conditional)) (printed-Call y []), of_call y [] refl callee tt)

abbrev OnlyFits : ℕ → Type 0
OnlyFits d = (slot : Slot) (xs rest : List Symbol) (x : Shape) → Follows slot rest → Whole (xs ++ rest) → shape d (level slot) xs ≡ Some x → Fits d slot x

module _ (d : ℕ) (ih : OnlyFits d) where
  H : (l : Level) (xs : List Symbol) (x : Shape) → Whole xs → shape d l xs ≡ Some x → Fits d (At l) x
  H l xs x w h = ih (At l) xs [] x tt (subst Whole (sym (append-nil xs)) w) h

  HP : (slot : Slot) (xs rest : List Symbol) (x : Shape) → level slot ≡ Postfix → Follows slot rest → Whole (xs ++ rest) → shape d Postfix xs ≡ Some x → Fits d slot x
  HP slot xs rest x e f w h = ih slot xs rest x f w (ap (λ (l : Level). shape d l xs) e ∙ h)

  HS : (ys gs : List Symbol) (n : List ℕ) (y : Shape) → Whole (ys ++ s.Open Round ∷ s.Close Round ∷ s.Method n ∷ gs) → shape d Postfix ys ≡ Some y → (printed y).is_name ≡ true → Fits d (At Conditional) (e.Call y [])
  HS ys gs n y w h m = super_fits d y (ih Lone ys (s.Open Round ∷ s.Close Round ∷ s.Method n ∷ gs) y (n, (gs, refl)) w h) m

  step : OnlyFits (suc d)
  step (At l) xs rest x f w h = level_inv (shape d) (Fits d) H HP HS l xs x (whole_front xs rest w) h
  step Callee xs rest x f w h = postfix_inv (shape d) (Fits d) H HP HS Callee xs rest x f w h
  step Owner xs rest x f w h = postfix_inv (shape d) (Fits d) H HP HS Owner xs rest x f w h
  step Lone xs rest x f w h = postfix_inv (shape d) (Fits d) H HP HS Lone xs rest x f w h

-- what is read fits
pub only_fits : (d : ℕ) → OnlyFits d
only_fits zero slot xs rest x f w h = absurd (cc)
only_fits (suc d) slot xs rest x f w h = step d (only_fits d) slot xs rest x f w h

pub tokens_fit : (d : ℕ) (l : Level) (ts : List Token) (x : Shape) → shape d l (symbols ts) ≡ Some x → Fits d (At l) x
tokens_fit d l ts x h = only_fits d (At l) (symbols ts) [] x tt (subst Whole (sym (append-nil (symbols ts))) (symbols_whole ts)) h

-- what fits is read from its tokens
pub fitting_read : (d : ℕ) (l : Level) (x : Shape) → Fits d (At l) x → shape d l (symbols (tokens (print (At l) x))) ≡ Some x
fitting_read d l x h = ap (shape d l) (symbols_back (print (At l) x) (print_apart d l x h)) ∙ (read_back d (At l) x h).0

-- what any tokens are read as is read from its own tokens
pub printed_read : (d : ℕ) (l : Level) (ts : List Token) (x : Shape) → shape d l (symbols ts) ≡ Some x → shape d l (symbols (tokens (print (At l) x))) ≡ Some x
printed_read d l ts x h = fitting_read d l x (tokens_fit d l ts x h)
