-- The pen after the forms of nodes, over plain variables.
use Rattle.std.proofs.Common.{◌≡◌, ◌∙◌, refl, sym, ap, ℕ, ◌+◌, ◌<◌, ◌≤◌, true, false, List, [], ◌∷◌, ◌++◌, length, drop, get_or}
use Rattle.std.specs.Prelude.{Result, OnOk, if◌then◌else◌}
use Rattle.std.proofs.lemmas.List.{drop_all}
use Rattle.py_language.specs.declared.token.Token.{Token}
use Rattle.py_language.specs.declared.token.Token.TheVariants as t
use Rattle.py_language.specs.declared.token.Mark.TheVariants as m
use Rattle.py_language.specs.declared.shape.Atom.TheVariants as a
use Rattle.py_language.specs.declared.shape.Bracket.{Bracket}
use Rattle.py_language.specs.declared.shape.Bracket.TheVariants.{Round}
use Rattle.py_language.specs.declared.shape.Symbol.{Symbol}
use Rattle.py_language.specs.declared.shape.Symbol.TheVariants as s
use Rattle.py_syntax.specs.declared.expr.Expr.{Expr}
use Rattle.py_syntax.specs.declared.operator.CmpOp.{CmpOp}
use Rattle.py_printing.specs.Printing.{enclosed, is_bare_in, print, printed}
use Rattle.py_printing.specs.SymbolTokens.{tokens_in, open_token, close_token}
use Rattle.py_printer.specs.declared.pen.Pen.{Pen}
use Rattle.py_printer.specs.declared.slots.Slot.{Slot}
use Rattle.py_printer.specs.declared.slots.Slot.TheVariants as slot
use Rattle.py_printer.specs.Style.{put}
use Rattle.py_printer.specs.Expressions.{of_kind, place_of, bare_of, printed_in, draw, named_symbols, compared_symbols}
use Rattle.py_printer.proofs.Draws.{draw-append, draw-nil, both, then_ok, same_ok, token_ok, token_drawn, attribute_drawn, method_drawn}
use Rattle.py_printer.proofs.Inks.{on_ok}
use Rattle.py_printer.proofs.Series.{rest_of}
use Rattle.py_printer.proofs.Unnumbering.{expr_is}

-- an expression as its node, or as its node in brackets
pub bare_in : (here : Slot) (x : Expr) → is_bare_in (place_of here) (printed (of_kind x.kind)) ≡ true → printed_in here x ≡ bare_of x.kind
bare_in here x e = ap (print (place_of here)) (expr_is x) ∙ ap (λ v. if v then bare_of x.kind else enclosed Round (bare_of x.kind)) e

pub bracketed_in : (here : Slot) (x : Expr) → is_bare_in (place_of here) (printed (of_kind x.kind)) ≡ false → printed_in here x ≡ enclosed Round (bare_of x.kind)
bracketed_in here x e = ap (print (place_of here)) (expr_is x) ∙ ap (λ v. if v then bare_of x.kind else enclosed Round (bare_of x.kind)) e

open_is : (b : Bracket) → tokens_in (s.Open b) ≡ open_token b ∷ []
open_is b = refl

close_is : (b : Bracket) → tokens_in (s.Close b) ≡ close_token b ∷ []
close_is b = refl

-- a part, a mark and another part
pub infix_drawn : (p q u z : Pen) (y : Token) (x : Symbol) (xs ys : List Symbol) → tokens_in x ≡ y ∷ [] → q ≡ draw p xs → u ≡ put q y → z ≡ draw u ys → z ≡ draw p (xs ++ x ∷ ys)
infix_drawn p q u z y x xs ys tok a b d = both p q z xs (x ∷ ys) a (both q u z (x ∷ []) ys (token_drawn q u y x b tok) d)

module _ {T E : Type 0} (r : Result T E) where
  pub prefix_ok : (p q z : Pen) (y : Token) (x : Symbol) (xs whole : List Symbol) → tokens_in x ≡ y ∷ [] → q ≡ put p y → OnOk r (z ≡ draw q xs) → whole ≡ x ∷ xs → OnOk r (z ≡ draw p whole)
  prefix_ok p q z y x xs whole tok a h e = then_ok r p q z (x ∷ []) xs whole (token_drawn p q y x a tok) h e

  pub atom_ok : (p z : Pen) (y : Token) (x : Symbol) (whole : List Symbol) → tokens_in x ≡ y ∷ [] → OnOk r (z ≡ put p y) → whole ≡ x ∷ [] → OnOk r (z ≡ draw p whole)
  atom_ok p z y x whole tok h e = same_ok r p z (x ∷ []) whole (token_ok r p z y x h tok) e

  pub infix_ok : (p q u z : Pen) (y : Token) (x : Symbol) (xs ys whole : List Symbol) → tokens_in x ≡ y ∷ [] → q ≡ draw p xs → u ≡ put q y → OnOk r (z ≡ draw u ys) → whole ≡ xs ++ x ∷ ys → OnOk r (z ≡ draw p whole)
  infix_ok p q u z y x xs ys whole tok a b h e = then_ok r p q z xs (x ∷ ys) whole a (prefix_ok q u z y x ys (x ∷ ys) tok b h refl) e

  pub enclosed_ok : (b : Bracket) (p q u z : Pen) (xs whole : List Symbol) → q ≡ put p (open_token b) → u ≡ draw q xs → OnOk r (z ≡ put u (close_token b)) → whole ≡ enclosed b xs → OnOk r (z ≡ draw p whole)
  enclosed_ok b p q u z xs whole a d h e =
      then_ok r p u z (s.Open b ∷ xs) (s.Close b ∷ []) whole
      (both p q u (s.Open b ∷ []) xs (token_drawn p q (open_token b) (s.Open b) a (open_is b)) d)
      (token_ok r u z (close_token b) (s.Close b) h (close_is b)) e

  pub attribute_ok : (p q u z : Pen) (n : List ℕ) (xs whole : List Symbol) → q ≡ draw p xs → u ≡ put q (t.Mark m.Dot) → OnOk r (z ≡ put u (t.Name n)) → whole ≡ xs ++ s.Attribute n ∷ [] → OnOk r (z ≡ draw p whole)
  attribute_ok p q u z n xs whole a b h e =
      then_ok r p q z xs (s.Attribute n ∷ []) whole a
      (on_ok r z (put u (t.Name n)) (draw q (s.Attribute n ∷ [])) h (ap (λ v. put v (t.Name n)) b ∙ attribute_drawn q n)) e

  pub method_ok : (p q u v z : Pen) (n : List ℕ) (xs ys whole : List Symbol) → q ≡ draw p xs → u ≡ put q (t.Mark m.Dot) → v ≡ put u (t.Name n) → OnOk r (z ≡ draw v ys) → whole ≡ xs ++ s.Method n ∷ ys → OnOk r (z ≡ draw p whole)
  method_ok p q u v z n xs ys whole a b d h e =
      let f : v ≡ draw q (s.Method n ∷ []) = d ∙ ap (λ w. put w (t.Name n)) b ∙ method_drawn q n in
      then_ok r p q z xs (s.Method n ∷ ys) whole a (then_ok r q v z (s.Method n ∷ []) ys (s.Method n ∷ ys) f h refl) e

-- a name, `=` and a value
pub named_drawn : (p q u z : Pen) (n : List ℕ × Expr) → q ≡ put p (t.Name n.0) → u ≡ put q (t.Mark m.Equal) → z ≡ draw u (printed_in slot.Conditional n.1) → z ≡ draw p (named_symbols n)
named_drawn p q u z n one two three = infix_drawn p q u z (t.Mark m.Equal) s.Equal (s.Atom (a.Name n.0) ∷ []) (printed_in slot.Conditional n.1) refl (token_drawn p q (t.Name n.0) (s.Atom (a.Name n.0)) one refl) two three

-- one more comparison, and all of them
pub one_comparison : (xs : List (CmpOp × Expr)) (i : ℕ) (x : CmpOp × Expr) (whole p q z : Pen) → i < length xs → x ≡ get_or xs i x → whole ≡ draw p (compared_symbols (drop i xs))
    → q ≡ draw p (s.Compare x.0 ∷ []) → z ≡ draw q (printed_in slot.Sum x.1) → whole ≡ draw z (compared_symbols (drop (i + 1) xs))
one_comparison xs i x whole p q z lt is before a b =
    let rest = compared_symbols (drop (i + 1) xs) in
    before ∙ ap (λ ys. draw p (compared_symbols ys)) (rest_of xs i x lt is) ∙ draw-append p (s.Compare x.0 ∷ printed_in slot.Sum x.1) rest
    ∙ ap (λ v. draw v rest) (sym (both p q z (s.Compare x.0 ∷ []) (printed_in slot.Sum x.1) a b))

pub all_comparisons : (xs : List (CmpOp × Expr)) (i : ℕ) (whole p : Pen) → length xs ≤ i → whole ≡ draw p (compared_symbols (drop i xs)) → p ≡ whole
all_comparisons xs i whole p le before = draw-nil p ∙ sym (before ∙ ap (λ ys. draw p (compared_symbols ys)) (drop_all i xs le))
