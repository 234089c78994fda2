-- Spelling and structure together.
use Rattle.std.proofs.Common.{◌≡◌, ◌∙◌, sym, ap, refl, Bool, true, false, ◌&&◌, ◌||◌, not, List, [], ◌∷◌, Some, None, arith, append-nil}
use Rattle.std.specs.Prelude.{map}
use Rattle.std.specs.List.{list_all}
use Rattle.py_language.specs.declared.token.Token.{Token}
use Rattle.py_language.specs.declared.shape.Shape.{Shape}
use Rattle.py_language.specs.TreesPlaces.{Level, Listed, Conditional, Disjunction, Conjunction, Negation, Comparison, Sum, Product, Signed, Postfix}
use Rattle.py_language.specs.TreesSymbols.{symbols}
use Rattle.py_language.specs.Trees.{shape, deepest, listed, conditional, disjunction, conjunction, negation, comparison, sum, product, signed, postfix}
use Rattle.py_language.specs.Tokens.{tokens_of}
use Rattle.py_spelling.specs.Spelling.{Spaced, may_touch, is_sound, Row, row_text, row_tokens, is_spaced, is_balanced, is_row, RowsReadBack, OnlyBracketsOpen}
use Rattle.py_printing.specs.Printing.{At}
use Rattle.py_printing.proofs.TreeLaw.{tokens_fit, printed_read}
use Rattle.py_printing.specs.Texts.{spaced, line_text, shape_tokens, TextsReadBack}
use Rattle.py_printing.proofs.Nesting.{print_nests}

spaced_tokens : (tight : Token → Token → Bool) (x : Token) (ys : List Token) → map (λ (z : Spaced). z.1) (spaced tight x ys) ≡ ys
spaced_tokens tight x [] = refl
spaced_tokens tight x (y ∷ ys) = ap (λ z. y ∷ z) (spaced_tokens tight y ys)

spaced_by : (g m : Bool) → (not (g && m) || m) ≡ true
spaced_by true true = refl
spaced_by true false = refl
spaced_by false m = refl

-- any style of spaces will do
pub always_spaced : (tight : Token → Token → Bool) (x : Token) (ys : List Token) → is_spaced x (spaced tight x ys) ≡ true
always_spaced tight x [] = refl
always_spaced tight x (y ∷ ys) = rw (spaced_by (tight x y) (may_touch x y)) (always_spaced tight y ys)

abbrev row_of : (Token → Token → Bool) → Token → List Token → Row
row_of tight x xs = record { column = 0; first = x; others = spaced tight x xs }

row_is : (tight : Token → Token → Bool) (x : Token) (xs : List Token) → list_all is_sound (x ∷ xs) ≡ true → is_balanced [] (x ∷ xs) ≡ true → is_row (row_of tight x xs) ≡ true
row_is tight x xs s b =
    let same : row_tokens (row_of tight x xs) ≡ x ∷ xs = ap (λ z. x ∷ z) (spaced_tokens tight x xs) in
    let s' : list_all is_sound (row_tokens (row_of tight x xs)) ≡ true = ap (list_all is_sound) same ∙ s in
    let b' : is_balanced [] (row_tokens (row_of tight x xs)) ≡ true = ap (is_balanced []) same ∙ b in
    rw (s', always_spaced tight x xs, b') refl

line_read : RowsReadBack → (tight : Token → Token → Bool) (ts : List Token) → (ts ≡ [] → ⊥) → list_all is_sound ts ≡ true → is_balanced [] ts ≡ true
    → tokens_of (line_text tight ts) ≡ record { lines = record { line = 1; column = 0; tokens = ts } ∷ []; fault = None }
line_read rows tight [] n s b = absurd (n refl)
line_read rows tight (x ∷ xs) n s b =
    let r = row_of tight x xs in
    ap tokens_of (sym (append-nil (row_text r)))
    ∙ rows ((0, r) ∷ []) (rw (row_is tight x xs s b) refl)
    ∙ ap (λ ts. record { lines = record { line = 1; column = 0; tokens = x ∷ ts } ∷ []; fault = None }) (spaced_tokens tight x xs)

-- no shape is read from nothing
nothing : (l : Level) (x : Shape) → shape deepest l [] ≡ Some x → ⊥
unfolding listed conditional disjunction conjunction negation comparison sum product signed postfix
nothing Listed x h = cc
nothing Conditional x h = cc
nothing Disjunction x h = cc
nothing Conjunction x h = cc
nothing Negation x h = cc
nothing Comparison x h = cc
nothing Sum x h = cc
nothing Product x h = cc
nothing Signed x h = cc
nothing Postfix x h = cc

some_tokens : (l : Level) (x : Shape) → shape deepest l (symbols (shape_tokens l x)) ≡ Some x → shape_tokens l x ≡ [] → ⊥
some_tokens l x h e = nothing l x (ap (λ ts. shape deepest l (symbols ts)) (sym e) ∙ h)

pub texts_read_back : RowsReadBack → OnlyBracketsOpen → TextsReadBack
texts_read_back rows only tight l ts x h s =
    let again = printed_read deepest l ts x h in
    let fits = tokens_fit deepest l ts x h in
    let nests = print_nests only deepest (At l) x fits [] [] (omega arith) s in
    let b : is_balanced [] (shape_tokens l x) ≡ true = ap (is_balanced []) (sym (append-nil (shape_tokens l x))) ∙ nests in
    (line_read rows tight (shape_tokens l x) (some_tokens l x again) s b, again)
