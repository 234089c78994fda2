-- The tree of any tokens is the tree of its own tokens, up to lines and node numbers.
use Rattle.std.proofs.Common.{◌≡◌, ◌∙◌, ap, sym, refl, subst, ℕ, Bool, true, false, ◌&&◌, List, [], ◌∷◌, Option, Some, None, arith}
use Rattle.std.specs.List.{list_all}
use Rattle.std.proofs.lemmas.List.Folds.{list_all-append}
use Rattle.py_language.specs.declared.shape.Symbol.{Symbol}
use Rattle.py_language.specs.declared.token.Token.{Token}
use Rattle.py_language.specs.declared.shape.Shape.{Shape}
use Rattle.py_language.specs.TreesPlaces.{Level}
use Rattle.py_language.specs.TreesSymbols.{symbols}
use Rattle.py_language.specs.Trees.{◌>>=◌, shape, deepest, tree_at}
use Rattle.py_language.specs.TreesNumbers.{numbered}
use Rattle.py_syntax.specs.declared.expr.Expr.{Expr}
use Rattle.py_printing.specs.Printing.{At, Each, printed, print}
use Rattle.py_printing.specs.SymbolTokens.{tokens, tokens_in}
use Rattle.py_printing.proofs.TreeLaw.{tokens_fit, fitting_read}
use Rattle.py_spelling.specs.Spelling.{is_sound, RowsReadBack, OnlyBracketsOpen}
use Rattle.py_printing.specs.Texts.{shape_tokens}
use Rattle.py_printing.specs.Expressions.{unnumbered, expr_tokens, TreesReadBack, ExpressionsReadBack, SoundTreesAreSound, SoundExpressionsReadBack, TreesAreBalanced, ShapesReadBack}
use Rattle.py_printing.proofs.Nesting.{print_nests}
use Rattle.py_printing.proofs.Numbers.{sorts}
use Rattle.py_printing.proofs.TextLaw.{texts_read_back}
use Rattle.py_printing.proofs.CleanForms.{Clean, CleanAs, slot_clean}
use Rattle.py_printing.proofs.CleanRules.{All, shape_all}
use Rattle.py_printing.proofs.CleanSymbols.{Sound, symbols_clean}

and_both : (v w : Bool) → (v && w) ≡ true → (v ≡ true) × (w ≡ true)
and_both true w e = (refl, e)
and_both false w e = absurd (cc)

found : (o : Option Shape) (x : Expr) → (o >>= λ s. Some (numbered s 0).0) ≡ Some x → (s : Shape) × ((o ≡ Some s) × ((numbered s 0).0 ≡ x))
found None x e = absurd (cc)
found (Some s) x e = (s, (refl, (let i : (numbered s 0).0 ≡ x = cc in i)))

-- the shape of a tree is read from its own tokens
shape_read : (l : Level) (ts : List Token) (x : Expr) → tree_at l ts ≡ Some x → (shape deepest l (symbols (expr_tokens l x)) ≡ Some (unnumbered x)) × ((n : ℕ) → unnumbered (numbered (unnumbered x) n).0 ≡ unnumbered x)
unfolding tree_at
shape_read l ts x h =
    let f = found (shape deepest l (symbols ts)) x h in
    let w = sorts deepest (At l) f.0 (tokens_fit deepest l ts f.0 f.1.0) in
    let is : w.y ≡ unnumbered x = sym (ap unnumbered (sym f.1.1) ∙ w.is 0) in
    let both : (shape deepest l (symbols (shape_tokens l w.y)) ≡ Some w.y) × ((n : ℕ) → unnumbered (numbered w.y n).0 ≡ w.y) = (fitting_read deepest l w.y w.fits, w.stable) in
    subst (λ y. (shape deepest l (symbols (shape_tokens l y)) ≡ Some y) × ((n : ℕ) → unnumbered (numbered y n).0 ≡ y)) is both

pub shapes_read_back : ShapesReadBack
shapes_read_back l ts x h = (shape_read l ts x h).0

pub trees_read_back : TreesReadBack
unfolding tree_at
trees_read_back l ts x h =
    let r = shape_read l ts x h in
    ((numbered (unnumbered x) 0).0, (ap (λ (o : Option Shape). o >>= λ s. Some (numbered s 0).0) r.0, r.1 0))

pub expressions_read_back : RowsReadBack → OnlyBracketsOpen → ExpressionsReadBack
expressions_read_back rows only tight l ts x h s =
    let r = shape_read l ts x h in
    ((texts_read_back rows only tight l (expr_tokens l x) (unnumbered x) r.0 s).0, trees_read_back l ts x h)

pub trees_balanced : OnlyBracketsOpen → TreesAreBalanced
trees_balanced only l ts x rest h s =
    let r = shape_read l ts x h in
    print_nests only deepest (At l) (unnumbered x) (tokens_fit deepest l (expr_tokens l x) (unnumbered x) r.0) [] rest (omega arith) s

-- ---- the tokens of a tree that was read from sound tokens are sound

each_sound : (ts : List Token) → list_all is_sound ts ≡ true → Each Sound ts
each_sound [] h = tt
each_sound (x ∷ xs) h = let two = and_both (is_sound x) (list_all is_sound xs) h in (two.0, each_sound xs two.1)

clean_tokens : (xs : List Symbol) → Clean xs → list_all is_sound (tokens xs) ≡ true
clean_tokens [] h = refl
clean_tokens (x ∷ xs) h = list_all-append is_sound (tokens_in x) (tokens xs) ∙ rw (h.0, clean_tokens xs h.1) refl

pub sound_trees : SoundTreesAreSound
unfolding tree_at
sound_trees l ts x s h =
    let f = found (shape deepest l (symbols ts)) x h in
    let w : CleanAs f.0 = subst (λ (o : Option Shape). All CleanAs o) f.1.0 (shape_all deepest l (symbols ts) (symbols_clean ts (each_sound ts s))) in
    let is : w.y ≡ unnumbered x = sym (ap unnumbered (sym f.1.1) ∙ w.is 0) in
    subst (λ y. list_all is_sound (shape_tokens l y) ≡ true) is (clean_tokens (print (At l) w.y) (slot_clean (At l) (printed w.y) w.bare))

pub sound_read_back : RowsReadBack → OnlyBracketsOpen → SoundExpressionsReadBack
sound_read_back rows only tight l ts x s h = expressions_read_back rows only tight l ts x h (sound_trees l ts x s h)
