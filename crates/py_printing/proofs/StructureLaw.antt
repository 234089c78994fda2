-- Every tree that fits is read back from its text, at any depth and in any slot.
use Rattle.std.proofs.Common.{◌≡◌, ◌∙◌, sym, refl, subst, ℕ, zero, suc, Bool, true, false, cond, ◌&&◌, List, [], ◌∷◌, Option, Some, None, inl, inr}
use Rattle.std.specs.Prelude.{nat_le}
use Rattle.py_language.specs.declared.shape.Bracket.TheVariants.{Round}
use Rattle.py_language.specs.declared.shape.Shape.{Shape}
use Rattle.py_language.specs.declared.shape.Symbol.{Symbol}
use Rattle.py_language.specs.TreesPlaces.{Level, Listed, Conditional, Disjunction, Conjunction, Negation, Comparison, Sum, Product, Signed, Postfix, number}
use Rattle.py_language.specs.Trees.{at_level, shape}
use Rattle.py_printing.specs.Printing.{enclosed, Slot, At, Callee, Owner, Lone, level, Printed, is_bare_in, printed, print, Each, IfThere, Form, of_atom, of_list, of_tuple, of_dict, of_attr, of_index, of_slice, of_call, of_method, of_super, of_unary, of_not, of_sum, of_product, of_and, of_or, of_compare, of_cond, Node, Fits}
use Rattle.py_printing.proofs.Levels.{Good, loosened, good_loosened, read_loosened}
use Rattle.py_printing.proofs.Operators.{Read}
use Rattle.py_printing.proofs.Primaries.{read_round}
use Rattle.py_printing.proofs.Forms.{Is, Stands, form_read}

-- ---- parts that are P are Q

each_map : {X : Type 0} (P Q : X → Type 0) → ((x : X) → P x → Q x) → (xs : List X) → Each P xs → Each Q xs
each_map P Q f [] h = tt
each_map P Q f (x ∷ xs) h = (f x h.0, each_map P Q f xs h.1)

there_map : (P Q : Shape → Type 0) → ((x : Shape) → P x → Q x) → (o : Option Shape) → IfThere P o → IfThere Q o
there_map P Q f None h = tt
there_map P Q f (Some x) h = f x h

pub form_map : (P Q : Slot → Shape → Type 0) → ((slot : Slot) (x : Shape) → P slot x → Q slot x) → (x : Shape) → Form P x → Form Q x
form_map P Q f x (of_atom v is) = of_atom v is
form_map P Q f x (of_list xs is h) = of_list xs is (each_map _ _ (λ y k. f _ _ k) xs h)
form_map P Q f x (of_tuple xs is h) = of_tuple xs is (each_map _ _ (λ y k. f _ _ k) xs h)
form_map P Q f x (of_dict xs is h) = of_dict xs is (each_map _ _ (λ y k. (f _ _ k.0, f _ _ k.1)) xs h)
form_map P Q f x (of_attr y n is h) = of_attr y n is (f _ _ h)
form_map P Q f x (of_index y i is h k) = of_index y i is (f _ _ h) (f _ _ k)
form_map P Q f x (of_slice y low high is h k l) = of_slice y low high is (f _ _ h) (there_map _ _ (λ y k. f _ _ k) low k) (there_map _ _ (λ y k. f _ _ k) high l)
form_map P Q f x (of_call y xs is h k) = of_call y xs is (f _ _ h) (each_map _ _ (λ y k. f _ _ k) xs k)
form_map P Q f x (of_method y n xs is h k) = of_method y n xs is (f _ _ h) (each_map _ _ (λ y k. f _ _ k) xs k)
form_map P Q f x (of_super n xs is k) = of_super n xs is (each_map _ _ (λ y k. f _ _ k) xs k)
form_map P Q f x (of_unary g y is h) = of_unary g y is (f _ _ h)
form_map P Q f x (of_not y is h) = of_not y is (f _ _ h)
form_map P Q f x (of_sum g y z is h k) = of_sum g y z is (f _ _ h) (f _ _ k)
form_map P Q f x (of_product op y z t is h k) = of_product op y z t is (f _ _ h) (f _ _ k)
form_map P Q f x (of_and y z xs is h) = of_and y z xs is (each_map _ _ (λ y k. f _ _ k) (y ∷ z ∷ xs) h)
form_map P Q f x (of_or y z xs is h) = of_or y z xs is (each_map _ _ (λ y k. f _ _ k) (y ∷ z ∷ xs) h)
form_map P Q f x (of_compare y c cs is h k) = of_compare y c cs is (f _ _ h) (each_map _ _ (λ y k. f _ _ k) (c ∷ cs) k)
form_map P Q f x (of_cond y z w is h k l) = of_cond y z w is (f _ _ h) (f _ _ k) (f _ _ l)

-- what fits also fits where one level more is allowed
pub deeper : (d : ℕ) (slot : Slot) (x : Shape) → Fits d slot x → Fits (suc d) slot x
deeper zero slot x h = absurd h
deeper (suc d) slot x (inl h) = inl (h.0, form_map (Fits d) (Fits (suc d)) (λ s y k. deeper d s y k) x h.1)
deeper (suc d) slot x (inr h) = inr (deeper d (At Conditional) x h)

-- without the brackets round it, an expression is a form
pub stripped : (d : ℕ) (x : Shape) → Fits d (At Conditional) x → Form (Fits d) x
stripped zero x h = absurd h
stripped (suc d) x (inl h) = form_map (Fits d) (Fits (suc d)) (λ s y k. deeper d s y k) x h.1
stripped (suc d) x (inr h) = form_map (Fits d) (Fits (suc d)) (λ s y k. deeper d s y k) x (stripped d x h)

-- ---- looser levels are reached

pub reach : (l m : Level) → nat_le (number l) (number m) ≡ true → (n : ℕ) × (loosened n m ≡ l)
reach Listed Listed e = (0, refl)
reach Listed Conditional e = (1, refl)
reach Listed Disjunction e = (2, refl)
reach Listed Conjunction e = (3, refl)
reach Listed Negation e = (4, refl)
reach Listed Comparison e = (5, refl)
reach Listed Sum e = (6, refl)
reach Listed Product e = (7, refl)
reach Listed Signed e = (8, refl)
reach Listed Postfix e = (9, refl)
reach Conditional Listed e = absurd (cc)
reach Conditional Conditional e = (0, refl)
reach Conditional Disjunction e = (1, refl)
reach Conditional Conjunction e = (2, refl)
reach Conditional Negation e = (3, refl)
reach Conditional Comparison e = (4, refl)
reach Conditional Sum e = (5, refl)
reach Conditional Product e = (6, refl)
reach Conditional Signed e = (7, refl)
reach Conditional Postfix e = (8, refl)
reach Disjunction Listed e = absurd (cc)
reach Disjunction Conditional e = absurd (cc)
reach Disjunction Disjunction e = (0, refl)
reach Disjunction Conjunction e = (1, refl)
reach Disjunction Negation e = (2, refl)
reach Disjunction Comparison e = (3, refl)
reach Disjunction Sum e = (4, refl)
reach Disjunction Product e = (5, refl)
reach Disjunction Signed e = (6, refl)
reach Disjunction Postfix e = (7, refl)
reach Conjunction Listed e = absurd (cc)
reach Conjunction Conditional e = absurd (cc)
reach Conjunction Disjunction e = absurd (cc)
reach Conjunction Conjunction e = (0, refl)
reach Conjunction Negation e = (1, refl)
reach Conjunction Comparison e = (2, refl)
reach Conjunction Sum e = (3, refl)
reach Conjunction Product e = (4, refl)
reach Conjunction Signed e = (5, refl)
reach Conjunction Postfix e = (6, refl)
reach Negation Listed e = absurd (cc)
reach Negation Conditional e = absurd (cc)
reach Negation Disjunction e = absurd (cc)
reach Negation Conjunction e = absurd (cc)
reach Negation Negation e = (0, refl)
reach Negation Comparison e = (1, refl)
reach Negation Sum e = (2, refl)
reach Negation Product e = (3, refl)
reach Negation Signed e = (4, refl)
reach Negation Postfix e = (5, refl)
reach Comparison Listed e = absurd (cc)
reach Comparison Conditional e = absurd (cc)
reach Comparison Disjunction e = absurd (cc)
reach Comparison Conjunction e = absurd (cc)
reach Comparison Negation e = absurd (cc)
reach Comparison Comparison e = (0, refl)
reach Comparison Sum e = (1, refl)
reach Comparison Product e = (2, refl)
reach Comparison Signed e = (3, refl)
reach Comparison Postfix e = (4, refl)
reach Sum Listed e = absurd (cc)
reach Sum Conditional e = absurd (cc)
reach Sum Disjunction e = absurd (cc)
reach Sum Conjunction e = absurd (cc)
reach Sum Negation e = absurd (cc)
reach Sum Comparison e = absurd (cc)
reach Sum Sum e = (0, refl)
reach Sum Product e = (1, refl)
reach Sum Signed e = (2, refl)
reach Sum Postfix e = (3, refl)
reach Product Listed e = absurd (cc)
reach Product Conditional e = absurd (cc)
reach Product Disjunction e = absurd (cc)
reach Product Conjunction e = absurd (cc)
reach Product Negation e = absurd (cc)
reach Product Comparison e = absurd (cc)
reach Product Sum e = absurd (cc)
reach Product Product e = (0, refl)
reach Product Signed e = (1, refl)
reach Product Postfix e = (2, refl)
reach Signed Listed e = absurd (cc)
reach Signed Conditional e = absurd (cc)
reach Signed Disjunction e = absurd (cc)
reach Signed Conjunction e = absurd (cc)
reach Signed Negation e = absurd (cc)
reach Signed Comparison e = absurd (cc)
reach Signed Sum e = absurd (cc)
reach Signed Product e = absurd (cc)
reach Signed Signed e = (0, refl)
reach Signed Postfix e = (1, refl)
reach Postfix Listed e = absurd (cc)
reach Postfix Conditional e = absurd (cc)
reach Postfix Disjunction e = absurd (cc)
reach Postfix Conjunction e = absurd (cc)
reach Postfix Negation e = absurd (cc)
reach Postfix Comparison e = absurd (cc)
reach Postfix Sum e = absurd (cc)
reach Postfix Product e = absurd (cc)
reach Postfix Signed e = absurd (cc)
reach Postfix Postfix e = (0, refl)

low : (l : Level) → nat_le (number l) (number Postfix) ≡ true
low Listed = refl
low Conditional = refl
low Disjunction = refl
low Conjunction = refl
low Negation = refl
low Comparison = refl
low Sum = refl
low Product = refl
low Signed = refl
low Postfix = refl

and_first : (a b : Bool) → (a && b) ≡ true → a ≡ true
and_first true b e = refl
and_first false b e = absurd (cc)

stands_level : (slot : Slot) (p : Printed) → is_bare_in slot p ≡ true → nat_le (number (level slot)) (number p.own) ≡ true
stands_level (At l) p e = e
stands_level Callee p e = and_first _ _ e
stands_level Owner p e = and_first _ _ e
stands_level Lone p e = and_first _ _ e

module _ (part : Level → List Symbol → Option Shape) where
  -- read at its own level, and so at each looser one
  pub loosely : (P : Level → Shape → List Symbol → Type 0) (l m : Level) (x : Shape) (xs : List Symbol) → nat_le (number l) (number m) ≡ true → Read part P m x xs → (at_level part l xs ≡ Some x) × Good l xs
  loosely P l m x xs e r =
      let w = reach l m e in
      let here : (at_level part (loosened w.0 m) xs ≡ Some x) × Good (loosened w.0 m) xs = (read_loosened part w.0 m xs r.good ∙ r.read, good_loosened w.0 m xs r.good) in
      subst (λ (k : Level). (at_level part k xs ≡ Some x) × Good k xs) w.1 here

  -- what is read in brackets
  bracketed : (l : Level) (x : Shape) (xs : List Symbol) → Is part (λ s y. Unit {0}) Conditional x xs → (at_level part l (enclosed Round xs) ≡ Some x) × Good l (enclosed Round xs)
  bracketed l x xs h = loosely (λ k y ys. (part k ys ≡ Some y) × Good k ys) l Postfix x (enclosed Round xs) (low l) (read_round part (λ k y ys. (part k ys ≡ Some y) × Good k ys) (λ k y ys p. p.0) (λ k y ys p. p.1) x xs h)

abbrev pub IsRead : ℕ → Slot → Shape → Type 0
IsRead d slot x = (shape d (level slot) (print slot x) ≡ Some x) × Good (level slot) (print slot x)

-- one level more
module _ (d : ℕ) (ih : (slot : Slot) (x : Shape) → Fits d slot x → IsRead d slot x) (slot : Slot) (x : Shape) where
  here : Form (Fits d) x → Stands (shape d) (Fits d) x (printed x)
  here f = form_read (shape d) (Fits d) ih x f

  bare_read : (l : Level) → nat_le (number l) (number (printed x).own) ≡ true → Form (Fits d) x → (at_level (shape d) l (printed x).bare ≡ Some x) × Good l (printed x).bare
  bare_read l e f = loosely (shape d) (Is (shape d) (Fits d)) l (printed x).own x (printed x).bare e (here f).here

  -- the text before brackets are put
  plain : Fits d (At Conditional) x → (shape d Conditional (printed x).bare ≡ Some x) × Good Conditional (printed x).bare
  plain k =
      let s = here (stripped d x k) in
      subst (λ v. (shape d Conditional (cond v (printed x).bare (enclosed Round (printed x).bare)) ≡ Some x) × Good Conditional (cond v (printed x).bare (enclosed Round (printed x).bare))) s.conditional (ih (At Conditional) x k)

  by_stands : (v : Bool) → is_bare_in slot (printed x) ≡ v → Node (Fits d) slot x → (at_level (shape d) (level slot) (cond v (printed x).bare (enclosed Round (printed x).bare)) ≡ Some x) × Good (level slot) (cond v (printed x).bare (enclosed Round (printed x).bare))
  by_stands true e (inl k) = bare_read (level slot) (stands_level slot (printed x) e) k.1
  by_stands true e (inr k) = bare_read (level slot) (stands_level slot (printed x) e) (stripped d x k)
  by_stands false e (inl k) = let wrong : false ≡ true = sym e ∙ k.0 in absurd (cc)
  by_stands false e (inr k) = bracketed (shape d) (level slot) x (printed x).bare (plain k)

-- what fits is read from its symbols
pub read_back : (d : ℕ) (slot : Slot) (x : Shape) → Fits d slot x → IsRead d slot x
read_back zero slot x h = absurd h
read_back (suc d) slot x h = by_stands d (λ s y k. read_back d s y k) slot x (is_bare_in slot (printed x)) refl h
