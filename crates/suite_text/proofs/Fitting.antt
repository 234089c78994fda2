-- The expressions of a suite fit: none is deeper than the grammar reads, and their tokens are those that a text can hold.
use Rattle.std.proofs.Common.{◌≡◌, ◌∙◌, sym, ap, refl, subst, inl, ℕ, suc, true, List, [], ◌∷◌, ◌++◌, Option}
use Rattle.std.specs.Prelude.{map}
use Rattle.py_language.specs.declared.shape.Atom.{Atom}
use Rattle.py_language.specs.declared.shape.Bracket.TheVariants.{Round, Square, Brace}
use Rattle.py_language.specs.declared.shape.Shape.{Shape}
use Rattle.py_language.specs.declared.shape.Shape.TheVariants as e
use Rattle.py_language.specs.declared.shape.Symbol.TheVariants as s
use Rattle.py_language.specs.TreesPlaces.{Listed, Conditional, Sum, Signed, Postfix}
use Rattle.py_syntax.specs.declared.operator.CmpOp.{CmpOp}
use Rattle.py_syntax.specs.declared.operator.Sign.TheVariants.{Minus}
use Rattle.py_printing.specs.Expressions.{unnamed, named}
use Rattle.py_printing.specs.Printing.{Slot, At, Callee, Owner, Printed, is_bare_in, one, commas, entry, tuple, arguments, printed, print, Each, Form, of_atom, of_list, of_tuple, of_dict, of_attr, of_call, of_method, of_unary, of_compare, Fits}
use Rattle.py_printing.proofs.CleanForms.{Clean, clean, cat, slot_clean}
use Rattle.py_printing.proofs.Unrolled.{printed-Atom, printed-ListLit, printed-TupleLit, printed-DictLit, printed-Attr, printed-Call, printed-Method, printed-Unary, printed-Compare}
use Rattle.suite_text.proofs.Clean.{enclosed_clean, commas_clean, tuple_clean, CleanShape, ones_clean, CleanEntry, entries_clean, with_printed, arguments_clean}

-- of at most so many levels, without brackets of its own wherever a suite has it, and of tokens that a text can hold
pub record Fine (d : ℕ) (x : Shape) : Type 0 where
  pub listed : Fits d (At Listed) x
  pub conditional : Fits d (At Conditional) x
  pub sum : Fits d (At Sum) x
  pub clean : CleanShape x

-- a node that is bare in these slots
node : (d : ℕ) (x : Shape) (p : Printed) → printed x ≡ p → Form (Fits d) x → is_bare_in (At Listed) p ≡ true → is_bare_in (At Conditional) p ≡ true → is_bare_in (At Sum) p ≡ true → Clean p.bare
    → Fine (suc d) x
node d x p e form listed conditional sum k = record {
  listed = inl (ap (is_bare_in (At Listed)) e ∙ listed, form);
  conditional = inl (ap (is_bare_in (At Conditional)) e ∙ conditional, form);
  sum = inl (ap (is_bare_in (At Sum)) e ∙ sum, form);
  clean = subst (λ (q : Printed). Clean q.bare) (sym e) k;
}

pub atom_fine : (d : ℕ) (v : Atom) → clean (s.Atom v) ≡ true → Fine (suc d) (e.Atom v)
atom_fine d v h = node d (e.Atom v) _ (printed-Atom v) (of_atom v refl) refl refl refl (h, tt)

-- where a suite has an atom as a part
atom_in : (d : ℕ) (slot : Slot) (v : Atom) → is_bare_in slot (printed (e.Atom v)) ≡ true → Fits (suc d) slot (e.Atom v)
atom_in d slot v h = inl (h, of_atom v refl)

-- ---- displays and calls

fits_each : (d : ℕ) (xs : List Shape) → Each (Fine d) xs → Each (Fits d (At Conditional)) xs
fits_each d [] h = tt
fits_each d (x ∷ xs) h = (h.0.conditional, fits_each d xs h.1)

clean_each : (d : ℕ) (xs : List Shape) → Each (Fine d) xs → Each CleanShape xs
clean_each d [] h = tt
clean_each d (x ∷ xs) h = (h.0.clean, clean_each d xs h.1)

pub list_fine : (d : ℕ) (xs : List Shape) → Each (Fine d) xs → Fine (suc d) (e.ListLit xs)
list_fine d xs h =
    node d (e.ListLit xs) _ (printed-ListLit xs) (of_list xs refl (fits_each d xs h)) refl refl refl
    (enclosed_clean Square (commas (map one (map printed xs))) (commas_clean (map one (map printed xs)) (ones_clean xs (clean_each d xs h))))

pub tuple_fine : (d : ℕ) (xs : List Shape) → Each (Fine d) xs → Fine (suc d) (e.TupleLit xs)
tuple_fine d xs h =
    node d (e.TupleLit xs) _ (printed-TupleLit xs) (of_tuple xs refl (fits_each d xs h)) refl refl refl
    (enclosed_clean Round (tuple (map one (map printed xs))) (tuple_clean (map one (map printed xs)) (ones_clean xs (clean_each d xs h))))

abbrev pub FineEntry : ℕ → Shape × Shape → Type 0
FineEntry d p = Fine d p.0 × Fine d p.1

fits_entries : (d : ℕ) (xs : List (Shape × Shape)) → Each (FineEntry d) xs → Each (λ (p : Shape × Shape). Fits d (At Conditional) p.0 × Fits d (At Conditional) p.1) xs
fits_entries d [] h = tt
fits_entries d (x ∷ xs) h = ((h.0.0.conditional, h.0.1.conditional), fits_entries d xs h.1)

clean_entries : (d : ℕ) (xs : List (Shape × Shape)) → Each (FineEntry d) xs → Each CleanEntry xs
clean_entries d [] h = tt
clean_entries d (x ∷ xs) h = ((h.0.0.clean, h.0.1.clean), clean_entries d xs h.1)

pub dict_fine : (d : ℕ) (xs : List (Shape × Shape)) → Each (FineEntry d) xs → Fine (suc d) (e.DictLit xs)
dict_fine d xs h =
    let ts = map entry (map (λ (p : Shape × Shape). (printed p.0, printed p.1)) xs) in
    node d (e.DictLit xs) _ (printed-DictLit xs) (of_dict xs refl (fits_entries d xs h)) refl refl refl
    (enclosed_clean Brace (commas ts) (commas_clean ts (entries_clean xs (clean_entries d xs h))))

-- `-` and a number
pub negative_fine : (d : ℕ) (v : Atom) → clean (s.Atom v) ≡ true → Fine (suc (suc d)) (e.Unary Minus (e.Atom v))
negative_fine d v h =
    node (suc d) (e.Unary Minus (e.Atom v)) _ (printed-Unary Minus (e.Atom v)) (of_unary Minus (e.Atom v) refl (atom_in d (At Signed) v (ap (is_bare_in (At Signed)) (printed-Atom v)))) refl refl refl
    (refl, slot_clean (At Signed) (printed (e.Atom v)) (atom_fine 0 v h).clean)

-- `x.n`
pub attribute_fine : (d : ℕ) (v : Atom) (n : List ℕ) → clean (s.Atom v) ≡ true → clean (s.Attribute n) ≡ true → Fine (suc (suc d)) (e.Attr (e.Atom v) n)
attribute_fine d v n h k =
    node (suc d) (e.Attr (e.Atom v) n) _ (printed-Attr (e.Atom v) n) (of_attr (e.Atom v) n refl (atom_in d (At Postfix) v (ap (is_bare_in (At Postfix)) (printed-Atom v)))) refl refl refl
    (cat (print (At Postfix) (e.Atom v)) (s.Attribute n ∷ []) (slot_clean (At Postfix) (printed (e.Atom v)) (atom_fine 0 v h).clean) (k, tt))

fits_arguments : (d : ℕ) (xs : List Shape) → Each (Fine d) xs → Each (λ (p : Option (List ℕ) × Shape). Fits d (At Conditional) p.1) (unnamed xs ++ named [])
fits_arguments d [] h = tt
fits_arguments d (x ∷ xs) h = (h.0.conditional, fits_arguments d xs h.1)

-- `x.n(..)`
pub method_fine : (d : ℕ) (v : Atom) (n : List ℕ) (xs : List Shape) → clean (s.Atom v) ≡ true → clean (s.Method n) ≡ true → Each (Fine (suc d)) xs → Fine (suc (suc d)) (e.Method (e.Atom v) n (unnamed xs ++ named []))
method_fine d v n xs h k g =
    node (suc d) (e.Method (e.Atom v) n (unnamed xs ++ named [])) _ (printed-Method (e.Atom v) n (unnamed xs ++ named []))
    (of_method (e.Atom v) n (unnamed xs ++ named []) refl (atom_in d Owner v (ap (is_bare_in Owner) (printed-Atom v))) (fits_arguments (suc d) xs g)) refl refl refl
    (cat (print Owner (e.Atom v)) (s.Method n ∷ arguments (map with_printed (unnamed xs ++ named []))) (slot_clean Owner (printed (e.Atom v)) (atom_fine 0 v h).clean) (k, arguments_clean xs (clean_each (suc d) xs g)))

-- `f(..)`
pub call_fine : (d : ℕ) (v : Atom) (xs : List Shape) → clean (s.Atom v) ≡ true → Each (Fine (suc d)) xs → Fits (suc (suc d)) (At Conditional) (e.Call (e.Atom v) (unnamed xs ++ named [])) × CleanShape (e.Call (e.Atom v) (unnamed xs ++ named []))
call_fine d v xs h g =
    let x = e.Call (e.Atom v) (unnamed xs ++ named []) in
    let is = printed-Call (e.Atom v) (unnamed xs ++ named []) in (
      inl (ap (is_bare_in (At Conditional)) is, of_call (e.Atom v) (unnamed xs ++ named []) refl (atom_in d Callee v (ap (is_bare_in Callee) (printed-Atom v))) (fits_arguments (suc d) xs g)),
      subst (λ (q : Printed). Clean q.bare) (sym is)
          (cat (print Callee (e.Atom v)) (arguments (map with_printed (unnamed xs ++ named []))) (slot_clean Callee (printed (e.Atom v)) (atom_fine 0 v h).clean) (arguments_clean xs (clean_each (suc d) xs g))),
    )

-- `x == y` and `x is y`
pub compare_fine : (d : ℕ) (op : CmpOp) (x y : Shape) → clean (s.Compare op) ≡ true → Fine d x → Fine d y → Fits (suc d) (At Conditional) (e.Compare x ((op, y) ∷ [])) × CleanShape (e.Compare x ((op, y) ∷ []))
compare_fine d op x y h f g =
    let is = printed-Compare x ((op, y) ∷ []) in (
      inl (ap (is_bare_in (At Conditional)) is, of_compare x (op, y) [] refl f.sum (g.sum, tt)),
      subst (λ (q : Printed). Clean q.bare) (sym is)
          (cat (print (At Sum) x) (s.Compare op ∷ print (At Sum) y) (slot_clean (At Sum) (printed x) f.clean) (h, slot_clean (At Sum) (printed y) g.clean)),
    )
