-- What fits is read back from its text.
use Rattle.std.proofs.Common.{◌≡◌, ◌∙◌, sym, ap, refl, subst, ℕ, true, List, [], ◌∷◌, ◌++◌, Option, Some, None}
use Rattle.std.specs.Prelude.{nat_le, map, option_map}
use Rattle.py_language.specs.declared.shape.Bracket.TheVariants.{Round, Brace}
use Rattle.py_language.specs.declared.shape.Shape.{Shape}
use Rattle.py_language.specs.declared.shape.Shape.TheVariants as e
use Rattle.py_language.specs.declared.shape.Symbol.{Symbol}
use Rattle.py_language.specs.declared.shape.Symbol.TheVariants as s
use Rattle.py_language.specs.TreesPlaces.{Level, Listed, Conditional, Disjunction, Conjunction, Negation, Comparison, Sum, Product, Signed, Postfix, number}
use Rattle.py_language.specs.Trees.{operator}
use Rattle.py_syntax.specs.declared.operator.BinOp.{BinOp}
use Rattle.py_syntax.specs.declared.operator.BinOp.TheVariants.{Add, Sub, Mul, FloorDiv, Mod}
use Rattle.py_syntax.specs.declared.operator.CmpOp.{CmpOp}
use Rattle.py_syntax.specs.declared.operator.Sign.{Sign}
use Rattle.py_syntax.specs.declared.operator.Sign.TheVariants.{Minus, Plus}
use Rattle.py_printing.specs.Printing as p
use Rattle.py_printing.specs.Printing.{chain, after_comma, commas, enclosed, Slot, At, Callee, Owner, level, Printed, is_bare_in, in_slot, one, marked, argument, arguments, entry, tuple, bound, is_factor, binary, print_node, printed, print, Each, IfThere, Form, of_atom, of_list, of_tuple, of_dict, of_attr, of_index, of_slice, of_call, of_method, of_super, of_unary, of_not, of_sum, of_product, of_and, of_or, of_compare, of_cond, Node, Fits}
use Rattle.py_printing.proofs.Levels.{Good}
use Rattle.py_printing.proofs.Operators as o
use Rattle.py_printing.proofs.Operators.{Read}
use Rattle.py_printing.proofs.Primaries as q
use Rattle.py_printing.proofs.Unrolled.{printed-Atom, printed-ListLit, printed-TupleLit, printed-DictLit, printed-Attr, printed-Index, printed-Slice, printed-Call, printed-Method, printed-Super, printed-Unary, printed-Not, printed-Binary, printed-And, printed-Or, printed-Compare, printed-Cond}

module _ (part : Level → List Symbol → Option Shape) (P : Slot → Shape → Type 0) where
  abbrev pub Is : Level → Shape → List Symbol → Type 0
  Is l x xs = (part l xs ≡ Some x) × Good l xs

  reads : (l : Level) (x : Shape) (xs : List Symbol) → Is l x xs → part l xs ≡ Some x
  reads l x xs h = h.0

  goods : (l : Level) (x : Shape) (xs : List Symbol) → Is l x xs → Good l xs
  goods l x xs h = h.1

  -- what is read where it is, at its own level, which is no list's
  pub record Stands (x : Shape) (p : Printed) : Type 0 where
    pub here : Read part Is p.own x p.bare
    pub conditional : nat_le 2 (number p.own) ≡ true

  moved : (x y : Shape) (p : Printed) → x ≡ y → printed y ≡ p → Stands y p → Stands x (printed x)
  moved x y p is e r = subst (λ z. Stands z (printed z)) (sym is) (subst (Stands y) (sym e) r)

  module _ (ih : (slot : Slot) (x : Shape) → P slot x → Is (level slot) x (print slot x)) where
    listing : (xs : List Shape) → Each (P (At Conditional)) xs → q.Listing part Is reads goods xs (map one (map printed xs))
    listing [] h = tt
    listing (x ∷ xs) h = (ih (At Conditional) x h.0, listing xs h.1)

    parts : (l : Level) (xs : List Shape) → Each (P (At l)) xs → o.Parts part Is reads goods l xs (map (in_slot (At l)) (map printed xs))
    parts l [] h = tt
    parts l (x ∷ xs) h = (ih (At l) x h.0, parts l xs h.1)

    abbrev arg_parts : List (Option (List ℕ) × Shape) → List (List Symbol)
    arg_parts xs = map (λ (p : Option (List ℕ) × Shape). print (At Conditional) p.1) xs

    args : (xs : List (Option (List ℕ) × Shape)) → Each (λ (p : Option (List ℕ) × Shape). P (At Conditional) p.1) xs → q.Arguments part Is reads goods xs (arg_parts xs)
    args [] h = tt
    args (x ∷ xs) h = (ih (At Conditional) x.1 h.0, args xs h.1)

    abbrev printed_args : List (Option (List ℕ) × Shape) → List (Option (List ℕ) × Printed)
    printed_args xs = map (λ (p : Option (List ℕ) × Shape). (p.0, printed p.1)) xs

    arg_same : (n : Option (List ℕ)) (x : Shape) → argument (n, printed x) ≡ q.arg_text part Is reads goods n (print (At Conditional) x)
    arg_same None x = refl
    arg_same (Some n) x = refl

    args_same : (xs : List (Option (List ℕ) × Shape)) → map argument (printed_args xs) ≡ q.arg_texts part Is reads goods xs (arg_parts xs)
    args_same [] = refl
    args_same (x ∷ xs) = ap (λ z. z ∷ map argument (printed_args xs)) (arg_same x.0 x.1) ∙ ap (λ zs. q.arg_text part Is reads goods x.0 (print (At Conditional) x.1) ∷ zs) (args_same xs)

    all_args : (xs : List (Option (List ℕ) × Shape)) → arguments (printed_args xs) ≡ enclosed Round (commas (q.arg_texts part Is reads goods xs (arg_parts xs)))
    all_args xs = ap (λ zs. enclosed Round (commas zs)) (args_same xs)

    abbrev entry_parts : List (Shape × Shape) → List (List Symbol × List Symbol)
    entry_parts xs = map (λ (p : Shape × Shape). (print (At Conditional) p.0, print (At Conditional) p.1)) xs

    entries : (xs : List (Shape × Shape)) → Each (λ (p : Shape × Shape). P (At Conditional) p.0 × P (At Conditional) p.1) xs → q.Entries part Is reads goods xs (entry_parts xs)
    entries [] h = tt
    entries (x ∷ xs) h = ((ih (At Conditional) x.0 h.0.0, ih (At Conditional) x.1 h.0.1), entries xs h.1)

    entries_same : (xs : List (Shape × Shape)) → map entry (map (λ (p : Shape × Shape). (printed p.0, printed p.1)) xs) ≡ map (q.entry_text part Is reads goods) (entry_parts xs)
    entries_same [] = refl
    entries_same (x ∷ xs) = ap (λ zs. (print (At Conditional) x.0 ++ s.Colon ∷ print (At Conditional) x.1) ∷ zs) (entries_same xs)

    abbrev compared_parts : List (CmpOp × Shape) → List (List Symbol)
    compared_parts cs = map (λ (c : CmpOp × Shape). print (At Sum) c.1) cs

    compared : (cs : List (CmpOp × Shape)) → Each (λ (c : CmpOp × Shape). P (At Sum) c.1) cs → o.Compared part Is reads goods cs (compared_parts cs)
    compared [] h = tt
    compared (c ∷ cs) h = (ih (At Sum) c.1 h.0, compared cs h.1)

    compared_same : (cs : List (CmpOp × Shape)) → p.compared (map (λ (c : CmpOp × Shape). (c.0, printed c.1)) cs) ≡ o.compared part Is reads goods cs (compared_parts cs)
    compared_same [] = refl
    compared_same (c ∷ cs) = ap (λ zs. (s.Compare c.0, print (At Sum) c.1) ∷ zs) (compared_same cs)

    bounds : (low : Option Shape) → IfThere (P (At Conditional)) low → q.Bound part Is reads goods low (bound (option_map printed low))
    bounds None h = refl
    bounds (Some x) h = ih (At Conditional) x h

    tuples : (xs : List Shape) → Each (P (At Conditional)) xs → Read part Is Postfix (e.TupleLit xs) (enclosed Round (tuple (map one (map printed xs))))
    tuples [] h = q.read_unit part Is reads goods
    tuples (x ∷ []) h = q.read_single part Is reads goods x (print (At Conditional) x) (ih (At Conditional) x h.0)
    tuples (x ∷ y ∷ ys) h = q.read_tuple part Is reads goods x y ys (print (At Conditional) x) (print (At Conditional) y) (map one (map printed ys)) (listing (x ∷ y ∷ ys) h)

    sums : (g : Sign) (y z : Shape) → P (At Sum) y → P (At Product) z → Stands (e.Binary (operator (s.Sign g)) y z) (binary (operator (s.Sign g)) (printed y) (printed z))
    sums Plus y z h k = record { here = o.read_sum part Is reads goods Plus y z (print (At Sum) y) (print (At Product) z) (ih (At Sum) y h) (ih (At Product) z k); conditional = refl }
    sums Minus y z h k = record { here = o.read_sum part Is reads goods Minus y z (print (At Sum) y) (print (At Product) z) (ih (At Sum) y h) (ih (At Product) z k); conditional = refl }

    products : (op : BinOp) (y z : Shape) → is_factor op ≡ true → P (At Product) y → P (At Signed) z → Stands (e.Binary op y z) (binary op (printed y) (printed z))
    products Mul y z f h k = record { here = o.read_product part Is reads goods Mul y z (print (At Product) y) (print (At Signed) z) (ih (At Product) y h) (ih (At Signed) z k); conditional = refl }
    products FloorDiv y z f h k = record { here = o.read_product part Is reads goods FloorDiv y z (print (At Product) y) (print (At Signed) z) (ih (At Product) y h) (ih (At Signed) z k); conditional = refl }
    products Mod y z f h k = record { here = o.read_product part Is reads goods Mod y z (print (At Product) y) (print (At Signed) z) (ih (At Product) y h) (ih (At Signed) z k); conditional = refl }
    products Add y z f h k = absurd (cc)
    products Sub y z f h k = absurd (cc)

    pub form_read : (x : Shape) → Form P x → Stands x (printed x)
    form_read x (of_atom v is) = moved x _ _ is (printed-Atom v) (record { here = q.read_atom part Is reads goods v; conditional = refl })
    form_read x (of_list xs is h) = moved x _ _ is (printed-ListLit xs) (record { here = q.read_list part Is reads goods xs _ (listing xs h); conditional = refl })
    form_read x (of_tuple xs is h) = moved x _ _ is (printed-TupleLit xs) (record { here = tuples xs h; conditional = refl })
    form_read x (of_dict xs is h) = moved x _ _ is (printed-DictLit xs) (record { here = subst (λ zs. Read part Is Postfix (e.DictLit xs) (enclosed Brace (commas zs))) (sym (entries_same xs)) (q.read_dict part Is reads goods xs _ (entries xs h)); conditional = refl })
    form_read x (of_attr y n is h) = moved x _ _ is (printed-Attr y n) (record { here = q.read_attr part Is reads goods y n _ (ih (At Postfix) y h); conditional = refl })
    form_read x (of_index y i is h k) = moved x _ _ is (printed-Index y i) (record { here = q.read_index part Is reads goods y i _ _ (ih (At Postfix) y h) (ih (At Listed) i k); conditional = refl })
    form_read x (of_slice y low high is h k l) = moved x _ _ is (printed-Slice y low high) (record { here = q.read_slice part Is reads goods y low high _ _ _ (ih (At Postfix) y h) (bounds low k) (bounds high l); conditional = refl })
    form_read x (of_call y xs is h k) = moved x _ _ is (printed-Call y xs) (record { here = subst (λ zs. Read part Is Postfix (e.Call y xs) (print Callee y ++ zs)) (sym (all_args xs)) (q.read_call part Is reads goods y xs _ _ (ih Callee y h) (args xs k)); conditional = refl })
    form_read x (of_method y n xs is h k) = moved x _ _ is (printed-Method y n xs) (record { here = subst (λ zs. Read part Is Postfix (e.Method y n xs) (print Owner y ++ s.Method n ∷ zs)) (sym (all_args xs)) (q.read_method part Is reads goods y n xs _ _ (ih Owner y h) (args xs k)); conditional = refl })
    form_read x (of_super n xs is k) = moved x _ _ is (printed-Super n xs) (record { here = subst (λ zs. Read part Is Postfix (e.Super n xs) (s.Super n ∷ zs)) (sym (all_args xs)) (q.read_super part Is reads goods n xs _ (args xs k)); conditional = refl })
    form_read x (of_unary g y is h) = moved x _ _ is (printed-Unary g y) (record { here = o.read_unary part Is reads goods g y _ (ih (At Signed) y h); conditional = refl })
    form_read x (of_not y is h) = moved x _ _ is (printed-Not y) (record { here = o.read_not part Is reads goods y _ (ih (At Negation) y h); conditional = refl })
    form_read x (of_sum g y z is h k) = moved x _ _ is (printed-Binary (operator (s.Sign g)) y z) (sums g y z h k)
    form_read x (of_product op y z f is h k) = moved x _ _ is (printed-Binary op y z) (products op y z f h k)
    form_read x (of_and y z xs is h) = moved x _ _ is (printed-And (y ∷ z ∷ xs)) (record { here = o.read_and part Is reads goods y z xs _ _ _ (ih (At Negation) y h.0) (parts Negation (z ∷ xs) h.1); conditional = refl })
    form_read x (of_or y z xs is h) = moved x _ _ is (printed-Or (y ∷ z ∷ xs)) (record { here = o.read_or part Is reads goods y z xs _ _ _ (ih (At Conjunction) y h.0) (parts Conjunction (z ∷ xs) h.1); conditional = refl })
    form_read x (of_compare y c cs is h k) = moved x _ _ is (printed-Compare y (c ∷ cs)) (record { here = subst (λ zs. Read part Is Comparison (e.Compare y (c ∷ cs)) (chain (print (At Sum) y) zs)) (sym (compared_same (c ∷ cs))) (o.read_compare part Is reads goods y c cs _ _ _ (ih (At Sum) y h) (compared (c ∷ cs) k)); conditional = refl })
    form_read x (of_cond y z w is h k l) = moved x _ _ is (printed-Cond y z w) (record { here = o.read_cond part Is reads goods y z w _ _ _ (ih (At Disjunction) y h) (ih (At Disjunction) z k) (ih (At Conditional) w l); conditional = refl })
