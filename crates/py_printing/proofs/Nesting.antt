-- The brackets of a printed tree close in order, and no more are open at once than the tree is deep.
use Rattle.std.proofs.Common.{◌≡◌, ◌∙◌, sym, ap, refl, subst, ℕ, zero, suc, ◌+◌, ◌≤◌, Bool, true, false, cond, ◌&&◌, not, List, [], ◌∷◌, ◌++◌, length, Option, Some, None, inl, inr, arith, append_assoc}
use Rattle.std.specs.Prelude.{nat_lt, map, option_map}
use Rattle.std.specs.List.{list_all}
use Rattle.std.proofs.lemmas.List.Folds.{list_all-append}
use Rattle.std.proofs.lemmas.Bool.Decides.{nat_tests}
use Rattle.py_language.specs.declared.token.Token.{Token}
use Rattle.py_language.specs.declared.token.Token.TheVariants as t
use Rattle.py_language.specs.declared.token.Mark.TheVariants as m
use Rattle.py_language.specs.declared.shape.Atom.{Atom}
use Rattle.py_language.specs.declared.shape.Atom.TheVariants as a
use Rattle.py_language.specs.declared.shape.Bracket.{Bracket}
use Rattle.py_language.specs.declared.shape.Bracket.TheVariants.{Round, Square, Brace}
use Rattle.py_language.specs.declared.shape.Shape.{Shape}
use Rattle.py_language.specs.declared.shape.Symbol.{Symbol}
use Rattle.py_language.specs.declared.shape.Symbol.TheVariants as s
use Rattle.py_language.specs.TreesPlaces.{Level, Listed, Conditional, Disjunction, Conjunction, Negation, Sum, Product, Signed, Postfix}
use Rattle.py_language.specs.Trees.{operator, shape}
use Rattle.py_syntax.specs.declared.operator.BinOp.{BinOp}
use Rattle.py_syntax.specs.declared.operator.BinOp.TheVariants.{Add, Sub, Mul, FloorDiv, Mod}
use Rattle.py_syntax.specs.declared.operator.CmpOp.{CmpOp}
use Rattle.py_syntax.specs.declared.operator.CmpOp.TheVariants.{Lt, Gt, Eq, Ge, Le, Ne, Contained, NotContained, Same, NotSame}
use Rattle.py_syntax.specs.declared.operator.Sign.{Sign}
use Rattle.py_syntax.specs.declared.operator.Sign.TheVariants.{Minus, Plus}
use Rattle.py_spelling.specs.Spelling.{is_sound, is_balanced, is_bracket, OnlyBracketsOpen}
use Rattle.py_printing.specs.Printing as p
use Rattle.py_printing.specs.Printing.{chain, after_comma, commas, enclosed, Slot, At, Callee, Owner, Printed, is_bare_in, in_slot, one, marked, argument, arguments, entry, tuple, bound, is_factor, binary, printed, print, Each, IfThere, Form, of_atom, of_list, of_tuple, of_dict, of_attr, of_index, of_slice, of_call, of_method, of_super, of_unary, of_not, of_sum, of_product, of_and, of_or, of_compare, of_cond, Node, Fits}
use Rattle.py_printing.specs.SymbolTokens.{tokens, tokens_in, super_name}
use Rattle.py_printing.proofs.Unrolled.{printed-Atom, printed-ListLit, printed-TupleLit, printed-DictLit, printed-Attr, printed-Index, printed-Slice, printed-Call, printed-Method, printed-Super, printed-Unary, printed-Not, printed-Binary, printed-And, printed-Or, printed-Compare, printed-Cond}
use Rattle.py_printing.proofs.Forms.{form_read}
use Rattle.py_printing.proofs.StructureLaw.{read_back, stripped}

and_both : (v w : Bool) → (v && w) ≡ true → (v ≡ true) × (w ≡ true)
and_both true w e = (refl, e)
and_both false w e = absurd (cc)

-- ---- lists of symbols that open at most so many brackets

abbrev pub Sound : List Symbol → Type 0
Sound xs = list_all is_sound (tokens xs) ≡ true

abbrev pub Nest : ℕ → List Symbol → Type 0
Nest d xs = (os : List ℕ) (ts : List Token) → length os + d ≤ 50 → Sound xs → is_balanced os (tokens xs ++ ts) ≡ is_balanced os ts

tokens-append : (xs ys : List Symbol) → tokens (xs ++ ys) ≡ tokens xs ++ tokens ys
tokens-append [] ys = refl
tokens-append (x ∷ xs) ys = ap (λ z. tokens_in x ++ z) (tokens-append xs ys) ∙ sym (append_assoc (tokens_in x) (tokens xs) (tokens ys))

sound_parts : (xs ys : List Symbol) → Sound (xs ++ ys) → Sound xs × Sound ys
sound_parts xs ys h = and_both (list_all is_sound (tokens xs)) (list_all is_sound (tokens ys)) (sym (ap (list_all is_sound) (tokens-append xs ys) ∙ list_all-append is_sound (tokens xs) (tokens ys)) ∙ h)

nest_append : (d : ℕ) (xs ys : List Symbol) → Nest d xs → Nest d ys → Nest d (xs ++ ys)
nest_append d xs ys f g os ts le h =
    let two = sound_parts xs ys h in
    ap (λ z. is_balanced os (z ++ ts)) (tokens-append xs ys) ∙ ap (is_balanced os) (append_assoc (tokens xs) (tokens ys) ts) ∙ f os (tokens ys ++ ts) le two.0 ∙ g os ts le two.1

nest_more : (d : ℕ) (xs : List Symbol) → Nest d xs → Nest (suc d) xs
nest_more d xs f os ts le h = f os ts (omega arith) h

nest_nil : (d : ℕ) → Nest d []
nest_nil d os ts le h = refl

-- tokens without a bracket
abbrev no_brackets : List Token → Bool
no_brackets xs = list_all (λ x. not (is_bracket x)) xs

not_true : (v : Bool) → not v ≡ true → v ≡ false
not_true false e = refl
not_true true e = absurd (cc)

-- only brackets open and close
module _ (only : OnlyBracketsOpen) where
  skip : (xs : List Token) (os : List ℕ) (ts : List Token) → no_brackets xs ≡ true → list_all is_sound xs ≡ true → is_balanced os (xs ++ ts) ≡ is_balanced os ts
  skip [] os ts b h = refl
  skip (x ∷ xs) os ts b h =
      let two = and_both (not (is_bracket x)) (no_brackets xs) b in
      let good = and_both (is_sound x) (list_all is_sound xs) h in
      let w = only x good.0 (not_true (is_bracket x) two.0) in
      rw (w.fits os, w.same os) (skip xs os ts two.1 good.1)

  nest_cons : (d : ℕ) (x : Symbol) (xs : List Symbol) → no_brackets (tokens_in x) ≡ true → Nest d xs → Nest d (x ∷ xs)
  nest_cons d x xs b f os ts le h =
      let two = and_both (list_all is_sound (tokens_in x)) (list_all is_sound (tokens xs)) (sym (list_all-append is_sound (tokens_in x) (tokens xs)) ∙ h) in
      ap (is_balanced os) (append_assoc (tokens_in x) (tokens xs) ts) ∙ skip (tokens_in x) os (tokens xs ++ ts) b two.0 ∙ f os ts le two.1

  opening_few : (n d : ℕ) → n + suc d ≤ 50 → nat_lt n 50 ≡ true
  opening_few n d le = grind (arith, nat_tests)

  nest_enclosed : (d : ℕ) (b : Bracket) (xs : List Symbol) → Nest d xs → Nest (suc d) (enclosed b xs)
  nest_enclosed d b xs f os ts le h = by_bracket b h
    where
      few : nat_lt (length os) 50 ≡ true
      few = opening_few (length os) d le

      by_bracket : (b : Bracket) → Sound (enclosed b xs) → is_balanced os (tokens (enclosed b xs) ++ ts) ≡ is_balanced os ts
      by_bracket Round h =
          let two = sound_parts xs (s.Close Round ∷ []) h in
          rw few (ap (λ z. is_balanced (40 ∷ os) (z ++ ts)) (tokens-append xs (s.Close Round ∷ [])) ∙ ap (is_balanced (40 ∷ os)) (append_assoc (tokens xs) (t.Mark m.RightParen ∷ []) ts) ∙ f (40 ∷ os) (t.Mark m.RightParen ∷ ts) (omega arith) two.0)
      by_bracket Square h =
          let two = sound_parts xs (s.Close Square ∷ []) h in
          rw few (ap (λ z. is_balanced (91 ∷ os) (z ++ ts)) (tokens-append xs (s.Close Square ∷ [])) ∙ ap (is_balanced (91 ∷ os)) (append_assoc (tokens xs) (t.Mark m.RightBracket ∷ []) ts) ∙ f (91 ∷ os) (t.Mark m.RightBracket ∷ ts) (omega arith) two.0)
      by_bracket Brace h =
          let two = sound_parts xs (s.Close Brace ∷ []) h in
          rw few (ap (λ z. is_balanced (123 ∷ os) (z ++ ts)) (tokens-append xs (s.Close Brace ∷ [])) ∙ ap (is_balanced (123 ∷ os)) (append_assoc (tokens xs) (t.Mark m.RightBrace ∷ []) ts) ∙ f (123 ∷ os) (t.Mark m.RightBrace ∷ ts) (omega arith) two.0)

  -- `super().name`
  nest_super : (d : ℕ) (n : List ℕ) (xs : List Symbol) → Nest (suc d) xs → Nest (suc d) (s.Super n ∷ xs)
  nest_super d n xs f os ts le h =
      let few = opening_few (length os) d le in
      let whole = and_both (is_sound (t.Name super_name)) (is_sound (t.Name n) && list_all is_sound (tokens xs)) h in
      let two = and_both (is_sound (t.Name n)) (list_all is_sound (tokens xs)) whole.1 in
      let w = only (t.Name n) two.0 refl in
      rw (few, w.fits os, w.same os) (f os ts le two.1)

  nest_chain : (d : ℕ) (xs : List Symbol) (qs : List (Symbol × List Symbol)) → Nest d xs → Each (λ (q : Symbol × List Symbol). (no_brackets (tokens_in q.0) ≡ true) × Nest d q.1) qs → Nest d (chain xs qs)
  nest_chain d xs [] f g = f
  nest_chain d xs (q ∷ qs) f g = nest_append d xs (q.0 ∷ chain q.1 qs) f (nest_cons d q.0 (chain q.1 qs) g.0.0 (nest_chain d q.1 qs g.0.1 g.1))

  abbrev AllNest : ℕ → List (List Symbol) → Type 0
  AllNest d ts = Each (Nest d) ts

  nest_commas : (d : ℕ) (ts : List (List Symbol)) → AllNest d ts → Nest d (commas ts)
  nest_commas d [] h = nest_nil d
  nest_commas d (t ∷ ts) h = nest_chain d t (map after_comma ts) h.0 (behind ts h.1)
    where
      behind : (ts : List (List Symbol)) → AllNest d ts → Each (λ (q : Symbol × List Symbol). (no_brackets (tokens_in q.0) ≡ true) × Nest d q.1) (map after_comma ts)
      behind [] h = tt
      behind (t ∷ ts) h = ((refl, h.0), behind ts h.1)

  nest_marked : (d : ℕ) (k : Symbol) (ts : List (List Symbol)) → no_brackets (tokens_in k) ≡ true → AllNest d ts → Each (λ (q : Symbol × List Symbol). (no_brackets (tokens_in q.0) ≡ true) × Nest d q.1) (marked k ts)
  nest_marked d k [] b h = tt
  nest_marked d k (t ∷ ts) b h = ((b, h.0), nest_marked d k ts b h.1)

  truth_plain : (x : Atom) → no_brackets (tokens_in (s.Atom x)) ≡ true
  truth_plain a.NoneLit = refl
  truth_plain (a.BoolLit true) = refl
  truth_plain (a.BoolLit false) = refl
  truth_plain (a.IntLit n) = refl
  truth_plain (a.StrLit x) = refl
  truth_plain (a.Name n) = refl

  sign_plain : (g : Sign) → no_brackets (tokens_in (s.Sign g)) ≡ true
  sign_plain Minus = refl
  sign_plain Plus = refl

  compare_plain : (op : CmpOp) → no_brackets (tokens_in (s.Compare op)) ≡ true
  compare_plain Lt = refl
  compare_plain Gt = refl
  compare_plain Eq = refl
  compare_plain Ge = refl
  compare_plain Le = refl
  compare_plain Ne = refl
  compare_plain Contained = refl
  compare_plain NotContained = refl
  compare_plain Same = refl
  compare_plain NotSame = refl

  module _ (d : ℕ) (P : Slot → Shape → Type 0) (ih : (slot : Slot) (x : Shape) → P slot x → Nest d (print slot x)) where
    all_nest : (l : Level) (xs : List Shape) → Each (P (At l)) xs → AllNest d (map (in_slot (At l)) (map printed xs))
    all_nest l [] h = tt
    all_nest l (x ∷ xs) h = (ih (At l) x h.0, all_nest l xs h.1)

    argument_nest : (n : Option (List ℕ)) (x : Shape) → P (At Conditional) x → Nest d (argument (n, printed x))
    argument_nest None x h = ih (At Conditional) x h
    argument_nest (Some n) x h = nest_cons d (s.Atom (a.Name n)) (s.Equal ∷ print (At Conditional) x) refl (nest_cons d s.Equal (print (At Conditional) x) refl (ih (At Conditional) x h))

    args_nest : (xs : List (Option (List ℕ) × Shape)) → Each (λ (p : Option (List ℕ) × Shape). P (At Conditional) p.1) xs → AllNest d (map argument (map (λ (p : Option (List ℕ) × Shape). (p.0, printed p.1)) xs))
    args_nest [] h = tt
    args_nest (x ∷ xs) h = (argument_nest x.0 x.1 h.0, args_nest xs h.1)

    arguments_nest : (xs : List (Option (List ℕ) × Shape)) → Each (λ (p : Option (List ℕ) × Shape). P (At Conditional) p.1) xs → Nest (suc d) (arguments (map (λ (p : Option (List ℕ) × Shape). (p.0, printed p.1)) xs))
    arguments_nest xs h = nest_enclosed d Round (commas (map argument (map (λ (p : Option (List ℕ) × Shape). (p.0, printed p.1)) xs))) (nest_commas d (map argument (map (λ (p : Option (List ℕ) × Shape). (p.0, printed p.1)) xs)) (args_nest xs h))

    entries_nest : (xs : List (Shape × Shape)) → Each (λ (p : Shape × Shape). P (At Conditional) p.0 × P (At Conditional) p.1) xs → AllNest d (map entry (map (λ (p : Shape × Shape). (printed p.0, printed p.1)) xs))
    entries_nest [] h = tt
    entries_nest (x ∷ xs) h = (nest_append d (print (At Conditional) x.0) (s.Colon ∷ print (At Conditional) x.1) (ih (At Conditional) x.0 h.0.0) (nest_cons d s.Colon (print (At Conditional) x.1) refl (ih (At Conditional) x.1 h.0.1)), entries_nest xs h.1)

    bound_nest : (low : Option Shape) → IfThere (P (At Conditional)) low → Nest d (bound (option_map printed low))
    bound_nest None h = nest_nil d
    bound_nest (Some x) h = ih (At Conditional) x h

    tuple_nest : (xs : List Shape) → Each (P (At Conditional)) xs → Nest d (tuple (map one (map printed xs)))
    tuple_nest [] h = nest_nil d
    tuple_nest (x ∷ []) h = nest_append d (print (At Conditional) x) (s.Comma ∷ []) (ih (At Conditional) x h.0) (nest_cons d s.Comma [] refl (nest_nil d))
    tuple_nest (x ∷ y ∷ ys) h = nest_commas d (map one (map printed (x ∷ y ∷ ys))) (all_nest Conditional (x ∷ y ∷ ys) h)

    compared_nest : (cs : List (CmpOp × Shape)) → Each (λ (c : CmpOp × Shape). P (At Sum) c.1) cs → Each (λ (q : Symbol × List Symbol). (no_brackets (tokens_in q.0) ≡ true) × Nest d q.1) (p.compared (map (λ (c : CmpOp × Shape). (c.0, printed c.1)) cs))
    compared_nest [] h = tt
    compared_nest (c ∷ cs) h = ((compare_plain c.0, ih (At Sum) c.1 h.0), compared_nest cs h.1)

    moved : (x y : Shape) (p : Printed) → x ≡ y → printed y ≡ p → Nest (suc d) p.bare → Nest (suc d) (printed x).bare
    moved x y p is eq h = subst (λ (q : Printed). Nest (suc d) q.bare) (sym (ap printed is ∙ eq)) h

    -- a part, a mark and a part
    two_nest : (xs ys : List Symbol) (k : Symbol) → no_brackets (tokens_in k) ≡ true → Nest d xs → Nest d ys → Nest (suc d) (xs ++ k ∷ ys)
    two_nest xs ys k b f g = nest_more d (xs ++ k ∷ ys) (nest_append d xs (k ∷ ys) f (nest_cons d k ys b g))

    binary_nest : (op : BinOp) (y z : Shape) (q : Printed) → q ≡ binary op (printed y) (printed z) → (is_factor op ≡ true → P (At Product) y × P (At Signed) z) → (is_factor op ≡ false → P (At Sum) y × P (At Product) z) → Nest (suc d) q.bare
    binary_nest op y z q e f g = subst (λ (q : Printed). Nest (suc d) q.bare) (sym e) (by_op op f g)
      where
        by_op : (op : BinOp) → (is_factor op ≡ true → P (At Product) y × P (At Signed) z) → (is_factor op ≡ false → P (At Sum) y × P (At Product) z) → Nest (suc d) (binary op (printed y) (printed z)).bare
        by_op Add f g = let k = g refl in two_nest (print (At Sum) y) (print (At Product) z) (s.Sign Plus) refl (ih (At Sum) y k.0) (ih (At Product) z k.1)
        by_op Sub f g = let k = g refl in two_nest (print (At Sum) y) (print (At Product) z) (s.Sign Minus) refl (ih (At Sum) y k.0) (ih (At Product) z k.1)
        by_op Mul f g = let k = f refl in two_nest (print (At Product) y) (print (At Signed) z) (s.Factor Mul) refl (ih (At Product) y k.0) (ih (At Signed) z k.1)
        by_op FloorDiv f g = let k = f refl in two_nest (print (At Product) y) (print (At Signed) z) (s.Factor FloorDiv) refl (ih (At Product) y k.0) (ih (At Signed) z k.1)
        by_op Mod f g = let k = f refl in two_nest (print (At Product) y) (print (At Signed) z) (s.Factor Mod) refl (ih (At Product) y k.0) (ih (At Signed) z k.1)

    sum_factor : (g : Sign) → is_factor (operator (s.Sign g)) ≡ false
    sum_factor Plus = refl
    sum_factor Minus = refl

    form_nest : (x : Shape) → Form P x → Nest (suc d) (printed x).bare
    form_nest x (of_atom v is) = moved x _ _ is (printed-Atom v) (nest_cons (suc d) (s.Atom v) [] (truth_plain v) (nest_nil (suc d)))
    form_nest x (of_list xs is h) = moved x _ _ is (printed-ListLit xs) (nest_enclosed d Square (commas (map one (map printed xs))) (nest_commas d (map one (map printed xs)) (all_nest Conditional xs h)))
    form_nest x (of_tuple xs is h) = moved x _ _ is (printed-TupleLit xs) (nest_enclosed d Round (tuple (map one (map printed xs))) (tuple_nest xs h))
    form_nest x (of_dict xs is h) = moved x _ _ is (printed-DictLit xs) (nest_enclosed d Brace (commas (map entry (map (λ (p : Shape × Shape). (printed p.0, printed p.1)) xs))) (nest_commas d (map entry (map (λ (p : Shape × Shape). (printed p.0, printed p.1)) xs)) (entries_nest xs h)))
    form_nest x (of_attr y n is h) = moved x _ _ is (printed-Attr y n) (two_nest (print (At Postfix) y) [] (s.Attribute n) refl (ih (At Postfix) y h) (nest_nil d))
    form_nest x (of_index y i is h k) = moved x _ _ is (printed-Index y i) (nest_append (suc d) (print (At Postfix) y) (enclosed Square (print (At Listed) i)) (nest_more d (print (At Postfix) y) (ih (At Postfix) y h)) (nest_enclosed d Square (print (At Listed) i) (ih (At Listed) i k)))
    form_nest x (of_slice y low high is h k l) =
        let inner = bound (option_map printed low) ++ s.Colon ∷ bound (option_map printed high) in
        let n : Nest d inner = nest_append d (bound (option_map printed low)) (s.Colon ∷ bound (option_map printed high)) (bound_nest low k) (nest_cons d s.Colon (bound (option_map printed high)) refl (bound_nest high l)) in
        moved x _ _ is (printed-Slice y low high) (nest_append (suc d) (print (At Postfix) y) (enclosed Square inner) (nest_more d (print (At Postfix) y) (ih (At Postfix) y h)) (nest_enclosed d Square inner n))
    form_nest x (of_call y xs is h k) = moved x _ _ is (printed-Call y xs) (nest_append (suc d) (print Callee y) (arguments (map (λ (p : Option (List ℕ) × Shape). (p.0, printed p.1)) xs)) (nest_more d (print Callee y) (ih Callee y h)) (arguments_nest xs k))
    form_nest x (of_method y n xs is h k) = moved x _ _ is (printed-Method y n xs) (nest_append (suc d) (print Owner y) (s.Method n ∷ arguments (map (λ (p : Option (List ℕ) × Shape). (p.0, printed p.1)) xs)) (nest_more d (print Owner y) (ih Owner y h)) (nest_cons (suc d) (s.Method n) (arguments (map (λ (p : Option (List ℕ) × Shape). (p.0, printed p.1)) xs)) refl (arguments_nest xs k)))
    form_nest x (of_super n xs is k) = moved x _ _ is (printed-Super n xs) (nest_super d n (arguments (map (λ (p : Option (List ℕ) × Shape). (p.0, printed p.1)) xs)) (arguments_nest xs k))
    form_nest x (of_unary g y is h) = moved x _ _ is (printed-Unary g y) (nest_more d (s.Sign g ∷ print (At Signed) y) (nest_cons d (s.Sign g) (print (At Signed) y) (sign_plain g) (ih (At Signed) y h)))
    form_nest x (of_not y is h) = moved x _ _ is (printed-Not y) (nest_more d (s.Not ∷ print (At Negation) y) (nest_cons d s.Not (print (At Negation) y) refl (ih (At Negation) y h)))
    form_nest x (of_sum g y z is h k) = binary_nest (operator (s.Sign g)) y z (printed x) (ap printed is ∙ printed-Binary (operator (s.Sign g)) y z) (λ f. absurd (let wrong : true ≡ false = sym f ∙ sum_factor g in cc)) (λ f. (h, k))
    form_nest x (of_product op y z f is h k) = binary_nest op y z (printed x) (ap printed is ∙ printed-Binary op y z) (λ g. (h, k)) (λ g. absurd (let wrong : true ≡ false = sym f ∙ g in cc))
    form_nest x (of_and y z xs is h) = moved x _ _ is (printed-And (y ∷ z ∷ xs)) (nest_more d (chain (print (At Negation) y) (marked s.And (map (in_slot (At Negation)) (map printed (z ∷ xs))))) (nest_chain d (print (At Negation) y) (marked s.And (map (in_slot (At Negation)) (map printed (z ∷ xs)))) (ih (At Negation) y h.0) (nest_marked d s.And (map (in_slot (At Negation)) (map printed (z ∷ xs))) refl (all_nest Negation (z ∷ xs) h.1))))
    form_nest x (of_or y z xs is h) = moved x _ _ is (printed-Or (y ∷ z ∷ xs)) (nest_more d (chain (print (At Conjunction) y) (marked s.Or (map (in_slot (At Conjunction)) (map printed (z ∷ xs))))) (nest_chain d (print (At Conjunction) y) (marked s.Or (map (in_slot (At Conjunction)) (map printed (z ∷ xs)))) (ih (At Conjunction) y h.0) (nest_marked d s.Or (map (in_slot (At Conjunction)) (map printed (z ∷ xs))) refl (all_nest Conjunction (z ∷ xs) h.1))))
    form_nest x (of_compare y c cs is h k) = moved x _ _ is (printed-Compare y (c ∷ cs)) (nest_more d (chain (print (At Sum) y) (p.compared (map (λ (c : CmpOp × Shape). (c.0, printed c.1)) (c ∷ cs)))) (nest_chain d (print (At Sum) y) (p.compared (map (λ (c : CmpOp × Shape). (c.0, printed c.1)) (c ∷ cs))) (ih (At Sum) y h) (compared_nest (c ∷ cs) k)))
    form_nest x (of_cond y z w is h k l) = moved x _ _ is (printed-Cond y z w) (two_nest (print (At Disjunction) y) (print (At Disjunction) z ++ s.Else ∷ print (At Conditional) w) s.If refl (ih (At Disjunction) y h) (nest_append d (print (At Disjunction) z) (s.Else ∷ print (At Conditional) w) (ih (At Disjunction) z k) (nest_cons d s.Else (print (At Conditional) w) refl (ih (At Conditional) w l))))

    -- in its slot, with brackets where they are put
    slot_nest : (slot : Slot) (x : Shape) (v : Bool) → Form P x → (v ≡ false → Nest d (printed x).bare) → Nest (suc d) (cond v (printed x).bare (enclosed Round (printed x).bare))
    slot_nest slot x true f g = form_nest x f
    slot_nest slot x false f g = nest_enclosed d Round (printed x).bare (g refl)

  form_in : (d : ℕ) (slot : Slot) (x : Shape) → Node (Fits d) slot x → Form (Fits d) x
  form_in d slot x (inl h) = h.1
  form_in d slot x (inr h) = stripped d x h

  inner_in : (d : ℕ) (slot : Slot) (x : Shape) → ((s : Slot) (y : Shape) → Fits d s y → Nest d (print s y)) → Node (Fits d) slot x → is_bare_in slot (printed x) ≡ false → Nest d (printed x).bare
  inner_in d slot x ih (inl h) e = absurd (let wrong : false ≡ true = sym e ∙ h.0 in cc)
  inner_in d slot x ih (inr h) e =
      let w = form_read (shape d) (Fits d) (λ s y k. read_back d s y k) x (stripped d x h) in
      subst (λ v. Nest d (cond v (printed x).bare (enclosed Round (printed x).bare))) w.conditional (ih (At Conditional) x h)

  pub print_nests : (d : ℕ) (slot : Slot) (x : Shape) → Fits d slot x → Nest d (print slot x)
  print_nests zero slot x h = absurd h
  print_nests (suc d) slot x h = slot_nest d (Fits d) (λ s y k. print_nests d s y k) slot x (is_bare_in slot (printed x)) (form_in d slot x h) (inner_in d slot x (λ s y k. print_nests d s y k) h)
