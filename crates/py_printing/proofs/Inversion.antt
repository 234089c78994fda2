-- A tree that is read at a level has a form whose parts are read: nothing else is read.
use Rattle.std.proofs.Common.{◌≡◌, ◌∙◌, sym, ap, refl, subst, ℕ, ◌≤◌, Bool, true, false, ◌&&◌, List, [], ◌∷◌, ◌++◌, Option, Some, None, inl, inr, arith, append-nil, append_assoc}
use Rattle.std.specs.Prelude.{◌==◌, nat_le, map}
use Rattle.std.proofs.lemmas.Bool.Decides.{nat_tests}
use Rattle.py_cut.specs.Cut.{scan, Passes, Stops}
use Rattle.py_cut.specs.Cut as cut
use Rattle.py_language.specs.declared.shape.Atom.TheVariants as a
use Rattle.py_language.specs.declared.shape.Bracket.TheVariants.{Round, Square, Brace}
use Rattle.py_language.specs.declared.shape.Shape.{Shape, Shape-F}
use Rattle.py_language.specs.declared.shape.Shape.TheVariants as e
use Rattle.py_language.specs.declared.shape.Symbol.{Symbol}
use Rattle.py_language.specs.declared.shape.Symbol.TheVariants as s
use Rattle.py_language.specs.TreesPlaces.{Level, Listed, Conditional, Disjunction, Conjunction, Negation, Comparison, Sum, Product, Signed, Postfix, Place, start, next, number, rank, at, below, colon, front, back, pieces, last_cut}
use Rattle.py_language.specs.Trees.{◌>>=◌, operator, comparator, inside, each, comma_list, in_two, in_all, tuple_or, rounded, argument, arguments, entry_by, entry, atom, bound, subscript_by, subscript, group, at_level, listed, conditional, disjunction, conjunction, negation, comparison, sum, product, signed, postfix, otherwise, chosen}
use Rattle.py_syntax.specs.declared.operator.BinOp.{BinOp}
use Rattle.py_syntax.specs.declared.operator.CmpOp.{CmpOp}
use Rattle.py_syntax.specs.declared.operator.Sign.{Sign}
use Rattle.py_printing.proofs.Unrolled.{printed-Atom, printed-ListLit, printed-TupleLit, printed-DictLit, printed-Attr, printed-Index, printed-Slice, printed-Call, printed-Method, printed-Super, printed-Unary, printed-Not, printed-Binary, printed-And, printed-Or, printed-Compare, printed-Cond}
use Rattle.py_printing.proofs.Wholes.{Whole, holds, whole_front, whole_back, front_whole, back_whole, pieces_whole}
use Rattle.py_cut.proofs.Cuts.{last_cut-joined}
use Rattle.py_syntax.specs.declared.operator.Sign.TheVariants.{Minus, Plus}
use Rattle.py_syntax.specs.declared.operator.BinOp.TheVariants.{Add, Sub, Mul, FloorDiv, Mod}
use Rattle.py_printing.specs.Printing.{Slot, At, Callee, Owner, Lone, level, Printed, is_bare_in, is_factor, binary, print_node, printed, Each, IfThere, Form, of_atom, of_list, of_tuple, of_dict, of_attr, of_index, of_slice, of_call, of_method, of_super, of_unary, of_not, of_sum, of_product, of_and, of_or, of_compare, of_cond, Node}
use Rattle.py_printing.proofs.Unwrapping.{bind_inv, some_same, no_answer, each_inv, each_some, comma_inv, none_inv, inside_whole, inside_nothing, Follows, moved, low, anywhere, atom_anywhere}

module _ (part : Level → List Symbol → Option Shape) (P : Slot → Shape → Type 0)
    (H : (l : Level) (xs : List Symbol) (x : Shape) → Whole xs → part l xs ≡ Some x → P (At l) x)
    (HP : (slot : Slot) (xs rest : List Symbol) (x : Shape) → level slot ≡ Postfix → Follows slot rest → Whole (xs ++ rest) → part Postfix xs ≡ Some x → P slot x)
    (HS : (ys gs : List Symbol) (n : List ℕ) (y : Shape) → Whole (ys ++ s.Open Round ∷ s.Close Round ∷ s.Method n ∷ gs) → part Postfix ys ≡ Some y → (printed y).is_name ≡ true → P (At Conditional) (e.Call y [])) where
  -- ---- atoms

  listing : (xs : List Symbol) (vs : List Shape) → Whole xs → comma_list (part Conditional) xs ≡ Some vs → Each (P (At Conditional)) vs
  listing xs vs w e = comma_inv (part Conditional) (P (At Conditional)) (λ t v wt h. H Conditional t v wt h) xs vs w e

  abbrev ArgumentIs : Option (List ℕ) × Shape → Type 0
  ArgumentIs p = P (At Conditional) p.1

  plain_inv : (xs : List Symbol) (v : Option (List ℕ) × Shape) → Whole xs → (part Conditional xs >>= λ x. Some (None, x)) ≡ Some v → ArgumentIs v
  plain_inv xs v w h =
      let b = bind_inv (part Conditional xs) (λ x. Some (None, x)) v h in
      subst ArgumentIs (some_same (None, b.0) v b.1.1) (H Conditional xs b.0 w b.1.0)

  named_inv : (n : List ℕ) (xs : List Symbol) (v : Option (List ℕ) × Shape) → Whole xs → (part Conditional xs >>= λ x. Some (Some n, x)) ≡ Some v → ArgumentIs v
  named_inv n xs v w h =
      let b = bind_inv (part Conditional xs) (λ x. Some (Some n, x)) v h in
      subst ArgumentIs (some_same (Some n, b.0) v b.1.1) (H Conditional xs b.0 w b.1.0)

  argument_inv : (xs : List Symbol) (v : Option (List ℕ) × Shape) → Whole xs → argument part xs ≡ Some v → ArgumentIs v
  argument_inv [] v w h = plain_inv [] v w h
  argument_inv ((s.Super y) ∷ xs) v w h = plain_inv ((s.Super y) ∷ xs) v w h
  argument_inv ((s.Method y) ∷ xs) v w h = plain_inv ((s.Method y) ∷ xs) v w h
  argument_inv ((s.Attribute y) ∷ xs) v w h = plain_inv ((s.Attribute y) ∷ xs) v w h
  argument_inv ((s.Sign y) ∷ xs) v w h = plain_inv ((s.Sign y) ∷ xs) v w h
  argument_inv ((s.Factor y) ∷ xs) v w h = plain_inv ((s.Factor y) ∷ xs) v w h
  argument_inv ((s.Compare y) ∷ xs) v w h = plain_inv ((s.Compare y) ∷ xs) v w h
  argument_inv (s.Or ∷ xs) v w h = plain_inv (s.Or ∷ xs) v w h
  argument_inv (s.And ∷ xs) v w h = plain_inv (s.And ∷ xs) v w h
  argument_inv (s.Not ∷ xs) v w h = plain_inv (s.Not ∷ xs) v w h
  argument_inv (s.If ∷ xs) v w h = plain_inv (s.If ∷ xs) v w h
  argument_inv (s.Else ∷ xs) v w h = plain_inv (s.Else ∷ xs) v w h
  argument_inv (s.Comma ∷ xs) v w h = plain_inv (s.Comma ∷ xs) v w h
  argument_inv (s.Colon ∷ xs) v w h = plain_inv (s.Colon ∷ xs) v w h
  argument_inv (s.Equal ∷ xs) v w h = plain_inv (s.Equal ∷ xs) v w h
  argument_inv ((s.Open y) ∷ xs) v w h = plain_inv ((s.Open y) ∷ xs) v w h
  argument_inv ((s.Close y) ∷ xs) v w h = plain_inv ((s.Close y) ∷ xs) v w h
  argument_inv (s.Other ∷ xs) v w h = plain_inv (s.Other ∷ xs) v w h
  argument_inv (s.Atom a.NoneLit ∷ xs) v w h = plain_inv (s.Atom a.NoneLit ∷ xs) v w h
  argument_inv (s.Atom (a.BoolLit b) ∷ xs) v w h = plain_inv (s.Atom (a.BoolLit b) ∷ xs) v w h
  argument_inv (s.Atom (a.IntLit n) ∷ xs) v w h = plain_inv (s.Atom (a.IntLit n) ∷ xs) v w h
  argument_inv (s.Atom (a.StrLit z) ∷ xs) v w h = plain_inv (s.Atom (a.StrLit z) ∷ xs) v w h
  argument_inv (s.Atom (a.Name n) ∷ []) v w h = plain_inv (s.Atom (a.Name n) ∷ []) v w h
  argument_inv (s.Atom (a.Name n) ∷ (s.Atom y) ∷ xs) v w h = plain_inv (s.Atom (a.Name n) ∷ (s.Atom y) ∷ xs) v w h
  argument_inv (s.Atom (a.Name n) ∷ (s.Super y) ∷ xs) v w h = plain_inv (s.Atom (a.Name n) ∷ (s.Super y) ∷ xs) v w h
  argument_inv (s.Atom (a.Name n) ∷ (s.Method y) ∷ xs) v w h = plain_inv (s.Atom (a.Name n) ∷ (s.Method y) ∷ xs) v w h
  argument_inv (s.Atom (a.Name n) ∷ (s.Attribute y) ∷ xs) v w h = plain_inv (s.Atom (a.Name n) ∷ (s.Attribute y) ∷ xs) v w h
  argument_inv (s.Atom (a.Name n) ∷ (s.Sign y) ∷ xs) v w h = plain_inv (s.Atom (a.Name n) ∷ (s.Sign y) ∷ xs) v w h
  argument_inv (s.Atom (a.Name n) ∷ (s.Factor y) ∷ xs) v w h = plain_inv (s.Atom (a.Name n) ∷ (s.Factor y) ∷ xs) v w h
  argument_inv (s.Atom (a.Name n) ∷ (s.Compare y) ∷ xs) v w h = plain_inv (s.Atom (a.Name n) ∷ (s.Compare y) ∷ xs) v w h
  argument_inv (s.Atom (a.Name n) ∷ s.Or ∷ xs) v w h = plain_inv (s.Atom (a.Name n) ∷ s.Or ∷ xs) v w h
  argument_inv (s.Atom (a.Name n) ∷ s.And ∷ xs) v w h = plain_inv (s.Atom (a.Name n) ∷ s.And ∷ xs) v w h
  argument_inv (s.Atom (a.Name n) ∷ s.Not ∷ xs) v w h = plain_inv (s.Atom (a.Name n) ∷ s.Not ∷ xs) v w h
  argument_inv (s.Atom (a.Name n) ∷ s.If ∷ xs) v w h = plain_inv (s.Atom (a.Name n) ∷ s.If ∷ xs) v w h
  argument_inv (s.Atom (a.Name n) ∷ s.Else ∷ xs) v w h = plain_inv (s.Atom (a.Name n) ∷ s.Else ∷ xs) v w h
  argument_inv (s.Atom (a.Name n) ∷ s.Comma ∷ xs) v w h = plain_inv (s.Atom (a.Name n) ∷ s.Comma ∷ xs) v w h
  argument_inv (s.Atom (a.Name n) ∷ s.Colon ∷ xs) v w h = plain_inv (s.Atom (a.Name n) ∷ s.Colon ∷ xs) v w h
  argument_inv (s.Atom (a.Name n) ∷ s.Equal ∷ xs) v w h = named_inv n xs v w.1.1 h
  argument_inv (s.Atom (a.Name n) ∷ (s.Open y) ∷ xs) v w h = plain_inv (s.Atom (a.Name n) ∷ (s.Open y) ∷ xs) v w h
  argument_inv (s.Atom (a.Name n) ∷ (s.Close y) ∷ xs) v w h = plain_inv (s.Atom (a.Name n) ∷ (s.Close y) ∷ xs) v w h
  argument_inv (s.Atom (a.Name n) ∷ s.Other ∷ xs) v w h = plain_inv (s.Atom (a.Name n) ∷ s.Other ∷ xs) v w h

  arguments_inv : (xs : List Symbol) (vs : List (Option (List ℕ) × Shape)) → Whole xs → arguments part xs ≡ Some vs → Each ArgumentIs vs
  arguments_inv xs vs w h = comma_inv (argument part) ArgumentIs argument_inv xs vs w h

  abbrev EntryIs : Shape × Shape → Type 0
  EntryIs p = P (At Conditional) p.0 × P (At Conditional) p.1

  entry_by_inv : (key rest : List Symbol) (v : Shape × Shape) → Whole key → Whole rest → entry_by part key rest ≡ Some v → EntryIs v
  entry_by_inv key [] v w u h = no_answer v h
  entry_by_inv key (s.Colon ∷ value) v w u h =
      let b = bind_inv (part Conditional key) (λ k. part Conditional value >>= λ v. Some (k, v)) v h in
      let c = bind_inv (part Conditional value) (λ v. Some (b.0, v)) v b.1.1 in
      subst EntryIs (some_same (b.0, c.0) v c.1.1) (H Conditional key b.0 w b.1.0, H Conditional value c.0 u.1 c.1.0)
  entry_by_inv key ((s.Atom y) ∷ zs) v w u h = no_answer v h
  entry_by_inv key ((s.Super y) ∷ zs) v w u h = no_answer v h
  entry_by_inv key ((s.Method y) ∷ zs) v w u h = no_answer v h
  entry_by_inv key ((s.Attribute y) ∷ zs) v w u h = no_answer v h
  entry_by_inv key ((s.Sign y) ∷ zs) v w u h = no_answer v h
  entry_by_inv key ((s.Factor y) ∷ zs) v w u h = no_answer v h
  entry_by_inv key ((s.Compare y) ∷ zs) v w u h = no_answer v h
  entry_by_inv key (s.Or ∷ zs) v w u h = no_answer v h
  entry_by_inv key (s.And ∷ zs) v w u h = no_answer v h
  entry_by_inv key (s.Not ∷ zs) v w u h = no_answer v h
  entry_by_inv key (s.If ∷ zs) v w u h = no_answer v h
  entry_by_inv key (s.Else ∷ zs) v w u h = no_answer v h
  entry_by_inv key (s.Comma ∷ zs) v w u h = no_answer v h
  entry_by_inv key (s.Equal ∷ zs) v w u h = no_answer v h
  entry_by_inv key ((s.Open y) ∷ zs) v w u h = no_answer v h
  entry_by_inv key ((s.Close y) ∷ zs) v w u h = no_answer v h
  entry_by_inv key (s.Other ∷ zs) v w u h = no_answer v h

  entry_inv : (xs : List Symbol) (v : Shape × Shape) → Whole xs → entry part xs ≡ Some v → EntryIs v
  entry_inv xs v w h = entry_by_inv (front colon xs) (back colon xs) v (front_whole colon start xs w) (back_whole colon start xs w) h

  rounded_inv : (slot : Slot) (xs : List Symbol) (x : Shape) → Whole xs → rounded part xs ≡ Some x → Node P slot x
  rounded_inv slot [] x w h =
      let is = sym (some_same (e.TupleLit []) x h) in
      inl (moved slot x _ _ is (printed-TupleLit []) (anywhere slot _), of_tuple [] is tt)
  rounded_inv slot (z ∷ zs) x w h = tuple_by (pieces (at Listed) (z ∷ zs)) h
    where
      tuple_by : (ps : List (Symbol × List Symbol)) → tuple_or part (part Conditional) ps (z ∷ zs) ≡ Some x → Node P slot x
      tuple_by [] h = inr (H Conditional (z ∷ zs) x w h)
      tuple_by (p ∷ ps) h =
          let b = bind_inv (comma_list (part Conditional) (z ∷ zs)) (λ all. Some (e.TupleLit all)) x h in
          let is = sym (some_same (e.TupleLit b.0) x b.1.1) in
          inl (moved slot x _ _ is (printed-TupleLit b.0) (anywhere slot _), of_tuple b.0 is (listing (z ∷ zs) b.0 w b.1.0))

  super_inv : (slot : Slot) (n : List ℕ) (zs : List Symbol) (x : Shape) → Whole zs → (inside Round zs >>= λ v. arguments part v >>= λ args. Some (e.Super n args)) ≡ Some x → Node P slot x
  super_inv slot n zs x w h =
      let b = bind_inv (inside Round zs) (λ v. arguments part v >>= λ args. Some (e.Super n args)) x h in
      let c = bind_inv (arguments part b.0) (λ args. Some (e.Super n args)) x b.1.1 in
      let is = sym (some_same (e.Super n c.0) x c.1.1) in
      inl (moved slot x _ _ is (printed-Super n c.0) (anywhere slot _), of_super n c.0 is (arguments_inv b.0 c.0 (inside_whole Round zs b.0 w b.1.0) c.1.0))

  round_inv : (slot : Slot) (zs : List Symbol) (x : Shape) → Whole zs → (inside Round zs >>= rounded part) ≡ Some x → Node P slot x
  round_inv slot zs x w h = let b = bind_inv (inside Round zs) (rounded part) x h in rounded_inv slot b.0 x (inside_whole Round zs b.0 w b.1.0) b.1.1

  list_inv : (slot : Slot) (zs : List Symbol) (x : Shape) → Whole zs → (inside Square zs >>= λ v. comma_list (part Conditional) v >>= λ all. Some (e.ListLit all)) ≡ Some x → Node P slot x
  list_inv slot zs x w h =
      let b = bind_inv (inside Square zs) (λ v. comma_list (part Conditional) v >>= λ all. Some (e.ListLit all)) x h in
      let c = bind_inv (comma_list (part Conditional) b.0) (λ all. Some (e.ListLit all)) x b.1.1 in
      let is = sym (some_same (e.ListLit c.0) x c.1.1) in
      inl (moved slot x _ _ is (printed-ListLit c.0) (anywhere slot _), of_list c.0 is (listing b.0 c.0 (inside_whole Square zs b.0 w b.1.0) c.1.0))

  dict_inv : (slot : Slot) (zs : List Symbol) (x : Shape) → Whole zs → (inside Brace zs >>= λ v. comma_list (entry part) v >>= λ all. Some (e.DictLit all)) ≡ Some x → Node P slot x
  dict_inv slot zs x w h =
      let b = bind_inv (inside Brace zs) (λ v. comma_list (entry part) v >>= λ all. Some (e.DictLit all)) x h in
      let c = bind_inv (comma_list (entry part) b.0) (λ all. Some (e.DictLit all)) x b.1.1 in
      let is = sym (some_same (e.DictLit c.0) x c.1.1) in
      inl (moved slot x _ _ is (printed-DictLit c.0) (anywhere slot _), of_dict c.0 is (comma_inv (entry part) EntryIs entry_inv b.0 c.0 (inside_whole Brace zs b.0 w b.1.0) c.1.0))

  atom_inv : (slot : Slot) (xs : List Symbol) (x : Shape) (rest : List Symbol) → Follows slot rest → Whole (xs ++ rest) → Whole xs → atom part xs ≡ Some x → Node P slot x
  atom_inv slot [] x rest fol wr w h = no_answer x h
  atom_inv slot (s.Atom v ∷ []) x rest fol wr w h = let is = sym (some_same (e.Atom v) x h) in inl (moved slot x _ _ is (printed-Atom v) (atom_anywhere slot v rest fol wr), of_atom v is)
  atom_inv slot (s.Atom v ∷ z ∷ zs) x rest fol wr w h = no_answer x h
  atom_inv slot (s.Super n ∷ []) x rest fol wr w h = no_answer x h
  atom_inv slot (s.Super n ∷ s.Open Round ∷ zs) x rest fol wr w h = super_inv slot n zs x w.1.1 h
  atom_inv slot (s.Super n ∷ s.Open Square ∷ zs) x rest fol wr w h = no_answer x h
  atom_inv slot (s.Super n ∷ s.Open Brace ∷ zs) x rest fol wr w h = no_answer x h
  atom_inv slot (s.Super n ∷ (s.Atom y) ∷ zs) x rest fol wr w h = no_answer x h
  atom_inv slot (s.Super n ∷ (s.Super y) ∷ zs) x rest fol wr w h = no_answer x h
  atom_inv slot (s.Super n ∷ (s.Method y) ∷ zs) x rest fol wr w h = no_answer x h
  atom_inv slot (s.Super n ∷ (s.Attribute y) ∷ zs) x rest fol wr w h = no_answer x h
  atom_inv slot (s.Super n ∷ (s.Sign y) ∷ zs) x rest fol wr w h = no_answer x h
  atom_inv slot (s.Super n ∷ (s.Factor y) ∷ zs) x rest fol wr w h = no_answer x h
  atom_inv slot (s.Super n ∷ (s.Compare y) ∷ zs) x rest fol wr w h = no_answer x h
  atom_inv slot (s.Super n ∷ s.Or ∷ zs) x rest fol wr w h = no_answer x h
  atom_inv slot (s.Super n ∷ s.And ∷ zs) x rest fol wr w h = no_answer x h
  atom_inv slot (s.Super n ∷ s.Not ∷ zs) x rest fol wr w h = no_answer x h
  atom_inv slot (s.Super n ∷ s.If ∷ zs) x rest fol wr w h = no_answer x h
  atom_inv slot (s.Super n ∷ s.Else ∷ zs) x rest fol wr w h = no_answer x h
  atom_inv slot (s.Super n ∷ s.Comma ∷ zs) x rest fol wr w h = no_answer x h
  atom_inv slot (s.Super n ∷ s.Colon ∷ zs) x rest fol wr w h = no_answer x h
  atom_inv slot (s.Super n ∷ s.Equal ∷ zs) x rest fol wr w h = no_answer x h
  atom_inv slot (s.Super n ∷ (s.Close y) ∷ zs) x rest fol wr w h = no_answer x h
  atom_inv slot (s.Super n ∷ s.Other ∷ zs) x rest fol wr w h = no_answer x h
  atom_inv slot (s.Open Round ∷ zs) x rest fol wr w h = round_inv slot zs x w.1 h
  atom_inv slot (s.Open Square ∷ zs) x rest fol wr w h = list_inv slot zs x w.1 h
  atom_inv slot (s.Open Brace ∷ zs) x rest fol wr w h = dict_inv slot zs x w.1 h
  atom_inv slot ((s.Method y) ∷ zs) x rest fol wr w h = no_answer x h
  atom_inv slot ((s.Attribute y) ∷ zs) x rest fol wr w h = no_answer x h
  atom_inv slot ((s.Sign y) ∷ zs) x rest fol wr w h = no_answer x h
  atom_inv slot ((s.Factor y) ∷ zs) x rest fol wr w h = no_answer x h
  atom_inv slot ((s.Compare y) ∷ zs) x rest fol wr w h = no_answer x h
  atom_inv slot (s.Or ∷ zs) x rest fol wr w h = no_answer x h
  atom_inv slot (s.And ∷ zs) x rest fol wr w h = no_answer x h
  atom_inv slot (s.Not ∷ zs) x rest fol wr w h = no_answer x h
  atom_inv slot (s.If ∷ zs) x rest fol wr w h = no_answer x h
  atom_inv slot (s.Else ∷ zs) x rest fol wr w h = no_answer x h
  atom_inv slot (s.Comma ∷ zs) x rest fol wr w h = no_answer x h
  atom_inv slot (s.Colon ∷ zs) x rest fol wr w h = no_answer x h
  atom_inv slot (s.Equal ∷ zs) x rest fol wr w h = no_answer x h
  atom_inv slot ((s.Close y) ∷ zs) x rest fol wr w h = no_answer x h
  atom_inv slot (s.Other ∷ zs) x rest fol wr w h = no_answer x h

  -- ---- groups

  bound_inv : (xs : List Symbol) (o : Option Shape) → Whole xs → bound part xs ≡ Some o → IfThere (P (At Conditional)) o
  bound_inv [] o w h = subst (IfThere (P (At Conditional))) (some_same None o h) tt
  bound_inv (z ∷ zs) o w h =
      let b = bind_inv (part Conditional (z ∷ zs)) (λ x. Some (Some x)) o h in
      subst (IfThere (P (At Conditional))) (some_same (Some b.0) o b.1.1) (H Conditional (z ∷ zs) b.0 w b.1.0)

  -- the subscript after an operand
  subscript_inv : (slot : Slot) (y : Shape) (whole low_is rest : List Symbol) (made : Shape → Shape) (x : Shape) → P (At Postfix) y → Whole whole → Whole low_is → Whole rest → subscript_by part whole low_is rest ≡ Some made → x ≡ made y → Node P slot x
  subscript_inv slot y whole low_is [] made x p w l r h is =
      let b = bind_inv (part Listed whole) (λ i. Some (λ x. e.Index x i)) made h in
      let eq : x ≡ e.Index y b.0 = is ∙ ap (λ (f : Shape → Shape). f y) (sym (some_same (λ x. e.Index x b.0) made b.1.1)) in
      inl (moved slot x _ _ eq (printed-Index y b.0) (anywhere slot _), of_index y b.0 eq p (H Listed whole b.0 w b.1.0))
  subscript_inv slot y whole low_is (s.Colon ∷ high) made x p w l r h is =
      let b = bind_inv (bound part low_is) (λ a. bound part high >>= λ b. Some (λ x. e.Slice x a b)) made h in
      let c = bind_inv (bound part high) (λ c. Some (λ x. e.Slice x b.0 c)) made b.1.1 in
      let eq : x ≡ e.Slice y b.0 c.0 = is ∙ ap (λ (f : Shape → Shape). f y) (sym (some_same (λ x. e.Slice x b.0 c.0) made c.1.1)) in
      inl (moved slot x _ _ eq (printed-Slice y b.0 c.0) (anywhere slot _), of_slice y b.0 c.0 eq p (bound_inv low_is b.0 l b.1.0) (bound_inv high c.0 r.1 c.1.0))
  subscript_inv slot y whole low_is ((s.Atom u) ∷ zs) made x p w l r h is = no_answer made h
  subscript_inv slot y whole low_is ((s.Super u) ∷ zs) made x p w l r h is = no_answer made h
  subscript_inv slot y whole low_is ((s.Method u) ∷ zs) made x p w l r h is = no_answer made h
  subscript_inv slot y whole low_is ((s.Attribute u) ∷ zs) made x p w l r h is = no_answer made h
  subscript_inv slot y whole low_is ((s.Sign u) ∷ zs) made x p w l r h is = no_answer made h
  subscript_inv slot y whole low_is ((s.Factor u) ∷ zs) made x p w l r h is = no_answer made h
  subscript_inv slot y whole low_is ((s.Compare u) ∷ zs) made x p w l r h is = no_answer made h
  subscript_inv slot y whole low_is (s.Or ∷ zs) made x p w l r h is = no_answer made h
  subscript_inv slot y whole low_is (s.And ∷ zs) made x p w l r h is = no_answer made h
  subscript_inv slot y whole low_is (s.Not ∷ zs) made x p w l r h is = no_answer made h
  subscript_inv slot y whole low_is (s.If ∷ zs) made x p w l r h is = no_answer made h
  subscript_inv slot y whole low_is (s.Else ∷ zs) made x p w l r h is = no_answer made h
  subscript_inv slot y whole low_is (s.Comma ∷ zs) made x p w l r h is = no_answer made h
  subscript_inv slot y whole low_is (s.Equal ∷ zs) made x p w l r h is = no_answer made h
  subscript_inv slot y whole low_is ((s.Open u) ∷ zs) made x p w l r h is = no_answer made h
  subscript_inv slot y whole low_is ((s.Close u) ∷ zs) made x p w l r h is = no_answer made h
  subscript_inv slot y whole low_is (s.Other ∷ zs) made x p w l r h is = no_answer made h

  index_inv : (slot : Slot) (y : Shape) (zs : List Symbol) (made : Shape → Shape) (x : Shape) → P (At Postfix) y → Whole zs → (inside Square zs >>= subscript part) ≡ Some made → x ≡ made y → Node P slot x
  index_inv slot y zs made x p w h is =
      let b = bind_inv (inside Square zs) (subscript part) made h in
      let wb = inside_whole Square zs b.0 w b.1.0 in
      subscript_inv slot y b.0 (front colon b.0) (back colon b.0) made x p wb (front_whole colon start b.0 wb) (back_whole colon start b.0 wb) b.1.1 is

  -- an attribute is not called, since it would be a method
  attr_inv : (slot : Slot) (y : Shape) (n : List ℕ) (ys rest : List Symbol) (made : Shape → Shape) (x : Shape) → Follows slot rest → Whole ((ys ++ s.Attribute n ∷ []) ++ rest) → P (At Postfix) y → Some (λ x. e.Attr x n) ≡ Some made → x ≡ made y → Node P slot x
  attr_inv (At l) y n ys rest made x f w p h is =
      let eq : x ≡ e.Attr y n = is ∙ ap (λ (g : Shape → Shape). g y) (sym (some_same (λ x. e.Attr x n) made h)) in
      inl (moved (At l) x _ _ eq (printed-Attr y n) (low l), of_attr y n eq p)
  attr_inv Callee y n ys rest made x f w p h is =
      let behind : Whole (s.Attribute n ∷ s.Open Round ∷ f.0) = whole_back ys (s.Attribute n ∷ s.Open Round ∷ f.0) (subst Whole (append_assoc ys (s.Attribute n ∷ []) rest ∙ ap (λ r. ys ++ s.Attribute n ∷ r) f.1) w) in
      absurd (let wrong_is : false ≡ true = behind.0 in cc)
  attr_inv Lone y n ys rest made x f w p h is =
      let behind : Whole (s.Attribute n ∷ s.Open Round ∷ s.Close Round ∷ s.Method f.0 ∷ f.1.0) = whole_back ys (s.Attribute n ∷ s.Open Round ∷ s.Close Round ∷ s.Method f.0 ∷ f.1.0) (subst Whole (append_assoc ys (s.Attribute n ∷ []) rest ∙ ap (λ r. ys ++ s.Attribute n ∷ r) f.1.1) w) in
      absurd (let wrong_is : false ≡ true = behind.0 in cc)
  attr_inv Owner y n ys rest made x f w p h is =
      let eq : x ≡ e.Attr y n = is ∙ ap (λ (g : Shape → Shape). g y) (sym (some_same (λ x. e.Attr x n) made h)) in
      inl (moved Owner x _ _ eq (printed-Attr y n) refl, of_attr y n eq p)

  method_inv : (slot : Slot) (y : Shape) (n : List ℕ) (zs : List Symbol) (made : Shape → Shape) (x : Shape) → Whole zs → P Owner y → (inside Round zs >>= λ v. arguments part v >>= λ args. Some (λ x. e.Method x n args)) ≡ Some made → x ≡ made y → Node P slot x
  method_inv slot y n zs made x w p h is =
      let b = bind_inv (inside Round zs) (λ v. arguments part v >>= λ args. Some (λ x. e.Method x n args)) made h in
      let c = bind_inv (arguments part b.0) (λ args. Some (λ x. e.Method x n args)) made b.1.1 in
      let eq : x ≡ e.Method y n c.0 = is ∙ ap (λ (f : Shape → Shape). f y) (sym (some_same (λ x. e.Method x n c.0) made c.1.1)) in
      inl (moved slot x _ _ eq (printed-Method y n c.0) (anywhere slot _), of_method y n c.0 eq p (arguments_inv b.0 c.0 (inside_whole Round zs b.0 w b.1.0) c.1.0))

  abbrev called : Shape → List (Option (List ℕ) × Shape) → Printed
  called y args = print_node (Shape-F.Call (printed y) (map (λ (p : Option (List ℕ) × Shape). (p.0, printed p.1)) args))

  -- a call; `super()` before a method is in brackets, or its name does
  call_by : (v : Bool) (y : Shape) (args : List (Option (List ℕ) × Shape)) (ys zs b rest : List Symbol) (x : Shape) → (called y args).is_call ≡ v → (n : List ℕ) (gs : List Symbol) → rest ≡ s.Method n ∷ gs → Whole ((ys ++ s.Open Round ∷ zs) ++ rest)
      → part Postfix ys ≡ Some y → x ≡ e.Call y args → Form P x → inside Round zs ≡ Some b → arguments part b ≡ Some args → Node P Owner x
  call_by false y args ys zs b rest x v n gs r w py eq form ins arg = inl (moved Owner x _ _ eq (printed-Call y args) (rw v refl), form)
  call_by true y [] ys zs b rest x v n gs r w py eq form ins arg =
      let nothing : b ≡ [] = none_inv (argument part) b arg in
      let ends : zs ≡ s.Close Round ∷ [] = inside_nothing zs (ins ∙ ap (λ z. Some z) nothing) in
      let whole : Whole (ys ++ s.Open Round ∷ s.Close Round ∷ s.Method n ∷ gs) =
      subst Whole (append_assoc ys (s.Open Round ∷ zs) rest ∙ ap (λ z. ys ++ s.Open Round ∷ (z ++ rest)) ends ∙ ap (λ z. ys ++ s.Open Round ∷ s.Close Round ∷ z) r) w in
      inr (subst (P (At Conditional)) (sym eq) (HS ys gs n y whole py (name_by (printed y).is_name v)))
    where
      name_by : (m : Bool) → (m && true) ≡ true → m ≡ true
      name_by true e = refl
      name_by false e = absurd (cc)
  call_by true y (a ∷ args) ys zs b rest x v n gs r w py eq form ins arg = absurd (never (printed y).is_name v)
    where
      never : (m : Bool) → (m && false) ≡ true → ⊥
      never true e = cc
      never false e = cc

  call_inv : (slot : Slot) (y : Shape) (ys zs rest : List Symbol) (made : Shape → Shape) (x : Shape) → Follows slot rest → Whole ((ys ++ s.Open Round ∷ zs) ++ rest) → Whole zs → part Postfix ys ≡ Some y → P Callee y
      → (inside Round zs >>= λ v. arguments part v >>= λ args. Some (λ x. e.Call x args)) ≡ Some made → x ≡ made y → Node P slot x
  call_inv slot y ys zs rest made x f w wz py p h is =
      let b = bind_inv (inside Round zs) (λ v. arguments part v >>= λ args. Some (λ x. e.Call x args)) made h in
      let c = bind_inv (arguments part b.0) (λ args. Some (λ x. e.Call x args)) made b.1.1 in
      let eq : x ≡ e.Call y c.0 = is ∙ ap (λ (f : Shape → Shape). f y) (sym (some_same (λ x. e.Call x c.0) made c.1.1)) in
      slot_by slot f b.0 c.0 eq (of_call y c.0 eq p (arguments_inv b.0 c.0 (inside_whole Round zs b.0 wz b.1.0) c.1.0)) b.1.0 c.1.0
    where
      slot_by : (slot : Slot) → Follows slot rest → (b : List Symbol) (args : List (Option (List ℕ) × Shape)) → x ≡ e.Call y args → Form P x → inside Round zs ≡ Some b → arguments part b ≡ Some args → Node P slot x
      slot_by (At l) f b args eq form i g = inl (moved (At l) x _ _ eq (printed-Call y args) (low l), form)
      slot_by Callee f b args eq form i g = inl (moved Callee x _ _ eq (printed-Call y args) refl, form)
      slot_by Lone f b args eq form i g = inl (moved Lone x _ _ eq (printed-Call y args) refl, form)
      slot_by Owner f b args eq form i g = call_by (called y args).is_call y args ys zs b rest x refl f.0 f.1.0 f.1.1 w py eq form i g

  group_inv : (slot : Slot) (y : Shape) (ys rest : List Symbol) (g : Symbol) (gs : List Symbol) (made : Shape → Shape) (x : Shape) → Follows slot rest → Whole ((ys ++ g ∷ gs) ++ rest) → Whole (ys ++ g ∷ gs) → part Postfix ys ≡ Some y → group part g gs ≡ Some made → x ≡ made y → Node P slot x
  group_inv slot y ys rest (s.Attribute n) [] made x f w v py h is = attr_inv slot y n ys rest made x f w (H Postfix ys y (whole_front ys (s.Attribute n ∷ []) v) py) h is
  group_inv slot y ys rest (s.Attribute n) (z ∷ zs) made x f w v py h is = no_answer made h
  group_inv slot y ys rest (s.Method n) [] made x f w v py h is = no_answer made h
  group_inv slot y ys rest (s.Method n) (s.Open Round ∷ zs) made x f w v py h is = method_inv slot y n zs made x (whole_back ys (s.Method n ∷ s.Open Round ∷ zs) v).1.1 (HP Owner ys (s.Method n ∷ s.Open Round ∷ zs) y refl (n, (s.Open Round ∷ zs, refl)) v py) h is
  group_inv slot y ys rest (s.Method n) (s.Open Square ∷ zs) made x f w v py h is = no_answer made h
  group_inv slot y ys rest (s.Method n) (s.Open Brace ∷ zs) made x f w v py h is = no_answer made h
  group_inv slot y ys rest (s.Method n) ((s.Atom u) ∷ zs) made x f w v py h is = no_answer made h
  group_inv slot y ys rest (s.Method n) ((s.Super u) ∷ zs) made x f w v py h is = no_answer made h
  group_inv slot y ys rest (s.Method n) ((s.Method u) ∷ zs) made x f w v py h is = no_answer made h
  group_inv slot y ys rest (s.Method n) ((s.Attribute u) ∷ zs) made x f w v py h is = no_answer made h
  group_inv slot y ys rest (s.Method n) ((s.Sign u) ∷ zs) made x f w v py h is = no_answer made h
  group_inv slot y ys rest (s.Method n) ((s.Factor u) ∷ zs) made x f w v py h is = no_answer made h
  group_inv slot y ys rest (s.Method n) ((s.Compare u) ∷ zs) made x f w v py h is = no_answer made h
  group_inv slot y ys rest (s.Method n) (s.Or ∷ zs) made x f w v py h is = no_answer made h
  group_inv slot y ys rest (s.Method n) (s.And ∷ zs) made x f w v py h is = no_answer made h
  group_inv slot y ys rest (s.Method n) (s.Not ∷ zs) made x f w v py h is = no_answer made h
  group_inv slot y ys rest (s.Method n) (s.If ∷ zs) made x f w v py h is = no_answer made h
  group_inv slot y ys rest (s.Method n) (s.Else ∷ zs) made x f w v py h is = no_answer made h
  group_inv slot y ys rest (s.Method n) (s.Comma ∷ zs) made x f w v py h is = no_answer made h
  group_inv slot y ys rest (s.Method n) (s.Colon ∷ zs) made x f w v py h is = no_answer made h
  group_inv slot y ys rest (s.Method n) (s.Equal ∷ zs) made x f w v py h is = no_answer made h
  group_inv slot y ys rest (s.Method n) ((s.Close u) ∷ zs) made x f w v py h is = no_answer made h
  group_inv slot y ys rest (s.Method n) (s.Other ∷ zs) made x f w v py h is = no_answer made h
  group_inv slot y ys rest (s.Open Round) gs made x f w v py h is = call_inv slot y ys gs rest made x f w (whole_back ys (s.Open Round ∷ gs) v).1 py (HP Callee ys (s.Open Round ∷ gs) y refl (gs, refl) v py) h is
  group_inv slot y ys rest (s.Open Square) gs made x f w v py h is = index_inv slot y gs made x (H Postfix ys y (whole_front ys (s.Open Square ∷ gs) v) py) (whole_back ys (s.Open Square ∷ gs) v).1 h is
  group_inv slot y ys rest (s.Open Brace) gs made x f w v py h is = no_answer made h
  group_inv slot y ys rest (s.Atom u) gs made x f w v py h is = no_answer made h
  group_inv slot y ys rest (s.Super u) gs made x f w v py h is = no_answer made h
  group_inv slot y ys rest (s.Sign u) gs made x f w v py h is = no_answer made h
  group_inv slot y ys rest (s.Factor u) gs made x f w v py h is = no_answer made h
  group_inv slot y ys rest (s.Compare u) gs made x f w v py h is = no_answer made h
  group_inv slot y ys rest s.Or gs made x f w v py h is = no_answer made h
  group_inv slot y ys rest s.And gs made x f w v py h is = no_answer made h
  group_inv slot y ys rest s.Not gs made x f w v py h is = no_answer made h
  group_inv slot y ys rest s.If gs made x f w v py h is = no_answer made h
  group_inv slot y ys rest s.Else gs made x f w v py h is = no_answer made h
  group_inv slot y ys rest s.Comma gs made x f w v py h is = no_answer made h
  group_inv slot y ys rest s.Colon gs made x f w v py h is = no_answer made h
  group_inv slot y ys rest s.Equal gs made x f w v py h is = no_answer made h
  group_inv slot y ys rest (s.Close u) gs made x f w v py h is = no_answer made h
  group_inv slot y ys rest s.Other gs made x f w v py h is = no_answer made h

  pub postfix_inv : (slot : Slot) (xs rest : List Symbol) (x : Shape) → Follows slot rest → Whole (xs ++ rest) → postfix part xs ≡ Some x → Node P slot x
  unfolding postfix
  postfix_inv slot xs rest x f w h = cut_by (last_cut (at Postfix) xs) refl h
    where
      whole : Whole xs
      whole = whole_front xs rest w

      cut_by : (c : Option (List Symbol × Symbol × List Symbol)) → last_cut (at Postfix) xs ≡ c → in_two (atom part) (part Postfix) (λ x g zs. group part g zs >>= λ made. Some (made x)) c xs ≡ Some x → Node P slot x
      cut_by None e h = atom_inv slot xs x rest f w whole h
      cut_by (Some c) e h =
          let joined = last_cut-joined next (at Postfix) start xs c e in
          let b = bind_inv (part Postfix c.0) (λ y. group part c.1 c.2 >>= λ made. Some (made y)) x h in
          let d = bind_inv (group part c.1 c.2) (λ made. Some (made b.0)) x b.1.1 in
          group_inv slot b.0 c.0 rest c.1 c.2 d.0 x f (subst (λ z. Whole (z ++ rest)) (sym joined) w) (subst Whole (sym joined) whole) b.1.0 d.1.0 (sym (some_same (d.0 b.0) x d.1.1))

  -- ---- the levels above

  abbrev Here : Level → Shape → Type 0
  Here l x = Node P (At l) x

  -- what is read at a level may be at a looser one
  rise : (l m : Level) (x : Shape) → number l ≤ number m → Here m x → Here l x
  rise l m x le (inl h) = inl (rise_by (number l) (number m) (number (printed x).own) le h.0, h.1)
    where
      rise_by : (a b c : ℕ) → a ≤ b → nat_le b c ≡ true → nat_le a c ≡ true
      rise_by a b c le h = grind (arith, nat_tests)
  rise l m x le (inr h) = inr h

  signed_inv : (xs : List Symbol) (x : Shape) → Whole xs → signed part xs ≡ Some x → Here Signed x
  unfolding signed
  signed_inv [] x w h = rise Signed Postfix x (omega arith) (postfix_inv (At Postfix) [] [] x tt tt h)
  signed_inv (s.Sign g ∷ xs) x w h =
      let b = bind_inv (part Signed xs) (λ x. Some (e.Unary g x)) x h in
      let is = sym (some_same (e.Unary g b.0) x b.1.1) in
      inl (moved (At Signed) x _ _ is (printed-Unary g b.0) refl, of_unary g b.0 is (H Signed xs b.0 w.1 b.1.0))
  signed_inv ((s.Atom u) ∷ xs) x w h = rise Signed Postfix x (omega arith) (postfix_inv (At Postfix) ((s.Atom u) ∷ xs) [] x tt (subst Whole (sym (append-nil ((s.Atom u) ∷ xs))) w) h)
  signed_inv ((s.Super u) ∷ xs) x w h = rise Signed Postfix x (omega arith) (postfix_inv (At Postfix) ((s.Super u) ∷ xs) [] x tt (subst Whole (sym (append-nil ((s.Super u) ∷ xs))) w) h)
  signed_inv ((s.Method u) ∷ xs) x w h = rise Signed Postfix x (omega arith) (postfix_inv (At Postfix) ((s.Method u) ∷ xs) [] x tt (subst Whole (sym (append-nil ((s.Method u) ∷ xs))) w) h)
  signed_inv ((s.Attribute u) ∷ xs) x w h = rise Signed Postfix x (omega arith) (postfix_inv (At Postfix) ((s.Attribute u) ∷ xs) [] x tt (subst Whole (sym (append-nil ((s.Attribute u) ∷ xs))) w) h)
  signed_inv ((s.Factor u) ∷ xs) x w h = rise Signed Postfix x (omega arith) (postfix_inv (At Postfix) ((s.Factor u) ∷ xs) [] x tt (subst Whole (sym (append-nil ((s.Factor u) ∷ xs))) w) h)
  signed_inv ((s.Compare u) ∷ xs) x w h = rise Signed Postfix x (omega arith) (postfix_inv (At Postfix) ((s.Compare u) ∷ xs) [] x tt (subst Whole (sym (append-nil ((s.Compare u) ∷ xs))) w) h)
  signed_inv (s.Or ∷ xs) x w h = rise Signed Postfix x (omega arith) (postfix_inv (At Postfix) (s.Or ∷ xs) [] x tt (subst Whole (sym (append-nil (s.Or ∷ xs))) w) h)
  signed_inv (s.And ∷ xs) x w h = rise Signed Postfix x (omega arith) (postfix_inv (At Postfix) (s.And ∷ xs) [] x tt (subst Whole (sym (append-nil (s.And ∷ xs))) w) h)
  signed_inv (s.Not ∷ xs) x w h = rise Signed Postfix x (omega arith) (postfix_inv (At Postfix) (s.Not ∷ xs) [] x tt (subst Whole (sym (append-nil (s.Not ∷ xs))) w) h)
  signed_inv (s.If ∷ xs) x w h = rise Signed Postfix x (omega arith) (postfix_inv (At Postfix) (s.If ∷ xs) [] x tt (subst Whole (sym (append-nil (s.If ∷ xs))) w) h)
  signed_inv (s.Else ∷ xs) x w h = rise Signed Postfix x (omega arith) (postfix_inv (At Postfix) (s.Else ∷ xs) [] x tt (subst Whole (sym (append-nil (s.Else ∷ xs))) w) h)
  signed_inv (s.Comma ∷ xs) x w h = rise Signed Postfix x (omega arith) (postfix_inv (At Postfix) (s.Comma ∷ xs) [] x tt (subst Whole (sym (append-nil (s.Comma ∷ xs))) w) h)
  signed_inv (s.Colon ∷ xs) x w h = rise Signed Postfix x (omega arith) (postfix_inv (At Postfix) (s.Colon ∷ xs) [] x tt (subst Whole (sym (append-nil (s.Colon ∷ xs))) w) h)
  signed_inv (s.Equal ∷ xs) x w h = rise Signed Postfix x (omega arith) (postfix_inv (At Postfix) (s.Equal ∷ xs) [] x tt (subst Whole (sym (append-nil (s.Equal ∷ xs))) w) h)
  signed_inv ((s.Open u) ∷ xs) x w h = rise Signed Postfix x (omega arith) (postfix_inv (At Postfix) ((s.Open u) ∷ xs) [] x tt (subst Whole (sym (append-nil ((s.Open u) ∷ xs))) w) h)
  signed_inv ((s.Close u) ∷ xs) x w h = rise Signed Postfix x (omega arith) (postfix_inv (At Postfix) ((s.Close u) ∷ xs) [] x tt (subst Whole (sym (append-nil ((s.Close u) ∷ xs))) w) h)
  signed_inv (s.Other ∷ xs) x w h = rise Signed Postfix x (omega arith) (postfix_inv (At Postfix) (s.Other ∷ xs) [] x tt (subst Whole (sym (append-nil (s.Other ∷ xs))) w) h)

  -- the mark of a cut is a mark of its level
  here_by : (v : Bool) (p : Place → Symbol → Bool) (w : Place) (x : Symbol) (xs : List Symbol) (o : Option (List Symbol × Symbol × List Symbol)) (c : List Symbol × Symbol × List Symbol) → p w x ≡ v
      → ((d : List Symbol × Symbol × List Symbol) → o ≡ Some d → (u : Place) × (p u d.1 ≡ true)) → cut.or_here next p v x xs o ≡ Some c → (u : Place) × (p u c.1 ≡ true)
  here_by v p w x xs (Some d) c e f h = let k = f d refl in (k.0, ap (λ (q : List Symbol × Symbol × List Symbol). p k.0 q.1) (sym (some_same (x ∷ d.0, d.1, d.2) c h)) ∙ k.1)
  here_by true p w x xs None c e f h = (w, ap (λ (q : List Symbol × Symbol × List Symbol). p w q.1) (sym (some_same ([], x, xs) c h)) ∙ e)
  here_by false p w x xs None c e f h = no_answer c h

  cut_marks : (p : Place → Symbol → Bool) (w : Place) (xs : List Symbol) (c : List Symbol × Symbol × List Symbol) → cut.last_cut next p w xs ≡ Some c → (u : Place) × (p u c.1 ≡ true)
  cut_marks p w [] c h = no_answer c h
  cut_marks p w (x ∷ xs) c h = here_by (p w x) p w x xs (cut.last_cut next p (next w x) xs) c refl (λ d k. cut_marks p (next w x) xs d k) h

  second : (a b : Bool) → (a && b) ≡ true → b ≡ true
  second true b e = e
  second false b e = absurd (cc)

  eq_of : (m n : ℕ) → (m == n) ≡ true → m ≡ n
  eq_of m n e = grind (arith, nat_tests)

  abbrev SignIs : Symbol → Type 0
  SignIs y = (g : Sign) × (y ≡ s.Sign g)

  abbrev FactorIs : Symbol → Type 0
  FactorIs y = (op : BinOp) × (y ≡ s.Factor op)

  sign_is : (after : Bool) (y : Symbol) → (rank after y == 7) ≡ true → SignIs y
  sign_is true (s.Atom u) e = absurd (cc)
  sign_is false (s.Atom u) e = absurd (cc)
  sign_is true (s.Super u) e = absurd (cc)
  sign_is false (s.Super u) e = absurd (cc)
  sign_is true (s.Method u) e = absurd (cc)
  sign_is false (s.Method u) e = absurd (cc)
  sign_is true (s.Attribute u) e = absurd (cc)
  sign_is false (s.Attribute u) e = absurd (cc)
  sign_is true (s.Sign u) e = (u, refl)
  sign_is false (s.Sign u) e = absurd (cc)
  sign_is true (s.Factor u) e = absurd (cc)
  sign_is false (s.Factor u) e = absurd (cc)
  sign_is true (s.Compare u) e = absurd (cc)
  sign_is false (s.Compare u) e = absurd (cc)
  sign_is true s.Or e = absurd (cc)
  sign_is false s.Or e = absurd (cc)
  sign_is true s.And e = absurd (cc)
  sign_is false s.And e = absurd (cc)
  sign_is true s.Not e = absurd (cc)
  sign_is false s.Not e = absurd (cc)
  sign_is true s.If e = absurd (cc)
  sign_is false s.If e = absurd (cc)
  sign_is true s.Else e = absurd (cc)
  sign_is false s.Else e = absurd (cc)
  sign_is true s.Comma e = absurd (cc)
  sign_is false s.Comma e = absurd (cc)
  sign_is true s.Colon e = absurd (cc)
  sign_is false s.Colon e = absurd (cc)
  sign_is true s.Equal e = absurd (cc)
  sign_is false s.Equal e = absurd (cc)
  sign_is true (s.Open Round) e = absurd (cc)
  sign_is true (s.Open Square) e = absurd (cc)
  sign_is true (s.Open Brace) e = absurd (cc)
  sign_is false (s.Open Round) e = absurd (cc)
  sign_is false (s.Open Square) e = absurd (cc)
  sign_is false (s.Open Brace) e = absurd (cc)
  sign_is true (s.Close u) e = absurd (cc)
  sign_is false (s.Close u) e = absurd (cc)
  sign_is true s.Other e = absurd (cc)
  sign_is false s.Other e = absurd (cc)

  factor_is : (after : Bool) (y : Symbol) → (rank after y == 8) ≡ true → FactorIs y
  factor_is true (s.Atom u) e = absurd (cc)
  factor_is false (s.Atom u) e = absurd (cc)
  factor_is true (s.Super u) e = absurd (cc)
  factor_is false (s.Super u) e = absurd (cc)
  factor_is true (s.Method u) e = absurd (cc)
  factor_is false (s.Method u) e = absurd (cc)
  factor_is true (s.Attribute u) e = absurd (cc)
  factor_is false (s.Attribute u) e = absurd (cc)
  factor_is true (s.Sign u) e = absurd (cc)
  factor_is false (s.Sign u) e = absurd (cc)
  factor_is true (s.Factor u) e = (u, refl)
  factor_is false (s.Factor u) e = (u, refl)
  factor_is true (s.Compare u) e = absurd (cc)
  factor_is false (s.Compare u) e = absurd (cc)
  factor_is true s.Or e = absurd (cc)
  factor_is false s.Or e = absurd (cc)
  factor_is true s.And e = absurd (cc)
  factor_is false s.And e = absurd (cc)
  factor_is true s.Not e = absurd (cc)
  factor_is false s.Not e = absurd (cc)
  factor_is true s.If e = absurd (cc)
  factor_is false s.If e = absurd (cc)
  factor_is true s.Else e = absurd (cc)
  factor_is false s.Else e = absurd (cc)
  factor_is true s.Comma e = absurd (cc)
  factor_is false s.Comma e = absurd (cc)
  factor_is true s.Colon e = absurd (cc)
  factor_is false s.Colon e = absurd (cc)
  factor_is true s.Equal e = absurd (cc)
  factor_is false s.Equal e = absurd (cc)
  factor_is true (s.Open Round) e = absurd (cc)
  factor_is true (s.Open Square) e = absurd (cc)
  factor_is true (s.Open Brace) e = absurd (cc)
  factor_is false (s.Open Round) e = absurd (cc)
  factor_is false (s.Open Square) e = absurd (cc)
  factor_is false (s.Open Brace) e = absurd (cc)
  factor_is true (s.Close u) e = absurd (cc)
  factor_is false (s.Close u) e = absurd (cc)
  factor_is true s.Other e = absurd (cc)
  factor_is false s.Other e = absurd (cc)

  sum_mark : (w : Place) (y : Symbol) → at Sum w y ≡ true → SignIs y
  unfolding at
  sum_mark w y e = sign_is w.after y (second (w.depth == 0) (rank w.after y == 7) e)

  product_mark : (w : Place) (y : Symbol) → at Product w y ≡ true → FactorIs y
  unfolding at
  product_mark w y e = factor_is w.after y (second (w.depth == 0) (rank w.after y == 8) e)

  product_inv : (xs : List Symbol) (x : Shape) → Whole xs → product part xs ≡ Some x → Here Product x
  unfolding product
  product_inv xs x w h = cut_by (last_cut (at Product) xs) refl h
    where
      factor_stands : (op : BinOp) (p q : Printed) → is_factor op ≡ true → is_bare_in (At Product) (binary op p q) ≡ true
      factor_stands Mul p q e = refl
      factor_stands FloorDiv p q e = refl
      factor_stands Mod p q e = refl
      factor_stands Add p q e = absurd (cc)
      factor_stands Sub p q e = absurd (cc)

      cut_by : (c : Option (List Symbol × Symbol × List Symbol)) → last_cut (at Product) xs ≡ c → in_two (signed part) (part Product) (λ y m ys. part Signed ys >>= λ right. Some (e.Binary (operator m) y right)) c xs ≡ Some x → Here Product x
      cut_by None ce h = rise Product Signed x (omega arith) (signed_inv xs x w h)
      cut_by (Some c) ce h =
          let joined = last_cut-joined next (at Product) start xs c ce in
          let m = cut_marks (at Product) start xs c ce in
          let f = product_mark m.0 c.1 m.1 in
          let whole : Whole (c.0 ++ c.1 ∷ c.2) = subst Whole (sym joined) w in
          let behind : Whole (c.1 ∷ c.2) = whole_back c.0 (c.1 ∷ c.2) whole in
          let b = bind_inv (part Product c.0) (λ y. part Signed c.2 >>= λ right. Some (e.Binary (operator c.1) y right)) x h in
          let d = bind_inv (part Signed c.2) (λ right. Some (e.Binary (operator c.1) b.0 right)) x b.1.1 in
          let is : x ≡ e.Binary f.0 b.0 d.0 = sym (some_same (e.Binary (operator c.1) b.0 d.0) x d.1.1) ∙ ap (λ k. e.Binary (operator k) b.0 d.0) f.1 in
          let good : is_factor f.0 ≡ true = ap (λ k. holds k c.2) (sym f.1) ∙ behind.0 in
          inl (moved (At Product) x _ _ is (printed-Binary f.0 b.0 d.0) (factor_stands f.0 (printed b.0) (printed d.0) good), of_product f.0 b.0 d.0 good is (H Product c.0 b.0 (whole_front c.0 (c.1 ∷ c.2) whole) b.1.0) (H Signed c.2 d.0 behind.1 d.1.0))

  sum_inv : (xs : List Symbol) (x : Shape) → Whole xs → sum part xs ≡ Some x → Here Sum x
  unfolding sum
  sum_inv xs x w h = cut_by (last_cut (at Sum) xs) refl h
    where
      sign_stands : (g : Sign) (p q : Printed) → is_bare_in (At Sum) (binary (operator (s.Sign g)) p q) ≡ true
      sign_stands Plus p q = refl
      sign_stands Minus p q = refl

      cut_by : (c : Option (List Symbol × Symbol × List Symbol)) → last_cut (at Sum) xs ≡ c → in_two (product part) (part Sum) (λ y m ys. part Product ys >>= λ right. Some (e.Binary (operator m) y right)) c xs ≡ Some x → Here Sum x
      cut_by None ce h = rise Sum Product x (omega arith) (product_inv xs x w h)
      cut_by (Some c) ce h =
          let joined = last_cut-joined next (at Sum) start xs c ce in
          let m = cut_marks (at Sum) start xs c ce in
          let f = sum_mark m.0 c.1 m.1 in
          let whole : Whole (c.0 ++ c.1 ∷ c.2) = subst Whole (sym joined) w in
          let behind : Whole (c.1 ∷ c.2) = whole_back c.0 (c.1 ∷ c.2) whole in
          let b = bind_inv (part Sum c.0) (λ y. part Product c.2 >>= λ right. Some (e.Binary (operator c.1) y right)) x h in
          let d = bind_inv (part Product c.2) (λ right. Some (e.Binary (operator c.1) b.0 right)) x b.1.1 in
          let is : x ≡ e.Binary (operator (s.Sign f.0)) b.0 d.0 = sym (some_same (e.Binary (operator c.1) b.0 d.0) x d.1.1) ∙ ap (λ k. e.Binary (operator k) b.0 d.0) f.1 in
          inl (moved (At Sum) x _ _ is (printed-Binary (operator (s.Sign f.0)) b.0 d.0) (sign_stands f.0 (printed b.0) (printed d.0)), of_sum f.0 b.0 d.0 is (H Sum c.0 b.0 (whole_front c.0 (c.1 ∷ c.2) whole) b.1.0) (H Product c.2 d.0 behind.1 d.1.0))

  abbrev PiecesWhole : List (Symbol × List Symbol) → Type 0
  PiecesWhole qs = Each (λ (q : Symbol × List Symbol). Whole q.1) qs

  comparison_inv : (xs : List Symbol) (x : Shape) → Whole xs → comparison part xs ≡ Some x → Here Comparison x
  unfolding comparison
  comparison_inv xs x w h = cut_by (front (at Comparison) xs) (pieces (at Comparison) xs) (front_whole (at Comparison) start xs w) (pieces_whole (at Comparison) start xs w) h
    where
      piece : Symbol × List Symbol → Option (CmpOp × Shape)
      piece p = part Sum p.1 >>= λ x. Some (comparator p.0, x)

      piece_inv : (q : Symbol × List Symbol) (v : CmpOp × Shape) → Whole q.1 → piece q ≡ Some v → P (At Sum) v.1
      piece_inv q v wq k =
          let b = bind_inv (part Sum q.1) (λ x. Some (comparator q.0, x)) v k in
          subst (λ (c : CmpOp × Shape). P (At Sum) c.1) (some_same (comparator q.0, b.0) v b.1.1) (H Sum q.1 b.0 wq b.1.0)

      cut_by : (here : List Symbol) (qs : List (Symbol × List Symbol)) → Whole here → PiecesWhole qs → in_all (sum part) (part Sum) piece e.Compare here qs xs ≡ Some x → Here Comparison x
      cut_by here [] wh wq h = rise Comparison Sum x (omega arith) (sum_inv xs x w h)
      cut_by here (q ∷ qs) wh wq h =
          let b = bind_inv (part Sum here) (λ y. each piece (q ∷ qs) >>= λ others. Some (e.Compare y others)) x h in
          let d = bind_inv (each piece (q ∷ qs)) (λ others. Some (e.Compare b.0 others)) x b.1.1 in
          let v = each_some piece q qs d.0 d.1.0 in
          let all : Each (λ (c : CmpOp × Shape). P (At Sum) c.1) d.0 = each_inv (λ (q : Symbol × List Symbol). Whole q.1) piece (λ (c : CmpOp × Shape). P (At Sum) c.1) piece_inv (q ∷ qs) d.0 wq d.1.0 in
          let is : x ≡ e.Compare b.0 (v.0 ∷ v.1.0) = sym (some_same (e.Compare b.0 d.0) x d.1.1) ∙ ap (e.Compare b.0) v.1.1 in
          inl (moved (At Comparison) x _ _ is (printed-Compare b.0 (v.0 ∷ v.1.0)) refl, of_compare b.0 v.0 v.1.0 is (H Sum here b.0 wh b.1.0) (subst (Each (λ (c : CmpOp × Shape). P (At Sum) c.1)) v.1.1 all))

  negation_inv : (xs : List Symbol) (x : Shape) → Whole xs → negation part xs ≡ Some x → Here Negation x
  unfolding negation
  negation_inv [] x w h = rise Negation Comparison x (omega arith) (comparison_inv [] x w h)
  negation_inv (s.Not ∷ xs) x w h =
      let b = bind_inv (part Negation xs) (λ x. Some (e.Not x)) x h in
      let is = sym (some_same (e.Not b.0) x b.1.1) in
      inl (moved (At Negation) x _ _ is (printed-Not b.0) refl, of_not b.0 is (H Negation xs b.0 w.1 b.1.0))
  negation_inv ((s.Atom u) ∷ xs) x w h = rise Negation Comparison x (omega arith) (comparison_inv ((s.Atom u) ∷ xs) x w h)
  negation_inv ((s.Super u) ∷ xs) x w h = rise Negation Comparison x (omega arith) (comparison_inv ((s.Super u) ∷ xs) x w h)
  negation_inv ((s.Method u) ∷ xs) x w h = rise Negation Comparison x (omega arith) (comparison_inv ((s.Method u) ∷ xs) x w h)
  negation_inv ((s.Attribute u) ∷ xs) x w h = rise Negation Comparison x (omega arith) (comparison_inv ((s.Attribute u) ∷ xs) x w h)
  negation_inv ((s.Sign u) ∷ xs) x w h = rise Negation Comparison x (omega arith) (comparison_inv ((s.Sign u) ∷ xs) x w h)
  negation_inv ((s.Factor u) ∷ xs) x w h = rise Negation Comparison x (omega arith) (comparison_inv ((s.Factor u) ∷ xs) x w h)
  negation_inv ((s.Compare u) ∷ xs) x w h = rise Negation Comparison x (omega arith) (comparison_inv ((s.Compare u) ∷ xs) x w h)
  negation_inv (s.Or ∷ xs) x w h = rise Negation Comparison x (omega arith) (comparison_inv (s.Or ∷ xs) x w h)
  negation_inv (s.And ∷ xs) x w h = rise Negation Comparison x (omega arith) (comparison_inv (s.And ∷ xs) x w h)
  negation_inv (s.If ∷ xs) x w h = rise Negation Comparison x (omega arith) (comparison_inv (s.If ∷ xs) x w h)
  negation_inv (s.Else ∷ xs) x w h = rise Negation Comparison x (omega arith) (comparison_inv (s.Else ∷ xs) x w h)
  negation_inv (s.Comma ∷ xs) x w h = rise Negation Comparison x (omega arith) (comparison_inv (s.Comma ∷ xs) x w h)
  negation_inv (s.Colon ∷ xs) x w h = rise Negation Comparison x (omega arith) (comparison_inv (s.Colon ∷ xs) x w h)
  negation_inv (s.Equal ∷ xs) x w h = rise Negation Comparison x (omega arith) (comparison_inv (s.Equal ∷ xs) x w h)
  negation_inv ((s.Open u) ∷ xs) x w h = rise Negation Comparison x (omega arith) (comparison_inv ((s.Open u) ∷ xs) x w h)
  negation_inv ((s.Close u) ∷ xs) x w h = rise Negation Comparison x (omega arith) (comparison_inv ((s.Close u) ∷ xs) x w h)
  negation_inv (s.Other ∷ xs) x w h = rise Negation Comparison x (omega arith) (comparison_inv (s.Other ∷ xs) x w h)

  conjunction_inv : (xs : List Symbol) (x : Shape) → Whole xs → conjunction part xs ≡ Some x → Here Conjunction x
  unfolding conjunction
  conjunction_inv xs x w h = cut_by (front (at Conjunction) xs) (pieces (at Conjunction) xs) (front_whole (at Conjunction) start xs w) (pieces_whole (at Conjunction) start xs w) h
    where
      cut_by : (here : List Symbol) (qs : List (Symbol × List Symbol)) → Whole here → PiecesWhole qs → in_all (negation part) (part Negation) (λ p. part Negation p.1) (λ x others. e.And (x ∷ others)) here qs xs ≡ Some x → Here Conjunction x
      cut_by here [] wh wq h = rise Conjunction Negation x (omega arith) (negation_inv xs x w h)
      cut_by here (q ∷ qs) wh wq h =
          let b = bind_inv (part Negation here) (λ y. each (λ (p : Symbol × List Symbol). part Negation p.1) (q ∷ qs) >>= λ others. Some (e.And (y ∷ others))) x h in
          let d = bind_inv (each (λ (p : Symbol × List Symbol). part Negation p.1) (q ∷ qs)) (λ others. Some (e.And (b.0 ∷ others))) x b.1.1 in
          let v = each_some (λ (p : Symbol × List Symbol). part Negation p.1) q qs d.0 d.1.0 in
          let all : Each (P (At Negation)) d.0 = each_inv (λ (q : Symbol × List Symbol). Whole q.1) (λ (p : Symbol × List Symbol). part Negation p.1) (P (At Negation)) (λ q v wq k. H Negation q.1 v wq k) (q ∷ qs) d.0 wq d.1.0 in
          let is : x ≡ e.And (b.0 ∷ v.0 ∷ v.1.0) = sym (some_same (e.And (b.0 ∷ d.0)) x d.1.1) ∙ ap (λ z. e.And (b.0 ∷ z)) v.1.1 in
          inl (moved (At Conjunction) x _ _ is (printed-And (b.0 ∷ v.0 ∷ v.1.0)) refl, of_and b.0 v.0 v.1.0 is (H Negation here b.0 wh b.1.0, subst (Each (P (At Negation))) v.1.1 all))

  disjunction_inv : (xs : List Symbol) (x : Shape) → Whole xs → disjunction part xs ≡ Some x → Here Disjunction x
  unfolding disjunction
  disjunction_inv xs x w h = cut_by (front (at Disjunction) xs) (pieces (at Disjunction) xs) (front_whole (at Disjunction) start xs w) (pieces_whole (at Disjunction) start xs w) h
    where
      cut_by : (here : List Symbol) (qs : List (Symbol × List Symbol)) → Whole here → PiecesWhole qs → in_all (conjunction part) (part Conjunction) (λ p. part Conjunction p.1) (λ x others. e.Or (x ∷ others)) here qs xs ≡ Some x → Here Disjunction x
      cut_by here [] wh wq h = rise Disjunction Conjunction x (omega arith) (conjunction_inv xs x w h)
      cut_by here (q ∷ qs) wh wq h =
          let b = bind_inv (part Conjunction here) (λ y. each (λ (p : Symbol × List Symbol). part Conjunction p.1) (q ∷ qs) >>= λ others. Some (e.Or (y ∷ others))) x h in
          let d = bind_inv (each (λ (p : Symbol × List Symbol). part Conjunction p.1) (q ∷ qs)) (λ others. Some (e.Or (b.0 ∷ others))) x b.1.1 in
          let v = each_some (λ (p : Symbol × List Symbol). part Conjunction p.1) q qs d.0 d.1.0 in
          let all : Each (P (At Conjunction)) d.0 = each_inv (λ (q : Symbol × List Symbol). Whole q.1) (λ (p : Symbol × List Symbol). part Conjunction p.1) (P (At Conjunction)) (λ q v wq k. H Conjunction q.1 v wq k) (q ∷ qs) d.0 wq d.1.0 in
          let is : x ≡ e.Or (b.0 ∷ v.0 ∷ v.1.0) = sym (some_same (e.Or (b.0 ∷ d.0)) x d.1.1) ∙ ap (λ z. e.Or (b.0 ∷ z)) v.1.1 in
          inl (moved (At Disjunction) x _ _ is (printed-Or (b.0 ∷ v.0 ∷ v.1.0)) refl, of_or b.0 v.0 v.1.0 is (H Conjunction here b.0 wh b.1.0, subst (Each (P (At Conjunction))) v.1.1 all))

  otherwise_inv : (value test rest : List Symbol) (x : Shape) → Whole value → Whole test → Whole rest → otherwise part value test rest ≡ Some x → Here Conditional x
  otherwise_inv value test [] x wv wt wr h = no_answer x h
  otherwise_inv value test (s.Else ∷ xs) x wv wt wr h =
      let b = bind_inv (part Disjunction value) (λ v. part Disjunction test >>= λ c. (part Conditional xs >>= λ o. Some (e.Cond v c o))) x h in
      let c = bind_inv (part Disjunction test) (λ c. part Conditional xs >>= λ o. Some (e.Cond b.0 c o)) x b.1.1 in
      let d = bind_inv (part Conditional xs) (λ o. Some (e.Cond b.0 c.0 o)) x c.1.1 in
      let is = sym (some_same (e.Cond b.0 c.0 d.0) x d.1.1) in
      inl (moved (At Conditional) x _ _ is (printed-Cond b.0 c.0 d.0) refl, of_cond b.0 c.0 d.0 is (H Disjunction value b.0 wv b.1.0) (H Disjunction test c.0 wt c.1.0) (H Conditional xs d.0 wr.1 d.1.0))
  otherwise_inv value test ((s.Atom u) ∷ xs) x wv wt wr h = no_answer x h
  otherwise_inv value test ((s.Super u) ∷ xs) x wv wt wr h = no_answer x h
  otherwise_inv value test ((s.Method u) ∷ xs) x wv wt wr h = no_answer x h
  otherwise_inv value test ((s.Attribute u) ∷ xs) x wv wt wr h = no_answer x h
  otherwise_inv value test ((s.Sign u) ∷ xs) x wv wt wr h = no_answer x h
  otherwise_inv value test ((s.Factor u) ∷ xs) x wv wt wr h = no_answer x h
  otherwise_inv value test ((s.Compare u) ∷ xs) x wv wt wr h = no_answer x h
  otherwise_inv value test (s.Or ∷ xs) x wv wt wr h = no_answer x h
  otherwise_inv value test (s.And ∷ xs) x wv wt wr h = no_answer x h
  otherwise_inv value test (s.Not ∷ xs) x wv wt wr h = no_answer x h
  otherwise_inv value test (s.If ∷ xs) x wv wt wr h = no_answer x h
  otherwise_inv value test (s.Comma ∷ xs) x wv wt wr h = no_answer x h
  otherwise_inv value test (s.Colon ∷ xs) x wv wt wr h = no_answer x h
  otherwise_inv value test (s.Equal ∷ xs) x wv wt wr h = no_answer x h
  otherwise_inv value test ((s.Open u) ∷ xs) x wv wt wr h = no_answer x h
  otherwise_inv value test ((s.Close u) ∷ xs) x wv wt wr h = no_answer x h
  otherwise_inv value test (s.Other ∷ xs) x wv wt wr h = no_answer x h

  chosen_inv : (xs value rest : List Symbol) (x : Shape) → Whole xs → Whole value → Whole rest → chosen part xs value rest ≡ Some x → Here Conditional x
  chosen_inv xs value [] x w wv wr h = rise Conditional Disjunction x (omega arith) (disjunction_inv xs x w h)
  chosen_inv xs value (s.If ∷ ys) x w wv wr h = otherwise_inv value (front (below Disjunction) ys) (back (below Disjunction) ys) x wv (front_whole (below Disjunction) start ys wr.1) (back_whole (below Disjunction) start ys wr.1) h
  chosen_inv xs value ((s.Atom u) ∷ ys) x w wv wr h = no_answer x h
  chosen_inv xs value ((s.Super u) ∷ ys) x w wv wr h = no_answer x h
  chosen_inv xs value ((s.Method u) ∷ ys) x w wv wr h = no_answer x h
  chosen_inv xs value ((s.Attribute u) ∷ ys) x w wv wr h = no_answer x h
  chosen_inv xs value ((s.Sign u) ∷ ys) x w wv wr h = no_answer x h
  chosen_inv xs value ((s.Factor u) ∷ ys) x w wv wr h = no_answer x h
  chosen_inv xs value ((s.Compare u) ∷ ys) x w wv wr h = no_answer x h
  chosen_inv xs value (s.Or ∷ ys) x w wv wr h = no_answer x h
  chosen_inv xs value (s.And ∷ ys) x w wv wr h = no_answer x h
  chosen_inv xs value (s.Not ∷ ys) x w wv wr h = no_answer x h
  chosen_inv xs value (s.Else ∷ ys) x w wv wr h = no_answer x h
  chosen_inv xs value (s.Comma ∷ ys) x w wv wr h = no_answer x h
  chosen_inv xs value (s.Colon ∷ ys) x w wv wr h = no_answer x h
  chosen_inv xs value (s.Equal ∷ ys) x w wv wr h = no_answer x h
  chosen_inv xs value ((s.Open u) ∷ ys) x w wv wr h = no_answer x h
  chosen_inv xs value ((s.Close u) ∷ ys) x w wv wr h = no_answer x h
  chosen_inv xs value (s.Other ∷ ys) x w wv wr h = no_answer x h

  conditional_inv : (xs : List Symbol) (x : Shape) → Whole xs → conditional part xs ≡ Some x → Here Conditional x
  unfolding conditional
  conditional_inv xs x w h = chosen_inv xs (front (below Disjunction) xs) (back (below Disjunction) xs) x w (front_whole (below Disjunction) start xs w) (back_whole (below Disjunction) start xs w) h

  listed_inv : (xs : List Symbol) (x : Shape) → Whole xs → listed part xs ≡ Some x → Here Listed x
  unfolding listed
  listed_inv xs x w h = tuple_by (pieces (at Listed) xs) h
    where
      tuple_by : (ps : List (Symbol × List Symbol)) → tuple_or part (conditional part) ps xs ≡ Some x → Here Listed x
      tuple_by [] h = rise Listed Conditional x (omega arith) (conditional_inv xs x w h)
      tuple_by (p ∷ ps) h =
          let b = bind_inv (comma_list (part Conditional) xs) (λ all. Some (e.TupleLit all)) x h in
          let is = sym (some_same (e.TupleLit b.0) x b.1.1) in
          inl (moved (At Listed) x _ _ is (printed-TupleLit b.0) refl, of_tuple b.0 is (listing xs b.0 w b.1.0))

  pub level_inv : (l : Level) (xs : List Symbol) (x : Shape) → Whole xs → at_level part l xs ≡ Some x → Node P (At l) x
  level_inv Listed xs x w h = listed_inv xs x w h
  level_inv Conditional xs x w h = conditional_inv xs x w h
  level_inv Disjunction xs x w h = disjunction_inv xs x w h
  level_inv Conjunction xs x w h = conjunction_inv xs x w h
  level_inv Negation xs x w h = negation_inv xs x w h
  level_inv Comparison xs x w h = comparison_inv xs x w h
  level_inv Sum xs x w h = sum_inv xs x w h
  level_inv Product xs x w h = product_inv xs x w h
  level_inv Signed xs x w h = signed_inv xs x w h
  level_inv Postfix xs x w h = postfix_inv (At Postfix) xs [] x tt (subst Whole (sym (append-nil xs)) w) h
