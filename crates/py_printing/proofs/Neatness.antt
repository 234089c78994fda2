-- The symbols of a printed tree are apart, so that their tokens make them again.
use Rattle.std.proofs.Common.{◌≡◌, ◌∙◌, sym, ap, refl, subst, ℕ, zero, suc, Bool, true, false, cond, ◌&&◌, ◌||◌, not, List, [], ◌∷◌, ◌++◌, Option, Some, None, inl, inr, arith, append-nil, append_assoc}
use Rattle.std.specs.Prelude.{nat_le, map, option_map}
use Rattle.py_language.specs.declared.shape.Atom.{Atom}
use Rattle.py_language.specs.declared.shape.Atom.TheVariants as a
use Rattle.py_language.specs.declared.shape.Bracket.{Bracket}
use Rattle.std.proofs.lemmas.Bool.Decides.{nat_tests}
use Rattle.py_language.specs.declared.shape.Bracket.TheVariants.{Round, Square, Brace}
use Rattle.py_language.specs.declared.shape.Shape.{Shape, Shape-F}
use Rattle.py_language.specs.declared.shape.Symbol.{Symbol}
use Rattle.py_language.specs.declared.shape.Symbol.TheVariants as s
use Rattle.py_language.specs.TreesPlaces.{Level, Listed, Conditional, Disjunction, Conjunction, Negation, Comparison, Sum, Product, Signed, Postfix, number}
use Rattle.py_language.specs.Trees.{operator}
use Rattle.py_syntax.specs.declared.operator.BinOp.{BinOp}
use Rattle.py_syntax.specs.declared.operator.BinOp.TheVariants.{Add, Sub, Mul, FloorDiv, Mod}
use Rattle.py_syntax.specs.declared.operator.CmpOp.{CmpOp}
use Rattle.py_syntax.specs.declared.operator.Sign.{Sign}
use Rattle.py_syntax.specs.declared.operator.Sign.TheVariants.{Minus, Plus}
use Rattle.py_printing.specs.Printing as p
use Rattle.py_printing.specs.Printing.{plain_at, is_super_name, is_none_of, chain, after_comma, commas, enclosed, Slot, At, Callee, Owner, Lone, level, Printed, is_bare_in, in_slot, one, marked, argument, arguments, entry, tuple, bound, is_factor, binary, print_node, printed, print, Each, IfThere, Form, of_atom, of_list, of_tuple, of_dict, of_attr, of_index, of_slice, of_call, of_method, of_super, of_unary, of_not, of_sum, of_product, of_and, of_or, of_compare, of_cond, Node, Fits}
use Rattle.py_language.specs.TreesSymbols.{is_super}
use Rattle.py_syntax.specs.declared.operator.CmpOp.TheVariants.{Lt, Gt, Eq, Ge, Le, Ne, Contained, NotContained, Same, NotSame}
use Rattle.py_printing.specs.SymbolTokens.{first_is, is_round, is_string, is_in, is_not, is_method, is_close, is_called, is_apart_from, are_apart}
use Rattle.py_printing.proofs.StructureLaw.{stripped}
use Rattle.py_printing.proofs.Unrolled.{printed-Atom, printed-ListLit, printed-TupleLit, printed-DictLit, printed-Attr, printed-Index, printed-Slice, printed-Call, printed-Method, printed-Super, printed-Unary, printed-Not, printed-Binary, printed-And, printed-Or, printed-Compare, printed-Cond}

-- ---- what may follow an expression

-- what may come after any expression
abbrev pub is_calm : Symbol → Bool
is_calm (s.Sign g) = true
is_calm (s.Factor op) = true
is_calm (s.Compare op) = true
is_calm s.Or = true
is_calm s.And = true
is_calm s.If = true
is_calm s.Else = true
is_calm s.Comma = true
is_calm s.Colon = true
is_calm (s.Close b) = true
is_calm (s.Attribute n) = true
is_calm (s.Open Square) = true
is_calm _ = false

abbrev pub calm : List Symbol → Bool
calm [] = true
calm (x ∷ xs) = is_calm x

-- what an expression begins with
abbrev pub is_opener : Symbol → Bool
is_opener (s.Atom x) = true
is_opener (s.Super n) = true
is_opener (s.Sign g) = true
is_opener s.Not = true
is_opener (s.Open b) = true
is_opener _ = false

-- after its bare text: after a primary that is no attribute a call may follow, and behind one that is not `super()` a method
abbrev pub follows_primary : Bool → Bool → Bool → List Symbol → Bool
follows_primary attr name call rest = (first_is is_round rest && (not attr && not (name && is_called rest))) || (first_is is_method rest && not call)

abbrev pub ok : Printed → List Symbol → Bool
ok p rest = calm rest || (nat_le 10 (number p.own) && follows_primary p.is_attribute p.is_name p.is_call rest)

abbrev pub okin : Slot → Printed → List Symbol → Bool
okin (At l) p rest = calm rest
okin Callee p rest = first_is is_round rest && not (p.is_name && is_called rest)
okin Owner p rest = first_is is_method rest
okin Lone p rest = calm rest

abbrev pub Joins : (List Symbol → Bool) → List Symbol → Type 0
Joins f xs = (rest : List Symbol) → f rest ≡ true → are_apart rest ≡ true → are_apart (xs ++ rest) ≡ true

abbrev pub Calm : List Symbol → Type 0
Calm xs = Joins calm xs

abbrev pub Loose : List Symbol → Type 0
Loose xs = (rest : List Symbol) → are_apart rest ≡ true → are_apart (xs ++ rest) ≡ true

pub record Neat (p : Printed) : Type 0 where
  pub joins : Joins (ok p) p.bare
  pub opens : (rest : List Symbol) → first_is is_opener (p.bare ++ rest) ≡ true
  pub no_not : (rest : List Symbol) → nat_le 6 (number p.own) ≡ true → first_is is_not (p.bare ++ rest) ≡ false

pub record NeatIn (slot : Slot) (p : Printed) : Type 0 where
  pub joins : Joins (okin slot p) (in_slot slot p)
  pub opens : (rest : List Symbol) → first_is is_opener (in_slot slot p ++ rest) ≡ true
  pub no_not : (rest : List Symbol) → nat_le 6 (number (level slot)) ≡ true → first_is is_not (in_slot slot p ++ rest) ≡ false

-- ---- truth

and_both : (v w : Bool) → (v && w) ≡ true → (v ≡ true) × (w ≡ true)
and_both true w e = (refl, e)
and_both false w e = absurd (cc)

and_false : (v : Bool) → (v && false) ≡ false
and_false true = refl
and_false false = refl

or_false : (v : Bool) → (v || false) ≡ v
or_false true = refl
or_false false = refl

or_true : (v : Bool) → (v || true) ≡ true
or_true true = refl
or_true false = refl

-- ---- text in brackets

close_calm : (b : Bracket) (rest : List Symbol) → are_apart rest ≡ true → are_apart (s.Close b ∷ rest) ≡ true
close_calm Round rest e = e
close_calm Square rest e = e
close_calm Brace rest e = e

enclosed_loose : (b : Bracket) (xs : List Symbol) → Calm xs → Loose (enclosed b xs)
enclosed_loose b xs c rest e = open_by b (ap are_apart (append_assoc xs (s.Close b ∷ []) rest) ∙ c (s.Close b ∷ rest) refl (close_calm b rest e))
  where
    open_by : (b' : Bracket) → are_apart ((xs ++ s.Close b ∷ []) ++ rest) ≡ true → are_apart (s.Open b' ∷ ((xs ++ s.Close b ∷ []) ++ rest)) ≡ true
    open_by Round h = h
    open_by Square h = h
    open_by Brace h = h

-- ---- chains

abbrev Steps : List (Symbol × List Symbol) → Type 0
Steps [] = Unit {0}
Steps (q ∷ qs) = (is_calm q.0 ≡ true) × (((rest : List Symbol) → is_apart_from q.0 (q.1 ++ rest) ≡ true) × (Calm q.1 × Steps qs))

chain_first : (u : List Symbol) (qs : List (Symbol × List Symbol)) (m : Symbol) (rest : List Symbol) → ((r : List Symbol) → is_apart_from m (u ++ r) ≡ true) → is_apart_from m (chain u qs ++ rest) ≡ true
chain_first u [] m rest h = h rest
chain_first u (q ∷ qs) m rest h = ap (is_apart_from m) (append_assoc u (q.0 ∷ chain q.1 qs) rest) ∙ h (q.0 ∷ (chain q.1 qs ++ rest))

chain_calm : (t : List Symbol) (qs : List (Symbol × List Symbol)) → Calm t → Steps qs → Calm (chain t qs)
chain_calm t [] c st rest k e = c rest k e
chain_calm t (q ∷ qs) c st rest k e =
    let inner = chain_calm q.1 qs st.1.1.0 st.1.1.1 rest k e in
    ap are_apart (append_assoc t (q.0 ∷ chain q.1 qs) rest) ∙ c (q.0 ∷ (chain q.1 qs ++ rest)) st.0 (rw (chain_first q.1 qs q.0 rest st.1.0, inner) refl)

nil_calm : Calm []
nil_calm rest k e = e

first_more : (p : Symbol → Bool) (v : Bool) (xs ys : List Symbol) → ((rest : List Symbol) → first_is p (xs ++ rest) ≡ v) → (rest : List Symbol) → first_is p ((xs ++ ys) ++ rest) ≡ v
first_more p v xs ys h rest = ap (first_is p) (append_assoc xs ys rest) ∙ h (ys ++ rest)

chain_begins : (p : Symbol → Bool) (v : Bool) (t : List Symbol) (qs : List (Symbol × List Symbol)) → ((rest : List Symbol) → first_is p (t ++ rest) ≡ v) → (rest : List Symbol) → first_is p (chain t qs ++ rest) ≡ v
chain_begins p v t [] h rest = h rest
chain_begins p v t (q ∷ qs) h rest = first_more p v t (q.0 ∷ chain q.1 qs) h rest

opener_no_in : (xs : List Symbol) → first_is is_opener xs ≡ true → first_is is_in xs ≡ false
opener_no_in [] e = refl
opener_no_in ((s.Atom y) ∷ xs) e = refl
opener_no_in ((s.Super y) ∷ xs) e = refl
opener_no_in ((s.Method y) ∷ xs) e = absurd (cc)
opener_no_in ((s.Attribute y) ∷ xs) e = absurd (cc)
opener_no_in ((s.Sign y) ∷ xs) e = refl
opener_no_in ((s.Factor y) ∷ xs) e = absurd (cc)
opener_no_in ((s.Compare y) ∷ xs) e = absurd (cc)
opener_no_in (s.Or ∷ xs) e = absurd (cc)
opener_no_in (s.And ∷ xs) e = absurd (cc)
opener_no_in (s.Not ∷ xs) e = refl
opener_no_in (s.If ∷ xs) e = absurd (cc)
opener_no_in (s.Else ∷ xs) e = absurd (cc)
opener_no_in (s.Comma ∷ xs) e = absurd (cc)
opener_no_in (s.Colon ∷ xs) e = absurd (cc)
opener_no_in (s.Equal ∷ xs) e = absurd (cc)
opener_no_in ((s.Open y) ∷ xs) e = refl
opener_no_in ((s.Close y) ∷ xs) e = absurd (cc)
opener_no_in (s.Other ∷ xs) e = absurd (cc)

opener_no_close : (xs : List Symbol) → first_is is_opener xs ≡ true → first_is is_close xs ≡ false
opener_no_close [] e = refl
opener_no_close ((s.Atom y) ∷ xs) e = refl
opener_no_close ((s.Super y) ∷ xs) e = refl
opener_no_close ((s.Method y) ∷ xs) e = absurd (cc)
opener_no_close ((s.Attribute y) ∷ xs) e = absurd (cc)
opener_no_close ((s.Sign y) ∷ xs) e = refl
opener_no_close ((s.Factor y) ∷ xs) e = absurd (cc)
opener_no_close ((s.Compare y) ∷ xs) e = absurd (cc)
opener_no_close (s.Or ∷ xs) e = absurd (cc)
opener_no_close (s.And ∷ xs) e = absurd (cc)
opener_no_close (s.Not ∷ xs) e = refl
opener_no_close (s.If ∷ xs) e = absurd (cc)
opener_no_close (s.Else ∷ xs) e = absurd (cc)
opener_no_close (s.Comma ∷ xs) e = absurd (cc)
opener_no_close (s.Colon ∷ xs) e = absurd (cc)
opener_no_close (s.Equal ∷ xs) e = absurd (cc)
opener_no_close ((s.Open y) ∷ xs) e = refl
opener_no_close ((s.Close y) ∷ xs) e = absurd (cc)
opener_no_close (s.Other ∷ xs) e = absurd (cc)

record Rest (rest : List Symbol) : Type 0 where
  round : calm rest ≡ true → first_is is_round rest ≡ false
  method : calm rest ≡ true → first_is is_method rest ≡ false
  string : calm rest ≡ true → first_is is_string rest ≡ false
  round_method : first_is is_method rest ≡ true → first_is is_round rest ≡ false
  round_string : first_is is_round rest ≡ true → first_is is_string rest ≡ false
  method_string : first_is is_method rest ≡ true → first_is is_string rest ≡ false

rest_is : (rest : List Symbol) → Rest rest
rest_is [] = record { round = λ e. refl; method = λ e. refl; string = λ e. refl; round_method = λ e. refl; round_string = λ e. refl; method_string = λ e. refl }
rest_is ((s.Atom y) ∷ xs) = record { round = λ e. refl; method = λ e. refl; string = λ e. absurd (cc); round_method = λ e. refl; round_string = λ e. absurd (cc); method_string = λ e. absurd (cc) }
rest_is ((s.Super y) ∷ xs) = record { round = λ e. refl; method = λ e. refl; string = λ e. refl; round_method = λ e. refl; round_string = λ e. refl; method_string = λ e. refl }
rest_is ((s.Method y) ∷ xs) = record { round = λ e. refl; method = λ e. absurd (cc); string = λ e. refl; round_method = λ e. refl; round_string = λ e. refl; method_string = λ e. refl }
rest_is ((s.Attribute y) ∷ xs) = record { round = λ e. refl; method = λ e. refl; string = λ e. refl; round_method = λ e. refl; round_string = λ e. refl; method_string = λ e. refl }
rest_is ((s.Sign y) ∷ xs) = record { round = λ e. refl; method = λ e. refl; string = λ e. refl; round_method = λ e. refl; round_string = λ e. refl; method_string = λ e. refl }
rest_is ((s.Factor y) ∷ xs) = record { round = λ e. refl; method = λ e. refl; string = λ e. refl; round_method = λ e. refl; round_string = λ e. refl; method_string = λ e. refl }
rest_is ((s.Compare y) ∷ xs) = record { round = λ e. refl; method = λ e. refl; string = λ e. refl; round_method = λ e. refl; round_string = λ e. refl; method_string = λ e. refl }
rest_is (s.Or ∷ xs) = record { round = λ e. refl; method = λ e. refl; string = λ e. refl; round_method = λ e. refl; round_string = λ e. refl; method_string = λ e. refl }
rest_is (s.And ∷ xs) = record { round = λ e. refl; method = λ e. refl; string = λ e. refl; round_method = λ e. refl; round_string = λ e. refl; method_string = λ e. refl }
rest_is (s.Not ∷ xs) = record { round = λ e. refl; method = λ e. refl; string = λ e. refl; round_method = λ e. refl; round_string = λ e. refl; method_string = λ e. refl }
rest_is (s.If ∷ xs) = record { round = λ e. refl; method = λ e. refl; string = λ e. refl; round_method = λ e. refl; round_string = λ e. refl; method_string = λ e. refl }
rest_is (s.Else ∷ xs) = record { round = λ e. refl; method = λ e. refl; string = λ e. refl; round_method = λ e. refl; round_string = λ e. refl; method_string = λ e. refl }
rest_is (s.Comma ∷ xs) = record { round = λ e. refl; method = λ e. refl; string = λ e. refl; round_method = λ e. refl; round_string = λ e. refl; method_string = λ e. refl }
rest_is (s.Colon ∷ xs) = record { round = λ e. refl; method = λ e. refl; string = λ e. refl; round_method = λ e. refl; round_string = λ e. refl; method_string = λ e. refl }
rest_is (s.Equal ∷ xs) = record { round = λ e. refl; method = λ e. refl; string = λ e. refl; round_method = λ e. refl; round_string = λ e. refl; method_string = λ e. refl }
rest_is ((s.Open Round) ∷ xs) = record { round = λ e. absurd (cc); method = λ e. refl; string = λ e. refl; round_method = λ e. absurd (cc); round_string = λ e. refl; method_string = λ e. refl }
rest_is ((s.Open Square) ∷ xs) = record { round = λ e. refl; method = λ e. refl; string = λ e. refl; round_method = λ e. refl; round_string = λ e. refl; method_string = λ e. refl }
rest_is ((s.Open Brace) ∷ xs) = record { round = λ e. refl; method = λ e. refl; string = λ e. refl; round_method = λ e. refl; round_string = λ e. refl; method_string = λ e. refl }
rest_is ((s.Close Round) ∷ xs) = record { round = λ e. refl; method = λ e. refl; string = λ e. refl; round_method = λ e. refl; round_string = λ e. refl; method_string = λ e. refl }
rest_is ((s.Close Square) ∷ xs) = record { round = λ e. refl; method = λ e. refl; string = λ e. refl; round_method = λ e. refl; round_string = λ e. refl; method_string = λ e. refl }
rest_is ((s.Close Brace) ∷ xs) = record { round = λ e. refl; method = λ e. refl; string = λ e. refl; round_method = λ e. refl; round_string = λ e. refl; method_string = λ e. refl }
rest_is (s.Other ∷ xs) = record { round = λ e. refl; method = λ e. refl; string = λ e. refl; round_method = λ e. refl; round_string = λ e. refl; method_string = λ e. refl }

-- ---- a text in its slot

calm_ok : (p : Printed) (rest : List Symbol) → calm rest ≡ true → ok p rest ≡ true
calm_ok p rest e = rw e refl

ok_by : (c o r a n m : Bool) → o ≡ true → r ≡ true → a ≡ true → n ≡ true → (c || (o && ((r && (a && n)) || m))) ≡ true
ok_by c o r a n m eo er ea en = rw (eo, er, ea, en) (or_true c)

slot_ok : (slot : Slot) (p : Printed) (rest : List Symbol) → is_bare_in slot p ≡ true → okin slot p rest ≡ true → ok p rest ≡ true
slot_ok (At l) p rest e h = calm_ok p rest h
slot_ok Lone p rest e h = calm_ok p rest h
slot_ok Callee p rest e h =
    let two = and_both (nat_le 10 (number p.own)) (not p.is_attribute) e in
    let four = and_both (first_is is_round rest) (not (p.is_name && is_called rest)) h in
    ok_by (calm rest) (nat_le 10 (number p.own)) (first_is is_round rest) (not p.is_attribute) (not (p.is_name && is_called rest)) (first_is is_method rest && not p.is_call) two.0 four.0 two.1 four.1
slot_ok Owner p rest e h =
    let two = and_both (nat_le 10 (number p.own)) (not p.is_call) e in
    rw (two.0, h, two.1) (rw (or_true (first_is is_round rest && (not p.is_attribute && not (p.is_name && is_called rest)))) (or_true (calm rest)))

own_more : (slot : Slot) (p : Printed) → is_bare_in slot p ≡ true → nat_le 6 (number (level slot)) ≡ true → nat_le 6 (number p.own) ≡ true
own_more (At l) p e h = grind (arith, nat_tests)
own_more Callee p e h = let two = and_both (nat_le 10 (number p.own)) (not p.is_attribute) e in let f = two.0 in grind (arith, nat_tests)
own_more Lone p e h = let two = and_both (nat_le 10 (number p.own)) (not p.is_attribute && not p.is_name) e in let f = two.0 in grind (arith, nat_tests)
own_more Owner p e h = let two = and_both (nat_le 10 (number p.own)) (not p.is_call) e in let f = two.0 in grind (arith, nat_tests)

put_by : (v : Bool) (slot : Slot) (p : Printed) → is_bare_in slot p ≡ v → Neat p → ((rest : List Symbol) → okin slot p rest ≡ true → are_apart rest ≡ true → are_apart (cond v p.bare (enclosed Round p.bare) ++ rest) ≡ true)
put_by true slot p e n rest k a = n.joins rest (slot_ok slot p rest e k) a
put_by false slot p e n rest k a = enclosed_loose Round p.bare (λ r c b. n.joins r (calm_ok p r c) b) rest a

put_opens : (v : Bool) (slot : Slot) (p : Printed) → Neat p → (rest : List Symbol) → first_is is_opener (cond v p.bare (enclosed Round p.bare) ++ rest) ≡ true
put_opens true slot p n rest = n.opens rest
put_opens false slot p n rest = refl

put_no_not : (v : Bool) (slot : Slot) (p : Printed) → is_bare_in slot p ≡ v → Neat p → (rest : List Symbol) → nat_le 6 (number (level slot)) ≡ true → first_is is_not (cond v p.bare (enclosed Round p.bare) ++ rest) ≡ false
put_no_not true slot p e n rest h = n.no_not rest (own_more slot p e h)
put_no_not false slot p e n rest h = refl

pub neat_in : (slot : Slot) (p : Printed) → Neat p → NeatIn slot p
neat_in slot p n = record { joins = put_by (is_bare_in slot p) slot p refl n; opens = put_opens (is_bare_in slot p) slot p n; no_not = put_no_not (is_bare_in slot p) slot p refl n }

-- ---- each form

-- a text of a looser level than primaries is followed by what is calm
loose_level : (l : Level) (xs : List Symbol) → nat_le 10 (number l) ≡ false → Calm xs → Joins (ok (plain_at l xs)) xs
loose_level l xs e c rest k a = c rest (sym (or_false (calm rest)) ∙ sym (ap (λ v. calm rest || (v && follows_primary false false false rest)) e) ∙ k) a

-- a primary that ends with a bracket may be followed by anything
primary : (xs : List Symbol) → Loose xs → ((rest : List Symbol) → first_is is_opener (xs ++ rest) ≡ true) → ((rest : List Symbol) → first_is is_not (xs ++ rest) ≡ false) → Neat (plain_at Postfix xs)
primary xs l o n = record { joins = λ rest k a. l rest a; opens = o; no_not = λ rest h. n rest }

atom_meets : (x : Atom) (rest : List Symbol) → ok (print_node (Shape-F.Atom x)) rest ≡ true → is_apart_from (s.Atom x) rest ≡ true
atom_meets a.NoneLit rest k = refl
atom_meets (a.BoolLit b) rest k = refl
atom_meets (a.IntLit n) rest k = refl
atom_meets (a.StrLit z) rest k = string_by (calm rest) (first_is is_round rest) (first_is is_method rest) refl refl refl k
  where
    string_by : (c r m : Bool) → calm rest ≡ c → first_is is_round rest ≡ r → first_is is_method rest ≡ m → (c || ((r && true) || (m && true))) ≡ true → not (first_is is_string rest) ≡ true
    string_by true r m ec er em k = rw ((rest_is rest).string ec) refl
    string_by false true m ec er em k = rw ((rest_is rest).round_string er) refl
    string_by false false true ec er em k = rw ((rest_is rest).method_string em) refl
    string_by false false false ec er em k = absurd (cc)
atom_meets (a.Name n) rest k = name_by (calm rest) (first_is is_round rest) (first_is is_method rest) (is_super n) refl refl refl k
  where
    no_call : first_is is_round rest ≡ false → is_called rest ≡ false
    no_call e = rw e refl

    name_by : (c r m v : Bool) → calm rest ≡ c → first_is is_round rest ≡ r → first_is is_method rest ≡ m → (c || ((r && not (v && is_called rest)) || (m && true))) ≡ true → not (v && is_called rest) ≡ true
    name_by true r m v ec er em k = rw (no_call ((rest_is rest).round ec), and_false v) refl
    name_by false true true v ec er em k = let w : true ≡ false = sym er ∙ (rest_is rest).round_method em in absurd (cc)
    name_by false true false v ec er em k = sym (or_false (not (v && is_called rest))) ∙ k
    name_by false false true v ec er em k = rw (no_call er, and_false v) refl
    name_by false false false v ec er em k = absurd (cc)

attr_meets : (p : Printed) (n : List ℕ) (rest : List Symbol) → ok (print_node (Shape-F.Attr p n)) rest ≡ true → not (first_is is_round rest) ≡ true
attr_meets p n rest k = attr_by (calm rest) (first_is is_round rest) (first_is is_method rest) refl refl refl k
  where
    attr_by : (c r m : Bool) → calm rest ≡ c → first_is is_round rest ≡ r → first_is is_method rest ≡ m → (c || ((r && false) || (m && true))) ≡ true → not (first_is is_round rest) ≡ true
    attr_by true r m ec er em k = rw ((rest_is rest).round ec) refl
    attr_by false r true ec er em k = rw ((rest_is rest).round_method em) refl
    attr_by false true false ec er em k = absurd (cc)
    attr_by false false false ec er em k = absurd (cc)

-- ---- lists of parts

abbrev AllCalm : List (List Symbol) → Type 0
AllCalm [] = Unit {0}
AllCalm (t ∷ ts) = Calm t × AllCalm ts

comma_steps : (ts : List (List Symbol)) → AllCalm ts → Steps (map after_comma ts)
comma_steps [] h = tt
comma_steps (t ∷ ts) h = (refl, (λ rest. refl, (h.0, comma_steps ts h.1)))

commas_calm : (ts : List (List Symbol)) → AllCalm ts → Calm (commas ts)
commas_calm [] h = nil_calm
commas_calm (t ∷ ts) h = chain_calm t (map after_comma ts) h.0 (comma_steps ts h.1)

or_steps : (ts : List (List Symbol)) → AllCalm ts → Steps (marked s.Or ts)
or_steps [] h = tt
or_steps (t ∷ ts) h = (refl, (λ rest. refl, (h.0, or_steps ts h.1)))

and_steps : (ts : List (List Symbol)) → AllCalm ts → Steps (marked s.And ts)
and_steps [] h = tt
and_steps (t ∷ ts) h = (refl, (λ rest. refl, (h.0, and_steps ts h.1)))

compare_meets : (op : CmpOp) (xs : List Symbol) → first_is is_in xs ≡ false → first_is is_not xs ≡ false → is_apart_from (s.Compare op) xs ≡ true
compare_meets Lt xs e h = refl
compare_meets Gt xs e h = refl
compare_meets Eq xs e h = refl
compare_meets Ge xs e h = refl
compare_meets Le xs e h = refl
compare_meets Ne xs e h = refl
compare_meets Contained xs e h = refl
compare_meets NotContained xs e h = refl
compare_meets Same xs e h = rw h refl
compare_meets NotSame xs e h = rw e refl

-- an argument's text after a bracket or a comma
equal_meets : (n : List ℕ) (rest : List Symbol) → is_apart_from (s.Atom (a.Name n)) (s.Equal ∷ rest) ≡ true
equal_meets n rest = rw (and_false (is_super n)) refl

module _ (P : Slot → Shape → Type 0) (ih : (slot : Slot) (x : Shape) → P slot x → NeatIn slot (printed x)) where
  part_calm : (l : Level) (x : Shape) → P (At l) x → Calm (print (At l) x)
  part_calm l x h = (ih (At l) x h).joins

  all_calm : (l : Level) (xs : List Shape) → Each (P (At l)) xs → AllCalm (map (in_slot (At l)) (map printed xs))
  all_calm l [] h = tt
  all_calm l (x ∷ xs) h = (part_calm l x h.0, all_calm l xs h.1)

  argument_calm : (n : Option (List ℕ)) (x : Shape) → P (At Conditional) x → Calm (argument (n, printed x))
  argument_calm None x h = part_calm Conditional x h
  argument_calm (Some n) x h = λ rest k e. rw (and_false (is_super n)) (part_calm Conditional x h rest k e)

  arguments_calm : (xs : List (Option (List ℕ) × Shape)) → Each (λ (p : Option (List ℕ) × Shape). P (At Conditional) p.1) xs → AllCalm (map argument (map (λ (p : Option (List ℕ) × Shape). (p.0, printed p.1)) xs))
  arguments_calm [] h = tt
  arguments_calm (x ∷ xs) h = (argument_calm x.0 x.1 h.0, arguments_calm xs h.1)

  entries_calm : (xs : List (Shape × Shape)) → Each (λ (p : Shape × Shape). P (At Conditional) p.0 × P (At Conditional) p.1) xs → AllCalm (map entry (map (λ (p : Shape × Shape). (printed p.0, printed p.1)) xs))
  entries_calm [] h = tt
  entries_calm (x ∷ xs) h = (chain_calm (print (At Conditional) x.0) ((s.Colon, print (At Conditional) x.1) ∷ []) (part_calm Conditional x.0 h.0.0) (refl, (λ rest. refl, (part_calm Conditional x.1 h.0.1, tt))), entries_calm xs h.1)

  bound_calm : (low : Option Shape) → IfThere (P (At Conditional)) low → Calm (bound (option_map printed low))
  bound_calm None h = nil_calm
  bound_calm (Some x) h = part_calm Conditional x h

  tuple_calm : (xs : List Shape) → Each (P (At Conditional)) xs → Calm (tuple (map one (map printed xs)))
  tuple_calm [] h = nil_calm
  tuple_calm (x ∷ []) h = λ rest k e. ap are_apart (append_assoc (print (At Conditional) x) (s.Comma ∷ []) rest) ∙ part_calm Conditional x h.0 (s.Comma ∷ rest) refl e
  tuple_calm (x ∷ y ∷ ys) h = commas_calm (map one (map printed (x ∷ y ∷ ys))) (all_calm Conditional (x ∷ y ∷ ys) h)

  compare_steps : (cs : List (CmpOp × Shape)) → Each (λ (c : CmpOp × Shape). P (At Sum) c.1) cs → Steps (p.compared (map (λ (c : CmpOp × Shape). (c.0, printed c.1)) cs))
  compare_steps [] h = tt
  compare_steps (c ∷ cs) h =
      let n = ih (At Sum) c.1 h.0 in
      (refl, (λ rest. compare_meets c.0 (print (At Sum) c.1 ++ rest) (opener_no_in (print (At Sum) c.1 ++ rest) (n.opens rest)) (n.no_not rest refl), (n.joins, compare_steps cs h.1)))

  -- a chain of parts at a level
  chain_neat : (l m : Level) (x : Shape) (qs : List (Symbol × List Symbol)) → nat_le 10 (number l) ≡ false → (nat_le 6 (number l) ≡ true → nat_le 6 (number m) ≡ true) → P (At m) x → Steps qs → Neat (plain_at l (chain (print (At m) x) qs))
  chain_neat l m x qs e f h st =
      let n = ih (At m) x h in
      record {
        joins = loose_level l (chain (print (At m) x) qs) e (chain_calm (print (At m) x) qs n.joins st);
        opens = chain_begins is_opener true (print (At m) x) qs n.opens;
        no_not = λ rest k. chain_begins is_not false (print (At m) x) qs (λ r. n.no_not r (f k)) rest;
      }

  all_arguments : (xs : List (Option (List ℕ) × Shape)) → Each (λ (p : Option (List ℕ) × Shape). P (At Conditional) p.1) xs → Loose (arguments (map (λ (p : Option (List ℕ) × Shape). (p.0, printed p.1)) xs))
  all_arguments xs h = enclosed_loose Round (commas (map argument (map (λ (p : Option (List ℕ) × Shape). (p.0, printed p.1)) xs))) (commas_calm (map argument (map (λ (p : Option (List ℕ) × Shape). (p.0, printed p.1)) xs)) (arguments_calm xs h))

  -- `()` is there before a method exactly where there are no arguments and a method follows
  argument_opens : (n : Option (List ℕ)) (x : Shape) (rest : List Symbol) → P (At Conditional) x → first_is is_opener (argument (n, printed x) ++ rest) ≡ true
  argument_opens None x rest h = (ih (At Conditional) x h).opens rest
  argument_opens (Some n) x rest h = refl

  no_close : (n : Option (List ℕ)) (x : Shape) (qs : List (Symbol × List Symbol)) (rest : List Symbol) → P (At Conditional) x → first_is is_close ((chain (argument (n, printed x)) qs ++ s.Close Round ∷ []) ++ rest) ≡ false
  no_close n x qs rest h = opener_no_close _ (first_more is_opener true (chain (argument (n, printed x)) qs) (s.Close Round ∷ []) (chain_begins is_opener true (argument (n, printed x)) qs (λ r. argument_opens n x r h)) rest)

  called_args : (xs : List (Option (List ℕ) × Shape)) (rest : List Symbol) → Each (λ (p : Option (List ℕ) × Shape). P (At Conditional) p.1) xs
      → is_called (arguments (map (λ (p : Option (List ℕ) × Shape). (p.0, printed p.1)) xs) ++ rest) ≡ (is_none_of (map (λ (p : Option (List ℕ) × Shape). (p.0, printed p.1)) xs) && first_is is_method rest)
  called_args [] rest h = refl
  called_args (x ∷ xs) rest h = rw (no_close x.0 x.1 (map after_comma (map argument (map (λ (p : Option (List ℕ) × Shape). (p.0, printed p.1)) xs))) rest h.0) refl

  call_by : (c r m v n : Bool) → (m ≡ true → c ≡ false) → (m ≡ true → r ≡ false) → (c || ((r && true) || (m && not (v && n)))) ≡ true → not (v && (n && m)) ≡ true
  call_by c r false v n f g k = rw (and_false n, and_false v) refl
  call_by c r true v n f g k = call_true c r v n (f refl) (g refl) k
    where
      call_true : (c r v n : Bool) → c ≡ false → r ≡ false → (c || ((r && true) || (true && not (v && n)))) ≡ true → not (v && (n && true)) ≡ true
      call_true false false v true e h k = k
      call_true false false v false e h k = rw (and_false v) refl
      call_true true r v n e h k = absurd (cc)
      call_true false true v n e h k = absurd (cc)

  moved : (x y : Shape) (p : Printed) → x ≡ y → printed y ≡ p → Neat p → Neat (printed x)
  moved x y p is e r = subst (λ z. Neat (printed z)) (sym is) (subst Neat (sym e) r)

  behind_part : (slot : Slot) (y : Shape) (g : Symbol) (gs : List Symbol) → nat_le 6 (number (level slot)) ≡ true → P slot y → ((rest : List Symbol) → okin slot (printed y) ((g ∷ gs) ++ rest) ≡ true) → Loose (g ∷ gs) → Neat (plain_at Postfix (print slot y ++ g ∷ gs))
  behind_part slot y g gs hi h k l =
      let n = ih slot y h in
      record {
        joins = λ rest o a. ap are_apart (append_assoc (print slot y) (g ∷ gs) rest) ∙ n.joins ((g ∷ gs) ++ rest) (k rest) (l rest a);
        opens = first_more is_opener true (print slot y) (g ∷ gs) n.opens;
        no_not = λ rest o. first_more is_not false (print slot y) (g ∷ gs) (λ r. n.no_not r hi) rest;
      }

  call_neat : (y : Shape) (xs : List (Option (List ℕ) × Shape)) → P Callee y → Each (λ (p : Option (List ℕ) × Shape). P (At Conditional) p.1) xs
      → Neat (print_node (Shape-F.Call (printed y) (map (λ (p : Option (List ℕ) × Shape). (p.0, printed p.1)) xs)))
  call_neat y xs h k =
      let n = ih Callee y h in
      let ps = map (λ (p : Option (List ℕ) × Shape). (p.0, printed p.1)) xs in
      record {
        joins = λ rest o e. ap are_apart (append_assoc (print Callee y) (arguments ps) rest)
            ∙ n.joins (arguments ps ++ rest)
            (rw (called_args xs rest k) (call_by (calm rest) (first_is is_round rest) (first_is is_method rest) (printed y).is_name (is_none_of ps) (λ m. no_calm rest m) (λ m. (rest_is rest).round_method m) o))
            (all_arguments xs k rest e);
        opens = first_more is_opener true (print Callee y) (arguments ps) n.opens;
        no_not = λ rest o. first_more is_not false (print Callee y) (arguments ps) (λ r. n.no_not r refl) rest;
      }
    where
      no_calm : (rest : List Symbol) → first_is is_method rest ≡ true → calm rest ≡ false
      no_calm rest m = calm_by (calm rest) refl
        where
          calm_by : (v : Bool) → calm rest ≡ v → v ≡ false
          calm_by false e = refl
          calm_by true e = let w : true ≡ false = sym m ∙ (rest_is rest).method e in absurd (cc)

  sign_neat : (g : Sign) (y z : Shape) → P (At Sum) y → P (At Product) z → Neat (binary (operator (s.Sign g)) (printed y) (printed z))
  sign_neat Plus y z h k = chain_neat Sum Sum y ((s.Sign Plus, print (At Product) z) ∷ []) refl (λ e. e) h (refl, (λ rest. refl, (part_calm Product z k, tt)))
  sign_neat Minus y z h k = chain_neat Sum Sum y ((s.Sign Minus, print (At Product) z) ∷ []) refl (λ e. e) h (refl, (λ rest. refl, (part_calm Product z k, tt)))

  factor_neat : (op : BinOp) (y z : Shape) → is_factor op ≡ true → P (At Product) y → P (At Signed) z → Neat (binary op (printed y) (printed z))
  factor_neat Mul y z f h k = chain_neat Product Product y ((s.Factor Mul, print (At Signed) z) ∷ []) refl (λ e. e) h (refl, (λ rest. refl, (part_calm Signed z k, tt)))
  factor_neat FloorDiv y z f h k = chain_neat Product Product y ((s.Factor FloorDiv, print (At Signed) z) ∷ []) refl (λ e. e) h (refl, (λ rest. refl, (part_calm Signed z k, tt)))
  factor_neat Mod y z f h k = chain_neat Product Product y ((s.Factor Mod, print (At Signed) z) ∷ []) refl (λ e. e) h (refl, (λ rest. refl, (part_calm Signed z k, tt)))
  factor_neat Add y z f h k = absurd (cc)
  factor_neat Sub y z f h k = absurd (cc)

  not_neat : (y : Shape) → P (At Negation) y → Neat (plain_at Negation (s.Not ∷ print (At Negation) y))
  not_neat y h =
      let n = ih (At Negation) y h in
      record {
        joins = loose_level Negation (s.Not ∷ print (At Negation) y) refl (λ rest k e. rw (opener_no_in (print (At Negation) y ++ rest) (n.opens rest)) (n.joins rest k e));
        opens = λ rest. refl;
        no_not = λ rest k. absurd (cc);
      }

  pub form_neat : (x : Shape) → Form P x → Neat (printed x)
  form_neat x (of_atom v is) = moved x _ _ is (printed-Atom v) (record { joins = λ rest k e. rw (atom_meets v rest k, e) refl; opens = λ rest. refl; no_not = λ rest k. refl })
  form_neat x (of_list xs is h) = moved x _ _ is (printed-ListLit xs) (primary _ (enclosed_loose Square (commas (map one (map printed xs))) (commas_calm (map one (map printed xs)) (all_calm Conditional xs h))) (λ rest. refl) (λ rest. refl))
  form_neat x (of_tuple xs is h) = moved x _ _ is (printed-TupleLit xs) (primary _ (enclosed_loose Round (tuple (map one (map printed xs))) (tuple_calm xs h)) (λ rest. refl) (λ rest. refl))
  form_neat x (of_dict xs is h) = moved x _ _ is (printed-DictLit xs) (primary _ (enclosed_loose Brace (commas (map entry (map (λ (p : Shape × Shape). (printed p.0, printed p.1)) xs))) (commas_calm (map entry (map (λ (p : Shape × Shape). (printed p.0, printed p.1)) xs)) (entries_calm xs h))) (λ rest. refl) (λ rest. refl))
  form_neat x (of_attr y n is h) =
      let m = ih (At Postfix) y h in
      moved x _ _ is (printed-Attr y n) (record {
        joins = λ rest k e. ap are_apart (append_assoc (print (At Postfix) y) (s.Attribute n ∷ []) rest) ∙ m.joins (s.Attribute n ∷ rest) refl (rw (attr_meets (printed y) n rest k, e) refl);
        opens = first_more is_opener true (print (At Postfix) y) (s.Attribute n ∷ []) m.opens;
        no_not = λ rest k. first_more is_not false (print (At Postfix) y) (s.Attribute n ∷ []) (λ r. m.no_not r refl) rest;
      })
  form_neat x (of_index y i is h k) = moved x _ _ is (printed-Index y i) (behind_part (At Postfix) y (s.Open Square) _ refl h (λ rest. refl) (enclosed_loose Square (print (At Listed) i) (part_calm Listed i k)))
  form_neat x (of_slice y low high is h k l) = moved x _ _ is (printed-Slice y low high) (behind_part (At Postfix) y (s.Open Square) _ refl h (λ rest. refl)
      (enclosed_loose Square (bound (option_map printed low) ++ s.Colon ∷ bound (option_map printed high)) (chain_calm (bound (option_map printed low)) ((s.Colon, bound (option_map printed high)) ∷ []) (bound_calm low k) (refl, (λ rest. refl, (bound_calm high l, tt))))))
  form_neat x (of_call y xs is h k) = moved x _ _ is (printed-Call y xs) (call_neat y xs h k)
  form_neat x (of_method y n xs is h k) = moved x _ _ is (printed-Method y n xs) (behind_part Owner y (s.Method n) _ refl h (λ rest. refl) (all_arguments xs k))
  form_neat x (of_super n xs is k) = moved x _ _ is (printed-Super n xs) (primary _ (all_arguments xs k) (λ rest. refl) (λ rest. refl))
  form_neat x (of_unary g y is h) = moved x _ _ is (printed-Unary g y) (record { joins = loose_level Signed (s.Sign g ∷ print (At Signed) y) refl (part_calm Signed y h); opens = λ rest. refl; no_not = λ rest k. refl })
  form_neat x (of_not y is h) = moved x _ _ is (printed-Not y) (not_neat y h)
  form_neat x (of_sum g y z is h k) = moved x _ _ is (printed-Binary (operator (s.Sign g)) y z) (sign_neat g y z h k)
  form_neat x (of_product op y z f is h k) = moved x _ _ is (printed-Binary op y z) (factor_neat op y z f h k)
  form_neat x (of_and y z xs is h) = moved x _ _ is (printed-And (y ∷ z ∷ xs)) (chain_neat Conjunction Negation y (marked s.And (map (in_slot (At Negation)) (map printed (z ∷ xs)))) refl (λ e. absurd (cc)) h.0 (and_steps (map (in_slot (At Negation)) (map printed (z ∷ xs))) (all_calm Negation (z ∷ xs) h.1)))
  form_neat x (of_or y z xs is h) = moved x _ _ is (printed-Or (y ∷ z ∷ xs)) (chain_neat Disjunction Conjunction y (marked s.Or (map (in_slot (At Conjunction)) (map printed (z ∷ xs)))) refl (λ e. absurd (cc)) h.0 (or_steps (map (in_slot (At Conjunction)) (map printed (z ∷ xs))) (all_calm Conjunction (z ∷ xs) h.1)))
  form_neat x (of_compare y c cs is h k) = moved x _ _ is (printed-Compare y (c ∷ cs)) (chain_neat Comparison Sum y (p.compared (map (λ (c : CmpOp × Shape). (c.0, printed c.1)) (c ∷ cs))) refl (λ e. refl) h (compare_steps (c ∷ cs) k))
  form_neat x (of_cond y z w is h k l) = moved x _ _ is (printed-Cond y z w) (chain_neat Conditional Disjunction y ((s.If, print (At Disjunction) z) ∷ (s.Else, print (At Conditional) w) ∷ []) refl (λ e. absurd (cc)) h
      (refl, (λ rest. refl, (part_calm Disjunction z k, (refl, (λ rest. refl, (part_calm Conditional w l, tt)))))))

pub form_of : (d : ℕ) (slot : Slot) (x : Shape) → Fits (suc d) slot x → Form (Fits d) x
form_of d slot x (inl h) = h.1
form_of d slot x (inr h) = stripped d x h

-- what is printed is apart
pub print_neat : (d : ℕ) (slot : Slot) (x : Shape) → Fits d slot x → NeatIn slot (printed x)
print_neat zero slot x h = absurd h
print_neat (suc d) slot x h = neat_in slot (printed x) (form_neat (Fits d) (λ s y k. print_neat d s y k) x (form_of d slot x h))

pub print_apart : (d : ℕ) (l : Level) (x : Shape) → Fits d (At l) x → are_apart (print (At l) x) ≡ true
print_apart d l x h = ap are_apart (sym (append-nil (print (At l) x))) ∙ (print_neat d (At l) x h).joins [] refl refl
