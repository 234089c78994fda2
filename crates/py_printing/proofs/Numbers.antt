-- The tree that a shape is numbered as has the same shape again, but that plain arguments come first; and that one fits too.
use Rattle.std.proofs.Common.{◌≡◌, ◌∙◌, ap, refl, sym, subst, ℕ, zero, suc, Bool, false, ◌&&◌, not, List, [], ◌∷◌, ◌++◌, Option, Some, None, inl, inr}
use Rattle.std.specs.Prelude.{nat_le, map, option_map}
use Rattle.py_language.specs.declared.shape.Atom.{Atom}
use Rattle.py_language.specs.declared.shape.Atom.TheVariants as a
use Rattle.py_language.specs.declared.shape.Shape.{Shape, Shape-F}
use Rattle.py_language.specs.declared.shape.Shape.TheVariants as e
use Rattle.py_language.specs.declared.shape.Symbol.TheVariants as s
use Rattle.py_language.specs.TreesPlaces.{Level, Conditional, Disjunction, Conjunction, Negation, Sum, Product, Signed, Postfix, Listed, number}
use Rattle.py_language.specs.Trees.{operator}
use Rattle.py_language.specs.TreesNumbers as num
use Rattle.py_language.specs.TreesNumbers.{Numbered, numbered, in_order}
use Rattle.py_language.proofs.TreesNumbering.{level, numbered-Atom, numbered-ListLit, numbered-TupleLit, numbered-DictLit, numbered-Attr, numbered-Index, numbered-Slice, numbered-Call, numbered-Method, numbered-Super, numbered-Unary, numbered-Not, numbered-Binary, numbered-And, numbered-Or, numbered-Compare, numbered-Cond}
use Rattle.py_syntax.specs.declared.expr.Expr.{Expr}
use Rattle.py_syntax.specs.declared.expr.ExprKind.TheVariants as k
use Rattle.py_syntax.specs.declared.operator.BinOp.{BinOp}
use Rattle.py_syntax.specs.declared.operator.BinOp.TheVariants.{Add, Sub, Mul, FloorDiv, Mod}
use Rattle.py_syntax.specs.declared.operator.CmpOp.{CmpOp}
use Rattle.py_syntax.specs.declared.operator.Sign.{Sign}
use Rattle.py_printing.specs.Printing.{Slot, At, Callee, Owner, Lone, Printed, is_bare_in, is_none_of, binary, printed, Each, IfThere, Form, of_atom, of_list, of_tuple, of_dict, of_attr, of_index, of_slice, of_call, of_method, of_super, of_unary, of_not, of_sum, of_product, of_and, of_or, of_compare, of_cond, Node, Fits}
use Rattle.py_printing.proofs.Unrolled.{printed-ListLit, printed-TupleLit, printed-DictLit, printed-Attr, printed-Index, printed-Slice, printed-Call, printed-Method, printed-Super, printed-Unary, printed-Not, printed-Binary, printed-And, printed-Or, printed-Compare, printed-Cond}
use Rattle.py_printing.specs.Expressions.{Given, unnamed, named, unnumbered}
use Rattle.py_printing.proofs.Unnumbering.{of_kind, of_args, expr_is, args_is, of-NoneLit, of-BoolLit, of-IntLit, of-StrLit, of-Name, of-ListLit, of-TupleLit, of-DictLit, of-Attr, of-Index, of-Slice, of-Call, of-Method, of-Super, of-Unary, of-Not, of-Binary, of-And, of-Or, of-Compare, of-Cond}

-- a shape, numbered from any number on, is an expression of the shape y
abbrev pub Is : Shape → Shape → Type 0
Is x y = (n : ℕ) → unnumbered (numbered x n).0 ≡ y

top : (x : Shape) (l : Shape-F Shape) (n : ℕ) → numbered x n ≡ level l n → unnumbered (numbered x n).0 ≡ of_kind (level l n).0.kind
top x l n eq = ap (λ (r : Expr × ℕ). unnumbered r.0) eq ∙ expr_is (level l n).0

-- ---- lists

abbrev pub AllIs : List Shape → List Shape → Type 0
AllIs [] [] = Unit {0}
AllIs (x ∷ xs) (y ∷ ys) = Is x y × AllIs xs ys
AllIs _ _ = ⊥

list_is : (xs ys : List Shape) → AllIs xs ys → (n : ℕ) → map unnumbered (in_order (map numbered xs) n).0 ≡ ys
list_is [] [] h n = refl
list_is [] (y ∷ ys) h n = absurd h
list_is (x ∷ xs) [] h n = absurd h
list_is (x ∷ xs) (y ∷ ys) h n = ap (λ z. z ∷ map unnumbered (in_order (map numbered xs) (numbered x n).1).0) (h.0 n) ∙ ap (λ zs. y ∷ zs) (list_is xs ys h.1 (numbered x n).1)

abbrev pub EntriesAre : List (Shape × Shape) → List (Shape × Shape) → Type 0
EntriesAre [] [] = Unit {0}
EntriesAre (x ∷ xs) (y ∷ ys) = (Is x.0 y.0 × Is x.1 y.1) × EntriesAre xs ys
EntriesAre _ _ = ⊥

abbrev numbered_entries : List (Shape × Shape) → Numbered (List (Expr × Expr))
numbered_entries xs = num.entries (map (λ (p : Shape × Shape). (numbered p.0, numbered p.1)) xs)

abbrev bare_entries : List (Expr × Expr) → List (Shape × Shape)
bare_entries xs = map (λ (p : Expr × Expr). (unnumbered p.0, unnumbered p.1)) xs

entries_are : (xs ys : List (Shape × Shape)) → EntriesAre xs ys → (n : ℕ) → bare_entries (numbered_entries xs n).0 ≡ ys
entries_are [] [] h n = refl
entries_are [] (y ∷ ys) h n = absurd h
entries_are (x ∷ xs) [] h n = absurd h
entries_are (x ∷ xs) (y ∷ ys) h n =
    let m = (numbered x.0 n).1 in
    let o = (numbered x.1 m).1 in
    ap (λ z. (z, unnumbered (numbered x.1 m).0) ∷ bare_entries (numbered_entries xs o).0) (h.0.0 n)
    ∙ ap (λ z. (y.0, z) ∷ bare_entries (numbered_entries xs o).0) (h.0.1 m)
    ∙ ap (λ zs. (y.0, y.1) ∷ zs) (entries_are xs ys h.1 o)

abbrev pub ComparedAre : List (CmpOp × Shape) → List (CmpOp × Shape) → Type 0
ComparedAre [] [] = Unit {0}
ComparedAre (x ∷ xs) (y ∷ ys) = ((x.0 ≡ y.0) × Is x.1 y.1) × ComparedAre xs ys
ComparedAre _ _ = ⊥

abbrev numbered_compared : List (CmpOp × Shape) → Numbered (List (CmpOp × Expr))
numbered_compared xs = num.compared (map (λ (p : CmpOp × Shape). (p.0, numbered p.1)) xs)

abbrev bare_compared : List (CmpOp × Expr) → List (CmpOp × Shape)
bare_compared xs = map (λ (p : CmpOp × Expr). (p.0, unnumbered p.1)) xs

compared_are : (xs ys : List (CmpOp × Shape)) → ComparedAre xs ys → (n : ℕ) → bare_compared (numbered_compared xs n).0 ≡ ys
compared_are [] [] h n = refl
compared_are [] (y ∷ ys) h n = absurd h
compared_are (x ∷ xs) [] h n = absurd h
compared_are (x ∷ xs) (y ∷ ys) h n =
    let m = (numbered x.1 n).1 in
    ap (λ z. (z, unnumbered (numbered x.1 n).0) ∷ bare_compared (numbered_compared xs m).0) h.0.0
    ∙ ap (λ z. (y.0, z) ∷ bare_compared (numbered_compared xs m).0) (h.0.1 n)
    ∙ ap (λ zs. (y.0, y.1) ∷ zs) (compared_are xs ys h.1 m)

-- ---- arguments

abbrev pub plain_ones : Given → List Shape
plain_ones [] = []
plain_ones ((None, x) ∷ xs) = x ∷ plain_ones xs
plain_ones ((Some n, x) ∷ xs) = plain_ones xs

abbrev pub named_ones : Given → List (List ℕ × Shape)
named_ones [] = []
named_ones ((None, x) ∷ xs) = named_ones xs
named_ones ((Some n, x) ∷ xs) = (n, x) ∷ named_ones xs

abbrev pub sorted : Given → Given
sorted xs = unnamed (plain_ones xs) ++ named (named_ones xs)

abbrev pub ArgsAre : Given → Given → Type 0
ArgsAre [] [] = Unit {0}
ArgsAre (x ∷ xs) (y ∷ ys) = ((x.0 ≡ y.0) × Is x.1 y.1) × ArgsAre xs ys
ArgsAre _ _ = ⊥

abbrev numbered_args : Given → Numbered num.Given
numbered_args xs = num.arguments (map (λ (p : Option (List ℕ) × Shape). (p.0, numbered p.1)) xs)

abbrev bare_named : List (List ℕ × Expr) → List (List ℕ × Shape)
bare_named xs = map (λ (p : List ℕ × Expr). (p.0, unnumbered p.1)) xs

record GivenIs (g : num.Given) (ys : Given) : Type 0 where
  plain : map unnumbered g.0 ≡ plain_ones ys
  others : bare_named g.1 ≡ named_ones ys

given_by : (o o' : Option (List ℕ)) (x : Expr) (y : Shape) (g : num.Given) (ys : Given) → o ≡ o' → unnumbered x ≡ y → GivenIs g ys → GivenIs (num.given o x g) ((o', y) ∷ ys)
given_by o o' x y g ys same is h = subst (λ (p : Option (List ℕ)). GivenIs (num.given o x g) ((p, y) ∷ ys)) same (by_name o)
  where
    by_name : (o : Option (List ℕ)) → GivenIs (num.given o x g) ((o, y) ∷ ys)
    by_name None = record { plain = ap (λ z. z ∷ map unnumbered g.0) is ∙ ap (λ zs. y ∷ zs) h.plain; others = h.others }
    by_name (Some n) = record { plain = h.plain; others = ap (λ z. (n, z) ∷ bare_named g.1) is ∙ ap (λ zs. (n, y) ∷ zs) h.others }

args_are : (xs ys : Given) → ArgsAre xs ys → (n : ℕ) → GivenIs (numbered_args xs n).0 ys
args_are [] [] h n = record { plain = refl; others = refl }
args_are [] (y ∷ ys) h n = absurd h
args_are (x ∷ xs) [] h n = absurd h
args_are (x ∷ xs) (y ∷ ys) h n = given_by x.0 y.0 (numbered x.1 n).0 y.1 (numbered_args xs (numbered x.1 n).1).0 ys h.0.0 (h.0.1 n) (args_are xs ys h.1 (numbered x.1 n).1)

given_shape : (g : num.Given) (ys : Given) → GivenIs g ys → of_args (num.args g) ≡ sorted ys
given_shape g ys h = args_is g.0 g.1 ∙ ap (λ z. unnamed z ++ named (bare_named g.1)) h.plain ∙ ap (λ z. unnamed (plain_ones ys) ++ named z) h.others

plain_named : (vs : List (List ℕ × Shape)) → plain_ones (named vs) ≡ []
plain_named [] = refl
plain_named (v ∷ vs) = plain_named vs

named_named : (vs : List (List ℕ × Shape)) → named_ones (named vs) ≡ vs
named_named [] = refl
named_named (v ∷ vs) = ap (λ z. v ∷ z) (named_named vs)

plain_both : (us : List Shape) (vs : List (List ℕ × Shape)) → plain_ones (unnamed us ++ named vs) ≡ us
plain_both [] vs = plain_named vs
plain_both (u ∷ us) vs = ap (λ z. u ∷ z) (plain_both us vs)

named_both : (us : List Shape) (vs : List (List ℕ × Shape)) → named_ones (unnamed us ++ named vs) ≡ vs
named_both [] vs = named_named vs
named_both (u ∷ us) vs = named_both us vs

sorted_twice : (xs : Given) → sorted (sorted xs) ≡ sorted xs
sorted_twice xs = ap (λ z. unnamed z ++ named (named_ones (sorted xs))) (plain_both (plain_ones xs) (named_ones xs)) ∙ ap (λ z. unnamed (plain_ones xs) ++ named z) (named_both (plain_ones xs) (named_ones xs))

-- what holds of each argument holds of each when they are sorted
module _ (Q : Shape → Type 0) where
  abbrev EachArg : Given → Type 0
  EachArg xs = Each (λ (p : Option (List ℕ) × Shape). Q p.1) xs

  plain_each : (xs : Given) → EachArg xs → Each Q (plain_ones xs)
  plain_each [] h = tt
  plain_each ((None, x) ∷ xs) h = (h.0, plain_each xs h.1)
  plain_each ((Some n, x) ∷ xs) h = plain_each xs h.1

  named_each : (xs : Given) → EachArg xs → Each (λ (p : List ℕ × Shape). Q p.1) (named_ones xs)
  named_each [] h = tt
  named_each ((None, x) ∷ xs) h = named_each xs h.1
  named_each ((Some n, x) ∷ xs) h = (h.0, named_each xs h.1)

  back_named : (vs : List (List ℕ × Shape)) → Each (λ (p : List ℕ × Shape). Q p.1) vs → EachArg (named vs)
  back_named [] h = tt
  back_named (v ∷ vs) h = (h.0, back_named vs h.1)

  back_both : (us : List Shape) (vs : List (List ℕ × Shape)) → Each Q us → Each (λ (p : List ℕ × Shape). Q p.1) vs → EachArg (unnamed us ++ named vs)
  back_both [] vs h g = back_named vs g
  back_both (u ∷ us) vs h g = (h.0, back_both us vs h.1 g)

  sorted_each : (xs : Given) → EachArg xs → EachArg (sorted xs)
  sorted_each xs h = back_both (plain_ones xs) (named_ones xs) (plain_each xs h) (named_each xs h)

stable_args : (xs : Given) → Each (λ (p : Option (List ℕ) × Shape). Is p.1 p.1) xs → ArgsAre xs xs
stable_args [] h = tt
stable_args (x ∷ xs) h = ((refl, h.0), stable_args xs h.1)

-- ---- marks of what is printed

abbrev Marks : Type 0
Marks = Level × (Bool × (Bool × Bool))

abbrev marks : Printed → Marks
marks p = (p.own, (p.is_attribute, (p.is_name, p.is_call)))

stands_same : (slot : Slot) (p q : Printed) → marks p ≡ marks q → is_bare_in slot p ≡ is_bare_in slot q
stands_same (At l) p q h = ap (λ (m : Marks). nat_le (number l) (number m.0)) h
stands_same Callee p q h = ap (λ (m : Marks). nat_le 10 (number m.0) && not m.1.0) h
stands_same Owner p q h = ap (λ (m : Marks). nat_le 10 (number m.0) && not m.1.1.1) h
stands_same Lone p q h = ap (λ (m : Marks). nat_le 10 (number m.0) && (not m.1.0 && not m.1.1.0)) h

same_marks : (x u y : Shape) (p q : Printed) → x ≡ u → printed u ≡ p → printed y ≡ q → marks p ≡ marks q → marks (printed x) ≡ marks (printed y)
same_marks x u y p q is eq fq h = ap marks (ap printed is ∙ eq) ∙ h ∙ sym (ap marks fq)

binary_marks : (op : BinOp) (p q r t : Printed) → marks (binary op p q) ≡ marks (binary op r t)
binary_marks Add p q r t = refl
binary_marks Sub p q r t = refl
binary_marks Mul p q r t = refl
binary_marks FloorDiv p q r t = refl
binary_marks Mod p q r t = refl

pub record Sorts (Q : Shape → Type 0) (x : Shape) : Type 0 where
  pub y : Shape
  pub is : Is x y
  pub stable : Is y y
  pub fits : Q y
  pub same : marks (printed x) ≡ marks (printed y)

moved : (x u y : Shape) → x ≡ u → Is u y → Is x y
moved x u y is h n = ap (λ z. unnumbered (numbered z n).0) is ∙ h n

record SortsAll (Q : Shape → Type 0) (xs : List Shape) : Type 0 where
  ys : List Shape
  are : AllIs xs ys
  stables : AllIs ys ys
  all : Each Q ys

record SortsEntries (Q : Shape → Type 0) (xs : List (Shape × Shape)) : Type 0 where
  ys : List (Shape × Shape)
  are : EntriesAre xs ys
  stables : EntriesAre ys ys
  all : Each (λ (p : Shape × Shape). Q p.0 × Q p.1) ys

record SortsCompared (Q : Shape → Type 0) (xs : List (CmpOp × Shape)) : Type 0 where
  ys : List (CmpOp × Shape)
  are : ComparedAre xs ys
  stables : ComparedAre ys ys
  all : Each (λ (p : CmpOp × Shape). Q p.1) ys

record SortsArgs (Q : Shape → Type 0) (xs : Given) : Type 0 where
  ys : Given
  are : ArgsAre xs ys
  stables : Each (λ (p : Option (List ℕ) × Shape). Is p.1 p.1) ys
  all : Each (λ (p : Option (List ℕ) × Shape). Q p.1) ys

record SortsBound (Q : Shape → Type 0) (o : Option Shape) : Type 0 where
  to : Option Shape
  are : (n : ℕ) → option_map unnumbered (num.bound (option_map numbered o) n).0 ≡ to
  stables : (n : ℕ) → option_map unnumbered (num.bound (option_map numbered to) n).0 ≡ to
  all : IfThere Q to

module _ (Q R : Shape → Type 0) (ih : (x : Shape) → Q x → Sorts R x) where
  sort_all : (xs : List Shape) → Each Q xs → SortsAll R xs
  sort_all [] h = record { ys = []; are = tt; stables = tt; all = tt }
  sort_all (x ∷ xs) h = let a = ih x h.0 in let b = sort_all xs h.1 in record { ys = a.y ∷ b.ys; are = (a.is, b.are); stables = (a.stable, b.stables); all = (a.fits, b.all) }

  sort_entries : (xs : List (Shape × Shape)) → Each (λ (p : Shape × Shape). Q p.0 × Q p.1) xs → SortsEntries R xs
  sort_entries [] h = record { ys = []; are = tt; stables = tt; all = tt }
  sort_entries (x ∷ xs) h = let a = ih x.0 h.0.0 in let c = ih x.1 h.0.1 in let b = sort_entries xs h.1 in record { ys = (a.y, c.y) ∷ b.ys; are = ((a.is, c.is), b.are); stables = ((a.stable, c.stable), b.stables); all = ((a.fits, c.fits), b.all) }

  sort_compared : (xs : List (CmpOp × Shape)) → Each (λ (p : CmpOp × Shape). Q p.1) xs → SortsCompared R xs
  sort_compared [] h = record { ys = []; are = tt; stables = tt; all = tt }
  sort_compared (x ∷ xs) h = let a = ih x.1 h.0 in let b = sort_compared xs h.1 in record { ys = (x.0, a.y) ∷ b.ys; are = ((refl, a.is), b.are); stables = ((refl, a.stable), b.stables); all = (a.fits, b.all) }

  sort_args : (xs : Given) → Each (λ (p : Option (List ℕ) × Shape). Q p.1) xs → SortsArgs R xs
  sort_args [] h = record { ys = []; are = tt; stables = tt; all = tt }
  sort_args (x ∷ xs) h = let a = ih x.1 h.0 in let b = sort_args xs h.1 in record { ys = (x.0, a.y) ∷ b.ys; are = ((refl, a.is), b.are); stables = (a.stable, b.stables); all = (a.fits, b.all) }

  sort_bound : (o : Option Shape) → IfThere Q o → SortsBound R o
  sort_bound None h = record { to = None; are = λ n. refl; stables = λ n. refl; all = tt }
  sort_bound (Some x) h = let a = ih x h in record { to = Some a.y; are = λ n. ap (λ z. Some z) (a.is n); stables = λ n. ap (λ z. Some z) (a.stable n); all = a.fits }

-- ---- each form

pub atom_is : (v : Atom) → Is (e.Atom v) (e.Atom v)
atom_is a.NoneLit n = top (e.Atom a.NoneLit) (Shape-F.Atom a.NoneLit) n (numbered-Atom a.NoneLit n) ∙ of-NoneLit
atom_is (a.BoolLit b) n = top (e.Atom (a.BoolLit b)) (Shape-F.Atom (a.BoolLit b)) n (numbered-Atom (a.BoolLit b) n) ∙ of-BoolLit b
atom_is (a.IntLit i) n = top (e.Atom (a.IntLit i)) (Shape-F.Atom (a.IntLit i)) n (numbered-Atom (a.IntLit i) n) ∙ of-IntLit i
atom_is (a.StrLit x) n = top (e.Atom (a.StrLit x)) (Shape-F.Atom (a.StrLit x)) n (numbered-Atom (a.StrLit x) n) ∙ of-StrLit x
atom_is (a.Name m) n = top (e.Atom (a.Name m)) (Shape-F.Atom (a.Name m)) n (numbered-Atom (a.Name m) n) ∙ of-Name m

pub list_of : (xs ys : List Shape) → AllIs xs ys → Is (e.ListLit xs) (e.ListLit ys)
list_of xs ys h n = top (e.ListLit xs) (Shape-F.ListLit xs) n (numbered-ListLit xs n) ∙ of-ListLit (in_order (map numbered xs) (suc n)).0 ∙ ap e.ListLit (list_is xs ys h (suc n))

pub tuple_of : (xs ys : List Shape) → AllIs xs ys → Is (e.TupleLit xs) (e.TupleLit ys)
tuple_of xs ys h n = top (e.TupleLit xs) (Shape-F.TupleLit xs) n (numbered-TupleLit xs n) ∙ of-TupleLit (in_order (map numbered xs) (suc n)).0 ∙ ap e.TupleLit (list_is xs ys h (suc n))

pub and_of : (xs ys : List Shape) → AllIs xs ys → Is (e.And xs) (e.And ys)
and_of xs ys h n = top (e.And xs) (Shape-F.And xs) n (numbered-And xs n) ∙ of-And (in_order (map numbered xs) (suc n)).0 ∙ ap e.And (list_is xs ys h (suc n))

pub or_of : (xs ys : List Shape) → AllIs xs ys → Is (e.Or xs) (e.Or ys)
or_of xs ys h n = top (e.Or xs) (Shape-F.Or xs) n (numbered-Or xs n) ∙ of-Or (in_order (map numbered xs) (suc n)).0 ∙ ap e.Or (list_is xs ys h (suc n))

pub dict_of : (xs ys : List (Shape × Shape)) → EntriesAre xs ys → Is (e.DictLit xs) (e.DictLit ys)
dict_of xs ys h n = top (e.DictLit xs) (Shape-F.DictLit xs) n (numbered-DictLit xs n) ∙ of-DictLit (numbered_entries xs (suc n)).0 ∙ ap e.DictLit (entries_are xs ys h (suc n))

pub attr_of : (x y : Shape) (m : List ℕ) → Is x y → Is (e.Attr x m) (e.Attr y m)
attr_of x y m h n = top (e.Attr x m) (Shape-F.Attr x m) n (numbered-Attr x m n) ∙ of-Attr (numbered x (suc n)).0 m ∙ ap (λ z. e.Attr z m) (h (suc n))

pub index_of : (x y i j : Shape) → Is x y → Is i j → Is (e.Index x i) (e.Index y j)
index_of x y i j h g n =
    let m = (numbered x (suc n)).1 in
    top (e.Index x i) (Shape-F.Index x i) n (numbered-Index x i n) ∙ of-Index (numbered x (suc n)).0 (numbered i m).0 ∙ ap (λ z. e.Index z (unnumbered (numbered i m).0)) (h (suc n)) ∙ ap (e.Index y) (g m)

abbrev pub BoundIs : Option Shape → Option Shape → Type 0
BoundIs o p = (n : ℕ) → option_map unnumbered (num.bound (option_map numbered o) n).0 ≡ p

pub slice_of : (x y : Shape) (low low' high high' : Option Shape) → Is x y → BoundIs low low' → BoundIs high high' → Is (e.Slice x low high) (e.Slice y low' high')
slice_of x y low low' high high' h f g n = slice_by low high f g
  where
    m : ℕ
    m = (numbered x (suc n)).1

    joined : (low high : Option Shape) → BoundIs low low' → BoundIs high high' → (o p : Option Expr) (q : ℕ) → option_map unnumbered o ≡ low' → option_map unnumbered p ≡ high' → of_kind (k.Slice (numbered x (suc n)).0 o p) ≡ e.Slice y low' high'
    joined low high f g o p q u v = of-Slice (numbered x (suc n)).0 o p ∙ ap (λ z. e.Slice z (option_map unnumbered o) (option_map unnumbered p)) (h (suc n)) ∙ ap (λ z. e.Slice y z (option_map unnumbered p)) u ∙ ap (e.Slice y low') v

    slice_by : (low high : Option Shape) → BoundIs low low' → BoundIs high high' → unnumbered (numbered (e.Slice x low high) n).0 ≡ e.Slice y low' high'
    slice_by None None f g = top (e.Slice x None None) (Shape-F.Slice x None None) n (numbered-Slice x None None n) ∙ joined None None f g None None m (f m) (g m)
    slice_by (Some a) None f g = top (e.Slice x (Some a) None) (Shape-F.Slice x (Some a) None) n (numbered-Slice x (Some a) None n) ∙ joined (Some a) None f g (Some (numbered a m).0) None m (f m) (g (numbered a m).1)
    slice_by None (Some b) f g = top (e.Slice x None (Some b)) (Shape-F.Slice x None (Some b)) n (numbered-Slice x None (Some b) n) ∙ joined None (Some b) f g None (Some (numbered b m).0) m (f m) (g m)
    slice_by (Some a) (Some b) f g = top (e.Slice x (Some a) (Some b)) (Shape-F.Slice x (Some a) (Some b)) n (numbered-Slice x (Some a) (Some b) n) ∙ joined (Some a) (Some b) f g (Some (numbered a m).0) (Some (numbered b (numbered a m).1).0) m (f m) (g (numbered a m).1)

pub call_of : (x y : Shape) (xs ys : Given) → Is x y → ArgsAre xs ys → Is (e.Call x xs) (e.Call y (sorted ys))
call_of x y xs ys h g n =
    let m = (numbered x (suc n)).1 in
    let given = (numbered_args xs m).0 in
    top (e.Call x xs) (Shape-F.Call x xs) n (numbered-Call x xs n) ∙ of-Call (numbered x (suc n)).0 (num.args given) ∙ ap (λ z. e.Call z (of_args (num.args given))) (h (suc n)) ∙ ap (e.Call y) (given_shape given ys (args_are xs ys g m))

pub method_of : (x y : Shape) (l : List ℕ) (xs ys : Given) → Is x y → ArgsAre xs ys → Is (e.Method x l xs) (e.Method y l (sorted ys))
method_of x y l xs ys h g n =
    let m = (numbered x (suc n)).1 in
    let given = (numbered_args xs m).0 in
    top (e.Method x l xs) (Shape-F.Method x l xs) n (numbered-Method x l xs n) ∙ of-Method (numbered x (suc n)).0 l (num.args given) ∙ ap (λ z. e.Method z l (of_args (num.args given))) (h (suc n)) ∙ ap (e.Method y l) (given_shape given ys (args_are xs ys g m))

pub super_of : (l : List ℕ) (xs ys : Given) → ArgsAre xs ys → Is (e.Super l xs) (e.Super l (sorted ys))
super_of l xs ys g n =
    let given = (numbered_args xs (suc n)).0 in
    top (e.Super l xs) (Shape-F.Super l xs) n (numbered-Super l xs n) ∙ of-Super l (num.args given) ∙ ap (e.Super l) (given_shape given ys (args_are xs ys g (suc n)))

pub unary_of : (g : Sign) (x y : Shape) → Is x y → Is (e.Unary g x) (e.Unary g y)
unary_of g x y h n = top (e.Unary g x) (Shape-F.Unary g x) n (numbered-Unary g x n) ∙ of-Unary g (numbered x (suc n)).0 ∙ ap (e.Unary g) (h (suc n))

pub not_of : (x y : Shape) → Is x y → Is (e.Not x) (e.Not y)
not_of x y h n = top (e.Not x) (Shape-F.Not x) n (numbered-Not x n) ∙ of-Not (numbered x (suc n)).0 ∙ ap e.Not (h (suc n))

pub binary_of : (op : BinOp) (x y u v : Shape) → Is x y → Is u v → Is (e.Binary op x u) (e.Binary op y v)
binary_of op x y u v h g n =
    let m = (numbered x (suc n)).1 in
    top (e.Binary op x u) (Shape-F.Binary op x u) n (numbered-Binary op x u n) ∙ of-Binary op (numbered x (suc n)).0 (numbered u m).0 ∙ ap (λ z. e.Binary op z (unnumbered (numbered u m).0)) (h (suc n)) ∙ ap (e.Binary op y) (g m)

pub compare_of : (x y : Shape) (xs ys : List (CmpOp × Shape)) → Is x y → ComparedAre xs ys → Is (e.Compare x xs) (e.Compare y ys)
compare_of x y xs ys h g n =
    let m = (numbered x (suc n)).1 in
    top (e.Compare x xs) (Shape-F.Compare x xs) n (numbered-Compare x xs n) ∙ of-Compare (numbered x (suc n)).0 (numbered_compared xs m).0 ∙ ap (λ z. e.Compare z (bare_compared (numbered_compared xs m).0)) (h (suc n)) ∙ ap (e.Compare y) (compared_are xs ys g m)

pub cond_of : (x y u v w z : Shape) → Is x y → Is u v → Is w z → Is (e.Cond x u w) (e.Cond y v z)
cond_of x y u v w z h g f n =
    let m = (numbered x (suc n)).1 in
    let l = (numbered u m).1 in
    top (e.Cond x u w) (Shape-F.Cond x u w) n (numbered-Cond x u w n) ∙ of-Cond (numbered x (suc n)).0 (numbered u m).0 (numbered w l).0
    ∙ ap (λ q. e.Cond q (unnumbered (numbered u m).0) (unnumbered (numbered w l).0)) (h (suc n)) ∙ ap (λ q. e.Cond y q (unnumbered (numbered w l).0)) (g m) ∙ ap (e.Cond y v) (f l)

-- a call with sorted arguments stays as it is
args_stay : (ys : Given) → Each (λ (p : Option (List ℕ) × Shape). Is p.1 p.1) ys → ArgsAre (sorted ys) (sorted ys)
args_stay ys h = stable_args (sorted ys) (sorted_each (λ y. Is y y) ys h)

none_same : (xs ys : Given) → ArgsAre xs ys → is_none_of (map (λ (p : Option (List ℕ) × Shape). (p.0, printed p.1)) xs) ≡ is_none_of (map (λ (p : Option (List ℕ) × Shape). (p.0, printed p.1)) (sorted ys))
none_same [] [] h = refl
none_same [] (y ∷ ys) h = absurd h
none_same (x ∷ xs) [] h = absurd h
none_same (x ∷ xs) ((None, y) ∷ ys) h = refl
none_same (x ∷ xs) ((Some n, y) ∷ ys) h = some_by (plain_ones ys)
  where
    some_by : (us : List Shape) → false ≡ is_none_of (map (λ (p : Option (List ℕ) × Shape). (p.0, printed p.1)) (unnamed us ++ ((Some n, y) ∷ named (named_ones ys))))
    some_by [] = refl
    some_by (u ∷ us) = refl

record FormSorts (P : Slot → Shape → Type 0) (x : Shape) : Type 0 where
  y : Shape
  is : Is x y
  stable : Is y y
  form : Form P y
  same : marks (printed x) ≡ marks (printed y)

module _ (P : Slot → Shape → Type 0) (ih : (slot : Slot) (x : Shape) → P slot x → Sorts (P slot) x) where
  parts : (slot : Slot) (xs : List Shape) → Each (P slot) xs → SortsAll (P slot) xs
  parts slot xs h = sort_all (P slot) (P slot) (ih slot) xs h

  form_sorts : (x : Shape) → Form P x → FormSorts P x
  form_sorts x (of_atom v is) = record { y = e.Atom v; is = moved x _ _ is (atom_is v); stable = atom_is v; form = of_atom v refl; same = ap (λ z. marks (printed z)) is }
  form_sorts x (of_list xs is h) = let b = parts (At Conditional) xs h in record { y = e.ListLit b.ys; is = moved x _ _ is (list_of xs b.ys b.are); stable = list_of b.ys b.ys b.stables; form = of_list b.ys refl b.all; same = same_marks x _ _ _ _ is (printed-ListLit xs) (printed-ListLit b.ys) refl }
  form_sorts x (of_tuple xs is h) = let b = parts (At Conditional) xs h in record { y = e.TupleLit b.ys; is = moved x _ _ is (tuple_of xs b.ys b.are); stable = tuple_of b.ys b.ys b.stables; form = of_tuple b.ys refl b.all; same = same_marks x _ _ _ _ is (printed-TupleLit xs) (printed-TupleLit b.ys) refl }
  form_sorts x (of_dict xs is h) = let b = sort_entries (P (At Conditional)) (P (At Conditional)) (ih (At Conditional)) xs h in record { y = e.DictLit b.ys; is = moved x _ _ is (dict_of xs b.ys b.are); stable = dict_of b.ys b.ys b.stables; form = of_dict b.ys refl b.all; same = same_marks x _ _ _ _ is (printed-DictLit xs) (printed-DictLit b.ys) refl }
  form_sorts x (of_attr y n is h) = let b = ih (At Postfix) y h in record { y = e.Attr b.y n; is = moved x _ _ is (attr_of y b.y n b.is); stable = attr_of b.y b.y n b.stable; form = of_attr b.y n refl b.fits; same = same_marks x _ _ _ _ is (printed-Attr y n) (printed-Attr b.y n) refl }
  form_sorts x (of_index y i is h g) = let b = ih (At Postfix) y h in let c = ih (At Listed) i g in record { y = e.Index b.y c.y; is = moved x _ _ is (index_of y b.y i c.y b.is c.is); stable = index_of b.y b.y c.y c.y b.stable c.stable; form = of_index b.y c.y refl b.fits c.fits; same = same_marks x _ _ _ _ is (printed-Index y i) (printed-Index b.y c.y) refl }
  form_sorts x (of_slice y low high is h f g) =
      let b = ih (At Postfix) y h in
      let c = sort_bound (P (At Conditional)) (P (At Conditional)) (ih (At Conditional)) low f in
      let d = sort_bound (P (At Conditional)) (P (At Conditional)) (ih (At Conditional)) high g in
      record { y = e.Slice b.y c.to d.to; is = moved x _ _ is (slice_of y b.y low c.to high d.to b.is c.are d.are); stable = slice_of b.y b.y c.to c.to d.to d.to b.stable c.stables d.stables; form = of_slice b.y c.to d.to refl b.fits c.all d.all; same = same_marks x _ _ _ _ is (printed-Slice y low high) (printed-Slice b.y c.to d.to) refl }
  form_sorts x (of_call y xs is h g) =
      let b = ih Callee y h in
      let c = sort_args (P (At Conditional)) (P (At Conditional)) (ih (At Conditional)) xs g in
      let stay : Is (e.Call b.y (sorted c.ys)) (e.Call b.y (sorted c.ys)) = λ n. call_of b.y b.y (sorted c.ys) (sorted c.ys) b.stable (args_stay c.ys c.stables) n ∙ ap (e.Call b.y) (sorted_twice c.ys) in
      let called : marks (printed x) ≡ marks (printed (e.Call b.y (sorted c.ys))) =
      same_marks x _ _ _ _ is (printed-Call y xs) (printed-Call b.y (sorted c.ys))
      (ap (λ (v : Bool). let m : Marks = (Postfix, (false, (false, v && is_none_of (map (λ (p : Option (List ℕ) × Shape). (p.0, printed p.1)) xs)))) in m) (ap (λ (m : Marks). m.1.1.0) b.same)
      ∙ ap (λ (v : Bool). let m : Marks = (Postfix, (false, (false, (printed b.y).is_name && v))) in m) (none_same xs c.ys c.are)) in
      record { y = e.Call b.y (sorted c.ys); is = moved x _ _ is (call_of y b.y xs c.ys b.is c.are); stable = stay; form = of_call b.y (sorted c.ys) refl b.fits (sorted_each (P (At Conditional)) c.ys c.all); same = called }
  form_sorts x (of_method y n xs is h g) =
      let b = ih Owner y h in
      let c = sort_args (P (At Conditional)) (P (At Conditional)) (ih (At Conditional)) xs g in
      let stay : Is (e.Method b.y n (sorted c.ys)) (e.Method b.y n (sorted c.ys)) = λ l. method_of b.y b.y n (sorted c.ys) (sorted c.ys) b.stable (args_stay c.ys c.stables) l ∙ ap (e.Method b.y n) (sorted_twice c.ys) in
      record { y = e.Method b.y n (sorted c.ys); is = moved x _ _ is (method_of y b.y n xs c.ys b.is c.are); stable = stay; form = of_method b.y n (sorted c.ys) refl b.fits (sorted_each (P (At Conditional)) c.ys c.all); same = same_marks x _ _ _ _ is (printed-Method y n xs) (printed-Method b.y n (sorted c.ys)) refl }
  form_sorts x (of_super n xs is g) =
      let c = sort_args (P (At Conditional)) (P (At Conditional)) (ih (At Conditional)) xs g in
      let stay : Is (e.Super n (sorted c.ys)) (e.Super n (sorted c.ys)) = λ l. super_of n (sorted c.ys) (sorted c.ys) (args_stay c.ys c.stables) l ∙ ap (e.Super n) (sorted_twice c.ys) in
      record { y = e.Super n (sorted c.ys); is = moved x _ _ is (super_of n xs c.ys c.are); stable = stay; form = of_super n (sorted c.ys) refl (sorted_each (P (At Conditional)) c.ys c.all); same = same_marks x _ _ _ _ is (printed-Super n xs) (printed-Super n (sorted c.ys)) refl }
  form_sorts x (of_unary g y is h) = let b = ih (At Signed) y h in record { y = e.Unary g b.y; is = moved x _ _ is (unary_of g y b.y b.is); stable = unary_of g b.y b.y b.stable; form = of_unary g b.y refl b.fits; same = same_marks x _ _ _ _ is (printed-Unary g y) (printed-Unary g b.y) refl }
  form_sorts x (of_not y is h) = let b = ih (At Negation) y h in record { y = e.Not b.y; is = moved x _ _ is (not_of y b.y b.is); stable = not_of b.y b.y b.stable; form = of_not b.y refl b.fits; same = same_marks x _ _ _ _ is (printed-Not y) (printed-Not b.y) refl }
  form_sorts x (of_sum g y z is h f) =
      let b = ih (At Sum) y h in
      let c = ih (At Product) z f in
      let op = operator (s.Sign g) in
      record { y = e.Binary op b.y c.y; is = moved x _ _ is (binary_of op y b.y z c.y b.is c.is); stable = binary_of op b.y b.y c.y c.y b.stable c.stable; form = of_sum g b.y c.y refl b.fits c.fits; same = same_marks x _ _ _ _ is (printed-Binary op y z) (printed-Binary op b.y c.y) (binary_marks op (printed y) (printed z) (printed b.y) (printed c.y)) }
  form_sorts x (of_product op y z t is h f) =
      let b = ih (At Product) y h in
      let c = ih (At Signed) z f in
      record { y = e.Binary op b.y c.y; is = moved x _ _ is (binary_of op y b.y z c.y b.is c.is); stable = binary_of op b.y b.y c.y c.y b.stable c.stable; form = of_product op b.y c.y t refl b.fits c.fits; same = same_marks x _ _ _ _ is (printed-Binary op y z) (printed-Binary op b.y c.y) (binary_marks op (printed y) (printed z) (printed b.y) (printed c.y)) }
  form_sorts x (of_and y z xs is h) =
      let b = ih (At Negation) y h.0 in
      let c = ih (At Negation) z h.1.0 in
      let d = parts (At Negation) xs h.1.1 in
      record { y = e.And (b.y ∷ c.y ∷ d.ys); is = moved x _ _ is (and_of (y ∷ z ∷ xs) (b.y ∷ c.y ∷ d.ys) (b.is, (c.is, d.are))); stable = and_of (b.y ∷ c.y ∷ d.ys) (b.y ∷ c.y ∷ d.ys) (b.stable, (c.stable, d.stables)); form = of_and b.y c.y d.ys refl (b.fits, (c.fits, d.all)); same = same_marks x _ _ _ _ is (printed-And (y ∷ z ∷ xs)) (printed-And (b.y ∷ c.y ∷ d.ys)) refl }
  form_sorts x (of_or y z xs is h) =
      let b = ih (At Conjunction) y h.0 in
      let c = ih (At Conjunction) z h.1.0 in
      let d = parts (At Conjunction) xs h.1.1 in
      record { y = e.Or (b.y ∷ c.y ∷ d.ys); is = moved x _ _ is (or_of (y ∷ z ∷ xs) (b.y ∷ c.y ∷ d.ys) (b.is, (c.is, d.are))); stable = or_of (b.y ∷ c.y ∷ d.ys) (b.y ∷ c.y ∷ d.ys) (b.stable, (c.stable, d.stables)); form = of_or b.y c.y d.ys refl (b.fits, (c.fits, d.all)); same = same_marks x _ _ _ _ is (printed-Or (y ∷ z ∷ xs)) (printed-Or (b.y ∷ c.y ∷ d.ys)) refl }
  form_sorts x (of_compare y q cs is h g) =
      let b = ih (At Sum) y h in
      let c = ih (At Sum) q.1 g.0 in
      let d = sort_compared (P (At Sum)) (P (At Sum)) (ih (At Sum)) cs g.1 in
      record { y = e.Compare b.y ((q.0, c.y) ∷ d.ys); is = moved x _ _ is (compare_of y b.y (q ∷ cs) ((q.0, c.y) ∷ d.ys) b.is ((refl, c.is), d.are)); stable = compare_of b.y b.y ((q.0, c.y) ∷ d.ys) ((q.0, c.y) ∷ d.ys) b.stable ((refl, c.stable), d.stables); form = of_compare b.y (q.0, c.y) d.ys refl b.fits (c.fits, d.all); same = same_marks x _ _ _ _ is (printed-Compare y (q ∷ cs)) (printed-Compare b.y ((q.0, c.y) ∷ d.ys)) refl }
  form_sorts x (of_cond y z w is h g f) =
      let b = ih (At Disjunction) y h in
      let c = ih (At Disjunction) z g in
      let d = ih (At Conditional) w f in
      record { y = e.Cond b.y c.y d.y; is = moved x _ _ is (cond_of y b.y z c.y w d.y b.is c.is d.is); stable = cond_of b.y b.y c.y c.y d.y d.y b.stable c.stable d.stable; form = of_cond b.y c.y d.y refl b.fits c.fits d.fits; same = same_marks x _ _ _ _ is (printed-Cond y z w) (printed-Cond b.y c.y d.y) refl }

  node_sorts : (slot : Slot) (x : Shape) → Node P slot x → Sorts (Node P slot) x
  node_sorts slot x (inl h) =
      let b = form_sorts x h.1 in
      record { y = b.y; is = b.is; stable = b.stable; fits = inl (sym (stands_same slot (printed x) (printed b.y) b.same) ∙ h.0, b.form); same = b.same }
  node_sorts slot x (inr h) = let b = ih (At Conditional) x h in record { y = b.y; is = b.is; stable = b.stable; fits = inr b.fits; same = b.same }

pub sorts : (d : ℕ) (slot : Slot) (x : Shape) → Fits d slot x → Sorts (Fits d slot) x
sorts zero slot x h = absurd h
sorts (suc d) slot x h = node_sorts (Fits d) (λ s y k. sorts d s y k) slot x h
