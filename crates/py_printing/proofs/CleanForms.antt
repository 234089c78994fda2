-- Shapes that are printed by symbols whose tokens are sound.
use Rattle.std.proofs.Common.{◌≡◌, sym, ap, refl, subst, ℕ, Bool, true, false, cond, List, [], ◌∷◌, ◌++◌, Option, Some, None}
use Rattle.std.specs.Prelude.{map, option_map}
use Rattle.std.specs.List.{list_all}
use Rattle.py_language.specs.declared.shape.Atom.{Atom}
use Rattle.py_language.specs.declared.shape.Atom.TheVariants as a
use Rattle.py_language.specs.declared.shape.Bracket.{Bracket}
use Rattle.py_language.specs.declared.shape.Bracket.TheVariants.{Round, Square, Brace}
use Rattle.py_language.specs.declared.shape.Shape.{Shape}
use Rattle.py_language.specs.declared.shape.Shape.TheVariants as e
use Rattle.py_language.specs.declared.shape.Symbol.{Symbol}
use Rattle.py_language.specs.declared.shape.Symbol.TheVariants as s
use Rattle.py_language.specs.TreesPlaces.{Level, Listed, Conditional, Disjunction, Conjunction, Negation, Sum, Product, Signed, Postfix}
use Rattle.py_syntax.specs.declared.operator.BinOp.{BinOp}
use Rattle.py_syntax.specs.declared.operator.BinOp.TheVariants.{Add, Sub, Mul, FloorDiv, Mod}
use Rattle.py_syntax.specs.declared.operator.CmpOp.{CmpOp}
use Rattle.py_syntax.specs.declared.operator.CmpOp.TheVariants.{Lt, Gt, Eq, Ge, Le, Ne, Contained, NotContained, Same, NotSame}
use Rattle.py_syntax.specs.declared.operator.Sign.{Sign}
use Rattle.py_syntax.specs.declared.operator.Sign.TheVariants.{Minus, Plus}
use Rattle.py_spelling.specs.Spelling.{is_sound}
use Rattle.py_printing.specs.Printing as p
use Rattle.py_printing.specs.Printing.{chain, after_comma, commas, enclosed, Slot, At, Callee, Owner, Printed, is_bare_in, in_slot, one, marked, chained, argument, arguments, entry, tuple, binary, printed, print, Each, IfThere}
use Rattle.py_printing.specs.SymbolTokens.{tokens_in}
use Rattle.py_printing.specs.Expressions.{Given, unnamed, named}
use Rattle.py_printing.proofs.Unrolled.{printed-Atom, printed-ListLit, printed-TupleLit, printed-DictLit, printed-Attr, printed-Index, printed-Slice, printed-Call, printed-Method, printed-Super, printed-Unary, printed-Not, printed-Binary, printed-And, printed-Or, printed-Compare, printed-Cond}
use Rattle.py_printing.proofs.Numbers.{Is, AllIs, EntriesAre, ComparedAre, plain_ones, named_ones, sorted, ArgsAre, BoundIs, atom_is, list_of, tuple_of, and_of, or_of, dict_of, attr_of, index_of, slice_of, call_of, method_of, super_of, unary_of, not_of, binary_of, compare_of, cond_of}

-- ---- symbols whose tokens are sound

abbrev pub clean : Symbol → Bool
clean x = list_all is_sound (tokens_in x)

abbrev pub Clean : List Symbol → Type 0
Clean xs = Each (λ x. clean x ≡ true) xs

pub cat : (xs ys : List Symbol) → Clean xs → Clean ys → Clean (xs ++ ys)
cat [] ys h g = g
cat (x ∷ xs) ys h g = (h.0, cat xs ys h.1 g)

open_clean : (b : Bracket) → clean (s.Open b) ≡ true
open_clean Round = refl
open_clean Square = refl
open_clean Brace = refl

close_clean : (b : Bracket) → clean (s.Close b) ≡ true
close_clean Round = refl
close_clean Square = refl
close_clean Brace = refl

compare_clean : (op : CmpOp) → clean (s.Compare op) ≡ true
compare_clean Lt = refl
compare_clean Gt = refl
compare_clean Eq = refl
compare_clean Ge = refl
compare_clean Le = refl
compare_clean Ne = refl
compare_clean Contained = refl
compare_clean NotContained = refl
compare_clean Same = refl
compare_clean NotSame = refl

sign_clean : (g : Sign) → clean (s.Sign g) ≡ true
sign_clean Minus = refl
sign_clean Plus = refl

enclosed_clean : (b : Bracket) (xs : List Symbol) → Clean xs → Clean (enclosed b xs)
enclosed_clean b xs h = (open_clean b, cat xs (s.Close b ∷ []) h (close_clean b, tt))

pub slot_clean : (slot : Slot) (p : Printed) → Clean p.bare → Clean (in_slot slot p)
slot_clean slot p h = by (is_bare_in slot p)
  where
    by : (v : Bool) → Clean (cond v p.bare (enclosed Round p.bare))
    by true = h
    by false = enclosed_clean Round p.bare h

abbrev CleanPart : Symbol × List Symbol → Type 0
CleanPart q = (clean q.0 ≡ true) × Clean q.1

chain_clean : (xs : List Symbol) (qs : List (Symbol × List Symbol)) → Clean xs → Each CleanPart qs → Clean (chain xs qs)
chain_clean xs [] h g = h
chain_clean xs (q ∷ qs) h g = cat xs (q.0 ∷ chain q.1 qs) h (g.0.0, chain_clean q.1 qs g.0.1 g.1)

commas_clean : (ts : List (List Symbol)) → Each Clean ts → Clean (commas ts)
commas_clean [] h = tt
commas_clean (t ∷ ts) h = chain_clean t (map after_comma ts) h.0 (behind ts h.1)
  where
    behind : (ts : List (List Symbol)) → Each Clean ts → Each CleanPart (map after_comma ts)
    behind [] h = tt
    behind (t ∷ ts) h = ((refl, h.0), behind ts h.1)

marked_clean : (m : Symbol) (ts : List (List Symbol)) → clean m ≡ true → Each Clean ts → Each CleanPart (marked m ts)
marked_clean m [] e h = tt
marked_clean m (t ∷ ts) e h = ((e, h.0), marked_clean m ts e h.1)

chained_clean : (m : Symbol) (ts : List (List Symbol)) → clean m ≡ true → Each Clean ts → Clean (chained m ts)
chained_clean m [] e h = tt
chained_clean m (t ∷ ts) e h = chain_clean t (marked m ts) h.0 (marked_clean m ts e h.1)

-- ---- shapes that are printed by sound symbols, with their arguments in the order in which they are printed

abbrev Bare : Shape → Type 0
Bare y = Clean (printed y).bare

pub record CleanAs (x : Shape) : Type 0 where
  pub y : Shape
  pub is : Is x y
  pub bare : Bare y

made : (x y : Shape) (p : Printed) → Is x y → printed y ≡ p → Clean p.bare → CleanAs x
made x y p i e h = record { y = y; is = i; bare = subst (λ (q : Printed). Clean q.bare) (sym e) h }

part_in : (slot : Slot) (x : Shape) (a : CleanAs x) → Clean (print slot a.y)
part_in slot x a = slot_clean slot (printed a.y) a.bare

record AllAs (xs : List Shape) : Type 0 where
  ys : List Shape
  are : AllIs xs ys
  bare : Each Bare ys

all_as : (xs : List Shape) → Each CleanAs xs → AllAs xs
all_as [] h = record { ys = []; are = tt; bare = tt }
all_as (x ∷ xs) h = let a = h.0 in let b = all_as xs h.1 in record { ys = a.y ∷ b.ys; are = (a.is, b.are); bare = (a.bare, b.bare) }

slots_clean : (slot : Slot) (ys : List Shape) → Each Bare ys → Each Clean (map (in_slot slot) (map printed ys))
slots_clean slot [] h = tt
slots_clean slot (y ∷ ys) h = (slot_clean slot (printed y) h.0, slots_clean slot ys h.1)

abbrev pub EntryAs : Shape × Shape → Type 0
EntryAs p = CleanAs p.0 × CleanAs p.1

record EntriesAs (xs : List (Shape × Shape)) : Type 0 where
  ys : List (Shape × Shape)
  are : EntriesAre xs ys
  bare : Each (λ (p : Shape × Shape). Bare p.0 × Bare p.1) ys

entries_as : (xs : List (Shape × Shape)) → Each EntryAs xs → EntriesAs xs
entries_as [] h = record { ys = []; are = tt; bare = tt }
entries_as (x ∷ xs) h = let a = h.0.0 in let c = h.0.1 in let b = entries_as xs h.1 in record { ys = (a.y, c.y) ∷ b.ys; are = ((a.is, c.is), b.are); bare = ((a.bare, c.bare), b.bare) }

entries_clean : (ys : List (Shape × Shape)) → Each (λ (p : Shape × Shape). Bare p.0 × Bare p.1) ys → Each Clean (map entry (map (λ (p : Shape × Shape). (printed p.0, printed p.1)) ys))
entries_clean [] h = tt
entries_clean (y ∷ ys) h = (cat (print (At Conditional) y.0) (s.Colon ∷ print (At Conditional) y.1) (slot_clean (At Conditional) (printed y.0) h.0.0) (refl, slot_clean (At Conditional) (printed y.1) h.0.1), entries_clean ys h.1)

abbrev pub ComparedAs : CmpOp × Shape → Type 0
ComparedAs p = CleanAs p.1

record AllCompared (xs : List (CmpOp × Shape)) : Type 0 where
  ys : List (CmpOp × Shape)
  are : ComparedAre xs ys
  bare : Each (λ (p : CmpOp × Shape). Bare p.1) ys

all_compared : (xs : List (CmpOp × Shape)) → Each ComparedAs xs → AllCompared xs
all_compared [] h = record { ys = []; are = tt; bare = tt }
all_compared (x ∷ xs) h = let a = h.0 in let b = all_compared xs h.1 in record { ys = (x.0, a.y) ∷ b.ys; are = ((refl, a.is), b.are); bare = (a.bare, b.bare) }

compared_clean : (ys : List (CmpOp × Shape)) → Each (λ (p : CmpOp × Shape). Bare p.1) ys → Each CleanPart (p.compared (map (λ (c : CmpOp × Shape). (c.0, printed c.1)) ys))
compared_clean [] h = tt
compared_clean (y ∷ ys) h = ((compare_clean y.0, slot_clean (At Sum) (printed y.1) h.0), compared_clean ys h.1)

-- an argument's name, if it has one
abbrev CleanName : Option (List ℕ) → Type 0
CleanName None = Unit {0}
CleanName (Some n) = clean (s.Atom (a.Name n)) ≡ true

abbrev pub ArgAs : Option (List ℕ) × Shape → Type 0
ArgAs p = CleanName p.0 × CleanAs p.1

abbrev BareArg : Option (List ℕ) × Shape → Type 0
BareArg p = CleanName p.0 × Bare p.1

record ArgsAs (xs : Given) : Type 0 where
  ys : Given
  are : ArgsAre xs ys
  bare : Each BareArg ys

args_as : (xs : Given) → Each ArgAs xs → ArgsAs xs
args_as [] h = record { ys = []; are = tt; bare = tt }
args_as (x ∷ xs) h = let a = h.0.1 in let b = args_as xs h.1 in record { ys = (x.0, a.y) ∷ b.ys; are = ((refl, a.is), b.are); bare = ((h.0.0, a.bare), b.bare) }

plains : (ys : Given) → Each BareArg ys → Each Bare (plain_ones ys)
plains [] h = tt
plains ((None, y) ∷ ys) h = (h.0.1, plains ys h.1)
plains ((Some n, y) ∷ ys) h = plains ys h.1

abbrev BareNamed : List ℕ × Shape → Type 0
BareNamed p = (clean (s.Atom (a.Name p.0)) ≡ true) × Bare p.1

nameds : (ys : Given) → Each BareArg ys → Each BareNamed (named_ones ys)
nameds [] h = tt
nameds ((None, y) ∷ ys) h = nameds ys h.1
nameds ((Some n, y) ∷ ys) h = (h.0, nameds ys h.1)

back_named : (vs : List (List ℕ × Shape)) → Each BareNamed vs → Each BareArg (named vs)
back_named [] h = tt
back_named (v ∷ vs) h = (h.0, back_named vs h.1)

back_both : (us : List Shape) (vs : List (List ℕ × Shape)) → Each Bare us → Each BareNamed vs → Each BareArg (unnamed us ++ named vs)
back_both [] vs h g = back_named vs g
back_both (u ∷ us) vs h g = ((tt, h.0), back_both us vs h.1 g)

sorted_bare : (ys : Given) → Each BareArg ys → Each BareArg (sorted ys)
sorted_bare ys h = back_both (plain_ones ys) (named_ones ys) (plains ys h) (nameds ys h)

args_clean : (ys : Given) → Each BareArg ys → Each Clean (map argument (map (λ (p : Option (List ℕ) × Shape). (p.0, printed p.1)) ys))
args_clean [] h = tt
args_clean ((None, y) ∷ ys) h = (slot_clean (At Conditional) (printed y) h.0.1, args_clean ys h.1)
args_clean ((Some n, y) ∷ ys) h = ((h.0.0, (refl, slot_clean (At Conditional) (printed y) h.0.1)), args_clean ys h.1)

arguments_clean : (ys : Given) → Each BareArg ys → Clean (arguments (map (λ (p : Option (List ℕ) × Shape). (p.0, printed p.1)) ys))
arguments_clean ys h = enclosed_clean Round (commas (map argument (map (λ (p : Option (List ℕ) × Shape). (p.0, printed p.1)) ys))) (commas_clean (map argument (map (λ (p : Option (List ℕ) × Shape). (p.0, printed p.1)) ys)) (args_clean ys h))

abbrev IfAs : Option Shape → Type 0
IfAs o = IfThere CleanAs o

record BoundAs (o : Option Shape) : Type 0 where
  to : Option Shape
  are : BoundIs o to
  bare : Clean (p.bound (option_map printed to))

bound_as : (o : Option Shape) → IfAs o → BoundAs o
bound_as None h = record { to = None; are = λ n. refl; bare = tt }
bound_as (Some x) a = record { to = Some a.y; are = λ n. ap (λ z. Some z) (a.is n); bare = slot_clean (At Conditional) (printed a.y) a.bare }

-- ---- each form

pub atom_as : (v : Atom) → clean (s.Atom v) ≡ true → CleanAs (e.Atom v)
atom_as v h = made (e.Atom v) (e.Atom v) _ (atom_is v) (printed-Atom v) (h, tt)

pub list_as : (xs : List Shape) → Each CleanAs xs → CleanAs (e.ListLit xs)
list_as xs h = let b = all_as xs h in made (e.ListLit xs) (e.ListLit b.ys) _ (list_of xs b.ys b.are) (printed-ListLit b.ys) (enclosed_clean Square (commas (map one (map printed b.ys))) (commas_clean (map one (map printed b.ys)) (slots_clean (At Conditional) b.ys b.bare)))

tuple_clean : (ts : List (List Symbol)) → Each Clean ts → Clean (tuple ts)
tuple_clean [] h = tt
tuple_clean (t ∷ []) h = cat t (s.Comma ∷ []) h.0 (refl, tt)
tuple_clean (t ∷ u ∷ us) h = commas_clean (t ∷ u ∷ us) h

pub tuple_as : (xs : List Shape) → Each CleanAs xs → CleanAs (e.TupleLit xs)
tuple_as xs h = let b = all_as xs h in made (e.TupleLit xs) (e.TupleLit b.ys) _ (tuple_of xs b.ys b.are) (printed-TupleLit b.ys) (enclosed_clean Round (tuple (map one (map printed b.ys))) (tuple_clean (map one (map printed b.ys)) (slots_clean (At Conditional) b.ys b.bare)))

pub dict_as : (xs : List (Shape × Shape)) → Each EntryAs xs → CleanAs (e.DictLit xs)
dict_as xs h = let b = entries_as xs h in let ts = map entry (map (λ (p : Shape × Shape). (printed p.0, printed p.1)) b.ys) in made (e.DictLit xs) (e.DictLit b.ys) _ (dict_of xs b.ys b.are) (printed-DictLit b.ys) (enclosed_clean Brace (commas ts) (commas_clean ts (entries_clean b.ys b.bare)))

pub attr_as : (x : Shape) (n : List ℕ) → CleanAs x → clean (s.Attribute n) ≡ true → CleanAs (e.Attr x n)
attr_as x n a h = made (e.Attr x n) (e.Attr a.y n) _ (attr_of x a.y n a.is) (printed-Attr a.y n) (cat (print (At Postfix) a.y) (s.Attribute n ∷ []) (part_in (At Postfix) x a) (h, tt))

pub index_as : (x i : Shape) → CleanAs x → CleanAs i → CleanAs (e.Index x i)
index_as x i a b = made (e.Index x i) (e.Index a.y b.y) _ (index_of x a.y i b.y a.is b.is) (printed-Index a.y b.y) (cat (print (At Postfix) a.y) (enclosed Square (print (At Listed) b.y)) (part_in (At Postfix) x a) (enclosed_clean Square (print (At Listed) b.y) (part_in (At Listed) i b)))

pub slice_as : (x : Shape) (low high : Option Shape) → CleanAs x → IfAs low → IfAs high → CleanAs (e.Slice x low high)
slice_as x low high a f g =
    let b = bound_as low f in
    let c = bound_as high g in
    let inner = p.bound (option_map printed b.to) ++ s.Colon ∷ p.bound (option_map printed c.to) in
    made (e.Slice x low high) (e.Slice a.y b.to c.to) _ (slice_of x a.y low b.to high c.to a.is b.are c.are) (printed-Slice a.y b.to c.to)
    (cat (print (At Postfix) a.y) (enclosed Square inner) (part_in (At Postfix) x a) (enclosed_clean Square inner (cat (p.bound (option_map printed b.to)) (s.Colon ∷ p.bound (option_map printed c.to)) b.bare (refl, c.bare))))

pub call_as : (x : Shape) (xs : Given) → CleanAs x → Each ArgAs xs → CleanAs (e.Call x xs)
call_as x xs a h =
    let b = args_as xs h in
    made (e.Call x xs) (e.Call a.y (sorted b.ys)) _ (call_of x a.y xs b.ys a.is b.are) (printed-Call a.y (sorted b.ys))
    (cat (print Callee a.y) (arguments (map (λ (p : Option (List ℕ) × Shape). (p.0, printed p.1)) (sorted b.ys))) (part_in Callee x a) (arguments_clean (sorted b.ys) (sorted_bare b.ys b.bare)))

pub method_as : (x : Shape) (n : List ℕ) (xs : Given) → CleanAs x → clean (s.Method n) ≡ true → Each ArgAs xs → CleanAs (e.Method x n xs)
method_as x n xs a k h =
    let b = args_as xs h in
    made (e.Method x n xs) (e.Method a.y n (sorted b.ys)) _ (method_of x a.y n xs b.ys a.is b.are) (printed-Method a.y n (sorted b.ys))
    (cat (print Owner a.y) (s.Method n ∷ arguments (map (λ (p : Option (List ℕ) × Shape). (p.0, printed p.1)) (sorted b.ys))) (part_in Owner x a) (k, arguments_clean (sorted b.ys) (sorted_bare b.ys b.bare)))

pub super_as : (n : List ℕ) (xs : Given) → clean (s.Super n) ≡ true → Each ArgAs xs → CleanAs (e.Super n xs)
super_as n xs k h =
    let b = args_as xs h in
    made (e.Super n xs) (e.Super n (sorted b.ys)) _ (super_of n xs b.ys b.are) (printed-Super n (sorted b.ys)) (k, arguments_clean (sorted b.ys) (sorted_bare b.ys b.bare))

pub unary_as : (g : Sign) (x : Shape) → CleanAs x → CleanAs (e.Unary g x)
unary_as g x a = made (e.Unary g x) (e.Unary g a.y) _ (unary_of g x a.y a.is) (printed-Unary g a.y) (sign_clean g, part_in (At Signed) x a)

pub not_as : (x : Shape) → CleanAs x → CleanAs (e.Not x)
not_as x a = made (e.Not x) (e.Not a.y) _ (not_of x a.y a.is) (printed-Not a.y) (refl, part_in (At Negation) x a)

pub binary_as : (op : BinOp) (x z : Shape) → CleanAs x → CleanAs z → CleanAs (e.Binary op x z)
binary_as op x z a b = made (e.Binary op x z) (e.Binary op a.y b.y) _ (binary_of op x a.y z b.y a.is b.is) (printed-Binary op a.y b.y) (by op)
  where
    two : (l m : Level) (k : Symbol) → clean k ≡ true → Clean (print (At l) a.y ++ k ∷ print (At m) b.y)
    two l m k h = cat (print (At l) a.y) (k ∷ print (At m) b.y) (part_in (At l) x a) (h, part_in (At m) z b)

    by : (op : BinOp) → Clean (binary op (printed a.y) (printed b.y)).bare
    by Add = two Sum Product (s.Sign Plus) refl
    by Sub = two Sum Product (s.Sign Minus) refl
    by Mul = two Product Signed (s.Factor Mul) refl
    by FloorDiv = two Product Signed (s.Factor FloorDiv) refl
    by Mod = two Product Signed (s.Factor Mod) refl

pub and_as : (xs : List Shape) → Each CleanAs xs → CleanAs (e.And xs)
and_as xs h = let b = all_as xs h in made (e.And xs) (e.And b.ys) _ (and_of xs b.ys b.are) (printed-And b.ys) (chained_clean s.And (map (in_slot (At Negation)) (map printed b.ys)) refl (slots_clean (At Negation) b.ys b.bare))

pub or_as : (xs : List Shape) → Each CleanAs xs → CleanAs (e.Or xs)
or_as xs h = let b = all_as xs h in made (e.Or xs) (e.Or b.ys) _ (or_of xs b.ys b.are) (printed-Or b.ys) (chained_clean s.Or (map (in_slot (At Conjunction)) (map printed b.ys)) refl (slots_clean (At Conjunction) b.ys b.bare))

pub compare_as : (x : Shape) (xs : List (CmpOp × Shape)) → CleanAs x → Each ComparedAs xs → CleanAs (e.Compare x xs)
compare_as x xs a h = let b = all_compared xs h in made (e.Compare x xs) (e.Compare a.y b.ys) _ (compare_of x a.y xs b.ys a.is b.are) (printed-Compare a.y b.ys) (chain_clean (print (At Sum) a.y) (p.compared (map (λ (c : CmpOp × Shape). (c.0, printed c.1)) b.ys)) (part_in (At Sum) x a) (compared_clean b.ys b.bare))

pub cond_as : (x y z : Shape) → CleanAs x → CleanAs y → CleanAs z → CleanAs (e.Cond x y z)
cond_as x y z a b c =
    made (e.Cond x y z) (e.Cond a.y b.y c.y) _ (cond_of x a.y y b.y z c.y a.is b.is c.is) (printed-Cond a.y b.y c.y)
    (cat (print (At Disjunction) a.y) (s.If ∷ (print (At Disjunction) b.y ++ s.Else ∷ print (At Conditional) c.y)) (part_in (At Disjunction) x a) (refl, cat (print (At Disjunction) b.y) (s.Else ∷ print (At Conditional) c.y) (part_in (At Disjunction) y b) (refl, part_in (At Conditional) z c)))
