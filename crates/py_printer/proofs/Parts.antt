-- The symbols of a node by its kind, from those of its parts.
use Rattle.std.proofs.Common.{◌≡◌, ◌∙◌, refl, sym, ap, ap₂, ℕ, suc, Bool, true, ◌&&◌, List, [], ◌∷◌, ◌++◌, map, append-nil}
use Rattle.std.specs.Prelude.{Option, Some, None, ℤ, ◌==◌, length}
use Rattle.py_language.specs.declared.shape.Atom.TheVariants as a
use Rattle.py_language.specs.declared.shape.Bracket.TheVariants.{Round, Square, Brace}
use Rattle.py_language.specs.declared.shape.Shape.{Shape}
use Rattle.py_language.specs.declared.shape.Symbol.{Symbol}
use Rattle.py_language.specs.declared.shape.Symbol.TheVariants as s
use Rattle.py_syntax.specs.declared.expr.Args.{Args, out-Args}
use Rattle.py_syntax.specs.declared.expr.Expr.{Expr}
use Rattle.py_syntax.specs.declared.expr.ExprKind.{ExprKind}
use Rattle.py_syntax.specs.declared.expr.ExprKind.TheVariants as k
use Rattle.py_syntax.specs.declared.operator.BinOp.{BinOp}
use Rattle.py_syntax.specs.declared.operator.BinOp.TheVariants.{Add, Sub, Mul, FloorDiv, Mod}
use Rattle.py_syntax.specs.declared.operator.CmpOp.{CmpOp}
use Rattle.py_syntax.specs.declared.operator.Sign.{Sign}
use Rattle.py_syntax.specs.declared.operator.Sign.TheVariants.{Minus, Plus}
use Rattle.py_printing.specs.Expressions.{unnamed, named, unnumbered}
use Rattle.py_printing.specs.Printing as p
use Rattle.py_printing.specs.Printing.{Printed, At, chain, commas, chained, compared, argument, arguments, entry, enclosed, tuple, in_slot, one, printed, is_none_of}
use Rattle.py_printing.specs.SymbolTokens.{tokens_in, factor_token}
use Rattle.py_language.specs.declared.token.Token.{Token}
use Rattle.py_printer.specs.declared.slots.Slot.{Slot}
use Rattle.py_printer.specs.declared.slots.Slot.TheVariants as slot
use Rattle.py_printer.specs.Expressions.{of_kind, of_args, place_of, bare_of, printed_in, joined, named_symbols, entry_symbols, compared_symbols, bound_symbols, given_of, left_slot, right_slot, is_empty, only_comma}
use Rattle.py_printer.proofs.Series.{commas-joined, chained-joined, joined-append, empty_length, tuple_is}
use Rattle.py_printer.proofs.Unnumbering.{args_is, of-NoneLit, of-BoolLit, of-IntLit, of-StrLit, of-Name, of-ListLit, of-TupleLit, of-DictLit, of-Attr, of-Index, of-Slice, of-Call, of-Method, of-Super, of-Unary, of-Not, of-Binary, of-And, of-Or, of-Compare, of-Cond}
use Rattle.py_printer.proofs.Unrolled.{printed-Atom, printed-ListLit, printed-TupleLit, printed-DictLit, printed-Attr, printed-Index, printed-Slice, printed-Call, printed-Method, printed-Super, printed-Unary, printed-Not, printed-Binary, printed-And, printed-Or, printed-Compare, printed-Cond}

-- the text of a kind by the text of its shape
by : (x : ExprKind) (y : Shape) (z : Printed) → of_kind x ≡ y → printed y ≡ z → bare_of x ≡ z.bare
by x y z e f = ap (λ w. (printed w).bare) e ∙ ap (λ (w : Printed). w.bare) f

-- ---- lists of parts

maps : (here : Slot) (xs : List Expr) → map (in_slot (place_of here)) (map printed (map unnumbered xs)) ≡ map (printed_in here) xs
maps here [] = refl
maps here (x ∷ xs) = ap (λ ts. printed_in here x ∷ ts) (maps here xs)

pub comma_list : (xs : List Expr) → commas (map one (map printed (map unnumbered xs))) ≡ joined true s.Comma (map (printed_in slot.Conditional) xs)
comma_list xs = ap commas (maps slot.Conditional xs) ∙ commas-joined (map (printed_in slot.Conditional) xs)

operands : (m : Symbol) (here : Slot) (xs : List Expr) → chained m (map (in_slot (place_of here)) (map printed (map unnumbered xs))) ≡ joined true m (map (printed_in here) xs)
operands m here xs = ap (chained m) (maps here xs) ∙ chained-joined m (map (printed_in here) xs)

abbrev both_unnumbered : Expr × Expr → Shape × Shape
both_unnumbered q = (unnumbered q.0, unnumbered q.1)

abbrev both_printed : Shape × Shape → Printed × Printed
both_printed q = (printed q.0, printed q.1)

entries : (xs : List (Expr × Expr)) → map entry (map both_printed (map both_unnumbered xs)) ≡ map entry_symbols xs
entries [] = refl
entries (x ∷ xs) = ap (λ ts. entry_symbols x ∷ ts) (entries xs)

abbrev comparison_unnumbered : CmpOp × Expr → CmpOp × Shape
comparison_unnumbered c = (c.0, unnumbered c.1)

abbrev comparison_printed : CmpOp × Shape → CmpOp × Printed
comparison_printed c = (c.0, printed c.1)

comparisons : (head : List Symbol) (cs : List (CmpOp × Expr)) → chain head (compared (map comparison_printed (map comparison_unnumbered cs))) ≡ head ++ compared_symbols cs
comparisons head [] = sym (append-nil head)
comparisons head (c ∷ cs) = ap (λ xs. head ++ s.Compare c.0 ∷ xs) (comparisons (printed_in slot.Sum c.1) cs)

-- ---- arguments

abbrev argument_printed : Option (List ℕ) × Shape → Option (List ℕ) × Printed
argument_printed q = (q.0, printed q.1)

abbrev name_unnumbered : List ℕ × Expr → List ℕ × Shape
name_unnumbered q = (q.0, unnumbered q.1)

given : (xs : List Expr) (ns : List (List ℕ × Expr)) → map argument (map argument_printed (unnamed (map unnumbered xs) ++ named (map name_unnumbered ns))) ≡ map (printed_in slot.Conditional) xs ++ map named_symbols ns
given [] [] = refl
given [] (n ∷ ns) = ap (λ ts. named_symbols n ∷ ts) (given [] ns)
given (x ∷ xs) ns = ap (λ ts. printed_in slot.Conditional x ∷ ts) (given xs ns)

-- plain arguments, then the named ones, with commas
pub arguments_are : (args : Args) → arguments (given_of args)
    ≡ s.Open Round ∷ ((joined true s.Comma (map (printed_in slot.Conditional) (out-Args args).plain) ++ joined (is_empty (map (printed_in slot.Conditional) (out-Args args).plain)) s.Comma (map named_symbols (out-Args args).named)) ++ s.Close Round ∷ [])
arguments_are args =
    let plain = map (printed_in slot.Conditional) (out-Args args).plain in
    let others = map named_symbols (out-Args args).named in
    ap (λ ps. enclosed Round (commas (map argument (map argument_printed ps)))) (args_is args)
    ∙ ap (λ ts. enclosed Round (commas ts)) (given (out-Args args).plain (out-Args args).named)
    ∙ ap (enclosed Round) (commas-joined (plain ++ others) ∙ joined-append true s.Comma plain others)

pub empty-map : {X Y : Type 0} (f : X → Y) (xs : List X) → is_empty (map f xs) ≡ is_empty xs
empty-map f [] = refl
empty-map f (x ∷ xs) = refl

-- the same of what the code has of them
pub arguments_by : (args : Args) (xs : List Expr) (ns : List (List ℕ × Expr)) (first : Bool) → xs ≡ (out-Args args).plain → ns ≡ (out-Args args).named → first ≡ (length xs == 0)
    → arguments (given_of args) ≡ enclosed Round (joined true s.Comma (map (printed_in slot.Conditional) xs) ++ joined first s.Comma (map named_symbols ns))
arguments_by args xs ns first a b d =
    let show : List Expr → List (List Symbol) = map (printed_in slot.Conditional) in
    arguments_are args
    ∙ ap₂ (λ us vs. enclosed Round (joined true s.Comma (show us) ++ joined (is_empty (show us)) s.Comma (map named_symbols vs))) (sym a) (sym b)
    ∙ ap (λ v. enclosed Round (joined true s.Comma (show xs) ++ joined v s.Comma (map named_symbols ns))) (empty-map (printed_in slot.Conditional) xs ∙ sym (empty_length xs) ∙ sym d)

pub none_given : (args : Args) → is_none_of (given_of args) ≡ (is_empty (out-Args args).plain && is_empty (out-Args args).named)
none_given args = ap (λ ps. is_none_of (map argument_printed ps)) (args_is args) ∙ none (out-Args args).plain (out-Args args).named
  where
    none : (xs : List Expr) (ns : List (List ℕ × Expr)) → is_none_of (map argument_printed (unnamed (map unnumbered xs) ++ named (map name_unnumbered ns))) ≡ (is_empty xs && is_empty ns)
    none [] [] = refl
    none [] (n ∷ ns) = refl
    none (x ∷ xs) ns = refl

length-map : {X Y : Type 0} (f : X → Y) (xs : List X) → length (map f xs) ≡ length xs
length-map f [] = refl
length-map f (x ∷ xs) = ap suc (length-map f xs)

-- a tuple, with the comma after an only part
pub tuple_by : (xs : List Expr) (count : ℕ) → count ≡ length xs → enclosed Round (tuple (map (printed_in slot.Conditional) xs)) ≡ enclosed Round (joined true s.Comma (map (printed_in slot.Conditional) xs) ++ only_comma count)
tuple_by xs count e =
    let ts = map (printed_in slot.Conditional) xs in
    ap (enclosed Round) (tuple_is ts ∙ ap (λ n. joined true s.Comma ts ++ only_comma n) (length-map (printed_in slot.Conditional) xs ∙ sym e))

-- ---- the kinds

pub bare-NoneLit : bare_of k.NoneLit ≡ s.Atom a.NoneLit ∷ []
bare-NoneLit = by k.NoneLit _ _ of-NoneLit (printed-Atom a.NoneLit)

pub bare-BoolLit : (b : Bool) → bare_of (k.BoolLit b) ≡ s.Atom (a.BoolLit b) ∷ []
bare-BoolLit b = by (k.BoolLit b) _ _ (of-BoolLit b) (printed-Atom (a.BoolLit b))

pub bare-IntLit : (n : ℤ) → bare_of (k.IntLit n) ≡ s.Atom (a.IntLit n) ∷ []
bare-IntLit n = by (k.IntLit n) _ _ (of-IntLit n) (printed-Atom (a.IntLit n))

pub bare-StrLit : (x : List ℕ) → bare_of (k.StrLit x) ≡ s.Atom (a.StrLit x) ∷ []
bare-StrLit x = by (k.StrLit x) _ _ (of-StrLit x) (printed-Atom (a.StrLit x))

pub bare-Name : (n : List ℕ) → bare_of (k.Name n) ≡ s.Atom (a.Name n) ∷ []
bare-Name n = by (k.Name n) _ _ (of-Name n) (printed-Atom (a.Name n))

pub bare-ListLit : (xs : List Expr) → bare_of (k.ListLit xs) ≡ s.Open Square ∷ (joined true s.Comma (map (printed_in slot.Conditional) xs) ++ s.Close Square ∷ [])
bare-ListLit xs = by (k.ListLit xs) _ _ (of-ListLit xs) (printed-ListLit (map unnumbered xs)) ∙ ap (enclosed Square) (comma_list xs)

pub bare-TupleLit : (xs : List Expr) → bare_of (k.TupleLit xs) ≡ enclosed Round (tuple (map (printed_in slot.Conditional) xs))
bare-TupleLit xs = by (k.TupleLit xs) _ _ (of-TupleLit xs) (printed-TupleLit (map unnumbered xs)) ∙ ap (λ ts. enclosed Round (tuple ts)) (maps slot.Conditional xs)

pub bare-DictLit : (xs : List (Expr × Expr)) → bare_of (k.DictLit xs) ≡ s.Open Brace ∷ (joined true s.Comma (map entry_symbols xs) ++ s.Close Brace ∷ [])
bare-DictLit xs = by (k.DictLit xs) _ _ (of-DictLit xs) (printed-DictLit (map both_unnumbered xs)) ∙ ap (λ ts. enclosed Brace (commas ts)) (entries xs) ∙ ap (enclosed Brace) (commas-joined (map entry_symbols xs))

pub bare-Attr : (x : Expr) (n : List ℕ) → bare_of (k.Attr x n) ≡ printed_in slot.Postfix x ++ s.Attribute n ∷ []
bare-Attr x n = by (k.Attr x n) _ _ (of-Attr x n) (printed-Attr (unnumbered x) n)

pub bare-Index : (x i : Expr) → bare_of (k.Index x i) ≡ printed_in slot.Postfix x ++ s.Open Square ∷ (printed_in slot.Listed i ++ s.Close Square ∷ [])
bare-Index x i = by (k.Index x i) _ _ (of-Index x i) (printed-Index (unnumbered x) (unnumbered i))

pub bare-Slice : (x : Expr) (low high : Option Expr) → bare_of (k.Slice x low high) ≡ printed_in slot.Postfix x ++ s.Open Square ∷ ((bound_symbols low ++ s.Colon ∷ bound_symbols high) ++ s.Close Square ∷ [])
bare-Slice x None None = by (k.Slice x None None) _ _ (of-Slice x None None) (printed-Slice (unnumbered x) None None)
bare-Slice x None (Some v) = by (k.Slice x None (Some v)) _ _ (of-Slice x None (Some v)) (printed-Slice (unnumbered x) None (Some (unnumbered v)))
bare-Slice x (Some u) None = by (k.Slice x (Some u) None) _ _ (of-Slice x (Some u) None) (printed-Slice (unnumbered x) (Some (unnumbered u)) None)
bare-Slice x (Some u) (Some v) = by (k.Slice x (Some u) (Some v)) _ _ (of-Slice x (Some u) (Some v)) (printed-Slice (unnumbered x) (Some (unnumbered u)) (Some (unnumbered v)))

pub bare-Call : (x : Expr) (args : Args) → bare_of (k.Call x args) ≡ printed_in slot.Callee x ++ arguments (given_of args)
bare-Call x args = by (k.Call x args) _ _ (of-Call x args) (printed-Call (unnumbered x) (of_args args))

pub bare-Method : (x : Expr) (n : List ℕ) (args : Args) → bare_of (k.Method x n args) ≡ printed_in slot.Owner x ++ s.Method n ∷ arguments (given_of args)
bare-Method x n args = by (k.Method x n args) _ _ (of-Method x n args) (printed-Method (unnumbered x) n (of_args args))

pub bare-Super : (n : List ℕ) (args : Args) → bare_of (k.Super n args) ≡ s.Super n ∷ arguments (given_of args)
bare-Super n args = by (k.Super n args) _ _ (of-Super n args) (printed-Super n (of_args args))

pub bare-Unary : (g : Sign) (x : Expr) → bare_of (k.Unary g x) ≡ s.Sign g ∷ printed_in slot.Signed x
bare-Unary g x = by (k.Unary g x) _ _ (of-Unary g x) (printed-Unary g (unnumbered x))

pub bare-Not : (x : Expr) → bare_of (k.Not x) ≡ s.Not ∷ printed_in slot.Negation x
bare-Not x = by (k.Not x) _ _ (of-Not x) (printed-Not (unnumbered x))

-- the sign of a sum, or the operator of a product
abbrev pub operator_symbol : BinOp → Symbol
operator_symbol Add = s.Sign Plus
operator_symbol Sub = s.Sign Minus
operator_symbol op = s.Factor op

-- one token
pub operator_tokens : (op : BinOp) (y : Token) → y ≡ factor_token op → tokens_in (operator_symbol op) ≡ y ∷ []
operator_tokens Add y e = ap (λ z. z ∷ []) (sym e)
operator_tokens Sub y e = ap (λ z. z ∷ []) (sym e)
operator_tokens Mul y e = ap (λ z. z ∷ []) (sym e)
operator_tokens FloorDiv y e = ap (λ z. z ∷ []) (sym e)
operator_tokens Mod y e = ap (λ z. z ∷ []) (sym e)

binary_is : (op : BinOp) (q r : Printed) → (p.binary op q r).bare ≡ in_slot (place_of (left_slot op)) q ++ operator_symbol op ∷ in_slot (place_of (right_slot op)) r
binary_is Add q r = refl
binary_is Sub q r = refl
binary_is Mul q r = refl
binary_is FloorDiv q r = refl
binary_is Mod q r = refl

pub bare-Binary : (op : BinOp) (x y : Expr) → bare_of (k.Binary op x y) ≡ printed_in (left_slot op) x ++ operator_symbol op ∷ printed_in (right_slot op) y
bare-Binary op x y = by (k.Binary op x y) _ _ (of-Binary op x y) (printed-Binary op (unnumbered x) (unnumbered y)) ∙ binary_is op (printed (unnumbered x)) (printed (unnumbered y))

pub bare-And : (xs : List Expr) → bare_of (k.And xs) ≡ joined true s.And (map (printed_in slot.Negation) xs)
bare-And xs = by (k.And xs) _ _ (of-And xs) (printed-And (map unnumbered xs)) ∙ operands s.And slot.Negation xs

pub bare-Or : (xs : List Expr) → bare_of (k.Or xs) ≡ joined true s.Or (map (printed_in slot.Conjunction) xs)
bare-Or xs = by (k.Or xs) _ _ (of-Or xs) (printed-Or (map unnumbered xs)) ∙ operands s.Or slot.Conjunction xs

pub bare-Compare : (x : Expr) (cs : List (CmpOp × Expr)) → bare_of (k.Compare x cs) ≡ printed_in slot.Sum x ++ compared_symbols cs
bare-Compare x cs = by (k.Compare x cs) _ _ (of-Compare x cs) (printed-Compare (unnumbered x) (map comparison_unnumbered cs)) ∙ comparisons (printed_in slot.Sum x) cs

pub bare-Cond : (x y z : Expr) → bare_of (k.Cond x y z) ≡ printed_in slot.Disjunction x ++ s.If ∷ (printed_in slot.Disjunction y ++ s.Else ∷ printed_in slot.Conditional z)
bare-Cond x y z = by (k.Cond x y z) _ _ (of-Cond x y z) (printed-Cond (unnumbered x) (unnumbered y) (unnumbered z))
