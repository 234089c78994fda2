-- A printed expression is quiet: by induction over its depth, form by form.
use Rattle.std.proofs.Common.{◌≡◌, ◌∙◌, sym, ap, refl, subst, ℕ, zero, suc, Bool, true, false, ◌&&◌, ◌||◌, not, List, [], ◌∷◌, ◌++◌, Option, Some, None, inl, inr, arith, append_assoc}
use Rattle.std.specs.Prelude.{◌==◌, if◌then◌else◌, map, option_map, nat_lt}
use Rattle.std.specs.List.{list_all}
use Rattle.std.proofs.lemmas.Bool.Decides.{nat_tests}
use Rattle.py_cut.specs.Cut.{scan, Passes}
use Rattle.py_language.specs.declared.token.Token.{Token}
use Rattle.py_language.specs.declared.token.Token.TheVariants as t
use Rattle.py_language.specs.declared.token.Mark.TheVariants as m
use Rattle.py_language.specs.declared.shape.Atom.{Atom}
use Rattle.py_language.specs.declared.shape.Atom.TheVariants as a
use Rattle.py_language.specs.declared.shape.Bracket.{Bracket}
use Rattle.py_language.specs.declared.shape.Bracket.TheVariants.{Round, Square, Brace}
use Rattle.py_language.specs.declared.shape.Shape.{Shape, Shape-F, fold_out-Shape, map-Shape, out-Shape}
use Rattle.py_language.specs.declared.shape.Shape.TheVariants as e
use Rattle.py_language.specs.declared.shape.Shape.TheVariants.{outs-Atom, outs-ListLit, outs-TupleLit, outs-DictLit, outs-Attr, outs-Index, outs-Slice, outs-Call, outs-Method, outs-Super, outs-Unary, outs-Not, outs-Binary, outs-And, outs-Or, outs-Compare, outs-Cond}
use Rattle.py_language.specs.declared.shape.Symbol.{Symbol}
use Rattle.py_language.specs.declared.shape.Symbol.TheVariants as s
use Rattle.py_language.specs.TreesPlaces.{Level, Conditional, Disjunction, Conjunction, Negation, Sum, Product, Signed, Postfix, Listed}
use Rattle.py_language.specs.Trees.{deepest, operator}
use Rattle.py_syntax.specs.declared.operator.BinOp.{BinOp}
use Rattle.py_syntax.specs.declared.operator.BinOp.TheVariants.{Add, Sub, Mul, FloorDiv, Mod}
use Rattle.py_syntax.specs.declared.operator.CmpOp.{CmpOp}
use Rattle.py_syntax.specs.declared.operator.CmpOp.TheVariants.{Lt, Gt, Eq, Ge, Le, Ne, Contained, NotContained, Same, NotSame}
use Rattle.py_syntax.specs.declared.operator.Sign.{Sign}
use Rattle.py_syntax.specs.declared.operator.Sign.TheVariants.{Minus, Plus}
use Rattle.py_grammar.specs.declared.separator.Separator.{Separator}
use Rattle.py_grammar.specs.declared.separator.Separator.TheVariants.{Semicolon, Comma, Colon, Equal, Assign, Pipe, Part, In, As, Closing}
use Rattle.py_grammar.specs.Separators.{opened, outside, marks}
use Rattle.py_printing.specs.Expressions.{expr_tokens, unnumbered, ShapesReadBack}
use Rattle.py_printing.specs.ShapeLaws.{OnlyFittingAreRead}
use Rattle.py_printing.specs.Printing as p
use Rattle.py_printing.specs.Printing.{chain, after_comma, commas, enclosed, Slot, At, Callee, Owner, Printed, is_bare_in, in_slot, is_factor, one, marked, argument, arguments, entry, tuple, bound, binary, printed, print, print_node, Each, IfThere, Form, of_atom, of_list, of_tuple, of_dict, of_attr, of_index, of_slice, of_call, of_method, of_super, of_unary, of_not, of_sum, of_product, of_and, of_or, of_compare, of_cond, Fits}
use Rattle.py_printing.specs.SymbolTokens.{tokens, tokens_in, open_token, close_token, super_name}
use Rattle.py_layout.specs.Quiet.{is_strict, is_absent, QuietAt, ExpressionsAreQuiet}

-- ---- tokens, one after another

pub scan-append : (n : ℕ) (xs ys : List Token) → scan opened n (xs ++ ys) ≡ scan opened (scan opened n xs) ys
scan-append n [] ys = refl
scan-append n (x ∷ xs) ys = scan-append (opened n x) xs ys

pub passes-append : (p : Separator) (n : ℕ) (xs ys : List Token) → Passes opened (outside p) n xs → Passes opened (outside p) (scan opened n xs) ys → Passes opened (outside p) n (xs ++ ys)
passes-append p n [] ys h g = g
passes-append p n (x ∷ xs) ys h g = (h.0, passes-append p (opened n x) xs ys h.1 g)

pub quiet_append : (n : ℕ) (xs ys : List Token) → QuietAt n xs → QuietAt n ys → QuietAt n (xs ++ ys)
quiet_append n xs ys f g =
    record {
      closes = scan-append n xs ys ∙ ap (λ k. scan opened k ys) f.closes ∙ g.closes;
      passes = λ p h. passes-append p n xs ys (f.passes p h) (subst (λ k. Passes opened (outside p) k ys) (sym f.closes) (g.passes p h));
    }

pub quiet_nil : (n : ℕ) → QuietAt n []
quiet_nil n = record { closes = refl; passes = λ p h. tt }

-- ---- a token that is no separator

-- whether a token is none of those that an expression hasn't outside brackets
abbrev is_plain : Token → Bool
is_plain x = list_all (λ p. not (marks p x)) (Semicolon ∷ Comma ∷ Colon ∷ Equal ∷ Assign ∷ Pipe ∷ As ∷ Closing ∷ [])

and_both : (v w : Bool) → (v && w) ≡ true → (v ≡ true) × (w ≡ true)
and_both true w e = (refl, e)
and_both false w e = absurd (cc)

not_true : (v : Bool) → not v ≡ true → v ≡ false
not_true false e = refl
not_true true e = absurd (cc)

eight : (a b c d e f g h : Bool) → (not a && (not b && (not c && (not d && (not e && (not f && (not g && (not h && true)))))))) ≡ true
    → (a ≡ false) × ((b ≡ false) × ((c ≡ false) × ((d ≡ false) × ((e ≡ false) × ((f ≡ false) × ((g ≡ false) × (h ≡ false)))))))
eight false false false false false false false false e = (refl, (refl, (refl, (refl, (refl, (refl, (refl, refl)))))))
eight true b c d e f g h w = absurd (cc)
eight false true c d e f g h w = absurd (cc)
eight false false true d e f g h w = absurd (cc)
eight false false false true e f g h w = absurd (cc)
eight false false false false true f g h w = absurd (cc)
eight false false false false false true g h w = absurd (cc)
eight false false false false false false true h w = absurd (cc)
eight false false false false false false false true w = absurd (cc)

no_mark : (x : Token) (p : Separator) → is_plain x ≡ true → is_strict p ≡ true → marks p x ≡ false
no_mark x p e s = by_separator p s
  where
    w : (marks Semicolon x ≡ false) × ((marks Comma x ≡ false) × ((marks Colon x ≡ false) × ((marks Equal x ≡ false) × ((marks Assign x ≡ false) × ((marks Pipe x ≡ false) × ((marks As x ≡ false) × (marks Closing x ≡ false)))))))
    w = eight (marks Semicolon x) (marks Comma x) (marks Colon x) (marks Equal x) (marks Assign x) (marks Pipe x) (marks As x) (marks Closing x) e

    by_separator : (p : Separator) → is_strict p ≡ true → marks p x ≡ false
    by_separator Semicolon s = w.0
    by_separator Comma s = w.1.0
    by_separator Colon s = w.1.1.0
    by_separator Equal s = w.1.1.1.0
    by_separator Assign s = w.1.1.1.1.0
    by_separator Pipe s = w.1.1.1.1.1.0
    by_separator As s = w.1.1.1.1.1.1.0
    by_separator Closing s = w.1.1.1.1.1.1.1
    by_separator Part s = absurd (cc)
    by_separator In s = absurd (cc)

or_false : (v : Bool) → (v || false) ≡ true → v ≡ true
or_false true h = refl
or_false false h = absurd (cc)

or_true : (v : Bool) → (v || true) ≡ true
or_true true = refl
or_true false = refl

some_open : (n : ℕ) → (suc n == 0) ≡ false
some_open n = grind (arith, nat_tests)

is_open : (n : ℕ) → nat_lt 0 (suc n) ≡ true
is_open n = grind (arith, nat_tests)

absent_deep : (p : Separator) (n : ℕ) → is_absent p (suc n) ≡ true
absent_deep p n = ap (λ v. is_strict p || v) (is_open n) ∙ or_true (is_strict p)

-- where brackets are open, nothing is a separator
not_outside : (p : Separator) (n : ℕ) (x : Token) → is_plain x ≡ true → is_absent p n ≡ true → outside p n x ≡ false
unfolding outside
not_outside p zero x e h = no_mark x p e (or_false (is_strict p) h)
not_outside p (suc n) x e h = ap (λ v. v && marks p x) (some_open n)

pub outside_deep : (p : Separator) (n : ℕ) (x : Token) → outside p (suc n) x ≡ false
unfolding outside
outside_deep p n x = ap (λ v. v && marks p x) (some_open n)

-- a token that opens and closes nothing: one that is no separator, and any where brackets are open
abbrev Flat : Token → Type 0
Flat x = (n : ℕ) → opened n x ≡ n

pub plain_quiet : (x : Token) → Flat x → is_plain x ≡ true → (n : ℕ) → QuietAt n (x ∷ [])
plain_quiet x f e n = record { closes = f n; passes = λ p h. (not_outside p n x e h, tt) }

deep_quiet : (x : Token) → Flat x → (n : ℕ) → QuietAt (suc n) (x ∷ [])
deep_quiet x f n = record { closes = f (suc n); passes = λ p h. (outside_deep p n x, tt) }

-- ---- symbols

abbrev SymQuiet : ℕ → List Symbol → Type 0
SymQuiet n xs = QuietAt n (tokens xs)

pub tokens-append : (xs ys : List Symbol) → tokens (xs ++ ys) ≡ tokens xs ++ tokens ys
tokens-append [] ys = refl
tokens-append (x ∷ xs) ys = ap (λ z. tokens_in x ++ z) (tokens-append xs ys) ∙ sym (append_assoc (tokens_in x) (tokens xs) (tokens ys))

join : (n : ℕ) (xs ys : List Symbol) → SymQuiet n xs → SymQuiet n ys → SymQuiet n (xs ++ ys)
join n xs ys f g = subst (QuietAt n) (sym (tokens-append xs ys)) (quiet_append n (tokens xs) (tokens ys) f g)

cons : (n : ℕ) (x : Symbol) (xs : List Symbol) → QuietAt n (tokens_in x) → SymQuiet n xs → SymQuiet n (x ∷ xs)
cons n x xs f g = quiet_append n (tokens_in x) (tokens xs) f g

open_plain : (b : Bracket) → is_plain (open_token b) ≡ true
open_plain Round = refl
open_plain Square = refl
open_plain Brace = refl

opens : (b : Bracket) (n : ℕ) → opened n (open_token b) ≡ suc n
opens Round n = refl
opens Square n = refl
opens Brace n = refl

shuts : (b : Bracket) (n : ℕ) → opened (suc n) (close_token b) ≡ n
shuts Round n = refl
shuts Square n = refl
shuts Brace n = refl

-- tokens between an opening bracket and its closing one
pub between : (b : Bracket) (n : ℕ) (ts : List Token) → QuietAt (suc n) ts → QuietAt n (open_token b ∷ (ts ++ close_token b ∷ []))
between b n ts f =
    record {
      closes = ap (λ k. scan opened k (ts ++ close_token b ∷ [])) (opens b n) ∙ scan-append (suc n) ts (close_token b ∷ []) ∙ ap (λ k. opened k (close_token b)) f.closes ∙ shuts b n;
      passes = λ p h. (not_outside p n (open_token b) (open_plain b) h, subst (λ k. Passes opened (outside p) k (ts ++ close_token b ∷ [])) (sym (opens b n)) (inner p));
    }
  where
    inner : (p : Separator) → Passes opened (outside p) (suc n) (ts ++ close_token b ∷ [])
    inner p = passes-append p (suc n) ts (close_token b ∷ []) (f.passes p (absent_deep p n)) (subst (λ k. Passes opened (outside p) k (close_token b ∷ [])) (sym f.closes) (outside_deep p n (close_token b), tt))

enclose : (n : ℕ) (b : Bracket) (xs : List Symbol) → SymQuiet (suc n) xs → SymQuiet n (enclosed b xs)
enclose n b xs f = subst (λ ts. QuietAt n (open_token b ∷ ts)) (sym (tokens-append xs (s.Close b ∷ []))) (between b n (tokens xs) f)

-- ---- symbols that are one token or two

atom_quiet : (v : Atom) (n : ℕ) → QuietAt n (tokens_in (s.Atom v))
atom_quiet a.NoneLit = plain_quiet _ (λ n. refl) refl
atom_quiet (a.BoolLit true) = plain_quiet _ (λ n. refl) refl
atom_quiet (a.BoolLit false) = plain_quiet _ (λ n. refl) refl
atom_quiet (a.IntLit i) = plain_quiet _ (λ n. refl) refl
atom_quiet (a.StrLit x) = plain_quiet _ (λ n. refl) refl
atom_quiet (a.Name x) = plain_quiet _ (λ n. refl) refl

sign_quiet : (g : Sign) (n : ℕ) → QuietAt n (tokens_in (s.Sign g))
sign_quiet Minus = plain_quiet _ (λ n. refl) refl
sign_quiet Plus = plain_quiet _ (λ n. refl) refl

two_quiet : (x y : Token) (n : ℕ) → Flat x → is_plain x ≡ true → Flat y → is_plain y ≡ true → QuietAt n (x ∷ y ∷ [])
two_quiet x y n f e g w = quiet_append n (x ∷ []) (y ∷ []) (plain_quiet x f e n) (plain_quiet y g w n)

compare_quiet : (op : CmpOp) (n : ℕ) → QuietAt n (tokens_in (s.Compare op))
compare_quiet Lt n = plain_quiet _ (λ n. refl) refl n
compare_quiet Gt n = plain_quiet _ (λ n. refl) refl n
compare_quiet Eq n = plain_quiet _ (λ n. refl) refl n
compare_quiet Ge n = plain_quiet _ (λ n. refl) refl n
compare_quiet Le n = plain_quiet _ (λ n. refl) refl n
compare_quiet Ne n = plain_quiet _ (λ n. refl) refl n
compare_quiet Contained n = plain_quiet _ (λ n. refl) refl n
compare_quiet NotContained n = two_quiet _ _ n (λ n. refl) refl (λ n. refl) refl
compare_quiet Same n = plain_quiet _ (λ n. refl) refl n
compare_quiet NotSame n = two_quiet _ _ n (λ n. refl) refl (λ n. refl) refl

pub dotted : (x : List ℕ) (n : ℕ) → QuietAt n (t.Mark m.Dot ∷ t.Name x ∷ [])
dotted x n = two_quiet _ _ n (λ n. refl) refl (λ n. refl) refl

super_quiet : (x : List ℕ) (n : ℕ) → QuietAt n (tokens_in (s.Super x))
super_quiet x n = quiet_append n (t.Name super_name ∷ []) _ (plain_quiet _ (λ n. refl) refl n) (quiet_append n (t.Mark m.LeftParen ∷ t.Mark m.RightParen ∷ []) (t.Mark m.Dot ∷ t.Name x ∷ []) (between Round n [] (quiet_nil (suc n))) (dotted x n))

-- ---- lists of parts

abbrev Marked : ℕ → Symbol × List Symbol → Type 0
Marked n q = QuietAt n (tokens_in q.0) × SymQuiet n q.1

link : (n : ℕ) (xs : List Symbol) (qs : List (Symbol × List Symbol)) → SymQuiet n xs → Each (Marked n) qs → SymQuiet n (chain xs qs)
link n xs [] f g = f
link n xs (q ∷ qs) f g = join n xs (q.0 ∷ chain q.1 qs) f (cons n q.0 (chain q.1 qs) g.0.0 (link n q.1 qs g.0.1 g.1))

comma_quiet : (n : ℕ) → QuietAt (suc n) (tokens_in s.Comma)
comma_quiet = deep_quiet (t.Mark m.Comma) (λ n. refl)

colon_quiet : (n : ℕ) → QuietAt (suc n) (tokens_in s.Colon)
colon_quiet = deep_quiet (t.Mark m.Colon) (λ n. refl)

equal_quiet : (n : ℕ) → QuietAt (suc n) (tokens_in s.Equal)
equal_quiet = deep_quiet (t.Mark m.Equal) (λ n. refl)

separate : (n : ℕ) (ts : List (List Symbol)) → Each (SymQuiet (suc n)) ts → SymQuiet (suc n) (commas ts)
separate n [] h = quiet_nil (suc n)
separate n (t ∷ ts) h = link (suc n) t (map after_comma ts) h.0 (others ts h.1)
  where
    others : (ts : List (List Symbol)) → Each (SymQuiet (suc n)) ts → Each (Marked (suc n)) (map after_comma ts)
    others [] h = tt
    others (t ∷ ts) h = ((comma_quiet n, h.0), others ts h.1)

mark_all : (n : ℕ) (k : Symbol) (ts : List (List Symbol)) → QuietAt n (tokens_in k) → Each (SymQuiet n) ts → Each (Marked n) (marked k ts)
mark_all n k [] b h = tt
mark_all n k (t ∷ ts) b h = ((b, h.0), mark_all n k ts b h.1)

-- ---- one level of a printed shape

abbrev pub printed_by : Shape-F Shape → Printed
printed_by k = print_node (map-Shape Shape Printed printed k)

pub printed-out : (x : Shape) → printed x ≡ printed_by (out-Shape x)
unfolding printed
printed-out x = fold_out-Shape Printed print_node x

pub printed-slice : (x : Shape) (low high : Option Shape) → printed (e.Slice x low high) ≡ print_node (Shape-F.Slice (printed x) (option_map printed low) (option_map printed high))
printed-slice x None None = printed-out (e.Slice x None None) ∙ ap printed_by (outs-Slice x None None)
printed-slice x None (Some w) = printed-out (e.Slice x None (Some w)) ∙ ap printed_by (outs-Slice x None (Some w))
printed-slice x (Some v) None = printed-out (e.Slice x (Some v) None) ∙ ap printed_by (outs-Slice x (Some v) None)
printed-slice x (Some v) (Some w) = printed-out (e.Slice x (Some v) (Some w)) ∙ ap printed_by (outs-Slice x (Some v) (Some w))

-- ---- nodes, by their parts

module _ (P : Slot → Shape → Type 0) (ih : (slot : Slot) (x : Shape) → P slot x → (n : ℕ) → SymQuiet n (print slot x)) where
  all_quiet : (l : Level) (n : ℕ) (xs : List Shape) → Each (P (At l)) xs → Each (SymQuiet n) (map (in_slot (At l)) (map printed xs))
  all_quiet l n [] h = tt
  all_quiet l n (x ∷ xs) h = (ih (At l) x h.0 n, all_quiet l n xs h.1)

  argument_quiet : (name : Option (List ℕ)) (x : Shape) (n : ℕ) → P (At Conditional) x → SymQuiet (suc n) (argument (name, printed x))
  argument_quiet None x n h = ih (At Conditional) x h (suc n)
  argument_quiet (Some name) x n h = cons (suc n) (s.Atom (a.Name name)) (s.Equal ∷ print (At Conditional) x) (atom_quiet (a.Name name) (suc n)) (cons (suc n) s.Equal (print (At Conditional) x) (equal_quiet n) (ih (At Conditional) x h (suc n)))

  abbrev given : List (Option (List ℕ) × Shape) → List (Option (List ℕ) × Printed)
  given xs = map (λ (p : Option (List ℕ) × Shape). (p.0, printed p.1)) xs

  args_quiet : (n : ℕ) (xs : List (Option (List ℕ) × Shape)) → Each (λ (p : Option (List ℕ) × Shape). P (At Conditional) p.1) xs → Each (SymQuiet (suc n)) (map argument (given xs))
  args_quiet n [] h = tt
  args_quiet n (x ∷ xs) h = (argument_quiet x.0 x.1 n h.0, args_quiet n xs h.1)

  arguments_quiet : (n : ℕ) (xs : List (Option (List ℕ) × Shape)) → Each (λ (p : Option (List ℕ) × Shape). P (At Conditional) p.1) xs → SymQuiet n (arguments (given xs))
  arguments_quiet n xs h = enclose n Round (commas (map argument (given xs))) (separate n (map argument (given xs)) (args_quiet n xs h))

  abbrev paired : List (Shape × Shape) → List (Printed × Printed)
  paired xs = map (λ (p : Shape × Shape). (printed p.0, printed p.1)) xs

  entries_quiet : (n : ℕ) (xs : List (Shape × Shape)) → Each (λ (p : Shape × Shape). P (At Conditional) p.0 × P (At Conditional) p.1) xs → Each (SymQuiet (suc n)) (map entry (paired xs))
  entries_quiet n [] h = tt
  entries_quiet n (x ∷ xs) h = (join (suc n) (print (At Conditional) x.0) (s.Colon ∷ print (At Conditional) x.1) (ih (At Conditional) x.0 h.0.0 (suc n)) (cons (suc n) s.Colon (print (At Conditional) x.1) (colon_quiet n) (ih (At Conditional) x.1 h.0.1 (suc n))), entries_quiet n xs h.1)

  bound_quiet : (n : ℕ) (low : Option Shape) → IfThere (P (At Conditional)) low → SymQuiet n (bound (option_map printed low))
  bound_quiet n None h = quiet_nil n
  bound_quiet n (Some x) h = ih (At Conditional) x h n

  tuple_quiet : (n : ℕ) (xs : List Shape) → Each (P (At Conditional)) xs → SymQuiet (suc n) (tuple (map one (map printed xs)))
  tuple_quiet n [] h = quiet_nil (suc n)
  tuple_quiet n (x ∷ []) h = join (suc n) (print (At Conditional) x) (s.Comma ∷ []) (ih (At Conditional) x h.0 (suc n)) (cons (suc n) s.Comma [] (comma_quiet n) (quiet_nil (suc n)))
  tuple_quiet n (x ∷ y ∷ ys) h = separate n (map one (map printed (x ∷ y ∷ ys))) (all_quiet Conditional (suc n) (x ∷ y ∷ ys) h)

  compared_quiet : (n : ℕ) (cs : List (CmpOp × Shape)) → Each (λ (c : CmpOp × Shape). P (At Sum) c.1) cs → Each (Marked n) (p.compared (map (λ (c : CmpOp × Shape). (c.0, printed c.1)) cs))
  compared_quiet n [] h = tt
  compared_quiet n (c ∷ cs) h = ((compare_quiet c.0 n, ih (At Sum) c.1 h.0 n), compared_quiet n cs h.1)

  abbrev Bare : Shape → Type 0
  Bare x = (n : ℕ) → SymQuiet n (printed x).bare

  moved : (x y : Shape) (p : Printed) → x ≡ y → printed y ≡ p → ((n : ℕ) → SymQuiet n p.bare) → Bare x
  moved x y p is eq h n = subst (λ (q : Printed). SymQuiet n q.bare) (sym (ap printed is ∙ eq)) (h n)

  -- a part, a mark and a part
  two : (n : ℕ) (xs ys : List Symbol) (k : Symbol) → QuietAt n (tokens_in k) → SymQuiet n xs → SymQuiet n ys → SymQuiet n (xs ++ k ∷ ys)
  two n xs ys k b f g = join n xs (k ∷ ys) f (cons n k ys b g)

  binary_quiet : (op : BinOp) (y z : Shape) → (is_factor op ≡ true → P (At Product) y × P (At Signed) z) → (is_factor op ≡ false → P (At Sum) y × P (At Product) z) → (n : ℕ) → SymQuiet n (binary op (printed y) (printed z)).bare
  binary_quiet Add y z f g n = let k = g refl in two n (print (At Sum) y) (print (At Product) z) (s.Sign Plus) (sign_quiet Plus n) (ih (At Sum) y k.0 n) (ih (At Product) z k.1 n)
  binary_quiet Sub y z f g n = let k = g refl in two n (print (At Sum) y) (print (At Product) z) (s.Sign Minus) (sign_quiet Minus n) (ih (At Sum) y k.0 n) (ih (At Product) z k.1 n)
  binary_quiet Mul y z f g n = let k = f refl in two n (print (At Product) y) (print (At Signed) z) (s.Factor Mul) (plain_quiet _ (λ n. refl) refl n) (ih (At Product) y k.0 n) (ih (At Signed) z k.1 n)
  binary_quiet FloorDiv y z f g n = let k = f refl in two n (print (At Product) y) (print (At Signed) z) (s.Factor FloorDiv) (plain_quiet _ (λ n. refl) refl n) (ih (At Product) y k.0 n) (ih (At Signed) z k.1 n)
  binary_quiet Mod y z f g n = let k = f refl in two n (print (At Product) y) (print (At Signed) z) (s.Factor Mod) (plain_quiet _ (λ n. refl) refl n) (ih (At Product) y k.0 n) (ih (At Signed) z k.1 n)

  sum_factor : (g : Sign) → is_factor (operator (s.Sign g)) ≡ false
  sum_factor Plus = refl
  sum_factor Minus = refl

  keyword_between : (n : ℕ) (k : Symbol) (l : Level) (y : Shape) (xs : List Shape) → QuietAt n (tokens_in k) → Each (P (At l)) (y ∷ xs) → SymQuiet n (chain (print (At l) y) (marked k (map (in_slot (At l)) (map printed xs))))
  keyword_between n k l y xs b h = link n (print (At l) y) (marked k (map (in_slot (At l)) (map printed xs))) (ih (At l) y h.0 n) (mark_all n k (map (in_slot (At l)) (map printed xs)) b (all_quiet l n xs h.1))

  form_quiet : (x : Shape) → Form P x → Bare x
  form_quiet x (of_atom v is) = moved x _ _ is (printed-out (e.Atom v) ∙ ap printed_by (outs-Atom v)) (λ n. cons n (s.Atom v) [] (atom_quiet v n) (quiet_nil n))
  form_quiet x (of_list xs is h) = moved x _ _ is (printed-out (e.ListLit xs) ∙ ap printed_by (outs-ListLit xs)) (λ n. enclose n Square (commas (map one (map printed xs))) (separate n (map one (map printed xs)) (all_quiet Conditional (suc n) xs h)))
  form_quiet x (of_tuple xs is h) = moved x _ _ is (printed-out (e.TupleLit xs) ∙ ap printed_by (outs-TupleLit xs)) (λ n. enclose n Round (tuple (map one (map printed xs))) (tuple_quiet n xs h))
  form_quiet x (of_dict xs is h) = moved x _ _ is (printed-out (e.DictLit xs) ∙ ap printed_by (outs-DictLit xs)) (λ n. enclose n Brace (commas (map entry (paired xs))) (separate n (map entry (paired xs)) (entries_quiet n xs h)))
  form_quiet x (of_attr y name is h) = moved x _ _ is (printed-out (e.Attr y name) ∙ ap printed_by (outs-Attr y name)) (λ n. two n (print (At Postfix) y) [] (s.Attribute name) (dotted name n) (ih (At Postfix) y h n) (quiet_nil n))
  form_quiet x (of_index y i is h k) = moved x _ _ is (printed-out (e.Index y i) ∙ ap printed_by (outs-Index y i)) (λ n. join n (print (At Postfix) y) (enclosed Square (print (At Listed) i)) (ih (At Postfix) y h n) (enclose n Square (print (At Listed) i) (ih (At Listed) i k (suc n))))
  form_quiet x (of_slice y low high is h k l) = moved x _ _ is (printed-slice y low high)
      (λ n. join n (print (At Postfix) y) (enclosed Square (bound (option_map printed low) ++ s.Colon ∷ bound (option_map printed high))) (ih (At Postfix) y h n)
      (enclose n Square (bound (option_map printed low) ++ s.Colon ∷ bound (option_map printed high)) (two (suc n) (bound (option_map printed low)) (bound (option_map printed high)) s.Colon (colon_quiet n) (bound_quiet (suc n) low k) (bound_quiet (suc n) high l))))
  form_quiet x (of_call y xs is h k) = moved x _ _ is (printed-out (e.Call y xs) ∙ ap printed_by (outs-Call y xs)) (λ n. join n (print Callee y) (arguments (given xs)) (ih Callee y h n) (arguments_quiet n xs k))
  form_quiet x (of_method y name xs is h k) = moved x _ _ is (printed-out (e.Method y name xs) ∙ ap printed_by (outs-Method y name xs)) (λ n. two n (print Owner y) (arguments (given xs)) (s.Method name) (dotted name n) (ih Owner y h n) (arguments_quiet n xs k))
  form_quiet x (of_super name xs is k) = moved x _ _ is (printed-out (e.Super name xs) ∙ ap printed_by (outs-Super name xs)) (λ n. cons n (s.Super name) (arguments (given xs)) (super_quiet name n) (arguments_quiet n xs k))
  form_quiet x (of_unary g y is h) = moved x _ _ is (printed-out (e.Unary g y) ∙ ap printed_by (outs-Unary g y)) (λ n. cons n (s.Sign g) (print (At Signed) y) (sign_quiet g n) (ih (At Signed) y h n))
  form_quiet x (of_not y is h) = moved x _ _ is (printed-out (e.Not y) ∙ ap printed_by (outs-Not y)) (λ n. cons n s.Not (print (At Negation) y) (plain_quiet _ (λ n. refl) refl n) (ih (At Negation) y h n))
  form_quiet x (of_sum g y z is h k) = moved x _ _ is (printed-out (e.Binary (operator (s.Sign g)) y z) ∙ ap printed_by (outs-Binary (operator (s.Sign g)) y z)) (binary_quiet (operator (s.Sign g)) y z (λ f. absurd (let wrong : true ≡ false = sym f ∙ sum_factor g in cc)) (λ f. (h, k)))
  form_quiet x (of_product op y z f is h k) = moved x _ _ is (printed-out (e.Binary op y z) ∙ ap printed_by (outs-Binary op y z)) (binary_quiet op y z (λ g. (h, k)) (λ g. absurd (let wrong : true ≡ false = sym f ∙ g in cc)))
  form_quiet x (of_and y z xs is h) = moved x _ _ is (printed-out (e.And (y ∷ z ∷ xs)) ∙ ap printed_by (outs-And (y ∷ z ∷ xs))) (λ n. keyword_between n s.And Negation y (z ∷ xs) (plain_quiet _ (λ n. refl) refl n) h)
  form_quiet x (of_or y z xs is h) = moved x _ _ is (printed-out (e.Or (y ∷ z ∷ xs)) ∙ ap printed_by (outs-Or (y ∷ z ∷ xs))) (λ n. keyword_between n s.Or Conjunction y (z ∷ xs) (plain_quiet _ (λ n. refl) refl n) h)
  form_quiet x (of_compare y c cs is h k) = moved x _ _ is (printed-out (e.Compare y (c ∷ cs)) ∙ ap printed_by (outs-Compare y (c ∷ cs))) (λ n. link n (print (At Sum) y) (p.compared (map (λ (c : CmpOp × Shape). (c.0, printed c.1)) (c ∷ cs))) (ih (At Sum) y h n) (compared_quiet n (c ∷ cs) k))
  form_quiet x (of_cond y z w is h k l) = moved x _ _ is (printed-out (e.Cond y z w) ∙ ap printed_by (outs-Cond y z w))
      (λ n. two n (print (At Disjunction) y) (print (At Disjunction) z ++ s.Else ∷ print (At Conditional) w) s.If (plain_quiet _ (λ n. refl) refl n) (ih (At Disjunction) y h n)
      (two n (print (At Disjunction) z) (print (At Conditional) w) s.Else (plain_quiet _ (λ n. refl) refl n) (ih (At Disjunction) z k n) (ih (At Conditional) w l n)))

-- ---- in a slot, with brackets where they are put

slot_quiet : (v : Bool) (xs : List Symbol) → ((n : ℕ) → SymQuiet n xs) → (n : ℕ) → SymQuiet n (if v then xs else enclosed Round xs)
slot_quiet true xs f n = f n
slot_quiet false xs f n = enclose n Round xs (f (suc n))

-- What is read with a bracket round it is read within: brackets are no node of their own.
pub bare_quiet : (d : ℕ) (slot : Slot) (x : Shape) → Fits d slot x → (n : ℕ) → SymQuiet n (printed x).bare
bare_quiet zero slot x h = absurd h
bare_quiet (suc d) slot x (inl h) = form_quiet (Fits d) (λ s y k n. slot_quiet (is_bare_in s (printed y)) (printed y).bare (bare_quiet d s y k) n) x h.1
bare_quiet (suc d) slot x (inr h) = bare_quiet d (At Conditional) x h

pub expressions_quiet : OnlyFittingAreRead → ShapesReadBack → ExpressionsAreQuiet
expressions_quiet fits back l ts x h n =
    let f = fits deepest l (expr_tokens l x) (unnumbered x) (back l ts x h) in
    slot_quiet (is_bare_in (At l) (printed (unnumbered x))) (printed (unnumbered x)).bare (bare_quiet deepest (At l) (unnumbered x) f) n
