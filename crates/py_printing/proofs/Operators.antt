-- Each form of expression is read back, where its parts are.
use Rattle.std.proofs.Common.{◌≡◌, ◌∙◌, sym, ap, refl, subst, ◌<◌, ◌≤◌, true, List, [], ◌∷◌, ◌++◌, Option, Some, arith}
use Rattle.py_cut.specs.Cut.{scan, Passes, Stops}
use Rattle.py_cut.proofs.Cuts.{front_of, back_of, last_cut-at}
use Rattle.py_language.specs.declared.shape.Shape.{Shape}
use Rattle.py_language.specs.declared.shape.Shape.TheVariants as e
use Rattle.py_language.specs.declared.shape.Symbol.{Symbol}
use Rattle.py_language.specs.declared.shape.Symbol.TheVariants as s
use Rattle.py_language.specs.TreesPlaces.{Level, Conditional, Disjunction, Conjunction, Negation, Comparison, Sum, Product, Signed, Place, start, next, number, at, below, front, back}
use Rattle.py_language.specs.Trees.{◌>>=◌, operator, comparator, each, in_all, at_level, conditional, disjunction, conjunction, negation, comparison, sum, product, signed, otherwise, chosen}
use Rattle.py_syntax.specs.declared.operator.BinOp.{BinOp}
use Rattle.py_syntax.specs.declared.operator.CmpOp.{CmpOp}
use Rattle.py_syntax.specs.declared.operator.Sign.{Sign}
use Rattle.py_printing.specs.Printing.{chain, marked}
use Rattle.py_printing.proofs.Chains.{Part, IsMark, Marked, IsPassed, Passed, front-chain, pieces-chain, part-more, part-chain, part-wider}
use Rattle.py_printing.proofs.Levels.{wrong, fine, Good, wrong-looser, at-looser, below-same, good-looser, passes_at}

-- ---- what follows a part

pub below_part : (m : Level) (xs : List Symbol) → Good m xs → Part (below m) xs
below_part m xs g = part-wider (wrong m) (below m) (below-same m) xs g.part

pub at_part : (l m : Level) → number l < number m → (xs : List Symbol) → Good m xs → Part (at l) xs
at_part l m lt xs g = part-wider (wrong m) (at l) (at-looser l m lt) xs g.part

pub looser_part : (l m : Level) → number l ≤ number m → (xs : List Symbol) → Good m xs → Part (wrong l) xs
looser_part l m le xs g = part-wider (wrong m) (wrong l) (wrong-looser l m le) xs g.part

-- a level begins as its first part does
pub first_append : (l : Level) (xs ys : List Symbol) → fine l xs ≡ true → fine l (xs ++ ys) ≡ true
first_append l [] ys e = absurd (cc)
first_append l (x ∷ xs) ys e = e

pub first_chain : (l : Level) (xs : List Symbol) (qs : List (Symbol × List Symbol)) → fine l xs ≡ true → fine l (chain xs qs) ≡ true
first_chain l xs [] e = e
first_chain l xs (q ∷ qs) e = first_append l xs (q.0 ∷ chain q.1 qs) e

module _ (part : Level → List Symbol → Option Shape) (P : Level → Shape → List Symbol → Type 0) where
  -- what is read, and well formed
  pub record Read (l : Level) (x : Shape) (xs : List Symbol) : Type 0 where
    pub read : at_level part l xs ≡ Some x
    pub good : Good l xs

  module _ (reads : (l : Level) (x : Shape) (xs : List Symbol) → P l x xs → part l xs ≡ Some x) (goods : (l : Level) (x : Shape) (xs : List Symbol) → P l x xs → Good l xs) where
    -- ---- conditionals

    pub read_cond : (x y z : Shape) (xs ys zs : List Symbol) → P Disjunction x xs → P Disjunction y ys → P Conditional z zs → Read Conditional (e.Cond x y z) (xs ++ s.If ∷ (ys ++ s.Else ∷ zs))
    unfolding conditional below wrong
    read_cond x y z xs ys zs p q r =
        let gx = goods Disjunction x xs p in
        let gy = goods Disjunction y ys q in
        let gz = goods Conditional z zs r in
        let bx = below_part Disjunction xs gx in
        let by = below_part Disjunction ys gy in
        let stop1 : Stops next (below Disjunction) (scan next start xs) (s.If ∷ (ys ++ s.Else ∷ zs)) = ap (λ (w : Place). below Disjunction w s.If) bx.ended in
        let stop2 : Stops next (below Disjunction) (scan next start ys) (s.Else ∷ zs) = ap (λ (w : Place). below Disjunction w s.Else) by.ended in
        let f1 = front_of next (below Disjunction) start xs (s.If ∷ (ys ++ s.Else ∷ zs)) bx.passes stop1 in
        let b1 = back_of next (below Disjunction) start xs (s.If ∷ (ys ++ s.Else ∷ zs)) bx.passes stop1 in
        let f2 = front_of next (below Disjunction) start ys (s.Else ∷ zs) by.passes stop2 in
        let b2 = back_of next (below Disjunction) start ys (s.Else ∷ zs) by.passes stop2 in
        record {
          read = ap (chosen part (xs ++ s.If ∷ (ys ++ s.Else ∷ zs)) (front (below Disjunction) (xs ++ s.If ∷ (ys ++ s.Else ∷ zs)))) b1
              ∙ ap (λ v. otherwise part v (front (below Disjunction) (ys ++ s.Else ∷ zs)) (back (below Disjunction) (ys ++ s.Else ∷ zs))) f1
              ∙ ap (otherwise part xs (front (below Disjunction) (ys ++ s.Else ∷ zs))) b2
              ∙ ap (λ v. otherwise part xs v (s.Else ∷ zs)) f2
              ∙ rw (reads Disjunction x xs p, reads Disjunction y ys q, reads Conditional z zs r) refl;
          good = record {
            part = part-more (wrong Conditional) xs (ys ++ s.Else ∷ zs) s.If (looser_part Conditional Disjunction (omega arith) xs gx) (record { passed = refl; begins = refl })
                (part-more (wrong Conditional) ys zs s.Else (looser_part Conditional Disjunction (omega arith) ys gy) (record { passed = refl; begins = refl }) gz.part);
            first = first_append Conditional xs (s.If ∷ (ys ++ s.Else ∷ zs)) ((good-looser Conditional Disjunction (omega arith) xs gx).first);
          };
        }

    -- ---- several parts

    abbrev pub Parts : Level → List Shape → List (List Symbol) → Type 0
    Parts l [] [] = Unit {0}
    Parts l (x ∷ xs) (t ∷ ts) = P l x t × Parts l xs ts
    Parts l _ _ = ⊥

    abbrev pub Compared : List (CmpOp × Shape) → List (List Symbol) → Type 0
    Compared [] [] = Unit {0}
    Compared (c ∷ cs) (t ∷ ts) = P Sum c.1 t × Compared cs ts
    Compared _ _ = ⊥

    abbrev pub compared : List (CmpOp × Shape) → List (List Symbol) → List (Symbol × List Symbol)
    compared [] ts = []
    compared (c ∷ cs) [] = []
    compared (c ∷ cs) (t ∷ ts) = (s.Compare c.0, t) ∷ compared cs ts

    each_part : (l : Level) (m : Symbol) (xs : List Shape) (ts : List (List Symbol)) → Parts l xs ts → each (λ (p : Symbol × List Symbol). part l p.1) (marked m ts) ≡ Some xs
    each_part l m [] [] p = refl
    each_part l m [] (t ∷ ts) p = absurd p
    each_part l m (x ∷ xs) [] p = absurd p
    each_part l m (x ∷ xs) (t ∷ ts) p = rw (reads l x t p.0, each_part l m xs ts p.1) refl

    each_compared : (cs : List (CmpOp × Shape)) (ts : List (List Symbol)) → Compared cs ts → each (λ (p : Symbol × List Symbol). part Sum p.1 >>= λ x. Some (comparator p.0, x)) (compared cs ts) ≡ Some cs
    each_compared [] [] p = refl
    each_compared [] (t ∷ ts) p = absurd p
    each_compared (c ∷ cs) [] p = absurd p
    each_compared (c ∷ cs) (t ∷ ts) p = rw (reads Sum c.1 t p.0, each_compared cs ts p.1) refl

    marked_parts : (l m : Level) → number l < number m → (k : Symbol) → IsMark (at l) k → (xs : List Shape) (ts : List (List Symbol)) → Parts m xs ts → Marked (at l) (marked k ts)
    marked_parts l m lt k w [] [] p = tt
    marked_parts l m lt k w [] (t ∷ ts) p = absurd p
    marked_parts l m lt k w (x ∷ xs) [] p = absurd p
    marked_parts l m lt k w (x ∷ xs) (t ∷ ts) p = (w, (at_part l m lt t (goods m x t p.0), marked_parts l m lt k w xs ts p.1))

    passed_parts : (l m : Level) → number l ≤ number m → (k : Symbol) → IsPassed (wrong l) k → (xs : List Shape) (ts : List (List Symbol)) → Parts m xs ts → Passed (wrong l) (marked k ts)
    passed_parts l m le k w [] [] p = tt
    passed_parts l m le k w [] (t ∷ ts) p = absurd p
    passed_parts l m le k w (x ∷ xs) [] p = absurd p
    passed_parts l m le k w (x ∷ xs) (t ∷ ts) p = (w, (looser_part l m le t (goods m x t p.0), passed_parts l m le k w xs ts p.1))

    compare_mark : (op : CmpOp) → IsMark (at Comparison) (s.Compare op)
    unfolding at
    compare_mark op = record { marks = refl; begins = refl }

    compare_passed : (op : CmpOp) → IsPassed (wrong Comparison) (s.Compare op)
    unfolding wrong
    compare_passed op = record { passed = refl; begins = refl }

    marked_compared : (cs : List (CmpOp × Shape)) (ts : List (List Symbol)) → Compared cs ts → Marked (at Comparison) (compared cs ts)
    marked_compared [] [] p = tt
    marked_compared [] (t ∷ ts) p = absurd p
    marked_compared (c ∷ cs) [] p = absurd p
    marked_compared (c ∷ cs) (t ∷ ts) p = (compare_mark c.0, (at_part Comparison Sum (omega arith) t (goods Sum c.1 t p.0), marked_compared cs ts p.1))

    passed_compared : (cs : List (CmpOp × Shape)) (ts : List (List Symbol)) → Compared cs ts → Passed (wrong Comparison) (compared cs ts)
    passed_compared [] [] p = tt
    passed_compared [] (t ∷ ts) p = absurd p
    passed_compared (c ∷ cs) [] p = absurd p
    passed_compared (c ∷ cs) (t ∷ ts) p = (compare_passed c.0, (looser_part Comparison Sum (omega arith) t (goods Sum c.1 t p.0), passed_compared cs ts p.1))

    or_mark : IsMark (at Disjunction) s.Or
    unfolding at
    or_mark = record { marks = refl; begins = refl }

    or_passed : IsPassed (wrong Disjunction) s.Or
    unfolding wrong
    or_passed = record { passed = refl; begins = refl }

    and_mark : IsMark (at Conjunction) s.And
    unfolding at
    and_mark = record { marks = refl; begins = refl }

    and_passed : IsPassed (wrong Conjunction) s.And
    unfolding wrong
    and_passed = record { passed = refl; begins = refl }

    -- cut at each mark, in the words of `in_all`
    all_by : {B : Type 0} (whole head : List Symbol → Option Shape) (piece : Symbol × List Symbol → Option B) (node : Shape → List B → Shape) (x : Shape) (others : List B) (here : List Symbol) (q : Symbol × List Symbol) (qs : List (Symbol × List Symbol)) (xs : List Symbol)
        → head here ≡ Some x → each piece (q ∷ qs) ≡ Some others → in_all whole head piece node here (q ∷ qs) xs ≡ Some (node x others)
    all_by whole head piece node x others here q qs xs h g = rw (h, g) refl

    pub read_or : (x y : Shape) (ys : List Shape) (t u : List Symbol) (us : List (List Symbol)) → P Conjunction x t → Parts Conjunction (y ∷ ys) (u ∷ us) → Read Disjunction (e.Or (x ∷ y ∷ ys)) (chain t (marked s.Or (u ∷ us)))
    unfolding disjunction
    read_or x y ys t u us p q =
        let g = goods Conjunction x t p in
        let here = at_part Disjunction Conjunction (omega arith) t g in
        let ms = marked_parts Disjunction Conjunction (omega arith) s.Or or_mark (y ∷ ys) (u ∷ us) q in
        record {
          read = rw (pieces-chain (at Disjunction) t (marked s.Or (u ∷ us)) here ms, front-chain (at Disjunction) t (marked s.Or (u ∷ us)) here ms)
              (all_by (conjunction part) (part Conjunction) (λ p. part Conjunction p.1) (λ x others. e.Or (x ∷ others)) x (y ∷ ys) t (s.Or, u) (marked s.Or us) (chain t (marked s.Or (u ∷ us))) (reads Conjunction x t p) (each_part Conjunction s.Or (y ∷ ys) (u ∷ us) q));
          good = record {
            part = part-chain (wrong Disjunction) t (marked s.Or (u ∷ us)) (looser_part Disjunction Conjunction (omega arith) t g) (passed_parts Disjunction Conjunction (omega arith) s.Or or_passed (y ∷ ys) (u ∷ us) q);
            first = first_chain Disjunction t (marked s.Or (u ∷ us)) ((good-looser Disjunction Conjunction (omega arith) t g).first);
          };
        }

    pub read_and : (x y : Shape) (ys : List Shape) (t u : List Symbol) (us : List (List Symbol)) → P Negation x t → Parts Negation (y ∷ ys) (u ∷ us) → Read Conjunction (e.And (x ∷ y ∷ ys)) (chain t (marked s.And (u ∷ us)))
    unfolding conjunction
    read_and x y ys t u us p q =
        let g = goods Negation x t p in
        let here = at_part Conjunction Negation (omega arith) t g in
        let ms = marked_parts Conjunction Negation (omega arith) s.And and_mark (y ∷ ys) (u ∷ us) q in
        record {
          read = rw (pieces-chain (at Conjunction) t (marked s.And (u ∷ us)) here ms, front-chain (at Conjunction) t (marked s.And (u ∷ us)) here ms)
              (all_by (negation part) (part Negation) (λ p. part Negation p.1) (λ x others. e.And (x ∷ others)) x (y ∷ ys) t (s.And, u) (marked s.And us) (chain t (marked s.And (u ∷ us))) (reads Negation x t p) (each_part Negation s.And (y ∷ ys) (u ∷ us) q));
          good = record {
            part = part-chain (wrong Conjunction) t (marked s.And (u ∷ us)) (looser_part Conjunction Negation (omega arith) t g) (passed_parts Conjunction Negation (omega arith) s.And and_passed (y ∷ ys) (u ∷ us) q);
            first = first_chain Conjunction t (marked s.And (u ∷ us)) ((good-looser Conjunction Negation (omega arith) t g).first);
          };
        }

    pub read_compare : (x : Shape) (c : CmpOp × Shape) (cs : List (CmpOp × Shape)) (t u : List Symbol) (us : List (List Symbol)) → P Sum x t → Compared (c ∷ cs) (u ∷ us) → Read Comparison (e.Compare x (c ∷ cs)) (chain t (compared (c ∷ cs) (u ∷ us)))
    unfolding comparison
    read_compare x c cs t u us p q =
        let g = goods Sum x t p in
        let here = at_part Comparison Sum (omega arith) t g in
        let ms = marked_compared (c ∷ cs) (u ∷ us) q in
        record {
          read = rw (pieces-chain (at Comparison) t (compared (c ∷ cs) (u ∷ us)) here ms, front-chain (at Comparison) t (compared (c ∷ cs) (u ∷ us)) here ms)
              (all_by (sum part) (part Sum) (λ p. part Sum p.1 >>= λ x. Some (comparator p.0, x)) e.Compare x (c ∷ cs) t (s.Compare c.0, u) (compared cs us) (chain t (compared (c ∷ cs) (u ∷ us))) (reads Sum x t p) (each_compared (c ∷ cs) (u ∷ us) q));
          good = record {
            part = part-chain (wrong Comparison) t (compared (c ∷ cs) (u ∷ us)) (looser_part Comparison Sum (omega arith) t g) (passed_compared (c ∷ cs) (u ∷ us) q);
            first = first_chain Comparison t (compared (c ∷ cs) (u ∷ us)) ((good-looser Comparison Sum (omega arith) t g).first);
          };
        }

    -- ---- words and signs in front

    pub read_not : (x : Shape) (xs : List Symbol) → P Negation x xs → Read Negation (e.Not x) (s.Not ∷ xs)
    unfolding negation wrong
    read_not x xs p =
        let g = goods Negation x xs p in
        record { read = rw (reads Negation x xs p) refl; good = record { part = record { passes = (refl, g.part.passes); ended = g.part.ended }; first = refl } }

    pub read_unary : (k : Sign) (x : Shape) (xs : List Symbol) → P Signed x xs → Read Signed (e.Unary k x) (s.Sign k ∷ xs)
    unfolding signed wrong
    read_unary k x xs p =
        let g = goods Signed x xs p in
        record { read = rw (reads Signed x xs p) refl; good = record { part = record { passes = (refl, g.part.passes); ended = g.part.ended }; first = refl } }

    -- ---- sums and products

    pub read_sum : (k : Sign) (x y : Shape) (xs ys : List Symbol) → P Sum x xs → P Product y ys → Read Sum (e.Binary (operator (s.Sign k)) x y) (xs ++ s.Sign k ∷ ys)
    unfolding sum at wrong
    read_sum k x y xs ys p q =
        let gx = goods Sum x xs p in
        let gy = goods Product y ys q in
        let here : at Sum (scan next start xs) (s.Sign k) ≡ true = ap (λ (w : Place). at Sum w (s.Sign k)) gx.part.ended in
        let rest : Passes next (at Sum) (next (scan next start xs) (s.Sign k)) ys = subst (λ (w : Place). Passes next (at Sum) (next w (s.Sign k)) ys) (sym gx.part.ended) (passes_at Sum Product (omega arith) ys gy) in
        record {
          read = rw (last_cut-at next (at Sum) start xs (s.Sign k) ys here rest, reads Sum x xs p, reads Product y ys q) refl;
          good = record {
            part = part-more (wrong Sum) xs ys (s.Sign k) gx.part (record { passed = refl; begins = refl }) (looser_part Sum Product (omega arith) ys gy);
            first = first_append Sum xs (s.Sign k ∷ ys) gx.first;
          };
        }

    pub read_product : (op : BinOp) (x y : Shape) (xs ys : List Symbol) → P Product x xs → P Signed y ys → Read Product (e.Binary op x y) (xs ++ s.Factor op ∷ ys)
    unfolding product at wrong
    read_product op x y xs ys p q =
        let gx = goods Product x xs p in
        let gy = goods Signed y ys q in
        let here : at Product (scan next start xs) (s.Factor op) ≡ true = ap (λ (w : Place). at Product w (s.Factor op)) gx.part.ended in
        let rest : Passes next (at Product) (next (scan next start xs) (s.Factor op)) ys = subst (λ (w : Place). Passes next (at Product) (next w (s.Factor op)) ys) (sym gx.part.ended) (passes_at Product Signed (omega arith) ys gy) in
        record {
          read = rw (last_cut-at next (at Product) start xs (s.Factor op) ys here rest, reads Product x xs p, reads Signed y ys q) refl;
          good = record {
            part = part-more (wrong Product) xs ys (s.Factor op) gx.part (record { passed = refl; begins = refl }) (looser_part Product Signed (omega arith) ys gy);
            first = first_append Product xs (s.Factor op ∷ ys) gx.first;
          };
        }
