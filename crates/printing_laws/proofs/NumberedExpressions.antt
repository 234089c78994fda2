-- Numbering the nodes of an expression leaves its shape.
use Rattle.std.proofs.Common.{◌≡◌, ◌∙◌, refl, sym, ap, ap₂, subst, ℕ, zero, suc, Bool, List, Option, Some, None, [], ◌∷◌, ◌++◌, map, take, drop}
use Rattle.py_language.specs.TreesNumbers.{Numbered, in_order as each, arguments}
use Rattle.py_language.specs.declared.shape.Shape.{Shape}
use Rattle.py_language.specs.declared.shape.Shape.TheVariants as s
use Rattle.py_syntax.specs.declared.expr.Args.{Args, Args-F, fold-roll-Args, map-Args, roll-Args}
use Rattle.py_syntax.specs.declared.expr.Expr.{Expr, Expr-F, fold-roll-Expr, ind-Expr, map-Expr, roll-Expr}
use Rattle.py_syntax.specs.declared.expr.ExprKind.{ExprKind, ExprKind-F, fold-roll-ExprKind, map-ExprKind, roll-ExprKind}
use Rattle.py_syntax.specs.declared.operator.CmpOp.{CmpOp}
use Rattle.py_nodes.specs.Expressions.{OnLine, Part, Named, before, with_name, standing, on, parts_by, args_by, node_by, part_of, parts_of, args_of as numbers_of_args, pair_on, compared_on}
use Rattle.py_printing.specs.Expressions.{Given, unnamed, named, args_of, kind_of, unnumbered}
use Rattle.py_printing.proofs.Unnumbering.{of_kind, of_args, expr_is, args_is, of-NoneLit, of-BoolLit, of-IntLit, of-StrLit, of-Name, of-ListLit, of-TupleLit, of-DictLit, of-Attr, of-Index, of-Slice, of-Call, of-Method, of-Super, of-Unary, of-Not, of-Binary, of-And, of-Or, of-Compare, of-Cond}

-- ---- arguments: the plain ones and the named ones among those that stand

abbrev Standing : Type 0
Standing = List (Option (List ℕ) × Numbered Expr)

abbrev plain_in : Standing → List (Numbered Expr)
plain_in [] = []
plain_in ((None, p) ∷ l) = p ∷ plain_in l
plain_in ((Some n, p) ∷ l) = plain_in l

abbrev named_in : Standing → List (List ℕ × Numbered Expr)
named_in [] = []
named_in ((None, p) ∷ l) = named_in l
named_in ((Some n, p) ∷ l) = (n, p) ∷ named_in l

plain_append : (xs ys : Standing) → plain_in (xs ++ ys) ≡ plain_in xs ++ plain_in ys
plain_append [] ys = refl
plain_append ((None, p) ∷ xs) ys = ap (λ zs. p ∷ zs) (plain_append xs ys)
plain_append ((Some n, p) ∷ xs) ys = plain_append xs ys

named_append : (xs ys : Standing) → named_in (xs ++ ys) ≡ named_in xs ++ named_in ys
named_append [] ys = refl
named_append ((None, p) ∷ xs) ys = named_append xs ys
named_append ((Some n, p) ∷ xs) ys = ap (λ zs. (n, p) ∷ zs) (named_append xs ys)

module _ (line : ℕ) where
  abbrev values : List Named → List (List ℕ × Numbered Expr)
  values ns = map (λ (n : Named). let made : List ℕ × Numbered Expr = (n.0, n.1.on line) in made) ns

  no_plain : (ns : List Named) → plain_in (map (with_name line) ns) ≡ []
  no_plain [] = refl
  no_plain (n ∷ ns) = no_plain ns

  all_named : (ns : List Named) → named_in (map (with_name line) ns) ≡ values ns
  all_named [] = refl
  all_named (n ∷ ns) = ap (λ zs. (n.0, n.1.on line) ∷ zs) (all_named ns)

  values_join : (k : ℕ) (ns : List Named) → values (take k ns) ++ values (drop k ns) ≡ values ns
  values_join zero ns = refl
  values_join (suc k) [] = refl
  values_join (suc k) (n ∷ ns) = ap (λ zs. (n.0, n.1.on line) ∷ zs) (values_join k ns)

  plain_standing : (xs : List Part) (ns : List Named) → plain_in (standing line xs ns) ≡ map (on line) xs
  plain_standing [] ns = no_plain ns
  plain_standing (x ∷ xs) ns =
      let k = before x ns in
      plain_append (map (with_name line) (take k ns)) ((None, x.on line) ∷ standing line xs (drop k ns))
      ∙ ap₂ (λ a b. a ++ x.on line ∷ b) (no_plain (take k ns)) (plain_standing xs (drop k ns))

  named_standing : (xs : List Part) (ns : List Named) → named_in (standing line xs ns) ≡ values ns
  named_standing [] ns = all_named ns
  named_standing (x ∷ xs) ns =
      let k = before x ns in
      named_append (map (with_name line) (take k ns)) ((None, x.on line) ∷ standing line xs (drop k ns))
      ∙ ap₂ (λ a b. a ++ b) (all_named (take k ns)) (named_standing xs (drop k ns))
      ∙ values_join k ns

-- ---- numbered from any number on, it has this shape

abbrev Steady : Numbered Expr → Shape → Type 0
Steady p y = (n : ℕ) → unnumbered (p n).0 ≡ y

abbrev AllSteady : List (Numbered Expr) → List Shape → Type 0
AllSteady [] [] = Unit {0}
AllSteady (p ∷ ps) (y ∷ ys) = Steady p y × AllSteady ps ys
AllSteady _ _ = ⊥

abbrev shape_named : List ℕ × Expr → List ℕ × Shape
shape_named p = (p.0, unnumbered p.1)

abbrev NamedSteady : List (List ℕ × Numbered Expr) → List (List ℕ × Shape) → Type 0
NamedSteady [] [] = Unit {0}
NamedSteady (p ∷ ps) (y ∷ ys) = (p.0 ≡ y.0) × Steady p.1 y.1 × NamedSteady ps ys
NamedSteady _ _ = ⊥

each_steady : (ps : List (Numbered Expr)) (ys : List Shape) → AllSteady ps ys → (n : ℕ) → map unnumbered (each ps n).0 ≡ ys
each_steady [] [] h n = refl
each_steady [] (y ∷ ys) h n = absurd h
each_steady (p ∷ ps) [] h n = absurd h
each_steady (p ∷ ps) (y ∷ ys) h n = ap₂ (λ z zs. z ∷ zs) (h.0 n) (each_steady ps ys h.1 (p n).1)

record Sorted (l : Standing) (ys : List Shape) (ms : List (List ℕ × Shape)) (n : ℕ) : Type 0 where
  plain : map unnumbered (arguments l n).0.0 ≡ ys
  named : map shape_named (arguments l n).0.1 ≡ ms

sorted : (l : Standing) (ys : List Shape) (ms : List (List ℕ × Shape)) → AllSteady (plain_in l) ys → NamedSteady (named_in l) ms → (n : ℕ) → Sorted l ys ms n
sorted [] [] [] h k n = record { plain = refl; named = refl }
sorted [] (y ∷ ys) ms h k n = absurd h
sorted [] [] (m ∷ ms) h k n = absurd k
sorted ((None, p) ∷ l) [] ms h k n = absurd h
sorted ((None, p) ∷ l) (y ∷ ys) ms h k n =
    let rest = sorted l ys ms h.1 k (p n).1 in
    record { plain = ap₂ (λ z zs. z ∷ zs) (h.0 n) rest.plain; named = rest.named }
sorted ((Some name, p) ∷ l) ys [] h k n = absurd k
sorted ((Some name, p) ∷ l) ys (m ∷ ms) h k n =
    let rest = sorted l ys ms h k.2 (p n).1 in
    record { plain = rest.plain; named = ap₂ (λ z zs. z ∷ zs) (ap₂ (λ a b. (a, b)) k.0 (k.1 n)) rest.named }

-- ---- every expression

module _ (counted : Bool) where
  abbrev KindSame : ExprKind → Type 0
  KindSame k = (line n : ℕ) → of_kind (parts_of counted k line n).0 ≡ of_kind k

  abbrev ArgsSame : Args → Type 0
  ArgsSame g = (line n : ℕ) → of_args (numbers_of_args counted g line n).0 ≡ of_args g

  abbrev PartSame : Expr → Type 0
  PartSame x = (line n : ℕ) → unnumbered ((part_of counted x).on line n).0 ≡ unnumbered x

  module _ {SK SA SE : Type 0} (vk : SK → ExprKind) (va : SA → Args) (ve : SE → Expr) (hk : (y : SK) → KindSame (vk y)) (ha : (y : SA) → ArgsSame (va y)) (he : (y : SE) → PartSame (ve y)) where
    abbrev under : ExprKind-F SK SA SE → ExprKind-F ExprKind Args Expr
    under = map-ExprKind SK SA SE ExprKind Args Expr vk va ve

    abbrev over : ExprKind-F ExprKind Args Expr → ExprKind-F (OnLine ExprKind) (OnLine Args) Part
    over = map-ExprKind ExprKind Args Expr (OnLine ExprKind) (OnLine Args) Part (parts_of counted) (numbers_of_args counted) (part_of counted)

    abbrev shaped : ExprKind-F ExprKind Args Expr → Shape
    shaped f = kind_of (map-ExprKind ExprKind Args Expr Shape Given Shape of_kind of_args unnumbered f)

    abbrev p : SE → Part
    p x = part_of counted (ve x)

    list_same : (line : ℕ) (xs : List SE) (n : ℕ) → map unnumbered (each (map (on line) (map (part_of counted) (map ve xs))) n).0 ≡ map unnumbered (map ve xs)
    list_same line [] n = refl
    list_same line (x ∷ xs) n = ap₂ (λ z zs. z ∷ zs) (he x line n) (list_same line xs ((p x).on line n).1)

    abbrev pair_shape : Expr × Expr → Shape × Shape
    pair_shape q = (unnumbered q.0, unnumbered q.1)

    abbrev pairs_under : List (SE × SE) → List (Expr × Expr)
    pairs_under pairs = map (λ (q : SE × SE). let made : Expr × Expr = (ve q.0, ve q.1) in made) pairs

    abbrev pairs_of : List (SE × SE) → List (Part × Part)
    pairs_of pairs = map (λ (q : Expr × Expr). let made : Part × Part = (part_of counted q.0, part_of counted q.1) in made) (pairs_under pairs)

    pairs_same : (line : ℕ) (pairs : List (SE × SE)) (n : ℕ) → map pair_shape (each (map (pair_on line) (pairs_of pairs)) n).0 ≡ map pair_shape (pairs_under pairs)
    pairs_same line [] n = refl
    pairs_same line (q ∷ pairs) n =
        let r = (p q.0).on line n in
        let t = (p q.1).on line r.1 in
        ap₂ (λ z zs. z ∷ zs) (ap₂ (λ a b. (a, b)) (he q.0 line n) (he q.1 line r.1)) (pairs_same line pairs t.1)

    abbrev operand_shape : CmpOp × Expr → CmpOp × Shape
    operand_shape q = (q.0, unnumbered q.1)

    abbrev operands_under : List (CmpOp × SE) → List (CmpOp × Expr)
    operands_under pairs = map (λ (q : CmpOp × SE). let made : CmpOp × Expr = (q.0, ve q.1) in made) pairs

    abbrev operands_of : List (CmpOp × SE) → List (CmpOp × Part)
    operands_of pairs = map (λ (q : CmpOp × Expr). let made : CmpOp × Part = (q.0, part_of counted q.1) in made) (operands_under pairs)

    operands_same : (line : ℕ) (pairs : List (CmpOp × SE)) (n : ℕ) → map operand_shape (each (map (compared_on line) (operands_of pairs)) n).0 ≡ map operand_shape (operands_under pairs)
    operands_same line [] n = refl
    operands_same line (q ∷ pairs) n = ap₂ (λ z zs. z ∷ zs) (ap (λ b. (q.0, b)) (he q.1 line n)) (operands_same line pairs ((p q.1).on line n).1)

    kind_good : (y : ExprKind-F SK SA SE) (line n : ℕ) → of_kind (parts_by (over (under y)) line n).0 ≡ shaped (under y)
    kind_good ExprKind-F.NoneLit line n = of-NoneLit
    kind_good (ExprKind-F.BoolLit b) line n = of-BoolLit b
    kind_good (ExprKind-F.IntLit i) line n = of-IntLit i
    kind_good (ExprKind-F.StrLit text) line n = of-StrLit text
    kind_good (ExprKind-F.Name name) line n = of-Name name
    kind_good (ExprKind-F.ListLit xs) line n = of-ListLit _ ∙ ap s.ListLit (list_same line xs n)
    kind_good (ExprKind-F.TupleLit xs) line n = of-TupleLit _ ∙ ap s.TupleLit (list_same line xs n)
    kind_good (ExprKind-F.And xs) line n = of-And _ ∙ ap s.And (list_same line xs n)
    kind_good (ExprKind-F.Or xs) line n = of-Or _ ∙ ap s.Or (list_same line xs n)
    kind_good (ExprKind-F.DictLit pairs) line n = of-DictLit _ ∙ ap s.DictLit (pairs_same line pairs n)
    kind_good (ExprKind-F.Attr x name) line n = of-Attr _ name ∙ ap (λ z. s.Attr z name) (he x line n)
    kind_good (ExprKind-F.Index x i) line n = of-Index _ _ ∙ ap₂ s.Index (he x line n) (he i line ((p x).on line n).1)
    kind_good (ExprKind-F.Slice x None None) line n = of-Slice _ None None ∙ ap (λ z. s.Slice z None None) (he x line n)
    kind_good (ExprKind-F.Slice x None (Some b)) line n = of-Slice _ None (Some _) ∙ ap₂ (λ z w. s.Slice z None (Some w)) (he x line n) (he b line ((p x).on line n).1)
    kind_good (ExprKind-F.Slice x (Some a) None) line n = of-Slice _ (Some _) None ∙ ap₂ (λ z w. s.Slice z (Some w) None) (he x line n) (he a line ((p x).on line n).1)
    kind_good (ExprKind-F.Slice x (Some a) (Some b)) line n =
        let r = (p x).on line n in
        let t = (p a).on line r.1 in
        of-Slice _ (Some _) (Some _) ∙ ap₂ (λ z w. s.Slice z (Some w) (Some (unnumbered ((p b).on line t.1).0))) (he x line n) (he a line r.1) ∙ ap (λ w. s.Slice (unnumbered (ve x)) (Some (unnumbered (ve a))) (Some w)) (he b line t.1)
    kind_good (ExprKind-F.Call x given) line n = of-Call _ _ ∙ ap₂ s.Call (he x line n) (ha given line ((p x).on line n).1)
    kind_good (ExprKind-F.Method x name given) line n = of-Method _ name _ ∙ ap₂ (λ z w. s.Method z name w) (he x line n) (ha given line ((p x).on line n).1)
    kind_good (ExprKind-F.Super name given) line n = of-Super name _ ∙ ap (s.Super name) (ha given line n)
    kind_good (ExprKind-F.Unary sign x) line n = of-Unary sign _ ∙ ap (s.Unary sign) (he x line n)
    kind_good (ExprKind-F.Not x) line n = of-Not _ ∙ ap s.Not (he x line n)
    kind_good (ExprKind-F.Binary op a b) line n = of-Binary op _ _ ∙ ap₂ (s.Binary op) (he a line n) (he b line ((p a).on line n).1)
    kind_good (ExprKind-F.Compare x pairs) line n = of-Compare _ _ ∙ ap₂ s.Compare (he x line n) (operands_same line pairs ((p x).on line n).1)
    kind_good (ExprKind-F.Cond a test b) line n =
        let r = (p a).on line n in
        let t = (p test).on line r.1 in
        of-Cond _ _ _ ∙ ap₂ (λ z w. s.Cond z w (unnumbered ((p b).on line t.1).0)) (he a line n) (he test line r.1) ∙ ap (s.Cond (unnumbered (ve a)) (unnumbered (ve test))) (he b line t.1)

    kind_step : (y : ExprKind-F SK SA SE) → KindSame (roll-ExprKind (under y))
    unfolding parts_of numbers_of_args part_of unnumbered
    kind_step y line n =
        ap (λ (q : OnLine ExprKind). of_kind (q line n).0) (fold-roll-ExprKind (OnLine ExprKind) (OnLine Args) Part parts_by args_by (node_by counted) (under y))
        ∙ kind_good y line n ∙ sym (fold-roll-ExprKind Shape Given Shape kind_of args_of (λ f. f.kind) (under y))

    -- ---- arguments

    abbrev named_under : List (List ℕ × SE) → List (List ℕ × Expr)
    named_under ns = map (λ (q : List ℕ × SE). let made : List ℕ × Expr = (q.0, ve q.1) in made) ns

    abbrev named_of : List (List ℕ × SE) → List Named
    named_of ns = map (λ (q : List ℕ × Expr). let made : Named = (q.0, part_of counted q.1) in made) (named_under ns)

    plain_steady : (line : ℕ) (xs : List SE) → AllSteady (map (on line) (map (part_of counted) (map ve xs))) (map unnumbered (map ve xs))
    plain_steady line [] = tt
    plain_steady line (x ∷ xs) = (he x line, plain_steady line xs)

    named_steady : (line : ℕ) (ns : List (List ℕ × SE)) → NamedSteady (values line (named_of ns)) (map shape_named (named_under ns))
    named_steady line [] = tt
    named_steady line (q ∷ ns) = (refl, he q.1 line, named_steady line ns)

    args_step : (y : Args-F SK SA SE) → ArgsSame (roll-Args (map-Args SK SA SE ExprKind Args Expr vk va ve y))
    unfolding parts_of numbers_of_args part_of
    args_step y line n =
        let xs = map (part_of counted) (map ve y.plain) in
        let ns = named_of y.named in
        let l = standing line xs ns in
        let w = sorted l (map unnumbered (map ve y.plain)) (map shape_named (named_under y.named))
        (subst (λ z. AllSteady z (map unnumbered (map ve y.plain))) (sym (plain_standing line xs ns)) (plain_steady line y.plain))
        (subst (λ z. NamedSteady z (map shape_named (named_under y.named))) (sym (named_standing line xs ns)) (named_steady line y.named)) n in
        ap (λ (q : OnLine Args). of_args (q line n).0) (fold-roll-Args (OnLine ExprKind) (OnLine Args) Part parts_by args_by (node_by counted) (map-Args SK SA SE ExprKind Args Expr vk va ve y))
        ∙ args_is (arguments l n).0.0 (arguments l n).0.1
        ∙ ap₂ (λ a b. unnamed a ++ named b) w.plain w.named
        ∙ sym (args_is (map ve y.plain) (named_under y.named))

    expr_step : (y : Expr-F SK SA SE) → PartSame (roll-Expr (map-Expr SK SA SE ExprKind Args Expr vk va ve y))
    unfolding parts_of numbers_of_args part_of
    expr_step y line n =
        let z = roll-Expr (map-Expr SK SA SE ExprKind Args Expr vk va ve y) in
        ap (λ (q : Part). unnumbered (q.on line n).0) (fold-roll-Expr (OnLine ExprKind) (OnLine Args) Part parts_by args_by (node_by counted) (map-Expr SK SA SE ExprKind Args Expr vk va ve y))
        ∙ expr_is _ ∙ hk y.kind line _ ∙ sym (expr_is z)

  pub shape_kept : (x : Expr) → PartSame x
  shape_kept = ind-Expr KindSame ArgsSame PartSame
      (λ x y is. subst (λ z. KindSame (roll-ExprKind z)) is (kind_step (λ e. e.0) (λ e. e.0) (λ e. e.0) (λ e. e.1) (λ e. e.1) (λ e. e.1) y))
      (λ x y is. subst (λ z. ArgsSame (roll-Args z)) is (args_step (λ e. e.0) (λ e. e.0) (λ e. e.0) (λ e. e.1) (λ e. e.1) (λ e. e.1) y))
      (λ x y is. subst (λ z. PartSame (roll-Expr z)) is (expr_step (λ e. e.0) (λ e. e.0) (λ e. e.0) (λ e. e.1) (λ e. e.1) (λ e. e.1) y))
