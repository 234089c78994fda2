-- Parts that are numbered one after another: those that are done, and those that are left.
use Rattle.std.proofs.Common.{◌≡◌, ◌∙◌, refl, sym, ap, ℕ, suc, ◌+◌, ◌<◌, ◌≤◌, List, Option, Some, None, [], ◌∷◌, ◌++◌, map, length, drop, get_or, append_assoc, append-nil, add-one}
use Rattle.std.proofs.Math.Seq.{drop-cons}
use Rattle.std.proofs.lemmas.List.{drop_all}
use Rattle.py_syntax.specs.declared.expr.Expr.{Expr}
use Rattle.py_syntax.specs.declared.expr.ExprKind.TheVariants as e
use Rattle.py_language.specs.declared.shape.Shape.{Shape}
use Rattle.py_language.specs.declared.shape.Shape.TheVariants as s
use Rattle.py_language.specs.TreesNumbers.{Numbered, Given, node, numbered, in_order, entries, compared, arguments, given, args, bound}
use Rattle.std.specs.Option.{option_map}
use Rattle.py_syntax.specs.declared.operator.CmpOp.{CmpOp}
use Rattle.py_syntax.specs.declared.expr.Args.{Args, roll-Args}
use Rattle.py_expr.specs.Numbers.{pair_numbered, comparison_numbered, argument_numbered, one_more, series_kind, series_shape}
use Rattle.py_expr.specs.declared.number.Series.{Series}
use Rattle.py_expr.specs.declared.number.Series.TheVariants as series
use Rattle.py_syntax.specs.declared.expr.ExprKind.{ExprKind}
use Rattle.py_language.proofs.TreesNumbering.{numbered-And, numbered-Or, numbered-ListLit, numbered-TupleLit, numbered-DictLit, numbered-Compare, numbered-Slice}

-- these before what is left
abbrev pub prepend : {X : Type 0} → List X → List X × ℕ → List X × ℕ
prepend done r = (done ++ r.0, r.1)

all_done : {X : Type 0} (done : List X) (n : ℕ) → prepend done ([], n) ≡ (done, n)
all_done done n = ap (λ xs. (xs, n)) (append-nil done)

pub rest_of : {X : Type 0} (xs : List X) (i : ℕ) (x : X) → i < length xs → x ≡ get_or xs i x → drop i xs ≡ x ∷ drop (i + 1) xs
rest_of xs i x lt is = rw (drop-cons xs i x lt, ← is, add-one) refl

-- lists whose parts are numbered one after another
module _ {X Y : Type 0} (all : List X → Numbered (List Y)) (item : X → Numbered Y) (one : (x : X) (xs : List X) (n : ℕ) → all (x ∷ xs) n ≡ (let r = item x n in let more = all xs r.1 in (r.0 ∷ more.0, more.1))) where
  -- one more of them
  pub part_done : (xs : List X) (i : ℕ) (x : X) (done done' : List Y) (n n' : ℕ) (y : Y) (whole : List Y × ℕ) → i < length xs → x ≡ get_or xs i x
      → whole ≡ prepend done (all (drop i xs) n) → (y, n') ≡ item x n → done' ≡ done ++ y ∷ []
      → whole ≡ prepend done' (all (drop (i + 1) xs) n')
  part_done xs i x done done' n n' y whole lt is before e d =
      let rest = drop (i + 1) xs in
      before ∙ ap (λ zs. prepend done (all zs n)) (rest_of xs i x lt is) ∙ ap (prepend done) (one x rest n)
      ∙ ap (λ r. let more = all rest r.1 in (done ++ (r.0 ∷ more.0), more.1)) (sym e)
      ∙ ap (λ zs. (zs, (all rest n').1)) (sym (append_assoc done (y ∷ []) (all rest n').0))
      ∙ ap (λ zs. prepend zs (all rest n')) (sym d)

  -- all of them
  pub parts_done : ((n : ℕ) → all [] n ≡ ([], n)) → (xs : List X) (i : ℕ) (done : List Y) (n : ℕ) (whole : List Y × ℕ) → length xs ≤ i → whole ≡ prepend done (all (drop i xs) n) → (done, n) ≡ whole
  parts_done none xs i done n whole le before =
      sym (before ∙ ap (λ zs. prepend done (all zs n)) (drop_all i xs le) ∙ ap (prepend done) (none n) ∙ all_done done n)

-- ---- a node, from the numbers of its parts

pub node_is : {X : Type 0} (make : X → ExprKind) (p : Numbered X) (k next : ℕ) (x : X) (end : ℕ) (made : Expr) (whole : Expr × ℕ) → whole ≡ node (λ n. (make (p n).0, (p n).1)) k → next ≡ suc k → (x, end) ≡ p next
    → made ≡ record { node = record { 0 = k }; line = 1; kind = make x } → (made, end) ≡ whole
node_is make p k next x end made whole w n r m =
    ap (λ e. (e, end)) m
    ∙ ap (λ q. (record { node = record { 0 = k }; line = 1; kind = make q.0 }, q.1)) (r ∙ ap p n)
    ∙ sym w

-- a node whose parts are a list of shapes
pub series_is : (r : Series) (xs : List Shape) (k : ℕ) → numbered (series_shape r xs) k ≡ node (λ n. (series_kind r (in_order (map numbered xs) n).0, (in_order (map numbered xs) n).1)) k
series_is series.And xs k = numbered-And xs k
series_is series.Or xs k = numbered-Or xs k
series_is series.List xs k = numbered-ListLit xs k
series_is series.Tuple xs k = numbered-TupleLit xs k

pub dict_is : (shape : Shape) (xs : List (Shape × Shape)) (k : ℕ) → shape ≡ s.DictLit xs → numbered shape k ≡ node (λ n. (e.DictLit (entries (map pair_numbered xs) n).0, (entries (map pair_numbered xs) n).1)) k
dict_is shape xs k is = ap (λ x. numbered x k) is ∙ numbered-DictLit xs k

-- one after another
abbrev pub both : {X Y : Type 0} → Numbered X → Numbered Y → Numbered (X × Y)
both p q = λ n. let r = p n in let t = q r.1 in ((r.0, t.0), t.1)

pub then_is : {X Y : Type 0} (p : Numbered X) (q : Numbered Y) (n m end : ℕ) (x : X) (y : Y) → (x, m) ≡ p n → (y, end) ≡ q m → ((x, y), end) ≡ both p q n
then_is p q n m end x y ex ey = ap (λ t. ((x, t.0), t.1)) ey ∙ ap (λ r. let t = q r.1 in ((r.0, t.0), t.1)) ex

pub compare_is : (shape x : Shape) (ps : List (CmpOp × Shape)) (k : ℕ) → shape ≡ s.Compare x ps
    → numbered shape k ≡ node (λ n. let r = both (numbered x) (compared (map comparison_numbered ps)) n in (e.Compare r.0.0 r.0.1, r.1)) k
compare_is shape x ps k is = ap (λ y. numbered y k) is ∙ numbered-Compare x ps k

pub slice_is : (shape x : Shape) (a b : Option Shape) (k : ℕ) → shape ≡ s.Slice x a b
    → numbered shape k ≡ node (λ n. let r = both (both (numbered x) (bound (option_map numbered a))) (bound (option_map numbered b)) n in (e.Slice r.0.0.0 r.0.0.1 r.0.1, r.1)) k
slice_is shape x None None k is = ap (λ y. numbered y k) is ∙ numbered-Slice x None None k
slice_is shape x None (Some b) k is = ap (λ y. numbered y k) is ∙ numbered-Slice x None (Some b) k
slice_is shape x (Some a) None k is = ap (λ y. numbered y k) is ∙ numbered-Slice x (Some a) None k
slice_is shape x (Some a) (Some b) k is = ap (λ y. numbered y k) is ∙ numbered-Slice x (Some a) (Some b) k

-- a key and a value, or a comparison and its operand
abbrev pub pair_item : Shape × Shape → Numbered (Expr × Expr)
pair_item p = both (numbered p.0) (numbered p.1)

abbrev pub comparison_item : CmpOp × Shape → Numbered (CmpOp × Expr)
comparison_item p n = let r = numbered p.1 n in ((p.0, r.0), r.1)

pub pair_is : (p : Shape × Shape) (n m end : ℕ) (key value : Expr) → (key, m) ≡ numbered p.0 n → (value, end) ≡ numbered p.1 m → ((key, value), end) ≡ pair_item p n
pair_is p n m end key value ek ev = then_is (numbered p.0) (numbered p.1) n m end key value ek ev

pub comparison_is : (p : CmpOp × Shape) (n n' : ℕ) (y : Expr) → (y, n') ≡ numbered p.1 n → ((p.0, y), n') ≡ comparison_item p n
comparison_is p n n' y e = ap (λ r. ((p.0, r.0), r.1)) e

-- the arguments that are done, and then those that are left
abbrev pub prepend_args : Given → Given × ℕ → Given × ℕ
prepend_args done r = ((done.0 ++ r.0.0, done.1 ++ r.0.1), r.1)

argument_first : (done : Given) (name : Option (List ℕ)) (x : Expr) (r : Given × ℕ) → prepend_args done (given name x r.0, r.1) ≡ prepend_args (one_more done name x) r
argument_first done None x r = ap (λ xs. ((xs, done.1 ++ r.0.1), r.1)) (sym (append_assoc done.0 (x ∷ []) r.0.0))
argument_first done (Some n) x r = ap (λ xs. ((done.0 ++ r.0.0, xs), r.1)) (sym (append_assoc done.1 ((n, x) ∷ []) r.0.1))

pub argument_done : (all : List (Option (List ℕ) × Shape)) (i : ℕ) (p : Option (List ℕ) × Shape) (done done' : Given) (n n' : ℕ) (y : Expr) (whole : Given × ℕ) → i < length all → p ≡ get_or all i p
    → whole ≡ prepend_args done (arguments (map argument_numbered (drop i all)) n) → (y, n') ≡ numbered p.1 n → done' ≡ one_more done p.0 y
    → whole ≡ prepend_args done' (arguments (map argument_numbered (drop (i + 1) all)) n')
argument_done all i p done done' n n' y whole lt is before e d =
    let left : Numbered Given = arguments (map argument_numbered (drop (i + 1) all)) in
    before ∙ ap (λ xs. prepend_args done (arguments (map argument_numbered xs) n)) (rest_of all i p lt is)
    ∙ ap (λ r. let more = left r.1 in prepend_args done (given p.0 r.0 more.0, more.1)) (sym e)
    ∙ argument_first done p.0 y (left n')
    ∙ ap (λ g. prepend_args g (left n')) (sym d)

no_more : (done : Given) (n : ℕ) → prepend_args done (([], []), n) ≡ (done, n)
no_more done n =
    ap (λ (xs : List Expr). let r : Given × ℕ = ((xs, done.1 ++ []), n) in r) (append-nil done.0)
    ∙ ap (λ (xs : List (List ℕ × Expr)). let r : Given × ℕ = ((done.0, xs), n) in r) (append-nil done.1)

pub arguments_done : (all : List (Option (List ℕ) × Shape)) (i : ℕ) (done : Given) (n : ℕ) (whole : Given × ℕ) → length all ≤ i
    → whole ≡ prepend_args done (arguments (map argument_numbered (drop i all)) n) → ◌≡◌ {A = Args × ℕ} (roll-Args (record { plain = done.0; named = done.1 }), n) (args whole.0, whole.1)
arguments_done all i done n whole le before =
    let as_args : Given × ℕ → Args × ℕ = λ r. (args r.0, r.1) in
    sym (ap as_args (before ∙ ap (λ xs. prepend_args done (arguments (map argument_numbered xs) n)) (drop_all i all le) ∙ no_more done n))
