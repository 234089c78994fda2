-- The nodes of an expression that is numbered have the numbers from the first on, one after another.
use Rattle.std.proofs.Common.{◌≡◌, ◌∙◌, refl, sym, ap, ap₂, subst, ℕ, suc, ◌+◌, ◌<◌, Bool, true, List, Option, Some, None, [], ◌∷◌, ◌++◌, map, take, drop, append-nil, append_assoc, zero, arith}
use Rattle.std.specs.List.{flat_map, AllByRecursion}
use Rattle.std.specs.Option.{option_map, option_to_list}
use Rattle.std.proofs.lemmas.List.{map-append}
use Rattle.pyn_base.specs.declared.ids.NodeId.{NodeId}
use Rattle.py_syntax.specs.declared.expr.Args.{Args, Args-F, out-Args, roll-Args, ind-Args, fold-roll-Args, out-roll-Args, map-Args}
use Rattle.py_syntax.specs.declared.expr.Expr.{Expr, Expr-F, ind-Expr, fold-roll-Expr, roll-Expr, map-Expr}
use Rattle.py_syntax.specs.declared.expr.ExprKind.{ExprKind, ExprKind-F, out-ExprKind, roll-ExprKind, fold-roll-ExprKind, map-ExprKind}
use Rattle.py_syntax.specs.declared.expr.ExprKind.TheVariants as e
use Rattle.py_syntax.specs.declared.expr.ExprKind.TheVariants.{outs-NoneLit, outs-BoolLit, outs-IntLit, outs-StrLit, outs-Name, outs-ListLit, outs-TupleLit, outs-DictLit, outs-Attr, outs-Index, outs-Slice, outs-Call, outs-Method, outs-Super, outs-Unary, outs-Not, outs-Binary, outs-And, outs-Or, outs-Compare, outs-Cond}
use Rattle.py_syntax.specs.declared.operator.CmpOp.{CmpOp}
use Rattle.py_language.specs.TreesNumbers.{Numbered, in_order as each, arguments, args}
use Rattle.py_nodes.specs.Expressions.{OnLine, Part, Named, before, with_name, standing, on, maybe, parts_by, args_by, node_by, part_of, parts_of, args_of as numbers_of_args, expr_on, pair_on, compared_on}
use Rattle.py_sites.specs.Nodes.{Node, Nodes, number, expr_nodes, expr_parts, args_of, in_order, expression}
use Rattle.py_sites.proofs.Levels.{expr_level}
use Rattle.py_sites.proofs.Spans.{Spans, spans_none, spans_join, spans_one, spans_node, Follows, each_follows, Good, num, arguments_follow}

-- the nodes of the parts of an expression, of arguments, of some expressions
abbrev pub kind_list : ExprKind → Nodes
kind_list k = flat_map expr_nodes (expr_parts args_of (out-ExprKind k))

abbrev pub args_list : Args → Nodes
args_list given = flat_map expr_nodes (args_of given)

abbrev pub GoodKind : OnLine ExprKind → Type 0
GoodKind p = (line : ℕ) → Follows kind_list (p line)

abbrev pub GoodArgs : OnLine Args → Type 0
GoodArgs p = (line : ℕ) → Follows args_list (p line)

abbrev pub GoodPart : Part → Type 0
GoodPart p = (line : ℕ) → Good (p.on line)

-- the kind of node tells its parts
is_kind : (k : ExprKind) (f : ExprKind-F ExprKind Args Expr) {n m : ℕ} → out-ExprKind k ≡ f → Spans (flat_map expr_nodes (expr_parts args_of f)) n m → Spans (kind_list k) n m
is_kind k f {n} {m} is s = subst (λ g. Spans (flat_map expr_nodes (expr_parts args_of g)) n m) (sym is) s

-- ---- lists of parts

all_on : (line : ℕ) (ps : List Part) → AllByRecursion GoodPart ps → AllByRecursion (Follows expr_nodes) (map (on line) ps)
all_on line [] a = tt
all_on line (p ∷ ps) a = ((a.0 line).follows, all_on line ps a.1)

parts_follow : (line : ℕ) (ps : List Part) → AllByRecursion GoodPart ps → Follows (flat_map expr_nodes) (each (map (on line) ps))
parts_follow line ps a = each_follows expr_nodes (map (on line) ps) (all_on line ps a)

abbrev pair_list : Expr × Expr → Nodes
pair_list p = expr_nodes p.0 ++ expr_nodes p.1

abbrev GoodPair : Part × Part → Type 0
GoodPair p = GoodPart p.0 × GoodPart p.1

all_pairs : (line : ℕ) (ps : List (Part × Part)) → AllByRecursion GoodPair ps → AllByRecursion (Follows pair_list) (map (pair_on line) ps)
all_pairs line [] a = tt
all_pairs line (p ∷ ps) a = (λ n. spans_join ((a.0.0 line).follows n) ((a.0.1 line).follows (p.0.on line n).1), all_pairs line ps a.1)

pairs_are : (pairs : List (Expr × Expr)) → flat_map pair_list pairs ≡ flat_map expr_nodes (flat_map (λ p. p.0 ∷ p.1 ∷ []) pairs)
pairs_are [] = refl
pairs_are (p ∷ pairs) = append_assoc (expr_nodes p.0) (expr_nodes p.1) (flat_map pair_list pairs) ∙ ap (λ ys. expr_nodes p.0 ++ (expr_nodes p.1 ++ ys)) (pairs_are pairs)

abbrev operand_list : CmpOp × Expr → Nodes
operand_list p = expr_nodes p.1

abbrev GoodOperand : CmpOp × Part → Type 0
GoodOperand p = GoodPart p.1

all_operands : (line : ℕ) (ps : List (CmpOp × Part)) → AllByRecursion GoodOperand ps → AllByRecursion (Follows operand_list) (map (compared_on line) ps)
all_operands line [] a = tt
all_operands line (p ∷ ps) a = ((a.0 line).follows, all_operands line ps a.1)

operands_are : (pairs : List (CmpOp × Expr)) → flat_map operand_list pairs ≡ flat_map expr_nodes (map (λ p. p.1) pairs)
operands_are [] = refl
operands_are (p ∷ pairs) = ap (λ ys. expr_nodes p.1 ++ ys) (operands_are pairs)

-- ---- arguments

abbrev GoodNamed : Named → Type 0
GoodNamed n = GoodPart n.1

module _ {X : Type 0} (P : X → Type 0) where
  all_take : (k : ℕ) (xs : List X) → AllByRecursion P xs → AllByRecursion P (take k xs)
  all_take zero xs a = tt
  all_take (suc k) [] a = tt
  all_take (suc k) (x ∷ xs) a = (a.0, all_take k xs a.1)

  all_drop : (k : ℕ) (xs : List X) → AllByRecursion P xs → AllByRecursion P (drop k xs)
  all_drop zero xs a = a
  all_drop (suc k) [] a = tt
  all_drop (suc k) (x ∷ xs) a = all_drop k xs a.1

  all_join : (xs ys : List X) → AllByRecursion P xs → AllByRecursion P ys → AllByRecursion P (xs ++ ys)
  all_join [] ys a b = b
  all_join (x ∷ xs) ys a b = (a.0, all_join xs ys a.1 b)

abbrev GoodArgument : Option (List ℕ) × Numbered Expr → Type 0
GoodArgument p = Good p.1

named_good : (line : ℕ) (ns : List Named) → AllByRecursion GoodNamed ns → AllByRecursion GoodArgument (map (with_name line) ns)
named_good line [] a = tt
named_good line (n ∷ ns) a = (a.0 line, named_good line ns a.1)

standing_good : (line : ℕ) (xs : List Part) (ns : List Named) → AllByRecursion GoodPart xs → AllByRecursion GoodNamed ns → AllByRecursion GoodArgument (standing line xs ns)
standing_good line [] ns a b = named_good line ns b
standing_good line (x ∷ xs) ns a b =
    let k = before x ns in
    all_join GoodArgument (map (with_name line) (take k ns)) ((None, x.on line) ∷ standing line xs (drop k ns))
    (named_good line (take k ns) (all_take GoodNamed k ns b))
    (a.0 line, standing_good line xs (drop k ns) a.1 (all_drop GoodNamed k ns b))

args_good : (given : Args-F (OnLine ExprKind) (OnLine Args) Part) → AllByRecursion GoodPart given.plain → AllByRecursion GoodNamed given.named → GoodArgs (args_by given)
args_good given a b line n =
    let l = standing line given.plain given.named in
    let r = arguments l n in
    subst (λ o. Spans (flat_map expr_nodes (in_order num o.plain o.named)) n r.1) (sym (out-roll-Args (record { plain = r.0.0; named = r.0.1 })))
    (arguments_follow l (standing_good line given.plain given.named a b) n)

-- ---- a node from its parts

maybe_follows : (line : ℕ) (p : Option Part) → ((q : Part) → p ≡ Some q → GoodPart q) → Follows (λ x. flat_map expr_nodes (option_to_list x)) (maybe (option_map (on line) p))
maybe_follows line None h n = spans_none n
maybe_follows line (Some p) h n = spans_one ((h p refl line).follows n)

two_follow : (line : ℕ) (a b : Part) → GoodPart a → GoodPart b → (n : ℕ) → Spans (expr_nodes (a.on line n).0 ++ (expr_nodes (b.on line (a.on line n).1).0 ++ [])) n (b.on line (a.on line n).1).1
two_follow line a b ga gb n = spans_join ((ga line).follows n) (spans_one ((gb line).follows (a.on line n).1))

three_follow : (line : ℕ) (a b c : Part) → GoodPart a → GoodPart b → GoodPart c → (n : ℕ)
    → (let p = a.on line n in let q = b.on line p.1 in let r = c.on line q.1 in Spans (expr_nodes p.0 ++ (expr_nodes q.0 ++ (expr_nodes r.0 ++ []))) n r.1)
three_follow line a b c ga gb gc n =
    let p = a.on line n in
    let q = b.on line p.1 in
    spans_join ((ga line).follows n) (spans_join ((gb line).follows p.1) (spans_one ((gc line).follows q.1)))

node_good : (k : OnLine ExprKind) (had : NodeId) (where_is : ℕ) → GoodKind k → GoodPart (node_by true (record { node = had; line = where_is; kind = k }))
node_good k had where_is good line = record {
  follows = λ n. let r = k line (suc n) in
      let made : Expr = record { node = record { 0 = n }; line = line; kind = r.0 } in
      subst (λ xs. Spans xs n r.1) (sym (expr_level made)) (spans_node (expression made) n refl (good line (suc n)));
  first = λ n. refl;
  more = λ n. let ends = (good line (suc n)).ends in omega (arith, ends);
}

module _ {SK SA SE : Type 0} (vk : SK → ExprKind) (va : SA → Args) (ve : SE → Expr) (hk : (s : SK) → GoodKind (parts_of true (vk s))) (ha : (s : SA) → GoodArgs (numbers_of_args true (va s))) (he : (s : SE) → GoodPart (part_of true (ve s))) where
  abbrev pub under : ExprKind-F SK SA SE → ExprKind-F ExprKind Args Expr
  under = map-ExprKind SK SA SE ExprKind Args Expr vk va ve

  abbrev over : ExprKind-F ExprKind Args Expr → ExprKind-F (OnLine ExprKind) (OnLine Args) Part
  over = map-ExprKind ExprKind Args Expr (OnLine ExprKind) (OnLine Args) Part (parts_of true) (numbers_of_args true) (part_of true)

  all_parts : (xs : List SE) → AllByRecursion GoodPart (map (part_of true) (map ve xs))
  all_parts [] = tt
  all_parts (x ∷ xs) = (he x, all_parts xs)

  abbrev pairs_of : List (SE × SE) → List (Part × Part)
  pairs_of pairs = map (λ (p : Expr × Expr). let q : Part × Part = (part_of true p.0, part_of true p.1) in q) (map (λ (p : SE × SE). let q : Expr × Expr = (ve p.0, ve p.1) in q) pairs)

  all_pairs_good : (pairs : List (SE × SE)) → AllByRecursion GoodPair (pairs_of pairs)
  all_pairs_good [] = tt
  all_pairs_good (p ∷ pairs) = ((he p.0, he p.1), all_pairs_good pairs)

  abbrev operands_of : List (CmpOp × SE) → List (CmpOp × Part)
  operands_of pairs = map (λ (p : CmpOp × Expr). let q : CmpOp × Part = (p.0, part_of true p.1) in q) (map (λ (p : CmpOp × SE). let q : CmpOp × Expr = (p.0, ve p.1) in q) pairs)

  all_operands_good : (pairs : List (CmpOp × SE)) → AllByRecursion GoodOperand (operands_of pairs)
  all_operands_good [] = tt
  all_operands_good (p ∷ pairs) = (he p.1, all_operands_good pairs)

  abbrev named_of : List (List ℕ × SE) → List Named
  named_of ns = map (λ (n : List ℕ × Expr). let made : Named = (n.0, part_of true n.1) in made) (map (λ (n : List ℕ × SE). let made : List ℕ × Expr = (n.0, ve n.1) in made) ns)

  all_named_good : (ns : List (List ℕ × SE)) → AllByRecursion GoodNamed (named_of ns)
  all_named_good [] = tt
  all_named_good (n ∷ ns) = (he n.1, all_named_good ns)

  abbrev p : SE → Part
  p x = part_of true (ve x)

  list_follows : (line : ℕ) (xs : List SE) (n : ℕ) → (let r = each (map (on line) (map (part_of true) (map ve xs))) n in Spans (flat_map expr_nodes r.0) n r.1)
  list_follows line xs n = parts_follow line (map (part_of true) (map ve xs)) (all_parts xs) n

  dict_follows : (line : ℕ) (pairs : List (SE × SE)) (n : ℕ) → (let r = each (map (pair_on line) (pairs_of pairs)) n in Spans (flat_map expr_nodes (flat_map (λ p. p.0 ∷ p.1 ∷ []) r.0)) n r.1)
  dict_follows line pairs n =
      let r = each (map (pair_on line) (pairs_of pairs)) n in
      subst (λ xs. Spans xs n r.1) (pairs_are r.0) (each_follows pair_list (map (pair_on line) (pairs_of pairs)) (all_pairs line (pairs_of pairs) (all_pairs_good pairs)) n)

  others_follow : (line : ℕ) (pairs : List (CmpOp × SE)) (n : ℕ) → (let r = each (map (compared_on line) (operands_of pairs)) n in Spans (flat_map expr_nodes (map (λ p. p.1) r.0)) n r.1)
  others_follow line pairs n =
      let r = each (map (compared_on line) (operands_of pairs)) n in
      subst (λ xs. Spans xs n r.1) (operands_are r.0) (each_follows operand_list (map (compared_on line) (operands_of pairs)) (all_operands line (operands_of pairs) (all_operands_good pairs)) n)

  kind_good : (y : ExprKind-F SK SA SE) → GoodKind (parts_by (over (under y)))
  kind_good ExprKind-F.NoneLit line n = is_kind e.NoneLit ExprKind-F.NoneLit outs-NoneLit (spans_none n)
  kind_good (ExprKind-F.BoolLit b) line n = is_kind (e.BoolLit b) (ExprKind-F.BoolLit b) (outs-BoolLit b) (spans_none n)
  kind_good (ExprKind-F.IntLit i) line n = is_kind (e.IntLit i) (ExprKind-F.IntLit i) (outs-IntLit i) (spans_none n)
  kind_good (ExprKind-F.StrLit text) line n = is_kind (e.StrLit text) (ExprKind-F.StrLit text) (outs-StrLit text) (spans_none n)
  kind_good (ExprKind-F.Name name) line n = is_kind (e.Name name) (ExprKind-F.Name name) (outs-Name name) (spans_none n)
  kind_good (ExprKind-F.ListLit xs) line n =
      let r = each (map (on line) (map (part_of true) (map ve xs))) n in
      is_kind (e.ListLit r.0) (ExprKind-F.ListLit r.0) (outs-ListLit r.0) (list_follows line xs n)
  kind_good (ExprKind-F.TupleLit xs) line n =
      let r = each (map (on line) (map (part_of true) (map ve xs))) n in
      is_kind (e.TupleLit r.0) (ExprKind-F.TupleLit r.0) (outs-TupleLit r.0) (list_follows line xs n)
  kind_good (ExprKind-F.And xs) line n =
      let r = each (map (on line) (map (part_of true) (map ve xs))) n in
      is_kind (e.And r.0) (ExprKind-F.And r.0) (outs-And r.0) (list_follows line xs n)
  kind_good (ExprKind-F.Or xs) line n =
      let r = each (map (on line) (map (part_of true) (map ve xs))) n in
      is_kind (e.Or r.0) (ExprKind-F.Or r.0) (outs-Or r.0) (list_follows line xs n)
  kind_good (ExprKind-F.DictLit pairs) line n =
      let r = each (map (pair_on line) (pairs_of pairs)) n in
      is_kind (e.DictLit r.0) (ExprKind-F.DictLit r.0) (outs-DictLit r.0) (dict_follows line pairs n)
  kind_good (ExprKind-F.Attr x name) line n =
      let r = (p x).on line n in
      is_kind (e.Attr r.0 name) (ExprKind-F.Attr r.0 name) (outs-Attr r.0 name) (spans_one ((he x line).follows n))
  kind_good (ExprKind-F.Index x i) line n =
      let r = (p x).on line n in
      let t = (p i).on line r.1 in
      is_kind (e.Index r.0 t.0) (ExprKind-F.Index r.0 t.0) (outs-Index r.0 t.0) (two_follow line (p x) (p i) (he x) (he i) n)
  kind_good (ExprKind-F.Slice x None None) line n =
      let r = (p x).on line n in
      is_kind (e.Slice r.0 None None) (ExprKind-F.Slice r.0 None None) (outs-Slice r.0 None None) (spans_one ((he x line).follows n))
  kind_good (ExprKind-F.Slice x None (Some b)) line n =
      let r = (p x).on line n in
      let t = (p b).on line r.1 in
      is_kind (e.Slice r.0 None (Some t.0)) (ExprKind-F.Slice r.0 None (Some t.0)) (outs-Slice r.0 None (Some t.0)) (two_follow line (p x) (p b) (he x) (he b) n)
  kind_good (ExprKind-F.Slice x (Some a) None) line n =
      let r = (p x).on line n in
      let t = (p a).on line r.1 in
      is_kind (e.Slice r.0 (Some t.0) None) (ExprKind-F.Slice r.0 (Some t.0) None) (outs-Slice r.0 (Some t.0) None) (two_follow line (p x) (p a) (he x) (he a) n)
  kind_good (ExprKind-F.Slice x (Some a) (Some b)) line n =
      let r = (p x).on line n in
      let t = (p a).on line r.1 in
      let u = (p b).on line t.1 in
      is_kind (e.Slice r.0 (Some t.0) (Some u.0)) (ExprKind-F.Slice r.0 (Some t.0) (Some u.0)) (outs-Slice r.0 (Some t.0) (Some u.0)) (three_follow line (p x) (p a) (p b) (he x) (he a) (he b) n)
  kind_good (ExprKind-F.Call x given) line n =
      let r = (p x).on line n in
      let t = numbers_of_args true (va given) line r.1 in
      is_kind (e.Call r.0 t.0) (ExprKind-F.Call r.0 t.0) (outs-Call r.0 t.0) (spans_join ((he x line).follows n) (ha given line r.1))
  kind_good (ExprKind-F.Method x name given) line n =
      let r = (p x).on line n in
      let t = numbers_of_args true (va given) line r.1 in
      is_kind (e.Method r.0 name t.0) (ExprKind-F.Method r.0 name t.0) (outs-Method r.0 name t.0) (spans_join ((he x line).follows n) (ha given line r.1))
  kind_good (ExprKind-F.Super name given) line n =
      let t = numbers_of_args true (va given) line n in
      is_kind (e.Super name t.0) (ExprKind-F.Super name t.0) (outs-Super name t.0) (ha given line n)
  kind_good (ExprKind-F.Unary sign x) line n =
      let r = (p x).on line n in
      is_kind (e.Unary sign r.0) (ExprKind-F.Unary sign r.0) (outs-Unary sign r.0) (spans_one ((he x line).follows n))
  kind_good (ExprKind-F.Not x) line n =
      let r = (p x).on line n in
      is_kind (e.Not r.0) (ExprKind-F.Not r.0) (outs-Not r.0) (spans_one ((he x line).follows n))
  kind_good (ExprKind-F.Binary op a b) line n =
      let r = (p a).on line n in
      let t = (p b).on line r.1 in
      is_kind (e.Binary op r.0 t.0) (ExprKind-F.Binary op r.0 t.0) (outs-Binary op r.0 t.0) (two_follow line (p a) (p b) (he a) (he b) n)
  kind_good (ExprKind-F.Compare x pairs) line n =
      let r = (p x).on line n in
      let t = each (map (compared_on line) (operands_of pairs)) r.1 in
      is_kind (e.Compare r.0 t.0) (ExprKind-F.Compare r.0 t.0) (outs-Compare r.0 t.0) (spans_join ((he x line).follows n) (others_follow line pairs r.1))
  kind_good (ExprKind-F.Cond a test b) line n =
      let r = (p a).on line n in
      let t = (p test).on line r.1 in
      let u = (p b).on line t.1 in
      is_kind (e.Cond r.0 t.0 u.0) (ExprKind-F.Cond r.0 t.0 u.0) (outs-Cond r.0 t.0 u.0) (three_follow line (p a) (p test) (p b) (he a) (he test) (he b) n)

  pub kind_step : (y : ExprKind-F SK SA SE) → GoodKind (parts_of true (roll-ExprKind (under y)))
  unfolding parts_of numbers_of_args part_of
  kind_step y = subst GoodKind (sym (fold-roll-ExprKind (OnLine ExprKind) (OnLine Args) Part parts_by args_by (node_by true) (under y))) (kind_good y)

  pub args_step : (y : Args-F SK SA SE) → GoodArgs (numbers_of_args true (roll-Args (map-Args SK SA SE ExprKind Args Expr vk va ve y)))
  unfolding numbers_of_args parts_of part_of
  args_step y =
      subst GoodArgs (sym (fold-roll-Args (OnLine ExprKind) (OnLine Args) Part parts_by args_by (node_by true) (map-Args SK SA SE ExprKind Args Expr vk va ve y)))
      (args_good (record { plain = map (part_of true) (map ve y.plain); named = named_of y.named }) (all_parts y.plain) (all_named_good y.named))

  pub expr_step : (y : Expr-F SK SA SE) → GoodPart (part_of true (roll-Expr (map-Expr SK SA SE ExprKind Args Expr vk va ve y)))
  unfolding numbers_of_args parts_of part_of
  expr_step y =
      subst GoodPart (sym (fold-roll-Expr (OnLine ExprKind) (OnLine Args) Part parts_by args_by (node_by true) (map-Expr SK SA SE ExprKind Args Expr vk va ve y)))
      (node_good (parts_of true (vk y.kind)) y.node y.line (hk y.kind))
