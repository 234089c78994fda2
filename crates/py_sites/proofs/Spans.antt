-- Lists of nodes whose numbers follow one another, and what is numbered by them.
use Rattle.std.proofs.Common.{◌≡◌, ◌∙◌, refl, sym, ap, ap₂, subst, ℕ, zero, suc, ◌+◌, ◌<◌, ◌≤◌, Bool, true, false, cond, nat_lt, List, Option, Some, None, [], ◌∷◌, ◌++◌, map, take, drop, append-nil, append_assoc, arith}
use Rattle.std.specs.List.{flat_map, prefix_len, range_with_len, AllByRecursion}
use Rattle.std.proofs.lemmas.List.{map-append}
use Rattle.py_syntax.specs.declared.expr.Expr.{Expr}
use Rattle.py_language.specs.TreesNumbers.{Numbered, in_order as each, arguments, given}
use Rattle.py_sites.specs.Nodes.{Node, Nodes, number, expr_nodes, in_order}

-- the nodes have the numbers from a on, up to b
pub record Spans (xs : Nodes) (a b : ℕ) : Type 0 where
  pub many : ℕ
  pub ends : a + many ≡ b
  pub numbers : map number xs ≡ range_with_len a many

range_join : (a k l : ℕ) → range_with_len a (k + l) ≡ range_with_len a k ++ range_with_len (a + k) l
range_join a zero l = let e : zero + l ≡ l = omega arith in let f : a ≡ a + zero = omega arith in ap₂ range_with_len f e
range_join a (suc k) l =
    let e : suc k + l ≡ suc (k + l) = omega arith in
    let f : (a + 1) + k ≡ a + suc k = omega arith in
    ap (range_with_len a) e ∙ ap (λ ns. a ∷ ns) (range_join (a + 1) k l ∙ ap (λ c. range_with_len (a + 1) k ++ range_with_len c l) f)

pub spans_none : (a : ℕ) → Spans [] a a
spans_none a = record { many = 0; ends = omega arith; numbers = refl }

pub spans_join : {xs ys : Nodes} {a b c : ℕ} → Spans xs a b → Spans ys b c → Spans (xs ++ ys) a c
spans_join {xs} {ys} {a} {b} {c} s t =
    let ends_s = s.ends in
    let ends_t = t.ends in
    record {
      many = s.many + t.many;
      ends = omega (arith, ends_s, ends_t);
      numbers = map-append number xs ys ∙ ap₂ (λ ms ns. ms ++ ns) s.numbers (t.numbers ∙ ap (λ d. range_with_len d t.many) (sym s.ends)) ∙ sym (range_join a s.many t.many);
    }

pub spans_one : {xs : Nodes} {a b : ℕ} → Spans xs a b → Spans (xs ++ []) a b
spans_one {xs} {a} {b} s = subst (λ ys. Spans ys a b) (sym (append-nil xs)) s

pub spans_node : (x : Node) {xs : Nodes} (a : ℕ) {b : ℕ} → number x ≡ a → Spans xs (suc a) b → Spans (x ∷ xs) a b
spans_node x {xs} a {b} e s =
    let ends_s = s.ends in
    record {
      many = suc s.many;
      ends = omega (arith, ends_s);
      numbers = ap₂ (λ n ns. n ∷ ns) e (s.numbers ∙ ap (λ d. range_with_len d s.many) (omega arith));
    }

-- ---- what is numbered, from each number on

abbrev pub Follows : {X : Type 0} → (X → Nodes) → Numbered X → Type 0
Follows f p = (n : ℕ) → Spans (f (p n).0) n (p n).1

pub each_follows : {X : Type 0} (f : X → Nodes) (ps : List (Numbered X)) → AllByRecursion (Follows f) ps → Follows (flat_map f) (each ps)
each_follows f [] a n = spans_none n
each_follows f (p ∷ ps) a n = spans_join (a.0 n) (each_follows f ps a.1 (p n).1)

-- an expression with its own number first, and at least that
pub record Good (p : Numbered Expr) : Type 0 where
  pub follows : Follows expr_nodes p
  pub first : (n : ℕ) → (p n).0.node.0 ≡ n
  pub more : (n : ℕ) → n < (p n).1

abbrev pub num : Expr → ℕ
num x = x.node.0

abbrev Given : Type 0
Given = List Expr × List (List ℕ × Expr)

abbrev From : ℕ → Expr → Type 0
From n x = n ≤ num x

abbrev FromNamed : ℕ → List ℕ × Expr → Type 0
FromNamed n m = n ≤ num m.1

looser : (m n : ℕ) (xs : List Expr) → m ≤ n → AllByRecursion (From n) xs → AllByRecursion (From m) xs
looser m n [] le a = tt
looser m n (x ∷ xs) le a = let h = a.0 in (omega (arith, h), looser m n xs le a.1)

looser_named : (m n : ℕ) (xs : List (List ℕ × Expr)) → m ≤ n → AllByRecursion (FromNamed n) xs → AllByRecursion (FromNamed m) xs
looser_named m n [] le a = tt
looser_named m n (x ∷ xs) le a = let h = a.0 in (omega (arith, h), looser_named m n xs le a.1)

is_before : (m n : ℕ) → m < n → nat_lt m n ≡ true
is_before m n lt = grind arith

is_not_before : (m n : ℕ) → n ≤ m → nat_lt m n ≡ false
is_not_before m n le = grind arith

-- an expression that comes before all that are named
plain_first : (x : Expr) (xs : List Expr) (named : List (List ℕ × Expr)) (n : ℕ) → num x < n → AllByRecursion (FromNamed n) named → in_order num (x ∷ xs) named ≡ x ∷ in_order num xs named
plain_first x xs [] n lt a = refl
plain_first x xs (m ∷ named) n lt a =
    let h = a.0 in
    let le : num x ≤ num m.1 = omega (arith, h) in
    let none : prefix_len (λ m. nat_lt (num m.1) (num x)) (m ∷ named) ≡ 0 = ap (λ b. cond b (1 + prefix_len (λ m. nat_lt (num m.1) (num x)) named) 0) (is_not_before (num m.1) (num x) le) in
    ap (λ k. map (λ n. n.1) (take k (m ∷ named)) ++ x ∷ in_order num xs (drop k (m ∷ named))) none

-- a named one that comes before all that are not
named_first : (m : List ℕ × Expr) (xs : List Expr) (named : List (List ℕ × Expr)) (n : ℕ) → num m.1 < n → AllByRecursion (From n) xs → in_order num xs (m ∷ named) ≡ m.1 ∷ in_order num xs named
named_first m [] named n lt a = refl
named_first m (x ∷ xs) named n lt a =
    let h = a.0 in
    let before : num m.1 < num x = omega (arith, h) in
    let k = prefix_len (λ m. nat_lt (num m.1) (num x)) named in
    let more : prefix_len (λ m. nat_lt (num m.1) (num x)) (m ∷ named) ≡ suc k = ap (λ b. cond b (1 + k) 0) (is_before (num m.1) (num x) before) ∙ omega arith in
    ap (λ k. map (λ n. n.1) (take k (m ∷ named)) ++ x ∷ in_order num xs (drop k (m ∷ named))) more

-- the arguments of a call, numbered as they stand: in the order of their numbers they are as they stand
pub record AsTheyStand (l : List (Option (List ℕ) × Numbered Expr)) (n : ℕ) : Type 0 where
  pub same : in_order num (arguments l n).0.0 (arguments l n).0.1 ≡ (each (map (λ p. p.1) l) n).0
  pub end : (arguments l n).1 ≡ (each (map (λ p. p.1) l) n).1
  pub plain_from : AllByRecursion (From n) (arguments l n).0.0
  pub named_from : AllByRecursion (FromNamed n) (arguments l n).0.1

pub as_they_stand : (l : List (Option (List ℕ) × Numbered Expr)) → AllByRecursion (λ p. Good p.1) l → (n : ℕ) → AsTheyStand l n
as_they_stand [] a n = record { same = refl; end = refl; plain_from = tt; named_from = tt }
as_they_stand ((None, p) ∷ l) a n =
    let first = a.0.first n in
    let more = a.0.more n in
    let m = (p n).1 in
    let x = (p n).0 in
    let r = arguments l m in
    let s = as_they_stand l a.1 m in
    let lt : num x < m = omega (arith, first, more) in
    record {
      same = plain_first x r.0.0 r.0.1 m lt s.named_from ∙ ap (λ xs. x ∷ xs) s.same;
      end = s.end;
      plain_from = (omega (arith, first), looser n m r.0.0 (omega (arith, more)) s.plain_from);
      named_from = looser_named n m r.0.1 (omega (arith, more)) s.named_from;
    }
as_they_stand ((Some name, p) ∷ l) a n =
    let first = a.0.first n in
    let more = a.0.more n in
    let m = (p n).1 in
    let x = (p n).0 in
    let r = arguments l m in
    let s = as_they_stand l a.1 m in
    let lt : num x < m = omega (arith, first, more) in
    record {
      same = named_first (name, x) r.0.0 r.0.1 m lt s.plain_from ∙ ap (λ xs. x ∷ xs) s.same;
      end = s.end;
      plain_from = looser n m r.0.0 (omega (arith, more)) s.plain_from;
      named_from = (omega (arith, first), looser_named n m r.0.1 (omega (arith, more)) s.named_from);
    }

all_follow : (l : List (Option (List ℕ) × Numbered Expr)) → AllByRecursion (λ p. Good p.1) l → AllByRecursion (Follows expr_nodes) (map (λ p. p.1) l)
all_follow [] a = tt
all_follow (p ∷ l) a = (a.0.follows, all_follow l a.1)

pub arguments_follow : (l : List (Option (List ℕ) × Numbered Expr)) → AllByRecursion (λ p. Good p.1) l → (n : ℕ) → Spans (flat_map expr_nodes (in_order num (arguments l n).0.0 (arguments l n).0.1)) n (arguments l n).1
arguments_follow l a n =
    let s = as_they_stand l a n in
    let t = each_follows expr_nodes (map (λ p. p.1) l) (all_follow l a) n in
    subst (λ b. Spans (flat_map expr_nodes (in_order num (arguments l n).0.0 (arguments l n).0.1)) n b) (sym s.end)
    (subst (λ xs. Spans (flat_map expr_nodes xs) n (each (map (λ p. p.1) l) n).1) (sym s.same) t)
