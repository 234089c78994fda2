-- The arguments of a call in the order in which they were written: those that are done, and those that are left.
use Rattle.std.proofs.Common.{◌≡◌, ◌∙◌, refl, sym, ap, ap₂, ℕ, ◌+◌, ◌<◌, ◌≤◌, Bool, nat_lt, zero, suc, List, Option, Some, None, [], ◌∷◌, ◌++◌, map, take, drop, length, get_or, append_assoc, append-nil}
use Rattle.std.specs.List.{prefix_len}
use Rattle.std.proofs.lemmas.List.{drop_all}
use Rattle.py_syntax.specs.declared.expr.Args.{Args, roll-Args}
use Rattle.py_syntax.specs.declared.expr.Expr.{Expr}
use Rattle.py_language.specs.TreesNumbers.{Numbered, Given, arguments, args, given, in_order}
use Rattle.py_nodes.specs.Expressions.{Named, Part, before, with_name, standing, part_of, expr_on}
use Rattle.py_nodes.specs.Code.{named_of, added, precedes}
use Rattle.py_nodes.proofs.Levels.{part-out}
use Rattle.py_nodes.proofs.Steps.{rest_of}

abbrev pub named_part : Bool → List ℕ × Expr → Named
named_part counted n = (n.0, part_of counted n.1)

-- the arguments that are left, numbered
abbrev pub standing_of : Bool → ℕ → List Expr → List (List ℕ × Expr) → Numbered Given
standing_of counted line xs named = arguments (standing line (map (part_of counted) xs) (map (named_part counted) named))

abbrev pub prepend_args : Given → Given × ℕ → Given × ℕ
prepend_args done r = ((done.0 ++ r.0.0, done.1 ++ r.0.1), r.1)

-- ---- what is cut off in front is cut off of what it was made from

prefix_map_by : {X Y : Type 0} (p : Y → Bool) (q : X → Bool) (f : X → Y) → ((x : X) → p (f x) ≡ q x) → (xs : List X) → prefix_len p (map f xs) ≡ prefix_len q xs
prefix_map_by p q f same [] = refl
prefix_map_by p q f same (x ∷ xs) = prefix_map_at p q f same x xs (prefix_map_by p q f same xs)
  where
    prefix_map_at : {X Y : Type 0} (p : Y → Bool) (q : X → Bool) (f : X → Y) → ((x : X) → p (f x) ≡ q x) → (x : X) (xs : List X) → prefix_len p (map f xs) ≡ prefix_len q xs → prefix_len p (map f (x ∷ xs)) ≡ prefix_len q (x ∷ xs)
    prefix_map_at p q f same x xs e = rw (same x, e) refl

take_map : {X Y : Type 0} (f : X → Y) (n : ℕ) (xs : List X) → take n (map f xs) ≡ map f (take n xs)
take_map f zero xs = refl
take_map f (suc n) [] = refl
take_map f (suc n) (x ∷ xs) = ap (λ ys. f x ∷ ys) (take_map f n xs)

drop_map : {X Y : Type 0} (f : X → Y) (n : ℕ) (xs : List X) → drop n (map f xs) ≡ map f (drop n xs)
drop_map f zero xs = refl
drop_map f (suc n) [] = refl
drop_map f (suc n) (x ∷ xs) = drop_map f n xs

had_is : (counted : Bool) (x : Expr) → (part_of counted x).had ≡ x.node.0
had_is counted x = ap (λ (p : Part). p.had) (part-out counted x)

before_is : (counted : Bool) (x : Expr) (named : List (List ℕ × Expr)) → before (part_of counted x) (map (named_part counted) named) ≡ prefix_len (precedes x.node.0) named
before_is counted x named = prefix_map_by _ _ (named_part counted) (λ n. ap₂ nat_lt (had_is counted n.1) (had_is counted x)) named

-- ---- named arguments, and then others

with_many : (counted : Bool) (line : ℕ) (ms : List (List ℕ × Expr)) (rest : List (Option (List ℕ) × Numbered Expr)) (n : ℕ)
    → arguments (map (with_name line) (map (named_part counted) ms) ++ rest) n ≡ (let r = in_order (map (named_of counted line) ms) n in prepend_args ([], r.0) (arguments rest r.1))
with_many counted line [] rest n = refl
with_many counted line (m ∷ ms) rest n =
    let r = expr_on counted line m.1 n in
    ap (λ (q : Given × ℕ). let made : Given × ℕ = (given (Some m.0) r.0 q.0, q.1) in made) (with_many counted line ms rest r.1)

-- a plain argument, after the named ones that were written before it
next_stands : (counted : Bool) (line : ℕ) (x : Expr) (xs : List Expr) (named : List (List ℕ × Expr)) (n : ℕ)
    → standing_of counted line (x ∷ xs) named n
    ≡ (let k = prefix_len (precedes x.node.0) named in
    let r = in_order (map (named_of counted line) (take k named)) n in
    let q = expr_on counted line x r.1 in
    let more = standing_of counted line xs (drop k named) q.1 in
    prepend_args ([], r.0) (given None q.0 more.0, more.1))
next_stands counted line x xs named n =
    let parts = map (named_part counted) named in
    let k = prefix_len (precedes x.node.0) named in
    let cut : ℕ → Given × ℕ = λ i. arguments (map (with_name line) (take i parts) ++ ((None, expr_on counted line x) ∷ standing line (map (part_of counted) xs) (drop i parts))) n in
    ap cut (before_is counted x named)
    ∙ ap₂ (λ front back. arguments (map (with_name line) front ++ ((None, expr_on counted line x) ∷ standing line (map (part_of counted) xs) back)) n) (take_map (named_part counted) k named) (drop_map (named_part counted) k named)
    ∙ with_many counted line (take k named) ((None, expr_on counted line x) ∷ standing line (map (part_of counted) xs) (map (named_part counted) (drop k named))) n

more_done : (done : Given) (names : List (List ℕ × Expr)) (y : Expr) (more : Given × ℕ) → prepend_args done (prepend_args ([], names) (given None y more.0, more.1)) ≡ prepend_args (done.0 ++ y ∷ [], done.1 ++ names) more
more_done done names y more =
    ap₂ (λ (plain : List Expr) (named : List (List ℕ × Expr)). let made : Given × ℕ = ((plain, named), more.1) in made) (sym (append_assoc done.0 (y ∷ []) more.0.0)) (sym (append_assoc done.1 names more.0.1))

-- one more plain argument is done, with the named ones before it
pub argument_done : (counted : Bool) (line : ℕ) (all : List Expr) (i : ℕ) (x : Expr) (left front back : List (List ℕ × Expr)) (done done' : Given) (n first n' : ℕ) (y : Expr) (whole : Given × ℕ)
    → i < length all → x ≡ get_or all i x
    → whole ≡ prepend_args done (standing_of counted line (drop i all) left n)
    → front ≡ take (prefix_len (precedes x.node.0) left) left → back ≡ drop (prefix_len (precedes x.node.0) left) left
    → (done'.1, first) ≡ added counted line done.1 front n → (y, n') ≡ expr_on counted line x first → done'.0 ≡ done.0 ++ y ∷ []
    → whole ≡ prepend_args done' (standing_of counted line (drop (i + 1) all) back n')
argument_done counted line all i x left front back done done' n first n' y whole lt is before f b e q d =
    let xs = drop (i + 1) all in
    let r = in_order (map (named_of counted line) front) n in
    before ∙ ap (λ zs. prepend_args done (standing_of counted line zs left n)) (rest_of all i x lt is)
    ∙ ap (prepend_args done) (next_stands counted line x xs left n)
    ∙ ap₂ (λ (fs bs : List (List ℕ × Expr)). let r = in_order (map (named_of counted line) fs) n in let q = expr_on counted line x r.1 in let more = standing_of counted line xs bs q.1 in prepend_args done (prepend_args ([], r.0) (given None q.0 more.0, more.1))) (sym f) (sym b)
    ∙ ap (λ (m : ℕ). let q = expr_on counted line x m in let more = standing_of counted line xs back q.1 in prepend_args done (prepend_args ([], r.0) (given None q.0 more.0, more.1))) (sym (ap (λ (z : List (List ℕ × Expr) × ℕ). z.1) e))
    ∙ ap (λ (q : Expr × ℕ). let more = standing_of counted line xs back q.1 in prepend_args done (prepend_args ([], r.0) (given None q.0 more.0, more.1))) (sym q)
    ∙ more_done done r.0 y (standing_of counted line xs back n')
    ∙ ap₂ (λ (plain : List Expr) (named : List (List ℕ × Expr)). prepend_args (plain, named) (standing_of counted line xs back n')) (sym d) (sym (ap (λ (z : List (List ℕ × Expr) × ℕ). z.0) e))

last_named : (counted : Bool) (line : ℕ) (left : List (List ℕ × Expr)) (n : ℕ) → standing_of counted line [] left n ≡ (let r = in_order (map (named_of counted line) left) n in (([], r.0), r.1))
last_named counted line left n =
    let r = in_order (map (named_of counted line) left) n in
    ap (λ xs. arguments xs n) (sym (append-nil (map (with_name line) (map (named_part counted) left))))
    ∙ with_many counted line left [] n
    ∙ ap (λ (named : List (List ℕ × Expr)). let made : Given × ℕ = (([], named), r.1) in made) (append-nil r.0)

-- all are done
pub arguments_done : (counted : Bool) (line : ℕ) (made : Args) (all : List Expr) (i : ℕ) (left : List (List ℕ × Expr)) (plain : List Expr) (done named : List (List ℕ × Expr)) (n end : ℕ) (whole : Given × ℕ) → length all ≤ i
    → whole ≡ prepend_args (plain, done) (standing_of counted line (drop i all) left n) → (named, end) ≡ added counted line done left n → made ≡ roll-Args (record { plain = plain; named = named })
    → ◌≡◌ {A = Args × ℕ} (made, end) (args whole.0, whole.1)
arguments_done counted line made all i left plain done named n end whole le before e m =
    let r = in_order (map (named_of counted line) left) n in
    let as_args : Given × ℕ → Args × ℕ = λ r. (args r.0, r.1) in
    ap (λ (g : Args). let z : Args × ℕ = (g, end) in z) m
    ∙ ap (λ (z : List (List ℕ × Expr) × ℕ). as_args ((plain, z.0), z.1)) e
    ∙ ap (λ (xs : List Expr). as_args ((xs, done ++ r.0), r.1)) (sym (append-nil plain))
    ∙ sym (ap as_args (before ∙ ap (λ zs. prepend_args (plain, done) (standing_of counted line zs left n)) (drop_all i all le) ∙ ap (prepend_args (plain, done)) (last_named counted line left n)))
