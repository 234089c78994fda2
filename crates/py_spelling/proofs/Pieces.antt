-- The pieces of a text, joined, are the text.
use Rattle.std.proofs.Common.{◌≡◌, ◌∙◌, ap, refl, ℕ, zero, suc, ◌+◌, ◌-◌, Bool, true, false, cond, List, [], ◌∷◌, ◌++◌, length, take, drop, Option, Some, None, arith}
use Rattle.std.specs.List.{concat}
use Rattle.py_language.specs.TokensCharacters.{is_quote}
use Rattle.py_language.specs.TokensStrings.{quotes, quotes_len, is_tripled, plus, closing, string_len}
use Rattle.py_language.specs.TokensPieces.{longest, at_least_one, or_one, piece_len, pieces_behind}

quotes_some : (q : ℕ) (l : Bool) → (k : ℕ) × (length (quotes q l) ≡ suc k)
quotes_some q true = (2, refl)
quotes_some q false = (0, refl)

pub piece_some : (c : ℕ) (cs : List ℕ) → (k : ℕ) × (piece_len c cs ≡ suc k)
unfolding piece_len string_len
piece_some c cs = some_by (is_quote c) (closing c (is_tripled c cs) false (drop (quotes_len c cs - 1) cs)) (longest (c ∷ cs))
  where
    at_least : (n : ℕ) → (k : ℕ) × (at_least_one n ≡ suc k)
    at_least zero = (0, refl)
    at_least (suc n) = (n, refl)

    some_by : (q : Bool) (o : Option ℕ) (n : ℕ) → (k : ℕ) × (cond q (or_one (plus (quotes_len c cs) o)) (at_least_one n) ≡ suc k)
    some_by true None n = (0, refl)
    some_by true (Some j) n = let w = quotes_some c (is_tripled c cs) in (w.0 + j, omega (arith, w.1))
    some_by false o n = at_least n

take_drop : (n : ℕ) (xs : List ℕ) → take n xs ++ drop n xs ≡ xs
take_drop zero xs = refl
take_drop (suc n) [] = refl
take_drop (suc n) (x ∷ xs) = ap (λ ys. x ∷ ys) (take_drop n xs)

cut_here : (c : ℕ) (cs : List ℕ) (k : ℕ) → piece_len c cs ≡ suc k → pieces_behind 0 (c ∷ cs) ≡ take (suc k) (c ∷ cs) ∷ pieces_behind k cs
cut_here c cs k e = let less : suc k - 1 ≡ k = omega arith in ap (λ n. take n (c ∷ cs) ∷ pieces_behind (n - 1) cs) e ∙ ap (λ n. take (suc k) (c ∷ cs) ∷ pieces_behind n cs) less

joined_after : (n : ℕ) (cs : List ℕ) → concat (pieces_behind n cs) ≡ drop n cs
joined_after zero [] = refl
joined_after (suc n) [] = refl
joined_after (suc n) (c ∷ cs) = joined_after n cs
joined_after zero (c ∷ cs) =
    let k = piece_some c cs in
    ap concat (cut_here c cs k.0 k.1) ∙ (ap (λ ys. (c ∷ take k.0 cs) ++ ys) (joined_after k.0 cs) ∙ ap (λ ys. c ∷ ys) (take_drop k.0 cs))

pub joined : (text : List ℕ) → concat (pieces_behind 0 text) ≡ text
joined text = joined_after 0 text
