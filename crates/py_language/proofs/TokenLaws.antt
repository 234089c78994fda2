-- The cutting of a text is the only one, and its logical lines are numbered in order.
use Rattle.std.proofs.Common.{◌≡◌, ◌∙◌, sym, ap, refl, subst, ℕ, zero, suc, ◌+◌, ◌-◌, ◌<◌, ◌≤◌, Bool, true, false, cond, List, [], ◌∷◌, ◌++◌, length, take, drop, Option, Some, None, inl, inr, ⊎_elim, append-nil, arith}
use Rattle.std.specs.Prelude.{option_to_list}
use Rattle.std.specs.List.{concat}
use Rattle.std.proofs.lemmas.Slice.Eq.{bytes_eq-Decides}
use Rattle.std.proofs.str.Laws.{order}
use Rattle.pyn_base.specs.declared.construct.Construct.{Construct}
use Rattle.py_language.specs.declared.token.Token.{Token}
use Rattle.py_language.specs.declared.token.Logical.{Logical}
use Rattle.py_language.specs.declared.token.Tokens.{Tokens}
use Rattle.py_language.specs.TokensCharacters.{is_quote, has_order_mark, lines_of}
use Rattle.py_language.specs.TokensStrings.{quotes, quotes_len, is_tripled, plus, closing, string_len}
use Rattle.py_language.specs.TokensPieces.{spells, longest_within, longest, at_least_one, or_one, piece_len, pieces_behind, pieces_of}
use Rattle.py_language.specs.TokensLines.{Brackets, token_of, line_feeds, line_after, open_after, is_line_end_in, ends_line, column_after, with_tokens, line_begun, lines_ended}
use Rattle.py_language.specs.TokensFaults.{fault_of}
use Rattle.py_language.specs.Tokens.{unless_fault, tokens_behind, tokens_of}
use Rattle.py_language.specs.TokensLaws.{SpellsLongest, StandsAlone, EndsAt, IsPieceBy, IsPiece, IsCut, InOrder}

-- ---- the longest front

pub record Longest (m : ℕ) (text : List ℕ) (n : ℕ) : Type 0 where
  pub within : n ≤ m
  pub spelt : 0 < n → spells (take n text) ≡ true
  pub above : (k : ℕ) → n < k → k ≤ m → spells (take k text) ≡ false

longest_is : (m : ℕ) (text : List ℕ) → Longest m text (longest_within m text)
longest_is zero text = record { within = omega arith; spelt = λ lo. absurd (omega arith); above = λ k lt le. absurd (omega arith) }
longest_is (suc m) text = longest_by (spells (take (suc m) text)) refl (longest_is m text)
  where
    longest_by : (v : Bool) → spells (take (suc m) text) ≡ v → Longest m text (longest_within m text) → Longest (suc m) text (cond v (suc m) (longest_within m text))
    longest_by true e ih = record { within = omega arith; spelt = λ lo. e; above = λ k lt le. absurd (omega arith) }
    longest_by false e ih =
        let w = ih.within in
        record {
          within = omega arith;
          spelt = ih.spelt;
          above = λ k lt le. ⊎_elim (λ (less : k < suc m). ih.above k lt (omega arith)) (λ (ge : suc m ≤ k). let is : k ≡ suc m = omega arith in ap (λ j. spells (take j text)) is ∙ e) (order k (suc m));
        }

take_len : (n : ℕ) (xs : List ℕ) → n ≤ length xs → length (take n xs) ≡ n
take_len zero xs le = refl
take_len (suc n) [] le = absurd (omega arith)
take_len (suc n) (x ∷ xs) le = omega (arith, take_len n xs (omega arith))

take_one : (c : ℕ) (cs : List ℕ) → take 1 (c ∷ cs) ≡ c ∷ []
take_one c cs = refl

-- ---- the piece at the front is one, of a length that is its own

piece_by : (n : ℕ) (c : ℕ) (cs : List ℕ) → Longest (suc (length cs)) (c ∷ cs) n → IsPieceBy false (take (at_least_one n) (c ∷ cs)) c cs
piece_by zero c cs l = inr (record { front = refl; nothing = λ n lo le. l.above n lo le })
piece_by (suc n) c cs l =
    let w = l.within in
    let len = take_len (suc n) (c ∷ cs) (omega arith) in
    inl (record {
      front = ap (λ k. take k (c ∷ cs)) (sym len);
      within = omega arith;
      some = omega arith;
      spelt = l.spelt (omega arith);
      longest = λ k lt le. l.above k (omega arith) le;
    })

string_piece : (o : Option ℕ) (c : ℕ) (cs : List ℕ) → EndsAt (take (or_one o) (c ∷ cs)) (c ∷ cs) o
string_piece None c cs = refl
string_piece (Some n) c cs = refl

is_piece : (c : ℕ) (cs : List ℕ) → IsPiece (take (piece_len c cs) (c ∷ cs)) c cs
unfolding piece_len longest
is_piece c cs = quote_by (is_quote c)
  where
    quote_by : (v : Bool) → IsPieceBy v (take (cond v (or_one (string_len c cs)) (at_least_one (longest_within (suc (length cs)) (c ∷ cs)))) (c ∷ cs)) c cs
    quote_by true = string_piece (string_len c cs) c cs
    quote_by false = piece_by (longest_within (suc (length cs)) (c ∷ cs)) c cs (longest_is (suc (length cs)) (c ∷ cs))

-- two pieces at one place are one
ends_same : (p q text : List ℕ) (o : Option ℕ) → EndsAt p text o → EndsAt q text o → p ≡ q
ends_same p q text None a b = a ∙ sym b
ends_same p q text (Some n) a b = a ∙ sym b

longest_same : (p q text : List ℕ) → SpellsLongest p text → SpellsLongest q text → p ≡ q
longest_same p q text a b = a.front ∙ (ap (λ n. take n text) same ∙ sym b.front)
  where
    not_longer : (m n : List ℕ) → SpellsLongest m text → SpellsLongest n text → length n ≤ length m
    not_longer m n x y = ⊎_elim (λ (lt : length m < length n). let no_front : spells (take (length n) text) ≡ false = x.longest (length n) lt y.within in let spelt : spells (take (length n) text) ≡ true = ap spells (sym y.front) ∙ y.spelt in absurd (let clash : false ≡ true = sym no_front ∙ spelt in cc)) (λ (ge : length n ≤ length m). ge) (order (length m) (length n))

    same : length p ≡ length q
    same = let a1 = not_longer p q a b in let a2 = not_longer q p b a in omega arith

never_both : (p q text : List ℕ) → SpellsLongest p text → StandsAlone q text → p ≡ q
never_both p q text a b = let no_front : spells (take (length p) text) ≡ false = b.nothing (length p) a.some a.within in let spelt : spells (take (length p) text) ≡ true = ap spells (sym a.front) ∙ a.spelt in absurd (let clash : false ≡ true = sym no_front ∙ spelt in cc)

pieces_same : (v : Bool) (p q : List ℕ) (c : ℕ) (cs : List ℕ) → IsPieceBy v p c cs → IsPieceBy v q c cs → p ≡ q
pieces_same true p q c cs a b = ends_same p q (c ∷ cs) (string_len c cs) a b
pieces_same false p q c cs (inl a) (inl b) = longest_same p q (c ∷ cs) a b
pieces_same false p q c cs (inl a) (inr b) = never_both p q (c ∷ cs) a b
pieces_same false p q c cs (inr a) (inl b) = sym (never_both q p (c ∷ cs) b a)
pieces_same false p q c cs (inr a) (inr b) = a.front ∙ sym b.front

pub one_way : (text : List ℕ) (ps qs : List (List ℕ)) → IsCut ps text → IsCut qs text → ps ≡ qs
one_way text [] [] a b = refl
one_way [] [] (q ∷ qs) a b = absurd b
one_way (c ∷ cs) [] (q ∷ qs) a b = absurd (cc)
one_way [] (p ∷ ps) qs a b = absurd a
one_way (c ∷ cs) (p ∷ ps) [] a b = absurd (cc)
one_way (c ∷ cs) (p ∷ ps) (q ∷ qs) a b =
    let same = pieces_same (is_quote c) p q c cs a.0 b.0 in
    let rest : IsCut ps (drop (length q) (c ∷ cs)) = subst (λ r. IsCut ps (drop (length r) (c ∷ cs))) same a.1 in
    ap (λ r. r ∷ ps) same ∙ ap (λ rs. q ∷ rs) (one_way (drop (length q) (c ∷ cs)) ps qs rest b.1)

-- ---- the pieces joined

quotes_some : (q : ℕ) (l : Bool) → (k : ℕ) × (length (quotes q l) ≡ suc k)
quotes_some q true = (2, refl)
quotes_some q false = (0, refl)

piece_some : (c : ℕ) (cs : List ℕ) → (k : ℕ) × (piece_len c cs ≡ suc k)
unfolding piece_len string_len
piece_some c cs = some_by (is_quote c) (closing c (is_tripled c cs) false (drop (quotes_len c cs - 1) cs)) (longest (c ∷ cs))
  where
    at_least : (n : ℕ) → (k : ℕ) × (at_least_one n ≡ suc k)
    at_least zero = (0, refl)
    at_least (suc n) = (n, refl)

    some_by : (q : Bool) (o : Option ℕ) (n : ℕ) → (k : ℕ) × (cond q (or_one (plus (quotes_len c cs) o)) (at_least_one n) ≡ suc k)
    some_by true None n = (0, refl)
    some_by true (Some j) n = let w = quotes_some c (is_tripled c cs) in (w.0 + j, omega (arith, w.1))
    some_by false o n = at_least n

take_drop : (n : ℕ) (xs : List ℕ) → take n xs ++ drop n xs ≡ xs
take_drop zero xs = refl
take_drop (suc n) [] = refl
take_drop (suc n) (x ∷ xs) = ap (λ ys. x ∷ ys) (take_drop n xs)

cut_here : (c : ℕ) (cs : List ℕ) (k : ℕ) → piece_len c cs ≡ suc k → pieces_behind 0 (c ∷ cs) ≡ take (suc k) (c ∷ cs) ∷ pieces_behind k cs
cut_here c cs k e = let less : suc k - 1 ≡ k = omega arith in ap (λ n. take n (c ∷ cs) ∷ pieces_behind (n - 1) cs) e ∙ ap (λ n. take (suc k) (c ∷ cs) ∷ pieces_behind n cs) less

joined_behind : (n : ℕ) (cs : List ℕ) → concat (pieces_behind n cs) ≡ drop n cs
joined_behind zero [] = refl
joined_behind (suc n) [] = refl
joined_behind (suc n) (c ∷ cs) = joined_behind n cs
joined_behind zero (c ∷ cs) =
    let k = piece_some c cs in
    ap concat (cut_here c cs k.0 k.1) ∙ (ap (λ ys. (c ∷ take k.0 cs) ++ ys) (joined_behind k.0 cs) ∙ ap (λ ys. c ∷ ys) (take_drop k.0 cs))

pub joined : (text : List ℕ) → concat (pieces_of text) ≡ text
unfolding pieces_of
joined text = joined_behind 0 text

-- ---- the pieces are a cutting

drop_front : (m : ℕ) (cs : List ℕ) → drop (length (take m cs)) cs ≡ drop m cs
drop_front zero cs = refl
drop_front (suc m) [] = refl
drop_front (suc m) (c ∷ cs) = drop_front m cs

cut_behind : (n : ℕ) (cs : List ℕ) → IsCut (pieces_behind n cs) (drop n cs)
cut_behind zero [] = refl
cut_behind (suc n) [] = refl
cut_behind (suc n) (c ∷ cs) = cut_behind n cs
cut_behind zero (c ∷ cs) =
    let k = piece_some c cs in
    let piece : IsPiece (take (suc k.0) (c ∷ cs)) c cs = subst (λ n. IsPiece (take n (c ∷ cs)) c cs) k.1 (is_piece c cs) in
    let rest : IsCut (pieces_behind k.0 cs) (drop (length (take k.0 cs)) cs) = subst (IsCut (pieces_behind k.0 cs)) (sym (drop_front k.0 cs)) (cut_behind k.0 cs) in
    subst (λ ps. IsCut ps (c ∷ cs)) (sym (cut_here c cs k.0 k.1)) (piece, rest)

pub cut : (text : List ℕ) → IsCut (pieces_of text) text
unfolding pieces_of
cut text = cut_behind 0 text

-- ---- logical lines

in_order-more : (low mid high : ℕ) (ls : List Logical) → InOrder low mid ls → mid ≤ high → InOrder low high ls
in_order-more low mid high [] a le = omega arith
in_order-more low mid high (l ∷ ls) a le = (a.0, in_order-more (l.line + 1) mid high ls a.1 le)

in_order-push : (low mid high : ℕ) (ls : List Logical) (l : Logical) → InOrder low mid ls → mid ≤ l.line → l.line + 1 ≤ high → InOrder low high (ls ++ l ∷ [])
in_order-push low mid high [] l a lo hi = (omega arith, hi)
in_order-push low mid high (x ∷ ls) l a lo hi = (a.0, in_order-push (x.line + 1) mid high ls l a.1 lo hi)

-- the line on which the next logical line begins, or did
abbrev start_of : Option Logical → ℕ → ℕ
start_of None line = line
start_of (Some l) line = l.line

record Numbered (before : List (List ℕ)) : Type 0 where
  order_is : InOrder 1 (start_of (line_begun before) (line_after before)) (lines_ended before)
  low : start_of (line_begun before) (line_after before) ≤ line_after before

is_feed_in : (os : Brackets) (p : List ℕ) → is_line_end_in os p ≡ true → line_feeds p ≡ 1
is_feed_in [] p e = ap line_feeds ((bytes_eq-Decides p (10 ∷ [])).0 e)
is_feed_in (o ∷ os) p e = absurd (cc)

feed_of : (p : List ℕ) (before : List (List ℕ)) → ends_line p before ≡ true → line_feeds p ≡ 1
unfolding ends_line
feed_of p before e = is_feed_in (open_after before) p e

goes_by : (ends : Bool) (begun : Option Logical) (line n column : ℕ) (xs : List Token) (ls : List Logical) → InOrder 1 (start_of begun line) ls → start_of begun line ≤ line → (ends ≡ true → n ≡ 1)
    → InOrder 1 (start_of (cond ends None (with_tokens xs line column begun)) (line + n)) (ls ++ cond ends (option_to_list begun) []) × (start_of (cond ends None (with_tokens xs line column begun)) (line + n) ≤ line + n)
goes_by true None line n column xs ls a lo f = (subst (InOrder 1 (line + n)) (sym (append-nil ls)) (in_order-more 1 line (line + n) ls a (omega arith)), omega arith)
goes_by true (Some l) line n column xs ls a lo f = let one = f refl in (in_order-push 1 l.line (line + n) ls l a (omega arith) (omega arith), omega arith)
goes_by false None line n column [] ls a lo f = (subst (InOrder 1 (line + n)) (sym (append-nil ls)) (in_order-more 1 line (line + n) ls a (omega arith)), omega arith)
goes_by false None line n column (x ∷ xs) ls a lo f = (subst (InOrder 1 line) (sym (append-nil ls)) a, omega arith)
goes_by false (Some l) line n column [] ls a lo f = (subst (InOrder 1 l.line) (sym (append-nil ls)) a, omega arith)
goes_by false (Some l) line n column (x ∷ xs) ls a lo f = (subst (InOrder 1 l.line) (sym (append-nil ls)) a, omega arith)

numbered_before : (before : List (List ℕ)) → Numbered before
unfolding lines_ended line_begun line_after
numbered_before [] = record { order_is = omega arith; low = omega arith }
numbered_before (p ∷ before) =
    let ih = numbered_before before in
    let two = goes_by (ends_line p before) (line_begun before) (line_after before) (line_feeds p) (column_after before) (token_of p) (lines_ended before) ih.order_is ih.low (λ e. feed_of p before e) in
    record { order_is = two.0; low = two.1 }

feeds_append : (xs ys : List ℕ) → line_feeds (xs ++ ys) ≡ line_feeds xs + line_feeds ys
feeds_append [] ys = let e : line_feeds ys ≡ 0 + line_feeds ys = omega arith in e
feeds_append (x ∷ xs) ys = let ih = feeds_append xs ys in omega arith

stopped_by : (o : Option (ℕ × Construct)) (before : List (List ℕ)) (rest : Tokens) (high : ℕ) → InOrder 1 high (lines_ended before) → InOrder 1 high rest.lines → InOrder 1 high (unless_fault o before rest).lines
stopped_by None before rest high a b = b
stopped_by (Some f) before rest high a b = a

line_more : (p : List ℕ) (before : List (List ℕ)) → line_after (p ∷ before) ≡ line_after before + line_feeds p
unfolding line_after
line_more p before = refl

numbered_behind : (h : Bool) (ps before : List (List ℕ)) → InOrder 1 (line_after before + line_feeds (concat ps)) (tokens_behind h before ps).lines
numbered_behind h [] before = let n = numbered_before before in let lo = n.low in in_order-more 1 (start_of (line_begun before) (line_after before)) (line_after before + 0) (lines_ended before) n.order_is (omega arith)
numbered_behind h (p ∷ ps) before =
    let n = numbered_before before in
    let lo = n.low in
    let high = line_after before + line_feeds (p ++ concat ps) in
    let rest : InOrder 1 high (tokens_behind h (p ∷ before) ps).lines = in_order-more 1 (line_after (p ∷ before) + line_feeds (concat ps)) high (tokens_behind h (p ∷ before) ps).lines (numbered_behind h ps (p ∷ before)) (omega (arith, line_more p before, feeds_append p (concat ps))) in
    stopped_by (fault_of h before p (concat ps)) before (tokens_behind h (p ∷ before) ps) high (in_order-more 1 (start_of (line_begun before) (line_after before)) high (lines_ended before) n.order_is (omega arith)) rest

first_line : line_after [] ≡ 1
unfolding line_after
first_line = refl

pub numbered : (text : List ℕ) → InOrder 1 (1 + line_feeds (lines_of text)) (tokens_of text).lines
unfolding tokens_of
numbered text =
    let all = numbered_behind (has_order_mark text) (pieces_of (lines_of text)) [] in
    in_order-more 1 (line_after [] + line_feeds (concat (pieces_of (lines_of text)))) (1 + line_feeds (lines_of text)) (tokens_behind (has_order_mark text) [] (pieces_of (lines_of text))).lines all (omega (arith, first_line, ap line_feeds (joined (lines_of text))))
