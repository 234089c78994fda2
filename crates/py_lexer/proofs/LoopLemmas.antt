-- The loop over the pieces of a text.
use Rattle.std.proofs.Common.{◌≡◌, ◌∙◌, sym, ap, refl, subst, ℕ, zero, suc, ◌+◌, ◌-◌, ◌<◌, ◌≤◌, Bool, true, false, cond, not, List, [], ◌∷◌, ◌++◌, length, take, drop, Option, Some, None, add-one, arith, length-drop}
use Rattle.std.specs.Prelude.{◌==◌}
use Rattle.std.specs.List.{prefix_len, list_all, concat}
use Rattle.std.proofs.lemmas.List.{take-append-drop}
use Rattle.py_language.specs.declared.token.Tokens.{Tokens}
use Rattle.py_language.specs.TokensCharacters.{is_quote, is_blank, has_order_mark, lines_of}
use Rattle.py_language.specs.TokensStrings.{quotes, quotes_len, is_tripled, plus, closing as closing_in, string_len}
use Rattle.py_language.specs.TokensPieces.{longest, or_one, at_least_one, piece_len, pieces_behind, pieces_of, are_blanks, is_comment}
use Rattle.py_language.specs.TokensLines.{line_after, line_feeds, open_after, line_begun, lines_ended}
use Rattle.py_language.specs.TokensFaults.{fault_by}
use Rattle.py_language.specs.Tokens.{unless_fault, unclosed, tokens_behind, tokens_of}
use Rattle.py_lexer.specs.declared.piece.Piece.{Piece}
use Rattle.py_lexer.specs.declared.reader.Reader.{Reader}
use Rattle.py_lexer.specs.declared.reader.Step.{Step}
use Rattle.py_lexer.specs.declared.reader.Step.TheVariants.{On, End}
use Rattle.py_lexer.specs.Found.{found_by, FoundAt, FrontIs}
use Rattle.py_lexer.specs.Steps.{step}
use Rattle.py_lexer.proofs.ClassLemmas.{exclusive}
use Rattle.py_lexer.proofs.LongestLemmas.{longest_blanks, longest_comment, longest_line_end, run_passes}
use Rattle.py_lexer.proofs.PieceLemmas.{no_quote_len}
use Rattle.py_lexer.proofs.JoinLemmas.{reader_of, past, Joins, Shaped, joins}

-- ---- the pieces joined are the text

quotes_some : (q : ℕ) (l : Bool) → (k : ℕ) × (length (quotes q l) ≡ suc k)
quotes_some q true = (2, refl)
quotes_some q false = (0, refl)

piece_some : (c : ℕ) (cs : List ℕ) → (k : ℕ) × (piece_len c cs ≡ suc k)
unfolding piece_len string_len
piece_some c cs = some_by (is_quote c) (closing_in c (is_tripled c cs) false (drop (quotes_len c cs - 1) cs)) (longest (c ∷ cs))
  where
    at_least : (n : ℕ) → (k : ℕ) × (at_least_one n ≡ suc k)
    at_least zero = (0, refl)
    at_least (suc n) = (n, refl)

    some_by : (q : Bool) (o : Option ℕ) (n : ℕ) → (k : ℕ) × (cond q (or_one (plus (quotes_len c cs) o)) (at_least_one n) ≡ suc k)
    some_by true None n = (0, refl)
    some_by true (Some j) n = let w = quotes_some c (is_tripled c cs) in (w.0 + j, omega (arith, w.1))
    some_by false o n = at_least n

pieces_drop : (n : ℕ) (cs : List ℕ) → pieces_behind n cs ≡ pieces_behind 0 (drop n cs)
pieces_drop zero cs = refl
pieces_drop (suc n) [] = refl
pieces_drop (suc n) (c ∷ cs) = pieces_drop n cs

cut_here : (c : ℕ) (cs : List ℕ) (k : ℕ) → piece_len c cs ≡ suc k → pieces_behind 0 (c ∷ cs) ≡ (c ∷ take k cs) ∷ pieces_behind k cs
cut_here c cs k e = let less : suc k - 1 ≡ k = omega arith in ap (λ n. take n (c ∷ cs) ∷ pieces_behind (n - 1) cs) e ∙ ap (λ n. (c ∷ take k cs) ∷ pieces_behind n cs) less

pieces_joined : (n : ℕ) (cs : List ℕ) → concat (pieces_behind n cs) ≡ drop n cs
pieces_joined zero [] = refl
pieces_joined (suc n) [] = refl
pieces_joined (suc n) (c ∷ cs) = pieces_joined n cs
pieces_joined zero (c ∷ cs) =
    let k = piece_some c cs in
    ap concat (cut_here c cs k.0 k.1) ∙ (ap (λ ys. (c ∷ take k.0 cs) ++ ys) (pieces_joined k.0 cs) ∙ ap (λ ys. c ∷ ys) (take-append-drop k.0 cs))

-- ---- a step of the definition

cut_step : (h : Bool) (before : List (List ℕ)) (c : ℕ) (cs : List ℕ) (k : ℕ) → piece_len c cs ≡ suc k
    → tokens_behind h before (pieces_behind 0 (c ∷ cs)) ≡ unless_fault (fault_by h before c (take k cs) (drop k cs)) before (tokens_behind h ((c ∷ take k cs) ∷ before) (pieces_behind 0 (drop k cs)))
cut_step h before c cs k e =
    ap (tokens_behind h before) (cut_here c cs k e)
    ∙ (ap (λ after. unless_fault (fault_by h before c (take k cs) after) before (tokens_behind h ((c ∷ take k cs) ∷ before) (pieces_behind k cs))) (pieces_joined k cs)
    ∙ ap (λ ps. unless_fault (fault_by h before c (take k cs) (drop k cs)) before (tokens_behind h ((c ∷ take k cs) ∷ before) ps)) (pieces_drop k cs))

shaped : (c : ℕ) (cs : List ℕ) (k : ℕ) → c < 256 → piece_len c cs ≡ suc k → Shaped c (take k cs)
shaped c cs k lt e = record { byte = lt; blanks = λ b. all_blank b; comment = λ is. to_end is; feed = λ is. none is }
  where
    all_blank : is_blank c ≡ true → are_blanks (c ∷ take k cs) ≡ true
    all_blank b =
        let len : piece_len c cs ≡ suc (prefix_len is_blank cs) = no_quote_len c cs (prefix_len is_blank cs) (exclusive is_blank is_quote refl c lt b) (longest_blanks c cs lt b) in
        let is : k ≡ prefix_len is_blank cs = omega arith in
        rw b (ap (λ n. list_all is_blank (take n cs)) is ∙ run_passes is_blank cs)

    to_end : c ≡ 35 → is_comment (c ∷ take k cs) ≡ true
    to_end is =
        let len : piece_len c cs ≡ suc (prefix_len (λ d. not (d == 10)) cs) = ap (λ d. piece_len d cs) is ∙ no_quote_len 35 cs (prefix_len (λ d. not (d == 10)) cs) refl (longest_comment cs) in
        let more : k ≡ prefix_len (λ d. not (d == 10)) cs = omega arith in
        ap (λ d. is_comment (d ∷ take k cs)) is ∙ (ap (λ n. list_all (λ d. not (d == 10)) (take n cs)) more ∙ run_passes (λ d. not (d == 10)) cs)

    none : c ≡ 10 → take k cs ≡ []
    none is =
        let len : piece_len c cs ≡ 1 = ap (λ d. piece_len d cs) is ∙ no_quote_len 10 cs 0 refl (longest_line_end cs) in
        let zero_more : k ≡ 0 = omega arith in
        ap (λ n. take n cs) zero_more

-- ---- the loop

pub record ReadSoFar (h : Bool) (all : List ℕ) (r : Reader) (rest : List ℕ) : Type 0 where
  pub before : List (List ℕ)
  pub is : r ≡ reader_of before
  pub same : tokens_behind h before (pieces_behind 0 rest) ≡ tokens_behind h [] (pieces_behind 0 all)
  pub low : r.line + length rest ≤ length all + 1

pub started : (h : Bool) (all : List ℕ) (r : Reader) → r ≡ record { lines = []; begun = None; brackets = []; line = 1; column = 0; undeclared = true } → ReadSoFar h all r all
unfolding lines_ended line_begun open_after line_after
started h all r e = record { before = []; is = e; same = refl; low = omega (arith, ap (λ (q : Reader). q.line) e) }

pub front_within : (h : Bool) (text : List ℕ) (piece : Piece) (k : ℕ) → FrontIs h text piece k → k < length text
front_within h [] piece k at = absurd at
front_within h (c ∷ cs) piece k at = let le = at.within in omega arith

joined_at : (h : Bool) (all : List ℕ) (r : Reader) (b : ℕ) (bs : List ℕ) (piece : Piece) (k : ℕ) (so : ReadSoFar h all r (b ∷ bs)) → FoundAt h b bs piece k → Joins h so.before b (take k bs) (drop k bs) (step r piece)
joined_at h all r b bs piece k so at =
    subst (λ q. Joins h so.before b (take k bs) (drop k bs) (step r q)) (sym at.what)
    (subst (λ q. Joins h so.before b (take k bs) (drop k bs) (step q (found_by h b (take k bs) (drop k bs)))) (sym so.is) (joins h so.before b (take k bs) (drop k bs) (shaped b bs k at.byte at.len)))

-- a step leaves the line's number as it is
pub line_kept : (h : Bool) (all : List ℕ) (r : Reader) (rest : List ℕ) (piece : Piece) (k : ℕ) (s : Step) (r' : Reader) → ReadSoFar h all r rest → FrontIs h rest piece k → s ≡ step r piece → s ≡ On r' → r'.line ≡ r.line
unfolding line_after
line_kept h all r [] piece k s r' so at is on = absurd at
line_kept h all r (b ∷ bs) piece k s r' so at is on =
    let does : Joins h so.before b (take k bs) (drop k bs) (On r') = subst (Joins h so.before b (take k bs) (drop k bs)) (sym is ∙ on) (joined_at h all r b bs piece k so at) in
    let n = line_feeds (b ∷ take k bs) in
    let same : r'.line + n ≡ r.line + n = ap (λ (q : Reader). q.line) does.1 ∙ ap (λ (q : Reader). q.line + n) (sym so.is) in
    omega arith

lower : (line n k : ℕ) (all bs : List ℕ) → line + suc (length bs) ≤ length all + 1 → n ≤ suc k → k ≤ length bs → line + n + length (drop k bs) ≤ length all + 1
lower line n k all bs low few fits = omega (arith, length-drop k bs)

feeds_few : (n : ℕ) (xs : List ℕ) → line_feeds (take n xs) ≤ n
feeds_few zero xs = omega arith
feeds_few (suc n) [] = omega arith
feeds_few (suc n) (x ∷ xs) = few_by (x == 10) (line_feeds (take n xs)) (feeds_few n xs)
  where
    few_by : (v : Bool) (k : ℕ) → k ≤ n → cond v 1 0 + k ≤ suc n
    few_by true k le = omega arith
    few_by false k le = omega arith

pub goes_on : (h : Bool) (all : List ℕ) (r : Reader) (rest : List ℕ) (piece : Piece) (k : ℕ) (s : Step) (r' : Reader) (bytes rest' : List ℕ) (n : ℕ) → ReadSoFar h all r rest → FrontIs h rest piece k → s ≡ step r piece → s ≡ On r'
    → bytes ≡ take (k + 1) rest → n ≡ line_feeds bytes → rest' ≡ drop (k + 1) rest → ReadSoFar h all (past r' n) rest'
goes_on h all r [] piece k s r' bytes rest' n so at is on front feeds cut = absurd at
goes_on h all r (b ∷ bs) piece k s r' bytes rest' n so at is on front feeds cut =
    let does : Joins h so.before b (take k bs) (drop k bs) (On r') = subst (Joins h so.before b (take k bs) (drop k bs)) (sym is ∙ on) (joined_at h all r b bs piece k so at) in
    let count : n ≡ line_feeds (b ∷ take k bs) = feeds ∙ (ap line_feeds front ∙ ap (λ j. line_feeds (take j (b ∷ bs))) (add-one k)) in
    let low = so.low in
    let within = at.within in
    let few : line_feeds (b ∷ take k bs) ≤ suc k = feeds_few (suc k) (b ∷ bs) in
    let line = line_kept h all r (b ∷ bs) piece k s r' so at is on in
    let left : rest' ≡ drop k bs = cut ∙ ap (λ j. drop j (b ∷ bs)) (add-one k) in
    let lower_now = lower r.line n k all bs low (omega arith) within in
    record {
      before = (b ∷ take k bs) ∷ so.before;
      is = ap (past r') count ∙ does.1;
      same = ap (λ z. tokens_behind h ((b ∷ take k bs) ∷ so.before) (pieces_behind 0 z)) left
          ∙ (sym (cut_step h so.before b bs k at.len ∙ ap (λ o. unless_fault o so.before (tokens_behind h ((b ∷ take k bs) ∷ so.before) (pieces_behind 0 (drop k bs)))) does.0) ∙ so.same);
      low = omega (arith, ap length left);
    }

pub ends : (h : Bool) (all : List ℕ) (r : Reader) (rest : List ℕ) (piece : Piece) (k : ℕ) (s : Step) (found : Tokens) → ReadSoFar h all r rest → FrontIs h rest piece k → s ≡ step r piece → s ≡ End found → found ≡ tokens_behind h [] (pieces_behind 0 all)
ends h all r [] piece k s found so at is on = absurd at
ends h all r (b ∷ bs) piece k s found so at is on =
    let does : Joins h so.before b (take k bs) (drop k bs) (End found) = subst (Joins h so.before b (take k bs) (drop k bs)) (sym is ∙ on) (joined_at h all r b bs piece k so at) in
    does.2 ∙ (sym (cut_step h so.before b bs k at.len ∙ ap (λ o. unless_fault o so.before (tokens_behind h ((b ∷ take k bs) ∷ so.before) (pieces_behind 0 (drop k bs)))) does.1) ∙ so.same)

-- ---- the end of the text

pub all_read : (h : Bool) (all : List ℕ) (r : Reader) (rest : List ℕ) (found : Tokens) → ReadSoFar h all r rest → length rest ≡ 0 → found ≡ record { lines = r.lines; fault = unclosed r.brackets } → found ≡ tokens_behind h [] (pieces_behind 0 all)
all_read h all r (b ∷ bs) found so e is = absurd (omega arith)
all_read h all r [] found so e is = is ∙ (ap (λ (q : Reader). let t : Tokens = record { lines = q.lines; fault = unclosed q.brackets } in t) so.is ∙ so.same)

pub tokens_are : (text : List ℕ) (h : Bool) (all : List ℕ) → h ≡ has_order_mark text → all ≡ lines_of text → tokens_behind h [] (pieces_behind 0 all) ≡ tokens_of text
unfolding tokens_of pieces_of
tokens_are text h all e f = ap (λ v. tokens_behind v [] (pieces_behind 0 all)) e ∙ ap (λ z. tokens_behind (has_order_mark text) [] (pieces_behind 0 z)) f
