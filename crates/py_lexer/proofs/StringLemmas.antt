-- Where a string ends, one byte at a time, and what it is then.
use Rattle.std.proofs.Common.{◌≡◌, ◌∙◌, sym, ap, refl, ℕ, zero, suc, ◌+◌, ◌*◌, ◌-◌, ◌<◌, ◌≤◌, Bool, true, false, ◌&&◌, not, List, [], ◌∷◌, length, take, drop, Option, Some, None, nat_eq, arith, ⊎_elim}
use Rattle.std.specs.Prelude.{◌==◌, ◌⊎◌}
use Rattle.std.proofs.Math.Bool.{and-false}
use Rattle.std.proofs.lemmas.Bool.Decides.{nat_tests}
use Rattle.std.specs.List.{starts_with}
use Rattle.pyn_base.specs.declared.construct.Construct.TheVariants as fault
use Rattle.py_language.specs.TokensCharacters.{is_quote, decoded}
use Rattle.py_language.specs.TokensNumbers.{is_nil}
use Rattle.py_language.specs.TokensStrings.{quotes, is_tripled, plus, later, closing, string_len, string_content, Content}
use Rattle.py_language.specs.TokensPieces.{or_one, piece_len}
use Rattle.py_lexer.specs.declared.piece.Piece.{Piece}
use Rattle.py_lexer.specs.declared.piece.Piece.TheVariants as p
use Rattle.py_lexer.specs.Scan.{content_of}
use Rattle.py_lexer.specs.Found.{FoundAt, found_by, string_found, content_found}

-- ---- the search for the closing quotes

plus_later : (n : ℕ) (o : Option ℕ) → plus n (later o) ≡ plus (n + 1) o
plus_later n None = refl
plus_later n (Some k) = ap (λ m. Some m) (omega arith)

pub closing_step : (q : ℕ) (l h h' k : Bool) (rest more : List ℕ) (b n : ℕ) (x : Option ℕ) → rest ≡ b ∷ more → k ≡ h' → closing q l h (b ∷ more) ≡ later (closing q l h' more)
    → plus n (closing q l h rest) ≡ x → plus (n + 1) (closing q l k more) ≡ x
closing_step q l h h' k rest more b n x e is step same =
    ap (λ v. plus (n + 1) (closing q l v more)) is ∙ (sym (plus_later n (closing q l h' more)) ∙ (ap (plus n) (sym step) ∙ (ap (λ r. plus n (closing q l h r)) (sym e) ∙ same)))

pub step_hidden : (q : ℕ) (l h : Bool) (b : ℕ) (more : List ℕ) → h ≡ true → closing q l h (b ∷ more) ≡ later (closing q l false more)
step_hidden q l h b more e = rw e refl

pub step_plain : (q : ℕ) (l h : Bool) (b : ℕ) (more : List ℕ) → h ≡ false → starts_with nat_eq (b ∷ more) (quotes q l) ≡ false → (b == 10 && not l) ≡ false → closing q l h (b ∷ more) ≡ later (closing q l (b == 92) more)
step_plain q l h b more e s n = rw (e, s, n) refl

pub no_line_end : (b : ℕ) (l : Bool) → ((b ≡ 10) × (l ≡ true)) ⊎ (b ≡ 10 → ⊥) → (b == 10 && not l) ≡ false
no_line_end b l h = ⊎_elim (λ e. rw (e.0, e.1) refl) (λ ne. let t : (b == 10) ≡ false = grind (arith, nat_tests) in rw t refl) h

-- ---- the whole string

pub opening_within : (q : ℕ) (cs : List ℕ) (l : Bool) (w : ℕ) → l ≡ is_tripled q cs → w ≡ length (quotes q l) → w - 1 ≤ length cs
opening_within q cs false w el ew = omega arith
opening_within q [] true w el ew = absurd (cc)
opening_within q (x ∷ []) true w el ew = absurd (let wrong : true ≡ false = el ∙ and-false (q == x) in cc)
opening_within q (x ∷ y ∷ cs) true w el ew = omega arith

pub string_len_is : (q : ℕ) (cs : List ℕ) (l : Bool) (w : ℕ) → l ≡ is_tripled q cs → w ≡ length (quotes q l) → plus w (closing q l false (drop (w - 1) cs)) ≡ string_len q cs
unfolding string_len
string_len_is q cs l w el ew = ap (λ n. plus n (closing q l false (drop (n - 1) cs))) ew ∙ ap (λ b. plus (length (quotes q b)) (closing q b false (drop (length (quotes q b) - 1) cs))) el

pub content_is : (q : ℕ) (cs : List ℕ) (l : Bool) (w : ℕ) → l ≡ is_tripled q cs → w ≡ length (quotes q l) → content_of (take (length cs + 1 - 2 * w) (drop (w - 1) cs)) ≡ string_content q cs
unfolding string_content decoded
content_is q cs l w el ew =
    let twice : 2 * w ≡ w + w = omega arith in
    let is : w ≡ length (quotes q (is_tripled q cs)) = ew ∙ ap (λ b. length (quotes q b)) el in
    ap (λ n. content_of (take (length cs + 1 - n) (drop (w - 1) cs))) twice ∙ ap (λ n. content_of (take (length cs + 1 - (n + n)) (drop (n - 1) cs))) is

-- ---- the piece

quote_len : (q : ℕ) (cs : List ℕ) → is_quote q ≡ true → piece_len q cs ≡ or_one (string_len q cs)
unfolding piece_len
quote_len q cs quote = rw quote refl

by_quote : (h : Bool) (q : ℕ) (cs after : List ℕ) → is_quote q ≡ true → string_found q cs ≡ found_by h q cs after
unfolding found_by
by_quote h q cs after quote = sym (rw quote refl)

pub string_open : (h : Bool) (q : ℕ) (cs : List ℕ) → q < 256 → is_quote q ≡ true → None ≡ string_len q cs → FoundAt h q cs (p.Fault 0 fault.String) 0
unfolding string_found
string_open h q cs lt quote e = record { byte = lt; len = quote_len q cs quote ∙ ap or_one (sym e); within = omega arith; what = by_quote h q [] cs quote }

not_nil : (n : ℕ) (cs : List ℕ) → 0 < n → n ≤ length cs → is_nil (take n cs) ≡ false
not_nil zero cs lo le = absurd (omega arith)
not_nil (suc n) [] lo le = absurd (omega arith)
not_nil (suc n) (c ∷ cs) lo le = refl

pub string_closed : (h : Bool) (q : ℕ) (cs : List ℕ) (n : ℕ) (r : Content) (piece : Piece) → q < 256 → is_quote q ≡ true → Some n ≡ string_len q cs → 1 < n → n ≤ length cs + 1 → r ≡ string_content q (take (n - 1) cs) → piece ≡ content_found r → FoundAt h q cs piece (n - 1)
unfolding string_found
string_closed h q cs n r piece lt quote e lo le content what =
    let less : n ≡ suc (n - 1) = omega arith in
    let some : is_nil (take (n - 1) cs) ≡ false = not_nil (n - 1) cs (omega arith) (omega arith) in
    record {
      byte = lt;
      len = quote_len q cs quote ∙ (ap or_one (sym e) ∙ less);
      within = omega arith;
      what = what ∙ (ap content_found content ∙ (sym (rw some refl) ∙ by_quote h q (take (n - 1) cs) (drop (n - 1) cs) quote));
    }
