-- What may be in a comment, and the encoding that it declares.
use Rattle.std.proofs.Common.{◌≡◌, ◌∙◌, sym, ap, refl, ℕ, suc, ◌<◌, ◌≤◌, true, false, List, [], ◌∷◌, ◌++◌, length, drop, Option, Some, None, arith}
use Rattle.std.specs.Prelude.{◌==◌, ◌≢◌}
use Rattle.std.specs.List.{list_all}
use Rattle.std.specs.Str.{is_utf8, all_scalars}
use lib.Utf8.{scalar}
use Rattle.std.proofs.lemmas.Bool.Decides.{nat_tests}
use Rattle.pyn_base.specs.declared.construct.Construct.{Construct}
use Rattle.pyn_base.specs.declared.construct.Construct.TheVariants as fault
use Rattle.py_language.specs.TokensCharacters.{more_bytes, decoded, decoded_behind}
use Rattle.py_language.specs.TokensStrings.{refused}
use Rattle.py_language.specs.TokensFaults.{first_refused}
use Rattle.py_language.specs.TokensEncoding.{encoding_here, or_later, declared_encoding}
use Rattle.py_lexer.specs.Scan.{front_of}
use Rattle.py_lexer.proofs.DecodeLemmas.{is_high, decoded_ascii, decoded_wide, decoded_bad, wide}
use Rattle.py_lexer.proofs.ClassLemmas.{and_both}
use Rattle.py_lexer.proofs.ContentLemmas.{not_bad}

fine_high : (c : ℕ) → is_high c ≡ true → scalar c ≡ true → refused c ≡ None
fine_high c h s =
    let a : (c == 13) ≡ false = grind (arith, nat_tests) in
    let b : (c == 12) ≡ false = grind (arith, nat_tests) in
    rw (not_bad c s, a, b) refl

skip_high : (xs rest : List ℕ) → list_all is_high xs ≡ true → all_scalars xs ≡ true → first_refused (xs ++ rest) ≡ first_refused rest
skip_high [] rest h s = refl
skip_high (c ∷ cs) rest h s =
    let high = and_both (is_high c) (list_all is_high cs) h in
    let good = and_both (scalar c) (all_scalars cs) s in
    rw (fine_high c high.0 good.0) (skip_high cs rest high.1 good.1)

pub refused_ascii : (rest more : List ℕ) (b : ℕ) (x : Option Construct) → rest ≡ b ∷ more → b < 128 → b ≢ 13 → b ≢ 12 → first_refused (decoded rest) ≡ x → first_refused (decoded more) ≡ x
unfolding decoded
refused_ascii rest more b x e lt r f same =
    let not_return : (b == 13) ≡ false = grind (arith, nat_tests) in
    let not_form : (b == 12) ≡ false = grind (arith, nat_tests) in
    let no_bad : (b == 0x110000) ≡ false = grind (arith, nat_tests) in
    let fine : refused b ≡ None = rw (no_bad, not_return, not_form) refl in
    let step : first_refused (b ∷ decoded more) ≡ first_refused (decoded more) = rw fine refl in
    sym step ∙ (ap first_refused (sym (ap (decoded_behind 0) e ∙ decoded_ascii b more lt)) ∙ same)

pub refused_here : (rest more : List ℕ) (b c : ℕ) (x : Option Construct) → rest ≡ b ∷ more → b ≡ c → c < 128 → refused c ≡ Some fault.Character → first_refused (decoded rest) ≡ x → Some fault.Character ≡ x
unfolding decoded
refused_here rest more b c x e is lt f same =
    let start : rest ≡ c ∷ more = e ∙ ap (λ d. d ∷ more) is in
    sym (ap first_refused (ap (decoded_behind 0) start ∙ decoded_ascii c more lt) ∙ rw f refl) ∙ same

pub refused_wide : (rest more s : List ℕ) (b : ℕ) (x : Option Construct) → rest ≡ b ∷ more → 128 ≤ b → s ≡ front_of rest → is_utf8 (front_of rest) ≡ true → first_refused (decoded rest) ≡ x
    → first_refused (decoded (drop (length s) rest)) ≡ x
unfolding decoded
refused_wide rest more s b x e h f t same =
    let high : is_high b ≡ true = grind (arith, nat_tests) in
    let good : is_utf8 (b ∷ more_bytes b more) ≡ true = ap (λ xs. is_utf8 (front_of xs)) (sym e) ∙ t in
    let w = wide b more high good in
    let is : s ≡ b ∷ more_bytes b more = f ∙ ap front_of e in
    let n = length (more_bytes b more) in
    let step : first_refused (decoded_behind 0 (b ∷ more)) ≡ first_refused (decoded_behind 0 (drop n more)) =
    ap first_refused (decoded_wide b more good ∙ ap (λ cs. cs ++ decoded_behind 0 (drop n more)) w.are) ∙ skip_high (w.first ∷ w.others) (decoded_behind 0 (drop n more)) w.high w.scalar in
    ap (λ xs. first_refused (decoded_behind 0 (drop (length xs) rest))) is ∙ (ap (λ xs. first_refused (decoded_behind 0 (drop (suc n) xs))) e ∙ (sym step ∙ (ap (λ xs. first_refused (decoded_behind 0 xs)) (sym e) ∙ same)))

pub refused_bad : (rest more : List ℕ) (b : ℕ) (x : Option Construct) → rest ≡ b ∷ more → 128 ≤ b → is_utf8 (front_of rest) ≡ false → first_refused (decoded rest) ≡ x → Some fault.Encoding ≡ x
unfolding decoded
refused_bad rest more b x e h t same =
    ap first_refused (sym (ap (decoded_behind 0) e ∙ decoded_bad b more (ap (λ xs. is_utf8 (front_of xs)) (sym e) ∙ t))) ∙ same

pub refused_none : (rest : List ℕ) (x : Option Construct) → length rest ≡ 0 → first_refused (decoded rest) ≡ x → None ≡ x
unfolding decoded
refused_none [] x e same = same
refused_none (b ∷ more) x e same = absurd (omega arith)

-- ---- declarations

or_later_some : (name later : List ℕ) → false ≡ (length name == 0) → or_later name later ≡ name
or_later_some [] later ne = absurd (cc)
or_later_some (c ∷ cs) later ne = refl

pub declared_here : (rest more name : List ℕ) (b : ℕ) (x : List ℕ) → rest ≡ b ∷ more → name ≡ encoding_here rest → false ≡ (length name == 0) → declared_encoding rest ≡ x → name ≡ x
declared_here rest more name b x e is ne same =
    sym (or_later_some name (declared_encoding more) ne) ∙ (ap (λ n. or_later n (declared_encoding more)) (is ∙ ap encoding_here e) ∙ (ap declared_encoding (sym e) ∙ same))
