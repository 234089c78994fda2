-- How many characters pass from the front on, by what a loop has seen.
use Rattle.std.proofs.Common.{◌≡◌, ℕ, ◌<◌, ◌≤◌, Bool, true, false, List, length, get_or, sym, ◌∙◌, ap, arith}
use Rattle.std.specs.List.{prefix_len}
use Rattle.std.proofs.lemmas.List.Sums.{prefix_len_is}

pub stops_at : (p : ℕ → Bool) (text : List ℕ) (i c : ℕ) (r : Bool) → i < length text → c ≡ get_or text i c → r ≡ p c → r ≡ false → ((k d : ℕ) → k < i → p (get_or text k d) ≡ true) → i ≡ prefix_len p text
stops_at p text i c r within read seen failed before =
    sym (prefix_len_is p text i c (omega arith) (λ k h. before k c h) (λ _. ap p (sym read) ∙ sym seen ∙ failed))

pub all_pass : (p : ℕ → Bool) (text : List ℕ) (i : ℕ) → length text ≤ i → ((k d : ℕ) → k < i → p (get_or text k d) ≡ true) → length text ≡ prefix_len p text
all_pass p text i all before =
    sym (prefix_len_is p text (length text) 0 (omega arith) (λ k h. before k 0 (omega arith)) (λ h. absurd (omega arith)))
