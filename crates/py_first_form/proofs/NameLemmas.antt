use Rattle.std.proofs.Common.{◌≡◌, refl, sym, ap, ap₂, ◌∙◌, ℕ, Bool, true, false, ◌||◌, List, [], ◌∷◌, bytes_eq}
use Rattle.std.specs.List.{list_any}
use Rattle.std.specs.declared.cmp.Ordering.{Ordering}
use Rattle.std.specs.declared.cmp.Ordering.TheVariants.{Less, Equal, Greater}
use Rattle.std.specs.Ordering.{nat_cmp, is_eq, match_ordering}
use Rattle.std.specs.Cmp.Lexicographic.{slice_cmp, same_text}
use Rattle.std.specs.BTreeSet.{insert_key}
use Rattle.std.proofs.lemmas.Cmp.{nat_list_eq_equiv}
use Rattle.std.proofs.lemmas.Map.Text.{is_eq-slice_cmp}
use denote.Ref.{Bor}

-- ---- a set of names after one more is added

either : (p q r : Bool) → (q || (p || r)) ≡ (p || (q || r))
either true true r = refl
either true false r = refl
either false true r = refl
either false false r = refl

once : (p q r : Bool) → p ≡ q → (q || r) ≡ (p || (q || r))
once true q r e = ap (λ b. b || r) (sym e)
once false q r e = refl

abbrev names_it : List ℕ → Bor (List ℕ) → Bool
names_it other key = bytes_eq key.now other

abbrev by_text : Bor (List ℕ) → Bor (List ℕ) → Ordering
by_text x y = slice_cmp nat_cmp x.now y.now

at_tie : (a b other : List ℕ) → slice_cmp nat_cmp a b ≡ Equal → bytes_eq a other ≡ bytes_eq b other
at_tie a b other e =
    let same : a ≡ b = same_text a b (sym (sym (is_eq-slice_cmp a b) ∙ ap is_eq e)) in
    ap (λ x. bytes_eq x other) same

step : (o : Ordering) (other : List ℕ) (key x : Bor (List ℕ)) (rest : List (Bor (List ℕ))) → by_text key x ≡ o
    → list_any (names_it other) (insert_key by_text rest key) ≡ (names_it other key || list_any (names_it other) rest)
    → list_any (names_it other) (match_ordering o (key ∷ x ∷ rest) (x ∷ rest) (x ∷ insert_key by_text rest key)) ≡ (names_it other key || list_any (names_it other) (x ∷ rest))
step Less other key x rest e more = refl
step Equal other key x rest e more = once _ _ _ (at_tie key.now x.now other e)
step Greater other key x rest e more = ap (λ b. names_it other x || b) more ∙ either (names_it other key) (names_it other x) _

pub list_any-insert_key : (other : List ℕ) (keys : List (Bor (List ℕ))) (key : Bor (List ℕ))
    → list_any (names_it other) (insert_key by_text keys key) ≡ (names_it other key || list_any (names_it other) keys)
list_any-insert_key other [] key = refl
list_any-insert_key other (x ∷ rest) key = step (by_text key x) other key x rest refl (list_any-insert_key other rest key)

-- whether a name is in the set
pub list_any-tie : (key : List ℕ) (keys : List (Bor (List ℕ))) → list_any (λ x. is_eq (slice_cmp nat_cmp key x.now)) keys ≡ list_any (names_it key) keys
list_any-tie key [] = refl
list_any-tie key (x ∷ rest) = ap₂ (λ a b. a || b) (is_eq-slice_cmp key x.now ∙ nat_list_eq_equiv.symm key x.now) (list_any-tie key rest)
