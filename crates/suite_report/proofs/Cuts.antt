-- A cut, by how many bytes are before the mark.
use Rattle.std.proofs.Common.{◌≡◌, ℕ, suc, ◌+◌, arith, Bool, true, false, cond, eqb, not, List, [], ◌∷◌, take, drop, Option, Some, None, refl, sym, ap, ◌∙◌}
use Rattle.std.specs.List.{prefix_len}
use Rattle.report_model.specs.Fields.{with_first, cut}

abbrev pub cut_by : List ℕ → List ℕ → Option (List ℕ × List ℕ)
cut_by front [] = None
cut_by front (c ∷ rest) = Some (front, rest)

longer : (c : ℕ) (front back : List ℕ) → with_first c (cut_by front back) ≡ cut_by (c ∷ front) back
longer c front [] = refl
longer c front (b ∷ back) = refl

pub cut-prefix_len : (mark : ℕ) (xs : List ℕ) → cut mark xs ≡ cut_by (take (prefix_len (λ c. not (eqb c mark)) xs) xs) (drop (prefix_len (λ c. not (eqb c mark)) xs) xs)
cut-prefix_len mark [] = refl
cut-prefix_len mark (c ∷ xs) =
    let n = prefix_len (λ c. not (eqb c mark)) xs in
    let one_more : 1 + n ≡ suc n = omega arith in
    let at : (b : Bool) → cond b (Some ([], xs)) (with_first c (cut mark xs)) ≡ cut_by (take (cond (not b) (1 + n) 0) (c ∷ xs)) (drop (cond (not b) (1 + n) 0) (c ∷ xs)) =
    λ b. elim b as (λ (v : Bool). cond v (Some ([], xs)) (with_first c (cut mark xs)) ≡ cut_by (take (cond (not v) (1 + n) 0) (c ∷ xs)) (drop (cond (not v) (1 + n) 0) (c ∷ xs))) [
      | true ↦ refl
      | false ↦ rw one_more (ap (with_first c) (cut-prefix_len mark xs) ∙ longer c (take n xs) (drop n xs))
    ] in
    at (eqb c mark)

-- nothing, or a byte and others, after the front
pub cut_none : (mark n : ℕ) (xs front back : List ℕ) → n ≡ prefix_len (λ c. not (eqb c mark)) xs → front ≡ take n xs → back ≡ drop n xs → back ≡ [] → None ≡ cut mark xs
cut_none mark n xs front back en ef eb e =
    sym (cut-prefix_len mark xs ∙ ap (λ k. cut_by (take k xs) (drop k xs)) (sym en) ∙ ap (cut_by (take n xs)) (sym eb ∙ e))

pub cut_some : (mark n : ℕ) (xs front back : List ℕ) (c : ℕ) (rest : List ℕ) → n ≡ prefix_len (λ c. not (eqb c mark)) xs → front ≡ take n xs → back ≡ drop n xs → back ≡ c ∷ rest → Some (front, rest) ≡ cut mark xs
cut_some mark n xs front back c rest en ef eb e =
    sym (cut-prefix_len mark xs ∙ ap (λ k. cut_by (take k xs) (drop k xs)) (sym en) ∙ ap (cut_by (take n xs)) (sym eb ∙ e) ∙ ap (λ f. Some (f, rest)) (sym ef))
