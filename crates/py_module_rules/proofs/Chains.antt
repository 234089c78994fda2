-- How many classes of the module stand above a class.
use Rattle.std.proofs.Common.{◌≡◌, ◌∙◌, refl, sym, ap, ap₂, ℕ, zero, suc, ◌+◌, ◌-◌, List, ◌∷◌, cond, length, count_by, slice_get, arith}
use Rattle.std.proofs.lemmas.List.Sums.{sum_by-cons}
use Rattle.pyn_base.specs.declared.class.ClassId.{ClassId}
use Rattle.pyn_base.specs.declared.class.ClassId.TheVariants.{Own}
use Rattle.py_plain.specs.Classes.{order_within, base_of_info, base_of_class}
use Rattle.py_plain.specs.Program.{ClassInfo, Program}
use Rattle.py_scopes.specs.ModuleRows.{is_own}

-- the classes of the module among a class and those above it
abbrev pub own : Program → ℕ → ClassId → ℕ
own program n class = count_by is_own (order_within program n class)

one_first : (n : ℕ) → 1 + n ≡ n + 1
one_first n = omega arith

counted : (k : ℕ) (classes : List ClassId) → count_by is_own (Own k ∷ classes) ≡ count_by is_own classes + 1
counted k classes = sum_by-cons (λ (class : ClassId). cond (is_own class) 1 0) (Own k) classes ∙ one_first (count_by is_own classes)

own_chain : (program : Program) (n k : ℕ) → (n ≡ 0 → ⊥) → own program n (Own k) ≡ own program (n - 1) (base_of_info (slice_get program.classes k)) + 1
own_chain program zero k filled = absurd (filled refl)
own_chain program (suc n) k filled = let e : suc n - 1 ≡ n = omega arith in rw e (counted k (order_within program n (base_of_info (slice_get program.classes k))))

zero_plus : (n : ℕ) → 0 + n + 1 ≡ n + 1
zero_plus n = omega arith

pub chain_begins : (program : Program) (all : List ClassInfo) (k : ℕ) (class : ClassId) → all ≡ program.classes → class ≡ base_of_info (slice_get program.classes k) → (length all ≡ 0 → ⊥)
    → 0 + own program (length all - 1) class + 1 ≡ own program (length program.classes) (Own k)
chain_begins program all k class same base filled =
    ap₂ (λ n c. 0 + own program n c + 1) (ap (λ xs. length xs - 1) same) base
    ∙ zero_plus (own program (length program.classes - 1) (base_of_info (slice_get program.classes k)))
    ∙ sym (own_chain program (length program.classes) k (λ none. filled (ap length same ∙ none)))

one_more : (count rest total : ℕ) → count + (rest + 1) + 1 ≡ total → count + 1 + rest + 1 ≡ total
one_more count rest total e = omega arith

pub chain_goes_on : (program : Program) (left k count total : ℕ) (class base : ClassId) → class ≡ Own k → base ≡ base_of_class program class → (left ≡ 0 → ⊥)
    → count + own program left class + 1 ≡ total → count + 1 + own program (left - 1) base + 1 ≡ total
chain_goes_on program left k count total class base is above filled before =
    ap (λ b. count + 1 + own program (left - 1) b + 1) (above ∙ ap (base_of_class program) is)
    ∙ one_more count (own program (left - 1) (base_of_info (slice_get program.classes k))) total
    (ap (λ n. count + n + 1) (sym (ap (own program left) is ∙ own_chain program left k filled)) ∙ before)
