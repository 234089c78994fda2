-- Lists of so many arguments.
use Rattle.std.proofs.Common.{◌≡◌, ◌<◌, ◌≤◌, List, [], ◌∷◌, length, get_or, sym, ap, arith}

pub one : {A : Type 0} (xs : List A) (a : A) → 1 ≤ length xs → length xs < 2 → a ≡ get_or xs 0 a → xs ≡ a ∷ []
one [] a h k e = absurd (omega arith)
one (x ∷ []) a h k e = ap (λ y. y ∷ []) (sym e)
one (x ∷ y ∷ xs) a h k e = absurd (omega arith)

pub two : {A : Type 0} (xs : List A) (a b : A) → 2 ≤ length xs → length xs < 3 → a ≡ get_or xs 0 a → b ≡ get_or xs 1 b → xs ≡ a ∷ b ∷ []
two [] a b h k e f = absurd (omega arith)
two (x ∷ []) a b h k e f = absurd (omega arith)
two (x ∷ y ∷ []) a b h k e f = cc
two (x ∷ y ∷ z ∷ xs) a b h k e f = absurd (omega arith)

pub three : {A : Type 0} (xs : List A) (a b c : A) → 3 ≤ length xs → length xs < 4 → a ≡ get_or xs 0 a → b ≡ get_or xs 1 b → c ≡ get_or xs 2 c → xs ≡ a ∷ b ∷ c ∷ []
three [] a b c h k e f g = absurd (omega arith)
three (x ∷ []) a b c h k e f g = absurd (omega arith)
three (x ∷ y ∷ []) a b c h k e f g = absurd (omega arith)
three (x ∷ y ∷ z ∷ []) a b c h k e f g = cc
three (x ∷ y ∷ z ∷ w ∷ xs) a b c h k e f g = absurd (omega arith)
