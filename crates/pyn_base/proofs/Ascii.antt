-- Bytes that pass the test for ASCII are ASCII.
use Rattle.std.proofs.Common.{◌≡◌, refl, ℕ, zero, suc, ◌<◌, Bool, true, false, ◌&&◌, List, [], ◌∷◌, nat_lt, slice_index, arith}
use Rattle.std.specs.List.{list_all}
use Rattle.std.specs.Char.{is_ascii}
use Rattle.std.specs.Str.{IsAscii}
use Rattle.std.proofs.lemmas.Bool.{false≢true}
use Rattle.std.proofs.lemmas.Bool.Decides.{nat_tests}

split : (a b : Bool) → (a && b) ≡ true → (a ≡ true) × (b ≡ true)
split true b e = (refl, e)
split false b e = absurd (false≢true e)

below : (b : ℕ) → is_ascii b ≡ true → b < 128
below b e = grind (arith, nat_tests, e)

pub IsAscii-list_all : (bs : List ℕ) → list_all is_ascii bs ≡ true → IsAscii bs
IsAscii-list_all [] e i = omega arith
IsAscii-list_all (b ∷ bs) e zero = below b (split (is_ascii b) (list_all is_ascii bs) e).0
IsAscii-list_all (b ∷ bs) e (suc i) = IsAscii-list_all bs (split (is_ascii b) (list_all is_ascii bs) e).1 i
