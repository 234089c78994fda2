-- Fronts of a text that are found in another, and those that end a front of the text itself, its borders (Knuth, Morris and
-- Pratt, "Fast Pattern Matching in Strings").
use Rattle.std.specs.Prelude.{◌≡◌, ℕ, ◌+◌, ◌<◌, List, length, slice_index}

-- The first `size` characters of a part are in a text at a place.
pub record IsFrontAt (part text : List ℕ) (at size : ℕ) : Type 0 where
  pub each : (j : ℕ) → j < size → slice_index text (at + j) ≡ slice_index part j

-- Of the first `size` characters, the longest front but themselves that ends them has this length.
pub record IsLongestBorder (part : List ℕ) (size border : ℕ) : Type 0 where
  -- where it begins
  pub at : ℕ
  pub begins : 0 < at
  pub ends : at + border ≡ size
  pub is_front : IsFrontAt part part at border
  pub longest : (before rest : ℕ) → 0 < before → before < at → before + rest ≡ size → IsFrontAt part part before rest → ⊥

-- the longest border of each front that has a character
abbrev pub AreBorders : List ℕ → List ℕ → Type 0
AreBorders part borders = (k : ℕ) → k < length borders → IsLongestBorder part (k + 1) (slice_index borders k)
