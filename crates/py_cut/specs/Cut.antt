-- Where a list is cut: at its marks. Whether an item is a mark may depend on what stands before it, which a
-- place holds: it is carried over the list, item by item.
use Rattle.std.specs.Prelude.{◌≡◌, Bool, true, false, List, [], ◌∷◌, Option, Some, None, if◌then◌else◌}

module _ {S A : Type 0} (next : S → A → S) where
  -- the place behind more items
  abbrev pub scan : S → List A → S
  scan s [] = s
  scan s (x ∷ xs) = scan (next s x) xs

  -- `p s x`: the item x is a mark where it stands at the place s
  module _ (p : S → A → Bool) where
    -- no mark stands in the list
    abbrev pub Passes : S → List A → Type 0
    Passes s [] = Unit {0}
    Passes s (x ∷ xs) = (p s x ≡ false) × Passes (next s x) xs

    -- the list is empty or begins with a mark
    abbrev pub Stops : S → List A → Type 0
    Stops s [] = Unit {0}
    Stops s (x ∷ xs) = p s x ≡ true

    -- the items before the first mark
    abbrev pub front : S → List A → List A
    front s [] = []
    front s (x ∷ xs) = if p s x then [] else x ∷ front (next s x) xs

    -- the items from the first mark on
    abbrev pub back : S → List A → List A
    back s [] = []
    back s (x ∷ xs) = if p s x then x ∷ xs else back (next s x) xs

    -- each mark with the items behind it, up to the next
    abbrev pub pieces : S → List A → List (A × List A)
    pieces s [] = []
    pieces s (x ∷ xs) = if p s x then (x, front (next s x) xs) ∷ pieces (next s x) xs else pieces (next s x) xs

    abbrev pub or_here : Bool → A → List A → Option (List A × A × List A) → Option (List A × A × List A)
    or_here b x xs (Some c) = Some (x ∷ c.0, c.1, c.2)
    or_here true x xs None = Some ([], x, xs)
    or_here false x xs None = None

    -- the last mark, with what stands before it and behind it
    abbrev pub last_cut : S → List A → Option (List A × A × List A)
    last_cut s [] = None
    last_cut s (x ∷ xs) = or_here (p s x) x xs (last_cut (next s x) xs)
