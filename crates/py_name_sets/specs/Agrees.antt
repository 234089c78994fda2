-- A map by the bytes of names, and rows of names.
use Rattle.std.specs.Prelude.{◌≡◌, ℕ, List, IsUtf8, chars}
use Rattle.std.specs.Borrow.{Bor}
use Rattle.std.specs.BTreeMap as tree
use Rattle.std.specs.BTreeMap.{BTreeMap}
use Rattle.std.specs.Cmp.Lexicographic.{slice_cmp}
use Rattle.std.specs.Ordering.{nat_cmp}
use Rattle.py_meaning.specs.Methods.{Names, named}

-- each text has in the map what its characters have in the rows
abbrev pub Agrees : {V : Type 0} → BTreeMap (Bor (List ℕ)) V → Names V → Type 0
Agrees first rows = (bytes : List ℕ) → IsUtf8 bytes → tree.get_by (λ k. slice_cmp nat_cmp bytes k.now) first ≡ named rows (chars bytes)
