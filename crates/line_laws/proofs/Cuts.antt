-- The lines of a block are cut into members and groups: no line is lost, and what is cut from lines in order is in order.
use Rattle.std.proofs.Common.{Bool, List, [], ap, arith, false, not, refl, sym, true, ℕ, nat_le, ◌++◌, ◌+◌, ◌∙◌, ◌∷◌, ◌≡◌, ◌≤◌}
use Rattle.std.proofs.lemmas.Grind.{flat_map-append}
use Rattle.std.specs.List.{flat_map}
use Rattle.std.specs.Prelude.{if◌then◌else◌}
use Rattle.py_language.specs.TokensLaws.{InOrder}
use Rattle.py_language.specs.declared.token.Logical.{Logical}
use Rattle.py_grammar.specs.Blocks.{Group, Member, continues, cut_before, front, groups, members, pieces}

-- ---- cutting a list before some of its items

module _ {A : Type 0} (p : A → Bool) where
  abbrev part : A × List A → List A
  part m = m.0 ∷ m.1

  rejoined_by : (b : Bool) (x : A) (fr xs : List A) (rest : List (A × List A)) → fr ++ flat_map part rest ≡ xs → (if b then [] else x ∷ fr) ++ flat_map part (if b then (x, fr) ∷ rest else rest) ≡ x ∷ xs
  rejoined_by true x fr xs rest h = ap (λ ys. x ∷ ys) h
  rejoined_by false x fr xs rest h = ap (λ ys. x ∷ ys) h

  rejoined : (xs : List A) → front p xs ++ flat_map part (pieces p xs) ≡ xs
  rejoined [] = refl
  rejoined (x ∷ xs) = rejoined_by (p x) x (front p xs) xs (pieces p xs) (rejoined xs)

  cut_joined : (xs : List A) → flat_map part (cut_before p xs) ≡ xs
  cut_joined [] = refl
  cut_joined (x ∷ xs) = ap (λ ys. x ∷ ys) (rejoined xs)

abbrev pub member_lines : List Member → List Logical
member_lines ms = flat_map (λ (m : Member). m.0 ∷ m.1) ms

abbrev pub group_lines : Group → List Logical
group_lines g = member_lines (g.0 ∷ g.1)

abbrev pub all_lines : List Group → List Logical
all_lines gs = flat_map group_lines gs

flat_twice : (gs : List Group) → all_lines gs ≡ member_lines (flat_map (λ (g : Group). g.0 ∷ g.1) gs)
flat_twice [] = refl
flat_twice (g ∷ gs) = ap (λ ls. group_lines g ++ ls) (flat_twice gs) ∙ sym (flat_map-append (λ (m : Member). m.0 ∷ m.1) (g.0 ∷ g.1) (flat_map (λ (g : Group). g.0 ∷ g.1) gs))

pub groups_joined : (column : ℕ) (lines : List Logical) → all_lines (groups column lines) ≡ lines
groups_joined column lines =
    flat_twice (groups column lines)
    ∙ ap member_lines (cut_joined (λ m. not (continues column m.0)) (members column lines))
    ∙ cut_joined (λ l. nat_le l.column column) lines

-- ---- lines in order

pub order_rises : (low high : ℕ) (ls : List Logical) → InOrder low high ls → low ≤ high
order_rises low high [] h = h
order_rises low high (l ∷ ls) h = let le = h.0 in let rest = order_rises (l.line + 1) high ls h.1 in omega (arith, le, rest)

-- two lists of lines, and where the second begins
pub record Split (low high : ℕ) (xs ys : List Logical) : Type 0 where
  pub middle : ℕ
  pub before : InOrder low middle xs
  pub after : InOrder middle high ys

pub order_split : (low high : ℕ) (xs ys : List Logical) → InOrder low high (xs ++ ys) → Split low high xs ys
order_split low high [] ys h = record { middle = low; before = omega arith; after = h }
order_split low high (x ∷ xs) ys h = let rest = order_split (x.line + 1) high xs ys h.1 in record { middle = rest.middle; before = (h.0, rest.before); after = rest.after }
