-- Lines that are put together of members and groups are cut into these again.
use Rattle.std.proofs.Common.{◌≡◌, ◌∙◌, sym, ap, refl, subst, ℕ, Bool, true, false, cond, not, ◌&&◌, List, [], ◌∷◌, ◌++◌, append-nil, append_assoc, Option, Some, None}
use Rattle.std.specs.Prelude.{nat_le, ◌==◌}
use Rattle.py_cut.specs.Cut as cut
use Rattle.py_language.specs.declared.token.Logical.{Logical}
use Rattle.py_grammar.specs.Blocks.{cut_before, members, groups, continues, Member, Group}
use Rattle.py_grammar.specs.Refusals.{first_word, is_continuing}
use Rattle.py_layout.proofs.Cutting.{front_pass, pieces_pass, front_at, pieces_at}

-- ---- cutting before each item of which p holds

module _ {A : Type 0} (p : A → Bool) where
  abbrev next : ℕ → A → ℕ
  next n x = n

  abbrev test : ℕ → A → Bool
  test n x = p x

  abbrev pub AllOut : List A → Type 0
  AllOut [] = Unit {0}
  AllOut (x ∷ xs) = (p x ≡ false) × AllOut xs

  passes : (xs : List A) → AllOut xs → cut.Passes next test 0 xs
  passes [] h = tt
  passes (x ∷ xs) h = (h.0, passes xs h.1)

  at_0 : (xs : List A) → cut.scan next 0 xs ≡ 0
  at_0 [] = refl
  at_0 (x ∷ xs) = at_0 xs

  -- the rest is empty or begins with an item of which p holds
  abbrev pub Ends : List A → Type 0
  Ends [] = Unit {0}
  Ends (x ∷ xs) = p x ≡ true

  pub cut_part : (x : A) (xs rest : List A) → AllOut xs → Ends rest → cut_before p (x ∷ (xs ++ rest)) ≡ (x, xs) ∷ cut_before p rest
  cut_part x xs [] h e =
      subst (λ z. cut_before p (x ∷ z) ≡ (x, xs) ∷ []) (sym (append-nil xs))
      (ap (λ z. (x, z) ∷ cut.pieces next test 0 xs) (front_pass next test 0 xs (passes xs h)) ∙ ap (λ z. (x, xs) ∷ z) (pieces_pass next test 0 xs (passes xs h)))
  cut_part x xs (y ∷ ys) h e =
      let at_y : test (cut.scan next 0 xs) y ≡ true = e in
      ap (λ z. (x, z) ∷ cut.pieces next test 0 (xs ++ y ∷ ys)) (front_at next test 0 xs y ys (passes xs h) at_y)
      ∙ ap (λ z. (x, xs) ∷ z) (pieces_at next test 0 xs y ys (passes xs h) at_y)
      ∙ ap (λ n. (x, xs) ∷ (y, cut.front next test n ys) ∷ cut.pieces next test n ys) (at_0 xs)

-- ---- members

abbrev pub lines_of : List Member → List Logical
lines_of [] = []
lines_of (m ∷ ms) = m.0 ∷ (m.1 ++ lines_of ms)

abbrev pub is_shallow : ℕ → Logical → Bool
is_shallow column l = nat_le l.column column

-- a line at a column, and deeper lines behind it
abbrev pub MemberAt : ℕ → Member → Type 0
MemberAt column m = (m.0.column ≡ column) × AllOut (is_shallow column) m.1

abbrev pub MembersAt : ℕ → List Member → Type 0
MembersAt column [] = Unit {0}
MembersAt column (m ∷ ms) = MemberAt column m × MembersAt column ms

shallow : (column : ℕ) (m : Member) → MemberAt column m → is_shallow column m.0 ≡ true
shallow column m h = ap (λ n. nat_le n column) h.0 ∙ le_self column
  where
    le_self : (n : ℕ) → nat_le n n ≡ true
    le_self n = grind (Rattle.std.proofs.Common.arith, Rattle.std.proofs.lemmas.Bool.Decides.nat_tests)

pub members_back : (column : ℕ) (ms : List Member) → MembersAt column ms → members column (lines_of ms) ≡ ms
members_back column [] h = refl
members_back column (m ∷ ms) h = cut_part (is_shallow column) m.0 m.1 (lines_of ms) h.0.1 (ends ms h.1) ∙ ap (λ z. m ∷ z) (members_back column ms h.1)
  where
    ends : (ms : List Member) → MembersAt column ms → Ends (is_shallow column) (lines_of ms)
    ends [] h = tt
    ends (m ∷ ms) h = shallow column m h.0

-- ---- groups

abbrev pub members_of : List Group → List Member
members_of [] = []
members_of (g ∷ gs) = g.0 ∷ (g.1 ++ members_of gs)

abbrev begins_group : ℕ → Member → Bool
begins_group column m = not (continues column m.0)

abbrev pub Continuing : List Member → Type 0
Continuing [] = Unit {0}
Continuing (m ∷ ms) = (is_continuing (first_word m.0.tokens) ≡ true) × Continuing ms

-- a statement's first line begins none of the parts that continue one, and each other part does
pub record GroupAt (column : ℕ) (g : Group) : Type 0 where
  pub head : MemberAt column g.0
  pub begins : is_continuing (first_word g.0.0.tokens) ≡ false
  pub others : MembersAt column g.1
  pub continue : Continuing g.1

abbrev pub GroupsAt : ℕ → List Group → Type 0
GroupsAt column [] = Unit {0}
GroupsAt column (g ∷ gs) = GroupAt column g × GroupsAt column gs

all_continue : (column : ℕ) (ms : List Member) → MembersAt column ms → Continuing ms → AllOut (begins_group column) ms
all_continue column [] h c = tt
all_continue column (m ∷ ms) h c =
    (ap (λ n. not ((n == column) && is_continuing (first_word m.0.tokens))) h.0.0 ∙ ap (λ v. not ((column == column) && v)) c.0 ∙ ap (λ v. not (v && true)) (same column), all_continue column ms h.1 c.1)
  where
    same : (n : ℕ) → (n == n) ≡ true
    same n = grind (Rattle.std.proofs.Common.arith, Rattle.std.proofs.lemmas.Bool.Decides.nat_tests)

and_false : (v : Bool) → not (v && false) ≡ true
and_false true = refl
and_false false = refl

begins_at : (column : ℕ) (g : Group) → GroupAt column g → begins_group column g.0 ≡ true
begins_at column g h = ap (λ v. not ((g.0.0.column == column) && v)) h.begins ∙ and_false (g.0.0.column == column)

groups_cut : (column : ℕ) (gs : List Group) → GroupsAt column gs → cut_before (begins_group column) (members_of gs) ≡ gs
groups_cut column [] h = refl
groups_cut column (g ∷ gs) h = cut_part (begins_group column) g.0 g.1 (members_of gs) (all_continue column g.1 h.0.others h.0.continue) (ends gs h.1) ∙ ap (λ z. g ∷ z) (groups_cut column gs h.1)
  where
    ends : (gs : List Group) → GroupsAt column gs → Ends (begins_group column) (members_of gs)
    ends [] h = tt
    ends (g ∷ gs) h = begins_at column g h.0

members_append : (column : ℕ) (ms ns : List Member) → MembersAt column ms → MembersAt column ns → MembersAt column (ms ++ ns)
members_append column [] ns h k = k
members_append column (m ∷ ms) ns h k = (h.0, members_append column ms ns h.1 k)

all_members : (column : ℕ) (gs : List Group) → GroupsAt column gs → MembersAt column (members_of gs)
all_members column [] h = tt
all_members column (g ∷ gs) h = (h.0.head, members_append column g.1 (members_of gs) h.0.others (all_members column gs h.1))

pub groups_back : (column : ℕ) (gs : List Group) → GroupsAt column gs → groups column (lines_of (members_of gs)) ≡ gs
groups_back column gs h = ap (cut_before (begins_group column)) (members_back column (members_of gs) (all_members column gs h)) ∙ groups_cut column gs h
