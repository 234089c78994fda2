-- What holds of what is read, where something is read.
use Rattle.std.proofs.Common.{Bool, None, Option, Some, false, refl, subst, true, ◌≡◌}
use Rattle.std.specs.Prelude.{Err, Ok, Result, if◌then◌else◌}
use Rattle.py_language.specs.Trees as trees
use Rattle.py_syntax.specs.declared.refusal.Refusal.{Refusal}
use Rattle.py_grammar.specs.Blocks as blocks

-- ---- of what may be there

abbrev pub MaybeBy : {A : Type 0} → (A → Type 0) → Option A → Type 0
MaybeBy P None = Unit {0}
MaybeBy P (Some a) = P a

pub record Maybe {A : Type 0} (P : A → Type 0) (o : Option A) : Type 0 where
  pub at : MaybeBy P o

pub no : {A : Type 0} {P : A → Type 0} → Maybe P None
no = record { at = tt }

pub yes : {A : Type 0} {P : A → Type 0} {a : A} → P a → Maybe P (Some a)
yes h = record { at = h }

pub maybe_then : {A B : Type 0} (P : A → Type 0) {Q : B → Type 0} (o : Option A) (f : A → Option B) → Maybe P o → ((a : A) → P a → Maybe Q (f a)) → Maybe Q (trees.◌>>=◌ o f)
maybe_then P None f h k = no
maybe_then P (Some a) f h k = k a h.at

pub maybe_bind : {A B : Type 0} {Q : B → Type 0} (o : Option A) (f : A → Option B) → ((a : A) → Maybe Q (f a)) → Maybe Q (trees.◌>>=◌ o f)
maybe_bind None f h = no
maybe_bind (Some a) f h = h a

pub maybe_if : {A : Type 0} {P : A → Type 0} (b : Bool) (o o' : Option A) → Maybe P o → Maybe P o' → Maybe P (if b then o else o')
maybe_if true o o' h k = h
maybe_if false o o' h k = k

-- what holds wherever it is read
pub maybe_read : {A : Type 0} (P : A → Type 0) (o : Option A) → ((a : A) → o ≡ Some a → P a) → Maybe P o
maybe_read P None h = no
maybe_read P (Some a) h = yes (h a refl)

-- ---- of what is read, or refused

abbrev pub HoldsBy : {A : Type 0} → (A → Type 0) → Result A Refusal → Type 0
HoldsBy P (Ok a) = P a
HoldsBy P (Err e) = Unit {0}

pub record Holds {A : Type 0} (P : A → Type 0) (r : Result A Refusal) : Type 0 where
  pub at : HoldsBy P r

pub refusal : {A : Type 0} {P : A → Type 0} {e : Refusal} → Holds P (Err e)
refusal = record { at = tt }

pub given : {A : Type 0} {P : A → Type 0} {a : A} → P a → Holds P (Ok a)
given h = record { at = h }

pub holds_bind : {A B : Type 0} (P : A → Type 0) {Q : B → Type 0} (r : Result A Refusal) (f : A → Result B Refusal) → Holds P r → ((a : A) → P a → Holds Q (f a)) → Holds Q (blocks.◌>>=◌ r f)
holds_bind P (Ok a) f h k = k a h.at
holds_bind P (Err e) f h k = refusal

pub holds_if : {A : Type 0} {P : A → Type 0} (b : Bool) (r r' : Result A Refusal) → Holds P r → Holds P r' → Holds P (if b then r else r')
holds_if true r r' h k = h
holds_if false r r' h k = k

pub holds_of : {A : Type 0} (P : A → Type 0) (r : Result A Refusal) (a : A) → Holds P r → r ≡ Ok a → P a
holds_of P r a h e = holds_at (subst (Holds P) e h)
  where
    holds_at : Holds P (Ok a) → P a
    holds_at h = h.at
