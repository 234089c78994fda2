-- Two underscores before and after a text, by its bytes and by its characters.
use Rattle.std.proofs.Common.{◌≡◌, ◌∙◌, refl, sym, ap, subst, ℕ, zero, suc, ◌-◌, Bool, true, false, eqb, List, [], ◌∷◌, ◌++◌, length, take, drop, chars, arith}
use Rattle.std.specs.List.{starts_with, ends_with}
use Rattle.std.specs.Str.{IsUtf8, IsAscii}
use Rattle.std.proofs.Math.Utf8.{encodes}
use Rattle.std.proofs.lemmas.Bool.Decides.{Decides-eqb}
use Rattle.std.proofs.Math.Seq.{take-append_seam}
use Rattle.std.proofs.lemmas.Slice.Eq.{starts_is, ends_is}
use Rattle.std.proofs.lemmas.Str.{IsUtf8-take, IsUtf8-from_ascii, IsCharBoundary-at_seam, encodes-IsAscii, encodes-chars, encodes-append, chars-append, chars-IsAscii}

abbrev pub marks : List ℕ
marks = 95 ∷ 95 ∷ []

marks_ascii : IsAscii marks
marks_ascii zero = omega arith
marks_ascii (suc zero) = omega arith
marks_ascii (suc (suc i)) = omega arith

same_bool : (a b : Bool) → (a ≡ true → b ≡ true) → (b ≡ true → a ≡ true) → a ≡ b
same_bool true true f g = refl
same_bool true false f g = sym (f refl)
same_bool false true f g = g refl
same_bool false false f g = refl

seam : (bs front : List ℕ) → bs ≡ front ++ marks → take (length front) bs ≡ front
seam bs front is = ap (take (length front)) is ∙ take-append_seam front marks

module _ (bs : List ℕ) (u : IsUtf8 bs) where
  front_of : (front : List ℕ) → bs ≡ front ++ marks → IsUtf8 front
  front_of front is = subst IsUtf8 (seam bs front is) (IsUtf8-take bs (length front) u (IsCharBoundary-at_seam bs front marks is (IsUtf8-from_ascii marks marks_ascii)))

  ends_in_chars : ends_with eqb bs marks ≡ true → ends_with eqb (chars bs) marks ≡ true
  ends_in_chars t =
      let front = take (length bs - length marks) bs in
      let is = (ends_is Decides-eqb bs marks (ends_with eqb bs marks) refl).0 t in
      (ends_is Decides-eqb (chars bs) marks (ends_with eqb (chars bs) marks) refl).1 (chars front)
      (ap chars is ∙ chars-append front marks (front_of front is) ∙ ap (λ cs. chars front ++ cs) (chars-IsAscii marks marks_ascii))

  ends_in_bytes : ends_with eqb (chars bs) marks ≡ true → ends_with eqb bs marks ≡ true
  ends_in_bytes t =
      let cs = chars bs in
      let front = take (length cs - length marks) cs in
      let is = (ends_is Decides-eqb cs marks (ends_with eqb cs marks) refl).0 t in
      (ends_is Decides-eqb bs marks (ends_with eqb bs marks) refl).1 (encodes front)
      (sym (encodes-chars bs u) ∙ ap encodes is ∙ encodes-append front marks ∙ ap (λ ys. encodes front ++ ys) (encodes-IsAscii marks marks_ascii))

  pub ends_same : ends_with eqb bs marks ≡ ends_with eqb (chars bs) marks
  ends_same = same_bool (ends_with eqb bs marks) (ends_with eqb (chars bs) marks) ends_in_chars ends_in_bytes

  begins_in_chars : starts_with eqb bs marks ≡ true → starts_with eqb (chars bs) marks ≡ true
  begins_in_chars t =
      let rest = drop (length marks) bs in
      let is = (starts_is Decides-eqb bs marks (starts_with eqb bs marks) refl).0 t in
      (starts_is Decides-eqb (chars bs) marks (starts_with eqb (chars bs) marks) refl).1 (chars rest)
      (ap chars is ∙ chars-append marks rest (IsUtf8-from_ascii marks marks_ascii) ∙ ap (λ cs. cs ++ chars rest) (chars-IsAscii marks marks_ascii))

  begins_in_bytes : starts_with eqb (chars bs) marks ≡ true → starts_with eqb bs marks ≡ true
  begins_in_bytes t =
      let cs = chars bs in
      let rest = drop (length marks) cs in
      let is = (starts_is Decides-eqb cs marks (starts_with eqb cs marks) refl).0 t in
      (starts_is Decides-eqb bs marks (starts_with eqb bs marks) refl).1 (encodes rest)
      (sym (encodes-chars bs u) ∙ ap encodes is ∙ encodes-append marks rest ∙ ap (λ ys. ys ++ encodes rest) (encodes-IsAscii marks marks_ascii))

  pub begins_same : starts_with eqb bs marks ≡ starts_with eqb (chars bs) marks
  begins_same = same_bool (starts_with eqb bs marks) (starts_with eqb (chars bs) marks) begins_in_chars begins_in_bytes
