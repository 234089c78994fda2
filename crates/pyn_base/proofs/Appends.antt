-- A list that grew piece by piece grew by all of them.
use Rattle.std.proofs.Common.{◌≡◌, ◌∙◌, ap, List, ◌++◌, append_assoc}

pub appended_two : {T : Type 0} (old a b x y : List T) → x ≡ old ++ a → y ≡ x ++ b → y ≡ old ++ (a ++ b)
appended_two old a b x y ex ey = ey ∙ ap (λ t. t ++ b) ex ∙ append_assoc old a b

pub appended_three : {T : Type 0} (old a b c x y z : List T) → x ≡ old ++ a → y ≡ x ++ b → z ≡ y ++ c → z ≡ old ++ (a ++ b ++ c)
appended_three old a b c x y z ex ey ez = ez ∙ ap (λ t. t ++ c) (appended_two old a b x y ex ey) ∙ append_assoc old (a ++ b) c

pub appended_four : {T : Type 0} (old a b c d x y z w : List T) → x ≡ old ++ a → y ≡ x ++ b → z ≡ y ++ c → w ≡ z ++ d → w ≡ old ++ (a ++ b ++ c ++ d)
appended_four old a b c d x y z w ex ey ez ew = ew ∙ ap (λ t. t ++ d) (appended_three old a b c x y z ex ey ez) ∙ append_assoc old (a ++ b ++ c) d

pub appended_five : {T : Type 0} (old a b c d e x y z w v : List T) → x ≡ old ++ a → y ≡ x ++ b → z ≡ y ++ c → w ≡ z ++ d → v ≡ w ++ e → v ≡ old ++ (a ++ b ++ c ++ d ++ e)
appended_five old a b c d e x y z w v ex ey ez ew ev = ev ∙ ap (λ t. t ++ e) (appended_four old a b c d x y z w ex ey ez ew) ∙ append_assoc old (a ++ b ++ c ++ d) e
