-- Words of tables are ASCII, and lines are made of words.
use Rattle.std.proofs.Common.{◌≡◌, ◌∙◌, ap, refl, ℕ, List, [], ◌∷◌, ◌++◌, append_assoc}
use Rattle.std.specs.Str.{chars}
use Rattle.report_model.specs.declared.lines.ShownKind.{ShownKind}
use Rattle.report_model.specs.declared.lines.ShownKind.TheVariants as kind
use Rattle.report_model.specs.declared.mutant.Operator.{Operator}
use Rattle.report_model.specs.declared.mutant.Operator.TheVariants as op
use Rattle.report_model.specs.Lines.{kind_text, operator_text}
use Rattle.report_model.specs.ReportText.{ended}
use Rattle.report_model.specs.Words.{◌␣◌}

pub chars-kind_text : (k : ShownKind) → chars (kind_text k) ≡ kind_text k
unfolding chars
chars-kind_text kind.Entry = refl
chars-kind_text kind.True = refl
chars-kind_text kind.False = refl
chars-kind_text kind.Reached = refl

pub chars-operator_text : (o : Operator) → chars (operator_text o) ≡ operator_text o
unfolding chars
chars-operator_text op.Aod = refl
chars-operator_text op.Aor = refl
chars-operator_text op.Asr = refl
chars-operator_text op.Bcr = refl
chars-operator_text op.Coi = refl
chars-operator_text op.Crp = refl
chars-operator_text op.Ehd = refl
chars-operator_text op.Exs = refl
chars-operator_text op.Lcr = refl
chars-operator_text op.Ror = refl

-- a word and a space
pub one_word : (old word found x y : List ℕ) → found ≡ word → x ≡ old ++ found → y ≡ x ++ 32 ∷ [] → y ≡ old ++ (word ++ 32 ∷ [])
one_word old word found x y ef ex ey = ey ∙ ap (λ (t : List ℕ). t ++ 32 ∷ []) (ex ∙ ap (λ (t : List ℕ). old ++ t) ef) ∙ append_assoc old word (32 ∷ [])

-- two words, and what is after them
pub two_words : (old word number last x y z : List ℕ) → x ≡ old ++ (word ++ 32 ∷ []) → y ≡ x ++ (number ++ 32 ∷ []) → z ≡ y ++ last → z ≡ old ++ (word ␣ number ␣ last)
two_words old word number last x y z ex ey ez =
    ez ∙ ap (λ (t : List ℕ). t ++ last) (ey ∙ ap (λ (t : List ℕ). t ++ (number ++ 32 ∷ [])) ex) ∙ simp append_assoc

-- a line of four words, and what is after them
pub four_words : (old word number kind at last x y z u v w : List ℕ) → x ≡ old ++ (word ++ 32 ∷ []) → y ≡ x ++ (number ++ 32 ∷ []) → z ≡ y ++ (kind ++ 32 ∷ []) → u ≡ z ++ (at ++ 32 ∷ []) → v ≡ u ++ last → w ≡ v ++ 10 ∷ []
    → w ≡ old ++ ended (word ␣ number ␣ kind ␣ at ␣ last)
four_words old word number kind at last x y z u v w ex ey ez eu ev ew =
    ew ∙ ap (λ (t : List ℕ). t ++ 10 ∷ []) (ev ∙ ap (λ (t : List ℕ). t ++ last) (eu ∙ ap (λ (t : List ℕ). t ++ (at ++ 32 ∷ [])) (ez ∙ ap (λ (t : List ℕ). t ++ (kind ++ 32 ∷ [])) (ey ∙ ap (λ (t : List ℕ). t ++ (number ++ 32 ∷ [])) ex))))
    ∙ simp append_assoc

-- seven parts, one after another
pub seven_parts : (old a b c d e f g x y z u v w s : List ℕ) → x ≡ old ++ a → y ≡ x ++ b → z ≡ y ++ c → u ≡ z ++ d → v ≡ u ++ e → w ≡ v ++ f → s ≡ w ++ g → s ≡ old ++ (a ++ (b ++ (c ++ (d ++ (e ++ (f ++ g))))))
seven_parts old a b c d e f g x y z u v w s ex ey ez eu ev ew es =
    es ∙ ap (λ (t : List ℕ). t ++ g) (ew ∙ ap (λ (t : List ℕ). t ++ f) (ev ∙ ap (λ (t : List ℕ). t ++ e) (eu ∙ ap (λ (t : List ℕ). t ++ d) (ez ∙ ap (λ (t : List ℕ). t ++ c) (ey ∙ ap (λ (t : List ℕ). t ++ b) ex)))))
    ∙ simp append_assoc
