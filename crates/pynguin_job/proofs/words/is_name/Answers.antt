use Rattle.std.proofs.Common.{◌≡◌, ◌∙◌, sym, ap, ℕ, List, ◌∷◌, true, ◌&&◌}
use Rattle.std.specs.List.{list_all}
use Rattle.py_language.specs.TokensCharacters.{is_letter, is_word}
use Rattle.py_language.specs.TokensNames.{is_name}
use Rattle.pynguin_job.proofs.words.is_name.Goals as goal

name_of : (name : List ℕ) (first : ℕ) (rest : List ℕ) → name ≡ first ∷ rest → is_letter first ≡ true → is_name name ≡ list_all is_word rest
name_of name first rest e l = ap is_name e ∙ ap (λ t. t && list_all is_word rest) l

pub returns : goal.returns
returns c = c.are_words.ensures ∙ sym (name_of _ _ _ c.in-Some.ensures.cases.0 (sym c.if-not-is_letter.ensures))
