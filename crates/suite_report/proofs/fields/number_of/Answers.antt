use Rattle.std.proofs.Common.{◌≡◌, ◌∙◌, sym, ap, decimal}
use Rattle.std.proofs.lemmas.Option.{none-some, same_Some}
use Rattle.std.proofs.lemmas.Bool.{false≢true}
use Rattle.std.proofs.lemmas.Slice.Eq.{bytes_eq-Decides}
use Rattle.suite_report.proofs.Numbers.{no_number, a_number}
use Rattle.suite_report.proofs.fields.number_of.Goals as goal

pub returns-in_default : goal.returns-in_default
returns-in_default c = no_number _ (λ n lt e. none-some n (sym c.in_default.is ∙ c.parsed.ensures.found n lt e))

pub returns-then-not-is : goal.returns-then-not-is
returns-then-not-is c =
    no_number _ (λ n lt e.
    let same : n ≡ c.in-Some.number = same_Some _ _ (sym (c.parsed.ensures.found n lt e) ∙ c.in-Some.is) in
    let written : c.args.digits.now ≡ c.as_bytes.result.now = e ∙ ap decimal same ∙ sym (c.as_bytes.ensures.value ∙ c.format.ensures.text) in
    false≢true (sym c.if-not-is.true ∙ c.is.ensures ∙ (bytes_eq-Decides _ _).1 written))

pub returns : goal.returns
returns c =
    a_number _ _ c.in-Some.ensures.small
    ((bytes_eq-Decides _ _).0 (sym c.is.ensures ∙ c.if-not-is.false) ∙ (c.as_bytes.ensures.value ∙ c.format.ensures.text))
