use Rattle.std.proofs.Common.{◌≡◌, ◌||◌, false, sym, ap, ◌∙◌}
use Rattle.std.proofs.lemmas.Bool.{true≢false, or_from}
use Rattle.py_scopes.specs.Constants.{has_display, display_in_kind}
use Rattle.py_module_rules.specs.Displays.{maybe_display}
use Rattle.py_module_rules.proofs.DisplayLevels.{slice_last}
use Rattle.py_module_rules.proofs.displays.+displays.Goals as goal
use Rattle.py_module_rules.proofs.displays.+displays.Goals.{in_kind-then-has_display-2, in_kind-else-has_display-2}

pub in_kind-returns-else-in_maybe : goal.in_kind-returns-else-in_maybe
in_kind-returns-else-in_maybe t c =
    let x = c.in-Slice.x in
    let low = c.in-Slice.low in
    let high = c.in-Slice.high in
    let has : c.has_display-in-Slice.result ≡ has_display x = c.has_display-in-Slice.ensures ∙ ap has_display c.get-in-Slice.ensures in
    let front : (has_display x || maybe_display low) ≡ false =
    elim c.if-has_display-2.branch [
      | in_kind-then-has_display-2 w ↦ absurd (true≢false (sym w.if-has_display-2.true ∙ sym w.value-is ∙ c.if-in_maybe.false))
      | in_kind-else-has_display-2 w ↦ or_from _ _ (sym has ∙ w.if-has_display-2.false) (sym w.in_maybe.ensures ∙ sym w.value-is ∙ c.if-in_maybe.false)
    ] in
    c.in_maybe-else-in_maybe.ensures ∙ sym (ap display_in_kind c.in-Slice.is ∙ slice_last x low high front)
