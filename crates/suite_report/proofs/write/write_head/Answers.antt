use Rattle.std.proofs.Common.{◌∙◌, ap, ℕ, ◌++◌}
use Rattle.std.specs.Prelude.{decimal}
use Rattle.suite_report.proofs.Words.{seven_parts}
use Rattle.suite_report.proofs.write.write_head.Goals as goal

pub returns : goal.returns
returns c =
    seven_parts _ _ _ _ _ _ _ _ _ _ _ _ _ _ _ c.in_ok-push_ascii.ensures.ok c.in_ok-push_name.ensures.ok c.in_ok-push_ascii-2.ensures.ok
    (c.in_ok-push_number.ensures.ok ∙ ap (λ (n : ℕ). c.push_ascii-2.new.self ++ decimal n) c.from.ensures) c.in_ok-push_ascii-3.ensures.ok
    (c.in_ok-push_number-2.ensures.ok ∙ ap (λ (n : ℕ). c.push_ascii-3.new.self ++ decimal n) c.from-2.ensures) c.in_ok-push_ascii-4.ensures.ok
