-- The first line.
use Rattle.std.proofs.Common.{◌≡◌, ℕ, true, false, cond, List, Some, None, ap, codes, bytes_eq}
use Rattle.std.specs.Fmt.{digits}
use Rattle.report_model.specs.LineForms.{title_of}

pub title_none : (line : List ℕ) → bytes_eq line (codes "pynguin report 1") ≡ false → title_of 1 line ≡ None
unfolding title_of digits
title_none line e = ap (λ b. cond b (Some 1) None) e

pub title_some : (line : List ℕ) → bytes_eq line (codes "pynguin report 1") ≡ true → title_of 1 line ≡ Some 1
unfolding title_of digits
title_some line e = ap (λ b. cond b (Some 1) None) e
