use Rattle.std.proofs.Common.{◌≡◌, List, ℕ, subst}
use Rattle.std.specs.Prelude.{IfOk}
use Rattle.py_lexer.proofs.NormalLemmas.{lines_are}
use Rattle.py_lexer.proofs.normal.normalized.Goals as goal

pub returns : goal.returns
returns c =
    subst (λ (xs : List ℕ). IfOk c.with_end.result (λ v. v.items ≡ xs))
    (lines_are c.args.text.now c.without_order_mark-body.result.now c.lacks_end-lacks_end.result _ c.without_order_mark-body.ensures.value c.lacks_end-lacks_end.ensures c.in_ok-with_line_feeds.ensures) c.with_end.ensures
