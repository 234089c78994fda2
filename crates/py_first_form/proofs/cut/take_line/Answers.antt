use Rattle.std.proofs.Common.{◌∙◌, sym, ap, ◌+◌, take, drop, arith}
use Rattle.py_language.specs.FirstForm.{lines_of}
use Rattle.py_first_form.proofs.LineLemmas.{first_line-lines_of, rest-lines_of, take_all, drop_all}
use Rattle.py_first_form.proofs.cut.take_line.Goals as goal

pub returns-then-feed-text-clause-line : goal.returns-then-feed-text-clause-line
returns-then-feed-text-clause-line c =
    c.split_at.ensures.front ∙ ap (λ n. take (n + 1) c.args.text.now) c.to_feed-feed.ensures.value ∙ sym (first_line-lines_of c.args.text.now)

pub returns-then-feed-text-clause-rest : goal.returns-then-feed-text-clause-rest
returns-then-feed-text-clause-rest c =
    ap lines_of (c.split_at.ensures.back ∙ ap (λ n. drop (n + 1) c.args.text.now) c.to_feed-feed.ensures.value) ∙ sym (rest-lines_of c.args.text.now)

pub returns-else-feed-text-clause-line : goal.returns-else-feed-text-clause-line
returns-else-feed-text-clause-line c =
    c.split_at-else-feed-text.ensures.front ∙ take_all c.args.text.now _ _ (omega arith) (omega (arith, c.to_feed-feed.ensures.value)) ∙ sym (first_line-lines_of c.args.text.now)

pub returns-else-feed-text-clause-rest : goal.returns-else-feed-text-clause-rest
returns-else-feed-text-clause-rest c =
    ap lines_of (c.split_at-else-feed-text.ensures.back ∙ drop_all c.args.text.now _ _ (omega arith) (omega (arith, c.to_feed-feed.ensures.value))) ∙ sym (rest-lines_of c.args.text.now)
