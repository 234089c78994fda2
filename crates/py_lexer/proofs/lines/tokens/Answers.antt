use Rattle.std.proofs.Common.{◌∙◌, ap, length, arith}
use Rattle.std.proofs.lemmas.Bool.Decides.{nat_tests}
use Rattle.py_lexer.proofs.LoopLemmas.{started, goes_on, ends, all_read, tokens_are, front_within, line_kept}
use Rattle.py_lexer.proofs.NormalLemmas.{lines_fit}
use Rattle.py_lexer.proofs.lines.tokens.Goals as goal

pub loop-rest-init : goal.loop-rest-init
loop-rest-init c = started c.has_order_mark-has_mark.result c.as_slice-rest.result.now c.beginning-reader.result c.beginning-reader.ensures

pub next_piece-requires-clause-short : goal.next_piece-requires-clause-short
next_piece-requires-clause-short c = omega (arith, c.loop-rest.invariant.low, lines_fit c.args.text.now, ap length (c.as_slice-rest.ensures.value ∙ c.in_ok-lines.ensures))

pub overflow_add-more : goal.overflow_add-more
overflow_add-more c = omega (arith, front_within c.has_order_mark-has_mark.result c.loop-rest.rest.now c.in_ok-piece.piece c.in_ok-piece.more c.in_ok-piece.ensures)

pub split_at-requires : goal.split_at-requires
split_at-requires c = omega (arith, front_within c.has_order_mark-has_mark.result c.loop-rest.rest.now c.in_ok-piece.piece c.in_ok-piece.more c.in_ok-piece.ensures)

pub take_in-requires : goal.take_in-requires
take_in-requires c = omega (arith, c.loop-rest.invariant.low, lines_fit c.args.text.now, ap length (c.as_slice-rest.ensures.value ∙ c.in_ok-lines.ensures))

pub overflow_add-reader : goal.overflow_add-reader
overflow_add-reader c = omega (
  arith,
  c.loop-rest.invariant.low,
  lines_fit c.args.text.now,
  ap length (c.as_slice-rest.ensures.value ∙ c.in_ok-lines.ensures),
  c.line_feeds.ensures.few,
  c.split_at.ensures.front_len,
  line_kept c.has_order_mark-has_mark.result c.as_slice-rest.result.now c.loop-rest.reader c.loop-rest.rest.now c.in_ok-piece.piece c.in_ok-piece.more c.in_ok-next.field-0 c.in-On.next c.loop-rest.invariant c.in_ok-piece.ensures c.in_ok-next.ensures c.in-On.is,
  front_within c.has_order_mark-has_mark.result c.loop-rest.rest.now c.in_ok-piece.piece c.in_ok-piece.more c.in_ok-piece.ensures,
)

pub returns-in-End : goal.returns-in-End
returns-in-End c =
    ends c.has_order_mark-has_mark.result c.as_slice-rest.result.now c.loop-rest.reader c.loop-rest.rest.now c.in_ok-piece.piece c.in_ok-piece.more c.in_ok-next.field-0 c.in-End.all c.loop-rest.invariant c.in_ok-piece.ensures c.in_ok-next.ensures c.in-End.is
    ∙ tokens_are c.args.text.now c.has_order_mark-has_mark.result c.as_slice-rest.result.now c.has_order_mark-has_mark.ensures.value (c.as_slice-rest.ensures.value ∙ c.in_ok-lines.ensures)

pub loop-rest-preserved : goal.loop-rest-preserved
loop-rest-preserved c =
    goes_on c.has_order_mark-has_mark.result c.as_slice-rest.result.now c.loop-rest.reader c.loop-rest.rest.now c.in_ok-piece.piece c.in_ok-piece.more c.in_ok-next.field-0 c.in-On.next c.split_at.result.0.now c.split_at.result.1.now c.line_feeds.result
    c.loop-rest.invariant c.in_ok-piece.ensures c.in_ok-next.ensures c.in-On.is c.split_at.ensures.front c.line_feeds.ensures.value c.split_at.ensures.back

pub returns : goal.returns
returns c =
    all_read c.has_order_mark-has_mark.result c.as_slice-rest.result.now c.loop-rest.reader c.loop-rest.rest.now c.ended.result c.loop-rest.invariant (grind (arith, nat_tests, c.loop-rest-test.ensures, c.is_empty.ensures, c.loop-rest-test.false)) c.ended.ensures
    ∙ tokens_are c.args.text.now c.has_order_mark-has_mark.result c.as_slice-rest.result.now c.has_order_mark-has_mark.ensures.value (c.as_slice-rest.ensures.value ∙ c.in_ok-lines.ensures)
