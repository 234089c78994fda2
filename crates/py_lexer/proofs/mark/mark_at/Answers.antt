use Rattle.std.proofs.Common.{◌∙◌, ap, length, min, arith}
use Rattle.py_language.specs.TokensMarks.{mark_of}
use Rattle.py_lexer.specs.Scan.{longest_mark}
use Rattle.py_lexer.proofs.MarkLemmas.{most_is, shorter_is}
use Rattle.py_lexer.proofs.mark.mark_at.Goals as goal

pub loop-len-init : goal.loop-len-init
loop-len-init c = record {
  value = ap (λ n. longest_mark n c.args.text.now) (c.min-len.ensures ∙ ap (min (length c.args.text.now)) c.most.ensures) ∙ most_is c.args.text.now c.args.rest.now c.args.first c.requires;
  within = omega arith;
}

pub loop-len-preserved : goal.loop-len-preserved
loop-len-preserved c = record {
  value = shorter_is c.loop-len.len c.args.text.now _ (omega arith) (c.in_default.ensures ∙ ap mark_of c.split_at.ensures.front) c.loop-len.invariant.value;
  within = omega arith;
}
