use Rattle.std.proofs.Common.{◌∙◌, ◌∷◌, ap, sym, subst, take, IsAscii, arith}
use Rattle.py_lexer.specs.Found.{name_found}
use Rattle.py_lexer.proofs.PieceLemmas.{word_is, found_same, name_ascii, name_at}
use Rattle.py_lexer.proofs.piece.name_piece.Goals as goal

pub name_found-requires : goal.name_found-requires
name_found-requires c =
    subst IsAscii (sym (c.split_at.ensures.front ∙ (word_is c.args.text.now c.args.rest.now c.args.first c.word_len-more.result c.requires.text ∙ ap (λ n. c.args.first ∷ take n c.args.rest.now) c.word_len-more.ensures.value)))
    (name_ascii c.args.first c.args.rest.now c.requires.first)

pub returns : goal.returns
returns c = λ h. name_at h c.args.first c.args.rest.now c.word_len-more.result c.in_ok-name_found.field-0 (omega arith) c.requires.first c.word_len-more.ensures.value
    (found_same name_found c.args.text.now c.args.rest.now c.split_at.result.0.now c.split_at-2.result.1.now c.args.first c.word_len-more.result c.in_ok-name_found.field-0 c.requires.text c.split_at.ensures.front c.split_at-2.ensures.back c.in_ok-name_found.ensures)
