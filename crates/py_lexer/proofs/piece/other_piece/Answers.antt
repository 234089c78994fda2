use Rattle.std.proofs.Common.{◌∙◌, ◌-◌, ap, cond, ◌&&◌, arith}
use Rattle.std.specs.Prelude.{◌==◌}
use Rattle.pyn_base.specs.declared.construct.Construct.TheVariants as fault
use Rattle.py_language.specs.TokensCharacters.{begins, is_digit}
use Rattle.py_lexer.specs.declared.piece.Piece.TheVariants as p
use Rattle.py_lexer.specs.Found.{bracket_found}
use Rattle.py_lexer.proofs.PieceLemmas.{mark_at_front, stray_at}
use Rattle.py_lexer.proofs.piece.other_piece.Goals as goal

pub returns-in-Some : goal.returns-in-Some
returns-in-Some c = λ h. mark_at_front h c.args.text.now c.args.rest.now c.args.first c.in-Some.mark c.in-Some.len _ c.mark_found.result (omega arith) c.requires.text c.requires.first c.in-Some.ensures.value (omega (arith, c.in-Some.ensures.within)) c.in-Some.ensures.within.1
    (c.mark_found.ensures ∙ ap (λ xs. cond (c.args.first == 46 && ((c.in-Some.len - 1) == 0 && begins is_digit xs)) (p.Fault 0 fault.Number) (bracket_found c.args.first c.in-Some.mark)) c.split_at.ensures.back)

pub returns-in-None : goal.returns-in-None
returns-in-None c = λ h. stray_at h c.args.text.now c.args.rest.now c.args.first c.stray_fault.result (omega arith) c.requires.text c.requires.first c.in-None.ensures.value c.stray_fault.ensures
