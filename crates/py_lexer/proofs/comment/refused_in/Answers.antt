use Rattle.std.proofs.Common.{◌∙◌, ap, refl, arith}
use Rattle.py_language.specs.TokensCharacters.{decoded}
use Rattle.py_language.specs.TokensFaults.{first_refused}
use Rattle.py_lexer.proofs.CommentLemmas.{refused_ascii, refused_here, refused_wide, refused_bad, refused_none}
use Rattle.py_lexer.proofs.comment.refused_in.Goals as goal

pub returns-in-13 : goal.returns-in-13
returns-in-13 c = refused_here c.loop-b.rest.now c.in-Some.more.now c.in-Some.b.now 13 _ c.in-Some.ensures.cases.0 c.in-13.is (omega arith) refl c.loop-b.invariant

pub returns-in-12 : goal.returns-in-12
returns-in-12 c = refused_here c.loop-b.rest.now c.in-Some.more.now c.in-Some.b.now 12 _ c.in-Some.ensures.cases.0 c.in-12.is (omega arith) refl c.loop-b.invariant

pub loop-b-preserved-then-b-lt128 : goal.loop-b-preserved-then-b-lt128
loop-b-preserved-then-b-lt128 c = refused_ascii c.loop-b.rest.now c.in-Some.more.now c.in-Some.b.now _ c.in-Some.ensures.cases.0 (omega arith) (λ e. omega arith) (λ e. omega arith) c.loop-b.invariant

pub loop-b-preserved : goal.loop-b-preserved
loop-b-preserved c =
    ap (λ xs. first_refused (decoded xs)) c.split_at.ensures.back
    ∙ refused_wide c.loop-b.rest.now c.in-Some.more.now c.in-Some-character_at.s.now c.in-Some.b.now _ c.in-Some.ensures.cases.0 (omega arith) c.in-Some-character_at.ensures.found c.in-Some-character_at.ensures.is_character c.loop-b.invariant

pub returns-in-None : goal.returns-in-None
returns-in-None c = refused_bad c.loop-b.rest.now c.in-Some.more.now c.in-Some.b.now _ c.in-Some.ensures.cases.0 (omega arith) c.in-None.ensures.none c.loop-b.invariant

pub returns : goal.returns
returns c = refused_none c.loop-b.rest.now _ c.in_default.ensures.cases c.loop-b.invariant
