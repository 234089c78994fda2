use Rattle.std.proofs.Common.{◌≡◌, ◌∙◌, arith}
use Rattle.std.proofs.lemmas.Bool.Decides.{nat_tests}
use Rattle.py_lexer.proofs.KeywordLemmas.{of_length_2, of_length_3, of_length_4, of_length_5, of_length_6, of_length_7, of_length_8, of_no_length}
use Rattle.py_lexer.proofs.name.keyword_of.Goals as goal

pub returns-in-2 : goal.returns-in-2
returns-in-2 c = c.of_two.ensures ∙ of_length_2 c.args.text.now c.in-2.is

pub returns-in-3 : goal.returns-in-3
returns-in-3 c = c.of_three.ensures ∙ of_length_3 c.args.text.now c.in-3.is

pub returns-in-4 : goal.returns-in-4
returns-in-4 c = c.of_four.ensures ∙ of_length_4 c.args.text.now c.in-4.is

pub returns-in-5 : goal.returns-in-5
returns-in-5 c = c.of_five.ensures ∙ of_length_5 c.args.text.now c.in-5.is

pub returns-in-6 : goal.returns-in-6
returns-in-6 c = c.of_six.ensures ∙ of_length_6 c.args.text.now c.in-6.is

pub returns-in-7 : goal.returns-in-7
returns-in-7 c = c.of_seven.ensures ∙ of_length_7 c.args.text.now c.in-7.is

pub returns-in-8 : goal.returns-in-8
returns-in-8 c = c.of_eight.ensures ∙ of_length_8 c.args.text.now c.in-8.is

pub returns-in_default : goal.returns-in_default
returns-in_default c = of_no_length c.args.text.now (grind (arith, nat_tests))
