use Rattle.std.proofs.Common.{◌≡◌, ◌∙◌, sym, ap, subst, length, List, ℕ}
use Rattle.py_meaning.specs.declared.value.Value.{Value, Value-F, out-Value}
use Rattle.py_meaning.specs.declared.value.Value.TheVariants.{outs-Str}
use Rattle.py_meaning.specs.Steps.{costs, UnlessMemory}
use Rattle.py_meaning.specs.Texts.{stripped, is_one_of}
use Rattle.py_meaning.specs.TextMethods.{text, strip_by}
use Rattle.py_methods.proofs.texts.strip_by.Goals as goal

pub returns-in-Str-clause-meant : goal.returns-in-Str-clause-meant
returns-in-Str-clause-meant c =
    subst (λ (x : Value-F Value). UnlessMemory c.strip_characters.result (strip_by x c.args.s.now c.args.fuel.now ≡ (c.strip_characters.result, c.strip_characters.new.fuel)))
    (sym (ap out-Value c.in-Str.is ∙ outs-Str c.in-Str.chars))
    (subst (λ (cs : List ℕ). UnlessMemory c.strip_characters.result (costs (length c.args.s.now) (text (stripped (is_one_of cs) c.args.s.now)) c.args.fuel.now ≡ (c.strip_characters.result, c.strip_characters.new.fuel)))
    c.as_slice.ensures c.strip_characters.ensures.meant)
