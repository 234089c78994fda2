-- A change whose missing key is answered otherwise.
use Rattle.std.proofs.Common.{◌≡◌, refl, subst, sym, ap, ◌∙◌, ℕ}
use Rattle.pyn_base.specs.declared.class.BuiltClass.{BuiltClass}
use Rattle.pyn_base.specs.declared.class.BuiltClass.TheVariants as built
use Rattle.py_meaning.specs.declared.op.Op.{Op}
use Rattle.py_meaning.specs.declared.op.Op.TheVariants as op
use Rattle.py_meaning.specs.declared.value.Value.{Value}
use Rattle.py_meaning.specs.Caught.{where_missing}
use Rattle.py_meaning.specs.Steps.{settle, UnlessMemory}
use Rattle.py_meaning.specs.Worlds.{World}

by_class : (world : World) (other : Value) (class : BuiltClass) (left : ℕ) → settle world (where_missing (other, world) (op.Raises class)) left ≡ (where_missing other (op.Raises class), world, left)
by_class world other built.Object left = refl
by_class world other built.Int left = refl
by_class world other built.Bool left = refl
by_class world other built.Str left = refl
by_class world other built.List left = refl
by_class world other built.Dict left = refl
by_class world other built.Tuple left = refl
by_class world other built.Exception left = refl
by_class world other built.ArithmeticError left = refl
by_class world other built.ZeroDivisionError left = refl
by_class world other built.LookupError left = refl
by_class world other built.IndexError left = refl
by_class world other built.KeyError left = refl
by_class world other built.ValueError left = refl
by_class world other built.TypeError left = refl
by_class world other built.AttributeError left = refl
by_class world other built.NameError left = refl
by_class world other built.UnboundLocalError left = refl
by_class world other built.AssertionError left = refl
by_class world other built.RuntimeError left = refl
by_class world other built.NotImplementedError left = refl

-- what is made of what a change answers
settled : (world : World) (other : Value) (answer : Op (Value × World)) (left : ℕ) → let found = settle world answer left in UnlessMemory found.0 (settle world (where_missing (other, world) answer) left ≡ (where_missing other found.0, found.1, found.2))
settled world other (op.Done made) left = refl
settled world other (op.Raises class) left = by_class world other class left
settled world other (op.Leaves construct) left = refl
settled world other op.OutOfSteps left = refl
settled world other op.Memory left = tt

pub passed : (world : World) (other : Value) (answer : Op (Value × World)) (left : ℕ) (found : Op Value) (new : World) (rest : ℕ)
    → settle world answer left ≡ (found, new, rest) → UnlessMemory found (settle world (where_missing (other, world) answer) left ≡ (where_missing other found, new, rest))
passed world other answer left found new rest e =
    subst (λ (t : Op Value × World × ℕ). UnlessMemory t.0 (settle world (where_missing (other, world) answer) left ≡ (where_missing other t.0, t.1, t.2))) e (settled world other answer left)

given_as : (result other : Op Value) (made : Op Value × World × ℕ) (new : World) (rest : ℕ) → made ≡ (other, new, rest) → UnlessMemory result (result ≡ other) → UnlessMemory result (made ≡ (result, new, rest))
given_as (op.Done x) other made new rest p h = p ∙ ap (λ r. (r, new, rest)) (sym h)
given_as (op.Raises class) other made new rest p h = p ∙ ap (λ r. (r, new, rest)) (sym h)
given_as (op.Leaves construct) other made new rest p h = p ∙ ap (λ r. (r, new, rest)) (sym h)
given_as op.OutOfSteps other made new rest p h = p ∙ ap (λ r. (r, new, rest)) (sym h)
given_as op.Memory other made new rest p h = tt

pub caught : (world : World) (other : Value) (answer : Op (Value × World)) (left : ℕ) (class : BuiltClass) (result : Op Value) (new : World) (rest : ℕ)
    → settle world answer left ≡ (op.Raises class, new, rest) → UnlessMemory result (result ≡ where_missing other (op.Raises class))
    → UnlessMemory result (settle world (where_missing (other, world) answer) left ≡ (result, new, rest))
caught world other answer left class result new rest e h = given_as result _ _ new rest (passed world other answer left (op.Raises class) new rest e) h

-- what isn't raised is passed on
pub not_raised : (world : World) (other : Value) (answer : Op (Value × World)) (left : ℕ) (found : Op Value) (new : World) (rest : ℕ) → ((class : BuiltClass) → found ≡ op.Raises class → ⊥)
    → UnlessMemory found (settle world answer left ≡ (found, new, rest)) → UnlessMemory found (settle world (where_missing (other, world) answer) left ≡ (found, new, rest))
not_raised world other answer left (op.Done x) new rest h e = passed world other answer left (op.Done x) new rest e
not_raised world other answer left (op.Raises class) new rest h e = absurd (h class refl)
not_raised world other answer left (op.Leaves construct) new rest h e = passed world other answer left (op.Leaves construct) new rest e
not_raised world other answer left op.OutOfSteps new rest h e = passed world other answer left op.OutOfSteps new rest e
not_raised world other answer left op.Memory new rest h e = tt
