-- A name or a literal that is alone is the same at each level.
use Rattle.std.proofs.Common.{◌≡◌, List, [], ◌∷◌, Option, Some, refl}
use Rattle.py_language.specs.declared.shape.Atom.{Atom}
use Rattle.py_language.specs.declared.shape.Shape.{Shape}
use Rattle.py_language.specs.declared.shape.Shape.TheVariants as e
use Rattle.py_language.specs.declared.shape.Symbol.{Symbol}
use Rattle.py_language.specs.declared.shape.Symbol.TheVariants as s
use Rattle.py_language.specs.Trees.{at_level, listed, conditional, disjunction, conjunction, negation, comparison, sum, product, signed, postfix}
use Rattle.py_language.specs.TreesPlaces.{Level, Listed, Conditional, Disjunction, Conjunction, Negation, Comparison, Sum, Product, Signed, Postfix, at, below}

pub lone_atom : (part : Level → List Symbol → Option Shape) (l : Level) (a : Atom) → at_level part l (s.Atom a ∷ []) ≡ Some (e.Atom a)
unfolding listed conditional disjunction conjunction negation comparison sum product signed postfix at below
lone_atom part Listed a = refl
lone_atom part Conditional a = refl
lone_atom part Disjunction a = refl
lone_atom part Conjunction a = refl
lone_atom part Negation a = refl
lone_atom part Comparison a = refl
lone_atom part Sum a = refl
lone_atom part Product a = refl
lone_atom part Signed a = refl
lone_atom part Postfix a = refl
