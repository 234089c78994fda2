-- The parts of a list, one after another: what is read, and what is left.
use Rattle.std.proofs.Common.{◌≡◌, ◌<◌, true, List, [], ◌∷◌, ◌++◌, map, length, Option, Some, None, Err, refl, sym, ap, ◌∙◌, arith, append_assoc, append-nil, length-append}
use Rattle.std.specs.Prelude.{◌≢◌}
use Rattle.py_cut.proofs.Cuts as cuts
use Rattle.py_language.specs.declared.shape.Symbol.{Symbol}
use Rattle.py_language.specs.Trees.{◌>>=◌, each, comma_list}
use Rattle.py_language.specs.TreesPlaces.{Listed, start, next, at, front, back, pieces, split, trimmed}
use Rattle.py_expr_shape.specs.declared.cut.Separator.{Separator}
use Rattle.py_expr_shape.specs.declared.cut.Separator.TheVariants as separator
use Rattle.py_expr_shape.specs.declared.fault.ExprFault.{ExprFault}
use Rattle.py_expr_shape.specs.declared.fault.ExprFault.TheVariants.{Refused, Memory}
use Rattle.py_expr_shape.specs.Cuts.{separates, begins_anew, pieces_from, tail}
use Rattle.py_expr_shape.specs.Reads.{Gives, prepend}
use Rattle.py_expr_shape.proofs.CutLemmas.{pieces_back}

module _ {T : Type 0} where
  -- one part, and then the others
  abbrev pub one_and : Option T → Option (List T) → Option (List T)
  one_and p rest = p >>= λ first. rest >>= λ others. Some (first ∷ others)

  pub prepend_none : (o : Option (List T)) → o ≡ prepend [] o
  prepend_none None = refl
  prepend_none (Some xs) = refl

  prepend_one : (all : List T) (x : T) (o : Option (List T)) → prepend all (one_and (Some x) o) ≡ prepend (all ++ x ∷ []) o
  prepend_one all x None = refl
  prepend_one all x (Some xs) = ap Some (sym (append_assoc all (x ∷ []) xs))

  module _ (whole before rest : Option (List T)) (all : List T) (p : Option T) (w : whole ≡ prepend all before) (b : before ≡ one_and p rest) where
    pub goes_on : (x : T) (more : List T) → p ≡ Some x → more ≡ all ++ x ∷ [] → whole ≡ prepend more rest
    goes_on x more e m = w ∙ ap (prepend all) (b ∙ ap (λ o. one_and o rest) e) ∙ prepend_one all x rest ∙ ap (λ ys. prepend ys rest) (sym m)

    pub stopped : (e : ExprFault) → Gives {A = T} (Err e) p → Gives {A = List T} (Err e) whole
    stopped Refused n = w ∙ ap (prepend all) (b ∙ ap (λ o. one_and o rest) n)
    stopped Memory n = tt

  pub ended : (whole before : Option (List T)) (all : List T) → whole ≡ prepend all before → before ≡ Some [] → whole ≡ Some all
  ended whole before all w e = w ∙ ap (prepend all) e ∙ ap Some (append-nil all)

trimmed_cons : (a b : List Symbol) (bs : List (List Symbol)) → trimmed (a ∷ b ∷ bs) ≡ a ∷ trimmed (b ∷ bs)
trimmed_cons [] b bs = refl
trimmed_cons (x ∷ a) b bs = refl

trimmed_next : (a r : List Symbol) → a ++ r ≢ [] → trimmed (a ∷ map (λ p. p.1) (pieces_from separator.Comma r)) ≡ a ∷ trimmed (split Listed (tail r))
trimmed_next [] [] n = absurd (n refl)
trimmed_next (x ∷ a) [] n = refl
trimmed_next a (y ∷ ys) n = trimmed_cons a (front (at Listed) ys) (map (λ p. p.1) (pieces (at Listed) ys))

parts_next : (xs : List Symbol) → xs ≢ [] → trimmed (split Listed xs) ≡ front (at Listed) xs ∷ trimmed (split Listed (tail (back (at Listed) xs)))
parts_next xs n =
    ap (λ ps. trimmed (front (at Listed) xs ∷ map (λ p. p.1) ps)) (pieces_back separator.Comma xs (back (at Listed) xs) refl refl)
    ∙ trimmed_next (front (at Listed) xs) (back (at Listed) xs) (λ e. n (sym (cuts.front-back next (at Listed) start xs) ∙ e))

-- the items between commas: the first one, and those of what is after the comma
pub items_next : {T : Type 0} (f : List Symbol → Option T) (xs part others : List Symbol) (y : Symbol) (ys : List Symbol) → xs ≡ y ∷ ys → part ≡ front (at Listed) xs → others ≡ back (at Listed) xs
    → comma_list f xs ≡ one_and (f part) (comma_list f (tail others))
items_next f xs part others y ys e p o = rw (p, o) (ap (each f) (parts_next xs (λ n. let w = sym e ∙ n in cc)))

-- the parts after separators: the first one, and those from the next separator on
pub pieces_next : {T : Type 0} (f : Symbol × List Symbol → Option T) (q : Separator) (xs part others : List Symbol) (y : Symbol) (ys : List Symbol) → begins_anew q ≡ true → xs ≡ y ∷ ys
    → part ≡ front (separates q) ys → others ≡ back (separates q) ys → each f (pieces_from q xs) ≡ one_and (f (y, part)) (each f (pieces_from q others))
pieces_next f q xs part others y ys h e p o = rw (e, p) (ap (λ ps. one_and (f (y, front (separates q) ys)) (each f ps)) (pieces_back q ys others h o))

pub tail_decreases : (xs others : List Symbol) (q : Separator) (y : Symbol) (ys : List Symbol) → xs ≡ y ∷ ys → others ≡ back (separates q) xs → length (tail others) < length xs
tail_decreases xs [] q y ys e o = omega (arith, ap length e)
tail_decreases xs (z ∷ zs) q y ys e o = omega (arith, ap length o, cuts.back-shorter next (separates q) start xs)

pub back_decreases : (xs others : List Symbol) (q : Separator) (y : Symbol) (ys : List Symbol) → xs ≡ y ∷ ys → others ≡ back (separates q) ys → length others < length xs
back_decreases xs others q y ys e o = omega (arith, ap length e, ap length o, cuts.back-shorter next (separates q) start ys)
