-- The parts of a list, one after another: what is read, and what is left.
use Rattle.std.proofs.Common.{◌≡◌, ℕ, ◌<◌, cond, Bool, true, false, List, [], ◌∷◌, ◌++◌, map, length, Option, Some, None, Err, refl, sym, ap, ◌∙◌, arith, append_assoc, append-nil}
use Rattle.std.specs.Prelude.{◌≢◌, ◌==◌, ◌&&◌}
use Rattle.std.proofs.lemmas.Bool.Decides.{nat_tests}
use Rattle.py_cut.specs.Cut as cut
use Rattle.py_cut.proofs.Cuts as cuts
use Rattle.py_expr_shape.specs.declared.fault.ExprFault.{ExprFault}
use Rattle.py_expr_shape.specs.declared.fault.ExprFault.TheVariants.{Refused, Memory}
use Rattle.py_expr_shape.specs.Reads.{Gives, prepend}
use Rattle.py_language.specs.declared.token.Token.{Token}
use Rattle.py_language.specs.declared.token.Token.TheVariants.{Mark}
use Rattle.py_language.specs.declared.token.Mark.TheVariants as mark
use Rattle.py_language.specs.Trees.{◌>>=◌, each}
use Rattle.py_grammar.specs.declared.separator.Separator.{Separator}
use Rattle.py_grammar.specs.declared.separator.Separator.TheVariants.{Semicolon, Comma}
use Rattle.py_grammar.specs.Separators.{opened, marks, outside, front, back, split, trimmed, parts, all_parts}
use Rattle.py_line.specs.Reads.{is_list_separator, tail, behind}

module _ {T : Type 0} where
  -- one part, and then the others
  abbrev pub one_and : Option T → Option (List T) → Option (List T)
  one_and p rest = p >>= λ first. rest >>= λ others. Some (first ∷ others)

  pub prepend_none : (o : Option (List T)) → o ≡ prepend [] o
  prepend_none None = refl
  prepend_none (Some xs) = refl

  prepend_one : (all : List T) (x : T) (o : Option (List T)) → prepend all (one_and (Some x) o) ≡ prepend (all ++ x ∷ []) o
  prepend_one all x None = refl
  prepend_one all x (Some xs) = ap Some (sym (append_assoc all (x ∷ []) xs))

  module _ (whole before rest : Option (List T)) (all : List T) (p : Option T) (w : whole ≡ prepend all before) (b : before ≡ one_and p rest) where
    pub goes_on : (x : T) (more : List T) → p ≡ Some x → more ≡ all ++ x ∷ [] → whole ≡ prepend more rest
    goes_on x more e m = w ∙ ap (prepend all) (b ∙ ap (λ o. one_and o rest) e) ∙ prepend_one all x rest ∙ ap (λ ys. prepend ys rest) (sym m)

    pub stopped : (e : ExprFault) → Gives {A = T} (Err e) p → Gives {A = List T} (Err e) whole
    stopped Refused n = w ∙ ap (prepend all) (b ∙ ap (λ o. one_and o rest) n)
    stopped Memory n = tt

  pub ended : (whole before : Option (List T)) (all : List T) → whole ≡ prepend all before → before ≡ Some [] → whole ≡ Some all
  ended whole before all w e = w ∙ ap (prepend all) e ∙ ap Some (append-nil all)

and_true : (a b : Bool) → (a && b) ≡ true → (a ≡ true) × (b ≡ true)
and_true true b h = (refl, h)
and_true false b h = absurd (cc)

unopened : (q : Separator) → is_list_separator q ≡ true → (x : Token) → marks q x ≡ true → (depth : ℕ) → opened depth x ≡ depth
unopened Semicolon h (Mark mark.Semicolon) m depth = refl
unopened Comma h (Mark mark.Comma) m depth = refl
unopened q h x m depth = absurd (cc)

module _ (q : Separator) (h : is_list_separator q ≡ true) where
  -- behind a separator no bracket is open
  anew : (depth : ℕ) (x : Token) → outside q depth x ≡ true → opened depth x ≡ 0
  unfolding outside
  anew depth x m =
      let p = and_true (depth == 0) (marks q x) m in
      unopened q h x p.1 depth ∙ grind (arith, nat_tests, p.0)

  behind_by : (depth : ℕ) (x : Token) (xs : List Token) (b : Bool) → outside q depth x ≡ b → map (λ p. p.1) (cut.pieces opened (outside q) (opened depth x) xs) ≡ behind q (cut.back opened (outside q) (opened depth x) xs)
      → map (λ p. p.1) (cond b ((x, cut.front opened (outside q) (opened depth x) xs) ∷ cut.pieces opened (outside q) (opened depth x) xs) (cut.pieces opened (outside q) (opened depth x) xs)) ≡ behind q (cond b (x ∷ xs) (cut.back opened (outside q) (opened depth x) xs))
  behind_by depth x xs true e g = rw (anew depth x e) refl
  behind_by depth x xs false e g = g

  behind_at : (depth : ℕ) (xs : List Token) → map (λ p. p.1) (cut.pieces opened (outside q) depth xs) ≡ behind q (cut.back opened (outside q) depth xs)
  behind_at depth [] = refl
  behind_at depth (x ∷ xs) = behind_by depth x xs (outside q depth x) refl (behind_at (opened depth x) xs)

  -- the first part, and those from the first separator on
  pub split_next : (xs : List Token) → split q xs ≡ front q xs ∷ behind q (back q xs)
  split_next xs = ap (λ ps. front q xs ∷ ps) (behind_at 0 xs)

  trimmed_cons : (a b : List Token) (bs : List (List Token)) → trimmed (a ∷ b ∷ bs) ≡ a ∷ trimmed (b ∷ bs)
  trimmed_cons [] b bs = refl
  trimmed_cons (x ∷ a) b bs = refl

  trimmed_next : (a r : List Token) → a ++ r ≢ [] → trimmed (a ∷ behind q r) ≡ a ∷ trimmed (split q (tail r))
  trimmed_next [] [] n = absurd (n refl)
  trimmed_next (x ∷ a) [] n = refl
  trimmed_next a (y ∷ ys) n = trimmed_cons a (front q ys) (map (λ p. p.1) (cut.pieces opened (outside q) 0 ys))

  module _ {T : Type 0} (f : List Token → Option T) where
    pub parts_next : (xs part others : List Token) (y : Token) (ys : List Token) → xs ≡ y ∷ ys → part ≡ front q xs → others ≡ back q xs → parts q f xs ≡ one_and (f part) (parts q f (tail others))
    parts_next xs part others y ys e p o =
        rw (p, o) (ap (λ ps. each f (trimmed ps)) (split_next xs) ∙ ap (each f) (trimmed_next (front q xs) (back q xs) (λ w. let n = sym e ∙ sym (cuts.front-back opened (outside q) 0 xs) ∙ w in cc)))

    pub all_next : (xs part others : List Token) → part ≡ front q xs → others ≡ back q xs → all_parts q f xs ≡ one_and (f part) (each f (behind q others))
    all_next xs part others p o = rw (p, o) (ap (each f) (split_next xs))

    pub behind_next : (xs part others : List Token) (y : Token) (ys : List Token) → xs ≡ y ∷ ys → part ≡ front q ys → others ≡ back q ys → each f (behind q xs) ≡ one_and (f part) (each f (behind q others))
    behind_next xs part others y ys e p o = rw e (all_next ys part others p o)

pub tail_decreases : (xs others : List Token) (q : Separator) (y : Token) (ys : List Token) → xs ≡ y ∷ ys → others ≡ back q xs → length (tail others) < length xs
tail_decreases xs [] q y ys e o = omega (arith, ap length e)
tail_decreases xs (z ∷ zs) q y ys e o = omega (arith, ap length o, cuts.back-shorter opened (outside q) 0 xs)

pub back_decreases : (xs others : List Token) (q : Separator) (y : Token) (ys : List Token) → xs ≡ y ∷ ys → others ≡ back q ys → length others < length xs
back_decreases xs others q y ys e o = omega (arith, ap length e, ap length o, cuts.back-shorter opened (outside q) 0 ys)
