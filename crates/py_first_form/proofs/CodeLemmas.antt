use Rattle.std.proofs.Common.{◌≡◌, ◌≢◌, refl, sym, ap, ap₂, ◌∙◌, subst, ℕ, suc, ◌+◌, ◌<◌, ◌==◌, Bool, true, false, cond, ◌||◌, List, [], ◌∷◌, ◌++◌, length, map, drop, Option, Some, None, option_and_then, Result, Err, bytes_eq, arith}
use Rattle.std.specs.Option.{option_map_or}
use Rattle.std.specs.List.{onto_first}
use Rattle.std.specs.BTreeSet.{BTreeSet}
use Rattle.std.proofs.lemmas.Bool.{both_ways}
use Rattle.std.proofs.lemmas.Option.{none-some}
use denote.Ref.{Bor}
use Rattle.pyn_base.specs.declared.construct.Construct.TheVariants.{Form}
use Rattle.py_syntax.specs.Gives.{Gives}
use Rattle.py_syntax.specs.declared.expr.ExprKind.{ExprKind}
use Rattle.py_syntax.specs.declared.refusal.Refusal.{Refusal}
use Rattle.py_syntax.specs.declared.refusal.Refusal.TheVariants.{Refused}
use Rattle.py_syntax.specs.declared.module.Module.{Module}
use Rattle.py_language.specs.declared.first.First.{First}
use Rattle.py_language.specs.FirstForm.{lines_of, named_by, returned_by, is_empty_line, is_among, name_of, Head, names_up_to, functions_of, answer}
use Rattle.py_first_form.specs.Cut.{first_line}
use Rattle.py_first_form.specs.Names.{knows, new_name}
use Rattle.py_language.proofs.FirstFormLemmas.{is_among-append, awaited, awaited-first}
use Rattle.py_language.proofs.FirstFormLemmas.{Begins, Holds, names-push}

-- ---- lines that were cut off one by one

opened : (lines rest : List (List ℕ)) (line : List ℕ) → line ≡ first_line lines → rest ≡ drop 1 lines → line ≢ [] → lines ≡ line ∷ rest
opened [] rest line e r n = absurd (n e)
opened (first ∷ more) rest line e r n = ap₂ (λ a b. a ∷ b) (sym e) (sym r)

pub opened_def : (lines rest : List (List ℕ)) (line name : List ℕ) → line ≡ first_line lines → rest ≡ drop 1 lines → named_by line ≡ Some name → lines ≡ line ∷ rest
opened_def lines rest line name e r h = opened lines rest line e r (λ empty. none-some name (ap named_by (sym empty) ∙ h))

pub opened_return : (lines rest : List (List ℕ)) (line : List ℕ) (literal : ExprKind) → line ≡ first_line lines → rest ≡ drop 1 lines → returned_by line ≡ Some literal → lines ≡ line ∷ rest
opened_return lines rest line literal e r h = opened lines rest line e r (λ empty. none-some literal (ap returned_by (sym empty) ∙ h))

pub opened_gap : (lines rest : List (List ℕ)) (line : List ℕ) → line ≡ first_line lines → rest ≡ drop 1 lines → is_empty_line line ≡ true → lines ≡ line ∷ rest
opened_gap lines rest line e r h = opened lines rest line e r (λ empty. both_ways false refl (ap is_empty_line (sym empty) ∙ h))

-- ---- the set of names

abbrev pub KnowsAll : BTreeSet (Bor (List ℕ)) → List First → Type 0
KnowsAll names done = (name : List ℕ) → knows names name ≡ is_among (map name_of done) name

abbrev up_to : List First → Option (List ℕ) → Option (List (List ℕ))
up_to done o = option_and_then (λ name. cond (is_among (map name_of done) name) None (Some (map name_of done ++ name ∷ []))) o

abbrev new_of : BTreeSet (Bor (List ℕ)) → Option (List ℕ) → Option (List ℕ)
new_of names o = option_and_then (λ name. cond (knows names name) None (Some name)) o

refused_by : (done : List First) (t : Bool) (name : List ℕ) → cond t None (Some name) ≡ None → cond t None (Some (map name_of done ++ name ∷ [])) ≡ None
refused_by done true name e = refl
refused_by done false name e = absurd (none-some name (sym e))

refused_of : (names : BTreeSet (Bor (List ℕ))) (done : List First) (o : Option (List ℕ)) → KnowsAll names done → new_of names o ≡ None → up_to done o ≡ None
refused_of names done None k e = refl
refused_of names done (Some name) k e =
    ap (λ t. cond t None (Some (map name_of done ++ name ∷ []))) (sym (k name)) ∙ refused_by done (knows names name) name e

pub no_new_name : (names : BTreeSet (Bor (List ℕ))) (done : List First) (line : List ℕ) → KnowsAll names done → new_name names line ≡ None → names_up_to Head (map name_of done) line ≡ None
no_new_name names done line k e = refused_of names done (named_by line) k e

-- what a name that was found tells
record Found (done : List First) (o : Option (List ℕ)) (name : List ℕ) : Type 0 where
  is : o ≡ Some name
  fresh : is_among (map name_of done) name ≡ false

found_by : (done : List First) (t : Bool) (other name : List ℕ) → is_among (map name_of done) other ≡ t → cond t None (Some other) ≡ Some name → Found done (Some other) name
found_by done true other name f e = absurd (none-some name e)
found_by done false other name f e =
    let same : other ≡ name = ap (λ o. option_map_or (λ x. x) o other) e in
    record { is = e; fresh = ap (is_among (map name_of done)) (sym same) ∙ f }

found_of : (names : BTreeSet (Bor (List ℕ))) (done : List First) (o : Option (List ℕ)) (name : List ℕ) → KnowsAll names done → new_of names o ≡ Some name → Found done o name
found_of names done None name k e = absurd (none-some name e)
found_of names done (Some other) name k e = found_by done (knows names other) other name (sym (k other)) e

pub begins_with : (names : BTreeSet (Bor (List ℕ))) (done : List First) (line name : List ℕ) → KnowsAll names done → new_name names line ≡ Some name → Begins done line name
begins_with names done line name k e =
    let found = found_of names done (named_by line) name k e in
    record { named = found.is; fresh = found.fresh }

turned_or : (x y : Bool) → (x || y) ≡ (y || (x || false))
turned_or true true = refl
turned_or true false = refl
turned_or false true = refl
turned_or false false = refl

pub knows_more : (old new : BTreeSet (Bor (List ℕ))) (done : List First) (function : First) → KnowsAll old done
    → ((other : List ℕ) → knows new other ≡ (bytes_eq function.name other || knows old other)) → KnowsAll new (done ++ function ∷ [])
knows_more old new done function k added = λ name.
    added name
    ∙ ap (λ t. bytes_eq function.name name || t) (k name)
    ∙ turned_or (bytes_eq function.name name) (is_among (map name_of done) name)
    ∙ sym (is_among-append (map name_of done) (function.name ∷ []) name)
    ∙ ap (λ names. is_among names name) (sym (names-push done function))

-- ---- a refusal

pub gives_refused : (refusal : Refusal) (line place k : ℕ) (defined : Result Module Refusal) → refusal ≡ Refused line Form → line ≡ place + k → defined ≡ Err (Refused (place + k) Form) → Gives (Err refusal) defined
gives_refused refusal line place k defined e l d =
    let P : Refusal → Type 0 = λ r. Gives (Err r) defined in
    subst P (sym e) (d ∙ ap (λ n. Err (Refused n Form)) (sym l))

-- ---- one turn of the reader

-- a function was read from the first two lines
pub record Read (done : List First) (lines left : List (List ℕ)) (head body : List ℕ) (function : First) : Type 0 where
  pub lines_are : lines ≡ head ∷ body ∷ left
  pub holds : Holds done head body function

pub function_read : (done : List First) (names : BTreeSet (Bor (List ℕ))) (lines rest left : List (List ℕ)) (head body name : List ℕ) (literal : ExprKind)
    → head ≡ first_line lines → rest ≡ drop 1 lines → body ≡ first_line rest → left ≡ drop 1 rest
    → KnowsAll names done → new_name names head ≡ Some name → returned_by body ≡ Some literal → Read done lines left head body (record { name = name; literal = literal })
function_read done names lines rest left head body name literal h r b l k n e =
    let begins = begins_with names done head name k n in
    record {
      lines_are = opened_def lines rest head name h r begins.named ∙ ap (λ more. head ∷ more) (opened_return rest left body literal b l e);
      holds = record { begins = begins; returned = e };
    }

cons≢nil : {X : Type 0} (x : X) (xs : List X) → x ∷ xs ≡ [] → ⊥
cons≢nil x xs e = let size : suc (length xs) ≡ 0 = ap length e in omega (arith, size)

nonempty_by : (t : Bool) (c : ℕ) (lines : List (List ℕ)) (first : List ℕ) (rest : List (List ℕ)) → cond t (first ∷ rest) (onto_first c lines) ≢ []
nonempty_by true c lines first rest e = cons≢nil _ _ e
nonempty_by false c [] first rest e = cons≢nil _ _ e
nonempty_by false c (line ∷ lines) first rest e = cons≢nil _ _ e

pub some_lines : (text : List ℕ) → 0 < length text → lines_of text ≢ []
some_lines [] h = absurd (omega arith)
some_lines (c ∷ text) h = nonempty_by (c == 10) c (lines_of text) (10 ∷ []) (lines_of text)

pub no_lines : (text : List ℕ) → length text ≡ 0 → lines_of text ≡ []
no_lines [] e = refl
no_lines (c ∷ text) e = absurd (omega (arith, e))

pub opened_some : (lines rest : List (List ℕ)) (line : List ℕ) → line ≡ first_line lines → rest ≡ drop 1 lines → lines ≢ [] → lines ≡ line ∷ rest
opened_some [] rest line e r n = absurd (n refl)
opened_some (first ∷ more) rest line e r n = ap₂ (λ a b. a ∷ b) (sym e) (sym r)

pub awaited_at_first : (lines : List (List ℕ)) → lines ≢ [] → answer lines (functions_of lines) ≡ awaited [] lines
awaited_at_first [] n = absurd (n refl)
awaited_at_first (line ∷ lines) n = awaited-first line lines
