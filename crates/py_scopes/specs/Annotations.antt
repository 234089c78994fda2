-- Annotations: which names they may have, with how many parts in brackets, and where (PEP 484, 563 and 604, and the manual's chapter on typing).
use Rattle.std.specs.Prelude.{ℕ, Bool, true, false, ◌&&◌, ◌||◌, ◌==◌, not, nat_le, if◌then◌else◌, List, [], ◌∷◌, length, Option, Some, None, is_some, codes}
use Rattle.std.specs.List.{list_any, flat_map}
use Rattle.pyn_base.specs.declared.class.BuiltClass.{BuiltClass}
use Rattle.pyn_base.specs.declared.class.BuiltClass.TheVariants.{Exception}
use Rattle.pyn_base.specs.declared.class.ClassId.TheVariants.{Built}
use Rattle.py_syntax.specs.declared.module.Item.{Item}
use Rattle.py_syntax.specs.declared.stmt.Annotation.{Annotation, Annotation-F, fold-Annotation}
use Rattle.py_meaning.specs.Methods.{named, is_among}
use Rattle.py_meaning.specs.Values.{same_class}
use Rattle.py_plain.specs.BuiltNames.{built_classes, built_bases}
use Rattle.py_scopes.specs.Names.{classes_in, imports_in}

-- ---- the table of names

abbrev pub Spellings : Type 0
Spellings = List (List ℕ)

-- how many parts in brackets a name may have
pub data Parts : Type 0 where
  NoParts : Parts
  NoneOr : ℕ → Parts
  Exactly : ℕ → Parts
  AtLeastOne : Parts
  AnyNumber : Parts

abbrev pub allows : Parts → ℕ → Bool
allows NoParts n = n == 0
allows (NoneOr k) n = n == 0 || n == k
allows (Exactly k) n = n == k
allows AtLeastOne n = nat_le 1 n
allows AnyNumber n = true

-- names that are there without an import
abbrev pub built_generics : List (List ℕ × Parts)
built_generics = (codes "list", NoneOr 1) ∷ (codes "dict", NoneOr 2) ∷ (codes "tuple", AnyNumber) ∷ []

-- names that may be imported from typing
abbrev pub typing_names : List (List ℕ × Parts)
typing_names = (codes "List", NoneOr 1) ∷ (codes "Collection", NoneOr 1) ∷ (codes "Container", NoneOr 1) ∷ (codes "FrozenSet", NoneOr 1) ∷ (codes "Iterable", NoneOr 1)
    ∷ (codes "Iterator", NoneOr 1) ∷ (codes "MutableSequence", NoneOr 1) ∷ (codes "Sequence", NoneOr 1) ∷ (codes "Set", NoneOr 1) ∷ (codes "Type", NoneOr 1)
    ∷ (codes "Dict", NoneOr 2) ∷ (codes "DefaultDict", NoneOr 2) ∷ (codes "Mapping", NoneOr 2) ∷ (codes "MutableMapping", NoneOr 2) ∷ (codes "Tuple", AnyNumber)
    ∷ (codes "Optional", Exactly 1) ∷ (codes "Union", AtLeastOne) ∷ (codes "ClassVar", NoneOr 1) ∷ (codes "Final", NoneOr 1) ∷ (codes "NoReturn", NoParts)
    ∷ (codes "Any", NoParts) ∷ (codes "Callable", NoParts) ∷ []

-- names that are a whole annotation or none
abbrev pub whole_names : Spellings
whole_names = codes "ClassVar" ∷ codes "Final" ∷ codes "NoReturn" ∷ []

abbrev pub plain_names : Spellings
plain_names = codes "int" ∷ codes "bool" ∷ codes "str" ∷ codes "object" ∷ []

abbrev pub is_typing_name : List ℕ → Bool
is_typing_name name = is_some (named typing_names name)

abbrev pub is_exception : Option BuiltClass → Bool
is_exception None = false
is_exception (Some class) = list_any (λ above. same_class (Built above) (Built Exception)) (class ∷ built_bases class)

-- a built-in exception's name
abbrev pub is_exception_name : List ℕ → Bool
is_exception_name name = is_exception (named built_classes name)

-- ---- the parts of an annotation

abbrev pub names_by : Annotation-F Spellings → Spellings
names_by (Annotation-F.Named name parts) = name ∷ flat_map (λ names. names) parts
names_by Annotation-F.NoneType = []
names_by (Annotation-F.OrNone names) = names
names_by (Annotation-F.Quoted names) = names

-- every name in it, in quotes too
unfoldable pub names_in : Annotation → Spellings
names_in = fold-Annotation Spellings names_by

abbrev pub unquoted_by : Annotation-F Spellings → Spellings
unquoted_by (Annotation-F.Quoted names) = []
unquoted_by other = names_by other

-- those that are looked up where it is evaluated
unfoldable pub unquoted_in : Annotation → Spellings
unquoted_in = fold-Annotation Spellings unquoted_by

-- ---- faults

-- where an annotation is: in another one's brackets or before `| None`, in quotes, and whether it is evaluated
pub record Where : Type 0 where
  pub inside : Bool
  pub quoted : Bool
  pub evaluated : Bool

abbrev pub inner : Where → Where
inner at = record at { inside = true }

abbrev pub in_quotes : Where → Where
in_quotes at = record at { quoted = true; evaluated = false }

pub record Checked : Type 0 where
  pub is_none : Bool
  pub is_quoted : Bool
  pub is_faulty : Where → Bool

-- a part that is neither `None` nor in quotes
abbrev pub checked : (Where → Bool) → Checked
checked is_faulty = record { is_none = false; is_quoted = false; is_faulty = is_faulty }

-- all items of the module, and those before the one in which the annotation is
module _ (items : List Item) (before : List Item) where
  abbrev pub parts_of_row : Option Parts → ℕ → Bool
  parts_of_row None n = false
  parts_of_row (Some parts) n = allows parts n

  -- A class of the module has no parts. What isn't known has none that are right.
  abbrev pub takes_parts : List ℕ → ℕ → Bool
  takes_parts name n =
      if is_among (classes_in items) name then n == 0
      else (if is_among plain_names name || is_exception_name name then n == 0
      else (parts_of_row (named built_generics name) n || (is_among (imports_in items) name && parts_of_row (named typing_names name) n)))

  -- a class that hasn't ended, or a name that isn't imported yet
  abbrev pub is_late : List ℕ → Bool
  is_late name =
      if is_among (classes_in items) name then not (is_among (classes_in before) name)
      else (is_among (imports_in items) name && not (is_among (imports_in before) name))

  abbrev pub name_faulty : List ℕ → ℕ → Where → Bool
  name_faulty name n at = not (takes_parts name n) || (is_among whole_names name && (at.inside || at.quoted)) || (at.evaluated && is_late name)

  abbrev pub checked_by : Annotation-F Checked → Checked
  checked_by (Annotation-F.Named name parts) = checked (λ at. name_faulty name (length parts) at || list_any (λ (part : Checked). part.is_faulty (inner at)) parts)
  checked_by Annotation-F.NoneType = record { is_none = true; is_quoted = false; is_faulty = λ at. false }
  checked_by (Annotation-F.OrNone part) = checked (λ at. part.is_none || (at.evaluated && part.is_quoted) || part.is_faulty (inner at))
  checked_by (Annotation-F.Quoted part) = record { is_none = false; is_quoted = true; is_faulty = λ at. part.is_faulty (in_quotes at) }

  unfoldable pub faulty : Annotation → Where → Bool
  faulty annotation = (fold-Annotation Checked checked_by annotation).is_faulty

  unfoldable pub none_of : Annotation → Bool
  none_of annotation = (fold-Annotation Checked checked_by annotation).is_none

  unfoldable pub quoted_of : Annotation → Bool
  quoted_of annotation = (fold-Annotation Checked checked_by annotation).is_quoted

  -- an annotation by itself, where it is evaluated or isn't
  abbrev pub is_faulty : Bool → Annotation → Bool
  is_faulty evaluated annotation = faulty annotation (record { inside = false; quoted = false; evaluated = evaluated })
