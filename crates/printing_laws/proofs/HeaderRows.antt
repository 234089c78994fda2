-- The line of a header, and of an import, that is read from the tokens of a text, with what is on its line.
use Rattle.std.proofs.Common.{refl, ℕ, List, [], ◌∷◌, Option}
use Rattle.std.specs.Prelude.{codes, map}
use Rattle.py_language.specs.declared.shape.Bracket.TheVariants.{Round}
use Rattle.py_language.specs.declared.token.Keyword.TheVariants as keyword
use Rattle.py_language.specs.declared.token.Mark.TheVariants as m
use Rattle.py_language.specs.declared.token.Token.{Token}
use Rattle.py_language.specs.declared.token.Token.TheVariants as t
use Rattle.py_language.specs.TokensNames.{keywords_of_2, keywords_of_3, keywords_of_4, keywords_of_5, keywords_of_6, keywords_of_7, keywords_of_8}
use Rattle.py_language.specs.TreesPlaces.{Level, Listed, Conditional}
use Rattle.py_syntax.specs.declared.expr.Expr.{Expr}
use Rattle.py_syntax.specs.declared.module.Param.{Param}
use Rattle.py_syntax.specs.declared.stmt.Annotation.{Annotation}
use Rattle.py_syntax.specs.declared.stmt.Stmt.{Stmt}
use Rattle.py_grammar.specs.declared.form.Header.{Header}
use Rattle.py_grammar.specs.declared.separator.Separator.TheVariants.{As, Closing, Comma, Equal, In}
use Rattle.py_grammar.specs.Annotations.{annotation}
use Rattle.py_grammar.specs.Forms as f
use Rattle.py_grammar.specs.Separators.{back, front, has, inside, parts, some_parts}
use Rattle.py_grammar.specs.Statements as g
use Rattle.py_printing.specs.Expressions.{expr_tokens, SoundTreesAreSound}
use Rattle.py_layout.specs.Headers.{as_tokens, base_tokens, classes_tokens, colon, header_before, header_tokens, lone, param_tokens, returns_tokens, with_default}
use Rattle.py_layout.specs.Modules.{import_tokens}
use Rattle.py_layout.specs.Small.{joined, list_tokens, typed_tokens}
use Rattle.py_layout.specs.Starts.{ExpressionsBegin}
use Rattle.py_layout.proofs.Good.{Good, AllGood, good_append, good_back, good_front}
use Rattle.py_annotation_layout.specs.Annotations.{annotation_tokens}
use Rattle.py_annotation_layout.specs.Laws.{AnnotationsAreSound}
use Rattle.printing_laws.proofs.Holds.{Maybe, no, yes, maybe_then}
use Rattle.printing_laws.proofs.Tokens.{Filled, IsIdentifier, All, some_after, joined_good, list_good, some_good, parts_good, all_good, shown_good, name_good, inside_good, ExprGood, AnnotationGood, annotation_good, expr_good}
use Rattle.printing_laws.proofs.SmallRows.{KindGood, small_good}

abbrev pub HeaderGood : Header → Type 0
HeaderGood header = Filled (header_tokens annotation_tokens header)

-- without the colon
abbrev pub Ahead : Header → Type 0
Ahead header = Good (header_before annotation_tokens header)

pub header_good : (header : Header) → Ahead header → HeaderGood header
header_good header k = (some_after (header_before annotation_tokens header) (t.Mark m.Colon) [], good_append (header_before annotation_tokens header) colon k (refl, tt))

-- ---- names

abbrev pub AllNames : List (List ℕ) → Type 0
AllNames ns = All g.name IsIdentifier name_good ns

lone_good : (n : List ℕ) → IsIdentifier n → Good (lone n)
lone_good n k = (k, tt)

names_good : (ns : List (List ℕ)) → AllNames ns → AllGood (map lone ns)
names_good ns k = shown_good g.name IsIdentifier name_good lone lone_good ns k

names_inside_good : (xs : List Token) → Good xs → Maybe AllNames (f.names_inside xs)
names_inside_good xs k = maybe_then Good (inside Round xs) _ (inside_good Round xs k) (λ content c. some_good g.name IsIdentifier name_good Comma content c)

pub imported_good : (xs : List Token) → Good xs → Maybe AllNames (f.imported xs)
imported_good (t.Mark m.LeftParen ∷ xs) k = names_inside_good xs k.1
imported_good xs k = all_good g.name IsIdentifier name_good Comma xs k

classes_good : (ns : List (List ℕ)) → AllNames ns → Good (classes_tokens ns)
classes_good [] k = (refl, (refl, tt))
classes_good (n ∷ []) k = (k.0, tt)
classes_good (n ∷ o ∷ ns) k = (refl, good_append (joined (map lone (n ∷ o ∷ ns))) (t.Mark m.RightParen ∷ []) (joined_good (map lone (n ∷ o ∷ ns)) (names_good (n ∷ o ∷ ns) k)) (refl, tt))

from_future : IsIdentifier (codes "__future__")
unfolding keywords_of_2 keywords_of_3 keywords_of_4 keywords_of_5 keywords_of_6 keywords_of_7 keywords_of_8
from_future = refl

annotations_name : IsIdentifier (codes "annotations")
unfolding keywords_of_2 keywords_of_3 keywords_of_4 keywords_of_5 keywords_of_6 keywords_of_7 keywords_of_8
annotations_name = refl

from_typing : IsIdentifier (codes "typing")
unfolding keywords_of_2 keywords_of_3 keywords_of_4 keywords_of_5 keywords_of_6 keywords_of_7 keywords_of_8
from_typing = refl

pub import_good : (ns : List (List ℕ)) → AllNames ns → Filled (import_tokens ns)
import_good [] k = (refl, (refl, (from_future, (refl, (annotations_name, tt)))))
import_good (n ∷ ns) k = (refl, (refl, (from_typing, (refl, joined_good (map lone (n ∷ ns)) (names_good (n ∷ ns) k)))))

-- ---- the headers without an expression

pub alone_good : (header : Header) (xs : List Token) → Ahead header → Maybe Ahead (g.alone header xs)
alone_good header [] k = yes k
alone_good header (x ∷ xs) k = no

handled_good : (xs : List Token) → Good xs → Maybe AllNames (f.handled xs)
handled_good (t.Name n ∷ []) k = yes (k.0, tt)
handled_good (t.Mark m.LeftParen ∷ xs) k = names_inside_good xs k.1
handled_good _ k = no

abbrev AsGood : Option (List ℕ) → Type 0
AsGood name = Good (as_tokens name)

as_good : (xs : List Token) → Good xs → Maybe AsGood (f.as_name xs)
as_good [] k = yes tt
as_good (x ∷ xs) k = maybe_then IsIdentifier (g.name xs) _ (name_good xs k.1) (λ n a. yes (refl, (a, tt)))

pub except_good : (xs : List Token) → Good xs → Maybe Ahead (f.except xs)
except_good [] k = yes (refl, tt)
except_good (x ∷ xs) k =
    maybe_then AllNames (f.handled (front As (x ∷ xs))) _ (handled_good (front As (x ∷ xs)) (good_front As (x ∷ xs) k))
    (λ classes a. maybe_then AsGood (f.as_name (back As (x ∷ xs))) _ (as_good (back As (x ∷ xs)) (good_back As (x ∷ xs) k))
    (λ bound b. yes (refl, good_append (classes_tokens classes) (as_tokens bound) (classes_good classes a) b)))

abbrev BaseGood : Option (List ℕ) → Type 0
BaseGood b = Good (base_tokens b)

base_in_good : (xs : List Token) → Good xs → Maybe BaseGood (f.base_in xs)
base_in_good [] k = yes tt
base_in_good (x ∷ xs) k = maybe_then IsIdentifier (g.name (x ∷ xs)) _ (name_good (x ∷ xs) k) (λ n a. yes (refl, (a, (refl, tt))))

base_good : (xs : List Token) → Good xs → Maybe BaseGood (f.base xs)
base_good xs k = maybe_then Good (inside Round xs) _ (inside_good Round xs k) (λ content c. base_in_good content c)

pub class_good : (xs : List Token) → Good xs → Maybe Ahead (f.class xs)
class_good (t.Name n ∷ []) k = yes (refl, (k.0, tt))
class_good (t.Name n ∷ t.Mark m.LeftParen ∷ xs) k = maybe_then BaseGood (f.base xs) _ (base_good xs k.1.1) (λ b a. yes (refl, (k.0, a)))
class_good _ k = no

module _ (sound_trees : SoundTreesAreSound) (begins : ExpressionsBegin) (annotations : AnnotationsAreSound) (line : ℕ) where
  -- ---- the headers with an expression

  abbrev ExprAt : Level → Expr → Type 0
  ExprAt level x = ExprGood sound_trees begins level x

  pub tested_good : (header : Expr → Header) (xs : List Token) → ((x : Expr) → Good (expr_tokens Conditional x) → Ahead (header x)) → Good xs → Maybe Ahead (f.tested line header xs)
  tested_good header xs make k = maybe_then (ExprAt Conditional) (g.expr line xs) _ (expr_good sound_trees begins line Conditional xs k) (λ x a. yes (make x a.1))

  for_by_good : (ahead xs : List Token) → Good ahead → Good xs → Maybe Ahead (f.for_by line ahead xs)
  for_by_good ahead [] k l = no
  for_by_good ahead (x ∷ xs) k l =
      maybe_then AllNames (some_parts Comma g.name ahead) _ (some_good g.name IsIdentifier name_good Comma ahead k)
      (λ names a. maybe_then (ExprAt Listed) (g.exprs line xs) _ (expr_good sound_trees begins line Listed xs l.1)
      (λ walked b. let L = list_tokens (has Comma ahead) (map lone names) in
      yes (refl, good_append L (t.Keyword keyword.In ∷ expr_tokens Listed walked) (list_good (has Comma ahead) (map lone names) (names_good names a)) (refl, b.1))))

  pub for_good : (xs : List Token) → Good xs → Maybe Ahead (f.for line xs)
  for_good xs k = for_by_good (front In xs) (back In xs) (good_front In xs k) (good_back In xs k)

  -- ---- `def`

  abbrev TypeGood : Option Annotation → Type 0
  TypeGood a = Good (typed_tokens annotation_tokens a)

  type_good : (xs : List Token) → Good xs → Maybe TypeGood (f.of_type xs)
  type_good [] k = yes tt
  type_good (t.Mark m.Colon ∷ xs) k = maybe_then AnnotationGood (annotation xs) _ (annotation_good annotations xs k.1) (λ a b. yes (refl, b))
  type_good _ k = no

  abbrev ReturnsGood : Option Annotation → Type 0
  ReturnsGood a = Good (returns_tokens annotation_tokens a)

  returned_good : (xs : List Token) → Good xs → Maybe ReturnsGood (f.returned xs)
  returned_good [] k = yes tt
  returned_good (t.Mark m.Arrow ∷ xs) k = maybe_then AnnotationGood (annotation xs) _ (annotation_good annotations xs k.1) (λ a b. yes (refl, b))
  returned_good _ k = no

  -- whatever it is the default of
  abbrev DefaultGood : Option Expr → Type 0
  DefaultGood x = (ahead : List Token) → Good ahead → Good (with_default ahead x)

  default_good : (xs : List Token) → Good xs → Maybe DefaultGood (f.default_of line xs)
  default_good [] k = yes (λ ahead a. a)
  default_good (x ∷ xs) k =
      maybe_then (ExprAt Conditional) (g.expr line xs) _ (expr_good sound_trees begins line Conditional xs k.1) (λ y b. yes (λ ahead a. good_append ahead (t.Mark m.Equal ∷ expr_tokens Conditional y) a (refl, b.1)))

  abbrev ParamGood : Param → Type 0
  ParamGood p = Good (param_tokens annotation_tokens p)

  param_by_good : (xs value : List Token) → Good xs → Good value → Maybe ParamGood (f.param_by line xs value)
  param_by_good (t.Name n ∷ xs) value k l =
      maybe_then TypeGood (f.of_type xs) _ (type_good xs k.1)
      (λ type a. maybe_then DefaultGood (f.default_of line value) _ (default_good value l)
      (λ default b. yes (b (t.Name n ∷ typed_tokens annotation_tokens type) (k.0, a))))
  param_by_good _ value k l = no

  param_good : (xs : List Token) → Good xs → Maybe ParamGood (f.param line xs)
  param_good xs k = param_by_good (front Equal xs) (back Equal xs) (good_front Equal xs k) (good_back Equal xs k)

  def_by_good : (n : List ℕ) (content xs : List Token) → IsIdentifier n → Good content → Good xs → Maybe Ahead (f.def_by line n content xs)
  def_by_good n content (t.Mark m.RightParen ∷ xs) i k l =
      maybe_then (All (f.param line) ParamGood param_good) (parts Comma (f.param line) content) _ (parts_good (f.param line) ParamGood param_good Comma content k)
      (λ params a. maybe_then ReturnsGood (f.returned xs) _ (returned_good xs l.1)
      (λ returns b. let P = map (param_tokens annotation_tokens) params in
      yes (refl, (i, (refl, good_append (joined P) (t.Mark m.RightParen ∷ returns_tokens annotation_tokens returns) (joined_good P (shown_good (f.param line) ParamGood param_good (param_tokens annotation_tokens) (λ p c. c) params a)) (refl, b))))))
  def_by_good n content _ i k l = no

  pub def_good : (xs : List Token) → Good xs → Maybe Ahead (f.def line xs)
  def_good (t.Name n ∷ t.Mark m.LeftParen ∷ xs) k = def_by_good n (front Closing xs) (back Closing xs) k.0 (good_front Closing xs k.1.1) (good_back Closing xs k.1.1)
  def_good _ k = no

  -- ---- small statements on a line

  pub statement_good : (xs : List Token) → Good xs → Maybe (λ (x : Stmt). KindGood x.kind) (g.statement line xs)
  statement_good xs k = maybe_then KindGood (g.small line xs) _ (small_good sound_trees begins annotations line xs k) (λ kind a. yes a)
