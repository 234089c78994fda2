-- The tokens of each form of small statement.
use Rattle.std.proofs.Common.{◌≡◌, ap, List, [], ◌∷◌, ◌++◌, Bool, Option}
use Rattle.std.specs.Prelude.{map}
use Rattle.py_language.specs.TreesPlaces.{Listed, Conditional}
use Rattle.py_language.specs.declared.token.Token.TheVariants as t
use Rattle.py_language.specs.declared.token.Keyword.TheVariants as k
use Rattle.py_language.specs.declared.token.Mark.TheVariants as m
use Rattle.py_syntax.specs.declared.expr.Expr.{Expr}
use Rattle.py_syntax.specs.declared.operator.BinOp.{BinOp}
use Rattle.py_syntax.specs.declared.stmt.Annotation.{Annotation}
use Rattle.py_syntax.specs.declared.stmt.StmtKind.TheVariants as s
use Rattle.py_syntax.specs.declared.stmt.StmtKind.TheVariants.{outs-Pass, outs-Break, outs-Continue, outs-Return, outs-Raise, outs-Assert, outs-Del, outs-Assign, outs-Augment, outs-Bare}
use Rattle.py_syntax.specs.declared.stmt.Target.{Target}
use Rattle.py_printing.specs.Expressions.{expr_tokens}
use Rattle.py_layout.specs.Small.{indexed, target_tokens, list_tokens, augmenting_token, maybe_tokens, message_tokens, typed_tokens, small_by, small_tokens}
use Rattle.py_annotation_layout.specs.Annotations.{annotation_tokens}

pub small-Pass : small_tokens annotation_tokens s.Pass ≡ t.Keyword k.Pass ∷ []
small-Pass = ap (λ f. small_by annotation_tokens f) outs-Pass

pub small-Break : small_tokens annotation_tokens s.Break ≡ t.Keyword k.Break ∷ []
small-Break = ap (λ f. small_by annotation_tokens f) outs-Break

pub small-Continue : small_tokens annotation_tokens s.Continue ≡ t.Keyword k.Continue ∷ []
small-Continue = ap (λ f. small_by annotation_tokens f) outs-Continue

pub small-Return : (x : Option Expr) → small_tokens annotation_tokens (s.Return x) ≡ t.Keyword k.Return ∷ maybe_tokens Listed x
small-Return x = ap (λ f. small_by annotation_tokens f) (outs-Return x)

pub small-Raise : (x : Option Expr) → small_tokens annotation_tokens (s.Raise x) ≡ t.Keyword k.Raise ∷ maybe_tokens Conditional x
small-Raise x = ap (λ f. small_by annotation_tokens f) (outs-Raise x)

pub small-Assert : (test : Expr) (message : Option Expr) → small_tokens annotation_tokens (s.Assert test message) ≡ t.Keyword k.Assert ∷ (expr_tokens Conditional test ++ message_tokens message)
small-Assert test message = ap (λ f. small_by annotation_tokens f) (outs-Assert test message)

pub small-Del : (of at : Expr) → small_tokens annotation_tokens (s.Del of at) ≡ t.Keyword k.Del ∷ indexed of at
small-Del of at = ap (λ f. small_by annotation_tokens f) (outs-Del of at)

pub small-Assign : (targets : List Target) (is_tuple : Bool) (type : Option Annotation) (x : Expr)
    → small_tokens annotation_tokens (s.Assign targets is_tuple type x) ≡ list_tokens is_tuple (map target_tokens targets) ++ (typed_tokens annotation_tokens type ++ t.Mark m.Equal ∷ expr_tokens Listed x)
small-Assign targets is_tuple type x = ap (λ f. small_by annotation_tokens f) (outs-Assign targets is_tuple type x)

pub small-Augment : (target : Target) (op : BinOp) (x : Expr) → small_tokens annotation_tokens (s.Augment target op x) ≡ target_tokens target ++ augmenting_token op ∷ expr_tokens Listed x
small-Augment target op x = ap (λ f. small_by annotation_tokens f) (outs-Augment target op x)

pub small-Bare : (x : Expr) → small_tokens annotation_tokens (s.Bare x) ≡ expr_tokens Listed x
small-Bare x = ap (λ f. small_by annotation_tokens f) (outs-Bare x)

pub ruleset small_levels = (small-Pass, small-Break, small-Continue, small-Return, small-Raise, small-Assert, small-Del, small-Assign, small-Augment, small-Bare)
