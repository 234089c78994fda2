-- What expressions use, by their kinds, after what was used before.
use Rattle.std.proofs.Common.{◌≡◌, ◌∙◌, refl, sym, ap, ap₂, ℕ, Bool, List, Option, Some, None, [], ◌++◌, map, append_assoc, append-nil, ◌||◌}
use Rattle.std.specs.Prelude.{if◌then◌else◌}
use Rattle.std.specs.List.{flat_map}
use Rattle.std.proofs.lemmas.List.Folds.{flat_map-map}
use Rattle.pyn_base.specs.declared.int.PyInt.{PyInt}
use Rattle.py_syntax.specs.declared.expr.Args.{Args, out-Args}
use Rattle.py_syntax.specs.declared.expr.Expr.{Expr}
use Rattle.py_syntax.specs.declared.expr.ExprKind.{ExprKind, ExprKind-F, map-ExprKind, out-ExprKind}
use Rattle.py_syntax.specs.declared.expr.ExprKind.TheVariants as e
use Rattle.py_syntax.specs.declared.expr.ExprKind.TheVariants.{outs-NoneLit, outs-BoolLit, outs-IntLit, outs-StrLit, outs-Name, outs-ListLit, outs-TupleLit, outs-DictLit, outs-Attr, outs-Index, outs-Slice, outs-Call, outs-Method, outs-Super, outs-Unary, outs-Not, outs-Binary, outs-And, outs-Or, outs-Compare, outs-Cond}
use Rattle.py_syntax.specs.declared.operator.BinOp.{BinOp}
use Rattle.py_syntax.specs.declared.operator.CmpOp.{CmpOp}
use Rattle.py_syntax.specs.declared.operator.Sign.{Sign}
use Rattle.py_scopes.specs.Folds.{uses_by_expr, uses_by_kind, uses_by_args}
use Rattle.py_scopes.specs.Laws.{part_of}
use Rattle.py_scopes.specs.Uses.{Uses, Reads, Attribute, Super, Argument, MixedArguments, at, OnLine, Part, all, has_twice as twice, is_mixed, kind_uses, maybe_uses, uses_of, uses_of_kind, uses_of_args}
use Rattle.py_uses.specs.Blocks.{pair_uses, operand_uses, named_uses, are_misplaced}
use Rattle.py_uses.proofs.Misplaced.{named_part, misplaced_is}

-- ---- lists of parts

abbrev parts : ExprKind-F ExprKind Args Expr → ExprKind-F OnLine OnLine Part
parts = map-ExprKind ExprKind Args Expr OnLine OnLine Part uses_of_kind uses_of_args part_of

all_are : (xs : List Expr) → all (map part_of xs) ≡ flat_map uses_of xs
all_are xs = flat_map-map (λ (part : Part). part.uses) part_of xs

abbrev two_parts : Expr × Expr → Part × Part
two_parts pair = (part_of pair.0, part_of pair.1)

pairs_are : (pairs : List (Expr × Expr)) → flat_map (λ (pair : Part × Part). pair.0.uses ++ pair.1.uses) (map two_parts pairs) ≡ flat_map pair_uses pairs
pairs_are pairs = flat_map-map (λ (pair : Part × Part). pair.0.uses ++ pair.1.uses) two_parts pairs

abbrev operand_part : CmpOp × Expr → CmpOp × Part
operand_part pair = (pair.0, part_of pair.1)

operands_are : (pairs : List (CmpOp × Expr)) → flat_map (λ (pair : CmpOp × Part). pair.1.uses) (map operand_part pairs) ≡ flat_map operand_uses pairs
operands_are pairs = flat_map-map (λ (pair : CmpOp × Part). pair.1.uses) operand_part pairs

named_are : (line : ℕ) (named : List (List ℕ × Expr)) → flat_map (λ (row : List ℕ × Part). at line (Argument row.0) ++ row.1.uses) (map named_part named) ≡ flat_map (named_uses line) named
named_are line named = flat_map-map (λ (row : List ℕ × Part). at line (Argument row.0) ++ row.1.uses) named_part named

-- ---- one level

abbrev pub level : ExprKind-F ExprKind Args Expr → ℕ → Uses
level (ExprKind-F.Name name) line = at line (Reads name)
level (ExprKind-F.ListLit xs) line = flat_map uses_of xs
level (ExprKind-F.TupleLit xs) line = flat_map uses_of xs
level (ExprKind-F.DictLit pairs) line = flat_map pair_uses pairs
level (ExprKind-F.Attr x name) line = uses_of x ++ at line (Attribute name)
level (ExprKind-F.Index x i) line = uses_of x ++ uses_of i
level (ExprKind-F.Slice x low high) line = uses_of x ++ maybe_uses low ++ maybe_uses high
level (ExprKind-F.Call x args) line = uses_of x ++ uses_of_args args line
level (ExprKind-F.Method x name args) line = uses_of x ++ at line (Attribute name) ++ uses_of_args args line
level (ExprKind-F.Super name args) line = at line (Super name) ++ uses_of_args args line
level (ExprKind-F.Unary sign x) line = uses_of x
level (ExprKind-F.Not x) line = uses_of x
level (ExprKind-F.Binary op a b) line = uses_of a ++ uses_of b
level (ExprKind-F.And xs) line = flat_map uses_of xs
level (ExprKind-F.Or xs) line = flat_map uses_of xs
level (ExprKind-F.Compare x pairs) line = uses_of x ++ flat_map operand_uses pairs
level (ExprKind-F.Cond a test b) line = uses_of a ++ uses_of test ++ uses_of b
level _ line = []

levels_are : (k : ExprKind-F ExprKind Args Expr) (line : ℕ) → kind_uses (parts k) line ≡ level k line
levels_are ExprKind-F.NoneLit line = refl
levels_are (ExprKind-F.BoolLit b) line = refl
levels_are (ExprKind-F.IntLit n) line = refl
levels_are (ExprKind-F.StrLit text) line = refl
levels_are (ExprKind-F.Name name) line = refl
levels_are (ExprKind-F.ListLit xs) line = all_are xs
levels_are (ExprKind-F.TupleLit xs) line = all_are xs
levels_are (ExprKind-F.DictLit pairs) line = pairs_are pairs
levels_are (ExprKind-F.Attr x name) line = refl
levels_are (ExprKind-F.Index x i) line = refl
levels_are (ExprKind-F.Slice x None None) line = refl
levels_are (ExprKind-F.Slice x None (Some b)) line = refl
levels_are (ExprKind-F.Slice x (Some a) None) line = refl
levels_are (ExprKind-F.Slice x (Some a) (Some b)) line = refl
levels_are (ExprKind-F.Call x args) line = refl
levels_are (ExprKind-F.Method x name args) line = refl
levels_are (ExprKind-F.Super name args) line = refl
levels_are (ExprKind-F.Unary sign x) line = refl
levels_are (ExprKind-F.Not x) line = refl
levels_are (ExprKind-F.Binary op a b) line = refl
levels_are (ExprKind-F.And xs) line = all_are xs
levels_are (ExprKind-F.Or xs) line = all_are xs
levels_are (ExprKind-F.Compare x pairs) line = ap (λ ys. uses_of x ++ ys) (operands_are pairs)
levels_are (ExprKind-F.Cond a test b) line = refl

by : (us : Uses) (kind : ExprKind) (f : ExprKind-F ExprKind Args Expr) (line : ℕ) → out-ExprKind kind ≡ f → us ++ uses_of_kind kind line ≡ us ++ level f line
by us kind f line is = ap (λ ys. us ++ ys) (uses_by_kind kind line ∙ levels_are (out-ExprKind kind) line ∙ ap (λ f. level f line) is)

pub two : (us a b : Uses) → us ++ (a ++ b) ≡ us ++ a ++ b
two us a b = sym (append_assoc us a b)

pub three : (us a b c : Uses) → us ++ (a ++ b ++ c) ≡ us ++ a ++ b ++ c
three us a b c = two us (a ++ b) c ∙ ap (λ ys. ys ++ c) (two us a b)

pub kind-NoneLit : (us : Uses) (line : ℕ) → us ++ uses_of_kind e.NoneLit line ≡ us
kind-NoneLit us line = by us _ _ line outs-NoneLit ∙ append-nil us

pub kind-BoolLit : (us : Uses) (line : ℕ) (b : Bool) → us ++ uses_of_kind (e.BoolLit b) line ≡ us
kind-BoolLit us line b = by us _ _ line (outs-BoolLit b) ∙ append-nil us

pub kind-IntLit : (us : Uses) (line : ℕ) (n : PyInt) → us ++ uses_of_kind (e.IntLit n) line ≡ us
kind-IntLit us line n = by us _ _ line (outs-IntLit n) ∙ append-nil us

pub kind-StrLit : (us : Uses) (line : ℕ) (text : List ℕ) → us ++ uses_of_kind (e.StrLit text) line ≡ us
kind-StrLit us line text = by us _ _ line (outs-StrLit text) ∙ append-nil us

pub kind-Name : (us : Uses) (line : ℕ) (name : List ℕ) → us ++ uses_of_kind (e.Name name) line ≡ us ++ at line (Reads name)
kind-Name us line name = by us _ _ line (outs-Name name)

pub kind-ListLit : (us : Uses) (line : ℕ) (xs : List Expr) → us ++ uses_of_kind (e.ListLit xs) line ≡ us ++ flat_map uses_of xs
kind-ListLit us line xs = by us _ _ line (outs-ListLit xs)

pub kind-TupleLit : (us : Uses) (line : ℕ) (xs : List Expr) → us ++ uses_of_kind (e.TupleLit xs) line ≡ us ++ flat_map uses_of xs
kind-TupleLit us line xs = by us _ _ line (outs-TupleLit xs)

pub kind-DictLit : (us : Uses) (line : ℕ) (pairs : List (Expr × Expr)) → us ++ uses_of_kind (e.DictLit pairs) line ≡ us ++ flat_map pair_uses pairs
kind-DictLit us line pairs = by us _ _ line (outs-DictLit pairs)

pub kind-Attr : (us : Uses) (line : ℕ) (x : Expr) (name : List ℕ) → us ++ uses_of_kind (e.Attr x name) line ≡ us ++ uses_of x ++ at line (Attribute name)
kind-Attr us line x name = by us _ _ line (outs-Attr x name) ∙ two us (uses_of x) (at line (Attribute name))

pub kind-Index : (us : Uses) (line : ℕ) (x i : Expr) → us ++ uses_of_kind (e.Index x i) line ≡ us ++ uses_of x ++ uses_of i
kind-Index us line x i = by us _ _ line (outs-Index x i) ∙ two us (uses_of x) (uses_of i)

pub kind-Slice : (us : Uses) (line : ℕ) (x : Expr) (low high : Option Expr) → us ++ uses_of_kind (e.Slice x low high) line ≡ us ++ uses_of x ++ maybe_uses low ++ maybe_uses high
kind-Slice us line x low high = by us _ _ line (outs-Slice x low high) ∙ three us (uses_of x) (maybe_uses low) (maybe_uses high)

pub kind-Call : (us : Uses) (line : ℕ) (x : Expr) (args : Args) → us ++ uses_of_kind (e.Call x args) line ≡ us ++ uses_of x ++ uses_of_args args line
kind-Call us line x args = by us _ _ line (outs-Call x args) ∙ two us (uses_of x) (uses_of_args args line)

pub kind-Method : (us : Uses) (line : ℕ) (x : Expr) (name : List ℕ) (args : Args) → us ++ uses_of_kind (e.Method x name args) line ≡ us ++ uses_of x ++ at line (Attribute name) ++ uses_of_args args line
kind-Method us line x name args = by us _ _ line (outs-Method x name args) ∙ three us (uses_of x) (at line (Attribute name)) (uses_of_args args line)

pub kind-Super : (us : Uses) (line : ℕ) (name : List ℕ) (args : Args) → us ++ uses_of_kind (e.Super name args) line ≡ us ++ at line (Super name) ++ uses_of_args args line
kind-Super us line name args = by us _ _ line (outs-Super name args) ∙ two us (at line (Super name)) (uses_of_args args line)

pub kind-Unary : (us : Uses) (line : ℕ) (sign : Sign) (x : Expr) → us ++ uses_of_kind (e.Unary sign x) line ≡ us ++ uses_of x
kind-Unary us line sign x = by us _ _ line (outs-Unary sign x)

pub kind-Not : (us : Uses) (line : ℕ) (x : Expr) → us ++ uses_of_kind (e.Not x) line ≡ us ++ uses_of x
kind-Not us line x = by us _ _ line (outs-Not x)

pub kind-Binary : (us : Uses) (line : ℕ) (op : BinOp) (a b : Expr) → us ++ uses_of_kind (e.Binary op a b) line ≡ us ++ uses_of a ++ uses_of b
kind-Binary us line op a b = by us _ _ line (outs-Binary op a b) ∙ two us (uses_of a) (uses_of b)

pub kind-And : (us : Uses) (line : ℕ) (xs : List Expr) → us ++ uses_of_kind (e.And xs) line ≡ us ++ flat_map uses_of xs
kind-And us line xs = by us _ _ line (outs-And xs)

pub kind-Or : (us : Uses) (line : ℕ) (xs : List Expr) → us ++ uses_of_kind (e.Or xs) line ≡ us ++ flat_map uses_of xs
kind-Or us line xs = by us _ _ line (outs-Or xs)

pub kind-Compare : (us : Uses) (line : ℕ) (x : Expr) (pairs : List (CmpOp × Expr)) → us ++ uses_of_kind (e.Compare x pairs) line ≡ us ++ uses_of x ++ flat_map operand_uses pairs
kind-Compare us line x pairs = by us _ _ line (outs-Compare x pairs) ∙ two us (uses_of x) (flat_map operand_uses pairs)

pub kind-Cond : (us : Uses) (line : ℕ) (a test b : Expr) → us ++ uses_of_kind (e.Cond a test b) line ≡ us ++ uses_of a ++ uses_of test ++ uses_of b
kind-Cond us line a test b = by us _ _ line (outs-Cond a test b) ∙ three us (uses_of a) (uses_of test) (uses_of b)

-- ---- arguments

abbrev mixed : ℕ → Bool → Uses
mixed line found = if found then at line MixedArguments else []

pub args-out : (us : Uses) (args : Args) (line : ℕ) → us ++ uses_of_args args line
    ≡ us ++ flat_map uses_of (out-Args args).plain ++ flat_map (named_uses line) (out-Args args).named ++ (if are_misplaced args then at line MixedArguments else [])
args-out us args line =
    let plain = (out-Args args).plain in
    let named = (out-Args args).named in
    ap (λ ys. us ++ ys) (uses_by_args args line
    ∙ ap₂ (λ a b. a ++ b ++ mixed line (is_mixed (map part_of plain) (map named_part named) || twice (map named_part named))) (all_are plain) (named_are line named)
    ∙ ap (λ b. flat_map uses_of plain ++ flat_map (named_uses line) named ++ mixed line b) (misplaced_is plain named))
    ∙ three us (flat_map uses_of plain) (flat_map (named_uses line) named) (mixed line (are_misplaced args))

pub ruleset expression_levels = (uses_by_expr, args-out, kind-NoneLit, kind-BoolLit, kind-IntLit, kind-StrLit, kind-Name, kind-ListLit, kind-TupleLit, kind-DictLit, kind-Attr, kind-Index, kind-Slice, kind-Call, kind-Method, kind-Super, kind-Unary, kind-Not, kind-Binary, kind-And, kind-Or, kind-Compare, kind-Cond)
