-- The table of the mutation operators: which rows a node has, and what each makes of it. One equation a row.
use Rattle.std.specs.Prelude.{ℕ, zero, suc, ◌+◌, ℤ, pos, ◌+ℤ◌, Bool, true, false, not, ◌==◌, ◌&&◌, if◌then◌else◌, List, [], ◌∷◌, ◌++◌, map, Option, Some, None, codes, length}
use Rattle.pyn_base.specs.Int.{in_range}
use Rattle.py_syntax.specs.declared.expr.Args.{Args}
use Rattle.py_syntax.specs.declared.expr.Expr.{Expr}
use Rattle.py_syntax.specs.declared.expr.ExprKind.{ExprKind, ExprKind-F}
use Rattle.py_syntax.specs.declared.expr.ExprKind.TheVariants as e
use Rattle.py_syntax.specs.declared.operator.BinOp.{BinOp}
use Rattle.py_syntax.specs.declared.operator.BinOp.TheVariants.{Add, Sub, Mul, FloorDiv, Mod}
use Rattle.py_syntax.specs.declared.operator.CmpOp.{CmpOp}
use Rattle.py_syntax.specs.declared.operator.CmpOp.TheVariants.{Lt, Gt, Eq, Ge, Le, Ne}
use Rattle.py_syntax.specs.declared.operator.Sign.TheVariants.{Minus, Plus}
use Rattle.py_syntax.specs.declared.patch.Change.{Change}
use Rattle.py_syntax.specs.declared.patch.Change.TheVariants.{DropMinus, DropPlus, AddToSub, SubToAdd, MulToFloorDiv, FloorDivToMul, ModToFloorDiv, AugmentAddToSub, AugmentSubToAdd, AugmentMulToFloorDiv, AugmentFloorDivToMul, AugmentModToFloorDiv, BreakToContinue, ContinueToBreak, NegateTest, NextInteger, EmptyString, FilledString, ClauseToRaise, ClauseToPass, AndToOr, OrToAnd, LtToLe, LeToLt, GtToGe, GeToGt, EqToNe, NeToEq}
use Rattle.py_syntax.specs.declared.stmt.Clause.{Clause}
use Rattle.py_syntax.specs.declared.stmt.Stmt.{Stmt}
use Rattle.py_syntax.specs.declared.stmt.StmtKind.{StmtKind, StmtKind-F}
use Rattle.py_syntax.specs.declared.stmt.StmtKind.TheVariants as s
use Rattle.report_model.specs.declared.mutant.Operator.{Operator}
use Rattle.report_model.specs.declared.mutant.Operator.TheVariants.{Aod, Aor, Asr, Bcr, Coi, Crp, Ehd, Exs, Lcr, Ror}

-- the operator of each row
abbrev pub operator_of : Change → Operator
operator_of DropMinus = Aod
operator_of DropPlus = Aod
operator_of AddToSub = Aor
operator_of SubToAdd = Aor
operator_of MulToFloorDiv = Aor
operator_of FloorDivToMul = Aor
operator_of ModToFloorDiv = Aor
operator_of AugmentAddToSub = Asr
operator_of AugmentSubToAdd = Asr
operator_of AugmentMulToFloorDiv = Asr
operator_of AugmentFloorDivToMul = Asr
operator_of AugmentModToFloorDiv = Asr
operator_of BreakToContinue = Bcr
operator_of ContinueToBreak = Bcr
operator_of NegateTest = Coi
operator_of NextInteger = Crp
operator_of EmptyString = Crp
operator_of FilledString = Crp
operator_of ClauseToRaise = Ehd
operator_of ClauseToPass = Exs
operator_of AndToOr = Lcr
operator_of OrToAnd = Lcr
operator_of (LtToLe place) = Ror
operator_of (LeToLt place) = Ror
operator_of (GtToGe place) = Ror
operator_of (GeToGt place) = Ror
operator_of (EqToNe place) = Ror
operator_of (NeToEq place) = Ror

-- ---- which rows apply

abbrev pub replaced : BinOp → Change
replaced Add = AddToSub
replaced Sub = SubToAdd
replaced Mul = MulToFloorDiv
replaced FloorDiv = FloorDivToMul
replaced Mod = ModToFloorDiv

abbrev pub replaced_augmented : BinOp → Change
replaced_augmented Add = AugmentAddToSub
replaced_augmented Sub = AugmentSubToAdd
replaced_augmented Mul = AugmentMulToFloorDiv
replaced_augmented FloorDiv = AugmentFloorDivToMul
replaced_augmented Mod = AugmentModToFloorDiv

-- AOD and AOR
abbrev pub arithmetic : {K A E : Type 0} → ExprKind-F K A E → List Change
arithmetic (ExprKind-F.Unary Minus x) = DropMinus ∷ []
arithmetic (ExprKind-F.Unary Plus x) = DropPlus ∷ []
arithmetic (ExprKind-F.Binary op a b) = replaced op ∷ []
arithmetic _ = []

-- the comparison at a place of a chain; membership and identity have no row
abbrev pub compared : ℕ → CmpOp → List Change
compared place Lt = LtToLe place ∷ []
compared place Le = LeToLt place ∷ []
compared place Gt = GtToGe place ∷ []
compared place Ge = GeToGt place ∷ []
compared place Eq = EqToNe place ∷ []
compared place Ne = NeToEq place ∷ []
compared place _ = []

-- those of a chain, from a place on
abbrev pub comparisons : {E : Type 0} → ℕ → List (CmpOp × E) → List Change
comparisons place [] = []
comparisons place (pair ∷ pairs) = compared place pair.0 ++ comparisons (place + 1) pairs

-- an integer that has a next one
abbrev pub if_there : Option ℤ → List Change
if_there None = []
if_there (Some n) = NextInteger ∷ []

abbrev pub string_change : List ℕ → Change
string_change [] = FilledString
string_change (c ∷ text) = EmptyString

-- CRP, LCR and ROR
abbrev pub constant_or_logical : {K A E : Type 0} → ExprKind-F K A E → List Change
constant_or_logical (ExprKind-F.IntLit n) = if_there (in_range (n +ℤ pos 1))
constant_or_logical (ExprKind-F.StrLit text) = string_change text ∷ []
constant_or_logical (ExprKind-F.And xs) = AndToOr ∷ []
constant_or_logical (ExprKind-F.Or xs) = OrToAnd ∷ []
constant_or_logical (ExprKind-F.Compare x pairs) = comparisons 0 pairs
constant_or_logical _ = []

-- the rows of an expression, by the alphabet of their operators: COI where it is the test of an `if`, `elif` or `while`
abbrev pub expr_changes : {K A E : Type 0} → Bool → ExprKind-F K A E → List Change
expr_changes is_test kind = arithmetic kind ++ (if is_test then NegateTest ∷ [] else []) ++ constant_or_logical kind

-- ASR and BCR
abbrev pub stmt_changes : {K C S : Type 0} → StmtKind-F K C S → List Change
stmt_changes (StmtKind-F.Augment target op x) = replaced_augmented op ∷ []
stmt_changes StmtKind-F.Break = BreakToContinue ∷ []
stmt_changes StmtKind-F.Continue = ContinueToBreak ∷ []
stmt_changes _ = []

-- EHD and EXS, unless the body is `raise` alone, or `pass` alone
abbrev pub clause_changes : Bool → Bool → List Change
clause_changes is_raise is_pass = (if is_raise then [] else ClauseToRaise ∷ []) ++ (if is_pass then [] else ClauseToPass ∷ [])

-- ---- what each row makes of its node

abbrev pub compared_at : {E : Type 0} → CmpOp → ℕ → List (CmpOp × E) → List (CmpOp × E)
compared_at op place [] = []
compared_at op zero (pair ∷ pairs) = (op, pair.1) ∷ pairs
compared_at op (suc place) (pair ∷ pairs) = pair ∷ compared_at op place pairs

-- the kinds that rows rewrite; a row whose node is another changes nothing
abbrev pub with_operator : BinOp → ExprKind-F ExprKind Args Expr → ExprKind → ExprKind
with_operator op (ExprKind-F.Binary was a b) same = e.Binary op a b
with_operator op _ same = same

abbrev pub with_comparison : CmpOp → ℕ → ExprKind-F ExprKind Args Expr → ExprKind → ExprKind
with_comparison op place (ExprKind-F.Compare x pairs) same = e.Compare x (compared_at op place pairs)
with_comparison op place _ same = same

abbrev pub next_integer : ExprKind-F ExprKind Args Expr → ExprKind → ExprKind
next_integer (ExprKind-F.IntLit n) same = e.IntLit (n +ℤ pos 1)
next_integer _ same = same

abbrev pub with_text : List ℕ → ExprKind-F ExprKind Args Expr → ExprKind → ExprKind
with_text text (ExprKind-F.StrLit was) same = e.StrLit text
with_text text _ same = same

abbrev pub with_or : ExprKind-F ExprKind Args Expr → ExprKind → ExprKind
with_or (ExprKind-F.And xs) same = e.Or xs
with_or _ same = same

abbrev pub with_and : ExprKind-F ExprKind Args Expr → ExprKind → ExprKind
with_and (ExprKind-F.Or xs) same = e.And xs
with_and _ same = same

-- a row that keeps the node and changes its kind
abbrev pub changed_kind : Change → ExprKind-F ExprKind Args Expr → ExprKind → ExprKind
changed_kind AddToSub kind same = with_operator Sub kind same
changed_kind SubToAdd kind same = with_operator Add kind same
changed_kind MulToFloorDiv kind same = with_operator FloorDiv kind same
changed_kind FloorDivToMul kind same = with_operator Mul kind same
changed_kind ModToFloorDiv kind same = with_operator FloorDiv kind same
changed_kind NextInteger kind same = next_integer kind same
changed_kind EmptyString kind same = with_text [] kind same
changed_kind FilledString kind same = with_text (codes "x") kind same
changed_kind AndToOr kind same = with_or kind same
changed_kind OrToAnd kind same = with_and kind same
changed_kind (LtToLe place) kind same = with_comparison Le place kind same
changed_kind (LeToLt place) kind same = with_comparison Lt place kind same
changed_kind (GtToGe place) kind same = with_comparison Ge place kind same
changed_kind (GeToGt place) kind same = with_comparison Gt place kind same
changed_kind (EqToNe place) kind same = with_comparison Ne place kind same
changed_kind (NeToEq place) kind same = with_comparison Eq place kind same
changed_kind _ kind same = same

-- the operand of a sign, which keeps its own line
abbrev pub without_sign : ExprKind-F ExprKind Args Expr → Expr → Expr
without_sign (ExprKind-F.Unary sign x) same = x
without_sign _ same = same

-- An expression as a row makes it. A new `not` has the line of its operand.
abbrev pub changed_expr : Change → ExprKind-F ExprKind Args Expr → Expr → Expr
changed_expr DropMinus kind same = without_sign kind same
changed_expr DropPlus kind same = without_sign kind same
changed_expr NegateTest kind same = record { node = record { 0 = 0 }; line = same.line; kind = e.Not same }
changed_expr change kind same = record same { kind = changed_kind change kind same.kind }

abbrev pub with_augmented : BinOp → StmtKind-F StmtKind Clause Stmt → StmtKind → StmtKind
with_augmented op (StmtKind-F.Augment target was x) same = s.Augment target op x
with_augmented op _ same = same

abbrev pub with_continue : StmtKind-F StmtKind Clause Stmt → StmtKind → StmtKind
with_continue StmtKind-F.Break same = s.Continue
with_continue _ same = same

abbrev pub with_break : StmtKind-F StmtKind Clause Stmt → StmtKind → StmtKind
with_break StmtKind-F.Continue same = s.Break
with_break _ same = same

abbrev pub changed_stmt : Change → StmtKind-F StmtKind Clause Stmt → StmtKind → StmtKind
changed_stmt AugmentAddToSub kind same = with_augmented Sub kind same
changed_stmt AugmentSubToAdd kind same = with_augmented Add kind same
changed_stmt AugmentMulToFloorDiv kind same = with_augmented FloorDiv kind same
changed_stmt AugmentFloorDivToMul kind same = with_augmented Mul kind same
changed_stmt AugmentModToFloorDiv kind same = with_augmented FloorDiv kind same
changed_stmt BreakToContinue kind same = with_continue kind same
changed_stmt ContinueToBreak kind same = with_break kind same
changed_stmt _ kind same = same

-- a clause's body, on the clause's line
abbrev pub alone : ℕ → StmtKind → List Stmt
alone line kind = record { node = record { 0 = 0 }; line = line; kind = kind } ∷ []

abbrev pub changed_body : Change → ℕ → List Stmt → List Stmt
changed_body ClauseToRaise line body = alone line (s.Raise None)
changed_body ClauseToPass line body = alone line s.Pass
changed_body _ line body = body
