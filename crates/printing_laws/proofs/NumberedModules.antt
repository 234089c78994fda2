-- Numbering the nodes of a module leaves its text, and the module up to lines and node numbers.
use Rattle.std.proofs.Math.Path.{fun_ext}
use Rattle.std.proofs.Common.{◌≡◌, ◌∙◌, refl, sym, ap, ap₂, ℕ, suc, ◌+◌, Bool, true, false, List, Option, Some, None, [], ◌∷◌, ◌++◌, map}
use Rattle.std.specs.Option.{option_map}
use Rattle.py_language.specs.TreesNumbers.{Numbered, in_order as each, numbered as numbered_shape}
use Rattle.py_language.specs.TreesPlaces.{Level, Listed, Conditional, Postfix}
use Rattle.py_language.specs.declared.shape.Shape.{Shape}
use Rattle.py_language.specs.declared.token.Keyword.TheVariants as k
use Rattle.py_language.specs.declared.token.Mark.TheVariants as m
use Rattle.py_language.specs.declared.token.Token.{Token}
use Rattle.py_language.specs.declared.token.Token.TheVariants as t
use Rattle.py_syntax.specs.declared.expr.Expr.{Expr}
use Rattle.py_syntax.specs.declared.module.Func.{Func}
use Rattle.py_syntax.specs.declared.module.Item.{Item}
use Rattle.py_syntax.specs.declared.module.Item.TheVariants as item
use Rattle.py_syntax.specs.declared.module.Member.{Member}
use Rattle.py_syntax.specs.declared.module.Member.TheVariants as member
use Rattle.py_syntax.specs.declared.module.Module.{Module}
use Rattle.py_syntax.specs.declared.module.Param.{Param}
use Rattle.py_syntax.specs.declared.stmt.Annotation.{Annotation}
use Rattle.py_syntax.specs.declared.stmt.Stmt.{Stmt}
use Rattle.py_syntax.specs.declared.stmt.StmtKind.TheVariants as s
use Rattle.py_grammar.specs.declared.form.Header.{Header}
use Rattle.py_grammar.specs.declared.form.Header.TheVariants as h
use Rattle.py_nodes.specs.Numbers.{stmt, uncounted_expr, param, func, member_numbered, item_numbered, numbered}
use Rattle.py_printing.specs.Expressions.{expr_tokens, unnumbered}
use Rattle.py_printing.specs.Texts.{shape_tokens}
use Rattle.py_layout.specs.Erased.{erased_by, erased_clause_by, erased_stmt_by, erased}
use Rattle.py_layout.specs.Headers.{header_tokens, param_tokens, fresh_param, with_default, lone, returns_tokens}
use Rattle.py_layout.specs.Modules.{func_rows, erased_func, erased_member, erased_item, erased_module}
use Rattle.py_layout.specs.Rows.{Placed, row, indent, headed, arms_rows, maybe_headed, kind_rows, clause_rows, stmt_rows, rows_of, block_rows, placed}
use Rattle.py_layout.specs.Small.{augmenting_token, fresh, indexed, joined, list_tokens, maybe_tokens, message_tokens, typed_tokens}
use Rattle.py_printer.specs.Lines.{Line}
use Rattle.py_annotation_layout.specs.Annotations.{annotation_tokens}
use Rattle.module_printer.specs.declared.gaps.Part.{Part}
use Rattle.module_printer.specs.Modules.{lines_of, item_part, member_part, gap, spaced, member_lines, class_row, item_lines, module_lines}
use Rattle.printing_laws.proofs.NumberedStatements.{Blind, SameArms, SameExpr, SameMaybe, expr_kept, fresh_same, stmt_kept}

-- ---- what expressions are without numbers, and their tokens

of_shape : Shape → Expr
of_shape z = record { node = (numbered_shape z 0).0.node; line = 0; kind = (numbered_shape z 0).0.kind }

maybe_fresh : (x y : Option Expr) → SameMaybe x y → option_map (fresh 0) x ≡ option_map (fresh 0) y
unfolding of_shape
maybe_fresh x y e = by x ∙ ap (option_map of_shape) e ∙ sym (by y)
  where
    by : (o : Option Expr) → option_map (fresh 0) o ≡ option_map of_shape (option_map unnumbered o)
    by None = refl
    by (Some z) = refl

tokens_same : (level : Level) (x y : Expr) → SameExpr x y → expr_tokens level x ≡ expr_tokens level y
tokens_same level x y e = ap (shape_tokens level) e

-- tokens of what may be there, by its shape
abbrev maybe_by : (Shape → List Token) → Option Shape → List Token
maybe_by f None = []
maybe_by f (Some z) = f z

maybe_same : (level : Level) (x y : Option Expr) → SameMaybe x y → maybe_tokens level x ≡ maybe_tokens level y
maybe_same level x y e = by x ∙ ap (maybe_by (shape_tokens level)) e ∙ sym (by y)
  where
    by : (o : Option Expr) → maybe_tokens level o ≡ maybe_by (shape_tokens level) (option_map unnumbered o)
    by None = refl
    by (Some z) = refl

message_same : (x y : Option Expr) → SameMaybe x y → message_tokens x ≡ message_tokens y
message_same x y e = by x ∙ ap (maybe_by (λ z. t.Mark m.Comma ∷ shape_tokens Conditional z)) e ∙ sym (by y)
  where
    by : (o : Option Expr) → message_tokens o ≡ maybe_by (λ z. t.Mark m.Comma ∷ shape_tokens Conditional z) (option_map unnumbered o)
    by None = refl
    by (Some z) = refl

indexed_same : (x y i j : Expr) → SameExpr x y → SameExpr i j → indexed x i ≡ indexed y j
indexed_same x y i j e f = ap₂ (λ a b. shape_tokens Postfix a ++ t.Mark m.LeftBracket ∷ (shape_tokens Listed b ++ t.Mark m.RightBracket ∷ [])) e f

-- ---- statements without lines and numbers

abbrev fresh_arms : List (Expr × List Stmt) → List (Expr × List Stmt)
fresh_arms arms = map (λ (arm : Expr × List Stmt). let made : Expr × List Stmt = (fresh 0 arm.0, arm.1) in made) arms

arms_fresh : (xs ys : List (Expr × List Stmt)) → SameArms xs ys → fresh_arms xs ≡ fresh_arms ys
arms_fresh [] [] e = refl
arms_fresh [] (y ∷ ys) e = absurd e
arms_fresh (x ∷ xs) [] e = absurd e
arms_fresh (x ∷ xs) (y ∷ ys) e = ap₂ (λ z zs. z ∷ zs) (ap₂ (λ a b. (a, b)) (fresh_same true x.0 y.0 e.0) e.1) (arms_fresh xs ys e.2)

erased_blind : Blind erased_by erased_clause_by erased_stmt_by
erased_blind = record {
  returned = λ x y e. ap s.Return (maybe_fresh x y e);
  raised = λ x y e. ap s.Raise (maybe_fresh x y e);
  asserted = λ x y m n e f. ap₂ s.Assert (fresh_same true x y e) (maybe_fresh m n f);
  deleted = λ x y i j e f. ap₂ s.Del (fresh_same true x y e) (fresh_same true i j f);
  assigned = λ ts us is_tuple type x y q e. ap₂ (λ z w. s.Assign z is_tuple type w) q.1 (fresh_same true x y e);
  augmented = λ t u op x y q e. ap₂ (λ z w. s.Augment z op w) q.1 (fresh_same true x y e);
  bare = λ x y e. ap s.Bare (fresh_same true x y e);
  branched = λ xs ys other e. ap (λ z. s.If z other) (arms_fresh xs ys e);
  repeated = λ x y body e. ap (λ z. s.While z body) (fresh_same true x y e);
  walked = λ names is_tuple x y body e. ap (λ z. s.For names is_tuple z body) (fresh_same true x y e);
  handled = λ c n. refl;
  placed = λ x n. refl;
}

-- ---- the rows of statements

abbrev alone : List Token → Placed
alone ts column = row column ts ∷ []

small_same : (xs ys : List Token) → xs ≡ ys → alone xs ≡ alone ys
small_same xs ys e = ap alone e

header_same : (make : Expr → Header) (x y : Expr) → ((a b : Expr) → SameExpr a b → header_tokens annotation_tokens (make a) ≡ header_tokens annotation_tokens (make b)) → SameExpr x y → (column : ℕ) (body : List Placed)
    → headed annotation_tokens column (make x) body ≡ headed annotation_tokens column (make y) body
header_same make x y f e column body = ap (λ ts. row column ts ∷ placed (column + indent) body) (f x y e)

tested_same : (word : _) (a b : Expr) → SameExpr a b → (t.Keyword word ∷ expr_tokens Conditional a) ++ t.Mark m.Colon ∷ [] ≡ (t.Keyword word ∷ expr_tokens Conditional b) ++ t.Mark m.Colon ∷ []
tested_same word a b e = ap (λ ts. (t.Keyword word ∷ ts) ++ t.Mark m.Colon ∷ []) (tokens_same Conditional a b e)

elif_same : (a b : Expr) → SameExpr a b → header_tokens annotation_tokens (h.Elif a) ≡ header_tokens annotation_tokens (h.Elif b)
elif_same a b e = tested_same k.Elif a b e

others_same : (column : ℕ) (xs ys : List (Expr × List Placed)) → SameArms xs ys → arms_rows annotation_tokens column h.Elif xs ≡ arms_rows annotation_tokens column h.Elif ys
others_same column [] [] e = refl
others_same column [] (y ∷ ys) e = absurd e
others_same column (x ∷ xs) [] e = absurd e
others_same column (x ∷ xs) (y ∷ ys) e =
    ap₂ (λ z w. z ++ w) (header_same h.Elif x.0 y.0 elif_same e.0 column x.1 ∙ ap (headed annotation_tokens column (h.Elif y.0)) e.1) (others_same column xs ys e.2)

arms_same : (column : ℕ) (xs ys : List (Expr × List Placed)) → SameArms xs ys → arms_rows annotation_tokens column h.If xs ≡ arms_rows annotation_tokens column h.If ys
arms_same column [] [] e = refl
arms_same column [] (y ∷ ys) e = absurd e
arms_same column (x ∷ xs) [] e = absurd e
arms_same column (x ∷ xs) (y ∷ ys) e =
    ap₂ (λ z w. z ++ w) (header_same h.If x.0 y.0 (λ a b q. tested_same k.If a b q) e.0 column x.1 ∙ ap (headed annotation_tokens column (h.If y.0)) e.1) (others_same column xs ys e.2)

walked_same : (names : List (List ℕ)) (is_tuple : Bool) (a b : Expr) → SameExpr a b → header_tokens annotation_tokens (h.For names is_tuple a) ≡ header_tokens annotation_tokens (h.For names is_tuple b)
walked_same names is_tuple a b e =
    ap (λ ts. (t.Keyword k.For ∷ (list_tokens is_tuple (map lone names) ++ t.Keyword k.In ∷ ts)) ++ t.Mark m.Colon ∷ []) (tokens_same Listed a b e)

rows_blind : Blind (kind_rows annotation_tokens) (clause_rows annotation_tokens) (stmt_rows annotation_tokens)
rows_blind = record {
  returned = λ x y e. small_same _ _ (ap (λ ts. t.Keyword k.Return ∷ ts) (maybe_same Listed x y e));
  raised = λ x y e. small_same _ _ (ap (λ ts. t.Keyword k.Raise ∷ ts) (maybe_same Conditional x y e));
  asserted = λ x y m n e f. small_same _ _ (ap₂ (λ ts us. t.Keyword k.Assert ∷ (ts ++ us)) (tokens_same Conditional x y e) (message_same m n f));
  deleted = λ x y i j e f. small_same _ _ (ap (λ ts. t.Keyword k.Del ∷ ts) (indexed_same x y i j e f));
  assigned = λ ts us is_tuple type x y q e. small_same _ _ (ap₂ (λ parts value. list_tokens is_tuple parts ++ (typed_tokens annotation_tokens type ++ t.Mark m.Equal ∷ value)) q.0 (tokens_same Listed x y e));
  augmented = λ t u op x y q e. small_same _ _ (ap₂ (λ ts us. ts ++ augmenting_token op ∷ us) q.0 (tokens_same Listed x y e));
  bare = λ x y e. small_same _ _ (tokens_same Listed x y e);
  branched = λ xs ys other e. fun_ext (λ column. ap (λ z. z ++ maybe_headed annotation_tokens column h.Else other) (arms_same column xs ys e));
  repeated = λ x y body e. fun_ext (λ column. header_same h.While x y (λ a b q. tested_same k.While a b q) e column body);
  walked = λ names is_tuple x y body e. fun_ext (λ column. header_same (h.For names is_tuple) x y (walked_same names is_tuple) e column body);
  handled = λ c n. refl;
  placed = λ x n. refl;
}

-- ---- statements and blocks that are numbered

module _ (counted : Bool) where
  rows_kept : (x : Stmt) (n column : ℕ) → rows_of annotation_tokens (stmt counted x n).0 column ≡ rows_of annotation_tokens x column
  unfolding rows_of
  rows_kept x n column = ap (λ p. p column) (stmt_kept counted (kind_rows annotation_tokens) (clause_rows annotation_tokens) (stmt_rows annotation_tokens) rows_blind x n)

  erased_kept : (x : Stmt) (n : ℕ) → erased (stmt counted x n).0 ≡ erased x
  unfolding erased
  erased_kept x n = stmt_kept counted erased_by erased_clause_by erased_stmt_by erased_blind x n

  block_rows_kept : (body : List Stmt) (n column : ℕ) → block_rows annotation_tokens column (each (map (stmt counted) body) n).0 ≡ block_rows annotation_tokens column body
  block_rows_kept [] n column = refl
  block_rows_kept (x ∷ body) n column = ap₂ (λ z w. z ++ w) (rows_kept x n column) (block_rows_kept body (stmt counted x n).1 column)

  block_kept : (body : List Stmt) (n : ℕ) → map erased (each (map (stmt counted) body) n).0 ≡ map erased body
  block_kept [] n = refl
  block_kept (x ∷ body) n = ap₂ (λ z w. z ∷ w) (erased_kept x n) (block_kept body (stmt counted x n).1)

-- ---- functions

param_tokens_kept : (p : Param) → param_tokens annotation_tokens (param p) ≡ param_tokens annotation_tokens p
param_tokens_kept p = by p.default
  where
    ahead : List Token
    ahead = t.Name p.name ∷ typed_tokens annotation_tokens p.annotation

    by : (o : Option Expr) → with_default (t.Name p.name ∷ typed_tokens annotation_tokens p.annotation) (option_map uncounted_expr o) ≡ with_default (t.Name p.name ∷ typed_tokens annotation_tokens p.annotation) o
    by None = refl
    by (Some x) = ap (λ ts. (t.Name p.name ∷ typed_tokens annotation_tokens p.annotation) ++ t.Mark m.Equal ∷ ts) (tokens_same Conditional (uncounted_expr x) x (expr_kept false x 0))

param_kept : (p : Param) → fresh_param 0 (param p) ≡ fresh_param 0 p
param_kept p = ap (λ (d : Option Expr). record { name = p.name; annotation = p.annotation; default = d; line = 0 }) (by p.default)
  where
    by : (o : Option Expr) → option_map (fresh 0) (option_map uncounted_expr o) ≡ option_map (fresh 0) o
    by None = refl
    by (Some x) = ap Some (fresh_same false (uncounted_expr x) x (expr_kept false x 0))

params_tokens_kept : (ps : List Param) → map (param_tokens annotation_tokens) (map param ps) ≡ map (param_tokens annotation_tokens) ps
params_tokens_kept [] = refl
params_tokens_kept (p ∷ ps) = ap₂ (λ z w. z ∷ w) (param_tokens_kept p) (params_tokens_kept ps)

params_kept : (ps : List Param) → map (fresh_param 0) (map param ps) ≡ map (fresh_param 0) ps
params_kept [] = refl
params_kept (p ∷ ps) = ap₂ (λ z w. z ∷ w) (param_kept p) (params_kept ps)

def_kept : (name : List ℕ) (ps : List Param) (returns : Option Annotation) → header_tokens annotation_tokens (h.Def name (map param ps) returns) ≡ header_tokens annotation_tokens (h.Def name ps returns)
def_kept name ps returns =
    ap (λ parts. (t.Keyword k.Def ∷ t.Name name ∷ t.Mark m.LeftParen ∷ (joined parts ++ t.Mark m.RightParen ∷ returns_tokens annotation_tokens returns)) ++ t.Mark m.Colon ∷ []) (params_tokens_kept ps)

func_rows_kept : (f : Func) (n column : ℕ) → func_rows annotation_tokens column (func f n).0 ≡ func_rows annotation_tokens column f
func_rows_kept f n column = ap₂ (λ ts rs. row column ts ∷ rs) (def_kept f.name f.params f.returns) (block_rows_kept true f.body (suc n) (column + indent))

func_kept : (f : Func) (n : ℕ) → erased_func (func f n).0 ≡ erased_func f
func_kept f n = ap₂ (λ (ps : List Param) (body : List Stmt). record { node = record { 0 = 0 }; name = f.name; line = 0; params = ps; returns = f.returns; body = body }) (params_kept f.params) (block_kept true f.body (suc n))

-- ---- classes

member_part_kept : (x : Member) (n : ℕ) → member_part (member_numbered x n).0 ≡ member_part x
member_part_kept (member.Func f) n = refl
member_part_kept (member.Other x) n = refl

member_lines_kept : (x : Member) (n blanks : ℕ) → member_lines blanks (member_numbered x n).0 ≡ member_lines blanks x
member_lines_kept (member.Func f) n blanks = ap (lines_of blanks) (func_rows_kept f n indent)
member_lines_kept (member.Other x) n blanks = ap (lines_of blanks) (rows_kept false x 0 indent)

member_kept : (x : Member) (n : ℕ) → erased_member (member_numbered x n).0 ≡ erased_member x
member_kept (member.Func f) n = ap member.Func (func_kept f n)
member_kept (member.Other x) n = ap member.Other (erased_kept false x 0)

members_kept : (all : List Member) (n : ℕ) → map erased_member (each (map member_numbered all) n).0 ≡ map erased_member all
members_kept [] n = refl
members_kept (x ∷ all) n = ap₂ (λ z w. z ∷ w) (member_kept x n) (members_kept all (member_numbered x n).1)

-- ---- parts with empty lines between them

module _ {X : Type 0} (wide : ℕ) (part_of : X → Part) (lines : ℕ → X → List Line) (number : X → Numbered X) (same_part : (x : X) (n : ℕ) → part_of (number x n).0 ≡ part_of x)
    (same_lines : (x : X) (n blanks : ℕ) → lines blanks (number x n).0 ≡ lines blanks x) where
  spaced_kept : (last : Option Part) (xs : List X) (n : ℕ) → spaced wide part_of lines last (each (map number xs) n).0 ≡ spaced wide part_of lines last xs
  spaced_kept last [] n = refl
  spaced_kept last (x ∷ xs) n =
      let p = same_part x n in
      ap₂ (λ z w. z ++ w) (ap (λ q. lines (gap wide last q) (number x n).0) p ∙ same_lines x n (gap wide last (part_of x)))
      (ap (λ q. spaced wide part_of lines (Some q) (each (map number xs) (number x n).1).0) p ∙ spaced_kept (Some (part_of x)) xs (number x n).1)

item_part_kept : (x : Item) (n : ℕ) → item_part (item_numbered x n).0 ≡ item_part x
item_part_kept (item.Func f) n = refl
item_part_kept (item.Class c) n = refl
item_part_kept (item.Import line names) n = refl
item_part_kept (item.Other x) n = refl

item_lines_kept : (x : Item) (n blanks : ℕ) → item_lines blanks (item_numbered x n).0 ≡ item_lines blanks x
item_lines_kept (item.Func f) n blanks = ap (lines_of blanks) (func_rows_kept f n 0)
item_lines_kept (item.Class c) n blanks = ap (λ ls. lines_of blanks (class_row c ∷ []) ++ ls) (spaced_kept 1 member_part member_lines member_numbered member_part_kept member_lines_kept None c.members n)
item_lines_kept (item.Import line names) n blanks = refl
item_lines_kept (item.Other x) n blanks = ap (lines_of blanks) (rows_kept false x 0 0)

item_kept : (x : Item) (n : ℕ) → erased_item (item_numbered x n).0 ≡ erased_item x
item_kept (item.Func f) n = ap item.Func (func_kept f n)
item_kept (item.Class c) n = ap (λ all. item.Class (record { name = c.name; base = c.base; line = 0; members = all })) (members_kept c.members n)
item_kept (item.Import line names) n = refl
item_kept (item.Other x) n = ap item.Other (erased_kept false x 0)

items_kept : (all : List Item) (n : ℕ) → map erased_item (each (map item_numbered all) n).0 ≡ map erased_item all
items_kept [] n = refl
items_kept (x ∷ all) n = ap₂ (λ z w. z ∷ w) (item_kept x n) (items_kept all (item_numbered x n).1)

-- ---- modules

pub lines_kept : (m : Module) → module_lines (numbered m) ≡ module_lines m
lines_kept m = spaced_kept 2 item_part item_lines item_numbered item_part_kept item_lines_kept None m.items 0

pub module_kept : (m : Module) → erased_module (numbered m) ≡ erased_module m
module_kept m = ap (λ items. record { items = items; future = m.future; nodes = 0 }) (items_kept m.items 0)
