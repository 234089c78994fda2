-- What a step makes is read as the step.
use Rattle.std.proofs.Common.{List, None, Option, Some, [], ap, false, map, refl, suc, true, ℕ, ◌&&◌, ◌^◌, ◌∙◌, ◌≡◌, ◌≤◌}
use Rattle.std.specs.Prelude.{if◌then◌else◌, is_none, nat_lt, negsuc, pos, slice_get}
use Rattle.std.specs.Option.{option_map}
use Rattle.pyn_base.specs.declared.class.ClassId.TheVariants.{Own}
use Rattle.pyn_base.specs.declared.ids.FuncId.{FuncId}
use Rattle.py_syntax.specs.declared.expr.Args.{out-roll-Args, roll-Args}
use Rattle.py_syntax.specs.declared.expr.Expr.{Expr}
use Rattle.py_syntax.specs.declared.expr.ExprKind.TheVariants as e
use Rattle.py_syntax.specs.declared.expr.ExprKind.TheVariants.{outs-BoolLit, outs-DictLit, outs-IntLit, outs-ListLit, outs-Method, outs-Name, outs-NoneLit, outs-StrLit, outs-Unary}
use Rattle.py_syntax.specs.declared.operator.Sign.TheVariants.{Minus}
use Rattle.py_plain.specs.Assertions.{ExprNode}
use Rattle.py_plain.specs.Names.{function_at}
use Rattle.py_plain.specs.Nodes.{kind_of_expr}
use Rattle.py_plain.specs.Program.{Function, Program}
use Rattle.suite_model.specs.declared.test.Primitive.{Primitive}
use Rattle.suite_model.specs.declared.test.Primitive.TheVariants as prim
use Rattle.suite_model.specs.declared.test.Step.{Step}
use Rattle.suite_model.specs.declared.test.Step.TheVariants as step
use Rattle.suite_model.specs.Statements.{calls, class_name, expression, function_name, literal, module_read, right_of, variable, variable_read}
use Rattle.suite_file.specs.declared.spelled.Right.{Right}
use Rattle.suite_file.specs.declared.spelled.Right.TheVariants as right
use Rattle.suite_file.specs.SuiteOf.{called_by as step_called, function_named, own_class_named, step_in}
use Rattle.suite_file.specs.Spelled.{args_in, called_by, integer_by, is_module, literal_by, plain_args, right_by, right_in, signed, variable_by, variable_in, ◌>>=◌}
use Rattle.name_laws.specs.Laws.{NamesAreFound}
use Rattle.suite_text.specs.Printable.{are_bound, is_function, is_identifier, is_printable_step, is_there}
use Rattle.suite_back.proofs.Classes.{class_at, module_is, own_found}
use Rattle.suite_back.proofs.Truths.{and_both, after_found}
use Rattle.suite_back.proofs.Variables.{all_back, bound_back, pairs_back, read_pair}

-- ---- literals

pub literal_read : (p : Primitive) → literal_by (kind_of_expr (literal p)) ≡ Some p
literal_read prim.None = ap literal_by outs-NoneLit
literal_read (prim.Bool b) = ap literal_by (outs-BoolLit b)
literal_read (prim.Int (pos n)) = ap literal_by (outs-IntLit (pos n))
literal_read (prim.Int (negsuc n)) =
    let one = expression (e.IntLit (pos (suc n))) in
    ap literal_by (outs-Unary Minus one) ∙ ap (λ (node : ExprNode). integer_by node >>= signed Minus) (outs-IntLit (pos (suc n)))
literal_read (prim.Str text) = ap literal_by (outs-StrLit text)

right_read : (p : Primitive) → right_in (literal p) ≡ Some (right.Prim p)
right_read prim.None = ap right_by outs-NoneLit
right_read (prim.Bool b) = ap right_by (outs-BoolLit b)
right_read (prim.Int (pos n)) = ap right_by (outs-IntLit (pos n))
right_read (prim.Int (negsuc n)) =
    let one = expression (e.IntLit (pos (suc n))) in
    ap right_by (outs-Unary Minus one) ∙ ap (λ (node : ExprNode). option_map right.Prim (integer_by node >>= signed Minus)) (outs-IntLit (pos (suc n)))
right_read (prim.Str text) = ap right_by (outs-StrLit text)

-- ---- calls

args_read : (bound : ℕ) (args : List ℕ) → are_bound bound args ≡ true → bound ≤ 2 ^ 31 → args_in (roll-Args record { plain = map variable_read args; named = [] }) ≡ Some args
args_read bound args h le = ap (λ o. plain_args o.plain o.named) (out-roll-Args record { plain = map variable_read args; named = [] }) ∙ all_back bound args h le

call_read : (bound : ℕ) (of : Expr) (name args : List ℕ) → are_bound bound args ≡ true → bound ≤ 2 ^ 31 → right_in (calls of name args) ≡ called_by (kind_of_expr of) name args
call_read bound of name args h le =
    let given = roll-Args record { plain = map variable_read args; named = [] } in
    ap right_by (outs-Method of name given) ∙ after_found (args_in given) (called_by (kind_of_expr of) name) args _ (args_read bound args h le) refl

of_module : (bound : ℕ) (name args : List ℕ) → are_bound bound args ≡ true → bound ≤ 2 ^ 31 → right_in (calls module_read name args) ≡ Some (right.OfModule name args)
of_module bound name args h le =
    call_read bound module_read name args h le
    ∙ ap (λ b. if b then Some (right.OfModule name args) else (variable_by (kind_of_expr module_read) >>= λ k. Some (right.Method k name args))) module_is

no_module : (k : ℕ) → is_module (kind_of_expr (variable_read k)) ≡ false
no_module k = ap is_module (outs-Name (variable k))

of_variable : (bound k : ℕ) (name args : List ℕ) → nat_lt k bound ≡ true → are_bound bound args ≡ true → bound ≤ 2 ^ 31 → right_in (calls (variable_read k) name args) ≡ Some (right.Method k name args)
of_variable bound k name args lt h le =
    call_read bound (variable_read k) name args h le
    ∙ ap (λ b. if b then Some (right.OfModule name args) else (variable_in (variable_read k) >>= λ k. Some (right.Method k name args))) (no_module k)
    ∙ after_found (variable_in (variable_read k)) (λ k. Some (right.Method k name args)) k _ (bound_back bound k lt le) refl

-- ---- steps, where so many variables are bound

module _ (program : Program) where
  -- how a step is spelled
  abbrev pub spelling : Step → Right
  spelling (step.Prim p) = right.Prim p
  spelling (step.ListOf parts) = right.ListOf parts
  spelling (step.DictOf pairs) = right.DictOf pairs
  spelling (step.Construct class args) = right.OfModule (class_name (slice_get program.classes class)) args
  spelling (step.Method receiver name args) = right.Method receiver name args
  spelling (step.Function f args) = right.OfModule (function_name (function_at program (Some f))) args

  pub spelling_read : (bound : ℕ) (made : Step) → is_printable_step program bound made ≡ true → bound ≤ 2 ^ 31 → right_in (right_of program made) ≡ Some (spelling made)
  spelling_read bound (step.Prim p) h le = right_read p
  spelling_read bound (step.ListOf parts) h le = ap right_by (outs-ListLit (map variable_read parts)) ∙ ap (option_map right.ListOf) (all_back bound parts h le)
  spelling_read bound (step.DictOf pairs) h le = ap right_by (outs-DictLit (map read_pair pairs)) ∙ ap (option_map right.DictOf) (pairs_back bound pairs h le)
  spelling_read bound (step.Construct class args) h le =
      let two = and_both (is_there program (Own class)) (are_bound bound args) h in
      of_module bound (class_name (slice_get program.classes class)) args two.1 le
  spelling_read bound (step.Method receiver name args) h le =
      let two = and_both (nat_lt receiver bound) (is_identifier name && are_bound bound args) h in
      of_variable bound receiver name args two.0 (and_both (is_identifier name) (are_bound bound args) two.1).1 le
  spelling_read bound (step.Function f args) h le =
      let two = and_both (is_function (function_at program (Some f))) (are_bound bound args) h in
      of_module bound (function_name (function_at program (Some f))) args two.1 le

  module _ (found : NamesAreFound program) where
    class_stepped : (class : ℕ) (args : List ℕ) → is_there program (Own class) ≡ true
        → let name = class_name (slice_get program.classes class) in step_called (function_named program name) (own_class_named program name) args ≡ Some (step.Construct class args)
    class_stepped class args h =
        let c = class_at program class h in
        let none : function_named program (class_name (slice_get program.classes class)) ≡ None = ap (λ o. function_named program (class_name o)) c.1 ∙ found.apart class c.0 c.1 in
        rw (none, own_found program found class h) refl

    function_info : (o : Option Function) → is_function o ≡ true → (f : Function) × (o ≡ Some f) × (f.owner ≡ None)
    function_info None h = absurd (cc)
    function_info (Some f) h = (f, refl, no_owner f.owner (and_both (is_none f.owner) (is_identifier f.tree.name) h).0)
      where
        no_owner : (o : Option ℕ) → is_none o ≡ true → o ≡ None
        no_owner None h = refl
        no_owner (Some k) h = absurd (cc)

    function_stepped : (f : FuncId) (args : List ℕ) → is_function (function_at program (Some f)) ≡ true
        → let name = function_name (function_at program (Some f)) in step_called (function_named program name) (own_class_named program name) args ≡ Some (step.Function f args)
    function_stepped f args h =
        let c = function_info (function_at program (Some f)) h in
        let name = function_name (function_at program (Some f)) in
        let some : function_named program name ≡ Some f = ap (λ o. function_named program (function_name o)) c.1 ∙ found.functions f.0 c.0 c.1 c.2 in
        ap (λ o. step_called o (own_class_named program name) args) some

    pub step_found : (bound : ℕ) (made : Step) → is_printable_step program bound made ≡ true → step_in program bound (spelling made) ≡ Some made
    step_found bound (step.Prim p) h = refl
    step_found bound (step.ListOf parts) h = rw h refl
    step_found bound (step.DictOf pairs) h = rw h refl
    step_found bound (step.Construct class args) h =
        let two = and_both (is_there program (Own class)) (are_bound bound args) h in
        rw two.1 (class_stepped class args two.0)
    step_found bound (step.Method receiver name args) h =
        let two = and_both (nat_lt receiver bound) (is_identifier name && are_bound bound args) h in
        let bounds = (and_both (is_identifier name) (are_bound bound args) two.1).1 in
        rw (two.0, bounds) refl
    step_found bound (step.Function f args) h =
        let two = and_both (is_function (function_at program (Some f))) (are_bound bound args) h in
        rw two.1 (function_stepped f args two.0)
