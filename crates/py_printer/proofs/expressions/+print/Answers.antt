use Rattle.std.proofs.Common.{◌∙◌, refl, sym, ap, ap₂, ◌∷◌, ◌++◌, [], map, true, append_assoc}
use Rattle.py_language.specs.declared.token.Token.TheVariants as t
use Rattle.py_language.specs.declared.token.Keyword.TheVariants as keyword
use Rattle.py_language.specs.declared.token.Mark.TheVariants as mark
use Rattle.py_language.specs.declared.shape.Bracket.TheVariants.{Round, Square, Brace}
use Rattle.py_language.specs.declared.shape.Symbol.TheVariants as s
use Rattle.py_printing.specs.Printing.{arguments, enclosed, tuple as symbols_of_tuple}
use Rattle.py_printer.specs.declared.slots.Slot.TheVariants as slot
use Rattle.py_printer.specs.Expressions.{draw, bare_of, printed_in, joined, separator_symbol, named_symbols, entry_symbols, compared_symbols, bound_symbols, given_of, left_slot, right_slot}
use Rattle.py_printer.proofs.Draws.{draw-nil, both, then_ok, same_ok}
use Rattle.py_printer.proofs.Forms.{bare_in, bracketed_in, infix_drawn, prefix_ok, infix_ok, enclosed_ok, attribute_ok, method_ok, named_drawn, one_comparison, all_comparisons}
use Rattle.py_printer.proofs.Parts.{operator_symbol, operator_tokens, arguments_by, tuple_by, bare-ListLit, bare-TupleLit, bare-DictLit, bare-Attr, bare-Index, bare-Slice, bare-Call, bare-Method, bare-Super, bare-Unary, bare-Not, bare-Binary, bare-And, bare-Or, bare-Compare, bare-Cond}
use Rattle.py_printer.proofs.Series.{one_part, all_parts}
use Rattle.py_printer.proofs.expressions.+print.Goals as goal

pub arguments-returns : goal.arguments-returns
arguments-returns h c =
    enclosed_ok c.mark-2.result Round c.args.pen.now c.mark.new.self c.named_arguments.new.pen c.mark-2.new.self _ _ c.in_ok-mark.ensures
    (both c.mark.new.self c.series.new.pen c.named_arguments.new.pen _ _ c.in_ok-series.ensures c.in_ok-named_arguments.ensures) c.mark-2.ensures
    (arguments_by c.args.args.now c.as_slice-plain.result.now c.as_slice.result.now c.is_empty.result c.as_slice-plain.ensures c.as_slice.ensures c.is_empty.ensures)

pub bound-returns-in-None : goal.bound-returns-in-None
bound-returns-in-None h c = draw-nil c.args.pen.now ∙ ap (λ x. draw c.args.pen.now (bound_symbols x)) (sym c.in-None.is)

pub compared-returns : goal.compared-returns
compared-returns h c = all_comparisons c.args.others.now c.loop-other.other-index _ c.loop-other.pen c.loop-other-test.false c.loop-other.invariant

pub expression-returns-then-is_bare : goal.expression-returns-then-is_bare
expression-returns-then-is_bare h c = same_ok c.operation.result c.args.pen.now c.operation.new.pen _ _ c.operation.ensures (bare_in c.args.slot c.args.x.now (sym c.is_bare.ensures ∙ c.if-is_bare.true))

pub expression-returns : goal.expression-returns
expression-returns h c =
    enclosed_ok c.mark-2.result Round c.args.pen.now c.mark.new.self c.operation-2.new.pen c.mark-2.new.self _ _ c.in_ok-mark.ensures c.in_ok-operation.ensures c.mark-2.ensures
    (bracketed_in c.args.slot c.args.x.now (sym c.is_bare.ensures ∙ c.if-is_bare.false))

pub named_arguments-returns : goal.named_arguments-returns
named_arguments-returns h c = all_parts named_symbols s.Comma c.args.named.now c.loop-argument.argument-index c.loop-argument.first _ c.loop-argument.pen c.loop-argument-test.false c.loop-argument.invariant

pub operation-returns-in_ok-mark-in-Unary : goal.operation-returns-in_ok-mark-in-Unary
operation-returns-in_ok-mark-in-Unary h c =
    prefix_ok c.expression.result c.args.pen.now c.mark.new.self c.expression.new.pen _ (s.Sign c.in-Unary.sign) _ _ (ap (λ y. y ∷ []) (sym c.sign_mark.ensures)) c.in_ok-mark-in-Unary.ensures c.expression.ensures
    (ap bare_of c.in-Unary.is ∙ bare-Unary c.in-Unary.sign c.in-Unary.x ∙ ap (λ x. s.Sign c.in-Unary.sign ∷ printed_in slot.Signed x) (sym c.get.ensures))

pub operation-returns-in_ok-keyword-in-Not : goal.operation-returns-in_ok-keyword-in-Not
operation-returns-in_ok-keyword-in-Not h c =
    prefix_ok c.expression-in-Not.result c.args.pen.now c.keyword.new.self c.expression-in-Not.new.pen (t.Keyword keyword.Not) s.Not _ _ refl c.in_ok-keyword-in-Not.ensures c.expression-in-Not.ensures
    (ap bare_of c.in-Not.is ∙ bare-Not c.in-Not.x ∙ ap (λ x. s.Not ∷ printed_in slot.Negation x) (sym c.get-in-Not.ensures))

pub operation-returns-in_ok-mark-in-Binary : goal.operation-returns-in_ok-mark-in-Binary
operation-returns-in_ok-mark-in-Binary h c =
    let op = c.in-Binary.op in
    infix_ok c.expression-in-Binary-2.result c.args.pen.now c.expression-in-Binary.new.pen c.mark-in-Binary.new.self c.expression-in-Binary-2.new.pen _ (operator_symbol op) _ _ _
    (operator_tokens op _ c.operator_mark.ensures) c.in_ok-expression-in-Binary.ensures c.in_ok-mark-in-Binary.ensures c.expression-in-Binary-2.ensures
    (ap bare_of c.in-Binary.is ∙ bare-Binary op c.in-Binary.x c.in-Binary.y
    ∙ ap₂ (λ x y. printed_in (left_slot op) x ++ operator_symbol op ∷ printed_in (right_slot op) y) (sym c.get-in-Binary.ensures) (sym c.get-in-Binary-2.ensures)
    ∙ ap₂ (λ u v. printed_in u c.get-in-Binary.result.now ++ operator_symbol op ∷ printed_in v c.get-in-Binary-2.result.now) (sym c.left_slot.ensures) (sym c.right_slot.ensures))

pub operation-returns-in-And : goal.operation-returns-in-And
operation-returns-in-And h c =
    same_ok c.series.result c.args.pen.now c.series.new.pen _ _ c.series.ensures
    (ap bare_of c.in-And.is ∙ bare-And c.in-And.xs ∙ ap (λ xs. joined true s.And (map (printed_in slot.Negation) xs)) (sym c.as_slice.ensures))

pub operation-returns-in-Or : goal.operation-returns-in-Or
operation-returns-in-Or h c =
    same_ok c.series-in-Or.result c.args.pen.now c.series-in-Or.new.pen _ _ c.series-in-Or.ensures
    (ap bare_of c.in-Or.is ∙ bare-Or c.in-Or.xs ∙ ap (λ xs. joined true s.Or (map (printed_in slot.Conjunction) xs)) (sym c.as_slice-in-Or.ensures))

pub operation-returns-in_ok-expression-in-Compare : goal.operation-returns-in_ok-expression-in-Compare
operation-returns-in_ok-expression-in-Compare h c =
    then_ok c.compared.result c.args.pen.now c.expression-in-Compare.new.pen c.compared.new.pen _ _ _ c.in_ok-expression-in-Compare.ensures c.compared.ensures
    (ap bare_of c.in-Compare.is ∙ bare-Compare c.in-Compare.x c.in-Compare.others ∙ ap₂ (λ x cs. printed_in slot.Sum x ++ compared_symbols cs) (sym c.get-in-Compare.ensures) (sym c.as_slice-in-Compare.ensures))

pub operation-returns-in_ok-keyword-in-Cond-2 : goal.operation-returns-in_ok-keyword-in-Cond-2
operation-returns-in_ok-keyword-in-Cond-2 h c =
    let x = c.get-in-Cond.result.now in
    let y = c.get-in-Cond-2.result.now in
    let z = c.get-in-Cond-3.result.now in
    let front = printed_in slot.Disjunction x ++ s.If ∷ printed_in slot.Disjunction y in
    infix_ok c.expression-in-Cond-3.result c.args.pen.now c.expression-in-Cond-2.new.pen c.keyword-in-Cond-2.new.self c.expression-in-Cond-3.new.pen (t.Keyword keyword.Else) s.Else front (printed_in slot.Conditional z) _ refl
    (infix_drawn c.args.pen.now c.expression-in-Cond.new.pen c.keyword-in-Cond.new.self c.expression-in-Cond-2.new.pen (t.Keyword keyword.If) s.If (printed_in slot.Disjunction x) (printed_in slot.Disjunction y) refl c.in_ok-expression-in-Cond.ensures c.in_ok-keyword-in-Cond.ensures c.in_ok-expression-in-Cond-2.ensures)
    c.in_ok-keyword-in-Cond-2.ensures c.expression-in-Cond-3.ensures
    (ap bare_of c.in-Cond.is ∙ bare-Cond c.in-Cond.x c.in-Cond.test c.in-Cond.y
    ∙ ap (λ x. printed_in slot.Disjunction x ++ s.If ∷ (printed_in slot.Disjunction c.in-Cond.test ++ s.Else ∷ printed_in slot.Conditional c.in-Cond.y)) (sym c.get-in-Cond.ensures)
    ∙ ap₂ (λ y z. printed_in slot.Disjunction x ++ s.If ∷ (printed_in slot.Disjunction y ++ s.Else ∷ printed_in slot.Conditional z)) (sym c.get-in-Cond-2.ensures) (sym c.get-in-Cond-3.ensures)
    ∙ sym (append_assoc (printed_in slot.Disjunction x) (s.If ∷ printed_in slot.Disjunction y) (s.Else ∷ printed_in slot.Conditional z)))

pub pairs-returns : goal.pairs-returns
pairs-returns h c = all_parts entry_symbols s.Comma c.args.entries.now c.loop-entry.entry-index c.loop-entry.first _ c.loop-entry.pen c.loop-entry-test.false c.loop-entry.invariant

pub primary-returns-in_ok-series-in-ListLit : goal.primary-returns-in_ok-series-in-ListLit
primary-returns-in_ok-series-in-ListLit h c =
    enclosed_ok c.mark-in-ListLit.result Square c.args.pen.now c.mark.new.self c.series.new.pen c.mark-in-ListLit.new.self _ _ c.in_ok-mark-in-ListLit.ensures c.in_ok-series-in-ListLit.ensures c.mark-in-ListLit.ensures
    (ap bare_of c.in-ListLit.is ∙ bare-ListLit c.in-ListLit.xs ∙ ap (λ xs. enclosed Square (joined true s.Comma (map (printed_in slot.Conditional) xs))) (sym c.as_slice.ensures))

pub primary-returns-in-TupleLit : goal.primary-returns-in-TupleLit
primary-returns-in-TupleLit h c =
    same_ok c.tuple.result c.args.pen.now c.tuple.new.pen _ _ c.tuple.ensures
    (ap bare_of c.in-TupleLit.is ∙ bare-TupleLit c.in-TupleLit.xs ∙ ap (λ xs. enclosed Round (symbols_of_tuple (map (printed_in slot.Conditional) xs))) (sym c.as_slice-in-TupleLit.ensures))

pub primary-returns-in_ok-pairs-in-DictLit : goal.primary-returns-in_ok-pairs-in-DictLit
primary-returns-in_ok-pairs-in-DictLit h c =
    enclosed_ok c.mark-in-DictLit-2.result Brace c.args.pen.now c.mark-in-DictLit.new.self c.pairs.new.pen c.mark-in-DictLit-2.new.self _ _ c.in_ok-mark-in-DictLit.ensures c.in_ok-pairs-in-DictLit.ensures c.mark-in-DictLit-2.ensures
    (ap bare_of c.in-DictLit.is ∙ bare-DictLit c.in-DictLit.entries ∙ ap (λ xs. enclosed Brace (joined true s.Comma (map entry_symbols xs))) (sym c.as_slice-in-DictLit.ensures))

pub primary-returns-in_ok-mark-in-Attr : goal.primary-returns-in_ok-mark-in-Attr
primary-returns-in_ok-mark-in-Attr h c =
    attribute_ok c.name.result c.args.pen.now c.expression.new.pen c.mark-in-Attr.new.self c.name.new.self c.in-Attr.name _ _ c.in_ok-expression-in-Attr.ensures c.in_ok-mark-in-Attr.ensures c.name.ensures
    (ap bare_of c.in-Attr.is ∙ bare-Attr c.in-Attr.x c.in-Attr.name ∙ ap (λ x. printed_in slot.Postfix x ++ s.Attribute c.in-Attr.name ∷ []) (sym c.get.ensures))

pub primary-returns-in_ok-expression-in-Index-2 : goal.primary-returns-in_ok-expression-in-Index-2
primary-returns-in_ok-expression-in-Index-2 h c =
    let inner = enclosed Square (printed_in slot.Listed c.get-in-Index-2.result.now) in
    then_ok c.mark-in-Index-2.result c.args.pen.now c.expression-in-Index.new.pen c.mark-in-Index-2.new.self _ inner _ c.in_ok-expression-in-Index.ensures
    (enclosed_ok c.mark-in-Index-2.result Square c.expression-in-Index.new.pen c.mark-in-Index.new.self c.expression-in-Index-2.new.pen c.mark-in-Index-2.new.self _ inner c.in_ok-mark-in-Index.ensures c.in_ok-expression-in-Index-2.ensures c.mark-in-Index-2.ensures refl)
    (ap bare_of c.in-Index.is ∙ bare-Index c.in-Index.x c.in-Index.i
    ∙ ap₂ (λ x i. printed_in slot.Postfix x ++ enclosed Square (printed_in slot.Listed i)) (sym c.get-in-Index.ensures) (sym c.get-in-Index-2.ensures))

pub primary-returns-in_ok-bound-in-Slice-2 : goal.primary-returns-in_ok-bound-in-Slice-2
primary-returns-in_ok-bound-in-Slice-2 h c =
    let low = bound_symbols c.in-Slice.low in
    let high = bound_symbols c.in-Slice.high in
    let inner = enclosed Square (low ++ s.Colon ∷ high) in
    then_ok c.mark-in-Slice-3.result c.args.pen.now c.expression-in-Slice.new.pen c.mark-in-Slice-3.new.self _ inner _ c.in_ok-expression-in-Slice.ensures
    (enclosed_ok c.mark-in-Slice-3.result Square c.expression-in-Slice.new.pen c.mark-in-Slice.new.self c.bound-in-Slice.new.pen c.mark-in-Slice-3.new.self (low ++ s.Colon ∷ high) inner c.in_ok-mark-in-Slice.ensures
    (infix_drawn c.mark-in-Slice.new.self c.bound.new.pen c.mark-in-Slice-2.new.self c.bound-in-Slice.new.pen (t.Mark mark.Colon) s.Colon low high refl c.in_ok-bound-in-Slice.ensures c.in_ok-mark-in-Slice-2.ensures c.in_ok-bound-in-Slice-2.ensures)
    c.mark-in-Slice-3.ensures refl)
    (ap bare_of c.in-Slice.is ∙ bare-Slice c.in-Slice.x c.in-Slice.low c.in-Slice.high ∙ ap (λ x. printed_in slot.Postfix x ++ inner) (sym c.get-in-Slice.ensures))

pub primary-returns-in_ok-expression-in-Call : goal.primary-returns-in_ok-expression-in-Call
primary-returns-in_ok-expression-in-Call h c =
    then_ok c.arguments.result c.args.pen.now c.expression-in-Call.new.pen c.arguments.new.pen _ _ _ c.in_ok-expression-in-Call.ensures c.arguments.ensures
    (ap bare_of c.in-Call.is ∙ bare-Call c.in-Call.x c.in-Call.args ∙ ap (λ x. printed_in slot.Callee x ++ arguments (given_of c.in-Call.args)) (sym c.get-in-Call.ensures))

pub primary-returns-in_ok-name-in-Method : goal.primary-returns-in_ok-name-in-Method
primary-returns-in_ok-name-in-Method h c =
    method_ok c.arguments-in-Method.result c.args.pen.now c.expression-in-Method.new.pen c.mark-in-Method.new.self c.name-in-Method.new.self c.arguments-in-Method.new.pen c.in-Method.name _ _ _ c.in_ok-expression-in-Method.ensures
    c.in_ok-mark-in-Method.ensures c.in_ok-name-in-Method.ensures c.arguments-in-Method.ensures
    (ap bare_of c.in-Method.is ∙ bare-Method c.in-Method.x c.in-Method.name c.in-Method.args ∙ ap (λ x. printed_in slot.Owner x ++ s.Method c.in-Method.name ∷ arguments (given_of c.in-Method.args)) (sym c.get-in-Method.ensures))

pub primary-returns-in_ok-super_method-in-Super : goal.primary-returns-in_ok-super_method-in-Super
primary-returns-in_ok-super_method-in-Super h c =
    then_ok c.arguments-in-Super.result c.args.pen.now c.super_method.new.pen c.arguments-in-Super.new.pen _ _ _ c.in_ok-super_method-in-Super.ensures c.arguments-in-Super.ensures
    (ap bare_of c.in-Super.is ∙ bare-Super c.in-Super.name c.in-Super.args)

pub series-returns : goal.series-returns
series-returns h c = all_parts (printed_in c.args.slot) (separator_symbol c.args.mark) c.args.xs.now c.loop-x.x-index c.loop-x.first _ c.loop-x.pen c.loop-x-test.false c.loop-x.invariant

pub tuple-returns : goal.tuple-returns
tuple-returns h c =
    enclosed_ok c.mark-2.result Round c.args.pen.now c.mark.new.self c.end_tuple.new.pen c.mark-2.new.self _ _ c.in_ok-mark.ensures
    (both c.mark.new.self c.series.new.pen c.end_tuple.new.pen _ _ c.in_ok-series.ensures c.in_ok-end_tuple.ensures) c.mark-2.ensures (tuple_by c.args.xs.now _ refl)

pub series-loop-x-init : goal.series-loop-x-init
series-loop-x-init h c = refl

pub compared-loop-other-init : goal.compared-loop-other-init
compared-loop-other-init h c = refl

pub pairs-loop-entry-init : goal.pairs-loop-entry-init
pairs-loop-entry-init h c = refl

pub named_arguments-loop-argument-init : goal.named_arguments-loop-argument-init
named_arguments-loop-argument-init h c = refl

pub series-loop-x-preserved : goal.series-loop-x-preserved
series-loop-x-preserved h c =
    one_part (printed_in c.args.slot) (separator_symbol c.args.mark) c.args.xs.now c.loop-x.x-index c.x-item.result c.loop-x.first _ c.loop-x.pen c.separate.new.pen c.expression.new.pen c.loop-x-test.true c.x-item.is c.loop-x.invariant
    c.in_ok-separate.ensures c.in_ok-expression.ensures

pub compared-loop-other-preserved : goal.compared-loop-other-preserved
compared-loop-other-preserved h c = one_comparison c.args.others.now c.loop-other.other-index c.other-item.result _ c.loop-other.pen c.comparison.new.pen c.expression.new.pen c.loop-other-test.true c.other-item.is c.loop-other.invariant c.in_ok-comparison.ensures c.in_ok-expression.ensures

pub pairs-loop-entry-preserved : goal.pairs-loop-entry-preserved
pairs-loop-entry-preserved h c =
    let x = c.entry-item.result in
    one_part entry_symbols s.Comma c.args.entries.now c.loop-entry.entry-index x c.loop-entry.first _ c.loop-entry.pen c.separate.new.pen c.expression-in-loop-entry.new.pen c.loop-entry-test.true c.entry-item.is c.loop-entry.invariant c.in_ok-separate.ensures
    (infix_drawn c.separate.new.pen c.expression.new.pen c.mark.new.self c.expression-in-loop-entry.new.pen (t.Mark mark.Colon) s.Colon (printed_in slot.Conditional x.0) (printed_in slot.Conditional x.1) refl
    c.in_ok-expression.ensures c.in_ok-mark.ensures c.in_ok-expression-2.ensures)

pub named_arguments-loop-argument-preserved : goal.named_arguments-loop-argument-preserved
named_arguments-loop-argument-preserved h c =
    let x = c.argument-item.result in
    one_part named_symbols s.Comma c.args.named.now c.loop-argument.argument-index x c.loop-argument.first _ c.loop-argument.pen c.separate.new.pen c.expression.new.pen c.loop-argument-test.true c.argument-item.is c.loop-argument.invariant c.in_ok-separate.ensures
    (named_drawn c.separate.new.pen c.name.new.self c.mark.new.self c.expression.new.pen x c.in_ok-name.ensures c.in_ok-mark.ensures c.in_ok-expression.ensures)
