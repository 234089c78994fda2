use Rattle.std.proofs.Common.{◌≡◌, ◌∙◌, sym, ap, refl, ℕ, List, ◌∷◌, ◌+◌, ◌*◌, ◌<◌, ◌≤◌, map, length, length-append, bytes_eq, Ok, arith}
use Rattle.std.specs.List.{list_any}
use Rattle.std.proofs.lemmas.Bool.{eqb-true, eqb-false}
use denote.Ref.{Bor}
use Rattle.py_language.specs.FirstForm.{lines_of, name_of, is_distinct, is_among, is_empty_line, returned_by, Head, names_up_to, module_of}
use Rattle.py_language.proofs.FirstFormLemmas.{awaited}
use Rattle.py_language.proofs.FirstFormLemmas.{head_refused, body_refused, last_function, full, gap_refused, second_refused, one_further, still_distinct}
use Rattle.py_first_form.proofs.CodeLemmas.{no_new_name, begins_with, opened_def, opened_some, opened_gap, function_read, knows_more, gives_refused, some_lines, no_lines, awaited_at_first}
use Rattle.py_first_form.proofs.first_form.read_functions.Goals as goal

pub loop-names-init : goal.loop-names-init
loop-names-init c =
    let none = c.new-functions.ensures.items in
    record {
      awaited = awaited_at_first (lines_of c.args.text.now) (some_lines c.args.text.now c.requires) ∙ ap (λ done. awaited done (lines_of c.args.text.now)) (sym none);
      names = λ name.
          ap (λ (keys : List (Bor (List ℕ))). list_any (λ other. bytes_eq other.now name) keys) c.new-names.ensures.empty
          ∙ ap (λ done. is_among (map name_of done) name) (sym none);
      distinct = ap (λ done. is_distinct (map name_of done)) none;
      few = omega (arith, ap length none);
    }

pub returns-in_default-clause-refused : goal.returns-in_default-clause-refused
returns-in_default-clause-refused c =
    let done = c.loop-names.functions.items in
    let lines = lines_of c.loop-names.left.now in
    let no_name = no_new_name c.loop-names.names done c.take_line.result.0.now c.loop-names.invariant.names (sym c.in_ok-name.ensures.name ∙ c.in_default.is) in
    gives_refused c.refused.result _ (4 * length done + 1) 0 _ c.refused.ensures (omega (arith, c.len.ensures))
    (c.loop-names.invariant.awaited ∙ head_refused done lines (ap (names_up_to Head (map name_of done)) (sym c.take_line.ensures.line) ∙ no_name))

pub returns-in_default-2-clause-refused : goal.returns-in_default-2-clause-refused
returns-in_default-2-clause-refused c =
    let done = c.loop-names.functions.items in
    let lines = lines_of c.loop-names.left.now in
    let begins = begins_with c.loop-names.names done c.take_line.result.0.now c.in-Some.name c.loop-names.invariant.names (sym c.in_ok-name.ensures.name ∙ c.in-Some.is) in
    let opened = opened_def lines _ c.take_line.result.0.now c.in-Some.name c.take_line.ensures.line c.take_line.ensures.rest begins.named in
    gives_refused c.refused-in_default-2.result _ (4 * length done + 1) 1 _ c.refused-in_default-2.ensures (omega (arith, c.len.ensures))
    (c.loop-names.invariant.awaited ∙ ap (awaited done) opened
    ∙ body_refused done _ c.in-Some.name _ begins (ap returned_by (sym c.take_line-in-loop-names.ensures.line) ∙ sym c.in_ok-literal.ensures ∙ c.in_default-2.is))

pub returns-then-is_empty-clause-ok : goal.returns-then-is_empty-clause-ok
returns-then-is_empty-clause-ok c =
    let done = c.loop-names.functions.items in
    let lines = lines_of c.loop-names.left.now in
    let read = function_read done c.loop-names.names lines _ _ _ _ c.in-Some.name c.in-Some-2.literal c.take_line.ensures.line c.take_line.ensures.rest
    c.take_line-in-loop-names.ensures.line c.take_line-in-loop-names.ensures.rest c.loop-names.invariant.names (sym c.in_ok-name.ensures.name ∙ c.in-Some.is)
    (sym c.in_ok-literal.ensures ∙ c.in-Some-2.is) in
    let at_end = no_lines c.take_line-in-loop-names.result.1.now (eqb-true _ 0 (sym c.is_empty.ensures ∙ c.if-is_empty.true)) in
    c.loop-names.invariant.awaited ∙ ap (awaited done) (read.lines_are ∙ ap (λ left. c.take_line.result.0.now ∷ c.take_line-in-loop-names.result.0.now ∷ left) at_end)
    ∙ last_function done _ _ _ read.holds c.loop-names.invariant.distinct c.loop-names.invariant.few
    ∙ ap (λ functions. Ok (module_of functions)) (sym c.in_ok-push.ensures.items)

pub returns-then-len-eq-MOST_FUNCTIONS-clause-refused : goal.returns-then-len-eq-MOST_FUNCTIONS-clause-refused
returns-then-len-eq-MOST_FUNCTIONS-clause-refused c =
    let done = c.loop-names.functions.items in
    let lines = lines_of c.loop-names.left.now in
    let read = function_read done c.loop-names.names lines _ _ _ _ c.in-Some.name c.in-Some-2.literal c.take_line.ensures.line c.take_line.ensures.rest
    c.take_line-in-loop-names.ensures.line c.take_line-in-loop-names.ensures.rest c.loop-names.invariant.names (sym c.in_ok-name.ensures.name ∙ c.in-Some.is)
    (sym c.in_ok-literal.ensures ∙ c.in-Some-2.is) in
    let goes_on : length c.take_line-in-loop-names.result.1.now ≡ 0 → ⊥ = eqb-false _ 0 (sym c.is_empty.ensures ∙ c.if-is_empty.false) in
    let gap = opened_some _ _ _ c.take_line-in-loop-names-2.ensures.line c.take_line-in-loop-names-2.ensures.rest (some_lines c.take_line-in-loop-names.result.1.now (omega (arith, goes_on))) in
    let opened = read.lines_are ∙ ap (λ left. c.take_line.result.0.now ∷ c.take_line-in-loop-names.result.0.now ∷ left) gap in
    let size : length c.push.new.self.items ≡ length done + 1 = ap length c.in_ok-push.ensures.items ∙ length-append done _ in
    let all : 2000 ≤ length done + 1 = omega (arith, size, c.len-in-loop-names.ensures, c.if-len-eq-MOST_FUNCTIONS.true) in
    gives_refused c.refused-then-len-eq-MOST_FUNCTIONS.result _ (4 * length done + 1) 2 _ c.refused-then-len-eq-MOST_FUNCTIONS.ensures (omega (arith, c.len.ensures))
    (c.loop-names.invariant.awaited ∙ ap (awaited done) opened ∙ full done _ _ _ c.take_line-in-loop-names-2.result.0.now (lines_of c.take_line-in-loop-names-2.result.1.now) read.holds all)

pub returns-then-not-is_empty_line-clause-refused : goal.returns-then-not-is_empty_line-clause-refused
returns-then-not-is_empty_line-clause-refused c =
    let done = c.loop-names.functions.items in
    let lines = lines_of c.loop-names.left.now in
    let read = function_read done c.loop-names.names lines _ _ _ _ c.in-Some.name c.in-Some-2.literal c.take_line.ensures.line c.take_line.ensures.rest
    c.take_line-in-loop-names.ensures.line c.take_line-in-loop-names.ensures.rest c.loop-names.invariant.names (sym c.in_ok-name.ensures.name ∙ c.in-Some.is)
    (sym c.in_ok-literal.ensures ∙ c.in-Some-2.is) in
    let goes_on : length c.take_line-in-loop-names.result.1.now ≡ 0 → ⊥ = eqb-false _ 0 (sym c.is_empty.ensures ∙ c.if-is_empty.false) in
    let gap = opened_some _ _ _ c.take_line-in-loop-names-2.ensures.line c.take_line-in-loop-names-2.ensures.rest (some_lines c.take_line-in-loop-names.result.1.now (omega (arith, goes_on))) in
    let opened = read.lines_are ∙ ap (λ left. c.take_line.result.0.now ∷ c.take_line-in-loop-names.result.0.now ∷ left) gap in
    gives_refused c.refused-then-not-is_empty_line.result _ (4 * length done + 1) 2 _ c.refused-then-not-is_empty_line.ensures (omega (arith, c.len.ensures))
    (c.loop-names.invariant.awaited ∙ ap (awaited done) opened
    ∙ gap_refused done _ _ _ c.take_line-in-loop-names-2.result.0.now (lines_of c.take_line-in-loop-names-2.result.1.now) read.holds (sym c.is_empty_line.ensures ∙ c.if-not-is_empty_line.true))

pub returns-then-not-is_empty_line-2-clause-refused : goal.returns-then-not-is_empty_line-2-clause-refused
returns-then-not-is_empty_line-2-clause-refused c =
    let done = c.loop-names.functions.items in
    let lines = lines_of c.loop-names.left.now in
    let read = function_read done c.loop-names.names lines _ _ _ _ c.in-Some.name c.in-Some-2.literal c.take_line.ensures.line c.take_line.ensures.rest
    c.take_line-in-loop-names.ensures.line c.take_line-in-loop-names.ensures.rest c.loop-names.invariant.names (sym c.in_ok-name.ensures.name ∙ c.in-Some.is)
    (sym c.in_ok-literal.ensures ∙ c.in-Some-2.is) in
    let goes_on : length c.take_line-in-loop-names.result.1.now ≡ 0 → ⊥ = eqb-false _ 0 (sym c.is_empty.ensures ∙ c.if-is_empty.false) in
    let gap = opened_some _ _ _ c.take_line-in-loop-names-2.ensures.line c.take_line-in-loop-names-2.ensures.rest (some_lines c.take_line-in-loop-names.result.1.now (omega (arith, goes_on))) in
    let opened = read.lines_are ∙ ap (λ left. c.take_line.result.0.now ∷ c.take_line-in-loop-names.result.0.now ∷ left) gap in
    let size : length c.push.new.self.items ≡ length done + 1 = ap length c.in_ok-push.ensures.items ∙ length-append done _ in
    let room : length done + 1 < 2000 = omega (arith, size, c.len-in-loop-names.ensures, c.if-len-eq-MOST_FUNCTIONS.false, c.loop-names.invariant.few) in
    gives_refused c.refused-then-not-is_empty_line-2.result _ (4 * length done + 1) 3 _ c.refused-then-not-is_empty_line-2.ensures (omega (arith, c.len.ensures))
    (c.loop-names.invariant.awaited ∙ ap (awaited done) opened
    ∙ second_refused done _ _ _ c.take_line-in-loop-names-2.result.0.now (lines_of c.take_line-in-loop-names-2.result.1.now) read.holds (sym c.is_empty_line.ensures ∙ c.if-not-is_empty_line.false) room
    (ap is_empty_line (sym c.take_line-in-loop-names-3.ensures.line) ∙ sym c.is_empty_line-in-loop-names.ensures ∙ c.if-not-is_empty_line-2.true))

pub loop-names-preserved : goal.loop-names-preserved
loop-names-preserved c =
    let done = c.loop-names.functions.items in
    let lines = lines_of c.loop-names.left.now in
    let read = function_read done c.loop-names.names lines _ _ _ _ c.in-Some.name c.in-Some-2.literal c.take_line.ensures.line c.take_line.ensures.rest
    c.take_line-in-loop-names.ensures.line c.take_line-in-loop-names.ensures.rest c.loop-names.invariant.names (sym c.in_ok-name.ensures.name ∙ c.in-Some.is)
    (sym c.in_ok-literal.ensures ∙ c.in-Some-2.is) in
    let goes_on : length c.take_line-in-loop-names.result.1.now ≡ 0 → ⊥ = eqb-false _ 0 (sym c.is_empty.ensures ∙ c.if-is_empty.false) in
    let gap = opened_some _ _ _ c.take_line-in-loop-names-2.ensures.line c.take_line-in-loop-names-2.ensures.rest (some_lines c.take_line-in-loop-names.result.1.now (omega (arith, goes_on))) in
    let opened = read.lines_are ∙ ap (λ left. c.take_line.result.0.now ∷ c.take_line-in-loop-names.result.0.now ∷ left) gap in
    let size : length c.push.new.self.items ≡ length done + 1 = ap length c.in_ok-push.ensures.items ∙ length-append done _ in
    let room : length done + 1 < 2000 = omega (arith, size, c.len-in-loop-names.ensures, c.if-len-eq-MOST_FUNCTIONS.false, c.loop-names.invariant.few) in
    let second = opened_gap _ _ _ c.take_line-in-loop-names-3.ensures.line c.take_line-in-loop-names-3.ensures.rest (sym c.is_empty_line-in-loop-names.ensures ∙ c.if-not-is_empty_line-2.false) in
    let all = opened ∙ ap (λ left. c.take_line.result.0.now ∷ c.take_line-in-loop-names.result.0.now ∷ c.take_line-in-loop-names-2.result.0.now ∷ left) second in
    let added = rw c.in-Some.is at c.in_ok-name.ensures.added in
    record {
      awaited =
          c.loop-names.invariant.awaited ∙ ap (awaited done) all
          ∙ one_further done _ _ _ c.take_line-in-loop-names-2.result.0.now c.take_line-in-loop-names-3.result.0.now (lines_of c.take_line-in-loop-names-3.result.1.now) read.holds (sym c.is_empty_line.ensures ∙ c.if-not-is_empty_line.false) (sym c.is_empty_line-in-loop-names.ensures ∙ c.if-not-is_empty_line-2.false) room
          ∙ ap (λ functions. awaited functions (lines_of c.take_line-in-loop-names-3.result.1.now)) (sym c.in_ok-push.ensures.items);
      names = λ name.
          knows_more c.loop-names.names c.new_name.new.names done (record { name = c.in-Some.name; literal = c.in-Some-2.literal }) c.loop-names.invariant.names added name
          ∙ ap (λ functions. is_among (map name_of functions) name) (sym c.in_ok-push.ensures.items);
      distinct =
          ap (λ functions. is_distinct (map name_of functions)) c.in_ok-push.ensures.items
          ∙ still_distinct done c.in-Some.name _ refl c.loop-names.invariant.distinct read.holds.begins.fresh;
      few = omega (arith, size, room);
    }
