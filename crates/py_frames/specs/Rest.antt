-- What the machine has still to do, as a run of the plain meaning. Each entry does what the meaning does with the value or the end of the
-- part that it waits for.
use Rattle.std.specs.Prelude.{◌≡◌, true, false, if◌then◌else◌, List, [], ◌∷◌, ◌++◌, length, Option}
use Rattle.py_syntax.specs.declared.expr.Expr.{Expr}
use Rattle.py_syntax.specs.declared.stmt.Stmt.{Stmt}
use Rattle.py_meaning.specs.declared.value.Value.{out-Value}
use Rattle.py_meaning.specs.declared.value.Value.TheVariants as v
use Rattle.py_meaning.specs.Worlds.{World}
use Rattle.py_plain.specs.declared.run.Abrupt.TheVariants.{Returned}
use Rattle.py_plain.specs.declared.run.Callee.TheVariants as callee
use Rattle.py_plain.specs.declared.state.State.{State}
use Rattle.py_plain.specs.Assignments.{stores_to, stores_all, augments_attribute, augments_item}
use Rattle.py_plain.specs.Attributes.{finds, read_found, sets_attribute}
use Rattle.py_plain.specs.Calls.{block, initialized, leaves}
use Rattle.py_plain.specs.Decisions.{negates, conjunction, disjunction, chain, judged_chain, decided}
use Rattle.py_plain.specs.Displays.{list_display, tuple_display, dict_display}
use Rattle.py_plain.specs.Exceptions.{raises_object, raises_value, fails, fails_with, after_clause, after_body, finally, kept}
use Rattle.py_plain.specs.Expressions.{arguments, plain_arguments, named_arguments, bound}
use Rattle.py_plain.specs.Loops.{after_turn, while_loop, for_walk, for_value}
use Rattle.py_plain.specs.Names.{binds}
use Rattle.py_plain.specs.Operators.{signs, operates, augments, gets_item, sets_item, deletes_item, gets_slice, compares, judged_comparison}
use Rattle.py_plain.specs.Program.{Program}
use Rattle.py_plain.specs.Runs.{Watcher, Outcome, Ran, Run, Finding, go_on, pure, stop, passes, gives, tests, after_end, ◌>>=◌}
use Rattle.py_plain.specs.Statements.{branches, value_of, means}
use Rattle.py_frames.specs.declared.control.Control.{Control}
use Rattle.py_frames.specs.declared.control.Control.TheVariants as c
use Rattle.py_frames.specs.declared.control.Doing.{Doing}
use Rattle.py_frames.specs.declared.control.Doing.TheVariants as d
use Rattle.py_frames.specs.declared.pending.Argument.{Argument}
use Rattle.py_frames.specs.declared.pending.Argument.TheVariants as argument
use Rattle.py_frames.specs.declared.pending.Decision.{Decision}
use Rattle.py_frames.specs.declared.pending.Decision.TheVariants as decision
use Rattle.py_frames.specs.declared.pending.Operand.{Operand}
use Rattle.py_frames.specs.declared.pending.Operand.TheVariants as operand
use Rattle.py_frames.specs.declared.pending.Pending.{Pending}
use Rattle.py_frames.specs.declared.pending.Pending.TheVariants as p
use Rattle.py_frames.specs.declared.pending.Step.{Step}
use Rattle.py_frames.specs.declared.pending.Step.TheVariants as step
use Rattle.py_frames.specs.declared.pending.Store.{Store}
use Rattle.py_frames.specs.declared.pending.Store.TheVariants as store

module _ {W : Type 0} (watcher : Watcher W) (program : Program) where
  abbrev value : Expr → Run W Finding
  value = value_of watcher program

  abbrev does : Stmt → Run W Finding
  does = means watcher program

  abbrev body_of : List Stmt → Run W Finding
  body_of body = block watcher program does body

  abbrev bound_of : Option Expr → Run W Finding
  bound_of e = bound watcher program value does e

  -- ---- what an entry does with a value

  abbrev pub after_operand : Operand → Finding → Run W Finding
  after_operand (operand.Index at) of = value at.now >>= (λ i. gets_item of.0 i.0)
  after_operand (operand.ItemOf of) i = gets_item of i.0
  after_operand (operand.Bounds low high) of = bound_of low.now >>= (λ a. bound_of high.now >>= (λ b. gets_slice of.0 a.0 b.0))
  after_operand (operand.High of high) a = bound_of high.now >>= (λ b. gets_slice of a.0 b.0)
  after_operand (operand.SliceOf of low) b = gets_slice of low b.0
  after_operand (operand.Sign sign) x = signs sign x.0
  after_operand (operand.Right op right) x = value right.now >>= (λ y. operates op x.0 y.0)
  after_operand (operand.Apply op x) y = operates op x y.0
  after_operand (operand.Attribute name) x = finds program x.0 name.now >>= read_found
  after_operand (operand.ListItem done more) x = list_display value (done ++ x.0 ∷ []) more
  after_operand (operand.TuplePart done more) x = tuple_display value (done ++ x.0 ∷ []) more
  after_operand (operand.DictKey done pair more) key = value pair.now.1 >>= (λ x. dict_display value (done ++ (key.0, x.0) ∷ []) more)
  after_operand (operand.DictValue done key more) x = dict_display value (done ++ (key, x.0) ∷ []) more

  abbrev pub after_decision : Decision → Finding → Run W Finding
  after_decision decision.Not x = negates x
  after_decision (decision.And done more) x = conjunction value done x more
  after_decision (decision.Or done more) x = disjunction value done x more
  after_decision (decision.Compare others) x = chain value [] x.0 others.now
  after_decision (decision.Link done op x more) y = compares op x y.0 >>= (λ holds. if holds then chain value (done ++ judged_comparison op x y.0 true ∷ []) y.0 more
      else pure (v.Bool false, judged_chain (done ++ judged_comparison op x y.0 false ∷ []) (length more)))
  after_decision (decision.Choose e other) x = tests x.0 >>= (λ holds. (if holds then value e.now else value other.now) >>= (λ y. gives y.0))
  after_decision decision.Chosen y = gives y.0

  abbrev pub after_argument : Argument → Finding → Run W Finding
  after_argument (argument.Callee args) f = arguments watcher program value does args.now (callee.Value f.0)
  after_argument (argument.Receiver name args) x = finds program x.0 name.now >>= arguments watcher program value does args.now
  after_argument (argument.Plain f done more named) x = plain_arguments watcher program value does f (done ++ x.0 ∷ []) more named.now
  after_argument (argument.Named f plain done name more) x = named_arguments watcher program value does f plain (done ++ (name.now, x.0) ∷ []) more
  after_argument (argument.Initialized id) x = initialized id (out-Value x.0)

  abbrev pub after_store : Store → Finding → Run W Finding
  after_store (store.Targets targets is_tuple) x = stores_to program value is_tuple targets.now x.0
  after_store (store.Others targets values) x = stores_all program value targets values
  after_store (store.AttributeOf name x) of = sets_attribute program of.0 name.now x
  after_store (store.IndexOf at x) of = value at.now >>= (λ i. sets_item of.0 i.0 x)
  after_store (store.ItemAt of x) i = sets_item of i.0 x
  after_store (store.AugmentName name op old) x = augments op old x.0 >>= (λ new. binds name.now new.0)
  after_store (store.AugmentAttributeOf name op e) of = augments_attribute program value of.0 name.now op e.now
  after_store (store.AugmentAttribute of name op old) x = augments op old x.0 >>= (λ new. sets_attribute program of name.now new.0)
  after_store (store.AugmentIndexOf at op e) of = value at.now >>= (λ i. augments_item program value of.0 i.0 op e.now)
  after_store (store.AugmentItemAt of op e) i = augments_item program value of i.0 op e.now
  after_store (store.AugmentItem of at op old) x = augments op old x.0 >>= (λ new. sets_item of at new.0)
  after_store (store.DeleteIndex at) of = value at.now >>= (λ i. deletes_item of.0 i.0)
  after_store (store.DeleteOf of) i = deletes_item of i.0

  abbrev pub after_step : Step → Finding → Run W Finding
  after_step step.Bare x = passes
  after_step step.Return x = stop (Returned x.0)
  after_step step.Raise x = raises_value watcher program value does (out-Value x.0)
  after_step step.RaiseMade x = raises_object (out-Value x.0)
  after_step (step.Block more) x = body_of more
  after_step (step.If node body more other) x = decided watcher node (body_of body.now) (branches watcher program value does more other.now) x
  after_step (step.While test body) x = decided watcher test.now.node (after_end (body_of body.now) (after_turn (while_loop watcher program value does test.now body.now))) passes x
  after_step (step.For node names is_tuple body) x = for_value watcher program value does node names.now is_tuple body.now x.0
  after_step (step.Assert node message) x = decided watcher node passes (fails_with watcher program value does message.now) x
  after_step step.Message x = fails watcher program value does (x.0 ∷ [])

  abbrev pub continues : Pending → Finding → Run W Finding
  continues (p.Operand pending) = after_operand pending
  continues (p.Decision pending) = after_decision pending
  continues (p.Argument pending) = after_argument pending
  continues (p.Store pending) = after_store pending
  continues (p.Step pending) = after_step pending

  -- ---- what an entry does after an end, by the entry

  abbrev pub resumes : Control → Outcome Finding → Run W Finding
  resumes (c.Then pending) end = λ s. go_on end s (continues pending)
  resumes (c.Leave caller) end = λ s. leaves caller (end, s)
  resumes (c.WhileBody test body) end = after_turn (while_loop watcher program value does test.now body.now) end
  resumes (c.ForBody node names is_tuple body walk) end = after_turn (for_walk watcher program value does node names.now is_tuple body.now walk) end
  resumes (c.TryBody clauses other) end = after_body watcher program value does clauses.now other.now end
  resumes (c.ClauseBody name) end = after_clause name.now end
  resumes (c.TryLast last) end = finally watcher program value does last.now end
  resumes (c.Keep before) end = kept before end

  -- what the whole stack does after an end; its top is its last entry
  abbrev pub finish : List Control → Ran W Finding → Ran W Finding
  finish [] r = r
  finish (entry ∷ above) r = resumes entry (finish above r).0 (finish above r).1

  abbrev pub doing_now : Doing → Run W Finding
  doing_now (d.Eval e) = value e.now
  doing_now (d.Exec stmt) = does stmt.now
  doing_now (d.Block body) = body_of body
  doing_now (d.Finished end) = λ s. (end, s)

  -- all that is left to do
  abbrev pub rest : List Control → Doing → Run W Finding
  rest stack doing = λ s. finish stack (doing_now doing s)

  -- What is left to do under a stack is a run, and then the stack.
  abbrev pub Goes : List Control → Run W Finding → State World W → List Control → Doing → State World W → Type 0
  Goes stack run s stack' doing s' = rest stack' doing s' ≡ finish stack (run s)
