-- Each node's first part runs over its entry.
use Rattle.std.proofs.Common.{[], ◌∷◌, ◌++◌, ◌∙◌}
use Rattle.py_plain.specs.Calls.{block}
use Rattle.py_plain.specs.Program.{Program}
use Rattle.py_plain.specs.Runs.{Watcher}
use Rattle.py_plain.specs.Statements.{means}
use Rattle.py_frames.specs.declared.control.Control.TheVariants as c
use Rattle.py_frames.specs.Laws.{ExpressionsWait, StoresWait, StepsWait, EndsWait, NodesWait}
use Rattle.py_frames.specs.Rest.{resumes}
use Rattle.py_frames.proofs.Pushes.{pushed}

module _ {W : Type 0} (watcher : Watcher W) (program : Program) where
  expressions : ExpressionsWait watcher program
  expressions = record {
    attribute = λ of name stack s. pushed watcher program stack _ _;
    index = λ of at stack s. pushed watcher program stack _ _;
    item = λ of at stack s. pushed watcher program stack _ _;
    slice = λ of low high stack s. pushed watcher program stack _ _;
    unary = λ sign e stack s. pushed watcher program stack _ _;
    binary = λ op a b stack s. pushed watcher program stack _ _;
    list = λ done e more stack s. pushed watcher program stack _ _;
    tuple = λ done e more stack s. pushed watcher program stack _ _;
    dict = λ done pair more stack s. pushed watcher program stack _ _;
    negation = λ e stack s. pushed watcher program stack _ _;
    conjunction = λ e more stack s. pushed watcher program stack _ _;
    disjunction = λ e more stack s. pushed watcher program stack _ _;
    comparison = λ first others stack s. pushed watcher program stack _ _;
    link = λ done x op e more stack s. pushed watcher program stack _ _;
    conditional = λ e test other stack s. pushed watcher program stack _ _;
    method = λ of name args stack s. pushed watcher program stack _ _;
    call = λ f args stack s. pushed watcher program stack _ _;
    plain = λ f done e more named stack s. pushed watcher program stack _ _;
    named = λ f plain done name e more stack s. pushed watcher program stack _ _;
  }

  stores_wait : StoresWait watcher program
  stores_wait = record {
    assigned = λ node targets is_tuple annotation e stack s. pushed watcher program stack _ _;
    others = λ t ts x xs stack s. pushed watcher program stack _ _;
    attribute = λ of name x stack s. pushed watcher program stack _ _;
    item = λ of at x stack s. pushed watcher program stack _ _;
    augmented_attribute = λ node of name op e stack s. pushed watcher program stack _ _;
    augmented_item = λ node of at op e stack s. pushed watcher program stack _ _;
    deleted = λ node of at stack s. pushed watcher program stack _ _;
  }

  steps_wait : StepsWait watcher program
  steps_wait = record {
    bare = λ node e stack s. pushed watcher program stack _ _;
    returned = λ node e stack s. pushed watcher program stack _ _;
    raised = λ node e stack s. pushed watcher program stack _ _;
    asserted = λ node test message stack s. pushed watcher program stack _ _;
    message = λ e stack s. pushed watcher program stack _ _;
    block = λ stmt more stack s. pushed watcher program stack _ _;
    branch = λ test body more other stack s. pushed watcher program stack _ _;
    walked = λ node names is_tuple e body stack s. pushed watcher program stack _ _;
    turned = λ test body stack s. pushed watcher program stack _ _;
  }

  ends_wait : EndsWait watcher program
  ends_wait = record {
    entered = λ id f variables stack s. pushed watcher program stack _ _;
    while_body = λ test body stack s. pushed watcher program stack _ _;
    for_body = λ node names is_tuple body walk stack s. pushed watcher program stack _ _;
    clause_body = λ name body stack s. pushed watcher program stack _ _;
    kept_end = λ before body stack s. pushed watcher program stack _ _;
    tried = λ body clauses other last stack s.
        let r = block watcher program (means watcher program) body s in
        pushed watcher program (stack ++ c.TryLast last ∷ []) (c.TryBody clauses other) r
        ∙ pushed watcher program stack (c.TryLast last) (resumes watcher program (c.TryBody clauses other) r.0 r.1);
  }

pub nodes_wait : {W : Type 0} → NodesWait W
nodes_wait watcher program = (expressions watcher program, stores_wait watcher program, steps_wait watcher program, ends_wait watcher program)
