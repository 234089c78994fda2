-- The stack, one entry more.
use Rattle.std.proofs.Common.{[], ◌∷◌, refl, ap}
use Rattle.py_frames.specs.Rest.{resumes}
use Rattle.py_frames.specs.Laws.{PushedIsNext}

pub pushed : {W : Type 0} → PushedIsNext W
pushed watcher program [] entry r = refl
pushed watcher program (below ∷ stack) entry r = ap (λ q. resumes watcher program below q.0 q.1) (pushed watcher program stack entry r)
