use Rattle.std.specs.Prelude.{◌≡◌, Result, Ok, Err, ⊤}
use Rattle.py_syntax.specs.declared.refusal.Refusal.{Refusal}
use Rattle.py_syntax.specs.declared.refusal.Refusal.TheVariants.{Refused, Memory}

-- A reader's answer is the one that is defined: its value, or its refusal with line and construct. Only want
-- of memory is free, and no definition ever gives that.
abbrev pub Gives : {T : Type 0} → Result T Refusal → Result T Refusal → Type 0
Gives (Ok x) defined = defined ≡ Ok x
Gives (Err (Refused line construct)) defined = defined ≡ Err (Refused line construct)
Gives (Err Memory) defined = ⊤
