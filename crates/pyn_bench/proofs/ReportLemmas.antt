-- A count at its end, and what is said behind what was said before.
use Rattle.std.proofs.Common.{◌≡◌, ◌∙◌, ap, refl, ℕ, ◌+◌, ◌^◌, ◌<◌, List, [], ◌∷◌, length, Option, Some, None, Result, Ok, Err, IfSome, OnOk, arith}
use Rattle.py_language.specs.declared.token.Logical.{Logical}
use Rattle.pyn_base.specs.declared.desk.DeskFail.{DeskFail}
use Rattle.pyn_base.specs.Desk.{append, failure_of}
use Rattle.pyn_base.specs.Files.{Files, content}
use Rattle.pyn_bench.specs.declared.reports.Reading.{Reading}
use Rattle.pyn_bench.specs.Reports.{counted, tokens_in, said_of}

counted_small : (n : ℕ) → n < 2 ^ 64 → n ≡ counted (n + 0)
counted_small n lt = omega arith

pub all_counted : (rest : List Logical) (n x : ℕ) → length rest ≡ 0 → n < 2 ^ 64 → counted (n + tokens_in rest) ≡ x → n ≡ x
all_counted [] n x e lt same = counted_small n lt ∙ same
all_counted (l ∷ ls) n x e lt same = absurd (omega arith)

said_by : (reading : Reading) (o : Option Files) (s0 s1 s2 : Option (List ℕ)) (name bytes said : List ℕ) → s1 ≡ s0 → IfSome o (λ files. bytes ≡ content files name) → said ≡ said_of reading bytes → s2 ≡ append s1 said
    → IfSome o (λ files. s2 ≡ append s0 (said_of reading (content files name)))
said_by reading None s0 s1 s2 name bytes said a b c d = tt
said_by reading (Some files) s0 s1 s2 name bytes said a b c d = d ∙ (ap (λ o. append o said) a ∙ (ap (append s0) c ∙ ap (λ xs. append s0 (said_of reading xs)) b))

pub says_report : (reading : Reading) (result : Result (Unit {0}) DeskFail) (o : Option Files) (s0 s1 s2 : Option (List ℕ)) (name bytes said : List ℕ) → s1 ≡ s0 → IfSome o (λ files. bytes ≡ content files name) → said ≡ said_of reading bytes → (failure_of result ≡ None → s2 ≡ append s1 said)
    → OnOk result (IfSome o (λ files. s2 ≡ append s0 (said_of reading (content files name))))
says_report reading (Ok x) o s0 s1 s2 name bytes said a b c d = said_by reading o s0 s1 s2 name bytes said a b c (d refl)
says_report reading (Err e) o s0 s1 s2 name bytes said a b c d = tt
