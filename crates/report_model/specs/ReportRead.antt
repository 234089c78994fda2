-- How the text of a report is read, line by line. Each line that is read can go on to a whole report, so the first line that is not read
-- is the first such that no report's text begins with the lines up to it.
use Rattle.std.specs.Prelude.{ℕ, ◌+◌, ◌==◌, Bool, if◌then◌else◌, List, [], ◌∷◌, Option, Some, None, Result, Ok, Err, codes}
use Rattle.report_model.specs.declared.report.Report.{Report}
use Rattle.report_model.specs.ReportText.{current}
use Rattle.report_model.specs.LineForms.{title_of, module_of, steps_of, cap_of, test_of, goal_of, mutant_of, total_of, minimal_of}

-- A text as lines: those that end with a line feed, without it, and what is after the last line feed.
pub record Lines : Type 0 where
  pub whole : List (List ℕ)
  pub rest : List ℕ

abbrev pub with_front : ℕ → List (List ℕ) → List ℕ → Lines
with_front c [] rest = record { whole = []; rest = c ∷ rest }
with_front c (line ∷ more) rest = record { whole = (c ∷ line) ∷ more; rest = rest }

abbrev pub lines_of : List ℕ → Lines
lines_of [] = record { whole = []; rest = [] }
lines_of (c ∷ text) =
    if c == 10 then record { whole = [] ∷ (lines_of text).whole; rest = (lines_of text).rest }
    else with_front c (lines_of text).whole (lines_of text).rest

-- What is still to be read: the number of the next line, and the whole lines from it on.
pub record Place : Type 0 where
  pub number : ℕ
  pub lines : List (List ℕ)

-- a value and where the line after it is, or the number of the line that is refused
infixl 10 ◌>>=◌
abbrev pub ◌>>=◌ : {A B : Type 0} → Result A ℕ → (A → Result B ℕ) → Result B ℕ
(Ok x) >>= f = f x
(Err line) >>= f = Err line

abbrev pub read_or : {A : Type 0} → ℕ → List (List ℕ) → Option A → Result (A × Place) ℕ
read_or number more (Some x) = Ok (x, record { number = number + 1; lines = more })
read_or number more None = Err number

-- The next line is of a form, or it is refused; where no whole line is left, the line after the last is refused.
abbrev pub next_in : {A : Type 0} → (List ℕ → Option A) → ℕ → List (List ℕ) → Result (A × Place) ℕ
next_in form number [] = Err number
next_in form number (line ∷ more) = read_or number more (form line)

abbrev pub next : {A : Type 0} → (List ℕ → Option A) → Place → Result (A × Place) ℕ
next form place = next_in form place.number place.lines

-- As many lines as are of a form, which are numbered from k on, and where the line after them is.
abbrev pub goes_on : {A : Type 0} → Option A → Place → List A × Place → List A × Place
goes_on (Some x) here later = (x ∷ later.0, later.1)
goes_on None here later = ([], here)

abbrev pub series_in : {A : Type 0} → (ℕ → List ℕ → Option A) → ℕ → ℕ → List (List ℕ) → List A × Place
series_in form k number [] = ([], record { number = number; lines = [] })
series_in form k number (line ∷ more) = goes_on (form k line) record { number = number; lines = line ∷ more } (series_in form (k + 1) (number + 1) more)

abbrev pub series : {A : Type 0} → (ℕ → List ℕ → Option A) → Place → List A × Place
series form place = series_in form 0 place.number place.lines

-- No line follows, also none without a line feed.
abbrev pub ends_in : List ℕ → ℕ → List (List ℕ) → Result ℕ ℕ
ends_in [] number [] = Ok number
ends_in _ number _ = Err number

-- The head of a report, with no tests, goals and mutants yet.
pub record Head : Type 0 where
  pub name : List ℕ
  pub steps : ℕ
  pub cap : ℕ

unfoldable pub head_at : ℕ → Place → Result (Head × Place) ℕ
head_at version start = do
  title ← next (title_of version) start
  name ← next module_of title.1
  steps ← next steps_of name.1
  cap ← next cap_of steps.1
  Ok (record { name = name.0; steps = steps.0; cap = cap.0 }, cap.1)

-- the end of a report, after which no line is left: whether the suite is minimal
unfoldable pub end_at : List ℕ → Place → Result Bool ℕ
end_at rest start = do
  taken ← next (total_of (codes "goals")) start
  killed ← next (total_of (codes "kills")) taken.1
  minimal ← next minimal_of killed.1
  all ← ends_in rest minimal.1.number minimal.1.lines
  Ok minimal.0

-- the rest of a report, after its head
unfoldable pub report_at : List ℕ → Head → Place → Result Report ℕ
report_at rest head start = do
  let tests = series test_of start
  let goals = series goal_of tests.1
  let mutants = series mutant_of goals.1
  minimal ← end_at rest mutants.1
  Ok (record { «module» = head.name; steps = head.steps; cap = head.cap; tests = tests.0; goals = goals.0; mutants = mutants.0; minimal = minimal })

-- the report that lines are, in a version of the format; or the number of the line that is refused
unfoldable pub read_lines : ℕ → Lines → Result Report ℕ
read_lines version text = do
  head ← head_at version record { number = 1; lines = text.whole }
  report_at text.rest head.0 head.1

-- the report that a text is, or the number of the line that is refused, from 1
unfoldable pub read_report : List ℕ → Result Report ℕ
read_report text = read_lines current (lines_of text)
