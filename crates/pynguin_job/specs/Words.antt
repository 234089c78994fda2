-- The words of the command line.
use Rattle.std.specs.Prelude.{ℕ, Bool, not, ◌&&◌, ◌||◌, ◌==◌, List, [], ◌∷◌, Option, Some, None, length, if◌then◌else◌, codes, bytes_eq, slice_index_or, is_some, option_and_then}
use Rattle.py_language.specs.FirstForm.{before, passing}
use Rattle.py_language.specs.TokensNames.{is_name, keywords, listed}
use Rattle.pynguin_job.specs.declared.words.Job.{Job}

-- what follows the last slash of the path, where this much follows those that were passed
abbrev pub after_slashes : List ℕ → List ℕ → List ℕ
after_slashes found [] = found
after_slashes found (c ∷ rest) = after_slashes (if c == 47 then rest else found) rest

abbrev pub last_part : List ℕ → List ℕ
last_part path = after_slashes path path

abbrev pub is_keyword : List ℕ → Bool
is_keyword name = is_some (listed keywords name)

-- an identifier that is no keyword, and not the name under which a suite imports pytest
abbrev pub is_module_name : List ℕ → Bool
is_module_name name = is_name name && not (is_keyword name) && not (bytes_eq name (codes "pytest"))

-- the name of the module in a file: what stands before `.py`
abbrev pub module_name_of : List ℕ → Option (List ℕ)
module_name_of file = option_and_then (passing is_module_name) (before (codes ".py") file)

-- the job of these three paths
abbrev pub job_at : List ℕ → List ℕ → List ℕ → Option (List ℕ) → Option Job
job_at source suite report None = None
job_at source suite report (Some name) =
    if bytes_eq source suite || bytes_eq source report || bytes_eq suite report
    then None
    else Some record { source = source; suite = suite; report = report; name = name }

-- the word at a place
abbrev pub word : List (List ℕ) → ℕ → List ℕ
word words i = slice_index_or words i []

-- `--module`, a path, `--suite`, a path, `--report`, a path
abbrev pub has_form : List (List ℕ) → Bool
has_form words =
    (length words == 6) && bytes_eq (word words 0) (codes "--module") && bytes_eq (word words 2) (codes "--suite")
    && bytes_eq (word words 4) (codes "--report")

-- the job that the words ask for, unless they are refused
abbrev pub job_of : List (List ℕ) → Option Job
job_of words =
    if has_form words
    then job_at (word words 1) (word words 3) (word words 5) (module_name_of (last_part (word words 1)))
    else None
