-- What is said of a text that isn't read.
use Rattle.std.specs.Prelude.{ℕ, List, ◌++◌, codes, decimal}
use Rattle.pyn_base.specs.Construct.{text_of}
use Rattle.pyn_base.specs.declared.construct.Construct.{Construct}

abbrev pub refused_text : ℕ → Construct → List ℕ
refused_text line construct = codes "refused line " ++ decimal line ++ codes " " ++ text_of construct ++ codes "\n"
