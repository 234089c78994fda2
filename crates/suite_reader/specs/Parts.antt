-- What is read of a test, one entry after another.
use Rattle.std.specs.Prelude.{List, [], ◌∷◌, ◌++◌, Some}
use Rattle.std.specs.Option.{option_or}
use Rattle.suite_file.specs.declared.entry.Entry.{Entry}
use Rattle.suite_file.specs.declared.entry.Entry.TheVariants as entry
use Rattle.suite_file.specs.SuiteOf.{earlier}
use Rattle.suite_reader.specs.declared.cases.Parts.{Parts}

abbrev pub with_entry : Parts → Entry → Parts
with_entry parts (entry.Does line made) = record parts { steps = parts.steps ++ made ∷ []; lines = parts.lines ++ line ∷ [] }
with_entry parts (entry.Raises block class line made) =
    record parts { steps = parts.steps ++ made ∷ []; lines = parts.lines ++ line ∷ []; raises = option_or parts.raises (Some (block, class)) }
with_entry parts (entry.Asserts a) = record parts { asserts = parts.asserts ++ a ∷ [] }
with_entry parts (entry.Faulty line fault) = record parts { fault = earlier parts.fault (Some (line, fault)) }

abbrev pub with_entries : Parts → List Entry → Parts
with_entries parts [] = parts
with_entries parts (one ∷ more) = with_entries (with_entry parts one) more
