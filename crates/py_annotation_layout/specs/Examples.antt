-- Words for the worked examples.
use Rattle.std.specs.Prelude.{[], codes}
use Rattle.py_syntax.specs.declared.stmt.Annotation.{Annotation}
use Rattle.py_syntax.specs.declared.stmt.Annotation.TheVariants.{Named}
use Prim.Native.String.{String}

abbrev pub named : String → Annotation
named text = Named (codes text) []
