-- The worked examples, by the laws of types.
use Rattle.std.proofs.Common.{◌≡◌, ◌∙◌, ap, codes, []}
use Rattle.py_syntax.specs.declared.stmt.Annotation.{Annotation, map-Annotation}
use Rattle.py_syntax.specs.declared.stmt.Annotation.TheVariants.{outs-Named, outs-NoneType, outs-OrNone, outs-Quoted}
use Rattle.suite_model.specs.declared.ty.Ty.{Ty, Ty-F, out-Ty}
use Rattle.suite_model.specs.declared.ty.Ty.TheVariants.{outs-Int, outs-Bool, outs-Str, outs-NoneType as outs-NoneTy, outs-List, outs-Dict, outs-Class, outs-OrNone as outs-OrNoneTy, outs-Any}
use Rattle.suite_model.specs.Examples.{plain as plain_annotation}
use Rattle.suite_model.specs.Types.{annotated, type_by}
use Rattle.suite_model.specs.Laws.{ByAnnotation}
use Rattle.call_tests.specs.Examples.{Box, Plain, Unknown, Lists, Dicts, Optional, an_int_or_none, Instances, OfItself, Private}

ruleset outs = (outs-Named, outs-NoneType, outs-OrNone, outs-Quoted, outs-Int, outs-Bool, outs-Str, outs-NoneTy, outs-List, outs-Dict, outs-Class, outs-OrNoneTy, outs-Any)

pub full_box : ByAnnotation → Box
full_box by_annotation = simp (outs, by_annotation)

pub plain : ByAnnotation → Plain
plain by_annotation = simp (outs, by_annotation)

pub instances : ByAnnotation → Instances
instances by_annotation = simp (outs, by_annotation)

pub of_itself : ByAnnotation → OfItself
of_itself by_annotation = simp (outs, by_annotation)

pub private_class : ByAnnotation → Private
private_class by_annotation = simp (outs, by_annotation)

pub unknown : Unknown
unknown = simp outs

pub lists : ByAnnotation → Lists
lists by_annotation = simp (outs, by_annotation)

pub dicts : ByAnnotation → Dicts
dicts by_annotation = simp (outs, by_annotation)

-- The type inside stays as it is: nothing is asked of it.
or_none : ByAnnotation → out-Ty (annotated [] an_int_or_none) ≡ Ty-F.OrNone (annotated [] (plain_annotation (codes "int")))
or_none by_annotation =
    ap out-Ty (by_annotation [] an_int_or_none)
    ∙ ap (λ out. out-Ty (type_by [] (map-Annotation Annotation Ty (annotated []) out))) (outs-OrNone (plain_annotation (codes "int")))
    ∙ outs-OrNoneTy (annotated [] (plain_annotation (codes "int")))

pub optional : ByAnnotation → Optional
optional by_annotation = let inside = or_none by_annotation in simp inside
