mod AnnotationLemmas
mod CutLemmas
mod FormLemmas
mod ListLemmas
