mod FormLemmas
mod ShapeLemmas
