pub mod Known
pub mod KnownQuestions
pub mod KnownOutcomes
