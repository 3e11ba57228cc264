pub mod Lang
pub mod Answers
pub mod Questions
pub mod Laws
pub use Rattle.report_markup.specs as report_markup_below
