pub mod Statement
pub mod Meaning
pub mod Free
pub mod Closed
pub mod Instance
pub mod FormulaInstance
pub mod Truth
pub mod formers
