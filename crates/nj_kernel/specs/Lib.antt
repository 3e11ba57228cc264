pub mod Sets
pub mod Keys
pub mod Order
pub mod Nj
pub mod Theorem
pub mod RuleNames
pub mod Rules
