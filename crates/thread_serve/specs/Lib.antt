pub mod Contents
pub mod Ends
pub mod Room
pub mod Sending
pub mod Working
pub mod Reading
pub mod Reader
pub mod Joins
pub mod Waiting
pub mod Stopped
pub mod Closed
pub mod Rest
pub mod Promises
pub mod Laws
pub use Rattle.document_serve.specs as document_serve_below
pub use Rattle.document_session.specs as document_session_below
pub use Rattle.document_session.specs.keeping_rules_below as keeping_rules_below
