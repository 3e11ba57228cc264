pub mod Items
pub mod Pieces
pub mod Legal
pub mod Sent
pub mod Unheard
pub mod Holders
pub mod Works
pub mod Kept
pub mod Looks
pub mod Turns
pub mod States
pub mod Messages
pub mod Workers
pub use Rattle.session_replies.specs as session_replies_below
