pub mod Event
pub mod Kept
pub mod Machine
pub mod Taking
pub mod View
pub use Rattle.sessions.specs.Reply
pub use Rattle.sessions.specs.View as ReplyView
