pub mod Responses
pub mod Written
pub mod Conversation
pub mod Exchanges
pub mod Laws
pub mod Idle
pub mod Seen
