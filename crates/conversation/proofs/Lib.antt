pub mod ConversationLemmas
pub mod ExchangeLemmas
pub mod LeavingLemmas
pub mod Sides
