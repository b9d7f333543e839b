pub mod Histories
pub mod Responding
pub mod Conversations
pub mod Visits
pub mod NobodyElse
pub mod Replied
