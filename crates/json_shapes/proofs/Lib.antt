pub mod ReadingLemmas
pub mod MemberLemmas
