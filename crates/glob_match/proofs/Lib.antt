pub mod PatternLemmas
pub mod MatchLemmas
pub mod MemberLemmas
pub mod WalkLemmas
pub mod Deciding
