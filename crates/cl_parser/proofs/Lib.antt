pub mod MemberLemmas
pub mod ArgumentLemmas
