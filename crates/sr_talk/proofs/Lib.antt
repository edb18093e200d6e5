pub mod MoveLemmas
pub mod ShortLemmas
pub mod ReadLemmas
pub mod TalkLemmas
pub mod SendLemmas
pub mod RoundLemmas
pub mod SomeLemmas
pub mod PeerLemmas
