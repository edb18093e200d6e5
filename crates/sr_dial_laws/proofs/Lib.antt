pub mod HonestLemmas
pub mod LimitLemmas
pub mod TrueLemmas
pub mod ServedLemmas
