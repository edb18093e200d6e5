pub mod EndLemmas
pub mod ExecLemmas
pub mod RunLemmas
