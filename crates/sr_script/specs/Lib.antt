pub mod TraceText
pub mod Printable
