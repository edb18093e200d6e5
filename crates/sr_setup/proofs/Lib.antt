pub mod Walks
pub mod ClientWalks
pub mod ReportLines
pub mod ReportWalks
