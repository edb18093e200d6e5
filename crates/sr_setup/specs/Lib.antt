pub mod Files
pub mod Faults
pub mod ClientFiles
pub mod ReportFiles
pub mod Lined
