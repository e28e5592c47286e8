pub mod Encodings
pub mod Faults
pub mod Given
pub mod Jobs
