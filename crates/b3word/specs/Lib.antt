pub mod Compression
pub mod Lanes
pub mod Words
