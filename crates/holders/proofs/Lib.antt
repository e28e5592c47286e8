pub mod Common
pub mod SameRoot
pub mod Same
pub mod Slices
pub mod Reading
pub mod Owning
