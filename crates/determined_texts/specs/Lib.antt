pub mod Agreeing
pub mod Texts
