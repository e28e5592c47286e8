pub mod Sets
pub mod States
pub mod Events
pub mod Histories
pub mod Laws
pub mod Holders
pub mod Plans
