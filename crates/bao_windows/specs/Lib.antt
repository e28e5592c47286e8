pub mod Faults
pub mod Windows
pub mod Available
pub mod Copies
pub mod Written
pub mod Laws
pub mod Asked
