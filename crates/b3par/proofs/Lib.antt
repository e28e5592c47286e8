pub mod Cuttings
pub mod Deque
pub mod Parents
pub mod Parts
pub mod Placed
