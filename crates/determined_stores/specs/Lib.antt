pub mod Runs
pub mod OnePiece
pub mod Alone
pub mod Serves
