pub mod Verdict
pub mod Search
pub mod Apart
pub use Rattle.bao_check.specs.Inputs
pub use Rattle.bao_check.specs.Pieces
