-- The words of a store and a grip on them, for crates that make calls of several steps.
pub use Rattle.store_steps.specs.Asks.{AreClaimed}
pub use Rattle.store_steps.specs.Grips.{Gripped}
pub use Rattle.store_steps.specs.Words.{CoversGroup, IsGripOf, fixed_of}
