pub mod Encoder
pub mod Terms
pub use Rattle.bats_model.specs.Session
pub use Rattle.bats_model.specs.Batch
pub use Rattle.bats_model.specs.Coded
