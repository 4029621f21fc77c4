pub mod Order
pub mod Parts
pub mod Faults
pub use Rattle.store_model.specs.Space
