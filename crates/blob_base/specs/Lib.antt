pub mod Faults
pub use Rattle.store_model.specs.Key
pub mod Sorted
pub mod Refusals
