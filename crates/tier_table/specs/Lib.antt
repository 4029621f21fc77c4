pub mod Values
pub use Rattle.store_model.specs.Shape
