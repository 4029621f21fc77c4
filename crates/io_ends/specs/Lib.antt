pub mod Memory
pub use Rattle.blob_base.specs.Faults
