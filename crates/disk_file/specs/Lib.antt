pub mod Failed
pub mod File
pub use Rattle.blob_base.specs.Faults
