pub mod Logs
pub mod LayFaults
pub mod Reads
pub use Rattle.blob_base.specs.Faults
pub use Rattle.store_model.specs.Disk
pub use Rattle.store_model.specs.Images
pub use Rattle.store_model.specs.Layout
pub use Rattle.store_model.specs.Log
