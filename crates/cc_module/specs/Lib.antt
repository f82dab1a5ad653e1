pub mod Heaps
pub mod Indexes
pub mod Metadata
pub mod Methods
pub mod Rows
pub mod Signatures
pub mod Storable
