pub mod Issued
pub mod Paired
pub mod Sealed
