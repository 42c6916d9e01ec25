pub mod Areas
pub mod Bytes
pub mod Runs
pub mod Trailers
pub mod Sections
pub mod Pairs
