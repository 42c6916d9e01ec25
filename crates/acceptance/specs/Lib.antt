pub mod Limits
pub mod Issuing
