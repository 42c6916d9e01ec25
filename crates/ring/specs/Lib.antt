pub mod Classes
pub mod Faults
pub mod Elements
pub mod Kinds
pub mod Calls
pub mod Wide
pub mod Below
pub mod Texts
