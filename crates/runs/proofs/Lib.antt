pub mod Applied
pub mod Twins
pub mod HiddenKeys
pub mod Bytes
pub mod Effects
pub mod Laws
pub mod Sealing
