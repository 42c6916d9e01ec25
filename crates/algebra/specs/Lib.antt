pub mod Laws
pub mod Isometries
pub mod Counting
