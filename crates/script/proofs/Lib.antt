pub mod Pairs
pub mod Texts
pub mod Returns
pub mod Numerals
pub mod Words
pub mod Bits
