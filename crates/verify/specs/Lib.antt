pub mod Images
pub mod Meanings
pub mod Rows
