pub mod Hexadecimal
pub mod Operands
pub mod Meanings
pub mod Replies
