pub mod Points
pub mod Images
pub mod Lengths
pub mod Verdicts
pub mod Meanings
pub mod Passes
