pub mod States
pub mod Entries
pub mod Runs
pub mod Appends
pub mod Outcomes
pub mod Transitions
pub mod Sizes
pub mod Replies
