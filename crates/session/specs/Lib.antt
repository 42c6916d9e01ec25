pub mod Logs
pub mod Statuses
pub mod Held
pub mod Asks
pub mod Answers
