pub mod Kills
pub mod Placed
pub mod Runs
pub mod Shares
pub mod Sessions
pub mod Frames
pub mod Reports
