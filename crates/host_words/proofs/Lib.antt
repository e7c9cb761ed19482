pub mod Answered
pub mod Parsed
pub mod Rules
pub mod Turns
pub mod Walks
pub mod WordKinds
