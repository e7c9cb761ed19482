pub mod Crossing
pub mod Own
pub mod Tasks
pub mod FixedParts
pub mod Ending
pub mod Hands
pub mod TakenOut
pub mod ToDo
