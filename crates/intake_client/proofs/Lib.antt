pub mod Benches
pub mod Flying
pub mod Landings
pub mod Takings
pub mod Waited
