pub mod Ends
pub mod Firsts
pub mod Images
pub mod Scripts
