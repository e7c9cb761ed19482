pub mod Stepping
pub mod Seating
pub mod SeatLists
pub mod Crossing
