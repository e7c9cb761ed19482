pub mod Checks
pub mod Counts
pub mod Exactly
pub mod Growth
pub mod Inside
pub mod Lent
pub mod ListTests
pub mod Ordering
