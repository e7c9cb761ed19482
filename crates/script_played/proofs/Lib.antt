pub mod Bounds
pub mod Counting
pub mod Fitting
pub mod Owing
