pub mod Generated
pub mod NamedRecords
pub mod Owed
pub mod PrintedPlans
