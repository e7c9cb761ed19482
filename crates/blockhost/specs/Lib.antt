-- What is defined here, by file.
--   Program Outside: what is outside at one moment
--   Program IsRunEnd: The number is that of the status with which a run on words of this ..
--   Program IsUntouched: no call has touched what is outside, and it tells nothing of its ..
--   Program IsProgramEnd: the number is that of a run that began on fresh objects
pub mod Program
pub use Program.{Outside, IsRunEnd, IsUntouched, IsProgramEnd}
