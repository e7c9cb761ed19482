-- What is defined here, by file.
--   Benched BenchState: the intake, and the record that flies beside others
--   Benched bench_state
--   Benched IsKept: The seats of the hand and of the intake are of these buffers and cells, the ..
--   Flights IsTakenSo: The record was taken so and has not ended; its right is there where it ..
--   Flights IsFlying: the same of a record that the hand took, and that doesn't wait for pins
--   Flights Flies
--   Flights CanLand: The hand may tell the end of that record: the hand took it or it waited ..
--   Flights HasLanded: The hand told the end of record i
--   Flights IsAsMade: the fixed part of an intake, and which cells it is of, as they were
--   Flights FliesIfAny: the record, if there is one, flies
--   Flights IsOtherThan: it is another record than that of index i, if there is one
--   Opened plan_for: the fixed part of its buffers
--   Opened IsSeatFor: a new seat of that number at a book of such buffers
--   Opened AreBlank: blank pages of this pool
--   Takes IsTaken: a record that flies is the next one, and the hand took it
--   Takes IsBeside: it is another record than the one that flies, if one does
pub mod Benched
pub mod Flights
pub mod Opened
pub mod Takes
pub use Benched.{BenchState, IsKept}
pub use Flights.{IsTakenSo, IsFlying, Flies, CanLand, HasLanded, IsAsMade, FliesIfAny, IsOtherThan}
pub use Takes.{IsTaken, IsBeside}
pub use declared.flight.Flight.{Flight}
pub use declared.taken.Taken.{Taken}
pub use declared.taken.Taken.TheVariants.{AtLimit, Finished, Flying, NoRecord, Stalled, Waits}
