-- What is defined here, by file.
--   Begun spec_for: room for each record and its answer
--   Begun IsBegun: A server that runs, with one hand and one client, which have done nothing ..
--   Begun IsBegunOver: the same, over this device
--   Served HasAttended: A server ended so, once its one client had sent so many records
--   Served report_for: the report of these ends, made or not
--   Served IsServed: The server had one session, in which so many records were sent, and all ..
pub mod Begun
pub mod Served
pub use Begun.{spec_for, IsBegunOver}
pub use Served.{HasAttended}
pub use declared.load.Load.{Load}
