-- What is defined here, by file.
--   Ends IsNoMemory: memory was refused
--   Ends IsUnread: the source failed, or memory was refused
--   Ends IsFailure: the disk or the source failed, or memory was refused
--   Ends IsDue: the status is the one that is due, or one of these
--   Ends EndsWith: No session began, and the status is the one that is due, or one of these
--   Images IsAskedOn: this script, which passes no limit, is to be played on this image, which ..
--   Images LargeImagesAreTold: The image has too many blocks: no session began, and the run ..
--   Images AbsentTablesAreTold: it has no table: with 3
--   Images LargeTablesAreTold: its table is too large: with 9 `table`
--   Images UnservedSessionsAreTold: it has a table, and this is the first session of the script ..
--   Images LargeDisksAreTold: On whatever disk, also one that tells nothing: where a script ..
--   Scripts IsReadFrom: the script is read from a source that tells, where this text was left
--   Scripts BadScriptsAreTold: its first bad line is this one, for this cause first: the run ..
--   Scripts LongScriptsAreTold: it is too long: with 9 `script`
--   Scripts PassedLimitsAreTold: it is a script that passes this limit first: with 9 and the limit
--   Scripts MadeLimitsAreTold: a generated script passes this limit first: with 9 and the ..
pub mod Ends
pub mod Images
pub mod Scripts
pub use Ends.{IsNoMemory, IsUnread, IsFailure, IsDue, EndsWith}
pub use Images.{IsAskedOn, LargeImagesAreTold, AbsentTablesAreTold, LargeTablesAreTold}
pub use Images.{UnservedSessionsAreTold, LargeDisksAreTold}
pub use Scripts.{IsReadFrom, BadScriptsAreTold, LongScriptsAreTold, PassedLimitsAreTold}
pub use Scripts.{MadeLimitsAreTold}
