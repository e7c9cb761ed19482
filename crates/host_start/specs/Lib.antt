-- What is defined here, by file.
--   Copies image_in: the blocks of a copy, which are those that it opened with
--   Copies Copies: copying an image
--   Copies HasAttached: The image was attached
--   Copies HasStarted
--   Images IsSmallEnough: the most blocks that an image may have
--   Images parts_of: the partitions that sessions name, in their order
--   Images IsAttached: an image of so many blocks of this size is attached, to be written, to a ..
--   Images IsDiskOpened: an image is attached, to be written or to be read alone, in blocks of ..
--   Images IsServedPart: the partition with this number is served
--   Images ArePlaces: these are the partitions with these numbers, each with its range
--   Images IsFirstUnserved: the session with this number, from 1, names this partition, and is ..
--   Images FindsPlaces: looking for the partitions with these numbers
--   Images IsLayoutOn: the image's table, read by this header, has this layout
--   Images IsPlaced: What a start says: its sessions have the partitions that they name, by a ..
--   Images LacksPart: the image has a table, and this is the first session whose partition it ..
--   Images SaysOfTable: what a refusal says of the table of an image; a failure of the disk and ..
--   Images SaysOfImage: what a refusal says of the image
--   Images SaysOfBlocks: What a refusal says of the number of blocks that the disk has, whether ..
--   Images Attached: attaching an image
--   Reading IsShortEnough: the bytes are few enough for a script
--   Reading IsWithinLimits: the text is this script, which passes no limit with blocks of this size
--   Reading IsFit: a text can say the script, and it passes no limit with blocks of this size
--   Reading IsBadAt: this is the first bad line of the text, with the first cause in it
--   Reading IsPast: this is the first limit that a script passes
--   Reading IsTextPast: the text is a script, and this is the first limit that it passes
--   Reading TakesText: what was left begins with these bytes, which were taken
--   Reading IsTooLong: more bytes were taken than a script may have
--   Reading IsReadAs: the source was read to its end, and this holds of what was left
--   Reading SaysOfScript: what a refusal says of the text; a failure of the source and want of ..
--   Reading GivesScript: what reading a script gives: it, within its limits, or why there is none
--   Reading TakesMore: n bytes were taken and added to a text; none are the end
--   Reading IsTaken: all of a text was taken, which isn't too long
--   Reading GivesText: taking the bytes of a script
--   Reading Judges: testing the limits of a script
--   Reading Means: a script within its limits, of what a text means
--   Reading Makes: a generated script within its limits
--   Refusals limit_in: a limit of the script language
--   Refusals of_disk_error
--   Refusals of_table_error
--   Refusals IsScriptLimit
--   Refusals IsOfSource: refusals while the source is read
--   Refusals IsOfScript: refusals of the script
--   Refusals IsImageError: refusals of the image, before its table is read
--   Refusals IsOfContent: what is told of a table that was read, or of a partition that it ..
--   Refusals IsAfterAttach: refusals that come only where the image was attached
--   Refusals IsOfTable: refusals of the table and of the partitions
--   Refusals IsAfterScript: refusals after the script
pub mod Copies
pub mod Images
pub mod Reading
pub mod Refusals
pub use Copies.{image_in}
pub use Images.{IsSmallEnough, parts_of, IsAttached, IsDiskOpened, IsServedPart, ArePlaces}
pub use Images.{IsFirstUnserved, FindsPlaces, IsLayoutOn, IsPlaced, LacksPart, SaysOfTable}
pub use Images.{SaysOfImage, SaysOfBlocks}
pub use Reading.{IsWithinLimits, IsFit, IsBadAt, IsPast, IsTextPast, SaysOfScript, GivesScript}
pub use Reading.{TakesMore, IsTaken, GivesText, Judges, Means, Makes}
pub use Refusals.{limit_in, IsOfSource, IsOfScript, IsImageError, IsOfContent, IsOfTable}
pub use Refusals.{IsAfterScript}
pub use declared.copy.ImageCopy.{ImageCopy}
pub use declared.error.Limit.{Limit}
pub use declared.error.StartError.{StartError}
pub use declared.places.Place.{Place}
pub use declared.ready.NotReady.{NotReady}
pub use declared.ready.ReadyCopy.{ReadyCopy}
pub use declared.start.Start.{Start}
