-- What is defined here, by file.
--   FileDisks file_shape
--   FileDisks file_counts
--   FileDisks file_state
--   FileDisks is_held: whether the last attach failed because another program has the image
--   FileDisks is_lost: whether a sync has failed since the last attach that succeeded
--   FileDisks can_sync: whether a sync is passed on to the raw file
--   FileDisks IsFileDiskMadeOf: a disk over this raw file that no call has touched yet
--   FileDisks reason: why an image wasn't opened
--   FileDisks OpensFile: An attach opens the image in one call, to be written where that is ..
--   FileDisks IsLatchKept: A read or a write leaves the latch of a failed sync as it is
--   FileDisks TakesFileBlock: A read is one call, whose answer is passed on
--   FileDisks HasBytesFor: The length that was told has room for a block at this place
--   FileDisks HasNoRoom: No length was told, or it has no room for a block at this place
--   FileDisks PutsFileBlock: A write is one call, whose answer is passed on, where the image ..
--   FileDisks SyncsFile: A sync is one call, whose answer is passed on, where the image was ..
--   StdStreams std_sink_faults
--   StdStreams std_source_faults
pub mod FileDisks
pub mod StdStreams
pub mod Untold
