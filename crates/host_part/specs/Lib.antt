-- What is defined here, by file.
--   Laws IsIn: the block lies in the range
--   Laws RangesShareNoBlock: no block lies in the ranges of two numbers
--   Laws RangeLiesInside: a range lies within the usable blocks and in the image
--   Laws OneRange: a number has one range at most
--   Ranges IsEntryOf: this is a used entry with this number
--   Ranges IsRangeOf: the range from the first to the last block of the served entry with this ..
--   Ranges IsBad: the used entry with this number isn't served
--   Ranges IsNumberUnused: no used entry has this number
--   Served Layout: a table as it is served: its first and last usable block, how many blocks ..
--   Served layout_of: a table on an image of so many blocks
--   Served Shares: two entries share a block
--   Served IsAlone: no entry with another number shares a block with it
--   Served IsServed: an entry is served: it lies within the usable blocks, these within the ..
pub mod Laws
pub mod Ranges
pub mod Served
pub use Laws.{RangesShareNoBlock, RangeLiesInside, OneRange}
pub use Ranges.{IsEntryOf, IsRangeOf, IsBad, IsNumberUnused}
pub use Served.{Layout, layout_of, Shares, IsServed}
pub use declared.part_error.PartError.{PartError}
pub use declared.part_error.PartError.TheVariants.{BadEntry, Unused}
