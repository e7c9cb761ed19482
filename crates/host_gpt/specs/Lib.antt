-- What is defined here, by file.
--   Crc bits_of: the low n bits of a number, the lowest first
--   Crc number_of_bits: the number with these bits, the lowest first
--   Crc message: all bits of these bytes, each byte from its low end
--   Crc added_front: the second added to the first from the front on, modulo 2
--   Crc divisor: the divisor after its first coefficient, which is that of x^32: from x^31 down ..
--   Crc remainder: what is left of a polynomial once its n highest powers are divided out
--   Crc complemented: with the first 32 coefficients complemented
--   Crc crc_of
--   Entries units: n units of two bytes
--   Entries is_zero: whether all of these bytes are zero
--   Entries is_used: whether the entry in these bytes is used: its type isn't all zero
--   Entries entry_in_bytes: the entry of this number in these bytes
--   Entries used: the entry of this number as a list: none where it isn't used
--   Entries entries_from: the used ones of n entries of this size, numbered from here on
--   Entries AreUsed: used entries, each number above the one before
--   Errors read_error_of
--   Errors table_error_of
--   Header bytes_at: the bytes at an offset, and the number that they are, the lowest first
--   Header number_at
--   Header signature: the fields that say whether it agrees
--   Header header_size
--   Header header_crc
--   Header my_lba
--   Header entry_size
--   Header header_of: the other fields that are examined
--   Header header_bytes: the bytes under a header's CRC: its own field counts as zero
--   Header IsEntrySize: 128 times a power of two
--   Header Agrees: the header in block p agrees
--   Header array_length: the bytes of the entry array
--   Header IsLarge: more entries, or a longer array, than are read
--   Image current_image: the blocks of a disk, with all pending writes made
--   Image AreInside: n blocks from this one on lie in an image of so many blocks
--   Laws SameTable: two tables say the same
--   Laws OneTable: an image has one table at most
--   Laws TableExcludes: an image that has a table has neither an absent one nor one that is too ..
--   Laws LargeExcludes: a table that is too large isn't absent
--   Reads IsTableOf: this is the image's table
--   Reads Tells: What a reader answers of an image
--   Reads IsHeaderAt: the header in block p agrees, and these are its fields
--   Reads HeaderAt: the header in block p, where it agrees
--   Reads FindsTable: what was found at the header in block p
--   Reads HasUsed: the entries of the table that was found are used ones, by rising number
--   Register shifted_once: the register shifted by one bit, and combined with the divisor where ..
--   Register shifted_by
--   Register byte_after: after a byte
--   Register bytes_after: after bytes
--   Sample filled: n times the same byte
--   Sample wide: ASCII as units of UTF-16
--   Sample sample_entry: an entry of 128 bytes, whose GUID has the same byte 16 times
--   Sample header_start: the parts of a header: signature, revision, size, CRC and reserved ..
--   Sample header_blocks
--   Sample header_array
--   Sample header_with: the 92 bytes of a header with this CRC
--   Sample header_block: the block of a header: its CRC is taken with zero in its own place
--   Sample primary_place: where the two headers of an image stand whose last block is this one
--   Sample backup_place
--   Sample byte_of: the byte that a usable block is filled with
--   Sample usable_blocks: n blocks from this one on
--   Sample image_with: an image of 512-byte blocks up to this last one, with this entry array ..
--   Sample base_bytes: The base image: 128 blocks, and two partitions
--   Sample large_bytes: The large image: 131,072 blocks, and one partition
--   Table bytes_from: the bytes of all blocks from this one on
--   Table array_of: the bytes of the entry array
--   Table IsArrayInside: every block that the array touches lies in the image
--   Table header_at: the header in block p
--   Table IsValid: it agrees, isn't large, and its array lies in the image and has its CRC
--   Table IsTooLarge: it agrees and is large
--   Table table_place: the block of a header, in an image of two blocks or more
--   Table HasValid: the image has such a header, and it is valid, or large
--   Table HasLarge
--   Table IsChosen: the table is that of this header: the backup's only where the primary's ..
--   Table IsReadAt: the header in block p gives the id of the disk, the first and last usable ..
--   Table IsTable: The table of the image: the header that it is read from, the id of the disk, ..
--   Table HasNone: no header of the image is valid
--   Table TableIsTooLarge: the table is too large: no header is valid, and one is large
--   Table TableIsAbsent: the table is absent: no header is valid, and none is large
pub mod Crc
pub mod Entries
pub mod Errors
pub mod Header
pub mod Image
pub mod Laws
pub mod Reads
pub mod Register
pub mod Sample
pub mod Table
pub use Crc.{bits_of, number_of_bits, message, added_front, divisor, remainder, complemented}
pub use Crc.{crc_of}
pub use Entries.{is_zero, is_used, entry_in_bytes, AreUsed}
unfoldable pub use Entries.{units, used, entries_from}
pub use Header.{header_of, header_bytes, IsEntrySize, Agrees, array_length, IsLarge}
unfoldable pub use Header.{number_at}
pub use Image.{current_image}
pub use Laws.{SameTable, OneTable, TableExcludes, LargeExcludes}
pub use Reads.{IsTableOf, Tells, IsHeaderAt, HeaderAt, FindsTable}
pub use Register.{shifted_once, byte_after, bytes_after}
unfoldable pub use Register.{shifted_by}
pub use Sample.{wide, byte_of, usable_blocks}
unfoldable pub use Sample.{filled}
pub use Table.{array_of, IsArrayInside, header_at, IsValid, IsTooLarge, table_place, HasValid}
pub use Table.{HasLarge, IsChosen, IsReadAt, IsTable, HasNone, TableIsTooLarge, TableIsAbsent}
pub use declared.entry.Entry.{Entry}
pub use declared.found.Found.{Found}
pub use declared.found.Found.TheVariants.{Large, Neither, Valid}
pub use declared.sample.Fill.{Fill}
pub use declared.which.Which.{Which}
pub use declared.which.Which.TheVariants.{Backup, Primary}
