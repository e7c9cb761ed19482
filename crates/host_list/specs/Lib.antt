-- What is defined here, by file.
--   Answers list_error_of_disk
--   Answers list_error_of_table
--   Answers IsSmallEnough: the most blocks that an image may have
--   Answers IsListed: this is the image's table, on so many blocks
--   Answers Refuses: what a refusal says of the image; a failure of disk or sink and want of ..
--   Answers RefusesBlocks: What a refusal says of the number of blocks that the disk has, ..
--   Answers IsReadAlone: an image is attached to be read alone, in blocks of this size
--   Answers AttachedForList: attaching an image
--   Answers HasAttachedForList: the disk attached the image; where it failed or memory was ..
--   Answers OpensForList: opening an image
--   Answers Lists: the text of a table on the disk's own blocks was put, which is the image's ..
--   Answers Answers: What the answer says: the text was put, up to a failure of the sink, or ..
--   Answers IsListRefused: the text wasn't begun
--   Guid field: n bytes from byte i on
--   Guid guid_text: Digits in groups of 8, 4, 4, 4 and 12
--   Laws TestTellsServed: the test tells the served entries
--   Name is_plain: a unit that is printed as its character: from space to ~, but neither a ..
--   Name unit_text: its character, or four digits after \u
--   Name units_of: the units of a name: those before the first that is zero
--   Name name_text: in quotes
--   Served shares
--   Served serves
--   Text disk_line
--   Text list_head_text: the three lines before the entries
--   Text mark: of an entry that is served, and of another
--   Text attributes_text: 16 digits
--   Text entry_words
--   Text entry_line
--   Text list_text: the text of `list` of a table on an image of so many blocks of this size
pub mod Answers
pub mod Guid
pub mod Laws
pub mod Name
pub mod Served
pub mod Text
unfoldable pub use Guid.{guid_text}
pub use Laws.{TestTellsServed}
pub use Name.{is_plain, unit_text}
unfoldable pub use Name.{name_text}
pub use Served.{shares}
unfoldable pub use Served.{serves}
pub use Text.{entry_line, list_text}
unfoldable pub use Text.{attributes_text}
