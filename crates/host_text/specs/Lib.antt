-- What is defined here, by file.
--   Printed printed
--   Printed all_printed
--   Printed after_space: a word with a space before it
--   Printed spaced: words with a space between them
--   Words hex_byte: a byte as two lower-case digits
--   Words hex
--   Words block_word: the bytes of a block: one byte where all are equal, else each
--   Words line: a line of words with a space between
--   Writing AppendsText: all of the text was put or is held
--   Writing Stops: the sink failed, and what was put is a front of what it was to get
--   Writing PutsHeldText: the text was put, up to a failure of the sink
--   Writing Writes: where the sink tells, the text was appended, and at a failure a front of it
pub mod Printed
pub mod Words
pub mod Writing
pub use Printed.{printed, all_printed, after_space, spaced}
pub use Words.{hex_byte, hex, block_word, line}
pub use Writing.{AppendsText, Stops, PutsHeldText, Writes}
pub use declared.word.Word.{Word}
