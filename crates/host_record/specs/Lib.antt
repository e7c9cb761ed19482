-- What is defined here, by file.
--   Command opcode: what the low eight bits of the command ask for
--   Command has_bit_of: whether one of the bits of the mask is set in the command
--   Command is_grouped: 0x800 is "member of group", 0x400 is "last of group"
--   Command is_last: whether the request closes its group
--   Command is_forced: 0x1000 is "force": the answer waits until what was written is durable
--   Command is_write: whether it is a write
--   Command has_unknown_bit: every bit but the opcode and these three is unknown, and so is ..
--   Command names_blocks: a read, write or trim names blocks of the device
--   Command names_buffer: a read, write or close names a buffer
--   Command is_transfer: a read or write moves blocks between a buffer and the device
--   Command is_close: whether it is a close
--   Request request_bytes: the bytes of a request
--   Request request_of: the request that has these bytes
--   Response response_bytes: the bytes of a response
--   Response response_fields: the fields that these bytes have in a response
--   Response all_zero: whether all of these bytes are zero
--   Response is_padded: whether the bytes are zero that a response leaves free: 10, 11 and 16 to 31
--   Response response_of: the response that has these bytes, if one has
--   Status status_number: the number of a status, where negsuc n is -(n + 1)
pub mod Command
pub mod Request
pub mod Response
pub mod Status
pub use Command.{is_grouped, is_last, is_forced, names_blocks, names_buffer, is_transfer, is_close}
unfoldable pub use Command.{opcode}
pub use Request.{request_bytes, request_of}
pub use Response.{response_bytes, response_of}
unfoldable pub use Response.{response_fields, all_zero, is_padded}
pub use Status.{status_number}
pub use declared.finish.Finish.{Finish}
pub use declared.finish.Finish.TheVariants.{Abort, Drain}
pub use declared.opcode.Opcode.{Opcode}
pub use declared.opcode.Opcode.TheVariants.{Close, Flush, Read, Trim, Write}
pub use declared.status.Status.TheVariants.{InvalidArgs, Io, NoMemory, NotFound, NotSupported, Ok}
pub use declared.status.Status.TheVariants.{OutOfRange, TooSmall}
