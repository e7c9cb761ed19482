-- What is defined here, by file.
--   Arguments word: the word of that number
--   Arguments is_word
--   Arguments has_count: a line of n words
--   Arguments u16_at
--   Arguments u32_at
--   Arguments u64_at
--   Arguments count_at
--   Arguments group_bits: Of a line of n words, what the two further words that put its record ..
--   Arguments group_number: the group's number, 0 without a group
--   Arguments write_count: the words of a write before those of its group: seven where it is ..
--   Arguments force_bit: what the word `force` adds to the command
--   Causes cause_word
--   Draft OpenPlan: the session that is being read; it has a finish once its end was read
--   Draft Draft: the sessions before, and the one that is being read
--   Draft nothing_yet
--   Draft finish_or_drain: a session without an end is drained
--   Draft closed_plan
--   Draft closed_plans
--   Draft plans: all sessions, the one that is being read too
--   Draft with_line
--   Draft with_finish
--   Draft added
--   Draft is_session
--   Draft in_session: every line but `session` stands in a session that has not ended
--   Draft may_stand
--   Draft owed_so_far: answers that are owed by the records of the session's lines so far
--   Draft waits_enough
--   Draft may_wait: `wait N` waits for no more answers than are owed
--   Draft meaning: what a line of these words says, after the draft; the causes in their order
--   Generate next: the state after a draw, and what the draw that led to a state gives
--   Generate drawn
--   Generate transfer: a request that moves blocks between the device and buffer 1
--   Generate request_from: request n by its four draws
--   Generate after_request: the state after the four draws of a request
--   Generate request_line: request n after state x
--   Generate waits: a wait comes after every sixteenth request of a session, and after its last one
--   Generate request_lines: so many requests from n on, after state x
--   Generate after_requests: the state after the draws of so many requests
--   Generate session_from: session s, from 1
--   Generate sessions_from: so many sessions from s on, after state x
--   Generate generated
--   Keyword keyword_of: the keyword that a word is
--   Laws PrintedAgain: the printed text of a script that can be said means that script
--   Laws ReadAgain: a script that some text means is meant by its printed text
--   Laws GeneratedAgain: so is a script that is made from a seed
--   Limit is_record
--   Limit moved_by_request: the blocks that a record moves: its opcode decides, and a length ..
--   Limit moved_by: the blocks that a line moves
--   Limit moved_by_lines
--   Limit has_many_records
--   Limit limit_of: the first limit that is passed, for blocks of that size
--   Lines session_line
--   Lines attach_line
--   Lines fill_line
--   Lines show_line
--   Lines opcode_number: the number of an opcode
--   Lines sends: a line that sends this request
--   Lines transfer_line: a read or write, of so many words before those of its group; the ..
--   Lines write_line: a write may be forced
--   Lines flush_line
--   Lines trim_line
--   Lines close_line
--   Lines raw_line
--   Lines wait_line: with one word it waits for all that is owed, with two for that many
--   Lines end_line
--   Lines statement: what a line that begins with this word says
--   Named force_of: the bit of the command that forces a write
--   Named high_bits: the bits of the command above the opcode, but for that one
--   Named named_bits: what the group words add to the command: nothing where none are printed
--   Named named_group: the group that they name
--   Named has_named_group: whether a line can name it
--   Named named_request: the request that the line spells: fields without a word are zero
--   Numbers is_digit
--   Numbers digits_after: the number that n becomes by these further decimal digits
--   Numbers decimal_value: the value of 1 to 20 decimal digits
--   Numbers in_range: a value from low to high, both among them
--   Numbers number
--   Numbers hex_result: the bytes, or the cause where there are none
--   Numbers hex_bytes: n bytes as two hexadecimal digits each
--   Owed owes: whether the line sends a record that is owed an answer
--   Owed owed: how many answers are owed by the records of these lines
--   Planned is_between
--   Planned is_record_bytes
--   Planned fits_line: whether a line can be said where so many answers are owed
--   Planned fits_lines
--   Planned fits_plan
--   Planned can_be_said
--   Plans PlannedSession: what one client is to do
--   Plans plan_of
--   Plans plans_of
--   Print group_words: the two words that put a record into its group
--   Print force_words: the word that forces a write
--   Print named_words: the line that names what the record asks for
--   Print is_sending: whether a line sends just these bytes
--   Print says
--   Print raw_words
--   Print is_named: whether the named line gives the same bytes
--   Print named_or_raw: the named line where it gives the same bytes, else the bytes
--   Print send_words
--   Print line_words
--   Print end_word
--   Print line_text
--   Print session_script_text: a line that begins the session, one for each thing to do, and ..
--   Print script_text
--   Script after_statement: the draft after a line, which is as before where the line has no word
--   Script after_line
--   Script after_lines: the draft after these lines, the first of which has that number
--   Script plans_after
--   Script script_of: what the text means
--   Script Fails: what `parse` gives for a text that means this, unless memory runs out
--   Script Parses
--   Script ReadsLine: what reading line n gives, where it means this
--   Steps ◌>>=◌
--   Steps holds: what holds, or else this cause
--   Words is_blank: a space or a tab
--   Words begins_comment: whether a word begins a comment, with a #
--   Words words: the words of a line: what stands between blanks, up to the first word that ..
--   Words is_allowed: what may stand in a word
--   Words all_allowed
pub mod Arguments
pub mod Causes
pub mod Draft
pub mod Generate
pub mod Keyword
pub mod Laws
pub mod Limit
pub mod Lines
pub mod Named
pub mod Numbers
pub mod Owed
pub mod Planned
pub mod Plans
pub mod Print
pub mod Script
pub mod Steps
pub mod Words
pub use Arguments.{word, write_count}
unfoldable pub use Arguments.{has_count, group_bits, group_number, force_bit}
pub use Draft.{OpenPlan, nothing_yet, closed_plan, closed_plans, plans, with_line, with_finish}
pub use Draft.{is_session, owed_so_far, waits_enough}
unfoldable pub use Draft.{added, may_stand, may_wait, meaning}
pub use Generate.{drawn, after_request, waits, request_lines, after_requests, sessions_from}
pub use Generate.{generated}
unfoldable pub use Generate.{next, request_from, request_line, session_from}
unfoldable pub use Keyword.{keyword_of}
pub use Limit.{is_record}
unfoldable pub use Limit.{moved_by, moved_by_lines, has_many_records, limit_of}
pub use Lines.{opcode_number, sends}
unfoldable pub use Lines.{session_line, attach_line, fill_line, show_line, transfer_line, write_line, flush_line, trim_line, close_line, raw_line, wait_line, end_line, statement}
pub use Named.{force_of, high_bits, named_bits, named_group, has_named_group, named_request}
pub use Numbers.{is_digit, digits_after, in_range, hex_result}
unfoldable pub use Numbers.{decimal_value, number, hex_bytes}
pub use Owed.{owes}
unfoldable pub use Owed.{owed}
pub use Planned.{is_between, is_record_bytes, fits_line, fits_lines, fits_plan, can_be_said}
pub use Plans.{PlannedSession, plan_of, plans_of}
pub use Print.{group_words, force_words, named_words, is_sending, says, raw_words, named_or_raw}
pub use Print.{line_words, end_word, line_text, session_script_text, script_text}
unfoldable pub use Print.{is_named, send_words}
pub use Script.{after_statement, after_lines, plans_after, script_of}
unfoldable pub use Script.{after_line}
pub use Steps.{◌>>=◌, holds}
pub use Words.{is_blank, begins_comment, words, is_allowed, all_allowed}
pub use declared.cause.ScriptCause.{ScriptCause}
pub use declared.cause.ScriptCause.TheVariants.{BadByte, BadNumber, TooMany, UnknownWord}
pub use declared.limit.Limit.TheVariants.{Moved, Records, Sessions}
pub use declared.parse_error.ParseError.{ParseError}
pub use declared.parse_error.ParseError.TheVariants.{Bad, Oom}
pub use declared.script.ScriptLine.{ScriptLine}
pub use declared.script.ScriptLine.TheVariants.{Attach, Fill, Send, Show, WaitAll, WaitFor}
pub use declared.script.SessionScript.{SessionScript}
pub use declared.statement.Statement.{Statement}
pub use declared.statement.Statement.TheVariants.{Begin, Do, End}
