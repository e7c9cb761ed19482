-- What is defined here, by file.
--   Lawful IsOnTable: the image's table is read by the report's header, and each session is on ..
--   Lawful IsOfImage: the report counts the image's blocks, and names their length
--   Lawful session_of: one session of a report, with the device's steps for it
--   Lawful closing_flush: the closing flush, with a fault or without
--   Lawful closing_steps: the steps after those of the sessions
--   Lawful is_of_sessions: whether the step is of one of n sessions
--   Lawful pages_asked_by: the pages that all attaches asked for, those refused too
--   Lawful pages_asked
--   Lawful is_short_of_frames
--   Lawful ran_short: whether an attach was refused for want of frames
--   Lawful IsLawfulRun: the run is lawful, but for its partitions
--   Lawful IsLawful
--   Laws RangesLieInImage: the ranges of a report that is on the image's table lie in the image
--   LogText attach_cause_word
--   LogText answer_line
--   LogText event_line: the line of an event
--   LogText block_of: the k-th block of so many bytes
--   LogText shown_line: the line of the k-th block that was shown, from this block on
--   LogText shown_text: the lines of so many blocks that were shown, from this block on
--   LogText shown_lines: the lines of the blocks that an event showed
--   LogText event_text
--   Played LineAsk: what a line asks of a client: a call with its arguments, or to wait until ..
--   Played Plan: what a script asks of one client
--   Played is_received
--   Played is_wait
--   Played calls_in: what the client did, without what it received
--   Played calls_asked: what it was asked to do, without the waits
--   Played is_closed_error
--   Played is_call_for: whether the event is what was asked for
--   Played is_end_of
--   Played are_calls_for: one event for each call asked for, in order, and then the end
--   Played before_call: the events before the client's call of that number
--   Played is_waited_for: whether as much was received before the client's next call as the ..
--   Played IsPlayedBy
--   Played IsPlayedReport: one session for each client of the script, in order
--   StepText verdict_words
--   StepText row_line: the row of a record with its index
--   StepText memory_entry_words
--   StepText memory_entry_line
--   StepText op_word
--   StepText printed_block: the block that is printed: a flush is on none, and has 0
--   StepText ok_or_fault
--   StepText bytes_words: a write has its bytes in the line, and a read that isn't faulted
--   StepText step_words: the words of a step but for its bytes
--   StepText step_line
--   Summary is_good_answer: an answer with status 0
--   Summary is_sent_event
--   Summary is_received_event
--   Summary is_good_event
--   Summary is_failed_event
--   Summary events_in: how many events of these sessions pass the test
--   Summary records_sent
--   Summary answers_received
--   Summary good_answers
--   Summary failed_answers
--   Summary load_line
--   Summary answers_line
--   Summary summary_text: the text of a summary
--   Text image_line
--   Text which_word
--   Text table_line
--   Text session_line
--   Text steps_line
--   Text closing_word
--   Text closing_line
--   Text end_line
--   Text head_text
--   Text taken_text: what a session took and what was done to its buffers, where steps are printed
--   Text session_text
--   Text step_lines
--   Text steps_text: the number of steps, and the steps where they are printed
--   Text end_text
--   Text report_text: the text of a report, with its steps or without
--   Words inner: a line of a session or a step, and one of a block that was shown
--   Words innermost
--   Words yes_or_no
pub mod Lawful
pub mod Laws
pub mod LogText
pub mod Played
pub mod StepText
pub mod Summary
pub mod Text
pub mod Words
pub use Lawful.{IsOnTable, IsOfImage, session_of, closing_flush, closing_steps, is_of_sessions}
pub use Lawful.{pages_asked_by, pages_asked, is_short_of_frames, ran_short, IsLawfulRun, IsLawful}
pub use Laws.{RangesLieInImage}
pub use LogText.{shown_line, event_text}
pub use Played.{LineAsk, attach, fill, show, send, wait_all, wait_for, Plan, is_received, is_wait}
pub use Played.{calls_in, calls_asked, is_call_for, is_end_of, are_calls_for, before_call}
pub use Played.{is_waited_for, IsPlayedBy}
pub use StepText.{row_line, memory_entry_line, step_line}
pub use Summary.{records_sent, answers_received, good_answers, failed_answers, summary_text}
pub use Text.{session_text, report_text}
pub use declared.closing.Closing.{Closing}
pub use declared.closing.Closing.TheVariants.{Cut, Fault, Good, NoMemory}
pub use declared.report.Report.{Report}
pub use declared.session.SessionReport.{SessionReport}
