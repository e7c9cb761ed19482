-- What is defined here, by file.
--   Answers is_failure
--   Answers first_failure: the first that isn't Ok, else Ok
--   Answers answer: the answer of owing record i: the status of the first of its records that ..
--   Answers answer_bytes
--   Answers due: the answers due: one for each owing record that was taken, since the members ..
--   Answers is_answered_at_most: no answer was received more often than it is due
--   Answers is_answered_exactly: each answer was received as often as it is due
--   Answers AreDueAnswers: after each event no answer was received more often than it is due ..
--   Buffers is_in_buffer: whether buffer v was given in these events and has so many pages from ..
--   Buffers was_closed: whether the record that closes buffer v was sent in these events, and ..
--   Buffers next_client_place: where the client's next entry after these events stands; the end ..
--   Buffers was_released: whether the buffer was closed before, and is released before the ..
--   Buffers is_answer_for: whether a fill or show was rightly done, or rightly not done
--   Buffers is_used_rightly
--   Buffers IsBufferHistory
--   Carrying Ask: a step that a request asks for
--   Carrying for_each_block: one step for each block, by rising k
--   Carrying flush_ask: a flush, with this number
--   Carrying flush_after: a forced write has a flush after its last block
--   Carrying asked_by: the steps that an accepted request asks for, in order
--   Carrying asked: the steps that a request asks for; a refused one asks for none
--   Carrying same_op
--   Carrying is_step_for
--   Carrying carries_out: the steps made are the first of those asked for, and none comes after ..
--   Carrying ended: how it ended: at a fault, short of memory, or with every step made
--   Carrying outcome_of: the outcome of a record with this verdict
--   Carrying steps_of: the steps of record i
--   Carrying asked_in: the steps that record i asks for
--   Carrying IsCarriedOut: record i is carried out by its steps, and has their outcome
--   Carrying AreCarriedOut: each record taken is carried out, and no other has a step
--   Changes change_of
--   Changes changes_of
--   ClientEntries is_client
--   ClientEntries entry_after: the entry of an event, where the client did it after these events
--   ClientEntries told: the client's entries, as its log tells them
--   ClientEntries lent_by: the pages of buffer v, where an entry tells that it was given before ..
--   ClientEntries lent_in: the same for a history; it is what the log tells
--   ClientEntries IsToldByLog
--   Groups is_member: a member of a group; every other record is lone
--   Groups is_closing: a member that closes its group
--   Groups is_owing: a lone record, or a member that closes its group: each of these is owed ..
--   Groups closings: how many of these requests closed group g
--   Groups instance_of: a member's instance: its group, and how often that group was closed ..
--   Groups same_instance: whether both are members of one instance
--   Groups answers_for: whether the answer to record i is the answer to record k: i is k, lone, ..
--   Groups answered_by: the records that the answer to record i answers, in order
--   Groups owed: the records that are owed an answer
--   Groups owing_record: the record whose answer is that to record k: k itself, or the member ..
--   LawfulSession IsLawfulSession
--   Laws FailsFirst: this check fails with that status, and each before it is passed
--   Laws IsByFirstCheck: the verdict is the status of the first check that fails; accepted ..
--   Laws FirstCheckDecides
--   Laws StaysIn: a flush is on no block; each other step is on a block of the range
--   Laws StepsStayInside
--   Laws CameOnce: as many answers were received as there are lone records and closed groups, ..
--   Laws AnswersComeOnce
--   Laws StandBefore: each of these places is before each of those
--   Laws IsInOrder: the order rule, without tests
--   Laws OrderIsKept
--   Lists implies: p only where q
--   Lists agrees: p just where q
--   Lists is_nil
--   Lists below: the numbers below n
--   Lists last: the last element, or else x
--   Lists map_after: what f gives of each element and the elements before it
--   Lists map_with_before
--   Lists all_after: whether each element passes the test with the elements before it
--   Lists all_with_before
--   Lists places_from: where in the list the elements stand that pass the test, counted from n
--   Lists places
--   Lists all_before: each of these places is before each of those
--   Lists count: how many elements pass the test
--   Lists within_counts: no element stands in xs more often than in ys
--   Lists same_counts: each element stands in xs as often as in ys
--   Log sent_bytes: the record that was sent, and its index
--   Log sent_index
--   Log received_bytes: the answer that was received
--   Log given_id: the buffer that was given
--   Log pages_of: the pages of buffer v, where the event gave it
--   Log sent: the records sent, in order
--   Log received: the answers received, in order
--   Log given: the buffer ids given, in order
--   Log pages_given: the pages of buffer v, where these events gave it
--   Log requests: the requests sent, in order
--   Log request_at: the request of that index
--   Log before_sent: the events before record i was sent; all where it wasn't
--   Log sending: how many those are
--   Log given_before: the pages of buffer v, where it was given before record i was sent
--   Order was_answered: whether the answer of owing record o was received as often as it is ..
--   Order had_in: whether the answer to record r was had in these events: its owing record was ..
--   Order had_before: whether it was had in some of the first n events
--   Order HadBefore: the same as a sentence
--   Order owner: the record that an entry belongs to; a release belongs to the record that ..
--   Order step_places
--   Order entry_places
--   Order client_places
--   Order told_by: how many of the first n events have an entry
--   Order follows_record: what record r did stands before what record i did, if its answer was ..
--   Order follows_client: what the client did before it sent record i stands before what the ..
--   Order precedes_event: what record r did stands before the entry of event n, if its answer ..
--   Order KeepsOrder
--   Pages page_put_by: what an entry puts into page n of buffer v
--   Pages page_at: page n of buffer v after these entries: what the last of them put there, ..
--   Pages found_by: what a show finds after these entries
--   Pages shown_bytes: what the client was shown
--   Pages lifts_page: a lift after these entries has the bytes of the page
--   Pages HasPages
--   RecordEntries index_of: the record for which an entry was made; a release names none
--   RecordEntries record_entry: the entry, where it was made for record i; which hand a pin ..
--   RecordEntries entries_of: the entries made for record i
--   RecordEntries lift_for
--   RecordEntries land_for
--   RecordEntries lift_at: the lift at step n, with whatever bytes it has
--   RecordEntries spare: a write that was refused memory before the step on its block n may ..
--   RecordEntries writes_of: those of these steps that write
--   RecordEntries entries_for: The entries that an accepted record has to have, where it has ..
--   RecordEntries entries_owed: a refused record has none
--   RecordEntries HasEntries: record i has the entries that it has to have
--   RecordEntries names_taken: an entry of a record that was taken, or of none
--   RecordEntries HaveEntries
--   Releases buffer_of: the buffer of an entry
--   Releases is_pin
--   Releases is_close_of
--   Releases is_release_of
--   Releases pins_before_close: no pin of a buffer stands after its close
--   Releases comes_before_release: nothing of a buffer stands after its release
--   Releases released_id
--   Releases released: the buffers released, in order
--   Releases AreReleased
--   Session Session
--   Taking row_at: the row of record i; there is one for each record that was taken
--   Taking is_drain
--   Taking end_event: the event that ends a log
--   Taking is_end
--   Taking is_attach
--   Taking is_out_of_ids
--   Taking runs_out_rightly: an attach is refused for want of ids just where 65,535 were given ..
--   Taking IsTakenInOrder
--   Verdict is_within: the blocks from an offset on lie among so many
--   Verdict first_check: refused with the status of the first check that fails, else accepted
--   Verdict checks: The checks on a request, in order: whether it fails, and with which status
--   Verdict judged: the verdict on a request in this partition, whose buffer has so many pages, ..
--   Verdict is_accepted
--   Verdict closes: whether the request, with this verdict, closes buffer v
--   Verdict close_in: the first of these requests that closes buffer v by its verdict
--   Verdict is_closed: whether one of these requests closed buffer v
--   Verdict verdict_after: The verdict on record i after the verdicts on those before it
--   Verdict verdicts_on: the verdicts on the first n records
--   Verdict verdicts: the verdicts on the first n records of a log
--   Verdict verdict_of: the verdict on record i of a log
--   Verdict close_of: the record that closes buffer v, among all that were sent
pub mod Answers
pub mod Buffers
pub mod Carrying
pub mod Changes
pub mod ClientEntries
pub mod Groups
pub mod LawfulSession
pub mod Laws
pub mod Lists
pub mod Log
pub mod Order
pub mod Pages
pub mod RecordEntries
pub mod Releases
pub mod Session
pub mod Taking
pub mod Verdict
pub use Answers.{is_failure, first_failure, answer, answer_bytes, due, is_answered_at_most}
pub use Answers.{is_answered_exactly, AreDueAnswers}
pub use Buffers.{is_in_buffer, was_closed, next_client_place, was_released, is_answer_for}
pub use Buffers.{is_used_rightly, IsBufferHistory}
pub use Carrying.{Ask, for_each_block, flush_ask, flush_after, asked_by, asked, same_op}
pub use Carrying.{is_step_for, carries_out, ended, outcome_of, steps_of, asked_in, IsCarriedOut}
pub use Carrying.{AreCarriedOut}
pub use Changes.{change_of, changes_of}
pub use ClientEntries.{is_client, entry_after, told, lent_by, lent_in, IsToldByLog}
pub use Groups.{is_member, is_closing, is_owing, closings, instance_of, same_instance, answers_for}
pub use Groups.{answered_by, owed, owing_record}
pub use LawfulSession.{IsLawfulSession}
pub use Laws.{IsByFirstCheck, FirstCheckDecides, StaysIn, StepsStayInside, AnswersComeOnce}
pub use Laws.{StandBefore, IsInOrder, OrderIsKept}
pub use Lists.{implies, is_nil, below, last, map_after, map_with_before, all_after, all_with_before}
pub use Lists.{places_from, places, all_before, count, within_counts, same_counts}
pub use Log.{sent_bytes, sent_index, received_bytes, given_id, pages_of, sent, received, given}
pub use Log.{pages_given, requests, request_at, before_sent, sending, given_before}
pub use Order.{was_answered, had_in, had_before, HadBefore, owner, step_places, entry_places}
pub use Order.{client_places, told_by, follows_record, follows_client, precedes_event, KeepsOrder}
pub use Pages.{page_put_by, page_at, found_by, shown_bytes, lifts_page, HasPages}
pub use RecordEntries.{index_of, record_entry, entries_of, lift_for, land_for, lift_at, spare}
pub use RecordEntries.{writes_of, entries_for, entries_owed, HasEntries, names_taken, HaveEntries}
pub use Releases.{buffer_of, is_pin, is_close_of, is_release_of, pins_before_close}
pub use Releases.{comes_before_release, released_id, released}
pub use Taking.{row_at, is_drain, end_event, is_end, runs_out_rightly, IsTakenInOrder}
pub use Verdict.{is_within, first_check, checks, is_accepted, closes, close_in, is_closed}
pub use Verdict.{verdict_after, verdicts_on, verdicts, verdict_of, close_of}
unfoldable pub use Verdict.{judged}
pub use declared.event.AttachError.{AttachError}
pub use declared.event.Event.{Event}
pub use declared.event.Event.TheVariants.{Aborted, Attached, Drained, Filled, NotAttached, Received}
pub use declared.event.Event.TheVariants.{Sent, Shown}
pub use declared.memory.MemEntry.{MemEntry}
pub use declared.memory.MemEvent.{MemEvent}
pub use declared.memory.MemEvent.TheVariants.{Attach, Close, Done, Fill, Land, Lift, Pin, Release}
pub use declared.memory.MemEvent.TheVariants.{Show}
pub use declared.row.TakenRow.{TakenRow}
pub use declared.step.Step.{Step}
pub use declared.verdict.Verdict.TheVariants.{Accepted, Refused}
