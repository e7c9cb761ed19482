-- What is defined here, by file.
--   AnswerEnds SlipSenderState: the ring, its depth, the sender's number, and what this sender ..
--   AnswerEnds SlipTakerState: the ring, its depth, how many senders it has, what was taken, ..
--   AnswerEnds slip_sender_of
--   AnswerEnds slip_taker_of
--   AnswerEnds with_slip: one more slip was pushed
--   AnswerEnds with_slip_taken: one more slip was taken
--   AnswerEnds FoundNoRoom: what a full ring can tell a sender: as many slips as it is deep, ..
--   AnswerEnds FoundNoSlip: what an empty ring can tell the taker: all that it heard to be ..
--   AnswerEnds AreFresh: the k-th is the sender k of this ring, and has pushed nothing
--   AnswerEnds AreAllOf: these are all senders of the taker's ring, by their numbers
--   AnswerRule SenderKnows: a sender's pass is the only one with its number, and knows what it ..
--   AnswerRule TakerKnows: the taker's pass is the only one that pops
--   AnswerRule FitsAnswers: what a pass knows, by what it may do
--   AnswerRule InTurn: what was pushed, each slip with its sender, is what left the ring and ..
--   AnswerRule HoldsAfter: the slips of the sender k among what left the ring and what it holds ..
--   AnswerRule AllThere: what was heard to be pushed stands in what was taken and what the ring ..
--   AnswerViews reader_view: the taker's
--   AnswerViews hand_view: a sender's
--   AnswerViews making_view: one more sender was made
--   AnswerViews closing_view: one more sender was closed, which had pushed these
--   AnswerViews spent_answer_view: a pass that was taken in knows nothing more
--   NoteFields note_state: the queue's table names the ring
--   NoteFields IsNote: a pass that holds no element, and may not push
--   Places EachPlace: each place of the list, with what stands there
--   RequestEnds RingId: which ring it is
--   RequestEnds SenderState: the ring, its depth, for how many records it was made, what was ..
--   RequestEnds TakerState: the same of a taker: what was taken, and what the taker heard to be ..
--   RequestEnds NoteState: the ring of a note, and what was pushed when it was written
--   RequestEnds sender_of
--   RequestEnds taker_of
--   RequestEnds with_pushed: one more envelope was pushed
--   RequestEnds with_taken: one more envelope was taken
--   RequestEnds with_heard: these were heard to be pushed
--   RequestEnds FoundFull: what a full ring can tell the sender: as many as it is deep were ..
--   RequestEnds FoundEmpty: what an empty ring can tell the taker: all that it heard to be ..
--   RequestRule IsNumbered: the k-th envelope has the index k
--   RequestRule WriterKnows: the one pass that may push knows all that was pushed, and what it ..
--   RequestRule ReaderKnows: the one pass that may pop knows all that was taken
--   RequestRule FitsRequests: what a pass knows, by what it may do
--   RequestRule InOrder: what was pushed is what was taken and then the items of the ring
--   RequestRule LeftBehind: the ring holds what was pushed but for those taken, and what was ..
--   RequestRule StillAhead: what was taken, and then what the ring holds, begins with all that ..
--   RequestViews request_view
--   RequestViews pushing_view: one more envelope was pushed
--   RequestViews popping_view: one more envelope was taken
--   RequestViews note_view: a note may neither push nor pop, and has heard what the sender pushed
--   RequestViews hearing_view: these were heard to be pushed
--   RequestViews spent_request_view: a pass that was taken in knows nothing more
--   SenderFields sender_state: the queue's table names the ring
--   SenderFields IsSender: a pass of this queue that only pushes
--   SlipSenderFields slip_sender_state: the queue's table names the ring
--   SlipSenderFields IsSlipSender: a pass of this queue that only pushes
--   SlipTakerFields slip_taker_state: the queue's table names the ring
--   SlipTakerFields IsSlipTaker: a pass of this queue that only pops, and has closed no sender
--   Slips Marked: a slip with the number of the sender that pushed it
--   Slips slips
--   Slips slips_sent_by: the slips of the sender k, in order
--   Slips AllBelow: each slip is of one of the first n senders
--   Slips ComeFrom: each of these slips is of a sender, and what each sender pushed begins with ..
--   Slips IsAmong: each slip stands in the second list at least as often as in the first, by ..
--   TakerFields taker_state: the queue's table names the ring
--   TakerFields IsTaker: a pass of this queue that only pops
pub mod Places
pub mod RequestViews
pub mod RequestRule
pub mod RequestEnds
pub mod SenderFields
pub mod TakerFields
pub mod NoteFields
pub mod Slips
pub mod AnswerViews
pub mod AnswerRule
pub mod AnswerEnds
pub mod SlipSenderFields
pub mod SlipTakerFields
pub use Places.{EachPlace}
pub use RequestViews.{request_view, pushing_view, popping_view, note_view, hearing_view}
pub use RequestViews.{spent_request_view}
pub use RequestRule.{IsNumbered, WriterKnows, FitsRequests, InOrder, LeftBehind, StillAhead}
pub use RequestEnds.{RingId, SenderState, TakerState, NoteState, taker_of, with_pushed, with_taken}
pub use RequestEnds.{with_heard, FoundEmpty}
pub use Slips.{Marked, slips, slips_sent_by, AllBelow, ComeFrom, IsAmong}
pub use AnswerViews.{reader_view, hand_view, making_view, closing_view, spent_answer_view}
pub use AnswerRule.{FitsAnswers, InTurn, HoldsAfter, AllThere}
pub use AnswerEnds.{SlipSenderState, SlipTakerState, slip_sender_of, slip_taker_of, with_slip_taken}
pub use AnswerEnds.{FoundNoSlip, AreFresh, AreAllOf}
pub use declared.answer_view.AnswerView.{AnswerView}
pub use declared.envelope.Envelope.{Envelope}
pub use declared.request_view.RequestView.{RequestView}
pub use declared.slip.Slip.{Slip}
