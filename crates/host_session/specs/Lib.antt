-- What is defined here, by file.
--   Acts Act
--   Acts log_of
--   Acts envelopes_of
--   Acts slips_of
--   Acts fronts_after
--   Acts has_entry: an event that has an entry in the buffer history
--   Acts entry_place: where that entry stands: it is the last that the end then knew of
--   Acts is_drain_event
--   Acts IsPlain: nothing came with it, and the end then knew no less than before
--   Acts HasPlace: Its entry stands at a place not below the front known before
--   Acts FoundNoBlocks: It found no such blocks in the buffer, in the history up to what the ..
--   Acts next_envelope: the envelope of the next record, with these fronts
--   Acts IsSending: Its envelope has the fronts that the end knew
--   Acts is_answer: a slip that answers one of the records sent so far
--   Acts IsReceiving: Its slip answers a record that was sent before, and the end then knew the ..
--   Acts IsDrain: no fewer answers were received than are owed
--   Acts IsEventAfter: an event after these acts, where the client has seen the buffer history h
--   Acts IsAct
--   Acts IsPart: the first list has some elements of the second, in their order
--   Acts IsCourse: The acts of a client end that has this log, pushed these envelopes, took ..
--   Acts is_drain_act
--   Acts before_drained: the acts before the session was closed after a drain
--   Acts AreLate: Each release that the client made stands at a place not below the fronts of ..
--   Calls with_event: one event more in its log
--   Calls with_visit: The seat of the buffers was inside, and the history that it left is known
--   Calls HasClaimedPages: with the seat of the pool a claim of so many frames was made: it got ..
--   Calls WasRefused: such a claim was refused
--   Calls IsBlank: pages of this pool, all blank
--   Calls IsClaimAnswer: What a claim for a buffer answers: the pages, or want of memory or of ..
--   Calls HasAttachedBuffer: The buffer has the next id, and its entry stands in the history ..
--   Calls IsAttachAnswer: What an attach answers, in this order: the session was drained or ..
--   Calls IsFilled: A fill was logged, done or not; where it was done it has its entry
--   Calls IsShown: A show was logged so; where it was done, with the bytes that it found
--   Calls IsSendAnswer
--   Calls with_slips: these slips were taken
--   Calls AreNoAnswers: slips that answer none of so many records sent
--   Calls IsNextAnswer: The next slip that answers one of so many records sent, after some that ..
--   Calls HasThrown: Slips that answer none of so many records sent were taken, and thrown away
--   Calls IsNoAnswer: There was none among those taken, and then nothing was found in the ring
--   Calls HasFoundAnswer
--   Calls IsReceived: An answer was received, and the fronts of its slip are known
--   Calls IsNotReceived
--   Calls IsRecvAnswer
--   Calls IsTurn: The client's seat entered the intake's book, found the history es, and left ..
--   Calls IsFinished: The client turned the session; an abort was logged
--   Client IntakeSeat: a seat at the book of a session's intake
--   Client ClientState
--   Client no_fronts
--   Client slip_fronts
--   Client greater: the greater of each
--   Client AreWithin: the second are no smaller
--   Client room_left: how many events still fit, beside the end event
--   Client phase_for
--   Client turns_made: the phases to which the client turned the session
--   Client ends_logged: the end event that is logged: an abort at once, a drain as the session ..
--   Client is_drained
--   Client is_aborted
--   ClientFields client_state
--   ClientFields IsCounted: the numbers kept are those of the log
--   ClientFields HasRoomForHands: Room for all seats and senders of a session with so many hands
--   ClientFields IsClientKept
--   Closing releases_by: these buffers are released
--   Closing pages_of_ids: how many pages buffers were attached with, together
--   Closing HasGivenBack: the frames given back with the pool's seat are so many more
--   Closing HasDropped: The buffers of these ids were released, and as many pages given back as ..
--   Closing IsMemoryFreed: No pin was left, and all buffers that had pages were released
--   Closing IsPinned: A pin was left, and nothing was released
--   Closing HasReleasedIds: The buffers were entered past that front and found without a pin
--   Closing FoundPin: A pin was found, and nothing was released
--   Closing IsReleaseAnswer
--   Closing IsTurnedTo: the client's seat at the intake's book, which was turned to these ..
--   Closing IsEndingSession: it was turned to drain or abort
--   Closing HasTurned: It was turned to this phase
--   Closing AreOfPool: the client's seat at the buffers' book and the seat at the pool are of ..
--   Closing is_unfinished: what keeps a session from being closed, where so many records have ..
--   Closing is_landed: so many records were taken, and nothing is in flight or kept
--   Closing IsClosedInTurn: What was done within one turn of the intake: nothing was left to ..
--   Closing IsOpenInTurn: Something was left to do
--   Closing IsAttemptInTurn
--   Closing HasClosedSession: Nothing is left to do: the buffers were released past what any ..
--   Closing HasNotClosed: Something is left to do in what was found
--   Closing IsAttempt
--   Closing closing_event: the event that is logged then
--   Closing IsClosing: The session was closed in this call: nothing was undone, the pages went ..
--   Closing IsStillOpen: It is still open: something was undone in what the seats have seen
--   Closing IsCloseAnswer: Is the session closed now? Once it is, nothing changes any more
--   Counting times: how often a record stands in the list
--   Counting due_records: the records that are due an answer: the owing ones that were taken
--   Counting AreAnswered: The answers received are those to these records: each is due one, and ..
--   Counting AreReceivedAsOften: these bytes were received as often as they are due
--   Counting AreCounted: what counting tells of them
--   Counting answered_in: the first of these records, as many as answers were received in the ..
--   Counting AreSentBefore: each answer was received after the records that it answers were sent
--   Counting CountingTells
--   Counting CountingHoldsBefore: what holds of a log's answers holds of its first events
--   Endings owed_count: How many answers the client is owed for the records that it sent
--   Endings is_undone: What keeps a session from being closed: a record in flight, a kept ..
--   Endings IsSessionOver: Nothing is in flight or kept, and no buffer has pages; after a drain ..
--   Endings is_receipt: an answer that was received
--   Endings IsDrainedLog: nothing but answers stands behind the drain
--   Endings is_turn
--   Endings IsEndedSoFar: How far the session is ended, by what the client has seen of the ..
--   Handed slip_in: the answer that an entry tells to be handed on: one that wasn't kept, or ..
--   Handed slip_by
--   Handed handed_by: the answers that hand n handed on, in order
--   Keeping AreKeptAs: all three are kept, or none
--   Kept IsLog: The records sent are numbered from 0, an attach is refused for want of ids just ..
--   Kept HasRings: its ends of the rings
--   Kept IsClient
--   Moves lifts_of: the lifts of a write's steps; its flush has none
--   Moves lands_of: the landings of a read's steps; a step that failed has none
--   Moves moves_by: What an accepted record does to its buffer while it is carried out by these ..
--   Moves moves_owed: a refused record does nothing to it
--   Moves moves_for: what hand n did to the buffers for record i
--   Opened IsNewClient: a client end that has done nothing yet
--   Opened IsSessionOpened: a session of this spec, with its shared part, its client end and ..
--   Opened HasNewMemory: a book of buffers without any, with a seat for each hand, one for the ..
--   Opened IsToDeal: new seats at both books, one of each for each sender
--   Opened IsDealt: hand k has the seats of that number, both new
--   Opened HaveRoomAs: the vectors have kept their room
--   Opened AreHandsDealt: All were dealt out: the k-th sender went to hand k
--   Plan IntakeBook
--   Plan MemoryBook
--   Plan SessionPlan
--   Plan id_limit: how many buffers it may give
--   Plan memory_plan_for: the fixed part of the buffers
--   Plan memory_plan
--   Plan intake_plan: the fixed part of its intake
--   Plan IsSeatIn: A seat at one of its books, with this number, which has neither a ticket nor ..
--   Plan IsShared: The part that all share: books that were made for the hands and the client, ..
--   Plan IsHand: hand k: its seats and its end of the answer ring have its number
--   Plan IsFreshHand: it has seen nothing, and done nothing
--   Plan AreAllHands: these are all its hands, by their numbers
--   Plan IsItsPool: the pool of its pages, and a seat at it
--   Told is_release
--   Told is_by_client: what a client may do
--   Told finds_blocks: a fill or show that has an entry found its blocks in the buffer
--   Told IsClientTold: The client's entries are those that its log tells; it gave the ids 1, 2, ..
--   Visits IsVisit: The client's seat entered and found the history h, which goes on from what ..
--   Visits entry_by: the client's entry
--   Visits entry_where: it is made where something is done
--   Visits HasTried: A fill or show found the blocks in its buffer, and has an entry; or it ..
--   Whole HasAllOf: A history has all that a seat has seen, and of the seat's own entries no others
--   Whole IsIntakeHistory: The intake's history: that of all hands, and of the client
--   Whole IsMemoryHistory: The buffers' history: that of all hands, of the client and of the ..
--   Whole AreJoined: What went through the rings and the cells: what was taken is a beginning ..
--   Whole IsClientOf: What the client knew of a part of both histories holds of the whole
--   Whole IsSessionWhole: A session of this client end and these hands, which ended with this ..
pub mod Acts
pub mod Calls
pub mod Client
pub mod ClientFields
pub mod Closing
pub mod Counting
pub mod Endings
pub mod Handed
pub mod Keeping
pub mod Kept
pub mod Moves
pub mod Opened
pub mod Plan
pub mod Told
pub mod Visits
pub mod Whole
pub use Acts.{Act, log_of, envelopes_of, slips_of, fronts_after, has_entry, entry_place}
pub use Acts.{is_drain_event, HasPlace, FoundNoBlocks, next_envelope, is_answer, IsEventAfter}
pub use Acts.{IsAct, IsPart, IsCourse, is_drain_act, before_drained, AreLate}
pub use Calls.{with_event, with_visit, HasAttachedBuffer, IsAttachAnswer, IsFilled, IsShown}
pub use Calls.{IsSendAnswer, with_slips, IsNextAnswer, HasThrown, HasFoundAnswer, IsReceived}
pub use Calls.{IsRecvAnswer, IsTurn, IsFinished}
pub use Client.{IntakeSeat, ClientState, no_fronts, slip_fronts, greater, AreWithin, room_left}
pub use Client.{phase_for, turns_made, ends_logged, is_drained, is_aborted}
pub use ClientFields.{client_state, HasRoomForHands, IsClientKept}
pub use Closing.{releases_by, pages_of_ids, HasGivenBack, HasDropped, HasReleasedIds, FoundPin}
pub use Closing.{IsTurnedTo, HasTurned, is_unfinished, is_landed, IsClosedInTurn, IsOpenInTurn}
pub use Closing.{HasClosedSession, HasNotClosed, closing_event, IsClosing, IsStillOpen}
pub use Closing.{IsCloseAnswer}
pub use Counting.{times, due_records, AreAnswered, AreCounted, answered_in, AreSentBefore}
pub use Counting.{CountingTells, CountingHoldsBefore}
pub use Endings.{owed_count, is_undone, IsSessionOver, is_receipt, IsDrainedLog, is_turn}
pub use Endings.{IsEndedSoFar}
pub use Handed.{slip_in, slip_by, handed_by}
pub use Keeping.{AreKeptAs}
pub use Kept.{IsLog, HasRings, IsClient}
pub use Moves.{lifts_of, lands_of, moves_by, moves_owed, moves_for}
pub use Opened.{IsNewClient, IsSessionOpened, IsToDeal, IsDealt, HaveRoomAs}
pub use Plan.{SessionPlan, id_limit, memory_plan_for, memory_plan, intake_plan, IsSeatIn, IsShared}
pub use Plan.{IsHand, IsFreshHand, AreAllHands, IsItsPool}
pub use Told.{is_release, is_by_client, finds_blocks, IsClientTold}
pub use Visits.{IsVisit, entry_by, entry_where}
pub use Whole.{HasAllOf, IsClientOf, IsSessionWhole}
pub use declared.error.SendError.{SendError}
pub use declared.fronts.Fronts.{Fronts}
pub use declared.hand.SessionHand.{SessionHand}
pub use declared.shared.SessionShared.{SessionShared}
pub use declared.spec.SessionSpec.{SessionSpec}
